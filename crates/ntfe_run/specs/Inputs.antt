-- What the bytes of an input hold, and why they are refused.
use Rattle.std.specs.Prelude.{◌≢◌, ℕ, List}
use Rattle.ntfe_model.specs.Pairs.{VertexLists}
use Rattle.ntfe_model.specs.PairText.{IsPairText}
use Rattle.ntfe_model.specs.Reflexive.{IsReflexive}
use Rattle.ntfe_model.specs.Shapes.{Shape, IsShape}
use Rattle.pair_text.specs.Faults.{HasCause as HasTextCause}
use Rattle.pair_text.specs.declared.fault.TextFault.TheVariants as text
use Rattle.reflexive_pair.specs.Causes.{HasFault}
use Rattle.lattice_points.specs.Faults.{HasFewColumns, HasCause as HasPointCause}
use Rattle.lattice_points.specs.declared.fault.PointFault.TheVariants as point
use Rattle.ntfe_run.specs.declared.status.Refusal.{Refusal}
use Rattle.ntfe_run.specs.declared.status.Refusal.TheVariants.{Text, Pair, Points}

-- the bytes are the text of a reflexive pair within the limits, and g is this pair with its points and two-faces
pub record IsInputOf (bytes : List ℕ) (g : Shape) : Type 0 where
  pub text : IsPairText bytes g.pair
  pub shape : IsShape g
  pub narrow : HasFewColumns g.pair.vertices

-- the bytes are the text of a pair with P
pub record HoldPair (bytes : List ℕ) (P : VertexLists → Type 0) : Type 0 where
  pub pair : VertexLists
  pub text : IsPairText bytes pair
  pub holds : P pair

-- why bytes are refused: in the order text, pair, points
abbrev pub IsRefusalOf : List ℕ → Refusal → Type 0
IsRefusalOf bytes (Text fault) = HasTextCause bytes fault × (fault ≢ text.Memory)
IsRefusalOf bytes (Pair fault) = HoldPair bytes (λ p. HasFault p fault)
IsRefusalOf bytes (Points fault) = HoldPair bytes (λ p. IsReflexive p × HasPointCause p fault) × (fault ≢ point.Memory)
IsRefusalOf bytes refusal = ⊥
