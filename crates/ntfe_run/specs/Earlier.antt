-- What the input of `resume` holds, and why it is refused.
use Rattle.std.specs.Prelude.{◌≢◌, ℕ, List, length, All}
use Rattle.ntfe_model.specs.Shapes.{Shape}
use Rattle.ntfe_model.specs.Keys.{item_limit}
use Rattle.ntfe_model.specs.PairText.{lines}
use Rattle.ntfe_model.specs.RunText.{Form, Kept}
use Rattle.ntfe_model.specs.Earlier.{Layout, IsKeptOf}
use Rattle.pair_text.specs.Output.{IsOutputLine, IsSplitAtOutput}
use Rattle.class_text.specs.Earlier.{HasCause}
use Rattle.class_text.specs.declared.earlier_fault.EarlierFault.TheVariants as earlier
use Rattle.ntfe_run.specs.Inputs.{IsInputOf, IsRefusalOf}
use Rattle.ntfe_run.specs.declared.status.Refusal.{Refusal}
use Rattle.ntfe_run.specs.declared.status.Refusal.TheVariants.{NoOutput, Earlier}

-- a pair with its points and two-faces, and what is kept of an earlier output
pub record Begun : Type 0 where
  pub geometry : Shape
  pub kept : Kept

-- what the lines of this text depend on
abbrev pub layout : Form → Shape → Layout
layout form g = record { pair = g.pair; form = form; points = length g.points; faces = length g.faces; items = item_limit g }

-- the text before the line whose only field is `output`, and the bytes behind that line, have P
pub record HoldBoth (bytes : List ℕ) (P : List ℕ → List ℕ → Type 0) : Type 0 where
  pub before : List ℕ
  pub behind : List ℕ
  pub split : IsSplitAtOutput bytes before behind
  pub holds : P before behind

-- the pair stands before that line, and this is kept of the earlier output behind it
abbrev pub IsBegunInput : Form → List ℕ → Begun → Type 0
IsBegunInput form bytes i = HoldBoth bytes (λ before behind. IsInputOf before i.geometry × IsKeptOf (layout form i.geometry) behind i.kept)

-- why bytes are refused: in the order output line, text, pair, points, earlier output
abbrev pub IsBegunRefusal : Form → List ℕ → Refusal → Type 0
IsBegunRefusal form bytes NoOutput = All (λ line. ¬ (IsOutputLine line)) (lines bytes)
IsBegunRefusal form bytes (Earlier fault) =
    HoldBoth bytes (λ before behind. (g : Shape) × IsInputOf before g × HasCause (layout form g) behind fault) × (fault ≢ earlier.Memory)
IsBegunRefusal form bytes refusal = HoldBoth bytes (λ before behind. IsRefusalOf before refusal)
