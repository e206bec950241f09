-- How multipliers of a head's folds are put together to a certificate.
use Rattle.std.specs.Prelude.{◌≡◌, ℕ, ◌-◌, ◌<◌, ◌⊎◌, ℤ, List, [], ◌∷◌, ◌++◌, length, map, slice_get, slice_index, slice_index_or, Some, All, AllPairs, Contains}
use Rattle.ntfe_model.specs.Certificates.{no_part}
use Rattle.ntfe_model.specs.declared.nogood.Fold.{Fold}
use Rattle.ntfe_model.specs.declared.nogood.Part.{Part}
use Rattle.ntfe_model.specs.declared.nogood.Term.{Term}

-- the last of the parts is of this two-face
abbrev pub IsLastFace : List Part → ℕ → Type 0
IsLastFace ps f = (0 < length ps) × ((slice_index_or ps (length ps - 1) no_part).face ≡ f)

-- the part was added, unless the last one is of its two-face
abbrev pub AddsPart : List Part → Part → List Part → Type 0
AddsPart old p new = (IsLastFace old p.face × (new ≡ old)) ⊎ ((¬ (IsLastFace old p.face)) × (new ≡ old ++ p ∷ []))

-- The terms have the multipliers, and the folds of their rows; each names the part of its row's two-face. The parts are items of the head,
-- by rising two-faces, and each has a term.
pub record IsAssembled (head : List ℕ) (rs : List Fold) (faces : List ℕ) (ms : List (ℕ × ℤ)) (ps : List Part) (ts : List Term) : Type 0 where
  pub times : map (λ t. t.times) ts ≡ map (λ e. e.1) ms
  pub folds : map (λ t. Some t.fold) ts ≡ map (λ e. slice_get rs e.0) ms
  pub named : (j : ℕ) (d : Term) (e : ℕ × ℤ) → j < length ts
      → ((slice_index_or ts j d).part < length ps) × ((slice_index_or ps (slice_index_or ts j d).part no_part).face ≡ slice_index faces (slice_index_or ms j e).0)
  pub items : All (λ p. (p.face < length head) × (slice_index head p.face ≡ p.item)) ps
  pub rising : AllPairs (λ p q. p.face < q.face) ps
  pub used : (k : ℕ) → k < length ps → (t : Term) × Contains ts t × (t.part ≡ k)
