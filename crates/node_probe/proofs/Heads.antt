-- The folds of a head: they are determined, and are made by faces.
use Rattle.std.proofs.Common.{◌≡◌, ℕ, zero, suc, ◌+◌, ◌<◌, refl, sym, ap, ◌∙◌, subst, arith, List, [], ◌∷◌, ◌++◌, length, get_or, append_assoc}
use Rattle.std.specs.Prelude.{All}
use Rattle.std.proofs.lemmas.List.Elements.{All-nil, All-append, All-weaker, All-contains, Contains-append_left, Contains-append_right}
use Rattle.ntfe_model.proofs.Listings.{All-from_contains}
use Rattle.std.proofs.lemmas.List.{append-nil}
use Rattle.ntfe_model.specs.Shapes.{Shape}
use Rattle.ntfe_model.specs.Charts.{patch_at}
use Rattle.ntfe_model.specs.Words.{IsItem}
use Rattle.ntfe_model.specs.Choices.{IsFoldOf, AreFolds}
use Rattle.ntfe_model.specs.Keys.{AreHeadFolds}
use Rattle.ntfe_model.specs.declared.triangulation.Triangulation.{Triangulation}
use Rattle.ntfe_model.specs.declared.nogood.Fold.{Fold}
use Rattle.ntfe_model.proofs.Items.{item_fixed}
use Rattle.face_chart.proofs.FineSets.{folds_fixed}

-- an item with all its folds, which have P
pub record HasFoldsWith (g : Shape) (f n : ℕ) (P : Fold → Type 0) : Type 0 where
  pub item : Triangulation
  pub is_item : IsItem (patch_at g f) n item
  pub folds : List Fold
  pub are_folds : AreFolds (patch_at g f) item folds
  pub all : All P folds

all_first : (P : Fold → Type 0) (qs rs : List Fold) → All P (qs ++ rs) → All P qs
all_first P qs rs h = All-from_contains P qs (λ r c. All-contains P (qs ++ rs) r h (Contains-append_left qs rs r c))

all_second : (P : Fold → Type 0) (qs rs : List Fold) → All P (qs ++ rs) → All P rs
all_second P qs rs h = All-from_contains P rs (λ r c. All-contains P (qs ++ rs) r h (Contains-append_right qs rs r c))

module _ (g : Shape) where
  -- there is one list of the folds of a head
  pub head_folds_fixed : (f : ℕ) (ns : List ℕ) (qs rs : List Fold) → AreHeadFolds g f ns qs → AreHeadFolds g f ns rs → qs ≡ rs
  head_folds_fixed f [] qs rs h k = h ∙ sym k
  head_folds_fixed f (n ∷ ns) qs rs h k =
      let e = item_fixed (patch_at g f) n h.0 k.0 h.3 k.3 in
      let P : Triangulation → Type 0 = λ x. AreFolds (patch_at g f) x h.1 in
      let first = folds_fixed (patch_at g f) k.0 h.1 k.1 (subst P e h.4) k.4 in
      h.6 ∙ (λ i. first i ++ head_folds_fixed (f + 1) ns h.2 k.2 h.5 k.5 i) ∙ sym k.6

  -- one more item
  pub head_folds_more : (f : ℕ) (ns : List ℕ) (n : ℕ) (x : Triangulation) (rs last : List Fold) → AreHeadFolds g f ns rs → IsItem (patch_at g (f + length ns)) n x → AreFolds (patch_at g (f + length ns)) x last
      → AreHeadFolds g f (ns ++ n ∷ []) (rs ++ last)
  head_folds_more f [] n x rs last h i l =
      let e : f + 0 ≡ f = omega arith in
      let P : ℕ → Type 0 = λ k. IsItem (patch_at g k) n x × AreFolds (patch_at g k) x last in
      let p = subst P e (i, l) in
      (x, last, [], p.0, p.1, refl, ap (λ qs. qs ++ last) h ∙ sym (append-nil last))
  head_folds_more f (m ∷ ns) n x rs last h i l =
      let e : f + suc (length ns) ≡ f + 1 + length ns = omega arith in
      let P : ℕ → Type 0 = λ k. IsItem (patch_at g k) n x × AreFolds (patch_at g k) x last in
      let p = subst P e (i, l) in
      (h.0, h.1, h.2 ++ last, h.3, h.4, head_folds_more (f + 1) ns n x h.2 last h.5 p.0 p.1, ap (λ qs. qs ++ last) h.6 ∙ append_assoc h.1 h.2 last)

  -- what all folds of a head have, the folds of each item have
  pub head_folds_at : (P : Fold → Type 0) (f : ℕ) (ns : List ℕ) (rs : List Fold) → AreHeadFolds g f ns rs → All P rs → (j : ℕ) → j < length ns → HasFoldsWith g (f + j) (get_or ns j 0) P
  head_folds_at P f [] rs h a j l = absurd (omega (arith, l))
  head_folds_at P f (n ∷ ns) rs h a zero l =
      let e : f ≡ f + 0 = omega arith in
      let Q : List Fold → Type 0 = All P in
      subst (λ (k : ℕ). HasFoldsWith g k n P) e
      (record { item = h.0; is_item = h.3; folds = h.1; are_folds = h.4; all = all_first P h.1 h.2 (subst Q h.6 a) })
  head_folds_at P f (n ∷ ns) rs h a (suc j) l =
      let e : f + 1 + j ≡ f + suc j = omega arith in
      let Q : List Fold → Type 0 = All P in
      subst (λ (k : ℕ). HasFoldsWith g k (get_or ns j 0) P) e
      (head_folds_at P (f + 1) ns h.2 h.5 (all_second P h.1 h.2 (subst Q h.6 a)) j (omega (arith, l)))

  -- and the other way round
  pub head_folds_all : (P : Fold → Type 0) (f : ℕ) (ns : List ℕ) (rs : List Fold) → AreHeadFolds g f ns rs
      → ((j : ℕ) → j < length ns → (x : Triangulation) → IsItem (patch_at g (f + j)) (get_or ns j 0) x → (r : Fold) → IsFoldOf (patch_at g (f + j)) x r → P r) → All P rs
  head_folds_all P f [] rs h each = let Q : List Fold → Type 0 = All P in subst Q (sym h) (All-nil P)
  head_folds_all P f (n ∷ ns) rs h each =
      let Q : List Fold → Type 0 = All P in
      let e : f ≡ f + 0 = omega arith in
      let I : ℕ → Type 0 = λ k. (x : Triangulation) → IsItem (patch_at g k) n x → (r : Fold) → IsFoldOf (patch_at g k) x r → P r in
      let first = subst I (sym e) (each 0 (omega arith)) in
      subst Q (sym h.6)
      (All-append P h.1 h.2 (All-weaker (IsFoldOf (patch_at g f) h.0) P (first h.0 h.3) h.1 h.4.sound)
      (head_folds_all P (f + 1) ns h.2 h.5 (λ j l.
      let d : f + suc j ≡ f + 1 + j = omega arith in
      let J : ℕ → Type 0 = λ k. (x : Triangulation) → IsItem (patch_at g k) (get_or ns j 0) x → (r : Fold) → IsFoldOf (patch_at g k) x r → P r in
      subst J d (each (suc j) (omega (arith, l))))))

  -- ---- from the first two-face on

  no_more : (j : ℕ) → 0 + j ≡ j
  no_more j = omega arith

  pub head_at : (P : Fold → Type 0) (ns : List ℕ) (rs : List Fold) → AreHeadFolds g 0 ns rs → All P rs → (j : ℕ) → j < length ns → HasFoldsWith g j (get_or ns j 0) P
  head_at P ns rs h a j l = subst (λ (k : ℕ). HasFoldsWith g k (get_or ns j 0) P) (no_more j) (head_folds_at P 0 ns rs h a j l)

  pub head_all : (P : Fold → Type 0) (ns : List ℕ) (rs : List Fold) → AreHeadFolds g 0 ns rs
      → ((j : ℕ) → j < length ns → (x : Triangulation) → IsItem (patch_at g j) (get_or ns j 0) x → (r : Fold) → IsFoldOf (patch_at g j) x r → P r) → All P rs
  head_all P ns rs h each =
      head_folds_all P 0 ns rs h (λ j l.
      let J : ℕ → Type 0 = λ k. (x : Triangulation) → IsItem (patch_at g k) (get_or ns j 0) x → (r : Fold) → IsFoldOf (patch_at g k) x r → P r in
      subst J (sym (no_more j)) (each j l))

  pub head_more : (ns : List ℕ) (n : ℕ) (x : Triangulation) (rs last : List Fold) → AreHeadFolds g 0 ns rs → IsItem (patch_at g (length ns)) n x → AreFolds (patch_at g (length ns)) x last
      → AreHeadFolds g 0 (ns ++ n ∷ []) (rs ++ last)
  head_more ns n x rs last h i l =
      let P : ℕ → Type 0 = λ k. IsItem (patch_at g k) n x × AreFolds (patch_at g k) x last in
      let p = subst P (sym (no_more (length ns))) (i, l) in
      head_folds_more 0 ns n x rs last h p.0 p.1
