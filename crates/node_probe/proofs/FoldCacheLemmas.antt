-- What is kept of the folds of a geometry's items.
use Rattle.std.proofs.Common.{◌≡◌, ℕ, ◌+◌, ◌<◌, ◌∙◌, refl, sym, ap, subst, arith, List, [], ◌∷◌, ◌++◌, length, replicate, take, set, get_or}
use Rattle.std.specs.Prelude.{Option, Some, None}
use Rattle.std.proofs.lemmas.Option.{slice_get_read, slice_get-get_or}
use Rattle.std.proofs.lemmas.List.{set-get_or, length-map, get_or-map, take_more}
use Rattle.ntfe_model.specs.Shapes.{Shape, no_face}
use Rattle.ntfe_model.specs.Charts.{Patch, patch_of, patch_at}
use Rattle.ntfe_model.specs.declared.nogood.Fold.{Fold}
use Rattle.ntfe_model.specs.Words.{IsItem}
use Rattle.ntfe_model.specs.Choices.{AreFolds}
use Rattle.ntfe_model.specs.declared.triangulation.Triangulation.{Triangulation}
use Rattle.node_probe.specs.Heads.{AreHeadRows}
use Rattle.node_probe.proofs.RowLemmas.{rows_step}
use Rattle.node_probe.specs.declared.head.HeadRows.{HeadRows}
use Rattle.node_probe.specs.declared.fold_cache.KeptFolds.{KeptFolds}
use Rattle.node_probe.specs.FoldCaches.{patches, IsShelved, AreShelved, HasFolds, AddsItem}
use Rattle.strict_solver.proofs.Placing.{set_there}

-- what stands at a place with folds, as it is read
pub shelved_read : (h : Patch) (kept : List (Option KeptFolds)) (place : ℕ) (o : Option KeptFolds) (e : KeptFolds) → AreShelved h kept → place < length kept → o ≡ get_or kept place o → o ≡ Some e → IsShelved h e.number e.folds
shelved_read h kept place o e a l p q = a place e (slice_get_read kept (length kept) place o refl l p ∙ ap Some q)

-- folds that were put at a place stand there
pub put_there : (kept : List (Option KeptFolds)) (place : ℕ) (e : KeptFolds) → place < length kept → HasFolds (set kept place (Some e)) place e.number
put_there kept place e l = (e, set_there kept place (Some e) (get_or kept place None) (slice_get-get_or kept place None l), refl)

-- the number beside the folds, if there are any
number_there : Option (Option KeptFolds) → ℕ
number_there None = 0
number_there (Some None) = 0
number_there (Some (Some e)) = e.number

pub number_read : (kept : List (Option KeptFolds)) (place n : ℕ) (o : Option KeptFolds) (e : KeptFolds) → HasFolds kept place n → place < length kept → o ≡ get_or kept place o → o ≡ Some e → e.number ≡ n
unfolding number_there
number_read kept place n o e h l p q =
    ap (λ (x : Option KeptFolds). number_there (Some x)) (sym q) ∙ ap number_there (sym (slice_get_read kept (length kept) place o refl l p) ∙ h.1) ∙ h.2

pub adds_item : (h g : Patch) (n face : ℕ) (old new : HeadRows) (rs lent : List Fold) → h ≡ g → lent ≡ rs → IsShelved h n rs → new.folds.items ≡ old.folds.items ++ lent → new.faces.items ≡ old.faces.items ++ replicate (length lent) face
    → AddsItem g n face old new
adds_item h g n face old new rs lent p e s a b = record {
  added = rs;
  cached = (let P : Patch → Type 0 = λ k. IsShelved k n rs in subst P p s);
  folds = a ∙ ap (λ qs. old.folds.items ++ qs) e;
  faces = b ∙ ap (λ (qs : List Fold). old.faces.items ++ replicate (length qs) face) e;
}

-- ---- the patches of a geometry

pub patches_count : (g : Shape) → length (patches g) ≡ length g.faces
patches_count g = length-map g.faces (patch_of g.points)

pub patch_is : (g : Shape) (f : ℕ) (d : Patch) → f < length g.faces → get_or (patches g) f d ≡ patch_at g f
patch_is g f d l = get_or-map (patch_of g.points) g.faces f no_face d l

pub patches_more : (g : Shape) (f : ℕ) (hs new : List Patch) (h : Patch) → f < length g.faces → hs ≡ take f (patches g) → h ≡ patch_at g f → new ≡ hs ++ h ∷ [] → new ≡ take (f + 1) (patches g)
patches_more g f hs new h l e p q =
    let c = patches_count g in
    q ∙ (λ i. e i ++ (p ∙ sym (patch_is g f h l)) i ∷ []) ∙ sym (take_more (patches g) f h (omega (arith, l, c)))

-- one more number of a key, by what is kept for it
pub shelved_step : (g : Shape) (key numbers : List ℕ) (f n : ℕ) (h : Patch) (old new : HeadRows) → numbers ≡ key → f < length numbers → n ≡ get_or numbers f 0 → h ≡ patch_at g f → AddsItem h n f old new
    → AreHeadRows g (take f key) old.folds.items old.faces.items → AreHeadRows g (take (f + 1) key) new.folds.items new.faces.items
shelved_step g key numbers f n h old new e l en p a rows =
    let m = ap length e in
    let P : Patch → Type 0 = λ k. AreItems k in
    rows_step g key f old.folds.items new.folds.items a.added a.added old.faces.items new.faces.items n (omega (arith, l, m)) (en ∙ ap (λ (ks : List ℕ). get_or ks f 0) e) refl a.folds a.faces
    (subst P p (a.cached.item, a.cached.is_item, a.cached.folds)) a.cached.small rows
  where
    AreItems : Patch → Type 0
    AreItems k = (x : Triangulation) × IsItem k n x × AreFolds k x a.added

-- a value at its place that is what it was
pub place_same : (xs : List Patch) (i : ℕ) (x y : Patch) → x ≡ y → y ≡ get_or xs i y → set xs i x ≡ xs
place_same xs i x y e f = ap (λ z. set xs i z) (e ∙ f) ∙ set-get_or xs i y
