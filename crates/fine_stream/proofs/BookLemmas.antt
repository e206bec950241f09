-- The rows of a book.
use Rattle.std.proofs.Common.{◌≡◌, ℕ, zero, suc, ◌+◌, ◌<◌, ◌⊎◌, inl, inr, ⊎_elim, refl, sym, ap, ◌∙◌, subst, arith, List, [], ◌∷◌, ◌++◌, length, Bool, true, false, Some, None, get_or, set}
use Rattle.std.specs.Prelude.{slice_get, MatchBool}
use Rattle.std.proofs.lemmas.Option.{slice_get-get_or}
use Rattle.ntfe_model.specs.Charts.{Patch, patch_at}
use Rattle.ntfe_model.specs.Shapes.{Shape}
use Rattle.ntfe_model.specs.Words.{HasItemAt, HasItem}
use Rattle.ntfe_model.specs.declared.triangulation.Triangulation.{Triangulation}
use Rattle.fine_stream.specs.Rows.{FirstItems, KeptItems, no_items, kept_item, HasRows}

-- ---- a new book

-- the rows of the first two-faces, with no item yet
pub record AreFirstRows (g : Shape) (n : ℕ) (rows : List FirstItems) : Type 0 where
  pub count : length rows ≡ n
  pub patches : (f : ℕ) → f < n → (get_or rows f no_items).patch ≡ patch_at g f
  pub empty : (f : ℕ) → (get_or rows f no_items).items ≡ []

last_row : (rows : List FirstItems) (r : FirstItems) (f : ℕ) → ((get_or (rows ++ r ∷ []) f no_items ≡ get_or rows f no_items) × ((f < length rows) ⊎ (length rows < f))) ⊎ ((get_or (rows ++ r ∷ []) f no_items ≡ r) × (f ≡ length rows))
last_row [] r zero = inr (refl, refl)
last_row [] r (suc f) = inl (refl, inr (omega arith))
last_row (x ∷ rows) r zero = inl (refl, inl (omega arith))
last_row (x ∷ rows) r (suc f) = ⊎_elim (λ p. inl (p.0, ⊎_elim (λ l. inl (omega arith)) (λ l. inr (omega arith)) p.1)) (λ p. inr (p.0, ap suc p.1)) (last_row rows r f)

one_longer : (rows : List FirstItems) (r : FirstItems) → length (rows ++ r ∷ []) ≡ length rows + 1
one_longer [] r = refl
one_longer (x ∷ rows) r = let e = one_longer rows r in omega arith

pub rows_none : (g : Shape) → AreFirstRows g 0 []
rows_none g = record { count = refl; patches = λ f l. absurd (omega (arith, l)); empty = λ f. refl }

pub rows_more : (g : Shape) (n : ℕ) (rows news : List FirstItems) (r : FirstItems) → AreFirstRows g n rows → r.patch ≡ patch_at g n → r.items ≡ [] → news ≡ rows ++ r ∷ [] → AreFirstRows g (n + 1) news
rows_more g n rows news r a p e is =
    let P : List FirstItems → Type 0 = λ rs. AreFirstRows g (n + 1) rs in
    subst P (sym is) (record {
      count = one_longer rows r ∙ ap (λ k. k + 1) a.count;
      patches = λ f l. patches f l (last_row rows r f);
      empty = λ f. empty f (last_row rows r f);
    })
  where
    patches : (f : ℕ) → f < n + 1 → ((get_or (rows ++ r ∷ []) f no_items ≡ get_or rows f no_items) × ((f < length rows) ⊎ (length rows < f))) ⊎ ((get_or (rows ++ r ∷ []) f no_items ≡ r) × (f ≡ length rows))
        → (get_or (rows ++ r ∷ []) f no_items).patch ≡ patch_at g f
    patches f l (inl q) = ap (λ x. x.patch) q.0 ∙ a.patches f (⊎_elim (λ m. (let k = a.count in omega arith)) (λ m. (let k = a.count in absurd (omega arith))) q.1)
    patches f l (inr q) = ap (λ x. x.patch) q.0 ∙ p ∙ ap (patch_at g) (sym (q.1 ∙ a.count))

    empty : (f : ℕ) → ((get_or (rows ++ r ∷ []) f no_items ≡ get_or rows f no_items) × ((f < length rows) ⊎ (length rows < f))) ⊎ ((get_or (rows ++ r ∷ []) f no_items ≡ r) × (f ≡ length rows))
        → (get_or (rows ++ r ∷ []) f no_items).items ≡ []
    empty f (inl q) = ap (λ x. x.items) q.0 ∙ a.empty f
    empty f (inr q) = ap (λ x. x.items) q.0 ∙ e

pub rows_all : (g : Shape) (n : ℕ) (rows : List FirstItems) → AreFirstRows g n rows → n ≡ length g.faces → HasRows g rows
rows_all g n rows a e = record { count = a.count ∙ e; patches = λ f l. a.patches f (let k = a.count in omega arith) }

pub nothing_kept : (b : KeptItems) → ((f : ℕ) → (get_or b.rows f no_items).items ≡ []) → (face number : ℕ) → kept_item b face number ≡ None
nothing_kept b e face number = ap (λ xs. slice_get xs number) (e face)

-- ---- a book after a fetch

set_at : (rows : List FirstItems) (f : ℕ) (r : FirstItems) → f < length rows → get_or (set rows f r) f no_items ≡ r
set_at [] f r l = absurd (omega (arith, l))
set_at (x ∷ rows) zero r l = refl
set_at (x ∷ rows) (suc f) r l = set_at rows f r (omega arith)

pub fetched : (g : Shape) (rows news : List FirstItems) (face number : ℕ) (row new : FirstItems) (found : Bool) → HasRows g rows → face < length g.faces → news ≡ set rows face new
    → row ≡ get_or rows face no_items → MatchBool found (number < length new.items) (¬ (HasItemAt row.patch number))
    → MatchBool found ((x : Triangulation) × (kept_item (record { shape = g; rows = news }) face number ≡ Some x)) (¬ (HasItem g face number))
fetched g rows news face number row new true h l is e m =
    let d : Triangulation = record { word = []; triangles = [] } in
    let k : face < length rows = (let c = h.count in omega arith) in
    (get_or new.items number d, ap (λ rs. slice_get (get_or rs face no_items).items number) is ∙ ap (λ r. slice_get r.items number) (set_at rows face new k) ∙ slice_get-get_or new.items number d m)
fetched g rows news face number row new false h l is e m =
    λ p. m (let P : Patch → Type 0 = λ q. HasItemAt q number in
    let k : face < length rows = (let c = h.count in omega arith) in
    subst P (sym (ap (λ r. r.patch) e ∙ h.patches face k)) p.1)
