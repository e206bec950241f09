-- The rows of a book.
use Rattle.std.proofs.Common.{◌≡◌, ◌≢◌, ℕ, zero, suc, ◌+◌, ◌/◌, ◌<◌, ◌≤◌, ⊎_elim, refl, sym, ap, ◌∙◌, subst, arith, List, [], ◌∷◌, ◌++◌, length, map, take, get_or, set, All, Bool, true, false, Some, None, get_or-set_other}
use Rattle.std.specs.Prelude.{MatchBool}
use Rattle.std.proofs.lemmas.Bool.{cases_lt}
use Rattle.std.proofs.lemmas.Grind.{get_or-set_at}
use Rattle.std.proofs.lemmas.List.{get_or-map, get_or_past, get_or_read, length-map, map-append, map_more}
use Rattle.std.proofs.lemmas.List.Elements.{All-append, All-get_or}
use Rattle.std.proofs.Math.Seq.{map-set_same}
use Rattle.ntfe_model.specs.Charts.{Patch, patch_of, patch_at}
use Rattle.ntfe_model.specs.Shapes.{Shape, no_face}
use Rattle.ntfe_model.specs.Books.{KeepsItem, KeepsAll}
use Rattle.ntfe_model.specs.Words.{HasItemAt, HasItem}
use Rattle.ntfe_model.specs.declared.triangulation.Triangulation.{Triangulation}
use Rattle.shared_stream.specs.Segments.{item_in}
use Rattle.shared_stream.specs.Held.{FirstStretches, LentItems, GoesOn, HasRows, IsHeldItem, no_stretch, no_stretches, held_item, lent_item}
use Rattle.shared_stream.proofs.HeldLemmas.{held_goes_on, no_item}

-- the rows of the first two-faces, with no segment yet
pub record AreFirstRows (g : Shape) (n : ℕ) (rows : List FirstStretches) : Type 0 where
  pub patches : map (λ r. r.patch) rows ≡ map (patch_of g.points) (take n g.faces)
  pub empty : All (λ r. r.stretches ≡ []) rows

-- ---- a new book

pub rows_more : (g : Shape) (n : ℕ) (rows news : List FirstStretches) (r : FirstStretches) → n < length g.faces → AreFirstRows g n rows → r.patch ≡ patch_at g n → r.stretches ≡ [] → news ≡ rows ++ r ∷ [] → AreFirstRows g (n + 1) news
rows_more g n rows news r l a p e is = record {
  patches = ap (map (λ (q : FirstStretches). q.patch)) is ∙ map-append (λ (q : FirstStretches). q.patch) rows (r ∷ []) ∙ ap (λ ps. ps ++ r.patch ∷ []) a.patches ∙ ap (λ q. map (patch_of g.points) (take n g.faces) ++ q ∷ []) p
      ∙ sym (map_more (patch_of g.points) g.faces n no_face l);
  empty = let P : List FirstStretches → Type 0 = λ rs. All (λ r. r.stretches ≡ []) rs in subst P (sym is) (All-append (λ q. q.stretches ≡ []) rows (r ∷ []) a.empty alone);
}
  where
    alone : All (λ q. q.stretches ≡ []) (r ∷ [])
    alone zero d m = e
    alone (suc k) d m = absurd (omega (arith, m))

empty_row : (rows : List FirstStretches) (face number : ℕ) → All (λ r. r.stretches ≡ []) rows → held_item (get_or rows face no_stretches) number ≡ None
empty_row rows face number a = ⊎_elim within past (cases_lt face (length rows))
  where
    within : face < length rows → held_item (get_or rows face no_stretches) number ≡ None
    within l = ap (λ ss. item_in (get_or ss (number / 256) no_stretch) number) (All-get_or (λ r. r.stretches ≡ []) rows face no_stretches l a) ∙ no_item number

    past : length rows ≤ face → held_item (get_or rows face no_stretches) number ≡ None
    past l = ap (λ r. held_item r number) (get_or_past rows face no_stretches l) ∙ no_item number

pub nothing_lent : (b : LentItems) → All (λ r. r.stretches ≡ []) b.rows → (face number : ℕ) → lent_item b face number ≡ None
nothing_lent b a face number = empty_row b.rows face number a

-- ---- the row of a two-face

pub as_many : (g : Shape) (rows : List FirstStretches) → HasRows g rows → length rows ≡ length g.faces
as_many g rows h = sym (length-map rows (λ r. r.patch)) ∙ ap length h ∙ length-map g.faces (patch_of g.points)

pub row_patch : (g : Shape) (rows : List FirstStretches) (face : ℕ) → HasRows g rows → face < length g.faces → (get_or rows face no_stretches).patch ≡ patch_at g face
row_patch g rows face h l =
    let k : face < length rows = (let e = as_many g rows h in omega (arith, l, e)) in
    sym (get_or-map (λ r. r.patch) rows face no_stretches [] k) ∙ ap (λ ps. get_or ps face []) h ∙ get_or-map (patch_of g.points) g.faces face no_face [] l

-- the row of a two-face is read from a book with these rows
pub record IsRead (g : Shape) (rows : List FirstStretches) (b : LentItems) (face : ℕ) (row : FirstStretches) : Type 0 where
  pub each : HasRows g rows
  pub book : b ≡ record { shape = g; rows = rows }
  pub within : face < length b.shape.faces
  pub at : row ≡ get_or rows face row

in_shape : (g : Shape) (rows : List FirstStretches) (b : LentItems) (face : ℕ) (row : FirstStretches) → IsRead g rows b face row → face < length g.faces
in_shape g rows b face row i = let P : LentItems → Type 0 = λ a. face < length a.shape.faces in subst P i.book i.within

in_rows : (g : Shape) (rows : List FirstStretches) (b : LentItems) (face : ℕ) (row : FirstStretches) → IsRead g rows b face row → face < length rows
in_rows g rows b face row i = let l = in_shape g rows b face row i in let e = as_many g rows i.each in omega (arith, l, e)

row_is : (g : Shape) (rows : List FirstStretches) (b : LentItems) (face : ℕ) (row : FirstStretches) → IsRead g rows b face row → row ≡ get_or rows face no_stretches
row_is g rows b face row i = get_or_read rows face row (in_rows g rows b face row i) i.at no_stretches

pub read_patch : (g : Shape) (rows : List FirstStretches) (b : LentItems) (face : ℕ) (row : FirstStretches) → IsRead g rows b face row → row.patch ≡ patch_at b.shape face
read_patch g rows b face row i =
    ap (λ r. r.patch) (row_is g rows b face row i) ∙ row_patch g rows face i.each (in_shape g rows b face row i) ∙ ap (λ a. patch_at a.shape face) (sym i.book)

-- ---- a book after a fetch

pub rows_same : (g : Shape) (rows : List FirstStretches) (b : LentItems) (face : ℕ) (row new : FirstStretches) → IsRead g rows b face row → new.patch ≡ row.patch → HasRows g (set rows face new)
rows_same g rows b face row new i e = map-set_same (λ (r : FirstStretches). r.patch) rows face new no_stretches (e ∙ ap (λ r. r.patch) (row_is g rows b face row i)) ∙ i.each

kept_more : (rows : List FirstStretches) (face : ℕ) (new : FirstStretches) → face < length rows → GoesOn (get_or rows face no_stretches).stretches new.stretches → (f number : ℕ) (x : Triangulation)
    → held_item (get_or rows f no_stretches) number ≡ Some x → held_item (get_or (set rows face new) f no_stretches) number ≡ Some x
kept_more rows face new l more f number x e = ⊎_elim (λ m. other (omega (arith, m))) (λ m. ⊎_elim (λ n. other (omega (arith, n))) (λ n. same (omega (arith, m, n))) (cases_lt face f)) (cases_lt f face)
  where
    same : f ≡ face → held_item (get_or (set rows face new) f no_stretches) number ≡ Some x
    same q = ap (λ r. held_item r number) (get_or-set_at rows face f new no_stretches q l)
        ∙ held_goes_on (get_or rows face no_stretches) new number x more (ap (λ k. held_item (get_or rows k no_stretches) number) (sym q) ∙ e)

    other : f ≢ face → held_item (get_or (set rows face new) f no_stretches) number ≡ Some x
    other q = ap (λ r. held_item r number) (get_or-set_other rows face f new no_stretches q) ∙ e

-- all that was kept is kept
pub all_kept : (g : Shape) (rows : List FirstStretches) (b : LentItems) (face : ℕ) (row new : FirstStretches) → IsRead g rows b face row → GoesOn row.stretches new.stretches
    → KeepsAll (lent_item b) (lent_item (record { shape = g; rows = set rows face new }))
all_kept g rows b face row new i more =
    let P : LentItems → Type 0 = λ a. KeepsAll (lent_item a) (lent_item (record { shape = g; rows = set rows face new })) in
    let G : FirstStretches → Type 0 = λ r. GoesOn r.stretches new.stretches in
    subst P (sym i.book) (kept_more rows face new (in_rows g rows b face row i) (subst G (row_is g rows b face row i) more))

-- the item is kept, or there is none
pub fetched : (g : Shape) (rows : List FirstStretches) (b : LentItems) (face number : ℕ) (row new : FirstStretches) (found : Bool) → IsRead g rows b face row → MatchBool found (IsHeldItem new number) (¬ (HasItemAt row.patch number))
    → MatchBool found (KeepsItem (lent_item (record { shape = g; rows = set rows face new })) face number) (¬ (HasItem b.shape face number))
fetched g rows b face number row new true i m = (m.0, ap (λ r. held_item r number) (get_or-set_at rows face face new no_stretches refl (in_rows g rows b face row i)) ∙ m.1)
fetched g rows b face number row new false i m = λ p. m (let P : Patch → Type 0 = λ q. HasItemAt q number in subst P (sym (read_patch g rows b face row i)) p.1)
