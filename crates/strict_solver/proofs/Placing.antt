-- Where the variables stand after a pivot, and the lines of a grid.
use Rattle.std.proofs.Common.{◌≡◌, ◌≢◌, ℕ, zero, suc, ◌⊎◌, inl, inr, refl, sym, ap, ◌∙◌, subst, arith, ℤ, pos, ◌<ℤ◌, List, [], ◌∷◌, map, length, set, length-set, Option, Some, None}
use Rattle.std.specs.Prelude.{slice_get}
use Rattle.std.proofs.lemmas.List.{length-map, get_or-map}
use Rattle.ntfe_model.specs.Solver.{Line, coefficient_at}
use Rattle.strict_solver.specs.declared.place.Place.{Place}
use Rattle.strict_solver.specs.declared.place.Place.TheVariants.{Row, Column}
use Rattle.strict_solver.specs.Rows.{number, number_at, line_in}
use Rattle.strict_solver.specs.Grids.{row_at, line_at, lines_by, IsPlacing}
use Rattle.strict_solver.proofs.Elimination.{from_place, same_place}
use Rattle.strict_solver.proofs.Pivots.{IsTable, IsLineOf, get_there}

-- ---- places of a list that was written
pub set_there : {X : Type 0} (xs : List X) (i : ℕ) (x y : X) → slice_get xs i ≡ Some y → slice_get (set xs i x) i ≡ Some x
set_there [] i x y e = cc
set_there (z ∷ xs) zero x y e = refl
set_there (z ∷ xs) (suc i) x y e = set_there xs i x y e

pub set_elsewhere : {X : Type 0} (xs : List X) (i j : ℕ) (x : X) → j ≢ i → slice_get (set xs i x) j ≡ slice_get xs j
set_elsewhere [] i j x n = refl
set_elsewhere (z ∷ xs) zero zero x n = absurd (n refl)
set_elsewhere (z ∷ xs) zero (suc j) x n = refl
set_elsewhere (z ∷ xs) (suc i) zero x n = refl
set_elsewhere (z ∷ xs) (suc i) (suc j) x n = set_elsewhere xs i j x (λ e. n (ap suc e))

pub same_column : (m n : ℕ) → Column m ≡ Column n → m ≡ n
same_column m n e = cc

-- ---- after a pivot
module _ (places : List Place) (x y r p : ℕ) (ex : slice_get places x ≡ Some (Row r)) (ey : slice_get places y ≡ Some (Column p)) where
  pub not_same : x ≢ y
  not_same e = let P : ℕ → Type 0 = λ k. slice_get places k ≡ Some (Row r) in let f : Row r ≡ Column p = same_place places y _ _ (subst P e ex) ey in cc

  pub at_leaving : slice_get (set (set places x (Column p)) y (Row r)) x ≡ Some (Column p)
  at_leaving = set_elsewhere (set places x (Column p)) y x (Row r) not_same ∙ set_there places x (Column p) (Row r) ex

  pub at_entering : slice_get (set (set places x (Column p)) y (Row r)) y ≡ Some (Row r)
  at_entering = set_there (set places x (Column p)) y (Row r) (Column p) (set_elsewhere places x y (Column p) (λ e. not_same (sym e)) ∙ ey)

  pub at_others : (z : ℕ) → z ≢ x → z ≢ y → slice_get (set (set places x (Column p)) y (Row r)) z ≡ slice_get places z
  at_others z n m = set_elsewhere (set places x (Column p)) y z (Row r) m ∙ set_elsewhere places x z (Column p) n

  pub somewhere : (z : ℕ) → (z ≡ x) ⊎ (z ≡ y) ⊎ ((z ≢ x) × (z ≢ y))
  somewhere z = grind arith

  -- what stands at a place after the pivot stood where it comes from
  pub came : (z : ℕ) (o : Place) → slice_get (set (set places x (Column p)) y (Row r)) z ≡ Some o
      → ((z ≡ x) × (o ≡ Column p)) ⊎ ((z ≡ y) × (o ≡ Row r)) ⊎ ((z ≢ x) × (z ≢ y) × (slice_get places z ≡ Some o))
  came z o e = by (somewhere z)
    where
      by : (z ≡ x) ⊎ (z ≡ y) ⊎ ((z ≢ x) × (z ≢ y)) → ((z ≡ x) × (o ≡ Column p)) ⊎ ((z ≡ y) × (o ≡ Row r)) ⊎ ((z ≢ x) × (z ≢ y) × (slice_get places z ≡ Some o))
      by (inl f) = inl (f, sym (same_place (set (set places x (Column p)) y (Row r)) x (Column p) o at_leaving (subst (λ k. slice_get (set (set places x (Column p)) y (Row r)) k ≡ Some o) f e)))
      by (inr (inl f)) = inr (inl (f, sym (same_place (set (set places x (Column p)) y (Row r)) y (Row r) o at_entering (subst (λ k. slice_get (set (set places x (Column p)) y (Row r)) k ≡ Some o) f e))))
      by (inr (inr n)) = inr (inr (n.0, n.1, sym (at_others z n.0 n.1) ∙ e))

  -- the variable from which a place comes
  abbrev Source : ℕ → Place → Type 0
  Source z o = (u : ℕ) × (slice_get places u ≡ Some o) × (((z ≡ x) × (u ≡ y)) ⊎ ((z ≡ y) × (u ≡ x)) ⊎ ((z ≢ x) × (z ≢ y) × (u ≡ z)))

  pub source : (z : ℕ) (o : Place) → slice_get (set (set places x (Column p)) y (Row r)) z ≡ Some o → (u : ℕ) × (slice_get places u ≡ Some o) × (((z ≡ x) × (u ≡ y)) ⊎ ((z ≡ y) × (u ≡ x)) ⊎ ((z ≢ x) × (z ≢ y) × (u ≡ z)))
  source z o e = by (came z o e)
    where
      by : ((z ≡ x) × (o ≡ Column p)) ⊎ ((z ≡ y) × (o ≡ Row r)) ⊎ ((z ≢ x) × (z ≢ y) × (slice_get places z ≡ Some o))
          → (u : ℕ) × (slice_get places u ≡ Some o) × (((z ≡ x) × (u ≡ y)) ⊎ ((z ≡ y) × (u ≡ x)) ⊎ ((z ≢ x) × (z ≢ y) × (u ≡ z)))
      by (inl f) = (y, ey ∙ ap Some (sym f.1), inl (f.0, refl))
      by (inr (inl f)) = (x, ex ∙ ap Some (sym f.1), inr (inl (f.0, refl)))
      by (inr (inr f)) = (z, f.2, inr (inr (f.0, f.1, refl)))

  back_to : (a b u : ℕ) → ((a ≡ x) × (u ≡ y)) ⊎ ((a ≡ y) × (u ≡ x)) ⊎ ((a ≢ x) × (a ≢ y) × (u ≡ a)) → ((b ≡ x) × (u ≡ y)) ⊎ ((b ≡ y) × (u ≡ x)) ⊎ ((b ≢ x) × (b ≢ y) × (u ≡ b)) → a ≡ b
  back_to a b u (inl f) (inl g) = f.0 ∙ sym g.0
  back_to a b u (inl f) (inr (inl g)) = absurd (not_same (sym g.1 ∙ f.1))
  back_to a b u (inl f) (inr (inr g)) = absurd (g.1 (sym g.2 ∙ f.1))
  back_to a b u (inr (inl f)) (inl g) = absurd (not_same (sym f.1 ∙ g.1))
  back_to a b u (inr (inl f)) (inr (inl g)) = f.0 ∙ sym g.0
  back_to a b u (inr (inl f)) (inr (inr g)) = absurd (g.0 (sym g.2 ∙ f.1))
  back_to a b u (inr (inr f)) (inl g) = absurd (f.1 (sym f.2 ∙ g.1))
  back_to a b u (inr (inr f)) (inr (inl g)) = absurd (f.0 (sym f.2 ∙ g.1))
  back_to a b u (inr (inr f)) (inr (inr g)) = sym f.2 ∙ g.2

  -- what stood at one place alone stands at one place after
  pub apart_after : (o : Place) → ((u v : ℕ) → slice_get places u ≡ Some o → slice_get places v ≡ Some o → u ≡ v) → (u v : ℕ) → slice_get (set (set places x (Column p)) y (Row r)) u ≡ Some o
      → slice_get (set (set places x (Column p)) y (Row r)) v ≡ Some o → u ≡ v
  apart_after o h u v e f =
      let s = source u o e in
      let t = source v o f in
      let P : ℕ → Type 0 = λ k. ((u ≡ x) × (k ≡ y)) ⊎ ((u ≡ y) × (k ≡ x)) ⊎ ((u ≢ x) × (u ≢ y) × (k ≡ u)) in
      back_to u v t.0 (subst P (h s.0 t.0 s.1 t.1) s.2) t.2

  -- a column is not lost
  pub column_after : (q v : ℕ) → slice_get places v ≡ Some (Column q) → (u : ℕ) × (slice_get (set (set places x (Column p)) y (Row r)) u ≡ Some (Column q))
  column_after q v e = by (somewhere v)
    where
      by : (v ≡ x) ⊎ (v ≡ y) ⊎ ((v ≢ x) × (v ≢ y)) → (u : ℕ) × (slice_get (set (set places x (Column p)) y (Row r)) u ≡ Some (Column q))
      by (inl f) = let g : Row r ≡ Column q = same_place places x _ _ ex (subst (λ k. slice_get places k ≡ Some (Column q)) f e) in cc
      by (inr (inl f)) = let g : Column p ≡ Column q = same_place places y _ _ ey (subst (λ k. slice_get places k ≡ Some (Column q)) f e) in (x, at_leaving ∙ ap Some g)
      by (inr (inr n)) = (v, at_others v n.0 n.1 ∙ e)

pub placing_after : (columns : ℕ) (places : List Place) (h : IsPlacing columns places) (x y r p : ℕ) → slice_get places x ≡ Some (Row r) → slice_get places y ≡ Some (Column p) → IsPlacing columns (set (set places x (Column p)) y (Row r))
placing_after columns places h x y r p ex ey = record {
  count = (let a = h.count in let b = length_same in omega arith);
  rows_within = λ v q e. (let s = source places x y r p ex ey v (Row q) e in let a = h.rows_within s.0 q s.1 in let b = length_same in omega arith);
  columns_within = λ v q e. (let s = source places x y r p ex ey v (Column q) e in h.columns_within s.0 q s.1);
  apart = λ u v o. apart_after places x y r p ex ey o (λ a b. h.apart a b o) u v;
  taken = λ q l m. (let t = h.taken q l m in column_after places x y r p ex ey q t.0 t.1);
}
  where
    length_same : length (set (set places x (Column p)) y (Row r)) ≡ length places
    length_same = length-set (set places x (Column p)) y (Row r) ∙ length-set places x (Column p)

-- ---- the lines of a grid
pub lines-length : (s : ℕ) (places : List Place) (cells : List ℤ) → length (lines_by s places cells) ≡ length places
unfolding lines_by
lines-length s places cells = length-map places (line_at s places cells)

map_there : {X Y : Type 0} (f : X → Y) (xs : List X) (i : ℕ) (x : X) → slice_get xs i ≡ Some x → slice_get (map f xs) i ≡ Some (f x)
map_there f [] i x e = cc
map_there f (z ∷ xs) zero x e = let g : z ≡ x = cc in ap (λ k. Some (f k)) g
map_there f (z ∷ xs) (suc i) x e = map_there f xs i x e

map_from : {X Y : Type 0} (f : X → Y) (xs : List X) (i : ℕ) (y : Y) → slice_get (map f xs) i ≡ Some y → (x : X) × (slice_get xs i ≡ Some x) × (y ≡ f x)
map_from f [] i y e = cc
map_from f (z ∷ xs) zero y e = (z, refl, cc)
map_from f (z ∷ xs) (suc i) y e = map_from f xs i y e

pub line_there : (s : ℕ) (places : List Place) (cells : List ℤ) (v : ℕ) (o : Place) → slice_get places v ≡ Some o → slice_get (lines_by s places cells) v ≡ Some (line_at s places cells o)
unfolding lines_by
line_there s places cells v o e = map_there (line_at s places cells) places v o e

pub line_from : (s : ℕ) (places : List Place) (cells : List ℤ) (v : ℕ) (l : Option Line) → slice_get (lines_by s places cells) v ≡ Some l → (o : Place) × (slice_get places v ≡ Some o) × (l ≡ line_at s places cells o)
unfolding lines_by
line_from s places cells v l e = map_from (line_at s places cells) places v l e

-- a basic variable has a row
pub basic_row : (s : ℕ) (places : List Place) (cells : List ℤ) (v : ℕ) (l : Line) → slice_get (lines_by s places cells) v ≡ Some (Some l)
    → (r : ℕ) × (slice_get places v ≡ Some (Row r)) × (l ≡ line_in places (row_at s cells r))
basic_row s places cells v l e = let h = line_from s places cells v (Some l) e in by h.0 h.1 h.2
  where
    by : (o : Place) → slice_get places v ≡ Some o → Some l ≡ line_at s places cells o → (r : ℕ) × (slice_get places v ≡ Some (Row r)) × (l ≡ line_in places (row_at s cells r))
    by (Row r) f g = (r, f, cc)
    by (Column p) f g = cc

-- another one has a column
pub other_column : (s : ℕ) (places : List Place) (cells : List ℤ) (v : ℕ) → slice_get (lines_by s places cells) v ≡ Some None → (p : ℕ) × (slice_get places v ≡ Some (Column p))
other_column s places cells v e = let h = line_from s places cells v None e in by h.0 h.1 h.2
  where
    by : (o : Place) → slice_get places v ≡ Some o → None ≡ line_at s places cells o → (p : ℕ) × (slice_get places v ≡ Some (Column p))
    by (Row r) f g = cc
    by (Column p) f g = (p, f)

pub coefficient_there : (places : List Place) (row : List ℤ) (v : ℕ) (o : Place) → slice_get places v ≡ Some o → coefficient_at (line_in places row) v ≡ number_at row o
coefficient_there places row v o e =
    let h = from_place places v o o e in
    get_or-map (number_at row) places v o (pos 0) h.0 ∙ ap (number_at row) h.1

-- each row of the table is a row of it
pub lines-table : (s : ℕ) (places : List Place) (cells : List ℤ) → ((v r : ℕ) → slice_get places v ≡ Some (Row r) → pos 0 <ℤ number (row_at s cells r) 0) → IsTable (lines_by s places cells)
lines-table s places cells positive z l e =
    let h = basic_row s places cells z l (get_there (lines_by s places cells) z l e) in
    let P : Line → Type 0 = λ k. IsLineOf (lines_by s places cells) k in
    subst P (sym h.2) (record {
      count = length-map places (number_at (row_at s cells h.0)) ∙ sym (lines-length s places cells);
      positive = positive z h.0 h.1;
      zeros = λ b q f. (let g = basic_row s places cells b q (get_there (lines_by s places cells) b q f) in coefficient_there places (row_at s cells h.0) b (Row g.0) g.1);
    })
