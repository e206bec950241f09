-- Extents: a loop's step, and how small they are.
use Rattle.std.proofs.Common.{◌≡◌, ℕ, ◌+◌, ◌<◌, ◌≤◌, ◌⊎◌, inl, inr, refl, sym, ap, ◌∙◌, subst, arith, ℤ, pos, negsuc, ◌-ℤ◌, ◌*ℤ◌, ◌≤ℤ◌, ◌^◌, List, [], ◌∷◌, length, take, get_or, unsigned_abs}
use Rattle.std.proofs.Common.{Bool, true, false, cond}
use Rattle.std.specs.Prelude.{All, Any, ◌<ℤ◌, ◌↔◌, int_lt}
use Rattle.std.specs.Int.{int_min, int_max}
use Rattle.std.proofs.lemmas.Int.{ints}
use Rattle.std.proofs.lemmas.List.Elements.{All-weaker, All-more, All-contains}
use lib.Signed.{≤ℤ_refl}
use Rattle.ntfe_nums.specs.Vectors.{Vector, coordinate}
use Rattle.ntfe_nums.specs.Sizes.{AreWithin}
use Rattle.ntfe_nums.proofs.Comparisons.{least_from_test, below_from_test}
use Rattle.ntfe_model.specs.Pairs.{VertexLists, IsSmall}
use Rattle.ntfe_model.specs.Points.{IsInside, IsBoxSide, AreColumns}
use Rattle.lattice_points.specs.Faults.{HasFewColumns, HasColumnsOver}
use Rattle.lattice_points.specs.Lines.{place, IsOpen}
use Rattle.lattice_points.specs.declared.bounds.Extent.{Extent}
use Rattle.lattice_points.specs.declared.bounds.Bounds.{Bounds}
use Rattle.lattice_points.specs.Boxes.{IsWithin, IsExtentOf, AreBoundsOf, IsSmallExtent, side_of_extent}
use Rattle.ntfe_model.proofs.SmallVectors.{inside_small}

-- a lower end that is moved down to the next value, where that is less
pub least_more : (c : Vector → ℤ) (vs : List Vector) (i : ℕ) (v : Vector) (low new : ℤ) → i < length vs → v ≡ get_or vs i v → new ≤ℤ low → new ≤ℤ c v
    → All (λ v. low ≤ℤ c v) (take i vs) → All (λ v. new ≤ℤ c v) (take (i + 1) vs)
least_more c vs i v low new l e a b h =
    let P : Vector → Type 0 = λ w. new ≤ℤ c w in
    All-more P vs i v l (All-weaker (λ w. low ≤ℤ c w) P (λ w k. omega (arith, ints)) (take i vs) h) (subst P e b)

pub greatest_more : (c : Vector → ℤ) (vs : List Vector) (i : ℕ) (v : Vector) (high new : ℤ) → i < length vs → v ≡ get_or vs i v → high ≤ℤ new → c v ≤ℤ new
    → All (λ v. c v ≤ℤ high) (take i vs) → All (λ v. c v ≤ℤ new) (take (i + 1) vs)
greatest_more c vs i v high new l e a b h =
    let P : Vector → Type 0 = λ w. c w ≤ℤ new in
    All-more P vs i v l (All-weaker (λ w. c w ≤ℤ high) P (λ w k. omega (arith, ints)) (take i vs) h) (subst P e b)

-- the end stays a value of the list
pub end_more : (c : Vector → ℤ) (vs : List Vector) (i : ℕ) (v : Vector) (end new : ℤ) → i < length vs → v ≡ get_or vs i v → (new ≡ end) ⊎ (new ≡ c v)
    → Any (λ v. c v ≡ end) vs → Any (λ v. c v ≡ new) vs
end_more c vs i v end new l e (inl q) h = (h.0, h.1, h.2, h.3, h.4 ∙ sym q)
end_more c vs i v end new l e (inr q) h = (i, v, l, sym e, sym q)

-- ---- small vectors have small extents

small_extent : (c : Vector → ℤ) (vs : List Vector) (e : Extent) → ((v : Vector) → IsSmall v → (negsuc 1022 ≤ℤ c v) × (c v ≤ℤ pos 1023)) → All IsSmall vs → IsExtentOf c vs e → IsSmallExtent e
small_extent c vs e f s h =
    let a = h.lowest in
    let b = h.highest in
    let v = a.1 in
    let w = b.1 in
    let p = f v (All-contains IsSmall vs v s (a.0, a.2, a.3)) in
    let q = f w (All-contains IsSmall vs w s (b.0, b.2, b.3)) in
    let k = All-contains (λ u. e.low ≤ℤ c u) vs w h.least (b.0, b.2, b.3) in
    let m = a.4 in
    let n = b.4 in
    record { low = (let r = p.0 in omega (arith, ints)); some = omega (arith, ints); high = (let r = q.1 in omega (arith, ints)) }

module _ (vs : List Vector) (b : Bounds) (s : All IsSmall vs) (h : AreBoundsOf vs b) where
  pub first_small : IsSmallExtent b.x1
  first_small = small_extent (λ v. v.x1) vs b.x1 (λ v k. (k.low1, k.high1)) s h.first

  pub second_small : IsSmallExtent b.x2
  second_small = small_extent (λ v. v.x2) vs b.x2 (λ v k. (k.low2, k.high2)) s h.second

  pub third_small : IsSmallExtent b.x3
  third_small = small_extent (λ v. v.x3) vs b.x3 (λ v k. (k.low3, k.high3)) s h.third

  pub fourth_small : IsSmallExtent b.x4
  fourth_small = small_extent (λ v. v.x4) vs b.x4 (λ v k. (k.low4, k.high4)) s h.fourth

-- ---- the lesser and the greater of two numbers

pub min_cases : (r a b : ℤ) → r ≡ int_min a b → (r ≤ℤ a) × (r ≤ℤ b) × ((r ≡ a) ⊎ (r ≡ b))
min_cases r a b e = by (int_lt b a) refl
  where
    by : (t : Bool) → int_lt b a ≡ t → (r ≤ℤ a) × (r ≤ℤ b) × ((r ≡ a) ⊎ (r ≡ b))
    by true h =
        let q : r ≡ b = e ∙ ap (λ s. cond s b a) h in
        let k : b <ℤ a = below_from_test b a h in
        (omega (arith, ints), omega (arith, ints), inr q)
    by false h =
        let q : r ≡ a = e ∙ ap (λ s. cond s b a) h in
        let k : a ≤ℤ b = least_from_test b a h in
        (omega (arith, ints), omega (arith, ints), inl q)

pub max_cases : (r a b : ℤ) → r ≡ int_max a b → (a ≤ℤ r) × (b ≤ℤ r) × ((r ≡ a) ⊎ (r ≡ b))
max_cases r a b e = by (int_lt b a) refl
  where
    by : (t : Bool) → int_lt b a ≡ t → (a ≤ℤ r) × (b ≤ℤ r) × ((r ≡ a) ⊎ (r ≡ b))
    by true h =
        let q : r ≡ a = e ∙ ap (λ s. cond s a b) h in
        let k : b <ℤ a = below_from_test b a h in
        (omega (arith, ints), omega (arith, ints), inl q)
    by false h =
        let q : r ≡ b = e ∙ ap (λ s. cond s a b) h in
        let k : a ≤ℤ b = least_from_test b a h in
        (omega (arith, ints), omega (arith, ints), inr q)

-- ---- coordinates in the box

pub extent_low : (c : Vector → ℤ) (vs : List Vector) (e : Extent) (x : ℤ) → IsExtentOf c vs e → Any (λ v. c v ≤ℤ x) vs → e.low ≤ℤ x
extent_low c vs e x h a =
    let k = All-contains (λ v. e.low ≤ℤ c v) vs a.1 h.least (a.0, a.2, a.3) in
    let l = a.4 in
    omega (arith, ints)

pub extent_high : (c : Vector → ℤ) (vs : List Vector) (e : Extent) (x : ℤ) → IsExtentOf c vs e → Any (λ v. x ≤ℤ c v) vs → x ≤ℤ e.high
extent_high c vs e x h a =
    let k = All-contains (λ v. c v ≤ℤ e.high) vs a.1 h.greatest (a.0, a.2, a.3) in
    let l = a.4 in
    omega (arith, ints)

some_below : (c : Vector → ℤ) (vs : List Vector) (e : Extent) (x : ℤ) → IsExtentOf c vs e → e.low ≤ℤ x → Any (λ v. c v ≤ℤ x) vs
some_below c vs e x h l = let a = h.lowest in (a.0, a.1, a.2, a.3, (let q = a.4 in omega (arith, ints)))

some_above : (c : Vector → ℤ) (vs : List Vector) (e : Extent) (x : ℤ) → IsExtentOf c vs e → x ≤ℤ e.high → Any (λ v. x ≤ℤ c v) vs
some_above c vs e x h l = let a = h.highest in (a.0, a.1, a.2, a.3, (let q = a.4 in omega (arith, ints)))

pub extent_size : (e : Extent) → IsSmallExtent e → AreWithin (2 ^ 33) (e.low ∷ e.high ∷ [])
extent_size e s = ((let a = s.low in let b = s.some in let c = s.high in omega (arith, ints)), ((let a = s.low in let b = s.some in let c = s.high in omega (arith, ints)), tt))

pub extent_span : (e : Extent) → IsSmallExtent e → e.low ≤ℤ e.high → (e.high -ℤ e.low) ≤ℤ pos 2046
extent_span e s h = let a = s.low in let b = s.high in omega (arith, ints)

pub within_size : (e : Extent) (x : ℤ) → IsSmallExtent e → IsWithin e x → unsigned_abs x ≤ 1023
within_size e x s w = let a = s.low in let b = s.high in let l = w.low in let h = w.high in omega (arith, ints)

-- over a place of the box, what is inside the polytope is what the dual vertices leave of the box's fourth side
pub inside_column : (p : VertexLists) (b : Bounds) (x1 x2 x3 x4 : ℤ) → AreBoundsOf p.vertices b → IsWithin b.x1 x1 → IsWithin b.x2 x2 → IsWithin b.x3 x3
    → (IsWithin b.x4 x4 × IsOpen p.dual (place x1 x2 x3 x4)) ↔ IsInside p (place x1 x2 x3 x4)
inside_column p b x1 x2 x3 x4 h w1 w2 w3 =
    let vs = p.vertices in (
      λ (w, o). record {
        box = record {
          low1 = some_below (λ v. v.x1) vs b.x1 x1 h.first w1.low;
          high1 = some_above (λ v. v.x1) vs b.x1 x1 h.first w1.high;
          low2 = some_below (λ v. v.x2) vs b.x2 x2 h.second w2.low;
          high2 = some_above (λ v. v.x2) vs b.x2 x2 h.second w2.high;
          low3 = some_below (λ v. v.x3) vs b.x3 x3 h.third w3.low;
          high3 = some_above (λ v. v.x3) vs b.x3 x3 h.third w3.high;
          low4 = some_below (λ v. v.x4) vs b.x4 x4 h.fourth w.low;
          high4 = some_above (λ v. v.x4) vs b.x4 x4 h.fourth w.high;
        };
        hull = o;
      },
      λ i. (record { low = extent_low (λ v. v.x4) vs b.x4 x4 h.fourth i.box.low4; high = extent_high (λ v. v.x4) vs b.x4 x4 h.fourth i.box.high4 }, i.hull),
    )

-- ---- one column

module _ (p : VertexLists) (e : Extent) (x1 x2 x3 : ℤ) (inside : (x4 : ℤ) → IsWithin e x4 ↔ IsInside p (place x1 x2 x3 x4)) where
  pub column_within : (v : Vector) → v.x1 ≡ x1 → v.x2 ≡ x2 → v.x3 ≡ x3 → IsInside p v → IsWithin e v.x4
  column_within v a b c k =
      let P : Vector → Type 0 = IsInside p in
      (inside v.x4).1 (subst P (λ i. place (a i) (b i) (c i) v.x4) k)

  -- a column of a box of small vectors has at most 2,047 places in the polytope
  pub column_span : All IsSmall p.vertices → e.low ≤ℤ e.high → (e.high -ℤ e.low) ≤ℤ pos 2046
  column_span s h =
      let a = inside_small p (place x1 x2 x3 e.low) s ((inside e.low).0 (record { low = ≤ℤ_refl e.low; high = h })) in
      let b = inside_small p (place x1 x2 x3 e.high) s ((inside e.high).0 (record { low = h; high = ≤ℤ_refl e.high })) in
      let l = a.low4 in
      let m = b.high4 in
      omega (arith, ints)

-- ---- the number of columns

box_side : (k : ℕ) (c : Vector → ℤ) (vs : List Vector) (e : Extent) → c ≡ coordinate k → IsExtentOf c vs e → IsBoxSide vs k (side_of_extent e)
box_side k c vs e q h =
    let P : (Vector → ℤ) → Type 0 = λ d. IsExtentOf d vs e in
    let g = subst P q h in
    record {
      low = e.low;
      high = e.high;
      least = g.least;
      greatest = g.greatest;
      lowest = g.lowest;
      highest = g.highest;
      side_is = refl;
    }

bounds_columns : (vs : List Vector) (b : Bounds) (n : ℤ) → AreBoundsOf vs b → n ≡ side_of_extent b.x1 *ℤ side_of_extent b.x2 *ℤ side_of_extent b.x3 → AreColumns vs n
bounds_columns vs b n h e = (
  side_of_extent b.x1,
  side_of_extent b.x2,
  side_of_extent b.x3,
  box_side 1 (λ v. v.x1) vs b.x1 refl h.first,
  box_side 2 (λ v. v.x2) vs b.x2 refl h.second,
  box_side 3 (λ v. v.x3) vs b.x3 refl h.third,
  e,
)

module _ (vs us : List Vector) (b : Bounds) (n : ℕ) (e : us ≡ vs) (h : AreBoundsOf us b) (f : pos n ≡ side_of_extent b.x1 *ℤ side_of_extent b.x2 *ℤ side_of_extent b.x3) where
  columns_are : AreColumns vs (pos n)
  columns_are = let P : List Vector → Type 0 = λ ws. AreBoundsOf ws b in bounds_columns vs b (pos n) (subst P e h) f

  pub few_columns : n ≤ 16777216 → HasFewColumns vs
  few_columns k = record { columns = pos n; are = columns_are; few = omega (arith, ints) }

  pub many_columns : 16777216 < n → HasColumnsOver vs n
  many_columns k = record { are = columns_are; over = k }
