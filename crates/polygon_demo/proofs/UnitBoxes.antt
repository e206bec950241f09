-- Pairs whose vertices have the coordinates -1, 0 and 1 alone.
use Rattle.std.proofs.Common.{◌≡◌, ◌≢◌, ℕ, ◌+◌, ◌*◌, ◌<◌, ◌≤◌, inl, inr, Bool, true, false, ◌&&◌, nat_lt, nat_eq, ℤ, pos, negsuc, ◌+ℤ◌, ◌-ℤ◌, ◌*ℤ◌, ◌≤ℤ◌, unsigned_abs, List, [], ◌∷◌, length, get_or, map, sym, ◌∙◌, subst, arith, mul-le-mul, All}
use Rattle.std.specs.Prelude.{Any}
use Rattle.std.specs.List.{list_any}
use Rattle.std.proofs.lemmas.Int.{ints}
use Rattle.std.proofs.lemmas.Bool.{cases_Bool, eqb-true, ne_eqb}
use Rattle.std.proofs.lemmas.Bool.Decides.{nat_tests}
use Rattle.std.proofs.lemmas.List.{length-map, get_or-map}
use Rattle.std.proofs.lemmas.List.Elements.{All-from_get_or, All-head, All-tail, All-map}
use Rattle.std.proofs.lemmas.Map.Keys.{IsDistinct-from_apart}
use Rattle.std.proofs.lemmas.Map.Steps.{length-le_from_distinct_below}
use Rattle.ntfe_nums.specs.Vectors.{Vector, origin, coordinate, Precedes}
use Rattle.ntfe_model.specs.Pairs.{VertexLists}
use Rattle.ntfe_model.specs.Points.{IsBoxSide, AreColumns, IsInBox, ArePoints, no_point}
use Rattle.ntfe_model.specs.declared.point.Point.{Point}
use Rattle.ntfe_model.proofs.Orders.{precedes_once}
use Rattle.polygon_demo.specs.Limits.{IsSmallPair}
use Rattle.polygon_demo.proofs.TailLemmas.{each_tail, each_from, both_parts}

-- ---- a test that computes

abbrev is_unit : ℤ → Bool
is_unit z = nat_lt (unsigned_abs z) 2

abbrev is_unit_vector : Vector → Bool
is_unit_vector v = (is_unit v.x1 && is_unit v.x2) && (is_unit v.x3 && is_unit v.x4)

abbrev pub are_units : List Vector → Bool
are_units vs = each_tail (λ v _. is_unit_vector v) vs

record IsUnit (z : ℤ) : Type 0 where
  low : negsuc 0 ≤ℤ z
  high : z ≤ℤ pos 1

record IsUnitVector (v : Vector) : Type 0 where
  x1 : IsUnit v.x1
  x2 : IsUnit v.x2
  x3 : IsUnit v.x3
  x4 : IsUnit v.x4

unit : (z : ℤ) → is_unit z ≡ true → IsUnit z
unit z e = let h : unsigned_abs z < 2 = grind (arith, nat_tests) in record { low = omega (arith, ints); high = omega (arith, ints) }

unit_vector : (v : Vector) → is_unit_vector v ≡ true → IsUnitVector v
unit_vector v e =
    let h = both_parts (is_unit v.x1 && is_unit v.x2) _ e in
    let p = both_parts (is_unit v.x1) _ h.0 in
    let q = both_parts (is_unit v.x3) _ h.1 in
    record { x1 = unit v.x1 p.0; x2 = unit v.x2 p.1; x3 = unit v.x3 q.0; x4 = unit v.x4 q.1 }

units : (vs : List Vector) → are_units vs ≡ true → All IsUnitVector vs
units vs e = All-from_get_or IsUnitVector vs origin (λ i l. unit_vector _ (each_from (λ v _. is_unit_vector v) vs 0 i e (omega arith) l))

-- what holds of some entry, with what holds of all
abbrev some_unit : (P : Vector → Type 0) (vs : List Vector) → All IsUnitVector vs → Any P vs → (v : Vector) × IsUnitVector v × P v
some_unit P vs a h = (h.1, subst IsUnitVector h.3 (a h.0 h.1 h.2), h.4)

-- ---- columns

side_within : (side low high : ℤ) → IsUnit low → IsUnit high → low ≤ℤ high → side ≡ high -ℤ low +ℤ pos 1 → (n : ℕ) × (n ≤ 3) × (side ≡ pos n)
side_within side low high a b h e =
    let l1 = a.low in
    let h1 = b.high in
    (unsigned_abs side, omega (arith, ints), omega (arith, ints))

module _ (vs : List Vector) (a : All IsUnitVector vs) where
  box_side : (k : ℕ) (side : ℤ) → ((v : Vector) → IsUnitVector v → IsUnit (coordinate k v)) → IsBoxSide vs k side → (n : ℕ) × (n ≤ 3) × (side ≡ pos n)
  box_side k side each b =
      let low = some_unit (λ v. coordinate k v ≡ b.low) vs a b.lowest in
      let high = some_unit (λ v. coordinate k v ≡ b.high) vs a b.highest in
      let under : b.low ≤ℤ coordinate k high.0 = subst (λ (v : Vector). b.low ≤ℤ coordinate k v) b.highest.3 (b.least b.highest.0 b.highest.1 b.highest.2) in
      side_within side b.low b.high (subst IsUnit low.2 (each low.0 low.1)) (subst IsUnit high.2 (each high.0 high.1)) (subst (λ (z : ℤ). b.low ≤ℤ z) high.2 under) b.side_is

  few_columns : (n : ℤ) → AreColumns vs n → n ≤ℤ pos 27
  few_columns n c =
      let p = box_side 1 c.0 (λ v u. u.x1) c.3 in
      let q = box_side 2 c.1 (λ v u. u.x2) c.4 in
      let r = box_side 3 c.2 (λ v u. u.x3) c.5 in
      let product : n ≡ pos (p.0 * q.0 * r.0) = c.6 ∙ (λ i. p.2 i *ℤ q.2 i *ℤ r.2 i) in
      let size : p.0 * q.0 * r.0 ≤ 27 = mul-le-mul (mul-le-mul p.1 q.1) r.1 in
      omega (arith, ints, product)

  -- ---- points

  place_unit : (x : Vector) → IsInBox vs x → IsUnitVector x
  place_unit x b =
      let l1 = some_unit (λ v. v.x1 ≤ℤ x.x1) vs a b.low1 in
      let h1 = some_unit (λ v. x.x1 ≤ℤ v.x1) vs a b.high1 in
      let l2 = some_unit (λ v. v.x2 ≤ℤ x.x2) vs a b.low2 in
      let h2 = some_unit (λ v. x.x2 ≤ℤ v.x2) vs a b.high2 in
      let l3 = some_unit (λ v. v.x3 ≤ℤ x.x3) vs a b.low3 in
      let h3 = some_unit (λ v. x.x3 ≤ℤ v.x3) vs a b.high3 in
      let l4 = some_unit (λ v. v.x4 ≤ℤ x.x4) vs a b.low4 in
      let h4 = some_unit (λ v. x.x4 ≤ℤ v.x4) vs a b.high4 in
      record {
        x1 = between x.x1 _ _ l1.1.x1 h1.1.x1 l1.2 h1.2;
        x2 = between x.x2 _ _ l2.1.x2 h2.1.x2 l2.2 h2.2;
        x3 = between x.x3 _ _ l3.1.x3 h3.1.x3 l3.2 h3.2;
        x4 = between x.x4 _ _ l4.1.x4 h4.1.x4 l4.2 h4.2;
      }
    where
      between : (z low high : ℤ) → IsUnit low → IsUnit high → low ≤ℤ z → z ≤ℤ high → IsUnit z
      between z low high u v l h = (let m = u.low in let n = v.high in record { low = omega (arith, ints); high = omega (arith, ints) })

-- a number below 81 for each such vector, which tells it apart
abbrev digit : ℤ → ℕ
digit z = unsigned_abs (z +ℤ pos 1)

abbrev code : Vector → ℕ
code v = 27 * digit v.x1 + 9 * digit v.x2 + 3 * digit v.x3 + digit v.x4

digit_below : (z : ℤ) → IsUnit z → digit z ≤ 2
digit_below z u = let l = u.low in let h = u.high in omega (arith, ints)

digit_fixes : (y z : ℤ) → IsUnit y → IsUnit z → digit y ≡ digit z → y ≡ z
digit_fixes y z u v e = let l = u.low in let k = v.low in omega (arith, ints)

code_below : (v : Vector) → IsUnitVector v → code v < 81
code_below v u = omega (arith, digit_below v.x1 u.x1, digit_below v.x2 u.x2, digit_below v.x3 u.x3, digit_below v.x4 u.x4)

four_digits : (a b c d p q r s : ℕ) → b ≤ 2 → c ≤ 2 → d ≤ 2 → q ≤ 2 → r ≤ 2 → s ≤ 2 → 27 * a + 9 * b + 3 * c + d ≡ 27 * p + 9 * q + 3 * r + s → (a ≡ p) × (b ≡ q) × (c ≡ r) × (d ≡ s)
four_digits a b c d p q r s h1 h2 h3 h4 h5 h6 e = (omega arith, omega arith, omega arith, omega arith)

code_fixes : (v w : Vector) → IsUnitVector v → IsUnitVector w → code v ≡ code w → v ≡ w
code_fixes v w u t e =
    let f = four_digits (digit v.x1) (digit v.x2) (digit v.x3) (digit v.x4) (digit w.x1) (digit w.x2) (digit w.x3) (digit w.x4)
    (digit_below v.x2 u.x2) (digit_below v.x3 u.x3) (digit_below v.x4 u.x4) (digit_below w.x2 t.x2) (digit_below w.x3 t.x3) (digit_below w.x4 t.x4) e in
    λ i. record { x1 = digit_fixes v.x1 w.x1 u.x1 t.x1 f.0 i; x2 = digit_fixes v.x2 w.x2 u.x2 t.x2 f.1 i; x3 = digit_fixes v.x3 w.x3 u.x3 t.x3 f.2 i; x4 = digit_fixes v.x4 w.x4 u.x4 t.x4 f.3 i }

member_below : (n q : ℕ) (xs : List ℕ) → All (λ x. x < n) xs → list_any (nat_eq q) xs ≡ true → q < n
member_below n q [] a h = cc
member_below n q (x ∷ xs) a h =
    elim (cases_Bool (nat_eq q x)) [
      | inl e ↦ (let s : q ≡ x = eqb-true q x e in let l : x < n = All-head (λ y. y < n) x xs a in omega arith)
      | inr e ↦ member_below n q xs (All-tail (λ y. y < n) x xs a) (rw e at h)
    ]

few_points : (p : VertexLists) → All IsUnitVector p.vertices → (xs : List Point) → ArePoints p xs → length xs ≤ 81
few_points p a xs points =
    let codes : List ℕ = map (λ (q : Point). code q.place) xs in
    let inside : All (λ (q : Point). IsUnitVector q.place) xs = λ k d l. place_unit p.vertices a _ (points.sound k d l).inside.box in
    let below : All (λ n. n < 81) codes = All-map (λ n. n < 81) (λ (q : Point). code q.place) xs (λ k d l. code_below _ (inside k d l)) in
    let apart : (i j d : ℕ) → i < j → j < length codes → nat_eq (get_or codes i d) (get_or codes j d) ≡ false = λ i j d h l.
    code_apart i j d h (omega (arith, l, length-map xs (λ (q : Point). code q.place))) in
    let count = length-le_from_distinct_below codes 81 (IsDistinct-from_apart nat_eq codes apart) (λ q h. member_below 81 q codes below h) in
    omega (arith, length-map xs (λ (q : Point). code q.place))
  where
    place_is_unit : (i : ℕ) → i < length xs → IsUnitVector (get_or xs i no_point).place
    place_is_unit i l = place_unit p.vertices a _ (points.sound i no_point l).inside.box

    different : (i j : ℕ) → i < j → j < length xs → code (get_or xs i no_point).place ≢ code (get_or xs j no_point).place
    different i j h l e =
        let x = (get_or xs i no_point).place in
        let y = (get_or xs j no_point).place in
        let before : Precedes x y = points.ordered i j no_point h l in
        let same : x ≡ y = code_fixes x y (place_is_unit i (omega arith)) (place_is_unit j l) e in
        let first : Precedes y y = subst (λ (v : Vector). Precedes v y) same before in
        precedes_once y y first first

    code_apart : (i j d : ℕ) → i < j → j < length xs → nat_eq (get_or (map (λ (q : Point). code q.place) xs) i d) (get_or (map (λ (q : Point). code q.place) xs) j d) ≡ false
    code_apart i j d h l =
        let at_i = get_or-map (λ (q : Point). code q.place) xs i no_point d (omega arith) in
        let at_j = get_or-map (λ (q : Point). code q.place) xs j no_point d l in
        ne_eqb _ _ (λ e. different i j h l (sym at_i ∙ e ∙ at_j))

pub small_pair : (p : VertexLists) → are_units p.vertices ≡ true → IsSmallPair p
small_pair p e = let a = units p.vertices e in record { columns = few_columns p.vertices a; points = few_points p a }
