-- The points of a facet: vertices are points, forms that agree on four independent vectors are equal, and some vertex of a facet lies outside another.
use Rattle.std.proofs.Common.{◌≡◌, ◌≢◌, ℕ, ◌-◌, ◌<◌, Bool, true, false, cond, refl, sym, ◌∙◌, arith, ℤ, pos, negsuc, ◌-ℤ◌, ◌*ℤ◌, neg_ℤ, List, [], ◌∷◌, length}
use Rattle.std.specs.Prelude.{Contains}
use Rattle.std.specs.Ordering.{int_eq}
use Rattle.std.proofs.lemmas.Int.{ints}
use Rattle.std.proofs.lemmas.List.Elements.{Contains-get_or}
use Rattle.ntfe_nums.specs.Vectors.{Vector, origin, dot, area, det3, det4}
use Rattle.ntfe_nums.proofs.Ring.{ring}
use Rattle.ntfe_nums.proofs.Ring.Expression.{var, num, minus, times, neg}
use Rattle.ntfe_nums.proofs.DetLemmas.{row, dotE, det3E, det4E, of4}
use Rattle.ntfe_model.specs.Lists.{IsNumberOf}
use Rattle.ntfe_model.specs.Pairs.{entry}
use Rattle.ntfe_model.specs.Charts.{Patch, axes, spans}
use Rattle.ntfe_model.specs.Reflexive.{IsTight, HasNoRepeat, at}

-- ---- whole numbers

pub int_eq_from : (x y : ℤ) → int_eq x y ≡ true → x ≡ y
int_eq_from x y e = grind (arith, ints)

pub int_eq_to : (x y : ℤ) → x ≡ y → int_eq x y ≡ true
int_eq_to x y e = grind (arith, ints)

-- ---- forms

pub dot_swap : (u v : Vector) → dot u v ≡ dot v u
dot_swap u v = ring (of4 u v v v) (dotE (row 0) (row 4)) (dotE (row 4) (row 0)) refl

-- ---- three points with an area have a fourth that is independent of them

-- the determinant of the form m and two coordinates, as a determinant with a fourth vector
form12 : (m a b c : Vector) → det4 a b c (record { x1 = pos 0; x2 = pos 0; x3 = neg_ℤ m.x4; x4 = m.x3 }) ≡ det3 (dot m a) (dot m b) (dot m c) a.x1 b.x1 c.x1 a.x2 b.x2 c.x2
unfolding det4
form12 m a b c =
    ring (of4 m a b c) (det4E (row 4) (row 8) (row 12) (record { x1 = num (pos 0); x2 = num (pos 0); x3 = neg (var 3); x4 = var 2 }))
    (det3E (dotE (row 0) (row 4)) (dotE (row 0) (row 8)) (dotE (row 0) (row 12)) (var 4) (var 8) (var 12) (var 5) (var 9) (var 13)) refl

form13 : (m a b c : Vector) → det4 a b c (record { x1 = pos 0; x2 = m.x4; x3 = pos 0; x4 = neg_ℤ m.x2 }) ≡ det3 (dot m a) (dot m b) (dot m c) a.x1 b.x1 c.x1 a.x3 b.x3 c.x3
unfolding det4
form13 m a b c =
    ring (of4 m a b c) (det4E (row 4) (row 8) (row 12) (record { x1 = num (pos 0); x2 = var 3; x3 = num (pos 0); x4 = neg (var 1) }))
    (det3E (dotE (row 0) (row 4)) (dotE (row 0) (row 8)) (dotE (row 0) (row 12)) (var 4) (var 8) (var 12) (var 6) (var 10) (var 14)) refl

form14 : (m a b c : Vector) → det4 a b c (record { x1 = pos 0; x2 = neg_ℤ m.x3; x3 = m.x2; x4 = pos 0 }) ≡ det3 (dot m a) (dot m b) (dot m c) a.x1 b.x1 c.x1 a.x4 b.x4 c.x4
unfolding det4
form14 m a b c =
    ring (of4 m a b c) (det4E (row 4) (row 8) (row 12) (record { x1 = num (pos 0); x2 = neg (var 2); x3 = var 1; x4 = num (pos 0) }))
    (det3E (dotE (row 0) (row 4)) (dotE (row 0) (row 8)) (dotE (row 0) (row 12)) (var 4) (var 8) (var 12) (var 7) (var 11) (var 15)) refl

form23 : (m a b c : Vector) → det4 a b c (record { x1 = neg_ℤ m.x4; x2 = pos 0; x3 = pos 0; x4 = m.x1 }) ≡ det3 (dot m a) (dot m b) (dot m c) a.x2 b.x2 c.x2 a.x3 b.x3 c.x3
unfolding det4
form23 m a b c =
    ring (of4 m a b c) (det4E (row 4) (row 8) (row 12) (record { x1 = neg (var 3); x2 = num (pos 0); x3 = num (pos 0); x4 = var 0 }))
    (det3E (dotE (row 0) (row 4)) (dotE (row 0) (row 8)) (dotE (row 0) (row 12)) (var 5) (var 9) (var 13) (var 6) (var 10) (var 14)) refl

form24 : (m a b c : Vector) → det4 a b c (record { x1 = m.x3; x2 = pos 0; x3 = neg_ℤ m.x1; x4 = pos 0 }) ≡ det3 (dot m a) (dot m b) (dot m c) a.x2 b.x2 c.x2 a.x4 b.x4 c.x4
unfolding det4
form24 m a b c =
    ring (of4 m a b c) (det4E (row 4) (row 8) (row 12) (record { x1 = var 2; x2 = num (pos 0); x3 = neg (var 0); x4 = num (pos 0) }))
    (det3E (dotE (row 0) (row 4)) (dotE (row 0) (row 8)) (dotE (row 0) (row 12)) (var 5) (var 9) (var 13) (var 7) (var 11) (var 15)) refl

form34 : (m a b c : Vector) → det4 a b c (record { x1 = neg_ℤ m.x2; x2 = m.x1; x3 = pos 0; x4 = pos 0 }) ≡ det3 (dot m a) (dot m b) (dot m c) a.x3 b.x3 c.x3 a.x4 b.x4 c.x4
unfolding det4
form34 m a b c =
    ring (of4 m a b c) (det4E (row 4) (row 8) (row 12) (record { x1 = neg (var 1); x2 = var 0; x3 = num (pos 0); x4 = num (pos 0) }))
    (det3E (dotE (row 0) (row 4)) (dotE (row 0) (row 8)) (dotE (row 0) (row 12)) (var 6) (var 10) (var 14) (var 7) (var 11) (var 15)) refl

-- what holds of all six pairs holds of a face's axes
of_axes : (P : ℕ × ℕ → Type 0) → P (1, 2) → P (1, 3) → P (1, 4) → P (2, 3) → P (2, 4) → P (3, 4) → (h : Patch) → P (axes h)
unfolding axes
of_axes P p12 p13 p14 p23 p24 p34 h =
    pick (spans h (1, 2)) p12 (pick (spans h (1, 3)) p13 (pick (spans h (1, 4)) p14 (pick (spans h (2, 3)) p23 (pick (spans h (2, 4)) p24 (pick (spans h (3, 4)) p34 p12)))))
  where
    pick : (b : Bool) {x y : ℕ × ℕ} → P x → P y → P (cond b x y)
    pick true p q = p
    pick false p q = q

-- where three points of a facet have an area, their determinant with some vector is not 0
pub not_always_zero : (h : Patch) (m a b c : Vector) → IsTight m a → IsTight m b → IsTight m c → area (axes h) a b c ≢ pos 0 → ((p : Vector) → det4 a b c p ≡ pos 0) → ⊥
not_always_zero h m a b c ta tb tc n z = n (of_axes (λ q. area q a b c ≡ pos 0)
    (minus_area a.x1 b.x1 c.x1 a.x2 b.x2 c.x2 (known (λ v. v.x1) (λ v. v.x2) (record { x1 = pos 0; x2 = pos 0; x3 = neg_ℤ m.x4; x4 = m.x3 }) (form12 m a b c)))
    (minus_area a.x1 b.x1 c.x1 a.x3 b.x3 c.x3 (known (λ v. v.x1) (λ v. v.x3) (record { x1 = pos 0; x2 = m.x4; x3 = pos 0; x4 = neg_ℤ m.x2 }) (form13 m a b c)))
    (minus_area a.x1 b.x1 c.x1 a.x4 b.x4 c.x4 (known (λ v. v.x1) (λ v. v.x4) (record { x1 = pos 0; x2 = neg_ℤ m.x3; x3 = m.x2; x4 = pos 0 }) (form14 m a b c)))
    (minus_area a.x2 b.x2 c.x2 a.x3 b.x3 c.x3 (known (λ v. v.x2) (λ v. v.x3) (record { x1 = neg_ℤ m.x4; x2 = pos 0; x3 = pos 0; x4 = m.x1 }) (form23 m a b c)))
    (minus_area a.x2 b.x2 c.x2 a.x4 b.x4 c.x4 (known (λ v. v.x2) (λ v. v.x4) (record { x1 = m.x3; x2 = pos 0; x3 = neg_ℤ m.x1; x4 = pos 0 }) (form24 m a b c)))
    (minus_area a.x3 b.x3 c.x3 a.x4 b.x4 c.x4 (known (λ v. v.x3) (λ v. v.x4) (record { x1 = neg_ℤ m.x2; x2 = m.x1; x3 = pos 0; x4 = pos 0 }) (form34 m a b c))) h)
  where
    known : (x y : Vector → ℤ) (p : Vector) → det4 a b c p ≡ det3 (dot m a) (dot m b) (dot m c) (x a) (x b) (x c) (y a) (y b) (y c)
        → det3 (negsuc 0) (negsuc 0) (negsuc 0) (x a) (x b) (x c) (y a) (y b) (y c) ≡ pos 0
    known x y p e = (λ i. det3 (sym ta i) (sym tb i) (sym tc i) (x a) (x b) (x c) (y a) (y b) (y c)) ∙ sym e ∙ z p

    back : (k l : ℤ) → k ≡ neg_ℤ l → l ≡ pos 0 → k ≡ pos 0
    back k l e f = omega (arith, ints, e, f)

    minus_area : (a1 b1 c1 a2 b2 c2 : ℤ) → det3 (negsuc 0) (negsuc 0) (negsuc 0) a1 b1 c1 a2 b2 c2 ≡ pos 0 → (b1 -ℤ a1) *ℤ (c2 -ℤ a2) -ℤ (b2 -ℤ a2) *ℤ (c1 -ℤ a1) ≡ pos 0
    minus_area a1 b1 c1 a2 b2 c2 e =
        back ((b1 -ℤ a1) *ℤ (c2 -ℤ a2) -ℤ (b2 -ℤ a2) *ℤ (c1 -ℤ a1)) (det3 (negsuc 0) (negsuc 0) (negsuc 0) a1 b1 c1 a2 b2 c2)
        (ring (a1 ∷ b1 ∷ c1 ∷ a2 ∷ b2 ∷ c2 ∷ [])
        (minus (times (minus (var 1) (var 0)) (minus (var 5) (var 3))) (times (minus (var 4) (var 3)) (minus (var 2) (var 0))))
        (neg (det3E (num (negsuc 0)) (num (negsuc 0)) (num (negsuc 0)) (var 0) (var 1) (var 2) (var 3) (var 4) (var 5))) refl) e

-- ---- entries of a list

pub entry_in : (vs : List Vector) (i : ℕ) → IsNumberOf vs i → Contains vs (entry vs i)
entry_in vs i n = Contains-get_or vs (i - 1) origin (let a = n.0 in let b = n.1 in omega (arith, a, b))

pub place_in : (vs : List Vector) (i : ℕ) → i < length vs → Contains vs (at vs i)
place_in vs i l = Contains-get_or vs i origin l

-- different numbers, different entries
pub entries_apart : (vs : List Vector) → HasNoRepeat vs → (i j : ℕ) → IsNumberOf vs i → IsNumberOf vs j → i < j → entry vs i ≢ entry vs j
entries_apart vs r i j a b l = r (i - 1) (j - 1) origin (let x = a.0 in let y = b.1 in omega (arith, x, y, l)) (let x = a.0 in let y = b.1 in omega (arith, x, y, l))
