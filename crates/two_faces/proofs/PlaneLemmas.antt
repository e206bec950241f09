-- Areas in two coordinates.
use Rattle.std.proofs.Common.{◌≡◌, ◌≢◌, ℕ, zero, suc, ◌+◌, ◌-◌, ◌<◌, ◌≤◌, true, false, not, eqb, refl, sym, ap, ◌∙◌, arith, ℤ, pos, ◌-ℤ◌, List, [], ◌∷◌, get_or, w64, to_z, of_z, to_z-of_z, FitsSigned}
use Rattle.std.proofs.lemmas.Bool.Decides.{nat_tests}
use Rattle.ntfe_nums.specs.Sizes.{AreWithin}
use Rattle.ntfe_nums.specs.Vectors.{Vector, numbers, det2, area}
use Rattle.ntfe_nums.proofs.Ring.{Expression}
use Rattle.ntfe_nums.proofs.Ring.Expression.{var, minus, times}
use Rattle.ntfe_nums.proofs.Machine.{raw, exact, fits, AreBounded, AreWithin-four}
use Rattle.ntfe_model.specs.Points.{SpanPlane}

-- the area of three lists of coordinates at two places
abbrev pub area_at : List ℤ → List ℤ → List ℤ → ℕ → ℕ → ℤ
area_at a b c p q =
    det2 (get_or b p (pos 0) -ℤ get_or a p (pos 0)) (get_or b q (pos 0) -ℤ get_or a q (pos 0))
    (get_or c p (pos 0) -ℤ get_or a p (pos 0)) (get_or c q (pos 0) -ℤ get_or a q (pos 0))

abbrev pub vars : List ℤ → List ℤ → List ℤ → ℕ → ℕ → List ℤ
vars a b c p q = get_or a p (pos 0) ∷ get_or a q (pos 0) ∷ get_or b p (pos 0) ∷ get_or b q (pos 0) ∷ get_or c p (pos 0) ∷ get_or c q (pos 0) ∷ []

abbrev pub bounds : List ℕ
bounds = 1023 ∷ 1023 ∷ 1023 ∷ 1023 ∷ 1023 ∷ 1023 ∷ []

pub bounded : (a b c : List ℤ) (p q : ℕ) → AreWithin 1023 a → AreWithin 1023 b → AreWithin 1023 c → AreBounded (vars a b c p q) bounds
bounded a b c p q h k l =
    let x = AreWithin-four 1023 a h in
    let y = AreWithin-four 1023 b k in
    let z = AreWithin-four 1023 c l in
    (x p, (x q, (y p, (y q, (z p, (z q, tt))))))

abbrev pub leftE : Expression
leftE = times (minus (var 2) (var 0)) (minus (var 5) (var 1))

abbrev pub rightE : Expression
rightE = times (minus (var 3) (var 1)) (minus (var 4) (var 0))

abbrev pub areaE : Expression
areaE = minus leftE rightE

zero_bits : (z : ℤ) → FitsSigned w64 z → of_z w64 z ≡ 0 → z ≡ pos 0
zero_bits z f e = sym (to_z-of_z f) ∙ ap (to_z w64) e

module _ (a b c : List ℤ) (p q : ℕ) (h : AreWithin 1023 a) (k : AreWithin 1023 b) (l : AreWithin 1023 c) where
  pub area_fits : FitsSigned w64 (raw w64 (vars a b c p q) areaE)
  area_fits = fits w64 (vars a b c p q) bounds (bounded a b c p q h k l) areaE refl

  area_is : raw w64 (vars a b c p q) areaE ≡ area_at a b c p q
  area_is = sym (to_z-of_z area_fits) ∙ exact w64 (vars a b c p q) bounds (bounded a b c p q h k l) areaE refl

  pub area_true : not (eqb (of_z w64 (raw w64 (vars a b c p q) areaE)) 0) ≡ true → area_at a b c p q ≢ pos 0
  area_true t e =
      let z : of_z w64 (raw w64 (vars a b c p q) areaE) ≡ 0 = ap (of_z w64) (area_is ∙ e) in
      let u : not (eqb (of_z w64 (raw w64 (vars a b c p q) areaE)) 0) ≡ false = ap (λ n. not (eqb n 0)) z in
      cc

  pub area_false : not (eqb (of_z w64 (raw w64 (vars a b c p q) areaE)) 0) ≡ false → area_at a b c p q ≡ pos 0
  area_false t =
      let n = of_z w64 (raw w64 (vars a b c p q) areaE) in
      let e : n ≡ 0 = grind (arith, nat_tests) in
      sym area_is ∙ zero_bits (raw w64 (vars a b c p q) areaE) area_fits e

-- the same by vectors, and by numbers from 1
pub area_from : (x y z : Vector) (a b c : List ℤ) (p q : ℕ) → a ≡ numbers x → b ≡ numbers y → c ≡ numbers z → area (p + 1, q + 1) x y z ≡ area_at a b c p q
area_from x y z a b c p q e f g =
    let m : p + 1 - 1 ≡ p = omega arith in
    let n : q + 1 - 1 ≡ q = omega arith in
    (λ i. area_at (numbers x) (numbers y) (numbers z) (m i) (n i)) ∙ (λ i. area_at (sym e i) (sym f i) (sym g i) p q)

pub plane_from : (x y z : Vector) (p q : ℕ) → p < q → q < 4 → area (p + 1, q + 1) x y z ≢ pos 0 → SpanPlane x y z
plane_from x y z p q h k ne = ((p + 1, q + 1), omega arith, omega arith, omega arith, ne)

-- ---- two of four coordinates

pub two_of_four : (P : ℕ → ℕ → Type 0) → P 1 2 → P 1 3 → P 1 4 → P 2 3 → P 2 4 → P 3 4 → (p q : ℕ) → 1 ≤ p → p < q → q ≤ 4 → P p q
two_of_four P a b c d e f zero q h k l = absurd (omega arith)
two_of_four P a b c d e f (suc zero) zero h k l = absurd (omega arith)
two_of_four P a b c d e f (suc zero) (suc zero) h k l = absurd (omega arith)
two_of_four P a b c d e f (suc zero) (suc (suc zero)) h k l = a
two_of_four P a b c d e f (suc zero) (suc (suc (suc zero))) h k l = b
two_of_four P a b c d e f (suc zero) (suc (suc (suc (suc zero)))) h k l = c
two_of_four P a b c d e f (suc zero) (suc (suc (suc (suc (suc n))))) h k l = absurd (omega arith)
two_of_four P a b c d e f (suc (suc zero)) zero h k l = absurd (omega arith)
two_of_four P a b c d e f (suc (suc zero)) (suc zero) h k l = absurd (omega arith)
two_of_four P a b c d e f (suc (suc zero)) (suc (suc zero)) h k l = absurd (omega arith)
two_of_four P a b c d e f (suc (suc zero)) (suc (suc (suc zero))) h k l = d
two_of_four P a b c d e f (suc (suc zero)) (suc (suc (suc (suc zero)))) h k l = e
two_of_four P a b c d e f (suc (suc zero)) (suc (suc (suc (suc (suc n))))) h k l = absurd (omega arith)
two_of_four P a b c d e f (suc (suc (suc zero))) zero h k l = absurd (omega arith)
two_of_four P a b c d e f (suc (suc (suc zero))) (suc zero) h k l = absurd (omega arith)
two_of_four P a b c d e f (suc (suc (suc zero))) (suc (suc zero)) h k l = absurd (omega arith)
two_of_four P a b c d e f (suc (suc (suc zero))) (suc (suc (suc zero))) h k l = absurd (omega arith)
two_of_four P a b c d e f (suc (suc (suc zero))) (suc (suc (suc (suc zero)))) h k l = f
two_of_four P a b c d e f (suc (suc (suc zero))) (suc (suc (suc (suc (suc n))))) h k l = absurd (omega arith)
two_of_four P a b c d e f (suc (suc (suc (suc n)))) q h k l = absurd (omega arith)

-- where all six areas are 0, three vectors span no plane
pub no_plane : (a b c : Vector) → area (1, 2) a b c ≡ pos 0 → area (1, 3) a b c ≡ pos 0 → area (1, 4) a b c ≡ pos 0 → area (2, 3) a b c ≡ pos 0 → area (2, 4) a b c ≡ pos 0 → area (3, 4) a b c ≡ pos 0
    → SpanPlane a b c → ⊥
no_plane a b c h12 h13 h14 h23 h24 h34 s =
    let q = s.0 in
    s.4 (two_of_four (λ i j. area (i, j) a b c ≡ pos 0) h12 h13 h14 h23 h24 h34 q.0 q.1 s.1 s.2 s.3)
