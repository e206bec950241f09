-- Every row with a positive d has a lowest form.
--     divisor_of zs      the greatest common divisor of the numbers
--     reduced raw        the row divided by that of its numbers
use Rattle.std.proofs.Common.{◌≡◌, ℕ, zero, suc, ◌*◌, ◌/◌, ◌%◌, ◌<◌, ◌≤◌, Bool, true, false, cond, eqb, refl, sym, ap, ◌∙◌, subst, arith, ℤ, pos, negsuc, ◌*ℤ◌, ◌<ℤ◌, List, [], ◌∷◌, map, length, get_or, unsigned_abs}
use Rattle.std.specs.Prelude.{All}
use Rattle.std.specs.Int.{◌∣◌, IsGcd}
use Rattle.std.specs.Int.Signed.{quot_z}
use Rattle.std.proofs.lemmas.Int.{ints, unsigned_abs-mul}
use Rattle.std.proofs.lemmas.Bool.Decides.{nat_tests}
use Rattle.std.proofs.lemmas.List.{get_or-map, length-map}
use Rattle.std.proofs.lemmas.Nat.Gcd.{IsGcd-from_zero, IsGcd-from_mod, dvd_trans, dvd-zero}
use Rattle.std.proofs.Math.Nat.{pos_of_dvd_of_pos, mul-dvd-mul_left, dvd_of_mul-dvd-mul_left, eq-one_of_dvd-one}
use Rattle.ntfe_model.specs.Solver.{Line, line_numbers, IsReduced}
use Rattle.strict_solver.specs.Scales.{gcd_by}
use Rattle.strict_solver.proofs.Rows.{exact_quotient}
use Rattle.ntfe_nums.proofs.Signs.{some_size}

pub gcd_by-is : (f a b : ℕ) → b ≤ f → IsGcd a b (gcd_by f a b)
gcd_by-is zero a b h = IsGcd-from_zero a b (omega arith)
gcd_by-is (suc f) a b h = by (eqb b 0) refl (gcd_by-is f b (a % b))
  where
    by : (t : Bool) → eqb b 0 ≡ t → (a % b ≤ f → IsGcd b (a % b) (gcd_by f b (a % b))) → IsGcd a b (cond t a (gcd_by f b (a % b)))
    by true e rest = IsGcd-from_zero a b (let g : b ≡ 0 = grind (arith, nat_tests) in g)
    by false e rest = IsGcd-from_mod a b _ (rest (let g : 0 < b = grind (arith, nat_tests) in omega arith))

abbrev pub divisor_of : List ℤ → ℕ
divisor_of [] = 0
divisor_of (z ∷ zs) = gcd_by (divisor_of zs) (unsigned_abs z) (divisor_of zs)

head_gcd : (z : ℤ) (zs : List ℤ) → IsGcd (unsigned_abs z) (divisor_of zs) (divisor_of (z ∷ zs))
head_gcd z zs = gcd_by-is (divisor_of zs) (unsigned_abs z) (divisor_of zs) (omega arith)

pub divisor_of-divides : (zs : List ℤ) (k : ℕ) (d : ℤ) → k < length zs → divisor_of zs ∣ unsigned_abs (get_or zs k d)
divisor_of-divides [] k d l = absurd (omega arith)
divisor_of-divides (z ∷ zs) zero d l = (head_gcd z zs).0
divisor_of-divides (z ∷ zs) (suc k) d l = dvd_trans (divisor_of (z ∷ zs)) (head_gcd z zs).1 (divisor_of-divides zs k d (omega arith))

pub divisor_of-greatest : (zs : List ℤ) (m : ℕ) → ((k : ℕ) (d : ℤ) → k < length zs → m ∣ unsigned_abs (get_or zs k d)) → m ∣ divisor_of zs
divisor_of-greatest [] m h = dvd-zero m
divisor_of-greatest (z ∷ zs) m h = (head_gcd z zs).2 m (h 0 z (omega arith)) (divisor_of-greatest zs m (λ k d l. h (suc k) d (omega arith)))

abbrev pub reduced : Line → Line
reduced raw =
    let g = divisor_of (line_numbers raw) in
    record { d = quot_z raw.d (pos g); c = quot_z raw.c (pos g); coefficients = map (λ e. quot_z e (pos g)) raw.coefficients }

divided_back : (g : ℕ) (zs : List ℤ) → 0 < g → ((k : ℕ) (d : ℤ) → k < length zs → g ∣ unsigned_abs (get_or zs k d)) → zs ≡ map (λ z. pos g *ℤ z) (map (λ e. quot_z e (pos g)) zs)
divided_back g [] p h = refl
divided_back g (z ∷ zs) p h =
    λ i. sym (exact_quotient (pos g) z (omega (arith, ints)) (h 0 z (omega arith))) i ∷ divided_back g zs p (λ k d l. h (suc k) d (omega arith)) i

quotient_positive : (g : ℕ) (z : ℤ) → 0 < g → g ∣ unsigned_abs z → pos 0 <ℤ z → pos 0 <ℤ quot_z z (pos g)
quotient_positive g (pos n) p h l = at (n / g) (exact_quotient (pos g) (pos n) (omega (arith, ints)) h)
  where
    at : (q : ℕ) → pos g *ℤ pos q ≡ pos n → pos 0 <ℤ pos q
    at zero e = absurd (let a : g * 0 ≡ n = ap unsigned_abs e in omega (arith, ints))
    at (suc q) e = omega (arith, ints)
quotient_positive g (negsuc n) p h l = absurd (omega (arith, ints))

pub reduced-is : (raw : Line) → pos 0 <ℤ raw.d → IsReduced raw (reduced raw)
reduced-is raw h =
    let zs = line_numbers raw in
    let g = divisor_of zs in
    let divides = divisor_of-divides zs in
    let p : 0 < g = pos_of_dvd_of_pos (divides 0 raw.d (omega arith)) (some_size raw.d h) in
    record {
      k = g;
      factor = p;
      same = divided_back g zs p divides;
      positive = quotient_positive g raw.d p (divides 0 raw.d (omega arith)) h;
      lowest = λ m all. eq-one_of_dvd-one (dvd_of_mul-dvd-mul_left m p (one_more g m (divisor_of-greatest zs (g * m) (λ k d l. scaled g zs p divides m k d l all))));
    }
  where
    one_more : (g m : ℕ) → (g * m) ∣ g → (g * m) ∣ (g * 1)
    one_more g m i = let e : g ≡ g * 1 = omega arith in subst (λ n. (g * m) ∣ n) e i

    scaled : (g : ℕ) (zs : List ℤ) → 0 < g → ((k : ℕ) (d : ℤ) → k < length zs → g ∣ unsigned_abs (get_or zs k d)) → (m k : ℕ) (d : ℤ) → k < length zs
        → All (λ z. m ∣ unsigned_abs z) (map (λ e. quot_z e (pos g)) zs) → (g * m) ∣ unsigned_abs (get_or zs k d)
    scaled g zs p divides m k d l all =
        let f : ℤ → ℤ = λ e. quot_z e (pos g) in
        let n = length-map zs f in
        let part : m ∣ unsigned_abs (quot_z (get_or zs k d) (pos g)) = subst (λ z. m ∣ unsigned_abs z) (get_or-map f zs k d d l) (all k d (omega arith)) in
        let whole = exact_quotient (pos g) (get_or zs k d) (omega (arith, ints)) (divides k d l) in
        let e : unsigned_abs (get_or zs k d) ≡ g * unsigned_abs (quot_z (get_or zs k d) (pos g)) = ap unsigned_abs (sym whole) ∙ unsigned_abs-mul (pos g) (quot_z (get_or zs k d) (pos g)) in
        subst (λ z. (g * m) ∣ z) (sym e) (mul-dvd-mul_left m g part)
