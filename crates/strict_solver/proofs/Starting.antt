-- The rows of the start.
use Rattle.std.proofs.Common.{◌≡◌, ℕ, zero, suc, ◌+◌, ◌^◌, ◌<◌, ◌≤◌, ◌==◌, Bool, true, false, cond, refl, sym, ap, ◌∙◌, arith, ℤ, pos, ◌+ℤ◌, ◌-ℤ◌, neg_ℤ, List, length, unsigned_abs, to_z, of_z, w64}
use Rattle.std.proofs.lemmas.Int.{ints}
use Rattle.std.proofs.lemmas.Bool.Decides.{nat_tests}
use Rattle.ntfe_model.specs.Certificates.{where_equal, fold_coefficient}
use Rattle.std.specs.List.{range_with_len}
use Rattle.std.proofs.lemmas.List.{length-map}
use Rattle.ntfe_model.specs.declared.nogood.Fold.{Fold}
use Rattle.ntfe_model.specs.Solver.{fold_row}
use Rattle.strict_solver.specs.Rows.{number}
use Rattle.strict_solver.specs.Starts.{IsFoldOver, IsStartRow}
use Rattle.strict_solver.proofs.Rows.{unwrap64}
use Rattle.ntfe_model.proofs.Coefficients.{equal_elsewhere}
use Rattle.ntfe_model.proofs.Lists.{range_length}

pub fold_row-length : (n : ℕ) (f : Fold) → length (fold_row n f) ≡ n
fold_row-length n f = length-map (range_with_len 1 n) (fold_coefficient f) ∙ range_length 1 n

pub clear_small : (row : List ℤ) → number row 0 ≡ pos 1 → number row 1 ≡ neg_ℤ (pos 1) → ((k : ℕ) → 2 ≤ k → number row k ≡ pos 0) → (k : ℕ) → unsigned_abs (number row k) ≤ 1
clear_small row a b c zero = omega (arith, ints)
clear_small row a b c (suc zero) = omega (arith, ints)
clear_small row a b c (suc (suc k)) = let e = c (suc (suc k)) (omega arith) in omega (arith, ints)

pub shifted : (j k : ℕ) (z : ℤ) → where_equal (j + 1) (k + 2) z ≡ where_equal j (k + 1) z
shifted j k z = ap (λ b. cond b z (pos 0)) (let e : (j + 1 == k + 2) ≡ (j == k + 1) = same (j == k + 1) refl in e)
  where
    same : (b : Bool) → (j == k + 1) ≡ b → (j + 1 == k + 2) ≡ b
    same true e = let f : j ≡ k + 1 = grind (arith, nat_tests) in grind (arith, nat_tests)
    same false e = by (j + 1 == k + 2) refl
      where
        by : (c : Bool) → (j + 1 == k + 2) ≡ c → c ≡ false
        by true g = let h : j + 1 ≡ k + 2 = grind (arith, nat_tests) in let i : j ≡ k + 1 = omega arith in absurd (let l : (j == k + 1) ≡ true = grind (arith, nat_tests) in (let m : true ≡ false = sym l ∙ e in cc))
        by false g = refl

negated : (j k : ℕ) (z : ℤ) → where_equal j k (neg_ℤ z) ≡ neg_ℤ (where_equal j k z)
negated j k z = by (j == k)
  where
    by : (b : Bool) → cond b (neg_ℤ z) (pos 0) ≡ neg_ℤ (cond b z (pos 0))
    by true = refl
    by false = refl

-- the word of a changed sign
pub sign_word : (z : ℤ) → unsigned_abs z ≤ 4094 → to_z w64 (of_z w64 (pos 0 -ℤ to_z w64 (of_z w64 z))) ≡ neg_ℤ z
sign_word z h =
    let small : unsigned_abs (pos 0 -ℤ z) < 2 ^ 62 = omega (arith, ints) in
    let own : unsigned_abs z < 2 ^ 62 = omega (arith, ints) in
    let f : pos 0 -ℤ z ≡ neg_ℤ z = omega (arith, ints) in
    (λ i. to_z w64 (of_z w64 (pos 0 -ℤ unwrap64 z own i))) ∙ unwrap64 _ small ∙ f

module _ (f : Fold) (n : ℕ) (r0 r1 r2 r3 r4 : List ℤ) (h : IsFoldOver n f) (z0 : number r0 0 ≡ pos 1) (z1 : number r0 1 ≡ neg_ℤ (pos 1)) (zs : (k : ℕ) → 2 ≤ k → number r0 k ≡ pos 0)
    (a1 : (k : ℕ) → number r1 k ≡ number r0 k +ℤ where_equal (f.c + 1) k (pos 1)) (a2 : (k : ℕ) → number r2 k ≡ number r1 k +ℤ where_equal (f.d + 1) k (pos 1))
    (a3 : (k : ℕ) → number r3 k ≡ number r2 k +ℤ where_equal (f.a + 1) k (neg_ℤ f.alpha)) (a4 : (k : ℕ) → number r4 k ≡ number r3 k +ℤ where_equal (f.b + 1) k (neg_ℤ f.beta)) where
  in_all : (k : ℕ) → number r4 k ≡ number r0 k +ℤ where_equal (f.c + 1) k (pos 1) +ℤ where_equal (f.d + 1) k (pos 1) +ℤ where_equal (f.a + 1) k (neg_ℤ f.alpha) +ℤ where_equal (f.b + 1) k (neg_ℤ f.beta)
  in_all k =
      a4 k ∙ ap (λ z. z +ℤ where_equal (f.b + 1) k (neg_ℤ f.beta)) (a3 k ∙ ap (λ z. z +ℤ where_equal (f.a + 1) k (neg_ℤ f.alpha)) (a2 k ∙ ap (λ z. z +ℤ where_equal (f.d + 1) k (pos 1)) (a1 k)))

  early : (k : ℕ) → k < 2 → number r4 k ≡ number r0 k
  early k l =
      in_all k
      ∙ (λ i. number r0 k +ℤ equal_elsewhere (f.c + 1) k (pos 1) (λ e. let a = h.c.0 in omega arith) i +ℤ equal_elsewhere (f.d + 1) k (pos 1) (λ e. let a = h.d.0 in omega arith) i
      +ℤ equal_elsewhere (f.a + 1) k (neg_ℤ f.alpha) (λ e. let a = h.a.0 in omega arith) i +ℤ equal_elsewhere (f.b + 1) k (neg_ℤ f.beta) (λ e. let a = h.b.0 in omega arith) i)
      ∙ plain (number r0 k)
    where
      plain : (z : ℤ) → z +ℤ pos 0 +ℤ pos 0 +ℤ pos 0 +ℤ pos 0 ≡ z
      plain z = omega (arith, ints)

  pub start_coefficient : (k : ℕ) → number r4 (k + 2) ≡ fold_coefficient f (k + 1)
  start_coefficient k =
      in_all (k + 2)
      ∙ (λ i. zs (k + 2) (omega arith) i +ℤ shifted f.c k (pos 1) i +ℤ shifted f.d k (pos 1) i +ℤ shifted f.a k (neg_ℤ f.alpha) i +ℤ shifted f.b k (neg_ℤ f.beta) i)
      ∙ (λ i. pos 0 +ℤ where_equal f.c (k + 1) (pos 1) +ℤ where_equal f.d (k + 1) (pos 1) +ℤ negated f.a (k + 1) f.alpha i +ℤ negated f.b (k + 1) f.beta i)
      ∙ sums (where_equal f.c (k + 1) (pos 1)) (where_equal f.d (k + 1) (pos 1)) (where_equal f.a (k + 1) f.alpha) (where_equal f.b (k + 1) f.beta)
    where
      sums : (x y v w : ℤ) → pos 0 +ℤ x +ℤ y +ℤ neg_ℤ v +ℤ neg_ℤ w ≡ x +ℤ y -ℤ v -ℤ w
      sums x y v w = omega (arith, ints)

  pub start_row : length r4 ≡ n + 2 → IsStartRow n f r4
  start_row c = record { count = c; d = early 0 (omega arith) ∙ z0; c = early 1 (omega arith) ∙ z1; coefficients = λ k l. start_coefficient k }
