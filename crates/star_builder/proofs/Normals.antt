-- A linear form is fixed by its values at four independent vectors.
--     form_fixed      two forms with the same values there have the same values everywhere
--     normal_fixed      and are equal
use Rattle.std.proofs.Common.{◌≡◌, ◌≢◌, sym, ◌∙◌, arith, ℤ, pos, ◌+ℤ◌, ◌*ℤ◌}
use Rattle.std.proofs.lemmas.Int.{ints}
use Rattle.ntfe_nums.specs.Vectors.{Vector, dot, det4}
use Rattle.ntfe_model.proofs.PlaneNumbers.{cancel_other}
use Rattle.ntfe_nums.proofs.Signs.{product_exchanged}
use Rattle.ntfe_nums.proofs.Exchanges.{cramer_form}

pub cancel_factor : (k x y : ℤ) → k ≢ pos 0 → k *ℤ x ≡ k *ℤ y → x ≡ y
cancel_factor k x y n e = cancel_other x y k n (product_exchanged x k ∙ e ∙ product_exchanged k y)

module _ (m n a b c d : Vector) (independent : det4 a b c d ≢ pos 0) (ea : dot m a ≡ dot n a) (eb : dot m b ≡ dot n b) (ec : dot m c ≡ dot n c) (ed : dot m d ≡ dot n d) where
  pub form_fixed : (p : Vector) → dot m p ≡ dot n p
  form_fixed p =
      cancel_factor (det4 a b c d) (dot m p) (dot n p) independent
      (cramer_form m a b c d p ∙ (λ i. det4 p b c d *ℤ ea i +ℤ det4 a p c d *ℤ eb i +ℤ det4 a b p d *ℤ ec i +ℤ det4 a b c p *ℤ ed i) ∙ sym (cramer_form n a b c d p))

  abbrev unit : ℤ → ℤ → ℤ → ℤ → Vector
  unit i j k l = record { x1 = i; x2 = j; x3 = k; x4 = l }

  pub normal_fixed : m ≡ n
  normal_fixed = λ i. record { x1 = first i; x2 = second i; x3 = third i; x4 = fourth i }
    where
      first : m.x1 ≡ n.x1
      first = sym (picked m) ∙ form_fixed (unit (pos 1) (pos 0) (pos 0) (pos 0)) ∙ picked n
        where
          picked : (m : Vector) → dot m (unit (pos 1) (pos 0) (pos 0) (pos 0)) ≡ m.x1
          picked m = omega (arith, ints)

      second : m.x2 ≡ n.x2
      second = sym (picked m) ∙ form_fixed (unit (pos 0) (pos 1) (pos 0) (pos 0)) ∙ picked n
        where
          picked : (m : Vector) → dot m (unit (pos 0) (pos 1) (pos 0) (pos 0)) ≡ m.x2
          picked m = omega (arith, ints)

      third : m.x3 ≡ n.x3
      third = sym (picked m) ∙ form_fixed (unit (pos 0) (pos 0) (pos 1) (pos 0)) ∙ picked n
        where
          picked : (m : Vector) → dot m (unit (pos 0) (pos 0) (pos 1) (pos 0)) ≡ m.x3
          picked m = omega (arith, ints)

      fourth : m.x4 ≡ n.x4
      fourth = sym (picked m) ∙ form_fixed (unit (pos 0) (pos 0) (pos 0) (pos 1)) ∙ picked n
        where
          picked : (m : Vector) → dot m (unit (pos 0) (pos 0) (pos 0) (pos 1)) ≡ m.x4
          picked m = omega (arith, ints)
