-- A number that stands at one place alone.
use Rattle.std.proofs.Common.{◌≡◌, ◌≢◌, ℕ, ◌==◌, true, false, cond, ap, arith, ℤ, pos}
use Rattle.std.proofs.lemmas.Bool.Decides.{nat_tests}
use Rattle.ntfe_model.specs.Certificates.{where_equal}

pub equal_there : (k : ℕ) (z : ℤ) → where_equal k k z ≡ z
equal_there k z = let e : (k == k) ≡ true = grind (arith, nat_tests) in ap (λ b. cond b z (pos 0)) e

pub equal_elsewhere : (j k : ℕ) (z : ℤ) → j ≢ k → where_equal j k z ≡ pos 0
equal_elsewhere j k z n = let e : (j == k) ≡ false = grind (arith, nat_tests, n) in ap (λ b. cond b z (pos 0)) e
