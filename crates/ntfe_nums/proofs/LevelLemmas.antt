-- The size of a scalar product.
use Rattle.std.proofs.Common.{ℤ, ◌≡◌, ◌≤◌, ◌^◌, sym, subst, arith, List, [], ◌∷◌, unsigned_abs}
use Rattle.ntfe_nums.specs.Vectors.{vector, dot}
use Rattle.ntfe_nums.specs.Sizes.{AreWithin}
use Rattle.ntfe_nums.proofs.DetLemmas.{dotE, row, of4}
use Rattle.ntfe_nums.proofs.Machine.{AreWithin-numbers, value-size}

-- the level is small enough to be negated
pub level_size : (n x : List ℤ) (r : ℤ) → AreWithin (2 ^ 66) n → AreWithin (2 ^ 21) x → r ≡ dot (vector n) (vector x) → unsigned_abs r ≤ 2 ^ 90
level_size n x r h k e =
    let p = AreWithin-numbers (2 ^ 66) n h in
    let q = AreWithin-numbers (2 ^ 21) x k in
    let b = 2 ^ 66 in
    let s = 2 ^ 21 in
    let v = value-size (of4 (vector n) (vector x) (vector x) (vector x)) (b ∷ b ∷ b ∷ b ∷ s ∷ s ∷ s ∷ s ∷ s ∷ s ∷ s ∷ s ∷ s ∷ s ∷ s ∷ s ∷ []) (dotE (row 0) (row 4))
    (p.0, (p.1.0, (p.1.1.0, (p.1.1.1.0, (q.0, (q.1.0, (q.1.1.0, (q.1.1.1.0, (q.0, (q.1.0, (q.1.1.0, (q.1.1.1.0, (q.0, (q.1.0, (q.1.1.0, (q.1.1.1.0, tt)))))))))))))))) in
    let P : ℤ → Type 0 = λ z. unsigned_abs z ≤ 2 ^ 90 in
    subst P (sym e) (omega (arith, v))
