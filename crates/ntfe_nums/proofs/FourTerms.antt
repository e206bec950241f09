-- Two lists of four numbers each: the variables of their products, and the bounds of these.
use Rattle.std.proofs.Common.{ℕ, ℤ, List, [], ◌∷◌, pos, get_or}
use Rattle.ntfe_nums.specs.Sizes.{AreWithin}
use Rattle.ntfe_nums.proofs.Ring.{Expression}
use Rattle.ntfe_nums.proofs.Ring.Expression.{plus, times, var}
use Rattle.ntfe_nums.proofs.Machine.{AreBounded, AreWithin-four}

abbrev pub vars : List ℤ → List ℤ → List ℤ
vars xs ys = get_or xs 0 (pos 0) ∷ get_or xs 1 (pos 0) ∷ get_or xs 2 (pos 0) ∷ get_or xs 3 (pos 0) ∷ get_or ys 0 (pos 0) ∷ get_or ys 1 (pos 0) ∷ get_or ys 2 (pos 0) ∷ get_or ys 3 (pos 0) ∷ []

abbrev pub bounds : ℕ → ℕ → List ℕ
bounds m n = m ∷ m ∷ m ∷ m ∷ n ∷ n ∷ n ∷ n ∷ []

pub bounded : (m n : ℕ) (xs ys : List ℤ) → AreWithin m xs → AreWithin n ys → AreBounded (vars xs ys) (bounds m n)
bounded m n xs ys a b =
    let p = AreWithin-four m xs a in
    let q = AreWithin-four n ys b in
    (p 0, (p 1, (p 2, (p 3, (q 0, (q 1, (q 2, (q 3, tt))))))))

-- one product of the sum, and its first two
abbrev pub part : ℕ → ℕ → Expression
part i j = times (var i) (var j)

abbrev pub sum2 : Expression
sum2 = plus (part 0 4) (part 1 5)
