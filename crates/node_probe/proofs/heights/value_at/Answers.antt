use Rattle.std.proofs.Common.{◌≡◌, ◌≤◌, ◌^◌, ◌+ℤ◌, ◌-ℤ◌, ◌*ℤ◌, ap, ◌∙◌, refl, arith, ℕ, ℤ, List, [], ◌∷◌, FitsSigned, to_z, of_z, to_z-of_z, w64, unsigned_abs}
use Rattle.std.specs.Int.{w128}
use Rattle.std.specs.Int.Signed.{nat_abs-le}
use Rattle.ntfe_nums.proofs.Ring.{Expression}
use Rattle.ntfe_nums.proofs.Ring.Expression.{var, plus, minus, times}
use Rattle.ntfe_nums.proofs.Machine.{AreBounded, back, exact, fits}
use Rattle.node_probe.proofs.heights.value_at.Goals as goal

abbrev bounds : List ℕ
bounds = 4094 ∷ 2 ^ 63 ∷ 4094 ∷ 2 ^ 63 ∷ 2 ^ 63 ∷ 2 ^ 63 ∷ []

abbrev firstE : Expression
firstE = minus (plus (var 4) (var 5)) (times (var 0) (var 1))

abbrev allE : Expression
allE = minus firstE (times (var 2) (var 3))

-- a factor, as it comes from its word
factor_is : (x z : ℤ) → unsigned_abs z ≤ 4094 → x ≡ to_z w64 (of_z w64 z) → x ≡ z
factor_is x z s e = e ∙ back w64 z 4094 s (omega arith)

factor_size : (x z : ℤ) → unsigned_abs z ≤ 4094 → x ≡ to_z w64 (of_z w64 z) → unsigned_abs x ≤ 4094
factor_size x z s e = let q = ap unsigned_abs (factor_is x z s e) in omega (arith, s, q)

-- a height
height_is : (x z : ℤ) → FitsSigned w64 z → x ≡ to_z w64 (of_z w64 z) → x ≡ z
height_is x z f e = e ∙ to_z-of_z f

height_size : (x z : ℤ) → FitsSigned w64 z → x ≡ to_z w64 (of_z w64 z) → unsigned_abs x ≤ 2 ^ 63
height_size x z f e =
    let l = nat_abs-le z f.sfits in
    let q = ap unsigned_abs (height_is x z f e) in
    omega (arith, l, q)

-- the factors and heights as the code has them
abbrev vars : goal.After-from-fourth → List ℤ
vars c = c.from.result ∷ c.from-2.result ∷ c.from-3.result ∷ c.from-4.result ∷ c.from-third.result ∷ c.from-fourth.result ∷ []

bounded : (c : goal.After-from-fourth) → AreBounded (vars c) bounds
bounded c =
    let word = λ (x z : ℤ) (f : FitsSigned w64 z) (e : x ≡ to_z w64 (of_z w64 z)). height_size x z f e in (
      factor_size c.from.result c.args.fold.now.alpha c.requires.0 c.from.ensures,
      (
        word c.from-2.result c.height_of.result (record { sfits = c.height_of.type_inv }) c.from-2.ensures,
        (
          factor_size c.from-3.result c.args.fold.now.beta c.requires.1 c.from-3.ensures,
          (
            word c.from-4.result c.height_of-2.result (record { sfits = c.height_of-2.type_inv }) c.from-4.ensures,
            (
              word c.from-third.result c.height_of-3.result (record { sfits = c.height_of-3.type_inv }) c.from-third.ensures,
              (word c.from-fourth.result c.height_of-4.result (record { sfits = c.height_of-4.type_inv }) c.from-fourth.ensures, tt),
            ),
          ),
        ),
      ),
    )

pub overflow_sub-result : goal.overflow_sub-result
overflow_sub-result c = fits w128 (vars c) bounds (bounded c) firstE refl

pub overflow_sub-result-2 : goal.overflow_sub-result-2
overflow_sub-result-2 c = fits w128 (vars c) bounds (bounded c) allE refl

pub returns : goal.returns
returns c =
    let r = c.args.fold.now in
    let alpha = factor_is c.from.result r.alpha c.requires.0 c.from.ensures in
    let first = height_is c.from-2.result c.height_of.result (record { sfits = c.height_of.type_inv }) c.from-2.ensures ∙ c.height_of.ensures in
    let beta = factor_is c.from-3.result r.beta c.requires.1 c.from-3.ensures in
    let second = height_is c.from-4.result c.height_of-2.result (record { sfits = c.height_of-2.type_inv }) c.from-4.ensures ∙ c.height_of-2.ensures in
    let third = height_is c.from-third.result c.height_of-3.result (record { sfits = c.height_of-3.type_inv }) c.from-third.ensures ∙ c.height_of-3.ensures in
    let fourth = height_is c.from-fourth.result c.height_of-4.result (record { sfits = c.height_of-4.type_inv }) c.from-fourth.ensures ∙ c.height_of-4.ensures in
    exact w128 (vars c) bounds (bounded c) allE refl ∙ (λ t. third t +ℤ fourth t -ℤ alpha t *ℤ first t -ℤ beta t *ℤ second t)
