use Rattle.std.proofs.Common.{◌≡◌, ℕ, ℤ, ◌^◌, ◌<◌, ◌+ℤ◌, ◌*ℤ◌, List, [], ◌∷◌, refl, sym, ◌∙◌, subst, arith, unsigned_abs, to_z, of_z, w64}
use Rattle.std.specs.Int.{w128}
use Rattle.ntfe_nums.proofs.Ring.{Expression}
use Rattle.ntfe_nums.proofs.Ring.Expression.{plus, times, var}
use Rattle.ntfe_nums.proofs.Machine.{AreBounded, exact, fits, back, value-size}
use Rattle.strict_solver.proofs.row.mixed.Goals as goal

abbrev bounds : List ℕ
bounds = 2 ^ 62 ∷ 2 ^ 62 ∷ 2 ^ 62 ∷ 2 ^ 62 ∷ []

abbrev sum : Expression
sum = plus (times (var 0) (var 1)) (times (var 2) (var 3))

-- a small number passed on in a word of 64 bits
passed : (r z : ℤ) → r ≡ to_z w64 (of_z w64 z) → unsigned_abs z < 2 ^ 62 → r ≡ z
passed r z e h = e ∙ back w64 z (2 ^ 62) (omega arith) (omega arith)

bounded : (a b c d : ℤ) → unsigned_abs a < 2 ^ 62 → unsigned_abs b < 2 ^ 62 → unsigned_abs c < 2 ^ 62 → unsigned_abs d < 2 ^ 62 → AreBounded (a ∷ b ∷ c ∷ d ∷ []) bounds
bounded a b c d h i j k = (omega arith, (omega arith, (omega arith, (omega arith, tt))))

module _ (c : goal.After-from-4) where
  abbrev vars : List ℤ
  vars = c.from.result ∷ c.from-2.result ∷ c.from-3.result ∷ c.from-4.result ∷ []

  first : c.from.result ≡ c.args.a
  first = passed _ c.args.a c.from.ensures c.requires.first

  second : c.from-2.result ≡ c.args.b
  second = passed _ c.args.b c.from-2.ensures c.requires.second

  third : c.from-3.result ≡ c.args.c
  third = passed _ c.args.c c.from-3.ensures c.requires.third

  fourth : c.from-4.result ≡ c.args.d
  fourth = passed _ c.args.d c.from-4.ensures c.requires.fourth

  small : AreBounded (c.from.result ∷ c.from-2.result ∷ c.from-3.result ∷ c.from-4.result ∷ []) bounds
  small =
      bounded c.from.result c.from-2.result c.from-3.result c.from-4.result
      (subst (λ z. unsigned_abs z < 2 ^ 62) (sym first) c.requires.first)
      (subst (λ z. unsigned_abs z < 2 ^ 62) (sym second) c.requires.second)
      (subst (λ z. unsigned_abs z < 2 ^ 62) (sym third) c.requires.third)
      (subst (λ z. unsigned_abs z < 2 ^ 62) (sym fourth) c.requires.fourth)

pub overflow_add-result : goal.overflow_add-result
overflow_add-result c = fits w128 (c.from.result ∷ c.from-2.result ∷ c.from-3.result ∷ c.from-4.result ∷ []) bounds (small c) sum refl

pub returns-clause-value : goal.returns-clause-value
returns-clause-value c =
    exact w128 (c.from.result ∷ c.from-2.result ∷ c.from-3.result ∷ c.from-4.result ∷ []) bounds (small c) sum refl
    ∙ (λ i. first c i *ℤ second c i +ℤ third c i *ℤ fourth c i)

pub returns-clause-size : goal.returns-clause-size
returns-clause-size c =
    subst (λ z. unsigned_abs z < 2 ^ 126) (sym (exact w128 (c.from.result ∷ c.from-2.result ∷ c.from-3.result ∷ c.from-4.result ∷ []) bounds (small c) sum refl))
    (let h = value-size (c.from.result ∷ c.from-2.result ∷ c.from-3.result ∷ c.from-4.result ∷ []) bounds sum (small c) in omega (arith, h))
