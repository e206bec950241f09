use Rattle.std.proofs.Common.{◌==◌, cond, false, true, Bool, ◌≡◌, ℕ, ℤ, ◌∙◌, sym, ap, List, [], ◌∷◌, refl, subst, ◌+ℤ◌, ◌-ℤ◌, w64, to_z, of_z, unsigned_abs, ◌≤◌, pos, arith}
use Rattle.std.proofs.lemmas.Int.{ints}
use Rattle.ntfe_nums.proofs.Ring.{Expression, value}
use Rattle.ntfe_nums.proofs.Ring.Expression.{var, plus, minus}
use Rattle.ntfe_nums.proofs.Machine.{AreBounded, exact, fits, value-size}
use Rattle.ntfe_model.specs.Certificates.{where_equal, fold_coefficient}
use Rattle.ntfe_model.specs.declared.nogood.Fold.{Fold}
use Rattle.ntfe_model.specs.Choices.{IsSmallFold}
use Rattle.farkas_check.proofs.BalanceLemmas.{factor_word}
use Rattle.farkas_check.proofs.totals.coefficient.Goals as goal

-- a factor or 0 is no larger than the factor
where_size : (j k : ℕ) (z : ℤ) (m : ℕ) → unsigned_abs z ≤ m → unsigned_abs (where_equal j k z) ≤ m
where_size j k z m l = by (j == k)
  where
    by : (b : Bool) → unsigned_abs (cond b z (pos 0)) ≤ m
    by true = l
    by false = omega (arith, ints, l)

abbrev vars : ℤ → ℤ → ℤ → ℤ → List ℤ
vars c d a b = c ∷ d ∷ a ∷ b ∷ []

abbrev bounds : List ℕ
bounds = 1 ∷ 1 ∷ 4094 ∷ 4094 ∷ []

abbrev firstE : Expression
firstE = minus (plus (var 0) (var 1)) (var 2)

abbrev allE : Expression
allE = minus firstE (var 3)

-- the four parts of the coefficient, as they come from words of 64 bits
module _ (r : Fold) (k : ℕ) (c d a b : ℤ) (s : IsSmallFold r) (ec : c ≡ where_equal r.c k (pos 1)) (ed : d ≡ where_equal r.d k (pos 1))
    (fa : a ≡ where_equal r.a k (to_z w64 (of_z w64 r.alpha))) (fb : b ≡ where_equal r.b k (to_z w64 (of_z w64 r.beta))) where
  ea : a ≡ where_equal r.a k r.alpha
  ea = fa ∙ ap (where_equal r.a k) (factor_word r.alpha s.0)

  eb : b ≡ where_equal r.b k r.beta
  eb = fb ∙ ap (where_equal r.b k) (factor_word r.beta s.1)

  small : (x : ℤ) (j : ℕ) (z : ℤ) (m : ℕ) → x ≡ where_equal j k z → unsigned_abs z ≤ m → unsigned_abs x ≤ m
  small x j z m e l = let h = where_size j k z m l in omega (arith, h, ap unsigned_abs e)

  bounded : AreBounded (vars c d a b) bounds
  bounded = (small c r.c (pos 1) 1 ec (omega arith), (small d r.d (pos 1) 1 ed (omega arith), (small a r.a r.alpha 4094 ea s.0, (small b r.b r.beta 4094 eb s.1, tt))))

  is : value (vars c d a b) allE ≡ fold_coefficient r k
  is = λ t. ec t +ℤ ed t -ℤ ea t -ℤ eb t

pub overflow_sub-result : goal.overflow_sub-result
overflow_sub-result c =
    fits w64 (vars c.factor_at-third.result c.factor_at-fourth.result c.factor_at-first.result c.factor_at-second.result) bounds
    (bounded c.args.fold.now c.args.point _ _ _ _ c.requires c.factor_at-third.ensures c.factor_at-fourth.ensures c.factor_at-first.ensures c.factor_at-second.ensures) firstE refl

pub overflow_sub-result-2 : goal.overflow_sub-result-2
overflow_sub-result-2 c =
    fits w64 (vars c.factor_at-third.result c.factor_at-fourth.result c.factor_at-first.result c.factor_at-second.result) bounds
    (bounded c.args.fold.now c.args.point _ _ _ _ c.requires c.factor_at-third.ensures c.factor_at-fourth.ensures c.factor_at-first.ensures c.factor_at-second.ensures) allE refl

pub returns-clause-value : goal.returns-clause-value
returns-clause-value c =
    exact w64 (vars c.factor_at-third.result c.factor_at-fourth.result c.factor_at-first.result c.factor_at-second.result) bounds
    (bounded c.args.fold.now c.args.point _ _ _ _ c.requires c.factor_at-third.ensures c.factor_at-fourth.ensures c.factor_at-first.ensures c.factor_at-second.ensures) allE refl
    ∙ is c.args.fold.now c.args.point _ _ _ _ c.requires c.factor_at-third.ensures c.factor_at-fourth.ensures c.factor_at-first.ensures c.factor_at-second.ensures

pub returns-clause-size : goal.returns-clause-size
returns-clause-size c =
    let vs = vars c.factor_at-third.result c.factor_at-fourth.result c.factor_at-first.result c.factor_at-second.result in
    let h = bounded c.args.fold.now c.args.point _ _ _ _ c.requires c.factor_at-third.ensures c.factor_at-fourth.ensures c.factor_at-first.ensures c.factor_at-second.ensures in
    let P : ℤ → Type 0 = λ z. unsigned_abs z ≤ 8190 in
    subst P (sym (exact w64 vs bounds h allE refl)) (value-size vs bounds allE h)
