use Rattle.std.proofs.Common.{ℕ, ℤ, ◌≡◌, ◌≤◌, ◌∙◌, sym, subst, refl, unsigned_abs, w64, List, [], ◌∷◌, ◌-ℤ◌, ◌*ℤ◌}
use Rattle.ntfe_nums.proofs.Ring.{Expression, value}
use Rattle.ntfe_nums.proofs.Ring.Expression.{var, minus, times}
use Rattle.ntfe_nums.proofs.Machine.{AreBounded, exact, fits, machine, value-size}
use Rattle.fine_triples.proofs.meeting.shares_of.Goals as goal

abbrev vars : ℤ → ℤ → ℤ → ℤ → ℤ → List ℤ
vars dd ee de dr er = dd ∷ ee ∷ de ∷ dr ∷ er ∷ []

abbrev bounds : List ℕ
bounds = 16777216 ∷ 16777216 ∷ 16777216 ∷ 16777216 ∷ 16777216 ∷ []

bounded : (dd ee de dr er : ℤ) → unsigned_abs dd ≤ 16777216 → unsigned_abs ee ≤ 16777216 → unsigned_abs de ≤ 16777216 → unsigned_abs dr ≤ 16777216 → unsigned_abs er ≤ 16777216
    → AreBounded (vars dd ee de dr er) bounds
bounded dd ee de dr er p q r s t = (p, (q, (r, (s, (t, tt)))))

abbrev wholeE : Expression
wholeE = minus (times (var 0) (var 1)) (times (var 2) (var 2))

abbrev firstE : Expression
firstE = minus (times (var 3) (var 1)) (times (var 4) (var 2))

abbrev secondE : Expression
secondE = minus (times (var 3) (var 2)) (times (var 4) (var 0))

pub overflow_mul-result : goal.overflow_mul-result
overflow_mul-result c =
    fits w64 (vars c.product-dd.result c.product-ee.result c.product-de.result c.product-dr.result c.product-er.result) bounds
    (bounded c.product-dd.result c.product-ee.result c.product-de.result c.product-dr.result c.product-er.result c.product-dd.ensures.size c.product-ee.ensures.size c.product-de.ensures.size c.product-dr.ensures.size c.product-er.ensures.size)
    (times (var 0) (var 1)) refl

pub overflow_mul-result-2 : goal.overflow_mul-result-2
overflow_mul-result-2 c =
    fits w64 (vars c.product-dd.result c.product-ee.result c.product-de.result c.product-dr.result c.product-er.result) bounds
    (bounded c.product-dd.result c.product-ee.result c.product-de.result c.product-dr.result c.product-er.result c.product-dd.ensures.size c.product-ee.ensures.size c.product-de.ensures.size c.product-dr.ensures.size c.product-er.ensures.size)
    (times (var 2) (var 2)) refl

pub overflow_sub-result : goal.overflow_sub-result
overflow_sub-result c =
    fits w64 (vars c.product-dd.result c.product-ee.result c.product-de.result c.product-dr.result c.product-er.result) bounds
    (bounded c.product-dd.result c.product-ee.result c.product-de.result c.product-dr.result c.product-er.result c.product-dd.ensures.size c.product-ee.ensures.size c.product-de.ensures.size c.product-dr.ensures.size c.product-er.ensures.size)
    wholeE refl

pub overflow_mul-result-3 : goal.overflow_mul-result-3
overflow_mul-result-3 c =
    fits w64 (vars c.product-dd.result c.product-ee.result c.product-de.result c.product-dr.result c.product-er.result) bounds
    (bounded c.product-dd.result c.product-ee.result c.product-de.result c.product-dr.result c.product-er.result c.product-dd.ensures.size c.product-ee.ensures.size c.product-de.ensures.size c.product-dr.ensures.size c.product-er.ensures.size)
    (times (var 3) (var 1)) refl

pub overflow_mul-result-4 : goal.overflow_mul-result-4
overflow_mul-result-4 c =
    fits w64 (vars c.product-dd.result c.product-ee.result c.product-de.result c.product-dr.result c.product-er.result) bounds
    (bounded c.product-dd.result c.product-ee.result c.product-de.result c.product-dr.result c.product-er.result c.product-dd.ensures.size c.product-ee.ensures.size c.product-de.ensures.size c.product-dr.ensures.size c.product-er.ensures.size)
    (times (var 4) (var 2)) refl

pub overflow_sub-result-2 : goal.overflow_sub-result-2
overflow_sub-result-2 c =
    fits w64 (vars c.product-dd.result c.product-ee.result c.product-de.result c.product-dr.result c.product-er.result) bounds
    (bounded c.product-dd.result c.product-ee.result c.product-de.result c.product-dr.result c.product-er.result c.product-dd.ensures.size c.product-ee.ensures.size c.product-de.ensures.size c.product-dr.ensures.size c.product-er.ensures.size)
    firstE refl

pub overflow_mul-result-5 : goal.overflow_mul-result-5
overflow_mul-result-5 c =
    fits w64 (vars c.product-dd.result c.product-ee.result c.product-de.result c.product-dr.result c.product-er.result) bounds
    (bounded c.product-dd.result c.product-ee.result c.product-de.result c.product-dr.result c.product-er.result c.product-dd.ensures.size c.product-ee.ensures.size c.product-de.ensures.size c.product-dr.ensures.size c.product-er.ensures.size)
    (times (var 3) (var 2)) refl

pub overflow_mul-result-6 : goal.overflow_mul-result-6
overflow_mul-result-6 c =
    fits w64 (vars c.product-dd.result c.product-ee.result c.product-de.result c.product-dr.result c.product-er.result) bounds
    (bounded c.product-dd.result c.product-ee.result c.product-de.result c.product-dr.result c.product-er.result c.product-dd.ensures.size c.product-ee.ensures.size c.product-de.ensures.size c.product-dr.ensures.size c.product-er.ensures.size)
    (times (var 4) (var 0)) refl

pub overflow_sub-result-3 : goal.overflow_sub-result-3
overflow_sub-result-3 c =
    fits w64 (vars c.product-dd.result c.product-ee.result c.product-de.result c.product-dr.result c.product-er.result) bounds
    (bounded c.product-dd.result c.product-ee.result c.product-de.result c.product-dr.result c.product-er.result c.product-dd.ensures.size c.product-ee.ensures.size c.product-de.ensures.size c.product-dr.ensures.size c.product-er.ensures.size)
    secondE refl

pub returns-clause-n : goal.returns-clause-n
returns-clause-n c =
    exact w64 (vars c.product-dd.result c.product-ee.result c.product-de.result c.product-dr.result c.product-er.result) bounds
    (bounded c.product-dd.result c.product-ee.result c.product-de.result c.product-dr.result c.product-er.result c.product-dd.ensures.size c.product-ee.ensures.size c.product-de.ensures.size c.product-dr.ensures.size c.product-er.ensures.size)
    wholeE refl
    ∙ (λ i. c.product-dd.ensures.value i *ℤ c.product-ee.ensures.value i -ℤ c.product-de.ensures.value i *ℤ c.product-de.ensures.value i)

pub returns-clause-s : goal.returns-clause-s
returns-clause-s c =
    exact w64 (vars c.product-dd.result c.product-ee.result c.product-de.result c.product-dr.result c.product-er.result) bounds
    (bounded c.product-dd.result c.product-ee.result c.product-de.result c.product-dr.result c.product-er.result c.product-dd.ensures.size c.product-ee.ensures.size c.product-de.ensures.size c.product-dr.ensures.size c.product-er.ensures.size)
    firstE refl
    ∙ (λ i. c.product-dr.ensures.value i *ℤ c.product-ee.ensures.value i -ℤ c.product-er.ensures.value i *ℤ c.product-de.ensures.value i)

pub returns-clause-t : goal.returns-clause-t
returns-clause-t c =
    exact w64 (vars c.product-dd.result c.product-ee.result c.product-de.result c.product-dr.result c.product-er.result) bounds
    (bounded c.product-dd.result c.product-ee.result c.product-de.result c.product-dr.result c.product-er.result c.product-dd.ensures.size c.product-ee.ensures.size c.product-de.ensures.size c.product-dr.ensures.size c.product-er.ensures.size)
    secondE refl
    ∙ (λ i. c.product-dr.ensures.value i *ℤ c.product-de.ensures.value i -ℤ c.product-er.ensures.value i *ℤ c.product-dd.ensures.value i)

small : (vs : List ℤ) (e : Expression) (z : ℤ) → z ≡ value vs e → unsigned_abs (value vs e) ≤ 562949953421312 → unsigned_abs z ≤ 562949953421312
small vs e z p h = let P : ℤ → Type 0 = λ y. unsigned_abs y ≤ 562949953421312 in subst P (sym p) h

pub returns-clause-small : goal.returns-clause-small
returns-clause-small c =
    let vs = vars c.product-dd.result c.product-ee.result c.product-de.result c.product-dr.result c.product-er.result in
    let h =
    bounded c.product-dd.result c.product-ee.result c.product-de.result c.product-dr.result c.product-er.result c.product-dd.ensures.size c.product-ee.ensures.size c.product-de.ensures.size c.product-dr.ensures.size c.product-er.ensures.size in
    record {
      whole = small vs wholeE (machine w64 vs wholeE) (exact w64 vs bounds h wholeE refl) (value-size vs bounds wholeE h);
      first = small vs firstE (machine w64 vs firstE) (exact w64 vs bounds h firstE refl) (value-size vs bounds firstE h);
      second = small vs secondE (machine w64 vs secondE) (exact w64 vs bounds h secondE refl) (value-size vs bounds secondE h);
    }
