use Rattle.std.proofs.Common.{ℕ, ℤ, ◌≤◌, arith, refl, sym, subst, unsigned_abs, w64, List, [], ◌∷◌, get_or, pos}
use Rattle.ntfe_nums.specs.Sizes.{AreWithin}
use Rattle.ntfe_nums.proofs.Ring.{Expression}
use Rattle.ntfe_nums.proofs.Ring.Expression.{var, plus, minus, times}
use Rattle.ntfe_nums.proofs.Machine.{AreBounded, AreWithin-four, exact, fits, value-size}
use Rattle.face_chart.specs.declared.units.Multiples.{Multiples}
use Rattle.face_chart.specs.Units.{AreSmallMultiples}
use Rattle.face_chart.proofs.units.reached_at.Goals as goal

abbrev vars : List ℤ → List ℤ → List ℤ → Multiples → ℕ → List ℤ
vars a b c m i = get_or a i (pos 0) ∷ get_or b i (pos 0) ∷ get_or c i (pos 0) ∷ m.s ∷ m.t ∷ []

abbrev bounds : List ℕ
bounds = 1023 ∷ 1023 ∷ 1023 ∷ 16777216 ∷ 16777216 ∷ []

bounded : (a b c : List ℤ) (m : Multiples) (i : ℕ) → AreWithin 1023 a → AreWithin 1023 b → AreWithin 1023 c → AreSmallMultiples m → AreBounded (vars a b c m i) bounds
bounded a b c m i h k l s = (AreWithin-four 1023 a h i, (AreWithin-four 1023 b k i, (AreWithin-four 1023 c l i, (s.first, (s.second, tt)))))

abbrev secondE : Expression
secondE = times (var 3) (minus (var 1) (var 0))

abbrev thirdE : Expression
thirdE = times (var 4) (minus (var 2) (var 0))

pub overflow_mul-result : goal.overflow_mul-result
overflow_mul-result c =
    fits w64 (vars c.args.a.now c.args.b.now c.args.c.now c.args.m.now c.args.i) bounds
    (bounded c.args.a.now c.args.b.now c.args.c.now c.args.m.now c.args.i c.requires.a c.requires.b c.requires.c c.requires.multiples) secondE refl

pub overflow_mul-result-2 : goal.overflow_mul-result-2
overflow_mul-result-2 c =
    fits w64 (vars c.args.a.now c.args.b.now c.args.c.now c.args.m.now c.args.i) bounds
    (bounded c.args.a.now c.args.b.now c.args.c.now c.args.m.now c.args.i c.requires.a c.requires.b c.requires.c c.requires.multiples) thirdE refl

pub overflow_add-result : goal.overflow_add-result
overflow_add-result c =
    fits w64 (vars c.args.a.now c.args.b.now c.args.c.now c.args.m.now c.args.i) bounds
    (bounded c.args.a.now c.args.b.now c.args.c.now c.args.m.now c.args.i c.requires.a c.requires.b c.requires.c c.requires.multiples) (plus secondE thirdE) refl

pub overflow_add-result-2 : goal.overflow_add-result-2
overflow_add-result-2 c =
    fits w64 (vars c.args.a.now c.args.b.now c.args.c.now c.args.m.now c.args.i) bounds
    (bounded c.args.a.now c.args.b.now c.args.c.now c.args.m.now c.args.i c.requires.a c.requires.b c.requires.c c.requires.multiples) (plus (var 0) (plus secondE thirdE)) refl

pub returns : goal.returns
returns c =
    let vs = vars c.args.a.now c.args.b.now c.args.c.now c.args.m.now c.args.i in
    let h = bounded c.args.a.now c.args.b.now c.args.c.now c.args.m.now c.args.i c.requires.a c.requires.b c.requires.c c.requires.multiples in
    let e = exact w64 vs bounds h (plus (var 0) (plus secondE thirdE)) refl in
    let s = value-size vs bounds (plus (var 0) (plus secondE thirdE)) h in
    let P : ℤ → Type 0 = λ z. unsigned_abs z ≤ 1099511627776 in
    record { value = e; size = subst P (sym e) (omega (arith, s)) }
