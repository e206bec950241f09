use Rattle.std.proofs.Common.{◌≤◌, arith, refl, sym, subst, unsigned_abs, ℤ, w64}
use Rattle.ntfe_nums.proofs.Machine.{exact, fits, value-size}
use Rattle.ntfe_model.proofs.FlatLemmas.{vars, bounds, bounded, leftE, rightE, areaE}
use Rattle.ntfe_model.proofs.flat.flat_area.Goals as goal

pub overflow_mul-result : goal.overflow_mul-result
overflow_mul-result c =
    let a = c.args.a.now in
    let b = c.args.b.now in
    let d = c.args.c.now in
    fits w64 (vars a b d) bounds (bounded a b d c.requires.a c.requires.b c.requires.c) leftE refl

pub overflow_mul-result-2 : goal.overflow_mul-result-2
overflow_mul-result-2 c =
    let a = c.args.a.now in
    let b = c.args.b.now in
    let d = c.args.c.now in
    fits w64 (vars a b d) bounds (bounded a b d c.requires.a c.requires.b c.requires.c) rightE refl

pub overflow_sub-result-5 : goal.overflow_sub-result-5
overflow_sub-result-5 c =
    let a = c.args.a.now in
    let b = c.args.b.now in
    let d = c.args.c.now in
    fits w64 (vars a b d) bounds (bounded a b d c.requires.a c.requires.b c.requires.c) areaE refl

pub returns : goal.returns
returns c =
    let a = c.args.a.now in
    let b = c.args.b.now in
    let d = c.args.c.now in
    let h = bounded a b d c.requires.a c.requires.b c.requires.c in
    let e = exact w64 (vars a b d) bounds h areaE refl in
    let s = value-size (vars a b d) bounds areaE h in
    let P : ℤ → Type 0 = λ z. unsigned_abs z ≤ 16777216 in
    record { value = e; size = subst P (sym e) (omega (arith, s)) }
