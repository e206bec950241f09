use Rattle.std.proofs.Common.{◌≡◌, ◌^◌, ◌<◌, ◌∙◌, ℤ, ◌*ℤ◌, arith, sym, subst, ap, to_z, of_z, w64, unsigned_abs}
use Rattle.ntfe_nums.specs.Vectors.{sign}
use Rattle.strict_solver.specs.Rows.{number}
use Rattle.strict_solver.proofs.Rows.{zero_word}
use Rattle.strict_solver.proofs.Words.{word30}
use Rattle.strict_solver.proofs.PuttingIn.{put_in, put_in-same}
use Rattle.strict_solver.proofs.basis.put_in_row.Goals as goal

passed : (n w v z y : ℤ) → n ≡ sign w *ℤ v → w ≡ z → v ≡ y → n ≡ sign z *ℤ y
passed n w v z y e f g = e ∙ (λ t. sign (f t) *ℤ g t)

pub returns-then-times-divisor-clause-answer : goal.returns-then-times-divisor-clause-answer
returns-then-times-divisor-clause-answer c =
    let line = c.args.line.now in
    let row = c.args.row.now in
    let p = c.args.column in
    let lc = word30 (number line p) (c.requires.line.each p) in
    let rc = word30 (number row p) (c.requires.row.each p) in
    let times = passed _ _ _ (number line p) (number line p) c.signed-times.ensures.value lc lc in
    let factor = passed _ _ _ (number line p) (number row p) c.signed-factor.ensures.value lc rc in
    put_in-same line row p c.args.divisor.now.number c.requires.some
    (sym factor ∙ zero_word c.signed-factor.result (let a = c.signed-factor.ensures.size in omega arith) c.if-factor-eq0.true)
    (sym times ∙ sym (word30 c.signed-times.result c.signed-times.ensures.size) ∙ ap (to_z w64) c.if-times-divisor.true ∙ word30 c.args.divisor.now.number c.requires.divisor) c.requires.first c.requires.row

pub returns-clause-answer : goal.returns-clause-answer
returns-clause-answer c =
    let line = c.args.line.now in
    let row = c.args.row.now in
    let p = c.args.column in
    let lc = word30 (number line p) (c.requires.line.each p) in
    let rc = word30 (number row p) (c.requires.row.each p) in
    let times = passed _ _ _ (number line p) (number line p) c.signed-times.ensures.value lc lc in
    let factor = passed _ _ _ (number line p) (number row p) c.signed-factor.ensures.value lc rc in
    let wt = word30 c.signed-times.result c.signed-times.ensures.size in
    let wf = word30 c.signed-factor.result c.signed-factor.ensures.size in
    let P : ℤ → Type 0 = λ z. unsigned_abs z < 2 ^ 30 in
    put_in line row c.mix.new.row p c.args.divisor.now.number (to_z w64 (of_z w64 c.signed-times.result)) (to_z w64 (of_z w64 c.signed-factor.result)) c.mix.ensures.count c.requires.after c.requires.within (wt ∙ times) (wf ∙ factor)
    (subst P (sym wt) c.signed-times.ensures.size) (subst P (sym wf) c.signed-factor.ensures.size) c.if-not-mix.ensures.answer
