use Rattle.std.proofs.Common.{◌∙◌, ◌+◌, ◌-◌, ◌*◌, ◌^◌, ◌<◌, ◌≤◌, sym, subst, arith, length, unsigned_abs, ℤ}
use Rattle.strict_solver.proofs.Parts.{cell_read}
use Rattle.strict_solver.proofs.PuttingIn.{row_fits}
use Rattle.strict_solver.proofs.Words.{word30}
use Rattle.strict_solver.proofs.basis.Basis.cell.Goals as goal

pub returns-clause-value : goal.returns-clause-value
returns-clause-value c =
    let b = c.args.self.now in
    let k = c.args.point - 1 in
    let s = c.requires.sized in
    let l : c.args.point - 1 < b.columns = (let f = c.requires.from in let w = c.requires.within in omega arith) in
    let room : (c.args.point - 1) * (b.columns + 2) + (b.columns + 2) ≤ length b.cells.items = (let a = s.cells in let r = row_fits b.columns (b.columns + 2) k l in omega arith) in
    let e = cell_read (b.columns + 2) b.cells.items k c.args.place c.index.result.now c.requires.place room c.index.ensures in
    let P : ℤ → Type 0 = λ z. unsigned_abs z < 2 ^ 30 in
    word30 c.index.result.now (subst P (sym e) ((s.narrow.each k l).each c.args.place)) ∙ e

pub returns-clause-size : goal.returns-clause-size
returns-clause-size c =
    let b = c.args.self.now in
    let k = c.args.point - 1 in
    let l : c.args.point - 1 < b.columns = (let f = c.requires.from in let w = c.requires.within in omega arith) in
    let P : ℤ → Type 0 = λ z. unsigned_abs z < 2 ^ 30 in
    subst P (sym (returns-clause-value c)) ((c.requires.sized.narrow.each k l).each c.args.place)
