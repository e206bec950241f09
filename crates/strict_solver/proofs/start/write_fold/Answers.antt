use Rattle.std.proofs.Common.{◌+◌, ◌-◌, ◌∙◌, ap, arith, ◌+ℤ◌, length}
use Rattle.ntfe_model.specs.Certificates.{where_equal}
use Rattle.strict_solver.specs.Rows.{number}
use Rattle.strict_solver.proofs.Starting.{clear_small, sign_word, start_row}
use Rattle.strict_solver.proofs.start.write_fold.Goals as goal

pub add_at-requires-4-clause-small : goal.add_at-requires-4-clause-small
add_at-requires-4-clause-small c k =
    let e = clear_small c.clear_row.new.row c.clear_row.ensures.d c.clear_row.ensures.c c.clear_row.ensures.others k in
    let f = c.add_at.ensures.size k in
    let g = c.add_at-2.ensures.size k in
    let h = c.add_at-3.ensures.size k in
    omega arith

pub returns : goal.returns
returns c =
    let n = length c.args.row.now - 2 in
    let f = c.args.fold.now in
    let two = c.requires.two in
    start_row f n c.clear_row.new.row c.add_at.new.row c.add_at-2.new.row c.add_at-3.new.row c.add_at-4.new.row c.requires.fold c.clear_row.ensures.d c.clear_row.ensures.c c.clear_row.ensures.others
    c.add_at.ensures.each c.add_at-2.ensures.each
    (λ k. c.add_at-3.ensures.each k ∙ ap (λ z. number c.add_at-2.new.row k +ℤ where_equal (f.a + 1) k z) (sign_word f.alpha c.requires.fold.alpha))
    (λ k. c.add_at-4.ensures.each k ∙ ap (λ z. number c.add_at-3.new.row k +ℤ where_equal (f.b + 1) k z) (sign_word f.beta c.requires.fold.beta))
    (let a = c.clear_row.ensures.count in let b = c.add_at.ensures.count in let d = c.add_at-2.ensures.count in let e = c.add_at-3.ensures.count in let g = c.add_at-4.ensures.count in omega arith)
