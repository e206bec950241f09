use Rattle.std.proofs.Common.{◌≡◌, ℕ, ◌+◌, ◌^◌, ◌<◌, ◌∙◌, ◌-ℤ◌, pos, ℤ, List, ap, sym, subst, set, arith, length, take, drop, ◌++◌, unsigned_abs, to_z, of_z, w64}
use Rattle.std.proofs.lemmas.List.{get_or_read}
use Rattle.strict_solver.specs.Rows.{number}
use Rattle.strict_solver.specs.Standing.{IsFoldOfRows}
use Rattle.strict_solver.proofs.Parts.{lent_back}
use Rattle.strict_solver.proofs.Words.{word30, difference_word}
use Rattle.strict_solver.proofs.Exchanging.{slack_written, slack_small}
use Rattle.strict_solver.proofs.basis.Basis.write_line.Goals as goal

pub returns-clause-answer : goal.returns-clause-answer
returns-clause-answer c =
    let b = c.args.self.now in
    let d = b.denominator in
    let sums = c.write_fold_of_rows.new.line in
    let kept = take b.line.len (c.write_fold_of_rows.new.line ++ drop (length c.write_fold_of_rows.new.line) b.line.items) in
    let stride : length c.deref_mut.result.now ≡ b.columns + 2 = ap (λ (xs : List ℤ). length xs) c.deref_mut.ensures.value ∙ c.requires.sized.line in
    let count : length c.write_fold_of_rows.new.line ≡ b.columns + 2 = c.write_fold_of_rows.ensures.count ∙ stride in
    let back : take b.line.len (c.write_fold_of_rows.new.line ++ drop (length c.write_fold_of_rows.new.line) b.line.items) ≡ c.write_fold_of_rows.new.line =
    lent_back b.line.len sums b.line.items (c.write_fold_of_rows.ensures.count ∙ c.deref_mut.ensures.len) in
    let P : ℕ → Type 0 = λ n. IsFoldOfRows n c.deref.result.now c.args.fold.now sums in
    let Q : List ℤ → Type 0 = λ xs. IsFoldOfRows (b.columns + 2) xs c.args.fold.now sums in
    let h = subst Q c.deref.ensures.value (subst P stride c.if-not-write_fold_of_rows.ensures.answer) in
    let first = to_z w64 (of_z w64 d) in
    let constant = to_z w64 (of_z w64 (to_z w64 (of_z w64 c.index.result.now) -ℤ to_z w64 (of_z w64 b.denominator))) in
    let ef = word30 d c.requires.sized.small in
    let same : length (take b.line.len (c.write_fold_of_rows.new.line ++ drop (length c.write_fold_of_rows.new.line) b.line.items)) ≡ length c.write_fold_of_rows.new.line = ap (λ (xs : List ℤ). length xs) back in
    let e1 : c.index.result.now ≡ number c.write_fold_of_rows.new.line 1 = get_or_read kept 1 c.index.result.now (omega arith) c.index.ensures (pos 0) ∙ ap (λ xs. number xs 1) back in
    let small1 = h.narrow.each 1 in
    let smalld = c.requires.sized.small in
    let ec = ap (λ z. to_z w64 (of_z w64 (to_z w64 (of_z w64 z) -ℤ to_z w64 (of_z w64 b.denominator)))) e1 ∙ difference_word (number c.write_fold_of_rows.new.line 1) b.denominator (omega arith) (omega arith) in
    let is = ap (λ xs. set (set xs 0 first) 1 constant) back in
    record {
      row = slack_written b.columns b.cells.items d c.args.fold.now sums _ first constant h count ef ec is;
      narrow = slack_small b.columns b.cells.items d c.args.fold.now sums _ first constant h count ef ec is (let Z : ℤ → Type 0 = λ z. unsigned_abs z < 2 ^ 30 in subst Z (sym ef) smalld)
          (let u = c.unsigned_abs.ensures.value in let l = c.if-unsigned_abs-ge-NUMBER_LIMIT.false in omega arith);
    }
