use Rattle.std.proofs.Common.{◌≡◌, ℕ, ◌-◌, ◌<◌, ◌^◌, ◌∙◌, ◌+ℤ◌, ◌-ℤ◌, ◌*ℤ◌, ℤ, List, ap, sym, subst, arith, length, length-set, unsigned_abs, to_z, of_z, w64}
use Rattle.strict_solver.specs.Rows.{number}
use Rattle.strict_solver.specs.Grids.{row_at}
use Rattle.strict_solver.specs.Standing.{fold_sum}
use Rattle.strict_solver.proofs.Rows.{set_next, narrow_all}
use Rattle.strict_solver.proofs.ShortRows.{word64}
use Rattle.strict_solver.proofs.Words.{word30}
use Rattle.strict_solver.proofs.basis.write_fold_of_rows.Goals as goal

-- a number of a row, as it is passed on
passed : (row is : List ℤ) (k : ℕ) → row ≡ is → unsigned_abs (number is k) < 2 ^ 30 → to_z w64 (of_z w64 (number row k)) ≡ number is k
passed row is k e h = ap (λ r. to_z w64 (of_z w64 (number r k))) e ∙ word30 (number is k) h

pub loop-k-preserved : goal.loop-k-preserved
loop-k-preserved c =
    let s = length c.args.line.now in
    let k = c.loop-k.k in
    let f = c.args.fold.now in
    let cells = c.args.cells.now in
    let out = c.loop-k.line in
    let lk : c.loop-k.k < length c.args.line.now = (let a = c.loop-k.invariant.count in omega arith) in
    let n = c.requires.cells in
    let a = passed c.row_of-a.result.now (row_at s cells (f.a - 1)) k c.row_of-a.ensures ((n.each (f.a - 1) (let x = c.requires.fold.a.0 in let y = c.requires.fold.a.1 in omega arith)).each k) in
    let b = passed c.row_of-b.result.now (row_at s cells (f.b - 1)) k c.row_of-b.ensures ((n.each (f.b - 1) (let x = c.requires.fold.b.0 in let y = c.requires.fold.b.1 in omega arith)).each k) in
    let g = passed c.row_of-c.result.now (row_at s cells (f.c - 1)) k c.row_of-c.ensures ((n.each (f.c - 1) (let x = c.requires.fold.c.0 in let y = c.requires.fold.c.1 in omega arith)).each k) in
    let d = passed c.row_of-d.result.now (row_at s cells (f.d - 1)) k c.row_of-d.ensures ((n.each (f.d - 1) (let x = c.requires.fold.d.0 in let y = c.requires.fold.d.1 in omega arith)).each k) in
    let z = c.fold_of-number.result in
    let small : unsigned_abs c.fold_of-number.result < 2 ^ 30 = (let u : unsigned_abs c.fold_of-number.result < 2 ^ 63 = (let h = c.fold_of-number.ensures.size in omega arith) in
    let e = c.unsigned_abs.ensures.value ∙ ap unsigned_abs (word64 c.fold_of-number.result u) in
    let h = c.if-unsigned_abs-ge-NUMBER_LIMIT.false in
    omega arith) in
    let word = word30 z small in
    let value : c.fold_of-number.result ≡ fold_sum (λ j. number (row_at (length c.args.line.now) c.args.cells.now j) c.loop-k.k) c.args.fold.now = c.fold_of-number.ensures.value ∙ (λ t. g t +ℤ d t -ℤ f.alpha *ℤ a t -ℤ f.beta *ℤ b t) in
    record {
      count = length-set out k (to_z w64 (of_z w64 z)) ∙ c.loop-k.invariant.count;
      each = set_next out k (to_z w64 (of_z w64 z)) (λ p v. v ≡ fold_sum (λ j. number (row_at s cells j) p) f) (let e = c.loop-k.invariant.count in omega arith) (word ∙ value) c.loop-k.invariant.each;
      small = set_next out k (to_z w64 (of_z w64 z)) (λ p v. unsigned_abs v < 2 ^ 30) (let e = c.loop-k.invariant.count in omega arith) (subst (λ v. unsigned_abs v < 2 ^ 30) (sym word) small) c.loop-k.invariant.small;
    }

pub returns-clause-answer : goal.returns-clause-answer
returns-clause-answer c = record {
  each = λ p l. c.loop-k.invariant.each p (omega arith);
  narrow = narrow_all 30 c.loop-k.line c.loop-k.k (let a = c.loop-k.invariant.count in omega arith) (λ p l. c.loop-k.invariant.small p l);
}
