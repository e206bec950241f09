use Rattle.std.proofs.Common.{◌≡◌, ◌∙◌, sym, subst, arith, ℤ, pos, get_or, below_more, w64, arith}
use Rattle.ntfe_nums.proofs.Machine.{back}
use Rattle.ntfe_model.proofs.SmallVectors.{small_coordinates}
use Rattle.fold_rows.specs.Rows.{IsBalance}
use Rattle.fold_rows.proofs.FactorLemmas.{word_once, balance_at, vectors_same}
use Rattle.fold_rows.proofs.factor.factor.Goals as goal

pub factor_at-requires-clause-a : goal.factor_at-requires-clause-a
factor_at-requires-clause-a c = small_coordinates c.args.a.now c.coordinates-a.result.now c.requires.a c.coordinates-a.ensures.list

pub factor_at-requires-clause-b : goal.factor_at-requires-clause-b
factor_at-requires-clause-b c = small_coordinates c.args.b.now c.coordinates-b.result.now c.requires.b c.coordinates-b.ensures.list

pub factor_at-requires-clause-c : goal.factor_at-requires-clause-c
factor_at-requires-clause-c c = small_coordinates c.args.c.now c.coordinates-c.result.now c.requires.c c.coordinates-c.ensures.list

pub factor_at-requires-clause-d : goal.factor_at-requires-clause-d
factor_at-requires-clause-d c = small_coordinates c.args.d.now c.coordinates-d.result.now c.requires.d c.coordinates-d.ensures.list

pub factor_at-requires-clause-whole : goal.factor_at-requires-clause-whole
factor_at-requires-clause-whole c = (
  c.requires.balanced.0,
  balance_at c.args.a.now c.args.b.now c.args.c.now c.args.d.now c.requires.balanced.0 c.coordinates-a.result.now c.coordinates-b.result.now c.coordinates-c.result.now c.coordinates-d.result.now c.loop-i.i
      c.coordinates-a.ensures.list c.coordinates-b.ensures.list c.coordinates-c.ensures.list c.coordinates-d.ensures.list c.loop-i-test.true c.requires.balanced.1,
)

pub returns-then-a-i-clause-value : goal.returns-then-a-i-clause-value
returns-then-a-i-clause-value c =
    let n = c.requires.balanced.0 in
    let e = c.factor_at.ensures.value n
    (balance_at c.args.a.now c.args.b.now c.args.c.now c.args.d.now n c.coordinates-a.result.now c.coordinates-b.result.now c.coordinates-c.result.now c.coordinates-d.result.now c.loop-i.i
    c.coordinates-a.ensures.list c.coordinates-b.ensures.list c.coordinates-c.ensures.list c.coordinates-d.ensures.list c.loop-i-test.true c.requires.balanced.1) in
    let P : ℤ → Type 0 = IsBalance c.args.a.now c.args.b.now c.args.c.now c.args.d.now in
    subst P (sym (back w64 c.factor_at.result 4092 c.factor_at.ensures.size (omega arith) ∙ e)) c.requires.balanced.1

pub loop-i-preserved : goal.loop-i-preserved
loop-i-preserved c =
    let a = c.coordinates-a.result.now in
    let b = c.coordinates-b.result.now in
    below_more (λ k. get_or a k (pos 0) ≡ get_or b k (pos 0)) c.loop-i.i c.loop-i.invariant
    (word_once a b c.loop-i.i (small_coordinates c.args.a.now a c.requires.a c.coordinates-a.ensures.list) (small_coordinates c.args.b.now b c.requires.b c.coordinates-b.ensures.list) c.if-a-i.false)

pub returns-clause-value : goal.returns-clause-value
returns-clause-value c =
    absurd (c.requires.distinct
    (vectors_same c.args.a.now c.args.b.now c.coordinates-a.result.now c.coordinates-b.result.now c.coordinates-a.ensures.list c.coordinates-b.ensures.list
    (λ j l. c.loop-i.invariant j (let f = c.loop-i-test.false in omega (arith, l, f)))))
