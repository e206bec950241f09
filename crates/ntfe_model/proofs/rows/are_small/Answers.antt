use Rattle.std.proofs.Common.{ℕ, ◌<◌, ⊎_elim, refl, sym, subst, arith, ℤ, All, List, [], map, length, slice_index_or}
use Rattle.std.proofs.lemmas.List.{get_or-map, length-map}
use Rattle.ntfe_nums.specs.Vectors.{vector}
use Rattle.ntfe_model.specs.Pairs.{IsSmall}
use Rattle.ntfe_model.proofs.Triples.{decide_number}
use Rattle.ntfe_model.proofs.rows.are_small.Goals as goal

abbrev IsSmallAt : List (List ℤ) → ℕ → Type 0
IsSmallAt rows i = IsSmall (vector (slice_index_or rows i []))

from_all : (rows : List (List ℤ)) → All IsSmall (map vector rows) → (i : ℕ) → i < length rows → IsSmallAt rows i
from_all rows all i l = subst IsSmall (get_or-map vector rows i [] (vector []) l) (all i (vector []) (subst (λ n. i < n) (sym (length-map rows vector)) l))

pub loop-row-init : goal.loop-row-init
loop-row-init c = λ i l. absurd (omega (arith, l))

pub returns-then-not-is_small : goal.returns-then-not-is_small
returns-then-not-is_small c = (
  λ t. cc,
  λ all. rw c.if-not-is_small.true at ((c.is_small.ensures).1 (from_all c.args.rows.now all c.loop-row.row-index c.loop-row-test.true)),
)

pub loop-row-preserved : goal.loop-row-preserved
loop-row-preserved c = λ i l.
    ⊎_elim
    (λ e. subst (IsSmallAt c.args.rows.now) (sym e) ((c.is_small.ensures).0 c.if-not-is_small.false))
    (λ n. c.loop-row.invariant i (omega (arith, l, n)))
    (decide_number i c.loop-row.row-index)

pub returns : goal.returns
returns c = (
  λ t k d l.
      let m : k < length c.args.rows.now = subst (λ n. k < n) (length-map c.args.rows.now vector) l in
      subst IsSmall (sym (get_or-map vector c.args.rows.now k [] d m)) (c.loop-row.invariant k (omega (arith, m, c.loop-row-test.false))),
  λ all. refl,
)
