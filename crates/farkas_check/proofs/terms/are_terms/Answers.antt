use Rattle.std.proofs.Common.{◌≡◌, ◌+◌, ◌<◌, ◌≤◌, ℕ, List, length, get_or, take, ap, subst, arith, refl}
use Rattle.std.specs.Prelude.{All}
use Rattle.std.proofs.lemmas.List.{take_all}
use Rattle.std.proofs.lemmas.List.Elements.{All-more}
use Rattle.ntfe_model.specs.Certificates.{IsTermOf}
use Rattle.ntfe_model.specs.declared.nogood.Term.{Term}
use Rattle.farkas_check.proofs.terms.are_terms.Goals as goal

-- where the terms ts are read as us
module _ (P : Term → Type 0) (ts us : List Term) (e : us ≡ ts) (i : ℕ) where
  one_more : (d : Term) → i < length us → All P (take i ts) → P (get_or us i d) → All P (take (i + 1) ts)
  one_more d l h p =
      let Q : List Term → Type 0 = λ xs. (i < length xs) × P (get_or xs i d) in
      let k = subst Q e (l, p) in
      All-more P ts i d k.0 h k.1

  all_of_them : length us ≤ i → All P (take i ts) → All P ts
  all_of_them l h = let Q : List Term → Type 0 = All P in subst Q (take_all i ts (let n = ap length e in omega (arith, l, n))) h

pub loop-term-preserved : goal.loop-term-preserved
loop-term-preserved g c =
    one_more (IsTermOf c.args.geometry.now c.args.nogood.now) c.args.nogood.now.terms c.as_slice-term-items.result.now c.as_slice-term-items.ensures c.loop-term.term-index _ c.loop-term-test.true
    c.loop-term.invariant (c.if-not-is_term.ensures.when_true refl)

pub returns-clause-when_true : goal.returns-clause-when_true
returns-clause-when_true g c = λ e.
    all_of_them (IsTermOf c.args.geometry.now c.args.nogood.now) c.args.nogood.now.terms c.as_slice-term-items.result.now c.as_slice-term-items.ensures c.loop-term.term-index c.loop-term-test.false
    c.loop-term.invariant
