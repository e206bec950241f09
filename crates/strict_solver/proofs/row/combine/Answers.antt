use Rattle.std.proofs.Common.{◌≡◌, ◌^◌, ◌<◌, ◌+ℤ◌, ◌*ℤ◌, length-set, sym, ◌∙◌, subst, arith, unsigned_abs, to_z, of_z, w64, pos}
use Rattle.std.specs.Int.{w128}
use Rattle.std.proofs.lemmas.List.{get_or_read}
use Rattle.strict_solver.specs.Rows.{number}
use Rattle.strict_solver.proofs.Rows.{unwrap64, unwrap128, set_next}
use Rattle.strict_solver.proofs.row.combine.Goals as goal

pub loop-k-preserved : goal.loop-k-preserved
loop-k-preserved c =
    let row = c.args.row.now in
    let items = c.args.pivot.now.numbers.items in
    let denominator = c.args.pivot.now.denominator in
    let factor = to_z w64 (of_z w64 c.args.factor) in
    let k = c.loop-k.k in
    let out = c.loop-k.out in
    let here : c.index.result.now ≡ number items k = get_or_read items k _ (omega arith) c.index.ensures (pos 0) in
    let taken : to_z w64 (of_z w64 c.index.result.now) ≡ number items k = (λ i. to_z w64 (of_z w64 (here i))) ∙ unwrap64 (number items k) (c.requires.pivot.each k) in
    let word : to_z w128 (of_z w128 c.mixed.result) ≡ c.mixed.result = unwrap128 c.mixed.result c.mixed.ensures.size in
    let value : to_z w128 (of_z w128 c.mixed.result) ≡ number row k *ℤ denominator +ℤ factor *ℤ number items k =
    word ∙ c.mixed.ensures.value ∙ (λ i. unwrap64 (number row k) (c.requires.row.each k) i *ℤ unwrap64 denominator c.requires.denominator i +ℤ factor *ℤ taken i) in
    let small : unsigned_abs (to_z w128 (of_z w128 c.mixed.result)) < 2 ^ 126 = subst (λ z. unsigned_abs z < 2 ^ 126) (sym word) c.mixed.ensures.size in (
      length-set out k _ ∙ c.loop-k.invariant.0,
      set_next out k (to_z w128 (of_z w128 c.mixed.result)) (λ j z. z ≡ number row j *ℤ denominator +ℤ factor *ℤ number items j) (omega arith) value c.loop-k.invariant.1,
      set_next out k (to_z w128 (of_z w128 c.mixed.result)) (λ j z. unsigned_abs z < 2 ^ 126) (omega arith) small c.loop-k.invariant.2,
    )
