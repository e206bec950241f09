use Rattle.std.proofs.Common.{lit<, refl, ◌∙◌}
use Rattle.ntfe_nums.specs.Vectors.{Vector}
use Rattle.ntfe_model.specs.PairText.{number}
use Rattle.pair_text.specs.Caps.{capped_vector}
use Rattle.pair_text.proofs.Caps.{capped-back, number-of, none-of, numbers-of}
use Rattle.ntfe_nums.proofs.VectorLemmas.{same4}
use Rattle.pair_text.proofs.number.four_numbers.Goals as goal

pub returns-in_err-number-2 : goal.returns-in_err-number-2
returns-in_err-number-2 c = rw c.from_residual-in_err-number-2.ensures (1, c.args.b.now, lit< tt, refl, none-of _ c.in_err-number-2.ensures)

pub returns-in_err-number-3 : goal.returns-in_err-number-3
returns-in_err-number-3 c = rw c.from_residual-in_err-number-3.ensures (2, c.args.c.now, lit< tt, refl, none-of _ c.in_err-number-3.ensures)

pub returns-in_err-number-4 : goal.returns-in_err-number-4
returns-in_err-number-4 c = rw c.from_residual-in_err-number-4.ensures (3, c.args.d.now, lit< tt, refl, none-of _ c.in_err-number-4.ensures)

pub returns : goal.returns
returns c =
    let z1 = number-of (number c.args.a.now) _ c.in_ok-number.ensures in
    let z2 = number-of (number c.args.b.now) _ c.in_ok-number-2.ensures in
    let z3 = number-of (number c.args.c.now) _ c.in_ok-number-3.ensures in
    let z4 = number-of (number c.args.d.now) _ c.in_ok-number-4.ensures in
    let v : Vector = record { x1 = z1.0; x2 = z2.0; x3 = z3.0; x4 = z4.0 } in
    record {
      exact = v;
      are = numbers-of _ _ _ _ v z1.1 z2.1 z3.1 z4.1;
      is = c.new.ensures
          ∙ same4 _ (capped_vector v) (capped-back z1.0 _ z1.2 ∙ z1.2) (capped-back z2.0 _ z2.2 ∙ z2.2) (capped-back z3.0 _ z3.2 ∙ z3.2) (capped-back z4.0 _ z4.2 ∙ z4.2);
    }
