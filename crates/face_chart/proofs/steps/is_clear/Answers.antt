use Rattle.std.proofs.Common.{◌≡◌, ◌≢◌, sym, subst, ℤ, pos, negsuc, ◌<ℤ◌, ◌≤ℤ◌}
use Rattle.ntfe_nums.specs.Vectors.{Vector, sign}
use Rattle.ntfe_nums.proofs.Comparisons.{not_false, not_true}
use Rattle.ntfe_model.specs.Charts.{IsOnSegment}
use Rattle.ntfe_model.proofs.FlatLemmas.{negative_from_test, not_negative_from_test}
use Rattle.ntfe_model.proofs.PlaneNumbers.{sign_negative, sign_not_right}
use Rattle.ntfe_model.proofs.UnitTriples.{area_of}
use Rattle.face_chart.proofs.steps.is_clear.Goals as goal

not_right : (x y : ℤ) → x ≡ y → pos 0 ≤ℤ x → sign y ≢ negsuc 0
not_right x y e h = sign_not_right y (let P : ℤ → Type 0 = λ z. pos 0 ≤ℤ z in subst P e h)

right : (x y : ℤ) → x ≡ y → x <ℤ pos 0 → sign y ≡ negsuc 0
right x y e h = sign_negative y (let P : ℤ → Type 0 = λ z. z <ℤ pos 0 in subst P e h)

pub returns-then-area-lt0 : goal.returns-then-area-lt0
returns-then-area-lt0 c =
    let z = c.area.result in
    record {
      when_true = λ t. cc;
      when_false = λ t k. k.outer (right z (area_of c.args.table.now c.args.a c.args.b c.args.p) c.area.ensures.value (negative_from_test z c.area.ensures.size c.if-area-lt0.true));
    }

pub returns-then-p-a : goal.returns-then-p-a
returns-then-p-a c =
    let z = c.area.result in
    record {
      when_true = λ t. record {
        outer = not_right z (area_of c.args.table.now c.args.a c.args.b c.args.p) c.area.ensures.value (not_negative_from_test z c.area.ensures.size c.if-area-lt0.false);
        next = λ p q. absurd (p c.if-p-a.true);
      };
      when_false = λ t. cc;
    }

pub returns-then-p-b : goal.returns-then-p-b
returns-then-p-b c =
    let z = c.area.result in
    record {
      when_true = λ t. record {
        outer = not_right z (area_of c.args.table.now c.args.a c.args.b c.args.p) c.area.ensures.value (not_negative_from_test z c.area.ensures.size c.if-area-lt0.false);
        next = λ p q. absurd (q c.if-p-b.true);
      };
      when_false = λ t. cc;
    }

pub returns : goal.returns
returns c =
    let z = c.area.result in
    let g = c.args.table.now in
    let T : Vector × Vector × Vector → Type 0 = λ t. IsOnSegment t.0 t.1 t.2 in
    record {
      when_true = λ t. record {
        outer = not_right z (area_of g c.args.a c.args.b c.args.p) c.area.ensures.value (not_negative_from_test z c.area.ensures.size c.if-area-lt0.false);
        next = λ p q o. c.is_on_segment.ensures.when_false (not_true _ t)
            (subst T (λ i. (sym c.place.ensures.value i, sym c.place-2.ensures.value i, sym c.place-3.ensures.value i)) o);
      };
      when_false = λ t k. k.next c.if-p-a.false c.if-p-b.false
          (subst T (λ i. (c.place.ensures.value i, c.place-2.ensures.value i, c.place-3.ensures.value i)) (c.is_on_segment.ensures.when_true (not_false _ t)));
    }
