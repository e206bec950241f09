use Rattle.std.proofs.Common.{◌≡◌, ⊎_elim, sym, subst, Bool, true, false, refl, pos}
use Rattle.std.specs.Prelude.{IsTrue}
use Rattle.ntfe_nums.specs.Vectors.{Vector, difference}
use Rattle.ntfe_model.specs.Triangulations.{DoCross}
use Rattle.fine_triples.specs.Meetings.{HasInsideEnd, AreOneSegment, DoMeetInside, gram}
use Rattle.fine_triples.proofs.CrossLemmas.{inside_end_crosses, one_crosses, meet_crosses, cross_cases}
use Rattle.fine_triples.proofs.ParallelLemmas.{parallel_ends}
use Rattle.fine_triples.proofs.segments.crosses.Goals as goal

moved : (a b c f i j k l : Vector) → a ≡ i → b ≡ j → c ≡ k → f ≡ l → DoCross a b c f → DoCross i j k l
moved a b c f i j k l p q r s h = let P : Vector × Vector × Vector × Vector → Type 0 = λ z. DoCross z.0 z.1 z.2 z.3 in subst P (λ x. (p x, q x, r x, s x)) h

is_true : (b : Bool) → (b ≡ false → ⊥) → IsTrue b
is_true true n = refl
is_true false n = absurd (n refl)

only : (a b c f : Vector) → ¬ (HasInsideEnd a b c f) → ¬ (AreOneSegment a b c f) → (DoMeetInside a b c f → gram (difference b a) (difference f c) ≡ pos 0) → ¬ (DoCross a b c f)
only a b c f n m g h = ⊎_elim n (λ i. ⊎_elim n m (parallel_ends a b c f (g i) i)) (cross_cases a b c f h)

pub returns-then-has_inside_end : goal.returns-then-has_inside_end
returns-then-has_inside_end c =
    let a = c.place-a.result.now in
    let b = c.place-b.result.now in
    let e = c.place-c.result.now in
    let f = c.place-f.result.now in (
      (λ t. moved a b e f _ _ _ _ c.place-a.ensures.value c.place-b.ensures.value c.place-c.ensures.value c.place-f.ensures.value (inside_end_crosses a b e f (c.has_inside_end.ensures.when_true c.if-has_inside_end.true))),
      (λ h. refl),
    )

pub returns-then-are_one_segment : goal.returns-then-are_one_segment
returns-then-are_one_segment c =
    let a = c.place-a.result.now in
    let b = c.place-b.result.now in
    let e = c.place-c.result.now in
    let f = c.place-f.result.now in (
      (λ t. moved a b e f _ _ _ _ c.place-a.ensures.value c.place-b.ensures.value c.place-c.ensures.value c.place-f.ensures.value (one_crosses a b e f (c.are_one_segment.ensures.when_true c.if-are_one_segment.true))),
      (λ h. refl),
    )

pub returns : goal.returns
returns c =
    let a = c.place-a.result.now in
    let b = c.place-b.result.now in
    let e = c.place-c.result.now in
    let f = c.place-f.result.now in
    let r = c.do_meet_inside.result in
    let n = only a b e f (c.has_inside_end.ensures.when_false c.if-has_inside_end.false) (c.are_one_segment.ensures.when_false c.if-are_one_segment.false) in (
      (λ t. moved a b e f _ _ _ _ c.place-a.ensures.value c.place-b.ensures.value c.place-c.ensures.value c.place-f.ensures.value (meet_crosses a b e f (c.do_meet_inside.ensures.when_true t))),
      (λ h. is_true r (λ q. n (c.do_meet_inside.ensures.when_false q)
          (moved _ _ _ _ a b e f (sym c.place-a.ensures.value) (sym c.place-b.ensures.value) (sym c.place-c.ensures.value) (sym c.place-f.ensures.value) h))),
    )
