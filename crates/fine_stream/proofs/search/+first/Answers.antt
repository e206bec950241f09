use Rattle.std.proofs.Common.{◌≡◌, ℕ, ◌*◌, ◌<◌, sym, ap, ◌∙◌, subst, arith, length, drop, List, ◌++◌, ◌∷◌, []}
use Rattle.ntfe_model.specs.Charts.{spot_numbers}
use Rattle.ntfe_model.specs.declared.triangle.Triangle.{Triangle}
use Rattle.fine_stream.specs.Paths.{IsPart, AreOf}
use Rattle.fine_stream.specs.Places.{ArePlaces}
use Rattle.fine_stream.proofs.TableLemmas.{placed_on, placed_back}
use Rattle.fine_stream.proofs.Bound.{part_bound}
use Rattle.fine_stream.proofs.Finding.{when_true, when_false, none_left, some_left, written_left, within_longer, adds_empty, adds_candidate, none_candidate, candidate_more, candidate_place, candidates_at, closing_place, triangle_of, adds_unfit, room_falls, step_on, step_part, step_points, step_found, step_none}
use Rattle.fine_stream.proofs.search.+first.Goals as goal

pub add_first-returns-then-start-len-clause-answer : goal.add_first-returns-then-start-len-clause-answer
add_first-returns-then-start-len-clause-answer t c =
    let e : c.args.start ≡ length c.args.path.now.steps.items = omega arith in
    adds_empty c.args.chart.now (drop c.args.start c.args.path.now.steps.items) c.args.limit c.args.path.now (none_left c.args.path.now.steps.items c.args.start e) c.requires.part

pub add_first-add_with-requires : goal.add_first-add_with-requires
add_first-add_with-requires t c =
    let h = c.args.chart.now in
    let l : c.args.start < length c.args.path.now.steps.items = grind arith in
    let cs = c.candidates-candidate-items.result.now in
    let i = c.loop-candidate.candidate-index in
    let turning = c.loop-candidate.invariant.0 in
    let known = candidates_at h c.args.tables.now c.args.path.now.steps.items c.args.start c.index.result.now cs l c.index.ensures c.candidates-candidate-items.ensures c.requires.tables in
    let Points : List (ℕ × ℕ) → Type 0 = λ es. AreOf h es in
    let Part : List Triangle → Type 0 = λ us. IsPart h us in (
      (let d = c.decreases in let a = ap length turning.all in omega arith),
      (
        c.points-points.ensures.apart,
        (
          (let w = ap length turning.waiting in grind arith),
          (
            subst Points (sym (ap (drop c.args.start) turning.waiting)) c.requires.points,
            (
              known.points i _ c.loop-candidate-test.true,
              (
                candidate_place h c.args.tables.now.triples.items (drop c.args.start c.args.path.now.steps.items) (drop c.args.start c.loop-candidate.path.steps.items) cs i _
                    (ap (drop c.args.start) turning.waiting) known c.loop-candidate-test.true,
                (subst Part (sym turning.all) c.requires.part, (c.requires.tables, c.loop-candidate.invariant.1)),
              ),
            ),
          ),
        ),
      ),
    )

pub add_first-returns-then-branch-clause-answer : goal.add_first-returns-then-branch-clause-answer
add_first-returns-then-branch-clause-answer t c =
    let h = c.args.chart.now in
    let l : c.args.start < length c.args.path.now.steps.items = grind arith in
    let cs = c.candidates-candidate-items.result.now in
    adds_candidate h c.args.tables.now.triples.items (drop c.args.start c.args.path.now.steps.items) (drop c.args.start c.loop-candidate.path.steps.items) c.args.limit cs c.loop-candidate.candidate-index _
    c.args.path.now c.loop-candidate.path c.add_with.new.path (some_left c.args.path.now.steps.items c.args.start l) (ap (drop c.args.start) c.loop-candidate.invariant.0.waiting)
    (candidates_at h c.args.tables.now c.args.path.now.steps.items c.args.start c.index.result.now cs l c.index.ensures c.candidates-candidate-items.ensures c.requires.tables) c.loop-candidate-test.true
    c.loop-candidate.invariant.0 (when_true c.in_ok-add_with.field-0 _ _ c.if-branch.true c.in_ok-add_with.ensures.answer)

pub add_first-loop-candidate-preserved : goal.add_first-loop-candidate-preserved
add_first-loop-candidate-preserved t c = (
  candidate_more c.args.chart.now (drop c.args.start c.args.path.now.steps.items) (drop c.args.start c.loop-candidate.path.steps.items) c.args.limit c.candidates-candidate-items.result.now
      c.loop-candidate.candidate-index _ c.args.path.now c.loop-candidate.path c.add_with.new.path (ap (drop c.args.start) c.loop-candidate.invariant.0.waiting) c.loop-candidate-test.true c.loop-candidate.invariant.0
      (when_false c.in_ok-add_with.field-0 _ _ c.if-branch.false c.in_ok-add_with.ensures.answer),
  c.in_ok-add_with.ensures.placed,
)

pub add_first-returns : goal.add_first-returns
add_first-returns t c =
    let h = c.args.chart.now in
    let l : c.args.start < length c.args.path.now.steps.items = grind arith in
    let cs = c.candidates-candidate-items.result.now in record {
      placed = c.loop-candidate.invariant.1;
      answer = none_candidate h c.args.tables.now.triples.items (drop c.args.start c.args.path.now.steps.items) c.args.limit cs c.loop-candidate.candidate-index c.args.path.now c.loop-candidate.path
          (some_left c.args.path.now.steps.items c.args.start l)
          (candidates_at h c.args.tables.now c.args.path.now.steps.items c.args.start c.index.result.now cs l c.index.ensures c.candidates-candidate-items.ensures c.requires.tables) c.loop-candidate-test.false
          c.loop-candidate.invariant.0;
    }

pub add_with-fits-requires-clause-points : goal.add_with-fits-requires-clause-points
add_with-fits-requires-clause-points t c =
    let steps = c.args.path.now.steps.items in
    triangle_of c.args.chart.now (drop c.args.start steps) c.args.candidate.point c.written-triangle.result (some_left steps c.args.start c.requires.start) c.requires.points c.requires.point
    (written_left steps c.args.start c.args.candidate.point c.written-triangle.result c.index.result.now c.requires.start c.index.ensures c.written-triangle.ensures)

pub add_with-returns-then-not-fits-clause-answer : goal.add_with-returns-then-not-fits-clause-answer
add_with-returns-then-not-fits-clause-answer t c =
    let steps = c.args.path.now.steps.items in
    adds_unfit c.args.chart.now (drop c.args.start steps) c.args.limit c.args.candidate.point c.written-triangle.result c.args.path.now (some_left steps c.args.start c.requires.start)
    (written_left steps c.args.start c.args.candidate.point c.written-triangle.result c.index.result.now c.requires.start c.index.ensures c.written-triangle.ensures)
    (λ p. c.fits.ensures.when_false c.if-not-fits.true (let P : List Triangle → Type 0 = λ us. IsPart c.args.chart.now (us ++ c.written-triangle.result ∷ []) in subst P (sym c.as_slice-triangles.ensures.value) p))

pub add_with-add_first-requires : goal.add_with-add_first-requires
add_with-add_first-requires t c =
    let h = c.args.chart.now in
    let steps = c.args.path.now.steps.items in
    let e : c.len-next.result ≡ length steps = omega arith in
    let shown = written_left steps c.args.start c.args.candidate.point c.written-triangle.result c.index.result.now c.requires.start c.index.ensures c.written-triangle.ensures in
    let on =
    step_on h (drop c.args.start steps) c.len-next.result c.args.candidate.point c.written-triangle.result c.args.path.now c.push.new.self (some_left steps c.args.start c.requires.start) e c.in_ok-push.ensures.steps shown
    c.in_ok-push.ensures.word c.in_ok-push.ensures.triangles c.in_ok-push.ensures.starts in
    let fit : IsPart h (c.args.path.now.triangles.items ++ c.written-triangle.result ∷ []) =
    (let P : List Triangle → Type 0 = λ us. IsPart h (us ++ c.written-triangle.result ∷ []) in subst P c.as_slice-triangles.ensures.value (c.fits.ensures.when_true c.if-not-fits.false)) in
    let part = step_part h (drop c.args.start steps) (drop c.len-next.result c.push.new.self.steps.items) c.args.candidate.point c.written-triangle.result c.args.path.now c.push.new.self on shown fit in
    let falls =
    room_falls (length (spot_numbers h) * length (spot_numbers h)) c.args.path.now.triangles.items c.push.new.self.triangles.items c.written-triangle.result
    c.in_ok-push.ensures.triangles (part_bound h c.push.new.self.triangles.items part) in (
      (let d = c.decreases in omega arith),
      (
        within_longer steps (drop c.len-next.result c.push.new.self.steps.items) c.push.new.self.steps.items c.len-next.result e on.waiting,
        (
          step_points h (drop c.args.start steps) (drop c.len-next.result c.push.new.self.steps.items) c.args.candidate.point c.args.path.now c.push.new.self on c.requires.points c.requires.point,
          (
            part,
            (
              c.requires.tables,
              placed_on c.args.tables.now.triples.items c.args.path.now.places.items c.push.new.self.places.items c.args.path.now.triangles.items c.push.new.self.triangles.items c.args.candidate.place
                  c.written-triangle.result c.requires.placed
                  (closing_place c.args.tables.now.triples.items c.args.candidate.place c.args.candidate.point (drop c.args.start steps) c.written-triangle.result c.requires.place shown) c.in_ok-push.ensures.places
                  c.in_ok-push.ensures.triangles,
            ),
          ),
        ),
      ),
    )

pub add_with-returns-then-branch-clause-answer : goal.add_with-returns-then-branch-clause-answer
add_with-returns-then-branch-clause-answer t c =
    let steps = c.args.path.now.steps.items in
    let e : c.len-next.result ≡ length steps = omega arith in
    step_found c.args.chart.now (drop c.args.start steps) (drop c.len-next.result c.push.new.self.steps.items) c.args.limit c.args.candidate.point c.args.path.now c.push.new.self c.add_first.new.path
    (step_on c.args.chart.now (drop c.args.start steps) c.len-next.result c.args.candidate.point c.written-triangle.result c.args.path.now c.push.new.self (some_left steps c.args.start c.requires.start) e
    c.in_ok-push.ensures.steps
    (written_left steps c.args.start c.args.candidate.point c.written-triangle.result c.index.result.now c.requires.start c.index.ensures c.written-triangle.ensures)
    c.in_ok-push.ensures.word c.in_ok-push.ensures.triangles c.in_ok-push.ensures.starts)
    (c.is_after.ensures.when_true c.if-not-is_after.false)
    (when_true c.in_ok-add_first.field-0 _ _ c.if-branch.true c.in_ok-add_first.ensures.answer)

pub add_with-returns-clause-answer : goal.add_with-returns-clause-answer
add_with-returns-clause-answer t c =
    let steps = c.args.path.now.steps.items in
    let e : c.len-next.result ≡ length steps = omega arith in
    step_none c.args.chart.now (drop c.args.start steps) (drop c.len-next.result c.push.new.self.steps.items) c.args.limit c.args.candidate.point c.len-next.result c.args.path.now c.push.new.self c.add_first.new.path c.pop.new.self
    (step_on c.args.chart.now (drop c.args.start steps) c.len-next.result c.args.candidate.point c.written-triangle.result c.args.path.now c.push.new.self (some_left steps c.args.start c.requires.start) e
    c.in_ok-push.ensures.steps
    (written_left steps c.args.start c.args.candidate.point c.written-triangle.result c.index.result.now c.requires.start c.index.ensures c.written-triangle.ensures)
    c.in_ok-push.ensures.word c.in_ok-push.ensures.triangles c.in_ok-push.ensures.starts) e
    (when_false c.in_ok-add_first.field-0 _ _ c.if-branch.false c.in_ok-add_first.ensures.answer)
    (record { word = c.pop.ensures.word; triangles = c.pop.ensures.triangles; steps = c.pop.ensures.steps; starts = c.pop.ensures.starts })

pub add_with-fits-requires-clause-row : goal.add_with-fits-requires-clause-row
add_with-fits-requires-clause-row t c =
    let h = c.args.chart.now in
    let steps = c.args.path.now.steps.items in
    let triples = c.args.tables.now.triples.items in
    let shown = written_left steps c.args.start c.args.candidate.point c.written-triangle.result c.index.result.now c.requires.start c.index.ensures c.written-triangle.ensures in
    let place = closing_place triples c.args.candidate.place c.args.candidate.point (drop c.args.start steps) c.written-triangle.result c.requires.place shown in
    let P : List Triangle → Type 0 = λ ts. ArePlaces triples c.as_slice.result.now ts in
    let Q : List ℕ → Type 0 = λ ps. ArePlaces triples ps c.args.path.now.triangles.items in
    (triples, c.row-row.ensures h c.written-triangle.result c.requires.tables place, subst P (sym c.as_slice-triangles.ensures.value) (subst Q (sym c.as_slice.ensures.value) c.requires.placed))

pub add_with-returns-clause-placed : goal.add_with-returns-clause-placed
add_with-returns-clause-placed t c =
    let n = when_false c.in_ok-add_first.field-0 _ _ c.if-branch.false c.in_ok-add_first.ensures.answer in
    let all = n.all ∙ c.in_ok-push.ensures.triangles in
    placed_back c.args.tables.now.triples.items c.add_first.new.path.places.items c.pop.new.self.places.items c.add_first.new.path.triangles.items c.pop.new.self.triangles.items c.args.path.now.triangles.items
    c.written-triangle.result c.in_ok-add_first.ensures.placed all c.pop.ensures.places (c.pop.ensures.triangles c.args.path.now.triangles.items c.written-triangle.result all)
