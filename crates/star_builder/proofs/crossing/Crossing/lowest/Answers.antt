use Rattle.std.proofs.Common.{◌≡◌, ◌∙◌, ◌+◌, ◌-◌, ◌≤◌, ℕ, Option, length, sym, subst, arith}
use Rattle.ntfe_nums.specs.Vectors.{cofactors, dot}
use Rattle.ntfe_nums.proofs.DetLemmas.{det4-cofactors}
use Rattle.ntfe_model.specs.Points.{place_of_point}
use Rattle.ntfe_model.specs.Stars.{order_of}
use Rattle.star_builder.specs.declared.candidate.Candidate.{Candidate}
use Rattle.star_builder.specs.declared.crossing.Crossing.{Crossing}
use Rattle.star_builder.specs.Ridges.{IsCandidateTo}
use Rattle.star_builder.proofs.Crossings.{candidate_skip}
use Rattle.star_builder.proofs.Determinants.{same_short}
use Rattle.star_builder.proofs.crossing.Crossing.lowest.Goals as goal
use Rattle.star_builder.proofs.crossing.Crossing.lowest.Goals.{then-is_across, else-is_across}

abbrev FoundTo : Crossing → ℕ → Option Candidate → Type 0
FoundTo s = IsCandidateTo s.points.now s.heights.now (order_of s.push (length s.points.now)) s.facet.now s.ridge s.without

before : (n : ℕ) → n ≡ n + 1 - 1
before n = omega arith

pub is_across-requires-clause-side : goal.is_across-requires-clause-side
is_across-requires-clause-side c =
    let s = c.args.self.now in
    same_short c.product-side.result c.product-side.ensures.size ∙ c.product-side.ensures.value
    ∙ (λ i. dot (c.normal-normal.ensures.value i) (c.place-4.ensures.value i))
    ∙ (λ i. dot (cofactors (c.place.ensures.value i) (c.place-2.ensures.value i) (c.place-3.ensures.value i)) (place_of_point s.points.now s.without))
    ∙ sym (det4-cofactors (place_of_point s.points.now s.ridge.a) (place_of_point s.points.now s.ridge.b) (place_of_point s.points.now s.ridge.c) (place_of_point s.points.now s.without))

pub lower-lowest-requires-clause-lowest : goal.lower-lowest-requires-clause-lowest
lower-lowest-requires-clause-lowest c = subst (λ n. FoundTo c.args.self.now n c.loop-place.lowest) (before c.loop-place.place) c.loop-place.invariant

pub loop-place-preserved : goal.loop-place-preserved
loop-place-preserved c =
    let s = c.args.self.now in
    let n = c.loop-place.place in
    elim c.if-is_across.branch [
      | then-is_across w ↦ subst (λ (x : Option Candidate). FoundTo s (n + 1) x) (sym w.lowest-is) w.lower-lowest.ensures
      | else-is_across w ↦ subst (λ (x : Option Candidate). FoundTo s (n + 1) x) (sym w.lowest-is)
          (candidate_skip s.points.now s.facet.now s.ridge s.heights.now (order_of s.push (length s.points.now)) s.without (n + 1) (omega arith) (c.is_across.ensures.when_false w.if-is_across.false) c.loop-place.lowest
          (subst (λ n. FoundTo s n c.loop-place.lowest) (before n) c.loop-place.invariant))
    ]

pub returns : goal.returns
returns c = reached c.args.self.now c.loop-place.place c.loop-place.lowest c.loop-place-test.false c.loop-place.auto.place-end c.loop-place.invariant
  where
    reached : (s : Crossing) (n : ℕ) (found : Option Candidate) → length s.points.now ≤ n → n ≤ length s.points.now → FoundTo s n found → FoundTo s (length s.points.now) found
    reached s n found l k h = subst (λ j. FoundTo s j found) (omega (arith, l, k)) h
