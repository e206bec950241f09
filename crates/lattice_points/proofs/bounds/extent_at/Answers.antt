use Rattle.std.proofs.Common.{◌≡◌, ◌<◌, length, ◌∙◌, sym, ap, arith, take, ℤ, pos, ◌≤ℤ◌, get_or, w64, to_z, of_z, to_z-of_z, FitsSigned, rules}
use Rattle.std.specs.Int.{int_min, int_max}
use Rattle.std.proofs.lemmas.List.{take_all}
use Rattle.std.proofs.lemmas.List.Elements.{All-same}
use Rattle.ntfe_nums.specs.Vectors.{Vector, numbers}
use Rattle.lattice_points.proofs.BoxLemmas.{least_more, greatest_more, end_more, min_cases, max_cases}
use Rattle.lattice_points.proofs.bounds.extent_at.Goals as goal

pub loop-v-preserved : goal.loop-v-preserved
loop-v-preserved c =
    let vs = c.args.vectors.now in
    let i = c.loop-v.v-index in
    let v = c.v-item.result in
    let f : Vector → ℤ = λ w. get_or (numbers w) c.args.place (pos 0) in
    let l : i < length vs = c.loop-v-test.true in
    let low = to_z w64 c.loop-v.low-bits in
    let high = to_z w64 c.loop-v.high-bits in
    let cs = c.coordinates-in-loop-v.result.now in
    let fx : FitsSigned w64 (get_or cs c.args.place (pos 0)) = search rules in
    let x : to_z w64 (of_z w64 (get_or cs c.args.place (pos 0))) ≡ f v = to_z-of_z fx ∙ ap (λ ns. get_or ns c.args.place (pos 0)) c.coordinates-in-loop-v.ensures.list in
    let fr : FitsSigned w64 c.min-low.result = search rules in
    let fs : FitsSigned w64 c.max-high.result = search rules in
    let m = min_cases (to_z w64 (of_z w64 c.min-low.result)) low (f v) (to_z-of_z fr ∙ c.min-low.ensures.value ∙ ap (int_min low) x) in
    let n = max_cases (to_z w64 (of_z w64 c.max-high.result)) high (f v) (to_z-of_z fs ∙ c.max-high.ensures.value ∙ ap (int_max high) x) in
    record {
      least = least_more f vs i v low _ l c.v-item.is m.0 m.1 c.loop-v.invariant.least;
      greatest = greatest_more f vs i v high _ l c.v-item.is n.0 n.1 c.loop-v.invariant.greatest;
      lowest = end_more f vs i v low _ l c.v-item.is m.2 c.loop-v.invariant.lowest;
      highest = end_more f vs i v high _ l c.v-item.is n.2 c.loop-v.invariant.highest;
    }

pub returns : goal.returns
returns c =
    let vs = c.args.vectors.now in
    let i = c.loop-v.v-index in
    let all = sym (take_all i vs (omega arith)) in
    let low = to_z w64 c.loop-v.low-bits in
    let high = to_z w64 c.loop-v.high-bits in
    record {
      least = All-same (λ v. low ≤ℤ get_or (numbers v) c.args.place (pos 0)) vs (take i vs) all c.loop-v.invariant.least;
      greatest = All-same (λ v. get_or (numbers v) c.args.place (pos 0) ≤ℤ high) vs (take i vs) all c.loop-v.invariant.greatest;
      lowest = c.loop-v.invariant.lowest;
      highest = c.loop-v.invariant.highest;
    }
