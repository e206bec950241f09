use Rattle.std.proofs.Common.{◌≡◌, ◌<◌, to_z-of_z, ◌∙◌, length, sym, get_or, get_or-set_other, get_or-set_same, length-set, below_more, arith, ◌≢◌}
use Rattle.ntfe_nums.specs.Vectors.{origin}
use Rattle.lattice_points.specs.Lines.{head_sum}
use Rattle.lattice_points.proofs.LineLemmas.{small_at, same_at, head_fits, head_is}
use Rattle.lattice_points.proofs.column.Line.new.Goals as goal

pub overflow_add-sums : goal.overflow_add-sums
overflow_add-sums c =
    let ms = c.args.dual.now in
    let m = c.index-dual-i.result in
    head_fits m c.coordinates-c.result.now c.args.x1 c.args.x2 c.coordinates-c.ensures.list (small_at ms c.loop-i.i m c.loop-i-test.true c.index-dual-i.is c.requires.small) c.requires.size.0 c.requires.size.1.0

pub loop-i-preserved : goal.loop-i-preserved
loop-i-preserved c =
    let ms = c.args.dual.now in
    let m = c.index-dual-i.result in
    let i = c.loop-i.i in
    let h = head_is m c.coordinates-c.result.now c.args.x1 c.args.x2 c.coordinates-c.ensures.list (small_at ms i m c.loop-i-test.true c.index-dual-i.is c.requires.small) c.requires.size.0 c.requires.size.1.0 in
    let n = same_at ms i m c.loop-i-test.true c.index-dual-i.is in
    let e : head_sum m c.args.x1 c.args.x2 ≡ head_sum (get_or ms i origin) _ _ = (λ j. head_sum (n j) (sym (to_z-of_z c.ranges.x1) j) (sym (to_z-of_z c.ranges.x2) j)) in
    record {
      len = length-set _ _ _ ∙ c.loop-i.invariant.len;
      sums = below_more _ _
          (λ k l. let ne : k ≢ i = omega arith in rw get_or-set_other (c.loop-i.invariant.sums k l))
          (let lt : i < length c.loop-i.sums = omega (arith, c.loop-i.invariant.len, c.requires.few) in rw get_or-set_same (h ∙ e));
    }
