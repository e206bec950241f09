use Rattle.std.proofs.Math.ListN.{length-set}
use Rattle.std.proofs.Common.{◌∙◌, ◌≢◌, ◌<◌, length, get_or, set, subst, arith, below_more, get_or-set_same, get_or-set_other}
use Rattle.ntfe_nums.specs.Vectors.{Vector}
use Rattle.ntfe_model.specs.Reflexive.{at}
use Rattle.ntfe_model.specs.TightBits.{AreTightBits}
use Rattle.ntfe_model.proofs.TightLemmas.{read_at}
use Rattle.reflexive_pair.proofs.incidence.tight_table.Goals as goal

pub loop-i-preserved : goal.loop-i-preserved
loop-i-preserved c =
    let vs = c.args.vertices.now in
    let ms = c.args.dual.now in
    let i = c.loop-i.i in
    let table = c.loop-i.table in
    let within : i < length vs = omega arith in
    let told = c.loop-i.invariant.room in
    let room : i < length table = omega arith in
    let P : Vector → Type 0 = λ v. AreTightBits v ms (length ms) c.tight_bits.result in
    let here = subst P (read_at vs i c.index-vertices-i.result c.index-vertices-i.is within) c.tight_bits.ensures in
    let filled = c.loop-i.invariant.filled in
    record {
      room = length-set table i c.tight_bits.result ∙ c.loop-i.invariant.room;
      filled = below_more (λ k. AreTightBits (at vs k) ms (length ms) (get_or (set table i c.tight_bits.result) k 0)) i
          (λ k lt. let ne : k ≢ i = omega arith in rw get_or-set_other (filled k lt))
          (rw get_or-set_same here);
    }
