use Rattle.std.proofs.Common.{ℕ, ◌+◌, ◌<◌, length, sym, subst, arith}
use Rattle.ntfe_nums.specs.Vectors.{Vector}
use Rattle.ntfe_model.specs.Reflexive.{IsTight}
use Rattle.ntfe_model.specs.TightBits.{AreTightBits}
use Rattle.ntfe_model.proofs.TightLemmas.{read_at}
use Rattle.ntfe_model.proofs.TightLemmas.{bits_with, bits_without}
use Rattle.ntfe_model.proofs.tight.tight_bits.Goals as goal
use Rattle.ntfe_model.proofs.tight.tight_bits.Goals.{then-is_tight, else-is_tight}

pub loop-k-preserved : goal.loop-k-preserved
loop-k-preserved c =
    let v = c.args.x.now in
    let ms = c.args.dual.now in
    let k = c.loop-k.k in
    let within : k < length ms = omega arith in
    let few : k < 64 = omega arith in
    let e = read_at ms k c.index-dual-k.result c.index-dual-k.is within in
    let P : ℕ → Type 0 = AreTightBits v ms (k + 1) in
    let Tight : Vector → Type 0 = λ m. IsTight m v in
    let Loose : Vector → Type 0 = λ m. ¬ (IsTight m v) in
    elim c.if-is_tight.branch [
      | then-is_tight w ↦ subst P (sym w.bits-is) (bits_with v ms k c.loop-k.bits c.loop-k.invariant few (subst Tight e (c.is_tight.ensures.when_true w.if-is_tight.true)))
      | else-is_tight w ↦ subst P (sym w.bits-is) (bits_without v ms k c.loop-k.bits c.loop-k.invariant (subst Loose e (c.is_tight.ensures.when_false w.if-is_tight.false)))
    ]
