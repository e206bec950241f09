use Rattle.std.proofs.Common.{◌≡◌, ◌<◌, ◌^◌, take}
use Rattle.ntfe_model.specs.Stars.{greatest_size}
use Rattle.star_builder.proofs.origin.greatest.Given as goal

abbrev pub invariant-loop-h : goal.invariant-loop-h
invariant-loop-h l = record { value : l.most ≡ greatest_size (take l.h-index l.heights); small : l.most < 2 ^ 62 }
