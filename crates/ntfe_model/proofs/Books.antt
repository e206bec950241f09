-- What books keep.
use Rattle.std.proofs.Common.{ℕ, Option}
use Rattle.ntfe_model.specs.Books.{KeepsAll}
use Rattle.ntfe_model.specs.declared.triangulation.Triangulation.{Triangulation}

pub keeps_all_in_turn : (first second third : ℕ → ℕ → Option Triangulation) → KeepsAll first second → KeepsAll second third → KeepsAll first third
keeps_all_in_turn first second third h k face number x e = k face number x (h face number x e)
