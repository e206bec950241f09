-- What a refused push answers.
use Rattle.std.specs.Prelude.{◌≡◌}
use Rattle.steal_ring.specs.Conservation.{Numbers}
use Rattle.steal_ring.specs.declared.seat.PushFault.{PushFault}
use Rattle.steal_ring.specs.declared.seat.PushFault.TheVariants.{Worn, Memory}

-- the fault hands this key back
abbrev pub HandsBack : PushFault → Numbers → Type 0
HandsBack (Worn k) key = k ≡ key
HandsBack (Memory k) key = k ≡ key

-- the fault is that a count stands at the limit
abbrev pub IsWornFault : PushFault → Type 0
IsWornFault (Worn k) = Unit {0}
IsWornFault (Memory k) = ⊥
