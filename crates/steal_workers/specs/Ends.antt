-- What a writer keeps, and the end of a list whose block was not written.
use Rattle.std.specs.Prelude.{◌≡◌, ℕ, ◌^◌, ◌≤◌, Option}
use Rattle.io_edge.specs.declared.line_fault.LineFault.{LineFault}
use Rattle.io_edge.specs.declared.line_fault.LineFault.TheVariants as line
use Rattle.steal_workers.specs.declared.served.Served.{Served}
use Rattle.steal_workers.specs.declared.served.Served.TheVariants as served
use Rattle.steal_workers.specs.Listings.{Listed, IsSmallLimit}

-- the limit is that of the listing, and the count stands still at 2^63
pub record IsWriter (l : Listed) (limit : Option ℕ) (count : ℕ) : Type 0 where
  pub own : limit ≡ l.limit
  pub small : IsSmallLimit l.limit
  pub low : count ≤ 2 ^ 63

-- the fault of a sink is one, and want of memory is the other
abbrev pub end_of : LineFault → Served
end_of line.Write = served.WriteFault
end_of line.Memory = served.Memory
