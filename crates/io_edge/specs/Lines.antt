-- The writing of lines, with what was taken and why it stopped.
use Rattle.std.specs.Prelude.{◌≡◌, ℕ, ◌≤◌, List, Option, Result, Err, OnOk, OnErr}
use Rattle.std.specs.Io.KnownBytes.{Appends}
use Rattle.io_edge.specs.Causes.{Rose, AppendsPrefix}
use Rattle.io_edge.specs.declared.line_fault.LineFault.{LineFault}
use Rattle.io_edge.specs.declared.line_fault.LineFault.TheVariants.{Write}

-- The sink took the whole text, where the answer is Ok, and else a prefix of it. Its count of faults did not fall, and rose where the answer is a fault of the sink.
pub record WritesText (before now : Option (List ℕ)) (faults faults' : ℕ) (result : Result (Unit {0}) LineFault) (text : List ℕ) : Type 0 where
  pub ok : OnOk result (Appends before now text)
  pub err : OnErr result (AppendsPrefix before now text)
  pub later : faults ≤ faults'
  pub cause : result ≡ Err Write → Rose faults faults'
