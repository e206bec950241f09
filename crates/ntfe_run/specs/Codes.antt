-- The exit status of each answer.
use Rattle.std.specs.Prelude.{ℕ}
use Rattle.ntfe_run.specs.declared.status.Status.{Status}
use Rattle.ntfe_run.specs.declared.status.Status.TheVariants.{Done, Usage, Refused, Overflow, Limit, Memory, ReadFault, WriteFault}

abbrev pub code_of : Status → ℕ
code_of Done = 0
code_of Usage = 2
code_of (Refused refusal) = 3
code_of (Overflow choice step number) = 4
code_of (Limit face) = 5
code_of Memory = 6
code_of ReadFault = 7
code_of WriteFault = 8
