-- Helpers of the code: why there is no input, or that there was no memory.
use Rattle.std.specs.Prelude.{◌≢◌, ℕ, List, ⊤}
use Rattle.ntfe_model.specs.Shapes.{Shape}
use Rattle.ntfe_model.specs.RunText.{Form}
use Rattle.class_text.specs.Earlier.{HasCause}
use Rattle.class_text.specs.declared.earlier_fault.EarlierFault.TheVariants as earlier
use Rattle.ntfe_run.specs.Inputs.{IsRefusalOf}
use Rattle.ntfe_run.specs.Earlier.{layout, IsBegunRefusal}
use Rattle.ntfe_run.specs.declared.inputs.Stop.{Stop}
use Rattle.ntfe_run.specs.declared.inputs.Stop.TheVariants.{Refused, Memory}
use Rattle.ntfe_run.specs.declared.status.Refusal.TheVariants.{Earlier}

abbrev pub IsStopOf : List ℕ → Stop → Type 0
IsStopOf bytes (Refused refusal) = IsRefusalOf bytes refusal
IsStopOf bytes Memory = ⊤

-- of the earlier output alone
abbrev pub IsEarlierStop : Form → Shape → List ℕ → Stop → Type 0
IsEarlierStop form g behind (Refused (Earlier fault)) = HasCause (layout form g) behind fault × (fault ≢ earlier.Memory)
IsEarlierStop form g behind (Refused refusal) = ⊥
IsEarlierStop form g behind Memory = ⊤

abbrev pub IsBegunStop : Form → List ℕ → Stop → Type 0
IsBegunStop form bytes (Refused refusal) = IsBegunRefusal form bytes refusal
IsBegunStop form bytes Memory = ⊤
