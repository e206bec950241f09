-- A helper of the code: the fragments of a message.
use Rattle.std.specs.Prelude.{ℕ, List, decimal}
use Rattle.std.specs.Fmt.{signed_decimal}
use Rattle.ntfe_run.specs.declared.fragment.Fragment.{Fragment}
use Rattle.ntfe_run.specs.declared.fragment.Fragment.TheVariants.{Text, Number, Signed}

-- what a fragment is written as
abbrev pub fragment_text : Fragment → List ℕ
fragment_text (Text text) = text.now
fragment_text (Number n) = decimal n
fragment_text (Signed n) = signed_decimal n
