-- What each fault says.
--     HasCause bytes fault      the fault of the bytes: on the first line that is wrong, or at their end
use Rattle.std.specs.Prelude.{◌≡◌, ℕ, ◌<◌, List, length, ⊤}
use Rattle.std.specs.List.{AllZip}
use Rattle.ntfe_nums.specs.Vectors.{Vector}
use Rattle.ntfe_model.specs.PairText.{Line, Due, four_numbers, IsVectorLine, IsBadLine, IsBadNumber, IsTooLarge, IsBadCount, IsLong, IsFirstWrong, EndsEarly, IsDue, lines_of}
use Rattle.pair_text.specs.declared.fault.TextFault.{TextFault}
use Rattle.pair_text.specs.declared.fault.TextFault.TheVariants.{BadLine, BadNumber, TooLarge, Count, Short, Long, Memory}

-- of lines, where `IsNext good due` says what is due behind good lines; want of memory says nothing
abbrev pub IsCauseIn : (List Line → Due → Type 0) → List Line → TextFault → Type 0
IsCauseIn IsNext all (BadLine line) = IsFirstWrong IsNext IsBadLine all line
IsCauseIn IsNext all (BadNumber line) = IsFirstWrong IsNext IsBadNumber all line
IsCauseIn IsNext all (TooLarge line) = IsFirstWrong IsNext IsTooLarge all line
IsCauseIn IsNext all (Count line) = IsFirstWrong IsNext IsBadCount all line
IsCauseIn IsNext all (Long line) = IsFirstWrong IsNext IsLong all line
IsCauseIn IsNext all Short = EndsEarly IsNext all
IsCauseIn IsNext all Memory = ⊤

abbrev pub HasCause : List ℕ → TextFault → Type 0
HasCause bytes fault = IsCauseIn IsDue (lines_of bytes) fault

-- of one line, where this is due
abbrev pub IsFaultOf : Due → Line → TextFault → Type 0
IsFaultOf due line (BadLine number) = (number ≡ line.number) × IsBadLine due line.fields
IsFaultOf due line (BadNumber number) = (number ≡ line.number) × IsBadNumber due line.fields
IsFaultOf due line (TooLarge number) = (number ≡ line.number) × IsTooLarge due line.fields
IsFaultOf due line (Count number) = (number ≡ line.number) × IsBadCount due line.fields
IsFaultOf due line (Long number) = (number ≡ line.number) × IsLong due line.fields
IsFaultOf due line Short = ⊥
IsFaultOf due line Memory = ⊥

-- a line of four numbers is due behind fewer such lines than so many
pub record IsDueInVectors (count : ℕ) (good : List Line) (due : Due) : Type 0 where
  pub vectors : List Vector
  pub are : AllZip IsVectorLine good vectors
  pub fewer : length vectors < count
  pub is : due ≡ four_numbers
