-- What is left of a text and of a line.
use Rattle.std.specs.Prelude.{◌≡◌, ℕ, ◌++◌, ◌+◌, ◌<◌, ◌^◌, List, length}
use Rattle.ntfe_model.specs.PairText.{Line, lines, fields, unskipped}
use Rattle.pair_text.specs.declared.line.Lines.{Lines}
use Rattle.pair_text.specs.declared.line.TextLine.{TextLine}
use Rattle.pair_text.specs.declared.line.Fields.{Fields}

-- the lines that are left and not skipped
abbrev pub lines_left : Lines → List Line
lines_left s = unskipped s.before (lines s.rest.now)

-- the numbers of the lines that are left fit
abbrev pub AreFew : Lines → Type 0
AreFew s = s.before + length s.rest.now < 2 ^ 32

-- a line as its number and its fields
abbrev pub line_of : TextLine → Line
line_of line = record { number = line.number; fields = fields line.content.now }

abbrev pub fields_left : Fields → List (List ℕ)
fields_left s = fields s.rest.now

-- lines with P were taken, and those that are not skipped are the taken ones and those that are left
pub record Takes (P : List Line → Type 0) (old new : Lines) : Type 0 where
  pub taken : List Line
  pub lines_are : lines_left old ≡ taken ++ lines_left new
  pub is : P taken
