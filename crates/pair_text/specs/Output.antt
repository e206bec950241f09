-- The input of `resume`, cut at the first line whose only field is `output`.
use Rattle.std.specs.Prelude.{◌≡◌, ℕ, ◌<◌, ◌⊎◌, List, [], ◌∷◌, ◌++◌, length, codes, flat_map, All}
use Rattle.std.specs.Str.Lines.{strip_carriage_return}
use Rattle.ntfe_model.specs.PairText.{lines, fields}

abbrev pub IsOutputLine : List ℕ → Type 0
IsOutputLine line = fields (strip_carriage_return line) ≡ codes "output" ∷ []

-- lines that end with a line feed
abbrev pub whole : List (List ℕ) → List ℕ
whole these = flat_map (λ line. line ++ 10 ∷ []) these

-- the bytes are a line and the rest: a line feed stands between them, or the line is the last one and lacks it
abbrev pub IsCutAt : List ℕ → List ℕ → List ℕ → Type 0
IsCutAt bytes line rest = (bytes ≡ line ++ 10 ∷ rest) ⊎ ((bytes ≡ line) × (rest ≡ []))

pub record IsFirstLine (bytes line rest : List ℕ) : Type 0 where
  pub lines_are : lines bytes ≡ line ∷ lines rest
  pub bytes_are : IsCutAt bytes line rest
  pub shorter : length rest < length bytes

-- the text before is the lines before the first one whose only field is `output`, and the rest follows that line
pub record IsSplitAtOutput (bytes before rest : List ℕ) : Type 0 where
  pub first : List (List ℕ)
  pub line : List ℕ
  pub lines_are : lines bytes ≡ first ++ line ∷ lines rest
  pub before_is : before ≡ whole first
  pub bytes_are : IsCutAt bytes (before ++ line) rest
  pub others : All (λ other. ¬ (IsOutputLine other)) first
  pub output : IsOutputLine line
