-- Lines of a word and numbers, as they are written.
use Rattle.std.specs.Prelude.{◌≡◌, ℕ, ◌==◌, ◌<◌, Bool, List, length, slice_index, All}
use Rattle.std.specs.List.{list_any}
use Rattle.ntfe_model.specs.RunText.{number_line}
use Rattle.ntfe_model.specs.Earlier.{with_feed}

abbrev pub has_space : List ℕ → Bool
has_space text = list_any (λ b. b == 32) text

-- the line is that of a word and these numbers, so many, all below the limit
pub record IsNumberLine (word : List ℕ) (count limit : ℕ) (line ns : List ℕ) : Type 0 where
  pub is : with_feed line ≡ number_line word ns
  pub count_is : length ns ≡ count
  pub below : All (λ n. n < limit) ns

-- four numbers that rise from 1 on
pub record IsRisingFour (members : List ℕ) : Type 0 where
  pub first : 0 < slice_index members 0
  pub second : slice_index members 0 < slice_index members 1
  pub third : slice_index members 1 < slice_index members 2
  pub fourth : slice_index members 2 < slice_index members 3
