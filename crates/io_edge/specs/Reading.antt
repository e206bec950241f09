-- What reading to the end takes.
use Rattle.std.specs.Prelude.{◌≡◌, ℕ, ◌+◌, ◌≤◌, List, length, Option}
use Rattle.std.specs.Io.KnownBytes.{Consumes, IsAtEnd}

-- all bytes were taken, at most so many
pub record ReadsAll (before now : Option (List ℕ)) (bytes : List ℕ) (limit : ℕ) : Type 0 where
  pub taken : Consumes before now bytes
  pub end : IsAtEnd now
  pub few : length bytes ≤ limit

-- one byte more than the limit was taken
pub record ReadsPast (before now : Option (List ℕ)) (limit : ℕ) : Type 0 where
  pub bytes : List ℕ
  pub taken : Consumes before now bytes
  pub one_more : length bytes ≡ limit + 1
