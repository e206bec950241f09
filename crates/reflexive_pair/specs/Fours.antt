-- Searches through all four places of a list, in lexicographic order.
use Rattle.std.specs.Prelude.{ℕ, ◌≡◌, ◌<◌, ◌⊎◌}

abbrev pub Test : Type 1
Test = ℕ → ℕ → ℕ → ℕ → Type 0

-- the place is one of the four
abbrev pub IsAmong : ℕ → ℕ → ℕ → ℕ → ℕ → Type 0
IsAmong place i j k l = (place ≡ i) ⊎ (place ≡ j) ⊎ (place ≡ k) ⊎ (place ≡ l)

-- failed at each place l after k
abbrev pub NoFourth : Test → ℕ → ℕ → ℕ → ℕ → Type 0
NoFourth failed i j k n = (l : ℕ) → k < l → l < n → failed i j k l

-- failed at all places k < l after j, where k is below m
abbrev pub NoThirdBelow : Test → ℕ → ℕ → ℕ → ℕ → Type 0
NoThirdBelow failed i j m n = (k : ℕ) → j < k → k < m → NoFourth failed i j k n

abbrev pub NoThird : Test → ℕ → ℕ → ℕ → Type 0
NoThird failed i j n = NoThirdBelow failed i j n n

abbrev pub NoSecondBelow : Test → ℕ → ℕ → ℕ → Type 0
NoSecondBelow failed i m n = (j : ℕ) → i < j → j < m → NoThird failed i j n

abbrev pub NoSecond : Test → ℕ → ℕ → Type 0
NoSecond failed i n = NoSecondBelow failed i n n

abbrev pub NoFirstBelow : Test → ℕ → ℕ → Type 0
NoFirstBelow failed m n = (i : ℕ) → i < m → NoSecond failed i n

abbrev pub NoFirst : Test → ℕ → Type 0
NoFirst failed n = NoFirstBelow failed n n

-- l is the first place after k with passed, and the ones before have failed
abbrev pub IsFourth : Test → Test → ℕ → ℕ → ℕ → ℕ → ℕ → Type 0
IsFourth passed failed i j k n l = (k < l) × (l < n) × passed i j k l × NoFourth failed i j k l

abbrev pub IsThird : Test → Test → ℕ → ℕ → ℕ → ℕ × ℕ → Type 0
IsThird passed failed i j n r = (j < r.0) × IsFourth passed failed i j r.0 n r.1 × NoThirdBelow failed i j r.0 n

abbrev pub IsSecond : Test → Test → ℕ → ℕ → ℕ × ℕ × ℕ → Type 0
IsSecond passed failed i n r = (i < r.0) × IsThird passed failed i r.0 n (r.1, r.2) × NoSecondBelow failed i r.0 n

abbrev pub IsFirst : Test → Test → ℕ → ℕ × ℕ × ℕ × ℕ → Type 0
IsFirst passed failed n r = IsSecond passed failed r.0 n (r.1, r.2, r.3) × NoFirstBelow failed r.0 n
