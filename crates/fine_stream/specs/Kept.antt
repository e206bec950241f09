-- A path that keeps what it came by: for each number of its word the triple, and the steps that waited before it. The numbers of a word are told
-- from the last one on, so that the path grows and falls by the first of them.
use Rattle.std.specs.Prelude.{◌≡◌, ℕ, ◌<◌, List, [], ◌∷◌, ◌++◌, length, ⊤}
use Rattle.ntfe_model.specs.Words.{after_side, written}
use Rattle.ntfe_model.specs.declared.triangle.Triangle.{Triangle}
use Rattle.fine_stream.specs.declared.path.Path.{Path}

-- the word whose numbers are these, from the last one on
abbrev pub spelled : List ℕ → List ℕ
spelled [] = []
spelled (c ∷ r) = spelled r ++ c ∷ []

-- the steps that wait after the first one is closed to the triple with c
abbrev pub closed_with : ℕ → List (ℕ × ℕ) → List (ℕ × ℕ)
closed_with c [] = []
closed_with c ((a, b) ∷ fs) = after_side (c, a) (after_side (b, c) fs)

-- the triple with c that closes the first of the steps
abbrev pub closing : ℕ → List (ℕ × ℕ) → Triangle
closing c [] = written 0 0 c
closing c ((a, b) ∷ fs) = written a b c

-- the steps that wait after the word, where these waited before it
abbrev pub waiting_after : List (ℕ × ℕ) → List ℕ → List (ℕ × ℕ)
waiting_after root [] = root
waiting_after root (c ∷ r) = closed_with c (waiting_after root r)

abbrev pub triangles_after : List (ℕ × ℕ) → List ℕ → List Triangle
triangles_after root [] = []
triangles_after root (c ∷ r) = triangles_after root r ++ closing c (waiting_after root r) ∷ []

-- the lists of the steps that wait before and after each number, one after the other
abbrev pub stacked : List (ℕ × ℕ) → List ℕ → List (ℕ × ℕ)
stacked root [] = root
stacked root (c ∷ r) = stacked root r ++ waiting_after root (c ∷ r)

-- where the lists after the first one begin
abbrev pub begins : List (ℕ × ℕ) → List ℕ → List ℕ
begins root [] = []
begins root (c ∷ r) = begins root r ++ length (stacked root r) ∷ []

-- each number of the word closes a step
abbrev pub DoClose : List (ℕ × ℕ) → List ℕ → Type 0
DoClose root [] = ⊤
DoClose root (c ∷ r) = (0 < length (waiting_after root r)) × DoClose root r

-- the path came from these steps by the word
pub record Keeps (root : List (ℕ × ℕ)) (r : List ℕ) (p : Path) : Type 0 where
  pub word : p.word.items ≡ spelled r
  pub all : p.triangles.items ≡ triangles_after root r
  pub waiting : p.steps.items ≡ stacked root r
  pub starts : p.starts.items ≡ begins root r
  pub closes : DoClose root r
