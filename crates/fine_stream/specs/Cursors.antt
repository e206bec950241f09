-- Where a stream of the items of a face stands.
use Rattle.std.specs.Prelude.{◌≡◌, ℕ, ◌+◌, List, [], length, Option, MatchOption, ⊤}
use Rattle.ntfe_model.specs.Lists.{IsListing, IsBelow}
use Rattle.ntfe_model.specs.Charts.{Patch, AreSteps}
use Rattle.ntfe_model.specs.Words.{IsTriangulation, IsItem, HasItemAt}
use Rattle.ntfe_model.specs.declared.triangulation.Triangulation.{Triangulation}
use Rattle.fine_stream.specs.Paths.{Completes}
use Rattle.fine_stream.specs.Kept.{Keeps}
use Rattle.fine_stream.specs.Found.{IsFirst, HasNone}
use Rattle.fine_stream.specs.Places.{ArePlaced, AreTables}
use Rattle.fine_stream.specs.declared.path.Path.{Path}
use Rattle.fine_stream.specs.declared.tables.Tables.{Tables}
use Rattle.fine_stream.specs.declared.find.Found.{Found}
use Rattle.fine_stream.specs.declared.position.Position.{Position}
use Rattle.fine_stream.specs.declared.position.Position.TheVariants.{Start, After, End}

-- what a contract sees of a stream: the face, and where the stream stands among its items
pub record Cursor : Type 0 where
  pub patch : Patch
  pub position : Position

-- the list of all fine triangulations of the face, in order of words
abbrev pub AreAll : Patch → List Triangulation → Type 0
AreAll h xs = IsListing (λ y z. IsBelow y.word z.word) (IsTriangulation h) xs

-- so many items come before the position
abbrev pub IsPlace : Patch → ℕ → Position → Type 0
IsPlace h n Start = n ≡ 0
IsPlace h n (After word) = (m : ℕ) × (x : Triangulation) × IsItem h m x × (x.word ≡ word) × (n ≡ m + 1)
IsPlace h n End = (xs : List Triangulation) × AreAll h xs × (length xs ≡ n)

-- so many items come before the stream
pub record StandsBefore (c : Cursor) (n : ℕ) : Type 0 where
  pub place : IsPlace c.patch n c.position

-- the word comes after the position
abbrev pub Follows : Position → List ℕ → Type 0
Follows Start word = ⊤
Follows (After last) word = IsBelow last word
Follows End word = ⊥

-- ---- the path of an item

-- the path has a word of the face, and keeps what it came by from the boundary on
pub record IsWhole (h : Patch) (p : Path) : Type 0 where
  pub root : List (ℕ × ℕ)
  pub boundary : AreSteps h root
  pub completes : Completes h [] root p.word.items p.triangles.items
  pub numbers : List ℕ
  pub keeps : Keeps root numbers p

-- of the words of the face with a property the path has the first, and keeps what it came by
pub record FindsFirst (h : Patch) (P : List ℕ → Type 0) (p : Path) : Type 0 where
  pub root : List (ℕ × ℕ)
  pub boundary : AreSteps h root
  pub is : IsFirst h [] root P p.word.items p.triangles.items
  pub numbers : List ℕ
  pub keeps : Keeps root numbers p

-- no word of the face has the property
pub record FindsNone (h : Patch) (P : List ℕ → Type 0) : Type 0 where
  pub root : List (ℕ × ℕ)
  pub boundary : AreSteps h root
  pub none : HasNone h [] root P

-- the path leads to the position
abbrev pub LeadsTo : Patch → Position → Path → Type 0
LeadsTo h Start p = (root : List (ℕ × ℕ)) × AreSteps h root × Keeps root [] p
LeadsTo h (After word) p = IsWhole h p × (p.word.items ≡ word)
LeadsTo h End p = ⊤

-- the path leads to the position, if there is one
abbrev pub ArePathsOf : Patch → Position → Option Path → Type 0
ArePathsOf h position kept = MatchOption kept ⊤ (LeadsTo h position)

-- the path has its places in the tables, if there is one
abbrev pub ArePlacedIn : Tables → Option Path → Type 0
ArePlacedIn x kept = MatchOption kept ⊤ (ArePlaced x)

-- the item is the next one after the position, and the path leads to it
pub record IsFoundItem (h : Patch) (position : Position) (f : Found) : Type 0 where
  pub item : (n : ℕ) → IsPlace h n position → IsItem h n f.item
  pub path : LeadsTo h (After f.item.word) f.path

-- the item after the position, or none, where all items come before it
abbrev pub IsFoundAfter : Patch → Position → Option Found → Type 0
IsFoundAfter h position answer = MatchOption answer ((n : ℕ) → IsPlace h n position → IsPlace h n End) (IsFoundItem h position)

-- ---- the stream

-- some number of items comes before the stream
abbrev pub IsCursor : Cursor → Type 0
IsCursor c = (n : ℕ) × StandsBefore c n

-- the stream stands among the items of the face, and the path that it keeps leads there
pub record IsStanding (h : Patch) (position : Position) (x : Tables) (kept : Option Path) : Type 0 where
  pub cursor : IsCursor (record { patch = h; position = position })
  pub path : ArePathsOf h position kept
  pub tables : AreTables h x
  pub placed : ArePlacedIn x kept

-- the answer of a stream: the next item, after which it stands, or none, where it stands at the end
abbrev pub IsNextItem : Cursor → Cursor → Option Triangulation → Type 0
IsNextItem before after answer =
    MatchOption answer
    ((after.position ≡ End) × ((n : ℕ) → StandsBefore before n → StandsBefore after n × (¬ (HasItemAt before.patch n))))
    (λ x. (after.position ≡ After x.word) × ((n : ℕ) → StandsBefore before n → StandsBefore after (n + 1) × IsItem before.patch n x))
