-- Pair text: what users write of a pair.
--     vertices 5, five lines of four numbers, dual 5, five lines of four numbers
-- Lines without a field, and lines whose first field begins with '#', are skipped; all lines are numbered from 1.
use Rattle.std.specs.Prelude.{◌≡◌, ◌≢◌, ℕ, ◌+◌, ◌<◌, ◌≤◌, ◌==◌, Bool, true, not, ◌&&◌, ◌||◌, cond, if◌then◌else◌, ℤ, pos, neg_ℤ, ◌≤ℤ◌, unsigned_abs, List, [], ◌∷◌, ◌++◌, length, map, filter, codes, slice_index, Any, Option, Some, None, option_map}
use Rattle.std.specs.List.{slice_split, onto_first, AllZip}
use Rattle.std.specs.Str.{all_ascii_digits}
use Rattle.std.specs.Str.Lines.{strip_carriage_return}
use Rattle.std.specs.Str.Parse.{digits_value}
use Rattle.ntfe_nums.specs.Vectors.{Vector, numbers}
use Rattle.ntfe_model.specs.Pairs.{VertexLists, IsSmall}

-- ---- lines and fields

-- a line feed ends a line; bytes after the last one are a line where there are any
abbrev pub lines : List ℕ → List (List ℕ)
lines [] = []
lines (b ∷ bytes) = if b == 10 then ([] ∷ lines bytes) else (onto_first b (lines bytes))

-- a space or a tab
abbrev pub is_blank : ℕ → Bool
is_blank b = (b == 32) || (b == 9)

abbrev pub is_filled : List ℕ → Bool
is_filled field = not (length field == 0)

-- what stands between blanks
abbrev pub fields : List ℕ → List (List ℕ)
fields content = filter is_filled (slice_split is_blank content)

-- a line without a field, or a comment
abbrev pub is_skipped : List (List ℕ) → Bool
is_skipped [] = true
is_skipped (field ∷ more) = slice_index field 0 == 35

-- a line that is not skipped: its number, counted from 1, and its fields
pub record Line : Type 0 where
  pub number : ℕ
  pub fields : List (List ℕ)

-- the line behind so many lines
abbrev pub line_behind : ℕ → List ℕ → Line
line_behind before content = record { number = before + 1; fields = fields (strip_carriage_return content) }

-- the lines that are not skipped, behind so many lines
abbrev pub unskipped : ℕ → List (List ℕ) → List Line
unskipped before [] = []
unskipped before (content ∷ contents) =
    let line = line_behind before content in
    cond (is_skipped line.fields) (unskipped (before + 1) contents) (line ∷ unskipped (before + 1) contents)

abbrev pub lines_of : List ℕ → List Line
lines_of bytes = unskipped 0 (lines bytes)

-- ---- numbers

-- what digits stand for, where there are digits and nothing else
abbrev pub magnitude : List ℕ → Option ℕ
magnitude digits = if is_filled digits && all_ascii_digits digits then Some (digits_value 10 digits) else None

-- the number that a field is, if it is one: digits, behind a sign or not
abbrev pub number : List ℕ → Option ℤ
number [] = None
number (b ∷ field) =
    if b == 43 then (option_map pos (magnitude field))
    else (if b == 45 then (option_map (λ n. neg_ℤ (pos n)) (magnitude field)) else (option_map pos (magnitude (b ∷ field))))

abbrev pub AreNumbers : List (List ℕ) → List ℤ → Type 0
AreNumbers fields zs = map number fields ≡ map Some zs

-- ---- pair texts

-- a line of this word and this number
pub record IsCountLine (word : List ℕ) (count : ℕ) (line : Line) : Type 0 where
  pub field : List ℕ
  pub fields_are : line.fields ≡ word ∷ field ∷ []
  pub number_is : number field ≡ Some (pos count)

-- a line of the four coordinates of a vector
pub record IsVectorLine (line : Line) (v : Vector) : Type 0 where
  pub numbers_are : AreNumbers line.fields (numbers v)
  pub small : IsSmall v

-- the lines of a list as far as these vectors, with so many still to come
pub record IsBegun (word : List ℕ) (vs : List Vector) (left : ℕ) (these : List Line) : Type 0 where
  pub head : Line
  pub entries : List Line
  pub lines_are : these ≡ head ∷ entries
  pub count : IsCountLine word (length vs + left) head
  pub at_least : 5 ≤ length vs + left
  pub at_most : length vs + left ≤ 64
  pub vectors : AllZip IsVectorLine entries vs

abbrev pub AreListLines : List ℕ → List Vector → List Line → Type 0
AreListLines word vs these = IsBegun word vs 0 these

pub record ArePairLines (p : VertexLists) (all : List Line) : Type 0 where
  pub first : List Line
  pub second : List Line
  pub lines_are : all ≡ first ++ second
  pub vertices : AreListLines (codes "vertices") p.vertices first
  pub dual : AreListLines (codes "dual") p.dual second

-- the bytes are a text of the pair
abbrev pub IsPairText : List ℕ → VertexLists → Type 0
IsPairText bytes p = ArePairLines p (lines_of bytes)

-- ---- faults

-- what comes next: a line of a word and a count, a line of four numbers, or nothing
pub data Due : Type 0 where
  count_of : List ℕ → Due
  four_numbers : Due
  nothing : Due

-- what is due behind these lines of one list
abbrev pub IsDueInList : List ℕ → List Line → Due → Type 0
IsDueInList word good (count_of w) = (good ≡ []) × (w ≡ word)
IsDueInList word good four_numbers = (vs : List Vector) × (left : ℕ) × (0 < left) × IsBegun word vs left good
IsDueInList word good nothing = ⊥

-- what is due behind these lines of the dual list
pub record IsDueInDual (good : List Line) (due : Due) : Type 0 where
  pub vertices : List Vector
  pub first : List Line
  pub second : List Line
  pub lines_are : good ≡ first ++ second
  pub whole : AreListLines (codes "vertices") vertices first
  pub is : IsDueInList (codes "dual") second due

-- nothing is due behind all lines of a pair
pub record IsDueInNone (good : List Line) (due : Due) : Type 0 where
  pub pair : VertexLists
  pub whole : ArePairLines pair good
  pub is : due ≡ nothing

-- what is due behind these lines, which are good
pub data IsDue (good : List Line) (due : Due) : Type 0 where
  in_vertices : IsDueInList (codes "vertices") good due → IsDue good due
  in_dual : IsDueInDual good due → IsDue good due
  in_none : IsDueInNone good due → IsDue good due

-- the line has the fields that are due, and these of them must be numbers
abbrev pub HasFields : Due → List (List ℕ) → List (List ℕ) → Type 0
HasFields (count_of word) fields ns = (fields ≡ word ∷ ns) × (length ns ≡ 1)
HasFields four_numbers fields ns = (fields ≡ ns) × (length ns ≡ 4)
HasFields nothing fields ns = ⊥

-- the fields are not those that are due
abbrev pub IsBadLine : Due → List (List ℕ) → Type 0
IsBadLine due fields = (due ≢ nothing) × ((ns : List (List ℕ)) → ¬ (HasFields due fields ns))

-- some field that must be a number is none
pub record IsBadNumber (due : Due) (fields : List (List ℕ)) : Type 0 where
  pub ns : List (List ℕ)
  pub has : HasFields due fields ns
  pub bad : Any (λ n. number n ≡ None) ns

-- all are numbers, and some size is over 1,023
pub record IsTooLarge (due : Due) (fields : List (List ℕ)) : Type 0 where
  pub ns : List (List ℕ)
  pub zs : List ℤ
  pub has : HasFields due fields ns
  pub are : AreNumbers ns zs
  pub large : Any (λ z. 1023 < unsigned_abs z) zs

-- a count that is no larger, and not from 5 to 64
pub record IsBadCount (due : Due) (fields : List (List ℕ)) : Type 0 where
  pub word : List ℕ
  pub field : List ℕ
  pub count : ℤ
  pub due_is : due ≡ count_of word
  pub fields_are : fields ≡ word ∷ field ∷ []
  pub number_is : number field ≡ Some count
  pub small : unsigned_abs count ≤ 1023
  pub range : ¬ ((pos 5 ≤ℤ count) × (count ≤ℤ pos 64))

-- a line where nothing is due
abbrev pub IsLong : Due → List (List ℕ) → Type 0
IsLong due fields = due ≡ nothing

-- the line of this number is the first that is not what is due behind the lines before it, and it is wrong in this way
pub record IsFirstWrong (IsNext : List Line → Due → Type 0) (IsWrong : Due → List (List ℕ) → Type 0) (all : List Line) (number : ℕ) : Type 0 where
  pub good : List Line
  pub line : Line
  pub later : List Line
  pub due : Due
  pub lines_are : all ≡ good ++ line ∷ later
  pub next : IsNext good due
  pub wrong : IsWrong due line.fields
  pub number_is : number ≡ line.number

abbrev pub IsFirstFault : (Due → List (List ℕ) → Type 0) → List ℕ → ℕ → Type 0
IsFirstFault IsWrong bytes number = IsFirstWrong IsDue IsWrong (lines_of bytes) number

-- all lines are good, and one more is due
pub record EndsEarly (IsNext : List Line → Due → Type 0) (all : List Line) : Type 0 where
  pub due : Due
  pub next : IsNext all due
  pub more : due ≢ nothing

abbrev pub IsShort : List ℕ → Type 0
IsShort bytes = EndsEarly IsDue (lines_of bytes)
