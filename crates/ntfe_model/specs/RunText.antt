-- The text of a run, as bytes.
use Rattle.std.specs.Prelude.{◌≡◌, ℕ, ◌+◌, ◌-◌, ◌^◌, ◌<◌, ◌≤◌, ◌⊎◌, ◌==◌, min, max, Bool, true, false, cond, ℤ, List, [], ◌∷◌, ◌++◌, length, take, codes, decimal, flat_map, Option, Some, None, ⊤}
use Rattle.std.specs.Fmt.{signed_decimal}
use Rattle.ntfe_model.specs.Lists.{IsListing, IsBelow}
use Rattle.ntfe_nums.specs.Vectors.{Vector}
use Rattle.ntfe_model.specs.Pairs.{VertexLists}
use Rattle.ntfe_model.specs.Shapes.{Shape}
use Rattle.ntfe_model.specs.Choices.{IsExtendable}
use Rattle.ntfe_model.specs.Stars.{IsStar, order_of}
use Rattle.ntfe_model.specs.Keys.{IsAfter, AreHeightsOf}
use Rattle.ntfe_model.specs.declared.nogood.Push.{Push}
use Rattle.ntfe_model.specs.declared.nogood.Push.TheVariants.{Up, Down}

-- what follows a space
abbrev pub spaced : List ℕ → List ℕ
spaced text = 32 ∷ text

-- a word and numbers, one space before each, and a line feed
abbrev pub number_line : List ℕ → List ℕ → List ℕ
number_line word ns = word ++ flat_map (λ n. spaced (decimal n)) ns ++ 10 ∷ []

abbrev pub signed_line : List ℕ → List ℤ → List ℕ
signed_line word zs = word ++ flat_map (λ z. spaced (signed_decimal z)) zs ++ 10 ∷ []

-- a line of four coordinates
abbrev pub vector_line : Vector → List ℕ
vector_line v = signed_decimal v.x1 ++ spaced (signed_decimal v.x2) ++ spaced (signed_decimal v.x3) ++ spaced (signed_decimal v.x4) ++ 10 ∷ []

-- the canonical lines of a pair
abbrev pub list_lines : List ℕ → List Vector → List ℕ
list_lines word vs = number_line word (length vs ∷ []) ++ flat_map vector_line vs

abbrev pub pair_lines : VertexLists → List ℕ
pair_lines p = list_lines (codes "vertices") p.vertices ++ list_lines (codes "dual") p.dual

-- what the text depends on beside the geometry
pub record Form : Type 0 where
  pub push : Push
  pub stars : Bool

abbrev pub push_line : Push → List ℕ
push_line Up = codes "push up\n"
push_line Down = codes "push down\n"

-- the line that says that stars are written, where they are
abbrev pub stars_line : Bool → List ℕ
stars_line stars = cond stars (codes "stars\n") []

abbrev pub head_text : VertexLists → Form → List ℕ
head_text p form = codes "ntfe 1\n" ++ (pair_lines p ++ (push_line form.push ++ stars_line form.stars))

-- a choice with what its block shows
pub record Block : Type 0 where
  pub choice : List ℕ
  pub heights : List ℤ
  pub star : Option (List (List ℕ))

abbrev pub star_lines : Option (List (List ℕ)) → List ℕ
star_lines None = []
star_lines (Some star) = number_line (codes "star") (length star ∷ []) ++ flat_map (number_line (codes "simplex")) star

abbrev pub block_text : Block → List ℕ
block_text b = number_line (codes "class") b.choice ++ (signed_line (codes "heights") b.heights ++ star_lines b.star)

abbrev pub IsStarOf : Shape → Form → Block → Option (List (List ℕ)) → Type 0
IsStarOf g form b None = form.stars ≡ false
IsStarOf g form b (Some star) = (form.stars ≡ true) × IsStar g.pair.dual g.points b.heights (order_of form.push (length g.points)) star

-- the block of an extendable choice after the start
pub record IsBlockOf (g : Shape) (form : Form) (start : Option (List ℕ)) (b : Block) : Type 0 where
  pub extendable : IsExtendable g b.choice
  pub after : IsAfter start b.choice
  pub heights : AreHeightsOf g b.choice b.heights
  pub star : IsStarOf g form b b.star

-- the blocks of exactly the extendable choices after the start, in order
abbrev pub AreBlocks : Shape → Form → Option (List ℕ) → List Block → Type 0
AreBlocks g form start bs = IsListing (λ b c. IsBelow b.choice c.choice) (IsBlockOf g form start) bs

-- what is kept of an earlier output: the number of bytes, the number of whole blocks, and the last choice.
-- A whole head without a block is kept too; where no byte is kept, nothing is
pub record Kept : Type 0 where
  pub bytes : ℕ
  pub blocks : ℕ
  pub last : Option (List ℕ)

abbrev pub nothing_kept : Kept
nothing_kept = record { bytes = 0; blocks = 0; last = None }

-- the head, unless it is kept
abbrev pub head_due : VertexLists → Form → Kept → List ℕ
head_due p form kept = cond (kept.bytes == 0) (head_text p form) []

abbrev pub end_line : ℕ → List ℕ
end_line c = number_line (codes "end") (c ∷ [])

abbrev pub limit_line : ℕ → List ℕ
limit_line c = number_line (codes "limit") (c ∷ [])

-- the text, where bs are all blocks after the start. The last line counts the kept blocks too
abbrev pub text_without_limit : VertexLists → Form → Kept → List Block → List ℕ
text_without_limit p form kept bs = head_due p form kept ++ flat_map block_text bs ++ end_line (min (2 ^ 63) (kept.blocks + length bs))

-- with the limit n, where there are at least n blocks, the kept ones counted too: no block is due where n are kept
abbrev pub text_with_limit : VertexLists → Form → Kept → ℕ → List Block → List ℕ
text_with_limit p form kept n bs = head_due p form kept ++ flat_map block_text (take (n - kept.blocks) bs) ++ limit_line (max kept.blocks n)

-- the last line
abbrev pub last_line : Bool → ℕ → List ℕ
last_line limited c = cond limited (limit_line c) (end_line c)

abbrev pub IsTextOf : VertexLists → Form → Kept → Option ℕ → List Block → List ℕ → Type 0
IsTextOf p form kept None bs text = text ≡ text_without_limit p form kept bs
IsTextOf p form kept (Some n) bs text =
    ((kept.blocks + length bs < n) × (text ≡ text_without_limit p form kept bs))
    ⊎ ((n ≤ kept.blocks + length bs) × (text ≡ text_with_limit p form kept n bs))

-- the text of a run that comes to its end or to its limit
pub record IsRunText (g : Shape) (form : Form) (kept : Kept) (limit : Option ℕ) (text : List ℕ) : Type 0 where
  pub blocks : List Block
  pub are : AreBlocks g form kept.last blocks
  pub is : IsTextOf g.pair form kept limit blocks text

-- the limit, if there is one, is not yet reached with so many blocks, the kept ones counted too
abbrev pub IsUnderLimit : Option ℕ → ℕ → Type 0
IsUnderLimit None count = ⊤
IsUnderLimit (Some n) count = count < n

-- the text of a run that stops early, below a choice or key: all blocks below it are written, fewer than the limit asks for, and no last line
pub record IsStoppedText (g : Shape) (form : Form) (kept : Kept) (limit : Option ℕ) (bound : List ℕ) (text : List ℕ) : Type 0 where
  pub blocks : List Block
  pub are : IsListing (λ b c. IsBelow b.choice c.choice) (λ b. IsBlockOf g form kept.last b × IsBelow b.choice bound) blocks
  pub under_limit : IsUnderLimit limit (kept.blocks + length blocks)
  pub is : text ≡ head_due g.pair form kept ++ flat_map block_text blocks
