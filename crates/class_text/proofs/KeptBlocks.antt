-- What is kept of a beginning of a text: nothing, or the whole head and the whole blocks that stand in it, to the byte.
--     kept_at      a head and these blocks, as they are kept
--     kept_beginning      what is kept
use Rattle.std.proofs.Common.{◌≡◌, ◌≢◌, ◌∙◌, ℕ, zero, suc, ◌+◌, ◌^◌, ◌<◌, ◌≤◌, ◌⊎◌, inl, inr, Bool, true, false, cond, ◌||◌, refl, sym, ap, subst, arith, ℤ, pos, negsuc, List, [], ◌∷◌, ◌++◌, length, map, flat_map, take, get_or, append_assoc, Some, None, All}
use Rattle.std.specs.Prelude.{Option, decimal, codes}
use Rattle.std.specs.Fmt.{signed_decimal}
use Rattle.std.specs.List.{list_any}
use Rattle.std.proofs.Math.Seq.{take-append_seam}
use Rattle.std.proofs.lemmas.Bool.{ne_eqb}
use Rattle.std.proofs.lemmas.List.{append-nil, append_cancel_left, length-append, take-append-le}
use Rattle.std.proofs.lemmas.List.Concat.{flat_map-append}
use Rattle.std.proofs.lemmas.List.Elements.{All-nil, All-cons, All-head, All-tail, All-append, All-weaker}
use Rattle.ntfe_model.specs.Pairs.{VertexLists}
use Rattle.ntfe_model.specs.RunText.{Form, Block, Kept, nothing_kept, spaced, number_line, signed_line, push_line, pair_lines, head_text, star_lines, block_text}
use Rattle.ntfe_model.specs.Earlier.{Layout, Place, Reading, Reads, IsAllowed, IsClassLine, IsKeptOf, head_lines, whole_lines, with_feed, after_head, goes_on, ends_block}
use Rattle.ntfe_model.specs.Earlier.Place.{class_or_end, heights_of, star_of, simplices_of, nothing}
use Rattle.ntfe_model.specs.declared.nogood.Push.{Push}
use Rattle.ntfe_model.specs.declared.nogood.Push.TheVariants.{Up, Down}
use Rattle.class_text.specs.Earlier.{last_choice}
use Rattle.class_text.proofs.Cuts.{is_feed}
use Rattle.class_text.proofs.FieldLists.{same_head}
use Rattle.class_text.proofs.LineFields.{feed_off}
use Rattle.class_text.proofs.NumberTexts.{IsDigit, decimal_digits, number_text, number_text_fed, small_numbers}
use Rattle.class_text.proofs.ReadLines.{allowed_read}
use Rattle.class_text.proofs.TextLines.{IsOneLine, fed, sizes, fed_size, sizes_append, cut_of, first_lines, EndsFed, ends_after, whole_text}

-- ---- the lines of a block

abbrev heights_text : List ℤ → List ℕ
heights_text zs = codes "heights" ++ flat_map (λ z. spaced (signed_decimal z)) zs

abbrev simplex_texts : List (List ℕ) → List (List ℕ)
simplex_texts star = map (number_text (codes "simplex")) star

abbrev star_texts : Option (List (List ℕ)) → List (List ℕ)
star_texts None = []
star_texts (Some star) = number_text (codes "star") (length star ∷ []) ∷ simplex_texts star

abbrev block_lines : Block → List (List ℕ)
block_lines b = number_text (codes "class") b.choice ∷ heights_text b.heights ∷ star_texts b.star

simplices_fed : (star : List (List ℕ)) → flat_map (number_line (codes "simplex")) star ≡ fed (simplex_texts star)
simplices_fed [] = refl
simplices_fed (m ∷ star) = λ i. number_text_fed (codes "simplex") m i ++ simplices_fed star i

star_fed : (star : Option (List (List ℕ))) → star_lines star ≡ fed (star_texts star)
star_fed None = refl
star_fed (Some star) = λ i. number_text_fed (codes "star") (length star ∷ []) i ++ simplices_fed star i

heights_fed : (zs : List ℤ) → signed_line (codes "heights") zs ≡ with_feed (heights_text zs)
heights_fed zs = refl

block_fed : (b : Block) → block_text b ≡ fed (block_lines b)
block_fed b = λ i. number_text_fed (codes "class") b.choice i ++ (heights_fed b.heights i ++ star_fed b.star i)

blocks_fed : (bs : List Block) → flat_map block_text bs ≡ fed (flat_map block_lines bs)
blocks_fed [] = refl
blocks_fed (b ∷ bs) = (λ i. block_fed b i ++ blocks_fed bs i) ∙ sym (flat_map-append with_feed (block_lines b) (flat_map block_lines bs))

-- ---- each is one line

plain_text : (xs : List ℕ) → list_any is_feed xs ≡ false → IsOneLine xs
plain_text [] h = All-nil _
plain_text (x ∷ xs) h = by (is_feed x) refl h (plain_text xs)
  where
    by : (b : Bool) → is_feed x ≡ b → (b || list_any is_feed xs) ≡ false → (list_any is_feed xs ≡ false → IsOneLine xs) → IsOneLine (x ∷ xs)
    by true e f rest = cc
    by false e f rest = All-cons (λ b. is_feed b ≡ false) x xs e (rest f)

digits_plain : (n : ℕ) → IsOneLine (decimal n)
digits_plain n = All-weaker IsDigit (λ b. is_feed b ≡ false) (λ b d. ne_eqb b 10 (λ e. absurd (let l = d.0 in omega (arith, l, e)))) (decimal n) (decimal_digits n)

signed_plain : (z : ℤ) → IsOneLine (signed_decimal z)
signed_plain (pos n) = digits_plain n
signed_plain (negsuc n) = All-cons (λ b. is_feed b ≡ false) 45 (decimal (suc n)) refl (digits_plain (suc n))

texts_plain : {X : Type 0} (f : X → List ℕ) → ((x : X) → IsOneLine (f x)) → (xs : List X) → IsOneLine (flat_map (λ x. spaced (f x)) xs)
texts_plain f each [] = All-nil _
texts_plain f each (x ∷ xs) = All-append (λ b. is_feed b ≡ false) (spaced (f x)) (flat_map (λ y. spaced (f y)) xs) (All-cons (λ b. is_feed b ≡ false) 32 (f x) refl (each x)) (texts_plain f each xs)

pub numbers_plain : (word ns : List ℕ) → list_any is_feed word ≡ false → IsOneLine (number_text word ns)
numbers_plain word ns h = All-append (λ b. is_feed b ≡ false) word (flat_map (λ n. spaced (decimal n)) ns) (plain_text word h) (texts_plain decimal digits_plain ns)

simplices_plain : (star : List (List ℕ)) → All IsOneLine (simplex_texts star)
simplices_plain [] = All-nil IsOneLine
simplices_plain (m ∷ star) = All-cons IsOneLine (number_text (codes "simplex") m) (simplex_texts star) (numbers_plain (codes "simplex") m refl) (simplices_plain star)

star_plain : (star : Option (List (List ℕ))) → All IsOneLine (star_texts star)
star_plain None = All-nil IsOneLine
star_plain (Some star) = All-cons IsOneLine (number_text (codes "star") (length star ∷ [])) (simplex_texts star) (numbers_plain (codes "star") (length star ∷ []) refl) (simplices_plain star)

block_plain : (b : Block) → All IsOneLine (block_lines b)
block_plain b =
    All-cons IsOneLine (number_text (codes "class") b.choice) (heights_text b.heights ∷ star_texts b.star) (numbers_plain (codes "class") b.choice refl)
    (All-cons IsOneLine (heights_text b.heights) (star_texts b.star)
    (All-append (λ x. is_feed x ≡ false) (codes "heights") (flat_map (λ z. spaced (signed_decimal z)) b.heights) (plain_text (codes "heights") refl) (texts_plain signed_decimal signed_plain b.heights)) (star_plain b.star))

blocks_plain : (bs : List Block) → All IsOneLine (flat_map block_lines bs)
blocks_plain [] = All-nil IsOneLine
blocks_plain (b ∷ bs) = All-append IsOneLine (block_lines b) (flat_map block_lines bs) (block_plain b) (blocks_plain bs)

-- ---- the head ends with a line feed

push_ends : (push : Push) → EndsFed (push_line push)
push_ends Up = (codes "push up", refl)
push_ends Down = (codes "push down", refl)

form_ends : (form : Form) → EndsFed (push_line form.push ++ cond form.stars (codes "stars\n") [])
form_ends form = by form.stars
  where
    by : (stars : Bool) → EndsFed (push_line form.push ++ cond stars (codes "stars\n") [])
    by true = ends_after (push_line form.push) (codes "stars\n") (codes "stars", refl)
    by false = subst EndsFed (sym (append-nil (push_line form.push))) (push_ends form.push)

head_ends : (p : VertexLists) (form : Form) → EndsFed (head_text p form)
head_ends p form = ends_after (codes "ntfe 1\n") (pair_lines p ++ (push_line form.push ++ cond form.stars (codes "stars\n") [])) (ends_after (pair_lines p) (push_line form.push ++ cond form.stars (codes "stars\n") []) (form_ends form))

-- ---- what is read of the lines of a block

same_others : (x y : List ℕ) (xs ys : List (List ℕ)) → x ∷ xs ≡ y ∷ ys → xs ≡ ys
same_others x y xs ys e = cc

-- a star is shown where stars are written, and no other
abbrev pub IsShown : Form → Option (List (List ℕ)) → Type 0
IsShown form None = form.stars ≡ false
IsShown form (Some star) = form.stars ≡ true

-- behind so many bytes and blocks, the last of this choice
abbrev at_end : ℕ → ℕ → List ℕ → Reading
at_end n k choice = record { place = class_or_end; read = n; kept = record { bytes = n; blocks = k; last = Some choice } }

module _ (l : Layout) (few : l.items ≤ 2 ^ 32) (rest : List (List ℕ)) (t : Reading) where
  -- the lines stop before the block's end, and nothing more is kept; or they go on from its end
  abbrev StopsOrGoesOn : Reading → ℕ → List ℕ → List (List ℕ) → Type 0
  StopsOrGoesOn s n choice after = (t.kept ≡ s.kept) ⊎ ((lines : List (List ℕ)) × (after ≡ lines ++ rest) × Reads l (at_end n (s.kept.blocks + 1) choice) lines t)

  -- a line within the block keeps nothing more
  within : (r s : Reading) (n : ℕ) (choice : List ℕ) (after : List (List ℕ)) → r.kept ≡ s.kept → StopsOrGoesOn r n choice after → StopsOrGoesOn s n choice after
  within r s n choice after e (inl g) = inl (g ∙ e)
  within r s n choice after e (inr (lines, f, h)) = inr (lines, f, subst (λ (k : Kept). Reads l (at_end n (k.blocks + 1) choice) lines t) e h)

  simplices_read : (m : List ℕ) (star : List (List ℕ)) (choice : List ℕ) (s : Reading) (n : ℕ) (lines after : List (List ℕ)) → s.place ≡ simplices_of choice (suc (length star)) → n ≡ s.read + sizes (simplex_texts (m ∷ star))
      → simplex_texts (m ∷ star) ++ after ≡ lines ++ rest → Reads l s lines t → StopsOrGoesOn s n choice after
  simplices_read m star choice s n [] after p e q h = inl (ap (λ (r : Reading). r.kept) (sym h))
  simplices_read m [] choice s n (line ∷ lines) after p e q (r, a, h) =
      let b = subst (λ (place : Place). IsAllowed l s place line r) p a in
      let f = same_head (number_text (codes "simplex") m) line after (lines ++ rest) q in
      let size : s.read + (length line + 1) ≡ n = (let g = ap length f in omega (arith, e, g)) in
      inr (lines, same_others (number_text (codes "simplex") m) line after (lines ++ rest) q, subst (λ (x : Reading). Reads l x lines t) (b.1 ∙ ap (λ k. at_end k (s.kept.blocks + 1) choice) size) h)
  simplices_read m (m2 ∷ star) choice s n (line ∷ lines) after p e q (r, a, h) =
      let b = subst (λ (place : Place). IsAllowed l s place line r) p a in
      let f = same_head (number_text (codes "simplex") m) line (simplex_texts (m2 ∷ star) ++ after) (lines ++ rest) q in
      let size : n ≡ r.read + sizes (simplex_texts (m2 ∷ star)) = (let g = ap length f in let k : r.read ≡ s.read + (length line + 1) = ap (λ (x : Reading). x.read) b.1 in omega (arith, e, g, k)) in
      within r s n choice after (ap (λ (x : Reading). x.kept) b.1)
      (simplices_read m2 star choice r n lines after (ap (λ (x : Reading). x.place) b.1) size (same_others (number_text (codes "simplex") m) line (simplex_texts (m2 ∷ star) ++ after) (lines ++ rest) q) h)

  star_read : (star : List (List ℕ)) (choice : List ℕ) (s : Reading) (n : ℕ) (lines after : List (List ℕ)) → s.place ≡ star_of choice → n ≡ s.read + sizes (star_texts (Some star))
      → star_texts (Some star) ++ after ≡ lines ++ rest → Reads l s lines t → StopsOrGoesOn s n choice after
  star_read star choice s n [] after p e q h = inl (ap (λ (r : Reading). r.kept) (sym h))
  star_read star choice s n (line ∷ lines) after p e q (r, a, h) = by (subst (λ (place : Place). IsAllowed l s place line r) p a)
    where
      text : List ℕ
      text = number_text (codes "star") (length star ∷ [])

      line_is : number_text (codes "star") (length star ∷ []) ≡ line
      line_is = same_head (number_text (codes "star") (length star ∷ [])) line (simplex_texts star ++ after) (lines ++ rest) q

      others : simplex_texts star ++ after ≡ lines ++ rest
      others = same_others (number_text (codes "star") (length star ∷ [])) line (simplex_texts star ++ after) (lines ++ rest) q

      count_is : (k : ℕ) → k < 2 ^ 32 → with_feed line ≡ number_line (codes "star") (k ∷ []) → k ≡ length star
      count_is k small is =
          ap (λ xs. get_or xs 0 0)
          (small_numbers (codes "star") (k ∷ []) (length star ∷ []) refl (All-cons (λ m. m < 2 ^ 64) k [] (omega (arith, small)) (All-nil _))
          (sym (feed_off line (number_text (codes "star") (k ∷ [])) (is ∙ number_text_fed (codes "star") (k ∷ []))) ∙ sym line_is))

      go : (us : List (List ℕ)) → us ≡ star → (k : ℕ) → 1 ≤ k → k ≡ length star → r ≡ goes_on s (length line + 1) (simplices_of choice k) → StopsOrGoesOn r n choice after
      go [] u k low c f = absurd (let d = ap length u in omega (arith, low, c, d))
      go (m ∷ ms) u k low c f =
          let g = ap length line_is in
          let d = ap length u in
          let moved : r.read ≡ s.read + (length line + 1) = ap (λ (x : Reading). x.read) f in
          let z : sizes (simplex_texts (m ∷ ms)) ≡ sizes (simplex_texts star) = ap (λ (v : List (List ℕ)). sizes (simplex_texts v)) u in
          let place : r.place ≡ simplices_of choice (suc (length ms)) = ap (λ (x : Reading). x.place) f ∙ ap (simplices_of choice) (c ∙ sym d) in
          simplices_read m ms choice r n lines after place (omega (arith, e, g, moved, z)) (ap (λ (v : List (List ℕ)). simplex_texts v ++ after) u ∙ others) h

      by : IsAllowed l s (star_of choice) line r → StopsOrGoesOn s n choice after
      by (k, low, high, is, f) = within r s n choice after (ap (λ (x : Reading). x.kept) f) (go star refl k low (count_is k high is) f)

  heights_read : (b : Block) → IsShown l.form b.star → (s : Reading) (n : ℕ) (lines after : List (List ℕ)) → s.place ≡ heights_of b.choice → n ≡ s.read + sizes (heights_text b.heights ∷ star_texts b.star)
      → (heights_text b.heights ∷ star_texts b.star) ++ after ≡ lines ++ rest → Reads l s lines t → StopsOrGoesOn s n b.choice after
  heights_read b shown s n [] after p e q h = inl (ap (λ (r : Reading). r.kept) (sym h))
  heights_read b shown s n (line ∷ lines) after p e q (r, a, h) = by b.star refl shown (subst (λ (place : Place). IsAllowed l s place line r) p a).1
    where
      line_is : heights_text b.heights ≡ line
      line_is = same_head (heights_text b.heights) line (star_texts b.star ++ after) (lines ++ rest) q

      others : star_texts b.star ++ after ≡ lines ++ rest
      others = same_others (heights_text b.heights) line (star_texts b.star ++ after) (lines ++ rest) q

      by : (star : Option (List (List ℕ))) → b.star ≡ star → IsShown l.form star → r ≡ cond l.form.stars (goes_on s (length line + 1) (star_of b.choice)) (ends_block s (length line + 1) b.choice) → StopsOrGoesOn s n b.choice after
      by None u stars f =
          let g = ap length line_is in
          let z : sizes (star_texts b.star) ≡ 0 = ap (λ (v : Option (List (List ℕ))). sizes (star_texts v)) u in
          let size : s.read + (length line + 1) ≡ n = omega (arith, e, g, z) in
          let k : r ≡ ends_block s (length line + 1) b.choice = f ∙ ap (λ (c : Bool). cond c (goes_on s (length line + 1) (star_of b.choice)) (ends_block s (length line + 1) b.choice)) stars in
          inr (lines, sym (ap (λ (v : Option (List (List ℕ))). star_texts v ++ after) u) ∙ others, subst (λ (x : Reading). Reads l x lines t) (k ∙ ap (λ i. at_end i (s.kept.blocks + 1) b.choice) size) h)
      by (Some star) u stars f =
          let g = ap length line_is in
          let z : sizes (star_texts b.star) ≡ sizes (star_texts (Some star)) = ap (λ (v : Option (List (List ℕ))). sizes (star_texts v)) u in
          let k : r ≡ goes_on s (length line + 1) (star_of b.choice) = f ∙ ap (λ (c : Bool). cond c (goes_on s (length line + 1) (star_of b.choice)) (ends_block s (length line + 1) b.choice)) stars in
          let moved : r.read ≡ s.read + (length line + 1) = ap (λ (x : Reading). x.read) k in
          within r s n b.choice after (ap (λ (x : Reading). x.kept) k)
          (star_read star b.choice r n lines after (ap (λ (x : Reading). x.place) k) (omega (arith, e, g, z, moved)) (sym (ap (λ (v : Option (List (List ℕ))). star_texts v ++ after) u) ∙ others) h)

  block_read : (b : Block) → IsShown l.form b.star → (s : Reading) (n : ℕ) (lines after : List (List ℕ)) → s.place ≡ class_or_end → n ≡ s.read + sizes (block_lines b)
      → block_lines b ++ after ≡ lines ++ rest → Reads l s lines t → StopsOrGoesOn s n b.choice after
  block_read b shown s n [] after p e q h = inl (ap (λ (r : Reading). r.kept) (sym h))
  block_read b shown s n (line ∷ lines) after p e q (r, a, h) = by (subst (λ (place : Place). IsAllowed l s place line r) p a)
    where
      line_is : number_text (codes "class") b.choice ≡ line
      line_is = same_head (number_text (codes "class") b.choice) line ((heights_text b.heights ∷ star_texts b.star) ++ after) (lines ++ rest) q

      others : (heights_text b.heights ∷ star_texts b.star) ++ after ≡ lines ++ rest
      others = same_others (number_text (codes "class") b.choice) line ((heights_text b.heights ∷ star_texts b.star) ++ after) (lines ++ rest) q

      choice_is : (choice : List ℕ) → IsClassLine l s line choice → choice ≡ b.choice
      choice_is choice k =
          small_numbers (codes "class") choice b.choice refl (All-weaker (λ m. m < l.items) (λ m. m < 2 ^ 64) (λ m i. omega (arith, i, few)) choice k.items)
          (sym (feed_off line (number_text (codes "class") choice) (k.is ∙ number_text_fed (codes "class") choice)) ∙ sym line_is)

      first_is : get_or (with_feed line) 0 0 ≡ 99
      first_is = sym (ap (λ (x : List ℕ). get_or (with_feed x) 0 0) line_is)

      by : IsAllowed l s class_or_end line r → StopsOrGoesOn s n b.choice after
      by (inl (choice, is, f)) =
          let c = choice_is choice is in
          let g = ap length line_is in
          let moved : r.read ≡ s.read + (length line + 1) = ap (λ (x : Reading). x.read) f in
          within r s n b.choice after (ap (λ (x : Reading). x.kept) f)
          (heights_read b shown r n lines after (ap (λ (x : Reading). x.place) f ∙ ap heights_of c) (omega (arith, e, g, moved)) others h)
      by (inr (inl is, f)) = absurd (let g : get_or (with_feed line) 0 0 ≡ 101 = ap (λ (x : List ℕ). get_or x 0 0) is in let k = first_is in omega (arith, g, k))
      by (inr (inr is, f)) = absurd (let g : get_or (with_feed line) 0 0 ≡ 108 = ap (λ (x : List ℕ). get_or x 0 0) is in let k = first_is in omega (arith, g, k))

-- ---- what is kept

pub last_of_more : (start : Option (List ℕ)) (bs : List Block) (b : Block) → last_choice start (bs ++ b ∷ []) ≡ Some b.choice
last_of_more start [] b = refl
last_of_more start (c ∷ bs) b = last_of_more (Some c.choice) bs b

abbrev kept_size : Layout → List Block → ℕ
kept_size l done = length (head_text l.pair l.form) + sizes (flat_map block_lines done)

-- the head and these blocks
abbrev pub kept_at : Layout → List Block → Kept
kept_at l done = record { bytes = length (head_text l.pair l.form ++ flat_map block_text done); blocks = length done; last = last_choice None done }

size_at : (l : Layout) (done : List Block) → length (head_text l.pair l.form ++ flat_map block_text done) ≡ kept_size l done
size_at l done =
    length-append (head_text l.pair l.form) (flat_map block_text done) ∙ ap (λ n. length (head_text l.pair l.form) + n) (ap length (blocks_fed done) ∙ fed_size (flat_map block_lines done))

size_more : (l : Layout) (done : List Block) (b : Block) → kept_size l (done ++ b ∷ []) ≡ kept_size l done + sizes (block_lines b)
size_more l done b =
    let e : flat_map block_lines (b ∷ []) ≡ block_lines b = append-nil (block_lines b) in
    let f : sizes (flat_map block_lines (done ++ b ∷ [])) ≡ sizes (flat_map block_lines done) + sizes (block_lines b) = ap sizes (flat_map-append block_lines done (b ∷ []) ∙ ap (λ (t : List (List ℕ)). flat_map block_lines done ++ t) e) ∙ sizes_append (flat_map block_lines done) (block_lines b) in
    omega (arith, f)

module _ (l : Layout) (few : l.items ≤ 2 ^ 32) (rest : List (List ℕ)) (t : Reading) (last : List ℕ) (other : get_or (with_feed last) 0 0 ≢ 99) where
  -- the first of the blocks to come are kept too
  abbrev KeepsMore : List Block → List Block → Type 0
  KeepsMore done todo = (more : List Block) × (left : List Block) × (todo ≡ more ++ left) × (t.kept ≡ kept_at l (done ++ more))

  none_more : (done todo : List Block) → t.kept ≡ kept_at l done → KeepsMore done todo
  none_more done todo e = ([], todo, refl, e ∙ ap (kept_at l) (sym (append-nil done)))

  last_read : (s : Reading) (lines : List (List ℕ)) → s.place ≡ class_or_end → last ∷ [] ≡ lines ++ rest → Reads l s lines t → t.kept ≡ s.kept
  last_read s [] p q h = ap (λ (r : Reading). r.kept) (sym h)
  last_read s (line ∷ lines) p q (r, a, h) = by (subst (λ (place : Place). IsAllowed l s place line r) p a)
    where
      line_is : last ≡ line
      line_is = same_head last line [] (lines ++ rest) q

      stops : (ls : List (List ℕ)) → [] ≡ ls ++ rest → Reads l r ls t → t.kept ≡ r.kept
      stops [] e k = ap (λ (x : Reading). x.kept) (sym k)
      stops (x ∷ ls) e k = cc

      by : IsAllowed l s class_or_end line r → t.kept ≡ s.kept
      by (inl (choice, is, f)) = absurd (other (ap (λ (x : List ℕ). get_or (with_feed x) 0 0) line_is ∙ ap (λ (x : List ℕ). get_or x 0 0) is.is))
      by (inr (is, f)) = stops lines (same_others last line [] (lines ++ rest) q) h ∙ ap (λ (x : Reading). x.kept) f

  blocks_read : (todo : List Block) → All (λ b. IsShown l.form b.star) todo → (done : List Block) (s : Reading) (lines : List (List ℕ)) → s.place ≡ class_or_end → s.read ≡ kept_size l done → s.kept ≡ kept_at l done
      → flat_map block_lines todo ++ last ∷ [] ≡ lines ++ rest → Reads l s lines t → KeepsMore done todo
  blocks_read [] shown done s lines p e k q h = none_more done [] (last_read s lines p q h ∙ k)
  blocks_read (b ∷ todo) shown done s lines p e k q h =
      by (block_read l few rest t b (All-head (λ c. IsShown l.form c.star) b todo shown) s (s.read + sizes (block_lines b)) lines (flat_map block_lines todo ++ last ∷ []) p refl
      (sym (append_assoc (block_lines b) (flat_map block_lines todo) (last ∷ [])) ∙ q) h) (blocks_read todo (All-tail (λ c. IsShown l.form c.star) b todo shown))
    where
      n : ℕ
      n = s.read + sizes (block_lines b)

      with_one : List Block
      with_one = done ++ b ∷ []

      size : s.read + sizes (block_lines b) ≡ kept_size l (done ++ b ∷ [])
      size = let f = size_more l done b in omega (arith, e, f)

      count : s.kept.blocks + 1 ≡ length (done ++ b ∷ [])
      count = ap (λ (x : Kept). x.blocks + 1) k ∙ sym (length-append done (b ∷ []))

      kept_is : (let r = at_end (s.read + sizes (block_lines b)) (s.kept.blocks + 1) b.choice in r.kept ≡ kept_at l (done ++ b ∷ []))
      kept_is = λ i. record { bytes = (size ∙ sym (size_at l (done ++ b ∷ []))) i; blocks = count i; last = sym (last_of_more None done b) i }

      one_more : KeepsMore (done ++ b ∷ []) todo → KeepsMore done (b ∷ todo)
      one_more (more, left, f, g) = (b ∷ more, left, ap (λ (bs : List Block). b ∷ bs) f, g ∙ ap (kept_at l) (append_assoc done (b ∷ []) more))

      by : StopsOrGoesOn l few rest t s (s.read + sizes (block_lines b)) b.choice (flat_map block_lines todo ++ last ∷ [])
          → ((ds : List Block) (r : Reading) (ls : List (List ℕ)) → r.place ≡ class_or_end → r.read ≡ kept_size l ds → r.kept ≡ kept_at l ds → flat_map block_lines todo ++ last ∷ [] ≡ ls ++ rest → Reads l r ls t → KeepsMore ds todo) → KeepsMore done (b ∷ todo)
      by (inl g) go = none_more done (b ∷ todo) (g ∙ k)
      by (inr (ls, f, g)) go = one_more (go (done ++ b ∷ []) (at_end (s.read + sizes (block_lines b)) (s.kept.blocks + 1) b.choice) ls refl size kept_is f g)

-- ---- no more is kept than was read

ends_within : (s t : Reading) (size : ℕ) (choice : List ℕ) → t ≡ ends_block s size choice → t.kept.bytes ≤ t.read
ends_within s t size choice e = let a : t.kept.bytes ≡ s.read + size = ap (λ (r : Reading). r.kept.bytes) e in let b : t.read ≡ s.read + size = ap (λ (r : Reading). r.read) e in omega (arith, a, b)

goes_within : (s t : Reading) (size : ℕ) (place : Place) → t ≡ goes_on s size place → s.kept.bytes ≤ s.read → t.kept.bytes ≤ t.read
goes_within s t size place e h = let a : t.kept.bytes ≡ s.kept.bytes = ap (λ (r : Reading). r.kept.bytes) e in let b : t.read ≡ s.read + size = ap (λ (r : Reading). r.read) e in omega (arith, a, b, h)

allowed_within : (l : Layout) (s : Reading) (p : Place) (line : List ℕ) (t : Reading) → IsAllowed l s p line t → s.kept.bytes ≤ s.read → t.kept.bytes ≤ t.read
allowed_within l s class_or_end line t (inl a) h = goes_within s t (length line + 1) (heights_of a.0) a.2 h
allowed_within l s class_or_end line t (inr a) h = goes_within s t (length line + 1) nothing a.1 h
allowed_within l s (heights_of choice) line t a h = by l.form.stars a.1
  where
    by : (stars : Bool) → t ≡ cond stars (goes_on s (length line + 1) (star_of choice)) (ends_block s (length line + 1) choice) → t.kept.bytes ≤ t.read
    by true e = goes_within s t (length line + 1) (star_of choice) e h
    by false e = ends_within s t (length line + 1) choice e
allowed_within l s (star_of choice) line t a h = goes_within s t (length line + 1) (simplices_of choice a.0) a.4 h
allowed_within l s (simplices_of choice zero) line t a h = absurd a
allowed_within l s (simplices_of choice (suc zero)) line t a h = ends_within s t (length line + 1) choice a.1
allowed_within l s (simplices_of choice (suc (suc n))) line t a h = goes_within s t (length line + 1) (simplices_of choice (suc n)) a.1 h
allowed_within l s nothing line t a h = absurd a

reads_within : (l : Layout) (s : Reading) (lines : List (List ℕ)) (t : Reading) → Reads l s lines t → s.kept.bytes ≤ s.read → t.kept.bytes ≤ s.read + sizes lines
reads_within l s [] t h k = let e : s.kept.bytes ≡ t.kept.bytes = ap (λ (r : Reading). r.kept.bytes) h in omega (arith, e, k)
reads_within l s (line ∷ lines) t (r, a, h) k =
    let e = allowed_read l s s.place line r a in
    let f = reads_within l r lines t h (allowed_within l s s.place line r a k) in
    omega (arith, e, f)

-- ---- of the bytes

module _ (l : Layout) (few : l.items ≤ 2 ^ 32) (bs : List Block) (shown : All (λ b. IsShown l.form b.star) bs) (last : List ℕ) (one : IsOneLine last) (other : get_or (with_feed last) 0 0 ≢ 99)
    (earlier more : List ℕ) (whole : head_text l.pair l.form ++ (flat_map block_text bs ++ with_feed last) ≡ earlier ++ more) where
  head : List ℕ
  head = head_text l.pair l.form

  abbrev behind_head : List (List ℕ)
  behind_head = flat_map block_lines bs ++ last ∷ []

  head_is : head_text l.pair l.form ≡ fed (head_lines l)
  head_is = whole_text (head_text l.pair l.form) (head_ends l.pair l.form)

  whole_is : head_text l.pair l.form ++ (flat_map block_text bs ++ with_feed last) ≡ fed (head_lines l ++ behind_head)
  whole_is =
      (λ i. head_is i ++ (blocks_fed bs i ++ sym (append-nil (with_feed last)) i))
      ∙ ap (λ (x : List ℕ). fed (head_lines l) ++ x) (sym (flat_map-append with_feed (flat_map block_lines bs) (last ∷ [])))
      ∙ sym (flat_map-append with_feed (head_lines l) behind_head)

  all_plain : All IsOneLine (head_lines l ++ behind_head)
  all_plain =
      All-append IsOneLine (head_lines l) behind_head (cut_of (head_text l.pair l.form)).each
      (All-append IsOneLine (flat_map block_lines bs) (last ∷ []) (blocks_plain bs) (All-cons IsOneLine last [] one (All-nil IsOneLine)))

  module _ (lines : List (List ℕ)) (end : Reading) (are : whole_lines earlier ≡ head_lines l ++ lines) (reads : Reads l (after_head l) lines end) where
    lines_are : (rest : List (List ℕ)) × (behind_head ≡ lines ++ rest)
    lines_are =
        let c = cut_of earlier in
        let e : fed (whole_lines earlier) ++ (c.tail ++ more) ≡ fed (head_lines l ++ behind_head) = sym (append_assoc (fed (whole_lines earlier)) c.tail more) ∙ ap (λ (x : List ℕ). x ++ more) (sym c.is) ∙ sym whole ∙ whole_is in
        let f = first_lines (whole_lines earlier) (head_lines l ++ behind_head) (c.tail ++ more) c.each all_plain e in
        (f.0, append_cancel_left (head_lines l) behind_head (lines ++ f.0) (f.1 ∙ ap (λ (x : List (List ℕ)). x ++ f.0) are ∙ append_assoc (head_lines l) lines f.0))

    read_blocks : (done : List Block) × (left : List Block) × (bs ≡ done ++ left) × (end.kept ≡ kept_at l done)
    read_blocks =
        let r = lines_are in
        let none : length (head_text l.pair l.form) ≡ kept_size l [] = omega arith in
        let kept : (after_head l).kept ≡ kept_at l [] = λ i. record { bytes = (none ∙ sym (size_at l [])) i; blocks = 0; last = None } in
        let k = blocks_read l few r.0 end last other bs shown [] (after_head l) lines refl none kept r.1 reads in
        (k.0, k.1, k.2, k.3)

    enough : end.kept.bytes ≤ length earlier
    enough =
        let c = cut_of earlier in
        let a = reads_within l (after_head l) lines end reads (let e : length (head_text l.pair l.form) ≤ length (head_text l.pair l.form) = omega arith in e) in
        let b : length (head_text l.pair l.form) ≡ sizes (head_lines l) = ap length head_is ∙ fed_size (head_lines l) in
        let d : length earlier ≡ sizes (whole_lines earlier) + length c.tail = ap length c.is ∙ length-append (fed (whole_lines earlier)) c.tail ∙ ap (λ n. n + length c.tail) (fed_size (whole_lines earlier)) in
        let e : sizes (whole_lines earlier) ≡ sizes (head_lines l) + sizes lines = ap sizes are ∙ sizes_append (head_lines l) lines in
        omega (arith, a, b, d, e)

    taken : (done left : List Block) → bs ≡ done ++ left → end.kept ≡ kept_at l done → take end.kept.bytes earlier ≡ head_text l.pair l.form ++ flat_map block_text done
    taken done left e k =
        let front = head_text l.pair l.form ++ flat_map block_text done in
        let n : end.kept.bytes ≡ length (head_text l.pair l.form ++ flat_map block_text done) = ap (λ (x : Kept). x.bytes) k in
        sym (take-append-le end.kept.bytes earlier more enough)
        ∙ (λ i. take (n i) ((sym whole ∙ split done left e) i))
        ∙ take-append_seam (head_text l.pair l.form ++ flat_map block_text done) (flat_map block_text left ++ with_feed last)
      where
        split : (xs ys : List Block) → bs ≡ xs ++ ys → head_text l.pair l.form ++ (flat_map block_text bs ++ with_feed last) ≡ (head_text l.pair l.form ++ flat_map block_text xs) ++ (flat_map block_text ys ++ with_feed last)
        split xs ys f =
            ap (λ (x : List ℕ). head_text l.pair l.form ++ (x ++ with_feed last)) (ap (flat_map block_text) f ∙ flat_map-append block_text xs ys)
            ∙ ap (λ (x : List ℕ). head_text l.pair l.form ++ x) (append_assoc (flat_map block_text xs) (flat_map block_text ys) (with_feed last))
            ∙ sym (append_assoc (head_text l.pair l.form) (flat_map block_text xs) (flat_map block_text ys ++ with_feed last))

  -- nothing is kept, or the head and the first blocks
  pub kept_beginning : (kept : Kept) → IsKeptOf l earlier kept
      → (kept ≡ nothing_kept) ⊎ ((done : List Block) × (left : List Block) × (bs ≡ done ++ left) × (kept ≡ kept_at l done) × (take kept.bytes earlier ≡ head_text l.pair l.form ++ flat_map block_text done))
  kept_beginning kept (inl (missing, some, is, e)) = inl e
  kept_beginning kept (inr (lines, end, are, reads, e)) =
      let r = read_blocks lines end are reads in
      inr (r.0, r.1, r.2, e ∙ r.3, ap (λ (x : Kept). take x.bytes earlier) e ∙ taken lines end are reads r.0 r.1 r.2 r.3)
