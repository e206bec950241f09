-- What a run writes that stops early is a beginning of the whole text.
--     all_after      the blocks below a place, and those that follow them, are all blocks
--     first_begin, stopped_begins      the texts
--     list_text_is      the text of a run that comes to its limit
use Rattle.std.proofs.Common.{◌≡◌, ◌∙◌, ℕ, ◌+◌, ◌-◌, ◌^◌, ◌⊎◌, inl, inr, ⊎_elim, Bool, true, false, min, max, refl, sym, ap, subst, arith, List, ◌++◌, filter, flat_map, length, take, append_assoc, Some, None}
use Rattle.std.specs.Prelude.{Option}
use Rattle.std.proofs.Math.Seq.{take-append_seam, take-append-add}
use Rattle.std.proofs.lemmas.List.{length-append}
use Rattle.std.proofs.lemmas.List.Concat.{flat_map-append}
use Rattle.ntfe_model.specs.Lists.{IsListing, IsBelow}
use Rattle.ntfe_model.specs.Shapes.{Shape, IsShape}
use Rattle.ntfe_model.specs.RunText.{Form, Block, Kept, IsBlockOf, AreBlocks, IsTextOf, IsRunText, IsStoppedText, head_due, block_text, end_line, limit_line}
use Rattle.ntfe_model.proofs.Listings.{listing_append, listing_filter}
use Rattle.ntfe_model.proofs.Orders.{below_chain, three_ways}
use Rattle.ntfe_model.proofs.Triples.{Decided, decide_either}
use Rattle.ntfe_words.specs.declared.command.Options.{Options}
use Rattle.ntfe_run.specs.Commands.{form_of_options, listed_with, IsListText}
use Rattle.ntfe_run.proofs.AllBlocks.{BlockBelow, blocks_listed, blocks_fixed, text_exists, decide_below, decide_same}
use Rattle.steal_workers.specs.Listings.{IsUpTo, IsWithinLimit}

-- ---- blocks

abbrev fails : {A : Type 0} → Decided A → Bool
fails (inl a) = false
fails (inr n) = true

not_so : {A : Type 0} (d : Decided A) → fails d ≡ true → A → ⊥
not_so (inl a) e b = cc
not_so (inr n) e b = n b

so_fails : {A : Type 0} (d : Decided A) → (A → ⊥) → fails d ≡ true
so_fails (inl a) n = absurd (n a)
so_fails (inr m) n = refl

module _ (g : Shape) (s : IsShape g) (form : Form) (start : Option (List ℕ)) (Low : List ℕ → Type 0) (decide : (c : List ℕ) → Decided (Low c)) (down : (c k : List ℕ) → IsBelow c k → Low k → Low c) where
  abbrev IsLow : Block → Type 0
  IsLow b = IsBlockOf g form start b × Low b.choice

  abbrev IsHigh : Block → Type 0
  IsHigh b = IsBlockOf g form start b × ¬ (Low b.choice)

  high : (bs : List Block) × IsListing BlockBelow IsHigh bs
  high =
      let all = blocks_listed g s form start in
      let test : Block → Bool = λ b. fails (decide b.choice) in
      (filter test all.0, listing_filter BlockBelow (IsBlockOf g form start) IsHigh test all.0 all.1 (λ b k e. (k, not_so (decide b.choice) e)) (λ b p. p.0) (λ b p. so_fails (decide b.choice) p.1))

  apart : (b c : Block) → IsLow b → IsHigh c → BlockBelow b c
  apart b c p q = by (three_ways b.choice c.choice)
    where
      by : IsBelow b.choice c.choice ⊎ ((b.choice ≡ c.choice) ⊎ IsBelow c.choice b.choice) → BlockBelow b c
      by (inl l) = l
      by (inr (inl e)) = absurd (q.1 (subst Low e p.1))
      by (inr (inr l)) = absurd (q.1 (down c.choice b.choice l p.1))

  -- the blocks at low places, and those that follow, are all
  pub all_after : (bs : List Block) → IsListing BlockBelow IsLow bs → (left : List Block) × AreBlocks g form start (bs ++ left)
  all_after bs l =
      let h = high in
      (h.0, listing_append BlockBelow IsLow IsHigh (IsBlockOf g form start) bs h.0 l h.1 apart (λ b p. p.0) (λ b p. p.0) (λ b k. ⊎_elim (λ low. inl (k, low)) (λ n. inr (k, n)) (decide b.choice)))

decide_up_to : (last : Option (List ℕ)) (c : List ℕ) → Decided (IsUpTo last c)
decide_up_to None c = inr (λ h. h)
decide_up_to (Some last) c = decide_either (decide_same c last) (decide_below c last)

down_to : (last : Option (List ℕ)) (c k : List ℕ) → IsBelow c k → IsUpTo last k → IsUpTo last c
down_to None c k l h = h
down_to (Some last) c k l (inl e) = inr (subst (IsBelow c) e l)
down_to (Some last) c k l (inr m) = inr (below_chain c k last l m)

-- ---- texts

module _ (g : Shape) (s : IsShape g) (form : Form) (kept : Kept) where
  abbrev head : List ℕ
  head = head_due g.pair form kept

  -- more blocks, and an end, behind the first blocks
  joined : (bs more : List Block) (end : List ℕ) → head ++ flat_map block_text bs ++ (flat_map block_text more ++ end) ≡ head ++ flat_map block_text (bs ++ more) ++ end
  joined bs more end =
      sym (append_assoc (head ++ flat_map block_text bs) (flat_map block_text more) end)
      ∙ ap (λ (x : List ℕ). x ++ end) (append_assoc head (flat_map block_text bs) (flat_map block_text more) ∙ ap (λ (x : List ℕ). head ++ x) (sym (flat_map-append block_text bs more)))

  -- what follows the head and the first blocks, where the limit asks for all of these
  behind_of : (limit : Option ℕ) (bs left : List Block) (text : List ℕ) → IsWithinLimit limit kept.blocks (length bs) → IsTextOf g.pair form kept limit (bs ++ left) text → (behind : List ℕ) × (head ++ flat_map block_text bs ++ behind ≡ text)
  behind_of None bs left text within e = let end = end_line (min (2 ^ 63) (kept.blocks + length (bs ++ left))) in (flat_map block_text left ++ end, joined bs left end ∙ sym e)
  behind_of (Some n) bs left text within (inl h) =
      let end = end_line (min (2 ^ 63) (kept.blocks + length (bs ++ left))) in (flat_map block_text left ++ end, joined bs left end ∙ sym h.1)
  behind_of (Some n) bs left text within (inr h) =
      let end = limit_line (max kept.blocks n) in
      let m = n - kept.blocks - length bs in
      let size : n - kept.blocks ≡ length bs + m = omega (arith, within) in
      let taken : bs ++ take m left ≡ take (n - kept.blocks) (bs ++ left) = sym (ap (λ k. take k (bs ++ left)) size ∙ take-append-add bs left m) in
      (flat_map block_text (take m left) ++ end, joined bs (take m left) end ∙ ap (λ (x : List Block). head ++ flat_map block_text x ++ end) taken ∙ sym h.1)

  -- the head and the first blocks, no more than the limit asks for, begin the text
  begins : (limit : Option ℕ) (bs left : List Block) → AreBlocks g form kept.last (bs ++ left) → IsWithinLimit limit kept.blocks (length bs) → (behind : List ℕ) × IsRunText g form kept limit (head ++ flat_map block_text bs ++ behind)
  begins limit bs left are within =
      let t = text_exists g s form kept limit in
      let same = blocks_fixed g form kept.last t.1.blocks (bs ++ left) t.1.are are in
      let b = behind_of limit bs left t.0 within (subst (λ (x : List Block). IsTextOf g.pair form kept limit x t.0) same t.1.is) in
      (b.0, subst (IsRunText g form kept limit) (sym b.1) t.1)

  up_to : (last : Option (List ℕ)) (bs : List Block) → IsListing BlockBelow (λ b. IsBlockOf g form kept.last b × IsUpTo last b.choice) bs → (left : List Block) × AreBlocks g form kept.last (bs ++ left)
  up_to last bs l = all_after g s form kept.last (IsUpTo last) (decide_up_to last) (down_to last) bs l

  pub first_begin : (limit : Option ℕ) (last : Option (List ℕ)) (bs : List Block) → IsListing BlockBelow (λ b. IsBlockOf g form kept.last b × IsUpTo last b.choice) bs → IsWithinLimit limit kept.blocks (length bs)
      → (behind : List ℕ) × IsRunText g form kept limit (head ++ flat_map block_text bs ++ behind)
  first_begin limit last bs are within = let all = up_to last bs are in begins limit bs all.0 all.1 within

  pub stopped_begins : (limit : Option ℕ) (bound text : List ℕ) → IsStoppedText g form kept limit bound text → (behind : List ℕ) × IsRunText g form kept None (text ++ behind)
  stopped_begins limit bound text h =
      let all = all_after g s form kept.last (λ c. IsBelow c bound) (λ c. decide_below c bound) (λ c k l m. below_chain c k bound l m) h.blocks h.are in
      let b = begins None h.blocks all.0 all.1 tt in
      (b.0, subst (λ (x : List ℕ). IsRunText g form kept None (x ++ b.0)) (sym h.is) b.1)

  -- the first blocks, as many as are due, and the line that tells so
  due_text : (n : ℕ) (bs left : List Block) (text : List ℕ) → AreBlocks g form kept.last (bs ++ left) → length bs ≡ n - kept.blocks → text ≡ head_due g.pair form kept ++ flat_map block_text bs ++ limit_line (max kept.blocks n)
      → IsRunText g form kept (Some n) text
  due_text n bs left text are count e = record {
    blocks = bs ++ left;
    are = are;
    is = inr (
      (let k = length-append bs left in omega (arith, k, count)),
      e ∙ ap (λ (x : List Block). head_due g.pair form kept ++ flat_map block_text x ++ limit_line (max kept.blocks n)) (sym (ap (λ k. take k (bs ++ left)) (sym count) ∙ take-append_seam bs left)),
    );
  }

module _ (o : Options) (g : Shape) (s : IsShape g) (kept : Kept) (text : List ℕ) where
  pub list_text_is : IsListText (listed_with o g kept) kept text → IsRunText g (form_of_options o) kept o.limit text
  list_text_is (inl h) = h
  list_text_is (inr h) =
      let all = up_to g s (form_of_options o) kept h.last h.blocks h.are in
      subst (λ (l : Option ℕ). IsRunText g (form_of_options o) kept l text) (sym h.limited) (due_text g s (form_of_options o) kept h.limit h.blocks all.0 text all.1 h.due h.is)
