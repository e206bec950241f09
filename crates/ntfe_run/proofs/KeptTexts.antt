-- What is kept of a beginning of a run's text, and the text that goes on after it, are together the whole text.
--     resumed_text      whatever the limits
--     resumed_whole      without limits: the text itself
--     resumed_written      of what commands write
use Rattle.std.proofs.Common.{◌≡◌, ◌≢◌, ◌∙◌, ℕ, ◌+◌, ◌-◌, ◌^◌, ◌<◌, ◌≤◌, ◌⊎◌, inl, inr, cond, min, max, refl, sym, ap, subst, arith, List, [], ◌∷◌, ◌++◌, length, flat_map, take, drop, get_or, append_assoc, Some, None, All}
use Rattle.std.specs.Prelude.{Option, Contains, codes}
use Rattle.std.proofs.Math.Seq.{take-append-add}
use Rattle.std.proofs.lemmas.Bool.{ne_eqb}
use Rattle.std.proofs.lemmas.List.{append-nil, length-append, take-append-drop}
use Rattle.std.proofs.lemmas.List.Concat.{flat_map-append}
use Rattle.std.proofs.lemmas.List.Elements.{All-contains, All-weaker, Contains-append_left}
use Rattle.ntfe_model.specs.Shapes.{Shape, IsShape}
use Rattle.ntfe_model.specs.Earlier.{Layout, IsKeptOf, with_feed}
use Rattle.ntfe_model.specs.RunText.{Form, Block, Kept, IsStarOf, IsBlockOf, AreBlocks, IsTextOf, IsRunText, nothing_kept, head_text, head_due, block_text, end_line, limit_line, text_without_limit}
use Rattle.ntfe_model.proofs.Listings.{AllPairs-head, AllPairs-tail, All-from_contains, Contains-cases, Contains-there}
use Rattle.class_text.specs.Earlier.{last_choice}
use Rattle.class_text.proofs.KeptBlocks.{IsShown, kept_at, kept_beginning, numbers_plain}
use Rattle.class_text.proofs.NumberTexts.{number_text}
use Rattle.class_text.proofs.TextLines.{IsOneLine}
use Rattle.ntfe_words.specs.declared.command.Options.{Options}
use Rattle.ntfe_run.specs.Commands.{form_of_options, listed_with, IsListText}
use Rattle.ntfe_run.specs.Earlier.{layout}
use Rattle.ntfe_run.proofs.AllBlocks.{BlockBelow, block_once, blocks_fixed, text_fixed}
use Rattle.ntfe_run.proofs.Beginnings.{list_text_is}
use Rattle.ntfe_model.proofs.Orders.{after_chain}

module _ (g : Shape) (form : Form) where
  -- ---- the blocks after the first ones

  after_first : (start : Option (List ℕ)) (b : Block) (bs : List Block) → AreBlocks g form start (b ∷ bs) → AreBlocks g form (Some b.choice) bs
  after_first start b bs l = record {
    ordered = AllPairs-tail BlockBelow b bs l.ordered;
    sound = All-from_contains (IsBlockOf g form (Some b.choice)) bs (λ c m. (let k = is_block c (Contains-there c b bs m) in record { extendable = k.extendable; after = above c m; heights = k.heights; star = k.star }));
    complete = λ c k. by c k (Contains-cases c b bs (l.complete c (record { extendable = k.extendable; after = after_chain start b.choice c.choice (first_block.after) k.after; heights = k.heights; star = k.star })));
  }
    where
      is_block : (c : Block) → Contains (b ∷ bs) c → IsBlockOf g form start c
      is_block c m = All-contains (IsBlockOf g form start) (b ∷ bs) c l.sound m

      first_block : IsBlockOf g form start b
      first_block = l.sound 0 b (omega arith)

      above : (c : Block) → Contains bs c → BlockBelow b c
      above c m = All-contains (BlockBelow b) bs c (AllPairs-head BlockBelow b bs l.ordered) m

      by : (c : Block) → IsBlockOf g form (Some b.choice) c → (c ≡ b) ⊎ Contains bs c → Contains bs c
      by c k (inl e) = absurd (let itself = subst (BlockBelow b) e k.after in block_once b b itself itself)
      by c k (inr m) = m

  after_more : (start : Option (List ℕ)) (done left : List Block) → AreBlocks g form start (done ++ left) → AreBlocks g form (last_choice start done) left
  after_more start [] left l = l
  after_more start (b ∷ done) left l = after_more (Some b.choice) done left (after_first start b (done ++ left) l)

  -- ---- a text as its head, its blocks and its last line

  shown_star : (b : Block) (star : Option (List (List ℕ))) → IsStarOf g form b star → IsShown form star
  shown_star b None h = h
  shown_star b (Some star) h = h.0

  all_shown : (start : Option (List ℕ)) (bs : List Block) → AreBlocks g form start bs → All (λ b. IsShown form b.star) bs
  all_shown start bs l = All-weaker (IsBlockOf g form start) (λ b. IsShown form b.star) (λ b k. shown_star b b.star k.star) bs l.sound

  record IsBegunBy (bs : List Block) (text : List ℕ) : Type 0 where
    first : List Block
    others : List Block
    all : bs ≡ first ++ others
    last : List ℕ
    one : IsOneLine last
    other : get_or (with_feed last) 0 0 ≢ 99
    is : head_text g.pair form ++ (flat_map block_text first ++ with_feed last) ≡ text

  with_last : (bs first others : List Block) (last text : List ℕ) → bs ≡ first ++ others → IsOneLine last → get_or (with_feed last) 0 0 ≢ 99 → text ≡ (head_text g.pair form ++ flat_map block_text first) ++ with_feed last → IsBegunBy bs text
  with_last bs first others last text e one other f =
      record { first = first; others = others; all = e; last = last; one = one; other = other; is = sym (append_assoc (head_text g.pair form) (flat_map block_text first) (with_feed last)) ∙ sym f }

  not_class : (b : ℕ) → 99 < b → b ≢ 99
  not_class b l e = absurd (omega (arith, l, e))

  with_end : (bs : List Block) (c : ℕ) (text : List ℕ) → text ≡ (head_text g.pair form ++ flat_map block_text bs) ++ end_line c → IsBegunBy bs text
  with_end bs c text e = with_last bs bs [] (number_text (codes "end") (c ∷ [])) text (sym (append-nil bs)) (numbers_plain (codes "end") (c ∷ []) refl) (not_class 101 (omega arith)) e

  begun_by : (limit : Option ℕ) (bs : List Block) (text : List ℕ) → IsTextOf g.pair form nothing_kept limit bs text → IsBegunBy bs text
  begun_by None bs text e = with_end bs (min (2 ^ 63) (0 + length bs)) text e
  begun_by (Some n) bs text (inl h) = with_end bs (min (2 ^ 63) (0 + length bs)) text h.1
  begun_by (Some n) bs text (inr h) =
      with_last bs (take (n - 0) bs) (drop (n - 0) bs) (number_text (codes "limit") (max 0 n ∷ [])) text (sym (take-append-drop (n - 0) bs)) (numbers_plain (codes "limit") (max 0 n ∷ []) refl) (not_class 108 (omega arith)) h.1

  -- ---- both parts together

  module _ (done left : List Block) where
    abbrev held : Kept
    held = kept_at (layout form g) done

    abbrev front : List ℕ
    front = head_text g.pair form ++ flat_map block_text done

    some_head : 0 < length (head_text g.pair form ++ flat_map block_text done)
    some_head = omega arith

    no_head : head_due g.pair form held ≡ []
    no_head = ap (λ t. cond t (head_text g.pair form) []) (ne_eqb (length front) 0 (λ e. absurd (let l = some_head in omega (arith, l, e))))

    parts_join : (ys : List Block) (rest end : List ℕ) → rest ≡ (head_due g.pair form held ++ flat_map block_text ys) ++ end → front ++ rest ≡ (head_text g.pair form ++ flat_map block_text (done ++ ys)) ++ end
    parts_join ys rest end e =
        ap (λ (x : List ℕ). front ++ x) (e ∙ ap (λ (x : List ℕ). (x ++ flat_map block_text ys) ++ end) no_head)
        ∙ sym (append_assoc front (flat_map block_text ys) end)
        ∙ ap (λ (x : List ℕ). x ++ end) (append_assoc (head_text g.pair form) (flat_map block_text done) (flat_map block_text ys) ∙ ap (λ (x : List ℕ). head_text g.pair form ++ x) (sym (flat_map-append block_text done ys)))

    count : length done + length left ≡ 0 + length (done ++ left)
    count = let e = length-append done left in omega (arith, e)

    without_limit : (rest : List ℕ) → rest ≡ text_without_limit g.pair form held left → front ++ rest ≡ text_without_limit g.pair form nothing_kept (done ++ left)
    without_limit rest e = parts_join left rest (end_line (min (2 ^ 63) (length done + length left))) e ∙ ap (λ n. (head_text g.pair form ++ flat_map block_text (done ++ left)) ++ end_line (min (2 ^ 63) n)) count

    joined : (limit : Option ℕ) (rest : List ℕ) → ((n : ℕ) → limit ≡ Some n → length done ≤ n) → IsTextOf g.pair form held limit left rest → IsTextOf g.pair form nothing_kept limit (done ++ left) (front ++ rest)
    joined None rest few e = without_limit rest e
    joined (Some n) rest few (inl h) = inl ((let e = count in let k = h.0 in omega (arith, e, k)), without_limit rest h.1)
    joined (Some n) rest few (inr h) =
        let l : length done ≤ n = few n refl in
        let size : n - 0 ≡ length done + (n - length done) = omega (arith, l) in
        let most : max (length done) n ≡ max 0 n = omega (arith, l) in
        let taken : done ++ take (n - length done) left ≡ take (n - 0) (done ++ left) = sym (ap (λ k. take k (done ++ left)) size ∙ take-append-add done left (n - length done)) in
        inr (
          (let e = count in let k = h.0 in omega (arith, e, k)),
          parts_join (take (n - length done) left) rest (limit_line (max (length done) n)) h.1 ∙ (λ i. (head_text g.pair form ++ flat_map block_text (taken i)) ++ limit_line (most i)),
        )

pub resumed_text : (g : Shape) (form : Form) (limit other : Option ℕ) (text earlier cut rest : List ℕ) (kept : Kept) → IsRunText g form nothing_kept limit text → text ≡ earlier ++ cut → IsKeptOf (layout form g) earlier kept
    → ((n : ℕ) → other ≡ Some n → kept.blocks ≤ n) → IsRunText g form kept other rest → IsRunText g form nothing_kept other (take kept.bytes earlier ++ rest)
resumed_text g form limit other text earlier cut rest kept h e k few r = by (kept_beginning l (omega arith) b.first shown b.last b.one b.other earlier cut (b.is ∙ e) kept k)
  where
    l : Layout
    l = layout form g

    b : IsBegunBy g form h.blocks text
    b = begun_by g form limit h.blocks text h.is

    shown : All (λ c. IsShown form c.star) b.first
    shown = All-from_contains (λ c. IsShown form c.star) b.first (λ c m. All-contains (λ x. IsShown form x.star) h.blocks c (all_shown g form None h.blocks h.are) (subst (λ (x : List Block). Contains x c) (sym b.all) (Contains-append_left b.first b.others c m)))

    by : (kept ≡ nothing_kept) ⊎ ((done : List Block) × (left : List Block) × (b.first ≡ done ++ left) × (kept ≡ kept_at l done) × (take kept.bytes earlier ≡ head_text g.pair form ++ flat_map block_text done))
        → IsRunText g form nothing_kept other (take kept.bytes earlier ++ rest)
    by (inl none) = subst (λ (x : Kept). IsRunText g form nothing_kept other (take x.bytes earlier ++ rest)) (sym none) (subst (λ (x : Kept). IsRunText g form x other rest) none r)
    by (inr (done, left, f, is, t)) = record { blocks = h.blocks; are = h.are; is = subst (λ (x : List ℕ). IsTextOf g.pair form nothing_kept other h.blocks (x ++ rest)) (sym t) (subst (λ (x : List Block). IsTextOf g.pair form nothing_kept other x ((head_text g.pair form ++ flat_map block_text done) ++ rest)) (sym all) whole) }
      where
        all : h.blocks ≡ done ++ (left ++ b.others)
        all = b.all ∙ ap (λ (x : List Block). x ++ b.others) f ∙ append_assoc done left b.others

        ours : AreBlocks g form (last_choice None done) (left ++ b.others)
        ours = after_more g form None done (left ++ b.others) (subst (AreBlocks g form None) all h.are)

        same : r.blocks ≡ left ++ b.others
        same = blocks_fixed g form (last_choice None done) r.blocks (left ++ b.others) (subst (λ (x : Kept). AreBlocks g form x.last r.blocks) is r.are) ours

        tail : IsTextOf g.pair form (kept_at l done) other (left ++ b.others) rest
        tail = subst (λ (x : List Block). IsTextOf g.pair form (kept_at l done) other x rest) same (subst (λ (x : Kept). IsTextOf g.pair form x other r.blocks rest) is r.is)

        whole : IsTextOf g.pair form nothing_kept other (done ++ (left ++ b.others)) ((head_text g.pair form ++ flat_map block_text done) ++ rest)
        whole = joined g form done (left ++ b.others) other rest (λ n o. subst (λ (x : Kept). x.blocks ≤ n) is (few n o)) tail

pub resumed_whole : (g : Shape) (form : Form) (text earlier cut rest : List ℕ) (kept : Kept) → IsRunText g form nothing_kept None text → text ≡ earlier ++ cut → IsKeptOf (layout form g) earlier kept → IsRunText g form kept None rest
    → take kept.bytes earlier ++ rest ≡ text
resumed_whole g form text earlier cut rest kept h e k r =
    text_fixed g form nothing_kept None (take kept.bytes earlier ++ rest) text (resumed_text g form None None text earlier cut rest kept h e k (λ n o. never n o) r) h
  where
    never : (n : ℕ) → (let o : Option ℕ = None in o ≡ Some n) → kept.blocks ≤ n
    never n o = cc

-- what `classes` wrote, cut anywhere, and what `resume` wrote in the same form
pub resumed_written : (o p : Options) (g : Shape) (text earlier cut rest : List ℕ) (kept : Kept) → IsShape g → form_of_options p ≡ form_of_options o → IsListText (listed_with o g nothing_kept) nothing_kept text → text ≡ earlier ++ cut
    → IsKeptOf (layout (form_of_options o) g) earlier kept → ((n : ℕ) → p.limit ≡ Some n → kept.blocks ≤ n) → IsListText (listed_with p g kept) kept rest → IsRunText g (form_of_options p) nothing_kept p.limit (take kept.bytes earlier ++ rest)
resumed_written o p g text earlier cut rest kept s same whole e k few r =
    let goes_on = subst (λ (f : Form). IsRunText g f kept p.limit rest) same (list_text_is p g s kept rest r) in
    subst (λ (f : Form). IsRunText g f nothing_kept p.limit (take kept.bytes earlier ++ rest)) (sym same)
    (resumed_text g (form_of_options o) o.limit p.limit text earlier cut rest kept (list_text_is o g s nothing_kept text whole) e k few goes_on)
