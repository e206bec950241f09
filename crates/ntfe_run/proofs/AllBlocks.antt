-- The list of all blocks exists, and so does the text of each run; there is only one.
--     blocks_listed      all blocks after a start
--     text_exists, text_fixed      the text
use Rattle.std.proofs.Common.{◌≡◌, ◌∙◌, ℕ, ◌+◌, ◌<◌, ◌≤◌, ◌⊎◌, inl, inr, ⊎_elim, refl, sym, subst, arith, ℤ, List, [], ◌∷◌, flat_map, length, Some, None}
use Rattle.std.specs.Prelude.{Option}
use Rattle.ntfe_model.specs.Lists.{IsListing, IsBelow}
use Rattle.ntfe_model.specs.Shapes.{Shape, IsShape}
use Rattle.ntfe_model.specs.Choices.{IsChoice, Extends}
use Rattle.ntfe_model.specs.Keys.{IsAfter}
use Rattle.ntfe_model.specs.RunText.{Form, Block, Kept, IsBlockOf, AreBlocks, IsTextOf, IsRunText, text_without_limit, text_with_limit}
use Rattle.ntfe_model.proofs.Listings.{Contains-here, Contains-cases, Contains-none, All-from_contains, listing_nil, listing_groups, listing_same, listing_unique}
use Rattle.ntfe_model.proofs.Orders.{below_once, three_ways}
use Rattle.ntfe_model.proofs.Triples.{Decided}
use Rattle.ntfe_run.proofs.AllChoices.{choices_listed, decide_choice}
use Rattle.steal_workers.proofs.ClassBlocks.{block_fixed}
use Rattle.steal_workers.proofs.ExtendableBlocks.{HasHeights, choice_decided, heights_block}
use Rattle.star_builder.proofs.Decisions.{decide_less}

abbrev pub BlockBelow : Block → Block → Type 0
BlockBelow b c = IsBelow b.choice c.choice

pub block_once : (b c : Block) → BlockBelow b c → BlockBelow c b → ⊥
block_once b c = below_once b.choice c.choice

pub decide_below : (c k : List ℕ) → Decided (IsBelow c k)
decide_below c k = by (three_ways c k)
  where
    by : IsBelow c k ⊎ ((c ≡ k) ⊎ IsBelow k c) → Decided (IsBelow c k)
    by (inl l) = inl l
    by (inr (inl e)) = inr (λ l. (let itself = subst (λ z. IsBelow z k) e l in below_once k k itself itself))
    by (inr (inr l)) = inr (λ m. below_once c k m l)

pub decide_same : (c k : List ℕ) → Decided (c ≡ k)
decide_same c k = by (three_ways c k)
  where
    by : IsBelow c k ⊎ ((c ≡ k) ⊎ IsBelow k c) → Decided (c ≡ k)
    by (inl l) = inr (λ e. (let itself = subst (λ z. IsBelow z k) e l in below_once k k itself itself))
    by (inr (inl e)) = inl e
    by (inr (inr l)) = inr (λ e. (let itself = subst (IsBelow k) e l in below_once k k itself itself))

decide_after : (start : Option (List ℕ)) (c : List ℕ) → Decided (IsAfter start c)
decide_after None c = inl tt
decide_after (Some start) c = decide_below start c

-- ---- there is one

module _ (g : Shape) (form : Form) where
  pub blocks_fixed : (start : Option (List ℕ)) (bs cs : List Block) → AreBlocks g form start bs → AreBlocks g form start cs → bs ≡ cs
  blocks_fixed start bs cs p q = listing_unique BlockBelow (IsBlockOf g form start) block_once bs cs p q

  module _ (kept : Kept) where
    same_text : (limit : Option ℕ) (bs : List Block) (t u : List ℕ) → IsTextOf g.pair form kept limit bs t → IsTextOf g.pair form kept limit bs u → t ≡ u
    same_text None bs t u p q = p ∙ sym q
    same_text (Some n) bs t u (inl p) (inl q) = p.1 ∙ sym q.1
    same_text (Some n) bs t u (inl p) (inr q) = absurd (let a = p.0 in let b = q.0 in omega (arith, a, b))
    same_text (Some n) bs t u (inr p) (inl q) = absurd (let a = p.0 in let b = q.0 in omega (arith, a, b))
    same_text (Some n) bs t u (inr p) (inr q) = p.1 ∙ sym q.1

    pub text_fixed : (limit : Option ℕ) (t u : List ℕ) → IsRunText g form kept limit t → IsRunText g form kept limit u → t ≡ u
    text_fixed limit t u p q =
        let e = blocks_fixed kept.last p.blocks q.blocks p.are q.are in
        same_text limit q.blocks t u (subst (λ bs. IsTextOf g.pair form kept limit bs t) e p.is) q.is

-- ---- and it exists

module _ (g : Shape) (s : IsShape g) (form : Form) where
  module _ (start : Option (List ℕ)) where
    abbrev IsOfChoice : List ℕ → Block → Type 0
    IsOfChoice c b = IsBlockOf g form start b × (b.choice ≡ c)

    one_block : (c : List ℕ) (b : Block) → IsOfChoice c b → IsListing BlockBelow (IsOfChoice c) (b ∷ [])
    one_block c b k = record {
      ordered = λ i j d p q. absurd (omega (arith, p, q));
      sound = All-from_contains (IsOfChoice c) (b ∷ []) (λ x n. ⊎_elim (λ e. subst (IsOfChoice c) (sym e) k) (λ m. Contains-none x m) (Contains-cases x b [] n));
      complete = λ x p. Contains-here x b [] (block_fixed g form start x b p.0 k.0 (p.1 ∙ sym k.1));
    }

    -- the block of a choice, if it has one
    group : (c : List ℕ) → (bs : List Block) × (IsChoice g c → IsListing BlockBelow (IsOfChoice c) bs)
    group c = by (decide_choice g s c)
      where
        have : (i : IsChoice g c) → HasHeights g c ⊎ ((w : List ℤ) → Extends g w c → ⊥) → Decided (IsAfter start c) → (bs : List Block) × (IsChoice g c → IsListing BlockBelow (IsOfChoice c) bs)
        have i (inl h) (inl after) = let b = heights_block g s form start c i after h in (b.0 ∷ [], λ j. one_block c b.0 (b.2, b.1))
        have i (inl h) (inr n) = ([], λ j. listing_nil BlockBelow (IsOfChoice c) (λ b p. n (subst (IsAfter start) p.1 p.0.after)))
        have i (inr never) after =
            ([], λ j. listing_nil BlockBelow (IsOfChoice c) (λ b p. never p.0.extendable.heights (subst (λ z. Extends g p.0.extendable.heights z) p.1 p.0.extendable.extends)))

        by : Decided (IsChoice g c) → (bs : List Block) × (IsChoice g c → IsListing BlockBelow (IsOfChoice c) bs)
        by (inl i) = have i (choice_decided g s c i) (decide_after start c)
        by (inr n) = ([], λ i. absurd (n i))

    pub blocks_listed : (bs : List Block) × AreBlocks g form start bs
    blocks_listed =
        let all = choices_listed g s in (
          flat_map (λ c. (group c).0) all.0,
          listing_same BlockBelow (λ b. (c : List ℕ) × IsChoice g c × IsOfChoice c b) (IsBlockOf g form start) (flat_map (λ c. (group c).0) all.0)
              (listing_groups IsBelow BlockBelow (IsChoice g) IsOfChoice (λ c. (group c).0) all.0 all.1 (λ c i. (group c).1 i)
              (λ c d x y i j l p q. subst (λ z. IsBelow z y.choice) (sym p.1) (subst (λ z. IsBelow c z) (sym q.1) l)))
              (λ b p. p.2.0) (λ b k. (b.choice, k.extendable.items, (k, refl))),
        )

  module _ (kept : Kept) where
    text_of : (limit : Option ℕ) (bs : List Block) → (text : List ℕ) × IsTextOf g.pair form kept limit bs text
    text_of None bs = (text_without_limit g.pair form kept bs, refl)
    text_of (Some n) bs =
        ⊎_elim (λ l. (text_without_limit g.pair form kept bs, inl (l, refl))) (λ never. (text_with_limit g.pair form kept n bs, inr (not_under never, refl))) (decide_less (kept.blocks + length bs) n)
      where
        not_under : (kept.blocks + length bs < n → ⊥) → n ≤ kept.blocks + length bs
        not_under never = by (let c : (kept.blocks + length bs < n) ⊎ (n ≤ kept.blocks + length bs) = grind arith in c)
          where
            by : (kept.blocks + length bs < n) ⊎ (n ≤ kept.blocks + length bs) → n ≤ kept.blocks + length bs
            by (inl l) = absurd (never l)
            by (inr l) = l

    pub text_exists : (limit : Option ℕ) → (text : List ℕ) × IsRunText g form kept limit text
    text_exists limit =
        let bs = blocks_listed kept.last in
        let t = text_of limit bs.0 in
        (t.0, record { blocks = bs.0; are = bs.1; is = t.1 })
