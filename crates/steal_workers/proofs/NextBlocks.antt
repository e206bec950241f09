-- One block more, and what is listed where nothing is left.
use Rattle.std.proofs.Common.{◌≡◌, ℕ, ◌⊎◌, inl, inr, ⊎_elim, refl, sym, ap, ◌∙◌, subst, arith, ℤ, List, [], ◌∷◌, ◌++◌, Some, None}
use Rattle.std.specs.Prelude.{Option, Contains}
use Rattle.std.proofs.lemmas.List.Elements.{All-contains, All-cons, All-nil}
use Rattle.ntfe_model.specs.Lists.{IsListing, IsBelow}
use Rattle.ntfe_model.specs.Keys.{IsAfter, IsClass}
use Rattle.ntfe_model.specs.RunText.{Block, IsBlockOf, AreBlocks}
use Rattle.ntfe_model.proofs.Listings.{Contains-here, Contains-there, listing_append, listing_same, listing_nil}
use Rattle.ntfe_model.proofs.Orders.{after_chain, below_chain, below_once, three_ways}
use Rattle.steal_workers.specs.Listings.{Listed, IsUpTo, AreBlocksTo, AreBlocksBelow, last_choice, ComesNext, NoneIsLeft}
use Rattle.steal_workers.specs.Blocks.{IsClassBlock}
use Rattle.steal_workers.proofs.ClassBlocks.{block_fixed, class_block}

-- ---- before and after

pub up_to_or_after : (last : Option (List ℕ)) (c : List ℕ) → IsUpTo last c ⊎ IsAfter last c
up_to_or_after None c = inr tt
up_to_or_after (Some l) c = by (three_ways c l)
  where
    by : IsBelow c l ⊎ ((c ≡ l) ⊎ IsBelow l c) → IsUpTo (Some l) c ⊎ IsAfter (Some l) c
    by (inl b) = inl (inr b)
    by (inr (inl e)) = inl (inl e)
    by (inr (inr b)) = inr b

pub up_to_below : (last : Option (List ℕ)) (c k : List ℕ) → IsUpTo last c → IsAfter last k → IsBelow c k
up_to_below None c k u a = absurd u
up_to_below (Some l) c k (inl e) a = subst (λ (m : List ℕ). IsBelow m k) (sym e) a
up_to_below (Some l) c k (inr b) a = below_chain c l k b a

-- what is up to the start is not after it
not_both : (start : Option (List ℕ)) (c : List ℕ) → IsUpTo start c → IsAfter start c → ⊥
not_both start c u a = let b = up_to_below start c c u a in below_once c c b b

-- ---- the last block

-- the last choice is the start or that of a block
last_is : (start : Option (List ℕ)) (bs : List Block) → (last_choice start bs ≡ start) ⊎ ((b : Block) × Contains bs b × (last_choice start bs ≡ Some b.choice))
last_is start [] = inl refl
last_is start (b ∷ bs) = by (last_is (Some b.choice) bs)
  where
    by : (last_choice (Some b.choice) bs ≡ Some b.choice) ⊎ ((c : Block) × Contains bs c × (last_choice (Some b.choice) bs ≡ Some c.choice))
        → (last_choice start (b ∷ bs) ≡ start) ⊎ ((c : Block) × Contains (b ∷ bs) c × (last_choice start (b ∷ bs) ≡ Some c.choice))
    by (inl e) = inr (b, Contains-here b b bs refl, e)
    by (inr (c, h, e)) = inr (c, Contains-there c b bs h, e)

module _ (l : Listed) where
  Own : Block → Type 0
  Own = IsBlockOf l.geometry l.form l.start

  -- what is after the last class is after the start
  pub after_start : (last : Option (List ℕ)) (bs : List Block) → AreBlocksTo l last bs → last ≡ last_choice l.start bs → (c : List ℕ) → IsAfter last c → IsAfter l.start c
  after_start last bs are e c a = by (last_is l.start bs)
    where
      by : (last_choice l.start bs ≡ l.start) ⊎ ((b : Block) × Contains bs b × (last_choice l.start bs ≡ Some b.choice)) → IsAfter l.start c
      by (inl q) = subst (λ (s : Option (List ℕ)). IsAfter s c) (e ∙ q) a
      by (inr (b, h, q)) =
          after_chain l.start b.choice c (All-contains (λ x. IsBlockOf l.geometry l.form l.start x × IsUpTo last x.choice) bs b are.sound h).0.after (subst (λ (s : Option (List ℕ)). IsAfter s c) (e ∙ q) a)

  -- nothing is listed up to the start
  pub no_blocks : AreBlocksTo l l.start []
  no_blocks = listing_nil (λ b c. IsBelow b.choice c.choice) (λ b. IsBlockOf l.geometry l.form l.start b × IsUpTo l.start b.choice) (λ x p. not_both l.start x.choice p.1 p.0.after)

  -- the class that comes next is the next block
  pub next_block : (last : Option (List ℕ)) (bs : List Block) (choice : List ℕ) (w : List ℤ) (new : Block) → IsClassBlock l.geometry l.form choice w new
      → AreBlocksTo l last bs → last ≡ last_choice l.start bs → IsClass l.geometry choice w → ComesNext l.geometry last choice
      → AreBlocksTo l (Some choice) (bs ++ new ∷ [])
  next_block last bs choice w new is listed e k next =
      listing_append (λ b c. IsBelow b.choice c.choice)
      (λ b. IsBlockOf l.geometry l.form l.start b × IsUpTo last b.choice) (λ b. b ≡ new) (λ b. IsBlockOf l.geometry l.form l.start b × IsUpTo (Some choice) b.choice) bs (new ∷ []) listed one
      (λ x y p q. subst (λ (c : List ℕ). IsBelow x.choice c) (sym (ap (λ (b : Block). b.choice) q ∙ is.of)) (up_to_below last x.choice choice p.1 next.above))
      (λ x p. (p.0, inr (up_to_below last x.choice choice p.1 next.above)))
      (λ x q. (subst (λ (b : Block). IsBlockOf l.geometry l.form l.start b) (sym q) own, inl (ap (λ (b : Block). b.choice) q ∙ is.of)))
      split
    where
      own : IsBlockOf l.geometry l.form l.start new
      own = class_block l.geometry l.form l.start choice w new k (after_start last bs listed e choice next.above) is

      one : IsListing (λ b c. IsBelow b.choice c.choice) (λ b. b ≡ new) (new ∷ [])
      one = record {
        ordered = λ i j d k m. absurd (omega (arith, k, m));
        sound = All-cons (λ b. b ≡ new) new [] refl (All-nil (λ b. b ≡ new));
        complete = λ x q. subst (λ (b : Block). Contains (new ∷ []) b) (sym q) (Contains-here new new [] refl);
      }

      split : (x : Block) → IsBlockOf l.geometry l.form l.start x × IsUpTo (Some choice) x.choice → (IsBlockOf l.geometry l.form l.start x × IsUpTo last x.choice) ⊎ (x ≡ new)
      split x (p, inl q) = inr (block_fixed l.geometry l.form l.start x new p own (q ∙ sym is.of))
      split x (p, inr b) = ⊎_elim (λ u. inl (p, u)) (λ a. absurd (next.none_between x.choice p.extendable a b)) (up_to_or_after last x.choice)

  -- where nothing is left, all is listed
  pub all_blocks : (last : Option (List ℕ)) (bs : List Block) → AreBlocksTo l last bs → NoneIsLeft l.geometry last → AreBlocks l.geometry l.form l.start bs
  all_blocks last bs listed none =
      listing_same (λ b c. IsBelow b.choice c.choice) (λ b. IsBlockOf l.geometry l.form l.start b × IsUpTo last b.choice) (IsBlockOf l.geometry l.form l.start) bs listed (λ x p. p.0)
      (λ x p. (p, ⊎_elim (λ u. u) (λ a. absurd (none x.choice p.extendable a)) (up_to_or_after last x.choice)))

  -- the blocks are those below what comes next
  pub blocks_below : (last : Option (List ℕ)) (bs : List Block) (key : List ℕ) → AreBlocksTo l last bs → ComesNext l.geometry last key → AreBlocksBelow l key bs
  blocks_below last bs key listed next =
      listing_same (λ b c. IsBelow b.choice c.choice) (λ b. IsBlockOf l.geometry l.form l.start b × IsUpTo last b.choice) (λ b. IsBlockOf l.geometry l.form l.start b × IsBelow b.choice key) bs listed
      (λ x p. (p.0, up_to_below last x.choice key p.1 next.above))
      (λ x p. (p.0, ⊎_elim (λ u. u) (λ a. absurd (next.none_between x.choice p.0.extendable a p.1)) (up_to_or_after last x.choice)))
