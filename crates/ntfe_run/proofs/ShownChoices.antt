-- Each choice that is due has its block in the text.
--     shown_in      the block of a listed choice stands in the text
use Rattle.std.proofs.Common.{◌≡◌, ◌∙◌, ℕ, ◌+◌, ◌^◌, ◌⊎◌, inl, inr, min, max, sym, ap, subst, List, [], ◌∷◌, ◌++◌, flat_map, length, append_assoc, None}
use Rattle.std.specs.Prelude.{Option, Contains}
use Rattle.std.proofs.lemmas.List.{append-nil}
use Rattle.ntfe_model.specs.Lists.{IsListing, IsBelow}
use Rattle.ntfe_model.specs.Shapes.{Shape, IsShape}
use Rattle.ntfe_model.specs.Choices.{IsExtendable}
use Rattle.ntfe_model.specs.Keys.{IsAfter, AreHeightsOf}
use Rattle.ntfe_model.specs.Stars.{IsInduced}
use Rattle.ntfe_model.specs.RunText.{Form, Block, Kept, IsBlockOf, IsRunText, IsStoppedText, head_due, block_text, end_line, limit_line}
use Rattle.ntfe_model.proofs.Listings.{Contains-cases, Contains-none}
use Rattle.ntfe_run.specs.Commands.{IsDueText}
use Rattle.ntfe_run.specs.Shown.{ShowsChoice}
use Rattle.ntfe_run.proofs.AllBlocks.{BlockBelow}
use Rattle.star_builder.proofs.InducedHeights.{induced_extendable}
use Rattle.steal_workers.specs.Listings.{Listed, IsUpTo}
use Rattle.steal_workers.proofs.ExtendableBlocks.{extendable_block}
use Rattle.steal_workers.proofs.HeightsExtend.{heights_extend}

-- the text of a block among those of blocks
among : (bs : List Block) (b : Block) → Contains bs b → (before : List ℕ) × (behind : List ℕ) × (flat_map block_text bs ≡ before ++ block_text b ++ behind)
among [] b k = Contains-none b k
among (c ∷ bs) b k = by (Contains-cases b c bs k) (among bs b)
  where
    by : (b ≡ c) ⊎ Contains bs b → (Contains bs b → (before : List ℕ) × (behind : List ℕ) × (flat_map block_text bs ≡ before ++ block_text b ++ behind))
        → (before : List ℕ) × (behind : List ℕ) × (flat_map block_text (c ∷ bs) ≡ before ++ block_text b ++ behind)
    by (inl e) rest = ([], flat_map block_text bs, ap (λ (x : Block). block_text x ++ flat_map block_text bs) (sym e))
    by (inr m) rest =
        let r = rest m in (
          block_text c ++ r.0,
          r.1,
          ap (λ (x : List ℕ). block_text c ++ x) r.2 ∙ sym (append_assoc (block_text c) (r.0 ++ block_text b) r.1) ∙ ap (λ (x : List ℕ). x ++ r.1) (sym (append_assoc (block_text c) r.0 (block_text b))),
        )

module _ (g : Shape) (s : IsShape g) (form : Form) (start : Option (List ℕ)) (choice : List ℕ) (extendable : IsExtendable g choice) (after : IsAfter start choice) where
  -- where the listing has all blocks of choices like this one, the text shows it
  pub shown_in : (P : List ℕ → Type 0) (bs : List Block) (head behind text : List ℕ) → IsListing BlockBelow (λ b. IsBlockOf g form start b × P b.choice) bs → P choice → text ≡ head ++ flat_map block_text bs ++ behind → ShowsChoice g form choice text
  shown_in P bs head behind text l p e =
      let b = extendable_block g s form start choice extendable after in
      let c = l.complete b.0 (b.2, subst P (sym b.1) p) in
      let at = among bs b.0 c in
      let heights = subst (λ (x : List ℕ). AreHeightsOf g x b.0.heights) b.1 b.2.heights in
      record {
        block = b.0;
        of = b.1;
        heights = heights;
        extends = heights_extend g s choice b.0.heights extendable.items heights;
        star = b.2.star;
        before = head ++ at.0;
        behind = at.1 ++ behind;
        stands =
            e
            ∙ ap (λ (x : List ℕ). head ++ x ++ behind) at.2
            ∙ ap (λ (x : List ℕ). x ++ behind) (sym (append_assoc head (at.0 ++ block_text b.0) at.1) ∙ ap (λ (x : List ℕ). x ++ at.1) (sym (append_assoc head at.0 (block_text b.0))))
            ∙ append_assoc (head ++ at.0 ++ block_text b.0) at.1 behind;
      }

-- ---- the texts

pub run_shows : (g : Shape) (form : Form) (kept : Kept) (text choice : List ℕ) → IsShape g → IsRunText g form kept None text → IsExtendable g choice → IsAfter kept.last choice → ShowsChoice g form choice text
run_shows g form kept text choice s h e after =
    shown_in g s form kept.last choice e after (λ c. Unit {0}) h.blocks (head_due g.pair form kept) (end_line (min (2 ^ 63) (kept.blocks + length h.blocks))) text
    (record { ordered = h.are.ordered; sound = λ k d l. (h.are.sound k d l, tt); complete = λ b p. h.are.complete b p.0 }) tt h.is

pub run_shows_induced : (g : Shape) (form : Form) (kept : Kept) (text choice : List ℕ) → IsShape g → IsRunText g form kept None text → IsInduced g choice → IsAfter kept.last choice → ShowsChoice g form choice text
run_shows_induced g form kept text choice s h i after = run_shows g form kept text choice s h (induced_extendable g choice s i) after

pub stopped_shows : (g : Shape) (form : Form) (kept : Kept) (limit : Option ℕ) (bound text choice : List ℕ) → IsShape g → IsStoppedText g form kept limit bound text → IsExtendable g choice → IsAfter kept.last choice → IsBelow choice bound
    → ShowsChoice g form choice text
stopped_shows g form kept limit bound text choice s h e after below =
    shown_in g s form kept.last choice e after (λ c. IsBelow c bound) h.blocks (head_due g.pair form kept) [] text h.are below (h.is ∙ nothing_behind)
  where
    nothing_behind : head_due g.pair form kept ++ flat_map block_text h.blocks ≡ head_due g.pair form kept ++ flat_map block_text h.blocks ++ []
    nothing_behind = sym (append-nil (head_due g.pair form kept ++ flat_map block_text h.blocks))

pub due_shows : (l : Listed) (kept : Kept) (text choice : List ℕ) → IsShape l.geometry → (h : IsDueText l kept text) → IsExtendable l.geometry choice → IsAfter l.start choice → IsUpTo h.last choice → ShowsChoice l.geometry l.form choice text
due_shows l kept text choice s h e after up =
    shown_in l.geometry s l.form l.start choice e after (IsUpTo h.last) h.blocks (head_due l.geometry.pair l.form kept) (limit_line (max l.kept h.limit)) text h.are up h.is
