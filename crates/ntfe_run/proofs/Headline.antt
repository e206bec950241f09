-- From the text of a run to the headline: extendable choices are those that fine regular star triangulations induce.
use Rattle.std.proofs.Common.{◌≡◌, ◌∙◌, refl, sym, ap, subst, inl, inr, Bool, true, false, cond, ℕ, List, [], length, Some, None}
use Rattle.std.specs.Prelude.{Option}
use Rattle.ntfe_model.specs.Lists.{IsBelow}
use Rattle.ntfe_model.specs.Shapes.{Shape, IsShape}
use Rattle.ntfe_model.specs.Choices.{IsChoice, Extends}
use Rattle.ntfe_model.specs.Keys.{IsAfter}
use Rattle.ntfe_model.specs.declared.nogood.Push.{Push}
use Rattle.ntfe_model.specs.Stars.{IsStar, IsMember, order_of}
use Rattle.ntfe_model.specs.RunText.{Form, Block, Kept, IsStarOf, IsBlockOf, IsRunText, nothing_kept}
use Rattle.ntfe_model.proofs.Listings.{listing_same, listing_unique}
use Rattle.ntfe_model.proofs.Orders.{below_once}
use Rattle.ntfe_words.specs.declared.command.Command.{Command}
use Rattle.ntfe_words.specs.declared.command.Command.TheVariants as command
use Rattle.ntfe_run.specs.Edges.{Edges}
use Rattle.ntfe_run.specs.Rooms.{IsRead, TakesAll}
use Rattle.ntfe_run.specs.Commands.{room_of, form_of_options}
use Rattle.ntfe_run.specs.Answers.{HasRunText, HasHeadline}
use Rattle.steal_workers.specs.Listings.{IsUpTo}
use Rattle.ntfe_run.specs.Demo.{IsDemoText, IsDemoHeadline, demo_form}
use Rattle.ntfe_run.specs.Headline.{IsInducingStar, IsInducedBlock, IsHeadlineText}
use Rattle.ntfe_run.specs.declared.status.Status.{Status}
use Rattle.ntfe_run.specs.declared.status.Status.TheVariants.{Done, Usage, Refused, Overflow, Limit, Memory, ReadFault, WriteFault}
use Rattle.ntfe_run.proofs.Completeness.{meaning_fixed}
use Rattle.steal_workers.proofs.HeightsExtend.{heights_extend}
use Rattle.star_builder.proofs.FineStars.{extended_star}
use Rattle.star_builder.proofs.InducedHeights.{induced_extendable}
use Rattle.star_builder.proofs.StarListing.{star_exists, push_order}

module _ (g : Shape) (s : IsShape g) (form : Form) where
  -- what is shown as the star of the heights is that star
  shown_star : (b : Block) (star : List (List ℕ)) → IsStar g.pair.dual g.points b.heights (order_of form.push (length g.points)) star → (shown : Option (List (List ℕ))) → IsStarOf g form b shown → shown ≡ cond form.stars (Some star) None
  shown_star b star k None h = ap (λ t. cond t (Some star) None) (sym h)
  shown_star b star k (Some other) h =
      let order = order_of form.push (length g.points) in
      let same : other ≡ star = listing_unique IsBelow (IsMember g.pair.dual g.points b.heights order) below_once other star h.1 k in
      ap (λ x. Some x) same ∙ ap (λ t. cond t (Some star) None) (sym h.0)

  star_shown : (b : Block) (star : List (List ℕ)) → IsStar g.pair.dual g.points b.heights (order_of form.push (length g.points)) star → (t : Bool) → form.stars ≡ t → b.star ≡ cond t (Some star) None → IsStarOf g form b b.star
  star_shown b star k true e h = subst (λ (x : Option (List (List ℕ))). IsStarOf g form b x) (sym h) (e, k)
  star_shown b star k false e h = subst (λ (x : Option (List (List ℕ))). IsStarOf g form b x) (sym h) e

  -- the star of heights that extend a choice, with either order of pushing
  either_star : (b : Block) → IsChoice g b.choice → Extends g b.heights b.choice → (push : Push) → (star : List (List ℕ)) × IsInducingStar g b push star
  either_star b items extends push =
      let n = length g.points in
      let order = order_of push n in
      let lifted = star_exists g.pair.dual g.points b.heights order in
      let fine = extended_star g b.choice b.heights order lifted.0 s items extends (push_order push n) lifted.1 in
      (lifted.0, record { is_star = lifted.1; frst = fine.0; induces = fine.1 })

  module _ (start : Option (List ℕ)) where
    induced_block : (b : Block) → IsBlockOf g form start b → IsInducedBlock g form b × IsAfter start b.choice
    induced_block b k =
        let extends = heights_extend g s b.choice b.heights k.extendable.items k.heights in
        let either = either_star b k.extendable.items extends in
        let own = either form.push in (
          record {
            induced = record { items = k.extendable.items; star = own.0; frst = own.1.frst; induces = own.1.induces };
            heights = k.heights;
            extends = extends;
            star = λ push. (either push).0;
            either = λ push. (either push).1;
            shown = shown_star b own.0 own.1.is_star b.star k.star;
          },
          k.after,
        )

    extendable_block : (b : Block) → IsInducedBlock g form b × IsAfter start b.choice → IsBlockOf g form start b
    extendable_block b (k, after) = record {
      extendable = induced_extendable g b.choice s k.induced;
      after = after;
      heights = k.heights;
      star = star_shown b (k.star form.push) (k.either form.push).is_star form.stars refl k.shown;
    }

  headline_text : (kept : Kept) (text : List ℕ) → IsRunText g form kept None text → IsHeadlineText form g kept text
  headline_text kept text h = record {
    blocks = h.blocks;
    are = listing_same (λ b c. IsBelow b.choice c.choice) (IsBlockOf g form kept.last) (λ b. IsInducedBlock g form b × IsAfter kept.last b.choice) h.blocks h.are (induced_block kept.last) (extendable_block kept.last);
    is = h.is;
  }

-- what `demo` counts are the induced choices
demo_headline : (number : ℕ) (g : Shape) → IsShape g → (text : List ℕ) → IsDemoText number g text → IsDemoHeadline number g text
demo_headline number g s text (inl h) = inl record {
  blocks = h.blocks;
  are = listing_same (λ b c. IsBelow b.choice c.choice) (IsBlockOf g demo_form None) (IsInducedBlock g demo_form) h.blocks h.are (λ b k. (induced_block g s demo_form None b k).0) (λ b k. extendable_block g s demo_form None b (k, tt));
  few = h.few;
  is = h.is;
}
demo_headline number g s text (inr h) = inr record {
  last = h.last;
  blocks = h.blocks;
  are = listing_same (λ b c. IsBelow b.choice c.choice) (λ b. IsBlockOf g demo_form None b × IsUpTo h.last b.choice) (λ b. IsInducedBlock g demo_form b × IsUpTo h.last b.choice) h.blocks h.are
      (λ b k. ((induced_block g s demo_form None b k.0).0, k.1)) (λ b k. (extendable_block g s demo_form None b (k.0, tt), k.1));
  last_is = h.last_is;
  count = h.count;
  is = h.is;
}

-- ---- of a run

none_some : {X : Type 0} (n : ℕ) → (let o : Option ℕ = None in o ≡ Some n) → X
none_some n e = cc

-- the whole text of a command has its headline
room_headline : (c : Command) (bytes : List ℕ) (i : (room_of c).Input) (text : List ℕ) → (room_of c).Holds bytes i → (room_of c).IsText i text → (room_of c).IsHeadline i text
room_headline (command.Classes o) bytes g text holds (inl run) =
    λ none. headline_text g holds.shape (form_of_options o) nothing_kept text (subst (λ (l : Option ℕ). IsRunText g (form_of_options o) nothing_kept l text) none run)
room_headline (command.Classes o) bytes g text holds (inr due) = λ none. let e : None ≡ Some due.limit = sym none ∙ due.limited in none_some due.limit e
room_headline (command.Resume o) bytes i text holds (inl run) =
    λ none. headline_text i.geometry holds.holds.0.shape (form_of_options o) i.kept text (subst (λ (l : Option ℕ). IsRunText i.geometry (form_of_options o) i.kept l text) none run)
room_headline (command.Resume o) bytes i text holds (inr due) = λ none. let e : None ≡ Some due.limit = sym none ∙ due.limited in none_some due.limit e
room_headline command.Faces bytes g text holds is = tt
room_headline (command.Demo number workers width) bytes g text holds is = demo_headline number g holds.shape text is

-- what was read has some bytes
pub some_read : (limit : Option ℕ) (e : Edges) (P : List ℕ → Type 0) → IsRead limit e P → (bytes : List ℕ) × P bytes
some_read None e P r = ([], r.1)
some_read (Some limit) e P r = (r.0, r.2)

module _ (words : List (List ℕ)) (e : Edges) where
  done : HasRunText words e Done → HasHeadline words e Done
  done (c, m, h) d n = subst (λ (x : Command). TakesAll (room_of x) (room_of x).IsHeadline e) (meaning_fixed words c d m n) record {
    input = h.input;
    read = h.read;
    takes = record {
      text = h.takes.text;
      is = (let held = some_read (room_of c).limit e (λ bytes. (room_of c).Holds bytes h.input) h.read in room_headline c held.0 h.input h.takes.text held.1 h.takes.is);
      all = h.takes.all;
    };
  }

  pub headline : (status : Status) → HasRunText words e status → HasHeadline words e status
  headline Done h = done h
  headline Usage h = tt
  headline (Refused refusal) h = tt
  headline (Overflow choice step number) h = tt
  headline (Limit face) h = tt
  headline Memory h = tt
  headline ReadFault h = tt
  headline WriteFault h = tt
