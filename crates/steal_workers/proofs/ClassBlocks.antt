-- A choice has one block, with its star where stars are written.
use Rattle.std.proofs.Common.{◌≡◌, ◌∙◌, refl, sym, ap, arith, subst, Bool, false, true, ℕ, ℤ, List, length, Some, None, Result, Err, Bor}
use Rattle.std.specs.Prelude.{Option, option_copied}
use Rattle.std.specs.Option.{option_map}
use Rattle.io_edge.specs.Lines.{WritesText}
use Rattle.io_edge.specs.declared.line_fault.LineFault.{LineFault}
use Rattle.io_edge.specs.declared.line_fault.LineFault.TheVariants as line
use Rattle.io_edge.proofs.Pieces.{prefix_none}
use Rattle.ntfe_model.specs.Lists.{IsBelow}
use Rattle.ntfe_model.specs.Shapes.{Shape}
use Rattle.ntfe_model.specs.Stars.{IsStar, IsMember, order_of}
use Rattle.ntfe_model.specs.Choices.{IsChoice, Extends}
use Rattle.ntfe_model.specs.Keys.{IsAfter, IsClass, AreHeightsOf}
use Rattle.ntfe_model.specs.RunText.{Form, Block, IsStarOf, IsBlockOf, block_text}
use Rattle.star_builder.specs.declared.star.Star.{Star}
use Rattle.star_builder.proofs.StarListing.{star_exists}
use Rattle.ntfe_model.proofs.Listings.{listing_unique}
use Rattle.ntfe_model.proofs.Orders.{below_once}
use Rattle.steal_workers.specs.Blocks.{IsClassBlock, IsStarAt, WritesBlock}
use Rattle.steal_workers.proofs.Heights.{heights_fixed}

module _ (g : Shape) (form : Form) where
  -- heights and an order of pushing have one star
  star_fixed : (a b : Block) → a.heights ≡ b.heights → (s t : Option (List (List ℕ))) → IsStarOf g form a s → IsStarOf g form b t → s ≡ t
  star_fixed a b e None None h k = refl
  star_fixed a b e None (Some t) h k = let d : false ≡ true = sym h ∙ k.0 in cc
  star_fixed a b e (Some s) None h k = let d : false ≡ true = sym k ∙ h.0 in cc
  star_fixed a b e (Some s) (Some t) h k =
      let order = order_of form.push (length g.points) in
      let P = λ (w : List ℤ). IsStar g.pair.dual g.points w order s in
      ap (λ x. Some x) (listing_unique IsBelow (IsMember g.pair.dual g.points b.heights order) below_once s t (subst P e h.1) k.1)

  -- two blocks of one choice are one
  pub block_fixed : (start : Option (List ℕ)) (a b : Block) → IsBlockOf g form start a → IsBlockOf g form start b → a.choice ≡ b.choice → a ≡ b
  block_fixed start a b p q e =
      let P = λ (c : List ℕ). AreHeightsOf g c a.heights in
      let h = heights_fixed g b.choice a.heights b.heights (subst P e p.heights) q.heights in
      let t = star_fixed a b h a.star b.star p.star q.star in
      λ i. record { choice = e i; heights = h i; star = t i }

  -- the block of a class after the start is that of its choice
  pub class_block : (start : Option (List ℕ)) (choice : List ℕ) (w : List ℤ) (b : Block) → IsClass g choice w → IsAfter start choice → IsClassBlock g form choice w b → IsBlockOf g form start b
  class_block start choice w b k after is =
      let P = λ (x : List ℕ × List ℤ). AreHeightsOf g x.0 x.1 in
      record {
        extendable = record {
          items = subst (IsChoice g) (sym is.of) k.0;
          heights = w;
          extends = subst (λ (c : List ℕ). Extends g w c) (sym is.of) k.2;
        };
        after = subst (IsAfter start) (sym is.of) after;
        heights = subst P (λ i. (sym is.of i, sym is.lifted i)) k.3;
        star = is.starred;
      }

  -- a choice and heights with their star are a block
  pub with_star : (choice : List ℕ) (w : List ℤ) (star : Option (List (List ℕ))) → IsStarAt g form w star → IsClassBlock g form choice w (record { choice = choice; heights = w; star = star })
  with_star choice w None k = record { of = refl; lifted = refl; starred = k }
  with_star choice w (Some s) k = record { of = refl; lifted = refl; starred = k }

  -- heights have what is shown as their star
  pub star_at : (w : List ℤ) → (star : Option (List (List ℕ))) × IsStarAt g form w star
  star_at w = by form.stars refl
    where
      by : (b : Bool) → form.stars ≡ b → (star : Option (List (List ℕ))) × IsStarAt g form w star
      by true e = let s = star_exists g.pair.dual g.points w (order_of form.push (length g.points)) in (Some s.0, (e, s.1))
      by false e = (None, e)

  -- a block that was not begun, for want of memory
  pub none_written : (choice : List ℕ) (w : List ℤ) (a : Option (List ℕ)) (f : ℕ) → WritesBlock g form choice w a a f f (Err line.Memory)
  none_written choice w a f =
      let s = star_at w in
      let b : Block = record { choice = choice; heights = w; star = s.0 } in
      record {
        block = b;
        is = with_star choice w s.0 s.1;
        writes = record {
          ok = tt;
          err = prefix_none a (block_text b);
          later = (let n = f in omega arith);
          cause = λ e. memory_is_not (Err line.Memory) refl e;
        };
      }
    where
      memory_is_not : {X : Type 0} → (r : Result (Unit {0}) LineFault) → r ≡ Err line.Memory → r ≡ Err line.Write → X
      memory_is_not r d e = cc

-- ---- what is written of a block

-- what is shown of a borrowed star is what is shown of the star
pub borrowed_star : (o : Option (Bor Star)) (star : Option Star) → option_copied o ≡ star → option_map (λ s. s.now.simplices) o ≡ option_map (λ x. x.simplices) star
borrowed_star o star e = apart o ∙ ap (λ s. option_map (λ x. x.simplices) s) e
  where
    apart : (b : Option (Bor Star)) → option_map (λ s. s.now.simplices) b ≡ option_map (λ x. x.simplices) (option_copied b)
    apart None = refl
    apart (Some s) = refl

-- the block was written with this star, or a prefix of it
pub block_written : (g : Shape) (form : Form) (choice : List ℕ) (w : List ℤ) (a b : Option (List ℕ)) (f h : ℕ) (star shown : Option (List (List ℕ))) → shown ≡ star → IsStarAt g form w star → (r : Result (Unit {0}) LineFault)
    → WritesText a b f h r (block_text (record { choice = choice; heights = w; star = shown })) → WritesBlock g form choice w a b f h r
block_written g form choice w a b f h star shown same k r t = record {
  block = record { choice = choice; heights = w; star = shown };
  is = with_star g form choice w shown (subst (IsStarAt g form w) (sym same) k);
  writes = t;
}
