-- From what has been written to what has been written after one call more, or to the end of the list.
use Rattle.std.proofs.Common.{◌≡◌, ℕ, ◌+◌, ◌-◌, ◌^◌, ◌≤◌, ◌⊎◌, ⊎_elim, min, max, Bool, true, false, cond, nat_lt, refl, sym, ap, ◌∙◌, subst, arith, ℤ, List, [], ◌∷◌, ◌++◌, length, flat_map, append-nil, length-append, Some, None, Result, Ok, Err}
use Rattle.std.specs.Prelude.{Option, OnOk, OnErr}
use Rattle.std.specs.Io.KnownBytes.{Appends}
use Rattle.std.proofs.KnownBytes.{Appends-nil, Appends-trans}
use Rattle.std.proofs.lemmas.Bool.Decides.{nat_tests}
use Rattle.std.proofs.lemmas.Grind.{flat_map-append}
use Rattle.io_edge.specs.Causes.{AppendsPrefix}
use Rattle.io_edge.specs.declared.line_fault.LineFault.{LineFault}
use Rattle.io_edge.specs.declared.line_fault.LineFault.TheVariants as line
use Rattle.io_edge.proofs.Pieces.{prefix_all, prefix_next}
use Rattle.ntfe_model.specs.Keys.{IsClass}
use Rattle.ntfe_model.specs.RunText.{Block, IsUnderLimit, block_text}
use Rattle.choice_board.specs.Settling.{counted}
use Rattle.choice_board.specs.declared.outcome.Outcome.TheVariants.{Class, Wide, Far}
use Rattle.class_text.proofs.KeptBlocks.{last_of_more}
use Rattle.steal_workers.specs.Listings.{Bytes, Listed, Progress, IsWithinLimit, IsSmallLimit, IsAtLimit, at_start, HasWritten, ComesNext, IsNextOutcome, NoneIsLeft, GoesOn, EndsAs, TakesAll, TakesDue, TakesBelow, TakesPart}
use Rattle.steal_workers.specs.Blocks.{IsClassBlock, WritesBlock}
use Rattle.steal_workers.specs.Ends.{end_of}
use Rattle.steal_workers.specs.declared.served.Served.TheVariants as served
use Rattle.steal_workers.proofs.NextBlocks.{no_blocks, next_block, all_blocks, blocks_below}

-- ---- counts and limits

pub counted_more : (n k : ℕ) → n ≡ min (2 ^ 63) k → counted n ≡ min (2 ^ 63) (k + 1)
counted_more n k e = by (nat_lt n 9_223_372_036_854_775_808) refl
  where
    by : (b : Bool) → nat_lt n 9_223_372_036_854_775_808 ≡ b → cond b (n + 1) n ≡ min 9_223_372_036_854_775_808 (k + 1)
    by true q = grind (arith, nat_tests, e, q)
    by false q = grind (arith, nat_tests, e, q)

under_sum : (limit : Option ℕ) (count sum : ℕ) → IsSmallLimit limit → count ≡ min (2 ^ 63) sum → IsUnderLimit limit count → IsUnderLimit limit sum
under_sum None count sum small e u = tt
under_sum (Some n) count sum small e u = let s = small n refl in grind (arith, e, u, s)

room_for_one : (limit : Option ℕ) (kept count new more : ℕ) → IsSmallLimit limit → count ≡ min (2 ^ 63) (kept + new) → more ≡ new + 1 → IsUnderLimit limit count → IsWithinLimit limit kept more
room_for_one None kept count new more small e m u = tt
room_for_one (Some n) kept count new more small e m u = let q = under_sum (Some n) count (kept + new) small e u in omega (arith, q, m)

-- as many as the limit asks for
due_at : (n kept count new : ℕ) → count ≡ min (2 ^ 63) (kept + new) → n ≤ count → new ≤ n - kept → new ≡ n - kept
due_at n kept count new e a w = grind (arith, e, a, w)

at_or_under : (limit : Option ℕ) (count : ℕ) → IsAtLimit limit count → IsUnderLimit limit count → ⊥
at_or_under None count a u = a
at_or_under (Some n) count a u = omega (arith, a, u)

-- ---- the start

-- where nothing was written
pub none_yet : (l : Listed) (a : Option (List ℕ)) → HasWritten (at_start l) (record { before = a; after = a })
none_yet l a = record {
  blocks = [];
  are = no_blocks l;
  within = within l.limit;
  last = refl;
  counted = (let q : l.kept ≡ l.kept + 0 = omega arith in ap (λ n. min (2 ^ 63) n) q);
  took = Appends-nil a;
}
  where
    within : (limit : Option ℕ) → IsWithinLimit limit l.kept 0
    within None = tt
    within (Some n) = omega arith

-- ---- what was written is a part of the list

pub part_written : (p : Progress) (bytes : Bytes) → HasWritten p bytes → TakesPart p.listed bytes
part_written p bytes h = record { blocks = h.blocks; last = p.last; are = h.are; within = h.within; took = prefix_all bytes.before bytes.after (flat_map block_text h.blocks) h.took }

-- ---- a class

module _ (p : Progress) (small : IsSmallLimit p.listed.limit) (choice : List ℕ) (w : List ℤ) (class : IsClass p.listed.geometry choice w) (next : ComesNext p.listed.geometry p.last choice)
    (under : IsUnderLimit p.listed.limit p.count) (b : Block) (is : IsClassBlock p.listed.geometry p.listed.form choice w b) where
  more_text : (bs : List Block) → flat_map block_text bs ++ block_text b ≡ flat_map block_text (bs ++ b ∷ [])
  more_text bs = (let e : block_text b ≡ flat_map block_text (b ∷ []) = sym (append-nil (block_text b)) in ap (λ t. flat_map block_text bs ++ t) e) ∙ sym (flat_map-append block_text bs (b ∷ []))

  one_more : (bs : List Block) → length (bs ++ b ∷ []) ≡ length bs + 1
  one_more bs = length-append bs (b ∷ [])

  pub class_on : (q : Progress) → q ≡ record p { last = Some choice; count = counted p.count } → (a c : Option (List ℕ)) → Appends a c (block_text b) → GoesOn p q (record { before = a; after = c })
  class_on q e a c took earlier h = subst (λ (x : Progress). HasWritten x (record { before = earlier; after = c })) (sym e) record {
    blocks = h.blocks ++ b ∷ [];
    are = next_block p.listed p.last h.blocks choice w b is h.are h.last class next;
    within = room_for_one p.listed.limit p.listed.kept p.count (length h.blocks) (length (h.blocks ++ b ∷ [])) small h.counted (one_more h.blocks) under;
    last = sym (ap (λ c. Some c) is.of) ∙ sym (last_of_more p.listed.start h.blocks b);
    counted = counted_more p.count (p.listed.kept + length h.blocks) h.counted ∙ ap (λ n. min (2 ^ 63) n) (sums (length h.blocks) (length (h.blocks ++ b ∷ [])) (one_more h.blocks));
    took = subst (λ (t : List ℕ). Appends earlier c t) (more_text h.blocks) (Appends-trans earlier a c (flat_map block_text h.blocks) (block_text b) h.took took);
  }
    where
      sums : (m n : ℕ) → n ≡ m + 1 → p.listed.kept + m + 1 ≡ p.listed.kept + n
      sums m n q = omega (arith, q)

  pub class_part : (a c : Option (List ℕ)) → AppendsPrefix a c (block_text b) → (earlier : Option (List ℕ)) → HasWritten p (record { before = earlier; after = a }) → TakesPart p.listed (record { before = earlier; after = c })
  class_part a c took earlier h = record {
    blocks = h.blocks ++ b ∷ [];
    last = Some choice;
    are = next_block p.listed p.last h.blocks choice w b is h.are h.last class next;
    within = room_for_one p.listed.limit p.listed.kept p.count (length h.blocks) (length (h.blocks ++ b ∷ [])) small h.counted (one_more h.blocks) under;
    took = subst (λ (t : List ℕ). AppendsPrefix earlier c t) (more_text h.blocks) (prefix_next earlier a c (flat_map block_text h.blocks) (block_text b) h.took took);
  }

  pub class_ends : (fault : LineFault) (a c : Option (List ℕ)) → AppendsPrefix a c (block_text b) → EndsAs p (record { before = a; after = c }) (end_of fault)
  class_ends line.Write a c took = class_part a c took
  class_ends line.Memory a c took = class_part a c took

-- ---- an early end

module _ (p : Progress) (small : IsSmallLimit p.listed.limit) (under : IsUnderLimit p.listed.limit p.count) where
  below : (key : List ℕ) → ComesNext p.listed.geometry p.last key → (bytes : Bytes) → HasWritten p bytes → TakesBelow p.listed bytes key
  below key next bytes h = record {
    blocks = h.blocks;
    are = blocks_below p.listed p.last h.blocks key h.are next;
    under = under_sum p.listed.limit p.count (p.listed.kept + length h.blocks) small h.counted under;
    took = h.took;
  }

  pub wide_ends : (choice : List ℕ) (step : ℕ) (number : ℤ) → IsNextOutcome p.listed p.last (Wide choice step number) → (a : Option (List ℕ)) → EndsAs p (record { before = a; after = a }) (served.Wide choice step number)
  wide_ends choice step number next a earlier h = (next.0, below choice next.1 (record { before = earlier; after = a }) h)

  pub far_ends : (face : ℕ) → IsNextOutcome p.listed p.last (Far face) → (a : Option (List ℕ)) → EndsAs p (record { before = a; after = a }) (served.Far face)
  far_ends face next a earlier h = (next.0, next.1, below next.0 next.2 (record { before = earlier; after = a }) h)

-- ---- the end

pub all_written : (p : Progress) → IsSmallLimit p.listed.limit → IsUnderLimit p.listed.limit p.count → IsAtLimit p.listed.limit p.count ⊎ NoneIsLeft p.listed.geometry p.last → (bytes : Bytes) → HasWritten p bytes
    → TakesAll p.listed bytes p.count p.last
all_written p small under ends bytes h = record {
  blocks = h.blocks;
  are = all_blocks p.listed p.last h.blocks h.are (⊎_elim (λ a. absurd (at_or_under p.listed.limit p.count a under)) (λ n. n) ends);
  under = under_sum p.listed.limit p.count (p.listed.kept + length h.blocks) small h.counted under;
  counted = h.counted;
  last_is = h.last;
  took = h.took;
}

pub due_written : (p : Progress) (n : ℕ) → p.listed.limit ≡ Some n → n ≤ p.count → (bytes : Bytes) → HasWritten p bytes → TakesDue p.listed bytes (max p.listed.kept n) p.last
due_written p n limited at bytes h = record {
  limit = n;
  limited = limited;
  blocks = h.blocks;
  are = h.are;
  due = due_at n p.listed.kept p.count (length h.blocks) h.counted at (subst (λ (limit : Option ℕ). IsWithinLimit limit p.listed.kept (length h.blocks)) limited h.within);
  counted = refl;
  last_is = h.last;
  took = h.took;
}

-- ---- one call

ok_of : {T E X : Type 0} (r : Result T E) (u : T) → r ≡ Ok u → OnOk r X → X
ok_of {T} {E} {X} r u e h = subst (λ (x : Result T E). OnOk x X) e h

err_of : {T E X : Type 0} (r : Result T E) (d : E) → r ≡ Err d → OnErr r X → X
err_of {T} {E} {X} r d e h = subst (λ (x : Result T E). OnErr x X) e h

-- the block of a class was written
pub class_written : (p q : Progress) → IsSmallLimit p.listed.limit → IsUnderLimit p.listed.limit p.count → (choice : List ℕ) (w : List ℤ) → IsNextOutcome p.listed p.last (Class choice w) → q ≡ record p { last = Some choice; count = counted p.count }
    → (a c : Option (List ℕ)) (f h : ℕ) (r : Result (Unit {0}) LineFault) (u : Unit {0}) → r ≡ Ok u → WritesBlock p.listed.geometry p.listed.form choice w a c f h r → GoesOn p q (record { before = a; after = c })
class_written p q small under choice w next moved a c f h r u e wrote = class_on p small choice w next.0 next.1 under wrote.block wrote.is q moved a c (ok_of r u e wrote.writes.ok)

-- it was not
pub class_failed : (p : Progress) → IsSmallLimit p.listed.limit → IsUnderLimit p.listed.limit p.count → (choice : List ℕ) (w : List ℤ) → IsNextOutcome p.listed p.last (Class choice w)
    → (a c : Option (List ℕ)) (f h : ℕ) (r : Result (Unit {0}) LineFault) (fault : LineFault) → r ≡ Err fault → WritesBlock p.listed.geometry p.listed.form choice w a c f h r → EndsAs p (record { before = a; after = c }) (end_of fault)
class_failed p small under choice w next a c f h r fault e wrote = class_ends p small choice w next.0 next.1 under wrote.block wrote.is fault a c (err_of r fault e wrote.writes.err)
