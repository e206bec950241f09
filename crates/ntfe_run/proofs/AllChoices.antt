-- All choices of a geometry stand in a list, in order, and what is a choice is decided.
--     choices_listed      all choices
--     decide_choice      whether a list is a choice
use Rattle.std.proofs.Common.{◌≡◌, ℕ, zero, suc, ◌+◌, ◌<◌, ◌≤◌, inl, inr, ⊎_elim, refl, sym, ap, subst, arith, List, [], ◌∷◌, map, flat_map, length, get_or}
use Rattle.std.specs.Prelude.{⊤}
use Rattle.std.specs.List.{range_with_len}
use Rattle.ntfe_model.specs.Lists.{IsListing, IsBelow}
use Rattle.ntfe_model.specs.Shapes.{Shape, IsShape}
use Rattle.ntfe_model.specs.Words.{HasItem}
use Rattle.ntfe_model.specs.Choices.{IsChoice}
use Rattle.ntfe_model.proofs.Listings.{Contains-here, Contains-cases, Contains-none, All-from_contains, listing_groups, listing_range, listing_same}
use Rattle.ntfe_model.proofs.Triples.{Decided, decide_number, decide_both}
use Rattle.fine_stream.proofs.Searches.{head_below, same_below}
use Rattle.ntfe_model.proofs.Lists.{listing_map}
use Rattle.ntfe_run.proofs.CountedItems.{IsCountOf, faces_counted}
use Rattle.star_builder.proofs.Decisions.{decide_less}

-- the numbers are those of items, from this two-face on
abbrev AreItemsFrom : Shape → ℕ → List ℕ → Type 0
AreItemsFrom g f [] = ⊤
AreItemsFrom g f (n ∷ ns) = HasItem g f n × AreItemsFrom g (f + 1) ns

-- of so many two-faces
abbrev IsTail : Shape → ℕ → ℕ → List ℕ → Type 0
IsTail g f k ns = (length ns ≡ k) × AreItemsFrom g f ns

items_at : (g : Shape) (f : ℕ) (ns : List ℕ) → AreItemsFrom g f ns → (j : ℕ) → j < length ns → HasItem g (f + j) (get_or ns j 0)
items_at g f [] h j l = absurd (omega (arith, l))
items_at g f (n ∷ ns) h zero l = let e : f ≡ f + 0 = omega arith in subst (λ k. HasItem g k n) e h.0
items_at g f (n ∷ ns) h (suc j) l = let e : f + 1 + j ≡ f + suc j = omega arith in subst (λ k. HasItem g k (get_or ns j 0)) e (items_at g (f + 1) ns h.1 j (omega (arith, l)))

items_from : (g : Shape) (f : ℕ) (ns : List ℕ) → ((j : ℕ) → j < length ns → HasItem g (f + j) (get_or ns j 0)) → AreItemsFrom g f ns
items_from g f [] each = tt
items_from g f (n ∷ ns) each =
    let e : f + 0 ≡ f = omega arith in (
      subst (λ k. HasItem g k n) e (each 0 (omega arith)),
      items_from g (f + 1) ns (λ j l. (let d : f + suc j ≡ f + 1 + j = omega arith in subst (λ k. HasItem g k (get_or ns j 0)) d (each (suc j) (omega (arith, l))))),
    )

tail_choice : (g : Shape) (ns : List ℕ) → IsTail g 0 (length g.faces) ns → IsChoice g ns
tail_choice g ns (count, h) = record {
  faces = count;
  items = λ f l. (let e : 0 + f ≡ f = omega arith in subst (λ k. HasItem g k (get_or ns f 0)) e (items_at g 0 ns h f (omega (arith, l, count))));
}

choice_tail : (g : Shape) (ns : List ℕ) → IsChoice g ns → IsTail g 0 (length g.faces) ns
choice_tail g ns c =
    (c.faces, items_from g 0 ns (λ j l. (let e : j ≡ 0 + j = omega arith in let d = c.faces in subst (λ k. HasItem g k (get_or ns j 0)) e (c.items j (omega (arith, l, d))))))

module _ (g : Shape) (s : IsShape g) where
  abbrev count_of : ℕ → ℕ
  count_of f = (faces_counted g s f).0

  counted : (f : ℕ) → IsCountOf g f (count_of f)
  counted f = (faces_counted g s f).1

  -- ---- all of them

  none_left : (f : ℕ) → IsListing IsBelow (IsTail g f 0) ([] ∷ [])
  none_left f = record {
    ordered = λ i j d k m. absurd (omega (arith, k, m));
    sound = All-from_contains (IsTail g f 0) ([] ∷ []) (λ ns c. ⊎_elim (λ e. subst (IsTail g f 0) (sym e) (refl, tt)) (λ n. Contains-none ns n) (Contains-cases ns [] [] c));
    complete = λ ns p. Contains-here ns [] [] (empty ns p.0);
  }
    where
      empty : (ns : List ℕ) → length ns ≡ 0 → ns ≡ []
      empty [] e = refl
      empty (n ∷ ns) e = absurd (omega (arith, e))

  module _ (f k : ℕ) (xs : List (List ℕ)) (l : IsListing IsBelow (IsTail g (f + 1) k) xs) where
    abbrev Begins : ℕ → List ℕ → Type 0
    Begins n ns = (ms : List ℕ) × IsTail g (f + 1) k ms × (ns ≡ n ∷ ms)

    abbrev Within : ℕ → Type 0
    Within n = (0 ≤ n) × (n < 0 + count_of f)

    first_before : (m n : ℕ) (v w : List ℕ) → m < n → Begins m v → Begins n w → IsBelow v w
    first_before m n v w q a b = subst (λ z. IsBelow z w) (sym a.2) (subst (λ z. IsBelow (m ∷ a.0) z) (sym b.2) (head_below m n a.0 b.0 q))

    begins_tail : (ns : List ℕ) → (n : ℕ) × Within n × Begins n ns → IsTail g f (suc k) ns
    begins_tail ns (n, within, (ms, tail, e)) =
        subst (IsTail g f (suc k)) (sym e) (ap suc tail.0, ((counted f n).1 (let q = within.1 in omega (arith, q)), tail.1))

    tail_begins : (ns : List ℕ) → IsTail g f (suc k) ns → (n : ℕ) × Within n × Begins n ns
    tail_begins [] h = absurd (let e = h.0 in omega (arith, e))
    tail_begins (n ∷ ns) h = (n, (omega arith, (let q = (counted f n).0 h.1.0 in omega (arith, q))), (ns, ((let e = h.0 in omega (arith, e)), h.1.1), refl))

    one_more : IsListing IsBelow (IsTail g f (suc k)) (flat_map (λ n. map (λ ns. n ∷ ns) xs) (range_with_len 0 (count_of f)))
    one_more =
        listing_same IsBelow (λ ns. (n : ℕ) × Within n × Begins n ns) (IsTail g f (suc k)) (flat_map (λ n. map (λ ns. n ∷ ns) xs) (range_with_len 0 (count_of f)))
        (listing_groups (λ i j. i < j) IsBelow Within Begins (λ n. map (λ ns. n ∷ ns) xs) (range_with_len 0 (count_of f)) (listing_range 0 (count_of f))
        (λ n d. listing_map IsBelow IsBelow (IsTail g (f + 1) k) (λ ns. n ∷ ns) (λ v w q. same_below n v w q) xs l)
        (λ m n v w d e q a b. first_before m n v w q a b)) begins_tail tail_begins

  tails_listed : (k f : ℕ) → (xs : List (List ℕ)) × IsListing IsBelow (IsTail g f k) xs
  tails_listed zero f = ([] ∷ [], none_left f)
  tails_listed (suc k) f =
      let t = tails_listed k (f + 1) in
      (flat_map (λ n. map (λ ns. n ∷ ns) t.0) (range_with_len 0 (count_of f)), one_more f k t.0 t.1)

  pub choices_listed : (xs : List (List ℕ)) × IsListing IsBelow (IsChoice g) xs
  choices_listed =
      let t = tails_listed (length g.faces) 0 in
      (t.0, listing_same IsBelow (IsTail g 0 (length g.faces)) (IsChoice g) t.0 t.1 (tail_choice g) (choice_tail g))

  -- ---- whether a list is one of them

  decide_items : (f : ℕ) (ns : List ℕ) → Decided (AreItemsFrom g f ns)
  decide_items f [] = inl tt
  decide_items f (n ∷ ns) = decide_both (⊎_elim (λ l. inl ((counted f n).1 l)) (λ never. inr (λ i. never ((counted f n).0 i))) (decide_less n (count_of f))) (decide_items (f + 1) ns)

  pub decide_choice : (ns : List ℕ) → Decided (IsChoice g ns)
  decide_choice ns =
      ⊎_elim (λ t. inl (tail_choice g ns t)) (λ never. inr (λ c. never (choice_tail g ns c))) (decide_both (decide_number (length ns) (length g.faces)) (decide_items 0 ns))
