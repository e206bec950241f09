-- The members of a star, one facet after the other.
--     facet_none, facet_reached      what one facet adds
--     added_next, added_all      one facet more, and all
--     listed      the members in order, once each
use Rattle.std.proofs.Common.{◌≡◌, ◌≢◌, ℕ, ◌+◌, ◌≤◌, inl, inr, ⊎_elim, sym, subst, arith, ℤ, List, [], ◌∷◌, ◌++◌, length}
use Rattle.std.specs.Prelude.{Contains, IsPermutation, IsSorted, MatchOption, Option, ⊤}
use Rattle.std.specs.List.{dedup}
use Rattle.std.specs.Ordering.{nat_cmp}
use Rattle.std.specs.Bool.{nat_eq}
use Rattle.std.specs.Cmp.Lexicographic.{slice_cmp, pointwise, texts_ties}
use Rattle.std.proofs.lemmas.Cmp.{nat_list_cmp_total, nat_list_eq_equiv}
use Rattle.std.proofs.lemmas.List.Elements.{Contains-append_left, Contains-append_right, Contains-append_cases}
use Rattle.std.proofs.lemmas.List.Kept.{Contains-dedup, Contains-from_dedup, IsStrictlySortedBy-dedup}
use Rattle.std.proofs.lemmas.List.Sorted.{Contains-permutation, IsPermutation-sym}
use Rattle.std.proofs.lemmas.Map.Keys.{Less-from_sorted}
use Rattle.std.proofs.lemmas.List.{get_or_default}
use Rattle.ntfe_nums.specs.Vectors.{Vector}
use Rattle.ntfe_nums.proofs.Signs.{same_or}
use Rattle.ntfe_model.specs.Lists.{IsBelow}
use Rattle.ntfe_model.specs.Shapes.{Shape, IsShape}
use Rattle.ntfe_model.specs.Stars.{IsMember, IsStar, IsOrder, order_of}
use Rattle.ntfe_model.specs.declared.point.Point.{Point}
use Rattle.ntfe_model.proofs.Listings.{All-from_contains, Contains-none}
use Rattle.star_builder.specs.declared.search.Search.{Search}
use Rattle.star_builder.specs.Walks.{AddsFacet, AreAdded, IsFound, IsMemberIn, IsSearchOf, IsWalked}
use Rattle.star_builder.proofs.RestrictLemmas.{same_lists}
use Rattle.star_builder.proofs.WalkSteps.{walked_whole}

module _ (ms : List Vector) (xs : List Point) (w : List ℤ) (order : List ℕ) where
  pub facet_none : (facet : ℕ) (old : List (List ℕ)) → ((i j k l : ℕ) → ⊤ → IsMemberIn ms xs w order facet (i ∷ j ∷ k ∷ l ∷ []) → ⊥) → AddsFacet ms xs w order facet old old
  facet_none facet old none = record {
    kept = λ t c. c;
    sound = λ t c. inl c;
    complete = λ t m. absurd (none m.0.a m.0.b m.0.c m.0.d tt (subst (λ (u : List ℕ). IsMemberIn ms xs w order facet u) m.0.is m));
  }

  pub added_none : (found : List (List ℕ)) → found ≡ [] → AreAdded ms xs w order 0 found
  added_none found e = subst (λ (ts : List (List ℕ)). AreAdded ms xs w order 0 ts) (sym e) (record { sound = λ t c. absurd (Contains-none t c); complete = λ f l k. absurd (omega (arith, l, k)) })

  pub added_next : (n : ℕ) (old new : List (List ℕ)) → AreAdded ms xs w order n old → AddsFacet ms xs w order (n + 1) old new → AreAdded ms xs w order (n + 1) new
  added_next n old new h a = record {
    sound = λ t c. ⊎_elim (h.sound t) (λ m. m) (a.sound t c);
    complete = λ f l k t m. ⊎_elim (λ e. a.complete t (subst (λ j. IsMemberIn ms xs w order j t) e m)) (λ q. a.kept t (h.complete f l (less f k q) t m)) (same_or f (n + 1));
  }
    where
      less : (f : ℕ) → f ≤ n + 1 → f ≢ n + 1 → f ≤ n
      less f l q = grind arith

  -- ---- in order, once each

  pub listed : (found ordered : List (List ℕ)) → AreAdded ms xs w order (length ms) found → IsPermutation found ordered → IsSorted (slice_cmp nat_cmp) ordered → IsStar ms xs w order (dedup (pointwise nat_eq) ordered)
  listed found ordered h moved sorted = record {
    ordered = λ i j d lt within.
        subst (λ (u : List ℕ × List ℕ). IsBelow u.0 u.1) (λ k. (get_or_default (dedup (pointwise nat_eq) ordered) i [] d (omega (arith, lt, within)) k, get_or_default (dedup (pointwise nat_eq) ordered) j [] d within k))
        (Less-from_sorted (slice_cmp nat_cmp) (dedup (pointwise nat_eq) ordered) i j [] (IsStrictlySortedBy-dedup nat_list_cmp_total texts_ties ordered sorted) lt within);
    sound = All-from_contains (IsMember ms xs w order) (dedup (pointwise nat_eq) ordered) (λ t c. h.sound t (Contains-permutation ordered found t (IsPermutation-sym found ordered moved) (Contains-from_dedup (pointwise nat_eq) ordered t c)));
    complete = λ t m. Contains-dedup nat_list_eq_equiv same_lists ordered t (Contains-permutation found ordered t moved (h.complete m.facet m.number.0 m.number.1 t (m, (m.number, m.tight))));
  }

pub facet_reached : (g : Shape) → IsShape g → (w : List ℤ) (order : List ℕ) → IsOrder (length g.points) order → (facet : ℕ) (reached old new : List (List ℕ)) → IsWalked g.pair.dual g.points w order facet (length reached) reached
    → new ≡ old ++ reached → AddsFacet g.pair.dual g.points w order facet old new
facet_reached g s w order all facet reached old new h e = record {
  kept = λ t c. subst (λ (ts : List (List ℕ)). Contains ts t) (sym e) (Contains-append_left old reached t c);
  sound = λ t c. ⊎_elim inl (λ r. inr (h.members t r).0) (Contains-append_cases old reached t (subst (λ (ts : List (List ℕ)). Contains ts t) e c));
  complete = λ t m. subst (λ (ts : List (List ℕ)). Contains ts t) (sym e) (Contains-append_right old reached t (walked_whole g s w order all facet reached h t m));
}

-- what a search finds, in terms of the geometry
pub found_over : (g : Shape) (w : List ℤ) (s : Search) → IsSearchOf g w s → (facet : ℕ) (S : ℕ → ℕ → ℕ → ℕ → Type 0) (found : Option (List ℕ)) → IsFound s facet S found
    → MatchOption found ((i j k l : ℕ) → S i j k l → IsMemberIn g.pair.dual g.points w (order_of s.push (length g.points)) (facet + 1) (i ∷ j ∷ k ∷ l ∷ []) → ⊥)
    (IsMemberIn g.pair.dual g.points w (order_of s.push (length g.points)) (facet + 1))
found_over g w s h facet S found =
    subst (λ (u : List Vector × List Point × List ℤ). IsFound s facet S found
    → MatchOption found ((i j k l : ℕ) → S i j k l → IsMemberIn u.0 u.1 u.2 (order_of s.push (length u.1)) (facet + 1) (i ∷ j ∷ k ∷ l ∷ []) → ⊥) (IsMemberIn u.0 u.1 u.2 (order_of s.push (length u.1)) (facet + 1)))
    (λ i. (h.dual i, h.points i, h.heights i)) (λ f. f)
