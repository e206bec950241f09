-- The search of a member in a facet, one number after the other.
--     none_more      one more number
--     none_off      none where the number's point is not on the facet
--     none_all      all numbers
use Rattle.std.proofs.Common.{◌≡◌, ◌≢◌, ℕ, ◌+◌, ◌<◌, ◌≤◌, ◌⊎◌, inl, inr, ⊎_elim, sym, subst, arith, List, [], ◌∷◌, length}
use Rattle.std.specs.Prelude.{Contains}
use Rattle.ntfe_nums.proofs.Signs.{same_or}
use Rattle.ntfe_model.specs.Points.{place_of_point}
use Rattle.ntfe_model.specs.Reflexive.{IsTight, at}
use Rattle.ntfe_model.specs.Stars.{IsMember, order_of}
use Rattle.star_builder.specs.declared.four.Four.{Four}
use Rattle.star_builder.specs.declared.search.Search.{Search}
use Rattle.star_builder.specs.Fours.{AreRising, members_of}
use Rattle.star_builder.specs.Walks.{IsMemberIn}
use Rattle.star_builder.proofs.Crossings.{rising_number}
use Rattle.star_builder.proofs.FourPoints.{in_four}
use Rattle.star_builder.proofs.MemberLemmas.{same_first, same_second, same_third, same_fourth}
use Rattle.ntfe_model.proofs.Entries.{entry-at}

module _ (s : Search) (facet : ℕ) where
  abbrev pub IsIn : List ℕ → Type 0
  IsIn = IsMemberIn s.dual.now s.points.now s.heights.now (order_of s.push (length s.points.now)) (facet + 1)

  -- no member in the facet has S
  abbrev pub HasNone : (ℕ → ℕ → ℕ → ℕ → Type 0) → Type 0
  HasNone S = (i j k l : ℕ) → S i j k l → IsIn (i ∷ j ∷ k ∷ l ∷ []) → ⊥

  pub numbers_rise : (f : Four) → IsIn (members_of f) → AreRising s.points.now f
  numbers_rise f (h, inside) =
      let same = λ (P : ℕ → ℕ → ℕ → ℕ → Type 0) (x : P h.a h.b h.c h.d). subst (λ (u : ℕ × ℕ × ℕ × ℕ). P u.0 u.1 u.2 u.3)
      (λ i. (
        same_first s.dual.now s.points.now s.heights.now (order_of s.push (length s.points.now)) f h i,
        same_second s.dual.now s.points.now s.heights.now (order_of s.push (length s.points.now)) f h i,
        same_third s.dual.now s.points.now s.heights.now (order_of s.push (length s.points.now)) f h i,
        same_fourth s.dual.now s.points.now s.heights.now (order_of s.push (length s.points.now)) f h i,
      )) x in
      same (λ a b c d. AreRising s.points.now (record { a = a; b = b; c = c; d = d })) (record { first = h.ordered.0; ab = h.ordered.1; bc = h.ordered.2; cd = h.ordered.3; last = h.ordered.4 })

  pub member_on : (ks : List ℕ) → IsIn ks → (x : ℕ) → Contains ks x → IsTight (at s.dual.now facet) (place_of_point s.points.now x)
  member_on ks m x c = subst (λ v. IsTight v (place_of_point s.points.now x)) (entry-at s.dual.now facet) (m.1.1 x c)

  -- four points of the facet that are a member
  pub found_in : (a b c d : ℕ) → facet < length s.dual.now → IsMember s.dual.now s.points.now s.heights.now (order_of s.push (length s.points.now)) (a ∷ b ∷ c ∷ d ∷ [])
      → IsTight (at s.dual.now facet) (place_of_point s.points.now a) → IsTight (at s.dual.now facet) (place_of_point s.points.now b)
      → IsTight (at s.dual.now facet) (place_of_point s.points.now c) → IsTight (at s.dual.now facet) (place_of_point s.points.now d) → IsIn (a ∷ b ∷ c ∷ d ∷ [])
  found_in a b c d l m ta tb tc td = (m, ((omega arith, omega (arith, l)), λ x h. subst (λ v. IsTight v (place_of_point s.points.now x)) (sym (entry-at s.dual.now facet)) (on x (in_four a b c d x h))))
    where
      on : (x : ℕ) → (x ≡ a) ⊎ ((x ≡ b) ⊎ ((x ≡ c) ⊎ (x ≡ d))) → IsTight (at s.dual.now facet) (place_of_point s.points.now x)
      on x (inl e) = subst (λ k. IsTight (at s.dual.now facet) (place_of_point s.points.now k)) (sym e) ta
      on x (inr (inl e)) = subst (λ k. IsTight (at s.dual.now facet) (place_of_point s.points.now k)) (sym e) tb
      on x (inr (inr (inl e))) = subst (λ k. IsTight (at s.dual.now facet) (place_of_point s.points.now k)) (sym e) tc
      on x (inr (inr (inr e))) = subst (λ k. IsTight (at s.dual.now facet) (place_of_point s.points.now k)) (sym e) td

  -- ---- one of the four numbers, as it goes up

  module _ (S : ℕ → ℕ → ℕ → ℕ → Type 0) (pick : ℕ → ℕ → ℕ → ℕ → ℕ) where
    pub none_more : (n : ℕ) → HasNone (λ i j k l. S i j k l × (pick i j k l ≤ n)) → HasNone (λ i j k l. S i j k l × (pick i j k l ≡ n + 1)) → HasNone (λ i j k l. S i j k l × (pick i j k l ≤ n + 1))
    none_more n before now i j k l p m = ⊎_elim (λ e. now i j k l (p.0, e) m) (λ q. before i j k l (p.0, less (pick i j k l) p.1 q) m) (same_or (pick i j k l) (n + 1))
      where
        less : (x : ℕ) → x ≤ n + 1 → x ≢ n + 1 → x ≤ n
        less x l q = grind arith

    module _ (among : (i j k l : ℕ) → Contains (i ∷ j ∷ k ∷ l ∷ []) (pick i j k l)) where
      pub none_off : (x : ℕ) → ¬ (IsTight (at s.dual.now facet) (place_of_point s.points.now x)) → HasNone (λ i j k l. S i j k l × (pick i j k l ≡ x))
      none_off x off i j k l p m = off (subst (λ y. IsTight (at s.dual.now facet) (place_of_point s.points.now y)) p.1 (member_on (i ∷ j ∷ k ∷ l ∷ []) m (pick i j k l) (among i j k l)))

      pub none_all : (n : ℕ) → length s.points.now ≤ n → HasNone (λ i j k l. S i j k l × (pick i j k l ≤ n)) → HasNone S
      none_all n l none i j k d p m =
          none i j k d (p, (let h = (rising_number s.points.now (record { a = i; b = j; c = k; d = d }) (numbers_rise (record { a = i; b = j; c = k; d = d }) m) (pick i j k d) (among i j k d)).1 in omega (arith, h, l))) m
