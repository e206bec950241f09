-- The lowest point across a ridge, as the points of a facet are looked at one after the other.
--     across_apart      what lies across a ridge is none of its points
--     joined_rises      how far a point lies above the ridge and a fourth point, by rising numbers
--     skip, first_across, lower, higher      one more point
use Rattle.std.proofs.Common.{◌≡◌, ◌≢◌, ℕ, ◌-◌, ◌<◌, ◌≤◌, ◌⊎◌, inl, inr, ⊎_elim, refl, sym, ap, ◌∙◌, subst, arith, ℤ, pos, ◌*ℤ◌, ◌<ℤ◌, neg_ℤ, List, [], ◌∷◌, length, All, get_or, Option, None, Some}
use Rattle.std.specs.Prelude.{Contains}
use Rattle.std.proofs.lemmas.Int.{ints}
use Rattle.std.proofs.lemmas.List.Elements.{All-contains, Contains-get_or}
use Rattle.ntfe_nums.specs.Vectors.{Vector, det4}
use Rattle.ntfe_nums.proofs.Ring.{ring}
use Rattle.ntfe_nums.proofs.Ring.Expression.{var, times, neg}
use Rattle.ntfe_model.specs.Lists.{IsNumberOf}
use Rattle.ntfe_model.specs.Pairs.{IsSmall}
use Rattle.ntfe_model.specs.Points.{place_of_point, no_point}
use Rattle.ntfe_model.specs.Stars.{IsOrder, IsLexAbove}
use Rattle.ntfe_model.specs.declared.point.Point.{Point}
use Rattle.ntfe_nums.proofs.Exchanges.{swap_first, swap_middle, swap_last, same_first, same_second, same_third}
use Rattle.ntfe_nums.proofs.Signs.{same_or, square_positive, zero_out}
use Rattle.star_builder.specs.declared.candidate.Candidate.{Candidate}
use Rattle.star_builder.specs.declared.crossing.Crossing.{Crossing}
use Rattle.star_builder.specs.declared.four.Four.{Four}
use Rattle.star_builder.specs.declared.ridge.Ridge.{Ridge}
use Rattle.star_builder.specs.Fours.{AreRising, AreIndependent, IsApart, members_of}
use Rattle.star_builder.specs.Ridges.{IsJoined, IsAcross, IsLowest, IsLowestTo, IsCandidateTo}
use Rattle.star_builder.proofs.BeyondMembers.{one_side}
use Rattle.star_builder.proofs.FourPoints.{in_four}
use Rattle.star_builder.proofs.InnerRidges.{not_both}
use Rattle.star_builder.proofs.LowSimplices.{has_first, has_second, has_third, has_fourth, in_order, turned_not_zero, volume_apart_last, volume_five}
use Rattle.star_builder.proofs.MemberLemmas.{all_four}
use Rattle.star_builder.proofs.Ridges.{HaveSame, same_then, same_first_two, same_middle_two, same_last_two, rising_same}
use Rattle.star_builder.proofs.Rises.{rise, volume, rise_exchange, rise_swap_first, rise_swap_middle, rise_swap_last}
use Rattle.star_builder.proofs.Sorting.{by_size}
use Rattle.star_builder.proofs.WholeHeights.{whole, lex_rises, rises_lex}

-- two numbers that turn their signs have the same product
pub turned_twice : (v r v' r' : ℤ) → v' ≡ neg_ℤ v → r' ≡ neg_ℤ r → v' *ℤ r' ≡ v *ℤ r
turned_twice v r v' r' e f = (λ i. e i *ℤ f i) ∙ ring (v ∷ r ∷ []) (times (neg (var 0)) (neg (var 1))) (times (var 0) (var 1)) refl

no_zero : (z : ℤ) → z <ℤ pos 0 → z ≡ pos 0 → ⊥
no_zero z l e = absurd (omega (arith, ints, l, e))

-- each of the four is the number of a point
pub rising_number : (xs : List Point) (f : Four) → AreRising xs f → (k : ℕ) → Contains (members_of f) k → IsNumberOf xs k
rising_number xs f s = all_four f (λ k. IsNumberOf xs k) s.first second third s.last
  where
    second : IsNumberOf xs f.b
    second = (let a = s.first.0 in let b = s.ab in omega (arith, a, b), let b = s.bc in let c = s.cd in let d = s.last.1 in omega (arith, b, c, d))

    third : IsNumberOf xs f.c
    third = (let a = s.first.0 in let b = s.ab in let c = s.bc in omega (arith, a, b, c), let c = s.cd in let d = s.last.1 in omega (arith, c, d))

-- the middle number of a ridge
pub between : (s : Crossing) → IsNumberOf s.points.now s.ridge.b
between s = (let n = s.first.0 in let l = s.ab in omega (arith, n, l), let n = s.last.1 in let l = s.bc in omega (arith, n, l))

module _ (xs : List Point) (m : Vector) (r : Ridge) where
  abbrev at : ℕ → Vector
  at = place_of_point xs

  -- ---- what lies across a ridge

  module _ (without p : ℕ) (h : IsAcross xs m r without p) where
    abbrev here : ℕ → ℤ
    here k = det4 (at r.a) (at r.b) (at r.c) (at k)

    pub across_some : here p ≢ pos 0
    across_some e = no_zero (here without *ℤ here p) h.opposite (zero_out (here without) (here p) e)

    pub across_first : p ≢ r.a
    across_first e = across_some (ap here e ∙ same_first (at r.a) (at r.b) (at r.c))

    pub across_second : p ≢ r.b
    across_second e = across_some (ap here e ∙ same_second (at r.a) (at r.b) (at r.c))

    pub across_third : p ≢ r.c
    across_third e = across_some (ap here e ∙ same_third (at r.a) (at r.b) (at r.c))

  -- ---- the ridge and a fourth point, by rising numbers

  module _ (v : ℕ → ℤ) (e : ℕ) (f : Four) (joined : IsJoined r e f) where
    abbrev four : List ℕ
    four = r.a ∷ r.b ∷ r.c ∷ e ∷ []

    -- the same points in another order
    record IsTurned (a b c d : ℕ) : Type 0 where
      same : HaveSame four (a ∷ b ∷ c ∷ d ∷ [])
      some : volume at v a b c d ≢ pos 0
      square : volume at v a b c d *ℤ volume at v a b c d ≡ volume at v r.a r.b r.c e *ℤ volume at v r.a r.b r.c e
      rises : (p : ℕ) → volume at v a b c d *ℤ rise at v a b c d p ≡ volume at v r.a r.b r.c e *ℤ rise at v r.a r.b r.c e p

    turned_first : (a b c d : ℕ) → IsTurned a b c d → IsTurned b a c d
    turned_first a b c d t = record {
      same = same_then four (a ∷ b ∷ c ∷ d ∷ []) (b ∷ a ∷ c ∷ d ∷ []) t.same (same_first_two a b c d);
      some = turned_not_zero (volume at v a b c d) (volume at v b a c d) (swap_first (at a) (at b) (at c) (at d)) t.some;
      square = turned_twice (volume at v a b c d) (volume at v a b c d) (volume at v b a c d) (volume at v b a c d) (swap_first (at a) (at b) (at c) (at d)) (swap_first (at a) (at b) (at c) (at d)) ∙ t.square;
      rises = λ p. turned_twice (volume at v a b c d) (rise at v a b c d p) (volume at v b a c d) (rise at v b a c d p) (swap_first (at a) (at b) (at c) (at d)) (rise_swap_first at v a b c d p) ∙ t.rises p;
    }

    turned_middle : (a b c d : ℕ) → IsTurned a b c d → IsTurned a c b d
    turned_middle a b c d t = record {
      same = same_then four (a ∷ b ∷ c ∷ d ∷ []) (a ∷ c ∷ b ∷ d ∷ []) t.same (same_middle_two a b c d);
      some = turned_not_zero (volume at v a b c d) (volume at v a c b d) (swap_middle (at a) (at b) (at c) (at d)) t.some;
      square = turned_twice (volume at v a b c d) (volume at v a b c d) (volume at v a c b d) (volume at v a c b d) (swap_middle (at a) (at b) (at c) (at d)) (swap_middle (at a) (at b) (at c) (at d)) ∙ t.square;
      rises = λ p. turned_twice (volume at v a b c d) (rise at v a b c d p) (volume at v a c b d) (rise at v a c b d p) (swap_middle (at a) (at b) (at c) (at d)) (rise_swap_middle at v a b c d p) ∙ t.rises p;
    }

    turned_last : (a b c d : ℕ) → IsTurned a b c d → IsTurned a b d c
    turned_last a b c d t = record {
      same = same_then four (a ∷ b ∷ c ∷ d ∷ []) (a ∷ b ∷ d ∷ c ∷ []) t.same (same_last_two a b c d);
      some = turned_not_zero (volume at v a b c d) (volume at v a b d c) (swap_last (at a) (at b) (at c) (at d)) t.some;
      square = turned_twice (volume at v a b c d) (volume at v a b c d) (volume at v a b d c) (volume at v a b d c) (swap_last (at a) (at b) (at c) (at d)) (swap_last (at a) (at b) (at c) (at d)) ∙ t.square;
      rises = λ p. turned_twice (volume at v a b c d) (rise at v a b c d p) (volume at v a b d c) (rise at v a b d c p) (swap_last (at a) (at b) (at c) (at d)) (rise_swap_last at v a b c d p) ∙ t.rises p;
    }

    module _ (some : volume at v r.a r.b r.c e ≢ pos 0) where
      turned : IsTurned f.a f.b f.c f.d
      turned = by (by_size IsTurned turned_first turned_middle turned_last (λ a b c d t. volume_apart_last xs v m a b c d t.some) r.a r.b r.c e (record { same = (λ k h. h, λ k h. h); some = some; square = refl; rises = λ p. refl }))
        where
          by : (x : ℕ) × (y : ℕ) × (z : ℕ) × (t : ℕ) × (x < y) × (y < z) × (z < t) × IsTurned x y z t → IsTurned f.a f.b f.c f.d
          by s =
              subst (λ (ks : List ℕ). IsTurned (get_or ks 0 0) (get_or ks 1 0) (get_or ks 2 0) (get_or ks 3 0))
              (rising_same s.0 s.1 s.2 s.3 f.a f.b f.c f.d s.4 s.5 s.6 joined.ab joined.bc joined.cd
              (same_then (s.0 ∷ s.1 ∷ s.2 ∷ s.3 ∷ []) four (members_of f) (s.7.same.1, s.7.same.0) (joined.complete, joined.sound)))
              s.7

      pub joined_independent : AreIndependent xs f
      joined_independent = turned.some

      pub joined_square : volume at v f.a f.b f.c f.d *ℤ volume at v f.a f.b f.c f.d ≡ volume at v r.a r.b r.c e *ℤ volume at v r.a r.b r.c e
      joined_square = turned.square

      pub joined_rises : (p : ℕ) → volume at v f.a f.b f.c f.d *ℤ rise at v f.a f.b f.c f.d p ≡ volume at v r.a r.b r.c e *ℤ rise at v r.a r.b r.c e p
      joined_rises = turned.rises

  -- ---- numbers of the four

  module _ (e : ℕ) (f : Four) (joined : IsJoined r e f) where
    -- what holds of the ridge and of the fourth point holds of all four
    pub joined_all : (P : ℕ → Type 0) → P r.a → P r.b → P r.c → P e → (k : ℕ) → Contains (members_of f) k → P k
    joined_all P pa pb pc pe k h = by (in_four r.a r.b r.c e k (joined.sound k h))
      where
        by : (k ≡ r.a) ⊎ ((k ≡ r.b) ⊎ ((k ≡ r.c) ⊎ (k ≡ e))) → P k
        by (inl q) = subst P (sym q) pa
        by (inr (inl q)) = subst P (sym q) pb
        by (inr (inr (inl q))) = subst P (sym q) pc
        by (inr (inr (inr q))) = subst P (sym q) pe

    module _ (p : ℕ) (pa : p ≢ r.a) (pb : p ≢ r.b) (pc : p ≢ r.c) (pe : p ≢ e) where
      pub joined_apart : (k : ℕ) → Contains (members_of f) k → p ≢ k
      joined_apart = joined_all (λ k. p ≢ k) pa pb pc pe

  -- ---- what the four are

  module _ (na : IsNumberOf xs r.a) (nb : IsNumberOf xs r.b) (nc : IsNumberOf xs r.c) where
    module _ (e : ℕ) (ne : IsNumberOf xs e) (f : Four) (joined : IsJoined r e f) where
      pub joined_number : (k : ℕ) → Contains (members_of f) k → IsNumberOf xs k
      joined_number = joined_all e f joined (λ k. IsNumberOf xs k) na nb nc ne

      pub are_rising : AreRising xs f
      are_rising = record { first = joined_number f.a (has_first f.a f.b f.c f.d); ab = joined.ab; bc = joined.bc; cd = joined.cd; last = joined_number f.d (has_fourth f.a f.b f.c f.d) }

    module _ (without e : ℕ) (ne : IsNumberOf xs e) (f : Four) (joined : IsJoined r e f) (p : ℕ) (np : IsNumberOf xs p) (other : IsAcross xs m r without p) (pe : p ≢ e) where
      pub across_apart : (k : ℕ) → Contains (members_of f) k → p ≢ k
      across_apart = joined_apart e f joined p (across_first without p other) (across_second without p other) (across_third without p other) pe

      -- p is none of the four
      pub is_apart : IsApart f p
      is_apart =
          let s = are_rising e ne f joined in
          record {
            first = s.first.0;
            ab = s.ab;
            bc = s.bc;
            cd = s.cd;
            point = np.0;
            not_a = across_apart f.a (has_first f.a f.b f.c f.d);
            not_b = across_apart f.b (has_second f.a f.b f.c f.d);
            not_c = across_apart f.c (has_third f.a f.b f.c f.d);
            not_d = across_apart f.d (has_fourth f.a f.b f.c f.d);
          }

  pub are_independent : (without e : ℕ) → IsAcross xs m r without e → (f : Four) → IsJoined r e f → AreIndependent xs f
  are_independent without e across f joined = joined_independent (λ k. pos 0) e f joined (across_some without e across)

  -- ---- one more point

  last_or : (e p : ℕ) → e ≤ p → 1 ≤ p → (e ≡ p) ⊎ ((e ≤ p - 1) × (p ≢ e))
  last_or e p l k = ⊎_elim inl (λ n. inr (less e p l n, λ q. n (sym q))) (same_or e p)
    where
      less : (e p : ℕ) → e ≤ p → e ≢ p → e ≤ p - 1
      less e p l n = grind arith

  pub none_yet : (w : List ℤ) (order : List ℕ) (without : ℕ) → IsLowestTo xs w order m r without 0 None
  none_yet w order without e l h = absurd (let k = h.number.0 in omega (arith, l, k))

  -- p is not across
  pub skip : (w : List ℤ) (order : List ℕ) (without p : ℕ) → 1 ≤ p → ¬ (IsAcross xs m r without p) → (found : Option ℕ) → IsLowestTo xs w order m r without (p - 1) found → IsLowestTo xs w order m r without p found
  skip w order without p k not None h = λ e l q. ⊎_elim (λ s. not (subst (λ j. IsAcross xs m r without j) s q.across)) (λ s. h e s.0 q) (last_or e p l k)
  skip w order without p k not (Some o) h = (h.0, (let l = h.1 in omega (arith, l)), h.2, λ e l q. ⊎_elim (λ s. absurd (not (subst (λ j. IsAcross xs m r without j) s q.across))) (λ s. h.3 e s.0 q) (last_or e p l k))

  -- the same with the ridge and the frame
  pub candidate_skip : (w : List ℤ) (order : List ℕ) (without p : ℕ) → 1 ≤ p → ¬ (IsAcross xs m r without p) → (found : Option Candidate) → IsCandidateTo xs w order m r without (p - 1) found → IsCandidateTo xs w order m r without p found
  candidate_skip w order without p k not None h = skip w order without p k not None h
  candidate_skip w order without p k not (Some c) h = (skip w order without p k not (Some c.point) h.0, h.1, h.2)

  module _ (w : List ℤ) (order : List ℕ) (all : IsOrder (length xs) order) (small : All (λ x. IsSmall x.place) xs) (without : ℕ)
      (na : IsNumberOf xs r.a) (nb : IsNumberOf xs r.b) (nc : IsNumberOf xs r.c) where
    abbrev v : ℕ → ℤ
    v = whole w order

    small_at : (k : ℕ) → IsNumberOf xs k → IsSmall (at k)
    small_at k n = All-contains (λ x. IsSmall x.place) xs (get_or xs (k - 1) no_point) small (Contains-get_or xs (k - 1) no_point (let a = n.0 in let b = n.1 in omega arith))

    abbrev IsFound : ℕ → Type 0
    IsFound = IsLowest xs w order m r without

    abbrev FoundTo : ℕ → Option ℕ → Type 0
    FoundTo = IsLowestTo xs w order m r without

    abbrev high : ℕ → ℕ → ℤ
    high e p = volume at v r.a r.b r.c e *ℤ rise at v r.a r.b r.c e p

    module _ (e : ℕ) (ne : IsNumberOf xs e) (across : IsAcross xs m r without e) (f : Four) (joined : IsJoined r e f) (p : ℕ) (np : IsNumberOf xs p) (other : IsAcross xs m r without p) (pe : p ≢ e) where
      number : (k : ℕ) → Contains (members_of f) k → IsNumberOf xs k
      number = joined_number na nb nc e ne f joined

      apart : (k : ℕ) → Contains (members_of f) k → p ≢ k
      apart = across_apart na nb nc without e ne f joined p np other pe

      independent : AreIndependent xs f
      independent = are_independent without e across f joined

      above_high : IsLexAbove xs w order f.a f.b f.c f.d p → pos 0 <ℤ high e p
      above_high l =
          subst (λ z. pos 0 <ℤ z) (joined_rises v e f joined (across_some without e across) p)
          (lex_rises w order xs f.a f.b f.c f.d p independent
          (volume_five xs v m f.a f.b f.c f.d p independent (apart f.a (has_first f.a f.b f.c f.d)) (apart f.b (has_second f.a f.b f.c f.d)) (apart f.c (has_third f.a f.b f.c f.d)) (apart f.d (has_fourth f.a f.b f.c f.d)))
          (in_order [] xs w order all small_at p np)
          (small_at f.a (number f.a (has_first f.a f.b f.c f.d))) (small_at f.b (number f.b (has_second f.a f.b f.c f.d))) (small_at f.c (number f.c (has_third f.a f.b f.c f.d))) (small_at f.d (number f.d (has_fourth f.a f.b f.c f.d))) (small_at p np)
          l)

      high_above : pos 0 <ℤ high e p → IsLexAbove xs w order f.a f.b f.c f.d p
      high_above l =
          rises_lex w order xs f.a f.b f.c f.d p independent
          (volume_five xs v m f.a f.b f.c f.d p independent (apart f.a (has_first f.a f.b f.c f.d)) (apart f.b (has_second f.a f.b f.c f.d)) (apart f.c (has_third f.a f.b f.c f.d)) (apart f.d (has_fourth f.a f.b f.c f.d)))
          (in_order [] xs w order all small_at p np)
          (small_at f.a (number f.a (has_first f.a f.b f.c f.d))) (small_at f.b (number f.b (has_second f.a f.b f.c f.d))) (small_at f.c (number f.c (has_third f.a f.b f.c f.d))) (small_at f.d (number f.d (has_fourth f.a f.b f.c f.d))) (small_at p np)
          (subst (λ z. pos 0 <ℤ z) (sym (joined_rises v e f joined (across_some without e across) p)) l)

    -- all others are above the lowest
    lowest_under : (e : ℕ) → IsFound e → (p : ℕ) → IsNumberOf xs p → IsAcross xs m r without p → p ≢ e → pos 0 <ℤ high e p
    lowest_under e h p np other pe =
        above_high e h.number h.across h.four h.joined p np other pe
        (h.above p np.0 np.1 (record {
          not_a = apart h.four.a (has_first h.four.a h.four.b h.four.c h.four.d);
          not_b = apart h.four.b (has_second h.four.a h.four.b h.four.c h.four.d);
          not_c = apart h.four.c (has_third h.four.a h.four.b h.four.c h.four.d);
          not_d = apart h.four.d (has_fourth h.four.a h.four.b h.four.c h.four.d);
          tight = other.tight;
        }))
      where
        apart : (k : ℕ) → Contains (members_of h.four) k → p ≢ k
        apart = across_apart na nb nc without e h.number h.four h.joined p np other pe

    -- of two points across, one is not above the other where this is above that
    not_each : (o p : ℕ) → IsAcross xs m r without o → IsAcross xs m r without p → pos 0 <ℤ high p o → pos 0 <ℤ high o p → ⊥
    not_each o p ho hp l k =
        not_both (volume at v r.a r.b r.c p) (rise at v r.a r.b r.c p o) (volume at v r.a r.b r.c o) l
        (one_side (volume at v r.a r.b r.c without) (volume at v r.a r.b r.c p) (volume at v r.a r.b r.c o) (left_out (volume at v r.a r.b r.c without) (volume at v r.a r.b r.c p) hp.opposite) hp.opposite ho.opposite)
        (subst (λ z. pos 0 <ℤ (volume at v r.a r.b r.c o *ℤ z)) (rise_exchange at v r.a r.b r.c p o) k)
        (square_positive (volume at v r.a r.b r.c p) (across_some without p hp))
      where
        left_out : (y z : ℤ) → (y *ℤ z) <ℤ pos 0 → y ≢ pos 0
        left_out y z l e = no_zero (y *ℤ z) l (ap (λ q. q *ℤ z) e ∙ omega (arith, ints))

    module _ (p : ℕ) (np : IsNumberOf xs p) (across : IsAcross xs m r without p) where
      -- p is the first across
      pub first_across : FoundTo (p - 1) None → FoundTo p (Some p)
      first_across h = (np, omega arith, across, λ e l q. ⊎_elim (λ s. s) (λ s. absurd (h e s.0 q)) (last_or e p l np.0))

      module _ (o : ℕ) (h : FoundTo (p - 1) (Some o)) where
        pub other_apart : p ≢ o
        other_apart = later p o np.0 h.1
          where
            later : (p o : ℕ) → 1 ≤ p → o ≤ p - 1 → p ≢ o
            later p o k l = grind arith

        module _ (f : Four) (joined : IsJoined r o f) where
          pub lower : ¬ (IsLexAbove xs w order f.a f.b f.c f.d p) → FoundTo p (Some p)
          lower below = (np, omega arith, across, λ e l q. ⊎_elim (λ s. s) (λ s. absurd (no e q (h.3 e s.0 q))) (last_or e p l np.0))
            where
              no : (e : ℕ) → IsFound e → e ≡ o → ⊥
              no e q s = below (high_above o h.0 h.2 f joined p np across other_apart (lowest_under o (subst IsFound s q) p np across other_apart))

          pub higher : IsLexAbove xs w order f.a f.b f.c f.d p → FoundTo p (Some o)
          higher above = (h.0, (let l = h.1 in omega (arith, l)), h.2, λ e l q. ⊎_elim (λ s. absurd (no e q s)) (λ s. h.3 e s.0 q) (last_or e p l np.0))
            where
              no : (e : ℕ) → IsFound e → e ≡ p → ⊥
              no e q s = not_each o p h.2 across (lowest_under p (subst IsFound s q) o h.0 h.2 (λ t. other_apart (sym t))) (above_high o h.0 h.2 f joined p np across other_apart above)
