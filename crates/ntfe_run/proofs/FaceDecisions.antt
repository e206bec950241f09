-- Unit triples and boundary steps of a two-face are decided, so they can be searched for.
--     some_unit      a unit triple, or there is none
--     steps_listed      the boundary steps, in order
use Rattle.std.proofs.Common.{◌≡◌, ◌≢◌, ◌∙◌, ℕ, ◌<◌, ◌⊎◌, inl, inr, ⊎_elim, refl, sym, arith, ℤ, pos, negsuc, ◌*ℤ◌, ◌<ℤ◌, ◌≤ℤ◌, List, map, flat_map, get_or}
use Rattle.std.specs.Int.RustNames.{int_div}
use Rattle.std.proofs.lemmas.Int.{ints}
use Rattle.ntfe_nums.specs.Vectors.{Vector, numbers, difference, dot}
use Rattle.ntfe_model.specs.Charts.{Patch, place, turn, reached, spot_numbers, IsOf, IsUnit, IsOnSegment, IsStep, AreSteps, AreApart}
use Rattle.ntfe_model.proofs.Listings.{Contains-flat_map, All-from_contains}
use Rattle.ntfe_model.proofs.Lists.{Contains-map}
use Rattle.ntfe_model.proofs.PlaneNumbers.{sign_positive}
use Rattle.ntfe_model.proofs.Triples.{Decided, decide_number, decide_integer, decide_vector, decide_listed, decide_each, decide_not, decide_both, decide_all3}
use Rattle.ntfe_model.proofs.UnitTriples.{area_of, unit_area}
use Rattle.face_chart.specs.Units.{IsReached}
use Rattle.face_chart.proofs.FineSets.{picked}
use Rattle.face_chart.proofs.SegmentLemmas.{on_segment, share_low, share_high, share_at}
use Rattle.face_chart.proofs.UnitLemmas.{second_quotient, third_quotient}
use Rattle.star_builder.proofs.Decisions.{decide_all_below, decide_given}
use Rattle.star_builder.proofs.Planar.{decide_positive}
use Rattle.star_builder.proofs.Searches.{some_or_all}

-- ---- segments

order : (x y : ℤ) → (x ≤ℤ y) ⊎ (y <ℤ x)
order x y = grind (arith, ints)

decide_on_segment : (a b x : Vector) → a ≢ b → Decided (IsOnSegment a b x)
decide_on_segment a b x apart = by (order (pos 0) share) (order share whole) (decide_all_below Shared shared 4)
  where
    whole : ℤ
    whole = dot (difference b a) (difference b a)

    share : ℤ
    share = dot (difference b a) (difference x a)

    Shared : ℕ → Type 0
    Shared k = whole *ℤ get_or (numbers (difference x a)) k (pos 0) ≡ share *ℤ get_or (numbers (difference b a)) k (pos 0)

    shared : (k : ℕ) → Decided (Shared k)
    shared k = decide_integer (whole *ℤ get_or (numbers (difference x a)) k (pos 0)) (share *ℤ get_or (numbers (difference b a)) k (pos 0))

    by : (pos 0 ≤ℤ share) ⊎ (share <ℤ pos 0) → (share ≤ℤ whole) ⊎ (whole <ℤ share) → Decided ((k : ℕ) → k < 4 → Shared k) → Decided (IsOnSegment a b x)
    by (inl h) (inl k) (inl e) = inl (on_segment a b x whole share refl refl apart h k e)
    by (inl h) (inl k) (inr n) = inr (λ o. n (λ i l. share_at a b x whole share refl refl o i l))
    by (inl h) (inr l) e = inr (λ o. share_high a b x whole share refl refl o l)
    by (inr l) k e = inr (λ o. share_low a b x whole share refl refl o l)

module _ (h : Patch) where
  decide_of : (a : ℕ) → Decided (IsOf h a)
  decide_of a = decide_listed (spot_numbers h) a

  -- what is decided of each point is decided of all
  decide_points : (P : ℕ → Type 0) → ((p : ℕ) → Decided (P p)) → Decided ((p : ℕ) → IsOf h p → P p)
  decide_points P decide = decide_each P (spot_numbers h) (λ p c. decide p)

  -- ---- unit triples

  decide_reached : (a b c : ℕ) → pos 0 <ℤ area_of h a b c → (p : ℕ) → Decided (IsReached h a b c p)
  decide_reached a b c left p = by (decide_vector (place h p) (reached (place h a) (place h b) (place h c) second third))
    where
      second : ℤ
      second = int_div (area_of h c a p) (area_of h a b c)

      third : ℤ
      third = int_div (area_of h a b p) (area_of h a b c)

      by : Decided (place h p ≡ reached (place h a) (place h b) (place h c) second third) → Decided (IsReached h a b c p)
      by (inl e) = inl (second, third, e)
      by (inr n) = inr (λ r. n (r.2
          ∙ (λ i. reached (place h a) (place h b) (place h c) (sym (second_quotient h a b c p r.0 r.1 left r.2) i) (sym (third_quotient h a b c p r.0 r.1 left r.2) i))))

  decide_unit : (a b c : ℕ) → Decided (IsUnit h a b c)
  decide_unit a b c = by (decide_all3 (decide_of a) (decide_of b) (decide_of c)) (decide_positive (area_of h a b c))
    where
      by : Decided (IsOf h a × IsOf h b × IsOf h c) → Decided (pos 0 <ℤ area_of h a b c) → Decided (IsUnit h a b c)
      by (inr n) left = inr (λ u. n u.points)
      by (inl o) (inr n) = inr (λ u. n (unit_area h a b c u))
      by (inl o) (inl left) =
          ⊎_elim (λ all. inl (record { points = o; left = sign_positive (area_of h a b c) left; reaches = all })) (λ n. inr (λ u. n u.reaches))
          (decide_points (IsReached h a b c) (decide_reached a b c left))

  some_third : (a b : ℕ) → ((c : ℕ) × IsUnit h a b c) ⊎ ((c : ℕ) → IsUnit h a b c → ⊥)
  some_third a b =
      ⊎_elim (λ r. inl (r.0, r.2)) (λ none. inr (λ c u. none c u.points.2 u)) (some_or_all (IsUnit h a b) (λ c. ¬ (IsUnit h a b c)) (decide_unit a b) (spot_numbers h))

  some_pair : (a : ℕ) → ((b : ℕ) × (c : ℕ) × IsUnit h a b c) ⊎ ((b : ℕ) → (c : ℕ) → IsUnit h a b c → ⊥)
  some_pair a =
      ⊎_elim (λ r. inl (r.0, r.2.0, r.2.1)) (λ none. inr (λ b c u. none b u.points.1 c u))
      (some_or_all (λ b. (c : ℕ) × IsUnit h a b c) (λ b. (c : ℕ) → IsUnit h a b c → ⊥) (some_third a) (spot_numbers h))

  pub some_unit : ((a : ℕ) × (b : ℕ) × (c : ℕ) × IsUnit h a b c) ⊎ ((a : ℕ) → (b : ℕ) → (c : ℕ) → IsUnit h a b c → ⊥)
  some_unit =
      ⊎_elim (λ r. inl (r.0, r.2.0, r.2.1, r.2.2)) (λ none. inr (λ a b c u. none a u.points.0 b c u))
      (some_or_all (λ a. (b : ℕ) × (c : ℕ) × IsUnit h a b c) (λ a. (b : ℕ) → (c : ℕ) → IsUnit h a b c → ⊥) some_pair (spot_numbers h))

  -- ---- boundary steps

  module _ (apart : AreApart h) where
    decide_between : (a b : ℕ) → IsOf h a → IsOf h b → a ≢ b → (p : ℕ) → Decided (p ≢ a → p ≢ b → ¬ (IsOnSegment (place h a) (place h b) (place h p)))
    decide_between a b oa ob ne p =
        decide_given (decide_not (decide_number p a))
        (decide_given (decide_not (decide_number p b)) (decide_not (decide_on_segment (place h a) (place h b) (place h p) (λ e. ne (apart a b oa ob e)))))

    decide_step : (e : ℕ × ℕ) → Decided (IsStep h e.0 e.1)
    decide_step (a, b) = by (decide_all3 (decide_of a) (decide_of b) (decide_not (decide_number a b)))
      where
        by : Decided (IsOf h a × IsOf h b × (a ≢ b)) → Decided (IsStep h a b)
        by (inr n) = inr (λ s. n s.points)
        by (inl o) =
            ⊎_elim (λ k. inl (record { points = o; outer = k.0; next = k.1 })) (λ n. inr (λ s. n (s.outer, s.next)))
            (decide_both (decide_points (λ p. turn h a b p ≢ negsuc 0) (λ p. decide_not (decide_integer (turn h a b p) (negsuc 0))))
            (decide_points (λ p. p ≢ a → p ≢ b → ¬ (IsOnSegment (place h a) (place h b) (place h p))) (decide_between a b o.0 o.1 o.2)))

    abbrev pairs_from : ℕ → List (ℕ × ℕ)
    pairs_from a = map (λ b. (a, b)) (spot_numbers h)

    pub steps_listed : (steps : List (ℕ × ℕ)) × AreSteps h steps
    steps_listed =
        let r = picked (λ e. IsStep h e.0 e.1) decide_step (flat_map pairs_from (spot_numbers h)) in (
          r.0,
          record {
            ordered = r.1.ordered;
            sound = All-from_contains (λ e. IsStep h e.0 e.1) r.0 (λ e k. r.1.passes e k);
            complete = λ e s. r.1.covers e (Contains-flat_map pairs_from (spot_numbers h) e.0 e s.points.0 (Contains-map (λ b. (e.0, b)) (spot_numbers h) e.1 s.points.1)) s;
          },
        )
