-- Whether a triple can join triples that can stand together.
--     decide_fits      it is decided, where some unit triple of the face is known
use Rattle.std.proofs.Common.{◌≡◌, ℕ, inl, inr, ⊎_elim, refl, subst, sym, ℤ, pos, negsuc, List, [], ◌∷◌, ◌++◌}
use Rattle.std.specs.Prelude.{Contains}
use Rattle.std.proofs.lemmas.List.Elements.{All-contains}
use Rattle.ntfe_model.specs.Charts.{Patch, turn, IsOf, IsUnit, AreApart}
use Rattle.ntfe_model.specs.Triangulations.{HasSide}
use Rattle.ntfe_model.specs.declared.triangle.Triangle.{Triangle}
use Rattle.ntfe_model.proofs.Listings.{Contains-here, Contains-there, Contains-cases, Contains-none, All-from_contains}
use Rattle.ntfe_model.proofs.Triples.{Decided, decide_number, decide_integer, decide_either, decide_both, decide_each}
use Rattle.ntfe_model.proofs.UnitTriples.{area_of, unit_areas}
use Rattle.face_chart.proofs.UnitLemmas.{same_area_unit}
use Rattle.fine_stream.specs.Paths.{AreOpposite, IsUnitSide, AreInConflict, AreCompatible, IsPart}
use Rattle.fine_stream.proofs.Parts.{crossing_conflict, no_conflict_same, no_conflict_turns, each_side, compatible_sides, second_side, third_side, part_more, part_next}

decide_opposite : (x y : ℤ) → Decided (AreOpposite x y)
decide_opposite x y = decide_either (decide_both (decide_integer x (pos 1)) (decide_integer y (negsuc 0))) (decide_both (decide_integer x (negsuc 0)) (decide_integer y (pos 1)))

module _ (h : Patch) (apart : AreApart h) where
  decide_conflict : (x y z w : ℕ) → IsUnitSide h x y → IsUnitSide h z w → Decided (AreInConflict h x y z w)
  decide_conflict x y z w u v =
      by (decide_both (decide_number x z) (decide_number y w)) (decide_both (decide_number x w) (decide_number y z))
      (decide_both (decide_opposite (turn h x y z) (turn h x y w)) (decide_opposite (turn h z w x) (turn h z w y)))
    where
      by : Decided ((x ≡ z) × (y ≡ w)) → Decided ((x ≡ w) × (y ≡ z)) → Decided (AreOpposite (turn h x y z) (turn h x y w) × AreOpposite (turn h z w x) (turn h z w y))
          → Decided (AreInConflict h x y z w)
      by (inl e) q r = inl (inl e)
      by (inr n) (inl e) r = inr (no_conflict_same h x y z w u e n)
      by (inr n) (inr m) (inl o) = inl (crossing_conflict h apart x y z w u v n m o.0 o.1)
      by (inr n) (inr m) (inr k) = inr (no_conflict_turns h apart x y z w u v n (λ p q. k (p, q)))

  -- no side of the triple is in conflict with the side
  abbrev IsFree : Triangle → ℕ → ℕ → Type 0
  IsFree u x y = (z w : ℕ) → HasSide u z w → ¬ (AreInConflict h x y z w)

  decide_free : (u : Triangle) → IsUnit h u.a u.b u.c → (x y : ℕ) → IsUnitSide h x y → Decided (IsFree u x y)
  decide_free u unit x y s =
      by (decide_conflict x y u.a u.b s (u.c, unit)) (decide_conflict x y u.b u.c s (second_side h u.a u.b u.c unit)) (decide_conflict x y u.c u.a s (third_side h u.a u.b u.c unit))
    where
      by : Decided (AreInConflict h x y u.a u.b) → Decided (AreInConflict h x y u.b u.c) → Decided (AreInConflict h x y u.c u.a) → Decided (IsFree u x y)
      by (inl k) q r = inr (λ f. f u.a u.b (inl (refl, refl)) k)
      by (inr n) (inl k) r = inr (λ f. f u.b u.c (inr (inl (refl, refl))) k)
      by (inr n) (inr m) (inl k) = inr (λ f. f u.c u.a (inr (inr (refl, refl))) k)
      by (inr n) (inr m) (inr k) = inl (each_side (λ z w. ¬ (AreInConflict h x y z w)) u n m k)

  decide_compatible : (t u : Triangle) → IsUnit h t.a t.b t.c → IsUnit h u.a u.b u.c → Decided (AreCompatible h t u)
  decide_compatible t u i j = by (decide_free u j t.a t.b (t.c, i)) (decide_free u j t.b t.c (second_side h t.a t.b t.c i)) (decide_free u j t.c t.a (third_side h t.a t.b t.c i))
    where
      by : Decided (IsFree u t.a t.b) → Decided (IsFree u t.b t.c) → Decided (IsFree u t.c t.a) → Decided (AreCompatible h t u)
      by (inl p) (inl q) (inl r) = inl (compatible_sides h t u p q r)
      by (inl p) (inl q) (inr n) = inr (λ k. n (λ z w s. k.apart t.c t.a z w (inr (inr (refl, refl))) s))
      by (inl p) (inr n) r = inr (λ k. n (λ z w s. k.apart t.b t.c z w (inr (inl (refl, refl))) s))
      by (inr n) q r = inr (λ k. n (λ z w s. k.apart t.a t.b z w (inl (refl, refl)) s))

  module _ (a b c : ℕ) (known : IsUnit h a b c) where
    decide_unit : (t : Triangle) → IsOf h t.a × IsOf h t.b × IsOf h t.c → Decided (IsUnit h t.a t.b t.c)
    decide_unit t o =
        ⊎_elim (λ e. inl (same_area_unit h a b c t.a t.b t.c known o e)) (λ n. inr (λ u. n (unit_areas h t.a t.b t.c a b c u known))) (decide_integer (area_of h t.a t.b t.c) (area_of h a b c))

    pub decide_fits : (ts : List Triangle) → IsPart h ts → (t : Triangle) → IsOf h t.a × IsOf h t.b × IsOf h t.c → Decided (IsPart h (ts ++ t ∷ []))
    decide_fits ts part t o = by (decide_unit t o)
      where
        unit_of : (v : Triangle) → Contains ts v → IsUnit h v.a v.b v.c
        unit_of v k = All-contains (λ w. IsUnit h w.a w.b w.c) ts v part.unit k

        by : Decided (IsUnit h t.a t.b t.c) → Decided (IsPart h (ts ++ t ∷ []))
        by (inr n) = inr (λ p. n (part_next h ts t p).0)
        by (inl u) =
            ⊎_elim (λ all. inl (part_more h ts t part u (All-from_contains (λ v. AreCompatible h v t) ts all)))
            (λ n. inr (λ p. n (λ v k. All-contains (λ w. AreCompatible h w t) ts v (part_next h ts t p).1 k)))
            (decide_each (λ v. AreCompatible h v t) ts (λ v k. decide_compatible v t (unit_of v k) u))
