-- A form that no vertex lies below, that touches four vertices, and is not 0 at some fifth place: the four lie in a facet.
--     depth_value      how far a place lies from a facet, as a gap
--     alike      what is 0 at the four is as the form
--     touched_facet      the facet
use Rattle.std.proofs.Common.{◌≡◌, ◌≢◌, ℕ, inl, inr, ⊎_elim, refl, sym, ap, ◌∙◌, subst, arith, ℤ, pos, negsuc, ◌+ℤ◌, ◌*ℤ◌, ◌≤ℤ◌, neg_ℤ, List, [], ◌∷◌}
use Rattle.std.specs.Prelude.{Contains}
use Rattle.std.proofs.lemmas.Int.{ints}
use Rattle.ntfe_nums.specs.Vectors.{Vector, dot, multiple}
use Rattle.ntfe_nums.proofs.Ring.{ring}
use Rattle.ntfe_nums.proofs.Ring.Expression.{var, num, minus, plus, times, neg}
use Rattle.ntfe_nums.proofs.DetLemmas.{row, dotE}
use Rattle.ntfe_nums.proofs.Signs.{factor_not_negative, not_negative, product_not_negative, product_not_positive, sign_of, square_positive}
use Rattle.ntfe_model.specs.Pairs.{VertexLists}
use Rattle.ntfe_model.specs.Reflexive.{IsTight, IsReflexive}
use Rattle.star_builder.proofs.Flanks.{numbers_of, IsFlank, facet_through}
use Rattle.star_builder.proofs.LowSimplices.{turned_not_zero}
use Rattle.star_builder.proofs.Proportions.{gaps_alike}
use Rattle.star_builder.proofs.Rises.{gap, rise, rise_exchange, rise_first, rise_second, rise_third, rise_fourth, rise_gap, through, volume}
use Rattle.star_builder.proofs.Spanning.{spot, weight_of}
use Rattle.star_builder.proofs.Tilts.{IsUnder}

module _ (p : VertexLists) (r : IsReflexive p) (x : Vector) (k : ℤ) where
  abbrev places : ℕ → Vector
  places = spot x p.vertices

  abbrev weights : ℕ → ℤ
  weights = weight_of k

  abbrev numbers : List ℕ
  numbers = numbers_of p.vertices

  abbrev value : ℤ → Vector → ℕ → ℤ
  value = gap places weights

  pub depth_value : (f : Vector) (i : ℕ) → value (pos 1) (multiple (negsuc 0) f) i ≡ weights i +ℤ dot f (places i)
  depth_value f i =
      let v = places i in
      ring (f.x1 ∷ f.x2 ∷ f.x3 ∷ f.x4 ∷ v.x1 ∷ v.x2 ∷ v.x3 ∷ v.x4 ∷ weights i ∷ [])
      (minus (times (num (pos 1)) (var 8)) (dotE (record { x1 = times (num (negsuc 0)) (var 0); x2 = times (num (negsuc 0)) (var 1); x3 = times (num (negsuc 0)) (var 2); x4 = times (num (negsuc 0)) (var 3) }) (row 4)))
      (plus (var 8) (dotE (row 0) (row 4))) refl

  module _ (s : ℤ) (n : Vector) (o a b c e : ℕ)
      (touches : (value s n a ≡ pos 0) × (value s n b ≡ pos 0) × (value s n c ≡ pos 0) × (value s n e ≡ pos 0))
      (independent : volume places weights a b c o ≢ pos 0) (apart : rise places weights a b c o e ≢ pos 0) where
    abbrev side : ℕ → ℤ
    side = rise places weights a b c e

    -- the side of the fifth place
    pub side_some : rise places weights a b c e o ≢ pos 0
    side_some = turned_not_zero (rise places weights a b c o e) (side o) (rise_exchange places weights a b c o e) apart

    pub side_gap : (i : ℕ) → rise places weights a b c e i ≡ value (volume places weights a b c e) (through places weights a b c e) i
    side_gap i = rise_gap places weights a b c e i

    pub alike : (t : ℤ) (u : Vector)
        → (value t u a ≡ pos 0) × (value t u b ≡ pos 0) × (value t u c ≡ pos 0) × (value t u e ≡ pos 0)
        → (i : ℕ) → value s n o *ℤ value t u i ≡ value t u o *ℤ value s n i
    alike t u z i = gaps_alike places weights s n t u a b c o e i independent apart touches z

    sides_alike : (i : ℕ) → value s n o *ℤ side i ≡ side o *ℤ value s n i
    sides_alike i =
        (λ q. value s n o *ℤ side_gap i q)
        ∙ alike (volume places weights a b c e) (through places weights a b c e)
        (sym (side_gap a) ∙ rise_first places weights a b c e, sym (side_gap b) ∙ rise_second places weights a b c e, sym (side_gap c) ∙ rise_third places weights a b c e, sym (side_gap e) ∙ rise_fourth places weights a b c e) i
        ∙ (λ q. sym (side_gap o) q *ℤ value s n i)

    module _ (under : IsUnder places weights numbers s n) (some : value s n o ≢ pos 0)
        (listed : Contains numbers a × Contains numbers b × Contains numbers c × Contains numbers e)
        (z : ℕ) (within : Contains numbers z) (off : rise places weights a b c e z ≢ pos 0) where
      abbrev v : ℤ
      v = value s n o

      squared : (i : ℕ) → (v *ℤ v) *ℤ side i ≡ (v *ℤ side o) *ℤ value s n i
      squared i =
          ring (v ∷ side i ∷ []) (times (times (var 0) (var 0)) (var 1)) (times (var 0) (times (var 0) (var 1))) refl ∙ ap (λ y. v *ℤ y) (sides_alike i)
          ∙ ring (v ∷ side o ∷ value s n i ∷ []) (times (var 0) (times (var 1) (var 2))) (times (times (var 0) (var 1)) (var 2)) refl

      flank : IsFlank p r x k a b c e
      flank = record { numbers = listed; z = z; within = within; apart = off; one_side = ⊎_elim (λ l. inr (λ i h. above i h (not_negative (v *ℤ side o) l))) (λ l. inl (λ i h. below i h l)) (sign_of (v *ℤ side o)) }
        where
          above : (i : ℕ) → Contains numbers i → pos 0 ≤ℤ (v *ℤ side o) → pos 0 ≤ℤ rise places weights a b c e i
          above i h l = factor_not_negative (v *ℤ v) (side i) (square_positive v some) (subst (λ y. pos 0 ≤ℤ y) (sym (squared i)) (product_not_negative (v *ℤ side o) (value s n i) l (under i h)))

          below : (i : ℕ) → Contains numbers i → (v *ℤ side o) ≤ℤ pos 0 → rise places weights a b c e i ≤ℤ pos 0
          below i h l =
              back (side i) (factor_not_negative (v *ℤ v) (neg_ℤ (side i)) (square_positive v some)
              (turned ((v *ℤ v) *ℤ side i) (value s n i *ℤ (v *ℤ side o)) ((v *ℤ v) *ℤ neg_ℤ (side i)) (squared i ∙ ring ((v *ℤ side o) ∷ value s n i ∷ []) (times (var 0) (var 1)) (times (var 1) (var 0)) refl)
              (ring ((v *ℤ v) ∷ side i ∷ []) (times (var 0) (neg (var 1))) (neg (times (var 0) (var 1))) refl) (product_not_positive (value s n i) (v *ℤ side o) (under i h) l)))
            where
              back : (y : ℤ) → pos 0 ≤ℤ neg_ℤ y → y ≤ℤ pos 0
              back y q = omega (arith, ints, q)

              turned : (y w u : ℤ) → y ≡ w → u ≡ neg_ℤ y → w ≤ℤ pos 0 → pos 0 ≤ℤ u
              turned y w u e1 e2 q = omega (arith, ints, e1, e2, q)

      pub touched_facet : (f : Vector) × Contains p.dual f × IsTight f (places a) × IsTight f (places b) × IsTight f (places c) × IsTight f (places e)
      touched_facet = facet_through p r x k a b c e flank
