-- The points of a facet, and linear forms that none of them lies below.
--     tight_points m xs      the numbers of the points on which m is tight
--     low_support      four independent points that touch such a form are low
use Rattle.std.proofs.Common.{◌≡◌, ◌≢◌, ℕ, ◌+◌, ◌<◌, ◌≤◌, ⊎_elim, refl, ap, ◌∙◌, subst, arith, ℤ, pos, negsuc, ◌*ℤ◌, ◌<ℤ◌, ◌≤ℤ◌, List, [], ◌∷◌, length}
use Rattle.std.specs.Prelude.{Contains, filter}
use Rattle.std.specs.List.{range_with_len}
use Rattle.std.proofs.lemmas.Bool.Decides.{Decides-int_eq}
use Rattle.std.proofs.lemmas.List.Elements.{All-contains}
use Rattle.ntfe_nums.specs.Vectors.{Vector, dot}
use Rattle.ntfe_nums.proofs.Ring.{ring}
use Rattle.ntfe_nums.proofs.Ring.Expression.{var, times}
use Rattle.ntfe_model.specs.Lists.{IsNumberOf, IsListing}
use Rattle.ntfe_model.specs.Reflexive.{IsTight}
use Rattle.ntfe_model.specs.Points.{place_of_point, is_tight}
use Rattle.ntfe_model.specs.declared.point.Point.{Point}
use Rattle.ntfe_model.proofs.Listings.{listing_filter, listing_range}
use Rattle.ntfe_model.proofs.PlaneNumbers.{zero_factor}
use Rattle.star_builder.proofs.LowSimplices.{IsLow, IsGeneric}
use Rattle.star_builder.proofs.Rises.{gap, gap_rise, rise, volume}
use Rattle.ntfe_nums.proofs.Signs.{above_zero, factor_not_negative, product_not_negative, square_not_negative}

-- ---- the points of a facet

abbrev pub tight_points : Vector → List Point → List ℕ
tight_points m xs = filter (λ k. is_tight m (place_of_point xs k)) (range_with_len 1 (length xs))

module _ (m : Vector) (xs : List Point) where
  abbrev IsOn : ℕ → Type 0
  IsOn k = IsNumberOf xs k × IsTight m (place_of_point xs k)

  tight_listing : IsListing (λ i j. i < j) IsOn (tight_points m xs)
  tight_listing =
      listing_filter (λ i j. i < j) (λ k. (1 ≤ k) × (k < 1 + length xs)) IsOn (λ k. is_tight m (place_of_point xs k)) (range_with_len 1 (length xs)) (listing_range 1 (length xs))
      (λ k d e. ((d.0, (let l = d.1 in omega (arith, l))), (Decides-int_eq (dot m (place_of_point xs k)) (negsuc 0)).0 e))
      (λ k p. (p.0.0, (let l = p.0.1 in omega (arith, l))))
      (λ k p. (Decides-int_eq (dot m (place_of_point xs k)) (negsuc 0)).1 p.1)

  pub tight_number : (k : ℕ) → Contains (tight_points m xs) k → IsNumberOf xs k
  tight_number k c = (All-contains IsOn (tight_points m xs) k tight_listing.sound c).0

  pub tight_on : (k : ℕ) → Contains (tight_points m xs) k → IsTight m (place_of_point xs k)
  tight_on k c = (All-contains IsOn (tight_points m xs) k tight_listing.sound c).1

  pub in_tight : (k : ℕ) → IsNumberOf xs k → IsTight m (place_of_point xs k) → Contains (tight_points m xs) k
  in_tight k n t = tight_listing.complete k (n, t)

-- ---- forms below the points of a facet

module _ (xs : List Point) (v : ℕ → ℤ) (generic : IsGeneric xs v) (m : Vector) where
  abbrev at : ℕ → Vector
  at = place_of_point xs

  pub low_support : (s : ℤ) (n : Vector) → pos 0 <ℤ s → ((x : ℕ) → Contains (tight_points m xs) x → pos 0 ≤ℤ gap at v s n x)
      → (a b c d : ℕ) → Contains (tight_points m xs) a → Contains (tight_points m xs) b → Contains (tight_points m xs) c → Contains (tight_points m xs) d
      → volume at v a b c d ≢ pos 0
      → gap at v s n a ≡ pos 0 → gap at v s n b ≡ pos 0 → gap at v s n c ≡ pos 0 → gap at v s n d ≡ pos 0 → IsLow xs v m a b c d
  low_support s n positive over a b c d ca cb cc cd independent ea eb ec ed = record {
    numbers = (tight_number m xs a ca, tight_number m xs b cb, tight_number m xs c cc, tight_number m xs d cd);
    tight = (tight_on m xs a ca, tight_on m xs b cb, tight_on m xs c cc, tight_on m xs d cd);
    independent = independent;
    above = λ p np pa pb pc pd t. above_zero (volume at v a b c d *ℤ rise at v a b c d p) (not_below p (over p (in_tight m xs p np t)))
        (λ e. ⊎_elim independent (generic a b c d p (tight_number m xs a ca) (tight_number m xs b cb) (tight_number m xs c cc) (tight_number m xs d cd) np pa pb pc pd independent) (zero_factor (volume at v a b c d) (rise at v a b c d p) e));
  }
    where
      not_below : (p : ℕ) → pos 0 ≤ℤ gap at v s n p → pos 0 ≤ℤ (volume at v a b c d *ℤ rise at v a b c d p)
      not_below p l =
          factor_not_negative s (volume at v a b c d *ℤ rise at v a b c d p) positive
          (subst (λ z. pos 0 ≤ℤ z)
          (ring (volume at v a b c d ∷ gap at v s n p ∷ []) (times (times (var 0) (var 0)) (var 1)) (times (var 0) (times (var 0) (var 1))) refl
          ∙ ap (λ z. volume at v a b c d *ℤ z) (gap_rise at v s n a b c d p ea eb ec ed)
          ∙ ring (volume at v a b c d ∷ s ∷ rise at v a b c d p ∷ []) (times (var 0) (times (var 1) (var 2))) (times (var 1) (times (var 0) (var 2))) refl)
          (product_not_negative (volume at v a b c d *ℤ volume at v a b c d) (gap at v s n p) (square_not_negative (volume at v a b c d)) l))
