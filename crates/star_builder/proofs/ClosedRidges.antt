-- The members of a star close up: each ridge lies in a second facet, or in exactly one other member of its facet.
--     split_closes, ridge_closes      one or the other
use Rattle.std.proofs.Common.{◌≡◌, ◌≢◌, ℕ, ◌⊎◌, inl, inr, ⊎_elim, sym, subst, ℤ, pos, ◌*ℤ◌, ◌<ℤ◌, ◌≤ℤ◌, List, [], ◌∷◌, length}
use Rattle.std.specs.Prelude.{Contains}
use Rattle.ntfe_nums.specs.Vectors.{Vector}
use Rattle.ntfe_model.specs.Lists.{IsNumberOf}
use Rattle.ntfe_model.specs.Pairs.{entry}
use Rattle.ntfe_model.specs.Reflexive.{IsTight}
use Rattle.ntfe_model.specs.Points.{place_of_point}
use Rattle.ntfe_model.specs.Shapes.{Shape, IsShape}
use Rattle.ntfe_model.specs.Stars.{IsOrder, IsMember, IsStar, AreIn, HasRidge, IsOuterRidge, IsBeyond}
use Rattle.ntfe_model.proofs.Listings.{Contains-here, Contains-there, Contains-cases, Contains-none}
use Rattle.star_builder.proofs.BeyondMembers.{IsCrossing, star_member, member_split, inner_ridge}
use Rattle.star_builder.proofs.FourPoints.{in_four}
use Rattle.star_builder.proofs.OuterRidges.{second_facet}
use Rattle.star_builder.proofs.Ridges.{IsSplit}
use Rattle.star_builder.proofs.Rises.{volume}
use Rattle.star_builder.proofs.Supports.{tight_points}
use Rattle.star_builder.proofs.WholeHeights.{whole}
use Rattle.star_builder.proofs.Searches.{some_or_all}
use Rattle.ntfe_nums.proofs.Signs.{negative_or, two_orders}

module _ (g : Shape) (w : List ℤ) (order : List ℕ) (star : List (List ℕ)) (s : IsShape g) (all : IsOrder (length g.points) order) (is : IsStar g.pair.dual g.points w order star)
    (members : List ℕ) (member : IsMember g.pair.dual g.points w order members) (without : ℕ)
    (split : IsSplit g.points (whole w order) (entry g.pair.dual member.facet) (member.a ∷ member.b ∷ member.c ∷ member.d ∷ []) without) where
  abbrev heights : ℕ → ℤ
  heights = whole w order

  abbrev m : Vector
  m = entry g.pair.dual member.facet

  -- how far on the member's own side of the ridge
  abbrev on_side : ℕ → ℤ
  on_side z = volume (place_of_point g.points) heights split.i split.j split.k without *ℤ volume (place_of_point g.points) heights split.i split.j split.k z

  abbrev ridge : List ℕ
  ridge = split.i ∷ split.j ∷ split.k ∷ []

  has_ridge : HasRidge members without ridge
  has_ridge n c apart = by (in_four split.i split.j split.k without n (split.same.0 n (subst (λ (ks : List ℕ). Contains ks n) member.is c)))
    where
      by : (n ≡ split.i) ⊎ ((n ≡ split.j) ⊎ ((n ≡ split.k) ⊎ (n ≡ without))) → Contains (split.i ∷ split.j ∷ split.k ∷ []) n
      by (inl e) = Contains-here n split.i (split.j ∷ split.k ∷ []) e
      by (inr (inl e)) = Contains-there n split.i (split.j ∷ split.k ∷ []) (Contains-here n split.j (split.k ∷ []) e)
      by (inr (inr (inl e))) = Contains-there n split.i (split.j ∷ split.k ∷ []) (Contains-there n split.j (split.k ∷ []) (Contains-here n split.k [] e))
      by (inr (inr (inr e))) = absurd (apart e)

  ridge_tight : (v : Vector) → IsTight v (place_of_point g.points split.i) → IsTight v (place_of_point g.points split.j) → IsTight v (place_of_point g.points split.k)
      → (n : ℕ) → Contains ridge n → IsTight v (place_of_point g.points n)
  ridge_tight v ti tj tk n c =
      ⊎_elim (named split.i ti) (λ c1. ⊎_elim (named split.j tj) (λ c2. ⊎_elim (named split.k tk) (Contains-none n) (Contains-cases n split.k [] c2)) (Contains-cases n split.j (split.k ∷ []) c1))
      (Contains-cases n split.i (split.j ∷ split.k ∷ []) c)
    where
      named : (k : ℕ) → IsTight v (place_of_point g.points k) → n ≡ k → IsTight v (place_of_point g.points n)
      named k t e = subst (λ j. IsTight v (place_of_point g.points j)) (sym e) t

  -- the two facets, by rising numbers
  in_two : (f : ℕ) → IsNumberOf g.pair.dual f → f ≢ member.facet
      → IsTight (entry g.pair.dual f) (place_of_point g.points split.i) → IsTight (entry g.pair.dual f) (place_of_point g.points split.j) → IsTight (entry g.pair.dual f) (place_of_point g.points split.k)
      → IsOuterRidge g.pair.dual g.points members without
  in_two f n apart ti tj tk =
      ⊎_elim
      (λ l. record { ridge = ridge; has = has_ridge; first = f; second = member.facet; differ = l; both = ((n, ridge_tight (entry g.pair.dual f) ti tj tk), own) })
      (λ l. record { ridge = ridge; has = has_ridge; first = member.facet; second = f; differ = l; both = (own, (n, ridge_tight (entry g.pair.dual f) ti tj tk)) })
      (two_orders f member.facet apart)
    where
      own : AreIn g.pair.dual g.points member.facet (split.i ∷ split.j ∷ split.k ∷ [])
      own = (member.number, ridge_tight (entry g.pair.dual member.facet) split.low.tight.0 split.low.tight.1 split.low.tight.2)

  outer_ridge : ((z : ℕ) → Contains (tight_points m g.points) z → pos 0 ≤ℤ on_side z) → IsOuterRidge g.pair.dual g.points members without
  outer_ridge one_side =
      let low = split.low in
      let f =
      second_facet g s member.facet member.number split.i split.j split.k without low.numbers.0 low.numbers.1 low.numbers.2 low.numbers.3 low.tight.0 low.tight.1 low.tight.2 low.tight.3 low.independent one_side in
      in_two f.0 f.1.0 f.1.1 f.1.2 f.1.3 f.1.4

  pub split_closes : IsOuterRidge g.pair.dual g.points members without ⊎ IsCrossing g w order star s all is members member without split
  split_closes =
      ⊎_elim (λ r. inr (inner_ridge g w order star s all is members member without split r.0 r.1 r.2)) (λ o. inl (outer_ridge o)) (some_or_all (λ z. on_side z <ℤ pos 0) (λ z. pos 0 ≤ℤ on_side z) (λ z. negative_or (on_side z)) (tight_points m g.points))

pub ridge_closes : (g : Shape) (w : List ℤ) (order : List ℕ) (star : List (List ℕ)) → IsShape g → IsOrder (length g.points) order → IsStar g.pair.dual g.points w order star
    → (members : List ℕ) → Contains star members → (without : ℕ) → Contains members without
    → IsOuterRidge g.pair.dual g.points members without ⊎ ((t : List ℕ) × IsBeyond g.pair.dual g.points w order members without t)
ridge_closes g w order star s all is members h without has =
    let r = star_member g w order star s all is members h in
    ⊎_elim inl (λ c. inr (c.a ∷ c.b ∷ c.c ∷ c.d ∷ [], c.beyond)) (split_closes g w order star s all is members r without (member_split g w order star s all is members r without has))
