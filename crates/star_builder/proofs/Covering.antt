-- Each facet of a geometry has a member of the star.
--     facet_has_member      a member in the facet
use Rattle.std.proofs.Common.{◌≡◌, ℕ, ◌-◌, ◌<◌, sym, ◌∙◌, subst, arith, ℤ, List, [], ◌∷◌, length}
use Rattle.std.specs.Prelude.{Contains}
use Rattle.std.proofs.lemmas.List.Elements.{Contains-get_or}
use Rattle.ntfe_nums.specs.Vectors.{Vector, origin, det4}
use Rattle.ntfe_model.specs.Lists.{IsNumberOf}
use Rattle.ntfe_model.specs.Pairs.{entry}
use Rattle.ntfe_model.specs.Reflexive.{IsTight, IsTightOnFour, at}
use Rattle.ntfe_model.specs.Points.{place_of_point}
use Rattle.ntfe_model.specs.Shapes.{Shape, IsShape}
use Rattle.ntfe_model.specs.Stars.{IsOrder, IsStar, AreIn}
use Rattle.star_builder.proofs.FacetMembers.{four_low}
use Rattle.star_builder.proofs.LowSimplices.{IsLow, IsGeneric, low_first, low_middle, low_last, low_apart, low_tight, low_member, generic}
use Rattle.star_builder.proofs.Sorting.{by_size}
use Rattle.star_builder.proofs.Supports.{tight_points, in_tight}
use Rattle.star_builder.proofs.VertexPoints.{vertex_number, point_small}
use Rattle.star_builder.proofs.WholeHeights.{whole}

module _ (g : Shape) (w : List ℤ) (order : List ℕ) (star : List (List ℕ)) (s : IsShape g) (all : IsOrder (length g.points) order) (is : IsStar g.pair.dual g.points w order star) where
  abbrev heights : ℕ → ℤ
  heights = whole w order

  pub heights_generic : IsGeneric g.points heights
  heights_generic = generic g.pair.dual g.points w order all (point_small g s)

  module _ (facet : ℕ) (number : IsNumberOf g.pair.dual facet) where
    abbrev m : Vector
    m = entry g.pair.dual facet

    contains_facet : Contains g.pair.dual m
    contains_facet = Contains-get_or g.pair.dual (facet - 1) origin (omega (arith, number.0, number.1))

    -- low points of the facet, by rising numbers, are a member
    low_has_member : (a b c d : ℕ) → IsLow g.points heights m a b c d → (members : List ℕ) × Contains star members × AreIn g.pair.dual g.points facet members
    low_has_member a b c d l =
        by (by_size (IsLow g.points heights m) (low_first g.points heights m) (low_middle g.points heights m) (low_last g.points heights m) (low_apart g.points heights m) a b c d l)
      where
        by : (i : ℕ) × (j : ℕ) × (k : ℕ) × (l : ℕ) × (i < j) × (j < k) × (k < l) × IsLow g.points heights m i j k l → (members : List ℕ) × Contains star members × AreIn g.pair.dual g.points facet members
        by r =
            let member = low_member g.pair.dual g.points w order all (point_small g s) facet number r.0 r.1 r.2 r.3 r.4 r.5 r.6 r.7 in
            (r.0 ∷ r.1 ∷ r.2 ∷ r.3 ∷ [], is.complete (r.0 ∷ r.1 ∷ r.2 ∷ r.3 ∷ []) member, (number, low_tight g.points heights m r.0 r.1 r.2 r.3 r.7))

    -- the number of a vertex of the facet
    vertex_on : (i : ℕ) → i < length g.pair.vertices → IsTight m (at g.pair.vertices i)
        → (k : ℕ) × Contains (tight_points m g.points) k × (place_of_point g.points k ≡ at g.pair.vertices i)
    vertex_on i l t =
        let r = vertex_number g.pair g.points s.reflexive s.points (at g.pair.vertices i) (Contains-get_or g.pair.vertices i origin l) in
        (r.0, in_tight m g.points r.0 r.1 (subst (λ x. IsTight m x) (sym r.2) t), r.2)

    pub facet_has_member : (members : List ℕ) × Contains star members × AreIn g.pair.dual g.points facet members
    facet_has_member = by (s.reflexive.facets m contains_facet)
      where
        by : IsTightOnFour m g.pair.vertices → (members : List ℕ) × Contains star members × AreIn g.pair.dual g.points facet members
        by t =
            let r = t.rising in
            let a = vertex_on t.i (omega (arith, r.0, r.1, r.2, r.3)) t.four.first in
            let b = vertex_on t.j (omega (arith, r.1, r.2, r.3)) t.four.second in
            let c = vertex_on t.k (omega (arith, r.2, r.3)) t.four.third in
            let d = vertex_on t.l r.3 t.four.fourth in
            let low = four_low g.points heights heights_generic m a.0 b.0 c.0 d.0 a.1 b.1 c.1 d.1 (λ e. t.four.independent ((λ i. det4 (sym a.2 i) (sym b.2 i) (sym c.2 i) (sym d.2 i)) ∙ e)) in
            low_has_member low.0 low.1 low.2 low.3 low.4
