-- The points of a two-face at heights, and at the whole heights made of them and of an order of pushing.
--     face_apart      no two points have one place
--     regular_lower      a triple below all other points at the heights is below them at the whole heights
--     lower_triple      a triple below all other points at the whole heights is a triple of the item that is regular by the heights
use Rattle.std.proofs.Common.{◌≡◌, ◌≢◌, ℕ, ◌<◌, ◌≤◌, ◌⊎◌, inl, inr, sym, ap, ◌∙◌, subst, arith, ℤ, pos, ◌+ℤ◌, ◌-ℤ◌, ◌*ℤ◌, ◌<ℤ◌, ◌≤ℤ◌, List, length}
use Rattle.std.specs.Prelude.{Contains}
use Rattle.std.proofs.lemmas.Int.{ints}
use Rattle.ntfe_nums.specs.Vectors.{Vector}
use Rattle.ntfe_nums.proofs.Signs.{product_exchanged, zero_not_negative, positive_some, three_orders}
use Rattle.ntfe_model.specs.Lists.{IsNumberOf}
use Rattle.ntfe_model.specs.Pairs.{entry}
use Rattle.ntfe_model.specs.Points.{place_of_point}
use Rattle.ntfe_model.specs.Shapes.{Shape, IsShape, face_at}
use Rattle.ntfe_model.specs.Charts.{patch_at, IsOf, IsUnit, AreApart}
use Rattle.ntfe_model.specs.Triangulations.{IsRotationOf, IsFine}
use Rattle.ntfe_model.specs.Choices.{height, IsAbove, IsRegularBy}
use Rattle.ntfe_model.specs.Stars.{IsOrder}
use Rattle.ntfe_model.specs.declared.triangulation.Triangulation.{Triangulation}
use Rattle.ntfe_model.specs.declared.triangle.Triangle.{Triangle}
use Rattle.ntfe_model.proofs.GeometryPoints.{places_apart, point_within, point_place}
use Rattle.ntfe_model.proofs.Levels.{level}
use Rattle.ntfe_model.proofs.Triples.{Decided, decide_number}
use Rattle.ntfe_model.proofs.UnitTriples.{area_of, unit_area}
use Rattle.star_builder.proofs.CentreTriples.{level_above, lowest_triple}
use Rattle.star_builder.proofs.FacePlanes.{first_of, second_of, area_wedge, outside_apart}
use Rattle.star_builder.proofs.FacePoints.{some_outside}
use Rattle.star_builder.proofs.FaceSimplices.{IsBelowFace, outside_face, rise_of_lift, lift_of_rise, lift_least}
use Rattle.star_builder.proofs.LowSimplices.{in_order, volume_five}
use Rattle.star_builder.proofs.Planar.{wedge, lift, lift_first, lift_second, lift_third}
use Rattle.star_builder.proofs.Rises.{volume}
use Rattle.star_builder.proofs.VertexPoints.{point_small}
use Rattle.star_builder.proofs.WholeHeights.{AreFive, whole, rises_up, rises_least}

module _ (g : Shape) (s : IsShape g) (f : ℕ) (within : f < length g.faces) where
  pub face_apart : AreApart (patch_at g f)
  face_apart a b i j e = by (three_orders a b)
    where
      range : (c : ℕ) → IsOf (patch_at g f) c → (1 ≤ c) × (c ≤ length g.points)
      range c o = point_within g s f within c o

      same : place_of_point g.points a ≡ place_of_point g.points b
      same = sym (point_place g s f within a i) ∙ e ∙ point_place g s f within b j

      by : (a < b) ⊎ ((a ≡ b) ⊎ (b < a)) → a ≡ b
      by (inl q) = absurd (places_apart g.pair g.points s.points a b (range a i).0 q (range b j).1 same)
      by (inr (inl q)) = q
      by (inr (inr q)) = absurd (places_apart g.pair g.points s.points b a (range b j).0 q (range a i).1 (sym same))

  module _ (w : List ℤ) (order : List ℕ) (all : IsOrder (length g.points) order) where
    abbrev v : ℕ → ℤ
    v = whole w order

    abbrev On : ℕ → Type 0
    On = IsOf (patch_at g f)

    abbrev X : ℕ → ℤ
    X = first_of g s f within v

    abbrev Y : ℕ → ℤ
    Y = second_of g s f within v

    -- a lift at the heights, by the level of the plane
    lift_level : (a b c p : ℕ) → On a → On b → On c → On p → lift X Y (height w) a b c p ≡ height w p *ℤ area_of (patch_at g f) a b c -ℤ level (patch_at g f) w a b c p
    lift_level a b c p oa ob oc op =
        let e = λ (i j k : ℕ) (oi : On i) (oj : On j) (ok : On k). sym (area_wedge g s f within v i j k oi oj ok) in
        (λ i. product_exchanged (wedge X Y v a b c) (height w p) i -ℤ (wedge X Y v b c p *ℤ height w a +ℤ wedge X Y v c a p *ℤ height w b +ℤ wedge X Y v a b p *ℤ height w c))
        ∙ (λ i. height w p *ℤ e a b c oa ob oc i -ℤ (e b c p ob oc op i *ℤ height w a +ℤ e c a p oc oa op i *ℤ height w b +ℤ e a b p oa ob op i *ℤ height w c))

    -- a triple that turns to the left, and another point
    module _ (a b c p : ℕ) (oa : On a) (ob : On b) (oc : On c) (op : On p) (left : pos 0 <ℤ wedge X Y v a b c) (pa : p ≢ a) (pb : p ≢ b) (pc : p ≢ c) where
      abbrev out : ℕ
      out = (some_outside g s f within).0

      abbrev spot : ℕ → Vector
      spot = place_of_point g.points

      independent : volume spot v a b c out ≢ pos 0
      independent = outside_apart g s f within v a b c oa ob oc (positive_some (wedge X Y v a b c) left) out (some_outside g s f within).1

      five : AreFive a b c out p
      five = volume_five g.points v (entry g.pair.dual (face_at g f).first) a b c out p independent pa pb pc (outside_face g s f within v out (some_outside g s f within).1 p op)

      numbered : (k : ℕ) → On k → IsNumberOf g.points k
      numbered k o = point_within g s f within k o

      lift_up : pos 0 <ℤ lift X Y (height w) a b c p → pos 0 <ℤ lift X Y v a b c p
      lift_up l =
          lift_of_rise g s f within v a b c out p oa ob oc op left independent
          (rises_up w order g.points a b c out p independent five (in_order g.pair.dual g.points w order all (point_small g s) p (numbered p op))
          (point_small g s a (numbered a oa)) (point_small g s b (numbered b ob)) (point_small g s c (numbered c oc)) (point_small g s out (some_outside g s f within).1.0) (point_small g s p (numbered p op))
          (rise_of_lift g s f within (height w) a b c out p oa ob oc op left independent l))

      lift_down : pos 0 <ℤ lift X Y v a b c p → pos 0 ≤ℤ lift X Y (height w) a b c p
      lift_down l =
          lift_least g s f within (height w) a b c out p oa ob oc op left independent
          (rises_least w order g.points a b c out p independent five (in_order g.pair.dual g.points w order all (point_small g s) p (numbered p op))
          (point_small g s a (numbered a oa)) (point_small g s b (numbered b ob)) (point_small g s c (numbered c oc)) (point_small g s out (some_outside g s f within).1.0) (point_small g s p (numbered p op))
          (rise_of_lift g s f within v a b c out p oa ob oc op left independent l))

    pub regular_lower : (a b c : ℕ) → IsUnit (patch_at g f) a b c → ((p : ℕ) → On p → p ≢ a → p ≢ b → p ≢ c → IsAbove (patch_at g f) w a b c p) → IsBelowFace g s f within (whole w order) a b c
    regular_lower a b c unit above = record {
      points = unit.points;
      left = left;
      above = λ p o pa pb pc. lift_up a b c p unit.points.0 unit.points.1 unit.points.2 o left pa pb pc
          (subst (λ z. pos 0 <ℤ z) (sym (lift_level a b c p unit.points.0 unit.points.1 unit.points.2 o))
          (gap (level (patch_at g f) w a b c p) (height w p *ℤ area_of (patch_at g f) a b c) (level_above (patch_at g f) w a b c p (unit_area (patch_at g f) a b c unit) (above p o pa pb pc))));
    }
      where
        left : pos 0 <ℤ wedge X Y v a b c
        left = subst (λ z. pos 0 <ℤ z) (area_wedge g s f within v a b c unit.points.0 unit.points.1 unit.points.2) (unit_area (patch_at g f) a b c unit)

        gap : (y z : ℤ) → y <ℤ z → pos 0 <ℤ (z -ℤ y)
        gap y z l = omega (arith, ints, l)

    pub lower_triple : (x : Triangulation) → IsFine (patch_at g f) x.triangles → IsRegularBy (patch_at g f) w x → (t : Triangle) → Contains x.triangles t
        → (a b c : ℕ) → IsBelowFace g s f within (whole w order) a b c → (u : Triangle) × Contains x.triangles u × IsRotationOf u a b c
    lower_triple x fine lifts t inside a b c lower =
        lowest_triple (patch_at g f) face_apart w x fine lifts a b c oa ob oc
        (subst (λ z. pos 0 <ℤ z) (sym (area_wedge g s f within v a b c oa ob oc)) lower.left)
        (λ p o. gap (level (patch_at g f) w a b c p) (height w p *ℤ area_of (patch_at g f) a b c)
        (subst (λ z. pos 0 ≤ℤ z) (lift_level a b c p oa ob oc o) (over p o (decide_number p a) (decide_number p b) (decide_number p c)))) t inside
      where
        oa : On a
        oa = lower.points.0

        ob : On b
        ob = lower.points.1

        oc : On c
        oc = lower.points.2

        gap : (y z : ℤ) → pos 0 ≤ℤ (z -ℤ y) → y ≤ℤ z
        gap y z l = omega (arith, ints, l)

        level_at : (p k : ℕ) → p ≡ k → lift X Y (height w) a b c k ≡ pos 0 → pos 0 ≤ℤ lift X Y (height w) a b c p
        level_at p k e z = zero_not_negative (lift X Y (height w) a b c p) (ap (lift X Y (height w) a b c) e ∙ z)

        -- no point of the face lies below the plane over a, b, c at the heights
        over : (p : ℕ) → On p → Decided (p ≡ a) → Decided (p ≡ b) → Decided (p ≡ c) → pos 0 ≤ℤ lift X Y (height w) a b c p
        over p o (inl e) q r = level_at p a e (lift_first X Y (height w) a b c)
        over p o (inr pa) (inl e) r = level_at p b e (lift_second X Y (height w) a b c)
        over p o (inr pa) (inr pb) (inl e) = level_at p c e (lift_third X Y (height w) a b c)
        over p o (inr pa) (inr pb) (inr pc) = lift_down a b c p oa ob oc o lower.left pa pb pc (lower.above p o pa pb pc)
