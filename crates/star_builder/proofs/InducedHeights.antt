-- Heights that extend the choice that a fine regular star triangulation induces: its heights, with the order of pushing as small changes of them.
--     lifted_heights      the new heights
--     induced_extendable      they extend the choice
use Rattle.std.proofs.Common.{◌≡◌, ◌≢◌, ℕ, ◌+◌, ◌-◌, ◌*◌, ◌<◌, ◌≤◌, ◌==◌, ◌⊎◌, inl, inr, Bool, true, false, cond, refl, sym, ap, ◌∙◌, subst, arith, ℤ, pos, ◌+ℤ◌, ◌-ℤ◌, ◌*ℤ◌, ◌<ℤ◌, negsuc, List, [], ◌∷◌, length, map, unsigned_abs}
use Rattle.std.specs.Prelude.{Contains, slice_index}
use Rattle.std.specs.List.{range_with_len}
use Rattle.std.proofs.lemmas.Int.{ints}
use Rattle.std.proofs.lemmas.List.Elements.{All-contains}
use Rattle.std.proofs.lemmas.List.FromFn.{length-map-range_with_len, get_or-map-range_with_len}
use Rattle.ntfe_nums.specs.Vectors.{Vector, vector_sum, multiple, dot}
use Rattle.ntfe_nums.proofs.Ring.{Expression, ring}
use Rattle.ntfe_nums.proofs.Ring.Expression.{var, num, plus, minus, times}
use Rattle.ntfe_nums.proofs.DetLemmas.{dotE, row}
use Rattle.ntfe_model.specs.Pairs.{entry}
use Rattle.ntfe_model.specs.Reflexive.{IsTight}
use Rattle.ntfe_model.specs.Points.{place_of_point}
use Rattle.ntfe_model.specs.Shapes.{Shape, IsShape}
use Rattle.ntfe_model.specs.Charts.{Patch, patch_at, place, reached, IsOf, IsUnit}
use Rattle.ntfe_model.specs.Triangulations.{IsRotationOf}
use Rattle.ntfe_model.specs.Words.{IsItem}
use Rattle.ntfe_model.specs.Choices.{height, IsAbove, IsExtendable}
use Rattle.ntfe_model.specs.Stars.{IsFirstPositive, IsMember, IsInduced, Leaves, AreTogether}
use Rattle.ntfe_model.specs.declared.triangle.Triangle.{Triangle}
use Rattle.ntfe_model.specs.declared.triangulation.Triangulation.{Triangulation}
use Rattle.ntfe_model.proofs.Triples.{AreThree}
use Rattle.ntfe_model.proofs.Folds.{unit_three}
use Rattle.ntfe_model.proofs.GeometryPoints.{point_within, point_place, point_small}
use Rattle.star_builder.proofs.Weights.{weight, weighed, leader_decides, weighed_mix}
use Rattle.star_builder.proofs.FourPoints.{one_at}
use Rattle.star_builder.proofs.MemberPlanes.{form, outside_member, form_leads}
use Rattle.star_builder.proofs.UnitCoordinates.{factor_bound, unit_factors_small, mixed_corners}
use Rattle.ntfe_nums.proofs.Signs.{two_orders}

-- ---- the corners of a triple stand together

pub corners_together : (h : Patch) (star : List (List ℕ)) (x : Triangulation) → Leaves h star x → (t : Triangle) → Contains x.triangles t → IsUnit h t.a t.b t.c → AreTogether star t.a t.b t.c
corners_together h star x leaves t c u = by (two_orders t.a t.b three.0) (two_orders t.b t.c three.1) (two_orders t.c t.a three.2)
  where
    three : AreThree t
    three = unit_three h t u

    -- the corners by rising numbers
    rising : (i j k : ℕ) → i < j → j < k → IsOf h i → IsOf h j → IsOf h k → IsRotationOf t i j k ⊎ IsRotationOf t i k j → AreTogether star i j k
    rising i j k l m oi oj ok r = (leaves i j k l m oi oj ok).1 (t, c, r)

    by : (t.a < t.b) ⊎ (t.b < t.a) → (t.b < t.c) ⊎ (t.c < t.b) → (t.c < t.a) ⊎ (t.a < t.c) → AreTogether star t.a t.b t.c
    by (inl ab) (inl bc) ca = rising t.a t.b t.c ab bc u.points.0 u.points.1 u.points.2 (inl (inl (refl, refl, refl)))
    by (inl ab) (inr cb) (inl ca) = let r = rising t.c t.a t.b ca ab u.points.2 u.points.0 u.points.1 (inl (inr (inr (refl, refl, refl)))) in (r.0, r.1, r.3, r.4, r.2)
    by (inl ab) (inr cb) (inr ac) = let r = rising t.a t.c t.b ac cb u.points.0 u.points.2 u.points.1 (inr (inl (refl, refl, refl))) in (r.0, r.1, r.2, r.4, r.3)
    by (inr ba) (inl bc) (inl ca) = let r = rising t.b t.c t.a bc ca u.points.1 u.points.2 u.points.0 (inl (inr (inl (refl, refl, refl)))) in (r.0, r.1, r.4, r.2, r.3)
    by (inr ba) (inl bc) (inr ac) = let r = rising t.b t.a t.c ba ac u.points.1 u.points.0 u.points.2 (inr (inr (inl (refl, refl, refl)))) in (r.0, r.1, r.3, r.2, r.4)
    by (inr ba) (inr cb) ca = let r = rising t.c t.b t.a cb ba u.points.2 u.points.1 u.points.0 (inr (inr (inr (refl, refl, refl)))) in (r.0, r.1, r.4, r.3, r.2)

-- ---- a combination of points of a facet whose factors add up to 1 lies in the facet

tight_combination : (m a b c : Vector) (s t : ℤ) → IsTight m a → IsTight m b → IsTight m c → IsTight m (vector_sum (vector_sum (multiple (pos 1 -ℤ s -ℤ t) a) (multiple s b)) (multiple t c))
tight_combination m a b c s t ea eb ec =
    ring (m.x1 ∷ m.x2 ∷ m.x3 ∷ m.x4 ∷ a.x1 ∷ a.x2 ∷ a.x3 ∷ a.x4 ∷ b.x1 ∷ b.x2 ∷ b.x3 ∷ b.x4 ∷ c.x1 ∷ c.x2 ∷ c.x3 ∷ c.x4 ∷ s ∷ t ∷ [])
    (dotE (row 0) (record { x1 = mixE 4; x2 = mixE 5; x3 = mixE 6; x4 = mixE 7 }))
    (plus (plus (times (minus (minus (num (pos 1)) (var 16)) (var 17)) (dotE (row 0) (row 4))) (times (var 16) (dotE (row 0) (row 8)))) (times (var 17) (dotE (row 0) (row 12)))) refl
    ∙ (λ i. (pos 1 -ℤ s -ℤ t) *ℤ ea i +ℤ s *ℤ eb i +ℤ t *ℤ ec i)
    ∙ ring (s ∷ t ∷ [])
    (plus (plus (times (minus (minus (num (pos 1)) (var 0)) (var 1)) (num (negsuc 0))) (times (var 0) (num (negsuc 0)))) (times (var 1) (num (negsuc 0)))) (num (negsuc 0)) refl
  where
    mixE : ℕ → Expression
    mixE k = plus (plus (times (minus (minus (num (pos 1)) (var 16)) (var 17)) (var k)) (times (var 16) (var (k + 4)))) (times (var 17) (var (k + 8)))

-- ---- the order of pushing in the heights

-- no factor of the form is larger
abbrev pub form_bound : ℕ
form_bound = 1 + 3 * factor_bound

form_small : (p i j k : ℕ) (x y z : ℤ) → unsigned_abs x ≤ factor_bound → unsigned_abs y ≤ factor_bound → unsigned_abs z ≤ factor_bound → (m : ℕ) → unsigned_abs (form p i j k x y z m) ≤ form_bound
form_small p i j k x y z sx sy sz m =
    by (one_at p m) (x *ℤ one_at i m) (y *ℤ one_at j m) (z *ℤ one_at k m) (one_small (m == p)) (part_small x (m == i) sx) (part_small y (m == j) sy) (part_small z (m == k) sz)
  where
    one_small : (t : Bool) → unsigned_abs (cond t (pos 1) (pos 0)) ≤ 1
    one_small true = omega arith
    one_small false = omega arith

    part_small : (u : ℤ) (t : Bool) → unsigned_abs u ≤ factor_bound → unsigned_abs (u *ℤ cond t (pos 1) (pos 0)) ≤ factor_bound
    part_small u true l = omega (arith, ints, l)
    part_small u false l = omega (arith, ints)

    by : (o u v w : ℤ) → unsigned_abs o ≤ 1 → unsigned_abs u ≤ factor_bound → unsigned_abs v ≤ factor_bound → unsigned_abs w ≤ factor_bound
        → unsigned_abs (o -ℤ (u +ℤ v +ℤ w)) ≤ form_bound
    by o u v w lo lu lv lw = omega (arith, ints, lo, lu, lv, lw)

module _ (w : List ℤ) (order : List ℕ) where
  -- the height of a point outweighs its place in the order
  abbrev pub lifted : ℕ → ℤ
  lifted k = pos (weight form_bound order) *ℤ height w k +ℤ weighed form_bound (one_at k) order

  lifted_form : (p i j k : ℕ) (x y z : ℤ)
      → pos (weight form_bound order) *ℤ (height w p -ℤ (x *ℤ height w i +ℤ y *ℤ height w j +ℤ z *ℤ height w k)) +ℤ weighed form_bound (form p i j k x y z) order
      ≡ lifted p -ℤ (x *ℤ lifted i +ℤ y *ℤ lifted j +ℤ z *ℤ lifted k)
  lifted_form p i j k x y z =
      let ties = λ (m : ℕ). weighed form_bound (one_at m) order in
      let W = pos (weight form_bound order) in
      ap (λ r. W *ℤ (height w p -ℤ (x *ℤ height w i +ℤ y *ℤ height w j +ℤ z *ℤ height w k)) +ℤ r) (weighed_mix form_bound (one_at p) (one_at i) (one_at j) (one_at k) x y z order)
      ∙ ring (W ∷ x ∷ y ∷ z ∷ height w p ∷ height w i ∷ height w j ∷ height w k ∷ ties p ∷ ties i ∷ ties j ∷ ties k ∷ [])
      (plus (times (var 0) (formE (var 4) (var 5) (var 6) (var 7))) (formE (var 8) (var 9) (var 10) (var 11)))
      (formE (liftedE 4) (liftedE 5) (liftedE 6) (liftedE 7)) refl
    where
      formE : Expression → Expression → Expression → Expression → Expression
      formE a b c d = minus a (plus (plus (times (var 1) b) (times (var 2) c)) (times (var 3) d))

      liftedE : ℕ → Expression
      liftedE m = plus (times (var 0) (var m)) (var (m + 4))

  -- where the first number of the form that is not 0 is positive, p is above i, j and k at the new heights
  lifted_above : (p i j k : ℕ) (x y z : ℤ) → unsigned_abs x ≤ factor_bound → unsigned_abs y ≤ factor_bound → unsigned_abs z ≤ factor_bound
      → IsFirstPositive ((height w p -ℤ (x *ℤ height w i +ℤ y *ℤ height w j +ℤ z *ℤ height w k)) ∷ map (form p i j k x y z) order)
      → (x *ℤ lifted i +ℤ y *ℤ lifted j +ℤ z *ℤ lifted k) <ℤ lifted p
  lifted_above p i j k x y z sx sy sz leads =
      above _ (x *ℤ lifted i +ℤ y *ℤ lifted j +ℤ z *ℤ lifted k) (lifted p) (leader_decides form_bound (form p i j k x y z) (form_small p i j k x y z sx sy sz) order _ leads) (lifted_form p i j k x y z)
    where
      above : (r u v : ℤ) → pos 0 <ℤ r → r ≡ v -ℤ u → u <ℤ v
      above r u v l e = omega (arith, ints, l, e)

  -- one new height for each of n points
  pub lifted_heights : ℕ → List ℤ
  lifted_heights n = map lifted (range_with_len 1 n)

  lifted_height : (n k : ℕ) → 1 ≤ k → k ≤ n → height (lifted_heights n) k ≡ lifted k
  unfolding lifted_heights
  lifted_height n k l m = get_or-map-range_with_len lifted 1 n (k - 1) k (pos 0) (omega (arith, l, m)) (omega (arith, l))

  lifted_length : (n : ℕ) → length (lifted_heights n) ≡ n
  unfolding lifted_heights
  lifted_length n = length-map-range_with_len lifted 1 n

-- ---- the choice that a star induces

module _ (g : Shape) (choice : List ℕ) (s : IsShape g) (induced : IsInduced g choice) (f : ℕ) (within : f < length g.faces) (x : Triangulation)
    (is : IsItem (patch_at g f) (slice_index choice f) x) (t : Triangle) (c : Contains x.triangles t)
    (p : ℕ) (o : IsOf (patch_at g f) p) (pa : p ≢ t.a) (pb : p ≢ t.b) (pc : p ≢ t.c) where
  abbrev patch : Patch
  patch = patch_at g f

  abbrev at : ℕ → Vector
  at = place_of_point g.points

  abbrev old_heights : List ℤ
  old_heights = induced.frst.heights

  unit : IsUnit patch t.a t.b t.c
  unit = is.is.fine.unit t c

  place_is : (k : ℕ) → IsOf patch k → place patch k ≡ at k
  place_is k q = point_place g s f within k q

  -- p as a combination of the corners
  mixed : (i j : ℤ) → place patch p ≡ reached (place patch t.a) (place patch t.b) (place patch t.c) i j
      → at p ≡ vector_sum (vector_sum (multiple (pos 1 -ℤ i -ℤ j) (at t.a)) (multiple i (at t.b))) (multiple j (at t.c))
  mixed i j lies =
      sym (place_is p o) ∙ lies ∙ (λ r. reached (place_is t.a unit.points.0 r) (place_is t.b unit.points.1 r) (place_is t.c unit.points.2 r) i j)
      ∙ mixed_corners (at t.a) (at t.b) (at t.c) i j

  -- the heights and the order of the star put p above the corners
  corners_lead : (i j : ℤ) → place patch p ≡ reached (place patch t.a) (place patch t.b) (place patch t.c) i j
      → IsFirstPositive
      ((height old_heights p -ℤ ((pos 1 -ℤ i -ℤ j) *ℤ height old_heights t.a +ℤ i *ℤ height old_heights t.b +ℤ j *ℤ height old_heights t.c))
      ∷ map (form p t.a t.b t.c (pos 1 -ℤ i -ℤ j) i j) induced.frst.order)
  corners_lead i j lies =
      by together.0 (All-contains (IsMember g.pair.dual g.points old_heights induced.frst.order) induced.star together.0 induced.frst.is.sound together.1) together.2 together.3 together.4
    where
      together : AreTogether induced.star t.a t.b t.c
      together = corners_together patch induced.star x (induced.induces f within x is) t c unit

      by : (members : List ℕ) → IsMember g.pair.dual g.points old_heights induced.frst.order members → Contains members t.a → Contains members t.b → Contains members t.c
          → IsFirstPositive
          ((height old_heights p -ℤ ((pos 1 -ℤ i -ℤ j) *ℤ height old_heights t.a +ℤ i *ℤ height old_heights t.b +ℤ j *ℤ height old_heights t.c))
          ∷ map (form p t.a t.b t.c (pos 1 -ℤ i -ℤ j) i j) induced.frst.order)
      by members m ca cb cc =
          form_leads g.points m.a m.b m.c m.d t.a t.b t.c p (pos 1 -ℤ i -ℤ j) i j m.ordered.1 m.ordered.2 m.ordered.3
          (named t.a ca) (named t.b cb) (named t.c cc) m.independent (mixed i j lies) pa pb pc old_heights induced.frst.order
          (m.others p (point_within g s f within p o) (λ h. outside (named p h)) tight)
        where
          named : (k : ℕ) → Contains members k → Contains (m.a ∷ m.b ∷ m.c ∷ m.d ∷ []) k
          named k h = subst (λ (ks : List ℕ). Contains ks k) m.is h

          outside : ¬ (Contains (m.a ∷ m.b ∷ m.c ∷ m.d ∷ []) p)
          outside =
              outside_member g.points m.a m.b m.c m.d t.a t.b t.c p (pos 1 -ℤ i -ℤ j) i j m.ordered.1 m.ordered.2 m.ordered.3
              (named t.a ca) (named t.b cb) (named t.c cc) m.independent (mixed i j lies) pa pb pc

          tight : IsTight (entry g.pair.dual m.facet) (at p)
          tight =
              ap (dot (entry g.pair.dual m.facet)) (mixed i j lies)
              ∙ tight_combination (entry g.pair.dual m.facet) (at t.a) (at t.b) (at t.c) i j (m.tight t.a ca) (m.tight t.b cb) (m.tight t.c cc)

  corner_above : IsAbove patch (lifted_heights old_heights induced.frst.order (length g.points)) t.a t.b t.c p
  corner_above = record { s = r.0; t = r.1; lies = r.2; above = above }
    where
      r : (i : ℤ) × (j : ℤ) × (place patch p ≡ reached (place patch t.a) (place patch t.b) (place patch t.c) i j)
      r = unit.reaches p o

      small : (unsigned_abs (pos 1 -ℤ r.0 -ℤ r.1) ≤ factor_bound) × (unsigned_abs r.0 ≤ factor_bound) × (unsigned_abs r.1 ≤ factor_bound)
      small = unit_factors_small patch t.a t.b t.c p r.0 r.1 unit o (point_small g s f within) r.2

      new : ℕ → ℤ
      new = height (lifted_heights old_heights induced.frst.order (length g.points))

      new_is : (k : ℕ) → IsOf patch k → lifted old_heights induced.frst.order k ≡ new k
      new_is k q = (let l = point_within g s f within k q in sym (lifted_height old_heights induced.frst.order (length g.points) k l.0 l.1))

      less : (u v u' v' : ℤ) → u ≡ u' → v ≡ v' → u <ℤ v → u' <ℤ v'
      less u v u' v' e1 e2 l = omega (arith, ints, e1, e2, l)

      above : ((pos 1 -ℤ r.0 -ℤ r.1) *ℤ new t.a +ℤ r.0 *ℤ new t.b +ℤ r.1 *ℤ new t.c) <ℤ new p
      above =
          less _ _ _ _ (λ q. (pos 1 -ℤ r.0 -ℤ r.1) *ℤ new_is t.a unit.points.0 q +ℤ r.0 *ℤ new_is t.b unit.points.1 q +ℤ r.1 *ℤ new_is t.c unit.points.2 q) (new_is p o)
          (lifted_above old_heights induced.frst.order p t.a t.b t.c (pos 1 -ℤ r.0 -ℤ r.1) r.0 r.1 small.0 small.1 small.2 (corners_lead r.0 r.1 r.2))

pub induced_extendable : (g : Shape) (choice : List ℕ) → IsShape g → IsInduced g choice → IsExtendable g choice
induced_extendable g choice s induced = record {
  items = induced.items;
  heights = lifted_heights induced.frst.heights induced.frst.order (length g.points);
  extends = record {
    heights = lifted_length induced.frst.heights induced.frst.order (length g.points);
    lifts = λ f within x is t c p o pa pb pc. corner_above g choice s induced f within x is t c p o pa pb pc;
  };
}
