-- The triples that a star leaves on a two-face as a list, and a triangulation with these triples.
--     left_triples      the list
--     fine_leaves      the star leaves any triangulation that has the triples of the list
use Rattle.std.proofs.Common.{◌≡◌, ℕ, ◌<◌, inl, inr, ⊎_elim, sym, subst, arith, pos, ◌<ℤ◌, List, [], ◌∷◌, map, length}
use Rattle.std.specs.Prelude.{Contains, flat_map, ◌↔◌}
use Rattle.ntfe_model.proofs.Lists.{Contains-map}
use Rattle.ntfe_model.specs.Shapes.{Shape, IsShape}
use Rattle.ntfe_model.specs.Charts.{Patch, patch_at, spot_numbers, turn, IsOf}
use Rattle.ntfe_model.specs.Triangulations.{IsRotationOf, IsTripleOf, IsFine}
use Rattle.ntfe_model.specs.Stars.{IsFrst, IsLeft, AreTogether, AreCorners, Leaves}
use Rattle.ntfe_model.specs.declared.triangle.Triangle.{Triangle}
use Rattle.ntfe_model.specs.declared.triangulation.Triangulation.{Triangulation}
use Rattle.ntfe_model.proofs.FoldPlanes.{at_corner}
use Rattle.ntfe_model.proofs.Listings.{Contains-here, Contains-there, Contains-cases, Contains-none, Contains-flat_map}
use Rattle.ntfe_model.proofs.PlaneNumbers.{sign_positive}
use Rattle.ntfe_model.proofs.Triples.{Decided, decide_both, decide_all3, same_self, corner_same, decide_integer, decide_listed}
use Rattle.ntfe_model.proofs.UnitTriples.{area_of}
use Rattle.star_builder.proofs.CentreTriples.{area_odd}
use Rattle.star_builder.proofs.FaceTriples.{together_area}
use Rattle.star_builder.proofs.Decisions.{decide_less, two_signs}
use Rattle.star_builder.proofs.FineRestrictions.{restriction_fine}
use Rattle.star_builder.proofs.Searches.{some_or_all}

-- ---- what is decided, entry by entry

decide_some : {A : Type 0} (P : A → Type 0) → ((x : A) → Decided (P x)) → (xs : List A) → Decided ((x : A) × Contains xs x × P x)
decide_some P decide xs = ⊎_elim inl (λ none. inr (λ r. none r.0 r.1 r.2)) (some_or_all P (λ x. ¬ (P x)) decide xs)

-- the entries with a property
record IsKept {A : Type 0} (P : A → Type 0) (xs ys : List A) : Type 0 where
  sound : (x : A) → Contains ys x → P x
  complete : (x : A) → Contains xs x → P x → Contains ys x

kept : {A : Type 0} (P : A → Type 0) → ((x : A) → Decided (P x)) → (xs : List A) → (ys : List A) × IsKept P xs ys
kept P decide [] = ([], record { sound = λ x c. Contains-none x c; complete = λ x c p. Contains-none x c })
kept {A} P decide (z ∷ zs) = by (decide z) (kept P decide zs)
  where
    by : Decided (P z) → (ys : List A) × IsKept P zs ys → (ys : List A) × IsKept P (z ∷ zs) ys
    by (inl p) (ys, k) = (
      z ∷ ys,
      record {
        sound = λ x c. ⊎_elim (λ e. subst P (sym e) p) (k.sound x) (Contains-cases x z ys c);
        complete = λ x c q. ⊎_elim (λ e. Contains-here x z ys e) (λ d. Contains-there x z ys (k.complete x d q)) (Contains-cases x z zs c);
      },
    )
    by (inr n) (ys, k) = (
      ys,
      record { sound = k.sound; complete = λ x c q. ⊎_elim (λ e. absurd (n (subst P e q))) (λ d. k.complete x d q) (Contains-cases x z zs c) },
    )

-- ---- the triples that are left

module _ (h : Patch) (star : List (List ℕ)) where
  decide_together : (a b c : ℕ) → Decided (AreTogether star a b c)
  decide_together a b c =
      ⊎_elim (λ r. inl (r.0, r.1, r.2.0, r.2.1, r.2.2)) (λ n. inr (λ r. n (r.0, r.1, (r.2, r.3, r.4))))
      (decide_some (λ s. Contains s a × Contains s b × Contains s c) (λ s. decide_all3 (decide_listed s a) (decide_listed s b) (decide_listed s c)) star)

  decide_left : (t : Triangle) → Decided (IsLeft h star t)
  decide_left t =
      by (decide_all3 (decide_listed (spot_numbers h) t.a) (decide_listed (spot_numbers h) t.b) (decide_listed (spot_numbers h) t.c)) (decide_together t.a t.b t.c)
      (decide_integer (turn h t.a t.b t.c) (pos 1)) (decide_both (decide_less t.a t.b) (decide_less t.a t.c))
    where
      by : Decided (IsOf h t.a × IsOf h t.b × IsOf h t.c) → Decided (AreTogether star t.a t.b t.c) → Decided (turn h t.a t.b t.c ≡ pos 1) → Decided ((t.a < t.b) × (t.a < t.c)) → Decided (IsLeft h star t)
      by (inl o) (inl m) (inl e) (inl l) = inl (record { points = o; together = m; turned = e; least = l })
      by (inr n) m e l = inr (λ r. n r.points)
      by (inl o) (inr n) e l = inr (λ r. n r.together)
      by (inl o) (inl m) (inr n) l = inr (λ r. n r.turned)
      by (inl o) (inl m) (inl e) (inr n) = inr (λ r. n r.least)

  all_triples : List ℕ → List Triangle
  all_triples ks = flat_map (λ a. flat_map (λ b. map (λ c. record { a = a; b = b; c = c }) ks) ks) ks

  in_all : (ks : List ℕ) (t : Triangle) → Contains ks t.a → Contains ks t.b → Contains ks t.c → Contains (all_triples ks) t
  unfolding all_triples
  in_all ks t ia ib ic =
      Contains-flat_map (λ a. flat_map (λ b. map (λ c. record { a = a; b = b; c = c }) ks) ks) ks t.a t ia
      (Contains-flat_map (λ b. map (λ c. record { a = t.a; b = b; c = c }) ks) ks t.b t ib (Contains-map (λ c. record { a = t.a; b = t.b; c = c }) ks t.c ic))

  -- the list has exactly the triples that are left
  pub record AreLeftTriples (ts : List Triangle) : Type 0 where
    pub sound : (t : Triangle) → Contains ts t → IsLeft h star t
    pub complete : (t : Triangle) → IsLeft h star t → Contains ts t

  pub left_triples : (ts : List Triangle) × AreLeftTriples ts
  left_triples =
      (let r = kept (IsLeft h star) decide_left (all_triples (spot_numbers h)) in
      (r.0, record { sound = r.1.sound; complete = λ t l. r.1.complete t (in_all (spot_numbers h) t l.points.0 l.points.1 l.points.2) l }))

-- ---- a triangulation with these triples

module _ (g : Shape) (s : IsShape g) (star : List (List ℕ)) (frst : IsFrst g.pair.dual g.points star) (f : ℕ) (within : f < length g.faces) (ts : List Triangle)
    (left : AreLeftTriples (patch_at g f) star ts) where
  pub left_fine : IsFine (patch_at g f) ts
  left_fine = restriction_fine g s star frst f within ts left.sound left.complete

  module _ (x : Triangulation) (same : (t : Triangle) → IsTripleOf ts t ↔ IsTripleOf x.triangles t) where
    -- what is left is in the triangulation
    left_corners : (t : Triangle) → IsLeft (patch_at g f) star t → (u : Triangle) × Contains x.triangles u × IsRotationOf u t.a t.b t.c
    left_corners t l = (let r = (same t).0 (t, left.complete t l, same_self t) in (r.0, r.1, r.2))

    together_corners : (a b c : ℕ) → a < b → b < c → IsOf (patch_at g f) a → IsOf (patch_at g f) b → IsOf (patch_at g f) c → AreTogether star a b c → AreCorners x.triangles a b c
    together_corners a b c ab bc oa ob oc m =
        ⊎_elim
        (λ l. (let r = left_corners (record { a = a; b = b; c = c }) (record { points = (oa, ob, oc); together = m; turned = sign_positive (area_of (patch_at g f) a b c) l; least = (ab, below) }) in (r.0, r.1, inl r.2)))
        (λ l. (let r = left_corners (record { a = a; b = c; c = b }) (record { points = (oa, oc, ob); together = (m.0, m.1, m.2, m.4, m.3); turned = sign_positive (area_of (patch_at g f) a c b) (subst (λ z. pos 0 <ℤ z) (sym (area_odd (patch_at g f) a b c)) l); least = (below, ab) }) in (r.0, r.1, inr r.2)))
        (two_signs (area_of (patch_at g f) a b c) (together_area g s frst.heights frst.order frst.order_of_all star frst.is f within a b c oa ob oc ab bc m))
      where
        below : a < c
        below = omega (arith, ab, bc)

    corner_together : (t : Triangle) → Contains x.triangles t → (a b c : ℕ) → IsRotationOf t a b c → AreTogether star a b c
    corner_together t i a b c r =
        (let u = (same t).1 (t, i, same_self t) in
        at_corner (AreTogether star) (λ a b c m. (m.0, m.1, m.3, m.4, m.2)) u.0 a b c (corner_same u.0 t a b c u.2 r) (left.sound u.0 u.1).together)

    corners_together : (a b c : ℕ) → AreCorners x.triangles a b c → AreTogether star a b c
    corners_together a b c (t, i, inl r) = corner_together t i a b c r
    corners_together a b c (t, i, inr r) = (let m = corner_together t i a c b r in (m.0, m.1, m.2, m.4, m.3))

    pub fine_leaves : Leaves (patch_at g f) star x
    fine_leaves a b c ab bc oa ob oc = (together_corners a b c ab bc oa ob oc, corners_together a b c)
