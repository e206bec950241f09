-- There are few folds on each two-face.
use Rattle.std.proofs.Common.{ℕ, ◌+◌, ◌*◌, ◌<◌, ◌≤◌, ◌⊎◌, inl, inr, ◌&&◌, ap, ◌∙◌, subst, arith, List, [], ◌∷◌, length, get_or}
use Rattle.std.specs.Prelude.{All, Contains}
use Rattle.std.specs.List.{range_with_len}
use Rattle.std.proofs.lemmas.List.{length-append}
use Rattle.std.proofs.lemmas.List.Elements.{All-contains, All-filter, All-weaker, All-same}
use Rattle.ntfe_model.proofs.GeometryPoints.{numbers_of}
use Rattle.ntfe_model.specs.Lists.{IsBefore2}
use Rattle.ntfe_model.specs.Shapes.{Shape, IsShape, face_at, no_face}
use Rattle.ntfe_model.specs.Points.{points_on_both, is_tight, place_of_point, IsFaceOf}
use Rattle.ntfe_model.specs.Pairs.{entry}
use Rattle.ntfe_model.specs.Charts.{Patch, patch_at, IsOf}
use Rattle.ntfe_model.specs.Words.{IsItem}
use Rattle.ntfe_model.specs.Choices.{IsFoldOf, AreFolds, AreOpposite}
use Rattle.ntfe_model.specs.Keys.{AreHeadFolds}
use Rattle.ntfe_model.specs.declared.triangulation.Triangulation.{Triangulation}
use Rattle.ntfe_model.specs.declared.nogood.Fold.{Fold}
use Rattle.ntfe_model.proofs.Listings.{listing_range}
use Rattle.ntfe_model.proofs.Counts.{codes_count, faces_few}
use Rattle.ntfe_model.proofs.Folds.{unit_corner}

-- ---- the points of a two-face

module _ (g : Shape) (s : IsShape g) (f : ℕ) (within : f < length g.faces) where
  abbrev IsKnown : ℕ → Type 0
  IsKnown a = (1 ≤ a) × (a ≤ length g.points)

  pub point_known : (a : ℕ) → IsOf (patch_at g f) a → IsKnown a
  point_known a o =
      let xs = g.points in
      let face = face_at g f in
      let is : IsFaceOf g.pair xs face = s.faces.sound f no_face within in
      let all : All IsKnown face.points = All-same IsKnown face.points (points_on_both g.pair xs face.first face.second) is.points
      (All-filter (λ m. is_tight (entry g.pair.dual face.first) (place_of_point xs m) && is_tight (entry g.pair.dual face.second) (place_of_point xs m)) IsKnown (range_with_len 1 (length xs))
      (All-weaker (λ m. (1 ≤ m) × (m < 1 + length xs)) IsKnown (λ m r. (r.0, (let q = r.1 in omega (arith, q)))) (range_with_len 1 (length xs)) (listing_range 1 (length xs)).sound)) in
      let here : Contains face.points a = subst (λ (ks : List ℕ). Contains ks a) (numbers_of face.points (place_of_point xs)) o in
      All-contains IsKnown face.points a all here

  -- the four points of a fold
  pub fold_known : (n : ℕ) (x : Triangulation) → IsItem (patch_at g f) n x → (r : Fold) → IsFoldOf (patch_at g f) x r → IsKnown r.a × IsKnown r.b × IsKnown r.c × IsKnown r.d
  fold_known n x item r k = by k.opposite
    where
      h : Patch
      h = patch_at g f

      of : (c d : ℕ) → AreOpposite x.triangles r.a r.b c d → IsKnown r.a × IsKnown r.b × IsKnown c × IsKnown d
      of c d o =
          let u = unit_corner h o.0 r.a r.b c (item.is.fine.unit o.0 o.2) o.4 in
          let v = unit_corner h o.1 r.b r.a d (item.is.fine.unit o.1 o.3) o.5 in
          (point_known r.a u.points.0, point_known r.b u.points.1, point_known c u.points.2, point_known d v.points.2)

      by : AreOpposite x.triangles r.a r.b r.c r.d ⊎ AreOpposite x.triangles r.a r.b r.d r.c → IsKnown r.a × IsKnown r.b × IsKnown r.c × IsKnown r.d
      by (inl o) = of r.c r.d o
      by (inr o) = let p = of r.d r.c o in (p.0, p.1, p.3, p.2)

  pub folds_few : (n : ℕ) (x : Triangulation) (rs : List Fold) → IsItem (patch_at g f) n x → AreFolds (patch_at g f) x rs → length rs ≤ 160801
  folds_few n x rs item l =
      let c = codes_count (λ (r : Fold). r.a * 401 + r.b) 160801 0 rs
      (λ i j d p q. order (get_or rs i d).a (get_or rs i d).b (get_or rs j d).a (get_or rs j d).b (range i d (omega (arith, p, q))).1 (l.ordered i j d p q))
      (λ i d p. let k = range i d p in let u = k.0 in let v = k.1 in (omega arith, omega (arith, u, v)))
      (omega arith) in
      omega (arith, c)
    where
      order : (a b i j : ℕ) → b ≤ 400 → IsBefore2 a b i j → a * 401 + b < i * 401 + j
      order a b i j m (inl h) = omega (arith, m, h)
      order a b i j m (inr (e, h)) = omega (arith, e, h)

      range : (i : ℕ) (d : Fold) → i < length rs → ((get_or rs i d).a ≤ 400) × ((get_or rs i d).b ≤ 400)
      range i d p =
          let k = fold_known n x item (get_or rs i d) (l.sound i d p) in
          let few = s.few in
          let u = k.0.1 in
          let v = k.1.1 in
          (omega (arith, few, u), omega (arith, few, v))

-- ---- the folds of a head

head_count : (g : Shape) → IsShape g → (f : ℕ) (ns : List ℕ) (rs : List Fold) → f + length ns ≤ length g.faces → AreHeadFolds g f ns rs → length rs ≤ length ns * 160801
head_count g s f [] rs l h = let e = ap length h in omega (arith, e)
head_count g s f (n ∷ ns) rs l h =
    let a = folds_few g s f (omega (arith, l)) n h.0 h.1 h.3 h.4 in
    let b = head_count g s (f + 1) ns h.2 (omega (arith, l)) h.5 in
    let e = ap length h.6 ∙ length-append h.1 h.2 in
    omega (arith, a, b, e)

pub head_few : (g : Shape) → IsShape g → (ns : List ℕ) (rs : List Fold) → length ns ≤ length g.faces → AreHeadFolds g 0 ns rs → length rs ≤ 679384225
head_few g s ns rs l h =
    let a = head_count g s 0 ns rs (omega (arith, l)) h in
    let b = faces_few g s in
    omega (arith, a, b, l)
