-- Three points of a facet with all of the facet on one side of them lie in another facet.
--     second_facet      the other facet
use Rattle.std.proofs.Common.{◌≡◌, ◌≢◌, ℕ, zero, suc, ◌+◌, ◌-◌, ◌<◌, ◌≤◌, ◌⊎◌, inl, inr, ⊎_elim, refl, sym, ap, ◌∙◌, subst, arith, ℤ, pos, negsuc, ◌+ℤ◌, ◌-ℤ◌, ◌*ℤ◌, ◌<ℤ◌, ◌≤ℤ◌, List, [], ◌∷◌, length}
use Rattle.std.specs.Prelude.{Contains}
use Rattle.std.specs.List.{range_with_len}
use Rattle.std.proofs.lemmas.Int.{ints}
use Rattle.std.proofs.lemmas.List.{get_or_default}
use Rattle.std.proofs.lemmas.List.Elements.{All-contains, Contains-get_or}
use Rattle.ntfe_nums.specs.Vectors.{Vector, origin, dot, det4, cofactors, vector_sum, difference, multiple}
use Rattle.ntfe_nums.proofs.Ring.{ring}
use Rattle.ntfe_nums.proofs.Ring.Expression.{var, num, minus, plus, times}
use Rattle.ntfe_nums.proofs.DetLemmas.{row, dotE, det4-cofactors}
use Rattle.ntfe_model.specs.Lists.{IsNumberOf}
use Rattle.ntfe_model.specs.Pairs.{entry}
use Rattle.ntfe_model.specs.Reflexive.{IsTight, at}
use Rattle.ntfe_model.specs.Points.{place_of_point}
use Rattle.ntfe_model.specs.Shapes.{Shape, IsShape}
use Rattle.ntfe_model.proofs.Entries.{entry-at}
use Rattle.ntfe_model.proofs.Listings.{listing_range}
use Rattle.ntfe_nums.proofs.Exchanges.{same_first, same_second, same_third}
use Rattle.star_builder.proofs.FacetMembers.{lifted_over}
use Rattle.star_builder.proofs.Flanks.{numbers_of, number_within}
use Rattle.star_builder.proofs.Hulls.{hull_over}
use Rattle.star_builder.proofs.Rises.{gap}
use Rattle.star_builder.proofs.Spanning.{spot, weight_of}
use Rattle.star_builder.proofs.Supports.{tight_points, in_tight}
use Rattle.star_builder.proofs.VertexPoints.{vertex_number, number_point}
use Rattle.star_builder.proofs.Searches.{some_or_all}
use Rattle.ntfe_nums.proofs.Signs.{above_zero, product_not_negative, same_or, square_positive, zero_or, zero_out}

-- ---- a vector beyond a ridge

module _ (a b c d : Vector) (t : ℤ) where
  -- t times the sum of a, b and c, and on from d
  abbrev pub beyond : Vector
  beyond = vector_sum (multiple t (vector_sum (vector_sum a b) c)) (difference (vector_sum (vector_sum a b) c) (multiple (pos 3) d))

  pub beyond_value : (f : Vector) → dot f beyond ≡ t *ℤ (dot f a +ℤ dot f b +ℤ dot f c) +ℤ ((dot f a +ℤ dot f b +ℤ dot f c) -ℤ pos 3 *ℤ dot f d)
  beyond_value f =
      let s = λ (i : ℕ). plus (plus (var i) (var (i + 4))) (var (i + 8)) in
      let x = λ (i : ℕ). plus (times (var 20) (s i)) (minus (s i) (times (num (pos 3)) (var (i + 12)))) in
      let sum = plus (plus (dotE (row 16) (row 0)) (dotE (row 16) (row 4))) (dotE (row 16) (row 8)) in
      ring (a.x1 ∷ a.x2 ∷ a.x3 ∷ a.x4 ∷ b.x1 ∷ b.x2 ∷ b.x3 ∷ b.x4 ∷ c.x1 ∷ c.x2 ∷ c.x3 ∷ c.x4 ∷ d.x1 ∷ d.x2 ∷ d.x3 ∷ d.x4 ∷ f.x1 ∷ f.x2 ∷ f.x3 ∷ f.x4 ∷ t ∷ [])
      (dotE (row 16) (record { x1 = x 0; x2 = x 1; x3 = x 2; x4 = x 3 }))
      (plus (times (var 20) sum) (minus sum (times (num (pos 3)) (dotE (row 16) (row 12))))) refl

-- three values of at least -1 that are not all -1
above_all : (x y z : ℤ) → negsuc 0 ≤ℤ x → negsuc 0 ≤ℤ y → negsuc 0 ≤ℤ z → ¬ (x +ℤ y +ℤ z +ℤ pos 3 ≡ pos 0) → pos 0 ≤ℤ (x +ℤ y +ℤ z +ℤ pos 2)
above_all x y z lx ly lz n = less (x +ℤ y +ℤ z) (above_zero (x +ℤ y +ℤ z +ℤ pos 3) (omega (arith, ints, lx, ly, lz)) n)
  where
    less : (u : ℤ) → pos 0 <ℤ (u +ℤ pos 3) → pos 0 ≤ℤ (u +ℤ pos 2)
    less u l = omega (arith, ints, l)

enough : (l u y z : ℤ) → pos 0 ≤ℤ l → pos 0 ≤ℤ (y +ℤ l) → pos 0 ≤ℤ (u +ℤ pos 2) → z ≡ (l +ℤ pos 1) *ℤ u +ℤ y → pos 0 ≤ℤ (pos 3 *ℤ (l +ℤ pos 1) +ℤ z)
enough l u y z hl hy hu e =
    by (l *ℤ (u +ℤ pos 2)) (u +ℤ pos 2) (y +ℤ l) (pos 3 *ℤ (l +ℤ pos 1) +ℤ z) (product_not_negative l (u +ℤ pos 2) hl hu) hu hy
    (ap (λ q. pos 3 *ℤ (l +ℤ pos 1) +ℤ q) e
    ∙ ring (l ∷ u ∷ y ∷ []) (plus (times (num (pos 3)) (plus (var 0) (num (pos 1)))) (plus (times (plus (var 0) (num (pos 1))) (var 1)) (var 2)))
    (plus (times (var 0) (plus (var 1) (num (pos 2)))) (plus (plus (var 1) (num (pos 2))) (plus (plus (var 2) (var 0)) (num (pos 1))))) refl)
  where
    by : (a b c d : ℤ) → pos 0 ≤ℤ a → pos 0 ≤ℤ b → pos 0 ≤ℤ c → d ≡ a +ℤ (b +ℤ (c +ℤ pos 1)) → pos 0 ≤ℤ d
    by a b c d la lb lc q = omega (arith, ints, la, lb, lc, q)

module _ (g : Shape) (s : IsShape g) (facet : ℕ) (number : IsNumberOf g.pair.dual facet) where
  abbrev m : Vector
  m = entry g.pair.dual facet

  abbrev place : ℕ → Vector
  place = place_of_point g.points

  -- a dual vertex is at least -1 at each point
  pub point_over : (f : Vector) → Contains g.pair.dual f → (k : ℕ) → IsNumberOf g.points k → negsuc 0 ≤ℤ dot f (place k)
  point_over f h k n = All-contains (λ f. negsuc 0 ≤ℤ dot f (place_of_point g.points k)) g.pair.dual f (number_point g s k n).inside.hull h

  entry_in : (f : ℕ) → IsNumberOf g.pair.dual f → Contains g.pair.dual (entry g.pair.dual f)
  entry_in f n = Contains-get_or g.pair.dual (f - 1) origin (omega (arith, n.0, n.1))

  module _ (i j k without : ℕ) (ni : IsNumberOf g.points i) (nj : IsNumberOf g.points j) (nk : IsNumberOf g.points k) (nw : IsNumberOf g.points without)
      (ti : IsTight m (place i)) (tj : IsTight m (place j)) (tk : IsTight m (place k)) (tw : IsTight m (place without))
      (independent : det4 (place i) (place j) (place k) (place without) ≢ pos 0)
      (one_side : (z : ℕ) → Contains (tight_points m g.points) z → pos 0 ≤ℤ (det4 (place i) (place j) (place k) (place without) *ℤ det4 (place i) (place j) (place k) (place z))) where
    abbrev det : ℤ
    det = det4 (place i) (place j) (place k) (place without)

    abbrev total : Vector → ℤ
    total f = dot f (place i) +ℤ dot f (place j) +ℤ dot f (place k)

    -- another facet that has the three points
    abbrev pub IsSecond : ℕ → Type 0
    IsSecond f = IsNumberOf g.pair.dual f × (f ≢ facet) × IsTight (entry g.pair.dual f) (place i) × IsTight (entry g.pair.dual f) (place j) × IsTight (entry g.pair.dual f) (place k)

    abbrev Has : ℕ → Type 0
    Has f = (f ≢ facet) × (total (entry g.pair.dual f) +ℤ pos 3 ≡ pos 0)

    decide : (f : ℕ) → Has f ⊎ ¬ (Has f)
    decide f = ⊎_elim (λ e. inr (λ h. h.0 e)) (λ n. ⊎_elim (λ z. inl (n, z)) (λ z. inr (λ h. z h.1)) (zero_or (total (entry g.pair.dual f) +ℤ pos 3))) (same_or f facet)

    abbrev facets : List ℕ
    facets = range_with_len 1 (length g.pair.dual)

    second : (f : ℕ) → Contains facets f → Has f → IsSecond f
    second f h q =
        let w = All-contains (λ i. (1 ≤ i) × (i < 1 + length g.pair.dual)) facets f (listing_range 1 (length g.pair.dual)).sound h in
        let n : IsNumberOf g.pair.dual f = (w.0, omega (arith, w.1)) in
        let v = entry g.pair.dual f in
        let o = entry_in f n in
        let t = tight_each (dot v (place i)) (dot v (place j)) (dot v (place k)) (point_over v o i ni) (point_over v o j nj) (point_over v o k nk) q.1 in
        (n, q.0, t.0, t.1, t.2)
      where
        tight_each : (x y z : ℤ) → negsuc 0 ≤ℤ x → negsuc 0 ≤ℤ y → negsuc 0 ≤ℤ z → x +ℤ y +ℤ z +ℤ pos 3 ≡ pos 0 → (x ≡ negsuc 0) × (y ≡ negsuc 0) × (z ≡ negsuc 0)
        tight_each x y z lx ly lz e = (omega (arith, ints, lx, ly, lz, e), omega (arith, ints, lx, ly, lz, e), omega (arith, ints, lx, ly, lz, e))

    -- ---- where there is none

    module _ (none : (f : ℕ) → Contains facets f → ¬ (Has f)) where
      -- how far the other facets let one go on
      reach : (l : ℤ) × (pos 0 ≤ℤ l) × ((f : Vector) → Contains g.pair.dual f → pos 0 ≤ℤ ((total f -ℤ pos 3 *ℤ dot f (place without)) +ℤ l))
      reach = lifted_over (λ f. total f -ℤ pos 3 *ℤ dot f (place without)) g.pair.dual

      abbrev t : ℤ
      t = reach.0 +ℤ pos 1

      abbrev x : Vector
      x = beyond (place i) (place j) (place k) (place without) t

      abbrev scale : ℤ
      scale = pos 3 *ℤ t

      scale_positive : pos 0 <ℤ scale
      scale_positive = by reach.0 reach.1
        where
          by : (l : ℤ) → pos 0 ≤ℤ l → pos 0 <ℤ (pos 3 *ℤ (l +ℤ pos 1))
          by l h = omega (arith, ints, h)

      level : dot m x ≡ pos 0 -ℤ scale
      level =
          beyond_value (place i) (place j) (place k) (place without) t m
          ∙ (λ q. t *ℤ (ti q +ℤ tj q +ℤ tk q) +ℤ ((ti q +ℤ tj q +ℤ tk q) -ℤ pos 3 *ℤ tw q))
          ∙ ring (t ∷ []) (plus (times (var 0) (num (negsuc 2))) (minus (num (negsuc 2)) (num (negsuc 2)))) (minus (num (pos 0)) (times (num (pos 3)) (var 0))) refl

      -- x is in the polytope, scaled
      inside : (f : Vector) → Contains g.pair.dual f → pos 0 ≤ℤ (scale +ℤ dot f x)
      inside f h = ⊎_elim here there (same_or (h.0 + 1) facet)
        where
          named : entry g.pair.dual (h.0 + 1) ≡ f
          named = entry-at g.pair.dual h.0 ∙ get_or_default g.pair.dual h.0 origin f h.1 ∙ h.2

          here : h.0 + 1 ≡ facet → pos 0 ≤ℤ (pos 3 *ℤ (reach.0 +ℤ pos 1) +ℤ dot f (beyond (place_of_point g.points i) (place_of_point g.points j) (place_of_point g.points k) (place_of_point g.points without) (reach.0 +ℤ pos 1)))
          here e = by scale (dot f x) (ap (λ v. dot v x) (sym named ∙ ap (entry g.pair.dual) e) ∙ level)
            where
              by : (k d : ℤ) → d ≡ pos 0 -ℤ k → pos 0 ≤ℤ (k +ℤ d)
              by k d q = omega (arith, ints, q)

          there : h.0 + 1 ≢ facet → pos 0 ≤ℤ (pos 3 *ℤ (reach.0 +ℤ pos 1) +ℤ dot f (beyond (place_of_point g.points i) (place_of_point g.points j) (place_of_point g.points k) (place_of_point g.points without) (reach.0 +ℤ pos 1)))
          there n =
              enough reach.0 (total f) (total f -ℤ pos 3 *ℤ dot f (place without)) (dot f x) reach.1 (reach.2 f h)
              (above_all (dot f (place i)) (dot f (place j)) (dot f (place k)) (point_over f h i ni) (point_over f h j nj) (point_over f h k nk)
              (λ z. none (h.0 + 1) ((listing_range 1 (length g.pair.dual)).complete (h.0 + 1) (omega arith, (let l = h.1 in omega (arith, l)))) (n, ap (λ v. total v +ℤ pos 3) named ∙ z)))
              (beyond_value (place i) (place j) (place k) (place without) t f)

      -- ---- a form that no vertex lies below, and that is negative at x

      abbrev ridge : Vector
      ridge = cofactors (place i) (place j) (place k)

      lift : (l : ℤ) × (pos 0 ≤ℤ l) × ((v : Vector) → Contains g.pair.vertices v → pos 0 ≤ℤ (det *ℤ dot ridge v +ℤ l))
      lift = lifted_over (λ v. det *ℤ dot ridge v) g.pair.vertices

      abbrev form : Vector
      form = difference (multiple (pos 0 -ℤ lift.0) m) (multiple det ridge)

      form_value : (h : ℤ) (v : Vector) → lift.0 *ℤ h -ℤ dot form v ≡ lift.0 *ℤ (h +ℤ dot m v) +ℤ det *ℤ dot ridge v
      form_value h v = by lift.0 det ridge m
        where
          by : (l d : ℤ) (c m : Vector) → l *ℤ h -ℤ dot (difference (multiple (pos 0 -ℤ l) m) (multiple d c)) v ≡ l *ℤ (h +ℤ dot m v) +ℤ d *ℤ dot c v
          by l d c m =
              let f = λ (i : ℕ). minus (times (minus (num (pos 0)) (var 12)) (var i)) (times (var 13) (var (i + 4))) in
              ring (m.x1 ∷ m.x2 ∷ m.x3 ∷ m.x4 ∷ c.x1 ∷ c.x2 ∷ c.x3 ∷ c.x4 ∷ v.x1 ∷ v.x2 ∷ v.x3 ∷ v.x4 ∷ l ∷ d ∷ h ∷ [])
              (minus (times (var 12) (var 14)) (dotE (record { x1 = f 0; x2 = f 1; x3 = f 2; x4 = f 3 }) (row 8)))
              (plus (times (var 12) (plus (var 14) (dotE (row 0) (row 8)))) (times (var 13) (dotE (row 4) (row 8)))) refl

      -- a vertex of the facet is on the one side
      vertex_side : (v : Vector) → Contains g.pair.vertices v → IsTight m v → pos 0 ≤ℤ (det *ℤ dot ridge v)
      vertex_side v h e =
          let r = vertex_number g.pair g.points s.reflexive s.points v h in
          subst (λ q. pos 0 ≤ℤ (det *ℤ q)) (ap (λ q. det4 (place i) (place j) (place k) q) r.2 ∙ det4-cofactors (place i) (place j) (place k) v)
          (one_side r.0 (in_tight m g.points r.0 r.1 (subst (λ q. IsTight m q) (sym r.2) e)))

      vertex_over : (v : Vector) → Contains g.pair.vertices v → pos 0 ≤ℤ (lift.0 *ℤ pos 1 -ℤ dot form v)
      vertex_over v h = subst (λ q. pos 0 ≤ℤ q) (sym (form_value (pos 1) v)) (⊎_elim on off (zero_or (pos 1 +ℤ dot m v)))
        where
          on : pos 1 +ℤ dot m v ≡ pos 0 → pos 0 ≤ℤ (lift.0 *ℤ (pos 1 +ℤ dot m v) +ℤ det *ℤ dot ridge v)
          on e = by (lift.0 *ℤ (pos 1 +ℤ dot m v)) (det *ℤ dot ridge v) (zero_out lift.0 (pos 1 +ℤ dot m v) e) (vertex_side v h (tight (dot m v) e))
            where
              tight : (d : ℤ) → pos 1 +ℤ d ≡ pos 0 → d ≡ negsuc 0
              tight d q = omega (arith, ints, q)

              by : (a b : ℤ) → a ≡ pos 0 → pos 0 ≤ℤ b → pos 0 ≤ℤ (a +ℤ b)
              by a b q l = omega (arith, ints, q, l)

          off : pos 1 +ℤ dot m v ≢ pos 0 → pos 0 ≤ℤ (lift.0 *ℤ (pos 1 +ℤ dot m v) +ℤ det *ℤ dot ridge v)
          off n =
              by lift.0 (dot m v) (lift.0 *ℤ dot m v) (det *ℤ dot ridge v) (product_not_negative lift.0 (dot m v) lift.1 (less (dot m v) (above_zero (pos 1 +ℤ dot m v) (low (dot m v) (s.reflexive.within m v (entry_in facet number) h)) n)))
              (lift.2 v h) (ring (lift.0 ∷ dot m v ∷ []) (times (var 0) (plus (num (pos 1)) (var 1))) (plus (var 0) (times (var 0) (var 1))) refl)
            where
              low : (d : ℤ) → negsuc 0 ≤ℤ d → pos 0 ≤ℤ (pos 1 +ℤ d)
              low d l = omega (arith, ints, l)

              less : (d : ℤ) → pos 0 <ℤ (pos 1 +ℤ d) → pos 0 ≤ℤ d
              less d l = omega (arith, ints, l)

              by : (l d ld b : ℤ) → pos 0 ≤ℤ ld → pos 0 ≤ℤ (b +ℤ l) → l *ℤ (pos 1 +ℤ d) ≡ l +ℤ ld → pos 0 ≤ℤ (l *ℤ (pos 1 +ℤ d) +ℤ b)
              by l d ld b h1 h2 e = subst (λ q. pos 0 ≤ℤ (q +ℤ b)) (sym e) (omega (arith, ints, h1, h2))

      under : (z : ℕ) → Contains (numbers_of g.pair.vertices) z → pos 0 ≤ℤ gap (spot x g.pair.vertices) (weight_of scale) lift.0 form z
      under zero h = absurd (let w = number_within g.pair.vertices zero h in omega (arith, w.0))
      under (suc z) h = vertex_over (at g.pair.vertices z) (Contains-get_or g.pair.vertices z origin (let w = number_within g.pair.vertices (suc z) h in omega (arith, w.1)))

      negative : lift.0 *ℤ scale -ℤ dot form x ≡ pos 0 -ℤ pos 3 *ℤ (det *ℤ det)
      negative =
          form_value scale x
          ∙ (λ q. lift.0 *ℤ (scale +ℤ level q) +ℤ det *ℤ beyond_value (place i) (place j) (place k) (place without) t ridge q)
          ∙ (λ q. lift.0 *ℤ (scale +ℤ (pos 0 -ℤ scale)) +ℤ det *ℤ (t *ℤ (first q +ℤ second_zero q +ℤ third q) +ℤ ((first q +ℤ second_zero q +ℤ third q) -ℤ pos 3 *ℤ sym (det4-cofactors (place i) (place j) (place k) (place without)) q)))
          ∙ ring (lift.0 ∷ scale ∷ det ∷ t ∷ [])
          (plus (times (var 0) (plus (var 1) (minus (num (pos 0)) (var 1)))) (times (var 2) (plus (times (var 3) (plus (plus (num (pos 0)) (num (pos 0))) (num (pos 0)))) (minus (plus (plus (num (pos 0)) (num (pos 0))) (num (pos 0))) (times (num (pos 3)) (var 2))))))
          (minus (num (pos 0)) (times (num (pos 3)) (times (var 2) (var 2)))) refl
        where
          first : dot (cofactors (place_of_point g.points i) (place_of_point g.points j) (place_of_point g.points k)) (place_of_point g.points i) ≡ pos 0
          first = sym (det4-cofactors (place i) (place j) (place k) (place i)) ∙ same_first (place i) (place j) (place k)

          second_zero : dot (cofactors (place_of_point g.points i) (place_of_point g.points j) (place_of_point g.points k)) (place_of_point g.points j) ≡ pos 0
          second_zero = sym (det4-cofactors (place i) (place j) (place k) (place j)) ∙ same_second (place i) (place j) (place k)

          third : dot (cofactors (place_of_point g.points i) (place_of_point g.points j) (place_of_point g.points k)) (place_of_point g.points k) ≡ pos 0
          third = sym (det4-cofactors (place i) (place j) (place k) (place k)) ∙ same_third (place i) (place j) (place k)

      none_absurd : ⊥
      none_absurd =
          clash (lift.0 *ℤ scale -ℤ dot form x) (det *ℤ det) negative (square_positive det independent)
          (hull_over g.pair s.reflexive m (entry_in facet number) x scale scale_positive level inside lift.0 form under)
        where
          clash : (y z : ℤ) → y ≡ pos 0 -ℤ pos 3 *ℤ z → pos 0 <ℤ z → pos 0 ≤ℤ y → ⊥
          clash y z e l o = absurd (omega (arith, ints, e, l, o))

    pub second_facet : (f : ℕ) × IsSecond f
    second_facet = ⊎_elim (λ h. (h.0, second h.0 h.1 h.2)) (λ none. absurd (none_absurd none)) (some_or_all Has (λ f. ¬ (Has f)) decide facets)
