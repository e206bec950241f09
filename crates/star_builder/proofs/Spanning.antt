-- The vertices of a reflexive pair span: only the form 0 has one value at all of them, and the value is 0.
--     spot x vs k      the place of vertex k, counted from 1, and x for 0
--     weight_of h k      1 for a vertex, and h for 0
--     not_flat      they do not all lie in one facet
--     spanning      a gap that is 0 at all vertices is 0
use Rattle.std.proofs.Common.{◌≡◌, ◌≢◌, ℕ, zero, suc, ◌<◌, ◌⊎◌, inl, inr, ⊎_elim, refl, sym, ap, ◌∙◌, arith, ℤ, pos, negsuc, ◌+ℤ◌, ◌-ℤ◌, ◌*ℤ◌, List, [], ◌∷◌, length}
use Rattle.std.specs.Prelude.{Contains}
use Rattle.std.proofs.lemmas.Int.{ints}
use Rattle.std.proofs.lemmas.List.Elements.{Contains-get_or}
use Rattle.ntfe_nums.specs.Vectors.{Vector, origin, dot, det4, multiple}
use Rattle.ntfe_nums.proofs.Ring.{ring}
use Rattle.ntfe_nums.proofs.Ring.Expression.{var, num, plus, minus, times}
use Rattle.ntfe_nums.proofs.DetLemmas.{row, dotE}
use Rattle.ntfe_model.specs.Pairs.{VertexLists}
use Rattle.ntfe_model.specs.Reflexive.{IsTight, IsTightOnFour, IsReflexive, at}
use Rattle.ntfe_model.proofs.PlaneNumbers.{zero_factor}
use Rattle.ntfe_nums.proofs.Exchanges.{same_front}
use Rattle.star_builder.proofs.Normals.{form_fixed, normal_fixed}
use Rattle.ntfe_nums.proofs.Signs.{zero_or}

abbrev pub spot : Vector → List Vector → ℕ → Vector
spot x vs zero = x
spot x vs (suc i) = at vs i

abbrev pub weight_of : ℤ → ℕ → ℤ
weight_of h zero = h
weight_of h (suc i) = pos 1

module _ (p : VertexLists) (r : IsReflexive p) (m : Vector) (within : Contains p.dual m) where
  at_vertex : (i : ℕ) → i < length p.vertices → Contains p.vertices (at p.vertices i)
  at_vertex i l = Contains-get_or p.vertices i origin l

  pub facet_four : IsTightOnFour m p.vertices
  facet_four = r.facets m within

  -- the vertices do not all lie in one facet
  pub not_flat : ((i : ℕ) → i < length p.vertices → IsTight m (at p.vertices i)) → ⊥
  not_flat flat = by (r.corners (at p.vertices facet_four.i) (at_vertex facet_four.i (let q = facet_four.rising in omega (arith, q.0, q.1, q.2, q.3))))
    where
      same : (d : Vector) → Contains p.dual d → d ≡ m
      same d c = by (r.facets d c)
        where
          by : IsTightOnFour d p.vertices → d ≡ m
          by t =
              let q = t.rising in
              normal_fixed d m (at p.vertices t.i) (at p.vertices t.j) (at p.vertices t.k) (at p.vertices t.l) t.four.independent
              (t.four.first ∙ sym (flat t.i (omega (arith, q.0, q.1, q.2, q.3)))) (t.four.second ∙ sym (flat t.j (omega (arith, q.1, q.2, q.3))))
              (t.four.third ∙ sym (flat t.k (omega (arith, q.2, q.3)))) (t.four.fourth ∙ sym (flat t.l q.3))

      by : IsTightOnFour (at p.vertices facet_four.i) p.dual → ⊥
      by t =
          let q = t.rising in
          let e : at p.dual t.i ≡ at p.dual t.j =
          same (at p.dual t.i) (Contains-get_or p.dual t.i origin (omega (arith, q.0, q.1, q.2, q.3))) ∙ sym (same (at p.dual t.j) (Contains-get_or p.dual t.j origin (omega (arith, q.1, q.2, q.3)))) in
          t.four.independent (ap (λ v. det4 v (at p.dual t.j) (at p.dual t.k) (at p.dual t.l)) e ∙ same_front (at p.dual t.j) (at p.dual t.k) (at p.dual t.l))

  module _ (s : ℤ) (n : Vector) (none : (i : ℕ) → i < length p.vertices → s *ℤ pos 1 -ℤ dot n (at p.vertices i) ≡ pos 0) where
    -- n is -s times m
    scaled : (x : Vector) → dot (multiple (pos 0 -ℤ s) m) x ≡ (pos 0 -ℤ s) *ℤ dot m x
    scaled x =
        ring (m.x1 ∷ m.x2 ∷ m.x3 ∷ m.x4 ∷ x.x1 ∷ x.x2 ∷ x.x3 ∷ x.x4 ∷ s ∷ [])
        (dotE (record { x1 = times (minus (num (pos 0)) (var 8)) (var 0); x2 = times (minus (num (pos 0)) (var 8)) (var 1); x3 = times (minus (num (pos 0)) (var 8)) (var 2); x4 = times (minus (num (pos 0)) (var 8)) (var 3) }) (row 4))
        (times (minus (num (pos 0)) (var 8)) (dotE (row 0) (row 4))) refl

    value_is : (i : ℕ) → i < length p.vertices → dot n (at p.vertices i) ≡ s
    value_is i l = by s (dot n (at p.vertices i)) (none i l)
      where
        by : (s d : ℤ) → s *ℤ pos 1 -ℤ d ≡ pos 0 → d ≡ s
        by s d e = omega (arith, ints, e)

    agree : (i : ℕ) → i < length p.vertices → IsTight m (at p.vertices i) → dot n (at p.vertices i) ≡ dot (multiple (pos 0 -ℤ s) m) (at p.vertices i)
    agree i l t = value_is i l ∙ ring (s ∷ []) (var 0) (times (minus (num (pos 0)) (var 0)) (num (negsuc 0))) refl ∙ ap (λ z. (pos 0 -ℤ s) *ℤ z) (sym t) ∙ sym (scaled (at p.vertices i))

    is_multiple : (x : Vector) → dot n x ≡ (pos 0 -ℤ s) *ℤ dot m x
    is_multiple x =
        let q = facet_four.rising in
        let t = facet_four.four in
        form_fixed n (multiple (pos 0 -ℤ s) m) (at p.vertices facet_four.i) (at p.vertices facet_four.j) (at p.vertices facet_four.k) (at p.vertices facet_four.l) t.independent
        (agree facet_four.i (omega (arith, q.0, q.1, q.2, q.3)) t.first) (agree facet_four.j (omega (arith, q.1, q.2, q.3)) t.second) (agree facet_four.k (omega (arith, q.2, q.3)) t.third) (agree facet_four.l q.3 t.fourth) x
        ∙ scaled x

    pub spanning_size : s ≡ pos 0
    spanning_size = ⊎_elim (λ e. e) (λ a. absurd (not_flat (λ i l. tight i l a))) (zero_or s)
      where
        tight : (i : ℕ) → i < length p.vertices → s ≢ pos 0 → IsTight m (at p.vertices i)
        tight i l a = by (zero_factor s (pos 1 +ℤ dot m (at p.vertices i)) (product s (dot m (at p.vertices i)) (sym (is_multiple (at p.vertices i)) ∙ value_is i l)))
          where
            product : (s d : ℤ) → (pos 0 -ℤ s) *ℤ d ≡ s → s *ℤ (pos 1 +ℤ d) ≡ pos 0
            product s d e = ring (s ∷ d ∷ []) (times (var 0) (plus (num (pos 1)) (var 1))) (minus (var 0) (times (minus (num (pos 0)) (var 0)) (var 1))) refl ∙ zero_less ((pos 0 -ℤ s) *ℤ d) s e
              where
                zero_less : (y s : ℤ) → y ≡ s → s -ℤ y ≡ pos 0
                zero_less y s e = omega (arith, ints, e)

            by : (s ≡ pos 0) ⊎ (pos 1 +ℤ dot m (at p.vertices i) ≡ pos 0) → dot m (at p.vertices i) ≡ negsuc 0
            by (inl e) = absurd (a e)
            by (inr e) = less (dot m (at p.vertices i)) e
              where
                less : (d : ℤ) → pos 1 +ℤ d ≡ pos 0 → d ≡ negsuc 0
                less d e = omega (arith, ints, e)

    pub spanning_form : (x : Vector) → dot n x ≡ pos 0
    spanning_form x = is_multiple x ∙ ap (λ z. (pos 0 -ℤ z) *ℤ dot m x) spanning_size ∙ ring (dot m x ∷ []) (times (minus (num (pos 0)) (num (pos 0))) (var 0)) (num (pos 0)) refl
