-- From the first four places, counted from 0, to the least numbers, counted from 1.
use Rattle.std.proofs.Common.{◌≡◌, ℕ, ◌+◌, ◌-◌, ◌<◌, ◌≤◌, ⊎_elim, subst, arith, length, Option, None, Some, MatchOption}
use Rattle.ntfe_model.specs.Lists.{IsBefore2, IsBefore4, IsLeast4}
use Rattle.ntfe_model.specs.Pairs.{VertexLists}
use Rattle.ntfe_model.specs.Reflexive.{AreRising, IsCovered, IsOtherFacet}
use Rattle.reflexive_pair.specs.Fours.{Test, NoFirst, IsFirst}
use Rattle.reflexive_pair.specs.Uncovered.{IsUncovered, AreWithinPlaces}

-- what comes before the first four, by its numbers, has failed
module _ (passed failed : Test) (n i j k l : ℕ) (f : IsFirst passed failed n (i, j, k, l)) (a b c d : ℕ) (positive : 1 ≤ a) (ab : a < b) (bc : b < c) (cd : c < d) (within : d ≤ n) where
  failed_before : IsBefore4 a b c d (i + 1) (j + 1) (k + 1) (l + 1) → failed (a - 1) (b - 1) (c - 1) (d - 1)
  failed_before earlier =
      ⊎_elim
      (λ (pair : IsBefore2 a b (i + 1) (j + 1)). ⊎_elim {C = failed (a - 1) (b - 1) (c - 1) (d - 1)}
      (λ (lt : a < i + 1). f.1 (a - 1) (omega arith) (b - 1) (omega arith) (omega arith) (c - 1) (omega arith) (omega arith) (d - 1) (omega arith) (omega arith))
      (λ (s : (a ≡ i + 1) × (b < j + 1)).
      let P : ℕ → Type 0 = λ x. failed x (b - 1) (c - 1) (d - 1) in
      let first : i ≡ a - 1 = omega arith in
      subst P first (f.0.2 (b - 1) (omega arith) (omega arith) (c - 1) (omega arith) (omega arith) (d - 1) (omega arith) (omega arith))) pair)
      (λ (s : (a ≡ i + 1) × (b ≡ j + 1) × IsBefore2 c d (k + 1) (l + 1)).
      let first : i ≡ a - 1 = omega arith in
      let second : j ≡ b - 1 = omega arith in
      ⊎_elim {C = failed (a - 1) (b - 1) (c - 1) (d - 1)}
      (λ (lt : c < k + 1).
      let P : ℕ → Type 0 = λ x. failed x (b - 1) (c - 1) (d - 1) in
      let Q : ℕ → Type 0 = λ y. failed i y (c - 1) (d - 1) in
      subst P first (subst Q second (f.0.1.2 (c - 1) (omega arith) (omega arith) (d - 1) (omega arith) (omega arith))))
      (λ (t : (c ≡ k + 1) × (d < l + 1)).
      let third : k ≡ c - 1 = omega arith in
      let P : ℕ → Type 0 = λ x. failed x (b - 1) (c - 1) (d - 1) in
      let Q : ℕ → Type 0 = λ y. failed i y (c - 1) (d - 1) in
      let R : ℕ → Type 0 = λ z. failed i j z (d - 1) in
      subst P first (subst Q second (subst R third (f.0.1.1.3 (d - 1) (omega arith) (omega arith))))) s.2) earlier

-- the entry with the number after a place
after : (i : ℕ) → i ≡ (i + 1) - 1
after i = omega arith

module _ (p : VertexLists) where
  other_facet : (i j k l : ℕ) → AreRising i j k l (length p.vertices) → IsUncovered p i j k l → IsOtherFacet p (i + 1) (j + 1) (k + 1) (l + 1)
  other_facet i j k l rising u =
      let P : ℕ → Type 0 = λ x. IsUncovered p x j k l in
      let Q : ℕ → Type 0 = λ x. IsUncovered p ((i + 1) - 1) x k l in
      let R : ℕ → Type 0 = λ x. IsUncovered p ((i + 1) - 1) ((j + 1) - 1) x l in
      let S : ℕ → Type 0 = λ x. IsUncovered p ((i + 1) - 1) ((j + 1) - 1) ((k + 1) - 1) x in
      let v = subst S (after l) (subst R (after k) (subst Q (after j) (subst P (after i) u))) in
      record {
        ordered = (omega arith, omega arith, omega arith, omega arith, omega arith);
        independent = v.independent;
        one_side = v.one_side;
        missing = v.missing;
      }

  pub other_facet_least : (r : ℕ × ℕ × ℕ × ℕ) → IsFirst (IsUncovered p) (IsCovered p) (length p.vertices) r
      → AreWithinPlaces (length p.vertices) r × IsLeast4 (IsOtherFacet p) (r.0 + 1) (r.1 + 1) (r.2 + 1) (r.3 + 1)
  other_facet_least r f =
      let ij = f.0.0 in
      let jk = f.0.1.0 in
      let kl = f.0.1.1.0 in
      let ln = f.0.1.1.1 in (
        (omega arith, omega arith, omega arith, ln),
        record {
          holds = other_facet r.0 r.1 r.2 r.3 (ij, jk, kl, ln) f.0.1.1.2;
          least = λ a b c d earlier o.
              let t = o.ordered in
              o.missing (failed_before (IsUncovered p) (IsCovered p) (length p.vertices) r.0 r.1 r.2 r.3 f a b c d t.0 t.1 t.2 t.3 t.4 earlier o.independent o.one_side);
        },
      )

  pub all_covered : NoFirst (IsCovered p) (length p.vertices) → (i j k l : ℕ) → AreRising i j k l (length p.vertices) → IsCovered p i j k l
  all_covered h i j k l r =
      let ij = r.0 in let jk = r.1 in let kl = r.2 in let ln = r.3 in
      h i (omega arith) j ij (omega arith) k jk (omega arith) l kl ln

  pub other_facet_found : (r : Option (ℕ × ℕ × ℕ × ℕ)) → MatchOption r (NoFirst (IsCovered p) (length p.vertices)) (IsFirst (IsUncovered p) (IsCovered p) (length p.vertices))
      → MatchOption r ((i j k l : ℕ) → AreRising i j k l (length p.vertices) → IsCovered p i j k l)
      (λ r. AreWithinPlaces (length p.vertices) r × IsLeast4 (IsOtherFacet p) (r.0 + 1) (r.1 + 1) (r.2 + 1) (r.3 + 1))
  other_facet_found None h = all_covered h
  other_facet_found (Some r) h = other_facet_least r h
