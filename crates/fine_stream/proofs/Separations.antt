-- A triple beyond a side of another one is compatible with it.
use Rattle.std.proofs.Common.{◌≡◌, ◌≢◌, ℕ, zero, suc, ◌-◌, ◌≤◌, ◌⊎◌, inl, inr, ⊎_elim, refl, sym, ap, ◌∙◌, subst, arith, ℤ, pos, negsuc, ◌+ℤ◌, ◌-ℤ◌, ◌*ℤ◌, ◌<ℤ◌, ◌≤ℤ◌}
use Rattle.std.proofs.lemmas.Int.{ints}
use Rattle.ntfe_nums.specs.Vectors.{sign}
use Rattle.ntfe_model.specs.Charts.{Patch, axes, place, turn, IsUnit}
use Rattle.ntfe_model.specs.Triangulations.{HasSide, HaveSameEnds, DoCross, IsRotationOf}
use Rattle.ntfe_model.specs.declared.triangle.Triangle.{Triangle}
use Rattle.ntfe_model.specs.Charts.{AreApart}
use Rattle.ntfe_model.proofs.PlaneNumbers.{flat_last, flat_outer}
use Rattle.ntfe_model.proofs.UnitTriples.{area_of, unit_area}
use Rattle.ntfe_model.proofs.Triples.{third_point, corner_next, corner_side}
use Rattle.face_chart.proofs.Walk.{corner_sides}
use Rattle.ntfe_model.proofs.Folds.{unit_corner}
use Rattle.fine_stream.specs.Paths.{AreOpposite, IsBeyond, AreInConflict, AreCompatible}
use Rattle.fine_stream.proofs.Crosses.{crossing_turns, zero_first, zero_second, meet_area, first_weight, last_weight, only_factor}
use Rattle.fine_stream.proofs.Parts.{unit_side, each_side}
use Rattle.fine_triples.proofs.CrossLemmas.{cross_swap}

-- ---- weights

not_positive : (u t : ℕ) (x y : ℤ) → sign x ≢ pos 1 → sign y ≢ pos 1 → (pos u *ℤ x +ℤ pos t *ℤ y) ≤ℤ pos 0
not_positive u t (pos (suc i)) y h k = absurd (h refl)
not_positive u t (pos zero) (pos (suc j)) h k = absurd (k refl)
not_positive u t (negsuc i) (pos (suc j)) h k = absurd (k refl)
not_positive u t (pos zero) (pos zero) h k = omega (arith, ints)
not_positive u t (pos zero) (negsuc j) h k = omega (arith, ints)
not_positive u t (negsuc i) (pos zero) h k = omega (arith, ints)
not_positive u t (negsuc i) (negsuc j) h k = omega (arith, ints)

no_share : (s : ℕ) (w z : ℤ) → pos 0 <ℤ w → pos s *ℤ w ≡ z → z ≤ℤ pos 0 → s ≡ 0
no_share zero w z h e l = refl
no_share (suc s) (pos zero) z h e l = absurd (omega (arith, ints, h))
no_share (suc s) (pos (suc i)) z h e l = absurd (omega (arith, ints, e, l))
no_share (suc s) (negsuc i) z h e l = absurd (omega (arith, ints, h))

weight : (n t : ℕ) → t ≤ n → pos n -ℤ pos t ≡ pos (n - t)
weight n t g = omega (arith, ints)

-- (n - t) x + t y is not positive where x and y aren't
below : (n t : ℕ) (x y : ℤ) → t ≤ n → sign x ≢ pos 1 → sign y ≢ pos 1 → ((pos n -ℤ pos t) *ℤ x +ℤ pos t *ℤ y) ≤ℤ pos 0
below n t x y l h k =
    let P : ℤ → Type 0 = λ z. (z *ℤ x +ℤ pos t *ℤ y) ≤ℤ pos 0 in subst P (sym (weight n t l)) (not_positive (n - t) t x y h k)

end_only : (n s : ℤ) (w x : ℤ) → x ≡ pos 0 → (n -ℤ s) *ℤ x +ℤ s *ℤ w ≡ s *ℤ w
end_only n s w x e = ap (λ z. (n -ℤ s) *ℤ z +ℤ s *ℤ w) e ∙ none (n -ℤ s) (s *ℤ w)
  where
    none : (u v : ℤ) → u *ℤ pos 0 +ℤ v ≡ v
    none u v = omega (arith, ints)

start_only : (n s : ℤ) (w x : ℤ) → x ≡ pos 0 → (n -ℤ s) *ℤ w +ℤ s *ℤ x ≡ (n -ℤ s) *ℤ w
start_only n s w x e = ap (λ z. (n -ℤ s) *ℤ w +ℤ s *ℤ z) e ∙ none s ((n -ℤ s) *ℤ w)
  where
    none : (u v : ℤ) → v +ℤ u *ℤ pos 0 ≡ v
    none u v = omega (arith, ints)

both_zero : (u t x y : ℤ) → x ≡ pos 0 → y ≡ pos 0 → u *ℤ x +ℤ t *ℤ y ≡ pos 0
both_zero u t x y e f = (λ i. u *ℤ e i +ℤ t *ℤ f i) ∙ none u t
  where
    none : (v w : ℤ) → v *ℤ pos 0 +ℤ w *ℤ pos 0 ≡ pos 0
    none v w = omega (arith, ints)

-- ---- where a crossing would be

module _ (h : Patch) (x y z : ℕ) (unit : IsUnit h x y z) where
  -- a segment from y to z meets one beyond (x, y) in y alone
  from_second : (r s : ℕ) → turn h x y r ≢ pos 1 → turn h x y s ≢ pos 1 → DoCross (place h y) (place h z) (place h r) (place h s) → turn h r s y ≡ pos 0
  from_second r s nr ns c =
      let q = axes h in
      let first : pos c.s *ℤ area_of h x y z ≡ (pos c.n -ℤ pos c.t) *ℤ area_of h x y r +ℤ pos c.t *ℤ area_of h x y s =
      sym (end_only (pos c.n) (pos c.s) (area_of h x y z) (area_of h x y y) (flat_last q (place h x) (place h y)))
      ∙ meet_area q (place h x) (place h y) (place h y) (place h z) (place h r) (place h s) c.n c.s c.t c.meet in
      let none : c.s ≡ 0 = no_share c.s (area_of h x y z) _ (unit_area h x y z unit) first (below c.n c.t (area_of h x y r) (area_of h x y s) c.range.2 nr ns) in
      let second : (pos c.n -ℤ pos c.s) *ℤ area_of h r s y +ℤ pos c.s *ℤ area_of h r s z ≡ pos 0 =
      meet_area q (place h r) (place h s) (place h y) (place h z) (place h r) (place h s) c.n c.s c.t c.meet
      ∙ both_zero (pos c.n -ℤ pos c.t) (pos c.t) (area_of h r s r) (area_of h r s s) (flat_outer q (place h r) (place h s)) (flat_last q (place h r) (place h s)) in
      let only : pos c.n *ℤ area_of h r s y ≡ pos 0 =
      sym (ap (λ k. (pos c.n -ℤ pos k) *ℤ area_of h r s y +ℤ pos k *ℤ area_of h r s z) none ∙ first_weight (pos c.n) (area_of h r s y) (area_of h r s z)) ∙ second in
      ap sign (only_factor c.n (area_of h r s y) c.range.0 only)

  -- and one from z to x in x alone
  to_first : (r s : ℕ) → turn h x y r ≢ pos 1 → turn h x y s ≢ pos 1 → DoCross (place h z) (place h x) (place h r) (place h s) → turn h r s x ≡ pos 0
  to_first r s nr ns c =
      let q = axes h in
      let first : (pos c.n -ℤ pos c.s) *ℤ area_of h x y z ≡ (pos c.n -ℤ pos c.t) *ℤ area_of h x y r +ℤ pos c.t *ℤ area_of h x y s =
      sym (start_only (pos c.n) (pos c.s) (area_of h x y z) (area_of h x y x) (flat_outer q (place h x) (place h y)))
      ∙ meet_area q (place h x) (place h y) (place h z) (place h x) (place h r) (place h s) c.n c.s c.t c.meet in
      let none : c.n - c.s ≡ 0 =
      no_share (c.n - c.s) (area_of h x y z) _ (unit_area h x y z unit) (ap (λ k. k *ℤ area_of h x y z) (sym (weight c.n c.s c.range.1)) ∙ first)
      (below c.n c.t (area_of h x y r) (area_of h x y s) c.range.2 nr ns) in
      let all : c.s ≡ c.n = whole c.n c.s c.range.1 none in
      let second : (pos c.n -ℤ pos c.s) *ℤ area_of h r s z +ℤ pos c.s *ℤ area_of h r s x ≡ pos 0 =
      meet_area q (place h r) (place h s) (place h z) (place h x) (place h r) (place h s) c.n c.s c.t c.meet
      ∙ both_zero (pos c.n -ℤ pos c.t) (pos c.t) (area_of h r s r) (area_of h r s s) (flat_outer q (place h r) (place h s)) (flat_last q (place h r) (place h s)) in
      let only : pos c.n *ℤ area_of h r s x ≡ pos 0 =
      sym (ap (λ k. (pos c.n -ℤ pos k) *ℤ area_of h r s z +ℤ pos k *ℤ area_of h r s x) all ∙ last_weight (pos c.n) (area_of h r s z) (area_of h r s x)) ∙ second in
      ap sign (only_factor c.n (area_of h r s x) c.range.0 only)
    where
      whole : (n s : ℕ) → s ≤ n → n - s ≡ 0 → s ≡ n
      whole n s l e = omega (arith, l, e)

-- ---- triples beyond a side

module _ (h : Patch) (apart : AreApart h) (t u : Triangle) (x y z : ℕ) (corners : IsRotationOf t x y z) (unit_t : IsUnit h t.a t.b t.c) (unit_u : IsUnit h u.a u.b u.c) (beyond : IsBeyond h x y u) where
  unit : IsUnit h x y z
  unit = unit_corner h t x y z unit_t corners

  not_left : (r s : ℕ) → HasSide u r s → (turn h x y r ≢ pos 1) × (turn h x y s ≢ pos 1)
  not_left r s o = each_side (λ i j. (turn h x y i ≢ pos 1) × (turn h x y j ≢ pos 1)) u (beyond.0, beyond.1) (beyond.1, beyond.2) (beyond.2, beyond.0) r s o

  third_is_left : turn h x y z ≡ pos 1
  third_is_left = unit.left

  at_third : (i : ℕ) → z ≡ i → turn h x y i ≢ pos 1 → ⊥
  at_third i e n = n (ap (turn h x y) (sym e) ∙ third_is_left)

  shared : (p q : ℕ) → ((x ≡ p) × (y ≡ q)) ⊎ ((y ≡ p) × (z ≡ q)) ⊎ ((z ≡ p) × (x ≡ q)) → HasSide u p q → ⊥
  shared p q (inl e) o =
      let w = third_point u p q o in
      let left : turn h p q w.0 ≡ pos 1 = (unit_corner h u p q w.0 unit_u w.1).left in
      (not_left q w.0 (corner_side u q w.0 p (corner_next u p q w.0 w.1))).1 ((λ i. turn h (e.0 i) (e.1 i) w.0) ∙ left)
  shared p q (inr (inl e)) o = at_third q e.1 (not_left p q o).1
  shared p q (inr (inr e)) o = at_third p e.0 (not_left p q o).0

  crossed : (p q r s : ℕ) → HasSide t p q → ((x ≡ p) × (y ≡ q)) ⊎ ((y ≡ p) × (z ≡ q)) ⊎ ((z ≡ p) × (x ≡ q)) → HasSide u r s → ¬ (HaveSameEnds p q r s)
      → DoCross (place h p) (place h q) (place h r) (place h s) → ⊥
  crossed p q r s sp (inl e) o other c =
      let k = unit_side h t p q unit_t sp in let l = unit_side h u r s unit_u o in
      let turns = crossing_turns h apart p q k.0 r s l.0 k.1 l.1 other c in
      let n = not_left r s o in
      let A : ℕ → Type 0 = λ i. AreOpposite (turn h i q r) (turn h i q s) in let B : ℕ → Type 0 = λ j. AreOpposite (turn h x j r) (turn h x j s) in
      by (subst B (sym e.1) (subst A (sym e.0) turns.0)) n.0 n.1
    where
      by : AreOpposite (turn h x y r) (turn h x y s) → turn h x y r ≢ pos 1 → turn h x y s ≢ pos 1 → ⊥
      by (inl f) m n = m f.0
      by (inr f) m n = n f.1
  crossed p q r s sp (inr (inl e)) o other c =
      let k = unit_side h t p q unit_t sp in let l = unit_side h u r s unit_u o in
      let turns = crossing_turns h apart p q k.0 r s l.0 k.1 l.1 other c in
      let n = not_left r s o in
      let A : ℕ → Type 0 = λ i. DoCross (place h i) (place h q) (place h r) (place h s) in let B : ℕ → Type 0 = λ j. DoCross (place h y) (place h j) (place h r) (place h s) in
      zero_first (turn h r s p) (turn h r s q) (ap (turn h r s) (sym e.0) ∙ from_second h x y z unit r s n.0 n.1 (subst B (sym e.1) (subst A (sym e.0) c))) turns.1
  crossed p q r s sp (inr (inr e)) o other c =
      let k = unit_side h t p q unit_t sp in let l = unit_side h u r s unit_u o in
      let turns = crossing_turns h apart p q k.0 r s l.0 k.1 l.1 other c in
      let n = not_left r s o in
      let A : ℕ → Type 0 = λ i. DoCross (place h i) (place h q) (place h r) (place h s) in let B : ℕ → Type 0 = λ j. DoCross (place h z) (place h j) (place h r) (place h s) in
      zero_second (turn h r s p) (turn h r s q) (ap (turn h r s) (sym e.1) ∙ to_first h x y z unit r s n.0 n.1 (subst B (sym e.1) (subst A (sym e.0) c))) turns.1

  pub beyond_compatible : AreCompatible h t u
  beyond_compatible = record {
    apart = λ p q r s sp sr k.
        let o = corner_sides t x y z p q corners sp in
        ⊎_elim (λ e. shared p q o (let A : ℕ → Type 0 = λ i. HasSide u i s in let B : ℕ → Type 0 = λ j. HasSide u p j in subst B (sym e.1) (subst A (sym e.0) sr)))
        (λ e. crossed p q r s sp o sr e.0 e.1) k;
  }

-- compatible either way
pub compatible_back : (h : Patch) (t u : Triangle) → AreCompatible h u t → AreCompatible h t u
compatible_back h t u c = record { apart = λ x y z w s r k. c.apart z w x y r s (turned x y z w k) }
  where
    turned : (x y z w : ℕ) → AreInConflict h x y z w → AreInConflict h z w x y
    turned x y z w (inl e) = inl (sym e.0, sym e.1)
    turned x y z w (inr e) = inr (
      (λ s. e.0 (⊎_elim (λ p. inl (sym p.0, sym p.1)) (λ p. inr (sym p.1, sym p.0)) s)),
      cross_swap (place h x) (place h y) (place h z) (place h w) e.1,
    )
