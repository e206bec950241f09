-- What is found out about unit triples.
use Rattle.std.proofs.Common.{◌≡◌, ℕ, zero, suc, ◌+◌, ◌<◌, ◌≤◌, refl, sym, ap, ◌∙◌, subst, arith, ℤ, pos, ◌+ℤ◌, ◌-ℤ◌, ◌*ℤ◌, ◌<ℤ◌, List, [], ◌∷◌, take, length, get_or, unsigned_abs, w64, to_z, of_z}
use Rattle.std.specs.Prelude.{All}
use Rattle.std.specs.Int.RustNames.{int_div}
use Rattle.std.proofs.lemmas.Int.{ints}
use Rattle.std.proofs.lemmas.List.{take_all}
use Rattle.std.proofs.lemmas.List.Elements.{All-more, All-same}
use Rattle.ntfe_nums.specs.Vectors.{Vector, numbers, area}
use Rattle.ntfe_nums.proofs.Ring.{Expression, ring}
use Rattle.ntfe_nums.proofs.Ring.Expression.{var, num, plus, minus, times}
use Rattle.ntfe_model.specs.Charts.{Patch, axes, place, reached, IsOf, IsUnit}
use Rattle.ntfe_nums.proofs.Machine.{back}
use Rattle.face_chart.specs.declared.units.Multiples.{Multiples}
use Rattle.face_chart.specs.Units.{IsReached, IsUnitArea, reached_at}
use Rattle.ntfe_model.proofs.PlaneNumbers.{cancel, sign_positive, area_second, area_third, area_multiple}
use Rattle.face_chart.proofs.QuotientLemmas.{exact_quotient}
use Rattle.ntfe_model.proofs.UnitTriples.{area_of, unit_area, unit_areas}

-- ---- a loop over a list that is known under another name

pub kept_more : (P : ℕ → Type 0) (ks ls : List ℕ) (i : ℕ) → ks ≡ ls → i < length ks → All P (take i ls) → P (get_or ks i 0) → All P (take (i + 1) ls)
kept_more P ks ls i e l h p =
    let Q : List ℕ → Type 0 = λ ms. All P (take (i + 1) ms) in
    let R : List ℕ → Type 0 = λ ms. All P (take i ms) in
    subst Q e (All-more P ks i 0 l (subst R (sym e) h) p)

pub kept_all : (P : ℕ → Type 0) (ks ls : List ℕ) (i : ℕ) → ks ≡ ls → length ks ≤ i → All P (take i ls) → All P ls
kept_all P ks ls i e l h = All-same P ls (take i ls) (sym (take_all i ls (let f = ap length e in omega (arith, f, l)))) h

-- ---- a reached vector, by its coordinates

pub same_bits : (x y : ℤ) → unsigned_abs x ≤ 1099511627776 → unsigned_abs y ≤ 1099511627776 → of_z w64 x ≡ of_z w64 y → x ≡ y
same_bits x y s t e = sym (back w64 x 1099511627776 s (omega arith)) ∙ ap (to_z w64) e ∙ back w64 y 1099511627776 t (omega arith)

module _ (as' bs cs ps : List ℤ) (a b c p : Vector) (m : Multiples) (ea : as' ≡ numbers a) (eb : bs ≡ numbers b) (ec : cs ≡ numbers c) (ep : ps ≡ numbers p) where
  pub reached_from : ((k : ℕ) → k < 4 → get_or ps k (pos 0) ≡ reached_at as' bs cs m k) → p ≡ reached a b c m.s m.t
  reached_from h =
      let f : (k : ℕ) → k < 4 → get_or (numbers p) k (pos 0) ≡ reached_at (numbers a) (numbers b) (numbers c) m k =
      λ k l. (λ i. get_or (sym ep i) k (pos 0)) ∙ h k l ∙ (λ i. reached_at (ea i) (eb i) (ec i) m k)
      in
      λ i. record { x1 = f 0 (omega arith) i; x2 = f 1 (omega arith) i; x3 = f 2 (omega arith) i; x4 = f 3 (omega arith) i }

  pub reached_to : p ≡ reached a b c m.s m.t → (k : ℕ) → k < 4 → get_or ps k (pos 0) ≡ reached_at as' bs cs m k
  reached_to e k l = (λ i. get_or (ep i) k (pos 0)) ∙ ap (λ v. get_or (numbers v) k (pos 0)) e ∙ at k l ∙ (λ i. reached_at (sym ea i) (sym eb i) (sym ec i) m k)
    where
      at : (j : ℕ) → j < 4 → get_or (numbers (reached a b c m.s m.t)) j (pos 0) ≡ reached_at (numbers a) (numbers b) (numbers c) m j
      at zero l' = refl
      at (suc zero) l' = refl
      at (suc (suc zero)) l' = refl
      at (suc (suc (suc zero))) l' = refl
      at (suc (suc (suc (suc j)))) l' = absurd (omega arith)

-- ---- the multiples are quotients of areas

pub second_quotient : (h : Patch) (a b c p : ℕ) (s t : ℤ) → pos 0 <ℤ area_of h a b c → place h p ≡ reached (place h a) (place h b) (place h c) s t
    → int_div (area_of h c a p) (area_of h a b c) ≡ s
second_quotient h a b c p s t k e =
    ap (λ z. int_div z (area_of h a b c)) (ap (area (axes h) (place h c) (place h a)) e ∙ area_second (axes h) (place h a) (place h b) (place h c) s t)
    ∙ exact_quotient s (area_of h a b c) k

pub third_quotient : (h : Patch) (a b c p : ℕ) (s t : ℤ) → pos 0 <ℤ area_of h a b c → place h p ≡ reached (place h a) (place h b) (place h c) s t
    → int_div (area_of h a b p) (area_of h a b c) ≡ t
third_quotient h a b c p s t k e =
    ap (λ z. int_div z (area_of h a b c)) (ap (area (axes h) (place h a) (place h b)) e ∙ area_third (axes h) (place h a) (place h b) (place h c) s t)
    ∙ exact_quotient t (area_of h a b c) k

-- ---- a triple with the area of a unit triple reaches all points

abbrev reachE : Expression → Expression → Expression
reachE s t = plus (var 0) (plus (times s (minus (var 1) (var 0))) (times t (minus (var 2) (var 0))))

abbrev detE : Expression
detE = minus (times (minus (var 5) (var 3)) (minus (var 8) (var 4))) (times (minus (var 6) (var 4)) (minus (var 7) (var 3)))

abbrev firstE : Expression
firstE = minus (times (minus (var 9) (var 3)) (minus (var 8) (var 4))) (times (minus (var 10) (var 4)) (minus (var 7) (var 3)))

abbrev secondE : Expression
secondE = minus (times (minus (var 5) (var 3)) (minus (var 10) (var 4))) (times (minus (var 6) (var 4)) (minus (var 9) (var 3)))

-- in one coordinate: x, y, z are a's, b's and c's; (s, t), (s', t'), (s'', t'') reach the corners of the other triple, and (u, v) the point
change_number : (x y z s t s' t' s'' t'' u v : ℤ) → (s' -ℤ s) *ℤ (t'' -ℤ t) -ℤ (t' -ℤ t) *ℤ (s'' -ℤ s) ≡ pos 1
    → x +ℤ (u *ℤ (y -ℤ x) +ℤ v *ℤ (z -ℤ x))
    ≡ (x +ℤ (s *ℤ (y -ℤ x) +ℤ t *ℤ (z -ℤ x)))
    +ℤ (((u -ℤ s) *ℤ (t'' -ℤ t) -ℤ (v -ℤ t) *ℤ (s'' -ℤ s)) *ℤ ((x +ℤ (s' *ℤ (y -ℤ x) +ℤ t' *ℤ (z -ℤ x))) -ℤ (x +ℤ (s *ℤ (y -ℤ x) +ℤ t *ℤ (z -ℤ x))))
    +ℤ ((s' -ℤ s) *ℤ (v -ℤ t) -ℤ (t' -ℤ t) *ℤ (u -ℤ s)) *ℤ ((x +ℤ (s'' *ℤ (y -ℤ x) +ℤ t'' *ℤ (z -ℤ x))) -ℤ (x +ℤ (s *ℤ (y -ℤ x) +ℤ t *ℤ (z -ℤ x)))))
change_number x y z s t s' t' s'' t'' u v e =
    ring vs (reachE (var 9) (var 10))
    (plus (reachE (var 3) (var 4)) (times (num (pos 1)) (plus (times (minus (var 9) (var 3)) (minus (var 1) (var 0))) (times (minus (var 10) (var 4)) (minus (var 2) (var 0)))))) refl
    ∙ ap (λ d. (x +ℤ (s *ℤ (y -ℤ x) +ℤ t *ℤ (z -ℤ x))) +ℤ d *ℤ ((u -ℤ s) *ℤ (y -ℤ x) +ℤ (v -ℤ t) *ℤ (z -ℤ x))) (sym e)
    ∙ ring vs (plus (reachE (var 3) (var 4)) (times detE (plus (times (minus (var 9) (var 3)) (minus (var 1) (var 0))) (times (minus (var 10) (var 4)) (minus (var 2) (var 0))))))
    (plus (reachE (var 3) (var 4)) (plus (times firstE (minus (reachE (var 5) (var 6)) (reachE (var 3) (var 4)))) (times secondE (minus (reachE (var 7) (var 8)) (reachE (var 3) (var 4)))))) refl
  where
    vs : List ℤ
    vs = x ∷ y ∷ z ∷ s ∷ t ∷ s' ∷ t' ∷ s'' ∷ t'' ∷ u ∷ v ∷ []

change_reached : (a b c : Vector) (s t s' t' s'' t'' u v : ℤ) → (s' -ℤ s) *ℤ (t'' -ℤ t) -ℤ (t' -ℤ t) *ℤ (s'' -ℤ s) ≡ pos 1
    → reached a b c u v
    ≡ reached (reached a b c s t) (reached a b c s' t') (reached a b c s'' t'') ((u -ℤ s) *ℤ (t'' -ℤ t) -ℤ (v -ℤ t) *ℤ (s'' -ℤ s)) ((s' -ℤ s) *ℤ (v -ℤ t) -ℤ (t' -ℤ t) *ℤ (u -ℤ s))
change_reached a b c s t s' t' s'' t'' u v e =
    let f = λ (x y z : ℤ). change_number x y z s t s' t' s'' t'' u v e in
    λ i. record { x1 = f a.x1 b.x1 c.x1 i; x2 = f a.x2 b.x2 c.x2 i; x3 = f a.x3 b.x3 c.x3 i; x4 = f a.x4 b.x4 c.x4 i }

one_times : (k : ℤ) → pos 1 *ℤ k ≡ k
one_times k = omega (arith, ints)

module _ (h : Patch) (a b c d e f : ℕ) (u : IsUnit h a b c) (o : IsOf h d × IsOf h e × IsOf h f) (same : area_of h d e f ≡ area_of h a b c) where
  at_unit : (p : ℕ) → IsOf h p → IsReached h a b c p
  at_unit p i = u.reaches p i

  det : ℤ
  det = ((at_unit e o.1).0 -ℤ (at_unit d o.0).0) *ℤ ((at_unit f o.2).1 -ℤ (at_unit d o.0).1) -ℤ ((at_unit e o.1).1 -ℤ (at_unit d o.0).1) *ℤ ((at_unit f o.2).0 -ℤ (at_unit d o.0).0)

  det_one : det ≡ pos 1
  unfolding det
  det_one =
      let x = at_unit d o.0 in
      let y = at_unit e o.1 in
      let z = at_unit f o.2 in
      cancel det (pos 1) (area_of h a b c) (unit_area h a b c u)
      (sym (area_multiple (axes h) (place h a) (place h b) (place h c) x.0 x.1 y.0 y.1 z.0 z.1) ∙ (λ i. area (axes h) (sym x.2 i) (sym y.2 i) (sym z.2 i)) ∙ same ∙ sym (one_times (area_of h a b c)))

  again : (p : ℕ) → IsOf h p → IsReached h d e f p
  unfolding det
  again p i =
      let x = at_unit d o.0 in
      let y = at_unit e o.1 in
      let z = at_unit f o.2 in
      let w = at_unit p i in
      let k : ℤ = (w.0 -ℤ x.0) *ℤ (z.1 -ℤ x.1) -ℤ (w.1 -ℤ x.1) *ℤ (z.0 -ℤ x.0) in
      let l : ℤ = (y.0 -ℤ x.0) *ℤ (w.1 -ℤ x.1) -ℤ (y.1 -ℤ x.1) *ℤ (w.0 -ℤ x.0) in
      (k, l, w.2 ∙ change_reached (place h a) (place h b) (place h c) x.0 x.1 y.0 y.1 z.0 z.1 w.0 w.1 det_one ∙ (λ j. reached (sym x.2 j) (sym y.2 j) (sym z.2 j) k l))

  pub same_area_unit : IsUnit h d e f
  same_area_unit = record {
    points = o;
    left = sign_positive (area_of h d e f) (let P : ℤ → Type 0 = λ z. pos 0 <ℤ z in subst P (sym same) (unit_area h a b c u));
    reaches = again;
  }

-- the area of a unit triple is that of all
pub unit_area_found : (h : Patch) (a b c : ℕ) (z : ℤ) → unsigned_abs z ≤ 16777216 → IsUnit h a b c → z ≡ area_of h a b c → IsUnitArea h z
unit_area_found h a b c z s u e = record {
  size = s;
  of_units = λ i j k v. unit_areas h i j k a b c v u ∙ sym e;
  units = λ i j k o f l. same_area_unit h a b c i j k u o (f ∙ e);
}

-- where there is no unit triple
pub unit_area_none : (h : Patch) → ((a b c : ℕ) → IsUnit h a b c → ⊥) → IsUnitArea h (pos 0)
unit_area_none h none = record {
  size = omega arith;
  of_units = λ i j k v. absurd (none i j k v);
  units = λ i j k o f l. absurd (omega (arith, ints, l));
}
