-- Each facet has a low simplex: a form far below its points is tilted until it touches four independent points.
--     lifted_over, lifted_along      a number, or a multiple of a depth, that lifts the values of a function on a list above 0
--     four_low      four independent points of the facet are enough
use Rattle.std.proofs.Common.{◌≡◌, ◌≢◌, ℕ, ⊎_elim, refl, sym, ◌∙◌, subst, arith, ℤ, pos, negsuc, ◌+ℤ◌, ◌-ℤ◌, ◌*ℤ◌, ◌<ℤ◌, ◌≤ℤ◌, List, [], ◌∷◌, unsigned_abs}
use Rattle.std.specs.Prelude.{Contains}
use Rattle.std.proofs.lemmas.Int.{ints}
use Rattle.ntfe_nums.specs.Vectors.{Vector, multiple}
use Rattle.ntfe_nums.proofs.Ring.{ring}
use Rattle.ntfe_nums.proofs.Ring.Expression.{var, num, minus, plus, times}
use Rattle.ntfe_nums.proofs.DetLemmas.{row, dotE}
use Rattle.ntfe_model.specs.Points.{place_of_point}
use Rattle.ntfe_model.specs.Reflexive.{IsTight}
use Rattle.ntfe_model.specs.declared.point.Point.{Point}
use Rattle.ntfe_model.proofs.Listings.{Contains-cases, Contains-none}
use Rattle.ntfe_nums.proofs.Exchanges.{swap_first, swap_middle, swap_last, same_first, same_second, same_third}
use Rattle.ntfe_nums.proofs.Signs.{above_zero, positive_product, product_not_negative, zero_or, zero_out}
use Rattle.star_builder.proofs.LowSimplices.{IsLow, IsGeneric, turned_not_zero}
use Rattle.star_builder.proofs.Rises.{gap, volume}
use Rattle.star_builder.proofs.Supports.{tight_points, tight_on, low_support}
use Rattle.star_builder.proofs.Tilts.{IsUnder, IsTilted, IsThrice, tilt_about, keeps_zero, three_tilts}

-- a number that makes all values of a function on a list positive
pub lifted_over : {A : Type 0} (f : A → ℤ) (xs : List A) → (k : ℤ) × (pos 0 ≤ℤ k) × ((x : A) → Contains xs x → pos 0 ≤ℤ (f x +ℤ k))
lifted_over f [] = (pos 0, omega (arith, ints), λ x c. Contains-none x c)
lifted_over {A} f (y ∷ ys) =
    let r = lifted_over f ys in
    (r.0 +ℤ pos (unsigned_abs (f y)), sum_over r.0 (f y) r.1, λ x c. ⊎_elim (λ e. subst (λ z. pos 0 ≤ℤ (f z +ℤ (r.0 +ℤ pos (unsigned_abs (f y))))) (sym e) (here r.0 (f y) r.1)) (λ d. there (f x) r.0 (f y) (r.2 x d)) (Contains-cases x y ys c))
  where
    sum_over : (k z : ℤ) → pos 0 ≤ℤ k → pos 0 ≤ℤ (k +ℤ pos (unsigned_abs z))
    sum_over k z l = omega (arith, ints, l)

    here : (k z : ℤ) → pos 0 ≤ℤ k → pos 0 ≤ℤ (z +ℤ (k +ℤ pos (unsigned_abs z)))
    here k z l = omega (arith, ints, l)

    there : (x k z : ℤ) → pos 0 ≤ℤ (x +ℤ k) → pos 0 ≤ℤ (x +ℤ (k +ℤ pos (unsigned_abs z)))
    there x k z l = omega (arith, ints, l)

-- a multiple of a depth that does so, where the function is not negative at depth 0
pub lifted_along : {A : Type 0} (f depth : A → ℤ) (xs : List A) → ((x : A) → Contains xs x → pos 0 ≤ℤ depth x) → ((x : A) → Contains xs x → depth x ≡ pos 0 → pos 0 ≤ℤ f x)
    → (k : ℤ) × (pos 0 ≤ℤ k) × ((x : A) → Contains xs x → pos 0 ≤ℤ (f x +ℤ k *ℤ depth x))
lifted_along f depth xs over level =
    let r = lifted_over f xs in
    (r.0, r.1, λ x c. ⊎_elim (λ e. flat (f x) r.0 (depth x) (level x c e) e) (λ n. deep (f x) r.0 (depth x) r.1 (above_zero (depth x) (over x c) n) (r.2 x c)) (zero_or (depth x)))
  where
    flat : (y k z : ℤ) → pos 0 ≤ℤ y → z ≡ pos 0 → pos 0 ≤ℤ (y +ℤ k *ℤ z)
    flat y k z l e = by (k *ℤ z) (zero_out k z e)
      where
        by : (q : ℤ) → q ≡ pos 0 → pos 0 ≤ℤ (y +ℤ q)
        by q f = omega (arith, ints, l, f)

    deep : (y k z : ℤ) → pos 0 ≤ℤ k → pos 0 <ℤ z → pos 0 ≤ℤ (y +ℤ k) → pos 0 ≤ℤ (y +ℤ k *ℤ z)
    deep y k z i j l =
        by (k *ℤ (z -ℤ pos 1)) (k *ℤ z) (product_not_negative k (z -ℤ pos 1) i (omega (arith, ints, j)))
        (ring (k ∷ z ∷ []) (times (var 0) (var 1)) (plus (var 0) (times (var 0) (minus (var 1) (num (pos 1))))) refl)
      where
        by : (r t : ℤ) → pos 0 ≤ℤ r → t ≡ k +ℤ r → pos 0 ≤ℤ (y +ℤ t)
        by r t h e = omega (arith, ints, l, h, e)

module _ (xs : List Point) (v : ℕ → ℤ) (generic : IsGeneric xs v) (m : Vector) where
  abbrev at : ℕ → Vector
  at = place_of_point xs

  abbrev on : List ℕ
  on = tight_points m xs

  -- a multiple of the facet's own form lies below all its points
  level_gap : (k : ℤ) (x : ℕ) → IsTight m (at x) → v x +ℤ k ≡ gap at v (pos 1) (multiple k m) x
  level_gap k x t =
      ring (v x ∷ k ∷ []) (plus (var 0) (var 1)) (minus (times (num (pos 1)) (var 0)) (times (var 1) (num (negsuc 0)))) refl
      ∙ (λ i. pos 1 *ℤ v x -ℤ k *ℤ sym t i)
      ∙ (let p = at x in
      ring (m.x1 ∷ m.x2 ∷ m.x3 ∷ m.x4 ∷ p.x1 ∷ p.x2 ∷ p.x3 ∷ p.x4 ∷ v x ∷ k ∷ [])
      (minus (times (num (pos 1)) (var 8)) (times (var 9) (dotE (row 0) (row 4))))
      (minus (times (num (pos 1)) (var 8)) (dotE (record { x1 = times (var 9) (var 0); x2 = times (var 9) (var 1); x3 = times (var 9) (var 2); x4 = times (var 9) (var 3) }) (row 4))) refl)

  behind : (a b c d : ℕ) → volume at v a b c d ≢ pos 0 → volume at v b c d a ≢ pos 0
  behind a b c d n =
      turned_not_zero (volume at v b c a d) (volume at v b c d a) (swap_last (at b) (at c) (at a) (at d))
      (turned_not_zero (volume at v b a c d) (volume at v b c a d) (swap_middle (at b) (at a) (at c) (at d))
      (turned_not_zero (volume at v a b c d) (volume at v b a c d) (swap_first (at a) (at b) (at c) (at d)) n))

  factor_positive : (f s t : ℤ) → pos 0 <ℤ f → pos 0 <ℤ s → t ≡ f *ℤ s → pos 0 <ℤ t
  factor_positive f s t l k e = subst (λ z. pos 0 <ℤ z) (sym e) (positive_product f s l k)

  pub four_low : (a b c d : ℕ) → Contains on a → Contains on b → Contains on c → Contains on d → volume at v a b c d ≢ pos 0
      → (i : ℕ) × (j : ℕ) × (k : ℕ) × (l : ℕ) × IsLow xs v m i j k l
  four_low a b c d ha hb hc hd independent = by (three_tilts at v on (pos 1) (multiple low.0 m) start a b c d hb hc hd independent)
    where
      low : (k : ℤ) × (pos 0 ≤ℤ k) × ((x : ℕ) → Contains (tight_points m xs) x → pos 0 ≤ℤ (v x +ℤ k))
      low = lifted_over v (tight_points m xs)

      start : IsUnder at v (tight_points m xs) (pos 1) (multiple low.0 m)
      start x h = subst (λ z. pos 0 ≤ℤ z) (level_gap low.0 x (tight_on m xs x h)) (low.2 x h)

      last : (t : IsThrice at v (tight_points m xs) (pos 1) (multiple low.0 m) a) → IsTilted at v (tight_points m xs) t.size t.form t.y1 t.y2 t.y3 a
          → (i : ℕ) × (j : ℕ) × (k : ℕ) × (l : ℕ) × IsLow xs v m i j k l
      last t u = (
        t.y1,
        t.y2,
        t.y3,
        u.y,
        low_support xs v generic m u.size u.form (factor_positive u.factor t.size u.size u.positive (factor_positive t.factor (pos 1) t.size t.positive (omega (arith, ints)) t.size_is) u.size_is)
            u.under t.y1 t.y2 t.y3 u.y t.within.0 t.within.1 t.within.2 u.within u.apart
            (keeps_zero at v (tight_points m xs) t.size t.form t.y1 t.y2 t.y3 a u t.y1 (same_first (at t.y1) (at t.y2) (at t.y3)) t.touches.0)
            (keeps_zero at v (tight_points m xs) t.size t.form t.y1 t.y2 t.y3 a u t.y2 (same_second (at t.y1) (at t.y2) (at t.y3)) t.touches.1)
            (keeps_zero at v (tight_points m xs) t.size t.form t.y1 t.y2 t.y3 a u t.y3 (same_third (at t.y1) (at t.y2) (at t.y3)) t.touches.2) u.touches,
      )

      by : IsThrice at v (tight_points m xs) (pos 1) (multiple low.0 m) a → (i : ℕ) × (j : ℕ) × (k : ℕ) × (l : ℕ) × IsLow xs v m i j k l
      by t = last t (tilt_about at v (tight_points m xs) t.size t.form t.under t.y1 t.y2 t.y3 a ha (behind a t.y1 t.y2 t.y3 t.independent))
