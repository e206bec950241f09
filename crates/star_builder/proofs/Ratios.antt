-- The least ratio: of two functions on a list, the first nowhere negative and the second somewhere positive, the first is tilted along the second until it touches 0 anew.
--     least_ratio      where it touches
use Rattle.std.proofs.Common.{◌≡◌, ℕ, ◌⊎◌, inl, inr, ⊎_elim, refl, sym, subst, arith, ℤ, pos, ◌-ℤ◌, ◌*ℤ◌, ◌<ℤ◌, ◌≤ℤ◌, List, [], ◌∷◌}
use Rattle.std.specs.Prelude.{Contains}
use Rattle.std.proofs.lemmas.Int.{ints}
use Rattle.ntfe_nums.proofs.Ring.{ring}
use Rattle.ntfe_nums.proofs.Ring.Expression.{var, num, minus, times}
use Rattle.ntfe_model.proofs.Listings.{Contains-here, Contains-there, Contains-cases, Contains-none}
use Rattle.ntfe_nums.proofs.Signs.{factor_not_negative, product_not_negative, product_not_positive, sign_of, not_negative, zero_not_negative}

-- ---- the least ratio

module _ {A : Type 0} (h u : A → ℤ) where
  -- the first function after the tilt to y
  abbrev pub tilted : A → A → ℤ
  tilted y x = u y *ℤ h x -ℤ h y *ℤ u x

  -- it touches at y, and is nowhere negative on the list
  pub record IsTouched (xs : List A) (y : A) : Type 0 where
    pub within : Contains xs y
    pub rises : pos 0 <ℤ u y
    pub over : (x : A) → Contains xs x → pos 0 ≤ℤ tilted y x

  falls_over : (y x : A) → pos 0 ≤ℤ h y → pos 0 ≤ℤ h x → pos 0 <ℤ u y → u x ≤ℤ pos 0 → pos 0 ≤ℤ tilted y x
  falls_over y x hy hx r l =
      by (u y *ℤ h x) (h y *ℤ u x) (product_not_negative (u y) (h x) (not_negative (u y) r) hx) (product_not_positive (h y) (u x) hy l)
    where
      by : (a b : ℤ) → pos 0 ≤ℤ a → b ≤ℤ pos 0 → pos 0 ≤ℤ (a -ℤ b)
      by a b k m = omega (arith, ints, k, m)

  itself_over : (x : A) → pos 0 ≤ℤ tilted x x
  itself_over x = zero_not_negative (tilted x x) (ring (u x ∷ h x ∷ []) (minus (times (var 0) (var 1)) (times (var 1) (var 0))) (num (pos 0)) refl)

  -- the ratio at x is no more than that at y, so the tilt to x is nowhere below that to y
  lower_over : (y x z : A) → pos 0 <ℤ u y → pos 0 <ℤ u x → pos 0 <ℤ u z → tilted y x ≤ℤ pos 0 → pos 0 ≤ℤ tilted y z → pos 0 ≤ℤ tilted x z
  lower_over y x z ry rx rz l o =
      factor_not_negative (u y) (tilted x z) ry
      (by (u x *ℤ tilted y z) (u z *ℤ tilted y x) (u y *ℤ tilted x z)
      (product_not_negative (u x) (tilted y z) (not_negative (u x) rx) o) (product_not_positive (u z) (tilted y x) (not_negative (u z) rz) l)
      (let t = λ (i j k l : ℕ). minus (times (var i) (var j)) (times (var k) (var l)) in
      ring (u y ∷ h y ∷ u x ∷ h x ∷ u z ∷ h z ∷ []) (times (var 0) (t 2 5 3 4)) (minus (times (var 2) (t 0 5 1 4)) (times (var 4) (t 0 3 1 2))) refl))
    where
      by : (a b c : ℤ) → pos 0 ≤ℤ a → b ≤ℤ pos 0 → c ≡ a -ℤ b → pos 0 ≤ℤ c
      by a b c k m e = omega (arith, ints, k, m, e)

  -- the second function is nowhere positive, or there is a place where the tilt touches
  abbrev Outcome : List A → Type 0
  Outcome xs = ((x : A) → Contains xs x → u x ≤ℤ pos 0) ⊎ ((y : A) × IsTouched xs y)

  next : (x : A) (xs : List A) → ((z : A) → Contains (x ∷ xs) z → pos 0 ≤ℤ h z) → Outcome xs → Outcome (x ∷ xs)
  next x xs over (inl none) = ⊎_elim rises falls (sign_of (u x))
    where
      falls : u x ≤ℤ pos 0 → Outcome (x ∷ xs)
      falls l = inl (λ z c. ⊎_elim (λ e. subst (λ a. u a ≤ℤ pos 0) (sym e) l) (none z) (Contains-cases z x xs c))

      rises : pos 0 <ℤ u x → Outcome (x ∷ xs)
      rises r = inr (
        x,
        record {
          within = Contains-here x x xs refl;
          rises = r;
          over = λ z c. ⊎_elim (λ e. subst (λ a. pos 0 ≤ℤ tilted x a) (sym e) (itself_over x))
              (λ d. falls_over x z (over x (Contains-here x x xs refl)) (over z c) r (none z d)) (Contains-cases z x xs c);
        },
      )
  next x xs over (inr (y, t)) = ⊎_elim rises kept (sign_of (u x))
    where
      hy : pos 0 ≤ℤ h y
      hy = over y (Contains-there y x xs t.within)

      hx : pos 0 ≤ℤ h x
      hx = over x (Contains-here x x xs refl)

      stays : pos 0 ≤ℤ tilted y x → Outcome (x ∷ xs)
      stays o = inr (
        y,
        record {
          within = Contains-there y x xs t.within;
          rises = t.rises;
          over = λ z c. ⊎_elim (λ e. subst (λ a. pos 0 ≤ℤ tilted y a) (sym e) o) (t.over z) (Contains-cases z x xs c);
        },
      )

      kept : u x ≤ℤ pos 0 → Outcome (x ∷ xs)
      kept l = stays (falls_over y x hy hx t.rises l)

      moves : pos 0 <ℤ u x → tilted y x ≤ℤ pos 0 → Outcome (x ∷ xs)
      moves r l = inr (
        x,
        record {
          within = Contains-here x x xs refl;
          rises = r;
          over = λ z c. ⊎_elim (λ e. subst (λ a. pos 0 ≤ℤ tilted x a) (sym e) (itself_over x))
              (λ d. ⊎_elim (λ p. lower_over y x z t.rises r p l (t.over z d)) (λ q. falls_over x z hx (over z c) r q) (sign_of (u z))) (Contains-cases z x xs c);
        },
      )

      rises : pos 0 <ℤ u x → Outcome (x ∷ xs)
      rises r = ⊎_elim (λ p. stays (not_negative (tilted y x) p)) (moves r) (sign_of (tilted y x))

  found : (xs : List A) → ((x : A) → Contains xs x → pos 0 ≤ℤ h x) → Outcome xs
  found [] over = inl (λ x c. Contains-none x c)
  found (x ∷ xs) over = next x xs over (found xs (λ z c. over z (Contains-there z x xs c)))

  pub least_ratio : (xs : List A) → ((x : A) → Contains xs x → pos 0 ≤ℤ h x) → (z : A) → Contains xs z → pos 0 <ℤ u z → (y : A) × IsTouched xs y
  least_ratio xs over z c r = ⊎_elim (λ none. absurd (no (u z) r (none z c))) (λ t. t) (found xs over)
    where
      no : (a : ℤ) → pos 0 <ℤ a → a ≤ℤ pos 0 → ⊥
      no a k l = absurd (omega (arith, ints, k, l))
