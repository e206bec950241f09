-- Whole weights that fall so fast that the first of a list of bounded numbers outweighs the others.
--     weighed bound f ks      the sum of the numbers f k, each with its weight
--     leader_decides      it is positive where the first number that is not 0 is
use Rattle.std.proofs.Common.{◌≡◌, ℕ, zero, suc, ◌+◌, ◌*◌, ◌<◌, ◌≤◌, inl, inr, refl, ap, ◌∙◌, subst, sym, arith, ℤ, pos, negsuc, ◌+ℤ◌, ◌-ℤ◌, ◌*ℤ◌, ◌<ℤ◌, List, [], ◌∷◌, map, unsigned_abs, mul-le-mul}
use Rattle.std.proofs.lemmas.Int.{ints, unsigned_abs-mul}
use Rattle.ntfe_model.specs.Stars.{IsFirstPositive}
use Rattle.ntfe_nums.proofs.Ring.{Expression, ring}
use Rattle.ntfe_nums.proofs.Ring.Expression.{var, plus, minus, times}

-- the weight of what stands before the numbers: (bound + 1) to the power of how many they are
abbrev pub weight : ℕ → List ℕ → ℕ
weight bound [] = 1
weight bound (k ∷ ks) = suc bound * weight bound ks

abbrev pub weighed : ℕ → (ℕ → ℤ) → List ℕ → ℤ
weighed bound f [] = pos 0
weighed bound f (k ∷ ks) = pos (weight bound ks) *ℤ f k +ℤ weighed bound f ks

module _ (bound : ℕ) where
  -- numbers up to the bound weigh less than what stands before them
  weighed_small : (f : ℕ → ℤ) → ((k : ℕ) → unsigned_abs (f k) ≤ bound) → (ks : List ℕ) → unsigned_abs (weighed bound f ks) < weight bound ks
  weighed_small f small [] = omega (arith, ints)
  weighed_small f small (k ∷ ks) =
      step (weight bound ks) (unsigned_abs (f k)) (pos (weight bound ks) *ℤ f k) (weighed bound f ks)
      (unsigned_abs-mul (pos (weight bound ks)) (f k)) (mul-le-mul (omega arith) (small k)) (weighed_small f small ks)
    where
      step : (w s : ℕ) (x y : ℤ) → unsigned_abs x ≡ w * s → w * s ≤ w * bound → unsigned_abs y < w → unsigned_abs (x +ℤ y) < suc bound * w
      step w s x y e l m = omega (arith, ints, e, l, m)

  leader_outweighs : (w : ℕ) (z r : ℤ) → pos 0 <ℤ z → unsigned_abs r < w → pos 0 <ℤ (pos w *ℤ z +ℤ r)
  leader_outweighs w (pos zero) r l m = absurd (omega (arith, ints, l))
  leader_outweighs w (negsuc n) r l m = absurd (omega (arith, ints, l))
  leader_outweighs w (pos (suc n)) r l m = at_least (pos w *ℤ pos (suc n)) (w * n) (omega (arith, ints))
    where
      at_least : (x : ℤ) (more : ℕ) → x ≡ pos (w + more) → pos 0 <ℤ (x +ℤ r)
      at_least x more e = omega (arith, ints, e, m)

  pub leader_decides : (f : ℕ → ℤ) → ((k : ℕ) → unsigned_abs (f k) ≤ bound) → (ks : List ℕ) (z : ℤ) → IsFirstPositive (z ∷ map f ks)
      → pos 0 <ℤ (pos (weight bound ks) *ℤ z +ℤ weighed bound f ks)
  leader_decides f small ks z (inl l) = leader_outweighs (weight bound ks) z (weighed bound f ks) l (weighed_small f small ks)
  leader_decides f small [] z (inr (e, none)) = absurd none
  leader_decides f small (k ∷ ks) z (inr (e, rest)) =
      by (weight bound (k ∷ ks)) z (weighed bound f (k ∷ ks)) e (leader_decides f small ks (f k) rest)
    where
      by : (w : ℕ) (z r : ℤ) → z ≡ pos 0 → pos 0 <ℤ r → pos 0 <ℤ (pos w *ℤ z +ℤ r)
      by w z r e l = subst (λ y. pos 0 <ℤ (pos w *ℤ y +ℤ r)) (sym e) (omega (arith, ints, l))

abbrev mixE : Expression → Expression → Expression → Expression → Expression
mixE a b c d = minus a (plus (plus (times (var 0) b) (times (var 1) c)) (times (var 2) d))

-- the weights of a combination
pub weighed_mix : (bound : ℕ) (f g h l : ℕ → ℤ) (x y z : ℤ) (ks : List ℕ)
    → weighed bound (λ k. f k -ℤ (x *ℤ g k +ℤ y *ℤ h k +ℤ z *ℤ l k)) ks
    ≡ weighed bound f ks -ℤ (x *ℤ weighed bound g ks +ℤ y *ℤ weighed bound h ks +ℤ z *ℤ weighed bound l ks)
weighed_mix bound f g h l x y z [] = omega (arith, ints)
weighed_mix bound f g h l x y z (k ∷ ks) =
    ap (λ r. w *ℤ (f k -ℤ (x *ℤ g k +ℤ y *ℤ h k +ℤ z *ℤ l k)) +ℤ r) (weighed_mix bound f g h l x y z ks)
    ∙ ring (x ∷ y ∷ z ∷ w ∷ f k ∷ g k ∷ h k ∷ l k ∷ weighed bound f ks ∷ weighed bound g ks ∷ weighed bound h ks ∷ weighed bound l ks ∷ [])
    (plus (times (var 3) (mixE (var 4) (var 5) (var 6) (var 7))) (mixE (var 8) (var 9) (var 10) (var 11)))
    (mixE (plus (times (var 3) (var 4)) (var 8)) (plus (times (var 3) (var 5)) (var 9)) (plus (times (var 3) (var 6)) (var 10)) (plus (times (var 3) (var 7)) (var 11))) refl
  where
    w : ℤ
    w = pos (weight bound ks)
