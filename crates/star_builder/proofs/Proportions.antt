-- Two gaps that are 0 at the same four things are proportional.
--     gaps_alike      their values at d are to each other as at any x
use Rattle.std.proofs.Common.{◌≡◌, ◌≢◌, refl, sym, ap, ◌∙◌, ℤ, pos, ◌+ℤ◌, ◌-ℤ◌, ◌*ℤ◌, [], ◌∷◌, ⊎_elim}
use Rattle.ntfe_nums.specs.Vectors.{Vector}
use Rattle.ntfe_nums.proofs.Ring.{ring}
use Rattle.ntfe_nums.proofs.Ring.Expression.{var, num, minus, plus, times}
use Rattle.ntfe_model.proofs.PlaneNumbers.{zero_factor}
use Rattle.star_builder.proofs.Normals.{cancel_factor}
use Rattle.star_builder.proofs.Rises.{gap, gap_fourth, rise, volume}

-- one of the gaps, times what the two have in common
one_gap : (D S F f fe b be w we : ℤ) → D *ℤ f ≡ b *ℤ F +ℤ S *ℤ w → D *ℤ fe ≡ be *ℤ F +ℤ S *ℤ we → fe ≡ pos 0 → (D *ℤ we) *ℤ f ≡ F *ℤ (we *ℤ b -ℤ be *ℤ w)
one_gap D S F f fe b be w we e ee z =
    ring (D ∷ S ∷ F ∷ f ∷ b ∷ be ∷ w ∷ we ∷ []) (times (times (var 0) (var 7)) (var 3))
    (plus (times (var 7) (times (var 0) (var 3))) (times (var 6) (times (var 0) (num (pos 0))))) refl
    ∙ (λ i. we *ℤ e i +ℤ w *ℤ (D *ℤ sym z i))
    ∙ (λ i. we *ℤ (b *ℤ F +ℤ S *ℤ w) +ℤ w *ℤ none i)
    ∙ ring (D ∷ S ∷ F ∷ f ∷ b ∷ be ∷ w ∷ we ∷ []) (plus (times (var 7) (plus (times (var 4) (var 2)) (times (var 1) (var 6)))) (times (var 6) (minus (num (pos 0)) (plus (times (var 5) (var 2)) (times (var 1) (var 7))))))
    (times (var 2) (minus (times (var 7) (var 4)) (times (var 5) (var 6)))) refl
  where
    none : D *ℤ fe ≡ pos 0 -ℤ (be *ℤ F +ℤ S *ℤ we)
    none = ap (λ y. D *ℤ y) z ∙ ring (D ∷ []) (times (var 0) (num (pos 0))) (minus (num (pos 0)) (num (pos 0))) refl ∙ ap (λ y. pos 0 -ℤ y) (sym (ap (λ y. D *ℤ y) z ∙ ring (D ∷ []) (times (var 0) (num (pos 0))) (num (pos 0)) refl) ∙ ee)

module _ {A : Type 0} (place : A → Vector) (height : A → ℤ) where
  pub gaps_alike : (s : ℤ) (n : Vector) (t : ℤ) (u : Vector) (a b c d e x : A) → volume place height a b c d ≢ pos 0 → rise place height a b c d e ≢ pos 0
      → (gap place height s n a ≡ pos 0) × (gap place height s n b ≡ pos 0) × (gap place height s n c ≡ pos 0) × (gap place height s n e ≡ pos 0)
      → (gap place height t u a ≡ pos 0) × (gap place height t u b ≡ pos 0) × (gap place height t u c ≡ pos 0) × (gap place height t u e ≡ pos 0)
      → gap place height s n d *ℤ gap place height t u x ≡ gap place height t u d *ℤ gap place height s n x
  gaps_alike s n t u a b c d e x independent apart h k =
      cancel_factor (volume place height a b c d *ℤ rise place height a b c d e) (gap place height s n d *ℤ gap place height t u x) (gap place height t u d *ℤ gap place height s n x)
      (λ z. ⊎_elim independent apart (zero_factor (volume place height a b c d) (rise place height a b c d e) z))
      (by (volume place height a b c d *ℤ rise place height a b c d e) (gap place height s n d) (gap place height t u d) (gap place height s n x) (gap place height t u x)
      (rise place height a b c d e *ℤ volume place height a b c x -ℤ volume place height a b c e *ℤ rise place height a b c d x)
      (one s n h) (one t u k))
    where
      one : (s : ℤ) (n : Vector) → (gap place height s n a ≡ pos 0) × (gap place height s n b ≡ pos 0) × (gap place height s n c ≡ pos 0) × (gap place height s n e ≡ pos 0)
          → (volume place height a b c d *ℤ rise place height a b c d e) *ℤ gap place height s n x
          ≡ gap place height s n d *ℤ (rise place height a b c d e *ℤ volume place height a b c x -ℤ volume place height a b c e *ℤ rise place height a b c d x)
      one s n h =
          one_gap (volume place height a b c d) s (gap place height s n d) (gap place height s n x) (gap place height s n e) (volume place height a b c x) (volume place height a b c e) (rise place height a b c d x) (rise place height a b c d e)
          (gap_fourth place height s n a b c d x h.0 h.1 h.2) (gap_fourth place height s n a b c d e h.0 h.1 h.2) h.3

      by : (D F G f g w : ℤ) → D *ℤ f ≡ F *ℤ w → D *ℤ g ≡ G *ℤ w → D *ℤ (F *ℤ g) ≡ D *ℤ (G *ℤ f)
      by D F G f g w e1 e2 =
          ring (D ∷ F ∷ g ∷ []) (times (var 0) (times (var 1) (var 2))) (times (var 1) (times (var 0) (var 2))) refl
          ∙ (λ i. F *ℤ e2 i) ∙ ring (F ∷ G ∷ w ∷ []) (times (var 0) (times (var 1) (var 2))) (times (var 1) (times (var 0) (var 2))) refl
          ∙ (λ i. G *ℤ sym e1 i) ∙ ring (G ∷ D ∷ f ∷ []) (times (var 0) (times (var 1) (var 2))) (times (var 1) (times (var 0) (var 2))) refl
