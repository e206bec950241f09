-- Among the numbers below n with a property that is decided, one that comes first in a total order of them.
use Rattle.std.proofs.Common.{ℕ, zero, suc, ◌<◌, ◌⊎◌, inl, inr, ⊎_elim, sym, subst, arith}
use Rattle.ntfe_model.proofs.Triples.{Decided}
use Rattle.star_builder.proofs.Decisions.{split_last}

module _ (C : ℕ → Type 0) (R : ℕ → ℕ → Type 0) (decide : (p : ℕ) → Decided (C p)) (total : (p q : ℕ) → C p → C q → R p q ⊎ R q p)
    (chain : (p q r : ℕ) → C p → C q → C r → R p q → R q r → R p r) where
  abbrev pub IsFound : ℕ → Type 0
  IsFound n = ((k : ℕ) → k < n → C k → ⊥) ⊎ ((d : ℕ) × C d × ((k : ℕ) → k < n → C k → R d k))

  itself : (p : ℕ) → C p → R p p
  itself p c = ⊎_elim (λ r. r) (λ r. r) (total p p c c)

  pub least_of : (n : ℕ) → IsFound n
  least_of zero = inl (λ k l c. absurd (omega (arith, l)))
  least_of (suc n) = by (least_of n) (decide n)
    where
      none : ((k : ℕ) → k < n → C k → ⊥) → (C n → ⊥) → (k : ℕ) → k < suc n → C k → ⊥
      none f g k l c = ⊎_elim (λ m. f k m c) (λ e. g (subst C e c)) (split_last k n l)

      first : ((k : ℕ) → k < n → C k → ⊥) → C n → (k : ℕ) → k < suc n → C k → R n k
      first f g k l c = ⊎_elim (λ m. absurd (f k m c)) (λ e. (let P : ℕ → Type 0 = R n in subst P (sym e) (itself n g))) (split_last k n l)

      kept : (d : ℕ) → ((k : ℕ) → k < n → C k → R d k) → (C n → R d n) → (k : ℕ) → k < suc n → C k → R d k
      kept d f g k l c = ⊎_elim (λ m. f k m c) (λ e. (let P : ℕ → Type 0 = R d in subst P (sym e) (g (subst C e c)))) (split_last k n l)

      pick : (d : ℕ) → C d → ((k : ℕ) → k < n → C k → R d k) → C n → R d n ⊎ R n d → IsFound (suc n)
      pick d c f g (inl r) = inr (d, c, kept d f (λ i. r))
      pick d c f g (inr r) = inr (n, g, kept n (λ k l i. chain n d k g c i r (f k l i)) (λ i. itself n i))

      by : IsFound n → Decided (C n) → IsFound (suc n)
      by (inl f) (inr g) = inl (none f g)
      by (inl f) (inl g) = inr (n, g, first f g)
      by (inr (d, c, f)) (inr g) = inr (d, c, kept d f (λ i. absurd (g i)))
      by (inr (d, c, f)) (inl g) = pick d c f g (total d n c g)

  -- where some number has the property
  pub least_with : (n k : ℕ) → k < n → C k → (d : ℕ) × C d × ((k : ℕ) → k < n → C k → R d k)
  least_with n k l c = ⊎_elim (λ f. absurd (f k l c)) (λ r. r) (least_of n)
