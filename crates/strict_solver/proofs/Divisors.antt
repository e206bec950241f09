-- A number that divides all numbers so far, in a loop over the numbers of a row.
use Rattle.std.proofs.Common.{◌≡◌, ℕ, ◌+◌, ◌<◌, ◌≤◌, sym, subst, ℤ, pos, List, length, unsigned_abs, below_more, ◌⊎◌, inl, inr, arith}
use Rattle.std.specs.Int.{◌∣◌, IsGcd}
use Rattle.std.proofs.lemmas.Nat.Gcd.{dvd_trans, dvd-zero}
use Rattle.std.proofs.lemmas.List.{get_or_past}
use Rattle.strict_solver.specs.Rows.{number}

pub divides_next : (xs : List ℤ) (i d x g : ℕ) → x ≡ unsigned_abs (number xs i) → IsGcd d x g → ((k : ℕ) → k < i → d ∣ unsigned_abs (number xs k)) → (k : ℕ) → k < i + 1 → g ∣ unsigned_abs (number xs k)
divides_next xs i d x g e h inv =
    below_more _ _ (λ k l. dvd_trans g h.0 (inv k l)) (subst (λ z. g ∣ z) e h.1)

pub greatest_next : (xs : List ℤ) (i d x g : ℕ) → x ≡ unsigned_abs (number xs i) → IsGcd d x g → ((m : ℕ) → ((k : ℕ) → m ∣ unsigned_abs (number xs k)) → m ∣ d) → (m : ℕ) → ((k : ℕ) → m ∣ unsigned_abs (number xs k)) → m ∣ g
greatest_next xs i d x g e h inv m all = h.2 m (inv m all) (subst (λ z. m ∣ z) (sym e) (all i))

-- beyond the last number each divides
pub divides_all : (xs : List ℤ) (d n : ℕ) → length xs ≤ n → ((k : ℕ) → k < n → d ∣ unsigned_abs (number xs k)) → (k : ℕ) → d ∣ unsigned_abs (number xs k)
divides_all xs d n l h k = by (let g : (k < n) ⊎ (n ≤ k) = grind arith in g)
  where
    by : (k < n) ⊎ (n ≤ k) → d ∣ unsigned_abs (number xs k)
    by (inl g) = h k g
    by (inr g) = subst (λ z. d ∣ unsigned_abs z) (sym (get_or_past xs k (pos 0) (omega arith))) (dvd-zero d)
