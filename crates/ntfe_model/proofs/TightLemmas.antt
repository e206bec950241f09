-- The bits of the entries that are tight on a vector.
use Rattle.std.proofs.Common.{get_or, ◌≡◌, ◌≢◌, ◌∙◌, ℕ, ◌+◌, ◌*◌, ◌%◌, ◌^◌, ◌<◌, ⊎_elim, sym, ap, subst, arith, min, List, length, bit_and, bit_or, w64}
use Rattle.std.specs.Int.{bit_at, trailing_zeros}
use Rattle.std.proofs.lemmas.Bool.{cases_eq}
use Rattle.std.proofs.lemmas.Nat.{and_le_r}
use Rattle.std.proofs.lemmas.Nat.Bits.{bit_at_and, bit_at-lt, bit_at-zero, bit_at_set_same, bit_at_set_other, bit_at-trailing_zeros}
use Rattle.std.proofs.lemmas.List.{get_or_default}
use Rattle.ntfe_nums.specs.Vectors.{Vector, origin}
use Rattle.ntfe_model.specs.Reflexive.{at, IsTight, HasFacet}
use Rattle.ntfe_model.specs.TightBits.{AreTightBits, IsFacetOf}

-- what the code reads at a place
pub read_at : (vs : List Vector) (i : ℕ) (x : Vector) → x ≡ get_or vs i x → i < length vs → x ≡ at vs i
read_at vs i x e lt = e ∙ get_or_default vs i x origin lt

module _ (v : Vector) (ms : List Vector) (n bits : ℕ) (h : AreTightBits v ms n bits) where
  pub bits_with : n < 64 → IsTight (at ms n) v → AreTightBits v ms (n + 1) (bit_or bits (1 * 2 ^ n % 2 ^ 64))
  bits_with few tight = record {
    sound = λ k e.
        ⊎_elim {C = (k < n + 1) × IsTight (at ms k) v}
        (λ (s : k ≡ n). let P : ℕ → Type 0 = λ i. IsTight (at ms i) v in (omega arith, subst P (sym s) tight))
        (λ (d : k ≡ n → ⊥). let r = h.sound k (sym (bit_at_set_other w64 bits n few k d) ∙ e) in (omega arith, r.1)) (cases_eq k n);
    complete = λ k lt t.
        ⊎_elim {C = bit_at (bit_or bits (1 * 2 ^ n % 2 ^ 64)) k ≡ 1}
        (λ (s : k ≡ n). let P : ℕ → Type 0 = λ i. bit_at (bit_or bits (1 * 2 ^ n % 2 ^ 64)) i ≡ 1 in subst P (sym s) (bit_at_set_same w64 bits n few))
        (λ (d : k ≡ n → ⊥). bit_at_set_other w64 bits n few k d ∙ h.complete k (omega arith) t) (cases_eq k n);
  }

  pub bits_without : ¬ (IsTight (at ms n) v) → AreTightBits v ms (n + 1) bits
  bits_without loose = record {
    sound = λ k e. let r = h.sound k e in (omega arith, r.1);
    complete = λ k lt t.
        ⊎_elim {C = bit_at bits k ≡ 1}
        (λ (s : k ≡ n). let P : ℕ → Type 0 = λ i. IsTight (at ms i) v in absurd (loose (subst P s t)))
        (λ (d : k ≡ n → ⊥). h.complete k (omega arith) t) (cases_eq k n);
  }

module _ (a b c d : Vector) (ms : List Vector) (p q r s : ℕ)
    (hp : AreTightBits a ms (length ms) p) (hq : AreTightBits b ms (length ms) q) (hr : AreTightBits c ms (length ms) r) (hs : AreTightBits d ms (length ms) s) where
  common : (k : ℕ) → bit_at (bit_and (bit_and (bit_and p q) r) s) k ≡ min (min (min (bit_at p k) (bit_at q k)) (bit_at r k)) (bit_at s k)
  common k =
      bit_at_and (bit_and (bit_and p q) r) s k
      ∙ ap (λ z. min z (bit_at s k)) (bit_at_and (bit_and p q) r k ∙ ap (λ z. min z (bit_at r k)) (bit_at_and p q k))

  pub facet_from_bits : s < 2 ^ 64 → bit_and (bit_and (bit_and p q) r) s ≢ 0 → IsFacetOf ms a b c d (trailing_zeros w64 (bit_and (bit_and (bit_and p q) r) s))
  facet_from_bits small ne =
      let n = bit_and (bit_and (bit_and p q) r) s in
      let some : 0 < n = omega arith in
      let below : n < 2 ^ 64 = omega (arith, and_le_r (bit_and (bit_and p q) r) s) in
      let k = trailing_zeros w64 n in
      let one : bit_at n k ≡ 1 = (bit_at-trailing_zeros w64 n some below).1 in
      let e = common k in
      let bp = bit_at-lt p k in let bq = bit_at-lt q k in let br = bit_at-lt r k in let bs = bit_at-lt s k in
      let ip : bit_at p k ≡ 1 = omega arith in
      let iq : bit_at q k ≡ 1 = omega arith in
      let ir : bit_at r k ≡ 1 = omega arith in
      let is : bit_at s k ≡ 1 = omega arith in
      let tp = hp.sound k ip in
      record { place = tp.0; first = tp.1; second = (hq.sound k iq).1; third = (hr.sound k ir).1; fourth = (hs.sound k is).1 }

  pub none_from_bits : bit_and (bit_and (bit_and p q) r) s ≡ 0 → ¬ (HasFacet ms a b c d)
  none_from_bits z f =
      let m = f.0 in
      let k = f.1.0 in
      let lt = f.1.1 in
      let e : m ≡ at ms k = sym f.1.2 ∙ get_or_default ms k m origin lt in
      let P : Vector → Vector → Type 0 = λ v w. IsTight w v in
      let ip : bit_at p k ≡ 1 = hp.complete k lt (subst (P a) e f.2) in
      let iq : bit_at q k ≡ 1 = hq.complete k lt (subst (P b) e f.3) in
      let ir : bit_at r k ≡ 1 = hr.complete k lt (subst (P c) e f.4) in
      let is : bit_at s k ≡ 1 = hs.complete k lt (subst (P d) e f.5) in
      let zero : bit_at (bit_and (bit_and (bit_and p q) r) s) k ≡ 0 = ap (λ n. bit_at n k) z ∙ bit_at-zero k in
      let eq = common k in
      omega arith
