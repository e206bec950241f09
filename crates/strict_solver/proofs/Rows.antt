-- Numbers of a row, and 0 past its end.
use Rattle.std.proofs.Common.{◌≡◌, ℕ, suc, ◌+◌, ◌/◌, ◌^◌, ◌<◌, ◌≤◌, ◌⊎◌, inl, inr, sym, ap, ◌∙◌, subst, arith, pow_mono, ℤ, pos, negsuc, ◌*ℤ◌, ◌<ℤ◌, neg_ℤ, List, length, set, get_or-set_same, get_or-set_other, unsigned_abs, to_z, of_z, w64}
use Rattle.std.specs.Int.{◌∣◌}
use Rattle.std.specs.Int.Signed.{quot_z}
use Rattle.std.proofs.lemmas.Int.{ints}
use Rattle.std.proofs.Math.Nat.{mul-div_cancel'}
use Rattle.ntfe_nums.proofs.Ring.{product_neg}
use Rattle.std.specs.Int.{w128}
use Rattle.ntfe_nums.proofs.Machine.{back}
use Rattle.std.proofs.lemmas.Nat.{pow_pos}
use Rattle.std.proofs.lemmas.List.{get_or_past}
use Rattle.strict_solver.specs.Rows.{number, AreNarrow, IsLowRow}

-- small numbers come back from their words
pub unwrap64 : (z : ℤ) → unsigned_abs z < 2 ^ 62 → to_z w64 (of_z w64 z) ≡ z
unwrap64 z h = back w64 z (2 ^ 62) (omega arith) (omega arith)

pub unwrap128 : (z : ℤ) → unsigned_abs z < 2 ^ 126 → to_z w128 (of_z w128 z) ≡ z
unwrap128 z h = back w128 z (2 ^ 126) (omega arith) (omega arith)

-- a word is 0 exactly where the number is
pub zero_word : (z : ℤ) → unsigned_abs z < 2 ^ 62 → of_z w64 z ≡ 0 → z ≡ pos 0
zero_word z h e = sym (unwrap64 z h) ∙ ap (to_z w64) e

pub number_past : (row : List ℤ) (k : ℕ) → length row ≤ k → number row k ≡ pos 0
number_past row k h = get_or_past row k (pos 0) h

pub zero_narrow : (width : ℕ) → 0 < 2 ^ width
zero_narrow width = pow_pos width

pub narrow_all : (width : ℕ) (row : List ℤ) (n : ℕ) → length row ≤ n → ((k : ℕ) → k < n → unsigned_abs (number row k) < 2 ^ width) → AreNarrow width row
narrow_all width row n l h = record { each = λ k. at k (let g : (k < n) ⊎ (n ≤ k) = grind arith in g) }
  where
    at : (k : ℕ) → (k < n) ⊎ (n ≤ k) → unsigned_abs (number row k) < 2 ^ width
    at k (inl g) = h k g
    at k (inr g) = subst (λ z. unsigned_abs z < 2 ^ width) (sym (number_past row k (omega arith))) (zero_narrow width)

-- ---- a loop over the places of a row

-- what holds of the numbers below k holds below k + 1 once the number at k is written
pub set_next : (out : List ℤ) (k : ℕ) (z : ℤ) (P : ℕ → ℤ → Type 0) → k < length out → P k z → ((j : ℕ) → j < k → P j (number out j)) → (j : ℕ) → j < k + 1 → P j (number (set out k z) j)
set_next out k z P l h below j m = at (let c : (j < k) ⊎ (j ≡ k) = grind arith in c)
  where
    at : (j < k) ⊎ (j ≡ k) → P j (number (set out k z) j)
    at (inl i) = subst (P j) (sym (get_or-set_other out k j z (pos 0) (λ e. omega arith))) (below j i)
    at (inr e) =
        let Q : ℕ → Type 0 = λ n. P n (number (set out k z) n) in
        subst Q (sym e) (subst (P k) (sym (get_or-set_same out k z (pos 0) l)) h)

-- what holds of the numbers from k on holds from k + 1 on
pub set_rest : (out : List ℤ) (k : ℕ) (z : ℤ) (P : ℕ → ℤ → Type 0) → ((j : ℕ) → k ≤ j → P j (number out j)) → (j : ℕ) → k + 1 ≤ j → P j (number (set out k z) j)
set_rest out k z P above j m = subst (P j) (sym (get_or-set_other out k j z (pos 0) (λ e. omega arith))) (above j (omega arith))

-- ---- quotients without a remainder
pub exact_quotient : (d z : ℤ) → pos 0 <ℤ d → unsigned_abs d ∣ unsigned_abs z → d *ℤ quot_z z d ≡ z
exact_quotient (pos d) (pos z) p h = ap pos (mul-div_cancel' d h)
exact_quotient (pos d) (negsuc z) p h = product_neg (pos d) (pos (suc z / d)) ∙ ap (λ n. neg_ℤ (pos n)) (mul-div_cancel' d h)
exact_quotient (negsuc d) z p h = absurd (omega (arith, ints))

-- ---- widths
pub wider_narrow : (v w : ℕ) (row : List ℤ) → v ≤ w → AreNarrow v row → AreNarrow w row
wider_narrow v w row h n = record { each = λ k. (let a = n.each k in let b = pow_mono {i = v} {j = w} h in omega arith) }

pub wider_low : (v w : ℕ) (row : List ℤ) → v ≤ w → IsLowRow v row → IsLowRow w row
wider_low v w row h l = record { positive = l.positive; narrow = wider_narrow v w row h l.narrow; lowest = l.lowest }
