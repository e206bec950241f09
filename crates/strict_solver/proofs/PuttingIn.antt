-- A line put into the rows of a basis.
use Rattle.std.proofs.Common.{◌≡◌, ◌≢◌, ℕ, suc, ◌+◌, ◌-◌, ◌*◌, ◌^◌, ◌<◌, ◌≤◌, ◌⊎◌, inl, inr, refl, sym, ap, ◌∙◌, subst, arith, mul-le-mul, ℤ, pos, ◌-ℤ◌, ◌*ℤ◌, List, [], ◌∷◌, length, set, length-set, get_or-set_same, get_or-set_other, unsigned_abs}
use borrow.Rule.Slice.PartMut.{put_mid}
use Rattle.ntfe_nums.specs.Vectors.{sign}
use Rattle.ntfe_nums.proofs.Ring.{ring}
use Rattle.ntfe_nums.proofs.Ring.Expression.{var, num, minus, times}
use Rattle.strict_solver.specs.Rows.{number, AreNarrow}
use Rattle.strict_solver.specs.Grids.{row_at}
use Rattle.strict_solver.specs.Mixing.{IsMixed}
use Rattle.strict_solver.specs.Standing.{IsPutIn}
use Rattle.strict_solver.proofs.Forms.{zero_factor, sign_some}
use Rattle.strict_solver.proofs.Rows.{number_past}
use Rattle.strict_solver.proofs.Parts.{row_here, row_elsewhere, put_length}
use Rattle.strict_solver.proofs.Words.{set_small}

-- past the rows' ends all numbers are 0
pub mixed_all : (d times factor : ℤ) (old line new : List ℤ) (n : ℕ) → length new ≡ length old → length line ≡ length old → length old ≤ n
    → ((j : ℕ) → j < n → d *ℤ number new j ≡ times *ℤ number old j -ℤ factor *ℤ number line j) → ((j : ℕ) → unsigned_abs (number new j) < 2 ^ 30) → IsMixed d times factor old line new
mixed_all d p x old line new n cn cl l below small = record { each = λ j. by j (let c : (j < n) ⊎ (n ≤ j) = grind arith in c); narrow = record { each = small } }
  where
    by : (j : ℕ) → (j < n) ⊎ (n ≤ j) → d *ℤ number new j ≡ p *ℤ number old j -ℤ x *ℤ number line j
    by j (inl i) = below j i
    by j (inr i) =
        ap (λ z. d *ℤ z) (number_past new j (omega arith))
        ∙ ring (d ∷ p ∷ x ∷ []) (times (var 0) (num (pos 0))) (minus (times (var 1) (num (pos 0))) (times (var 2) (num (pos 0)))) refl
        ∙ (λ t. p *ℤ sym (number_past old j (omega arith)) t -ℤ x *ℤ sym (number_past line j (omega arith)) t)

-- a mixed row with the two numbers that are written afterwards
pub put_in : (line old mixed : List ℤ) (column : ℕ) (d times factor : ℤ) → length mixed ≡ length old → 2 ≤ column → column < length old
    → times ≡ sign (number line column) *ℤ number line column → factor ≡ sign (number line column) *ℤ number old column → unsigned_abs times < 2 ^ 30 → unsigned_abs factor < 2 ^ 30
    → IsMixed d times factor old line mixed → IsPutIn line column d old (set (set mixed 0 times) column factor)
put_in line old mixed column d p x cm after within ep ex sp sx m = record {
  count = length-set (set mixed 0 p) column x ∙ length-set mixed 0 p ∙ cm;
  first = get_or-set_other (set mixed 0 p) column 0 x (pos 0) (λ e. omega arith) ∙ get_or-set_same mixed 0 p (pos 0) (omega arith) ∙ ep;
  at = get_or-set_same (set mixed 0 p) column x (pos 0) (let a = length-set mixed 0 p in omega arith) ∙ ex;
  others = λ j n m. ap (λ z. d *ℤ z) (get_or-set_other (set mixed 0 p) column j x (pos 0) m ∙ get_or-set_other mixed 0 j p (pos 0) n) ∙ at j;
  narrow = record { each = set_small (set mixed 0 p) column x sx (set_small mixed 0 p sp m.narrow.each) };
}
  where
    at : (j : ℕ) → d *ℤ number mixed j ≡ (sign (number line column) *ℤ number line column) *ℤ number old j -ℤ (sign (number line column) *ℤ number old column) *ℤ number line j
    at j = m.each j ∙ (λ t. ep t *ℤ number old j -ℤ ex t *ℤ number line j)

-- where the row does not have the variable, and the denominator stays, the row stays
pub put_in-same : (line old : List ℤ) (column : ℕ) (d : ℤ) → number line column ≢ pos 0 → sign (number line column) *ℤ number old column ≡ pos 0 → sign (number line column) *ℤ number line column ≡ d → number old 0 ≡ d
    → AreNarrow 30 old → IsPutIn line column d old old
put_in-same line old column d some ex ep first narrow = record {
  count = refl;
  first = first ∙ sym ep;
  at = zero_factor (sign (number line column)) (number old column) (sign_some (number line column) some) ex ∙ sym ex;
  others = λ j n m.
      ring (d ∷ number old j ∷ number line j ∷ []) (times (var 0) (var 1)) (minus (times (var 0) (var 1)) (times (num (pos 0)) (var 2))) refl
      ∙ (λ t. sym ep t *ℤ number old j -ℤ sym ex t *ℤ number line j);
  narrow = narrow;
}

pub row_fits : (n s k : ℕ) → k < n → k * s + s ≤ n * s
row_fits n s k l = let m : suc k * s ≤ n * s = mul-le-mul (let a : suc k ≤ n = omega arith in a) (let b : s ≤ s = omega arith in b) in omega arith

-- the rows below k are done, and the others wait
pub record IsPuttingIn (line : List ℤ) (column : ℕ) (d : ℤ) (s : ℕ) (old cells : List ℤ) (k : ℕ) : Type 0 where
  pub count : length cells ≡ length old
  pub below : (j : ℕ) → j < k → IsPutIn line column d (row_at s old j) (row_at s cells j)
  pub above : (j : ℕ) → k ≤ j → row_at s cells j ≡ row_at s old j

pub next_put_in : (line : List ℤ) (column : ℕ) (d : ℤ) (s : ℕ) (old cells row : List ℤ) (k : ℕ) → k * s + s ≤ length old → IsPuttingIn line column d s old cells k
    → length row ≡ s → IsPutIn line column d (row_at s cells k) row → IsPuttingIn line column d s old (put_mid (k * s) (k * s + s - k * s) cells row) (k + 1)
next_put_in line column d s old cells row k room h count p = record {
  count = put_length (k * s) (k * s + s - k * s) cells row (omega arith) (omega arith) ∙ h.count;
  below = λ j l. by j (let c : (j < k) ⊎ (j ≡ k) = grind arith in c);
  above = λ j l. row_elsewhere s cells row k (let a = h.count in omega arith) count j (λ e. omega arith) ∙ h.above j (omega arith);
}
  where
    room_now : k * s + s ≤ length cells
    room_now = let a = h.count in omega arith

    by : (j : ℕ) → (j < k) ⊎ (j ≡ k) → IsPutIn line column d (row_at s old j) (row_at s (put_mid (k * s) (k * s + s - k * s) cells row) j)
    by j (inl l) = let P : List ℤ → Type 0 = λ r. IsPutIn line column d (row_at s old j) r in subst P (sym (row_elsewhere s cells row k room_now count j (λ e. omega arith))) (h.below j l)
    by j (inr e) =
        let P : List ℤ → Type 0 = λ r. IsPutIn line column d (row_at s old k) r in
        let Q : List ℤ → Type 0 = λ r. IsPutIn line column d r row in
        let R : ℕ → Type 0 = λ n. IsPutIn line column d (row_at s old n) (row_at s (put_mid (k * s) (k * s + s - k * s) cells row) n) in
        subst R (sym e) (subst P (sym (row_here s cells row k room_now count)) (subst Q (h.above k (omega arith)) p))
