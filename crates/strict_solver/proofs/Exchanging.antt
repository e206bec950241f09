-- What an exchange and a kept line leave in a basis.
use Rattle.std.proofs.Common.{◌≡◌, ℕ, ◌+◌, ◌^◌, ◌<◌, sym, ap, ◌∙◌, subst, arith, ℤ, pos, ◌-ℤ◌, List, length, set, length-set, get_or-set_same, get_or-set_other, unsigned_abs}
use Rattle.ntfe_model.specs.declared.nogood.Fold.{Fold}
use Rattle.strict_solver.specs.Rows.{number, AreNarrow}
use Rattle.strict_solver.specs.Grids.{row_at}
use Rattle.strict_solver.specs.Mixing.{AreNarrowRows}
use Rattle.strict_solver.specs.Standing.{IsFoldOfRows, IsSlackRow, IsPutIn}
use Rattle.strict_solver.proofs.Words.{set_small}

-- the fold of the rows with the denominator written in its place, and taken from the constant
module _ (columns : ℕ) (cells : List ℤ) (d : ℤ) (f : Fold) (sums line : List ℤ) (first constant : ℤ) (h : IsFoldOfRows (columns + 2) cells f sums) (count : length sums ≡ columns + 2) (ef : first ≡ d) (ec : constant ≡ number sums 1 -ℤ d)
    (is : line ≡ set (set sums 0 first) 1 constant) where
  slack_there : IsSlackRow columns cells d f (set (set sums 0 first) 1 constant)
  slack_there = record {
    count = length-set (set sums 0 first) 1 constant ∙ length-set sums 0 first ∙ count;
    first = get_or-set_other (set sums 0 first) 1 0 constant (pos 0) (λ e. omega arith) ∙ get_or-set_same sums 0 first (pos 0) (omega arith) ∙ ef;
    constant = get_or-set_same (set sums 0 first) 1 constant (pos 0) (let a = length-set sums 0 first in omega arith) ∙ ec ∙ ap (λ z. z -ℤ d) (h.each 1 (omega arith));
    coefficients = λ p l m. get_or-set_other (set sums 0 first) 1 p constant (pos 0) (λ e. omega arith) ∙ get_or-set_other sums 0 p first (pos 0) (λ e. omega arith) ∙ h.each p m;
  }

  pub slack_written : IsSlackRow columns cells d f line
  slack_written = let P : List ℤ → Type 0 = λ es. IsSlackRow columns cells d f es in subst P (sym is) slack_there

  pub slack_small : unsigned_abs first < 2 ^ 30 → unsigned_abs constant < 2 ^ 30 → AreNarrow 30 line
  slack_small a b = let P : List ℤ → Type 0 = λ es. AreNarrow 30 es in subst P (sym is) (record { each = set_small (set sums 0 first) 1 constant b (set_small sums 0 first a h.narrow.each) })

-- rows that were put in are small
pub narrow_after : (line : List ℤ) (p n s : ℕ) (d : ℤ) (old new cells : List ℤ) → cells ≡ new → ((k : ℕ) → k < n → IsPutIn line p d (row_at s old k) (row_at s new k)) → AreNarrowRows n s cells
narrow_after line p n s d old new cells e h = let P : List ℤ → Type 0 = λ xs. AreNarrowRows n s xs in subst P (sym e) (record { each = λ k l. (h k l).narrow })

pub put_again : (line line' : List ℤ) (p n s t : ℕ) (d d' : ℤ) (old old' new cells : List ℤ) → line ≡ line' → s ≡ t → d ≡ d' → old ≡ old' → cells ≡ new → ((k : ℕ) → k < n → IsPutIn line p d (row_at s old k) (row_at s new k))
    → (k : ℕ) → k < n → IsPutIn line' p d' (row_at t old' k) (row_at t cells k)
put_again line line' p n s t d d' old old' new cells el es ed eo en h k l =
    let A : List ℤ → Type 0 = λ xs. IsPutIn xs p d' (row_at t old' k) (row_at t cells k) in
    let B : ℤ → Type 0 = λ z. IsPutIn line p z (row_at t old' k) (row_at t cells k) in
    let C : List ℤ → Type 0 = λ xs. IsPutIn line p d (row_at t xs k) (row_at t cells k) in
    let D : List ℤ → Type 0 = λ xs. IsPutIn line p d (row_at t old k) (row_at t xs k) in
    let E : ℕ → Type 0 = λ m. IsPutIn line p d (row_at m old k) (row_at m new k) in
    subst A el (subst B ed (subst C eo (subst D (sym en) (subst E es (h k l)))))
