-- The line of a row's slack over the variables that are not basic: the heights' lines put into the row, one after the other.
use Rattle.std.proofs.Common.{◌≡◌, ℕ, zero, suc, ◌-◌, ◌<◌, ◌≤◌, ◌⊎◌, inl, inr, refl, sym, ap, ◌∙◌, arith, ℤ, pos, negsuc, ◌+ℤ◌, ◌-ℤ◌, ◌*ℤ◌, ◌<ℤ◌, List, [], ◌∷◌, ◌++◌, map, replicate, length, length-append, length-set, get_or, set, get_or-set_same, get_or-set_other, Some, None, Option}
use Rattle.std.proofs.lemmas.Int.{ints}
use Rattle.std.proofs.lemmas.List.{length-replicate, length-map}
use Rattle.ntfe_nums.proofs.Ring.{ring}
use Rattle.ntfe_nums.proofs.Ring.Expression.{var, num, plus, minus, times}
use Rattle.ntfe_model.specs.Solver.{Line, coefficient_at, with_put_in, IsReduced}
use Rattle.strict_solver.specs.Equations.{combination, Holds}
use Rattle.strict_solver.specs.Continuing.{IsLineFor}
use Rattle.strict_solver.proofs.Forms.{combination-scaled, combination-set, combination-zip, reduced_parts, pos_some}
use Rattle.strict_solver.proofs.Pivots.{IsTable, in_table, coefficient-put_in, length-zipped, reduced-clear}
use Rattle.strict_solver.proofs.Runs.{after_row}
use Rattle.strict_solver.proofs.Wider.{no_terms}
use Rattle.strict_solver.proofs.Deciding.{combination-padded}
use Rattle.strict_solver.proofs.Unique.{cancel}
use Rattle.strict_solver.proofs.Entries.{not_both}
use Rattle.ntfe_nums.proofs.Signs.{positive_product}

-- the same with the heights below k put in
record IsLineUpTo (columns : ℕ) (q : List ℤ) (s : List (Option Line)) (k : ℕ) (l : Line) : Type 0 where
  count : length l.coefficients ≡ length s
  positive : pos 0 <ℤ l.d
  zeros : (b : ℕ) (r : Line) → get_or s b None ≡ Some r → (b < k) ⊎ (columns ≤ b) → coefficient_at l b ≡ pos 0
  value : (one : ℤ) (vs : List ℤ) → length vs ≡ length s → Holds one vs s → l.d *ℤ (combination q vs -ℤ one) ≡ l.c *ℤ one +ℤ combination l.coefficients vs

module _ (columns : ℕ) (q : List ℤ) (s : List (Option Line)) (w : IsTable s) (cq : length q ≡ columns) (cs : columns ≤ length s) where
  line-first : IsLineUpTo columns q s 0 (record { d = pos 1; c = negsuc 0; coefficients = q ++ replicate (length s - columns) (pos 0) })
  line-first = record {
    count = (let a = length-append q (replicate (length s - columns) (pos 0)) in let b = length-replicate (length s - columns) (pos 0) in omega arith);
    positive = omega (arith, ints);
    zeros = λ b r e h. after_row q (length s - columns) b (by b h);
    value = λ one vs c h.
        (ring (combination q vs ∷ one ∷ []) (times (num (pos 1)) (minus (var 0) (var 1))) (plus (times (num (negsuc 0)) (var 1)) (var 0)) refl
        ∙ ap (λ k. negsuc 0 *ℤ one +ℤ k) (sym (combination-padded q vs (length s - columns))));
  }
    where
      by : (b : ℕ) → (b < 0) ⊎ (columns ≤ b) → length q ≤ b
      by b (inl h) = absurd (omega arith)
      by b (inr h) = omega arith

  module _ (k : ℕ) (lk : k < columns) (l : Line) (u : IsLineUpTo columns q s k l) where
    stays : get_or s k None ≡ None → IsLineUpTo columns q s (suc k) l
    stays n = record { count = u.count; positive = u.positive; zeros = λ b r e h. u.zeros b r e (by b r e h); value = u.value }
      where
        by : (b : ℕ) (r : Line) → get_or s b None ≡ Some r → (b < suc k) ⊎ (columns ≤ b) → (b < k) ⊎ (columns ≤ b)
        by b r e (inr h) = inr h
        by b r e (inl h) = at (let c : (b < k) ⊎ (b ≡ k) = grind arith in c)
          where
            at : (b < k) ⊎ (b ≡ k) → (b < k) ⊎ (columns ≤ b)
            at (inl i) = inl i
            at (inr i) = absurd (not_both _ r e (ap (λ z. get_or s z None) i ∙ n))

    puts : (m : Line) → get_or s k None ≡ Some m → IsLineUpTo columns q s (suc k) (with_put_in l k m)
    puts m em = record {
      count = length-zipped (λ e. e.0 *ℤ m.d +ℤ coefficient_at l k *ℤ e.1) (length s) (set l.coefficients k (pos 0)) m.coefficients (length-set l.coefficients k (pos 0) ∙ u.count) (w k m em).count;
      positive = positive_product l.d m.d u.positive (w k m em).positive;
      zeros = zero;
      value = value;
    }
      where
        set_zero : (b : ℕ) (r : Line) → get_or s b None ≡ Some r → (b < suc k) ⊎ (columns ≤ b) → get_or (set l.coefficients k (pos 0)) b (pos 0) ≡ pos 0
        set_zero b r e (inr h) = get_or-set_other l.coefficients k b (pos 0) (pos 0) (λ i. omega arith) ∙ u.zeros b r e (inr h)
        set_zero b r e (inl h) = at (let c : (b < k) ⊎ (b ≡ k) = grind arith in c)
          where
            at : (b < k) ⊎ (b ≡ k) → get_or (set l.coefficients k (pos 0)) b (pos 0) ≡ pos 0
            at (inl i) = get_or-set_other l.coefficients k b (pos 0) (pos 0) (λ j. omega arith) ∙ u.zeros b r e (inl i)
            at (inr i) = ap (λ z. get_or (set l.coefficients k (pos 0)) z (pos 0)) i ∙ get_or-set_same l.coefficients k (pos 0) (pos 0) (let a = u.count in omega arith)

        zero : (b : ℕ) (r : Line) → get_or s b None ≡ Some r → (b < suc k) ⊎ (columns ≤ b) → coefficient_at (with_put_in l k m) b ≡ pos 0
        zero b r e h =
            let c = in_table s b r e in
            let a = u.count in
            let d = (w k m em).count in
            coefficient-put_in l m k b (omega arith) (omega arith)
            ∙ (λ i. set_zero b r e h i *ℤ m.d +ℤ coefficient_at l k *ℤ (w k m em).zeros b r e i)
            ∙ no_terms m.d (coefficient_at l k)

        value : (one : ℤ) (vs : List ℤ) → length vs ≡ length s → Holds one vs s
            → (l.d *ℤ m.d) *ℤ (combination q vs -ℤ one) ≡ (l.c *ℤ m.d +ℤ coefficient_at l k *ℤ m.c) *ℤ one +ℤ combination (with_put_in l k m).coefficients vs
        value one vs c h =
            ring (l.d ∷ m.d ∷ (combination q vs -ℤ one) ∷ coefficient_at l k ∷ get_or vs k (pos 0) ∷ [])
            (times (times (var 0) (var 1)) (var 2))
            (plus (times (var 1) (times (var 0) (var 2))) (minus (times (var 3) (times (var 1) (var 4))) (times (var 3) (times (var 1) (var 4))))) refl
            ∙ (λ i. m.d *ℤ u.value one vs c h i +ℤ (coefficient_at l k *ℤ h k m em i -ℤ coefficient_at l k *ℤ (m.d *ℤ get_or vs k (pos 0))))
            ∙ ring (m.d ∷ l.c ∷ one ∷ combination l.coefficients vs ∷ coefficient_at l k ∷ m.c ∷ combination m.coefficients vs ∷ get_or vs k (pos 0) ∷ [])
            (plus (times (var 0) (plus (times (var 1) (var 2)) (var 3))) (minus (times (var 4) (plus (times (var 5) (var 2)) (var 6))) (times (var 4) (times (var 0) (var 7)))))
            (plus (times (plus (times (var 1) (var 0)) (times (var 4) (var 5))) (var 2)) (plus (times (plus (var 3) (times (minus (num (pos 0)) (var 4)) (var 7))) (var 0)) (times (var 4) (var 6)))) refl
            ∙ ap (λ z. (l.c *ℤ m.d +ℤ coefficient_at l k *ℤ m.c) *ℤ one +ℤ z) (sym sum)
          where
            sum : combination (with_put_in l k m).coefficients vs
                ≡ (combination l.coefficients vs +ℤ (pos 0 -ℤ coefficient_at l k) *ℤ get_or vs k (pos 0)) *ℤ m.d +ℤ coefficient_at l k *ℤ combination m.coefficients vs
            sum =
                combination-zip m.d (coefficient_at l k) (set l.coefficients k (pos 0)) m.coefficients vs (length-set l.coefficients k (pos 0) ∙ u.count ∙ sym (w k m em).count)
                ∙ ap (λ z. z *ℤ m.d +ℤ coefficient_at l k *ℤ combination m.coefficients vs) (combination-set l.coefficients vs k (pos 0) (let a = u.count in omega arith) (u.count ∙ sym c))

    next : (o : Option Line) → get_or s k None ≡ o → (r : Line) × IsLineUpTo columns q s (suc k) r
    next None e = (l, stays e)
    next (Some m) e = (with_put_in l k m, puts m e)

  up_to : (k : ℕ) → k ≤ columns → (l : Line) × IsLineUpTo columns q s k l
  up_to zero h = (record { d = pos 1; c = negsuc 0; coefficients = q ++ replicate (length s - columns) (pos 0) }, line-first)
  up_to (suc k) h = let u = up_to k (omega arith) in next k (omega arith) u.0 u.1 (get_or s k None) refl

  raw-line : (l : Line) × IsLineFor q s l
  raw-line = let u = up_to columns (omega arith) in (u.0, record { count = u.1.count; positive = u.1.positive; zeros = λ b r e. u.1.zeros b r e (let c : (b < columns) ⊎ (columns ≤ b) = grind arith in c); value = u.1.value })

-- a line in other numbers, and in lowest form
pub line-reduced : (q : List ℤ) (s : List (Option Line)) (raw l : Line) → IsLineFor q s raw → IsReduced raw l → IsLineFor q s l
line-reduced q s raw l f h = record {
  count = sym (length-map l.coefficients (λ e. pos h.k *ℤ e)) ∙ sym (ap length (reduced_parts raw l h).2) ∙ f.count;
  positive = h.positive;
  zeros = λ b r e. reduced-clear raw l b h (f.zeros b r e);
  value = λ one vs c g. cancel (pos h.k) (l.d *ℤ (combination q vs -ℤ one)) (l.c *ℤ one +ℤ combination l.coefficients vs) (pos_some h.k h.factor) (scaled one vs c g);
}
  where
    p : (raw.d ≡ pos h.k *ℤ l.d) × (raw.c ≡ pos h.k *ℤ l.c) × (raw.coefficients ≡ map (λ e. pos h.k *ℤ e) l.coefficients)
    p = reduced_parts raw l h

    scaled : (one : ℤ) (vs : List ℤ) → length vs ≡ length s → Holds one vs s → pos h.k *ℤ (l.d *ℤ (combination q vs -ℤ one)) ≡ pos h.k *ℤ (l.c *ℤ one +ℤ combination l.coefficients vs)
    scaled one vs c g =
        ring (pos h.k ∷ l.d ∷ (combination q vs -ℤ one) ∷ []) (times (var 0) (times (var 1) (var 2))) (times (times (var 0) (var 1)) (var 2)) refl
        ∙ ap (λ z. z *ℤ (combination q vs -ℤ one)) (sym p.0)
        ∙ f.value one vs c g
        ∙ (λ i. p.1 i *ℤ one +ℤ (ap (λ es. combination es vs) p.2 ∙ combination-scaled (pos h.k) l.coefficients vs) i)
        ∙ ring (pos h.k ∷ l.c ∷ one ∷ combination l.coefficients vs ∷ []) (plus (times (times (var 0) (var 1)) (var 2)) (times (var 0) (var 3))) (times (var 0) (plus (times (var 1) (var 2)) (var 3))) refl
