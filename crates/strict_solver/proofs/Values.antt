-- The values of a table's variables where those that are not basic are 0, as whole numbers by one scale.
--     common s      the product of all d of the rows
--     values s      the value of each variable, times the scale common s
-- No basis comes twice in the moving: bland is the step of this proof.
use Rattle.std.proofs.Common.{◌≡◌, ℕ, zero, suc, ◌<◌, ◌≤◌, ◌⊎◌, inl, inr, ⊎_elim, refl, sym, ap, ◌∙◌, subst, arith, ℤ, pos, ◌+ℤ◌, ◌*ℤ◌, neg_ℤ, ◌<ℤ◌, ◌≤ℤ◌, int_lt, List, [], ◌∷◌, length, get_or, Some, None, Option}
use Rattle.std.proofs.lemmas.Int.{ints}
use Rattle.ntfe_model.specs.Solver.{Line}
use Rattle.ntfe_nums.proofs.Ring.{ring, product_zero, zero_product, one_product, neg_product, product_neg}
use Rattle.ntfe_nums.proofs.Ring.Expression.{var, num, plus, times}
use Rattle.strict_solver.specs.Equations.{combination, Holds}
use Rattle.strict_solver.proofs.Pivots.{IsTable}
use Rattle.strict_solver.proofs.Moves.{IsMove, IsFirstSlack, first_slack-found, IsFirstEntering, entering-found, IsGone, int_lt-zero, int_lt-not_zero}
use Rattle.strict_solver.proofs.Entries.{basic_or_not, line_or}
use Rattle.ntfe_nums.proofs.Signs.{negative_or, not_negative, positive_product, product_not_negative, factor_not_negative}

-- ---- signs of products
pub product_negative : (a b : ℤ) → pos 0 <ℤ a → b <ℤ pos 0 → (a *ℤ b) <ℤ pos 0
product_negative a b h i = let p = positive_product a (neg_ℤ b) h (omega (arith, ints)) in let e = product_neg a b in omega (arith, ints)

product_at_most : (a b : ℤ) → a ≤ℤ pos 0 → pos 0 ≤ℤ b → (a *ℤ b) ≤ℤ pos 0
product_at_most a b h i = let p = product_not_negative (neg_ℤ a) b (omega (arith, ints)) i in let e = neg_product a b in omega (arith, ints)

pub factor_negative : (a b : ℤ) → pos 0 <ℤ a → (a *ℤ b) <ℤ pos 0 → b <ℤ pos 0
factor_negative a b h i = ⊎_elim (λ j. j) (λ j. let p = product_not_negative a b (not_negative a h) j in absurd (omega (arith, ints))) (negative_or b)

-- ---- the values
abbrev pub common : List (Option Line) → ℤ
common [] = pos 1
common (None ∷ s) = common s
common (Some r ∷ s) = r.d *ℤ common s

abbrev pub values_by : ℤ → List (Option Line) → List ℤ
values_by m [] = []
values_by m (None ∷ s) = pos 0 ∷ values_by m s
values_by m (Some r ∷ s) = ((m *ℤ common s) *ℤ r.c) ∷ values_by (m *ℤ r.d) s

abbrev pub values : List (Option Line) → List ℤ
values s = values_by (pos 1) s

pub length-values : (m : ℤ) (s : List (Option Line)) → length (values_by m s) ≡ length s
length-values m [] = refl
length-values m (None ∷ s) = ap suc (length-values m s)
length-values m (Some r ∷ s) = ap suc (length-values (m *ℤ r.d) s)

pub value-none : (m : ℤ) (s : List (Option Line)) (z : ℕ) → get_or s z None ≡ None → get_or (values_by m s) z (pos 0) ≡ pos 0
value-none m [] z e = refl
value-none m (None ∷ s) zero e = refl
value-none m (None ∷ s) (suc z) e = value-none m s z e
value-none m (Some r ∷ s) zero e = cc
value-none m (Some r ∷ s) (suc z) e = value-none (m *ℤ r.d) s z e

pub value-some : (m : ℤ) (s : List (Option Line)) (z : ℕ) (r : Line) → get_or s z None ≡ Some r → r.d *ℤ get_or (values_by m s) z (pos 0) ≡ (m *ℤ common s) *ℤ r.c
value-some m [] z r e = cc
value-some m (None ∷ s) zero r e = cc
value-some m (None ∷ s) (suc z) r e = value-some m s z r e
value-some m (Some q ∷ s) zero r e =
    let P : Line → Type 0 = λ k. k.d *ℤ ((m *ℤ common s) *ℤ q.c) ≡ (m *ℤ (q.d *ℤ common s)) *ℤ k.c in
    subst P (ap (line_or q) e) (ring (q.d ∷ m ∷ common s ∷ q.c ∷ []) (times (var 0) (times (times (var 1) (var 2)) (var 3))) (times (times (var 1) (times (var 0) (var 2))) (var 3)) refl)
value-some m (Some q ∷ s) (suc z) r e =
    value-some (m *ℤ q.d) s z r e
    ∙ ring (q.d ∷ m ∷ common s ∷ r.c ∷ []) (times (times (times (var 1) (var 0)) (var 2)) (var 3)) (times (times (var 1) (times (var 0) (var 2))) (var 3)) refl

pub common-positive : (s : List (Option Line)) → ((z : ℕ) (r : Line) → get_or s z None ≡ Some r → pos 0 <ℤ r.d) → pos 0 <ℤ common s
common-positive [] h = omega (arith, ints)
common-positive (None ∷ s) h = common-positive s (λ z r e. h (suc z) r e)
common-positive (Some q ∷ s) h = positive_product q.d (common s) (h zero q refl) (common-positive s (λ z r e. h (suc z) r e))

pub zero_term : (e v : ℤ) → (e ≡ pos 0) ⊎ (v ≡ pos 0) → e *ℤ v ≡ pos 0
zero_term e v (inl g) = ap (λ z. z *ℤ v) g ∙ zero_product v
zero_term e v (inr g) = ap (λ z. e *ℤ z) g ∙ product_zero e

pub combination-none : (es vs : List ℤ) → ((k : ℕ) → (get_or es k (pos 0) ≡ pos 0) ⊎ (get_or vs k (pos 0) ≡ pos 0)) → combination es vs ≡ pos 0
combination-none [] vs h = refl
combination-none (e ∷ es) [] h = refl
combination-none (e ∷ es) (v ∷ vs) h = (λ i. zero_term e v (h zero) i +ℤ combination-none es vs (λ k. h (suc k)) i)

-- a line with 0 at the basic variables
pub values-sum : (m : ℤ) (s : List (Option Line)) (es : List ℤ) → ((k : ℕ) (o : Line) → get_or s k None ≡ Some o → get_or es k (pos 0) ≡ pos 0) → combination es (values_by m s) ≡ pos 0
values-sum m s es h = combination-none es (values_by m s) (λ k. at k (basic_or_not (get_or s k None)))
  where
    at : (k : ℕ) → ((o : Line) × (get_or s k None ≡ Some o)) ⊎ (get_or s k None ≡ None) → (get_or es k (pos 0) ≡ pos 0) ⊎ (get_or (values_by m s) k (pos 0) ≡ pos 0)
    at k (inl o) = inl (h k o.0 o.1)
    at k (inr o) = inr (value-none m s k o)

-- the values solve the rows
pub values-hold : (m : ℤ) (s : List (Option Line)) → IsTable s → Holds (m *ℤ common s) (values_by m s) s
values-hold m s w z r e =
    value-some m s z r e
    ∙ ring (m ∷ common s ∷ r.c ∷ []) (times (times (var 0) (var 1)) (var 2)) (plus (times (var 2) (times (var 0) (var 1))) (num (pos 0))) refl
    ∙ ap (λ k. r.c *ℤ (m *ℤ common s) +ℤ k) (sym (values-sum m s r.coefficients (w z r e).zeros))

-- a sum without positive terms, with a negative one
pub combination-at_most : (es vs : List ℤ) → ((k : ℕ) → (get_or es k (pos 0) *ℤ get_or vs k (pos 0)) ≤ℤ pos 0) → combination es vs ≤ℤ pos 0
combination-at_most [] vs h = omega (arith, ints)
combination-at_most (e ∷ es) [] h = omega (arith, ints)
combination-at_most (e ∷ es) (v ∷ vs) h = let a : (e *ℤ v) ≤ℤ pos 0 = h zero in let b = combination-at_most es vs (λ k. h (suc k)) in omega (arith, ints)

-- ---- the step of Bland's argument. At a moment `a` the slack q leaves. At a moment `b` q enters in place of p, with p below q. The rows at b hold
-- where those at a do, and the slacks above q that are not basic at b are not basic at a. This can't be
module _ (columns : ℕ) (a b : List (Option Line)) (wa : IsTable a) (wb : IsTable b)
    (same : (one : ℤ) (vs : List ℤ) → length vs ≡ length a → Holds one vs a → Holds one vs b)
    (loaded : (k : ℕ) → k < columns → get_or b k None ≡ None → IsGone columns b k)
    (p q y : ℕ) (leaves : IsMove columns a q y) (enters : IsMove columns b p q) (below : p < q)
    (above : (j : ℕ) → q < j → get_or b j None ≡ None → get_or a j None ≡ None) where
  one : ℤ
  one = pos 1 *ℤ common a

  vs : List ℤ
  vs = values a

  positive : pos 0 <ℤ (pos 1 *ℤ common a)
  positive = let h = common-positive a (λ z r e. (wa z r e).positive) in let e = one_product (common a) in omega (arith, ints)

  pub at_leaving : IsFirstSlack columns (λ r. int_lt r.c (pos 0)) a q
  at_leaving = first_slack-found columns (λ r. int_lt r.c (pos 0)) a q leaves.leaving

  at_entering : IsFirstSlack columns (λ r. int_lt r.c (pos 0)) b p
  at_entering = first_slack-found columns (λ r. int_lt r.c (pos 0)) b p enters.leaving

  entering : IsFirstEntering columns b at_entering.row q
  entering = entering-found columns b p at_entering.row q at_entering.is enters.entering

  value_q : get_or (values a) q (pos 0) <ℤ pos 0
  value_q =
      factor_negative at_leaving.row.d (get_or (values a) q (pos 0)) (wa q at_leaving.row at_leaving.is).positive
      (let P : ℤ → Type 0 = λ z. z <ℤ pos 0 in
      subst P (sym (value-some (pos 1) a q at_leaving.row at_leaving.is)) (product_negative (pos 1 *ℤ common a) at_leaving.row.c positive (int_lt-zero _ at_leaving.passes)))

  -- a slack below q is not negative at a
  value_below : (k : ℕ) → columns ≤ k → k < q → pos 0 ≤ℤ get_or (values a) k (pos 0)
  value_below k c l = by (basic_or_not (get_or a k None))
    where
      by : ((r : Line) × (get_or a k None ≡ Some r)) ⊎ (get_or a k None ≡ None) → pos 0 ≤ℤ get_or (values a) k (pos 0)
      by (inl h) =
          factor_not_negative h.0.d (get_or (values a) k (pos 0)) (wa k h.0 h.1).positive
          (let P : ℤ → Type 0 = λ z. pos 0 ≤ℤ z in
          subst P (sym (value-some (pos 1) a k h.0 h.1)) (product_not_negative (pos 1 *ℤ common a) h.0.c (not_negative _ positive) (int_lt-not_zero _ (at_leaving.first k h.0 c l h.1))))
      by (inr h) = let e = value-none (pos 1) a k h in omega (arith, ints)

  term : (k : ℕ) → (get_or at_entering.row.coefficients k (pos 0) *ℤ get_or (values a) k (pos 0)) ≤ℤ pos 0
  term k = by (basic_or_not (get_or b k None))
    where
      gone : get_or at_entering.row.coefficients k (pos 0) ≡ pos 0 → (get_or at_entering.row.coefficients k (pos 0) *ℤ get_or (values a) k (pos 0)) ≤ℤ pos 0
      gone e = let f = ap (λ z. z *ℤ get_or (values a) k (pos 0)) e ∙ zero_product (get_or (values a) k (pos 0)) in omega (arith, ints)

      still : get_or (values a) k (pos 0) ≡ pos 0 → (get_or at_entering.row.coefficients k (pos 0) *ℤ get_or (values a) k (pos 0)) ≤ℤ pos 0
      still e = let f = ap (λ z. get_or at_entering.row.coefficients k (pos 0) *ℤ z) e ∙ product_zero (get_or at_entering.row.coefficients k (pos 0)) in omega (arith, ints)

      slack : columns ≤ k → get_or b k None ≡ None → (k < q) ⊎ (k ≡ q) ⊎ (q < k) → (get_or at_entering.row.coefficients k (pos 0) *ℤ get_or (values a) k (pos 0)) ≤ℤ pos 0
      slack c e (inl h) = product_at_most _ _ (entering.first k c h e) (value_below k c h)
      slack c e (inr (inl h)) =
          let P : ℕ → Type 0 = λ j. (get_or at_entering.row.coefficients j (pos 0) *ℤ get_or (values a) j (pos 0)) ≤ℤ pos 0 in
          subst P (sym h) (weak _ (product_negative _ _ entering.positive value_q))
        where
          weak : (z : ℤ) → z <ℤ pos 0 → z ≤ℤ pos 0
          weak z g = omega (arith, ints)
      slack c e (inr (inr h)) = still (value-none (pos 1) a k (above k h e))

      place : get_or b k None ≡ None → (k < columns) ⊎ (columns ≤ k) → (get_or at_entering.row.coefficients k (pos 0) *ℤ get_or (values a) k (pos 0)) ≤ℤ pos 0
      place e (inl h) = gone (loaded k h e p at_entering.row at_entering.slack at_entering.below at_entering.is)
      place e (inr h) = slack h e (grind arith)

      by : ((r : Line) × (get_or b k None ≡ Some r)) ⊎ (get_or b k None ≡ None) → (get_or at_entering.row.coefficients k (pos 0) *ℤ get_or (values a) k (pos 0)) ≤ℤ pos 0
      by (inl h) = gone ((wb p at_entering.row at_entering.is).zeros k h.0 h.1)
      by (inr h) = place h (grind arith)

  row : at_entering.row.d *ℤ get_or (values a) p (pos 0) ≡ at_entering.row.c *ℤ (pos 1 *ℤ common a) +ℤ combination at_entering.row.coefficients (values a)
  row = same (pos 1 *ℤ common a) (values a) (length-values (pos 1) a) (values-hold (pos 1) a wa) p at_entering.row at_entering.is

  constant : (at_entering.row.c *ℤ (pos 1 *ℤ common a)) <ℤ pos 0
  constant =
      let P : ℤ → Type 0 = λ z. z <ℤ pos 0 in
      subst P (ring ((pos 1 *ℤ common a) ∷ at_entering.row.c ∷ []) (times (var 0) (var 1)) (times (var 1) (var 0)) refl)
      (product_negative (pos 1 *ℤ common a) at_entering.row.c positive (int_lt-zero _ at_entering.passes))

  pub bland : ⊥
  bland = ends (factor_negative at_entering.row.d (get_or (values a) p (pos 0)) (wb p at_entering.row at_entering.is).positive
      (total _ _ _ row constant (combination-at_most at_entering.row.coefficients (values a) term))) (value_below p at_entering.slack below)
    where
      total : (x y z : ℤ) → x ≡ y +ℤ z → y <ℤ pos 0 → z ≤ℤ pos 0 → x <ℤ pos 0
      total x y z e f g = omega (arith, ints)

      ends : {z : ℤ} → z <ℤ pos 0 → pos 0 ≤ℤ z → ⊥
      ends f g = omega (arith, ints)
