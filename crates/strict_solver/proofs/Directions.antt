-- The values where one variable that is not basic is not 0 and all others that are not basic are: with them a table's rows hold
-- without their constants. They tell a row's coefficient at that variable.
use Rattle.std.proofs.Common.{◌≡◌, ◌≢◌, ℕ, zero, suc, ◌<◌, ◌⊎◌, inl, inr, refl, sym, ap, ◌∙◌, subst, arith, ℤ, pos, ◌+ℤ◌, ◌*ℤ◌, ◌<ℤ◌, List, [], ◌∷◌, ◌++◌, length, length-set, get_or, set, get_or-set_same, get_or-set_other, Some, None, Option}
use Rattle.std.proofs.lemmas.Int.{ints}
use Rattle.ntfe_nums.proofs.Ring.{ring, product_zero, zero_product, sum_zero}
use Rattle.ntfe_nums.proofs.Ring.Expression.{var, num, plus, times}
use Rattle.ntfe_model.specs.Solver.{Line, coefficient_at}
use Rattle.strict_solver.specs.Equations.{combination, Holds}
use Rattle.strict_solver.proofs.Pivots.{IsTable}
use Rattle.strict_solver.proofs.Values.{common, values_by, common-positive, length-values, value-none, value-some, combination-none, zero_term}
use Rattle.strict_solver.proofs.Entries.{basic_or_not, not_both, line_or}

-- ---- sums
pub combination-one : (es vs : List ℤ) (y : ℕ) → ((k : ℕ) → k ≢ y → (get_or es k (pos 0) ≡ pos 0) ⊎ (get_or vs k (pos 0) ≡ pos 0)) → combination es vs ≡ get_or es y (pos 0) *ℤ get_or vs y (pos 0)
combination-one [] vs y h = sym (zero_product (get_or vs y (pos 0)))
combination-one (e ∷ es) [] y h = sym (product_zero (get_or (e ∷ es) y (pos 0)))
combination-one (e ∷ es) (v ∷ vs) zero h = ap (λ z. e *ℤ v +ℤ z) (combination-none es vs (λ k. h (suc k) (λ i. omega arith))) ∙ sum_zero (e *ℤ v)
combination-one (e ∷ es) (v ∷ vs) (suc y) h = (λ i. zero_term e v (h zero (λ j. omega arith)) i +ℤ combination-one es vs y (λ k n. h (suc k) (λ j. n (let a : k ≡ y = omega arith in a))) i) ∙ plain (get_or es y (pos 0) *ℤ get_or vs y (pos 0))
  where
    plain : (z : ℤ) → pos 0 +ℤ z ≡ z
    plain z = omega (arith, ints)

nothing : (es : List ℤ) → combination es [] ≡ pos 0
nothing [] = refl
nothing (e ∷ es) = refl

-- one value more
pub combination-more : (es vs : List ℤ) (t : ℤ) → combination es (vs ++ t ∷ []) ≡ combination es vs +ℤ get_or es (length vs) (pos 0) *ℤ t
combination-more [] vs t = sym (ap (λ z. pos 0 +ℤ z) (zero_product t))
combination-more (e ∷ es) [] t = ap (λ z. e *ℤ t +ℤ z) (nothing es) ∙ swap (e *ℤ t)
  where
    swap : (z : ℤ) → z +ℤ pos 0 ≡ pos 0 +ℤ z
    swap z = omega (arith, ints)
combination-more (e ∷ es) (v ∷ vs) t = ap (λ z. e *ℤ v +ℤ z) (combination-more es vs t) ∙ shift (e *ℤ v) (combination es vs) (get_or es (length vs) (pos 0) *ℤ t)
  where
    shift : (a b c : ℤ) → a +ℤ (b +ℤ c) ≡ a +ℤ b +ℤ c
    shift a b c = omega (arith, ints)

-- ---- directions
pub record IsDirection (s : List (Option Line)) (y : ℕ) (vs : List ℤ) : Type 0 where
  pub count : length vs ≡ length s
  pub size : ℤ
  pub positive : pos 0 <ℤ size
  pub at : get_or vs y (pos 0) ≡ size
  pub others : (z : ℕ) → z ≢ y → get_or s z None ≡ None → get_or vs z (pos 0) ≡ pos 0
  pub holds : Holds (pos 0) vs s

abbrev seen_line : ℕ → Line → Line
seen_line y r = record { d = r.d; c = coefficient_at r y; coefficients = r.coefficients }

abbrev seen : ℕ → List (Option Line) → List (Option Line)
seen y [] = []
seen y (None ∷ s) = None ∷ seen y s
seen y (Some r ∷ s) = Some (seen_line y r) ∷ seen y s

seen-length : (y : ℕ) (s : List (Option Line)) → length (seen y s) ≡ length s
seen-length y [] = refl
seen-length y (None ∷ s) = ap suc (seen-length y s)
seen-length y (Some r ∷ s) = ap suc (seen-length y s)

seen-none : (y : ℕ) (s : List (Option Line)) (z : ℕ) → get_or s z None ≡ None → get_or (seen y s) z None ≡ None
seen-none y [] z e = refl
seen-none y (None ∷ s) zero e = refl
seen-none y (None ∷ s) (suc z) e = seen-none y s z e
seen-none y (Some r ∷ s) zero e = cc
seen-none y (Some r ∷ s) (suc z) e = seen-none y s z e

seen-some : (y : ℕ) (s : List (Option Line)) (z : ℕ) (r : Line) → get_or s z None ≡ Some r → get_or (seen y s) z None ≡ Some (seen_line y r)
seen-some y [] z r e = cc
seen-some y (None ∷ s) zero r e = cc
seen-some y (None ∷ s) (suc z) r e = seen-some y s z r e
seen-some y (Some q ∷ s) zero r e = ap (λ k. Some (seen_line y k)) (ap (line_or q) e)
seen-some y (Some q ∷ s) (suc z) r e = seen-some y s z r e

seen-from : (y : ℕ) (s : List (Option Line)) (z : ℕ) (r : Line) → get_or (seen y s) z None ≡ Some r → (q : Line) × (get_or s z None ≡ Some q) × (r ≡ seen_line y q)
seen-from y [] z r e = cc
seen-from y (None ∷ s) zero r e = cc
seen-from y (None ∷ s) (suc z) r e = seen-from y s z r e
seen-from y (Some q ∷ s) zero r e = (q, refl, ap (line_or r) (sym e))
seen-from y (Some q ∷ s) (suc z) r e = seen-from y s z r e

module _ (s : List (Option Line)) (w : IsTable s) (y : ℕ) (l : y < length s) (n : get_or s y None ≡ None) where
  pub direction_values : List ℤ
  direction_values = set (values_by (pos 1) (seen y s)) y (common (seen y s))

  base-length : length (values_by (pos 1) (seen y s)) ≡ length s
  base-length = length-values (pos 1) (seen y s) ∙ seen-length y s

  direction-positive : pos 0 <ℤ common (seen y s)
  direction-positive = common-positive (seen y s) (λ z r e. (let f = seen-from y s z r e in subst (λ k. pos 0 <ℤ k) (sym (ap (λ (k : Line). k.d) f.2)) (w z f.0 f.1).positive))

  direction-at : get_or (set (values_by (pos 1) (seen y s)) y (common (seen y s))) y (pos 0) ≡ common (seen y s)
  direction-at = get_or-set_same (values_by (pos 1) (seen y s)) y (common (seen y s)) (pos 0) (let a = base-length in omega arith)

  direction-others : (z : ℕ) → z ≢ y → get_or s z None ≡ None → get_or (set (values_by (pos 1) (seen y s)) y (common (seen y s))) z (pos 0) ≡ pos 0
  direction-others z a e = get_or-set_other (values_by (pos 1) (seen y s)) y z (common (seen y s)) (pos 0) a ∙ value-none (pos 1) (seen y s) z (seen-none y s z e)

  direction-holds : Holds (pos 0) (set (values_by (pos 1) (seen y s)) y (common (seen y s))) s
  direction-holds z r e =
      ap (λ v. r.d *ℤ v) (get_or-set_other (values_by (pos 1) (seen y s)) y z (common (seen y s)) (pos 0) apart)
      ∙ value-some (pos 1) (seen y s) z (seen_line y r) (seen-some y s z r e)
      ∙ ring (common (seen y s) ∷ coefficient_at r y ∷ r.c ∷ []) (times (times (num (pos 1)) (var 0)) (var 1)) (plus (times (var 2) (num (pos 0))) (times (var 1) (var 0))) refl
      ∙ ap (λ k. r.c *ℤ pos 0 +ℤ k) (sym sum)
    where
      apart : z ≢ y
      apart i = not_both _ r e (ap (λ k. get_or s k None) i ∙ n)

      each : (k : ℕ) → k ≢ y → ((q : Line) × (get_or s k None ≡ Some q)) ⊎ (get_or s k None ≡ None)
          → (get_or r.coefficients k (pos 0) ≡ pos 0) ⊎ (get_or (set (values_by (pos 1) (seen y s)) y (common (seen y s))) k (pos 0) ≡ pos 0)
      each k a (inl h) = inl ((w z r e).zeros k h.0 h.1)
      each k a (inr h) = inr (direction-others k a h)

      sum : combination r.coefficients (set (values_by (pos 1) (seen y s)) y (common (seen y s))) ≡ coefficient_at r y *ℤ common (seen y s)
      sum =
          combination-one r.coefficients (set (values_by (pos 1) (seen y s)) y (common (seen y s))) y (λ k a. each k a (basic_or_not (get_or s k None)))
          ∙ ap (λ v. coefficient_at r y *ℤ v) direction-at

  pub direction : IsDirection s y direction_values
  unfolding direction_values
  direction = record {
    count = length-set (values_by (pos 1) (seen y s)) y (common (seen y s)) ∙ base-length;
    size = common (seen y s);
    positive = direction-positive;
    at = direction-at;
    others = direction-others;
    holds = direction-holds;
  }

-- a line with 0 at the basic variables
pub direction-sum : (s : List (Option Line)) (b : ℕ) (vs : List ℤ) (way : IsDirection s b vs) (es : List ℤ) → ((k : ℕ) (o : Line) → get_or s k None ≡ Some o → get_or es k (pos 0) ≡ pos 0)
    → combination es vs ≡ get_or es b (pos 0) *ℤ way.size
direction-sum s b vs way es h = combination-one es vs b (λ k n. at k n (basic_or_not (get_or s k None))) ∙ ap (λ v. get_or es b (pos 0) *ℤ v) way.at
  where
    at : (k : ℕ) → k ≢ b → ((o : Line) × (get_or s k None ≡ Some o)) ⊎ (get_or s k None ≡ None) → (get_or es k (pos 0) ≡ pos 0) ⊎ (get_or vs k (pos 0) ≡ pos 0)
    at k n (inl o) = inl (h k o.0 o.1)
    at k n (inr o) = inr (way.others k n o)
