-- A table is determined by its basic variables and by the values at which its rows hold.
use Rattle.std.proofs.Common.{◌≡◌, ◌≢◌, ℕ, ◌<◌, ◌⊎◌, inl, inr, refl, sym, ap, ◌∙◌, arith, ℤ, pos, negsuc, ◌+ℤ◌, ◌*ℤ◌, ◌<ℤ◌, List, [], ◌∷◌, map, length, get_or, Some, None, Option, suc}
use Rattle.std.specs.Prelude.{is_none}
use Rattle.std.proofs.lemmas.Int.{ints}
use Rattle.std.proofs.lemmas.List.{get_or_default, same_lists}
use Rattle.ntfe_nums.proofs.Ring.{ring, sum_zero}
use Rattle.ntfe_nums.proofs.Ring.Expression.{var, num, plus, minus, times}
use Rattle.ntfe_model.specs.Solver.{Line, coefficient_at, line_numbers, IsReduced}
use Rattle.strict_solver.specs.Equations.{combination, Holds}
use Rattle.strict_solver.specs.Continuing.{IsLowest}
use Rattle.strict_solver.proofs.Forms.{back}
use Rattle.strict_solver.proofs.One.{reduced_same}
use Rattle.strict_solver.proofs.Pivots.{IsTable, AreLowest}
use Rattle.strict_solver.proofs.Values.{common, values_by, common-positive, length-values, values-hold, values-sum}
use Rattle.strict_solver.proofs.Directions.{IsDirection, direction_values, direction, direction-sum}
use Rattle.strict_solver.proofs.Entries.{basic_or_not}
use Rattle.ntfe_nums.proofs.Signs.{product_exchanged}

pub cancel : (m p q : ℤ) → m ≢ pos 0 → m *ℤ p ≡ m *ℤ q → p ≡ q
cancel m p q n e = back (m *ℤ p) (m *ℤ q) m p q n (ring (m ∷ p ∷ q ∷ []) (minus (times (var 0) (var 1)) (times (var 0) (var 2))) (times (var 0) (minus (var 1) (var 2))) refl) e

pub proportion : (d g a b m v : ℤ) → m ≢ pos 0 → d *ℤ v ≡ a *ℤ m → g *ℤ v ≡ b *ℤ m → g *ℤ a ≡ d *ℤ b
proportion d g a b m v n e f =
    cancel m (g *ℤ a) (d *ℤ b) n
    (ring (m ∷ g ∷ a ∷ []) (times (var 0) (times (var 1) (var 2))) (times (var 1) (times (var 2) (var 0))) refl
    ∙ ap (λ z. g *ℤ z) (sym e)
    ∙ ring (g ∷ d ∷ v ∷ []) (times (var 0) (times (var 1) (var 2))) (times (var 1) (times (var 0) (var 2))) refl
    ∙ ap (λ z. d *ℤ z) f
    ∙ ring (m ∷ d ∷ b ∷ []) (times (var 1) (times (var 2) (var 0))) (times (var 0) (times (var 1) (var 2))) refl)

pub proportional-lists : (a b : ℤ) (xs ys : List ℤ) → length xs ≡ length ys → ((k : ℕ) → k < length xs → a *ℤ get_or xs k (pos 0) ≡ b *ℤ get_or ys k (pos 0)) → map (λ z. a *ℤ z) xs ≡ map (λ z. b *ℤ z) ys
proportional-lists a b [] [] l h = refl
proportional-lists a b [] (y ∷ ys) l h = absurd (omega arith)
proportional-lists a b (x ∷ xs) [] l h = absurd (omega arith)
proportional-lists a b (x ∷ xs) (y ∷ ys) l h = λ i. h 0 (omega arith) i ∷ proportional-lists a b xs ys (omega arith) (λ k g. h (suc k) (omega arith)) i

-- lines in lowest form that are proportional are equal
pub proportional-same : (r q : Line) → pos 0 <ℤ r.d → pos 0 <ℤ q.d → IsLowest r → IsLowest q → map (λ z. q.d *ℤ z) (line_numbers r) ≡ map (λ z. r.d *ℤ z) (line_numbers q) → r ≡ q
proportional-same r q pr pq lr lq same = reduced_same (record { d = q.d *ℤ r.d; c = q.d *ℤ r.c; coefficients = map (λ z. q.d *ℤ z) r.coefficients }) r q (at q.d pq refl) (on r.d pr refl)
  where
    at : (k : ℤ) → pos 0 <ℤ k → q.d ≡ k → IsReduced (record { d = q.d *ℤ r.d; c = q.d *ℤ r.c; coefficients = map (λ z. q.d *ℤ z) r.coefficients }) r
    at (negsuc k) n e = absurd (omega (arith, ints))
    at (pos k) n e = record { k = k; factor = omega (arith, ints); same = ap (λ t. map (λ z. t *ℤ z) (line_numbers r)) e; positive = pr; lowest = lr }

    on : (k : ℤ) → pos 0 <ℤ k → r.d ≡ k → IsReduced (record { d = q.d *ℤ r.d; c = q.d *ℤ r.c; coefficients = map (λ z. q.d *ℤ z) r.coefficients }) q
    on (negsuc k) n e = absurd (omega (arith, ints))
    on (pos k) n e = record { k = k; factor = omega (arith, ints); same = same ∙ ap (λ t. map (λ z. t *ℤ z) (line_numbers q)) e; positive = pq; lowest = lq }

pub as_none : (o p : Option Line) → is_none o ≡ is_none p → p ≡ None → o ≡ None
as_none None p a b = refl
as_none (Some o) None a b = cc
as_none (Some o) (Some p) a b = cc

as_some : (o p : Option Line) (r : Line) → is_none o ≡ is_none p → o ≡ Some r → (q : Line) × (p ≡ Some q)
as_some o (Some q) r a b = (q, refl)
as_some None None r a b = cc
as_some (Some o) None r a b = cc

pub zero_left : (c a : ℤ) → c *ℤ pos 0 +ℤ a ≡ a
zero_left c a = ring (c ∷ a ∷ []) (plus (times (var 0) (num (pos 0))) (var 1)) (var 1) refl

module _ (s t : List (Option Line)) (len : length s ≡ length t) (ws : IsTable s) (wt : IsTable t) (ls : AreLowest s) (lt : AreLowest t) (basics : (z : ℕ) → is_none (get_or s z None) ≡ is_none (get_or t z None))
    (same : (one : ℤ) (vs : List ℤ) → length vs ≡ length s → Holds one vs s → Holds one vs t) where
  module _ (z : ℕ) (r q : Line) (er : get_or s z None ≡ Some r) (eq : get_or t z None ≡ Some q) where
    -- the line of t has 0 at what is basic in s
    there : (k : ℕ) (o : Line) → get_or s k None ≡ Some o → coefficient_at q k ≡ pos 0
    there k o e = let h = as_some (get_or s k None) (get_or t k None) o (basics k) e in (wt z q eq).zeros k h.0 h.1

    constants : q.d *ℤ r.c ≡ r.d *ℤ q.c
    constants =
        proportion r.d q.d r.c q.c (pos 1 *ℤ common s) (get_or (values_by (pos 1) s) z (pos 0)) some
        (values-hold (pos 1) s ws z r er ∙ ap (λ k. r.c *ℤ (pos 1 *ℤ common s) +ℤ k) (values-sum (pos 1) s r.coefficients (ws z r er).zeros) ∙ sum_zero (r.c *ℤ (pos 1 *ℤ common s)))
        (same (pos 1 *ℤ common s) (values_by (pos 1) s) (length-values (pos 1) s) (values-hold (pos 1) s ws) z q eq
        ∙ ap (λ k. q.c *ℤ (pos 1 *ℤ common s) +ℤ k) (values-sum (pos 1) s q.coefficients there) ∙ sum_zero (q.c *ℤ (pos 1 *ℤ common s)))
      where
        some : pos 1 *ℤ common s ≢ pos 0
        some e = let a = common-positive s (λ z r e. (ws z r e).positive) in let b : pos 1 *ℤ common s ≡ common s = ring (common s ∷ []) (times (num (pos 1)) (var 0)) (var 0) refl in omega (arith, ints)

    module _ (b : ℕ) (l : b < length s) (n : get_or s b None ≡ None) where
      vs : List ℤ
      vs = direction_values s ws b l n

      way : IsDirection s b vs
      unfolding vs
      way = direction s ws b l n

      free : q.d *ℤ coefficient_at r b ≡ r.d *ℤ coefficient_at q b
      free =
          proportion r.d q.d (coefficient_at r b) (coefficient_at q b) way.size (get_or vs z (pos 0)) some
          (way.holds z r er ∙ zero_left r.c (combination r.coefficients vs) ∙ direction-sum s b vs way r.coefficients (ws z r er).zeros)
          (same (pos 0) vs way.count way.holds z q eq ∙ zero_left q.c (combination q.coefficients vs) ∙ direction-sum s b vs way q.coefficients there)
        where
          some : way.size ≢ pos 0
          some e = let a = way.positive in omega (arith, ints)

    each : (b : ℕ) → b < length s → q.d *ℤ coefficient_at r b ≡ r.d *ℤ coefficient_at q b
    each b l = by (basic_or_not (get_or s b None))
      where
        by : ((o : Line) × (get_or s b None ≡ Some o)) ⊎ (get_or s b None ≡ None) → q.d *ℤ coefficient_at r b ≡ r.d *ℤ coefficient_at q b
        by (inr n) = free b l n
        by (inl h) =
            let o = as_some (get_or s b None) (get_or t b None) h.0 (basics b) h.1 in
            ap (λ k. q.d *ℤ k) ((ws z r er).zeros b h.0 h.1)
            ∙ ring (q.d ∷ r.d ∷ []) (times (var 0) (num (pos 0))) (times (var 1) (num (pos 0))) refl
            ∙ ap (λ k. r.d *ℤ k) (sym ((wt z q eq).zeros b o.0 o.1))

    lines-same : r ≡ q
    lines-same =
        let c = (ws z r er).count in
        let d = (wt z q eq).count in
        proportional-same r q (ws z r er).positive (wt z q eq).positive (ls z r er) (lt z q eq)
        (λ i. product_exchanged q.d r.d i ∷ constants i ∷ proportional-lists q.d r.d r.coefficients q.coefficients (omega arith) (λ k l. each k (omega arith)) i)

  pub same-tables : s ≡ t
  same-tables = same_lists s t len (λ k d l. get_or_default s k d None l ∙ at k (basic_or_not (get_or s k None)) ∙ get_or_default t k None d (omega arith))
    where
      at : (k : ℕ) → ((o : Line) × (get_or s k None ≡ Some o)) ⊎ (get_or s k None ≡ None) → get_or s k None ≡ get_or t k None
      at k (inl h) = let o = as_some (get_or s k None) (get_or t k None) h.0 (basics k) h.1 in h.1 ∙ ap Some (lines-same k h.0 o.0 h.1 o.1) ∙ sym o.1
      at k (inr h) = h ∙ sym (as_none (get_or t k None) (get_or s k None) (sym (basics k)) h)
