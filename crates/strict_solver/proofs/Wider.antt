-- A line over one more variable, which comes last and which the line does not have.
--     solved-wider, put_in-wider, reduced-wider      what a pivot makes of such lines
--     reduced-kept                                   where a line has 0 at the variable that is put in, it stays
use Rattle.std.proofs.Common.{◌≡◌, ℕ, zero, suc, ◌<◌, refl, sym, ap, ◌∙◌, subst, arith, ℤ, pos, negsuc, ◌+ℤ◌, ◌*ℤ◌, neg_ℤ, ◌<ℤ◌, List, [], ◌∷◌, ◌++◌, map, length, length-append, get_or, set, Some, None, Option, length-set}
use Rattle.std.specs.Prelude.{zip, unsigned_abs, is_none}
use Rattle.std.specs.Int.{◌∣◌}
use Rattle.std.proofs.lemmas.Int.{ints}
use Rattle.std.proofs.lemmas.List.{get_or_append_left, length-map}
use Rattle.ntfe_nums.specs.Vectors.{sign}
use Rattle.ntfe_nums.proofs.Ring.{ring, product_zero}
use Rattle.ntfe_nums.proofs.Ring.Expression.{var, num, plus, times}
use Rattle.ntfe_model.specs.Solver.{Line, coefficient_at, solved_for, with_put_in, line_numbers, IsReduced}
use Rattle.strict_solver.specs.Continuing.{wider, IsLowest, wider_line}
use Rattle.ntfe_nums.proofs.Signs.{product_exchanged}

pub no_terms : (a f : ℤ) → pos 0 *ℤ a +ℤ f *ℤ pos 0 ≡ pos 0
no_terms a f = ring (a ∷ f ∷ []) (plus (times (num (pos 0)) (var 0)) (times (var 1) (num (pos 0)))) (num (pos 0)) refl

pub wider_none : (o : Option Line) → is_none (wider_line o) ≡ is_none o
wider_none None = refl
wider_none (Some r) = refl

pub zero_after : (es : List ℤ) (y : ℕ) → get_or (es ++ pos 0 ∷ []) y (pos 0) ≡ get_or es y (pos 0)
zero_after [] zero = refl
zero_after [] (suc y) = refl
zero_after (e ∷ es) zero = refl
zero_after (e ∷ es) (suc y) = zero_after es y

mapped-wider : (f : ℤ → ℤ) (es : List ℤ) → f (pos 0) ≡ pos 0 → map f (es ++ pos 0 ∷ []) ≡ map f es ++ pos 0 ∷ []
mapped-wider f [] h = ap (λ z. z ∷ []) h
mapped-wider f (e ∷ es) h = ap (λ zs. f e ∷ zs) (mapped-wider f es h)

set-wider : (es : List ℤ) (y : ℕ) (v : ℤ) → y < length es → set (es ++ pos 0 ∷ []) y v ≡ set es y v ++ pos 0 ∷ []
set-wider [] y v l = absurd (omega arith)
set-wider (e ∷ es) zero v l = refl
set-wider (e ∷ es) (suc y) v l = ap (λ zs. e ∷ zs) (set-wider es y v (omega arith))

zipped-wider : (g : ℤ × ℤ → ℤ) (xs ys : List ℤ) → length xs ≡ length ys → g (pos 0, pos 0) ≡ pos 0 → map g (zip (xs ++ pos 0 ∷ []) (ys ++ pos 0 ∷ [])) ≡ map g (zip xs ys) ++ pos 0 ∷ []
zipped-wider g [] [] l h = ap (λ z. z ∷ []) h
zipped-wider g [] (y ∷ ys) l h = absurd (omega arith)
zipped-wider g (x ∷ xs) [] l h = absurd (omega arith)
zipped-wider g (x ∷ xs) (y ∷ ys) l h = ap (λ zs. g (x, y) ∷ zs) (zipped-wider g xs ys (omega arith) h)

neg_zero : (s : ℤ) → neg_ℤ (s *ℤ pos 0) ≡ pos 0
neg_zero s = ap neg_ℤ (product_zero s)

pub solved-wider : (r : Line) (x y : ℕ) → x < length r.coefficients → y < length r.coefficients → solved_for (wider r) x y ≡ wider (solved_for r x y)
solved-wider r x y lx ly = ap by (zero_after r.coefficients y) ∙ (λ i. record { d = sign (coefficient_at r y) *ℤ coefficient_at r y; c = neg_ℤ (sign (coefficient_at r y) *ℤ r.c); coefficients = all i })
  where
    by : ℤ → Line
    by a = record {
      d = sign a *ℤ a;
      c = neg_ℤ (sign a *ℤ r.c);
      coefficients = set (set (map (λ e. neg_ℤ (sign a *ℤ e)) (r.coefficients ++ pos 0 ∷ [])) y (pos 0)) x (sign a *ℤ r.d);
    }

    negated : List ℤ
    negated = map (λ e. neg_ℤ (sign (coefficient_at r y) *ℤ e)) r.coefficients

    all : set (set (map (λ e. neg_ℤ (sign (coefficient_at r y) *ℤ e)) (r.coefficients ++ pos 0 ∷ [])) y (pos 0)) x (sign (coefficient_at r y) *ℤ r.d)
        ≡ set (set (map (λ e. neg_ℤ (sign (coefficient_at r y) *ℤ e)) r.coefficients) y (pos 0)) x (sign (coefficient_at r y) *ℤ r.d) ++ pos 0 ∷ []
    all =
        let f : ℤ → ℤ = λ e. neg_ℤ (sign (coefficient_at r y) *ℤ e) in
        let l = length-map r.coefficients f in
        let k = length-set (map f r.coefficients) y (pos 0) in
        ap (λ zs. set (set zs y (pos 0)) x (sign (coefficient_at r y) *ℤ r.d)) (mapped-wider f r.coefficients (neg_zero (sign (coefficient_at r y))))
        ∙ ap (λ zs. set zs x (sign (coefficient_at r y) *ℤ r.d)) (set-wider (map f r.coefficients) y (pos 0) (omega arith))
        ∙ set-wider (set (map f r.coefficients) y (pos 0)) x (sign (coefficient_at r y) *ℤ r.d) (omega arith)

pub put_in-wider : (q : Line) (y : ℕ) (m : Line) → y < length q.coefficients → length q.coefficients ≡ length m.coefficients → with_put_in (wider q) y (wider m) ≡ wider (with_put_in q y m)
put_in-wider q y m ly l =
    ap by (zero_after q.coefficients y)
    ∙ (λ i. record { d = q.d *ℤ m.d; c = q.c *ℤ m.d +ℤ coefficient_at q y *ℤ m.c; coefficients = all i })
  where
    by : ℤ → Line
    by f = record {
      d = q.d *ℤ m.d;
      c = q.c *ℤ m.d +ℤ f *ℤ m.c;
      coefficients = map (λ e. e.0 *ℤ m.d +ℤ f *ℤ e.1) (zip (set (q.coefficients ++ pos 0 ∷ []) y (pos 0)) (m.coefficients ++ pos 0 ∷ []));
    }

    all : map (λ (e : ℤ × ℤ). e.0 *ℤ m.d +ℤ coefficient_at q y *ℤ e.1) (zip (set (q.coefficients ++ pos 0 ∷ []) y (pos 0)) (m.coefficients ++ pos 0 ∷ []))
        ≡ map (λ (e : ℤ × ℤ). e.0 *ℤ m.d +ℤ coefficient_at q y *ℤ e.1) (zip (set q.coefficients y (pos 0)) m.coefficients) ++ pos 0 ∷ []
    all =
        let g : ℤ × ℤ → ℤ = λ e. e.0 *ℤ m.d +ℤ coefficient_at q y *ℤ e.1 in
        ap (λ zs. map g (zip zs (m.coefficients ++ pos 0 ∷ []))) (set-wider q.coefficients y (pos 0) ly)
        ∙ zipped-wider g (set q.coefficients y (pos 0)) m.coefficients (length-set q.coefficients y (pos 0) ∙ l) (no_terms m.d (coefficient_at q y))

pub reduced-wider : (raw r : Line) → IsReduced raw r → IsReduced (wider raw) (wider r)
reduced-wider raw r h = record {
  k = h.k;
  factor = h.factor;
  same = ap (λ zs. zs ++ pos 0 ∷ []) h.same ∙ sym (mapped-wider (λ z. pos h.k *ℤ z) (line_numbers r) (product_zero (pos h.k)));
  positive = h.positive;
  lowest = λ m a. h.lowest m (λ k d l.
      (let n = length-append (line_numbers r) (pos 0 ∷ []) in
      subst (λ z. m ∣ unsigned_abs z) (get_or_append_left (line_numbers r) (pos 0 ∷ []) d k l) (a k d (omega arith))));
}

-- ---- a line that does not have the variable that is put in
pub wider-lowest : (r : Line) → IsLowest r → IsLowest (wider r)
wider-lowest r h m a = h m (λ k d l.
    (let n = length-append (line_numbers r) (pos 0 ∷ []) in
    subst (λ z. m ∣ unsigned_abs z) (get_or_append_left (line_numbers r) (pos 0 ∷ []) d k l) (a k d (omega arith))))

set_zero : (es : List ℤ) (y : ℕ) → get_or es y (pos 0) ≡ pos 0 → set es y (pos 0) ≡ es
set_zero [] y h = refl
set_zero (e ∷ es) zero h = ap (λ z. z ∷ es) (sym h)
set_zero (e ∷ es) (suc y) h = ap (λ zs. e ∷ zs) (set_zero es y h)

zipped-scaled : (g : ℤ × ℤ → ℤ) (k : ℤ) (xs ys : List ℤ) → length xs ≡ length ys → ((a b : ℤ) → g (a, b) ≡ k *ℤ a) → map g (zip xs ys) ≡ map (λ z. k *ℤ z) xs
zipped-scaled g k [] ys l h = refl
zipped-scaled g k (x ∷ xs) [] l h = absurd (omega arith)
zipped-scaled g k (x ∷ xs) (y ∷ ys) l h = λ i. h x y i ∷ zipped-scaled g k xs ys (omega arith) h i

pub reduced-kept : (q : Line) (y : ℕ) (m : Line) → coefficient_at q y ≡ pos 0 → length q.coefficients ≡ length m.coefficients → pos 0 <ℤ q.d → pos 0 <ℤ m.d → IsLowest q → IsReduced (with_put_in q y m) q
reduced-kept q y m z l p n low = at m.d n refl
  where
    plain : (a k f b : ℤ) → f ≡ pos 0 → a *ℤ k +ℤ f *ℤ b ≡ k *ℤ a
    plain a k f b e = ap (λ t. a *ℤ k +ℤ t *ℤ b) e ∙ ring (a ∷ k ∷ b ∷ []) (plus (times (var 0) (var 1)) (times (num (pos 0)) (var 2))) (times (var 1) (var 0)) refl

    same : line_numbers (with_put_in q y m) ≡ map (λ z. m.d *ℤ z) (line_numbers q)
    same = λ i. product_exchanged q.d m.d i ∷ plain q.c m.d (coefficient_at q y) m.c z i ∷ rest i
      where
        rest : map (λ (e : ℤ × ℤ). e.0 *ℤ m.d +ℤ coefficient_at q y *ℤ e.1) (zip (set q.coefficients y (pos 0)) m.coefficients) ≡ map (λ z. m.d *ℤ z) q.coefficients
        rest =
            let g : ℤ × ℤ → ℤ = λ e. e.0 *ℤ m.d +ℤ coefficient_at q y *ℤ e.1 in
            ap (λ zs. map g (zip zs m.coefficients)) (set_zero q.coefficients y z)
            ∙ zipped-scaled g m.d q.coefficients m.coefficients l (λ a b. plain a m.d (coefficient_at q y) b z)

    at : (k : ℤ) → pos 0 <ℤ k → m.d ≡ k → IsReduced (with_put_in q y m) q
    at (negsuc k) n e = absurd (omega (arith, ints))
    at (pos k) n e = record { k = k; factor = omega (arith, ints); same = same ∙ ap (λ t. map (λ z. t *ℤ z) (line_numbers q)) e; positive = p; lowest = low }
