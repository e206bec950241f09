-- What the answers mean for the folds.
use Rattle.std.proofs.Common.{◌≡◌, ℕ, zero, suc, ◌+◌, ◌-◌, ◌<◌, ◌≤◌, ◌⊎◌, inl, inr, Bool, true, false, cond, refl, sym, ap, ◌∙◌, subst, arith, ℤ, pos, ◌+ℤ◌, ◌-ℤ◌, ◌*ℤ◌, ◌≤ℤ◌, int_lt, List, [], ◌∷◌, map, filter, length, get_or, Some, Option}
use Rattle.std.specs.Prelude.{All, AllPairs}
use Rattle.std.specs.List.{range_with_len}
use Rattle.std.proofs.lemmas.Int.{ints}
use Rattle.std.proofs.lemmas.List.{length-map, get_or-map}
use Rattle.ntfe_nums.proofs.Ring.{ring, zero_product, sum_zero, one_product}
use Rattle.ntfe_nums.proofs.Ring.Expression.{var, num, plus, minus, times}
use Rattle.ntfe_model.specs.Certificates.{where_equal}
use Rattle.ntfe_model.specs.Choices.{fold_value, height}
use Rattle.ntfe_model.specs.declared.nogood.Fold.{Fold}
use Rattle.ntfe_model.specs.Solver.{fold_row, multiplier_at, IsFeasible, IsInfeasible}
use Rattle.strict_solver.specs.declared.run.Solved.{Solved}
use Rattle.strict_solver.specs.declared.run.Solved.TheVariants.{Feasible, Infeasible, Wide}
use Rattle.strict_solver.specs.Answers.{Answer}
use Rattle.strict_solver.specs.Answers.Answer.{unsolved, feasible, infeasible}
use Rattle.strict_solver.specs.Starts.{IsFoldOver, AreFoldsOver}
use Rattle.strict_solver.specs.Solving.{HasSolved, HasMeaning, AreMultipliers, weighted_sum}
use Rattle.strict_solver.specs.Equations.{combination}
use Rattle.strict_solver.proofs.Elimination.{at_place}
use Rattle.strict_solver.proofs.Outcome.{are_rows}
use Rattle.strict_solver.proofs.Feasible.{feasible-rows}
use Rattle.strict_solver.proofs.Infeasible.{weighted}
use Rattle.strict_solver.proofs.Cancel.{infeasible-coefficients}
use Rattle.strict_solver.proofs.Scales.{infeasible-positive, infeasible-some}
use Rattle.ntfe_model.proofs.Coefficients.{equal_elsewhere, equal_there}

-- ---- the value of a fold's row
abbrev ranged : (ℕ → ℤ) → ℕ → ℕ → List ℤ
ranged f a n = map f (range_with_len a n)

sum_of : (f g : ℕ → ℤ) (a n : ℕ) (hs : List ℤ) → combination (ranged (λ k. f k +ℤ g k) a n) hs ≡ combination (ranged f a n) hs +ℤ combination (ranged g a n) hs
sum_of f g a zero hs = refl
sum_of f g a (suc n) [] = refl
sum_of f g a (suc n) (h ∷ hs) =
    ap (λ z. (f a +ℤ g a) *ℤ h +ℤ z) (sum_of f g (a + 1) n hs)
    ∙ ring (f a ∷ g a ∷ h ∷ combination (ranged f (a + 1) n) hs ∷ combination (ranged g (a + 1) n) hs ∷ [])
    (plus (times (plus (var 0) (var 1)) (var 2)) (plus (var 3) (var 4))) (plus (plus (times (var 0) (var 2)) (var 3)) (plus (times (var 1) (var 2)) (var 4))) refl

difference_of : (f g : ℕ → ℤ) (a n : ℕ) (hs : List ℤ) → combination (ranged (λ k. f k -ℤ g k) a n) hs ≡ combination (ranged f a n) hs -ℤ combination (ranged g a n) hs
difference_of f g a zero hs = refl
difference_of f g a (suc n) [] = refl
difference_of f g a (suc n) (h ∷ hs) =
    ap (λ z. (f a -ℤ g a) *ℤ h +ℤ z) (difference_of f g (a + 1) n hs)
    ∙ ring (f a ∷ g a ∷ h ∷ combination (ranged f (a + 1) n) hs ∷ combination (ranged g (a + 1) n) hs ∷ [])
    (plus (times (minus (var 0) (var 1)) (var 2)) (minus (var 3) (var 4))) (minus (plus (times (var 0) (var 2)) (var 3)) (plus (times (var 1) (var 2)) (var 4))) refl

nowhere : (p : ℕ) (z : ℤ) (a n : ℕ) (hs : List ℤ) → p < a → combination (ranged (λ k. where_equal p k z) a n) hs ≡ pos 0
nowhere p z a zero hs l = refl
nowhere p z a (suc n) [] l = refl
nowhere p z a (suc n) (h ∷ hs) l =
    (λ i. equal_elsewhere p a z (λ e. omega arith) i *ℤ h +ℤ nowhere p z (a + 1) n hs (omega arith) i) ∙ ring (h ∷ []) (plus (times (num (pos 0)) (var 0)) (num (pos 0))) (num (pos 0)) refl

single : (p : ℕ) (z : ℤ) (a n : ℕ) (hs : List ℤ) → length hs ≡ n → a ≤ p → p < a + n → combination (ranged (λ k. where_equal p k z) a n) hs ≡ z *ℤ get_or hs (p - a) (pos 0)
single p z a zero hs c l m = absurd (omega arith)
single p z a (suc n) [] c l m = absurd (omega arith)
single p z a (suc n) (h ∷ hs) c l m = by (let d : (p ≡ a) ⊎ (a + 1 ≤ p) = grind arith in d) (single p z (a + 1) n hs)
  where
    zeroed : (x : ℤ) → pos 0 *ℤ h +ℤ x ≡ x
    zeroed x = ap (λ k. k +ℤ x) (zero_product h) ∙ omega (arith, ints)

    by : (p ≡ a) ⊎ (a + 1 ≤ p) → (length hs ≡ n → a + 1 ≤ p → p < a + 1 + n → combination (ranged (λ k. where_equal p k z) (a + 1) n) hs ≡ z *ℤ get_or hs (p - (a + 1)) (pos 0))
        → where_equal p a z *ℤ h +ℤ combination (ranged (λ k. where_equal p k z) (a + 1) n) hs ≡ z *ℤ get_or (h ∷ hs) (p - a) (pos 0)
    by (inl e) rest =
        (λ i. (ap (λ k. where_equal p k z) (sym e) ∙ equal_there p z) i *ℤ h +ℤ nowhere p z (a + 1) n hs (omega arith) i)
        ∙ sum_zero (z *ℤ h) ∙ ap (λ k. z *ℤ get_or (h ∷ hs) k (pos 0)) (let q : 0 ≡ p - a = omega arith in q)
    by (inr e) rest =
        (λ i. equal_elsewhere p a z (λ f. omega arith) i *ℤ h +ℤ rest (omega arith) e (omega arith) i)
        ∙ zeroed (z *ℤ get_or hs (p - (a + 1)) (pos 0))
        ∙ ap (λ k. z *ℤ get_or (h ∷ hs) k (pos 0)) (let q : suc (p - (a + 1)) ≡ p - a = omega arith in q)

pub row_value : (n : ℕ) (f : Fold) (hs : List ℤ) → length hs ≡ n → IsFoldOver n f → combination (fold_row n f) hs ≡ fold_value hs f
row_value n f hs c h =
    difference_of (λ k. where_equal f.c k (pos 1) +ℤ where_equal f.d k (pos 1) -ℤ where_equal f.a k f.alpha) (λ k. where_equal f.b k f.beta) 1 n hs
    ∙ ap (λ z. z -ℤ combination (ranged (λ k. where_equal f.b k f.beta) 1 n) hs) (difference_of (λ k. where_equal f.c k (pos 1) +ℤ where_equal f.d k (pos 1)) (λ k. where_equal f.a k f.alpha) 1 n hs
    ∙ ap (λ z. z -ℤ combination (ranged (λ k. where_equal f.a k f.alpha) 1 n) hs) (sum_of (λ k. where_equal f.c k (pos 1)) (λ k. where_equal f.d k (pos 1)) 1 n hs))
    ∙ (λ i. at f.c (pos 1) h.c i +ℤ at f.d (pos 1) h.d i -ℤ at f.a f.alpha h.a i -ℤ at f.b f.beta h.b i)
    ∙ (λ i. one_product (height hs f.c) i +ℤ one_product (height hs f.d) i -ℤ f.alpha *ℤ height hs f.a -ℤ f.beta *ℤ height hs f.b)
  where
    at : (p : ℕ) (z : ℤ) → (1 ≤ p) × (p ≤ n) → combination (ranged (λ k. where_equal p k z) 1 n) hs ≡ z *ℤ height hs p
    at p z l = single p z 1 n hs c l.0 (let a = l.1 in omega arith)

-- ---- rising rows
abbrev Rises : ℕ × ℤ → ℕ × ℤ → Type 0
Rises e f = e.0 < f.0

entries_from : (m : ℕ → ℤ) (a n : ℕ) → All (λ (e : ℕ × ℤ). a ≤ e.0) (filter (λ e. int_lt (pos 0) e.1) (map (λ j. (j, m j)) (range_with_len a n)))
entries_from m a zero = λ k d l. absurd (omega arith)
entries_from m a (suc n) = by (int_lt (pos 0) (m a)) (filter (λ e. int_lt (pos 0) e.1) (map (λ j. (j, m j)) (range_with_len (a + 1) n))) (entries_from m (a + 1) n)
  where
    by : (t : Bool) (rest : List (ℕ × ℤ)) → All (λ (e : ℕ × ℤ). a + 1 ≤ e.0) rest → All (λ (e : ℕ × ℤ). a ≤ e.0) (cond t ((a, m a) ∷ rest) rest)
    by true rest g zero d l = omega arith
    by true rest g (suc k) d l = let h = g k d (omega arith) in omega arith
    by false rest g k d l = let h = g k d l in omega arith

rising_from : (m : ℕ → ℤ) (a n : ℕ) → AllPairs (λ (e : ℕ × ℤ) (f : ℕ × ℤ). e.0 < f.0) (filter (λ e. int_lt (pos 0) e.1) (map (λ j. (j, m j)) (range_with_len a n)))
rising_from m a zero = λ i j d l n. absurd (omega arith)
rising_from m a (suc n) = by (int_lt (pos 0) (m a)) (filter (λ e. int_lt (pos 0) e.1) (map (λ j. (j, m j)) (range_with_len (a + 1) n))) (entries_from m (a + 1) n) (rising_from m (a + 1) n)
  where
    by : (t : Bool) (rest : List (ℕ × ℤ)) → All (λ (e : ℕ × ℤ). a + 1 ≤ e.0) rest → AllPairs (λ (e : ℕ × ℤ) (f : ℕ × ℤ). e.0 < f.0) rest → AllPairs (λ (e : ℕ × ℤ) (f : ℕ × ℤ). e.0 < f.0) (cond t ((a, m a) ∷ rest) rest)
    by true rest g h zero zero d l m = absurd (omega arith)
    by true rest g h zero (suc j) d l m = let e = g j d (omega arith) in omega arith
    by true rest g h (suc i) zero d l m = absurd (omega arith)
    by true rest g h (suc i) (suc j) d l m = h i j d (omega arith) (omega arith)
    by false rest g h i j d l m = h i j d l m

same_sum : (ms : List (ℕ × ℤ)) (f : ℕ → ℤ) → weighted_sum ms f ≡ weighted ms f
same_sum [] f = refl
same_sum (e ∷ ms) f = ap (λ z. e.1 *ℤ f e.0 +ℤ z) (same_sum ms f)

-- ---- what the answers mean
pub above : (columns : ℕ) (fs : List Fold) (width : Option ℕ) (hs : List ℤ) → AreFoldsOver columns fs → IsFeasible columns (map (fold_row columns) fs) width hs → (length hs ≡ columns) × All (λ f. pos 1 ≤ℤ fold_value hs f) fs
above columns fs width hs w h =
    let c = h.scaling.counts.1 in (
      c,
      λ j d l.
          (let f = get_or fs j d in
          let over = w.each j f (at_place fs j d f l refl) in
          let n = length-map fs (fold_row columns) in
          let r = feasible-rows columns (map (fold_row columns) fs) width hs (are_rows columns fs) h j (omega arith) in
          let P : List ℤ → Type 0 = λ row. pos 1 ≤ℤ combination row hs in
          let Q : ℤ → Type 0 = λ z. pos 1 ≤ℤ z in
          subst Q (row_value columns f hs c over) (subst P (get_or-map (fold_row columns) fs j d [] l) r)),
    )

pub cancelling : (columns : ℕ) (fs : List Fold) (width : Option ℕ) (ms : List (ℕ × ℤ)) → IsInfeasible columns (map (fold_row columns) fs) width ms → AreMultipliers columns (map (fold_row columns) fs) ms
cancelling columns fs width ms h =
    let rs = map (fold_row columns) fs in
    let P : List (ℕ × ℤ) → Type 0 = λ es. AllPairs (λ (e : ℕ × ℤ) (f : ℕ × ℤ). e.0 < f.0) es in
    record {
      positive = infeasible-positive columns rs width ms h;
      some = infeasible-some columns rs width ms (are_rows columns fs) h;
      rising = subst P (sym h.multipliers_are) (rising_from (multiplier_at columns h.slack h.row) 0 (length rs));
      cancel = λ k l. same_sum ms _ ∙ infeasible-coefficients columns rs width ms (are_rows columns fs) h k;
    }

pub meaning_of : (columns : ℕ) (fs : List Fold) (width : ℕ) (s : Solved) (a : Answer) → AreFoldsOver columns fs → HasSolved columns (map (fold_row columns) fs) width s a → HasMeaning columns fs s a
meaning_of columns fs width Feasible (feasible hs) w h = above columns fs (Some width) hs w h
meaning_of columns fs width Feasible unsolved w h = absurd h
meaning_of columns fs width Feasible (infeasible ms) w h = absurd h
meaning_of columns fs width Infeasible (infeasible ms) w h = cancelling columns fs (Some width) ms h
meaning_of columns fs width Infeasible unsolved w h = absurd h
meaning_of columns fs width Infeasible (feasible hs) w h = absurd h
meaning_of columns fs width (Wide step number) a w h = tt
