-- The heights of a feasible answer are determined, and the multipliers of an infeasible one are positive.
use Rattle.std.proofs.Common.{◌≡◌, ℕ, zero, suc, ◌+◌, ◌-◌, ◌<◌, ◌≤◌, ◌==◌, ◌⊎◌, inl, inr, Bool, true, false, cond, refl, sym, ap, ◌∙◌, subst, arith, ℤ, pos, ◌*ℤ◌, ◌<ℤ◌, int_lt, unsigned_abs, List, [], ◌∷◌, map, filter, length, get_or, Some, None, Option}
use Rattle.std.specs.Prelude.{All}
use Rattle.std.specs.List.{range_with_len}
use Rattle.std.proofs.lemmas.List.{get_or_default, same_lists}
use Rattle.ntfe_model.specs.Solver.{Line, Table, start_table, last_scale, coefficient_at, multiplier_at, IsScale, IsScaled, IsScaling, IsFeasible, IsInfeasible}
use Rattle.ntfe_nums.proofs.Ring.{ring}
use Rattle.ntfe_nums.proofs.Ring.Expression.{var, minus, times}
use Rattle.strict_solver.proofs.Forms.{back}
use Rattle.strict_solver.proofs.Pivots.{IsTable, get_here, run-table, run-length}
use Rattle.strict_solver.proofs.Moves.{first_slack-found, move_of-infeasible, moving-infeasible, int_lt-positive}
use Rattle.strict_solver.proofs.Runs.{AreRows, start-is_table, start-length}
use Rattle.strict_solver.proofs.Agree.{runs_agree, feasible-end}
use Rattle.ntfe_nums.proofs.Signs.{positive_some}
use Rattle.strict_solver.proofs.Searches.{above_passes}
use Rattle.ntfe_nums.proofs.Comparisons.{other_from_test}

scale_same : (s : List (Option Line)) (m n : ℕ) → IsScale s m → IsScale s n → m ≡ n
scale_same s m n h i = let a = h.least n i.positive i.whole in let b = i.least m h.positive h.whole in omega arith

scaled_same : (m : ℕ) (o : Option Line) (h i : ℤ) → ((r : Line) → o ≡ Some r → pos 0 <ℤ r.d) → IsScaled m o h → IsScaled m o i → h ≡ i
scaled_same m None h i p e f = e ∙ sym f
scaled_same m (Some r) h i p e f =
    back (r.d *ℤ h) (r.d *ℤ i) r.d h i (positive_some r.d (p r refl))
    (ring (r.d ∷ h ∷ i ∷ []) (minus (times (var 0) (var 1)) (times (var 0) (var 2))) (times (var 0) (minus (var 1) (var 2))) refl)
    (e ∙ sym f)

-- a table has one scaling
pub scaling_same : (columns : ℕ) (s : List (Option Line)) (ms ns : List ℕ) (hs is : List ℤ) → IsTable s → IsScaling columns s ms hs → IsScaling columns s ns is → (ms ≡ ns) × (hs ≡ is)
scaling_same columns s ms ns hs is w f g =
    let scales : ms ≡ ns = same_lists ms ns (f.counts.0 ∙ sym g.counts.0) (λ k d l.
    (let a = f.counts.0 in
    let b = g.counts.0 in
    get_or_default ms k d 0 l ∙ scale_same _ (get_or ms k 0) (get_or ns k 0) (f.scale k (omega arith)) (g.scale k (omega arith)) ∙ get_or_default ns k 0 d (omega arith))) in (
      scales,
      same_lists hs is (f.counts.1 ∙ sym g.counts.1) (λ k d l.
          (let a = f.counts.1 in
          let b = g.counts.1 in
          let P : List ℕ → Type 0 = λ ls. IsScaled (last_scale ls) (get_or s k None) (get_or is k (pos 0)) in
          get_or_default hs k d (pos 0) l
          ∙ scaled_same (last_scale ms) (get_or s k None) (get_or hs k (pos 0)) (get_or is k (pos 0)) (λ r e. (w k r e).positive) (f.scaled k (omega arith)) (subst P (sym scales) (g.scaled k (omega arith)))
          ∙ get_or_default is k (pos 0) d (omega arith))),
    )

-- the heights are determined
pub heights_same : (columns : ℕ) (rs : List (List ℤ)) (v w : Option ℕ) (hs is : List ℤ) → AreRows columns rs → IsFeasible columns rs v hs → IsFeasible columns rs w is → hs ≡ is
heights_same columns rs v w hs is r f g =
    let h = runs_agree columns (start_table columns rs) f.reaches.tables g.reaches.tables f.end g.end f.reaches.run g.reaches.run (feasible-end columns f.end f.move) (feasible-end columns g.end g.move) in
    let P : Table → Type 0 = λ t. IsScaling columns t.lines g.scales is in
    (scaling_same columns f.end.lines f.scales g.scales hs is
    (run-table columns (start_table columns rs) f.reaches.tables f.end f.reaches.run (start-is_table columns rs r))
    f.scaling (subst P (sym h.1) g.scaling)).1

-- ---- multipliers
entries : (m : ℕ → ℤ) (b a n : ℕ) → a + n ≤ b → All (λ (e : ℕ × ℤ). (e.0 < b) × (pos 0 <ℤ e.1)) (filter (λ e. int_lt (pos 0) e.1) (map (λ j. (j, m j)) (range_with_len a n)))
entries m b a zero h = λ k d l. absurd (omega arith)
entries m b a (suc n) h = by (int_lt (pos 0) (m a)) refl (filter (λ e. int_lt (pos 0) e.1) (map (λ j. (j, m j)) (range_with_len (a + 1) n))) (entries m b (a + 1) n (omega arith))
  where
    by : (t : Bool) → int_lt (pos 0) (m a) ≡ t → (rest : List (ℕ × ℤ)) → All (λ (e : ℕ × ℤ). (e.0 < b) × (pos 0 <ℤ e.1)) rest → All (λ (e : ℕ × ℤ). (e.0 < b) × (pos 0 <ℤ e.1)) (cond t ((a, m a) ∷ rest) rest)
    by true e rest g zero d l = ((omega arith), int_lt-positive (m a) e)
    by true e rest g (suc k) d l = g k d (omega arith)
    by false e rest g k d l = g k d l

kept : (m : ℕ → ℤ) (a n x : ℕ) → a ≤ x → x < a + n → int_lt (pos 0) (m x) ≡ true → 0 < length (filter (λ (e : ℕ × ℤ). int_lt (pos 0) e.1) (map (λ j. (j, m j)) (range_with_len a n)))
kept m a zero x h i e = absurd (omega arith)
kept m a (suc n) x h i e = by (let c : (a ≡ x) ⊎ (a + 1 ≤ x) = grind arith in c) (int_lt (pos 0) (m a)) refl (kept m (a + 1) n x)
  where
    by : (a ≡ x) ⊎ (a + 1 ≤ x) → (t : Bool) → int_lt (pos 0) (m a) ≡ t
        → (a + 1 ≤ x → x < a + 1 + n → int_lt (pos 0) (m x) ≡ true → 0 < length (filter (λ (e : ℕ × ℤ). int_lt (pos 0) e.1) (map (λ j. (j, m j)) (range_with_len (a + 1) n))))
        → 0 < length (cond t ((a, m a) ∷ filter (λ (e : ℕ × ℤ). int_lt (pos 0) e.1) (map (λ j. (j, m j)) (range_with_len (a + 1) n))) (filter (λ (e : ℕ × ℤ). int_lt (pos 0) e.1) (map (λ j. (j, m j)) (range_with_len (a + 1) n))))
    by c true f rest = omega arith
    by (inl c) false f rest = let g : int_lt (pos 0) (m a) ≡ true = ap (λ k. int_lt (pos 0) (m k)) c ∙ e in cc
    by (inr c) false f rest = rest c (omega arith) e

-- each multiplier is positive and names a row
pub infeasible-positive : (columns : ℕ) (rs : List (List ℤ)) (width : Option ℕ) (ms : List (ℕ × ℤ)) → IsInfeasible columns rs width ms → All (λ (e : ℕ × ℤ). (e.0 < length rs) × (pos 0 <ℤ e.1)) ms
infeasible-positive columns rs width ms f =
    let P : List (ℕ × ℤ) → Type 0 = λ es. All (λ (e : ℕ × ℤ). (e.0 < length rs) × (pos 0 <ℤ e.1)) es in
    subst P (sym f.multipliers_are) (entries (multiplier_at columns f.slack f.row) (length rs) 0 (length rs) (omega arith))

-- there is one
pub infeasible-some : (columns : ℕ) (rs : List (List ℤ)) (width : Option ℕ) (ms : List (ℕ × ℤ)) → AreRows columns rs → IsInfeasible columns rs width ms → 0 < length ms
infeasible-some columns rs width ms w f =
    let here = get_here f.end.lines f.slack (Some f.row) f.is in
    let t = run-table columns (start_table columns rs) f.reaches.tables f.end f.reaches.run (start-is_table columns rs w) in
    let l = run-length columns (start_table columns rs) f.reaches.tables f.end f.reaches.run ∙ start-length columns (length rs) rs in
    let moves = moving-infeasible columns f.end.lines f.slack (move_of-infeasible columns f.end f.slack f.move).1 in
    let c = (first_slack-found columns _ f.end.lines f.slack moves.0).slack in
    let s = here.1 in
    let x = f.slack - columns in
    let xs : columns + x ≡ f.slack = omega arith in
    let P : List (ℕ × ℤ) → Type 0 = λ es. 0 < length es in
    subst P (sym f.multipliers_are)
    (kept (multiplier_at columns f.slack f.row) 0 (length rs) x (omega arith) (omega arith)
    (above_passes (multiplier_at columns f.slack f.row x) (own x xs (t f.slack f.row here.0).positive (columns + x == f.slack) refl)))
  where
    own : (x : ℕ) → columns + x ≡ f.slack → pos 0 <ℤ f.row.d → (b : Bool) → (columns + x == f.slack) ≡ b → pos 0 <ℤ cond b f.row.d (pos (unsigned_abs (coefficient_at f.row (columns + x))))
    own x e p true g = p
    own x e p false g = absurd (other_from_test (columns + x) f.slack g e)
