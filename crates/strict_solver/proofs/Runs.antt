-- The start of the stated solver, what is loaded along a run, and runs of moves.
--     AreRows columns rs       each row has a coefficient for each height
--     start-is_table, run-loading, end-loaded      the rows' form and what loading leaves hold at the end of each run
use Rattle.std.proofs.Common.{◌≡◌, ◌≢◌, ℕ, zero, suc, ◌+◌, ◌<◌, ◌≤◌, ◌⊎◌, inl, inr, refl, sym, ap, ◌∙◌, subst, arith, ℤ, pos, List, [], ◌∷◌, ◌++◌, map, replicate, length, get_or, Some, None, Option}
use Rattle.std.proofs.lemmas.Int.{ints}
use Rattle.std.specs.List.{range_with_len}
use Rattle.ntfe_model.specs.Solver.{Line, Table, Move, start_line, start_table, next_load, moving, IsStepOf, IsRun}
use Rattle.strict_solver.proofs.Pivots.{IsLineOf, IsTable, pivot-table, pivot-gone, pivot-before, pivot-new}
use Rattle.strict_solver.proofs.Moves.{IsGone, IsIn, IsLoad, next_load-found, no_next_load, move_of-pivot, moving-pivot, first_slack-found}
use Rattle.strict_solver.proofs.Bland.{IsMovingStep, IsMoving, IsLoaded}
use Rattle.strict_solver.proofs.Entries.{not_both, line_or}

abbrev pub AreRows : ℕ → List (List ℤ) → Type 0
AreRows columns rs = (j : ℕ) → j < length rs → length (get_or rs j []) ≡ columns

abbrev pub start_lines : ℕ → ℕ → List (List ℤ) → List (Option Line)
start_lines columns n rs = replicate columns None ++ map (λ r. Some (start_line n r)) rs

pub start-get : (columns n : ℕ) (rs : List (List ℤ)) (z : ℕ) (r : Line) → get_or (start_lines columns n rs) z None ≡ Some r → (j : ℕ) × (z ≡ columns + j) × (j < length rs) × (r ≡ start_line n (get_or rs j []))
start-get zero n [] z r e = cc
start-get zero n (q ∷ rs) zero r e = (0, omega arith, omega arith, ap (line_or r) (sym e))
start-get zero n (q ∷ rs) (suc z) r e = let h = start-get zero n rs z r e in (suc h.0, (let a = h.1 in omega arith), (let a = h.2 in omega arith), h.3)
start-get (suc columns) n rs zero r e = cc
start-get (suc columns) n rs (suc z) r e = let h = start-get columns n rs z r e in (h.0, (let a = h.1 in omega arith), h.2, h.3)

pub start-at : (columns n : ℕ) (rs : List (List ℤ)) (z j : ℕ) → z ≡ columns + j → j < length rs → get_or (start_lines columns n rs) z None ≡ Some (start_line n (get_or rs j []))
start-at zero n [] z j e h = absurd (omega arith)
start-at zero n (q ∷ rs) zero zero e h = refl
start-at zero n (q ∷ rs) zero (suc j) e h = absurd (omega arith)
start-at zero n (q ∷ rs) (suc z) zero e h = absurd (omega arith)
start-at zero n (q ∷ rs) (suc z) (suc j) e h = start-at zero n rs z j (omega arith) (omega arith)
start-at (suc columns) n rs zero j e h = absurd (omega arith)
start-at (suc columns) n rs (suc z) j e h = start-at columns n rs z j (omega arith) h

pub start-none : (columns n : ℕ) (rs : List (List ℤ)) (z : ℕ) → z < columns → get_or (start_lines columns n rs) z None ≡ None
start-none zero n rs z l = absurd (omega arith)
start-none (suc columns) n rs zero l = refl
start-none (suc columns) n rs (suc z) l = start-none columns n rs z (omega arith)

pub start-length : (columns n : ℕ) (rs : List (List ℤ)) → length (start_lines columns n rs) ≡ columns + length rs
start-length zero n [] = refl
start-length zero n (r ∷ rs) = let h = start-length zero n rs in omega arith
start-length (suc columns) n rs = let h = start-length columns n rs in omega arith

zero_at : (n k : ℕ) → get_or (replicate n (pos 0)) k (pos 0) ≡ pos 0
zero_at zero k = refl
zero_at (suc n) zero = refl
zero_at (suc n) (suc k) = zero_at n k

pub after_row : (es : List ℤ) (n k : ℕ) → length es ≤ k → get_or (es ++ replicate n (pos 0)) k (pos 0) ≡ pos 0
after_row [] n k h = zero_at n k
after_row (e ∷ es) n zero h = absurd (omega arith)
after_row (e ∷ es) n (suc k) h = after_row es n k (omega arith)

row-length : (es : List ℤ) (n : ℕ) → length (es ++ replicate n (pos 0)) ≡ length es + n
row-length [] zero = refl
row-length [] (suc n) = let h = row-length [] n in omega arith
row-length (e ∷ es) n = let h = row-length es n in omega arith

pub start-is_table : (columns : ℕ) (rs : List (List ℤ)) → AreRows columns rs → IsTable (start_table columns rs).lines
start-is_table columns rs w z r e =
    let h = start-get columns (length rs) rs z r e in
    let P : Line → Type 0 = λ q. IsLineOf (start_lines columns (length rs) rs) q in
    subst P (sym h.3) (record {
      count = (let a = row-length (get_or rs h.0 []) (length rs) in let b = w h.0 h.2 in let c = start-length columns (length rs) rs in omega arith);
      positive = omega (arith, ints);
      zeros = λ b q f. (let g = start-get columns (length rs) rs b q f in after_row (get_or rs h.0 []) (length rs) b (let a = w h.0 h.2 in let c = g.1 in omega arith));
    })

-- ---- loading
abbrev pub IsLoading : ℕ → Table → Type 0
IsLoading columns t = (k : ℕ) → k < columns → get_or t.lines k None ≡ None → IsIn k t.to_load ⊎ IsGone columns t.lines k

in_range : (a n k : ℕ) → a ≤ k → k < a + n → IsIn k (range_with_len a n)
in_range a zero k h i = absurd (omega arith)
in_range a (suc n) k h i = by (let c : (k ≡ a) ⊎ (a + 1 ≤ k) = grind arith in c) (in_range (a + 1) n k)
  where
    by : (k ≡ a) ⊎ (a + 1 ≤ k) → (a + 1 ≤ k → k < a + 1 + n → IsIn k (range_with_len (a + 1) n)) → (k ≡ a) ⊎ IsIn k (range_with_len (a + 1) n)
    by (inl e) rest = inl e
    by (inr e) rest = inr (rest e (omega arith))

pub start-loading : (columns : ℕ) (rs : List (List ℤ)) → IsLoading columns (start_table columns rs)
start-loading columns rs k h e = inl (in_range 0 columns k (omega arith) (omega arith))

pub step-loading : (columns : ℕ) (s t : Table) → IsStepOf columns s t → IsTable s.lines → columns ≤ length s.lines → IsLoading columns s → IsLoading columns t
step-loading columns s t m w c l k h e = by (move_of-pivot columns s m.0 m.1 t.to_load m.2)
  where
    apart : k ≢ m.1
    apart i = let P : ℕ → Type 0 = λ z. get_or t.lines z None ≡ None in not_both _ m.3.new (pivot-new m.0 m.1 s.lines t.lines m.3) (subst P i e)

    empty : columns ≤ m.0 → get_or s.lines k None ≡ None
    empty a = pivot-before m.0 m.1 s.lines t.lines m.3 k e (λ i. omega arith)

    goes : columns ≤ m.0 → IsGone columns s.lines k → IsGone columns t.lines k
    goes a g = pivot-gone m.0 m.1 s.lines t.lines m.3 w columns k h a apart (omega arith) g

    by : (next_load columns s.lines s.to_load ≡ Some (m.0, m.1, t.to_load)) ⊎ ((next_load columns s.lines s.to_load ≡ None) × (moving columns s.lines ≡ Move.pivot m.0 m.1 t.to_load)) → IsIn k t.to_load ⊎ IsGone columns t.lines k
    by (inl f) = at (l k h (empty d.slack))
      where
        d : IsLoad columns s.lines s.to_load m.0 m.1 t.to_load
        d = next_load-found columns s.lines s.to_load m.0 m.1 t.to_load f

        then : (k ≡ m.1) ⊎ IsIn k t.to_load ⊎ IsGone columns s.lines k → IsIn k t.to_load ⊎ IsGone columns t.lines k
        then (inl i) = absurd (apart i)
        then (inr (inl i)) = inl i
        then (inr (inr i)) = inr (goes d.slack i)

        at : IsIn k s.to_load ⊎ IsGone columns s.lines k → IsIn k t.to_load ⊎ IsGone columns t.lines k
        at (inl i) = then (d.others k i)
        at (inr i) = inr (goes d.slack i)
    by (inr f) = at (l k h (empty slack))
      where
        slack : columns ≤ m.0
        slack = (first_slack-found columns _ s.lines m.0 (moving-pivot columns s.lines m.0 m.1 t.to_load f.1).0.leaving).slack

        at : IsIn k s.to_load ⊎ IsGone columns s.lines k → IsIn k t.to_load ⊎ IsGone columns t.lines k
        at (inl i) = inr (goes slack (no_next_load columns s.lines s.to_load f.0 k i))
        at (inr i) = inr (goes slack i)

pub run-loading : (columns : ℕ) (s : Table) (ts : List Table) (t : Table) → IsRun columns s ts t → IsTable s.lines → columns ≤ length s.lines → IsLoading columns s → IsLoading columns t
run-loading columns s [] t m w c l = let P : Table → Type 0 = λ r. IsLoading columns r in subst P m l
run-loading columns s (r ∷ ts) t m w c l =
    let e = m.0.3.length_same in
    run-loading columns r ts t m.1 (pivot-table m.0.0 m.0.1 s.lines r.lines m.0.3 w) (omega arith) (step-loading columns s r m.0 w c l)

-- when nothing is left to be loaded
pub end-loaded : (columns : ℕ) (t : Table) → IsLoading columns t → next_load columns t.lines t.to_load ≡ None → IsLoaded columns t.lines
end-loaded columns t l n k h e = by (l k h e)
  where
    by : IsIn k t.to_load ⊎ IsGone columns t.lines k → IsGone columns t.lines k
    by (inl i) = no_next_load columns t.lines t.to_load n k i
    by (inr i) = i

-- ---- moves
abbrev pub lines_of : List Table → List (List (Option Line))
lines_of [] = []
lines_of (t ∷ ts) = t.lines ∷ lines_of ts

run-step : (columns : ℕ) (s t : Table) → IsStepOf columns s t → next_load columns s.lines s.to_load ≡ None → IsMovingStep columns (length s.lines) s.lines t.lines × (t.to_load ≡ [])
run-step columns s t m n = by (move_of-pivot columns s m.0 m.1 t.to_load m.2)
  where
    by : (next_load columns s.lines s.to_load ≡ Some (m.0, m.1, t.to_load)) ⊎ ((next_load columns s.lines s.to_load ≡ None) × (moving columns s.lines ≡ Move.pivot m.0 m.1 t.to_load)) → IsMovingStep columns (length s.lines) s.lines t.lines × (t.to_load ≡ [])
    by (inl f) = cc
    by (inr f) =
        let p = moving-pivot columns s.lines m.0 m.1 t.to_load f.1 in
        (record { x = m.0; y = m.1; small = (let a = (first_slack-found columns _ s.lines m.0 p.0.leaving).below in omega arith); move = p.0; is = m.3 }, p.1)

-- the steps of a run after the loading are moves
pub run-moving : (columns bound : ℕ) (s : Table) (ts : List Table) (t : Table) → IsRun columns s ts t → next_load columns s.lines s.to_load ≡ None → bound ≡ length s.lines → IsMoving columns bound s.lines (lines_of ts) t.lines
run-moving columns bound s [] t m n b = ap (λ (r : Table). r.lines) m
run-moving columns bound s (r ∷ ts) t m n b =
    let k = run-step columns s r m.0 n in
    let P : ℕ → Type 0 = λ j. IsMovingStep columns j s.lines r.lines in
    let Q : List ℕ → Type 0 = λ l. next_load columns r.lines l ≡ None in
    (subst P (sym b) k.0, run-moving columns bound r ts t m.1 (subst Q (sym k.1) refl) (b ∙ sym m.0.3.length_same))
