-- What an infeasible answer means: the multipliers are positive, there is one, and the rows times them cancel.
use Rattle.std.proofs.Common.{◌≡◌, ◌≢◌, ℕ, zero, suc, ◌+◌, ◌-◌, ◌<◌, ◌≤◌, ◌==◌, ◌⊎◌, inl, inr, Bool, true, false, cond, refl, sym, ap, ◌∙◌, subst, arith, ℤ, pos, negsuc, ◌+ℤ◌, ◌*ℤ◌, ◌≤ℤ◌, neg_ℤ, int_lt, unsigned_abs, List, [], ◌∷◌, ◌++◌, map, filter, length, get_or, Some, None, Option}
use Rattle.std.specs.List.{range_with_len}
use Rattle.std.proofs.lemmas.Int.{ints}
use Rattle.ntfe_model.specs.Solver.{Line, coefficient_at, start_table, first_negative, first_entering, multiplier_at, IsInfeasible}
use Rattle.ntfe_nums.proofs.Ring.{ring, product_zero, zero_product, one_product}
use Rattle.ntfe_nums.proofs.Ring.Expression.{var, num, plus, times, neg}
use Rattle.strict_solver.specs.Equations.{combination, LineHolds, Holds}
use Rattle.strict_solver.proofs.Pivots.{IsTable, get_here, run-table, run-length, run-holds}
use Rattle.strict_solver.proofs.Moves.{first_slack-found, no_entering, moving-infeasible, move_of-infeasible, int_lt-not_positive}
use Rattle.strict_solver.proofs.Bland.{IsLoaded}
use Rattle.strict_solver.proofs.Runs.{AreRows, start-get, start-length, start-is_table, start-loading, run-loading, end-loaded}
use Rattle.strict_solver.proofs.Feasible.{start-combination}
use Rattle.ntfe_nums.proofs.Comparisons.{same_from_test, other_from_test}
use Rattle.ntfe_nums.proofs.Signs.{zero_between}

-- the sum of the multipliers times what f says of their rows
abbrev pub weighted : List (ℕ × ℤ) → (ℕ → ℤ) → ℤ
weighted [] f = pos 0
weighted (e ∷ es) f = e.1 *ℤ f e.0 +ℤ weighted es f

abbrev pub total : (ℕ → ℤ) → ℕ → ℕ → ℤ
total h a zero = pos 0
total h a (suc n) = h a +ℤ total h (a + 1) n

weighted-filter : (m f : ℕ → ℤ) → ((j : ℕ) → pos 0 ≤ℤ m j) → (a n : ℕ)
    → weighted (filter (λ e. int_lt (pos 0) e.1) (map (λ j. (j, m j)) (range_with_len a n))) f ≡ total (λ j. m j *ℤ f j) a n
weighted-filter m f h a zero = refl
weighted-filter m f h a (suc n) = by (int_lt (pos 0) (m a)) refl (weighted-filter m f h (a + 1) n)
  where
    rest : List (ℕ × ℤ)
    rest = filter (λ e. int_lt (pos 0) e.1) (map (λ j. (j, m j)) (range_with_len (a + 1) n))

    none : (z x : ℤ) → z ≡ pos 0 → z *ℤ x ≡ pos 0
    none z x e = ap (λ k. k *ℤ x) e ∙ zero_product x

    add : (x y : ℤ) → x ≡ pos 0 → y ≡ x +ℤ y
    add x y e = omega (arith, ints)

    by : (b : Bool) → int_lt (pos 0) (m a) ≡ b → weighted (filter (λ e. int_lt (pos 0) e.1) (map (λ j. (j, m j)) (range_with_len (a + 1) n))) f ≡ total (λ j. m j *ℤ f j) (a + 1) n
        → weighted (cond b ((a, m a) ∷ filter (λ e. int_lt (pos 0) e.1) (map (λ j. (j, m j)) (range_with_len (a + 1) n))) (filter (λ e. int_lt (pos 0) e.1) (map (λ j. (j, m j)) (range_with_len (a + 1) n)))) f ≡ m a *ℤ f a +ℤ total (λ j. m j *ℤ f j) (a + 1) n
    by true e g = ap (λ z. m a *ℤ f a +ℤ z) g
    by false e g = g ∙ add _ _ (none (m a) (f a) (zero_between (m a) (h a) (int_lt-not_positive (m a) e)))

total-sum : (g h k : ℕ → ℤ) (n : ℕ) → ((j : ℕ) → j < n → g j +ℤ h j ≡ k j) → (a l : ℕ) → a + l ≤ n → total g a l +ℤ total h a l ≡ total k a l
total-sum g h k n e a zero i = refl
total-sum g h k n e a (suc l) i =
    let s = total-sum g h k n e (a + 1) l (omega arith) in
    let t = e a (omega arith) in
    omega (arith, ints)

total-none : (h : ℕ → ℤ) (a n : ℕ) → ((j : ℕ) → a ≤ j → h j ≡ pos 0) → total h a n ≡ pos 0
total-none h a zero g = refl
total-none h a (suc n) g = let x = g a (omega arith) in let y = total-none h (a + 1) n (λ j i. g j (omega arith)) in omega (arith, ints)

total-single : (h : ℕ → ℤ) (a n x : ℕ) → a ≤ x → x < a + n → ((j : ℕ) → j ≢ x → h j ≡ pos 0) → total h a n ≡ h x
total-single h a zero x g i e = absurd (omega arith)
total-single h a (suc n) x g i e = by (let c : (a ≡ x) ⊎ (a + 1 ≤ x) = grind arith in c) (total-single h (a + 1) n x)
  where
    by : (a ≡ x) ⊎ (a + 1 ≤ x) → (a + 1 ≤ x → x < a + 1 + n → ((j : ℕ) → j ≢ x → h j ≡ pos 0) → total h (a + 1) n ≡ h x) → h a +ℤ total h (a + 1) n ≡ h x
    by (inl f) rest =
        let y : total h (a + 1) n ≡ pos 0 = total-none h (a + 1) n (λ j k. e j (λ q. omega arith)) in
        let z : h a ≡ h x = ap h f in
        omega (arith, ints)
    by (inr f) rest =
        let y = rest f (omega arith) e in
        let z : h a ≡ pos 0 = e a (λ q. omega arith) in
        omega (arith, ints)

combination-total : (h : ℕ → ℤ) (a n : ℕ) (es vs : List ℤ) → length es ≡ n → length vs ≡ n → ((k : ℕ) → k < n → h (a + k) ≡ get_or es k (pos 0) *ℤ get_or vs k (pos 0)) → combination es vs ≡ total h a n
combination-total h a zero [] vs l m e = refl
combination-total h a zero (x ∷ es) vs l m e = absurd (omega arith)
combination-total h a (suc n) [] vs l m e = absurd (omega arith)
combination-total h a (suc n) (x ∷ es) [] l m e = absurd (omega arith)
combination-total h a (suc n) (x ∷ es) (v ∷ vs) l m e =
    let first : a ≡ a + 0 = omega arith in
    (λ i. sym (ap h first ∙ e 0 (omega arith)) i
    +ℤ combination-total h (a + 1) n es vs (omega arith) (omega arith) (λ k g. ap h (let q : a + 1 + k ≡ a + suc k = omega arith in q) ∙ e (suc k) (omega arith)) i)

combination-skip : (columns : ℕ) (h : ℕ → ℤ) (n : ℕ) (es vs : List ℤ) → length es ≡ columns + n → length vs ≡ columns + n → ((k : ℕ) → k < columns → get_or es k (pos 0) ≡ pos 0)
    → ((k z : ℕ) → k < n → z ≡ columns + k → h k ≡ get_or es z (pos 0) *ℤ get_or vs z (pos 0)) → combination es vs ≡ total h 0 n
combination-skip zero h n es vs l m z e = combination-total h 0 n es vs (omega arith) (omega arith) (λ k g. ap h (let q : 0 + k ≡ k = omega arith in q) ∙ e k k g (omega arith))
combination-skip (suc columns) h n [] vs l m z e = absurd (omega arith)
combination-skip (suc columns) h n (x ∷ es) [] l m z e = absurd (omega arith)
combination-skip (suc columns) h n (x ∷ es) (v ∷ vs) l m z e =
    let r = combination-skip columns h n es vs (omega arith) (omega arith) (λ k g. z (suc k) (omega arith)) (λ k y g q. e k (suc y) g (omega arith)) in
    let f : x *ℤ v ≡ pos 0 = ap (λ k. k *ℤ v) (z 0 (omega arith)) ∙ zero_product v in
    omega (arith, ints)

-- ---- values: any heights, and each slack what its row makes of them
abbrev pub with_rows : List ℤ → List (List ℤ) → List ℤ
with_rows ws rs = ws ++ map (λ r. combination r ws) rs

with_rows-length : (ws us : List ℤ) (rs : List (List ℤ)) → length (ws ++ map (λ r. combination r us) rs) ≡ length ws + length rs
with_rows-length [] us [] = refl
with_rows-length [] us (r ∷ rs) = let h = with_rows-length [] us rs in omega arith
with_rows-length (w ∷ ws) us rs = let h = with_rows-length ws us rs in omega arith

with_rows-height : (ws us : List ℤ) (k : ℕ) → k < length ws → get_or (ws ++ us) k (pos 0) ≡ get_or ws k (pos 0)
with_rows-height [] us k h = absurd (omega arith)
with_rows-height (w ∷ ws) us zero h = refl
with_rows-height (w ∷ ws) us (suc k) h = with_rows-height ws us k (omega arith)

with_rows-slack : (ws us : List ℤ) (rs : List (List ℤ)) (z j : ℕ) → z ≡ length ws + j → j < length rs → get_or (ws ++ map (λ r. combination r us) rs) z (pos 0) ≡ combination (get_or rs j []) us
with_rows-slack [] us [] z j e h = absurd (omega arith)
with_rows-slack [] us (r ∷ rs) zero zero e h = refl
with_rows-slack [] us (r ∷ rs) zero (suc j) e h = absurd (omega arith)
with_rows-slack [] us (r ∷ rs) (suc z) zero e h = absurd (omega arith)
with_rows-slack [] us (r ∷ rs) (suc z) (suc j) e h = with_rows-slack [] us rs z j (omega arith) (omega arith)
with_rows-slack (w ∷ ws) us rs zero j e h = absurd (omega arith)
with_rows-slack (w ∷ ws) us rs (suc z) j e h = with_rows-slack ws us rs z j (omega arith) h

module _ (columns : ℕ) (rs : List (List ℤ)) (width : Option ℕ) (ms : List (ℕ × ℤ)) (w : AreRows columns rs) (f : IsInfeasible columns rs width ms) where
  end_table : IsTable f.end.lines
  end_table = run-table columns (start_table columns rs) f.reaches.tables f.end f.reaches.run (start-is_table columns rs w)

  end_length : length f.end.lines ≡ columns + length rs
  end_length = run-length columns (start_table columns rs) f.reaches.tables f.end f.reaches.run ∙ start-length columns (length rs) rs

  here : (get_or f.end.lines f.slack None ≡ Some f.row) × (f.slack < length f.end.lines)
  here = get_here f.end.lines f.slack (Some f.row) f.is

  moves : (first_negative columns f.end.lines ≡ Some f.slack) × (first_entering columns f.end.lines f.slack ≡ None)
  moves = moving-infeasible columns f.end.lines f.slack (move_of-infeasible columns f.end f.slack f.move).1

  slack : columns ≤ f.slack
  slack = (first_slack-found columns _ f.end.lines f.slack moves.0).slack

  loaded : IsLoaded columns f.end.lines
  loaded =
      end-loaded columns f.end
      (run-loading columns (start_table columns rs) f.reaches.tables f.end f.reaches.run (start-is_table columns rs w) (let e = start-length columns (length rs) rs in omega arith) (start-loading columns rs))
      (move_of-infeasible columns f.end f.slack f.move).0

  -- in the row of the slack no height has a coefficient, and no other slack has a positive one
  no_height : (k : ℕ) → k < columns → coefficient_at f.row k ≡ pos 0
  no_height k h = by (get_or f.end.lines k None) refl
    where
      by : (o : Option Line) → get_or f.end.lines k None ≡ o → coefficient_at f.row k ≡ pos 0
      by None e = loaded k h e f.slack f.row slack here.1 here.0
      by (Some r) e = (end_table f.slack f.row here.0).zeros k r e

  at_most : (k : ℕ) → columns ≤ k → k < columns + length rs → coefficient_at f.row k ≤ℤ pos 0
  at_most k c h = by (get_or f.end.lines k None) refl
    where
      by : (o : Option Line) → get_or f.end.lines k None ≡ o → coefficient_at f.row k ≤ℤ pos 0
      by None e = no_entering columns f.end.lines f.slack f.row here.0 moves.1 k c (let l = end_length in omega arith) e
      by (Some r) e = let g = (end_table f.slack f.row here.0).zeros k r e in omega (arith, ints)

  multiplier_at_least : (j : ℕ) → pos 0 ≤ℤ multiplier_at columns f.slack f.row j
  multiplier_at_least j = by (columns + j == f.slack)
    where
      by : (b : Bool) → pos 0 ≤ℤ cond b f.row.d (pos (unsigned_abs (coefficient_at f.row (columns + j))))
      by true = let p = (end_table f.slack f.row here.0).positive in omega (arith, ints)
      by false = at (unsigned_abs (coefficient_at f.row (columns + j)))
        where
          at : (n : ℕ) → pos 0 ≤ℤ pos n
          at n = omega (arith, ints)

  module _ (ws : List ℤ) (l : length ws ≡ columns) where
    holds : Holds (pos 0) (with_rows ws rs) f.end.lines
    holds =
        run-holds columns (start_table columns rs) f.reaches.tables f.end f.reaches.run (start-is_table columns rs w) (pos 0) (with_rows ws rs)
        (let a = with_rows-length ws ws rs in let b = start-length columns (length rs) rs in omega arith)
        (λ z r e.
        (let h = start-get columns (length rs) rs z r e in
        let P : Line → Type 0 = λ q. LineHolds (pos 0) (with_rows ws rs) z q in
        let c : length (get_or rs h.0 []) ≡ columns = w h.0 h.2 in
        subst P (sym h.3)
        (one_product (get_or (with_rows ws rs) z (pos 0))
        ∙ with_rows-slack ws ws rs z h.0 (let a = h.1 in omega arith) h.2
        ∙ ring (combination (get_or rs h.0 []) ws ∷ []) (var 0) (plus (times (num (negsuc 0)) (num (pos 0))) (times (num (pos 1)) (var 0))) refl
        ∙ ap (λ k. negsuc 0 *ℤ pos 0 +ℤ k)
        (sym (start-combination (pos 1) (get_or rs h.0 []) ws (with_rows ws rs) (length rs) (c ∙ sym l) (let a = with_rows-length ws ws rs in omega arith)
        (λ k g. with_rows-height ws (map (λ r. combination r ws) rs) k g ∙ sym (one_product (get_or ws k (pos 0)))))))))

    own : ℕ → ℤ
    own j = cond (columns + j == f.slack) (f.row.d *ℤ combination (get_or rs j []) ws) (pos 0)

    -- the rows times the multipliers cancel
    pub infeasible-cancels : weighted ms (λ j. combination (get_or rs j []) ws) ≡ pos 0
    infeasible-cancels =
        let g : ℕ → ℤ = λ j. combination (get_or rs j []) ws in
        let mul : ℕ → ℤ = λ j. multiplier_at columns f.slack f.row j in
        let es : ℕ → ℤ = λ j. coefficient_at f.row (columns + j) *ℤ combination (get_or rs j []) ws in
        let os : ℕ → ℤ = λ j. cond (columns + j == f.slack) (f.row.d *ℤ combination (get_or rs j []) ws) (pos 0) in
        let n = length rs in
        let x = f.slack - columns in
        let xs : columns + x ≡ f.slack = let a = slack in omega arith in
        let xl : x < n = let a = here.1 in let b = end_length in let c = slack in omega arith in
        let one : weighted ms g ≡ total (λ j. mul j *ℤ g j) 0 n = ap (λ l. weighted l g) f.multipliers_are ∙ weighted-filter mul g multiplier_at_least 0 n in
        let two : total (λ j. mul j *ℤ g j) 0 n +ℤ total es 0 n ≡ total os 0 n = total-sum (λ j. mul j *ℤ g j) es os n (λ j h. each j h (columns + j == f.slack) refl) 0 n (omega arith) in
        let three : total os 0 n ≡ os x = total-single os 0 n x (omega arith) (omega arith) (λ j h. other j (λ e. h (omega arith)) (columns + j == f.slack) refl) in
        let four : os x ≡ f.row.d *ℤ g x = itself x xs (columns + x == f.slack) refl in
        let five : combination f.row.coefficients (with_rows ws rs) ≡ total es 0 n =
        combination-skip columns es n f.row.coefficients (with_rows ws rs)
        ((end_table f.slack f.row here.0).count ∙ end_length) (let a = with_rows-length ws ws rs in omega arith) no_height
        (λ k z h e. (λ i. coefficient_at f.row (sym e i) *ℤ sym (with_rows-slack ws ws rs z k (let a = e in omega arith) h) i)) in
        let row = holds f.slack f.row here.0 in
        let six : get_or (with_rows ws rs) f.slack (pos 0) ≡ g x = with_rows-slack ws ws rs f.slack x (let a = xs in omega arith) xl in
        let seven : f.row.d *ℤ g x ≡ f.row.c *ℤ pos 0 +ℤ combination f.row.coefficients (with_rows ws rs) = ap (λ k. f.row.d *ℤ k) (sym six) ∙ row in
        finish _ _ _ _ _ _ _ _ one two three four five seven (product_zero f.row.c)
      where
        finish : (s t e o ox dx c cz : ℤ) → s ≡ t → t +ℤ e ≡ o → o ≡ ox → ox ≡ dx → c ≡ e → dx ≡ cz +ℤ c → cz ≡ pos 0 → s ≡ pos 0
        finish s t e o ox dx c cz a b d g h i j = omega (arith, ints)

        size : (z v : ℤ) → z ≤ℤ pos 0 → pos (unsigned_abs z) *ℤ v +ℤ z *ℤ v ≡ pos 0
        size z v h =
            let e : pos (unsigned_abs z) ≡ neg_ℤ z = omega (arith, ints) in
            ap (λ k. k *ℤ v +ℤ z *ℤ v) e ∙ ring (z ∷ v ∷ []) (plus (times (neg (var 0)) (var 1)) (times (var 0) (var 1))) (num (pos 0)) refl

        each : (j : ℕ) → j < length rs → (b : Bool) → (columns + j == f.slack) ≡ b
            → cond b f.row.d (pos (unsigned_abs (coefficient_at f.row (columns + j)))) *ℤ combination (get_or rs j []) ws +ℤ coefficient_at f.row (columns + j) *ℤ combination (get_or rs j []) ws
            ≡ cond b (f.row.d *ℤ combination (get_or rs j []) ws) (pos 0)
        each j h true e =
            let P : ℕ → Type 0 = λ k. coefficient_at f.row k ≡ pos 0 in
            let z : coefficient_at f.row (columns + j) ≡ pos 0 = subst P (sym (same_from_test (columns + j) f.slack e)) ((end_table f.slack f.row here.0).zeros f.slack f.row here.0) in
            ap (λ k. f.row.d *ℤ combination (get_or rs j []) ws +ℤ k *ℤ combination (get_or rs j []) ws) z
            ∙ ring (f.row.d ∷ combination (get_or rs j []) ws ∷ []) (plus (times (var 0) (var 1)) (times (num (pos 0)) (var 1))) (times (var 0) (var 1)) refl
        each j h false e = size (coefficient_at f.row (columns + j)) (combination (get_or rs j []) ws) (at_most (columns + j) (omega arith) (omega arith))

        other : (j : ℕ) → (columns + j ≡ f.slack → ⊥) → (b : Bool) → (columns + j == f.slack) ≡ b → cond b (f.row.d *ℤ combination (get_or rs j []) ws) (pos 0) ≡ pos 0
        other j n true e = absurd (n (same_from_test (columns + j) f.slack e))
        other j n false e = refl

        itself : (j : ℕ) → columns + j ≡ f.slack → (b : Bool) → (columns + j == f.slack) ≡ b → cond b (f.row.d *ℤ combination (get_or rs j []) ws) (pos 0) ≡ f.row.d *ℤ combination (get_or rs j []) ws
        itself j h true e = refl
        itself j h false e = absurd (other_from_test (columns + j) f.slack e h)
