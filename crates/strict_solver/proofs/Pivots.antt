-- A pivot keeps the solutions of the rows.
--     IsTable s               each row has a coefficient for each variable, a positive d, and 0 at the basic variables
--     Holds one values s      all rows hold at these values, where `one` stands for the number 1
--     pivot-new, pivot-left, pivot-free, pivot-put      what stands where after a pivot
--     pivot-rows              what holds of all rows after it
--     pivot-table, pivot-holds, pivot-held      IsTable stays, and the rows after hold exactly where the rows before do
--     run-table, run-length, run-holds, run-held      the same of a run
use Rattle.std.proofs.Common.{◌≡◌, ◌≢◌, ℕ, zero, suc, ◌<◌, ◌≤◌, ◌⊎◌, inl, inr, min, refl, sym, ap, ◌∙◌, subst, arith, ℤ, pos, ◌+ℤ◌, ◌*ℤ◌, neg_ℤ, ◌<ℤ◌, List, [], ◌∷◌, map, length, get_or, set, length-set, get_or-set_same, get_or-set_other, Some, None, Option}
use Rattle.std.specs.Prelude.{zip, slice_get, is_none}
use Rattle.std.proofs.lemmas.List.{get_or-map, get_or_past, length-map}
use Rattle.std.proofs.lemmas.Slice.Zip.{length-zip, get_or-zip}
use Rattle.ntfe_nums.specs.Vectors.{sign}
use Rattle.ntfe_model.specs.Solver.{Line, Table, coefficient_at, solved_for, with_put_in, IsReduced, IsNextLine, IsPivot, IsRun, IsStepOf}
use Rattle.ntfe_nums.proofs.Ring.{product_zero, zero_product}
use Rattle.ntfe_nums.proofs.Signs.{same_or}
use Rattle.strict_solver.specs.Equations.{LineHolds, Holds}
use Rattle.strict_solver.specs.Continuing.{IsLowest}
use Rattle.strict_solver.proofs.Moves.{IsGone}
use Rattle.strict_solver.proofs.Forms.{zero_factor, reduced_parts, solved_for-holds, reduced-holds, with_put_in-holds, pos_some}
use Rattle.strict_solver.proofs.Entries.{basic_or_not, not_both, both_some, none_unless}
use Rattle.std.proofs.lemmas.Option.{get_or_from_slice_get, slice_get_within, slice_get-get_or}

pub record IsLineOf (s : List (Option Line)) (r : Line) : Type 0 where
  pub count : length r.coefficients ≡ length s
  pub positive : pos 0 <ℤ r.d
  pub zeros : (b : ℕ) (q : Line) → get_or s b None ≡ Some q → coefficient_at r b ≡ pos 0

abbrev pub IsTable : List (Option Line) → Type 0
IsTable s = (z : ℕ) (r : Line) → get_or s z None ≡ Some r → IsLineOf s r

-- each line is in lowest form
abbrev pub AreLowest : List (Option Line) → Type 0
AreLowest s = (z : ℕ) (r : Line) → get_or s z None ≡ Some r → IsLowest r

pub in_table : (s : List (Option Line)) (z : ℕ) (r : Line) → get_or s z None ≡ Some r → z < length s
in_table [] z r e = cc
in_table (o ∷ s) zero r e = omega arith
in_table (o ∷ s) (suc z) r e = let h = in_table s z r e in omega arith

pub get_here : (s : List (Option Line)) (z : ℕ) (o : Option Line) → slice_get s z ≡ Some o → (get_or s z None ≡ o) × (z < length s)
get_here s z o e = (get_or_from_slice_get s z o None e, slice_get_within s z o e)

pub get_there : (s : List (Option Line)) (z : ℕ) (r : Line) → get_or s z None ≡ Some r → slice_get s z ≡ Some (Some r)
get_there s z r e = slice_get-get_or s z None (in_table s z r e) ∙ ap Some e

-- a coefficient of the row that is put in
pub coefficient-put_in : (q m : Line) (y b : ℕ) → b < length q.coefficients → b < length m.coefficients
    → coefficient_at (with_put_in q y m) b ≡ get_or (set q.coefficients y (pos 0)) b (pos 0) *ℤ m.d +ℤ coefficient_at q y *ℤ coefficient_at m b
coefficient-put_in q m y b lq lm =
    let left : List ℤ = set q.coefficients y (pos 0) in
    let ll : length left ≡ length q.coefficients = length-set q.coefficients y (pos 0) in
    let g : ℤ × ℤ → ℤ = λ e. e.0 *ℤ m.d +ℤ coefficient_at q y *ℤ e.1 in
    let d : ℤ × ℤ = (pos 0, pos 0) in
    let lz : length (zip left m.coefficients) ≡ min (length left) (length m.coefficients) = length-zip left m.coefficients in
    get_or-map g (zip left m.coefficients) b d (pos 0) (least lz ll lq lm)
    ∙ ap g (get_or-zip left m.coefficients b d (omega arith) lm)
  where
    least : {k j n l : ℕ} → k ≡ min j l → j ≡ n → b < n → b < l → b < k
    least e f h i = grind arith

zero_set : (es : List ℤ) (y b : ℕ) → ((b ≡ y) × (y < length es)) ⊎ (get_or es b (pos 0) ≡ pos 0) → get_or (set es y (pos 0)) b (pos 0) ≡ pos 0
zero_set es y b (inl h) = let P : ℕ → Type 0 = λ k. get_or (set es y (pos 0)) k (pos 0) ≡ pos 0 in subst P (sym h.0) (get_or-set_same es y (pos 0) (pos 0) h.1)
zero_set [] y b (inr h) = refl
zero_set (e ∷ es) zero zero (inr h) = refl
zero_set (e ∷ es) zero (suc b) (inr h) = h
zero_set (e ∷ es) (suc y) zero (inr h) = h
zero_set (e ∷ es) (suc y) (suc b) (inr h) = zero_set es y b (inr h)

pub zero_terms : (d f a b : ℤ) → a ≡ pos 0 → b ≡ pos 0 → a *ℤ d +ℤ f *ℤ b ≡ pos 0
zero_terms d f a b e g = (λ i. e i *ℤ d +ℤ f *ℤ g i) ∙ (λ i. zero_product d i +ℤ product_zero f i)

mapped-at : (f : ℤ → ℤ) (es : List ℤ) (j : ℕ) → f (pos 0) ≡ pos 0 → get_or (map f es) j (pos 0) ≡ f (get_or es j (pos 0))
mapped-at f [] j h = sym h
mapped-at f (e ∷ es) zero h = refl
mapped-at f (e ∷ es) (suc j) h = mapped-at f es j h

-- ---- a variable that no line of a pivot has
pub reduced-clear : (raw r : Line) (j : ℕ) → IsReduced raw r → coefficient_at raw j ≡ pos 0 → coefficient_at r j ≡ pos 0
reduced-clear raw r j h e =
    zero_factor (pos h.k) (coefficient_at r j) (pos_some h.k h.factor)
    (sym (mapped-at (λ z. pos h.k *ℤ z) r.coefficients j (product_zero (pos h.k))) ∙ sym (ap (λ es. get_or es j (pos 0)) (reduced_parts raw r h).2) ∙ e)

pub solved-clear : (r m : Line) (x y b : ℕ) → IsReduced (solved_for r x y) m → b ≢ x → ((b ≡ y) × (y < length r.coefficients)) ⊎ (coefficient_at r b ≡ pos 0) → coefficient_at m b ≡ pos 0
solved-clear r m x y b h n c =
    let s = sign (coefficient_at r y) in
    let first : List ℤ = map (λ e. neg_ℤ (s *ℤ e)) r.coefficients in
    reduced-clear (solved_for r x y) m b h (get_or-set_other (set first y (pos 0)) x b (s *ℤ r.d) (pos 0) n ∙ zero_set first y b (by s c))
  where
    by : (s : ℤ) → ((b ≡ y) × (y < length r.coefficients)) ⊎ (coefficient_at r b ≡ pos 0)
        → ((b ≡ y) × (y < length (map (λ e. neg_ℤ (s *ℤ e)) r.coefficients))) ⊎ (get_or (map (λ e. neg_ℤ (s *ℤ e)) r.coefficients) b (pos 0) ≡ pos 0)
    by s (inl e) = inl (e.0, (let l = length-map r.coefficients (λ z. neg_ℤ (s *ℤ z)) in let a = e.1 in omega arith))
    by s (inr e) = let z : neg_ℤ (s *ℤ pos 0) ≡ pos 0 = ap neg_ℤ (product_zero s) in inr (mapped-at (λ e. neg_ℤ (s *ℤ e)) r.coefficients b z ∙ ap (λ e. neg_ℤ (s *ℤ e)) e ∙ z)

pub put_in-clear : (q m r : Line) (y b : ℕ) → IsReduced (with_put_in q y m) r → b < length q.coefficients → b < length m.coefficients → ((b ≡ y) × (y < length q.coefficients)) ⊎ (coefficient_at q b ≡ pos 0)
    → coefficient_at m b ≡ pos 0 → coefficient_at r b ≡ pos 0
put_in-clear q m r y b h lq lm c e = reduced-clear (with_put_in q y m) r b h (coefficient-put_in q m y b lq lm ∙ zero_terms m.d (coefficient_at q y) _ _ (zero_set q.coefficients y b c) e)

-- ---- sizes
reduced-count : (raw r : Line) (h : IsReduced raw r) → length r.coefficients ≡ length raw.coefficients
reduced-count raw r h = sym (length-map r.coefficients (λ e. pos h.k *ℤ e)) ∙ sym (ap length (reduced_parts raw r h).2)

solved-count : (r : Line) (x y : ℕ) → length (solved_for r x y).coefficients ≡ length r.coefficients
solved-count r x y =
    let s = sign (coefficient_at r y) in
    let first : List ℤ = map (λ e. neg_ℤ (s *ℤ e)) r.coefficients in
    length-set (set first y (pos 0)) x (s *ℤ r.d) ∙ length-set first y (pos 0) ∙ length-map r.coefficients (λ e. neg_ℤ (s *ℤ e))

pub length-zipped : (g : ℤ × ℤ → ℤ) (n : ℕ) (xs ys : List ℤ) → length xs ≡ n → length ys ≡ n → length (map g (zip xs ys)) ≡ n
length-zipped g n xs ys e f = length-map (zip xs ys) g ∙ length-zip xs ys ∙ least (length xs) (length ys) e f
  where
    least : (j k : ℕ) → j ≡ n → k ≡ n → min j k ≡ n
    least j k e f = grind arith

module _ (x y : ℕ) (s t : List (Option Line)) (p : IsPivot x y s t) where
  pub pivot-leaving : (get_or s x None ≡ Some p.row) × (x < length s)
  pivot-leaving = get_here s x (Some p.row) p.is

  pub pivot-entering : (get_or s y None ≡ None) × (y < length s)
  pivot-entering = get_here s y None p.other

  pub pivot-apart : x ≢ y
  pivot-apart e = let P : ℕ → Type 0 = λ k. get_or s k None ≡ Some p.row in let a = subst P e pivot-leaving.0 in let b = pivot-entering.0 in cc

  -- where y was not, its new row is
  pub pivot-new : get_or t y None ≡ Some p.new
  pivot-new = by (p.lines y pivot-entering.1)
    where
      by : IsNextLine x y p.new y (get_or s y None) (get_or t y None) → get_or t y None ≡ Some p.new
      by (inl h) = absurd (pivot-apart (sym h.0))
      by (inr (inl h)) = h.1
      by (inr (inr (inl h))) = absurd (h.1 refl)
      by (inr (inr (inr h))) = absurd (h.3 refl)

  pub pivot-left : get_or t x None ≡ None
  pivot-left = by (p.lines x pivot-leaving.1)
    where
      by : IsNextLine x y p.new x (get_or s x None) (get_or t x None) → get_or t x None ≡ None
      by (inl h) = h.1
      by (inr (inl h)) = absurd (pivot-apart h.0)
      by (inr (inr (inl h))) = h.3
      by (inr (inr (inr h))) = absurd (h.2 refl)

  -- another variable that is not basic stays so
  pub pivot-free : (z : ℕ) → get_or s z None ≡ None → z ≢ y → get_or t z None ≡ None
  pivot-free z e n = at (let c : (z < length s) ⊎ (length s ≤ z) = grind arith in c)
    where
      by : IsNextLine x y p.new z (get_or s z None) (get_or t z None) → get_or t z None ≡ None
      by (inl h) = h.1
      by (inr (inl h)) = absurd (n h.0)
      by (inr (inr (inl h))) = h.3
      by (inr (inr (inr h))) = absurd (not_both _ h.0 h.4 e)

      at : (z < length s) ⊎ (length s ≤ z) → get_or t z None ≡ None
      at (inl l) = by (p.lines z l)
      at (inr l) = get_or_past t z None (let c = p.length_same in omega arith)

  -- into a row that does not leave the new one is put
  pub pivot-put : (z : ℕ) (q : Line) → get_or s z None ≡ Some q → z ≢ x → (r : Line) × (get_or t z None ≡ Some r) × IsReduced (with_put_in q y p.new) r
  pivot-put z q e n = by (p.lines z (in_table s z q e))
    where
      by : IsNextLine x y p.new z (get_or s z None) (get_or t z None) → (r : Line) × (get_or t z None ≡ Some r) × IsReduced (with_put_in q y p.new) r
      by (inl h) = absurd (n h.0)
      by (inr (inl h)) = absurd (not_both _ q (ap (λ k. get_or s k None) (sym h.0) ∙ e) pivot-entering.0)
      by (inr (inr (inl h))) = absurd (not_both _ q e h.2)
      by (inr (inr (inr h))) = let P : Line → Type 0 = λ k. IsReduced (with_put_in k y p.new) h.1 in (h.1, h.5, subst P (both_some _ h.0 q h.4 e) h.6)

  -- a basic variable that does not leave stays, and no other than y has come
  pub pivot-kept : (z : ℕ) (q : Line) → get_or s z None ≡ Some q → z ≢ x → (r : Line) × (get_or t z None ≡ Some r)
  pivot-kept z q e n = let h = pivot-put z q e n in (h.0, h.1)

  pub pivot-before : (z : ℕ) → get_or t z None ≡ None → z ≢ x → get_or s z None ≡ None
  pivot-before z e n = none_unless _ (λ q h. let k = pivot-kept z q h n in not_both _ k.0 k.1 e)

  -- what holds of the new row and of each row that it is put into holds of all rows after
  pub pivot-rows : (P : ℕ → Line → Type 0) → P y p.new → ((z : ℕ) (q r : Line) → z ≢ x → get_or s z None ≡ Some q → IsReduced (with_put_in q y p.new) r → P z r)
      → (z : ℕ) (r : Line) → get_or t z None ≡ Some r → P z r
  pivot-rows P own put z r e = by (p.lines z (let h = in_table t z r e in let l = p.length_same in omega arith))
    where
      by : IsNextLine x y p.new z (get_or s z None) (get_or t z None) → P z r
      by (inl h) = absurd (not_both _ r e h.1)
      by (inr (inl h)) = subst (λ k. P k r) (sym h.0) (subst (P y) (both_some _ p.new r h.1 e) own)
      by (inr (inr (inl h))) = absurd (not_both _ r e h.3)
      by (inr (inr (inr h))) = subst (P z) (both_some _ h.1 r h.5 e) (put z h.0 h.1 h.2 h.4 h.6)

  -- another variable is basic after as before
  pub pivot-basic : (b : ℕ) (r : Line) → get_or t b None ≡ Some r → (b ≢ x) × ((b ≡ y) ⊎ ((q : Line) × (get_or s b None ≡ Some q)))
  pivot-basic = pivot-rows (λ b r. (b ≢ x) × ((b ≡ y) ⊎ ((q : Line) × (get_or s b None ≡ Some q)))) ((λ e. pivot-apart (sym e)), inl refl) (λ z q r n e i. (n, inr (q, e)))

  pub pivot-none : (z : ℕ) → z ≢ x → z ≢ y → is_none (get_or t z None) ≡ is_none (get_or s z None)
  pivot-none z nx ny = by (basic_or_not (get_or s z None))
    where
      by : ((q : Line) × (get_or s z None ≡ Some q)) ⊎ (get_or s z None ≡ None) → is_none (get_or t z None) ≡ is_none (get_or s z None)
      by (inl h) = ap is_none (pivot-put z h.0 h.1 nx).1 ∙ ap is_none (sym h.1)
      by (inr h) = ap is_none (pivot-free z h ny ∙ sym h)

  pub pivot-lowest : AreLowest s → AreLowest t
  pivot-lowest w = pivot-rows (λ z r. IsLowest r) p.solved.lowest (λ z q r n e i. i.lowest)

  module _ (w : IsTable s) where
    new-count : length p.new.coefficients ≡ length s
    new-count = reduced-count _ p.new p.solved ∙ solved-count p.row x y ∙ (w x p.row pivot-leaving.0).count

    -- a row has 0 at y, or at what is basic after the pivot
    was-zero : (q : Line) → IsLineOf s q → (b : ℕ) (o : Line) → get_or t b None ≡ Some o → ((b ≡ y) × (y < length q.coefficients)) ⊎ (coefficient_at q b ≡ pos 0)
    was-zero q i b o e = by (pivot-basic b o e).1
      where
        by : (b ≡ y) ⊎ ((r : Line) × (get_or s b None ≡ Some r)) → ((b ≡ y) × (y < length q.coefficients)) ⊎ (coefficient_at q b ≡ pos 0)
        by (inl g) = inl (g, (let a = pivot-entering.1 in let c = i.count in omega arith))
        by (inr g) = inr (i.zeros b g.0 g.1)

    new-zeros : (b : ℕ) (r : Line) → get_or t b None ≡ Some r → coefficient_at p.new b ≡ pos 0
    new-zeros b r e = solved-clear p.row p.new x y b p.solved (pivot-basic b r e).0 (was-zero p.row (w x p.row pivot-leaving.0) b r e)

    new-line : IsLineOf t p.new
    new-line = record { count = new-count ∙ sym p.length_same; positive = p.solved.positive; zeros = new-zeros }

    put_in-count : (q : Line) → length q.coefficients ≡ length s → length (with_put_in q y p.new).coefficients ≡ length s
    put_in-count q l = length-zipped (λ e. e.0 *ℤ p.new.d +ℤ coefficient_at q y *ℤ e.1) (length s) (set q.coefficients y (pos 0)) p.new.coefficients (length-set q.coefficients y (pos 0) ∙ l) new-count

    other-line : (q r : Line) → IsLineOf s q → IsReduced (with_put_in q y p.new) r → IsLineOf t r
    other-line q r i h = record {
      count = reduced-count _ r h ∙ put_in-count q i.count ∙ sym p.length_same;
      positive = h.positive;
      zeros = zeros;
    }
      where
        zeros : (b : ℕ) (o : Line) → get_or t b None ≡ Some o → coefficient_at r b ≡ pos 0
        zeros b o e =
            let l = in_table t b o e in
            let k = p.length_same in
            let c = i.count in
            let d = new-count in
            put_in-clear q p.new r y b h (omega arith) (omega arith) (was-zero q i b o e) (new-zeros b o e)

    pub pivot-table : IsTable t
    pivot-table = pivot-rows (λ z r. IsLineOf t r) new-line (λ z q r n e i. other-line q r (w z q e) i)

    -- a height that no slack has, and that is not basic, stays so
    pub pivot-gone : (columns k : ℕ) → k < columns → columns ≤ x → k ≢ y → k < length s → IsGone columns s k → IsGone columns t k
    pivot-gone columns k lk cx cy ls g z r cz lz e = pivot-rows (λ z r. columns ≤ z → coefficient_at r k ≡ pos 0) (λ c. new-gone) (λ z q o n f h c. other-gone z q o c f h) z r e cz
      where
        new-gone : coefficient_at p.new k ≡ pos 0
        new-gone = solved-clear p.row p.new x y k p.solved (λ h. omega arith) (inr (g x p.row cx pivot-leaving.1 pivot-leaving.0))

        other-gone : (z : ℕ) (q o : Line) → columns ≤ z → get_or s z None ≡ Some q → IsReduced (with_put_in q y p.new) o → coefficient_at o k ≡ pos 0
        other-gone z q o cz f h =
            let a = (w z q f).count in
            let b = new-count in
            put_in-clear q p.new o y k h (omega arith) (omega arith) (inr (g z q cz (in_table s z q f) f)) new-gone

    module _ (one : ℤ) (vs : List ℤ) (l : length vs ≡ length s) where
      in_values : (k : ℕ) → k < length s → k < length vs
      in_values k h = omega arith

      row-holds : (LineHolds one vs x p.row → LineHolds one vs y p.new) × (LineHolds one vs y p.new → LineHolds one vs x p.row)
      row-holds =
          let i = w x p.row pivot-leaving.0 in
          let a = solved_for-holds one vs p.row x y pivot-apart (in_values x pivot-leaving.1) (in_values y pivot-entering.1) (i.count ∙ sym l) (i.zeros x p.row pivot-leaving.0) p.not_zero in
          let b = reduced-holds one vs y _ p.new p.solved in
          ((λ h. b.0 (a.0 h)), (λ h. a.1 (b.1 h)))

      other-holds : (z : ℕ) (q r : Line) → get_or s z None ≡ Some q → IsReduced (with_put_in q y p.new) r → LineHolds one vs y p.new
          → (LineHolds one vs z q → LineHolds one vs z r) × (LineHolds one vs z r → LineHolds one vs z q)
      other-holds z q r e h n =
          let a = with_put_in-holds one vs q p.new z y (in_values y pivot-entering.1) ((w z q e).count ∙ sym l) (new-count ∙ sym l) p.solved.positive n in
          let b = reduced-holds one vs z _ r h in
          ((λ g. b.0 (a.0 g)), (λ g. a.1 (b.1 g)))

      -- where the rows before hold, those after do
      pub pivot-holds : Holds one vs s → Holds one vs t
      pivot-holds all = let n = row-holds.0 (all x p.row pivot-leaving.0) in pivot-rows (LineHolds one vs) n (λ z q r a e h. (other-holds z q r e h n).0 (all z q e))

      -- where the rows after hold, those before do
      pub pivot-held : Holds one vs t → Holds one vs s
      pivot-held all z q e = by (same_or z x)
        where
          n : LineHolds one vs y p.new
          n = all y p.new pivot-new

          by : (z ≡ x) ⊎ (z ≢ x) → LineHolds one vs z q
          by (inl h) =
              let P : ℕ → Type 0 = λ k. LineHolds one vs k q in
              subst P (sym h) (subst (LineHolds one vs x) (both_some _ p.row q pivot-leaving.0 (ap (λ k. get_or s k None) (sym h) ∙ e)) (row-holds.1 n))
          by (inr a) = let h = pivot-put z q e a in (other-holds z q h.0 e h.2 n).1 (all z h.0 h.1)

-- ---- runs
-- what each step keeps is kept by the run
pub run-keeps : (columns : ℕ) (P : Table → Type 0) → ((s t : Table) → IsStepOf columns s t → P s → P t) → (s : Table) (ts : List Table) (t : Table) → IsRun columns s ts t → P s → P t
run-keeps columns P f s [] t h p = subst P h p
run-keeps columns P f s (r ∷ ts) t h p = run-keeps columns P f r ts t h.1 (f s r h.0 p)

pub run-length : (columns : ℕ) (s : Table) (ts : List Table) (t : Table) → IsRun columns s ts t → length t.lines ≡ length s.lines
run-length columns s ts t h = run-keeps columns (λ r. length r.lines ≡ length s.lines) (λ a b k e. k.3.length_same ∙ e) s ts t h refl

pub run-table : (columns : ℕ) (s : Table) (ts : List Table) (t : Table) → IsRun columns s ts t → IsTable s.lines → IsTable t.lines
run-table columns = run-keeps columns (λ r. IsTable r.lines) (λ a b k. pivot-table k.0 k.1 a.lines b.lines k.3)

pub run-holds : (columns : ℕ) (s : Table) (ts : List Table) (t : Table) → IsRun columns s ts t → IsTable s.lines → (one : ℤ) (vs : List ℤ) → length vs ≡ length s.lines → Holds one vs s.lines → Holds one vs t.lines
run-holds columns s [] t h w one vs l g = let P : Table → Type 0 = λ r. Holds one vs r.lines in subst P h g
run-holds columns s (r ∷ ts) t h w one vs l g =
    run-holds columns r ts t h.1 (pivot-table h.0.0 h.0.1 s.lines r.lines h.0.3 w) one vs (l ∙ sym h.0.3.length_same) (pivot-holds h.0.0 h.0.1 s.lines r.lines h.0.3 w one vs l g)

pub run-held : (columns : ℕ) (s : Table) (ts : List Table) (t : Table) → IsRun columns s ts t → IsTable s.lines → (one : ℤ) (vs : List ℤ) → length vs ≡ length s.lines → Holds one vs t.lines → Holds one vs s.lines
run-held columns s [] t h w one vs l g = let P : Table → Type 0 = λ r. Holds one vs r.lines in subst P (sym h) g
run-held columns s (r ∷ ts) t h w one vs l g =
    pivot-held h.0.0 h.0.1 s.lines r.lines h.0.3 w one vs l (run-held columns r ts t h.1 (pivot-table h.0.0 h.0.1 s.lines r.lines h.0.3 w) one vs (l ∙ sym h.0.3.length_same) g)
