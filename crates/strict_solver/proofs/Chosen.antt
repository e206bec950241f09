-- What the run without the last row chooses, the run with it chooses too, but for the last slack.
--     next_follows       the next load is the same, or it is that of the last slack
--     moving_follows     the next move is the same, or only the last slack is negative
use Rattle.std.proofs.Common.{◌≡◌, ◌≢◌, ℕ, zero, suc, ◌+◌, ◌<◌, ◌≤◌, ◌⊎◌, inl, inr, Bool, true, false, cond, not, ◌&&◌, refl, sym, ap, ◌∙◌, arith, pos, List, [], ◌∷◌, length, get_or, Some, None, Option}
use Rattle.std.specs.Prelude.{find, nat_le, int_lt, is_none}
use Rattle.std.specs.Option.{option_map_or, option_and_then}
use Rattle.std.specs.Ordering.{int_eq}
use Rattle.std.specs.List.{range_with_len}
use Rattle.ntfe_nums.proofs.Comparisons.{not_le}
use Rattle.std.proofs.lemmas.List.{get_or_past}
use Rattle.ntfe_model.specs.Solver.{Line, coefficient_at, first_slack, next_load, first_negative, first_entering, moving}
use Rattle.ntfe_model.specs.Solver.Move.{pivot, feasible, infeasible}
use Rattle.strict_solver.specs.Continuing.{wider, wider_line}
use Rattle.strict_solver.proofs.Moves.{IsGone, first_slack-found, no_first_slack, int_eq-zero, int_eq-some, no_test, no_third}
use Rattle.strict_solver.proofs.Pivots.{IsTable}
use Rattle.strict_solver.proofs.Wider.{zero_after, wider_none}
use Rattle.strict_solver.proofs.Following.{Follows}
use Rattle.strict_solver.proofs.Entries.{basic_or_not, not_both, both_some, none_of}

-- ---- searches of one number more
find-more : (f g : ℕ → Bool) (a n : ℕ) → ((j : ℕ) → a ≤ j → j < a + n → g j ≡ f j) → (x : ℕ) → find f (range_with_len a n) ≡ Some x → find g (range_with_len a (suc n)) ≡ Some x
find-more f g a zero h x e = cc
find-more f g a (suc n) h x e = by (f a) refl e (find-more f g (a + 1) n (λ j c l. h j (omega arith) (omega arith)) x)
  where
    here : g a ≡ f a
    here = h a (omega arith) (omega arith)

    by : (b : Bool) → f a ≡ b → cond b (Some a) (find f (range_with_len (a + 1) n)) ≡ Some x → (find f (range_with_len (a + 1) n) ≡ Some x → find g (range_with_len (a + 1) (suc n)) ≡ Some x)
        → cond (g a) (Some a) (find g (range_with_len (a + 1) (suc n))) ≡ Some x
    by true t e rest = ap (λ b. cond b (Some a) (find g (range_with_len (a + 1) (suc n)))) (here ∙ t) ∙ e
    by false t e rest = ap (λ b. cond b (Some a) (find g (range_with_len (a + 1) (suc n)))) (here ∙ t) ∙ rest e

find-last : (f g : ℕ → Bool) (a n : ℕ) → ((j : ℕ) → a ≤ j → j < a + n → g j ≡ f j) → find f (range_with_len a n) ≡ None → find g (range_with_len a (suc n)) ≡ cond (g (a + n)) (Some (a + n)) None
find-last f g a zero h e = ap (λ k. cond (g k) (Some k) None) (let i : a ≡ a + 0 = omega arith in i)
find-last f g a (suc n) h e = by (f a) refl e (find-last f g (a + 1) n (λ j c l. h j (omega arith) (omega arith)))
  where
    here : g a ≡ f a
    here = h a (omega arith) (omega arith)

    by : (b : Bool) → f a ≡ b → cond b (Some a) (find f (range_with_len (a + 1) n)) ≡ None
        → (find f (range_with_len (a + 1) n) ≡ None → find g (range_with_len (a + 1) (suc n)) ≡ cond (g (a + 1 + n)) (Some (a + 1 + n)) None)
        → cond (g a) (Some a) (find g (range_with_len (a + 1) (suc n))) ≡ cond (g (a + suc n)) (Some (a + suc n)) None
    by true t e rest = cc
    by false t e rest =
        ap (λ b. cond b (Some a) (find g (range_with_len (a + 1) (suc n)))) (here ∙ t) ∙ rest e
        ∙ ap (λ k. cond (g k) (Some k) None) (let i : a + 1 + n ≡ a + suc n = omega arith in i)

module _ (columns : ℕ) (s u : List (Option Line)) (e : ℕ) (w : IsTable s) (cs : columns ≤ length s) (f : Follows columns s u e) where
  pub last_or : (e ≢ length s) → get_or u (length s) None ≡ None
  last_or n = none_of _ (f.basics (length s) (λ i. n (sym i)) ∙ ap is_none (get_or_past s (length s) None (omega arith)))

  at_last : (r : Line) → get_or u (length s) None ≡ Some r → e ≡ length s
  at_last r h = by f.place
    where
      by : (e ≡ length s) ⊎ ((e < columns) × IsGone columns s e) → e ≡ length s
      by (inl i) = i
      by (inr i) = absurd (not_both _ r h (last_or (λ j. (let a = i.0 in omega arith))))

  module _ (test : Line → Bool) (h : (r : Line) → test (wider r) ≡ test r) where
    test_same : (j : ℕ) → j < length s → (nat_le columns j && option_map_or test (get_or u j None) false) ≡ (nat_le columns j && option_map_or test (get_or s j None) false)
    test_same j l = by (let c : (columns ≤ j) ⊎ (j < columns) = grind arith in c)
      where
        on : (o : Option Line) → option_map_or test (wider_line o) false ≡ option_map_or test o false
        on None = refl
        on (Some r) = h r

        by : (columns ≤ j) ⊎ (j < columns) → (nat_le columns j && option_map_or test (get_or u j None) false) ≡ (nat_le columns j && option_map_or test (get_or s j None) false)
        by (inl c) = ap (λ o. nat_le columns j && option_map_or test o false) (f.slacks j c l) ∙ ap (λ b. nat_le columns j && b) (on (get_or s j None))
        by (inr c) =
            let i = not_le columns j c in
            ap (λ b. b && option_map_or test (get_or u j None) false) i ∙ sym (ap (λ b. b && option_map_or test (get_or s j None) false) i)

    pub first-same : (x : ℕ) → first_slack columns test s ≡ Some x → first_slack columns test u ≡ Some x
    first-same x i =
        ap (λ n. find (λ k. nat_le columns k && option_map_or test (get_or u k None) false) (range_with_len 0 n)) f.longer
        ∙ find-more (λ k. nat_le columns k && option_map_or test (get_or s k None) false) (λ k. nat_le columns k && option_map_or test (get_or u k None) false) 0 (length s) (λ j c l. test_same j (omega arith)) x i

    pub first-none : first_slack columns test s ≡ None → (first_slack columns test u ≡ None) ⊎ ((e ≡ length s) × (first_slack columns test u ≡ Some (length s)))
    first-none i = by (basic_or_not (get_or u (length s) None))
      where
        found : first_slack columns test u ≡ cond (nat_le columns (length s) && option_map_or test (get_or u (length s) None) false) (Some (length s)) None
        found =
            ap (λ n. find (λ k. nat_le columns k && option_map_or test (get_or u k None) false) (range_with_len 0 n)) f.longer
            ∙ find-last (λ k. nat_le columns k && option_map_or test (get_or s k None) false) (λ k. nat_le columns k && option_map_or test (get_or u k None) false) 0 (length s) (λ j c l. test_same j (omega arith)) i
            ∙ ap (λ n. cond (nat_le columns n && option_map_or test (get_or u n None) false) (Some n) None) (let a : 0 + length s ≡ length s = omega arith in a)

        by : ((r : Line) × (get_or u (length s) None ≡ Some r)) ⊎ (get_or u (length s) None ≡ None) → (first_slack columns test u ≡ None) ⊎ ((e ≡ length s) × (first_slack columns test u ≡ Some (length s)))
        by (inr g) = inl (found ∙ ap (λ o. cond (nat_le columns (length s) && option_map_or test o false) (Some (length s)) None) g ∙ ap (λ b. cond b (Some (length s)) None) (no_test (nat_le columns (length s))))
        by (inl g) = on (nat_le columns (length s) && option_map_or test (get_or u (length s) None) false) refl
          where
            on : (b : Bool) → (nat_le columns (length s) && option_map_or test (get_or u (length s) None) false) ≡ b → (first_slack columns test u ≡ None) ⊎ ((e ≡ length s) × (first_slack columns test u ≡ Some (length s)))
            on true t = inr (at_last g.0 g.1, found ∙ ap (λ b. cond b (Some (length s)) None) t)
            on false t = inl (found ∙ ap (λ b. cond b (Some (length s)) None) t)

  -- ---- loads
  -- the last slack is to be loaded next, on a height that no other slack has
  pub record IsLastLoad (ks : List ℕ) : Type 0 where
    pub last : e ≡ length s
    pub k : ℕ
    pub rest : List ℕ
    pub next : next_load columns u ks ≡ Some (length s, k, rest)
    pub skipped : next_load columns s rest ≡ next_load columns s ks
    pub gone : IsGone columns s k
    pub some : coefficient_at f.line k ≢ pos 0

  pub next_follows : (ks : List ℕ) → (next_load columns u ks ≡ next_load columns s ks) ⊎ IsLastLoad ks
  next_follows [] = inl refl
  next_follows (k ∷ ks) = by (first_slack columns (λ r. not (int_eq (coefficient_at r k) (pos 0))) s) refl (next_follows ks)
    where
      same : (r : Line) → not (int_eq (coefficient_at (wider r) k) (pos 0)) ≡ not (int_eq (coefficient_at r k) (pos 0))
      same r = ap (λ z. not (int_eq z (pos 0))) (zero_after r.coefficients k)

      step : (v : List (Option Line)) (o : Option ℕ) → first_slack columns (λ r. not (int_eq (coefficient_at r k) (pos 0))) v ≡ o → next_load columns v (k ∷ ks) ≡ option_map_or (λ x. Some (x, k, ks)) o (next_load columns v ks)
      step v o e = ap (λ o. option_map_or (λ x. Some (x, k, ks)) o (next_load columns v ks)) e

      by : (o : Option ℕ) → first_slack columns (λ r. not (int_eq (coefficient_at r k) (pos 0))) s ≡ o → (next_load columns u ks ≡ next_load columns s ks) ⊎ IsLastLoad ks
          → (next_load columns u (k ∷ ks) ≡ next_load columns s (k ∷ ks)) ⊎ IsLastLoad (k ∷ ks)
      by (Some x) g rest = inl (step u (Some x) (first-same (λ r. not (int_eq (coefficient_at r k) (pos 0))) same x g) ∙ sym (step s (Some x) g))
      by None g rest = on (first-none (λ r. not (int_eq (coefficient_at r k) (pos 0))) same g) rest
        where
          on : (first_slack columns (λ r. not (int_eq (coefficient_at r k) (pos 0))) u ≡ None) ⊎ ((e ≡ length s) × (first_slack columns (λ r. not (int_eq (coefficient_at r k) (pos 0))) u ≡ Some (length s)))
              → (next_load columns u ks ≡ next_load columns s ks) ⊎ IsLastLoad ks → (next_load columns u (k ∷ ks) ≡ next_load columns s (k ∷ ks)) ⊎ IsLastLoad (k ∷ ks)
          on (inl a) (inl r) = inl (step u None a ∙ r ∙ sym (step s None g))
          on (inl a) (inr r) = inr (record { last = r.last; k = r.k; rest = r.rest; next = step u None a ∙ r.next; skipped = r.skipped ∙ sym (step s None g); gone = r.gone; some = r.some })
          on (inr a) r =
              let q = first_slack-found columns (λ r. not (int_eq (coefficient_at r k) (pos 0))) u (length s) a.1 in
              let row : q.row ≡ f.line = both_some _ q.row f.line q.is (ap (λ z. get_or u z None) (sym a.0) ∙ f.extra) in
              inr (record {
                last = a.0;
                k = k;
                rest = ks;
                next = step u (Some (length s)) a.1;
                skipped = sym (step s None g);
                gone = λ z r c l is. int_eq-zero _ (no_first_slack columns _ s g z r c l is);
                some = λ i. int_eq-some _ q.passes (ap (λ r. coefficient_at r k) row ∙ i);
              })

  -- ---- moves
  module _ (x : ℕ) (row : Line) (cx : columns ≤ x) (lx : x < length s) (is : get_or s x None ≡ Some row) where
    can_same : (j : ℕ) → j < length s → (nat_le columns j && is_none (get_or u j None) && int_lt (pos 0) (coefficient_at (wider row) j)) ≡ (nat_le columns j && is_none (get_or s j None) && int_lt (pos 0) (coefficient_at row j))
    can_same j l = by (let c : (columns ≤ j) ⊎ (j < columns) = grind arith in c)
      where
        by : (columns ≤ j) ⊎ (j < columns) → (nat_le columns j && is_none (get_or u j None) && int_lt (pos 0) (coefficient_at (wider row) j)) ≡ (nat_le columns j && is_none (get_or s j None) && int_lt (pos 0) (coefficient_at row j))
        by (inl c) = λ i. nat_le columns j && (ap is_none (f.slacks j c l) ∙ wider_none (get_or s j None)) i && int_lt (pos 0) (zero_after row.coefficients j i)
        by (inr c) =
            let i = not_le columns j c in
            ap (λ b. b && is_none (get_or u j None) && int_lt (pos 0) (coefficient_at (wider row) j)) i
            ∙ sym (ap (λ b. b && is_none (get_or s j None) && int_lt (pos 0) (coefficient_at row j)) i)

    pub entering_same : first_entering columns u x ≡ first_entering columns s x
    entering_same =
        ap (option_and_then (λ r. find (λ y. nat_le columns y && is_none (get_or u y None) && int_lt (pos 0) (coefficient_at r y)) (range_with_len 0 (length u)))) (f.slacks x cx lx ∙ ap wider_line is)
        ∙ ap (λ n. find (λ y. nat_le columns y && is_none (get_or u y None) && int_lt (pos 0) (coefficient_at (wider row) y)) (range_with_len 0 n)) f.longer
        ∙ by (find (λ y. nat_le columns y && is_none (get_or s y None) && int_lt (pos 0) (coefficient_at row y)) (range_with_len 0 (length s))) refl
        ∙ sym (ap (option_and_then (λ r. find (λ y. nat_le columns y && is_none (get_or s y None) && int_lt (pos 0) (coefficient_at r y)) (range_with_len 0 (length s)))) is)
      where
        zero_last : coefficient_at (wider row) (0 + length s) ≡ pos 0
        zero_last = zero_after row.coefficients (0 + length s) ∙ get_or_past row.coefficients (0 + length s) (pos 0) (let a = (w x row is).count in omega arith)

        by : (o : Option ℕ) → find (λ y. nat_le columns y && is_none (get_or s y None) && int_lt (pos 0) (coefficient_at row y)) (range_with_len 0 (length s)) ≡ o
            → find (λ y. nat_le columns y && is_none (get_or u y None) && int_lt (pos 0) (coefficient_at (wider row) y)) (range_with_len 0 (suc (length s)))
            ≡ find (λ y. nat_le columns y && is_none (get_or s y None) && int_lt (pos 0) (coefficient_at row y)) (range_with_len 0 (length s))
        by (Some y) g =
            find-more (λ y. nat_le columns y && is_none (get_or s y None) && int_lt (pos 0) (coefficient_at row y)) (λ y. nat_le columns y && is_none (get_or u y None) && int_lt (pos 0) (coefficient_at (wider row) y)) 0 (length s) (λ j c l. can_same j (omega arith)) y g
            ∙ sym g
        by None g =
            find-last (λ y. nat_le columns y && is_none (get_or s y None) && int_lt (pos 0) (coefficient_at row y)) (λ y. nat_le columns y && is_none (get_or u y None) && int_lt (pos 0) (coefficient_at (wider row) y)) 0 (length s) (λ j c l. can_same j (omega arith)) g
            ∙ ap (λ b. cond b (Some (0 + length s)) None) (ap (λ z. nat_le columns (0 + length s) && is_none (get_or u (0 + length s) None) && int_lt (pos 0) z) zero_last ∙ no_third (nat_le columns (0 + length s)) (is_none (get_or u (0 + length s) None)))
            ∙ sym g

  pub moving_follows : (moving columns u ≡ moving columns s) ⊎ ((e ≡ length s) × (moving columns s ≡ feasible))
  moving_follows = by (first_negative columns s) refl
    where
      by : (o : Option ℕ) → first_negative columns s ≡ o → (moving columns u ≡ moving columns s) ⊎ ((e ≡ length s) × (moving columns s ≡ feasible))
      by (Some x) g =
          let q = first_slack-found columns (λ r. int_lt r.c (pos 0)) s x g in
          inl (
          ap (λ o. option_map_or (λ x. option_map_or (λ y. pivot x y []) (first_entering columns u x) (infeasible x)) o feasible) (first-same (λ r. int_lt r.c (pos 0)) (λ r. refl) x g)
          ∙ ap (λ o. option_map_or (λ y. pivot x y []) o (infeasible x)) (entering_same x q.row q.slack q.below q.is)
          ∙ sym (ap (λ o. option_map_or (λ x. option_map_or (λ y. pivot x y []) (first_entering columns s x) (infeasible x)) o feasible) g)
          )
      by None g = on (first-none (λ r. int_lt r.c (pos 0)) (λ r. refl) g)
        where
          none_s : moving columns s ≡ feasible
          none_s = ap (λ o. option_map_or (λ x. option_map_or (λ y. pivot x y []) (first_entering columns s x) (infeasible x)) o feasible) g

          on : (first_negative columns u ≡ None) ⊎ ((e ≡ length s) × (first_negative columns u ≡ Some (length s))) → (moving columns u ≡ moving columns s) ⊎ ((e ≡ length s) × (moving columns s ≡ feasible))
          on (inl a) = inl (ap (λ o. option_map_or (λ x. option_map_or (λ y. pivot x y []) (first_entering columns u x) (infeasible x)) o feasible) a ∙ sym none_s)
          on (inr a) = inr (a.0, none_s)
