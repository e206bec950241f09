-- The multipliers of a row, one after the other.
use Rattle.std.proofs.Common.{◌≡◌, ℕ, ◌+◌, Bool, true, false, cond, refl, sym, ap, ◌∙◌, arith, ℤ, pos, int_lt, List, [], ◌∷◌, ◌++◌, map, filter}
use Rattle.std.specs.List.{range_with_len}
use Rattle.ntfe_model.specs.Solver.{Line, multiplier_at, multipliers_of}
use Rattle.ntfe_model.proofs.Lists.{range_more}

filter_push : (f : ℕ → ℕ × ℤ) (ks : List ℕ) (k : ℕ)
    → filter (λ e. int_lt (pos 0) e.1) (map f (ks ++ k ∷ [])) ≡ filter (λ e. int_lt (pos 0) e.1) (map f ks) ++ cond (int_lt (pos 0) (f k).1) (f k ∷ []) []
filter_push f [] k = refl
filter_push f (j ∷ ks) k = by (int_lt (pos 0) (f j).1) (filter_push f ks k)
  where
    by : (b : Bool) → filter (λ e. int_lt (pos 0) e.1) (map f (ks ++ k ∷ [])) ≡ filter (λ e. int_lt (pos 0) e.1) (map f ks) ++ cond (int_lt (pos 0) (f k).1) (f k ∷ []) []
        → cond b (f j ∷ filter (λ e. int_lt (pos 0) e.1) (map f (ks ++ k ∷ []))) (filter (λ e. int_lt (pos 0) e.1) (map f (ks ++ k ∷ [])))
        ≡ cond b (f j ∷ filter (λ e. int_lt (pos 0) e.1) (map f ks)) (filter (λ e. int_lt (pos 0) e.1) (map f ks)) ++ cond (int_lt (pos 0) (f k).1) (f k ∷ []) []
    by true e = ap (λ l. f j ∷ l) e
    by false e = e

more : (columns rows x : ℕ) (r : Line) → multipliers_of columns (rows + 1) x r
    ≡ multipliers_of columns rows x r ++ cond (int_lt (pos 0) (multiplier_at columns x r rows)) ((rows, multiplier_at columns x r rows) ∷ []) []
more columns rows x r =
    let f : ℕ → ℕ × ℤ = λ j. (j, multiplier_at columns x r j) in
    ap (λ ks. filter (λ e. int_lt (pos 0) e.1) (map f ks)) (range_more 0 rows)
    ∙ filter_push f (range_with_len 0 rows) (0 + rows)
    ∙ ap (λ k. multipliers_of columns rows x r ++ cond (int_lt (pos 0) (f k).1) (f k ∷ []) []) (let e : 0 + rows ≡ rows = omega arith in e)

pub more_kept : (columns rows x : ℕ) (r : Line) (z : ℤ) → z ≡ multiplier_at columns x r rows → int_lt (pos 0) z ≡ true → multipliers_of columns (rows + 1) x r ≡ multipliers_of columns rows x r ++ (rows, z) ∷ []
more_kept columns rows x r z e t =
    more columns rows x r
    ∙ ap (λ k. multipliers_of columns rows x r ++ cond (int_lt (pos 0) k) ((rows, k) ∷ []) []) (sym e)
    ∙ ap (λ b. multipliers_of columns rows x r ++ cond b ((rows, z) ∷ []) []) t

pub more_left : (columns rows x : ℕ) (r : Line) (z : ℤ) → z ≡ multiplier_at columns x r rows → int_lt (pos 0) z ≡ false → multipliers_of columns (rows + 1) x r ≡ multipliers_of columns rows x r
more_left columns rows x r z e t =
    more columns rows x r
    ∙ ap (λ k. multipliers_of columns rows x r ++ cond (int_lt (pos 0) k) ((rows, k) ∷ []) []) (sym e)
    ∙ ap (λ b. multipliers_of columns rows x r ++ cond b ((rows, z) ∷ []) []) t
    ∙ nothing (multipliers_of columns rows x r)
  where
    nothing : (l : List (ℕ × ℤ)) → l ++ [] ≡ l
    nothing [] = refl
    nothing (e ∷ l) = ap (λ k. e ∷ k) (nothing l)
