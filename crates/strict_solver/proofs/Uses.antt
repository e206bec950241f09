-- What a caller needs around a solve.
use Rattle.std.proofs.Common.{◌≡◌, ℕ, zero, suc, ◌+◌, ◌<◌, refl, sym, ap, ◌∙◌, subst, arith, ℤ, pos, ◌+ℤ◌, ◌*ℤ◌, List, [], ◌∷◌, ◌++◌, map, get_or, Some}
use Rattle.std.specs.Prelude.{⊤, slice_get, fold}
use Rattle.std.proofs.lemmas.Int.{ints}
use Rattle.ntfe_nums.proofs.Ring.{ring}
use Rattle.ntfe_nums.proofs.Ring.Expression.{var, plus}
use Rattle.ntfe_model.specs.Certificates.{fold_coefficient, total_coefficient}
use Rattle.ntfe_model.specs.Solver.{fold_row}
use Rattle.ntfe_model.specs.declared.nogood.Fold.{Fold}
use Rattle.ntfe_model.specs.declared.nogood.Term.{Term}
use Rattle.strict_solver.specs.declared.run.Solved.{Solved}
use Rattle.strict_solver.specs.declared.run.Solved.TheVariants.{Feasible, Infeasible, Wide}
use Rattle.strict_solver.specs.Answers.{Answer}
use Rattle.strict_solver.specs.Answers.Answer.{unsolved, feasible, infeasible}
use Rattle.strict_solver.specs.Starts.{IsFoldOver, AreFoldsOver}
use Rattle.strict_solver.specs.Solving.{HasSolved, AreMultipliers, weighted_sum}
use Rattle.std.proofs.lemmas.List.FromFn.{get_or-map-range_with_len}

pub one_more : (n : ℕ) (fs : List Fold) (g : Fold) → AreFoldsOver n fs → IsFoldOver n g → AreFoldsOver n (fs ++ (g ∷ []))
one_more n [] g hs h = record { each = more }
  where
    more : (j : ℕ) (f : Fold) → slice_get (g ∷ []) j ≡ Some f → IsFoldOver n f
    more zero f e = let same : g ≡ f = cc in subst (λ k. IsFoldOver n k) same h
    more (suc zero) f e = cc
    more (suc (suc j)) f e = cc
one_more n (e ∷ fs) g hs h = let rest = one_more n fs g (record { each = λ j f q. hs.each (suc j) f q }) h in record { each = more rest }
  where
    more : AreFoldsOver n (fs ++ (g ∷ [])) → (j : ℕ) (f : Fold) → slice_get (e ∷ (fs ++ (g ∷ []))) j ≡ Some f → IsFoldOver n f
    more rest zero f q = hs.each 0 f q
    more rest (suc j) f q = rest.each j f q

-- after Feasible there are heights
pub has_heights : (columns : ℕ) (rs : List (List ℤ)) (width : ℕ) (s : Solved) (a : Answer) → HasSolved columns rs width s a → s ≡ Feasible → (hs : List ℤ) × (a ≡ feasible hs)
has_heights columns rs width Feasible (feasible hs) h e = (hs, refl)
has_heights columns rs width Feasible unsolved h e = absurd h
has_heights columns rs width Feasible (infeasible ms) h e = absurd h
has_heights columns rs width Infeasible a h e = cc
has_heights columns rs width (Wide step number) a h e = cc

-- after Infeasible there are multipliers
pub has_multipliers : (columns : ℕ) (rs : List (List ℤ)) (width : ℕ) (s : Solved) (a : Answer) → HasSolved columns rs width s a → s ≡ Infeasible → (ms : List (ℕ × ℤ)) × (a ≡ infeasible ms)
has_multipliers columns rs width Infeasible (infeasible ms) h e = (ms, refl)
has_multipliers columns rs width Infeasible unsolved h e = absurd h
has_multipliers columns rs width Infeasible (feasible hs) h e = absurd h
has_multipliers columns rs width Feasible a h e = cc
has_multipliers columns rs width (Wide step number) a h e = cc

-- ---- the terms of a certificate
cell_is : (columns : ℕ) (fs : List Fold) (j : ℕ) (f : Fold) (k : ℕ) → slice_get fs j ≡ Some f → k < columns
    → get_or (get_or (map (fold_row columns) fs) j []) k (pos 0) ≡ fold_coefficient f (1 + k)
cell_is columns [] zero f k e l = cc
cell_is columns [] (suc j) f k e l = cc
cell_is columns (g ∷ fs) zero f k e l = let same : g ≡ f = cc in get_or-map-range_with_len (fold_coefficient g) 1 columns k (1 + k) (pos 0) l refl ∙ ap (λ h. fold_coefficient h (1 + k)) same
cell_is columns (g ∷ fs) (suc j) f k e l = cell_is columns fs j f k e l

-- the terms have the multipliers, and the folds of their rows
abbrev pub AreTermsOf : List Fold → List (ℕ × ℤ) → List Term → Type 0
AreTermsOf fs [] [] = ⊤
AreTermsOf fs [] (t ∷ ts) = ⊥
AreTermsOf fs (e ∷ ms) [] = ⊥
AreTermsOf fs (e ∷ ms) (t ∷ ts) = (t.times ≡ e.1) × (slice_get fs e.0 ≡ Some t.fold) × AreTermsOf fs ms ts

total_from : (columns : ℕ) (fs : List Fold) (k : ℕ) → k < columns → (ms : List (ℕ × ℤ)) (ts : List Term) (z : ℤ) → AreTermsOf fs ms ts
    → fold (λ y t. y +ℤ t.times *ℤ fold_coefficient t.fold (1 + k)) z ts ≡ z +ℤ weighted_sum ms (λ j. get_or (get_or (map (fold_row columns) fs) j []) k (pos 0))
total_from columns fs k l [] [] z h = omega (arith, ints)
total_from columns fs k l [] (t ∷ ts) z h = absurd h
total_from columns fs k l (e ∷ ms) [] z h = absurd h
total_from columns fs k l (e ∷ ms) (t ∷ ts) z h =
    let rest = weighted_sum ms (λ j. get_or (get_or (map (fold_row columns) fs) j []) k (pos 0)) in
    total_from columns fs k l ms ts (z +ℤ t.times *ℤ fold_coefficient t.fold (1 + k)) h.2
    ∙ ring (z ∷ (t.times *ℤ fold_coefficient t.fold (1 + k)) ∷ rest ∷ []) (plus (plus (var 0) (var 1)) (var 2)) (plus (var 0) (plus (var 1) (var 2))) refl
    ∙ (λ i. z +ℤ (h.0 i *ℤ sym (cell_is columns fs e.0 t.fold k h.1 l) i +ℤ rest))

-- such terms cancel at each point
pub terms_cancel : (columns : ℕ) (fs : List Fold) (ms : List (ℕ × ℤ)) (ts : List Term) → AreMultipliers columns (map (fold_row columns) fs) ms → AreTermsOf fs ms ts
    → (k : ℕ) → k < columns → total_coefficient ts (1 + k) ≡ pos 0
terms_cancel columns fs ms ts m h k l = total_from columns fs k l ms ts (pos 0) h ∙ ap (λ z. pos 0 +ℤ z) (m.cancel k l)
