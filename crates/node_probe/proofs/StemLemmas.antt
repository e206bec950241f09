-- Stems of keys.
use Rattle.std.proofs.Common.{◌≡◌, ℕ, ◌+◌, ◌<◌, refl, sym, ap, ◌∙◌, subst, arith, Bool, get_or, set, get_or-set_same, List, [], ◌∷◌, ◌++◌, take, drop, length, length-append, length-set, map, ℤ, Some, Result, Ok, Err, IfOk}
use Rattle.std.specs.Prelude.{All, slice_get}
use Rattle.std.proofs.lemmas.List.{take_at, get_or_append_left}
use Rattle.std.proofs.lemmas.List.Elements.{All-append, All-set}
use Rattle.std.specs.declared.alloc.AllocError.{AllocError}
use Rattle.ntfe_model.specs.declared.nogood.Fold.{Fold}
use Rattle.ntfe_model.specs.Solver.{fold_row}
use Rattle.strict_solver.specs.Solving.{AreMultipliers}
use Rattle.strict_solver.specs.Stems.{StemValue}
use Rattle.strict_solver.specs.declared.stem.Pushed.{Pushed}
use Rattle.strict_solver.specs.declared.stem.Pushed.TheVariants.{Feasible, Infeasible, Unknown}
use Rattle.strict_solver.specs.Pushes.{HasPushed, HasExtended}
use Rattle.strict_solver.proofs.Elimination.{at_place}
use Rattle.strict_solver.proofs.Extending.{no_fold, take_more, cancel_more}
use Rattle.node_probe.specs.Stems.{StemsValue, HasGone, HasFollowed}

take_all : (fs : List Fold) → take (length fs) fs ≡ fs
take_all [] = refl
take_all (f ∷ fs) = ap (λ gs. f ∷ gs) (take_all fs)

-- what a stem that has followed a key says
pub gone_folds : (s : StemsValue) (fs : List Fold) (p : Pushed) → p ≡ Feasible → HasFollowed s fs p → (v : StemValue) × (s.last ≡ Some v) × (v.folds ≡ Some fs)
gone_folds s fs p e h =
    let P : Pushed → Type 0 = λ q. HasFollowed s fs q in
    let g = subst P e h in
    (g.stem, g.is, g.extended ∙ ap Some (take_all fs))

pub gone_multipliers : (s : StemsValue) (n : ℕ) (fs : List Fold) (ms : List (ℕ × ℤ)) (p : Pushed) → s.columns ≡ n → p ≡ Infeasible → HasFollowed s fs p → ((v : StemValue) → s.last ≡ Some v → ms ≡ v.multipliers)
    → AreMultipliers n (map (fold_row n) fs) ms
gone_multipliers s n fs ms p e f h same =
    let P : Pushed → Type 0 = λ q. HasFollowed s fs q in
    let g = subst P f h in
    let Q : ℕ → Type 0 = λ k. AreMultipliers k (map (fold_row k) fs) g.stem.multipliers in
    let R : List (ℕ × ℤ) → Type 0 = λ xs. AreMultipliers n (map (fold_row n) fs) xs in
    subst R (sym (same g.stem g.is)) (subst Q (g.columns ∙ e) g.extended)

-- ---- one more row
pub gone_one : (fs : List Fold) (k : ℕ) (f : Fold) (old new : StemValue) (p : Pushed) → k < length fs → f ≡ get_or fs k no_fold → old.columns ≡ new.columns → old.folds ≡ Some (take k fs) → HasPushed old new f p → HasExtended new fs (k + 1) p
gone_one fs k f old new Feasible l e c o h = h (take k fs) o ∙ ap Some ((λ t. take k fs ++ e t ∷ []) ∙ sym (take_more fs k no_fold l))
gone_one fs k f old new Infeasible l e c o h =
    let P : Fold → Type 0 = λ g. HasPushed old new g Infeasible in
    cancel_more old.columns new.columns fs k no_fold new.multipliers c l (subst P e h (take k fs) o)
gone_one fs k f old new Unknown l e c o h = tt

-- ---- two stems of a list that was cut in two, and lent whole
module _ (a b items : List StemValue) (i len : ℕ) (v w : StemValue) (l : length a + length b ≡ len) where
  whole : take len ((set a i v ++ set b 0 w) ++ drop (length (set a i v ++ set b 0 w)) items) ≡ set a i v ++ set b 0 w
  whole = take_at (set a i v ++ set b 0 w) (drop (length (set a i v ++ set b 0 w)) items) len (let c = length-append (set a i v) (set b 0 w) in let d = length-set a i v in let e = length-set b 0 w in omega arith)

  pub beside_columns : (n : ℕ) → v.columns ≡ n → w.columns ≡ n → All (λ (u : StemValue). u.columns ≡ n) a → All (λ (u : StemValue). u.columns ≡ n) b
      → All (λ (u : StemValue). u.columns ≡ n) (take len ((set a i v ++ set b 0 w) ++ drop (length (set a i v ++ set b 0 w)) items))
  beside_columns n e f g h =
      let P : StemValue → Type 0 = λ u. u.columns ≡ n in
      let Q : List StemValue → Type 0 = λ us. All P us in
      subst Q (sym whole) (All-append P (set a i v) (set b 0 w) (All-set P a i v e g) (All-set P b 0 w f h))

  pub beside_there : i < length a → slice_get (take len ((set a i v ++ set b 0 w) ++ drop (length (set a i v ++ set b 0 w)) items)) i ≡ Some v
  beside_there m =
      ap (λ us. slice_get us i) whole
      ∙ at_place (set a i v ++ set b 0 w) i v v (let c = length-append (set a i v) (set b 0 w) in let d = length-set a i v in omega arith)
      (get_or_append_left (set a i v) (set b 0 w) v i (let d = length-set a i v in omega arith) ∙ get_or-set_same a i v v m)

pub beside_gone : (r : Result (Pushed × Bool) AllocError) (vs : List StemValue) (i : ℕ) (fs : List Fold) (n : ℕ) (v : StemValue) → slice_get vs i ≡ Some v → IfOk r (λ p. HasExtended v fs n p.0) → IfOk r (λ p. HasGone vs i fs n p.0)
beside_gone (Ok p) vs i fs n v e h = record { stem = v; is = e; extended = h }
beside_gone (Err x) vs i fs n v e h = tt
