use Rattle.std.proofs.Common.{ℕ, ℤ, ◌≤◌, ◌+◌, ◌∙◌, ◌^◌, List, [], ◌∷◌, refl, sym, subst, arith, w64, pos, get_or, unsigned_abs}
use Rattle.ntfe_nums.specs.Sizes.{AreWithin}
use Rattle.ntfe_nums.proofs.Ring.{Expression, ring}
use Rattle.ntfe_nums.proofs.Ring.Expression.{plus, minus, times, var}
use Rattle.ntfe_nums.proofs.DetLemmas.{det3E}
use Rattle.ntfe_nums.proofs.Machine.{AreBounded, AreWithin-four, value-size, exact, fits}
use Rattle.ntfe_nums.proofs.planes.minor.Goals as goal

abbrev nine : List ℤ → List ℤ → List ℤ → ℕ → ℕ → ℕ → List ℤ
nine u v w i j k =
    get_or u i (pos 0) ∷ get_or u j (pos 0) ∷ get_or u k (pos 0) ∷ get_or v i (pos 0) ∷ get_or v j (pos 0) ∷ get_or v k (pos 0) ∷ get_or w i (pos 0) ∷ get_or w j (pos 0) ∷ get_or w k (pos 0) ∷ []

abbrev bounds : List ℕ
bounds = let m = 2 ^ 11 in m ∷ m ∷ m ∷ m ∷ m ∷ m ∷ m ∷ m ∷ m ∷ []

bounded : (u v w : List ℤ) → AreWithin (2 ^ 11) u → AreWithin (2 ^ 11) v → AreWithin (2 ^ 11) w → (i j k : ℕ) → AreBounded (nine u v w i j k) bounds
bounded u v w a b c i j k =
    let p = AreWithin-four (2 ^ 11) u a in
    let q = AreWithin-four (2 ^ 11) v b in
    let r = AreWithin-four (2 ^ 11) w c in
    (p i, (p j, (p k, (q i, (q j, (q k, (r i, (r j, (r k, tt)))))))))

-- the determinant of two columns of the first two rows, by the numbers of the columns
abbrev two : ℕ → ℕ → Expression
two i j = minus (times (var i) (var (j + 3))) (times (var j) (var (i + 3)))

abbrev term : ℕ → ℕ → ℕ → Expression
term k i j = times (var (k + 6)) (two i j)

abbrev form : Expression
form = plus (minus (term 2 0 1) (term 1 0 2)) (term 0 1 2)

pub overflow_mul-result : goal.overflow_mul-result
overflow_mul-result c = fits w64 (nine c.args.u.now c.args.v.now c.args.w.now c.args.i c.args.j c.args.k) bounds (bounded _ _ _ c.requires.first c.requires.second c.requires.third c.args.i c.args.j c.args.k) (times (var 0) (var 4)) refl

pub overflow_mul-result-2 : goal.overflow_mul-result-2
overflow_mul-result-2 c = fits w64 (nine c.args.u.now c.args.v.now c.args.w.now c.args.i c.args.j c.args.k) bounds (bounded _ _ _ c.requires.first c.requires.second c.requires.third c.args.i c.args.j c.args.k) (times (var 1) (var 3)) refl

pub overflow_sub-result : goal.overflow_sub-result
overflow_sub-result c = fits w64 (nine c.args.u.now c.args.v.now c.args.w.now c.args.i c.args.j c.args.k) bounds (bounded _ _ _ c.requires.first c.requires.second c.requires.third c.args.i c.args.j c.args.k) (two 0 1) refl

pub overflow_mul-result-3 : goal.overflow_mul-result-3
overflow_mul-result-3 c = fits w64 (nine c.args.u.now c.args.v.now c.args.w.now c.args.i c.args.j c.args.k) bounds (bounded _ _ _ c.requires.first c.requires.second c.requires.third c.args.i c.args.j c.args.k) (term 2 0 1) refl

pub overflow_mul-result-4 : goal.overflow_mul-result-4
overflow_mul-result-4 c = fits w64 (nine c.args.u.now c.args.v.now c.args.w.now c.args.i c.args.j c.args.k) bounds (bounded _ _ _ c.requires.first c.requires.second c.requires.third c.args.i c.args.j c.args.k) (times (var 0) (var 5)) refl

pub overflow_mul-result-5 : goal.overflow_mul-result-5
overflow_mul-result-5 c = fits w64 (nine c.args.u.now c.args.v.now c.args.w.now c.args.i c.args.j c.args.k) bounds (bounded _ _ _ c.requires.first c.requires.second c.requires.third c.args.i c.args.j c.args.k) (times (var 2) (var 3)) refl

pub overflow_sub-result-2 : goal.overflow_sub-result-2
overflow_sub-result-2 c = fits w64 (nine c.args.u.now c.args.v.now c.args.w.now c.args.i c.args.j c.args.k) bounds (bounded _ _ _ c.requires.first c.requires.second c.requires.third c.args.i c.args.j c.args.k) (two 0 2) refl

pub overflow_mul-result-6 : goal.overflow_mul-result-6
overflow_mul-result-6 c = fits w64 (nine c.args.u.now c.args.v.now c.args.w.now c.args.i c.args.j c.args.k) bounds (bounded _ _ _ c.requires.first c.requires.second c.requires.third c.args.i c.args.j c.args.k) (term 1 0 2) refl

pub overflow_sub-result-3 : goal.overflow_sub-result-3
overflow_sub-result-3 c = fits w64 (nine c.args.u.now c.args.v.now c.args.w.now c.args.i c.args.j c.args.k) bounds (bounded _ _ _ c.requires.first c.requires.second c.requires.third c.args.i c.args.j c.args.k) (minus (term 2 0 1) (term 1 0 2)) refl

pub overflow_mul-result-7 : goal.overflow_mul-result-7
overflow_mul-result-7 c = fits w64 (nine c.args.u.now c.args.v.now c.args.w.now c.args.i c.args.j c.args.k) bounds (bounded _ _ _ c.requires.first c.requires.second c.requires.third c.args.i c.args.j c.args.k) (times (var 1) (var 5)) refl

pub overflow_mul-result-8 : goal.overflow_mul-result-8
overflow_mul-result-8 c = fits w64 (nine c.args.u.now c.args.v.now c.args.w.now c.args.i c.args.j c.args.k) bounds (bounded _ _ _ c.requires.first c.requires.second c.requires.third c.args.i c.args.j c.args.k) (times (var 2) (var 4)) refl

pub overflow_sub-result-4 : goal.overflow_sub-result-4
overflow_sub-result-4 c = fits w64 (nine c.args.u.now c.args.v.now c.args.w.now c.args.i c.args.j c.args.k) bounds (bounded _ _ _ c.requires.first c.requires.second c.requires.third c.args.i c.args.j c.args.k) (two 1 2) refl

pub overflow_mul-result-9 : goal.overflow_mul-result-9
overflow_mul-result-9 c = fits w64 (nine c.args.u.now c.args.v.now c.args.w.now c.args.i c.args.j c.args.k) bounds (bounded _ _ _ c.requires.first c.requires.second c.requires.third c.args.i c.args.j c.args.k) (term 0 1 2) refl

pub overflow_add-result : goal.overflow_add-result
overflow_add-result c = fits w64 (nine c.args.u.now c.args.v.now c.args.w.now c.args.i c.args.j c.args.k) bounds (bounded _ _ _ c.requires.first c.requires.second c.requires.third c.args.i c.args.j c.args.k) (form) refl

pub returns-clause-value : goal.returns-clause-value
returns-clause-value c =
    exact w64 (nine c.args.u.now c.args.v.now c.args.w.now c.args.i c.args.j c.args.k) bounds (bounded _ _ _ c.requires.first c.requires.second c.requires.third c.args.i c.args.j c.args.k) form refl
    ∙ ring (nine c.args.u.now c.args.v.now c.args.w.now c.args.i c.args.j c.args.k) form (det3E (var 0) (var 1) (var 2) (var 3) (var 4) (var 5) (var 6) (var 7) (var 8)) refl

pub returns-clause-size : goal.returns-clause-size
returns-clause-size c =
    let vs = nine c.args.u.now c.args.v.now c.args.w.now c.args.i c.args.j c.args.k in
    let h = bounded _ _ _ c.requires.first c.requires.second c.requires.third c.args.i c.args.j c.args.k in
    let s = value-size vs bounds form h in
    let P : ℤ → Type 0 = λ z. unsigned_abs z ≤ 2 ^ 36 in
    (subst P (sym (exact w64 vs bounds h form refl)) (omega (arith, s)), tt)
