use Rattle.std.proofs.Common.{ℤ, pos, ◌≡◌, ◌≤◌, ◌^◌, ◌∙◌, ap, sym, subst, arith, refl, List, [], ◌∷◌, neg_ℤ, unsigned_abs}
use Rattle.std.proofs.lemmas.Int.{ints}
use Rattle.std.specs.Int.{w128}
use Rattle.ntfe_nums.specs.Vectors.{vector, numbers, dot, difference, cofactors}
use Rattle.ntfe_nums.proofs.Ring.{Expression}
use Rattle.ntfe_nums.proofs.Ring.Expression.{var, num, minus}
use Rattle.ntfe_nums.proofs.Machine.{exact, fits}
use Rattle.ntfe_nums.proofs.LevelLemmas.{level_size}
use Rattle.ntfe_nums.proofs.SideLemmas.{side_is}
use Rattle.ntfe_nums.proofs.normal4.Goals as goal
use Rattle.ntfe_nums.proofs.Signs.{zero_minus}

abbrev negated : Expression
negated = minus (num (pos 0)) (var 0)

small_neg : (z w : ℤ) → w ≡ neg_ℤ z → unsigned_abs z ≤ 2 ^ 90 → unsigned_abs w ≤ 2 ^ 90
small_neg z w e h = let P : ℤ → Type 0 = λ y. unsigned_abs y ≤ 2 ^ 90 in subst P (sym e) (omega (arith, ints, h))

pub returns-clause-level : goal.returns-clause-level
returns-clause-level c =
    let s = level_size c.cofactors4-n.result c.wide-at.result c.dot_wide-level.result c.cofactors4-n.ensures.large c.wide-at.ensures.small c.dot_wide-level.ensures in
    (small_neg c.dot_wide-level.result _ (exact w128 (c.dot_wide-level.result ∷ []) (2 ^ 90 ∷ []) (s, tt) negated refl ∙ zero_minus c.dot_wide-level.result) s, tt)

pub overflow_sub-result : goal.overflow_sub-result
overflow_sub-result c =
    let s = level_size c.cofactors4-n.result c.wide-at.result c.dot_wide-level.result c.cofactors4-n.ensures.large c.wide-at.ensures.small c.dot_wide-level.ensures in
    fits w128 (c.dot_wide-level.result ∷ []) (2 ^ 90 ∷ []) (s, tt) negated refl

pub returns-clause-constant : goal.returns-clause-constant
returns-clause-constant c =
    let s = level_size c.cofactors4-n.result c.wide-at.result c.dot_wide-level.result c.cofactors4-n.ensures.large c.wide-at.ensures.small c.dot_wide-level.ensures in
    exact w128 (c.dot_wide-level.result ∷ []) (2 ^ 90 ∷ []) (s, tt) negated refl
    ∙ zero_minus c.dot_wide-level.result
    ∙ ap neg_ℤ (c.dot_wide-level.ensures ∙ (λ i. dot (vector c.cofactors4-n.result) (vector (c.wide-at.ensures.value i))))

chain : (a b c d u v w n : List ℤ) → u ≡ numbers (difference (vector b) (vector a)) → v ≡ numbers (difference (vector c) (vector a)) → w ≡ numbers (difference (vector d) (vector a))
    → vector n ≡ cofactors (vector u) (vector v) (vector w) → vector n ≡ cofactors (difference (vector b) (vector a)) (difference (vector c) (vector a)) (difference (vector d) (vector a))
chain a b c d u v w n p q s e = e ∙ (λ i. cofactors (vector (p i)) (vector (q i)) (vector (s i)))

pub returns-clause-normal : goal.returns-clause-normal
returns-clause-normal c =
    chain c.args.a.now c.args.b.now c.args.c.now c.args.d.now c.wide_difference-u.result c.wide_difference-v.result c.wide_difference-w.result c.cofactors4-n.result
    c.wide_difference-u.ensures.value c.wide_difference-v.ensures.value c.wide_difference-w.ensures.value c.cofactors4-n.ensures.value

pub returns-clause-plane : goal.returns-clause-plane
returns-clause-plane c = λ x. side_is (vector c.args.a.now) (vector c.args.b.now) (vector c.args.c.now) (vector c.args.d.now) x _ _ (returns-clause-normal c) (returns-clause-constant c)

pub returns-clause-independent : goal.returns-clause-independent
returns-clause-independent c = let e = returns-clause-normal c in (λ n z. n (e ∙ z), λ n z. n (sym e ∙ z))
