use Rattle.std.proofs.Common.{ℤ, ◌≡◌, ◌∙◌, sym, List, to_z-of_z, FitsSigned, get_or, []}
use Rattle.std.specs.Int.{w128}
use Rattle.ntfe_nums.specs.Vectors.{vector, numbers, dot, det4, cofactors}
use Rattle.ntfe_nums.proofs.DetLemmas.{det4-cofactors}
use Rattle.ntfe_nums.proofs.det4.Goals as goal

chain : (a b c d u v w x n : List ℤ) (r : ℤ) → u ≡ numbers (vector a) → v ≡ numbers (vector b) → w ≡ numbers (vector c) → x ≡ numbers (vector d)
    → vector n ≡ cofactors (vector u) (vector v) (vector w) → r ≡ dot (vector n) (vector x) → r ≡ det4 (vector a) (vector b) (vector c) (vector d)
chain a b c d u v w x n r p q s t e f =
    f ∙ (λ i. dot (e i) (vector (t i))) ∙ (λ i. dot (cofactors (vector (p i)) (vector (q i)) (vector (s i))) (vector d))
    ∙ sym (det4-cofactors (vector a) (vector b) (vector c) (vector d))

pub returns : goal.returns
returns c =
    let r = c.args.rows.now in
    let fit : FitsSigned w128 c.dot_wide.result = record { sfits = c.dot_wide.type_inv } in
    to_z-of_z fit
    ∙ chain (get_or r 0 []) (get_or r 1 []) (get_or r 2 []) (get_or r 3 []) c.wide-u.result c.wide-v.result c.wide-w.result c.wide-x.result c.cofactors4-n.result c.dot_wide.result
    c.wide-u.ensures.value c.wide-v.ensures.value c.wide-w.ensures.value c.wide-x.ensures.value c.cofactors4-n.ensures.value c.dot_wide.ensures
