-- Four independent vectors mix to any other by Cramer's rule, and what the weights of a combination are.
use Rattle.std.proofs.Common.{◌≡◌, refl, sym, ap, ◌∙◌, arith, ℤ, pos, ◌+ℤ◌, ◌*ℤ◌, [], ◌∷◌}
use Rattle.std.proofs.lemmas.Int.{ints}
use Rattle.ntfe_nums.specs.Vectors.{Vector, vector_sum, multiple, dot, det4, cofactors}
use Rattle.ntfe_nums.proofs.Ring.{Expression, ring}
use Rattle.ntfe_nums.proofs.Ring.Expression.{var, num, plus, times}
use Rattle.ntfe_nums.proofs.DetLemmas.{Row, row, dotE, det4E, normalE, of4, det4-cofactors, of5}
use Rattle.ntfe_nums.proofs.Signs.{zero_out}

-- k times a point is l1 a + l2 b + l3 c + l4 d
pub record Weights : Type 0 where
  pub k : ℤ
  pub l1 : ℤ
  pub l2 : ℤ
  pub l3 : ℤ
  pub l4 : ℤ

abbrev pub mixed_sum : ℤ → ℤ → ℤ → ℤ → Vector → Vector → Vector → Vector → Vector
mixed_sum l1 l2 l3 l4 a b c d = vector_sum (multiple l1 a) (vector_sum (multiple l2 b) (vector_sum (multiple l3 c) (multiple l4 d)))

abbrev pub IsMixOf : Weights → Vector → Vector → Vector → Vector → Vector → Type 0
IsMixOf m a b c d p = multiple m.k p ≡ mixed_sum m.l1 m.l2 m.l3 m.l4 a b c d

-- ---- scalar products of combinations

dot_multiple : (u p : Vector) (k : ℤ) → dot u (multiple k p) ≡ k *ℤ dot u p
dot_multiple u p k =
    ring (u.x1 ∷ u.x2 ∷ u.x3 ∷ u.x4 ∷ p.x1 ∷ p.x2 ∷ p.x3 ∷ p.x4 ∷ k ∷ [])
    (dotE (row 0) (record { x1 = times (var 8) (var 4); x2 = times (var 8) (var 5); x3 = times (var 8) (var 6); x4 = times (var 8) (var 7) }))
    (times (var 8) (dotE (row 0) (row 4))) refl

dot_sum : (u p q : Vector) → dot u (vector_sum p q) ≡ dot u p +ℤ dot u q
dot_sum u p q =
    ring (of4 u p q q)
    (dotE (row 0) (record { x1 = plus (var 4) (var 8); x2 = plus (var 5) (var 9); x3 = plus (var 6) (var 10); x4 = plus (var 7) (var 11) }))
    (plus (dotE (row 0) (row 4)) (dotE (row 0) (row 8))) refl

pub dot_mix : (u : Vector) (m : Weights) (a b c d p : Vector) → IsMixOf m a b c d p
    → m.k *ℤ dot u p ≡ m.l1 *ℤ dot u a +ℤ (m.l2 *ℤ dot u b +ℤ (m.l3 *ℤ dot u c +ℤ m.l4 *ℤ dot u d))
dot_mix u m a b c d p e =
    sym (dot_multiple u p m.k) ∙ ap (dot u) e
    ∙ dot_sum u (multiple m.l1 a) (vector_sum (multiple m.l2 b) (vector_sum (multiple m.l3 c) (multiple m.l4 d)))
    ∙ (λ i. dot_multiple u a m.l1 i +ℤ (dot_sum u (multiple m.l2 b) (vector_sum (multiple m.l3 c) (multiple m.l4 d))
    ∙ (λ j. dot_multiple u b m.l2 j +ℤ (dot_sum u (multiple m.l3 c) (multiple m.l4 d) ∙ (λ n. dot_multiple u c m.l3 n +ℤ dot_multiple u d m.l4 n)) j)) i)

-- ---- a vector orthogonal to three

pub orthogonal_first : (a b c : Vector) → dot (cofactors a b c) a ≡ pos 0
unfolding cofactors
orthogonal_first a b c = ring (of4 a b c c) (dotE (normalE (row 0) (row 4) (row 8)) (row 0)) (num (pos 0)) refl

pub orthogonal_second : (a b c : Vector) → dot (cofactors a b c) b ≡ pos 0
unfolding cofactors
orthogonal_second a b c = ring (of4 a b c c) (dotE (normalE (row 0) (row 4) (row 8)) (row 4)) (num (pos 0)) refl

pub orthogonal_third : (a b c : Vector) → dot (cofactors a b c) c ≡ pos 0
unfolding cofactors
orthogonal_third a b c = ring (of4 a b c c) (dotE (normalE (row 0) (row 4) (row 8)) (row 8)) (num (pos 0)) refl

-- ---- the weights of a combination

pub weight1 : (m : Weights) (a b c d p : Vector) → IsMixOf m a b c d p → m.k *ℤ det4 b c d p ≡ m.l1 *ℤ det4 b c d a
weight1 m a b c d p e =
    let u = cofactors b c d in
    ap (λ z. m.k *ℤ z) (det4-cofactors b c d p) ∙ dot_mix u m a b c d p e
    ∙ only (m.l1 *ℤ dot u a) (m.l2 *ℤ dot u b) (m.l3 *ℤ dot u c) (m.l4 *ℤ dot u d) (zero_out m.l2 (dot u b) (orthogonal_first b c d)) (zero_out m.l3 (dot u c) (orthogonal_second b c d)) (zero_out m.l4 (dot u d) (orthogonal_third b c d))
    ∙ ap (λ z. m.l1 *ℤ z) (sym (det4-cofactors b c d a))
  where
    only : (x y z v : ℤ) → y ≡ pos 0 → z ≡ pos 0 → v ≡ pos 0 → x +ℤ (y +ℤ (z +ℤ v)) ≡ x
    only x y z v f g h = omega (arith, ints, f, g, h)

pub weight2 : (m : Weights) (a b c d p : Vector) → IsMixOf m a b c d p → m.k *ℤ det4 a c d p ≡ m.l2 *ℤ det4 a c d b
weight2 m a b c d p e =
    let u = cofactors a c d in
    ap (λ z. m.k *ℤ z) (det4-cofactors a c d p) ∙ dot_mix u m a b c d p e
    ∙ only (m.l1 *ℤ dot u a) (m.l2 *ℤ dot u b) (m.l3 *ℤ dot u c) (m.l4 *ℤ dot u d) (zero_out m.l1 (dot u a) (orthogonal_first a c d)) (zero_out m.l3 (dot u c) (orthogonal_second a c d)) (zero_out m.l4 (dot u d) (orthogonal_third a c d))
    ∙ ap (λ z. m.l2 *ℤ z) (sym (det4-cofactors a c d b))
  where
    only : (x y z v : ℤ) → x ≡ pos 0 → z ≡ pos 0 → v ≡ pos 0 → x +ℤ (y +ℤ (z +ℤ v)) ≡ y
    only x y z v f g h = omega (arith, ints, f, g, h)

pub weight3 : (m : Weights) (a b c d p : Vector) → IsMixOf m a b c d p → m.k *ℤ det4 a b d p ≡ m.l3 *ℤ det4 a b d c
weight3 m a b c d p e =
    let u = cofactors a b d in
    ap (λ z. m.k *ℤ z) (det4-cofactors a b d p) ∙ dot_mix u m a b c d p e
    ∙ only (m.l1 *ℤ dot u a) (m.l2 *ℤ dot u b) (m.l3 *ℤ dot u c) (m.l4 *ℤ dot u d) (zero_out m.l1 (dot u a) (orthogonal_first a b d)) (zero_out m.l2 (dot u b) (orthogonal_second a b d)) (zero_out m.l4 (dot u d) (orthogonal_third a b d))
    ∙ ap (λ z. m.l3 *ℤ z) (sym (det4-cofactors a b d c))
  where
    only : (x y z v : ℤ) → x ≡ pos 0 → y ≡ pos 0 → v ≡ pos 0 → x +ℤ (y +ℤ (z +ℤ v)) ≡ z
    only x y z v f g h = omega (arith, ints, f, g, h)

pub weight4 : (m : Weights) (a b c d p : Vector) → IsMixOf m a b c d p → m.k *ℤ det4 a b c p ≡ m.l4 *ℤ det4 a b c d
weight4 m a b c d p e =
    let u = cofactors a b c in
    ap (λ z. m.k *ℤ z) (det4-cofactors a b c p) ∙ dot_mix u m a b c d p e
    ∙ only (m.l1 *ℤ dot u a) (m.l2 *ℤ dot u b) (m.l3 *ℤ dot u c) (m.l4 *ℤ dot u d) (zero_out m.l1 (dot u a) (orthogonal_first a b c)) (zero_out m.l2 (dot u b) (orthogonal_second a b c)) (zero_out m.l3 (dot u c) (orthogonal_third a b c))
    ∙ ap (λ z. m.l4 *ℤ z) (sym (det4-cofactors a b c d))
  where
    only : (x y z v : ℤ) → x ≡ pos 0 → y ≡ pos 0 → z ≡ pos 0 → x +ℤ (y +ℤ (z +ℤ v)) ≡ v
    only x y z v f g h = omega (arith, ints, f, g, h)

-- ---- Cramer's rule

abbrev cramerE : (Row → Expression) → Expression
cramerE x =
    let A = row 0 in let B = row 4 in let C = row 8 in let D = row 12 in let P = row 16 in
    plus (times (det4E P B C D) (x A)) (plus (times (det4E A P C D) (x B)) (plus (times (det4E A B P D) (x C)) (times (det4E A B C P) (x D))))

abbrev sizedE : (Row → Expression) → Expression
sizedE x = times (det4E (row 0) (row 4) (row 8) (row 12)) (x (row 16))

abbrev pub cramer_weights : Vector → Vector → Vector → Vector → Vector → Weights
cramer_weights a b c d p = record { k = det4 a b c d; l1 = det4 p b c d; l2 = det4 a p c d; l3 = det4 a b p d; l4 = det4 a b c p }

pub cramer : (a b c d p : Vector) → IsMixOf (cramer_weights a b c d p) a b c d p
unfolding det4
cramer a b c d p =
    let e1 = ring (of5 a b c d p) (sizedE (λ r. r.x1)) (cramerE (λ r. r.x1)) refl in
    let e2 = ring (of5 a b c d p) (sizedE (λ r. r.x2)) (cramerE (λ r. r.x2)) refl in
    let e3 = ring (of5 a b c d p) (sizedE (λ r. r.x3)) (cramerE (λ r. r.x3)) refl in
    let e4 = ring (of5 a b c d p) (sizedE (λ r. r.x4)) (cramerE (λ r. r.x4)) refl in
    λ i. record { x1 = e1 i; x2 = e2 i; x3 = e3 i; x4 = e4 i }
