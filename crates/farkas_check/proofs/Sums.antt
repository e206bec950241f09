-- The value of a sum of folds at heights, point by point and term by term.
--     total_value      the value of the sum of the terms is the sum of the terms' values
use Rattle.std.proofs.Common.{◌≡◌, ℕ, zero, suc, ◌+◌, ◌-◌, ◌<◌, ◌≤◌, refl, ap, ◌∙◌, arith, ℤ, pos, ◌+ℤ◌, ◌-ℤ◌, ◌*ℤ◌, List, [], ◌∷◌, length, get_or}
use Rattle.std.specs.Prelude.{fold}
use Rattle.std.proofs.lemmas.Int.{ints}
use Rattle.ntfe_nums.proofs.Ring.{ring}
use Rattle.ntfe_nums.proofs.Ring.Expression.{var, plus, minus, times}
use Rattle.ntfe_model.specs.Choices.{height, fold_value}
use Rattle.ntfe_model.specs.Certificates.{where_equal, fold_coefficient, total_coefficient}
use Rattle.ntfe_model.specs.declared.nogood.Fold.{Fold}
use Rattle.ntfe_model.specs.declared.nogood.Term.{Term}
use Rattle.ntfe_model.proofs.Coefficients.{equal_there, equal_elsewhere}

-- the form with coefficient f k at the point k, where the first of the heights is that of point k
abbrev pub value : List ℤ → ℕ → (ℕ → ℤ) → ℤ
value [] k f = pos 0
value (z ∷ w) k f = f k *ℤ z +ℤ value w (suc k) f

value_sum : (w : List ℤ) (k : ℕ) (f g : ℕ → ℤ) → value w k (λ j. f j +ℤ g j) ≡ value w k f +ℤ value w k g
value_sum [] k f g = refl
value_sum (z ∷ w) k f g =
    (λ i. (f k +ℤ g k) *ℤ z +ℤ value_sum w (suc k) f g i)
    ∙ ring (f k ∷ g k ∷ z ∷ value w (suc k) f ∷ value w (suc k) g ∷ [])
    (plus (times (plus (var 0) (var 1)) (var 2)) (plus (var 3) (var 4))) (plus (plus (times (var 0) (var 2)) (var 3)) (plus (times (var 1) (var 2)) (var 4))) refl

value_difference : (w : List ℤ) (k : ℕ) (f g : ℕ → ℤ) → value w k (λ j. f j -ℤ g j) ≡ value w k f -ℤ value w k g
value_difference [] k f g = refl
value_difference (z ∷ w) k f g =
    (λ i. (f k -ℤ g k) *ℤ z +ℤ value_difference w (suc k) f g i)
    ∙ ring (f k ∷ g k ∷ z ∷ value w (suc k) f ∷ value w (suc k) g ∷ [])
    (plus (times (minus (var 0) (var 1)) (var 2)) (minus (var 3) (var 4))) (minus (plus (times (var 0) (var 2)) (var 3)) (plus (times (var 1) (var 2)) (var 4))) refl

value_multiple : (w : List ℤ) (k : ℕ) (m : ℤ) (f : ℕ → ℤ) → value w k (λ j. m *ℤ f j) ≡ m *ℤ value w k f
value_multiple [] k m f = let e : pos 0 ≡ m *ℤ pos 0 = omega (arith, ints) in e
value_multiple (z ∷ w) k m f =
    (λ i. (m *ℤ f k) *ℤ z +ℤ value_multiple w (suc k) m f i)
    ∙ ring (f k ∷ m ∷ z ∷ value w (suc k) f ∷ [])
    (plus (times (times (var 1) (var 0)) (var 2)) (times (var 1) (var 3))) (times (var 1) (plus (times (var 0) (var 2)) (var 3))) refl

pub value_zero : (w : List ℤ) (k : ℕ) (f : ℕ → ℤ) → ((j : ℕ) → k ≤ j → j < k + length w → f j ≡ pos 0) → value w k f ≡ pos 0
value_zero [] k f h = refl
value_zero (z ∷ w) k f h =
    let e = h k (omega arith) (omega arith) in
    let r = value_zero w (suc k) f (λ j l m. h j (omega arith) (omega arith)) in
    (λ i. e i *ℤ z +ℤ r i) ∙ nothing z
  where
    nothing : (y : ℤ) → pos 0 *ℤ y +ℤ pos 0 ≡ pos 0
    nothing y = omega (arith, ints)

-- ---- one point

value_at : (w : List ℤ) (k i : ℕ) (z : ℤ) → value w k (λ j. where_equal (k + i) j z) ≡ z *ℤ get_or w i (pos 0)
value_at [] k i z = let e : pos 0 ≡ z *ℤ pos 0 = omega (arith, ints) in e
value_at (y ∷ w) k zero z =
    let e : where_equal (k + 0) k z ≡ z = (let s : k + 0 ≡ k = omega arith in ap (λ m. where_equal m k z) s ∙ equal_there k z) in
    let r = value_zero w (suc k) (λ j. where_equal (k + 0) j z) (λ j l m. equal_elsewhere (k + 0) j z (λ q. absurd (omega (arith, l, q)))) in
    (λ i. e i *ℤ y +ℤ r i) ∙ last (z *ℤ y)
  where
    last : (x : ℤ) → x +ℤ pos 0 ≡ x
    last x = omega (arith, ints)
value_at (y ∷ w) k (suc i) z =
    let e = equal_elsewhere (k + suc i) k z (λ q. absurd (omega (arith, q))) in
    let s : k + suc i ≡ suc k + i = omega arith in
    let r = ap (λ m. value w (suc k) (λ j. where_equal m j z)) s ∙ value_at w (suc k) i z in
    (λ t. e t *ℤ y +ℤ r t) ∙ first y (z *ℤ get_or w i (pos 0))
  where
    first : (x v : ℤ) → pos 0 *ℤ x +ℤ v ≡ v
    first x v = omega (arith, ints)

value_point : (w : List ℤ) (p : ℕ) (z : ℤ) → 1 ≤ p → value w 1 (λ j. where_equal p j z) ≡ z *ℤ height w p
value_point w p z l = let s : p ≡ 1 + (p - 1) = omega arith in ap (λ m. value w 1 (λ j. where_equal m j z)) s ∙ value_at w 1 (p - 1) z

-- ---- one fold

pub record HasPoints (r : Fold) : Type 0 where
  pub a : 1 ≤ r.a
  pub b : 1 ≤ r.b
  pub c : 1 ≤ r.c
  pub d : 1 ≤ r.d

pub fold_is_value : (w : List ℤ) (r : Fold) → HasPoints r → value w 1 (fold_coefficient r) ≡ fold_value w r
fold_is_value w r h =
    let A = λ (j : ℕ). where_equal r.a j r.alpha in
    let B = λ (j : ℕ). where_equal r.b j r.beta in
    let C = λ (j : ℕ). where_equal r.c j (pos 1) in
    let D = λ (j : ℕ). where_equal r.d j (pos 1) in
    value_difference w 1 (λ j. C j +ℤ D j -ℤ A j) B
    ∙ ap (λ x. x -ℤ value w 1 B) (value_difference w 1 (λ j. C j +ℤ D j) A ∙ ap (λ x. x -ℤ value w 1 A) (value_sum w 1 C D))
    ∙ (λ i. value_point w r.c (pos 1) h.c i +ℤ value_point w r.d (pos 1) h.d i -ℤ value_point w r.a r.alpha h.a i -ℤ value_point w r.b r.beta h.b i)
    ∙ ones (height w r.c) (height w r.d) (r.alpha *ℤ height w r.a) (r.beta *ℤ height w r.b)
  where
    ones : (c d a b : ℤ) → pos 1 *ℤ c +ℤ pos 1 *ℤ d -ℤ a -ℤ b ≡ c +ℤ d -ℤ a -ℤ b
    ones c d a b = omega (arith, ints)

-- ---- all terms

-- what the terms give, one after the other
abbrev pub sum_of : List Term → (Term → ℤ) → ℤ
sum_of [] g = pos 0
sum_of (t ∷ ts) g = g t +ℤ sum_of ts g

fold_sum : (g : Term → ℤ) (ts : List Term) (s : ℤ) → fold (λ z t. z +ℤ g t) s ts ≡ s +ℤ sum_of ts g
fold_sum g [] s = let e : s ≡ s +ℤ pos 0 = omega (arith, ints) in e
fold_sum g (t ∷ ts) s = fold_sum g ts (s +ℤ g t) ∙ moved s (g t) (sum_of ts g)
  where
    moved : (x y z : ℤ) → (x +ℤ y) +ℤ z ≡ x +ℤ (y +ℤ z)
    moved x y z = omega (arith, ints)

total_sum : (ts : List Term) (k : ℕ) → total_coefficient ts k ≡ sum_of ts (λ t. t.times *ℤ fold_coefficient t.fold k)
total_sum ts k = fold_sum (λ t. t.times *ℤ fold_coefficient t.fold k) ts (pos 0) ∙ first (sum_of ts (λ t. t.times *ℤ fold_coefficient t.fold k))
  where
    first : (x : ℤ) → pos 0 +ℤ x ≡ x
    first x = omega (arith, ints)

value_sums : (w : List ℤ) (ts : List Term) → value w 1 (λ k. sum_of ts (λ t. t.times *ℤ fold_coefficient t.fold k)) ≡ sum_of ts (λ t. t.times *ℤ value w 1 (fold_coefficient t.fold))
value_sums w [] = value_zero w 1 (λ k. pos 0) (λ j l m. refl)
value_sums w (t ∷ ts) =
    value_sum w 1 (λ k. t.times *ℤ fold_coefficient t.fold k) (λ k. sum_of ts (λ u. u.times *ℤ fold_coefficient u.fold k))
    ∙ (λ i. value_multiple w 1 t.times (fold_coefficient t.fold) i +ℤ value_sums w ts i)

-- the value of the sum is the sum of the values
pub total_value : (w : List ℤ) (ts : List Term) → value w 1 (total_coefficient ts) ≡ sum_of ts (λ t. t.times *ℤ value w 1 (fold_coefficient t.fold))
total_value w ts = (λ i. value w 1 (λ k. total_sum ts k i)) ∙ value_sums w ts
