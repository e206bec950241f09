-- A row of the stated solver as an equation, and what a pivot makes of it.
--     LineHolds one values z r      the row of the variable z holds at these values, where `one` stands for the number 1
-- Values are whole numbers: rational values are scaled, and `one` is the scale.
use Rattle.std.proofs.Common.{◌≡◌, ◌≢◌, ℕ, zero, suc, ◌*◌, ◌<◌, refl, sym, ap, ◌∙◌, arith, ℤ, pos, negsuc, ◌+ℤ◌, ◌-ℤ◌, ◌*ℤ◌, neg_ℤ, ◌<ℤ◌, List, [], ◌∷◌, map, length, get_or, set, length-set, get_or-set_other}
use Rattle.std.specs.Prelude.{zip, unsigned_abs}
use Rattle.std.proofs.lemmas.Int.{ints, unsigned_abs-mul}
use Rattle.std.proofs.lemmas.List.{get_or-map, length-map}
use Rattle.ntfe_nums.specs.Vectors.{sign}
use Rattle.ntfe_model.specs.Solver.{Line, coefficient_at, solved_for, with_put_in, IsReduced}
use Rattle.ntfe_nums.proofs.Ring.{ring, product_zero}
use Rattle.ntfe_nums.proofs.Ring.Expression.{var, num, plus, minus, times, neg}
use Rattle.strict_solver.specs.Equations.{combination, LineHolds}
use Rattle.ntfe_nums.proofs.Signs.{positive_some, size_zero, none_apart, same_numbers_apart}

pub combination-scaled : (k : ℤ) (es vs : List ℤ) → combination (map (λ e. k *ℤ e) es) vs ≡ k *ℤ combination es vs
combination-scaled k [] vs = sym (product_zero k)
combination-scaled k (e ∷ es) [] = sym (product_zero k)
combination-scaled k (e ∷ es) (v ∷ vs) =
    ap (λ z. (k *ℤ e) *ℤ v +ℤ z) (combination-scaled k es vs)
    ∙ ring (k ∷ e ∷ v ∷ combination es vs ∷ []) (plus (times (times (var 0) (var 1)) (var 2)) (times (var 0) (var 3))) (times (var 0) (plus (times (var 1) (var 2)) (var 3))) refl

pub combination-negated : (s : ℤ) (es vs : List ℤ) → combination (map (λ e. neg_ℤ (s *ℤ e)) es) vs ≡ neg_ℤ (s *ℤ combination es vs)
combination-negated s [] vs = sym (ap neg_ℤ (product_zero s))
combination-negated s (e ∷ es) [] = sym (ap neg_ℤ (product_zero s))
combination-negated s (e ∷ es) (v ∷ vs) =
    ap (λ z. neg_ℤ (s *ℤ e) *ℤ v +ℤ z) (combination-negated s es vs)
    ∙ ring (s ∷ e ∷ v ∷ combination es vs ∷ []) (plus (times (neg (times (var 0) (var 1))) (var 2)) (neg (times (var 0) (var 3)))) (neg (times (var 0) (plus (times (var 1) (var 2)) (var 3)))) refl

pub combination-set : (es vs : List ℤ) (y : ℕ) (w : ℤ) → y < length es → length es ≡ length vs
    → combination (set es y w) vs ≡ combination es vs +ℤ (w -ℤ get_or es y (pos 0)) *ℤ get_or vs y (pos 0)
combination-set [] vs y w h l = absurd (omega arith)
combination-set (e ∷ es) [] y w h l = absurd (omega arith)
combination-set (e ∷ es) (v ∷ vs) zero w h l =
    ring (w ∷ e ∷ v ∷ combination es vs ∷ []) (plus (times (var 0) (var 2)) (var 3)) (plus (plus (times (var 1) (var 2)) (var 3)) (times (minus (var 0) (var 1)) (var 2))) refl
combination-set (e ∷ es) (v ∷ vs) (suc y) w h l =
    ap (λ z. e *ℤ v +ℤ z) (combination-set es vs y w (omega arith) (omega arith))
    ∙ ring (w ∷ e ∷ v ∷ combination es vs ∷ get_or es y (pos 0) ∷ get_or vs y (pos 0) ∷ [])
    (plus (times (var 1) (var 2)) (plus (var 3) (times (minus (var 0) (var 4)) (var 5))))
    (plus (plus (times (var 1) (var 2)) (var 3)) (times (minus (var 0) (var 4)) (var 5))) refl

pub combination-zip : (d f : ℤ) (xs ys vs : List ℤ) → length xs ≡ length ys
    → combination (map (λ (e : ℤ × ℤ). e.0 *ℤ d +ℤ f *ℤ e.1) (zip xs ys)) vs ≡ combination xs vs *ℤ d +ℤ f *ℤ combination ys vs
combination-zip d f [] [] vs l = ring (d ∷ f ∷ []) (num (pos 0)) (plus (times (num (pos 0)) (var 0)) (times (var 1) (num (pos 0)))) refl
combination-zip d f [] (y ∷ ys) vs l = absurd (omega arith)
combination-zip d f (x ∷ xs) [] vs l = absurd (omega arith)
combination-zip d f (x ∷ xs) (y ∷ ys) [] l = ring (d ∷ f ∷ []) (num (pos 0)) (plus (times (num (pos 0)) (var 0)) (times (var 1) (num (pos 0)))) refl
combination-zip d f (x ∷ xs) (y ∷ ys) (v ∷ vs) l =
    ap (λ z. (x *ℤ d +ℤ f *ℤ y) *ℤ v +ℤ z) (combination-zip d f xs ys vs (omega arith))
    ∙ ring (d ∷ f ∷ x ∷ y ∷ v ∷ combination xs vs ∷ combination ys vs ∷ [])
    (plus (times (plus (times (var 2) (var 0)) (times (var 1) (var 3))) (var 4)) (plus (times (var 5) (var 0)) (times (var 1) (var 6))))
    (plus (times (plus (times (var 2) (var 4)) (var 5)) (var 0)) (times (var 1) (plus (times (var 3) (var 4)) (var 6)))) refl

-- ---- equations

no_product : (m n : ℕ) → 0 < m → m * n ≡ 0 → n ≡ 0
no_product (suc m) n h e = omega arith
no_product zero n h e = absurd (omega arith)

size_some : (k : ℤ) → k ≢ pos 0 → 0 < unsigned_abs k
size_some (pos zero) h = absurd (h refl)
size_some (pos (suc n)) h = omega (arith, ints)
size_some (negsuc n) h = omega (arith, ints)

pub zero_factor : (k z : ℤ) → k ≢ pos 0 → k *ℤ z ≡ pos 0 → z ≡ pos 0
zero_factor k z h e = size_zero z (no_product (unsigned_abs k) (unsigned_abs z) (size_some k h) (sym (unsigned_abs-mul k z) ∙ ap unsigned_abs e))

-- an equation whose difference is k times another one's
pub forth : (a b k p q : ℤ) → a -ℤ b ≡ k *ℤ (p -ℤ q) → p ≡ q → a ≡ b
forth a b k p q i h = none_apart a b (i ∙ ap (λ z. k *ℤ z) (same_numbers_apart p q h) ∙ product_zero k)

pub back : (a b k p q : ℤ) → k ≢ pos 0 → a -ℤ b ≡ k *ℤ (p -ℤ q) → a ≡ b → p ≡ q
back a b k p q n i h = none_apart p q (zero_factor k (p -ℤ q) n (sym i ∙ same_numbers_apart a b h))

pub sign_some : (z : ℤ) → z ≢ pos 0 → sign z ≢ pos 0
sign_some (pos zero) h e = h refl
sign_some (pos (suc n)) h e = cc
sign_some (negsuc n) h e = cc

-- ---- rows
pub combination-solved_for : (vs : List ℤ) (r : Line) (x y : ℕ) → x ≢ y → x < length vs → y < length vs → length r.coefficients ≡ length vs → coefficient_at r x ≡ pos 0
    → combination (solved_for r x y).coefficients vs
    ≡ neg_ℤ (sign (coefficient_at r y) *ℤ combination r.coefficients vs) +ℤ (sign (coefficient_at r y) *ℤ coefficient_at r y) *ℤ get_or vs y (pos 0) +ℤ (sign (coefficient_at r y) *ℤ r.d) *ℤ get_or vs x (pos 0)
combination-solved_for vs r x y ne lx ly len own =
    let s = sign (coefficient_at r y) in
    let first : List ℤ = map (λ e. neg_ℤ (s *ℤ e)) r.coefficients in
    let second : List ℤ = set first y (pos 0) in
    let lf : length first ≡ length vs = length-map r.coefficients (λ e. neg_ℤ (s *ℤ e)) ∙ len in
    let ls : length second ≡ length vs = length-set first y (pos 0) ∙ lf in
    let at_y : get_or first y (pos 0) ≡ neg_ℤ (s *ℤ coefficient_at r y) = get_or-map (λ e. neg_ℤ (s *ℤ e)) r.coefficients y (pos 0) (pos 0) (omega arith) in
    let at_x : get_or second x (pos 0) ≡ pos 0 =
    get_or-set_other first y x (pos 0) (pos 0) ne ∙ get_or-map (λ e. neg_ℤ (s *ℤ e)) r.coefficients x (pos 0) (pos 0) (omega arith)
    ∙ ap (λ e. neg_ℤ (s *ℤ e)) own ∙ ap neg_ℤ (product_zero s) in
    let one_set : combination second vs ≡ neg_ℤ (s *ℤ combination r.coefficients vs) +ℤ (pos 0 -ℤ neg_ℤ (s *ℤ coefficient_at r y)) *ℤ get_or vs y (pos 0) =
    combination-set first vs y (pos 0) (omega arith) lf
    ∙ (λ i. combination-negated s r.coefficients vs i +ℤ (pos 0 -ℤ at_y i) *ℤ get_or vs y (pos 0)) in
    combination-set second vs x (s *ℤ r.d) (omega arith) ls
    ∙ (λ i. one_set i +ℤ (s *ℤ r.d -ℤ at_x i) *ℤ get_or vs x (pos 0))
    ∙ ring (s ∷ combination r.coefficients vs ∷ coefficient_at r y ∷ get_or vs y (pos 0) ∷ r.d ∷ get_or vs x (pos 0) ∷ [])
    (plus (plus (neg (times (var 0) (var 1))) (times (minus (num (pos 0)) (neg (times (var 0) (var 2)))) (var 3))) (times (minus (times (var 0) (var 4)) (num (pos 0))) (var 5)))
    (plus (plus (neg (times (var 0) (var 1))) (times (times (var 0) (var 2)) (var 3))) (times (times (var 0) (var 4)) (var 5)))
    refl

difference-solved_for : (one : ℤ) (vs : List ℤ) (r : Line) (x y : ℕ) → x ≢ y → x < length vs → y < length vs → length r.coefficients ≡ length vs → coefficient_at r x ≡ pos 0
    → (solved_for r x y).d *ℤ get_or vs y (pos 0) -ℤ ((solved_for r x y).c *ℤ one +ℤ combination (solved_for r x y).coefficients vs)
    ≡ neg_ℤ (sign (coefficient_at r y)) *ℤ (r.d *ℤ get_or vs x (pos 0) -ℤ (r.c *ℤ one +ℤ combination r.coefficients vs))
difference-solved_for one vs r x y ne lx ly len own =
    let s = sign (coefficient_at r y) in
    ap (λ z. (s *ℤ coefficient_at r y) *ℤ get_or vs y (pos 0) -ℤ (neg_ℤ (s *ℤ r.c) *ℤ one +ℤ z)) (combination-solved_for vs r x y ne lx ly len own)
    ∙ ring (s ∷ combination r.coefficients vs ∷ coefficient_at r y ∷ get_or vs y (pos 0) ∷ r.d ∷ get_or vs x (pos 0) ∷ r.c ∷ one ∷ [])
    (minus (times (times (var 0) (var 2)) (var 3)) (plus (times (neg (times (var 0) (var 6))) (var 7)) (plus (plus (neg (times (var 0) (var 1))) (times (times (var 0) (var 2)) (var 3))) (times (times (var 0) (var 4)) (var 5)))))
    (times (neg (var 0)) (minus (times (var 4) (var 5)) (plus (times (var 6) (var 7)) (var 1))))
    refl

neg_some : (z : ℤ) → z ≢ pos 0 → neg_ℤ z ≢ pos 0
neg_some (pos zero) h e = h refl
neg_some (pos (suc n)) h e = cc
neg_some (negsuc n) h e = cc

-- the row of x holds exactly where the row that is solved for y does
pub solved_for-holds : (one : ℤ) (vs : List ℤ) (r : Line) (x y : ℕ) → x ≢ y → x < length vs → y < length vs → length r.coefficients ≡ length vs → coefficient_at r x ≡ pos 0
    → coefficient_at r y ≢ pos 0 → (LineHolds one vs x r → LineHolds one vs y (solved_for r x y)) × (LineHolds one vs y (solved_for r x y) → LineHolds one vs x r)
solved_for-holds one vs r x y ne lx ly len own some =
    let i = difference-solved_for one vs r x y ne lx ly len own in
    (forth _ _ (neg_ℤ (sign (coefficient_at r y))) _ _ i, back _ _ (neg_ℤ (sign (coefficient_at r y))) _ _ (neg_some _ (sign_some _ some)) i)

-- the row is the other one times a number
pub difference-scaled : (one : ℤ) (vs : List ℤ) (z : ℕ) (k : ℤ) (d c : ℤ) (es : List ℤ)
    → (k *ℤ d) *ℤ get_or vs z (pos 0) -ℤ ((k *ℤ c) *ℤ one +ℤ combination (map (λ e. k *ℤ e) es) vs) ≡ k *ℤ (d *ℤ get_or vs z (pos 0) -ℤ (c *ℤ one +ℤ combination es vs))
difference-scaled one vs z k d c es =
    ap (λ s. (k *ℤ d) *ℤ get_or vs z (pos 0) -ℤ ((k *ℤ c) *ℤ one +ℤ s)) (combination-scaled k es vs)
    ∙ ring (k ∷ d ∷ get_or vs z (pos 0) ∷ c ∷ one ∷ combination es vs ∷ [])
    (minus (times (times (var 0) (var 1)) (var 2)) (plus (times (times (var 0) (var 3)) (var 4)) (times (var 0) (var 5))))
    (times (var 0) (minus (times (var 1) (var 2)) (plus (times (var 3) (var 4)) (var 5))))
    refl

abbrev head_or : List ℤ → ℤ
head_or [] = pos 0
head_or (z ∷ zs) = z

abbrev tail_or : List ℤ → List ℤ
tail_or [] = []
tail_or (z ∷ zs) = zs

-- a reduced row as equations
pub reduced_parts : (raw r : Line) (h : IsReduced raw r) → (raw.d ≡ pos h.k *ℤ r.d) × (raw.c ≡ pos h.k *ℤ r.c) × (raw.coefficients ≡ map (λ e. pos h.k *ℤ e) r.coefficients)
reduced_parts raw r h = (ap head_or h.same, ap (λ zs. head_or (tail_or zs)) h.same, ap (λ zs. tail_or (tail_or zs)) h.same)

pub pos_some : (k : ℕ) → 0 < k → pos k ≢ pos 0
pos_some k h e = omega (arith, ints)

-- a row holds exactly where its reduced form does
pub reduced-holds : (one : ℤ) (vs : List ℤ) (z : ℕ) (raw r : Line) → IsReduced raw r → (LineHolds one vs z raw → LineHolds one vs z r) × (LineHolds one vs z r → LineHolds one vs z raw)
reduced-holds one vs z raw r h =
    let p = reduced_parts raw r h in
    let i : raw.d *ℤ get_or vs z (pos 0) -ℤ (raw.c *ℤ one +ℤ combination raw.coefficients vs) ≡ pos h.k *ℤ (r.d *ℤ get_or vs z (pos 0) -ℤ (r.c *ℤ one +ℤ combination r.coefficients vs)) =
    (λ i. p.0 i *ℤ get_or vs z (pos 0) -ℤ (p.1 i *ℤ one +ℤ combination (p.2 i) vs)) ∙ difference-scaled one vs z (pos h.k) r.d r.c r.coefficients in
    (back _ _ (pos h.k) _ _ (pos_some h.k h.factor) i, forth _ _ (pos h.k) _ _ i)

-- where the row m of y holds, a row holds exactly where it does with m put in place of y
pub with_put_in-holds : (one : ℤ) (vs : List ℤ) (q m : Line) (z y : ℕ) → y < length vs → length q.coefficients ≡ length vs → length m.coefficients ≡ length vs → pos 0 <ℤ m.d → LineHolds one vs y m
    → (LineHolds one vs z q → LineHolds one vs z (with_put_in q y m)) × (LineHolds one vs z (with_put_in q y m) → LineHolds one vs z q)
with_put_in-holds one vs q m z y ly lq lm positive hm =
    let f = coefficient_at q y in
    let left : List ℤ = set q.coefficients y (pos 0) in
    let vy = get_or vs y (pos 0) in
    let vz = get_or vs z (pos 0) in
    let lq' = combination q.coefficients vs in
    let lm' = combination m.coefficients vs in
    let total : combination (with_put_in q y m).coefficients vs ≡ (lq' +ℤ (pos 0 -ℤ f) *ℤ vy) *ℤ m.d +ℤ f *ℤ lm' =
    combination-zip m.d f left m.coefficients vs (length-set q.coefficients y (pos 0) ∙ lq ∙ sym lm)
    ∙ ap (λ s. s *ℤ m.d +ℤ f *ℤ lm') (combination-set q.coefficients vs y (pos 0) (omega arith) lq) in
    let i : (q.d *ℤ m.d) *ℤ vz -ℤ ((q.c *ℤ m.d +ℤ f *ℤ m.c) *ℤ one +ℤ combination (with_put_in q y m).coefficients vs) ≡ m.d *ℤ (q.d *ℤ vz -ℤ (q.c *ℤ one +ℤ lq')) +ℤ f *ℤ (m.d *ℤ vy -ℤ (m.c *ℤ one +ℤ lm')) =
    ap (λ s. (q.d *ℤ m.d) *ℤ vz -ℤ ((q.c *ℤ m.d +ℤ f *ℤ m.c) *ℤ one +ℤ s)) total
    ∙ ring (q.d ∷ m.d ∷ vz ∷ q.c ∷ f ∷ m.c ∷ one ∷ lq' ∷ vy ∷ lm' ∷ [])
    (minus (times (times (var 0) (var 1)) (var 2)) (plus (times (plus (times (var 3) (var 1)) (times (var 4) (var 5))) (var 6)) (plus (times (plus (var 7) (times (minus (num (pos 0)) (var 4)) (var 8))) (var 1)) (times (var 4) (var 9)))))
    (plus (times (var 1) (minus (times (var 0) (var 2)) (plus (times (var 3) (var 6)) (var 7)))) (times (var 4) (minus (times (var 1) (var 8)) (plus (times (var 5) (var 6)) (var 9)))))
    refl in
    let j = i ∙ ap (λ s. m.d *ℤ (q.d *ℤ vz -ℤ (q.c *ℤ one +ℤ lq')) +ℤ f *ℤ s) (same_numbers_apart _ _ hm) ∙ dropped (m.d *ℤ (q.d *ℤ vz -ℤ (q.c *ℤ one +ℤ lq'))) f in
    (forth _ _ m.d _ _ j, back _ _ m.d _ _ (positive_some m.d positive) j)
  where
    dropped : (a f : ℤ) → a +ℤ f *ℤ pos 0 ≡ a
    dropped a f = ap (λ s. a +ℤ s) (product_zero f) ∙ omega (arith, ints)
