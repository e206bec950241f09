-- Areas and planes in two coordinates: identities of whole numbers, and signs of products.
use Rattle.std.proofs.Common.{◌≡◌, ◌≢◌, ℕ, zero, suc, ◌-◌, ◌*◌, ◌⊎◌, inl, inr, ⊎_elim, refl, sym, ap, ◌∙◌, arith, ℤ, pos, negsuc, ◌+ℤ◌, ◌-ℤ◌, ◌*ℤ◌, ◌<ℤ◌, ◌≤ℤ◌, neg_ℤ, List, [], ◌∷◌, unsigned_abs}
use Rattle.std.specs.Prelude.{slice_index_or}
use Rattle.std.proofs.lemmas.Int.{ints, unsigned_abs-mul}
use Rattle.ntfe_nums.specs.Vectors.{Vector, numbers, vector_sum, multiple, coordinate, area, sign}
use Rattle.ntfe_model.specs.Charts.{reached}
use Rattle.ntfe_nums.proofs.Ring.{Expression, ring}
use Rattle.ntfe_nums.proofs.Ring.Expression.{var, num, plus, minus, times, neg}
use Rattle.ntfe_nums.proofs.Signs.{size_zero, positive_product, positive_some, product_zero}

-- ---- products

nat_zero : (m n : ℕ) → m * n ≡ 0 → (m ≡ 0) ⊎ (n ≡ 0)
nat_zero zero n e = inl refl
nat_zero (suc m) zero e = inr refl
nat_zero (suc m) (suc n) e = absurd (omega arith)

pub zero_factor : (a b : ℤ) → a *ℤ b ≡ pos 0 → (a ≡ pos 0) ⊎ (b ≡ pos 0)
zero_factor a b e =
    ⊎_elim (λ p. inl (size_zero a p)) (λ p. inr (size_zero b p))
    (nat_zero (unsigned_abs a) (unsigned_abs b) (sym (unsigned_abs-mul a b) ∙ ap unsigned_abs e))

pub negative_product : (a b : ℤ) → a <ℤ pos 0 → pos 0 <ℤ b → (a *ℤ b) <ℤ pos 0
negative_product a b h k =
    let p = positive_product (neg_ℤ a) b (omega (arith, ints, h)) k in
    let q : neg_ℤ a *ℤ b ≡ neg_ℤ (a *ℤ b) = ring (a ∷ b ∷ []) (times (neg (var 0)) (var 1)) (neg (times (var 0) (var 1))) refl in
    by (neg_ℤ a *ℤ b) (a *ℤ b) p q
  where
    by : (x y : ℤ) → pos 0 <ℤ x → x ≡ neg_ℤ y → y <ℤ pos 0
    by x y p e = omega (arith, ints, p, e)

-- the sign of a factor, where the other is positive
pub positive_factor : (a b : ℤ) → pos 0 <ℤ b → pos 0 <ℤ (a *ℤ b) → pos 0 <ℤ a
positive_factor (pos (suc m)) b h k = omega (arith, ints)
positive_factor (pos zero) b h k =
    let e : pos 0 *ℤ b ≡ pos 0 = omega (arith, ints) in absurd (by (pos 0 *ℤ b) e k)
  where
    by : (x : ℤ) → x ≡ pos 0 → pos 0 <ℤ x → ⊥
    by x e l = absurd (omega (arith, ints, e, l))
positive_factor (negsuc m) b h k = let l = negative_product (negsuc m) b (omega (arith, ints)) h in absurd (by (negsuc m *ℤ b) k l)
  where
    by : (x : ℤ) → pos 0 <ℤ x → x <ℤ pos 0 → ⊥
    by x e l = absurd (omega (arith, ints, e, l))

pub cancel_other : (a b k : ℤ) → k ≢ pos 0 → a *ℤ k ≡ b *ℤ k → a ≡ b
cancel_other a b k n e =
    let q : (a -ℤ b) *ℤ k ≡ a *ℤ k -ℤ b *ℤ k = ring (a ∷ b ∷ k ∷ []) (times (minus (var 0) (var 1)) (var 2)) (minus (times (var 0) (var 2)) (times (var 1) (var 2))) refl in
    ⊎_elim (λ z. same a b z) (λ z. absurd (n z)) (zero_factor (a -ℤ b) k (q ∙ apart (a *ℤ k) (b *ℤ k) e))
  where
    same : (x y : ℤ) → x -ℤ y ≡ pos 0 → x ≡ y
    same x y z = omega (arith, ints, z)

    apart : (x y : ℤ) → x ≡ y → x -ℤ y ≡ pos 0
    apart x y z = omega (arith, ints, z)

pub cancel : (a b k : ℤ) → pos 0 <ℤ k → a *ℤ k ≡ b *ℤ k → a ≡ b
cancel a b k h e = cancel_other a b k (positive_some k h) e

-- positive numbers that are multiples of each other are equal
pub equal_multiples : (a b k l : ℤ) → pos 0 <ℤ a → pos 0 <ℤ b → a ≡ k *ℤ b → b ≡ l *ℤ a → a ≡ b
equal_multiples a b k l p q e f = least a b (at_least b a l p (copy b (l *ℤ a) f q) f) (at_least a b k q (copy a (k *ℤ b) e p) e)
  where
    copy : (x y : ℤ) → x ≡ y → pos 0 <ℤ x → pos 0 <ℤ y
    copy x y g m = omega (arith, ints, g, m)

    least : (x y : ℤ) → x ≤ℤ y → y ≤ℤ x → x ≡ y
    least x y m n = omega (arith, ints, m, n)

    -- x = n y with positive n: y ≤ x
    at_least : (x y n : ℤ) → pos 0 <ℤ y → pos 0 <ℤ (n *ℤ y) → x ≡ n *ℤ y → y ≤ℤ x
    at_least x y n m r g =
        let one = positive_factor n y m r in
        let s : n *ℤ y ≡ y +ℤ (n -ℤ pos 1) *ℤ y = ring (n ∷ y ∷ []) (times (var 0) (var 1)) (plus (var 1) (times (minus (var 0) (num (pos 1))) (var 1))) refl in
        last x y ((n -ℤ pos 1) *ℤ y) (g ∙ s) (more (n -ℤ pos 1) y (omega (arith, ints, one)) m)
      where
        last : (u v z : ℤ) → u ≡ v +ℤ z → pos 0 ≤ℤ z → v ≤ℤ u
        last u v z i j = omega (arith, ints, i, j)

        more : (u v : ℤ) → pos 0 ≤ℤ u → pos 0 <ℤ v → pos 0 ≤ℤ (u *ℤ v)
        more (negsuc m') v i j = absurd (omega (arith, ints, i))
        more (pos zero) v i j = let z : pos 0 *ℤ v ≡ pos 0 = omega (arith, ints) in zero_le (pos 0 *ℤ v) z
          where
            zero_le : (u : ℤ) → u ≡ pos 0 → pos 0 ≤ℤ u
            zero_le u z' = omega (arith, ints, z')
        more (pos (suc m')) v i j = weaker (pos (suc m') *ℤ v) (positive_product (pos (suc m')) v (omega (arith, ints)) j)
          where
            weaker : (u : ℤ) → pos 0 <ℤ u → pos 0 ≤ℤ u
            weaker u l' = omega (arith, ints, l')

-- ---- signs

pub positive_sign : (z : ℤ) → sign z ≡ pos 1 → pos 0 <ℤ z
positive_sign (pos zero) e = absurd (omega (arith, ints, e))
positive_sign (pos (suc n)) e = omega (arith, ints)
positive_sign (negsuc n) e = absurd (omega (arith, ints, e))

pub sign_positive : (z : ℤ) → pos 0 <ℤ z → sign z ≡ pos 1
sign_positive (pos zero) h = absurd (omega (arith, ints, h))
sign_positive (pos (suc n)) h = refl
sign_positive (negsuc n) h = absurd (omega (arith, ints, h))

pub sign_negative : (z : ℤ) → z <ℤ pos 0 → sign z ≡ negsuc 0
sign_negative (pos n) h = absurd (omega (arith, ints, h))
sign_negative (negsuc n) h = refl

pub sign_not_right : (z : ℤ) → pos 0 ≤ℤ z → sign z ≢ negsuc 0
sign_not_right (pos zero) h e = cc
sign_not_right (pos (suc n)) h e = cc
sign_not_right (negsuc n) h e = absurd (omega (arith, ints, h))

-- ---- coordinates

abbrev pub at : ℕ → Vector → ℤ
at i v = slice_index_or (numbers v) i (pos 0)

at_reached : (i : ℕ) (a b c : Vector) (s t : ℤ) → at i (reached a b c s t) ≡ at i a +ℤ (s *ℤ (at i b -ℤ at i a) +ℤ t *ℤ (at i c -ℤ at i a))
at_reached zero a b c s t = refl
at_reached (suc zero) a b c s t = refl
at_reached (suc (suc zero)) a b c s t = refl
at_reached (suc (suc (suc zero))) a b c s t = refl
at_reached (suc (suc (suc (suc i)))) a b c s t = sym ((λ j. pos 0 +ℤ (product_zero s j +ℤ product_zero t j)) ∙ refl)

pub coordinate_reached : (k : ℕ) (a b c : Vector) (s t : ℤ)
    → coordinate k (reached a b c s t) ≡ coordinate k a +ℤ (s *ℤ (coordinate k b -ℤ coordinate k a) +ℤ t *ℤ (coordinate k c -ℤ coordinate k a))
coordinate_reached k a b c s t = at_reached (k - 1) a b c s t

at_balance : (i : ℕ) (a b c d : Vector) (m n : ℤ) → vector_sum c d ≡ vector_sum (multiple m a) (multiple n b) → at i c +ℤ at i d ≡ m *ℤ at i a +ℤ n *ℤ at i b
at_balance zero a b c d m n e = ap (λ v. v.x1) e
at_balance (suc zero) a b c d m n e = ap (λ v. v.x2) e
at_balance (suc (suc zero)) a b c d m n e = ap (λ v. v.x3) e
at_balance (suc (suc (suc zero))) a b c d m n e = ap (λ v. v.x4) e
at_balance (suc (suc (suc (suc i)))) a b c d m n e = sym ((λ j. product_zero m j +ℤ product_zero n j) ∙ refl)

pub coordinate_balance : (k : ℕ) (a b c d : Vector) (m n : ℤ) → vector_sum c d ≡ vector_sum (multiple m a) (multiple n b)
    → coordinate k d ≡ m *ℤ coordinate k a +ℤ n *ℤ coordinate k b -ℤ coordinate k c
coordinate_balance k a b c d m n e = by (coordinate k c) (coordinate k d) (m *ℤ coordinate k a +ℤ n *ℤ coordinate k b) (at_balance (k - 1) a b c d m n e)
  where
    by : (x y z : ℤ) → x +ℤ y ≡ z → y ≡ z -ℤ x
    by x y z f = omega (arith, ints, f)

-- ---- areas

abbrev pub flat : ℤ → ℤ → ℤ → ℤ → ℤ → ℤ → ℤ
flat ai aj bi bj ci cj = (bi -ℤ ai) *ℤ (cj -ℤ aj) -ℤ (bj -ℤ aj) *ℤ (ci -ℤ ai)

abbrev pub flatE : Expression → Expression → Expression → Expression → Expression → Expression → Expression
flatE ai aj bi bj ci cj = minus (times (minus bi ai) (minus cj aj)) (times (minus bj aj) (minus ci ai))

-- the area of the points at these places of the list of variables
abbrev pub areaE : ℕ → ℕ → ℕ → Expression
areaE a b c = flatE (var a) (var (suc a)) (var b) (var (suc b)) (var c) (var (suc c))

-- a + s (b - a) + t (c - a), in one coordinate
abbrev pub reachE : Expression → Expression → Expression → Expression → Expression → Expression
reachE a b c s t = plus a (plus (times s (minus b a)) (times t (minus c a)))

-- the area of three points, from a fourth
pub area_split : (q : ℕ × ℕ) (o a b c : Vector) → area q a b c ≡ area q o a b +ℤ area q o b c +ℤ area q o c a
area_split q o a b c =
    ring (coordinate q.0 o ∷ coordinate q.1 o ∷ coordinate q.0 a ∷ coordinate q.1 a ∷ coordinate q.0 b ∷ coordinate q.1 b ∷ coordinate q.0 c ∷ coordinate q.1 c ∷ [])
    (areaE 2 4 6) (plus (plus (areaE 0 2 4) (areaE 0 4 6)) (areaE 0 6 2)) refl

pub area_turn : (q : ℕ × ℕ) (a b c : Vector) → area q b c a ≡ area q a b c
area_turn q a b c =
    ring (coordinate q.0 a ∷ coordinate q.1 a ∷ coordinate q.0 b ∷ coordinate q.1 b ∷ coordinate q.0 c ∷ coordinate q.1 c ∷ []) (areaE 2 4 0) (areaE 0 2 4) refl

pub area_swap : (q : ℕ × ℕ) (a b c : Vector) → area q b a c ≡ neg_ℤ (area q a b c)
area_swap q a b c =
    ring (coordinate q.0 a ∷ coordinate q.1 a ∷ coordinate q.0 b ∷ coordinate q.1 b ∷ coordinate q.0 c ∷ coordinate q.1 c ∷ []) (areaE 2 0 4) (neg (areaE 0 2 4)) refl

-- three points of which two are one have no area
pub flat_last : (q : ℕ × ℕ) (k l : Vector) → area q k l l ≡ pos 0
flat_last q k l = ring (coordinate q.0 k ∷ coordinate q.1 k ∷ coordinate q.0 l ∷ coordinate q.1 l ∷ []) (areaE 0 2 2) (num (pos 0)) refl

pub flat_outer : (q : ℕ × ℕ) (k l : Vector) → area q k l k ≡ pos 0
flat_outer q k l = ring (coordinate q.0 k ∷ coordinate q.1 k ∷ coordinate q.0 l ∷ coordinate q.1 l ∷ []) (areaE 0 2 0) (num (pos 0)) refl

pub flat_front : (q : ℕ × ℕ) (k l : Vector) → area q k k l ≡ pos 0
flat_front q k l = ring (coordinate q.0 k ∷ coordinate q.1 k ∷ coordinate q.0 l ∷ coordinate q.1 l ∷ []) (areaE 0 0 2) (num (pos 0)) refl

abbrev vars8 : ℕ × ℕ → Vector → Vector → Vector → ℤ → ℤ → List ℤ
vars8 q a b c s t = coordinate q.0 a ∷ coordinate q.1 a ∷ coordinate q.0 b ∷ coordinate q.1 b ∷ coordinate q.0 c ∷ coordinate q.1 c ∷ s ∷ t ∷ []

abbrev xE : Expression
xE = reachE (var 0) (var 2) (var 4) (var 6) (var 7)

abbrev yE : Expression
yE = reachE (var 1) (var 3) (var 5) (var 6) (var 7)

-- the coordinates of a + s (b - a) + t (c - a) as areas
pub area_third : (q : ℕ × ℕ) (a b c : Vector) (s t : ℤ) → area q a b (reached a b c s t) ≡ t *ℤ area q a b c
area_third q a b c s t =
    (λ i. flat (coordinate q.0 a) (coordinate q.1 a) (coordinate q.0 b) (coordinate q.1 b) (coordinate_reached q.0 a b c s t i) (coordinate_reached q.1 a b c s t i))
    ∙ ring (vars8 q a b c s t) (flatE (var 0) (var 1) (var 2) (var 3) xE yE) (times (var 7) (areaE 0 2 4)) refl

pub area_second : (q : ℕ × ℕ) (a b c : Vector) (s t : ℤ) → area q c a (reached a b c s t) ≡ s *ℤ area q a b c
area_second q a b c s t =
    (λ i. flat (coordinate q.0 c) (coordinate q.1 c) (coordinate q.0 a) (coordinate q.1 a) (coordinate_reached q.0 a b c s t i) (coordinate_reached q.1 a b c s t i))
    ∙ ring (vars8 q a b c s t) (flatE (var 4) (var 5) (var 0) (var 1) xE yE) (times (var 6) (areaE 0 2 4)) refl

pub area_first : (q : ℕ × ℕ) (a b c : Vector) (s t : ℤ) → area q b c (reached a b c s t) ≡ (pos 1 -ℤ s -ℤ t) *ℤ area q a b c
area_first q a b c s t =
    (λ i. flat (coordinate q.0 b) (coordinate q.1 b) (coordinate q.0 c) (coordinate q.1 c) (coordinate_reached q.0 a b c s t i) (coordinate_reached q.1 a b c s t i))
    ∙ ring (vars8 q a b c s t) (flatE (var 2) (var 3) (var 4) (var 5) xE yE) (times (minus (minus (num (pos 1)) (var 6)) (var 7)) (areaE 0 2 4)) refl

-- three reached points have a whole multiple of the area
pub area_multiple : (q : ℕ × ℕ) (a b c : Vector) (s t s' t' s'' t'' : ℤ)
    → area q (reached a b c s t) (reached a b c s' t') (reached a b c s'' t'')
    ≡ ((s' -ℤ s) *ℤ (t'' -ℤ t) -ℤ (t' -ℤ t) *ℤ (s'' -ℤ s)) *ℤ area q a b c
area_multiple q a b c s t s' t' s'' t'' =
    (λ i. flat (coordinate_reached q.0 a b c s t i) (coordinate_reached q.1 a b c s t i) (coordinate_reached q.0 a b c s' t' i) (coordinate_reached q.1 a b c s' t' i) (coordinate_reached q.0 a b c s'' t'' i) (coordinate_reached q.1 a b c s'' t'' i))
    ∙ ring (coordinate q.0 a ∷ coordinate q.1 a ∷ coordinate q.0 b ∷ coordinate q.1 b ∷ coordinate q.0 c ∷ coordinate q.1 c ∷ s ∷ t ∷ s' ∷ t' ∷ s'' ∷ t'' ∷ [])
    (flatE xE yE (reachE (var 0) (var 2) (var 4) (var 8) (var 9)) (reachE (var 1) (var 3) (var 5) (var 8) (var 9)) (reachE (var 0) (var 2) (var 4) (var 10) (var 11)) (reachE (var 1) (var 3) (var 5) (var 10) (var 11)))
    (times (minus (times (minus (var 8) (var 6)) (minus (var 11) (var 7))) (times (minus (var 9) (var 7)) (minus (var 10) (var 6)))) (areaE 0 2 4)) refl

-- ---- the comparison of two planes

-- the area of the triple, times the height at p of the plane over a, b and c at the heights x, y, z
abbrev pub plane : ℕ × ℕ → Vector → Vector → Vector → ℤ → ℤ → ℤ → Vector → ℤ
plane q a b c x y z p = area q b c p *ℤ x +ℤ area q c a p *ℤ y +ℤ area q a b p *ℤ z

pub plane_turn : (q : ℕ × ℕ) (a b c : Vector) (x y z : ℤ) (p : Vector) → plane q b c a y z x p ≡ plane q a b c x y z p
plane_turn q a b c x y z p = by (area q b c p *ℤ x) (area q c a p *ℤ y) (area q a b p *ℤ z)
  where
    by : (k l m : ℤ) → l +ℤ m +ℤ k ≡ k +ℤ l +ℤ m
    by k l m = omega (arith, ints)

-- the plane at its first corner
pub plane_first : (q : ℕ × ℕ) (a b c : Vector) (x y z : ℤ) → plane q a b c x y z a ≡ x *ℤ area q a b c
plane_first q a b c x y z =
    ring (coordinate q.0 a ∷ coordinate q.1 a ∷ coordinate q.0 b ∷ coordinate q.1 b ∷ coordinate q.0 c ∷ coordinate q.1 c ∷ x ∷ y ∷ z ∷ [])
    (plus (plus (times (areaE 2 4 0) (var 6)) (times (areaE 4 0 0) (var 7))) (times (areaE 0 2 0) (var 8)))
    (times (var 6) (areaE 0 2 4)) refl

-- where c + d = α a + β b with α + β = 2: the plane of (b, a, d) is that of (a, b, c), and the fold times the area of (b, a, p) more
pub plane_rise : (q : ℕ × ℕ) (a b c d p : Vector) (m n x y z u : ℤ) → vector_sum c d ≡ vector_sum (multiple m a) (multiple n b) → m ≡ pos 2 -ℤ n
    → plane q b a d y x u p ≡ plane q a b c x y z p +ℤ area q b a p *ℤ (z +ℤ u -ℤ m *ℤ x -ℤ n *ℤ y)
plane_rise q a b c d p m n x y z u e f =
    let P : ℤ → Type 0 = λ k. plane q b a d y x u p ≡ plane q a b c x y z p +ℤ area q b a p *ℤ (z +ℤ u -ℤ k *ℤ x -ℤ n *ℤ y) in
    let ei : coordinate q.0 d ≡ (pos 2 -ℤ n) *ℤ coordinate q.0 a +ℤ n *ℤ coordinate q.0 b -ℤ coordinate q.0 c = coordinate_balance q.0 a b c d m n e ∙ ap (λ k. k *ℤ coordinate q.0 a +ℤ n *ℤ coordinate q.0 b -ℤ coordinate q.0 c) f in
    let ej : coordinate q.1 d ≡ (pos 2 -ℤ n) *ℤ coordinate q.1 a +ℤ n *ℤ coordinate q.1 b -ℤ coordinate q.1 c = coordinate_balance q.1 a b c d m n e ∙ ap (λ k. k *ℤ coordinate q.1 a +ℤ n *ℤ coordinate q.1 b -ℤ coordinate q.1 c) f in
    let ai = coordinate q.0 a in let aj = coordinate q.1 a in let bi = coordinate q.0 b in let bj = coordinate q.1 b in
    let pi = coordinate q.0 p in let pj = coordinate q.1 p in
    (λ i. flat ai aj (ei i) (ej i) pi pj *ℤ y +ℤ flat (ei i) (ej i) bi bj pi pj *ℤ x +ℤ flat bi bj ai aj pi pj *ℤ u)
    ∙ ring (ai ∷ aj ∷ bi ∷ bj ∷ coordinate q.0 c ∷ coordinate q.1 c ∷ pi ∷ pj ∷ n ∷ x ∷ y ∷ z ∷ u ∷ [])
    (plus (plus (times (flatE (var 0) (var 1) dx dy (var 6) (var 7)) (var 10)) (times (flatE dx dy (var 2) (var 3) (var 6) (var 7)) (var 9))) (times (areaE 2 0 6) (var 12)))
    (plus (plus (plus (times (areaE 2 4 6) (var 9)) (times (areaE 4 0 6) (var 10))) (times (areaE 0 2 6) (var 11)))
    (times (areaE 2 0 6) (minus (minus (plus (var 11) (var 12)) (times (minus (num (pos 2)) (var 8)) (var 9))) (times (var 8) (var 10))))) refl
    ∙ (λ i. plane q a b c x y z p +ℤ area q b a p *ℤ (z +ℤ u -ℤ sym f i *ℤ x -ℤ n *ℤ y))
  where
    dx : Expression
    dx = minus (plus (times (minus (num (pos 2)) (var 8)) (var 0)) (times (var 8) (var 2))) (var 4)

    dy : Expression
    dy = minus (plus (times (minus (num (pos 2)) (var 8)) (var 1)) (times (var 8) (var 3))) (var 5)
