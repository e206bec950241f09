-- Exact machine arithmetic: where no number of a polynomial's computation is too large for the word, the computation
-- gives the polynomial's value, and no step of it overflows.
--     machine w vars e      what the code computes, each number put into a word of width w
--     raw w vars e      the same before the last number is put into a word
--     exact, fits      `machine` is `value`; `raw` fits.  `refl` proves the test that `fit` makes with the bounds
use Rattle.std.proofs.Common.{◌≡◌, ℕ, zero, suc, ◌+◌, ◌*◌, ◌^◌, ◌<◌, ◌≤◌, Bool, true, ◌&&◌, nat_lt, refl, sym, ap, ◌∙◌, subst, arith, ℤ, pos, ◌+ℤ◌, ◌-ℤ◌, ◌*ℤ◌, neg_ℤ, List, [], ◌∷◌, get_or, to_z, of_z, to_z-of_z, FitsSigned, unsigned_abs, mul-le-mul}
use Rattle.std.proofs.lemmas.Int.{ints, unsigned_abs-mul, fits_signed_from_abs}
use Rattle.std.proofs.lemmas.Bool.Decides.{nat_tests}
use Rattle.std.specs.Int.{Width}
use Rattle.std.specs.Bool.{⊤}
use mir.Val.{hbits}
use Rattle.ntfe_nums.specs.Vectors.{numbers, vector, difference}
use Rattle.ntfe_nums.specs.Sizes.{AreWithin}
use Rattle.ntfe_nums.proofs.Ring.{Expression, value}
use Rattle.ntfe_nums.proofs.Ring.Expression.{var, num, plus, minus, times, neg}
use Rattle.ntfe_nums.proofs.Comparisons.{both}

-- ---- what the code computes

module _ (w : Width) (vars : List ℤ) where
  abbrev word : ℤ → ℤ
  word z = to_z w (of_z w z)

  abbrev pub machine : Expression → ℤ
  machine (var i) = to_z w (of_z w (get_or vars i (pos 0)))
  machine (num z) = to_z w (of_z w z)
  machine (plus a b) = to_z w (of_z w (machine a +ℤ machine b))
  machine (minus a b) = to_z w (of_z w (machine a -ℤ machine b))
  machine (times a b) = to_z w (of_z w (machine a *ℤ machine b))
  machine (neg a) = to_z w (of_z w (neg_ℤ (machine a)))

  abbrev pub raw : Expression → ℤ
  raw (var i) = get_or vars i (pos 0)
  raw (num z) = z
  raw (plus a b) = machine a +ℤ machine b
  raw (minus a b) = machine a -ℤ machine b
  raw (times a b) = machine a *ℤ machine b
  raw (neg a) = neg_ℤ (machine a)

-- ---- how large it is

abbrev pub AreBounded : List ℤ → List ℕ → Type 0
AreBounded [] bs = ⊤
AreBounded (v ∷ vs) [] = ⊥
AreBounded (v ∷ vs) (b ∷ bs) = (unsigned_abs v ≤ b) × AreBounded vs bs

abbrev pub size : List ℕ → Expression → ℕ
size bs (var i) = get_or bs i 0
size bs (num z) = unsigned_abs z
size bs (plus a b) = size bs a + size bs b
size bs (minus a b) = size bs a + size bs b
size bs (times a b) = size bs a * size bs b
size bs (neg a) = size bs a

-- each number on the way is below h
abbrev pub fit : ℕ → List ℕ → Expression → Bool
fit h bs (var i) = nat_lt (get_or bs i 0) h
fit h bs (num z) = nat_lt (unsigned_abs z) h
fit h bs (plus a b) = (fit h bs a && fit h bs b) && nat_lt (size bs a + size bs b) h
fit h bs (minus a b) = (fit h bs a && fit h bs b) && nat_lt (size bs a + size bs b) h
fit h bs (times a b) = (fit h bs a && fit h bs b) && nat_lt (size bs a * size bs b) h
fit h bs (neg a) = fit h bs a

abs_sum : (a b : ℤ) → unsigned_abs (a +ℤ b) ≤ unsigned_abs a + unsigned_abs b
abs_sum a b = omega (arith, ints)

abs_difference : (a b : ℤ) → unsigned_abs (a -ℤ b) ≤ unsigned_abs a + unsigned_abs b
abs_difference a b = omega (arith, ints)

abs_neg : (a : ℤ) → unsigned_abs (neg_ℤ a) ≤ unsigned_abs a
abs_neg a = omega (arith, ints)

below : (m h : ℕ) → nat_lt m h ≡ true → m < h
below m h e = grind (arith, nat_tests)

pub bounded_at : (vs : List ℤ) (bs : List ℕ) (i : ℕ) → AreBounded vs bs → unsigned_abs (get_or vs i (pos 0)) ≤ get_or bs i 0
bounded_at [] bs i h = omega arith
bounded_at (v ∷ vs) [] i h = absurd h
bounded_at (v ∷ vs) (b ∷ bs) zero h = h.0
bounded_at (v ∷ vs) (b ∷ bs) (suc i) h = bounded_at vs bs i h.1

pub value-size : (vs : List ℤ) (bs : List ℕ) (e : Expression) → AreBounded vs bs → unsigned_abs (value vs e) ≤ size bs e
value-size vs bs (var i) h = bounded_at vs bs i h
value-size vs bs (num z) h = omega arith
value-size vs bs (plus a b) h = omega (arith, abs_sum (value vs a) (value vs b), value-size vs bs a h, value-size vs bs b h)
value-size vs bs (minus a b) h = omega (arith, abs_difference (value vs a) (value vs b), value-size vs bs a h, value-size vs bs b h)
value-size vs bs (times a b) h = rw (unsigned_abs-mul (value vs a) (value vs b)) (mul-le-mul (value-size vs bs a h) (value-size vs bs b h))
value-size vs bs (neg a) h = omega (arith, abs_neg (value vs a), value-size vs bs a h)

-- ---- why

-- a small number comes back from its word
pub back : (w : Width) (z : ℤ) (m : ℕ) → unsigned_abs z ≤ m → m < 2 ^ hbits w → to_z w (of_z w z) ≡ z
back w z m s h = let f : FitsSigned w z = fits_signed_from_abs w z (omega arith) in to_z-of_z f

small : (h : ℕ) (bs : List ℕ) (e : Expression) → fit h bs e ≡ true → size bs e < h
small h bs (var i) f = below _ _ f
small h bs (num z) f = below _ _ f
small h bs (plus a b) f = below _ _ (both (fit h bs a && fit h bs b) _ f).1
small h bs (minus a b) f = below _ _ (both (fit h bs a && fit h bs b) _ f).1
small h bs (times a b) f = below _ _ (both (fit h bs a && fit h bs b) _ f).1
small h bs (neg a) f = small h bs a f

module _ (w : Width) (vs : List ℤ) (bs : List ℕ) (h : AreBounded vs bs) where
  whole : (e : Expression) (z : ℤ) → fit (2 ^ hbits w) bs e ≡ true → z ≡ value vs e → to_z w (of_z w z) ≡ value vs e
  whole e z f q = ap (λ y. to_z w (of_z w y)) q ∙ back w (value vs e) (size bs e) (value-size vs bs e h) (small (2 ^ hbits w) bs e f)

  pub exact : (e : Expression) → fit (2 ^ hbits w) bs e ≡ true → machine w vs e ≡ value vs e
  exact (var i) f = whole (var i) _ f refl
  exact (num z) f = whole (num z) _ f refl
  exact (plus a b) f =
      let p = (both (fit (2 ^ hbits w) bs a && fit (2 ^ hbits w) bs b) _ f).0 in
      let q = both (fit (2 ^ hbits w) bs a) (fit (2 ^ hbits w) bs b) p in
      whole (plus a b) _ f (λ i. exact a q.0 i +ℤ exact b q.1 i)
  exact (minus a b) f =
      let p = (both (fit (2 ^ hbits w) bs a && fit (2 ^ hbits w) bs b) _ f).0 in
      let q = both (fit (2 ^ hbits w) bs a) (fit (2 ^ hbits w) bs b) p in
      whole (minus a b) _ f (λ i. exact a q.0 i -ℤ exact b q.1 i)
  exact (times a b) f =
      let p = (both (fit (2 ^ hbits w) bs a && fit (2 ^ hbits w) bs b) _ f).0 in
      let q = both (fit (2 ^ hbits w) bs a) (fit (2 ^ hbits w) bs b) p in
      whole (times a b) _ f (λ i. exact a q.0 i *ℤ exact b q.1 i)
  exact (neg a) f = whole (neg a) _ f (ap neg_ℤ (exact a f))

  raw_is : (e : Expression) → fit (2 ^ hbits w) bs e ≡ true → raw w vs e ≡ value vs e
  raw_is (var i) f = refl
  raw_is (num z) f = refl
  raw_is (plus a b) f =
      let p = (both (fit (2 ^ hbits w) bs a && fit (2 ^ hbits w) bs b) _ f).0 in
      let q = both (fit (2 ^ hbits w) bs a) (fit (2 ^ hbits w) bs b) p in
      λ i. exact a q.0 i +ℤ exact b q.1 i
  raw_is (minus a b) f =
      let p = (both (fit (2 ^ hbits w) bs a && fit (2 ^ hbits w) bs b) _ f).0 in
      let q = both (fit (2 ^ hbits w) bs a) (fit (2 ^ hbits w) bs b) p in
      λ i. exact a q.0 i -ℤ exact b q.1 i
  raw_is (times a b) f =
      let p = (both (fit (2 ^ hbits w) bs a && fit (2 ^ hbits w) bs b) _ f).0 in
      let q = both (fit (2 ^ hbits w) bs a) (fit (2 ^ hbits w) bs b) p in
      λ i. exact a q.0 i *ℤ exact b q.1 i
  raw_is (neg a) f = ap neg_ℤ (exact a f)

  pub fits : (e : Expression) → fit (2 ^ hbits w) bs e ≡ true → FitsSigned w (raw w vs e)
  fits e f =
      subst (FitsSigned w) (sym (raw_is e f))
      (fits_signed_from_abs w (value vs e) (let s = value-size vs bs e h in let t = small (2 ^ hbits w) bs e f in omega arith))

-- the size of a number of the list, or of 0 past its end
pub AreWithin-four : (m : ℕ) (zs : List ℤ) → AreWithin m zs → (i : ℕ) → unsigned_abs (get_or zs i (pos 0)) ≤ m
AreWithin-four m [] h i = omega arith
AreWithin-four m (z ∷ zs) h zero = h.0
AreWithin-four m (z ∷ zs) h (suc i) = AreWithin-four m zs h.1 i

-- the four numbers of a list are as small as the list's
pub AreWithin-numbers : (m : ℕ) (zs : List ℤ) → AreWithin m zs → AreWithin m (numbers (vector zs))
AreWithin-numbers m zs h = let p = AreWithin-four m zs h in (p 0, (p 1, (p 2, (p 3, tt))))

pub AreWithin-weaker : (m n : ℕ) (zs : List ℤ) → m ≤ n → AreWithin m zs → AreWithin n zs
AreWithin-weaker m n [] le h = tt
AreWithin-weaker m n (z ∷ zs) le h = ((let k = h.0 in omega arith), AreWithin-weaker m n zs le h.1)

-- the size of a list that equals a small one
pub AreWithin-same : (m : ℕ) (xs ys : List ℤ) → xs ≡ ys → AreWithin m ys → AreWithin m xs
AreWithin-same m xs ys e h = let P : List ℤ → Type 0 = AreWithin m in subst P (sym e) h

pub AreWithin-difference : (m n : ℕ) (xs ys : List ℤ) → AreWithin m xs → AreWithin n ys → AreWithin (m + n) (numbers (difference (vector xs) (vector ys)))
AreWithin-difference m n xs ys h k =
    let p = AreWithin-four m xs h in
    let q = AreWithin-four n ys k in
    let d = λ (i : ℕ). abs_difference (get_or xs i (pos 0)) (get_or ys i (pos 0)) in
    let part : (i : ℕ) → unsigned_abs (get_or xs i (pos 0) -ℤ get_or ys i (pos 0)) ≤ m + n = λ i. omega (arith, p i, q i, d i) in
    (part 0, (part 1, (part 2, (part 3, tt))))
