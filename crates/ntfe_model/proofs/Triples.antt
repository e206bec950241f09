-- Lists of oriented triples: sides and corners, deciding them, and the lemma that triples of positive area with paired sides are none.
use Rattle.std.proofs.Common.{◌≡◌, ◌≢◌, ℕ, zero, suc, ◌⊎◌, inl, inr, ⊎_elim, refl, sym, ap, ◌∙◌, subst, arith, ℤ, pos, ◌+ℤ◌, ◌-ℤ◌, ◌*ℤ◌, List, [], ◌∷◌, unsigned_abs}
use Rattle.std.specs.Prelude.{Contains, ⊤}
use Rattle.std.proofs.lemmas.Int.{ints}
use Rattle.ntfe_nums.specs.Vectors.{Vector, coordinate, area, sign}
use Rattle.ntfe_model.specs.Triangulations.{HasSide, IsRotationOf, IsSameTriple, IsSide, IsTripleOf}
use Rattle.ntfe_model.specs.declared.triangle.Triangle.{Triangle}
use Rattle.ntfe_model.proofs.Listings.{Contains-here, Contains-there, Contains-cases, Contains-none}
use Rattle.ntfe_model.proofs.Areas.{cross, cross_back, area_is, area_total, sides, AreDistinct, paired_total, positive_total, IsPositive, reverse_side}
use Rattle.ntfe_nums.proofs.Ring.{ring}
use Rattle.ntfe_nums.proofs.VectorLemmas.{same4}
use Rattle.ntfe_nums.proofs.Ring.Expression.{var, num, minus, times}

-- ---- decisions

abbrev pub Decided : Type 0 → Type 0
Decided A = A ⊎ (A → ⊥)

pub decide_number : (x y : ℕ) → Decided (x ≡ y)
decide_number zero zero = inl refl
decide_number zero (suc y) = inr (λ e. absurd (omega (arith, e)))
decide_number (suc x) zero = inr (λ e. absurd (omega (arith, e)))
decide_number (suc x) (suc y) = ⊎_elim (λ e. inl (ap suc e)) (λ n. inr (λ e. n (omega (arith, e)))) (decide_number x y)

pub decide_integer : (a b : ℤ) → Decided (a ≡ b)
decide_integer a b = ⊎_elim (λ e. inl (omega (arith, ints, e))) (λ n. inr (λ p. n (omega (arith, ints, p)))) (decide_number (unsigned_abs (a -ℤ b)) 0)

pub decide_vector : (a b : Vector) → Decided (a ≡ b)
decide_vector a b = by (decide_integer a.x1 b.x1) (decide_integer a.x2 b.x2) (decide_integer a.x3 b.x3) (decide_integer a.x4 b.x4)
  where
    by : Decided (a.x1 ≡ b.x1) → Decided (a.x2 ≡ b.x2) → Decided (a.x3 ≡ b.x3) → Decided (a.x4 ≡ b.x4) → Decided (a ≡ b)
    by (inl p) (inl q) (inl r) (inl s) = inl (same4 a b p q r s)
    by (inr n) q r s = inr (λ e. n (ap (λ v. v.x1) e))
    by (inl p) (inr n) r s = inr (λ e. n (ap (λ v. v.x2) e))
    by (inl p) (inl q) (inr n) s = inr (λ e. n (ap (λ v. v.x3) e))
    by (inl p) (inl q) (inl r) (inr n) = inr (λ e. n (ap (λ v. v.x4) e))

-- whether a number is in a list
pub decide_listed : (ks : List ℕ) (p : ℕ) → Decided (Contains ks p)
decide_listed [] p = inr (λ c. Contains-none p c)
decide_listed (k ∷ ks) p = by (decide_number p k) (decide_listed ks p)
  where
    by : Decided (p ≡ k) → Decided (Contains ks p) → Decided (Contains (k ∷ ks) p)
    by (inl e) d = inl (Contains-here p k ks e)
    by (inr n) (inl c) = inl (Contains-there p k ks c)
    by (inr n) (inr m) = inr (λ c. ⊎_elim n m (Contains-cases p k ks c))

-- what is decided of each entry is decided of all
pub decide_each : {A : Type 0} (P : A → Type 0) (xs : List A) → ((x : A) → Contains xs x → Decided (P x)) → Decided ((x : A) → Contains xs x → P x)
decide_each P [] decide = inl (λ x c. Contains-none x c)
decide_each {A} P (z ∷ zs) decide = by (decide z (Contains-here z z zs refl)) (decide_each P zs (λ x c. decide x (Contains-there x z zs c)))
  where
    by : Decided (P z) → Decided ((x : A) → Contains zs x → P x) → Decided ((x : A) → Contains (z ∷ zs) x → P x)
    by (inl p) (inl q) = inl (λ x c. ⊎_elim (λ e. subst P (sym e) p) (q x) (Contains-cases x z zs c))
    by (inl p) (inr n) = inr (λ f. n (λ x c. f x (Contains-there x z zs c)))
    by (inr n) q = inr (λ f. n (f z (Contains-here z z zs refl)))

pub decide_not : {A : Type 0} → Decided A → Decided (A → ⊥)
decide_not (inl a) = inr (λ n. n a)
decide_not (inr n) = inl n

pub decide_either : {A B : Type 0} → Decided A → Decided B → Decided (A ⊎ B)
decide_either (inl a) q = inl (inl a)
decide_either (inr n) (inl b) = inl (inr b)
decide_either (inr n) (inr m) = inr (λ p. ⊎_elim n m p)

pub decide_either3 : {A B C : Type 0} → Decided A → Decided B → Decided C → Decided (A ⊎ B ⊎ C)
decide_either3 p q r = decide_either p (decide_either q r)

pub decide_both : {A B : Type 0} → Decided A → Decided B → Decided (A × B)
decide_both (inl a) (inl b) = inl (a, b)
decide_both (inr n) q = inr (λ p. n p.0)
decide_both (inl a) (inr m) = inr (λ p. m p.1)

pub decide_all3 : {A B C : Type 0} → Decided A → Decided B → Decided C → Decided (A × B × C)
decide_all3 (inl a) (inl b) (inl c) = inl (a, b, c)
decide_all3 (inr n) q r = inr (λ p. n p.0)
decide_all3 (inl a) (inr m) r = inr (λ p. m p.1)
decide_all3 (inl a) (inl b) (inr k) = inr (λ p. k p.2)

pub decide_side : (t : Triangle) (x y : ℕ) → Decided (HasSide t x y)
decide_side t x y =
    decide_either3 (decide_both (decide_number t.a x) (decide_number t.b y)) (decide_both (decide_number t.b x) (decide_number t.c y))
    (decide_both (decide_number t.c x) (decide_number t.a y))

pub decide_corner : (t : Triangle) (x y z : ℕ) → Decided (IsRotationOf t x y z)
decide_corner t x y z =
    decide_either3 (decide_all3 (decide_number t.a x) (decide_number t.b y) (decide_number t.c z))
    (decide_all3 (decide_number t.b x) (decide_number t.c y) (decide_number t.a z))
    (decide_all3 (decide_number t.c x) (decide_number t.a y) (decide_number t.b z))

pub decide_is_side : (ts : List Triangle) (x y : ℕ) → Decided (IsSide ts x y)
decide_is_side [] x y = inr (λ h. Contains-none h.0 h.1)
decide_is_side (t ∷ ts) x y = by (decide_side t x y) (decide_is_side ts x y)
  where
    by : Decided (HasSide t x y) → Decided (IsSide ts x y) → Decided (IsSide (t ∷ ts) x y)
    by (inl s) q = inl (t, Contains-here t t ts refl, s)
    by (inr n) (inl q) = inl (q.0, Contains-there q.0 t ts q.1, q.2)
    by (inr n) (inr m) = inr (λ h. ⊎_elim (λ e. n (let P : Triangle → Type 0 = λ u. HasSide u x y in subst P e h.2)) (λ k. m (h.0, k, h.2)) (Contains-cases h.0 t ts h.1))

pub decide_triple_of : (ts : List Triangle) (t : Triangle) → Decided (IsTripleOf ts t)
decide_triple_of [] t = inr (λ h. Contains-none h.0 h.1)
decide_triple_of (u ∷ ts) t = by (decide_corner u t.a t.b t.c) (decide_triple_of ts t)
  where
    by : Decided (IsSameTriple u t) → Decided (IsTripleOf ts t) → Decided (IsTripleOf (u ∷ ts) t)
    by (inl s) q = inl (u, Contains-here u u ts refl, s)
    by (inr n) (inl q) = inl (q.0, Contains-there q.0 u ts q.1, q.2)
    by (inr n) (inr m) = inr (λ h. ⊎_elim (λ e. n (let P : Triangle → Type 0 = λ v. IsSameTriple v t in subst P e h.2)) (λ k. m (h.0, k, h.2)) (Contains-cases h.0 u ts h.1))

-- ---- sides and corners

pub same_self : (t : Triangle) → IsSameTriple t t
same_self t = inl (refl, refl, refl)

pub same_back : (t u : Triangle) → IsSameTriple t u → IsSameTriple u t
same_back t u (inl h) = inl (sym h.0, sym h.1, sym h.2)
same_back t u (inr (inl h)) = inr (inr (sym h.2, sym h.0, sym h.1))
same_back t u (inr (inr h)) = inr (inl (sym h.1, sym h.2, sym h.0))

-- triples that differ by rotation have the same sides
pub side_same : (t u : Triangle) (x y : ℕ) → IsSameTriple t u → HasSide u x y → HasSide t x y
side_same t u x y (inl h) (inl s) = inl (h.0 ∙ s.0, h.1 ∙ s.1)
side_same t u x y (inl h) (inr (inl s)) = inr (inl (h.1 ∙ s.0, h.2 ∙ s.1))
side_same t u x y (inl h) (inr (inr s)) = inr (inr (h.2 ∙ s.0, h.0 ∙ s.1))
side_same t u x y (inr (inl h)) (inl s) = inr (inl (h.0 ∙ s.0, h.1 ∙ s.1))
side_same t u x y (inr (inl h)) (inr (inl s)) = inr (inr (h.1 ∙ s.0, h.2 ∙ s.1))
side_same t u x y (inr (inl h)) (inr (inr s)) = inl (h.2 ∙ s.0, h.0 ∙ s.1)
side_same t u x y (inr (inr h)) (inl s) = inr (inr (h.0 ∙ s.0, h.1 ∙ s.1))
side_same t u x y (inr (inr h)) (inr (inl s)) = inl (h.1 ∙ s.0, h.2 ∙ s.1)
side_same t u x y (inr (inr h)) (inr (inr s)) = inr (inl (h.2 ∙ s.0, h.0 ∙ s.1))

-- a side has a third point
pub third_point : (t : Triangle) (x y : ℕ) → HasSide t x y → (z : ℕ) × IsRotationOf t x y z
third_point t x y (inl s) = (t.c, inl (s.0, s.1, refl))
third_point t x y (inr (inl s)) = (t.a, inr (inl (s.0, s.1, refl)))
third_point t x y (inr (inr s)) = (t.b, inr (inr (s.0, s.1, refl)))

pub corner_side : (t : Triangle) (x y z : ℕ) → IsRotationOf t x y z → HasSide t x y
corner_side t x y z (inl h) = inl (h.0, h.1)
corner_side t x y z (inr (inl h)) = inr (inl (h.0, h.1))
corner_side t x y z (inr (inr h)) = inr (inr (h.0, h.1))

-- the same corners, from the next point on
pub corner_next : (t : Triangle) (x y z : ℕ) → IsRotationOf t x y z → IsRotationOf t y z x
corner_next t x y z (inl h) = inr (inl (h.1, h.2, h.0))
corner_next t x y z (inr (inl h)) = inr (inr (h.1, h.2, h.0))
corner_next t x y z (inr (inr h)) = inl (h.1, h.2, h.0)

-- triples that differ by rotation have the same corners
pub corner_same : (t u : Triangle) (x y z : ℕ) → IsSameTriple t u → IsRotationOf u x y z → IsRotationOf t x y z
corner_same t u x y z (inl h) (inl s) = inl (h.0 ∙ s.0, h.1 ∙ s.1, h.2 ∙ s.2)
corner_same t u x y z (inl h) (inr (inl s)) = inr (inl (h.1 ∙ s.0, h.2 ∙ s.1, h.0 ∙ s.2))
corner_same t u x y z (inl h) (inr (inr s)) = inr (inr (h.2 ∙ s.0, h.0 ∙ s.1, h.1 ∙ s.2))
corner_same t u x y z (inr (inl h)) (inl s) = inr (inl (h.0 ∙ s.0, h.1 ∙ s.1, h.2 ∙ s.2))
corner_same t u x y z (inr (inl h)) (inr (inl s)) = inr (inr (h.1 ∙ s.0, h.2 ∙ s.1, h.0 ∙ s.2))
corner_same t u x y z (inr (inl h)) (inr (inr s)) = inl (h.2 ∙ s.0, h.0 ∙ s.1, h.1 ∙ s.2)
corner_same t u x y z (inr (inr h)) (inl s) = inr (inr (h.0 ∙ s.0, h.1 ∙ s.1, h.2 ∙ s.2))
corner_same t u x y z (inr (inr h)) (inr (inl s)) = inl (h.1 ∙ s.0, h.2 ∙ s.1, h.0 ∙ s.2)
corner_same t u x y z (inr (inr h)) (inr (inr s)) = inr (inl (h.2 ∙ s.0, h.0 ∙ s.1, h.1 ∙ s.2))

pub side_of_triple_of : (ts : List Triangle) (t : Triangle) (x y : ℕ) → IsTripleOf ts t → HasSide t x y → IsSide ts x y
side_of_triple_of ts t x y h s = (h.0, h.1, side_same h.0 t x y h.2 s)

-- ---- the sides as a list

pub in_sides : (ts : List Triangle) (x y : ℕ) → IsSide ts x y → Contains (sides ts) (x, y)
in_sides [] x y h = Contains-none h.0 h.1
in_sides (t ∷ ts) x y h = by (Contains-cases h.0 t ts h.1) (λ k. in_sides ts x y (h.0, k, h.2))
  where
    pair : (a b : ℕ) → a ≡ x → b ≡ y → (let e : ℕ × ℕ = (x, y) in let f : ℕ × ℕ = (a, b) in e ≡ f)
    pair a b p q = λ i. (sym p i, sym q i)

    of : HasSide t x y → Contains ((t.a, t.b) ∷ (t.b, t.c) ∷ (t.c, t.a) ∷ sides ts) (x, y)
    of (inl s) = Contains-here (x, y) (t.a, t.b) ((t.b, t.c) ∷ (t.c, t.a) ∷ sides ts) (pair t.a t.b s.0 s.1)
    of (inr (inl s)) = Contains-there (x, y) (t.a, t.b) ((t.b, t.c) ∷ (t.c, t.a) ∷ sides ts) (Contains-here (x, y) (t.b, t.c) ((t.c, t.a) ∷ sides ts) (pair t.b t.c s.0 s.1))
    of (inr (inr s)) = Contains-there (x, y) (t.a, t.b) ((t.b, t.c) ∷ (t.c, t.a) ∷ sides ts) (Contains-there (x, y) (t.b, t.c) ((t.c, t.a) ∷ sides ts) (Contains-here (x, y) (t.c, t.a) (sides ts) (pair t.c t.a s.0 s.1)))

    by : ((h.0 ≡ t) ⊎ Contains ts h.0) → (Contains ts h.0 → Contains (sides ts) (x, y)) → Contains ((t.a, t.b) ∷ (t.b, t.c) ∷ (t.c, t.a) ∷ sides ts) (x, y)
    by (inl p) go = of (let P : Triangle → Type 0 = λ u. HasSide u x y in subst P p h.2)
    by (inr k) go = Contains-there (x, y) (t.a, t.b) ((t.b, t.c) ∷ (t.c, t.a) ∷ sides ts) (Contains-there (x, y) (t.b, t.c) ((t.c, t.a) ∷ sides ts) (Contains-there (x, y) (t.c, t.a) (sides ts) (go k)))

pub from_sides : (ts : List Triangle) (e : ℕ × ℕ) → Contains (sides ts) e → IsSide ts e.0 e.1
from_sides [] e h = Contains-none e h
from_sides (t ∷ ts) e h =
    let go = from_sides ts e in
    ⊎_elim (λ p. (t, Contains-here t t ts refl, inl (ap (λ f. f.0) (sym p), ap (λ f. f.1) (sym p))))
    (λ k. ⊎_elim (λ p. (t, Contains-here t t ts refl, inr (inl (ap (λ f. f.0) (sym p), ap (λ f. f.1) (sym p)))))
    (λ l. ⊎_elim (λ p. (t, Contains-here t t ts refl, inr (inr (ap (λ f. f.0) (sym p), ap (λ f. f.1) (sym p)))))
    (λ m. let r = go m in (r.0, Contains-there r.0 t ts r.1, r.2))
    (Contains-cases e (t.c, t.a) (sides ts) l))
    (Contains-cases e (t.b, t.c) ((t.c, t.a) ∷ sides ts) k))
    (Contains-cases e (t.a, t.b) ((t.b, t.c) ∷ (t.c, t.a) ∷ sides ts) h)

-- ---- each triple once

-- no triple of the list is a rotation of a later one
abbrev pub AreDifferent : List Triangle → Type 0
AreDifferent [] = ⊤
AreDifferent (t ∷ ts) = (¬ (IsTripleOf ts t)) × AreDifferent ts

-- the list without repeats and rotations
pub record IsThinned (ts us : List Triangle) : Type 0 where
  pub within : (t : Triangle) → Contains us t → Contains ts t
  pub covers : (t : Triangle) → Contains ts t → IsTripleOf us t
  pub apart : AreDifferent us

pub thinned : (ts : List Triangle) → (us : List Triangle) × IsThinned ts us
thinned [] = ([], record { within = λ t k. k; covers = λ t k. Contains-none t k; apart = tt })
thinned (t ∷ ts) = by (thinned ts)
  where
    split : (us : List Triangle) → IsThinned ts us → Decided (IsTripleOf us t) → (vs : List Triangle) × IsThinned (t ∷ ts) vs
    split us r (inl y) = (
      us,
      record {
        within = λ u k. Contains-there u t ts (r.within u k);
        covers = λ u k. ⊎_elim (λ e. (let P : Triangle → Type 0 = λ v. IsTripleOf us v in subst P (sym e) y)) (λ l. r.covers u l) (Contains-cases u t ts k);
        apart = r.apart;
      },
    )
    split us r (inr n) = (
      t ∷ us,
      record {
        within = λ u k. ⊎_elim (λ e. Contains-here u t ts e) (λ l. Contains-there u t ts (r.within u l)) (Contains-cases u t us k);
        covers = λ u k. ⊎_elim (λ e. (t, Contains-here t t us refl, (let P : Triangle → Type 0 = λ v. IsSameTriple t v in subst P (sym e) (same_self t))))
            (λ l. let c = r.covers u l in (c.0, Contains-there c.0 t us c.1, c.2)) (Contains-cases u t ts k);
        apart = (n, r.apart);
      },
    )

    by : (us : List Triangle) × IsThinned ts us → (vs : List Triangle) × IsThinned (t ∷ ts) vs
    by r = split r.0 r.1 (decide_triple_of r.0 t)

-- the corners of the triple are three
abbrev pub AreThree : Triangle → Type 0
AreThree t = (t.a ≢ t.b) × (t.b ≢ t.c) × (t.c ≢ t.a)

-- no directed side in two triples
abbrev pub IsOnce : List Triangle → Type 0
IsOnce ts = (t u : Triangle) → Contains ts t → Contains ts u → (x y : ℕ) → HasSide t x y → HasSide u x y → IsSameTriple t u

pub distinct_sides : (ts : List Triangle) → AreDifferent ts → IsOnce ts → ((t : Triangle) → Contains ts t → AreThree t) → AreDistinct (sides ts)
distinct_sides [] d o f = tt
distinct_sides (t ∷ ts) d o f =
    let here = Contains-here t t ts refl in
    let c = f t here in
    let later : (x y : ℕ) → HasSide t x y → Contains (sides ts) (x, y) → ⊥ =
    (λ x y s k. let r = from_sides ts (x, y) k in d.0 (r.0, r.1, o r.0 t (Contains-there r.0 t ts r.1) here x y r.2 s)) in (
      (λ k. ⊎_elim (λ p. c.0 (ap (λ e. e.0) p)) (λ l. ⊎_elim (λ p. c.2 (sym (ap (λ e. e.0) p))) (λ m. later t.a t.b (inl (refl, refl)) m) (Contains-cases (t.a, t.b) (t.c, t.a) (sides ts) l)) (Contains-cases (t.a, t.b) (t.b, t.c) ((t.c, t.a) ∷ sides ts) k)),
      (
        (λ l. ⊎_elim (λ p. c.1 (ap (λ e. e.0) p)) (λ m. later t.b t.c (inr (inl (refl, refl))) m) (Contains-cases (t.b, t.c) (t.c, t.a) (sides ts) l)),
        (
          (λ m. later t.c t.a (inr (inr (refl, refl))) m),
          distinct_sides ts d.1 (λ u v k l. o u v (Contains-there u t ts k) (Contains-there v t ts l)) (λ u k. f u (Contains-there u t ts k)),
        ),
      ),
    )

-- ---- positive areas

flat : (a b c d : ℤ) → (a -ℤ a) *ℤ d -ℤ (b -ℤ b) *ℤ c ≡ pos 0
flat a b c d =
    ring (a ∷ b ∷ c ∷ d ∷ [])
    (minus (times (minus (var 0) (var 0)) (var 3)) (times (minus (var 1) (var 1)) (var 2))) (num (pos 0)) refl

flat_last : (a b c d : ℤ) → a *ℤ (d -ℤ d) -ℤ b *ℤ (c -ℤ c) ≡ pos 0
flat_last a b c d =
    ring (a ∷ b ∷ c ∷ d ∷ [])
    (minus (times (var 0) (minus (var 3) (var 3))) (times (var 1) (minus (var 2) (var 2)))) (num (pos 0)) refl

-- the corners go round: the area is that from the next corner on
pub area_next : (q : ℕ × ℕ) (a b c : Vector) → area q a b c ≡ area q b c a
area_next q a b c = area_is q a b c ∙ turned (cross q a b) (cross q b c) (cross q c a) ∙ sym (area_is q b c a)
  where
    turned : (x y z : ℤ) → x +ℤ y +ℤ z ≡ y +ℤ z +ℤ x
    turned x y z = omega (arith, ints)

zero_area : (q : ℕ × ℕ) (a b c : Vector) → a ≡ b → area q a b c ≡ pos 0
zero_area q a b c e =
    ap (λ v. area q v b c) e
    ∙ flat (coordinate q.0 b) (coordinate q.1 b) (coordinate q.0 c -ℤ coordinate q.0 b) (coordinate q.1 c -ℤ coordinate q.1 b)

pub positive_apart : (q : ℕ × ℕ) (a b c : Vector) → IsPositive (area q a b c) → a ≢ b
positive_apart q a b c p e = let z : sign (area q a b c) ≡ pos 0 = ap sign (zero_area q a b c e) in let f : pos 0 ≡ pos 1 = sym z ∙ p in absurd (omega (arith, ints, f))

pub positive_three : (q : ℕ × ℕ) (at : ℕ → Vector) (t : Triangle) → IsPositive (area q (at t.a) (at t.b) (at t.c)) → AreThree t
positive_three q at t p =
    let r : IsPositive (area q (at t.b) (at t.c) (at t.a)) = ap sign (sym (area_next q (at t.a) (at t.b) (at t.c))) ∙ p in
    let s : IsPositive (area q (at t.c) (at t.a) (at t.b)) = ap sign (sym (area_next q (at t.b) (at t.c) (at t.a))) ∙ r in (
      (λ e. positive_apart q (at t.a) (at t.b) (at t.c) p (ap at e)),
      (λ e. positive_apart q (at t.b) (at t.c) (at t.a) r (ap at e)),
      (λ e. positive_apart q (at t.c) (at t.a) (at t.b) s (ap at e)),
    )

-- Triples of positive area, no directed side in two of them, and with each side its reverse: there are none. Repeats and rotations in the list don't matter.
pub none_paired : (q : ℕ × ℕ) (at : ℕ → Vector) (ts : List Triangle)
    → ((t : Triangle) → Contains ts t → IsPositive (area q (at t.a) (at t.b) (at t.c)))
    → IsOnce ts → ((x y : ℕ) → IsSide ts x y → IsSide ts y x) → ts ≡ []
none_paired q at ts positive once paired = by (thinned ts)
  where
    empty : (xs us : List Triangle) → IsThinned xs us → us ≡ [] → xs ≡ []
    empty [] us r e = refl
    empty (x ∷ xs) us r e = let c = r.covers x (Contains-here x x xs refl) in Contains-none c.0 (let P : List Triangle → Type 0 = λ vs. Contains vs c.0 in subst P e c.1)

    by : (us : List Triangle) × IsThinned ts us → ts ≡ []
    by (us, r) =
        let d = distinct_sides us r.apart (λ t u k l. once t u (r.within t k) (r.within u l)) (λ t k. positive_three q at t (positive t (r.within t k))) in
        let back : (e : ℕ × ℕ) → Contains (sides us) e → Contains (sides us) (reverse_side e) = (λ e k.
        let s = from_sides us e k in
        let p = paired e.0 e.1 (s.0, r.within s.0 s.1, s.2) in
        in_sides us e.1 e.0 (side_of_triple_of us p.0 e.1 e.0 (r.covers p.0 p.1) p.2)) in
        let z = paired_total (λ e. cross q (at e.0) (at e.1)) (λ e. cross_back q (at e.1) (at e.0)) (sides us) d back in
        empty ts us r (positive_total (λ t. area q (at t.a) (at t.b) (at t.c)) us (λ t k. positive t (r.within t k)) (area_total q at us ∙ z))

-- where the sides are distinct as a list, no two triples have one
pub once_distinct : (ts : List Triangle) → AreDistinct (sides ts) → IsOnce ts
once_distinct [] d = λ t u k l. Contains-none t k
once_distinct (s ∷ ts) d = λ t u k l x y p q. by (once_distinct ts d.1.1.1) t u x y p q (Contains-cases t s ts k) (Contains-cases u s ts l)
  where
    clash : (v : Triangle) (x y : ℕ) → HasSide s x y → Contains ts v → HasSide v x y → ⊥
    clash v x y p k q = of p (in_sides ts x y (v, k, q))
      where
        moved : (a b : ℕ) → a ≡ x → b ≡ y → Contains (sides ts) (x, y) → Contains (sides ts) (a, b)
        moved a b e f m = let P : ℕ → Type 0 = λ z. Contains (sides ts) (z, y) in let Q : ℕ → Type 0 = λ z. Contains (sides ts) (a, z) in subst Q (sym f) (subst P (sym e) m)

        of : HasSide s x y → Contains (sides ts) (x, y) → ⊥
        of (inl h) m = d.0 (Contains-there (s.a, s.b) (s.b, s.c) ((s.c, s.a) ∷ sides ts) (Contains-there (s.a, s.b) (s.c, s.a) (sides ts) (moved s.a s.b h.0 h.1 m)))
        of (inr (inl h)) m = d.1.0 (Contains-there (s.b, s.c) (s.c, s.a) (sides ts) (moved s.b s.c h.0 h.1 m))
        of (inr (inr h)) m = d.1.1.0 (moved s.c s.a h.0 h.1 m)

    by : IsOnce ts → (t u : Triangle) (x y : ℕ) → HasSide t x y → HasSide u x y → ((t ≡ s) ⊎ Contains ts t) → ((u ≡ s) ⊎ Contains ts u) → IsSameTriple t u
    by go t u x y p q (inl e) (inl f) = let P : Triangle → Type 0 = λ z. IsSameTriple t z in subst P (e ∙ sym f) (same_self t)
    by go t u x y p q (inl e) (inr l) = let P : Triangle → Type 0 = λ z. HasSide z x y in absurd (clash u x y (subst P e p) l q)
    by go t u x y p q (inr k) (inl f) = let P : Triangle → Type 0 = λ z. HasSide z x y in absurd (clash t x y (subst P f q) k p)
    by go t u x y p q (inr k) (inr l) = go t u k l x y p q

-- the same with the sides as one list without repeats
pub none_distinct : (q : ℕ × ℕ) (at : ℕ → Vector) (ts : List Triangle)
    → ((t : Triangle) → Contains ts t → IsPositive (area q (at t.a) (at t.b) (at t.c)))
    → AreDistinct (sides ts) → ((e : ℕ × ℕ) → Contains (sides ts) e → Contains (sides ts) (reverse_side e)) → ts ≡ []
none_distinct q at ts positive d paired =
    let z = paired_total (λ e. cross q (at e.0) (at e.1)) (λ e. cross_back q (at e.1) (at e.0)) (sides ts) d paired in
    positive_total (λ t. area q (at t.a) (at t.b) (at t.c)) ts positive (area_total q at ts ∙ z)
