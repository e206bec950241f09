-- Points of a segment: its ends, and the points inside it.
use Rattle.std.proofs.Common.{◌≡◌, ◌≢◌, ℕ, ◌-◌, ◌<◌, ◌≤◌, ⊎_elim, refl, sym, ap, ◌∙◌, arith, ℤ, pos, ◌+ℤ◌, ◌-ℤ◌, ◌*ℤ◌, [], ◌∷◌}
use Rattle.std.proofs.lemmas.Int.{ints}
use Rattle.ntfe_nums.specs.Vectors.{Vector, difference, multiple}
use Rattle.ntfe_nums.proofs.Ring.{ring, product_comm}
use Rattle.ntfe_nums.proofs.Ring.Expression.{var, num, plus, minus, times}
use Rattle.ntfe_nums.proofs.Signs.{no_difference}
use Rattle.ntfe_model.specs.Triangulations.{mixed}
use Rattle.ntfe_model.proofs.PlaneNumbers.{zero_factor, cancel}
use Rattle.face_chart.proofs.SegmentLemmas.{mix_number}
use Rattle.fine_triples.specs.Meetings.{IsInside}
use Rattle.ntfe_nums.proofs.VectorLemmas.{same4}

-- ---- numbers and vectors

pub nothing : (s : ℤ) (a b : ℤ) → s ≢ pos 0 → s *ℤ (b -ℤ a) ≡ pos 0 → a ≡ b
nothing s a b h e = ⊎_elim (λ p. absurd (h p)) (λ q. no_difference a b q) (zero_factor s (b -ℤ a) e)

positive_is : (n : ℕ) → 0 < n → pos n ≢ pos 0
positive_is n h e = absurd (omega (arith, ints, h, e))

rest_is : (n s : ℕ) → s < n → pos n -ℤ pos s ≢ pos 0
rest_is n s h e = absurd (omega (arith, ints, h, e))

-- what is equal n times, is equal
pub scale_back : (n : ℕ) (x y : Vector) → 0 < n → multiple (pos n) x ≡ multiple (pos n) y → x ≡ y
scale_back n x y h e = same4 x y (one x.x1 y.x1 (ap (λ v. v.x1) e)) (one x.x2 y.x2 (ap (λ v. v.x2) e)) (one x.x3 y.x3 (ap (λ v. v.x3) e)) (one x.x4 y.x4 (ap (λ v. v.x4) e))
  where
    one : (i j : ℤ) → pos n *ℤ i ≡ pos n *ℤ j → i ≡ j
    one i j p = cancel i j (pos n) (omega (arith, ints, h)) (product_comm i (pos n) ∙ p ∙ product_comm (pos n) j)

-- ---- the ends

-- a share of nothing is the first end, and the whole is the last
pub share_none : (n : ℕ) (a b : Vector) → mixed n 0 a b ≡ multiple (pos n) a
share_none n a b = same4 (mixed n 0 a b) (multiple (pos n) a) (one a.x1 b.x1) (one a.x2 b.x2) (one a.x3 b.x3) (one a.x4 b.x4)
  where
    one : (i j : ℤ) → (pos n -ℤ pos 0) *ℤ i +ℤ pos 0 *ℤ j ≡ pos n *ℤ i
    one i j = ring (pos n ∷ i ∷ j ∷ []) (plus (times (minus (var 0) (num (pos 0))) (var 1)) (times (num (pos 0)) (var 2))) (times (var 0) (var 1)) refl

pub share_whole : (n : ℕ) (a b : Vector) → mixed n n a b ≡ multiple (pos n) b
share_whole n a b = same4 (mixed n n a b) (multiple (pos n) b) (one a.x1 b.x1) (one a.x2 b.x2) (one a.x3 b.x3) (one a.x4 b.x4)
  where
    one : (i j : ℤ) → (pos n -ℤ pos n) *ℤ i +ℤ pos n *ℤ j ≡ pos n *ℤ j
    one i j = ring (pos n ∷ i ∷ j ∷ []) (plus (times (minus (var 0) (var 0)) (var 1)) (times (var 0) (var 2))) (times (var 0) (var 2)) refl

pub share_same : (n s : ℕ) (a : Vector) → mixed n s a a ≡ multiple (pos n) a
share_same n s a = same4 (mixed n s a a) (multiple (pos n) a) (one a.x1) (one a.x2) (one a.x3) (one a.x4)
  where
    one : (i : ℤ) → (pos n -ℤ pos s) *ℤ i +ℤ pos s *ℤ i ≡ pos n *ℤ i
    one i = ring (pos n ∷ pos s ∷ i ∷ []) (plus (times (minus (var 0) (var 1)) (var 2)) (times (var 1) (var 2))) (times (var 0) (var 2)) refl

-- the share from the other end
pub share_turn : (n s : ℕ) (a b : Vector) → s ≤ n → mixed n s a b ≡ mixed n (n - s) b a
share_turn n s a b h = same4 (mixed n s a b) (mixed n (n - s) b a) (one a.x1 b.x1) (one a.x2 b.x2) (one a.x3 b.x3) (one a.x4 b.x4)
  where
    rest : pos n -ℤ pos s ≡ pos (n - s)
    rest = omega (arith, ints, h)

    one : (i j : ℤ) → (pos n -ℤ pos s) *ℤ i +ℤ pos s *ℤ j ≡ (pos n -ℤ pos (n - s)) *ℤ j +ℤ pos (n - s) *ℤ i
    one i j =
        ring (pos n ∷ pos s ∷ i ∷ j ∷ []) (plus (times (minus (var 0) (var 1)) (var 2)) (times (var 1) (var 3)))
        (plus (times (minus (var 0) (minus (var 0) (var 1))) (var 3)) (times (minus (var 0) (var 1)) (var 2))) refl
        ∙ ap (λ z. (pos n -ℤ z) *ℤ j +ℤ z *ℤ i) rest

-- a share that is not nothing is no first end of a segment with two ends, and one that is not the whole no last
pub first_end : (n s : ℕ) (a b : Vector) → 0 < s → mixed n s a b ≡ multiple (pos n) a → a ≡ b
first_end n s a b h e = same4 a b (one a.x1 b.x1 (ap (λ v. v.x1) e)) (one a.x2 b.x2 (ap (λ v. v.x2) e)) (one a.x3 b.x3 (ap (λ v. v.x3) e)) (one a.x4 b.x4 (ap (λ v. v.x4) e))
  where
    none : (z : ℤ) → z -ℤ z ≡ pos 0
    none z = omega (arith, ints)

    one : (i j : ℤ) → (pos n -ℤ pos s) *ℤ i +ℤ pos s *ℤ j ≡ pos n *ℤ i → i ≡ j
    one i j p =
        nothing (pos s) i j (positive_is s h)
        (ring (pos n ∷ pos s ∷ i ∷ j ∷ []) (times (var 1) (minus (var 3) (var 2))) (minus (plus (times (minus (var 0) (var 1)) (var 2)) (times (var 1) (var 3))) (times (var 0) (var 2))) refl
        ∙ ap (λ z. z -ℤ pos n *ℤ i) p ∙ none (pos n *ℤ i))

pub last_end : (n s : ℕ) (a b : Vector) → s < n → mixed n s a b ≡ multiple (pos n) b → a ≡ b
last_end n s a b h e = same4 a b (one a.x1 b.x1 (ap (λ v. v.x1) e)) (one a.x2 b.x2 (ap (λ v. v.x2) e)) (one a.x3 b.x3 (ap (λ v. v.x3) e)) (one a.x4 b.x4 (ap (λ v. v.x4) e))
  where
    none : (z : ℤ) → z -ℤ z ≡ pos 0
    none z = omega (arith, ints)

    one : (i j : ℤ) → (pos n -ℤ pos s) *ℤ i +ℤ pos s *ℤ j ≡ pos n *ℤ j → i ≡ j
    one i j p =
        nothing (pos n -ℤ pos s) i j (rest_is n s h)
        (ring (pos n ∷ pos s ∷ i ∷ j ∷ []) (times (minus (var 0) (var 1)) (minus (var 3) (var 2))) (minus (times (var 0) (var 3)) (plus (times (minus (var 0) (var 1)) (var 2)) (times (var 1) (var 3)))) refl
        ∙ ap (λ z. pos n *ℤ j -ℤ z) p ∙ none (pos n *ℤ j))

-- ---- inside

pub inside_from : (n s : ℕ) (a b x : Vector) → a ≢ b → 0 < s → s < n → multiple (pos n) (difference x a) ≡ multiple (pos s) (difference b a) → IsInside a b x
inside_from n s a b x d h k e = record {
  on = record { n = n; s = s; range = (omega (arith, h, k), omega (arith, k)); mix = mix };
  first = λ q. d (first_end n s a b h (sym mix ∙ ap (multiple (pos n)) q));
  second = λ q. d (last_end n s a b k (sym mix ∙ ap (multiple (pos n)) q));
}
  where
    m1 : pos n *ℤ x.x1 ≡ (pos n -ℤ pos s) *ℤ a.x1 +ℤ pos s *ℤ b.x1
    m1 = mix_number (pos n) (pos s) a.x1 b.x1 x.x1 (ap (λ v. v.x1) e)

    m2 : pos n *ℤ x.x2 ≡ (pos n -ℤ pos s) *ℤ a.x2 +ℤ pos s *ℤ b.x2
    m2 = mix_number (pos n) (pos s) a.x2 b.x2 x.x2 (ap (λ v. v.x2) e)

    m3 : pos n *ℤ x.x3 ≡ (pos n -ℤ pos s) *ℤ a.x3 +ℤ pos s *ℤ b.x3
    m3 = mix_number (pos n) (pos s) a.x3 b.x3 x.x3 (ap (λ v. v.x3) e)

    m4 : pos n *ℤ x.x4 ≡ (pos n -ℤ pos s) *ℤ a.x4 +ℤ pos s *ℤ b.x4
    m4 = mix_number (pos n) (pos s) a.x4 b.x4 x.x4 (ap (λ v. v.x4) e)

    mix : multiple (pos n) x ≡ mixed n s a b
    mix = same4 (multiple (pos n) x) (mixed n s a b) m1 m2 m3 m4

pub inside_turn : (a b x : Vector) → IsInside a b x → IsInside b a x
inside_turn a b x h = record {
  on = record {
    n = h.on.n;
    s = h.on.n - h.on.s;
    range = (h.on.range.0, (let k = h.on.range.1 in omega (arith, k)));
    mix = h.on.mix ∙ share_turn h.on.n h.on.s a b h.on.range.1;
  };
  first = h.second;
  second = h.first;
}

-- a segment with one end has nothing inside
pub inside_none : (a x : Vector) → IsInside a a x → ⊥
inside_none a x h = h.first (scale_back h.on.n x a h.on.range.0 (h.on.mix ∙ share_same h.on.n h.on.s a))
