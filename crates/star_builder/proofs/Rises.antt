-- Things with places and heights: how far one lies above a linear form, and above the form through four others.
--     gap s n x      s times the height of x, less the value of the form n there
--     gap_multiple, gap_tilt      multiples of gaps make a gap
--     rise a b c d x      the determinant of a, b, c, d times the height of x above the form through them
--     gap_fourth      a gap that is 0 at a, b and c, by its value at d
--     gap_rise      a gap that is 0 at a, b, c and d is a multiple of the rise
--     rise_gap      the rise is a gap
use Rattle.std.proofs.Common.{◌≡◌, ℕ, ◌+◌, refl, ap, ◌∙◌, ℤ, pos, ◌+ℤ◌, ◌-ℤ◌, ◌*ℤ◌, neg_ℤ, List, [], ◌∷◌}
use Rattle.ntfe_nums.specs.Vectors.{Vector, dot, det4, cofactors, difference, multiple, vector_sum}
use Rattle.ntfe_nums.proofs.Ring.{Expression, ring}
use Rattle.ntfe_nums.proofs.Ring.Expression.{var, num, plus, minus, times, neg}
use Rattle.ntfe_nums.proofs.DetLemmas.{row, det4E, dotE, normalE, of4, det4-cofactors}
use Rattle.ntfe_nums.proofs.Exchanges.{cramer_form, swap_first, swap_middle, swap_last, swap_ends, swap_outer, same_front, same_odd, same_inner, same_first, same_second, same_third}

-- ---- a determinant as a linear form of each of its rows

first_row : (b c d x : Vector) → det4 x b c d ≡ neg_ℤ (dot (cofactors b c d) x)
unfolding det4 cofactors
first_row b c d x = ring (of4 b c d x) (det4E (row 12) (row 0) (row 4) (row 8)) (neg (dotE (normalE (row 0) (row 4) (row 8)) (row 12))) refl

second_row : (a c d x : Vector) → det4 a x c d ≡ dot (cofactors a c d) x
unfolding det4 cofactors
second_row a c d x = ring (of4 a c d x) (det4E (row 0) (row 12) (row 4) (row 8)) (dotE (normalE (row 0) (row 4) (row 8)) (row 12)) refl

third_row : (a b d x : Vector) → det4 a b x d ≡ neg_ℤ (dot (cofactors a b d) x)
unfolding det4 cofactors
third_row a b d x = ring (of4 a b d x) (det4E (row 0) (row 4) (row 12) (row 8)) (neg (dotE (normalE (row 0) (row 4) (row 8)) (row 12))) refl

-- ---- gaps and rises

module _ {A : Type 0} (place : A → Vector) (height : A → ℤ) where
  abbrev pub gap : ℤ → Vector → A → ℤ
  gap s n x = s *ℤ height x -ℤ dot n (place x)

  pub gap_tilt : (m s k t : ℤ) (n u : Vector) (x : A) → m *ℤ gap s n x -ℤ k *ℤ gap t u x ≡ gap (m *ℤ s -ℤ k *ℤ t) (difference (multiple m n) (multiple k u)) x
  gap_tilt m s k t n u x =
      let p = place x in
      let mixE = λ (i : ℕ). minus (times (var 0) (var (i + 4))) (times (var 2) (var (i + 8))) in
      let gapE = λ (i j : ℕ). minus (times (var i) (var 16)) (dotE (row j) (row 12)) in
      ring (m ∷ s ∷ k ∷ t ∷ n.x1 ∷ n.x2 ∷ n.x3 ∷ n.x4 ∷ u.x1 ∷ u.x2 ∷ u.x3 ∷ u.x4 ∷ p.x1 ∷ p.x2 ∷ p.x3 ∷ p.x4 ∷ height x ∷ [])
      (minus (times (var 0) (gapE 1 4)) (times (var 2) (gapE 3 8)))
      (minus (times (minus (times (var 0) (var 1)) (times (var 2) (var 3))) (var 16))
      (dotE (record { x1 = mixE 0; x2 = mixE 1; x3 = mixE 2; x4 = mixE 3 }) (row 12))) refl

  pub gap_multiple : (k s : ℤ) (n : Vector) (x : A) → k *ℤ gap s n x ≡ gap (k *ℤ s) (multiple k n) x
  gap_multiple k s n x =
      let p = place x in
      ring (k ∷ s ∷ height x ∷ pos 0 ∷ n.x1 ∷ n.x2 ∷ n.x3 ∷ n.x4 ∷ p.x1 ∷ p.x2 ∷ p.x3 ∷ p.x4 ∷ [])
      (times (var 0) (minus (times (var 1) (var 2)) (dotE (row 4) (row 8))))
      (minus (times (times (var 0) (var 1)) (var 2)) (dotE (record { x1 = times (var 0) (var 4); x2 = times (var 0) (var 5); x3 = times (var 0) (var 6); x4 = times (var 0) (var 7) }) (row 8))) refl

  abbrev pub volume : A → A → A → A → ℤ
  volume a b c d = det4 (place a) (place b) (place c) (place d)

  abbrev risen : ℤ → ℤ → ℤ → ℤ → ℤ → ℤ → ℤ → ℤ → ℤ → ℤ → ℤ
  risen size l1 l2 l3 l4 h h1 h2 h3 h4 = size *ℤ h -ℤ (l1 *ℤ h1 +ℤ l2 *ℤ h2 +ℤ l3 *ℤ h3 +ℤ l4 *ℤ h4)

  abbrev pub rise : A → A → A → A → A → ℤ
  rise a b c d x = risen (volume a b c d) (volume x b c d) (volume a x c d) (volume a b x d) (volume a b c x) (height x) (height a) (height b) (height c) (height d)

  -- a gap that is 0 at a, b and c is determined by its value at d
  pub gap_fourth : (s : ℤ) (n : Vector) (a b c d x : A) → gap s n a ≡ pos 0 → gap s n b ≡ pos 0 → gap s n c ≡ pos 0
      → volume a b c d *ℤ gap s n x ≡ volume a b c x *ℤ gap s n d +ℤ s *ℤ rise a b c d x
  gap_fourth s n a b c d x ea eb ec =
      by (volume a b c d) (volume x b c d) (volume a x c d) (volume a b x d) (volume a b c x) (height x) (height a) (height b) (height c) (height d)
      (dot n (place x)) (dot n (place a)) (dot n (place b)) (dot n (place c)) (dot n (place d)) ea eb ec (cramer_form n (place a) (place b) (place c) (place d) (place x))
    where
      by : (size l1 l2 l3 l4 h h1 h2 h3 h4 f f1 f2 f3 f4 : ℤ) → s *ℤ h1 -ℤ f1 ≡ pos 0 → s *ℤ h2 -ℤ f2 ≡ pos 0 → s *ℤ h3 -ℤ f3 ≡ pos 0
          → size *ℤ f ≡ l1 *ℤ f1 +ℤ l2 *ℤ f2 +ℤ l3 *ℤ f3 +ℤ l4 *ℤ f4 → size *ℤ (s *ℤ h -ℤ f) ≡ l4 *ℤ (s *ℤ h4 -ℤ f4) +ℤ s *ℤ risen size l1 l2 l3 l4 h h1 h2 h3 h4
      by size l1 l2 l3 l4 h h1 h2 h3 h4 f f1 f2 f3 f4 e1 e2 e3 cramer =
          let g = λ (i j : ℕ). minus (times (var 15) (var i)) (var j) in
          let sum4 = λ (i : ℕ). plus (plus (plus (times (var 1) (var i)) (times (var 2) (var (i + 1)))) (times (var 3) (var (i + 2)))) (times (var 4) (var (i + 3))) in
          ring (size ∷ l1 ∷ l2 ∷ l3 ∷ l4 ∷ h ∷ h1 ∷ h2 ∷ h3 ∷ h4 ∷ f ∷ f1 ∷ f2 ∷ f3 ∷ f4 ∷ s ∷ [])
          (times (var 0) (g 5 10))
          (plus (minus (plus (times (var 4) (g 9 14)) (times (var 15) (minus (times (var 0) (var 5)) (sum4 6)))) (minus (times (var 0) (var 10)) (sum4 11)))
          (plus (plus (times (var 1) (g 6 11)) (times (var 2) (g 7 12))) (times (var 3) (g 8 13)))) refl
          ∙ (λ i. (l4 *ℤ (s *ℤ h4 -ℤ f4) +ℤ s *ℤ risen size l1 l2 l3 l4 h h1 h2 h3 h4) -ℤ (cramer i -ℤ (l1 *ℤ f1 +ℤ l2 *ℤ f2 +ℤ l3 *ℤ f3 +ℤ l4 *ℤ f4)) +ℤ (l1 *ℤ e1 i +ℤ l2 *ℤ e2 i +ℤ l3 *ℤ e3 i))
          ∙ ring ((l4 *ℤ (s *ℤ h4 -ℤ f4) +ℤ s *ℤ risen size l1 l2 l3 l4 h h1 h2 h3 h4) ∷ (l1 *ℤ f1 +ℤ l2 *ℤ f2 +ℤ l3 *ℤ f3 +ℤ l4 *ℤ f4) ∷ l1 ∷ l2 ∷ l3 ∷ [])
          (plus (minus (var 0) (minus (var 1) (var 1))) (plus (plus (times (var 2) (num (pos 0))) (times (var 3) (num (pos 0)))) (times (var 4) (num (pos 0)))))
          (var 0) refl

  pub gap_rise : (s : ℤ) (n : Vector) (a b c d x : A) → gap s n a ≡ pos 0 → gap s n b ≡ pos 0 → gap s n c ≡ pos 0 → gap s n d ≡ pos 0
      → volume a b c d *ℤ gap s n x ≡ s *ℤ rise a b c d x
  gap_rise s n a b c d x ea eb ec ed =
      gap_fourth s n a b c d x ea eb ec ∙ ap (λ z. volume a b c x *ℤ z +ℤ s *ℤ rise a b c d x) ed
      ∙ ring (volume a b c x ∷ (s *ℤ rise a b c d x) ∷ []) (plus (times (var 0) (num (pos 0))) (var 1)) (var 1) refl

  -- the coefficients of the form through a, b, c, d, times their determinant
  abbrev pub through : A → A → A → A → Vector
  through a b c d =
      vector_sum (multiple (neg_ℤ (height a)) (cofactors (place b) (place c) (place d))) (vector_sum (multiple (height b) (cofactors (place a) (place c) (place d)))
      (vector_sum (multiple (neg_ℤ (height c)) (cofactors (place a) (place b) (place d))) (multiple (height d) (cofactors (place a) (place b) (place c)))))

  pub rise_gap : (a b c d x : A) → rise a b c d x ≡ gap (volume a b c d) (through a b c d) x
  rise_gap a b c d x =
      (λ i. risen (volume a b c d) (first_row (place b) (place c) (place d) (place x) i) (second_row (place a) (place c) (place d) (place x) i) (third_row (place a) (place b) (place d) (place x) i)
      (det4-cofactors (place a) (place b) (place c) (place x) i) (height x) (height a) (height b) (height c) (height d))
      ∙ gathered (cofactors (place b) (place c) (place d)) (cofactors (place a) (place c) (place d)) (cofactors (place a) (place b) (place d)) (cofactors (place a) (place b) (place c))
      (place x) (volume a b c d) (height x) (height a) (height b) (height c) (height d)
    where
      gathered : (m n o q p : Vector) (size h h1 h2 h3 h4 : ℤ) → risen size (neg_ℤ (dot m p)) (dot n p) (neg_ℤ (dot o p)) (dot q p) h h1 h2 h3 h4
          ≡ size *ℤ h -ℤ dot (vector_sum (multiple (neg_ℤ h1) m) (vector_sum (multiple h2 n) (vector_sum (multiple (neg_ℤ h3) o) (multiple h4 q)))) p
      gathered m n o q p size h h1 h2 h3 h4 =
          let sumE = λ (i : ℕ). plus (times (neg (var 22)) (var i)) (plus (times (var 23) (var (i + 4))) (plus (times (neg (var 24)) (var (i + 8))) (times (var 25) (var (i + 12))))) in
          ring (m.x1 ∷ m.x2 ∷ m.x3 ∷ m.x4 ∷ n.x1 ∷ n.x2 ∷ n.x3 ∷ n.x4 ∷ o.x1 ∷ o.x2 ∷ o.x3 ∷ o.x4 ∷ q.x1 ∷ q.x2 ∷ q.x3 ∷ q.x4 ∷ p.x1 ∷ p.x2 ∷ p.x3 ∷ p.x4 ∷ size ∷ h ∷ h1 ∷ h2 ∷ h3 ∷ h4 ∷ [])
          (minus (times (var 20) (var 21)) (plus (plus (plus (times (neg (dotE (row 0) (row 16))) (var 22)) (times (dotE (row 4) (row 16)) (var 23))) (times (neg (dotE (row 8) (row 16))) (var 24))) (times (dotE (row 12) (row 16)) (var 25))))
          (minus (times (var 20) (var 21)) (dotE (record { x1 = sumE 0; x2 = sumE 1; x3 = sumE 2; x4 = sumE 3 }) (row 16))) refl

  -- ---- where the rise is 0

  pub rise_first : (a b c d : A) → rise a b c d a ≡ pos 0
  rise_first a b c d =
      (λ i. risen (volume a b c d) (volume a b c d) (same_front (place a) (place c) (place d) i) (same_odd (place a) (place b) (place d) i) (same_first (place a) (place b) (place c) i) (height a) (height a) (height b) (height c) (height d))
      ∙ ring (volume a b c d ∷ height a ∷ height b ∷ height c ∷ height d ∷ [])
      (minus (times (var 0) (var 1)) (plus (plus (plus (times (var 0) (var 1)) (times (num (pos 0)) (var 2))) (times (num (pos 0)) (var 3))) (times (num (pos 0)) (var 4)))) (num (pos 0)) refl

  pub rise_second : (a b c d : A) → rise a b c d b ≡ pos 0
  rise_second a b c d =
      (λ i. risen (volume a b c d) (same_front (place b) (place c) (place d) i) (volume a b c d) (same_inner (place a) (place b) (place d) i) (same_second (place a) (place b) (place c) i) (height b) (height a) (height b) (height c) (height d))
      ∙ ring (volume a b c d ∷ height a ∷ height b ∷ height c ∷ height d ∷ [])
      (minus (times (var 0) (var 2)) (plus (plus (plus (times (num (pos 0)) (var 1)) (times (var 0) (var 2))) (times (num (pos 0)) (var 3))) (times (num (pos 0)) (var 4)))) (num (pos 0)) refl

  pub rise_third : (a b c d : A) → rise a b c d c ≡ pos 0
  rise_third a b c d =
      (λ i. risen (volume a b c d) (same_odd (place c) (place b) (place d) i) (same_inner (place a) (place c) (place d) i) (volume a b c d) (same_third (place a) (place b) (place c) i) (height c) (height a) (height b) (height c) (height d))
      ∙ ring (volume a b c d ∷ height a ∷ height b ∷ height c ∷ height d ∷ [])
      (minus (times (var 0) (var 3)) (plus (plus (plus (times (num (pos 0)) (var 1)) (times (num (pos 0)) (var 2))) (times (var 0) (var 3))) (times (num (pos 0)) (var 4)))) (num (pos 0)) refl

  pub rise_fourth : (a b c d : A) → rise a b c d d ≡ pos 0
  rise_fourth a b c d =
      (λ i. risen (volume a b c d) (same_first (place d) (place b) (place c) i) (same_second (place a) (place d) (place c) i) (same_third (place a) (place b) (place d) i) (volume a b c d) (height d) (height a) (height b) (height c) (height d))
      ∙ ring (volume a b c d ∷ height a ∷ height b ∷ height c ∷ height d ∷ [])
      (minus (times (var 0) (var 4)) (plus (plus (plus (times (num (pos 0)) (var 1)) (times (num (pos 0)) (var 2))) (times (num (pos 0)) (var 3))) (times (var 0) (var 4)))) (num (pos 0)) refl

  -- ---- the rise where two of the five change places

  abbrev turnedE : Expression → Expression → Expression → Expression → Expression → Expression → Expression → Expression → Expression → Expression → Expression
  turnedE size l1 l2 l3 l4 h h1 h2 h3 h4 = minus (times size h) (plus (plus (plus (times l1 h1) (times l2 h2)) (times l3 h3)) (times l4 h4))

  abbrev turned_variables : A → A → A → A → A → List ℤ
  turned_variables a b c d x = volume a b c d ∷ volume x b c d ∷ volume a x c d ∷ volume a b x d ∷ volume a b c x ∷ height x ∷ height a ∷ height b ∷ height c ∷ height d ∷ []

  pub rise_swap_first : (a b c d x : A) → rise b a c d x ≡ neg_ℤ (rise a b c d x)
  rise_swap_first a b c d x =
      (λ i. risen (swap_first (place a) (place b) (place c) (place d) i) (swap_first (place a) (place x) (place c) (place d) i) (swap_first (place x) (place b) (place c) (place d) i)
      (swap_first (place a) (place b) (place x) (place d) i) (swap_first (place a) (place b) (place c) (place x) i) (height x) (height b) (height a) (height c) (height d))
      ∙ ring (turned_variables a b c d x)
      (turnedE (neg (var 0)) (neg (var 2)) (neg (var 1)) (neg (var 3)) (neg (var 4)) (var 5) (var 7) (var 6) (var 8) (var 9))
      (neg (turnedE (var 0) (var 1) (var 2) (var 3) (var 4) (var 5) (var 6) (var 7) (var 8) (var 9))) refl

  pub rise_swap_middle : (a b c d x : A) → rise a c b d x ≡ neg_ℤ (rise a b c d x)
  rise_swap_middle a b c d x =
      (λ i. risen (swap_middle (place a) (place b) (place c) (place d) i) (swap_middle (place x) (place b) (place c) (place d) i) (swap_middle (place a) (place b) (place x) (place d) i)
      (swap_middle (place a) (place x) (place c) (place d) i) (swap_middle (place a) (place b) (place c) (place x) i) (height x) (height a) (height c) (height b) (height d))
      ∙ ring (turned_variables a b c d x)
      (turnedE (neg (var 0)) (neg (var 1)) (neg (var 3)) (neg (var 2)) (neg (var 4)) (var 5) (var 6) (var 8) (var 7) (var 9))
      (neg (turnedE (var 0) (var 1) (var 2) (var 3) (var 4) (var 5) (var 6) (var 7) (var 8) (var 9))) refl

  pub rise_swap_last : (a b c d x : A) → rise a b d c x ≡ neg_ℤ (rise a b c d x)
  rise_swap_last a b c d x =
      (λ i. risen (swap_last (place a) (place b) (place c) (place d) i) (swap_last (place x) (place b) (place c) (place d) i) (swap_last (place a) (place x) (place c) (place d) i)
      (swap_last (place a) (place b) (place c) (place x) i) (swap_last (place a) (place b) (place x) (place d) i) (height x) (height a) (height b) (height d) (height c))
      ∙ ring (turned_variables a b c d x)
      (turnedE (neg (var 0)) (neg (var 1)) (neg (var 2)) (neg (var 4)) (neg (var 3)) (var 5) (var 6) (var 7) (var 9) (var 8))
      (neg (turnedE (var 0) (var 1) (var 2) (var 3) (var 4) (var 5) (var 6) (var 7) (var 8) (var 9))) refl

  -- the fourth point and x: the other volumes are those of x in place of a, b and c, turned
  pub rise_exchange : (a b c d x : A) → rise a b c x d ≡ neg_ℤ (rise a b c d x)
  rise_exchange a b c d x =
      (λ i. risen (volume a b c x) (swap_ends (place x) (place b) (place c) (place d) i) (swap_outer (place a) (place x) (place c) (place d) i) (swap_last (place a) (place b) (place x) (place d) i)
      (volume a b c d) (height d) (height a) (height b) (height c) (height x))
      ∙ ring (turned_variables a b c d x)
      (turnedE (var 4) (neg (var 1)) (neg (var 2)) (neg (var 3)) (var 0) (var 9) (var 6) (var 7) (var 8) (var 5))
      (neg (turnedE (var 0) (var 1) (var 2) (var 3) (var 4) (var 5) (var 6) (var 7) (var 8) (var 9))) refl
