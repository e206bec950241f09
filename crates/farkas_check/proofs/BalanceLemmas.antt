-- The balance of four places, coordinate by coordinate and in words of 64 bits.
use Rattle.std.proofs.Common.{◌≡◌, ℕ, zero, suc, ◌-◌, ◌<◌, ◌≤◌, refl, sym, ap, ◌∙◌, subst, arith, ℤ, pos, ◌+ℤ◌, ◌*ℤ◌, List, [], ◌∷◌, get_or, unsigned_abs, w64, to_z, of_z, FitsSigned}
use Rattle.std.proofs.lemmas.Int.{ints}
use Rattle.std.proofs.lemmas.List.{get_or_default}
use Rattle.ntfe_nums.specs.Sizes.{AreWithin}
use Rattle.ntfe_nums.specs.Vectors.{Vector, numbers, vector_sum, multiple}
use Rattle.ntfe_nums.proofs.Ring.{Expression}
use Rattle.ntfe_nums.proofs.Ring.Expression.{var, plus, times}
use Rattle.ntfe_nums.proofs.Machine.{AreBounded, AreWithin-four, back, exact, fits}
use Rattle.ntfe_model.specs.Lists.{IsNumberOf}
use Rattle.ntfe_model.specs.Points.{place_of_point, no_point}
use Rattle.ntfe_model.specs.declared.point.Point.{Point}
use Rattle.ntfe_model.specs.declared.nogood.Fold.{Fold}
use Rattle.ntfe_model.specs.Pairs.{IsSmall}
use Rattle.farkas_check.specs.Folds.{IsSmallPoint, IsBalanced}
use Rattle.ntfe_nums.proofs.Signs.{word}

-- c + d = m a + n b, in the coordinate at this place of the lists
abbrev pub IsSumAt : List ℤ → List ℤ → List ℤ → List ℤ → ℤ → ℤ → ℕ → Type 0
IsSumAt a b c d m n i = get_or c i (pos 0) +ℤ get_or d i (pos 0) ≡ m *ℤ get_or a i (pos 0) +ℤ n *ℤ get_or b i (pos 0)

abbrev pub IsSum : Vector → Vector → Vector → Vector → ℤ → ℤ → Type 0
IsSum a b c d m n = vector_sum c d ≡ vector_sum (multiple m a) (multiple n b)

-- ---- the four coordinates

module _ (a b c d : Vector) (m n : ℤ) (ps qs rs ss : List ℤ) (p : ps ≡ numbers a) (q : qs ≡ numbers b) (r : rs ≡ numbers c) (s : ss ≡ numbers d) where
  pub sum_at : (i : ℕ) → i < 4 → IsSum a b c d m n → IsSumAt ps qs rs ss m n i
  sum_at i l e =
      let P : List ℤ × List ℤ × List ℤ × List ℤ → Type 0 = λ t. IsSumAt t.0 t.1 t.2 t.3 m n i in
      subst P (λ t. (sym p t, sym q t, sym r t, sym s t)) (at i l)
    where
      at : (j : ℕ) → j < 4 → IsSumAt (numbers a) (numbers b) (numbers c) (numbers d) m n j
      at zero k = ap (λ v. v.x1) e
      at (suc zero) k = ap (λ v. v.x2) e
      at (suc (suc zero)) k = ap (λ v. v.x3) e
      at (suc (suc (suc zero))) k = ap (λ v. v.x4) e
      at (suc (suc (suc (suc j)))) k = absurd (omega (arith, k))

  pub sum_of_all : ((j : ℕ) → j < 4 → IsSumAt ps qs rs ss m n j) → IsSum a b c d m n
  sum_of_all f =
      let P : List ℤ × List ℤ × List ℤ × List ℤ → Type 0 = λ t. (j : ℕ) → j < 4 → IsSumAt t.0 t.1 t.2 t.3 m n j in
      let h : (j : ℕ) → j < 4 → IsSumAt (numbers a) (numbers b) (numbers c) (numbers d) m n j = subst P (λ t. (p t, q t, r t, s t)) f in
      let e1 = h 0 (omega arith) in
      let e2 = h 1 (omega arith) in
      let e3 = h 2 (omega arith) in
      let e4 = h 3 (omega arith) in
      λ t. record { x1 = e1 t; x2 = e2 t; x3 = e3 t; x4 = e4 t }

-- ---- words of 64 bits

abbrev bounds : List ℕ
bounds = 4094 ∷ 4094 ∷ 1023 ∷ 1023 ∷ 1023 ∷ 1023 ∷ []

abbrev firstE : Expression
firstE = times (var 0) (var 2)

abbrev secondE : Expression
secondE = times (var 1) (var 3)

pub factor_word : (m : ℤ) → unsigned_abs m ≤ 4094 → word m ≡ m
factor_word m h = back w64 m 4094 h (omega arith)

module _ (a b c d : List ℤ) (m n : ℤ) (i : ℕ) (ha : AreWithin 1023 a) (hb : AreWithin 1023 b) (hc : AreWithin 1023 c) (hd : AreWithin 1023 d) (hm : unsigned_abs m ≤ 4094) (hn : unsigned_abs n ≤ 4094) where
  abbrev at : List ℤ → ℤ
  at xs = get_or xs i (pos 0)

  abbrev vars : List ℤ
  vars = m ∷ n ∷ at a ∷ at b ∷ at c ∷ at d ∷ []

  bounded : AreBounded vars bounds
  bounded = (hm, (hn, (AreWithin-four 1023 a ha i, (AreWithin-four 1023 b hb i, (AreWithin-four 1023 c hc i, (AreWithin-four 1023 d hd i, tt))))))

  pub first_fits : FitsSigned w64 (word m *ℤ word (at a))
  first_fits = fits w64 vars bounds bounded firstE refl

  pub second_fits : FitsSigned w64 (word n *ℤ word (at b))
  second_fits = fits w64 vars bounds bounded secondE refl

  pub sum_fits : FitsSigned w64 (word (word m *ℤ word (at a)) +ℤ word (word n *ℤ word (at b)))
  sum_fits = fits w64 vars bounds bounded (plus firstE secondE) refl

  pub left_fits : FitsSigned w64 (word (at c) +ℤ word (at d))
  left_fits = fits w64 vars bounds bounded (plus (var 4) (var 5)) refl

  left_word : word (word (at c) +ℤ word (at d)) ≡ at c +ℤ at d
  left_word = exact w64 vars bounds bounded (plus (var 4) (var 5)) refl

  right_word : word (word (word m *ℤ word (at a)) +ℤ word (word n *ℤ word (at b))) ≡ m *ℤ at a +ℤ n *ℤ at b
  right_word = exact w64 vars bounds bounded (plus firstE secondE) refl

  left_raw : word (at c) +ℤ word (at d) ≡ at c +ℤ at d
  left_raw = λ t. exact w64 vars bounds bounded (var 4) refl t +ℤ exact w64 vars bounds bounded (var 5) refl t

  right_raw : word (word m *ℤ word (at a)) +ℤ word (word n *ℤ word (at b)) ≡ m *ℤ at a +ℤ n *ℤ at b
  right_raw = λ t. exact w64 vars bounds bounded firstE refl t +ℤ exact w64 vars bounds bounded secondE refl t

  pub from_words : of_z w64 (word (at c) +ℤ word (at d)) ≡ of_z w64 (word (word m *ℤ word (at a)) +ℤ word (word n *ℤ word (at b))) → IsSumAt a b c d m n i
  from_words e = sym left_word ∙ ap (to_z w64) e ∙ right_word

  pub to_words : IsSumAt a b c d m n i → of_z w64 (word (at c) +ℤ word (at d)) ≡ of_z w64 (word (word m *ℤ word (at a)) +ℤ word (word n *ℤ word (at b)))
  to_words e = ap (of_z w64) (left_raw ∙ e ∙ sym right_raw)

  pub with_words : IsSumAt a b c d m n i → IsSumAt a b c d (word m) (word n) i
  with_words e = e ∙ (λ t. sym (factor_word m hm) t *ℤ at a +ℤ sym (factor_word n hn) t *ℤ at b)

  pub without_words : IsSumAt a b c d (word m) (word n) i → IsSumAt a b c d m n i
  without_words e = e ∙ (λ t. factor_word m hm t *ℤ at a +ℤ factor_word n hn t *ℤ at b)

-- ---- the sum of the factors

factors_raw : (m n : ℤ) → unsigned_abs m ≤ 4094 → unsigned_abs n ≤ 4094 → word m +ℤ word n ≡ m +ℤ n
factors_raw m n hm hn = λ t. factor_word m hm t +ℤ factor_word n hn t

pub two_from_word : (m n : ℤ) → unsigned_abs m ≤ 4094 → unsigned_abs n ≤ 4094 → of_z w64 (word m +ℤ word n) ≡ 2 → m +ℤ n ≡ pos 2
two_from_word m n hm hn e = sym (back w64 (m +ℤ n) 8188 (size m n hm hn) (omega arith)) ∙ ap (to_z w64) (ap (of_z w64) (sym (factors_raw m n hm hn)) ∙ e)
  where
    size : (x y : ℤ) → unsigned_abs x ≤ 4094 → unsigned_abs y ≤ 4094 → unsigned_abs (x +ℤ y) ≤ 8188
    size x y p q = omega (arith, ints, p, q)

pub two_to_word : (m n : ℤ) → unsigned_abs m ≤ 4094 → unsigned_abs n ≤ 4094 → m +ℤ n ≡ pos 2 → of_z w64 (word m +ℤ word n) ≡ 2
two_to_word m n hm hn e = ap (of_z w64) (factors_raw m n hm hn ∙ e)

-- ---- at the places of points

place_read : (xs : List Point) (k : ℕ) (p : Point) → IsNumberOf xs k → (get_or xs (k - 1) p).place ≡ place_of_point xs k
place_read xs k p n = ap (λ x. x.place) (get_or_default xs (k - 1) p no_point (let n0 = n.0 in let n1 = n.1 in omega (arith, n0, n1)))

pub small_read : (xs : List Point) (k : ℕ) (p : Point) → IsSmallPoint xs k → IsSmall (get_or xs (k - 1) p).place
small_read xs k p s = let P : Vector → Type 0 = IsSmall in subst P (sym (place_read xs k p s.0)) s.1

-- the places that are read at the four numbers
module _ (xs : List Point) (r : Fold) (m n : ℤ) (p q s t : Point) (na : IsNumberOf xs r.a) (nb : IsNumberOf xs r.b) (nc : IsNumberOf xs r.c) (nd : IsNumberOf xs r.d) (em : m ≡ r.alpha) (en : n ≡ r.beta) where
  abbrev IsRead : Type 0
  IsRead = IsSum (get_or xs (r.a - 1) p).place (get_or xs (r.b - 1) q).place (get_or xs (r.c - 1) s).place (get_or xs (r.d - 1) t).place m n

  same : IsRead ≡ IsBalanced xs r
  same = λ i. IsSum (place_read xs r.a p na i) (place_read xs r.b q nb i) (place_read xs r.c s nc i) (place_read xs r.d t nd i) (em i) (en i)

  pub balanced_read : IsRead → IsBalanced xs r
  balanced_read h = let P : Type 0 → Type 0 = λ X. X in subst P same h

  pub balanced_back : IsBalanced xs r → IsRead
  balanced_back h = let P : Type 0 → Type 0 = λ X. X in subst P (sym same) h
