-- The stated solver's answer is determined: a row has one reduced form, a table one next table, and runs from one start agree.
use Rattle.std.proofs.Common.{◌≡◌, ℕ, zero, suc, ◌+◌, ◌-◌, ◌*◌, ◌<◌, ◌≤◌, ◌⊎◌, inl, inr, refl, sym, ap, ◌∙◌, subst, arith, ℤ, pos, ◌*ℤ◌, unsigned_abs, List, [], ◌∷◌, map, length, get_or}
use Rattle.std.specs.Int.{◌∣◌}
use Rattle.std.proofs.Math.Nat.{dvd-mul_right}
use Rattle.std.proofs.lemmas.Int.{unsigned_abs-mul}
use Rattle.std.proofs.lemmas.List.{get_or-map, same_lists, length-map}
use Rattle.ntfe_model.specs.Solver.{Line, line_numbers, IsReduced}
use Rattle.ntfe_nums.proofs.Ring.{ring}
use Rattle.ntfe_nums.proofs.Ring.Expression.{var, minus, times}
use Rattle.strict_solver.proofs.Forms.{pos_some, back}

-- k and n in lowest terms a / b, and all solutions of k z = n z'
pub record Lowest (k n : ℕ) : Type 0 where
  pub g : ℕ
  pub a : ℕ
  pub b : ℕ
  pub first : k ≡ g * a
  pub second : n ≡ g * b
  pub all : (x y : ℕ) → k * x ≡ n * y → (c : ℕ) × (x ≡ b * c) × (y ≡ a * c)

distributes : (g a b : ℕ) → g * (a + b) ≡ g * a + g * b
distributes g a b = omega arith

distributes_right : (a b c : ℕ) → (a + b) * c ≡ a * c + b * c
distributes_right a b c = omega arith

pub cancels : (k x y : ℕ) → 0 < k → k * x ≡ k * y → x ≡ y
cancels k x y h e = grind arith

flipped : (k n : ℕ) → Lowest k n → Lowest n k
flipped k n l = record { g = l.g; a = l.b; b = l.a; first = l.second; second = l.first; all = λ x y e. (let h = l.all y x (sym e) in (h.0, h.2, h.1)) }

-- one step of Euclid's algorithm
bigger : (n e : ℕ) → 0 < n → Lowest e n → Lowest (n + e) n
bigger n e p l = record {
  g = l.g;
  a = l.a + l.b;
  b = l.b;
  first = (let f = l.first in let s = l.second in let d = distributes l.g l.a l.b in omega arith);
  second = l.second;
  all = λ x y h. by x y h (let c : (x ≤ y) ⊎ (y + 1 ≤ x) = grind arith in c);
}
  where
    from : (x w : ℕ) → (n + e) * x ≡ n * (x + w) → (c : ℕ) × (x ≡ l.b * c) × (x + w ≡ (l.a + l.b) * c)
    from x w h =
        let g = l.all x w (let i : e * x ≡ n * w = omega arith in i) in
        let d = distributes_right l.a l.b g.0 in
        (g.0, g.1, (let i = g.1 in let j = g.2 in omega arith))

    never : (y v : ℕ) → (n + e) * (y + 1 + v) ≡ n * y → ⊥
    never y v h = omega arith

    by : (x y : ℕ) → (n + e) * x ≡ n * y → (x ≤ y) ⊎ (y + 1 ≤ x) → (c : ℕ) × (x ≡ l.b * c) × (y ≡ (l.a + l.b) * c)
    by x y h (inl i) =
        let q : y ≡ x + (y - x) = omega arith in
        let g = from x (y - x) (h ∙ ap (λ z. n * z) q) in
        (g.0, g.1, q ∙ g.2)
    by x y h (inr i) =
        let q : x ≡ y + 1 + (x - (y + 1)) = omega arith in
        absurd (never y (x - (y + 1)) (ap (λ z. (n + e) * z) (sym q) ∙ h))

pub lowest : (fuel k n : ℕ) → 0 < k → 0 < n → k + n ≤ fuel → Lowest k n
lowest zero k n h i f = absurd (omega arith)
lowest (suc fuel) k n h i f = by (let c : (k ≡ n) ⊎ (k < n) ⊎ (n < k) = grind arith in c) (lowest fuel)
  where
    by : (k ≡ n) ⊎ (k < n) ⊎ (n < k) → ((k n : ℕ) → 0 < k → 0 < n → k + n ≤ fuel → Lowest k n) → Lowest k n
    by (inl e) rest = record {
      g = k;
      a = 1;
      b = 1;
      first = omega arith;
      second = omega arith;
      all = λ x y g. (let q : x ≡ y = cancels k x y h (g ∙ ap (λ z. z * y) (sym e)) in (x, omega arith, omega arith));
    }
    by (inr (inl e)) rest =
        let q : n ≡ k + (n - k) = omega arith in
        let P : ℕ → Type 0 = λ z. Lowest k z in
        subst P (sym q) (flipped (k + (n - k)) k (bigger k (n - k) h (rest (n - k) k (omega arith) h (omega arith))))
    by (inr (inr e)) rest =
        let q : k ≡ n + (k - n) = omega arith in
        let P : ℕ → Type 0 = λ z. Lowest z n in
        subst P (sym q) (bigger n (k - n) i (rest (k - n) n (omega arith) i (omega arith)))

-- ---- a row has one reduced form
same_size : (k : ℕ) (z : ℤ) → unsigned_abs (pos k *ℤ z) ≡ k * unsigned_abs z
same_size k z = unsigned_abs-mul (pos k) z

module _ (raw r q : Line) (h : IsReduced raw r) (i : IsReduced raw q) where
  both : map (λ z. pos h.k *ℤ z) (line_numbers r) ≡ map (λ z. pos i.k *ℤ z) (line_numbers q)
  both = sym h.same ∙ i.same

  lengths : length (line_numbers r) ≡ length (line_numbers q)
  lengths = sym (length-map (line_numbers r) (λ z. pos h.k *ℤ z)) ∙ ap length both ∙ length-map (line_numbers q) (λ z. pos i.k *ℤ z)

  at_place : (k : ℕ) (d : ℤ) → k < length (line_numbers r) → pos h.k *ℤ get_or (line_numbers r) k d ≡ pos i.k *ℤ get_or (line_numbers q) k d
  at_place k d l =
      sym (get_or-map (λ z. pos h.k *ℤ z) (line_numbers r) k d (pos 0) l)
      ∙ ap (λ zs. get_or zs k (pos 0)) both
      ∙ get_or-map (λ z. pos i.k *ℤ z) (line_numbers q) k d (pos 0) (let e = lengths in omega arith)

  ratio : Lowest h.k i.k
  ratio = lowest (h.k + i.k) h.k i.k h.factor i.factor (omega arith)

  parts : (k : ℕ) (d : ℤ) → k < length (line_numbers r) → (c : ℕ) × (unsigned_abs (get_or (line_numbers r) k d) ≡ ratio.b * c) × (unsigned_abs (get_or (line_numbers q) k d) ≡ ratio.a * c)
  parts k d l =
      ratio.all _ _ (sym (same_size h.k (get_or (line_numbers r) k d)) ∙ ap unsigned_abs (at_place k d l) ∙ same_size i.k (get_or (line_numbers q) k d))

  b_is_one : ratio.b ≡ 1
  b_is_one = h.lowest ratio.b (λ k d l. (let p = parts k d l in let P : ℕ → Type 0 = λ n. ratio.b ∣ n in subst P (sym p.1) (dvd-mul_right ratio.b p.0)))

  a_is_one : ratio.a ≡ 1
  a_is_one = i.lowest ratio.a (λ k d l. (let e = lengths in let p = parts k d (omega arith) in let P : ℕ → Type 0 = λ n. ratio.a ∣ n in subst P (sym p.2) (dvd-mul_right ratio.a p.0)))

  factors : h.k ≡ i.k
  factors = ratio.first ∙ ap (λ n. ratio.g * n) (a_is_one ∙ sym b_is_one) ∙ sym ratio.second

  numbers_same : line_numbers r ≡ line_numbers q
  numbers_same = same_lists (line_numbers r) (line_numbers q) lengths (λ k d l.
      (let x = get_or (line_numbers r) k d in
      let y = get_or (line_numbers q) k d in
      back (pos h.k *ℤ x) (pos h.k *ℤ y) (pos h.k) x y (pos_some h.k h.factor)
      (ring (pos h.k ∷ x ∷ y ∷ []) (minus (times (var 0) (var 1)) (times (var 0) (var 2))) (times (var 0) (minus (var 1) (var 2))) refl)
      (at_place k d l ∙ ap (λ n. pos n *ℤ y) (sym factors))))

  pub reduced_same : r ≡ q
  reduced_same = λ j. record { d = head_or (numbers_same j); c = head_or (tail_or (numbers_same j)); coefficients = tail_or (tail_or (numbers_same j)) }
    where
      head_or : List ℤ → ℤ
      head_or [] = pos 0
      head_or (z ∷ zs) = z

      tail_or : List ℤ → List ℤ
      tail_or [] = []
      tail_or (z ∷ zs) = zs
