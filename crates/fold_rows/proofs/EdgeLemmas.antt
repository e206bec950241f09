-- The fold of an inner edge.
use Rattle.std.proofs.Common.{◌≡◌, ◌≢◌, ℕ, ◌<◌, ◌≤◌, ◌⊎◌, inl, inr, sym, ap, ◌∙◌, subst, arith, ℤ, pos, ◌+ℤ◌, ◌-ℤ◌, List, w64, unsigned_abs}
use Rattle.std.proofs.lemmas.Int.{ints}
use Rattle.ntfe_nums.specs.Vectors.{Vector, vector_sum, multiple}
use Rattle.ntfe_nums.proofs.Machine.{back}
use Rattle.ntfe_model.specs.Charts.{Patch, axes, place, IsOf, IsUnit}
use Rattle.ntfe_model.specs.Choices.{AreOpposite, IsFoldOf}
use Rattle.ntfe_model.specs.declared.triangle.Triangle.{Triangle}
use Rattle.ntfe_model.specs.declared.nogood.Fold.{Fold}
use Rattle.ntfe_model.proofs.Triples.{positive_apart}
use Rattle.ntfe_model.proofs.Folds.{unit_corner, opposite_balance, opposite_apart, vector_swap}
use Rattle.fold_rows.specs.Rows.{IsBalance, AreBalanced, IsThird, AreUnits, unspelled, IsFoldBetween}
use Rattle.ntfe_nums.proofs.Signs.{word}

-- ---- what the code computes

word_back : (n : ℤ) → unsigned_abs n ≤ 4092 → word n ≡ n
word_back n s = back w64 n 4092 s (omega arith)

rest_back : (n : ℤ) → unsigned_abs n ≤ 4092 → word (pos 2 -ℤ word n) ≡ pos 2 -ℤ n
rest_back n s = ap (λ z. word (pos 2 -ℤ z)) (word_back n s) ∙ back w64 (pos 2 -ℤ n) 4094 (size n s) (omega arith)
  where
    size : (z : ℤ) → unsigned_abs z ≤ 4092 → unsigned_abs (pos 2 -ℤ z) ≤ 4094
    size z l = omega (arith, ints, l)

two_numbers : (z : ℤ) → pos 2 -ℤ z +ℤ z ≡ pos 2
two_numbers z = omega (arith, ints)

pub computed_balance : (h : Patch) (a b c d : ℕ) (p q r s : Vector) (n : ℤ) → p ≡ place h a → q ≡ place h b → r ≡ place h c → s ≡ place h d → unsigned_abs n ≤ 4092
    → IsBalance p q r s n → IsBalance (place h a) (place h b) (place h c) (place h d) (word n)
computed_balance h a b c d p q r s n ep eq er es l e =
    let P : Vector × Vector × Vector × Vector × ℤ → Type 0 = λ t. IsBalance t.0 t.1 t.2 t.3 t.4 in
    subst P (λ t. (ep t, eq t, er t, es t, sym (word_back n l) t)) e

pub computed_two : (n : ℤ) → unsigned_abs n ≤ 4092 → word (pos 2 -ℤ word n) +ℤ word n ≡ pos 2
computed_two n l = (λ t. rest_back n l t +ℤ word_back n l t) ∙ two_numbers n

-- ---- two triples on one side

module _ (h : Patch) (ts : List Triangle) (units : AreUnits h ts) (a b c d : ℕ) (p : IsThird ts a b c) (q : IsThird ts b a d) where
  first : IsUnit h a b c
  first = unit_corner h p.0 a b c (units p.0 p.1) p.2

  second : IsUnit h b a d
  second = unit_corner h q.0 b a d (units q.0 q.1) q.2

  pub edge_first : IsOf h a
  edge_first = first.points.0

  pub edge_second : IsOf h b
  edge_second = first.points.1

  pub third_first : IsOf h c
  third_first = first.points.2

  pub third_second : IsOf h d
  third_second = second.points.2

  pub edge_apart : place h a ≢ place h b
  edge_apart = positive_apart (axes h) (place h a) (place h b) (place h c) first.left

  pub edge_balanced : AreBalanced (place h a) (place h b) (place h c) (place h d)
  edge_balanced = opposite_balance h a b c d first second

  opposite : AreOpposite ts a b c d
  opposite = (p.0, q.0, p.1, q.1, p.2, q.2)

  pub fold_is : (r : Fold) → a < b → IsFoldBetween h a b c d r → IsFoldOf h (unspelled ts) r × (r.a ≡ a) × (r.b ≡ b)
  fold_is r l f = (by f.thirds, f.edge.0, f.edge.1)
    where
      at : (i j : ℕ) → r.c ≡ i → r.d ≡ j → i < j → AreOpposite ts a b i j ⊎ AreOpposite ts a b j i → IsBalance (place h a) (place h b) (place h i) (place h j) r.beta → IsFoldOf h (unspelled ts) r
      at i j ei ej k o e =
          let P : ℕ × ℕ × ℕ × ℕ → Type 0 = λ t. (t.0 < t.1) × (t.2 < t.3) × (AreOpposite ts t.0 t.1 t.2 t.3 ⊎ AreOpposite ts t.0 t.1 t.3 t.2) × IsBalance (place h t.0) (place h t.1) (place h t.2) (place h t.3) r.beta in
          let m = subst P (λ t. (sym f.edge.0 t, sym f.edge.1 t, sym ei t, sym ej t)) (l, k, o, e) in
          record {
            edge = m.0;
            ordered = m.1;
            opposite = m.2;
            balance = m.3 ∙ ap (λ z. vector_sum (multiple z (place h r.a)) (multiple r.beta (place h r.b))) (sym (rest r.alpha r.beta f.two));
            two = f.two;
          }
        where
          rest : (x y : ℤ) → x +ℤ y ≡ pos 2 → x ≡ pos 2 -ℤ y
          rest x y g = omega (arith, ints, g)

      less : (i j : ℕ) → i ≤ j → j ≢ i → i < j
      less i j m n = grind (arith, n)

      by : ((c < d) × (r.c ≡ c) × (r.d ≡ d)) ⊎ ((d ≤ c) × (r.c ≡ d) × (r.d ≡ c)) → IsFoldOf h (unspelled ts) r
      by (inl (k, i, j)) = at c d i j k (inl opposite) f.balance
      by (inr (k, i, j)) = at d c i j (less d c k (opposite_apart h a b c d first second)) (inr opposite) (vector_swap (place h d) (place h c) ∙ f.balance)
