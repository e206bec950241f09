-- Oriented triples whose directed sides cancel: areas are sums over sides, so a list of triples with positive areas and paired sides is empty.
--     area_is q a b c      twice the area is the sum of the crosses of the sides
--     area_total      so it is for each list of triples
--     paired_total      a sum over distinct directed sides, each with its reverse, of what changes its sign with the direction, is 0
--     none_paired      so no triples of positive area have all their sides paired
use Rattle.std.proofs.Common.{◌≡◌, ◌≢◌, ℕ, zero, suc, ◌+◌, ◌⊎◌, inl, inr, ⊎_elim, refl, sym, ap, ◌∙◌, subst, arith, ℤ, pos, negsuc, ◌+ℤ◌, neg_ℤ, List, [], ◌∷◌, map}
use Rattle.std.specs.Prelude.{Contains, ⊤}
use Rattle.std.proofs.lemmas.Int.{ints}
use Rattle.ntfe_nums.specs.Vectors.{Vector, coordinate, area, det2, sign}
use Rattle.ntfe_model.specs.declared.triangle.Triangle.{Triangle}
use Rattle.ntfe_model.proofs.Listings.{Contains-here, Contains-there, Contains-cases, Contains-none}
use Rattle.ntfe_nums.proofs.Ring.{Expression, ring, swap_sum}
use Rattle.ntfe_nums.proofs.Ring.Expression.{var, plus, minus, times}

-- ---- crosses

-- the determinant of two places in two coordinates
abbrev pub cross : ℕ × ℕ → Vector → Vector → ℤ
cross q x y = det2 (coordinate q.0 x) (coordinate q.1 x) (coordinate q.0 y) (coordinate q.1 y)

abbrev crossE : ℕ → ℕ → ℕ → ℕ → Expression
crossE a b c d = minus (times (var a) (var d)) (times (var b) (var c))

abbrev six : ℕ × ℕ → Vector → Vector → Vector → List ℤ
six q a b c = coordinate q.0 a ∷ coordinate q.1 a ∷ coordinate q.0 b ∷ coordinate q.1 b ∷ coordinate q.0 c ∷ coordinate q.1 c ∷ []

pub area_is : (q : ℕ × ℕ) (a b c : Vector) → area q a b c ≡ cross q a b +ℤ cross q b c +ℤ cross q c a
area_is q a b c =
    ring (six q a b c)
    (minus (times (minus (var 2) (var 0)) (minus (var 5) (var 1))) (times (minus (var 3) (var 1)) (minus (var 4) (var 0))))
    (plus (plus (crossE 0 1 2 3) (crossE 2 3 4 5)) (crossE 4 5 0 1)) refl

pub cross_back : (q : ℕ × ℕ) (x y : Vector) → cross q x y ≡ neg_ℤ (cross q y x)
cross_back q x y = ring (six q x y x) (crossE 0 1 2 3) (Expression.neg (crossE 2 3 0 1)) refl

-- ---- sums

abbrev pub total : {X : Type 0} → (X → ℤ) → List X → ℤ
total w [] = pos 0
total w (x ∷ xs) = w x +ℤ total w xs

-- the directed sides of a list of triples
abbrev pub sides : List Triangle → List (ℕ × ℕ)
sides [] = []
sides (t ∷ ts) = (t.a, t.b) ∷ (t.b, t.c) ∷ (t.c, t.a) ∷ sides ts

four_sum : (a b c s : ℤ) → (a +ℤ b +ℤ c) +ℤ s ≡ a +ℤ (b +ℤ (c +ℤ s))
four_sum a b c s = omega (arith, ints)

pub area_total : (q : ℕ × ℕ) (at : ℕ → Vector) (ts : List Triangle)
    → total (λ t. area q (at t.a) (at t.b) (at t.c)) ts ≡ total (λ e. cross q (at e.0) (at e.1)) (sides ts)
area_total q at [] = refl
area_total q at (t ∷ ts) =
    (λ i. area_is q (at t.a) (at t.b) (at t.c) i +ℤ area_total q at ts i)
    ∙ four_sum (cross q (at t.a) (at t.b)) (cross q (at t.b) (at t.c)) (cross q (at t.c) (at t.a)) (total (λ e. cross q (at e.0) (at e.1)) (sides ts))

-- ---- distinct things, and a sum without one of them

abbrev pub AreDistinct : {X : Type 0} → List X → Type 0
AreDistinct [] = ⊤
AreDistinct (x ∷ xs) = (¬ (Contains xs x)) × AreDistinct xs

pub record IsWithout {X : Type 0} (w : X → ℤ) (xs : List X) (x : X) : Type 0 where
  pub rest : List X
  pub sum : total w xs ≡ w x +ℤ total w rest
  pub distinct : AreDistinct rest
  pub within : (y : X) → Contains rest y → Contains xs y
  pub other : (y : X) → Contains rest y → y ≢ x
  pub covers : (y : X) → Contains xs y → (y ≡ x) ⊎ Contains rest y

moved : {X : Type 0} (xs : List X) (x y : X) → x ≡ y → Contains xs x → Contains xs y
moved {X} xs x y e h = let P : X → Type 0 = λ z. Contains xs z in subst P e h

without : {X : Type 0} (w : X → ℤ) (xs : List X) (x : X) → Contains xs x → AreDistinct xs → IsWithout w xs x
without w [] x h d = Contains-none x h
without {X} w (y ∷ ys) x h d = by (Contains-cases x y ys h) (λ k. without w ys x k d.1)
  where
    by : ((x ≡ y) ⊎ Contains ys x) → (Contains ys x → IsWithout w ys x) → IsWithout w (y ∷ ys) x
    by (inl e) go = record {
      rest = ys;
      sum = ap (λ z. w z +ℤ total w ys) (sym e);
      distinct = d.1;
      within = λ z k. Contains-there z y ys k;
      other = λ z k f. d.0 (moved ys z y (f ∙ e) k);
      covers = λ z k. ⊎_elim (λ f. inl (f ∙ sym e)) (λ f. inr f) (Contains-cases z y ys k);
    }
    by (inr k) go =
        let r = go k in
        record {
          rest = y ∷ r.rest;
          sum = ap (λ z. w y +ℤ z) r.sum ∙ swap_sum (w y) (w x) (total w r.rest);
          distinct = ((λ l. d.0 (r.within y l)), r.distinct);
          within = λ z l. ⊎_elim (λ f. Contains-here z y ys f) (λ f. Contains-there z y ys (r.within z f)) (Contains-cases z y r.rest l);
          other = λ z l. ⊎_elim (λ f g. d.0 (moved ys x y (sym g ∙ f) k)) (λ f. r.other z f) (Contains-cases z y r.rest l);
          covers = λ z l. ⊎_elim (λ f. inr (Contains-here z y r.rest f)) (λ f. ⊎_elim (λ g. inl g) (λ g. inr (Contains-there z y r.rest g)) (r.covers z f)) (Contains-cases z y ys l);
        }

pub same_total : {X : Type 0} (w : X → ℤ) (xs ys : List X) → AreDistinct xs → AreDistinct ys
    → ((x : X) → Contains xs x → Contains ys x) → ((x : X) → Contains ys x → Contains xs x) → total w xs ≡ total w ys
same_total w [] [] d e f g = refl
same_total w [] (y ∷ ys) d e f g = Contains-none y (g y (Contains-here y y ys refl))
same_total w (x ∷ xs) ys d e f g =
    let r = without w ys x (f x (Contains-here x x xs refl)) e in
    let t = same_total w xs r.rest d.1 r.distinct
    (λ z k. ⊎_elim (λ p. absurd (d.0 (moved xs z x p k))) (λ p. p) (r.covers z (f z (Contains-there z x xs k))))
    (λ z k. ⊎_elim (λ p. absurd (r.other z k p)) (λ p. p) (Contains-cases z x xs (g z (r.within z k)))) in
    ap (λ s. w x +ℤ s) t ∙ sym r.sum

-- ---- directed sides and their reverses

abbrev pub reverse_side : ℕ × ℕ → ℕ × ℕ
reverse_side e = (e.1, e.0)

Contains-reversed : (es : List (ℕ × ℕ)) (e : ℕ × ℕ) → Contains es e → Contains (map reverse_side es) (reverse_side e)
Contains-reversed [] e h = Contains-none e h
Contains-reversed (f ∷ fs) e h =
    let go = Contains-reversed fs e in
    ⊎_elim (λ p. Contains-here (reverse_side e) (reverse_side f) (map reverse_side fs) (ap reverse_side p)) (λ p. Contains-there (reverse_side e) (reverse_side f) (map reverse_side fs) (go p)) (Contains-cases e f fs h)

Contains-unreversed : (es : List (ℕ × ℕ)) (e : ℕ × ℕ) → Contains (map reverse_side es) e → Contains es (reverse_side e)
Contains-unreversed [] e h = Contains-none e h
Contains-unreversed (f ∷ fs) e h =
    let go = Contains-unreversed fs e in
    ⊎_elim (λ p. Contains-here (reverse_side e) f fs (ap reverse_side p)) (λ p. Contains-there (reverse_side e) f fs (go p)) (Contains-cases e (reverse_side f) (map reverse_side fs) h)

distinct_reversed : (es : List (ℕ × ℕ)) → AreDistinct es → AreDistinct (map reverse_side es)
distinct_reversed [] d = d
distinct_reversed (e ∷ es) d = ((λ h. d.0 (Contains-unreversed es (reverse_side e) h)), distinct_reversed es d.1)

neg_total : (a b : ℤ) → neg_ℤ a +ℤ neg_ℤ b ≡ neg_ℤ (a +ℤ b)
neg_total a b = omega (arith, ints)

total_reversed : (w : ℕ × ℕ → ℤ) → ((e : ℕ × ℕ) → w (reverse_side e) ≡ neg_ℤ (w e)) → (es : List (ℕ × ℕ)) → total w (map reverse_side es) ≡ neg_ℤ (total w es)
total_reversed w anti [] = refl
total_reversed w anti (e ∷ es) = (λ i. anti e i +ℤ total_reversed w anti es i) ∙ neg_total (w e) (total w es)

own_negative : (z : ℤ) → z ≡ neg_ℤ z → z ≡ pos 0
own_negative z e = omega (arith, ints, e)

pub paired_total : (w : ℕ × ℕ → ℤ) → ((e : ℕ × ℕ) → w (reverse_side e) ≡ neg_ℤ (w e)) → (es : List (ℕ × ℕ)) → AreDistinct es
    → ((e : ℕ × ℕ) → Contains es e → Contains es (reverse_side e)) → total w es ≡ pos 0
paired_total w anti es d paired =
    own_negative (total w es)
    (same_total w es (map reverse_side es) d (distinct_reversed es d)
    (λ e h. Contains-reversed es (reverse_side e) (paired e h))
    (λ e h. paired (reverse_side e) (Contains-unreversed es e h))
    ∙ total_reversed w anti es)

-- ---- positive areas

abbrev pub IsPositive : ℤ → Type 0
IsPositive z = sign z ≡ pos 1

pub positive_is : (z : ℤ) → IsPositive z → (n : ℕ) × (z ≡ pos (suc n))
positive_is (pos zero) e = absurd (omega (arith, ints, e))
positive_is (pos (suc n)) e = (n, refl)
positive_is (negsuc n) e = cc

natural_sum : (m n : ℕ) → pos m +ℤ pos n ≡ pos (m + n)
natural_sum m n = omega (arith, ints)

natural_total : {X : Type 0} (w : X → ℤ) (xs : List X) → ((x : X) → Contains xs x → IsPositive (w x)) → (n : ℕ) × (total w xs ≡ pos n)
natural_total w [] h = (0, refl)
natural_total w (x ∷ xs) h =
    let p = positive_is (w x) (h x (Contains-here x x xs refl)) in
    let r = natural_total w xs (λ y k. h y (Contains-there y x xs k)) in
    (suc p.0 + r.0, (λ i. p.1 i +ℤ r.1 i) ∙ natural_sum (suc p.0) r.0)

not_zero : (m n : ℕ) → pos (suc m + n) ≡ pos 0 → ⊥
not_zero m n e = absurd (omega (arith, ints, e))

-- things of positive weight weigh something
pub positive_total : {X : Type 0} (w : X → ℤ) (xs : List X) → ((x : X) → Contains xs x → IsPositive (w x)) → total w xs ≡ pos 0 → xs ≡ []
positive_total w [] h e = refl
positive_total w (x ∷ xs) h e =
    let p = positive_is (w x) (h x (Contains-here x x xs refl)) in
    let r = natural_total w xs (λ y k. h y (Contains-there y x xs k)) in
    absurd (not_zero p.0 r.0 (sym (natural_sum (suc p.0) r.0) ∙ sym (λ i. p.1 i +ℤ r.1 i) ∙ e))
