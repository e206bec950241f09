use Rattle.std.proofs.Common.{ℕ, ℤ, pos, ◌≡◌, ◌≤◌, ◌^◌, List, [], ◌∷◌, get_or, refl, sym, ap, ◌∙◌, subst, arith, unsigned_abs, to_z, of_z, FitsSigned, ◌-ℤ◌, neg_ℤ}
use Rattle.std.proofs.lemmas.Int.{ints}
use Rattle.std.specs.Int.{w128}
use Rattle.ntfe_nums.specs.Vectors.{det3, cofactors}
use Rattle.ntfe_nums.specs.Sizes.{AreWithin}
use Rattle.ntfe_nums.proofs.Ring.{Expression}
use Rattle.ntfe_nums.proofs.Ring.Expression.{var, num, minus}
use Rattle.ntfe_nums.proofs.DetLemmas.{det3E}
use Rattle.ntfe_nums.proofs.Machine.{AreWithin-four, value-size, back, exact, fits}
use Rattle.ntfe_nums.proofs.cofactors4.Goals as goal
use Rattle.ntfe_nums.proofs.Signs.{zero_minus}

abbrev word : ℤ → ℤ
word z = to_z w128 (of_z w128 z)

word_within : (z : ℤ) → unsigned_abs z ≤ 2 ^ 21 → unsigned_abs (word z) ≤ 2 ^ 21
word_within z h = let P : ℤ → Type 0 = λ y. unsigned_abs y ≤ 2 ^ 21 in subst P (sym (back w128 z (2 ^ 21) h (omega arith))) h

module _ (xs ys zs : List ℤ) (a : AreWithin (2 ^ 21) xs) (b : AreWithin (2 ^ 21) ys) (c : AreWithin (2 ^ 21) zs) (i j k : ℕ) where
  abbrev nine : List ℤ
  nine = get_or xs i (pos 0) ∷ get_or xs j (pos 0) ∷ get_or xs k (pos 0) ∷ get_or ys i (pos 0) ∷ get_or ys j (pos 0) ∷ get_or ys k (pos 0) ∷ get_or zs i (pos 0) ∷ get_or zs j (pos 0) ∷ get_or zs k (pos 0) ∷ []

  abbrev words : List ℤ
  words = word (get_or xs i (pos 0)) ∷ word (get_or xs j (pos 0)) ∷ word (get_or xs k (pos 0)) ∷ word (get_or ys i (pos 0)) ∷ word (get_or ys j (pos 0)) ∷ word (get_or ys k (pos 0)) ∷ word (get_or zs i (pos 0)) ∷ word (get_or zs j (pos 0)) ∷ word (get_or zs k (pos 0)) ∷ []

  small : AreWithin (2 ^ 21) nine
  small =
      let p = AreWithin-four (2 ^ 21) xs a in let q = AreWithin-four (2 ^ 21) ys b in let r = AreWithin-four (2 ^ 21) zs c in
      (p i, (p j, (p k, (q i, (q j, (q k, (r i, (r j, (r k, tt)))))))))

  small_words : AreWithin (2 ^ 21) words
  small_words =
      let p = λ (n : ℕ). word_within (get_or xs n (pos 0)) (AreWithin-four (2 ^ 21) xs a n) in
      let q = λ (n : ℕ). word_within (get_or ys n (pos 0)) (AreWithin-four (2 ^ 21) ys b n) in
      let r = λ (n : ℕ). word_within (get_or zs n (pos 0)) (AreWithin-four (2 ^ 21) zs c n) in
      (p i, (p j, (p k, (q i, (q j, (q k, (r i, (r j, (r k, tt)))))))))

  abbrev minor : ℤ
  minor = det3 (get_or xs i (pos 0)) (get_or xs j (pos 0)) (get_or xs k (pos 0)) (get_or ys i (pos 0)) (get_or ys j (pos 0)) (get_or ys k (pos 0)) (get_or zs i (pos 0)) (get_or zs j (pos 0)) (get_or zs k (pos 0))

  plain : (r : ℤ) → r ≡ det3 (word (get_or xs i (pos 0))) (word (get_or xs j (pos 0))) (word (get_or xs k (pos 0))) (word (get_or ys i (pos 0))) (word (get_or ys j (pos 0))) (word (get_or ys k (pos 0))) (word (get_or zs i (pos 0))) (word (get_or zs j (pos 0))) (word (get_or zs k (pos 0))) → r ≡ minor
  plain r e =
      let p = λ (n : ℕ). back w128 (get_or xs n (pos 0)) (2 ^ 21) (AreWithin-four (2 ^ 21) xs a n) (omega arith) in
      let q = λ (n : ℕ). back w128 (get_or ys n (pos 0)) (2 ^ 21) (AreWithin-four (2 ^ 21) ys b n) (omega arith) in
      let s = λ (n : ℕ). back w128 (get_or zs n (pos 0)) (2 ^ 21) (AreWithin-four (2 ^ 21) zs c n) (omega arith) in
      e ∙ (λ t. det3 (p i t) (p j t) (p k t) (q i t) (q j t) (q k t) (s i t) (s j t) (s k t))

  abbrev form : Expression
  form = det3E (var 0) (var 1) (var 2) (var 3) (var 4) (var 5) (var 6) (var 7) (var 8)

  size3 : (r : ℤ) → r ≡ minor → unsigned_abs r ≤ 2 ^ 66
  size3 r e =
      let m = 2 ^ 21 in
      let s = value-size nine (m ∷ m ∷ m ∷ m ∷ m ∷ m ∷ m ∷ m ∷ m ∷ []) form small in
      let P : ℤ → Type 0 = λ z. unsigned_abs z ≤ 2 ^ 66 in
      subst P (sym e) (omega (arith, s))

abbrev negated : Expression
negated = minus (num (pos 0)) (var 0)

neg_fits : (r : ℤ) → unsigned_abs r ≤ 2 ^ 66 → FitsSigned w128 (pos 0 -ℤ word r)
neg_fits r s = fits w128 (r ∷ []) (2 ^ 66 ∷ []) (s, tt) negated refl

neg_back : (r : ℤ) → unsigned_abs r ≤ 2 ^ 66 → word (pos 0 -ℤ word r) ≡ neg_ℤ r
neg_back r s = exact w128 (r ∷ []) (2 ^ 66 ∷ []) (s, tt) negated refl ∙ zero_minus r

keep : (r : ℤ) → unsigned_abs r ≤ 2 ^ 66 → word r ≡ r
keep r s = back w128 r (2 ^ 66) s (omega arith)

neg_large : (r : ℤ) → unsigned_abs r ≤ 2 ^ 66 → unsigned_abs (word (pos 0 -ℤ word r)) ≤ 2 ^ 66
neg_large r s = let P : ℤ → Type 0 = λ y. unsigned_abs y ≤ 2 ^ 66 in subst P (sym (neg_back r s)) (omega (arith, ints, s))

keep_large : (r : ℤ) → unsigned_abs r ≤ 2 ^ 66 → unsigned_abs (word r) ≤ 2 ^ 66
keep_large r s = let P : ℤ → Type 0 = λ y. unsigned_abs y ≤ 2 ^ 66 in subst P (sym (keep r s)) s

pub minor3-first-requires : goal.minor3-first-requires
minor3-first-requires c = record { small = small_words c.args.u.now c.args.v.now c.args.w.now c.requires.first c.requires.second c.requires.third 1 2 3 }

pub minor3-second-requires : goal.minor3-second-requires
minor3-second-requires c = record { small = small_words c.args.u.now c.args.v.now c.args.w.now c.requires.first c.requires.second c.requires.third 0 2 3 }

pub minor3-third-requires : goal.minor3-third-requires
minor3-third-requires c = record { small = small_words c.args.u.now c.args.v.now c.args.w.now c.requires.first c.requires.second c.requires.third 0 1 3 }

pub minor3-fourth-requires : goal.minor3-fourth-requires
minor3-fourth-requires c = record { small = small_words c.args.u.now c.args.v.now c.args.w.now c.requires.first c.requires.second c.requires.third 0 1 2 }

pub overflow_sub-result : goal.overflow_sub-result
overflow_sub-result c =
    let u = c.args.u.now in let v = c.args.v.now in let w = c.args.w.now in
    let p = c.requires.first in let q = c.requires.second in let s = c.requires.third in
    neg_fits c.minor3-first.result (size3 u v w p q s 1 2 3 c.minor3-first.result (plain u v w p q s 1 2 3 c.minor3-first.result c.minor3-first.ensures))

pub overflow_sub-result-2 : goal.overflow_sub-result-2
overflow_sub-result-2 c =
    let u = c.args.u.now in let v = c.args.v.now in let w = c.args.w.now in
    let p = c.requires.first in let q = c.requires.second in let s = c.requires.third in
    neg_fits c.minor3-third.result (size3 u v w p q s 0 1 3 c.minor3-third.result (plain u v w p q s 0 1 3 c.minor3-third.result c.minor3-third.ensures))

pub returns-clause-value : goal.returns-clause-value
unfolding cofactors
returns-clause-value c =
    let u = c.args.u.now in let v = c.args.v.now in let w = c.args.w.now in
    let p = c.requires.first in let q = c.requires.second in let s = c.requires.third in
    let e1 = plain u v w p q s 1 2 3 c.minor3-first.result c.minor3-first.ensures in
    let e2 = plain u v w p q s 0 2 3 c.minor3-second.result c.minor3-second.ensures in
    let e3 = plain u v w p q s 0 1 3 c.minor3-third.result c.minor3-third.ensures in
    let e4 = plain u v w p q s 0 1 2 c.minor3-fourth.result c.minor3-fourth.ensures in
    let f1 = neg_back c.minor3-first.result (size3 u v w p q s 1 2 3 c.minor3-first.result e1) ∙ ap neg_ℤ e1 in
    let f2 = keep c.minor3-second.result (size3 u v w p q s 0 2 3 c.minor3-second.result e2) ∙ e2 in
    let f3 = neg_back c.minor3-third.result (size3 u v w p q s 0 1 3 c.minor3-third.result e3) ∙ ap neg_ℤ e3 in
    let f4 = keep c.minor3-fourth.result (size3 u v w p q s 0 1 2 c.minor3-fourth.result e4) ∙ e4 in
    λ t. record { x1 = f1 t; x2 = f2 t; x3 = f3 t; x4 = f4 t }

pub returns-clause-large : goal.returns-clause-large
returns-clause-large c =
    let u = c.args.u.now in let v = c.args.v.now in let w = c.args.w.now in
    let p = c.requires.first in let q = c.requires.second in let s = c.requires.third in
    let e1 = plain u v w p q s 1 2 3 c.minor3-first.result c.minor3-first.ensures in
    let e2 = plain u v w p q s 0 2 3 c.minor3-second.result c.minor3-second.ensures in
    let e3 = plain u v w p q s 0 1 3 c.minor3-third.result c.minor3-third.ensures in
    let e4 = plain u v w p q s 0 1 2 c.minor3-fourth.result c.minor3-fourth.ensures in
    let s1 = size3 u v w p q s 1 2 3 c.minor3-first.result e1 in
    let s2 = size3 u v w p q s 0 2 3 c.minor3-second.result e2 in
    let s3 = size3 u v w p q s 0 1 3 c.minor3-third.result e3 in
    let s4 = size3 u v w p q s 0 1 2 c.minor3-fourth.result e4 in
    (neg_large c.minor3-first.result s1, (keep_large c.minor3-second.result s2, (neg_large c.minor3-third.result s3, (keep_large c.minor3-fourth.result s4, tt))))
