use Rattle.std.proofs.Common.{ℕ, ℤ, ◌≡◌, ◌≤◌, ◌∙◌, ◌*ℤ◌, ◌<ℤ◌, ◌≤ℤ◌, true, false, arith, sym, w64, to_z, of_z, List, get_or, pos, unsigned_abs, below_more}
use lib.Signed.{lt_z}
use Rattle.ntfe_nums.specs.Vectors.{Vector, vector, numbers, difference, dot}
use Rattle.ntfe_nums.proofs.Comparisons.{least_from_test, below_from_test}
use Rattle.ntfe_model.proofs.FlatLemmas.{word_back, negative_from_test, not_negative_from_test}
use Rattle.face_chart.proofs.SegmentLemmas.{on_segment, share_low, share_high, share_at}
use Rattle.face_chart.proofs.segment.is_on_segment.Goals as goal

-- what the computed numbers are
product_is : (d e : List ℤ) (v w : Vector) (z : ℤ) → d ≡ numbers v → e ≡ numbers w → z ≡ dot (vector d) (vector e) → z ≡ dot v w
product_is d e v w z p q r = r ∙ (λ i. dot (vector (p i)) (vector (q i)))

less_from_test : (x y : ℤ) → unsigned_abs x ≤ 16777216 → unsigned_abs y ≤ 16777216 → lt_z (to_z w64 (of_z w64 x)) (to_z w64 (of_z w64 y)) ≡ true → x <ℤ y
less_from_test x y s t h = below_from_test x y ((λ i. lt_z (sym (word_back x s) i) (sym (word_back y t) i)) ∙ h)

not_less_from_test : (x y : ℤ) → unsigned_abs x ≤ 16777216 → unsigned_abs y ≤ 16777216 → lt_z (to_z w64 (of_z w64 x)) (to_z w64 (of_z w64 y)) ≡ false → y ≤ℤ x
not_less_from_test x y s t h = least_from_test x y ((λ i. lt_z (sym (word_back x s) i) (sym (word_back y t) i)) ∙ h)

-- an equation of shares, in words or not, and by the lists or by the vectors
share_in : (n s : ℤ) (e d e' d' : List ℤ) (k : ℕ) → unsigned_abs n ≤ 16777216 → unsigned_abs s ≤ 16777216 → e ≡ e' → d ≡ d'
    → n *ℤ get_or e' k (pos 0) ≡ s *ℤ get_or d' k (pos 0) → to_z w64 (of_z w64 n) *ℤ get_or e k (pos 0) ≡ to_z w64 (of_z w64 s) *ℤ get_or d k (pos 0)
share_in n s e d e' d' k p q f g h = (λ i. word_back n p i *ℤ get_or (f i) k (pos 0)) ∙ h ∙ (λ i. sym (word_back s q) i *ℤ get_or (sym g i) k (pos 0))

share_out : (n s : ℤ) (e d e' d' : List ℤ) (k : ℕ) → unsigned_abs n ≤ 16777216 → unsigned_abs s ≤ 16777216 → e ≡ e' → d ≡ d'
    → to_z w64 (of_z w64 n) *ℤ get_or e k (pos 0) ≡ to_z w64 (of_z w64 s) *ℤ get_or d k (pos 0) → n *ℤ get_or e' k (pos 0) ≡ s *ℤ get_or d' k (pos 0)
share_out n s e d e' d' k p q f g h = (λ i. sym (word_back n p) i *ℤ get_or (sym f i) k (pos 0)) ∙ h ∙ (λ i. word_back s q i *ℤ get_or (g i) k (pos 0))

pub returns-then-s-lt0 : goal.returns-then-s-lt0
returns-then-s-lt0 c =
    let a = c.args.a.now in
    let b = c.args.b.now in
    let x = c.args.x.now in
    let n = product_is _ _ (difference b a) (difference b a) c.product-n.result c.difference-d.ensures.value c.difference-d.ensures.value c.product-n.ensures.value in
    let s = product_is _ _ (difference b a) (difference x a) c.product-s.result c.difference-d.ensures.value c.difference-e.ensures.value c.product-s.ensures.value in
    record {
      when_true = λ t. cc;
      when_false = λ t o. share_low a b x c.product-n.result c.product-s.result n s o (negative_from_test c.product-s.result c.product-s.ensures.size c.if-s-lt0.true);
    }

pub returns-then-n-s : goal.returns-then-n-s
returns-then-n-s c =
    let a = c.args.a.now in
    let b = c.args.b.now in
    let x = c.args.x.now in
    let n = product_is _ _ (difference b a) (difference b a) c.product-n.result c.difference-d.ensures.value c.difference-d.ensures.value c.product-n.ensures.value in
    let s = product_is _ _ (difference b a) (difference x a) c.product-s.result c.difference-d.ensures.value c.difference-e.ensures.value c.product-s.ensures.value in
    record {
      when_true = λ t. cc;
      when_false = λ t o. share_high a b x c.product-n.result c.product-s.result n s o (less_from_test c.product-n.result c.product-s.result c.product-n.ensures.size c.product-s.ensures.size c.if-n-s.true);
    }

pub loop-i-preserved : goal.loop-i-preserved
loop-i-preserved c =
    let n = to_z w64 (of_z w64 c.product-n.result) in
    let s = to_z w64 (of_z w64 c.product-s.result) in
    below_more (λ k. n *ℤ get_or c.difference-e.result k (pos 0) ≡ s *ℤ get_or c.difference-d.result k (pos 0)) c.loop-i.i c.loop-i.invariant
    (c.is_share_at.ensures.when_true c.if-not-is_share_at.false)

pub returns-then-not-is_share_at : goal.returns-then-not-is_share_at
returns-then-not-is_share_at c =
    let a = c.args.a.now in
    let b = c.args.b.now in
    let x = c.args.x.now in
    let n = product_is _ _ (difference b a) (difference b a) c.product-n.result c.difference-d.ensures.value c.difference-d.ensures.value c.product-n.ensures.value in
    let s = product_is _ _ (difference b a) (difference x a) c.product-s.result c.difference-d.ensures.value c.difference-e.ensures.value c.product-s.ensures.value in
    record {
      when_true = λ t. cc;
      when_false = λ t o. c.is_share_at.ensures.when_false c.if-not-is_share_at.true
          (share_in c.product-n.result c.product-s.result c.difference-e.result c.difference-d.result (numbers (difference x a)) (numbers (difference b a)) c.loop-i.i c.product-n.ensures.size c.product-s.ensures.size c.difference-e.ensures.value c.difference-d.ensures.value
          (share_at a b x c.product-n.result c.product-s.result n s o c.loop-i.i c.loop-i-test.true));
    }

pub returns : goal.returns
returns c =
    let a = c.args.a.now in
    let b = c.args.b.now in
    let x = c.args.x.now in
    let n = product_is _ _ (difference b a) (difference b a) c.product-n.result c.difference-d.ensures.value c.difference-d.ensures.value c.product-n.ensures.value in
    let s = product_is _ _ (difference b a) (difference x a) c.product-s.result c.difference-d.ensures.value c.difference-e.ensures.value c.product-s.ensures.value in
    record {
      when_true = λ t. on_segment a b x c.product-n.result c.product-s.result n s c.requires.distinct
          (not_negative_from_test c.product-s.result c.product-s.ensures.size c.if-s-lt0.false)
          (not_less_from_test c.product-n.result c.product-s.result c.product-n.ensures.size c.product-s.ensures.size c.if-n-s.false)
          (λ k l. share_out c.product-n.result c.product-s.result c.difference-e.result c.difference-d.result (numbers (difference x a)) (numbers (difference b a)) k c.product-n.ensures.size c.product-s.ensures.size c.difference-e.ensures.value c.difference-d.ensures.value
          (c.loop-i.invariant k (let f = c.loop-i-test.false in omega (arith, l, f))));
      when_false = λ t. cc;
    }
