-- The side of a hyperplane, by heights along its normal.
use Rattle.std.proofs.Common.{◌≡◌, ◌⊎◌, inl, inr, ⊎_elim, refl, arith, ℤ, pos, ◌+ℤ◌, ◌≤ℤ◌, neg_ℤ, List}
use Rattle.std.proofs.lemmas.Int.{ints}
use Rattle.std.proofs.lemmas.List.Elements.{All-weaker}
use Rattle.ntfe_nums.specs.Vectors.{Vector, dot, normal, side_of}
use Rattle.ntfe_nums.proofs.SideLemmas.{side_is}
use Rattle.ntfe_model.specs.Reflexive.{IsOnOneSide}
use Rattle.reflexive_pair.specs.Sides.{NoneAbove, NoneBelow}

low : (h k s : ℤ) → h +ℤ neg_ℤ k ≡ s → s ≤ℤ pos 0 → h ≤ℤ k
low h k s e l = omega (arith, ints)

from_low : (h k s : ℤ) → h +ℤ neg_ℤ k ≡ s → h ≤ℤ k → s ≤ℤ pos 0
from_low h k s e l = omega (arith, ints)

high : (h k s : ℤ) → h +ℤ neg_ℤ k ≡ s → pos 0 ≤ℤ s → k ≤ℤ h
high h k s e l = omega (arith, ints)

from_high : (h k s : ℤ) → h +ℤ neg_ℤ k ≡ s → k ≤ℤ h → pos 0 ≤ℤ s
from_high h k s e l = omega (arith, ints)

module _ (a b c d n : Vector) (e : n ≡ normal a b c d) (xs : List Vector) where
  difference_is : (x : Vector) → dot n x +ℤ neg_ℤ (dot n a) ≡ side_of a b c d x
  difference_is x = side_is a b c d x n (neg_ℤ (dot n a)) e refl

  pub by_heights : IsOnOneSide a b c d xs → NoneAbove n a xs ⊎ NoneBelow n a xs
  by_heights h =
      ⊎_elim
      (λ p. inl (All-weaker (λ x. side_of a b c d x ≤ℤ pos 0) (λ x. dot n x ≤ℤ dot n a) (λ x. low _ _ _ (difference_is x)) xs p))
      (λ p. inr (All-weaker (λ x. pos 0 ≤ℤ side_of a b c d x) (λ x. dot n a ≤ℤ dot n x) (λ x. high _ _ _ (difference_is x)) xs p)) h

  pub none_above : NoneAbove n a xs → IsOnOneSide a b c d xs
  none_above p = inl (All-weaker (λ x. dot n x ≤ℤ dot n a) (λ x. side_of a b c d x ≤ℤ pos 0) (λ x. from_low _ _ _ (difference_is x)) xs p)

  pub none_below : NoneBelow n a xs → IsOnOneSide a b c d xs
  none_below p = inr (All-weaker (λ x. dot n a ≤ℤ dot n x) (λ x. pos 0 ≤ℤ side_of a b c d x) (λ x. from_high _ _ _ (difference_is x)) xs p)
