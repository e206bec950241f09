-- Vectors whose coordinates are at most 1,023 in size.
use Rattle.std.proofs.Common.{◌≡◌, ◌≤◌, ℤ, pos, negsuc, ◌≤ℤ◌, List, sym, subst, arith, unsigned_abs}
use Rattle.std.specs.Prelude.{All, Any}
use Rattle.std.proofs.lemmas.Int.{ints}
use Rattle.std.proofs.lemmas.List.Elements.{All-contains}
use Rattle.ntfe_nums.specs.Vectors.{Vector, numbers}
use Rattle.ntfe_nums.specs.Sizes.{AreWithin}
use Rattle.ntfe_model.specs.Pairs.{VertexLists, IsSmall}
use Rattle.ntfe_model.specs.Points.{IsInside}

abbrev pub IsSmallNumber : ℤ → Type 0
IsSmallNumber z = (negsuc 1022 ≤ℤ z) × (z ≤ℤ pos 1023)

pub small_size : (z : ℤ) → negsuc 1022 ≤ℤ z → z ≤ℤ pos 1023 → unsigned_abs z ≤ 1023
small_size z h k = omega (arith, ints)

pub small_numbers : (v : Vector) → IsSmall v → AreWithin 1023 (numbers v)
small_numbers v s =
    (small_size v.x1 s.low1 s.high1, (small_size v.x2 s.low2 s.high2, (small_size v.x3 s.low3 s.high3, (small_size v.x4 s.low4 s.high4, tt))))

-- the same of a list that is known to be its coordinates
pub small_coordinates : (v : Vector) (xs : List ℤ) → IsSmall v → xs ≡ numbers v → AreWithin 1023 xs
small_coordinates v xs s e = let P : List ℤ → Type 0 = AreWithin 1023 in subst P (sym e) (small_numbers v s)

-- a place in a box of small vectors is small
pub inside_small : (p : VertexLists) (x : Vector) → All IsSmall p.vertices → IsInside p x → IsSmall x
inside_small p x s i = record {
  low1 = under (λ v. v.x1) x.x1 (λ v k. k.low1) i.box.low1;
  high1 = over (λ v. v.x1) x.x1 (λ v k. k.high1) i.box.high1;
  low2 = under (λ v. v.x2) x.x2 (λ v k. k.low2) i.box.low2;
  high2 = over (λ v. v.x2) x.x2 (λ v k. k.high2) i.box.high2;
  low3 = under (λ v. v.x3) x.x3 (λ v k. k.low3) i.box.low3;
  high3 = over (λ v. v.x3) x.x3 (λ v k. k.high3) i.box.high3;
  low4 = under (λ v. v.x4) x.x4 (λ v k. k.low4) i.box.low4;
  high4 = over (λ v. v.x4) x.x4 (λ v k. k.high4) i.box.high4;
}
  where
    under : (c : Vector → ℤ) (z : ℤ) → ((v : Vector) → IsSmall v → negsuc 1022 ≤ℤ c v) → Any (λ v. c v ≤ℤ z) p.vertices → negsuc 1022 ≤ℤ z
    under c z f a = (let k = f a.1 (All-contains IsSmall p.vertices a.1 s (a.0, a.2, a.3)) in let l = a.4 in omega (arith, ints))

    over : (c : Vector → ℤ) (z : ℤ) → ((v : Vector) → IsSmall v → c v ≤ℤ pos 1023) → Any (λ v. z ≤ℤ c v) p.vertices → z ≤ℤ pos 1023
    over c z f a = (let k = f a.1 (All-contains IsSmall p.vertices a.1 s (a.0, a.2, a.3)) in let l = a.4 in omega (arith, ints))
