-- The rows of a plane.
use Rattle.std.proofs.Common.{◌≡◌, ℕ, ◌+◌, ◌<◌, ◌≤◌, sym, subst, arith, true, false, ℤ, pos, ◌+ℤ◌, ◌≤ℤ◌, ◌^◌, List, length, take, get_or, unsigned_abs, w64, to_z, of_z}
use Rattle.std.specs.Prelude.{All, ◌<ℤ◌}
use Rattle.std.proofs.lemmas.Int.{ints, by_lt_z}
use Rattle.std.proofs.lemmas.List.{take_all}
use Rattle.std.proofs.lemmas.List.Elements.{All-more, All-contains}
use lib.Signed.{lt_z, ≤ℤ_refl}
use Rattle.ntfe_nums.specs.Vectors.{Vector}
use Rattle.lattice_points.specs.declared.bounds.Extent.{Extent}
use Rattle.lattice_points.specs.declared.sums.Sums.{Sums}
use Rattle.lattice_points.specs.Boxes.{IsWithin, IsSmallExtent, AreShortExtents, IsInSome}
use Rattle.lattice_points.specs.Lines.{IsOpen}
use Rattle.lattice_points.specs.Inequalities.{AreSums}
use Rattle.lattice_points.specs.Scans.{IsOnPlane, IsOnRow}
use Rattle.lattice_points.proofs.CutLemmas.{short_back, not_past, past}
use Rattle.lattice_points.proofs.BoxLemmas.{extent_size}

-- ---- looking for a number

module _ (x : ℤ) (es : List Extent) where
  pub none_more : (i : ℕ) (d : Extent) → i < length es → (IsWithin (get_or es i d) x → ⊥) → All (λ f. IsWithin f x → ⊥) (take i es) → All (λ f. IsWithin f x → ⊥) (take (i + 1) es)
  none_more i d l n h = let P : Extent → Type 0 = λ f. IsWithin f x → ⊥ in All-more P es i d l h n

  pub none_all : (i : ℕ) → length es ≤ i → All (λ f. IsWithin f x → ⊥) (take i es) → IsInSome es x → ⊥
  none_all i l h a =
      let P : Extent → Type 0 = λ f. IsWithin f x → ⊥ in
      let Q : List Extent → Type 0 = λ fs. All P fs in
      All-contains P es a.1 (subst Q (take_all i es l) h) (a.0, a.2, a.3) a.4

-- ---- from row to row

-- each place of the rows below z that is left lies in some extent
pub record AreKept (sums : Sums) (x1 : ℤ) (second third : Extent) (z : ℤ) (rows : List Extent) : Type 0 where
  pub reach : (ms : List Vector) (x : Vector) → AreSums ms sums → IsOpen ms x → IsOnPlane x1 x → IsWithin second x.x2 → IsWithin third x.x3 → x.x3 <ℤ z → IsInSome rows x.x2
  pub short : AreShortExtents rows
  pub low : third.low ≤ℤ z

module _ (sums : Sums) (x1 : ℤ) (second third : Extent) (small : IsSmallExtent third) where
  pub kept_none : (rows : List Extent) → AreShortExtents rows → AreKept sums x1 second third (to_z w64 (of_z w64 third.low)) rows
  kept_none rows s =
      let k : unsigned_abs third.low ≤ 2 ^ 34 = (let h = (extent_size third small).0 in omega arith) in
      let P : ℤ → Type 0 = λ z. AreKept sums x1 second third z rows in
      subst P (sym (short_back third.low k)) (record {
        reach = λ ms x all o a w2 w3 l. absurd (let b = w3.low in omega (arith, ints));
        short = s;
        low = ≤ℤ_refl third.low;
      })

  pub kept_more : (z : ℤ) (left : Extent) (old new : List Extent) → lt_z z (to_z w64 (of_z w64 (to_z w64 (of_z w64 third.high) +ℤ pos 1))) ≡ true
      → ((ms : List Vector) (x : Vector) → AreSums ms sums → IsOpen ms x → IsOnRow x1 z x → IsWithin second x.x2 → IsWithin left x.x2)
      → ((y : ℤ) → IsInSome old y → IsInSome new y) → ((y : ℤ) → IsWithin left y → IsInSome new y) → AreShortExtents new
      → AreKept sums x1 second third z old → AreKept sums x1 second third (to_z w64 (of_z w64 (z +ℤ pos 1))) new
  kept_more z left old new t inside kept added short h =
      let n = not_past z third.high (extent_size third small).1.0 t in
      let l = h.low in
      let i = (extent_size third small).0 in
      let j = (extent_size third small).1.0 in
      let k : unsigned_abs (z +ℤ pos 1) ≤ 2 ^ 34 = omega (arith, ints) in
      let P : ℤ → Type 0 = λ y. AreKept sums x1 second third y new in
      subst P (sym (short_back (z +ℤ pos 1) k)) (record {
        reach = λ ms x all o a w2 w3 b. by_lt_z x.x3 z (λ c. kept x.x2 (h.reach ms x all o a w2 w3 c)) (λ c. added x.x2 (inside ms x all o (a, omega (arith, ints)) w2));
        short = short;
        low = omega (arith, ints);
      })

  pub kept_all : (z : ℤ) (rows : List Extent) → lt_z z (to_z w64 (of_z w64 (to_z w64 (of_z w64 third.high) +ℤ pos 1))) ≡ false → AreKept sums x1 second third z rows
      → (ms : List Vector) (x : Vector) → AreSums ms sums → IsOpen ms x → IsOnPlane x1 x → IsWithin second x.x2 → IsWithin third x.x3 → IsInSome rows x.x2
  kept_all z rows t h ms x all o a w2 w3 =
      let n = past z third.high (extent_size third small).1.0 t in
      h.reach ms x all o a w2 w3 (let b = w3.high in omega (arith, ints))
