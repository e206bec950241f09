-- The bits of the facets through the points of a list.
use Rattle.std.proofs.Common.{refl, zero, suc, get_or, [], ◌∷◌, ◌++◌, below_more, length-append, ◌-◌, ◌≡◌, ◌∙◌, ℕ, ◌+◌, ◌<◌, sym, ap, subst, arith, List, length}
use Rattle.std.proofs.lemmas.List.{get_or_default, get_or_append_left}
use Rattle.ntfe_nums.specs.Vectors.{Vector}
use Rattle.ntfe_model.specs.Points.{place_of_point, no_point}
use Rattle.ntfe_model.specs.declared.point.Point.{Point}
use Rattle.ntfe_model.specs.TightBits.{AreTightBits}
use Rattle.star_builder.specs.Facets.{AreMasks}

-- ---- the numbers of a list of points

pub masks_more : (xs : List Point) (ms : List Vector) (n : ℕ) (masks : List ℕ) (bits : ℕ) → AreMasks xs ms n masks → AreTightBits (place_of_point xs (n + 1)) ms (length ms) bits
    → AreMasks xs ms (n + 1) (masks ++ bits ∷ [])
masks_more xs ms n masks bits h t = record {
  count = length-append masks (bits ∷ []) ∙ (let e = h.count in omega arith);
  bits = λ i l. below_more (λ k. AreTightBits (place_of_point xs (k + 1)) ms (length ms) (get_or (masks ++ bits ∷ []) k 0)) n
      (λ k m. let P : ℕ → Type 0 = λ b. AreTightBits (place_of_point xs (k + 1)) ms (length ms) b in subst P (sym (get_or_append_left masks (bits ∷ []) 0 k (let e = h.count in omega arith))) (h.bits k m))
      (let P : ℕ → Type 0 = λ b. AreTightBits (place_of_point xs (n + 1)) ms (length ms) b in subst P (sym (at_end masks bits n h.count)) t) i l;
}
  where
    at_end : (ns : List ℕ) (b n : ℕ) → length ns ≡ n → get_or (ns ++ b ∷ []) n 0 ≡ b
    at_end [] b zero e = refl
    at_end [] b (suc n) e = absurd (omega arith)
    at_end (m ∷ ns) b zero e = absurd (omega arith)
    at_end (m ∷ ns) b (suc n) e = at_end ns b n (omega arith)

pub place_here : (xs : List Point) (i : ℕ) (x : Point) → x ≡ get_or xs i x → i < length xs → place_of_point xs (i + 1) ≡ x.place
place_here xs i x e lt =
    let k : i + 1 - 1 ≡ i = omega arith in
    ap (λ y. y.place) (ap (λ j. get_or xs j no_point) k ∙ sym (e ∙ get_or_default xs i x no_point lt))
