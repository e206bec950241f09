-- The items of a segment.
use Rattle.std.proofs.Common.{◌≡◌, ℕ, ◌+◌, ◌*◌, ◌/◌, ◌%◌, ◌<◌, ◌≤◌, ◌∙◌, inr, ap, subst, sym, arith, length, cond, false, Some, None, eq-eqb}
use Rattle.std.specs.Prelude.{slice_get}
use Rattle.std.proofs.Math.Nat.{div-add-mod}
use Rattle.ntfe_model.specs.Charts.{Patch}
use Rattle.ntfe_model.specs.Words.{IsItem, HasItemAt}
use Rattle.ntfe_model.specs.declared.triangulation.Triangulation.{Triangulation}
use Rattle.ntfe_model.proofs.Items.{lesser_items}
use Rattle.fine_stream.proofs.Finding.{when_false}
use Rattle.shared_stream.specs.Segments.{Stretch, IsSegment, HasSegment, IsNumberOf, item_in}

-- there are more items behind the segment
pub goes_on : (s : Stretch) → IsSegment s → s.ended ≡ false → HasItemAt s.patch (256 * s.number + 256)
goes_on s i e = when_false s.ended _ _ e i.ended

pub is_whole : (s : Stretch) → IsSegment s → s.ended ≡ false → 255 < length s.items
is_whole s i e = i.items.all 255 (omega arith) (lesser_items s.patch (256 * s.number + 256) (256 * s.number + 255) (goes_on s i e) (omega arith))

pub next_segment : (h : Patch) (n : ℕ) → HasItemAt h (256 * n + 256) → HasSegment h (n + 1)
next_segment h n i = let Q : ℕ → Type 0 = λ k. HasItemAt h k in inr (subst Q (omega arith) i)

pub has_next : (s : Stretch) → IsSegment s → s.ended ≡ false → HasSegment s.patch (s.number + 1)
has_next s i e = next_segment s.patch s.number (goes_on s i e)

parts : (s : Stretch) (number : ℕ) → IsNumberOf s number → 256 * s.number + number % 256 ≡ number
parts s number n = ap (λ k. 256 * k + number % 256) (sym n) ∙ div-add-mod number 256

pub item_there : (s : Stretch) (number : ℕ) (x : Triangulation) → IsNumberOf s number → slice_get s.items (number % 256) ≡ Some x → item_in s number ≡ Some x
item_there s number x n e = ap (λ b. cond b (slice_get s.items (number % 256)) None) (eq-eqb (number / 256) s.number n) ∙ e

pub item_is : (s : Stretch) (number : ℕ) (x : Triangulation) → IsSegment s → IsNumberOf s number → slice_get s.items (number % 256) ≡ Some x → IsItem s.patch number x
item_is s number x i n e = let Q : ℕ → Type 0 = λ k. IsItem s.patch k x in subst Q (parts s number n) (i.items.items (number % 256) x e)

pub item_none : (s : Stretch) (number : ℕ) → IsSegment s → length s.items ≤ number % 256 → IsNumberOf s number × HasItemAt s.patch number → ⊥
item_none s number i l p =
    let Q : ℕ → Type 0 = λ k. HasItemAt s.patch k in
    let m : number % 256 < 256 = omega arith in
    let k = i.items.all (number % 256) m (subst Q (sym (parts s number p.0)) p.1) in
    absurd (omega (arith, k, l))
