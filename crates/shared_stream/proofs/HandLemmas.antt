-- Which segments a two-face has.
use Rattle.std.proofs.Common.{◌≡◌, ℕ, ◌+◌, ◌*◌, ◌<◌, ◌≤◌, inl, inr, subst, arith, Bool, true, false}
use Rattle.std.specs.Prelude.{MatchBool}
use Rattle.ntfe_model.specs.Charts.{Patch}
use Rattle.ntfe_model.specs.Words.{HasItemAt}
use Rattle.ntfe_model.proofs.Items.{lesser_items}
use Rattle.fine_stream.proofs.Finding.{when_true, when_false}
use Rattle.shared_stream.specs.Segments.{Stretch, HasSegment}
use Rattle.shared_stream.specs.Hands.{HasSegmentsBelow}
use Rattle.shared_stream.proofs.SegmentLemmas.{next_segment}

has_lesser : (h : Patch) (n k : ℕ) → HasSegment h n → k ≤ n → HasSegment h k
has_lesser h n k (inl e) l = inl (omega (arith, e, l))
has_lesser h n k (inr i) l = inr (lesser_items h (256 * n) (256 * k) i (omega (arith, l)))

none_above : (h : Patch) (n k : ℕ) → ¬ (HasItemAt h (256 * n + 256)) → HasSegment h k → k < n + 1
none_above h n k none (inl e) = omega (arith, e)
none_above h n k none (inr i) =
    let no : ¬ (n + 1 ≤ k) = λ l. none (lesser_items h (256 * k) (256 * n + 256) i (omega (arith, l))) in omega (arith, no)

-- the segment is the last one
pub is_last : (h : Patch) (s : Stretch) (n : ℕ) (ended : Bool) → s.patch ≡ h → HasSegment s.patch s.number → n ≡ s.number → ended ≡ true
    → MatchBool ended (¬ (HasItemAt s.patch (256 * s.number + 256))) (HasItemAt s.patch (256 * s.number + 256)) → HasSegmentsBelow h (n + 1)
is_last h s n ended p has e t m =
    let P : Patch → Type 0 = λ q. HasSegmentsBelow q (n + 1) in
    subst P p (λ k. (λ i. (let l = none_above s.patch s.number k (when_true ended _ _ t m) i in omega (arith, l, e)), λ l. has_lesser s.patch s.number k has (omega (arith, l, e))))

-- the segment has a next one
pub is_not_last : (h : Patch) (s : Stretch) (ended : Bool) → s.patch ≡ h → ended ≡ false
    → MatchBool ended (¬ (HasItemAt s.patch (256 * s.number + 256))) (HasItemAt s.patch (256 * s.number + 256)) → HasSegment h (s.number + 1)
is_not_last h s ended p f m = let P : Patch → Type 0 = λ q. HasSegment q (s.number + 1) in subst P p (next_segment s.patch s.number (when_false ended _ _ f m))
