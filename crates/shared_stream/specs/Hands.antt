-- What a shelf hands out.
use Rattle.std.specs.Prelude.{ℕ, ◌<◌, ◌≤◌, ◌↔◌}
use Rattle.ntfe_model.specs.Charts.{Patch}
use Rattle.shared_stream.specs.Segments.{Stretch, HasSegment, IsSegmentOf}
use Rattle.shared_stream.specs.declared.handed.Handed.{Handed}
use Rattle.shared_stream.specs.declared.handed.Handed.TheVariants.{Lent, Own, Past}

-- the two-face has exactly the segments with lesser numbers
abbrev pub HasSegmentsBelow : Patch → ℕ → Type 0
HasSegmentsBelow h n = (k : ℕ) → HasSegment h k ↔ (k < n)

-- For a two-face and the number of a segment: the segment is lent; or a new one is given, where the cell held another one; or the two-face has only n
-- segments, and the number is not below.
abbrev pub IsHanded : Patch → ℕ → Handed → Type 0
IsHanded h number (Lent s) = IsSegmentOf h number s.now × HasSegment h number
IsHanded h number (Own s other) = IsSegmentOf h number s × HasSegment h number × (¬ (IsSegmentOf h number other.now))
IsHanded h number (Past n) = HasSegmentsBelow h n × (n ≤ number)

-- it is a segment of this two-face, with this number or a lesser one
abbrev pub IsUpTo : Patch → ℕ → Stretch → Type 0
IsUpTo h number s = (s.number ≤ number) × IsSegmentOf h s.number s
