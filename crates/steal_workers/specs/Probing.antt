-- What probes keys, and what a probe has shown.
use Rattle.std.specs.Prelude.{◌≡◌, ℕ, ◌<◌, ◌≤◌, List, length, slice_get, Some, ⊤}
use Rattle.ntfe_model.specs.Shapes.{Shape}
use Rattle.ntfe_model.specs.Charts.{Patch}
use Rattle.ntfe_model.specs.Keys.{AllItemsExist, IsRefutedAt, IsWideAt}
use Rattle.node_probe.specs.FoldCaches.{patches}
use Rattle.node_probe.specs.declared.finding.Finding.{Finding}
use Rattle.node_probe.specs.declared.finding.Finding.TheVariants as finding
use Rattle.ntfe_model.specs.declared.nogood.Nogood.{Nogood}
use Rattle.choice_board.specs.Verdicts.{IsTrueOf}
use Rattle.choice_board.specs.declared.verdict.Verdict.{Verdict}
use Rattle.choice_board.specs.declared.verdict.Verdict.TheVariants as verdict

-- what a prober sees: the geometry whose keys it probes, and the solver's width
pub record Probes : Type 0 where
  pub geometry : Shape
  pub width : ℕ

-- its folds are of this geometry, its stems and its solver have a column for each point, and its width is one that the solver takes
pub record IsProber (g : Shape) (cache : List Patch) (stems columns width : ℕ) : Type 0 where
  pub cached : cache ≡ patches g
  pub stems_points : stems ≡ length g.points
  pub points : columns ≡ length g.points
  pub low : 1 ≤ width
  pub high : width ≤ 62

-- what the probe of a key has shown beside its verdict: a key that is gone into is not refuted, and a choice is wide at this width
abbrev pub IsProbed : Shape → ℕ → List ℕ → Verdict → Type 0
IsProbed g width key verdict.Descend = AllItemsExist g key × ¬ (IsRefutedAt g width key)
IsProbed g width key (verdict.Wide step number) = IsWideAt g width key step number
IsProbed g width key v = ⊤

-- the verdict is true of the key, and the probe has shown it
abbrev pub IsVerdictOn : Shape → ℕ → List ℕ → Verdict → Type 0
IsVerdictOn g width key v = IsTrueOf g key v × IsProbed g width key v

-- where a certificate blocks the key, it is one of the set
abbrev pub FindsWithin : List Nogood → Finding → Type 0
FindsWithin set (finding.Blocked place) = place < length set
FindsWithin set f = ⊤

-- the verdict of what is found
abbrev pub IsVerdictOf : List Nogood → Finding → Verdict → Type 0
IsVerdictOf set finding.End v = v ≡ verdict.End
IsVerdictOf set (finding.Far face) v = v ≡ verdict.Far
IsVerdictOf set (finding.Blocked place) v = (n : Nogood) × (slice_get set place ≡ Some n) × (v ≡ verdict.Pruned n)
IsVerdictOf set (finding.Refuted n) v = v ≡ verdict.Pruned n
IsVerdictOf set (finding.Wide step number) v = v ≡ verdict.Wide step number
IsVerdictOf set (finding.Class w) v = v ≡ verdict.Class w
IsVerdictOf set finding.Descend v = v ≡ verdict.Descend
