-- A two-face as the numbers of its points among all points.
use Rattle.std.specs.Prelude.{◌≡◌, ℕ, ◌<◌, List, map, All, pos}
use Rattle.ntfe_model.specs.Lists.{IsNumberOf}
use Rattle.ntfe_model.specs.Points.{place_of_point}
use Rattle.ntfe_model.specs.Charts.{Patch, IsOf, turn}
use Rattle.ntfe_model.specs.declared.point.Point.{Point}

-- the points with these numbers, each with its place
abbrev pub patch : List ℕ → List Point → Patch
patch ks xs = map (λ k. record { number = k; place = place_of_point xs k }) ks

-- the numbers are those of points of the list
abbrev pub AreKnown : List ℕ → List Point → Type 0
AreKnown ks xs = All (IsNumberOf xs) ks

-- three points of the face that turn to the left, the least number first
pub record AreLeft (h : Patch) (a b c : ℕ) : Type 0 where
  pub points : IsOf h a × IsOf h b × IsOf h c
  pub turned : turn h a b c ≡ pos 1
  pub least : (a < b) × (a < c)
