-- The ridges of a member of a star, and what lies across them.
use Rattle.std.specs.Prelude.{◌≡◌, ◌≢◌, ◌<◌, ◌≤◌, ℕ, ℤ, pos, ◌*ℤ◌, ◌<ℤ◌, List, [], ◌∷◌, length, Contains, Option, MatchOption}
use Rattle.std.specs.declared.option.Option.TheVariants.{None, Some}
use Rattle.ntfe_nums.specs.Vectors.{Vector, det4}
use Rattle.ntfe_model.specs.Lists.{IsNumberOf}
use Rattle.ntfe_model.specs.Points.{place_of_point}
use Rattle.ntfe_model.specs.Reflexive.{IsTight}
use Rattle.ntfe_model.specs.declared.point.Point.{Point}
use Rattle.star_builder.specs.declared.candidate.Candidate.{Candidate}
use Rattle.star_builder.specs.declared.four.Four.{Four}
use Rattle.star_builder.specs.declared.ridge.Ridge.{Ridge}
use Rattle.star_builder.specs.Frames.{IsFrame}
use Rattle.star_builder.specs.Fours.{members_of}
use Rattle.star_builder.specs.Others.{AreOthersAbove}

-- three points of the member, by rising numbers, without this one
pub record IsRidge (members : List ℕ) (without : ℕ) (r : Ridge) : Type 0 where
  pub ab : r.a < r.b
  pub bc : r.b < r.c
  pub not_a : r.a ≢ without
  pub not_b : r.b ≢ without
  pub not_c : r.c ≢ without
  pub first : Contains members r.a
  pub second : Contains members r.b
  pub third : Contains members r.c

-- the ridge and p, by rising numbers
pub record IsJoined (r : Ridge) (p : ℕ) (f : Four) : Type 0 where
  pub ab : f.a < f.b
  pub bc : f.b < f.c
  pub cd : f.c < f.d
  pub sound : (k : ℕ) → Contains (members_of f) k → Contains (r.a ∷ r.b ∷ r.c ∷ p ∷ []) k
  pub complete : (k : ℕ) → Contains (r.a ∷ r.b ∷ r.c ∷ p ∷ []) k → Contains (members_of f) k

-- p lies on the facet, on the other side of the ridge
pub record IsAcross (xs : List Point) (m : Vector) (r : Ridge) (without p : ℕ) : Type 0 where
  pub tight : IsTight m (place_of_point xs p)
  pub opposite : (det4 (place_of_point xs r.a) (place_of_point xs r.b) (place_of_point xs r.c) (place_of_point xs without)
      *ℤ det4 (place_of_point xs r.a) (place_of_point xs r.b) (place_of_point xs r.c) (place_of_point xs p)) <ℤ pos 0

-- p is a point across the ridge, and all other points of the facet are above the two
pub record IsLowest (xs : List Point) (w : List ℤ) (order : List ℕ) (m : Vector) (r : Ridge) (without p : ℕ) : Type 0 where
  pub number : IsNumberOf xs p
  pub across : IsAcross xs m r without p
  pub four : Four
  pub joined : IsJoined r p four
  pub above : AreOthersAbove xs w order m four (length xs)

-- a point across the ridge up to number n, the lowest if that is among these; none where none lies across
abbrev pub IsLowestTo : List Point → List ℤ → List ℕ → Vector → Ridge → ℕ → ℕ → Option ℕ → Type 0
IsLowestTo xs w order m r without n found =
    MatchOption found
    ((e : ℕ) → e ≤ n → IsLowest xs w order m r without e → ⊥)
    (λ p. IsNumberOf xs p × (p ≤ n) × IsAcross xs m r without p × ((e : ℕ) → e ≤ n → IsLowest xs w order m r without e → e ≡ p))

-- the ridge that is without this point is crossed to its lowest point
pub record IsCrossed (xs : List Point) (w : List ℤ) (order : List ℕ) (m : Vector) (f : Four) (without : ℕ) (found : Option Four) : Type 0 where
  pub ridge : Ridge
  pub is : IsRidge (members_of f) without ridge
  pub crossed : MatchOption found
      (IsLowestTo xs w order m ridge without (length xs) None)
      (λ other. (p : ℕ) × IsLowestTo xs w order m ridge without (length xs) (Some p) × IsJoined ridge p other)

-- the same, with the ridge and what all combinations of the four need
abbrev pub IsCandidateTo : List Point → List ℤ → List ℕ → Vector → Ridge → ℕ → ℕ → Option Candidate → Type 0
IsCandidateTo xs w order m r without n found =
    MatchOption found (IsLowestTo xs w order m r without n None) (λ c. IsLowestTo xs w order m r without n (Some c.point) × IsJoined r c.point c.four × IsFrame xs c.four c.frame)
