-- Four points by their numbers.
use Rattle.std.specs.Prelude.{◌≢◌, ◌<◌, ◌≤◌, ℕ, List, [], ◌∷◌}
use Rattle.ntfe_nums.specs.Vectors.{AreLinearlyIndependent}
use Rattle.ntfe_model.specs.Points.{place_of_point}
use Rattle.ntfe_model.specs.Lists.{IsNumberOf}
use Rattle.ntfe_model.specs.declared.point.Point.{Point}
use Rattle.star_builder.specs.declared.four.Four.{Four}

-- the numbers rise, and are those of points of the list
pub record AreRising (xs : List Point) (f : Four) : Type 0 where
  pub first : IsNumberOf xs f.a
  pub ab : f.a < f.b
  pub bc : f.b < f.c
  pub cd : f.c < f.d
  pub last : IsNumberOf xs f.d

-- the four as a list
abbrev pub members_of : Four → List ℕ
members_of f = f.a ∷ f.b ∷ f.c ∷ f.d ∷ []

-- the numbers rise from 1, and p is a number that is none of them
pub record IsApart (f : Four) (p : ℕ) : Type 0 where
  pub first : 1 ≤ f.a
  pub ab : f.a < f.b
  pub bc : f.b < f.c
  pub cd : f.c < f.d
  pub point : 1 ≤ p
  pub not_a : p ≢ f.a
  pub not_b : p ≢ f.b
  pub not_c : p ≢ f.c
  pub not_d : p ≢ f.d

abbrev pub AreIndependent : List Point → Four → Type 0
AreIndependent xs f = AreLinearlyIndependent (place_of_point xs f.a) (place_of_point xs f.b) (place_of_point xs f.c) (place_of_point xs f.d)
