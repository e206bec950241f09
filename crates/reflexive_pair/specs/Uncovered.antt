-- Four vertices that span a facet that no dual vertex describes, by their places from 0.
use Rattle.std.specs.Prelude.{ℕ, ◌<◌}
use Rattle.ntfe_nums.specs.Vectors.{AreAffinelyIndependent}
use Rattle.ntfe_model.specs.Pairs.{VertexLists}
use Rattle.ntfe_model.specs.Reflexive.{at, IsOnOneSide, HasFacet}

pub record IsUncovered (p : VertexLists) (i j k l : ℕ) : Type 0 where
  pub independent : AreAffinelyIndependent (at p.vertices i) (at p.vertices j) (at p.vertices k) (at p.vertices l)
  pub one_side : IsOnOneSide (at p.vertices i) (at p.vertices j) (at p.vertices k) (at p.vertices l) p.vertices
  pub missing : ¬ (HasFacet p.dual (at p.vertices i) (at p.vertices j) (at p.vertices k) (at p.vertices l))

-- all four are places of a list of n
abbrev pub AreWithinPlaces : ℕ → ℕ × ℕ × ℕ × ℕ → Type 0
AreWithinPlaces n r = (r.0 < n) × (r.1 < n) × (r.2 < n) × (r.3 < n)
