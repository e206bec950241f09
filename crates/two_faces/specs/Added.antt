-- What a part of the pairs of facets adds to a list of two-faces.
use Rattle.std.specs.Prelude.{◌≡◌, ℕ, List, ◌++◌}
use Rattle.ntfe_model.specs.Lists.{IsListing, IsBefore2}
use Rattle.ntfe_model.specs.Pairs.{VertexLists}
use Rattle.ntfe_model.specs.Points.{IsFaceOf}
use Rattle.ntfe_model.specs.declared.face.Face.{Face}
use Rattle.ntfe_model.specs.declared.point.Point.{Point}

-- a two-face whose numbers of facets have S
pub record IsFaceWith (p : VertexLists) (xs : List Point) (S : ℕ → ℕ → Type 0) (f : Face) : Type 0 where
  pub face : IsFaceOf p xs f
  pub numbers : S f.first f.second

-- all of them were added, in order
pub record AddsFaces (p : VertexLists) (xs : List Point) (S : ℕ → ℕ → Type 0) (old new : List Face) : Type 0 where
  pub added : List Face
  pub listing : IsListing (λ f g. IsBefore2 f.first f.second g.first g.second) (IsFaceWith p xs S) added
  pub items : new ≡ old ++ added
