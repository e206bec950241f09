-- The text of the points and two-faces of a polytope, as bytes.
use Rattle.std.specs.Prelude.{ℕ, ◌+◌, List, [], ◌∷◌, ◌++◌, length, codes, decimal}
use Rattle.ntfe_model.specs.RunText.{spaced, number_line, vector_line}
use Rattle.ntfe_model.specs.Shapes.{Shape}
use Rattle.ntfe_model.specs.declared.point.Point.{Point}
use Rattle.ntfe_model.specs.declared.face.Face.{Face}

-- a line for each entry, with its number, where the first entry has the number k
abbrev pub numbered : {X : Type 0} → (ℕ → X → List ℕ) → ℕ → List X → List ℕ
numbered line k [] = []
numbered line k (x ∷ xs) = line k x ++ numbered line (k + 1) xs

-- the number of a point, and its coordinates
abbrev pub point_line : ℕ → Point → List ℕ
point_line k x = decimal k ++ spaced (vector_line x.place)

-- the number of a two-face, its two facets, how many points it has, and the points
abbrev pub face_line : ℕ → Face → List ℕ
face_line k f = number_line (decimal k) (f.first ∷ f.second ∷ length f.points ∷ f.points)

-- the points, numbered from 1, and the two-faces, numbered from 0
abbrev pub faces_text : Shape → List ℕ
faces_text g =
    number_line (codes "points") (length g.points ∷ [])
    ++ (numbered point_line 1 g.points ++ (number_line (codes "faces") (length g.faces ∷ []) ++ numbered face_line 0 g.faces))
