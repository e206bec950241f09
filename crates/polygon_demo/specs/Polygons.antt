-- The five polygons of the demo, each with its dual, and the product of two.
use Rattle.std.specs.Prelude.{ℕ, ◌-◌, ℤ, pos, negsuc, List, [], ◌∷◌, ◌++◌, map, flat_map, slice_index_or}
use Rattle.ntfe_nums.specs.Vectors.{Vector}
use Rattle.ntfe_model.specs.Pairs.{VertexLists}

-- the vertices of a lattice polygon, and those of its dual
pub record Polygon : Type 0 where
  pub vertices : List (ℤ × ℤ)
  pub dual : List (ℤ × ℤ)

-- the numbers 2, 1, 0 and -1
abbrev two' : ℤ
two' = pos 2

abbrev p : ℤ
p = pos 1

abbrev o : ℤ
o = pos 0

abbrev m : ℤ
m = negsuc 0

abbrev pub triangle : Polygon
triangle = record {
  vertices = (p, o) ∷ (o, p) ∷ (m, m) ∷ [];
  dual = (m, m) ∷ (two', m) ∷ (m, two') ∷ [];
}

abbrev pub square : Polygon
square = record {
  vertices = (p, o) ∷ (o, p) ∷ (m, o) ∷ (o, m) ∷ [];
  dual = (m, m) ∷ (p, m) ∷ (p, p) ∷ (m, p) ∷ [];
}

abbrev pub trapezium : Polygon
trapezium = record {
  vertices = (p, o) ∷ (o, p) ∷ (m, p) ∷ (o, m) ∷ [];
  dual = (m, m) ∷ (o, m) ∷ (two', p) ∷ (m, p) ∷ [];
}

abbrev pub pentagon : Polygon
pentagon = record {
  vertices = (p, o) ∷ (p, p) ∷ (o, p) ∷ (m, o) ∷ (o, m) ∷ [];
  dual = (m, o) ∷ (o, m) ∷ (p, m) ∷ (p, p) ∷ (m, p) ∷ [];
}

abbrev pub hexagon : Polygon
hexagon = record {
  vertices = (p, o) ∷ (p, p) ∷ (o, p) ∷ (m, o) ∷ (m, m) ∷ (o, m) ∷ [];
  dual = (m, o) ∷ (o, m) ∷ (p, m) ∷ (p, o) ∷ (o, p) ∷ (m, p) ∷ [];
}

-- the polygon with this number, from 1 to 5
abbrev pub polygon : ℕ → Polygon
polygon number = slice_index_or (triangle ∷ square ∷ trapezium ∷ pentagon ∷ hexagon ∷ []) (number - 1) triangle

-- the point of the product over a point of each plane
abbrev pub joined : ℤ × ℤ → ℤ × ℤ → Vector
joined u v = record { x1 = u.0; x2 = u.1; x3 = v.0; x4 = v.1 }

-- the product of two polygons: its vertices are those of both, the second polygon's running faster; it has one facet for
-- each side of the first polygon, and then one for each side of the second
abbrev pub product : Polygon → Polygon → VertexLists
product a b = record {
  vertices = flat_map (λ u. map (joined u) b.vertices) a.vertices;
  dual = map (λ w. joined w (o, o)) a.dual ++ map (joined (o, o)) b.dual;
}

-- the pair of the demo with this number
abbrev pub demo_pair : ℕ → VertexLists
demo_pair number = product (polygon 1) (polygon number)
