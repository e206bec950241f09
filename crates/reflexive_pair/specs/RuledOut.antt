-- What is known of two lists once a cause is ruled out.
use Rattle.std.specs.Prelude.{negsuc, ◌≤ℤ◌, List, Contains}
use Rattle.ntfe_nums.specs.Vectors.{Vector, dot}
use Rattle.ntfe_model.specs.Pairs.{VertexLists}
use Rattle.ntfe_model.specs.Reflexive.{HasNoRepeat, IsTightOnFour}

-- no entry of a list comes twice
abbrev pub AreDistinct : VertexLists → Type 0
AreDistinct p = HasNoRepeat p.vertices × HasNoRepeat p.dual

-- no scalar product of a dual vertex and a vertex is below -1
abbrev pub HasNoLowProduct : VertexLists → Type 0
HasNoLowProduct p = (m v : Vector) → Contains p.dual m → Contains p.vertices v → negsuc 0 ≤ℤ dot m v

-- each entry of the first list is tight on four linearly independent entries of the second
abbrev pub AreTightOnFour : List Vector → List Vector → Type 0
AreTightOnFour ms vs = (m : Vector) → Contains ms m → IsTightOnFour m vs
