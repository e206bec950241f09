-- When two lists are the vertices of a reflexive polytope and of its dual.
use Rattle.std.specs.Prelude.{◌≡◌, ◌≢◌, ℕ, ◌<◌, ◌≤◌, ◌⊎◌, pos, negsuc, ◌≤ℤ◌, ◌<ℤ◌, List, length, slice_index_or, All, AllPairs, Contains}
use Rattle.ntfe_model.specs.Lists.{IsNumberOf}
use Rattle.ntfe_nums.specs.Vectors.{Vector, origin, dot, side_of, AreAffinelyIndependent, AreLinearlyIndependent}
use Rattle.ntfe_model.specs.Pairs.{VertexLists, entry}

-- the scalar product is -1
abbrev pub IsTight : Vector → Vector → Type 0
IsTight m v = dot m v ≡ negsuc 0

-- no two entries of the list are equal
abbrev pub HasNoRepeat : List Vector → Type 0
HasNoRepeat vs = AllPairs (λ a b. a ≢ b) vs

-- the entry at this place, counted from 0
abbrev pub at : List Vector → ℕ → Vector
at vs i = slice_index_or vs i origin

-- four places of a list of n, rising. What is asked of four vectors below depends on their set alone, since another order changes no more than the sign of a determinant.
abbrev pub AreRising : ℕ → ℕ → ℕ → ℕ → ℕ → Type 0
AreRising i j k l n = (i < j) × (j < k) × (k < l) × (l < n)

-- m is tight on the four vectors at these places, which are linearly independent
pub record AreTightFour (m : Vector) (vs : List Vector) (i j k l : ℕ) : Type 0 where
  pub first : IsTight m (at vs i)
  pub second : IsTight m (at vs j)
  pub third : IsTight m (at vs k)
  pub fourth : IsTight m (at vs l)
  pub independent : AreLinearlyIndependent (at vs i) (at vs j) (at vs k) (at vs l)

-- m is tight on four linearly independent vectors of the list
pub record IsTightOnFour (m : Vector) (vs : List Vector) : Type 0 where
  pub i : ℕ
  pub j : ℕ
  pub k : ℕ
  pub l : ℕ
  pub rising : AreRising i j k l (length vs)
  pub four : AreTightFour m vs i j k l

-- all of the list lies on one side of the hyperplane through a, b, c, d, or on it
abbrev pub IsOnOneSide : Vector → Vector → Vector → Vector → List Vector → Type 0
IsOnOneSide a b c d vs = All (λ x. side_of a b c d x ≤ℤ pos 0) vs ⊎ All (λ x. pos 0 ≤ℤ side_of a b c d x) vs

-- some given m is tight on all four
abbrev pub HasFacet : List Vector → Vector → Vector → Vector → Vector → Type 0
HasFacet ms a b c d = (m : Vector) × Contains ms m × IsTight m a × IsTight m b × IsTight m c × IsTight m d

-- where the vertices at these four places span a facet, some given m is tight on them
abbrev pub IsCovered : VertexLists → ℕ → ℕ → ℕ → ℕ → Type 0
IsCovered p i j k l =
    AreAffinelyIndependent (at p.vertices i) (at p.vertices j) (at p.vertices k) (at p.vertices l) →
    IsOnOneSide (at p.vertices i) (at p.vertices j) (at p.vertices k) (at p.vertices l) p.vertices →
    HasFacet p.dual (at p.vertices i) (at p.vertices j) (at p.vertices k) (at p.vertices l)

-- ---- what is wrong with lists that form no such pair; numbers are counted from 1

-- entries i < j are equal
pub record IsRepeated (vs : List Vector) (i j : ℕ) : Type 0 where
  pub ordered : (1 ≤ i) × (i < j) × (j ≤ length vs)
  pub same : entry vs i ≡ entry vs j

-- vertex i and dual vertex j have a scalar product below -1
pub record HasLowProduct (p : VertexLists) (i j : ℕ) : Type 0 where
  pub vertex : IsNumberOf p.vertices i
  pub facet : IsNumberOf p.dual j
  pub under : dot (entry p.dual j) (entry p.vertices i) <ℤ negsuc 0

-- entry i of the first list is tight on no four independent entries of the second
pub record IsTightOnNoFour (ms vs : List Vector) (i : ℕ) : Type 0 where
  pub number : IsNumberOf ms i
  pub loose : ¬ (IsTightOnFour (entry ms i) vs)

-- vertices i < j < k < l span a facet that no given m describes
pub record IsOtherFacet (p : VertexLists) (i j k l : ℕ) : Type 0 where
  pub ordered : (1 ≤ i) × (i < j) × (j < k) × (k < l) × (l ≤ length p.vertices)
  pub independent : AreAffinelyIndependent (entry p.vertices i) (entry p.vertices j) (entry p.vertices k) (entry p.vertices l)
  pub one_side : IsOnOneSide (entry p.vertices i) (entry p.vertices j) (entry p.vertices k) (entry p.vertices l) p.vertices
  pub missing : ¬ (HasFacet p.dual (entry p.vertices i) (entry p.vertices j) (entry p.vertices k) (entry p.vertices l))

-- ---- the definition: two lists form a reflexive pair
pub record IsReflexive (p : VertexLists) : Type 0 where
  pub distinct_vertices : HasNoRepeat p.vertices
  pub distinct_dual : HasNoRepeat p.dual
  pub within : (m v : Vector) → Contains p.dual m → Contains p.vertices v → negsuc 0 ≤ℤ dot m v
  pub facets : (m : Vector) → Contains p.dual m → IsTightOnFour m p.vertices
  pub corners : (v : Vector) → Contains p.vertices v → IsTightOnFour v p.dual
  pub closed : (i j k l : ℕ) → AreRising i j k l (length p.vertices) → IsCovered p i j k l
