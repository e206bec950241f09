-- The two lists of a pair.
use Rattle.std.specs.Prelude.{ℕ, ◌-◌, ◌≤◌, ℤ, pos, negsuc, ◌≤ℤ◌, List, length, map, slice_index_or, All}
use Rattle.ntfe_nums.specs.Vectors.{Vector, vector, origin}

pub record VertexLists : Type 0 where
  pub vertices : List Vector
  pub dual : List Vector

-- the entry with this number, counted from 1
abbrev pub entry : List Vector → ℕ → Vector
entry vs i = slice_index_or vs (i - 1) origin

pub record IsSmall (v : Vector) : Type 0 where
  pub low1 : negsuc 1022 ≤ℤ v.x1
  pub high1 : v.x1 ≤ℤ pos 1023
  pub low2 : negsuc 1022 ≤ℤ v.x2
  pub high2 : v.x2 ≤ℤ pos 1023
  pub low3 : negsuc 1022 ≤ℤ v.x3
  pub high3 : v.x3 ≤ℤ pos 1023
  pub low4 : negsuc 1022 ≤ℤ v.x4
  pub high4 : v.x4 ≤ℤ pos 1023

-- from 5 to 64 entries, and every coordinate from -1023 to 1023
pub record IsBoundedList (vs : List Vector) : Type 0 where
  pub at_least : 5 ≤ length vs
  pub at_most : length vs ≤ 64
  pub small : All IsSmall vs

pub record IsBounded (p : VertexLists) : Type 0 where
  pub vertices : IsBoundedList p.vertices
  pub dual : IsBoundedList p.dual

-- two lists of rows, each row the coordinates of a vector
abbrev pub vertex_lists : List (List ℤ) → List (List ℤ) → VertexLists
vertex_lists vertices dual = record { vertices = map vector vertices; dual = map vector dual }
