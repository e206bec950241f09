-- What a table of the unit triples of a face says.
use Rattle.std.specs.Prelude.{◌≡◌, ℕ, ◌<◌, ◌≤◌, Bool, false, List, [], ◌∷◌, length, map, All, AllPairs, Contains, MatchBool, slice_index_or, ⊤}
use Rattle.ntfe_model.specs.Charts.{Patch, IsOf, IsUnit}
use Rattle.ntfe_model.specs.Words.{written}
use Rattle.ntfe_model.specs.declared.triangle.Triangle.{Triangle}
use Rattle.fine_stream.specs.Paths.{AreCompatible}
use Rattle.fine_stream.specs.declared.tables.Candidate.{Candidate}
use Rattle.fine_stream.specs.declared.tables.Fan.{Fan}
use Rattle.fine_stream.specs.declared.tables.Tables.{Tables}
use Rattle.fine_stream.specs.declared.path.Path.{Path}

abbrev pub AreUnit : Patch → List Triangle → Type 0
AreUnit h ts = All (λ t. IsUnit h t.a t.b t.c) ts

-- stands for a triple whose place is out of range
abbrev pub no_triple : Triangle
no_triple = record { a = 0; b = 0; c = 0 }

abbrev pub triple_at : List Triangle → ℕ → Triangle
triple_at triples p = slice_index_or triples p no_triple

-- the triple stands at this place of the list, if the list is so long
abbrev pub IsPlaceOf : List Triangle → ℕ → Triangle → Type 0
IsPlaceOf triples p t = slice_index_or triples p t ≡ t

-- each triple stands at its place
abbrev pub ArePlaces : List Triangle → List ℕ → List Triangle → Type 0
ArePlaces triples [] [] = ⊤
ArePlaces triples (p ∷ ps) (t ∷ ts) = IsPlaceOf triples p t × ArePlaces triples ps ts
ArePlaces triples ps ts = ⊥

-- for the first places of the list, whether the triple there is in conflict with t
pub record TellsConflicts (h : Patch) (triples : List Triangle) (t : Triangle) (row : List Bool) : Type 0 where
  pub within : length row ≤ length triples
  pub told : (p : ℕ) → p < length row → MatchBool (slice_index_or row p false) (¬ (AreCompatible h (triple_at triples p) t)) (AreCompatible h (triple_at triples p) t)

-- points of the face by rising numbers, among them all that close the step (a, b) to a unit triple, and the places of the triples
pub record AreCandidates (h : Patch) (triples : List Triangle) (a b : ℕ) (cs : List Candidate) : Type 0 where
  pub rising : AllPairs (λ j k. j < k) (map (λ x. x.point) cs)
  pub points : All (λ x. IsOf h x.point) cs
  pub places : All (λ x. IsPlaceOf triples x.place (written a b x.point)) cs
  pub complete : (c : ℕ) → IsUnit h a b c → Contains (map (λ x. x.point) cs) c

-- the same of some points of the face
pub record AreFirstCandidates (h : Patch) (triples : List Triangle) (a b : ℕ) (ks : List ℕ) (cs : List Candidate) : Type 0 where
  pub among : (d : ℕ) → Contains (map (λ x. x.point) cs) d → Contains ks d
  pub rising : AllPairs (λ j k. j < k) (map (λ x. x.point) cs)
  pub points : All (λ x. IsOf h x.point) cs
  pub places : All (λ x. IsPlaceOf triples x.place (written a b x.point)) cs
  pub complete : (c : ℕ) → Contains ks c → IsUnit h a b c → Contains (map (λ x. x.point) cs) c

abbrev pub IsFan : Patch → List Triangle → Fan → Type 0
IsFan h triples f = AreCandidates h triples f.from f.to f.candidates.items

-- for the first triples, whether each triple is in conflict with them
abbrev pub AreRows : Patch → List Triangle → List (List Bool) → Type 0
AreRows h triples rows = (q : ℕ) → q < length rows → TellsConflicts h triples (triple_at triples q) (slice_index_or rows q [])

pub record AreTables (h : Patch) (x : Tables) : Type 0 where
  pub all : (a b : ℕ) → AreCandidates h x.triples.items a b x.all.items
  pub fans : All (IsFan h x.triples.items) x.fans.items
  pub rows : AreRows h x.triples.items x.rows.items
  pub short : length x.rows.items ≤ length x.triples.items

-- the path has the places of its triples in the table
abbrev pub ArePlaced : Tables → Path → Type 0
ArePlaced x p = ArePlaces x.triples.items p.places.items p.triangles.items

-- what a contract sees of a two-face with its tables
pub record TabledFace : Type 0 where
  pub patch : Patch
  pub tables : Tables
