-- The lines of a pair, list by list.
use Rattle.std.proofs.Common.{List, [], ◌++◌, refl}
use Rattle.std.specs.Prelude.{codes}
use Rattle.ntfe_nums.specs.Vectors.{Vector}
use Rattle.ntfe_model.specs.Pairs.{IsBounded}
use Rattle.ntfe_model.specs.PairText.{Line, nothing, AreListLines, ArePairLines, IsDueInList, IsDue, in_vertices, in_dual, in_none}
use Rattle.pair_text.proofs.Faults.{Leads, list_bounded}

pub vertices_lead : Leads (IsDueInList (codes "vertices")) IsDue []
vertices_lead good due h = in_vertices h

pub dual_lead : (vs : List Vector) (first : List Line) → AreListLines (codes "vertices") vs first → Leads (IsDueInList (codes "dual")) IsDue first
dual_lead vs first whole good due h = in_dual (record { vertices = vs; first = first; second = good; lines_are = refl; whole = whole; is = h })

module _ (vs us : List Vector) (first second : List Line) (vertices : AreListLines (codes "vertices") vs first) (dual : AreListLines (codes "dual") us second) where
  pub pair_lines_are : ArePairLines (record { vertices = vs; dual = us }) (first ++ second)
  pair_lines_are = record { first = first; second = second; lines_are = refl; vertices = vertices; dual = dual }

  pub nothing_due : IsDue (first ++ second) nothing
  nothing_due = in_none (record { pair = record { vertices = vs; dual = us }; whole = pair_lines_are; is = refl })

  pub pair_bounded : IsBounded (record { vertices = vs; dual = us })
  pair_bounded = record { vertices = list_bounded (codes "vertices") vs first vertices; dual = list_bounded (codes "dual") us second dual }
