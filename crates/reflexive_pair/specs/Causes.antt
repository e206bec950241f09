-- Why two lists are no reflexive pair: the first of the causes that holds, with its lexicographically least numbers.
use Rattle.std.specs.Prelude.{◌≡◌, true, false}
use Rattle.ntfe_nums.specs.Vectors.{dot}
use Rattle.ntfe_model.specs.Lists.{IsLeast, IsLeast2, IsLeast4}
use Rattle.ntfe_model.specs.Pairs.{VertexLists, entry}
use Rattle.ntfe_model.specs.Reflexive.{HasNoRepeat, IsRepeated, HasLowProduct, IsTightOnNoFour, IsOtherFacet}
use Rattle.reflexive_pair.specs.RuledOut.{AreDistinct, HasNoLowProduct, AreTightOnFour}
use Rattle.reflexive_pair.specs.declared.fault.PairFault.{PairFault}
use Rattle.reflexive_pair.specs.declared.fault.PairFault.TheVariants.{Repeated, Below, NotFacet, NotVertex, OtherFacet}

abbrev pub HasFault : VertexLists → PairFault → Type 0
HasFault p (Repeated false i j) = IsLeast2 (IsRepeated p.vertices) i j
HasFault p (Repeated true i j) = HasNoRepeat p.vertices × IsLeast2 (IsRepeated p.dual) i j
HasFault p (Below vertex facet product) =
    AreDistinct p × IsLeast2 (HasLowProduct p) vertex facet × (product ≡ dot (entry p.dual facet) (entry p.vertices vertex))
HasFault p (NotFacet facet) =
    AreDistinct p × HasNoLowProduct p × IsLeast (IsTightOnNoFour p.dual p.vertices) facet
HasFault p (NotVertex vertex) =
    AreDistinct p × HasNoLowProduct p × AreTightOnFour p.dual p.vertices × IsLeast (IsTightOnNoFour p.vertices p.dual) vertex
HasFault p (OtherFacet i j k l) =
    AreDistinct p × HasNoLowProduct p × AreTightOnFour p.dual p.vertices × AreTightOnFour p.vertices p.dual × IsLeast4 (IsOtherFacet p) i j k l
