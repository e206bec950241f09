-- The facet of four points, from the bits of the entries that are tight on them.
use Rattle.std.proofs.Common.{◌≢◌, ℕ, ◌^◌, ◌<◌, List, length, bit_and, w64}
use Rattle.std.specs.Int.{trailing_zeros}
use Rattle.std.proofs.lemmas.List.Elements.{Contains-get_or}
use Rattle.ntfe_nums.specs.Vectors.{Vector, origin}
use Rattle.ntfe_model.specs.Reflexive.{at, HasFacet}
use Rattle.ntfe_model.specs.TightBits.{AreTightBits}
use Rattle.ntfe_model.proofs.TightLemmas.{facet_from_bits}

pub has_facet : (a b c d : Vector) (ms : List Vector) (p q r s : ℕ)
    → AreTightBits a ms (length ms) p → AreTightBits b ms (length ms) q → AreTightBits c ms (length ms) r → AreTightBits d ms (length ms) s
    → s < 2 ^ 64 → bit_and (bit_and (bit_and p q) r) s ≢ 0 → HasFacet ms a b c d
has_facet a b c d ms p q r s hp hq hr hs small some =
    let f = facet_from_bits a b c d ms p q r s hp hq hr hs small some in
    let k = trailing_zeros w64 (bit_and (bit_and (bit_and p q) r) s) in
    (at ms k, Contains-get_or ms k origin f.place, f.first, f.second, f.third, f.fourth)
