use Rattle.std.proofs.Common.{length, subst, arith}
use Rattle.ntfe_model.specs.Points.{place_of_point}
use Rattle.ntfe_model.specs.TightBits.{AreTightBits}
use Rattle.ntfe_model.proofs.TightLemmas.{facet_from_bits, none_from_bits}
use Rattle.star_builder.proofs.beyond_ridge.facet_of.Goals as goal

pub returns : goal.returns
returns c =
    let xs = c.args.points.now in
    let ms = c.args.dual.now in
    let f = c.args.four in
    let a = subst (λ v. AreTightBits v ms (length ms) c.tight_bits-a.result) c.place.ensures.value c.tight_bits-a.ensures in
    let b = subst (λ v. AreTightBits v ms (length ms) c.tight_bits-b.result) c.place-2.ensures.value c.tight_bits-b.ensures in
    let d = subst (λ v. AreTightBits v ms (length ms) c.tight_bits-c.result) c.place-3.ensures.value c.tight_bits-c.ensures in
    let e = subst (λ v. AreTightBits v ms (length ms) c.tight_bits-d.result) c.place-4.ensures.value c.tight_bits-d.ensures in
    facet_from_bits (place_of_point xs f.a) (place_of_point xs f.b) (place_of_point xs f.c) (place_of_point xs f.d) ms c.tight_bits-a.result c.tight_bits-b.result c.tight_bits-c.result c.tight_bits-d.result a b d e
    (let t = c.tight_bits-d.type_inv in omega arith)
    (λ z. none_from_bits (place_of_point xs f.a) (place_of_point xs f.b) (place_of_point xs f.c) (place_of_point xs f.d) ms c.tight_bits-a.result c.tight_bits-b.result c.tight_bits-c.result c.tight_bits-d.result a b d e z c.requires.facet)
