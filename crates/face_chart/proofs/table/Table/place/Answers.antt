use Rattle.std.proofs.Common.{arith}
use Rattle.face_chart.proofs.PatchLemmas.{known_at, place_read, small_read}
use Rattle.face_chart.proofs.table.Table.place.Goals as goal

pub overflow_sub-a : goal.overflow_sub-a
overflow_sub-a c = (known_at c.self.inside.numbers.items c.self.inside.places.items c.args.self.now c.self.view_is c.args.a c.self.invariant.known c.requires).0

pub index-requires : goal.index-requires
index-requires c =
    let r = known_at c.self.inside.numbers.items c.self.inside.places.items c.args.self.now c.self.view_is c.args.a c.self.invariant.known c.requires in
    let r0 = r.0 in
    let r1 = r.1 in
    omega arith

pub returns : goal.returns
returns c =
    let i = c.self.inside in
    record {
      value = place_read i.numbers.items i.places.items c.args.self.now c.self.view_is c.args.a c.index.result.now c.self.invariant.known c.requires c.index.ensures;
      small = small_read i.numbers.items i.places.items c.args.self.now c.self.view_is c.args.a c.index.result.now c.self.invariant.known c.self.invariant.small c.requires c.index.ensures;
    }
