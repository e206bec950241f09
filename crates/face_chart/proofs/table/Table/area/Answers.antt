use Rattle.std.proofs.Common.{arith, ◌≤◌, ◌≡◌, sym, subst, ◌∙◌, w64, to_z, of_z, ℤ, unsigned_abs}
use Rattle.ntfe_nums.proofs.Machine.{back}
use Rattle.ntfe_model.specs.Flats.{area_of_flats}
use Rattle.face_chart.proofs.PatchLemmas.{known_at, flat_length, flat_read, small_flat_read}
use Rattle.face_chart.proofs.table.Table.area.Goals as goal

pub overflow_sub-a : goal.overflow_sub-a
overflow_sub-a c = (known_at c.self.inside.numbers.items c.self.inside.places.items c.args.self.now c.self.view_is c.args.a c.self.invariant.known c.requires.a).0

pub overflow_sub-b : goal.overflow_sub-b
overflow_sub-b c = (known_at c.self.inside.numbers.items c.self.inside.places.items c.args.self.now c.self.view_is c.args.b c.self.invariant.known c.requires.b).0

pub overflow_sub-c : goal.overflow_sub-c
overflow_sub-c c = (known_at c.self.inside.numbers.items c.self.inside.places.items c.args.self.now c.self.view_is c.args.c c.self.invariant.known c.requires.c).0

pub index-a-requires : goal.index-a-requires
index-a-requires c =
    let r = known_at c.self.inside.numbers.items c.self.inside.places.items c.args.self.now c.self.view_is c.args.a c.self.invariant.known c.requires.a in
    let l = flat_length c.self.inside.numbers.items c.self.inside.places.items c.args.self.now c.self.view_is c.self.inside.flat.items c.self.invariant in
    let r0 = r.0 in
    let r1 = r.1 in
    omega arith

pub index-b-requires : goal.index-b-requires
index-b-requires c =
    let r = known_at c.self.inside.numbers.items c.self.inside.places.items c.args.self.now c.self.view_is c.args.b c.self.invariant.known c.requires.b in
    let l = flat_length c.self.inside.numbers.items c.self.inside.places.items c.args.self.now c.self.view_is c.self.inside.flat.items c.self.invariant in
    let r0 = r.0 in
    let r1 = r.1 in
    omega arith

pub index-c-requires : goal.index-c-requires
index-c-requires c =
    let r = known_at c.self.inside.numbers.items c.self.inside.places.items c.args.self.now c.self.view_is c.args.c c.self.invariant.known c.requires.c in
    let l = flat_length c.self.inside.numbers.items c.self.inside.places.items c.args.self.now c.self.view_is c.self.inside.flat.items c.self.invariant in
    let r0 = r.0 in
    let r1 = r.1 in
    omega arith

pub flat_area-requires : goal.flat_area-requires
flat_area-requires c =
    let i = c.self.inside in
    record {
      a = small_flat_read i.numbers.items i.places.items c.args.self.now c.self.view_is i.flat.items c.self.invariant c.args.a c.index-a.result.now c.requires.a c.index-a.ensures;
      b = small_flat_read i.numbers.items i.places.items c.args.self.now c.self.view_is i.flat.items c.self.invariant c.args.b c.index-b.result.now c.requires.b c.index-b.ensures;
      c = small_flat_read i.numbers.items i.places.items c.args.self.now c.self.view_is i.flat.items c.self.invariant c.args.c c.index-c.result.now c.requires.c c.index-c.ensures;
    }

pub returns : goal.returns
returns c =
    let i = c.self.inside in
    let h = c.args.self.now in
    let p = flat_read i.numbers.items i.places.items h c.self.view_is i.flat.items c.self.invariant c.args.a c.index-a.result.now c.requires.a c.index-a.ensures in
    let q = flat_read i.numbers.items i.places.items h c.self.view_is i.flat.items c.self.invariant c.args.b c.index-b.result.now c.requires.b c.index-b.ensures in
    let r = flat_read i.numbers.items i.places.items h c.self.view_is i.flat.items c.self.invariant c.args.c c.index-c.result.now c.requires.c c.index-c.ensures in
    let z = c.flat_area.result in
    let s = c.flat_area.ensures.size in
    let b : to_z w64 (of_z w64 z) ≡ z = back w64 z 16777216 s (omega arith) in
    let P : ℤ → Type 0 = λ y. unsigned_abs y ≤ 16777216 in
    record { value = b ∙ c.flat_area.ensures.value ∙ (λ j. area_of_flats (p j) (q j) (r j)); size = subst P (sym b) s }
