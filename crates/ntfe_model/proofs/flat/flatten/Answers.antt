use Rattle.std.proofs.Common.{ℕ, ◌-◌, arith, sym, subst, ap, ℤ, pos, List, get_or, w64, to_z, of_z, ◌≡◌, ◌∙◌}
use Rattle.ntfe_nums.specs.Vectors.{Vector, numbers, coordinate}
use Rattle.ntfe_model.specs.Pairs.{IsSmall}
use Rattle.ntfe_nums.proofs.Machine.{back}
use Rattle.ntfe_model.specs.declared.flat.Flat.{Flat}
use Rattle.ntfe_model.specs.Flats.{IsSmallFlat, flat_of}
use Rattle.ntfe_model.proofs.FlatLemmas.{small_coordinate, small_flat}
use Rattle.ntfe_model.proofs.flat.flatten.Goals as goal

part : (k : ℕ) (v : Vector) (zs : List ℤ) → IsSmall v → zs ≡ numbers v → to_z w64 (of_z w64 (get_or zs (k - 1) (pos 0))) ≡ coordinate k v
part k v zs s e = ap (λ l. to_z w64 (of_z w64 (get_or l (k - 1) (pos 0)))) e ∙ back w64 (coordinate k v) 1023 (small_coordinate k v s) (omega arith)

pub returns : goal.returns
returns c =
    let v = c.args.place.now in
    let q = c.args.axes in
    let zs = c.coordinates-coordinates.result.now in
    let f = part q.0 v zs c.requires.small c.coordinates-coordinates.ensures.list in
    let g = part q.1 v zs c.requires.small c.coordinates-coordinates.ensures.list in
    let e : record { x = to_z w64 (of_z w64 (get_or zs (q.0 - 1) (pos 0))); y = to_z w64 (of_z w64 (get_or zs (q.1 - 1) (pos 0))) } ≡ flat_of q v = λ i. record { x = f i; y = g i } in
    let P : Flat → Type 0 = IsSmallFlat in
    record { value = e; small = subst P (sym e) (small_flat q v c.requires.small) }
