use Rattle.std.proofs.Common.{◌≡◌, ◌^◌, ◌<◌, ◌≤◌, ◌∙◌, sym, ap, subst, arith, pow_mono, ℤ, pos, unsigned_abs, List, length-set, get_or, Some, None, to_z, of_z, w64}
use Rattle.std.specs.Int.{w128}
use Rattle.std.proofs.lemmas.List.{same_lists, get_or_default}
use Rattle.ntfe_model.specs.Solver.{first_wide}
use Rattle.strict_solver.specs.Grids.{lines_of}
use Rattle.strict_solver.specs.Rows.{number}
use Rattle.strict_solver.specs.Scales.{height_by, heights_by}
use Rattle.strict_solver.proofs.Rows.{unwrap64, unwrap128, set_next}
use Rattle.strict_solver.proofs.Wide.{all_narrow}
use Rattle.strict_solver.proofs.Running.{wider_grid}
use Rattle.strict_solver.proofs.Searches.{below_next}
use Rattle.strict_solver.proofs.Scaling.{ranged_length, ranged_get, wide_at}
use Rattle.strict_solver.proofs.grid.Grid.scale_heights.Goals as goal

pub height_at-height-requires-clause-grid : goal.height_at-height-requires-clause-grid
height_at-height-requires-clause-grid c = wider_grid c.args.width 62 c.args.self.now c.requires.high c.requires.grid

pub height_at-height-requires-clause-small : goal.height_at-height-requires-clause-small
height_at-height-requires-clause-small c = let h = c.requires.small in let p = pow_mono {i = c.args.width} {j = 62} c.requires.high in omega arith

pub returns-in_default : goal.returns-in_default
returns-in_default c =
    let ls = lines_of c.args.self.now in
    let n = c.args.self.now.columns in
    let m = c.args.scale in
    let k = c.loop-k.k in
    let at : get_or (heights_by n m ls) k (pos 0) ≡ height_by m (get_or ls k None) = ranged_get (λ i. height_by m (get_or ls i None)) n k (pos 0) (omega arith) in
    let e = c.height_at-height.ensures.value in
    let word = unwrap128 c.height_at-height.result c.height_at-height.ensures.size in
    let value : to_z w128 (of_z w128 c.height_at-height.result) ≡ get_or (heights_by n m ls) k (pos 0) = word ∙ e ∙ sym at in
    wide_at c.args.width (heights_by n m ls) k (let q = ranged_length (λ i. height_by m (get_or ls i None)) n in omega arith) c.loop-k.invariant.narrow
    (subst (λ z. 2 ^ c.args.width ≤ unsigned_abs z) value c.in_default.ensures)
    ∙ ap Some (sym value)

pub loop-k-preserved : goal.loop-k-preserved
loop-k-preserved c =
    let ls = lines_of c.args.self.now in
    let n = c.args.self.now.columns in
    let m = c.args.scale in
    let k = c.loop-k.k in
    let at : get_or (heights_by n m ls) k (pos 0) ≡ height_by m (get_or ls k None) = ranged_get (λ i. height_by m (get_or ls i None)) n k (pos 0) (omega arith) in
    let e = c.height_at-height.ensures.value in
    let word = unwrap128 c.height_at-height.result c.height_at-height.ensures.size in
    let w = c.in-Some.ensures in
    let value : to_z w128 (of_z w128 c.height_at-height.result) ≡ get_or (heights_by n m ls) k (pos 0) = word ∙ e ∙ sym at in
    let p = pow_mono {i = c.args.width} {j = 62} c.requires.high in
    let small : unsigned_abs (get_or (heights_by n m ls) k (pos 0)) < 2 ^ c.args.width = subst (λ z. unsigned_abs z < 2 ^ c.args.width) value w.0 in
    let number_is : c.in-Some.number ≡ get_or (heights_by n m ls) k (pos 0) = w.1 ∙ value in
    let own : unsigned_abs c.in-Some.number < 2 ^ 62 = subst (λ z. unsigned_abs z < 2 ^ 62) (sym number_is) (omega arith) in
    record {
      count = length-set c.loop-k.heights k _ ∙ c.loop-k.invariant.count;
      done = set_next c.loop-k.heights k (to_z w64 (of_z w64 c.in-Some.number)) (λ i z. z ≡ number (heights_by n m ls) i) (let q = c.loop-k.invariant.count in omega arith) (unwrap64 c.in-Some.number own ∙ number_is) c.loop-k.invariant.done;
      narrow = below_next (λ i. unsigned_abs (number (heights_by n m ls) i) < 2 ^ c.args.width) k c.loop-k.invariant.narrow small;
    }

pub returns : goal.returns
returns c =
    let ls = lines_of c.args.self.now in
    let n = c.args.self.now.columns in
    let m = c.args.scale in
    let i = c.loop-k.invariant in
    let count = ranged_length (λ i. height_by m (get_or ls i None)) n in
    let same : c.loop-k.heights ≡ heights_by n m ls =
    same_lists _ _ (i.count ∙ sym count) (λ k d l. get_or_default c.loop-k.heights k d (pos 0) l ∙ i.done k (let a = i.count in omega arith) ∙ get_or_default (heights_by n m ls) k (pos 0) d (let a = i.count in omega arith)) in
    let P : List ℤ → Type 0 = λ hs. first_wide c.args.width hs ≡ None in
    (same, subst P (sym same) (all_narrow c.args.width (heights_by n m ls) (λ k l. i.narrow k (omega arith))))
