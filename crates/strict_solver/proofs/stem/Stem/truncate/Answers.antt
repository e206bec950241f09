use Rattle.std.proofs.Common.{refl, sym, subst, arith, List, length, ◌≤◌}
use Rattle.ntfe_model.specs.declared.nogood.Fold.{Fold}
use Rattle.strict_solver.specs.declared.basis.Basis.{Basis}
use Rattle.strict_solver.specs.Stems.{HasMemory, IsKnownStem, IsSettled, IsCut}
use Rattle.strict_solver.proofs.Cutting.{settled_cut}
use Rattle.strict_solver.proofs.stem.Stem.truncate.Goals as goal

pub invariant_of-self : goal.invariant_of-self
invariant_of-self c =
    let s = c.self.inside in
    let b = s.basis in
    let d : Basis = record { columns = b.columns; denominator = b.denominator; cells = b.cells; places = c.truncate.new.self; line = b.line } in
    let m = c.self.invariant.0 in
    let memory : HasMemory d = record { few = m.few; cells = m.cells; line = m.line } in
    let cut : IsCut b d c.args.count = record { columns = refl; denominator = refl; cells = refl; places = c.truncate.ensures.items } in
    let low : s.settled ≤ c.args.count = (let a = c.if-count-self.false in omega arith) in
    let high : c.args.count ≤ length s.folds.items = (let a = c.if-count-len.true in let n = c.len.ensures in let o = s.folds.ok.0 in omega arith) in
    let K : List Fold → Type 0 = λ fs. IsKnownStem d fs in
    let S : List Fold → Type 0 = λ fs. IsSettled d fs s.settled in
    let e = c.truncate-then-count-len.ensures.items in
    (memory, λ k. subst K (sym e) ((c.self.invariant.2 k).each c.args.count low high d memory cut), λ k. subst S (sym e) (settled_cut b d s.folds.items s.settled c.args.count (c.self.invariant.2 k) low high cut))
