use Rattle.std.proofs.Common.{◌∙◌, ap, arith}
use Rattle.strict_solver.specs.Stems.{StemValue}
use Rattle.strict_solver.proofs.Stems.{view_known}
use Rattle.strict_solver.proofs.Cutting.{known_places}
use Rattle.strict_solver.proofs.stem.Stem.push.Goals as goal

pub effect-effect-requires-clause-enough : goal.effect-effect-requires-clause-enough
effect-effect-requires-clause-enough c =
    let s = c.self.inside in
    let v = view_known s.known s.folds.items c.requires.known.0 (ap (λ (v : StemValue). v.folds) c.self.view_is ∙ c.requires.known.1) in
    let p = known_places s.basis s.folds.items (c.self.invariant.1 v.0) in
    omega arith

pub push_row-requires-clause-known : goal.push_row-requires-clause-known
push_row-requires-clause-known c =
    let s = c.self.inside in
    c.self.invariant.1 (view_known s.known s.folds.items c.requires.known.0 (ap (λ (v : StemValue). v.folds) c.self.view_is ∙ c.requires.known.1)).0

pub push_row-requires-clause-settled : goal.push_row-requires-clause-settled
push_row-requires-clause-settled c =
    let s = c.self.inside in
    c.self.invariant.2 (view_known s.known s.folds.items c.requires.known.0 (ap (λ (v : StemValue). v.folds) c.self.view_is ∙ c.requires.known.1)).0
