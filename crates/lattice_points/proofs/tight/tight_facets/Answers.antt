use Rattle.std.proofs.Common.{ℕ, Bool, true, false, ◌+◌, ◌∙◌, sym, ap, [], ◌∷◌, ◌++◌}
use Rattle.ntfe_model.specs.Pairs.{entry}
use Rattle.ntfe_model.specs.Points.{is_tight}
use Rattle.lattice_points.proofs.LineLemmas.{same_at}
use Rattle.lattice_points.proofs.FoundLemmas.{passes_next, fails_next, tight_at_next}
use Rattle.lattice_points.proofs.tight.tight_facets.Goals as goal
use Rattle.lattice_points.proofs.tight.tight_facets.Goals.{then-is_tight+in_ok-push, else-is_tight}

pub loop-i-preserved : goal.loop-i-preserved
loop-i-preserved c =
    let ms = c.args.dual.now in
    let x = c.args.x.now in
    let m = c.index-dual-i.result in
    let i = c.loop-i.i in
    let e = same_at ms i m c.loop-i-test.true c.index-dual-i.is in
    let test : ℕ → Bool = λ k. is_tight (entry ms k) x in
    elim c.if-is_tight.branch [
      | then-is_tight+in_ok-push w ↦
          ap (λ v. v.items) w.facets-is ∙ w.in_ok-push.ensures.items ∙ ap (λ fs. fs ++ (i + 1) ∷ []) c.loop-i.invariant
          ∙ passes_next test i (tight_at_next ms x m i true e (sym c.is_tight.ensures.test ∙ w.if-is_tight.true))
      | else-is_tight w ↦
          ap (λ v. v.items) w.facets-is ∙ c.loop-i.invariant ∙ fails_next test i (tight_at_next ms x m i false e (sym c.is_tight.ensures.test ∙ w.if-is_tight.false))
    ]
