use Rattle.std.proofs.Common.{◌≡◌, ◌∙◌, sym, ap, subst, arith, ℕ, ℤ, List, length, map}
use Rattle.std.specs.Prelude.{None}
use Rattle.ntfe_model.specs.declared.nogood.Fold.{Fold}
use Rattle.ntfe_model.specs.Solver.{fold_row, IsFeasible}
use Rattle.ntfe_model.specs.Keys.{IsClass}
use Rattle.strict_solver.specs.Starts.{AreFoldsOver}
use Rattle.strict_solver.proofs.Parts.{lent_back}
use Rattle.node_probe.proofs.KeyLemmas.{left_over}
use Rattle.node_probe.proofs.RowLemmas.{rows_within}
use Rattle.ntfe_model.proofs.Counts.{faces_few}
use Rattle.node_probe.proofs.Refuting.{certificate_is}
use Rattle.node_probe.proofs.Solutions.{folds_over, open_class, open_not_refuted}
use Rattle.node_probe.proofs.StemLemmas.{gone_folds, gone_multipliers}
use Rattle.node_probe.proofs.following.follow_head.Goals as goal

pub follow-requires : goal.follow-requires
follow-requires c =
    let P : ℕ → Type 0 = λ n. AreFoldsOver n c.args.rows.now.folds.items in
    record { folds = subst P (sym c.requires.columns) (folds_over c.args.geometry.now c.requires.shape c.args.key.now c.args.rows.now.folds.items c.args.rows.now.faces.items c.requires.rows c.requires.key.at_most) }

pub certificate-requires-clause-few : goal.certificate-requires-clause-few
certificate-requires-clause-few c =
    let few = faces_few c.args.geometry.now c.requires.shape in
    let l = c.requires.key.at_most in
    omega (arith, few, l)

pub certificate-requires-clause-within : goal.certificate-requires-clause-within
certificate-requires-clause-within c = rows_within c.args.geometry.now c.args.key.now c.args.rows.now.folds.items c.args.rows.now.faces.items c.requires.rows

pub certificate-requires-clause-rising : goal.certificate-requires-clause-rising
certificate-requires-clause-rising c =
    (gone_multipliers c.follow.new.self (length c.args.geometry.now.points) c.args.rows.now.folds.items c.multipliers.result.now c.in_ok-follow.field-0 (c.in_ok-follow.ensures.columns ∙ c.requires.columns) c.in-Infeasible.is
    c.in_ok-follow.ensures.followed c.multipliers.ensures).rising

pub returns-in_ok-nogood-in-Infeasible-clause-finding :
    goal.returns-in_ok-nogood-in-Infeasible-clause-finding
returns-in_ok-nogood-in-Infeasible-clause-finding c = λ width.
    let g = c.args.geometry.now in
    let m = gone_multipliers c.follow.new.self (length g.points) c.args.rows.now.folds.items c.multipliers.result.now c.in_ok-follow.field-0 (c.in_ok-follow.ensures.columns ∙ c.requires.columns) c.in-Infeasible.is
    c.in_ok-follow.ensures.followed c.multipliers.ensures in
    let h = c.in_ok-nogood-in-Infeasible.ensures in (
      certificate_is g c.requires.shape c.args.key.now c.requires.key.at_most c.requires.within.0 c.args.rows.now.folds.items c.args.rows.now.faces.items c.requires.rows c.multipliers.result.now m c.in_ok-nogood-in-Infeasible.nogood h,
      h.items,
    )

-- the heights that were written
written : (n m : ℕ) (fs : List Fold) (hs : List ℤ) → n ≡ m → IsFeasible n (map (fold_row n) fs) None hs → IsFeasible m (map (fold_row m) fs) None hs
written n m fs hs e h = let P : ℕ → Type 0 = λ k. IsFeasible k (map (fold_row k) fs) None hs in subst P e h

pub returns-then-numbers-faces-clause-finding : goal.returns-then-numbers-faces-clause-finding
returns-then-numbers-faces-clause-finding c = λ width.
    let g = c.args.geometry.now in
    let key = c.args.key.now in
    let rs = c.args.rows.now.folds.items in
    let e = ap length (c.as_slice-numbers.ensures ∙ c.key.view_is) in
    let f = ap length c.faces.ensures.value in
    let v = gone_folds c.follow.new.self rs c.in_ok-follow.field-0 c.in-Feasible.is c.in_ok-follow.ensures.followed in
    let h = written c.follow.new.self.columns (length g.points) rs _ (c.in_ok-follow.ensures.columns ∙ c.requires.columns) (c.has_heights.ensures v.0 rs v.1 v.2).1 in (
      (left_over (length c.as_slice-numbers.result.now) (length c.faces.result.now) (length key) (length g.faces) e f c.requires.key.at_most c.if-numbers-faces.true, c.requires.within.1),
      open_not_refuted g c.requires.shape key rs c.args.rows.now.faces.items c.requires.rows width _ h,
    )

pub returns-in_ok-heights-in-Feasible-clause-finding : goal.returns-in_ok-heights-in-Feasible-clause-finding
returns-in_ok-heights-in-Feasible-clause-finding c = λ width.
    let g = c.args.geometry.now in
    let key = c.args.key.now in
    let rs = c.args.rows.now.folds.items in
    let v = gone_folds c.follow.new.self rs c.in_ok-follow.field-0 c.in-Feasible.is c.in_ok-follow.ensures.followed in
    let h = written c.follow.new.self.columns (length g.points) rs _ (c.in_ok-follow.ensures.columns ∙ c.requires.columns) (c.write_heights.ensures.heights v.0 rs v.1 v.2) in
    let whole : length key ≡ length g.faces = sym (ap length (c.as_slice-numbers.ensures ∙ c.key.view_is)) ∙ c.if-numbers-faces.false ∙ ap length c.faces.ensures.value in
    let k = open_class g c.requires.shape key rs c.args.rows.now.faces.items c.requires.rows c.requires.within.0 c.requires.within.1 c.requires.key.at_most whole _ h in
    let P : List ℤ → Type 0 = IsClass g key in
    let vec = c.in_ok-heights-in-Feasible.heights in
    let back = lent_back vec.len c.write_heights.new.heights vec.items (c.write_heights.auto.heights ∙ c.deref_mut.ensures.len) in
    (whole, subst P (sym (c.from_vec.ensures ∙ back)) k)
