use Rattle.std.proofs.Common.{◌≡◌, ◌∙◌, ◌+◌, sym, subst, arith, List}
use Rattle.std.specs.Prelude.{All}
use Rattle.std.proofs.lemmas.List.Elements.{All-take, All-drop}
use Rattle.strict_solver.specs.Stems.{StemValue}
use Rattle.node_probe.proofs.StemLemmas.{beside_columns, beside_there, beside_gone}
use Rattle.node_probe.proofs.stems.push_beside.Goals as goal

pub returns-clause-columns : goal.returns-clause-columns
returns-clause-columns c =
    let p = c.split_at_mut-path.result in
    let s = c.split_at_mut-path.ensures in
    let P : StemValue → Type 0 = λ v. v.columns ≡ c.args.columns in
    let Q : List StemValue → Type 0 = λ vs. All P vs in
    let whole = subst Q (sym c.deref_mut.ensures.value) c.requires.columns in
    let front = subst Q (sym s.front) (All-take P (c.args.level + 1) c.deref_mut.result.now whole) in
    let back = subst Q (sym s.back) (All-drop P (c.args.level + 1) c.deref_mut.result.now whole) in
    let e = front c.args.level c.index-path-level.result (let a = s.front_len in omega arith) in
    beside_columns p.0.now p.1.now c.args.stems.now.items c.args.level c.args.stems.now.len c.push_aside.new.stem c.push_aside.new.spare (let a = s.front_len in let b = s.back_len in let d = c.deref_mut.ensures.len in omega arith) c.args.columns
    (c.push_aside.ensures.columns ∙ e) (c.push_aside.ensures.spare ∙ e) front back

pub returns-clause-gone : goal.returns-clause-gone
returns-clause-gone c =
    let p = c.split_at_mut-path.result in
    let s = c.split_at_mut-path.ensures in
    beside_gone c.push_aside.result _ c.args.level c.args.folds.now (c.args.row + 1) c.push_aside.new.stem
    (beside_there p.0.now p.1.now c.args.stems.now.items c.args.level c.args.stems.now.len c.push_aside.new.stem c.push_aside.new.spare (let a = s.front_len in let b = s.back_len in let d = c.deref_mut.ensures.len in omega arith) (let a = s.front_len in omega arith))
    c.push_aside.ensures.extended
