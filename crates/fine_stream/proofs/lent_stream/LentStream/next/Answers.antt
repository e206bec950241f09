use Rattle.std.proofs.Common.{ℕ, sym, subst}
use Rattle.std.specs.Prelude.{MatchOption}
use Rattle.ntfe_model.specs.Charts.{Patch}
use Rattle.fine_stream.specs.Cursors.{IsPlace, IsFoundAfter}
use Rattle.fine_stream.specs.Places.{ArePlaced}
use Rattle.fine_stream.specs.declared.tables.Tables.{Tables}
use Rattle.fine_stream.proofs.Standing.{cursor_end, cursor_next, answer_end, answer_next}
use Rattle.fine_stream.proofs.lent_stream.LentStream.next.Goals as goal

pub find-requires-clause-position : goal.find-requires-clause-position
find-requires-clause-position c =
    let P : Patch → Type 0 = λ h. (n : ℕ) × IsPlace h n c.self.inside.position in
    let n = c.self.invariant.cursor in
    subst P (sym c.chart-chart.ensures) (n.0, n.1.place)

pub invariant_of-self-in-None : goal.invariant_of-self-in-None
invariant_of-self-in-None c =
    let h = c.self.inside.tables.now.patch in
    let P : Patch → Type 0 = λ g. IsFoundAfter g c.self.inside.position c.in_ok-find.field-0 in
    cursor_end h c.self.inside.position c.self.inside.tables.now.tables c.in_ok-find.field-0 c.take-kept.new.self (subst P c.chart-chart.ensures c.in_ok-find.ensures.answer) c.in-None.is
    c.self.invariant.cursor c.self.invariant.tables c.take-kept.ensures.after

pub invariant_of-self-in-Some : goal.invariant_of-self-in-Some
invariant_of-self-in-Some c =
    let h = c.self.inside.tables.now.patch in
    let P : Patch → Type 0 = λ g. IsFoundAfter g c.self.inside.position c.in_ok-find.field-0 in
    let Q : Tables → Type 0 = λ x. MatchOption c.in_ok-find.field-0 (Unit {0}) (λ y. ArePlaced x y.path) in
    cursor_next h c.self.inside.position c.self.inside.tables.now.tables c.in_ok-find.field-0 c.in-Some.field-0 c.in_ok-word-in-Some.word (subst P c.chart-chart.ensures c.in_ok-find.ensures.answer)
    c.in-Some.is c.in_ok-word-in-Some.ensures c.self.invariant.cursor c.self.invariant.tables (subst Q c.tables-tables.ensures.value c.in_ok-find.ensures.placed)

pub returns-in-None-clause-answer : goal.returns-in-None-clause-answer
returns-in-None-clause-answer c =
    let P : Patch → Type 0 = λ g. IsFoundAfter g c.self.inside.position c.in_ok-find.field-0 in
    answer_end c.self.inside.tables.now.patch c.self.inside.position c.args.self.now c.in_ok-find.field-0 c.self.view_is (subst P c.chart-chart.ensures c.in_ok-find.ensures.answer) c.in-None.is

pub returns-in_ok-word-in-Some-clause-answer : goal.returns-in_ok-word-in-Some-clause-answer
returns-in_ok-word-in-Some-clause-answer c =
    let P : Patch → Type 0 = λ g. IsFoundAfter g c.self.inside.position c.in_ok-find.field-0 in
    answer_next c.self.inside.tables.now.patch c.self.inside.position c.args.self.now c.in_ok-find.field-0 c.in-Some.field-0 c.in_ok-word-in-Some.word c.self.view_is
    (subst P c.chart-chart.ensures c.in_ok-find.ensures.answer) c.in-Some.is c.in_ok-word-in-Some.ensures
