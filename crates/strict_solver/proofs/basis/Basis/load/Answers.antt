use Rattle.std.proofs.Common.{◌≡◌, ◌∙◌, ap, Some, ℕ, refl, sym, subst, arith, length}
use Rattle.std.specs.Prelude.{slice_get}
use Rattle.strict_solver.specs.declared.place.Place.TheVariants.{Row, Column}
use Rattle.strict_solver.specs.declared.basis.Basis.{Basis}
use Rattle.strict_solver.specs.Standing.{IsExchanged}
use Rattle.strict_solver.proofs.Settling.{end_enters, still_first, end_loads}
use Rattle.strict_solver.proofs.StandingRows.{last_place, push_before}
use Rattle.strict_solver.proofs.basis.Basis.load.Goals as goal

pub exchange-requires-clause-first : goal.exchange-requires-clause-first
exchange-requires-clause-first c =
    let s = c.requires.stands in
    still_first c.args.self.now s.0 s.1 c.args.fold.now c.requires.fold c.args.height c.requires.first c.write_line.new.self c.if-not-write_line.ensures.others c.if-not-write_line.ensures.answer

pub exchange-requires-clause-leaves : goal.exchange-requires-clause-leaves
exchange-requires-clause-leaves c =
    let n = c.write_line.new.self in
    let k = n.places.ok.0 in
    let len : c.len-slack.result ≡ length n.places.items = (let a = c.len-slack.ensures in omega arith) in
    let P : ℕ → Type 0 = λ m. slice_get c.push.new.self.items m ≡ Some (Row 0) in
    (0, subst P (sym len) (ap (λ ps. slice_get ps (length n.places.items)) c.in_ok-push.ensures.items ∙ last_place n.places.items (Row 0)))

pub exchange-requires-clause-enters : goal.exchange-requires-clause-enters
exchange-requires-clause-enters c =
    let s = c.requires.stands in
    let n = c.write_line.new.self in
    let e = end_enters c.args.self.now s.0 s.1 c.args.fold.now c.requires.fold c.args.height c.requires.first n c.if-not-write_line.ensures.others c.if-not-write_line.ensures.answer in
    (e.0, ap (λ ps. slice_get ps c.args.height) c.in_ok-push.ensures.items ∙ push_before n.places.items (Row 0) (Column e.0) c.args.height e.1, e.2, e.3, e.4)

pub returns-then-exchange-clause-answer : goal.returns-then-exchange-clause-answer
returns-then-exchange-clause-answer c = λ fs h.
    let n = c.write_line.new.self in
    let k = n.places.ok.0 in
    let len : c.len-slack.result ≡ length n.places.items = (let a = c.len-slack.ensures in omega arith) in
    let d : Basis = record { columns = n.columns; denominator = n.denominator; cells = n.cells; places = c.push.new.self; line = n.line } in
    let P : ℕ → Type 0 = λ m. IsExchanged d c.exchange.new.self m c.args.height in
    let x = c.if-exchange.ensures.answer in (
      end_loads c.args.self.now fs h c.args.fold.now c.requires.fold c.args.height c.requires.first n c.if-not-write_line.ensures.others c.if-not-write_line.ensures.answer d refl refl refl refl c.in_ok-push.ensures.items
          c.exchange.new.self (subst P len x),
      x.sized,
    )
