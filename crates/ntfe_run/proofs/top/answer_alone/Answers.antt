use Rattle.std.proofs.Common.{◌≡◌, ◌∙◌, ap, map, None, sym, subst, arith, ℕ, List}
use Rattle.std.specs.Prelude.{string_bytes}
use Rattle.ntfe_model.specs.Shapes.{Shape}
use Rattle.steal_workers.specs.Listings.{Listed, HasServed}
use Rattle.ntfe_run.specs.Dues.{demo_listed}
use Rattle.ntfe_run.specs.Statuses.{IsDemoEnd}
use Rattle.ntfe_run.specs.Tasks.{Opened}
use Rattle.ntfe_run.proofs.DemoEnds.{told_end}
use Rattle.ntfe_run.proofs.TaskEnds.{listed_end, counted_end}
use Rattle.ntfe_run.proofs.top.answer_alone.Goals as goal

pub returns-in-Lists-clause-cause : goal.returns-in-Lists-clause-cause
returns-in-Lists-clause-cause g c =
    let words = map string_bytes c.args.words.now in
    let o : Opened = record {
      left = record { before = g.S.Source.left c.args.source.now; after = g.S.Source.left c.begin.new.source };
      read_faults = record { before = g.S.Source.faults c.args.source.now; after = g.S.Source.faults c.begin.new.source };
      taken = record { before = g.K.Sink.taken c.args.out.now; after = g.K.Sink.taken c.begin.new.out };
      write_faults = record { before = g.K.Sink.faults c.args.out.now; after = g.K.Sink.faults c.begin.new.out };
    } in
    let served = subst (λ (l : Listed). HasServed l (record { before = o.taken.after; after = g.K.Sink.taken c.list_here-served.new.out }) c.list_here-served.result) c.listing.ensures c.list_here-served.ensures.served in
    (listed_end words o c.in-Lists.task c.in-Lists.ensures.task (g.K.Sink.taken c.list_here-served.new.out) (g.K.Sink.taken c.write_last.new.out) (g.K.Sink.faults c.list_here-served.new.out) (g.K.Sink.faults c.write_last.new.out) c.list_here-served.result served c.list_here-served.ensures.cause
    c.list_here-served.ensures.later c.write_last.result c.write_last.ensures).0

pub returns-in-Lists-clause-text : goal.returns-in-Lists-clause-text
returns-in-Lists-clause-text g c =
    let words = map string_bytes c.args.words.now in
    let o : Opened = record {
      left = record { before = g.S.Source.left c.args.source.now; after = g.S.Source.left c.begin.new.source };
      read_faults = record { before = g.S.Source.faults c.args.source.now; after = g.S.Source.faults c.begin.new.source };
      taken = record { before = g.K.Sink.taken c.args.out.now; after = g.K.Sink.taken c.begin.new.out };
      write_faults = record { before = g.K.Sink.faults c.args.out.now; after = g.K.Sink.faults c.begin.new.out };
    } in
    let served = subst (λ (l : Listed). HasServed l (record { before = o.taken.after; after = g.K.Sink.taken c.list_here-served.new.out }) c.list_here-served.result) c.listing.ensures c.list_here-served.ensures.served in
    (listed_end words o c.in-Lists.task c.in-Lists.ensures.task (g.K.Sink.taken c.list_here-served.new.out) (g.K.Sink.taken c.write_last.new.out) (g.K.Sink.faults c.list_here-served.new.out) (g.K.Sink.faults c.write_last.new.out) c.list_here-served.result served c.list_here-served.ensures.cause
    c.list_here-served.ensures.later c.write_last.result c.write_last.ensures).1

pub returns-in-Counts-clause-cause : goal.returns-in-Counts-clause-cause
returns-in-Counts-clause-cause g c =
    let words = map string_bytes c.args.words.now in
    let o : Opened = record {
      left = record { before = g.S.Source.left c.args.source.now; after = g.S.Source.left c.begin.new.source };
      read_faults = record { before = g.S.Source.faults c.args.source.now; after = g.S.Source.faults c.begin.new.source };
      taken = record { before = g.K.Sink.taken c.args.out.now; after = g.K.Sink.taken c.begin.new.out };
      write_faults = record { before = g.K.Sink.faults c.args.out.now; after = g.K.Sink.faults c.begin.new.out };
    } in
    let l = c.in-Counts.task.listed in
    let task = c.in-Counts.ensures.task in
    let same = c.listing-in-Counts.ensures ∙ task.2.0 ∙ ap (demo_listed l.width) (sym c.geometry.ensures) in
    let served = subst (λ (x : Listed). HasServed x (record { before = None; after = None }) c.list_here-served-in-Counts.result) same c.list_here-served-in-Counts.ensures.served in
    let ended = told_end c.in-Counts.number l.width c.geometry.result.now (g.K.Sink.taken c.begin.new.out) (g.K.Sink.taken c.tell_classes.new.out) (g.K.Sink.faults c.begin.new.out) (g.K.Sink.faults c.tell_classes.new.out) c.list_here-served-in-Counts.result served
    (λ e. (let r = c.list_here-served-in-Counts.ensures.cause e in omega (arith, r))) c.tell_classes.result c.tell_classes.ensures in
    let told = subst
    (λ (x : Shape). IsDemoEnd c.in-Counts.number l.width x (record { before = g.K.Sink.taken c.begin.new.out; after = g.K.Sink.taken c.tell_classes.new.out }) (record { before = g.K.Sink.faults c.begin.new.out; after = g.K.Sink.faults c.tell_classes.new.out })
    c.tell_classes.result) c.geometry.ensures ended in
    (counted_end words o c.in-Counts.number c.in-Counts.task task (g.K.Sink.taken c.tell_classes.new.out) (g.K.Sink.faults c.tell_classes.new.out) c.tell_classes.result told).0

pub returns-in-Counts-clause-text : goal.returns-in-Counts-clause-text
returns-in-Counts-clause-text g c =
    let words = map string_bytes c.args.words.now in
    let o : Opened = record {
      left = record { before = g.S.Source.left c.args.source.now; after = g.S.Source.left c.begin.new.source };
      read_faults = record { before = g.S.Source.faults c.args.source.now; after = g.S.Source.faults c.begin.new.source };
      taken = record { before = g.K.Sink.taken c.args.out.now; after = g.K.Sink.taken c.begin.new.out };
      write_faults = record { before = g.K.Sink.faults c.args.out.now; after = g.K.Sink.faults c.begin.new.out };
    } in
    let l = c.in-Counts.task.listed in
    let task = c.in-Counts.ensures.task in
    let same = c.listing-in-Counts.ensures ∙ task.2.0 ∙ ap (demo_listed l.width) (sym c.geometry.ensures) in
    let served = subst (λ (x : Listed). HasServed x (record { before = None; after = None }) c.list_here-served-in-Counts.result) same c.list_here-served-in-Counts.ensures.served in
    let ended = told_end c.in-Counts.number l.width c.geometry.result.now (g.K.Sink.taken c.begin.new.out) (g.K.Sink.taken c.tell_classes.new.out) (g.K.Sink.faults c.begin.new.out) (g.K.Sink.faults c.tell_classes.new.out) c.list_here-served-in-Counts.result served
    (λ e. (let r = c.list_here-served-in-Counts.ensures.cause e in omega (arith, r))) c.tell_classes.result c.tell_classes.ensures in
    let told = subst
    (λ (x : Shape). IsDemoEnd c.in-Counts.number l.width x (record { before = g.K.Sink.taken c.begin.new.out; after = g.K.Sink.taken c.tell_classes.new.out }) (record { before = g.K.Sink.faults c.begin.new.out; after = g.K.Sink.faults c.tell_classes.new.out })
    c.tell_classes.result) c.geometry.ensures ended in
    (counted_end words o c.in-Counts.number c.in-Counts.task task (g.K.Sink.taken c.tell_classes.new.out) (g.K.Sink.faults c.tell_classes.new.out) c.tell_classes.result told).1
