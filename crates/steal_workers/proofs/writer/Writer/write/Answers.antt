use Rattle.std.proofs.Common.{rules, sym, subst, ℤ, SFits}
use Rattle.std.specs.Int.{w128}
use Rattle.std.proofs.lemmas.Int.{to_z-of_z}
use Rattle.steal_workers.specs.Listings.{Progress, IsSmallLimit, IsNextOutcome, EndsAs}
use Rattle.steal_workers.specs.declared.served.Served.TheVariants as served
use Rattle.steal_workers.proofs.Ends.{class_written, class_failed, wide_ends, far_ends}
use Rattle.steal_workers.proofs.writer.Writer.write.Goals as goal

pub returns-in-Ok-clause-on : goal.returns-in-Ok-clause-on
returns-in-Ok-clause-on g c =
    class_written c.args.self.now c.write_class.new.self (subst (λ (p : Progress). IsSmallLimit p.listed.limit) c.self.view_is c.self.invariant.small) c.requires.under c.in-Class.choice c.in-Class.heights
    (subst (IsNextOutcome c.args.self.now.listed c.args.self.now.last) c.in-Class.is c.requires.next) c.in-Ok.ensures.moved _ _ _ _ c.write_class.result c.in-Ok.field-0 c.in-Ok.is c.write_class.ensures.wrote

pub returns-in-Class-clause-ends : goal.returns-in-Class-clause-ends
returns-in-Class-clause-ends g c =
    subst (EndsAs c.args.self.now (record { before = g.K.Sink.taken c.args.out.now; after = g.K.Sink.taken c.write_class.new.out })) (sym c.ended.ensures)
    (class_failed c.args.self.now (subst (λ (p : Progress). IsSmallLimit p.listed.limit) c.self.view_is c.self.invariant.small) c.requires.under c.in-Class.choice c.in-Class.heights
    (subst (IsNextOutcome c.args.self.now.listed c.args.self.now.last) c.in-Class.is c.requires.next) _ _ _ _ c.write_class.result c.in-Err.fault c.in-Err.is c.write_class.ensures.wrote)

pub returns-in-Wide-clause-ends : goal.returns-in-Wide-clause-ends
returns-in-Wide-clause-ends g c =
    let f : SFits w128 c.in-Wide.number = search rules in
    let P : ℤ → Type 0 = λ z. EndsAs c.args.self.now (record { before = g.K.Sink.taken c.args.out.now; after = g.K.Sink.taken c.args.out.now }) (served.Wide c.in-Wide.choice c.in-Wide.step z) in
    subst P (sym (to_z-of_z w128 c.in-Wide.number f))
    (wide_ends c.args.self.now (subst (λ (p : Progress). IsSmallLimit p.listed.limit) c.self.view_is c.self.invariant.small) c.requires.under c.in-Wide.choice c.in-Wide.step c.in-Wide.number
    (subst (IsNextOutcome c.args.self.now.listed c.args.self.now.last) c.in-Wide.is c.requires.next) (g.K.Sink.taken c.args.out.now))

pub returns-clause-ends : goal.returns-clause-ends
returns-clause-ends g c =
    far_ends c.args.self.now (subst (λ (p : Progress). IsSmallLimit p.listed.limit) c.self.view_is c.self.invariant.small) c.requires.under c.in-Far.face
    (subst (IsNextOutcome c.args.self.now.listed c.args.self.now.last) c.in-Far.is c.requires.next) (g.K.Sink.taken c.args.out.now)
