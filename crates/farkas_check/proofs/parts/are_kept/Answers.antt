use Rattle.std.proofs.Common.{List, subst, refl}
use Rattle.std.specs.Prelude.{All}
use Rattle.std.proofs.lemmas.List.{take_all}
use Rattle.std.proofs.lemmas.List.Elements.{All-more}
use Rattle.ntfe_model.specs.declared.nogood.Part.{Part}
use Rattle.farkas_check.specs.Parts.{KeepsPart, HasItemOf}
use Rattle.farkas_check.proofs.parts.are_kept.Goals as goal

pub loop-part-preserved : goal.loop-part-preserved
loop-part-preserved g c = record {
  kept = All-more (KeepsPart (g.B.Book.keeps c.args.book.now) c.args.geometry.now) c.args.parts.now c.loop-part.part-index (record { face = 0; item = 0 }) c.loop-part-test.true c.loop-part.invariant.kept
      (c.if-not-is_kept.ensures.when_true refl);
  exist = All-more (HasItemOf c.args.geometry.now) c.args.parts.now c.loop-part.part-index (record { face = 0; item = 0 }) c.loop-part-test.true c.loop-part.invariant.exist (c.if-not-is_kept.ensures.exists refl);
}

pub returns-clause-when_true : goal.returns-clause-when_true
returns-clause-when_true g c = λ e.
    let P : List Part → Type 0 = All (KeepsPart (g.B.Book.keeps c.args.book.now) c.args.geometry.now) in
    subst P (take_all c.loop-part.part-index c.args.parts.now c.loop-part-test.false) c.loop-part.invariant.kept

pub returns-clause-exist : goal.returns-clause-exist
returns-clause-exist g c = λ e.
    let P : List Part → Type 0 = All (HasItemOf c.args.geometry.now) in
    subst P (take_all c.loop-part.part-index c.args.parts.now c.loop-part-test.false) c.loop-part.invariant.exist
