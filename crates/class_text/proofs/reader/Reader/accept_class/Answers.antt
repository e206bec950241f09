use Rattle.std.proofs.Common.{inl, inr, refl, subst, arith}
use Rattle.std.specs.Prelude.{codes}
use Rattle.ntfe_model.specs.Keys.{IsAfter}
use Rattle.class_text.specs.Readers.{last_of}
use Rattle.class_text.proofs.UniqueLines.{unique, class_numbers}
use Rattle.class_text.proofs.reader.Reader.accept_class.Goals as goal
use Rattle.class_text.proofs.reader.Reader.accept_class.Goals.{then-not-branch-via-then-not-branch, then-not-branch-via-else-not-branch+then-not-is_above}

pub returns-then-not-branch-clause-refused : goal.returns-then-not-branch-clause-refused
returns-then-not-branch-clause-refused c e t (inl a) =
    elim c.then-not-branch.branch [
      | then-not-branch-via-then-not-branch w ↦ c.in_ok-read_numbers.ensures.refused w.if-not-branch.true a.0 (class_numbers _ _ c.args.line.now a.0 a.1)
      | then-not-branch-via-else-not-branch+then-not-is_above w ↦ w.is_above.ensures.when_false w.if-not-is_above.true
          (subst (IsAfter (last_of c.args.self.now.count c.args.self.now.last.items))
          (unique (codes "class") c.args.line.now a.0 c.read_numbers.new.out.items c.args.form.now.faces 1048576 refl (omega arith) (class_numbers _ _ c.args.line.now a.0 a.1) (c.in_ok-read_numbers.ensures.read w.if-not-branch.false)) a.1.above)
    ]
returns-then-not-branch-clause-refused c e t (inr ((inl h), q)) = c.in_ok-is_count_line.ensures.when_false c.if-branch.false h
returns-then-not-branch-clause-refused c e t (inr ((inr h), q)) = c.in_ok-is_count_line-2.ensures.when_false c.if-branch-2.false h
