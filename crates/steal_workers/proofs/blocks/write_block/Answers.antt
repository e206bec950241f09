use Rattle.class_text.specs.Forms.{form_of}
use Rattle.steal_workers.proofs.ClassBlocks.{borrowed_star, none_written, block_written}
use Rattle.steal_workers.proofs.blocks.write_block.Goals as goal

pub returns-in_default : goal.returns-in_default
returns-in_default g c =
    none_written c.args.geometry.now (form_of c.args.form.now) c.args.choice.now c.args.heights.now (g.K.Sink.taken c.args.out.now) (g.K.Sink.faults c.args.out.now)

pub returns : goal.returns
returns g c =
    block_written c.args.geometry.now (form_of c.args.form.now) c.args.choice.now c.args.heights.now _ _ _ _ _ _ (borrowed_star _ c.in-Ok.star c.as_ref.ensures.value) c.in-Ok.ensures c.write_class.result c.write_class.ensures
