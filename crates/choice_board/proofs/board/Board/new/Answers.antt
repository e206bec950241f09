use Rattle.std.proofs.Common.{◌∙◌}
use Rattle.choice_board.proofs.StartLemmas.{new_parts_sound}
use Rattle.choice_board.proofs.board.Board.new.Goals as goal

pub invariant_of-result : goal.invariant_of-result
invariant_of-result c =
    new_parts_sound c.args.geometry c.args.after c.faces-faces.result.now c.from_vec.result.items c.new.result.items c.new-2.result.items c.faces-faces.ensures.shape c.requires
    c.faces-faces.ensures.value (c.from_vec.ensures.items ∙ c.in_ok-keys.ensures) c.new.ensures.items c.new-2.ensures.items

pub returns-clause-sound : goal.returns-clause-sound
returns-clause-sound c =
    new_parts_sound c.args.geometry c.args.after c.faces-faces.result.now c.from_vec.result.items c.new.result.items c.new-2.result.items c.faces-faces.ensures.shape c.requires
    c.faces-faces.ensures.value (c.from_vec.ensures.items ∙ c.in_ok-keys.ensures) c.new.ensures.items c.new-2.ensures.items
