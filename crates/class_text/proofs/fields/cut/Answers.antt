use Rattle.std.proofs.Common.{◌≡◌, ◌+◌, ◌-◌, take, drop, length, nat_eq, arith, sym, ◌∙◌}
use Rattle.std.proofs.lemmas.List.{take_all, length-drop}
use Rattle.class_text.proofs.Cuts.{cut_none, cut_some}
use Rattle.class_text.proofs.fields.cut.Goals as goal

pub returns-in_err-place-clause-parts : goal.returns-in_err-place-clause-parts
returns-in_err-place-clause-parts c =
    rw c.from_residual.ensures (cut_none (λ b. nat_eq b c.args.separator) c.args.bytes.now (sym c.place_of.ensures ∙ c.in_err-place.was))

pub returns-clause-parts : goal.returns-clause-parts
returns-clause-parts c =
    let xs = c.args.bytes.now in
    let n = c.in_ok-place.place in
    let s = cut_some (λ b. nat_eq b c.args.separator) xs n (sym c.place_of.ensures ∙ c.in_ok-place.was) in
    let whole : take (length xs - (n + 1)) (drop (n + 1) xs) ≡ drop (n + 1) xs = take_all (length xs - (n + 1)) (drop (n + 1) xs) (omega (arith, length-drop (n + 1) xs)) in
    rw whole s.1
