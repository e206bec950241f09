use Rattle.std.proofs.Common.{◌∙◌, refl, sym, subst}
use Rattle.std.specs.Prelude.{Option}
use Rattle.ntfe_model.specs.Charts.{Patch}
use Rattle.ntfe_model.specs.Words.{IsItem}
use Rattle.ntfe_model.specs.declared.triangulation.Triangulation.{Triangulation}
use Rattle.fine_stream.specs.Cursors.{StandsBefore, IsPlace, IsNextItem}
use Rattle.fine_stream.specs.declared.position.Position.{Position}
use Rattle.ntfe_run.proofs.tests.layers.two_items.Goals as goal

-- what a new stream gives first is the item 0
pub from_word-requires : goal.from_word-requires
from_word-requires c =
    let stream = c.in_ok-stream.stream in
    let Next : Option Triangulation → Type 0 = IsNextItem stream c.next.new.self in
    let next = subst Next c.in-Some.is c.in_ok-first.ensures.answer in
    let Place : Position → Type 0 = IsPlace stream.patch 0 in
    let stands : StandsBefore stream 0 = record { place = subst Place (sym c.in_ok-stream.ensures.position) refl } in
    let same = c.in_ok-stream.ensures.patch ∙ c.in_ok-try_clone.ensures ∙ sym c.in_ok-try_clone-2.ensures in
    let Item : Patch → Type 0 = λ h. IsItem h 0 c.in-Some.first in
    (0, subst Item same (next.1 0 stands).1)
