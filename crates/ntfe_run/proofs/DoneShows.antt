-- A run that ends with `Done` has written the block of each induced choice.
use Rattle.std.proofs.Common.{◌≡◌, subst, ℕ, List, None}
use Rattle.std.specs.Prelude.{Option}
use Rattle.ntfe_model.specs.Shapes.{Shape, IsShape}
use Rattle.ntfe_model.specs.Keys.{IsAfter}
use Rattle.ntfe_model.specs.Stars.{IsInduced}
use Rattle.ntfe_model.specs.RunText.{Kept, IsRunText, nothing_kept}
use Rattle.ntfe_words.specs.CommandLine.{IsMeaning}
use Rattle.ntfe_words.specs.declared.command.Command.{Command}
use Rattle.ntfe_words.specs.declared.command.Command.TheVariants as command
use Rattle.ntfe_words.specs.declared.command.Options.{Options}
use Rattle.ntfe_run.specs.Answers.{HasRunText}
use Rattle.ntfe_run.specs.Commands.{form_of_options, listed_with, room_of, classes_room, resume_room, IsListText}
use Rattle.ntfe_run.specs.Edges.{Edges}
use Rattle.ntfe_run.specs.Rooms.{TakesAll}
use Rattle.ntfe_run.specs.Shown.{ShowsChoice}
use Rattle.ntfe_run.specs.declared.status.Status.TheVariants.{Done}
use Rattle.ntfe_run.proofs.Beginnings.{list_text_is}
use Rattle.ntfe_run.proofs.Completeness.{meaning_fixed}
use Rattle.ntfe_run.proofs.Headline.{some_read}
use Rattle.ntfe_run.proofs.ShownChoices.{run_shows_induced}

module _ (o : Options) (unlimited : o.limit ≡ None) where
  listed_shows : (g : Shape) (kept : Kept) (text choice : List ℕ) → IsShape g → IsListText (listed_with o g kept) kept text → IsInduced g choice → IsAfter kept.last choice → ShowsChoice g (form_of_options o) choice text
  listed_shows g kept text choice s h i after =
      run_shows_induced g (form_of_options o) kept text choice s (subst (λ (l : Option ℕ). IsRunText g (form_of_options o) kept l text) unlimited (list_text_is o g s kept text h)) i after

  module _ (words : List (List ℕ)) (e : Edges) (done : HasRunText words e Done) where
    taken : (c : Command) → IsMeaning words c → TakesAll (room_of c) (room_of c).IsText e
    taken c m = subst (λ (d : Command). TakesAll (room_of d) (room_of d).IsText e) (meaning_fixed words done.0 c done.1 m) done.2

    pub classes_show : IsMeaning words (command.Classes o) → TakesAll (classes_room o) (λ g text. (choice : List ℕ) → IsInduced g choice → ShowsChoice g (form_of_options o) choice text) e
    classes_show m =
        let t = taken (command.Classes o) m in
        let held = some_read (classes_room o).limit e (λ bytes. (classes_room o).Holds bytes t.input) t.read in
        record {
          input = t.input;
          read = t.read;
          takes = record { text = t.takes.text; is = λ choice i. listed_shows t.input nothing_kept t.takes.text choice held.1.shape t.takes.is i tt; all = t.takes.all };
        }

    pub resume_shows : IsMeaning words (command.Resume o) → TakesAll (resume_room o) (λ i text. (choice : List ℕ) → IsInduced i.geometry choice → IsAfter i.kept.last choice → ShowsChoice i.geometry (form_of_options o) choice text) e
    resume_shows m =
        let t = taken (command.Resume o) m in
        let held = some_read (resume_room o).limit e (λ bytes. (resume_room o).Holds bytes t.input) t.read in
        record {
          input = t.input;
          read = t.read;
          takes = record { text = t.takes.text; is = λ choice i after. listed_shows t.input.geometry t.input.kept t.takes.text choice held.1.holds.0.shape t.takes.is i after; all = t.takes.all };
        }
