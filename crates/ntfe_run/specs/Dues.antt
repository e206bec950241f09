-- Helpers of the code: the classes that a run is to list.
use Rattle.std.specs.Prelude.{◌≡◌, ℕ, ◌≤◌, List, Option, Some, None}
use Rattle.ntfe_model.specs.Shapes.{Shape}
use Rattle.ntfe_model.specs.Keys.{IsStart}
use Rattle.ntfe_model.specs.RunText.{Kept}
use Rattle.class_text.specs.declared.form.TextForm.{TextForm}
use Rattle.steal_workers.specs.Forms.{IsFormOf}
use Rattle.steal_workers.specs.Listings.{Listed}
use Rattle.ntfe_words.specs.declared.command.Options.{Options}
use Rattle.ntfe_run.specs.Commands.{listed_with}
use Rattle.ntfe_run.specs.Demo.{demo_form, demo_limit}

-- classes that are to be listed, where so many bytes are kept of an earlier output
pub record DueList : Type 0 where
  pub listed : Listed
  pub bytes : ℕ

-- the classes of a geometry that the options ask for, behind what is kept of an earlier output
abbrev pub due_of : Options → Shape → Kept → DueList
due_of o g kept = record { listed = listed_with o g kept; bytes = kept.bytes }

-- what `demo` counts: all classes up to its limit
abbrev pub demo_listed : ℕ → Shape → Listed
demo_listed width g = record { geometry = g; form = demo_form; kept = 0; start = None; limit = Some demo_limit; width = width }

-- the form is of the geometry, the start is one of it, and the width is one that the solver takes
pub record IsReady (g : Shape) (form : TextForm) (start : Option (List ℕ)) (width : ℕ) : Type 0 where
  pub fits : IsFormOf g form
  pub is_start : IsStart g start
  pub low : 1 ≤ width
  pub high : width ≤ 62
