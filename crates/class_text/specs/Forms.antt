-- The form of a text, as the text of a run has it.
use Rattle.ntfe_model.specs.RunText.{Form}
use Rattle.ntfe_model.specs.Earlier.{Layout}
use Rattle.class_text.specs.declared.form.TextForm.{TextForm}

abbrev pub form_of : TextForm → Form
form_of form = record { push = form.push; stars = form.stars }

-- what the lines of the text depend on; items have numbers below 1,048,576
abbrev pub layout_of : TextForm → Layout
layout_of form = record { pair = form.pair; form = form_of form; points = form.points; faces = form.faces; items = 1_048_576 }
