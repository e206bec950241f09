-- Why an input of `resume` is refused: for its pair, or for its earlier output.
use Rattle.std.proofs.Common.{◌≡◌, inl, inr, arith, ap, ℕ, ◌+◌, ◌≤◌, List, ◌++◌, ◌∷◌, length}
use Rattle.std.proofs.lemmas.List.{length-append}
use Rattle.ntfe_model.specs.Shapes.{Shape}
use Rattle.ntfe_model.specs.RunText.{Form}
use Rattle.ntfe_words.specs.declared.command.Options.{Options}
use Rattle.pair_text.specs.Output.{IsSplitAtOutput, IsCutAt}
use Rattle.class_text.specs.Forms.{layout_of}
use Rattle.class_text.specs.declared.form.TextForm.{TextForm}
use Rattle.steal_workers.specs.Forms.{IsFormOf}
use Rattle.ntfe_run.specs.Inputs.{IsInputOf, IsRefusalOf}
use Rattle.ntfe_run.specs.Commands.{form_of_options}
use Rattle.ntfe_run.specs.Earlier.{layout, IsBegunRefusal}
use Rattle.ntfe_run.specs.Stops.{IsStopOf, IsBegunStop, IsEarlierStop}
use Rattle.ntfe_run.specs.declared.inputs.Stop.{Stop}
use Rattle.ntfe_run.specs.declared.inputs.Stop.TheVariants.{Refused, Memory}
use Rattle.ntfe_run.specs.declared.status.Refusal.{Refusal}
use Rattle.ntfe_run.specs.declared.status.Refusal.TheVariants.{Size, NoOutput, Text, Pair, Points, Earlier}

-- the form of the options has their layout
pub same_layout : (o : Options) (g : Shape) (f : TextForm) → IsFormOf g f → f.push ≡ o.push → f.stars ≡ o.stars → layout_of f ≡ layout (form_of_options o) g
same_layout o g f is push stars =
    let pair = is.pair in
    let points = is.points in
    let faces = is.faces in
    λ i. record { pair = pair i; form = record { push = push i; stars = stars i }; points = points i; faces = faces i; items = 1_048_576 }

module _ (bytes before behind : List ℕ) (s : IsSplitAtOutput bytes before behind) where
  -- both parts are no longer than the whole
  pub split_short : length before + length behind ≤ length bytes
  split_short = by s.bytes_are
    where
      by : IsCutAt bytes (before ++ s.line) behind → length before + length behind ≤ length bytes
      by (inl e) = omega (arith, ap length e, length-append (before ++ s.line) (10 ∷ behind), length-append before s.line)
      by (inr e) = omega (arith, ap length e.0, ap length e.1, length-append before s.line)

  module _ (form : Form) where
    pair_refusal : (refusal : Refusal) → IsRefusalOf before refusal → IsBegunRefusal form bytes refusal
    pair_refusal (Text fault) h = record { before = before; behind = behind; split = s; holds = h }
    pair_refusal (Pair fault) h = record { before = before; behind = behind; split = s; holds = h }
    pair_refusal (Points fault) h = record { before = before; behind = behind; split = s; holds = h }
    pair_refusal (Size limit) h = absurd h
    pair_refusal NoOutput h = absurd h
    pair_refusal (Earlier fault) h = absurd h

    pub pair_stop : (stop : Stop) → IsStopOf before stop → IsBegunStop form bytes stop
    pair_stop (Refused refusal) h = pair_refusal refusal h
    pair_stop Memory h = tt

    pub earlier_stop : (g : Shape) (stop : Stop) → IsInputOf before g → IsEarlierStop form g behind stop → IsBegunStop form bytes stop
    earlier_stop g (Refused (Earlier fault)) is h = (record { before = before; behind = behind; split = s; holds = (g, is, h.0) }, h.1)
    earlier_stop g (Refused (Text fault)) is h = absurd h
    earlier_stop g (Refused (Pair fault)) is h = absurd h
    earlier_stop g (Refused (Points fault)) is h = absurd h
    earlier_stop g (Refused (Size limit)) is h = absurd h
    earlier_stop g (Refused NoOutput) is h = absurd h
    earlier_stop g Memory is h = tt
