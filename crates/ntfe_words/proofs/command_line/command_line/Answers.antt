use Rattle.std.proofs.Common.{◌≡◌, ◌∙◌, ap, ap₂, true}
use Rattle.std.proofs.lemmas.Result.{IfOk-weaker}
use Rattle.clap.specs.Simple.{app_of, app_of_fields, on_top, with_rule}
use Rattle.ntfe_words.specs.Grammar.{bare}
use Rattle.ntfe_words.proofs.command_line.command_line.Goals as goal

pub returns : goal.returns
returns c =
    let named : app_of c.no_binary_name.result ≡ on_top (λ s. record s { no_binary_name = true }) (app_of c.new.result) = ap app_of_fields c.no_binary_name.ensures in
    let bare_is : app_of c.disable_help_flag.result ≡ bare = ap app_of_fields c.disable_help_flag.ensures
    ∙ ap (on_top (λ s. record s { disable_help_flag = true })) (named ∙ ap (on_top (λ s. record s { no_binary_name = true })) c.new.ensures.app) in
    let workers_is = c.in_ok-arg.ensures.shape c.valued.ensures.local ∙ ap₂ with_rule bare_is c.valued.ensures.rule in
    let limit_is = c.in_ok-arg-2.ensures.shape c.valued-2.ensures.local ∙ ap₂ with_rule workers_is c.valued-2.ensures.rule in
    let width_is = c.in_ok-arg-3.ensures.shape c.valued-3.ensures.local ∙ ap₂ with_rule limit_is c.valued-3.ensures.rule in
    let push_is = c.in_ok-arg-4.ensures.shape c.valued-4.ensures.local ∙ ap₂ with_rule width_is c.valued-4.ensures.rule in
    let options_are = c.in_ok-arg-5.ensures.shape c.flag.ensures.local ∙ ap₂ with_rule push_is c.flag.ensures.rule in
    let name_is = c.in_ok-arg-6.ensures.shape c.new-2.ensures.optional.1 ∙ ap₂ with_rule options_are c.new-2.ensures.rule in
    IfOk-weaker c.arg-7.result _ _ (λ m h. h.shape c.new-3.ensures.optional.1 ∙ ap₂ with_rule name_is c.new-3.ensures.rule) c.arg-7.ensures
