-- The command line as `clap` knows it: five options and two plain words.
use Rattle.std.specs.Prelude.{Some, true, codes}
use Rattle.clap.specs.Walk.{Rule, Text}
use Rattle.clap.specs.Simple.{App, new_app, new_rule, on_top, with_rule}
use Rattle.clap.specs.declared.builder.action.ArgAction.TheVariants.{Set, SetTrue}

-- an option that takes one value
abbrev pub valued : Text → Rule
valued name = record (new_rule name) { long = Some name; action = Some Set }

-- an option that takes none
abbrev pub flag : Text → Rule
flag name = record (new_rule name) { long = Some name; action = Some SetTrue }

-- no option is built in, and the words don't begin with the program's name
abbrev pub bare : App
bare = on_top (λ s. record s { no_binary_name = true; disable_help_flag = true }) (new_app (codes "ntfe"))

abbrev pub with_options : App
with_options = with_rule (with_rule (with_rule (with_rule (with_rule bare (valued (codes "workers"))) (valued (codes "limit"))) (valued (codes "width"))) (valued (codes "push"))) (flag (codes "stars"))

abbrev pub command_line : App
command_line = with_rule (with_rule with_options (new_rule (codes "name"))) (new_rule (codes "number"))
