-- The command line as `clap` builds it.
use Rattle.std.proofs.Common.{◌≡◌, ℕ, true, List, [], ◌∷◌, codes, Option, Some, None, refl}
use Rattle.clap.specs.Walk.{Rule, Text}
use Rattle.clap.specs.Simple.{App, Shape, built, is_simple, new_rule, new_shape}
use Rattle.clap.specs.Faults.{is_simple_and_free}
use Rattle.clap.proofs.OnLiterals.{clap_on_literals}
use Rattle.clap.specs.declared.builder.action.ArgAction.TheVariants.{Set, SetTrue}
use Rattle.clap.specs.declared.builder.value_parser.ValueParser.TheVariants as parser
use Rattle.ntfe_words.specs.Grammar.{command_line}

-- an argument that takes one value
abbrev pub single : Text → Option Text → Option ℕ → Rule
single id long place = record (new_rule id) {
  long = long;
  index = place;
  action = Some Set;
  range = Some (record { start_inclusive = 1; end_inclusive = 1 });
  parser = Some parser.String;
}

abbrev pub single_option : Text → Rule
single_option name = single name (Some name) None

abbrev pub flag : Rule
flag = record (new_rule (codes "stars")) {
  long = Some (codes "stars");
  action = Some SetTrue;
  range = Some (record { start_inclusive = 0; end_inclusive = 0 });
  defaults = codes "false" ∷ [];
  missing = codes "true" ∷ [];
  parser = Some parser.Bool;
}

abbrev pub name_rule : Rule
name_rule = single (codes "name") None (Some 1)

abbrev pub number_rule : Rule
number_rule = single (codes "number") None (Some 2)

abbrev pub rules : List Rule
rules = single_option (codes "workers") ∷ single_option (codes "limit") ∷ single_option (codes "width") ∷ single_option (codes "push") ∷ flag ∷ name_rule ∷ number_rule ∷ []

abbrev pub shape : Shape
shape = record (new_shape (codes "ntfe")) {
  rules = rules;
  no_binary_name = true;
  disable_help_flag = true;
  disable_help_subcommand = true;
  is_built = true;
}

abbrev pub app : App
app = record { top = shape; subs = [] }

pub built_is : built command_line ≡ app
unfolding clap_on_literals
built_is = refl

pub is_known : is_simple command_line ≡ true
unfolding clap_on_literals
is_known = refl

pub is_free : is_simple_and_free command_line ≡ true
unfolding clap_on_literals
is_free = refl
