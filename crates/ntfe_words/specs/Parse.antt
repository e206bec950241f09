-- What is given of the command line, and what it says of the words.
use Rattle.std.specs.Prelude.{◌≡◌, Bool, true, false, List, [], ◌∷◌, ◌++◌, ◌||◌, codes, is_some, Option, Some, None, option_map, Result, Ok, Err, ⊤}
use Rattle.std.specs.Borrow.{Bor}
use Rattle.clap.specs.Matches.{first_value, one_text}
use Rattle.clap.specs.declared.parser.matches.Found.{Found}
use Rattle.ntfe_words.specs.CommandLine.{Text, Reading, reading, values_of, have_names, is_option, IsMeaningOf, HasMeaning}
use Rattle.ntfe_words.specs.declared.command.Command.{Command}
use Rattle.ntfe_words.specs.declared.fault.WordFault.{WordFault}
use Rattle.ntfe_words.specs.declared.fault.WordFault.TheVariants.{Usage, Memory}
use Rattle.ntfe_words.specs.declared.given.Given.{Given}

abbrev pub text_of : Option (Bor Text) → Option Text
text_of = option_map (λ s. s.now)

abbrev pub listed : Option Text → List Text
listed None = []
listed (Some text) = text ∷ []

-- the values of an option that is given once with this value, or not at all
abbrev pub values_given : Option Text → List (Option Text)
values_given None = []
values_given (Some text) = Some text ∷ []

-- the same of an option without a value
abbrev pub flag_given : Bool → List (Option Text)
flag_given true = None ∷ []
flag_given false = []

-- an option is given that `demo` takes, and one that only a listing of classes takes
abbrev pub has_demo_option : Given → Bool
has_demo_option g = is_some (text_of g.workers) || is_some (text_of g.width)

abbrev pub has_list_option : Given → Bool
has_list_option g = is_some (text_of g.limit) || (is_some (text_of g.push) || g.stars)

-- what `clap`'s getters answer
pub record AreGetters (f : Found) (g : Given) : Type 0 where
  pub name : text_of g.name ≡ first_value f (codes "name")
  pub number : text_of g.number ≡ first_value f (codes "number")
  pub workers : text_of g.workers ≡ first_value f (codes "workers")
  pub limit : text_of g.limit ≡ first_value f (codes "limit")
  pub width : text_of g.width ≡ first_value f (codes "width")
  pub push : text_of g.push ≡ first_value f (codes "push")
  pub given : one_text f (codes "stars") ≡ Some (codes "true") → g.stars ≡ true
  pub absent : one_text f (codes "stars") ≡ Some (codes "false") → g.stars ≡ false

-- the reading holds what is given, each option at most once
pub record IsGiven (r : Reading) (g : Given) : Type 0 where
  pub plains : r.plains ≡ listed (text_of g.name) ++ listed (text_of g.number)
  pub order : text_of g.name ≡ None → text_of g.number ≡ None
  pub known : have_names is_option r.settings ≡ true
  pub workers : values_of (codes "workers") r.settings ≡ values_given (text_of g.workers)
  pub limit : values_of (codes "limit") r.settings ≡ values_given (text_of g.limit)
  pub width : values_of (codes "width") r.settings ≡ values_given (text_of g.width)
  pub push : values_of (codes "push") r.settings ≡ values_given (text_of g.push)
  pub stars : values_of (codes "stars") r.settings ≡ flag_given g.stars

-- the reading of the words holds what is given, or the words have no meaning
abbrev pub IsParse : List Text → Result Given WordFault → Type 0
IsParse words (Ok g) = (r : Reading) × (reading words ≡ Some r) × IsGiven r g
IsParse words (Err Usage) = ¬ (HasMeaning words)
IsParse words (Err Memory) = ⊤

-- the command that the reading means, or none where it means none
abbrev pub IsCommandOf : Reading → Option Command → Type 0
IsCommandOf r (Some command) = IsMeaningOf r command
IsCommandOf r None = (command : Command) → ¬ (IsMeaningOf r command)
