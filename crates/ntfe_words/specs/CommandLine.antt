-- What the words of the command line mean.
--     IsMeaning words command     the words mean the command
--     HasMeaning words            they mean one
-- A word is the list of its bytes. The words don't include the program's name.
use Rattle.std.specs.Prelude.{◌≡◌, ℕ, ◌+◌, ◌==◌, ◌&&◌, ◌||◌, Bool, true, false, nat_eq, nat_lt, nat_le, if◌then◌else◌, List, [], ◌∷◌, length, take, drop, map, filter, position, codes, bytes_eq, Option, Some, None, option_map, option_and_then}
use Rattle.std.specs.List.{starts_with, list_all}
use Rattle.std.specs.Str.{all_ascii_digits}
use Rattle.std.specs.Str.Parse.{digits_value}
use Rattle.ntfe_model.specs.declared.nogood.Push.{Push}
use Rattle.ntfe_model.specs.declared.nogood.Push.TheVariants.{Up, Down}
use Rattle.ntfe_words.specs.declared.command.Command.{Command}
use Rattle.ntfe_words.specs.declared.command.Command.TheVariants.{Classes, Resume, Faces, Demo}
use Rattle.ntfe_words.specs.declared.command.Options.{Options}

abbrev pub Text : Type 0
Text = List ℕ

-- ---- plain words and options

-- an option as it is given: its name without the dashes, and its value where it has one
pub record Setting : Type 0 where
  pub name : Text
  pub value : Option Text

-- what the words hold, each list in their order
pub record Reading : Type 0 where
  pub plains : List Text
  pub settings : List Setting

-- what a word is that is not taken as a value
pub data Kind : Type 0 where
  separator : Kind
  plain : Kind
  whole : Setting → Kind
  awaiting : Text → Kind
  meaningless : Kind

-- an option with the value behind the `=` at this place, or one whose value is the next word
abbrev pub option_cut : Text → Option ℕ → Kind
option_cut text None = awaiting text
option_cut text (Some place) = whole (record { name = take place text; value = Some (drop (place + 1) text) })

-- what stands behind two dashes
abbrev pub option_kind : Text → Kind
option_kind text = option_cut text (position (λ b. b == 61) text)

abbrev pub stars_setting : Setting
stars_setting = record { name = codes "stars"; value = None }

abbrev pub kind_of : Text → Kind
kind_of word =
    if bytes_eq word (codes "--") then separator
    else (if bytes_eq word (codes "--stars") then (whole stars_setting)
    else (if starts_with nat_eq word (codes "--") then (option_kind (drop 2 word))
    else (if starts_with nat_eq word (codes "-") && nat_lt 1 (length word) then meaningless else plain)))

abbrev pub with_plain : Text → Reading → Reading
with_plain word r = record { plains = word ∷ r.plains; settings = r.settings }

abbrev pub with_setting : Setting → Reading → Reading
with_setting s r = record { plains = r.plains; settings = s ∷ r.settings }

-- the reading of a word of this kind and the words behind it; `next` reads those, where an option may wait for its value
abbrev pub read_kind : Kind → Text → List Text → (Option Text → Option Reading) → Option Reading
read_kind separator word words next = Some (record { plains = words; settings = [] })
read_kind plain word words next = option_map (with_plain word) (next None)
read_kind (whole s) word words next = option_map (with_setting s) (next None)
read_kind (awaiting name) word words next = next (Some name)
read_kind meaningless word words next = None

-- the words from left to right, where the first may be the value of an option of this name
abbrev pub reading_behind : List Text → Option Text → Option Reading
reading_behind [] None = Some (record { plains = []; settings = [] })
reading_behind [] (Some name) = None
reading_behind (word ∷ words) (Some name) =
    option_map (with_setting (record { name = name; value = Some word })) (reading_behind words None)
reading_behind (word ∷ words) None = read_kind (kind_of word) word words (reading_behind words)

abbrev pub reading : List Text → Option Reading
reading words = reading_behind words None

-- ---- values

-- one to ten digits and nothing else
abbrev pub is_numeral : Text → Bool
is_numeral text = nat_lt 0 (length text) && (nat_le (length text) 10 && all_ascii_digits text)

abbrev pub is_between : ℕ → ℕ → ℕ → Bool
is_between low high n = nat_le low n && nat_le n high

-- the number that the text stands for, if it is one from `low` to `high`
abbrev pub number : ℕ → ℕ → Text → Option ℕ
number low high text = if is_numeral text && is_between low high (digits_value 10 text) then Some (digits_value 10 text) else None

abbrev pub push_named : Text → Option Push
push_named text = if bytes_eq text (codes "up") then Some Up else (if bytes_eq text (codes "down") then Some Down else None)

-- the values that options of this name are given
abbrev pub values_of : Text → List Setting → List (Option Text)
values_of name settings = map (λ s. s.value) (filter (λ s. bytes_eq s.name name) settings)

-- what an option that is given at most once stands for
abbrev pub setting_of : {X : Type 0} → X → (Option Text → Option X) → List (Option Text) → Option X
setting_of default read [] = Some default
setting_of default read (value ∷ []) = read value
setting_of default read (value ∷ again ∷ values) = None

abbrev pub number_of : ℕ → ℕ → ℕ → Text → List Setting → Option ℕ
number_of default low high name settings = setting_of default (option_and_then (number low high)) (values_of name settings)

abbrev pub workers_of : List Setting → Option ℕ
workers_of = number_of 1 1 16 (codes "workers")

abbrev pub width_of : List Setting → Option ℕ
width_of = number_of 62 1 62 (codes "width")

abbrev pub limit_read : Option Text → Option (Option ℕ)
limit_read value = option_map Some (option_and_then (number 0 4294967295) value)

abbrev pub limit_of : List Setting → Option (Option ℕ)
limit_of settings = setting_of None limit_read (values_of (codes "limit") settings)

abbrev pub push_of : List Setting → Option Push
push_of settings = setting_of Up (option_and_then push_named) (values_of (codes "push") settings)

-- `stars` takes no value
abbrev pub stars_read : Option Text → Option Bool
stars_read None = Some true
stars_read (Some value) = None

abbrev pub stars_of : List Setting → Option Bool
stars_of settings = setting_of false stars_read (values_of (codes "stars") settings)

-- ---- commands

abbrev pub is_demo_option : Text → Bool
is_demo_option name = bytes_eq name (codes "workers") || bytes_eq name (codes "width")

abbrev pub is_option : Text → Bool
is_option name = is_demo_option name || (bytes_eq name (codes "limit") || (bytes_eq name (codes "push") || bytes_eq name (codes "stars")))

-- all names are of this sort
abbrev pub have_names : (Text → Bool) → List Setting → Bool
have_names is_name settings = list_all (λ s. is_name s.name) settings

-- the options of a listing of classes
pub record AreOptions (settings : List Setting) (o : Options) : Type 0 where
  pub known : have_names is_option settings ≡ true
  pub workers : workers_of settings ≡ Some o.workers
  pub limit : limit_of settings ≡ Some o.limit
  pub width : width_of settings ≡ Some o.width
  pub push : push_of settings ≡ Some o.push
  pub stars : stars_of settings ≡ Some o.stars

-- demo N, with its options
pub record IsDemo (r : Reading) (n workers width : ℕ) : Type 0 where
  pub word : Text
  pub plains : r.plains ≡ codes "demo" ∷ word ∷ []
  pub n_is : number 1 5 word ≡ Some n
  pub known : have_names is_demo_option r.settings ≡ true
  pub workers_is : workers_of r.settings ≡ Some workers
  pub width_is : width_of r.settings ≡ Some width

abbrev pub IsMeaningOf : Reading → Command → Type 0
IsMeaningOf r (Classes o) = (r.plains ≡ codes "classes" ∷ []) × AreOptions r.settings o
IsMeaningOf r (Resume o) = (r.plains ≡ codes "resume" ∷ []) × AreOptions r.settings o
IsMeaningOf r Faces = (r.plains ≡ codes "faces" ∷ []) × (r.settings ≡ [])
IsMeaningOf r (Demo n workers width) = IsDemo r n workers width

pub record IsMeaning (words : List Text) (command : Command) : Type 0 where
  pub read : Reading
  pub reads : reading words ≡ Some read
  pub means : IsMeaningOf read command

abbrev pub HasMeaning : List Text → Type 0
HasMeaning words = (command : Command) × IsMeaning words command
