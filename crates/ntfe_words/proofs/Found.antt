-- What `clap` answers at the words, as the rules have it.
use Rattle.std.proofs.Common.{◌≡◌, ◌∙◌, ◌||◌, ◌==◌, ◌≤◌, ℕ, Bool, cond, not, true, false, true≢false, List, [], ◌∷◌, ◌++◌, map, codes, length, Option, Some, None, is_some, refl, sym, ap, ap₂, arith, string_bytes, inl, inr, Err}
use Rattle.std.specs.Prelude.{⊤, String, option_and_then, slice_get}
use Rattle.std.specs.Option.{option_or}
use Rattle.std.specs.Str.{bytes_eq}
use Rattle.std.proofs.lemmas.Str.{IsUtf8-string_bytes}
use Rattle.std.proofs.lemmas.List.Folds.{find-append}
use Rattle.clap.specs.Matches.{first_value, one_text}
use Rattle.clap.specs.Values.{kind_of}
use Rattle.clap.specs.Walk.{Row, Rule, first_of, has_row, more_values, idle, nothing_held, one_of, row_text, rows_after, rows_of, with_default, with_values}
use Rattle.clap.specs.Walk.{finished}
use Rattle.clap.specs.Simple.{App, matches_of, names_of}
use Rattle.clap.specs.Faults.{built_fault, defaults_fault, fault_of, given_default_fault, settle_fault, walk_fault}
use Rattle.clap.specs.Kinds.{HasKind, Kinds, or_else}
use Rattle.clap.specs.declared.error.Error.{Error}
use Rattle.clap.specs.declared.error.kind.ErrorKind.TheVariants.{OutOfMemory}
use Rattle.clap.specs.declared.parser.matches.Found.{Found}
use Rattle.clap.specs.declared.parser.matches.ValueSource.TheVariants.{DefaultValue}
use Rattle.clap.specs.declared.builder.value_parser.Reading.TheVariants as reading
use Rattle.clap.proofs.FaultLemmas.{leaf_fault}
use Rattle.clap.proofs.WalkLemmas.{first_value-rows, one_text-rows}
use Rattle.ntfe_words.specs.Grammar.{command_line}
use Rattle.ntfe_words.specs.CommandLine.{Text, Reading, HasMeaning, is_option, reading as reading_of, values_of}
use Rattle.ntfe_words.specs.Parse.{AreGetters, IsGiven, IsParse, flag_given, listed, text_of, values_given}
use Rattle.ntfe_words.specs.declared.fault.WordFault.{WordFault}
use Rattle.ntfe_words.specs.declared.fault.WordFault.TheVariants.{Usage, Memory}
use Rattle.ntfe_words.specs.declared.given.Given.{Given}
use Rattle.ntfe_words.proofs.Rows.{HasForm, Seen, at-absent, has_row-is, seek, use_row, values-append}
use Rattle.ntfe_words.proofs.Grammar.{app, built_is, flag, rules, shape, single}
use Rattle.ntfe_words.proofs.Plausible.{means-plausible, none-named}
use Rattle.ntfe_words.proofs.Turns.{at, hold, settled_rows}
use Rattle.ntfe_words.proofs.Held.{Keeps, all_given, option-values, words_given}
use Rattle.ntfe_words.proofs.Walks.{AllText, Answer, end_fault, refused, taken, walk_over}
use Rattle.ntfe_words.proofs.Words.{all-words}

pub all-text : {Z : Type 0} (words : List (String Z)) → AllText (map string_bytes words)
all-text [] = tt
all-text (w ∷ ws) = (IsUtf8-string_bytes w, all-text ws)

-- ---- defaults fail nowhere

abbrev AllQuiet : List Rule → Type 0
AllQuiet [] = ⊤
AllQuiet (a ∷ rest) = (given_default_fault a a.defaults ≡ []) × AllQuiet rest

quiet-default : (b : Bool) (k : Kinds) → k ≡ [] → cond b [] k ≡ []
quiet-default true k e = refl
quiet-default false k e = e

quiet-defaults : (rs : List Rule) (rows : List Row) → AllQuiet rs → defaults_fault rows rs ≡ []
unfolding defaults_fault
quiet-defaults [] rows t = refl
quiet-defaults (a ∷ rest) rows t =
    ap₂ or_else (quiet-default (has_row a.id rows || length a.defaults == 0) (given_default_fault a a.defaults) t.0) (quiet-defaults rest (with_default rows a) t.1)

abbrev pub start : List Text → Kinds
start words = end_fault (at [] None idle 1 false) words

last-fault : (walk settle defaults : Kinds) → defaults ≡ [] → or_else walk (or_else [] (or_else settle (or_else defaults []))) ≡ or_else walk settle
last-fault walk [] defaults e = ap (λ d. or_else walk (or_else d [])) e
last-fault walk (k ∷ ks) defaults e = refl

pub fault-is : (words : List Text) → fault_of command_line words ≡ start words
fault-is words =
    ap (λ (a : App). built_fault a nothing_held words) built_is ∙ leaf_fault app nothing_held words refl
    ∙ last-fault (walk_fault shape [] (at [] None idle 1 false) words) (settle_fault rules false (walk_over (at [] None idle 1 false) words).held) _
    (quiet-defaults rules _ (refl, (refl, (refl, (refl, (refl, (refl, (refl, tt))))))))

-- ---- rows at the end

quiet : (id : Text) (long : Option Text) (place : Option ℕ) (rows : List Row) → with_default rows (single id long place) ≡ rows
quiet id long place rows = go (has_row id rows)
  where
    go : (b : Bool) → cond b rows rows ≡ rows
    go true = refl
    go false = refl

pub matches-are : (words : List Text) (rows : List Row) (p : Option (Text × List Text)) → (walk_over (at [] None idle 1 false) words).held ≡ hold rows p
    → matches_of command_line words ≡ with_default (settled_rows rows p) flag
matches-are words rows p held =
    let s = settled_rows rows p in
    ap (λ (a : App). rows_after a.top.rules (names_of a) words) built_is ∙ ap (finished rules) held
    ∙ quiet (codes "number") None (Some 2) _ ∙ quiet (codes "name") None (Some 1) _
    ∙ ap (λ rs. with_default rs flag)
    (quiet (codes "push") (Some (codes "push")) None _ ∙ quiet (codes "width") (Some (codes "width")) None _ ∙ quiet (codes "limit") (Some (codes "limit")) None _
    ∙ quiet (codes "workers") (Some (codes "workers")) None s)

none_of : {X : Type 0} (o : Option X) → is_some o ≡ false → o ≡ None
none_of None e = refl
none_of (Some x) e = absurd (true≢false e)

-- the default of `stars` is in no other row
default-other : (rows : List Row) (n : Text) → bytes_eq (codes "stars") n ≡ false → seek n (with_default rows flag) ≡ seek n rows
default-other rows n other = go (has_row (codes "stars") rows) refl
  where
    more : Row
    more = record { id = codes "stars"; values = codes "false" ∷ []; count = None; source = Some DefaultValue; reading = reading.AsWritten }

    kept : (o : Option Row) → option_or o None ≡ o
    kept None = refl
    kept (Some r) = refl

    go : (b : Bool) → has_row (codes "stars") rows ≡ b → seek n (cond b rows (with_values (codes "stars") reading.AsWritten DefaultValue (codes "false" ∷ []) rows)) ≡ seek n rows
    go true e = refl
    go false e =
        ap (seek n) (at-absent (codes "stars") (more_values DefaultValue (codes "false" ∷ [])) (more ∷ []) rows (none_of (seek (codes "stars") rows) (sym (has_row-is (codes "stars") rows) ∙ e)))
        ∙ find-append (λ (r : Row). bytes_eq r.id n) rows (more ∷ []) ∙ rw other (kept (seek n rows))

-- the value of `stars`, from its row or its default
abbrev flag_text : Option Row → Text
flag_text None = codes "false"
flag_text (Some row) = codes "true"

default-stars : (rows : List Row) (vs : List (Option Text)) → Seen (codes "stars") (seek (codes "stars") rows) vs → one_of (codes "stars") (with_default rows flag) ≡ Some (flag_text (seek (codes "stars") rows))
default-stars rows vs seen = go (seek (codes "stars") rows) refl seen
  where
    more : Row
    more = record { id = codes "stars"; values = codes "false" ∷ []; count = None; source = Some DefaultValue; reading = reading.AsWritten }

    here : (b : Bool) → has_row (codes "stars") rows ≡ b → with_default rows flag ≡ cond b rows (with_values (codes "stars") reading.AsWritten DefaultValue (codes "false" ∷ []) rows)
    here b e = ap (λ c. cond c rows (with_values (codes "stars") reading.AsWritten DefaultValue (codes "false" ∷ []) rows)) e

    text : (row : Row) (v : Option Text) → row ≡ use_row (codes "stars") v → HasForm (codes "stars") v → row_text row ≡ Some (codes "true")
    text row None e form = ap row_text e
    text row (Some t) e form = absurd (true≢false form)

    go : (o : Option Row) → seek (codes "stars") rows ≡ o → Seen (codes "stars") o vs → one_of (codes "stars") (with_default rows flag) ≡ Some (flag_text o)
    go None e s =
        ap (one_of (codes "stars")) (here false (has_row-is (codes "stars") rows ∙ ap is_some e) ∙ at-absent (codes "stars") (more_values DefaultValue (codes "false" ∷ [])) (more ∷ []) rows e)
        ∙ ap (option_and_then row_text) (find-append (λ (r : Row). bytes_eq r.id (codes "stars")) rows (more ∷ []) ∙ ap (λ o. option_or o (Some more)) e)
    go (Some row) e s =
        ap (one_of (codes "stars")) (here true (has_row-is (codes "stars") rows ∙ ap is_some e)) ∙ ap (option_and_then row_text) e ∙ text row s.0 s.1 s.3

-- ---- what is given

abbrev first_text : Option Row → Option Text
first_text = option_and_then (λ r. slice_get r.values 0)

seen-given : (n : Text) (o : Option Row) (vs : List (Option Text)) → bytes_eq n (codes "stars") ≡ false → Seen n o vs → vs ≡ values_given (first_text o)
seen-given n None vs other seen = seen
seen-given n (Some row) vs other seen = go seen.0 seen.1 seen.2 seen.3
  where
    go : (v : Option Text) → row ≡ use_row n v → vs ≡ v ∷ [] → HasForm n v → vs ≡ values_given (first_text (Some row))
    go None is values form = absurd (true≢false (sym (form ∙ ap not other)))
    go (Some t) is values form = values ∙ ap (λ (r : Row). values_given (slice_get r.values 0)) (sym is)

seen-flag : (o : Option Row) (vs : List (Option Text)) (b : Bool) → Seen (codes "stars") o vs → (flag_text o ≡ codes "true" → b ≡ true) → (flag_text o ≡ codes "false" → b ≡ false)
    → vs ≡ flag_given b
seen-flag None vs b seen given absent = seen ∙ ap flag_given (sym (absent refl))
seen-flag (Some row) vs b seen given absent = go seen.0 seen.2 seen.3
  where
    go : (v : Option Text) → vs ≡ v ∷ [] → HasForm (codes "stars") v → vs ≡ flag_given b
    go None values form = values ∙ ap flag_given (sym (given refl))
    go (Some t) values form = absurd (true≢false form)

-- plain words are their places' values
abbrev only : List (Option Text) → List Text
only [] = []
only (None ∷ vs) = []
only (Some t ∷ vs) = t ∷ []

only-given : (o : Option Text) → only (values_given o) ≡ listed o
only-given None = refl
only-given (Some t) = refl

words-only : (ps : List Text) → length ps ≤ 2 → ps ≡ only (values_of (codes "name") (words_given ps)) ++ only (values_of (codes "number") (words_given ps))
words-only [] few = refl
words-only (a ∷ []) few = refl
words-only (a ∷ b ∷ []) few = refl
words-only (a ∷ b ∷ c ∷ ps) few = absurd (omega arith)

words-order : (ps : List Text) → only (values_of (codes "name") (words_given ps)) ≡ [] → only (values_of (codes "number") (words_given ps)) ≡ []
words-order [] e = refl
words-order (a ∷ []) e = refl
words-order (a ∷ b ∷ ps) e = absurd cc

listed-none : (o : Option Text) → listed o ≡ [] → o ≡ None
listed-none None e = refl
listed-none (Some t) e = absurd cc

module _ (r : Reading) (f : Found) (g : Given) (rows : List Row) (keeps : Keeps r rows) (rows_are : rows_of f ≡ with_default rows flag) (getters : AreGetters f g) where
  first-is : (n : Text) (o : Option Text) → bytes_eq (codes "stars") n ≡ false → o ≡ first_value f n → o ≡ first_text (seek n rows)
  first-is n o other e = e ∙ first_value-rows f n ∙ ap (first_of n) rows_are ∙ ap first_text (default-other rows n other)

  values-are : (n : Text) (o : Option Text) → bytes_eq (codes "stars") n ≡ false → bytes_eq n (codes "stars") ≡ false → o ≡ first_value f n → values_of n (all_given r) ≡ values_given o
  values-are n o other other' e = seen-given n (seek n rows) (values_of n (all_given r)) other' (keeps.seen n) ∙ ap values_given (sym (first-is n o other e))

  place-values : (n : Text) (o : Option Text) → is_option n ≡ false → bytes_eq (codes "stars") n ≡ false → bytes_eq n (codes "stars") ≡ false → o ≡ first_value f n
      → only (values_of n (words_given r.plains)) ≡ listed o
  place-values n o not_option other other' e =
      ap only (sym (values-append n r.settings (words_given r.plains) ∙ ap (λ v. v ++ values_of n (words_given r.plains)) (none-named is_option n r.settings keeps.known not_option))
      ∙ values-are n o other other' e) ∙ only-given o

  flag-is : (t : Text) → flag_text (seek (codes "stars") rows) ≡ t → one_text f (codes "stars") ≡ Some t
  flag-is t e = one_text-rows f (codes "stars") ∙ ap (one_of (codes "stars")) rows_are ∙ default-stars rows (values_of (codes "stars") (all_given r)) (keeps.seen (codes "stars")) ∙ ap Some e

  pub given-is : IsGiven r g
  given-is = record {
    plains = words-only r.plains keeps.few ∙ ap₂ (λ a b. a ++ b) (place-values (codes "name") (text_of g.name) refl refl refl getters.name)
        (place-values (codes "number") (text_of g.number) refl refl refl getters.number);
    order = λ e. listed-none (text_of g.number) (sym (place-values (codes "number") (text_of g.number) refl refl refl getters.number)
        ∙ words-order r.plains (place-values (codes "name") (text_of g.name) refl refl refl getters.name ∙ ap listed e));
    known = keeps.known;
    workers = sym (option-values r (codes "workers") refl) ∙ values-are (codes "workers") (text_of g.workers) refl refl getters.workers;
    limit = sym (option-values r (codes "limit") refl) ∙ values-are (codes "limit") (text_of g.limit) refl refl getters.limit;
    width = sym (option-values r (codes "width") refl) ∙ values-are (codes "width") (text_of g.width) refl refl getters.width;
    push = sym (option-values r (codes "push") refl) ∙ values-are (codes "push") (text_of g.push) refl refl getters.push;
    stars = sym (option-values r (codes "stars") refl)
        ∙ seen-flag (seek (codes "stars") rows) (values_of (codes "stars") (all_given r)) g.stars (keeps.seen (codes "stars")) (λ e. getters.given (flag-is (codes "true") e))
        (λ e. getters.absent (flag-is (codes "false") e));
  }

-- ---- both outcomes of a parse

nothing-kept : Keeps (record { plains = []; settings = [] }) []
nothing-kept = record { seen = λ n. refl; known = refl; few = omega arith }

answer : (words : List Text) → AllText words → Answer (at [] None idle 1 false) words (reading_of words) (record { plains = []; settings = [] })
answer words t = all-words words t None (record { plains = []; settings = [] }) [] None (refl, nothing-kept)

pub words-taken : (words : List Text) → AllText words → fault_of command_line words ≡ [] → (f : Found) (g : Given) → rows_of f ≡ matches_of command_line words → AreGetters f g
    → (r : Reading) × (reading_of words ≡ Some r) × IsGiven r g
words-taken words t none f g rows_are getters = go (answer words t)
  where
    go : Answer (at [] None idle 1 false) words (reading_of words) (record { plains = []; settings = [] }) → (r : Reading) × (reading_of words ≡ Some r) × IsGiven r g
    go (taken q is rows p held passes clean keeps) = (q, is, given-is q f g (settled_rows rows p) keeps (rows_are ∙ matches-are words rows p held) getters)
    go (refused fails means) = absurd (fails (sym (fault-is words) ∙ none))

pub words-refused : (words : List Text) → AllText words → ¬ (fault_of command_line words ≡ []) → ¬ (HasMeaning words)
words-refused words t fails meaning = go (answer words t)
  where
    go : Answer (at [] None idle 1 false) words (reading_of words) (record { plains = []; settings = [] }) → ⊥
    go (taken q is rows p held passes clean keeps) = fails (fault-is words ∙ ap₂ or_else passes (ap (settle_fault rules false) held ∙ clean))
    go (refused fails_at means) = means meaning.1.read meaning.1.reads (means-plausible meaning.1.read meaning.0 meaning.1.means)

-- `clap` refuses the words, or memory runs out
pub parse-fails : (words : List Text) (fault : WordFault) (e : Error) → AllText words → ((fault ≡ Memory → ⊥) → kind_of e ≡ OutOfMemory → ⊥) → HasKind (fault_of command_line words) e
    → IsParse words (Err fault)
parse-fails words Memory e t kept failed = tt
parse-fails words Usage e t kept failed = words-refused words t (some_kind (fault_of command_line words) failed)
  where
    some_kind : (kinds : Kinds) → HasKind kinds e → ¬ (kinds ≡ [])
    some_kind kinds (inl memory) is = kept (λ same. absurd cc) memory
    some_kind [] (inr among) is = among
    some_kind (k ∷ ks) (inr among) is = absurd cc
