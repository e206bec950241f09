-- What one word does to the walk of `clap`, and where it is refused.
use Rattle.std.proofs.Common.{◌≡◌, ◌∙◌, ◌&&◌, ◌==◌, ℕ, Bool, cond, true, false, List, [], ◌∷◌, length, Option, Some, None, is_some, refl, sym, ap}
use Rattle.std.specs.Prelude.{slice_get, option_and_then}
use Rattle.std.specs.Option.{option_map_or}
use Rattle.std.specs.Str.{IsUtf8, bytes_eq, chars}
use Rattle.std.proofs.lemmas.Str.{chars_past_char, encodes-chars}
use Rattle.std.proofs.Math.Utf8.{encode, encodes}
use Rattle.clap.specs.Lexer.{long_of, long_of_rest, name_and_value, short_of}
use Rattle.clap.specs.Walk.{Held, Row, Rule, Step, Waiting, Walk, after_flag, after_step, arg_by_id, arg_by_long, idle, long_met, is_pending, settled, takes_values, value, walked, word_met}
use Rattle.clap.specs.Walk.{option as waiting_for}
use Rattle.clap.specs.Faults.{flag_word_fault, bundle_fault, bundle_step_fault, flags_fault, long_fault, positional_fault, option_fault, react_fault, settle_fault, step_fault, turn_fault, use_fault, stray_fault}
use Rattle.clap.specs.Kinds.{Kinds, or_else}
use Rattle.clap.specs.declared.error.kind.ErrorKind.{ErrorKind}
use Rattle.clap.specs.declared.error.kind.ErrorKind.TheVariants as kind
use Rattle.ntfe_words.specs.CommandLine.{Text}
use Rattle.ntfe_words.proofs.Rows.{eq_self}
use Rattle.ntfe_words.proofs.Grammar.{name_rule, number_rule, rules, shape, single_option}

-- ---- kinds

pub some-kind : (k : ErrorKind) (ks : Kinds) → ¬ (k ∷ ks ≡ [])
some-kind k ks e = cc

pub fails-first : (a b : Kinds) → ¬ (a ≡ []) → ¬ (or_else a b ≡ [])
fails-first [] b h = absurd (h refl)
fails-first (k ∷ ks) b h = h

pub fails-then : (a b : Kinds) → ¬ (b ≡ []) → ¬ (or_else a b ≡ [])
fails-then [] b h = h
fails-then (k ∷ ks) b h = some-kind k ks

-- ---- where the walk stands

abbrev pub hold : List Row → Option (Text × List Text) → Held
hold rows p = record { rows = rows; pending = p; skip = 0 }

abbrev pub at : List Row → Option (Text × List Text) → Waiting → ℕ → Bool → Walk
at rows p waits place trailing = record { held = hold rows p; waiting = waits; position = place; is_trailing = trailing; stopped = None }

abbrev pub clash : List Row → Option (Text × List Text) → Kinds
clash rows p = settle_fault rules false (hold rows p)

abbrev pub settled_rows : List Row → Option (Text × List Text) → List Row
settled_rows rows p = (settled rules (hold rows p)).rows

-- ---- `--name` and `--name=value`

module _ (rows : List Row) (p : Option (Text × List Text)) (place : ℕ) (x : ℕ) (xs : Text) where
  abbrev pub long-met : Text × Option Text → Option Rule → Held × Step
  long-met nv found = after_flag rules idle (45 ∷ 45 ∷ x ∷ xs) (long_met rules found nv.1 (hold rows p)).0 (long_met rules found nv.1 (hold rows p)).1

  abbrev pub long-kinds : Text × Option Text → Option Rule → Kinds
  long-kinds nv found = or_else (long_fault rules false found nv.1 (hold rows p)) (step_fault shape place (long-met nv found).0 (long-met nv found).1)

  pub long-turn : (nv : Text × Option Text) (found : Option Rule) → name_and_value (x ∷ xs) ≡ nv → arg_by_long rules nv.0 ≡ found
      → turn_fault shape [] (at rows p idle place false) (45 ∷ 45 ∷ x ∷ xs) ≡ long-kinds nv found
  long-turn nv found is named = ap (λ q. long-kinds q (arg_by_long rules q.0)) is ∙ ap (long-kinds nv) named

  abbrev long-after : Held × Step → Walk
  long-after met = after_step rules (45 ∷ 45 ∷ x ∷ xs) (at rows p idle place false) met.0 met.1

  pub long-walk : (nv : Text × Option Text) (found : Option Rule) → name_and_value (x ∷ xs) ≡ nv → arg_by_long rules nv.0 ≡ found
      → walked rules [] (at rows p idle place false) (45 ∷ 45 ∷ x ∷ xs) ≡ long-after (long-met nv found)
  unfolding walked
  long-walk nv found is named = ap (λ q. long-after (long-met q (arg_by_long rules q.0))) is ∙ ap (λ o. long-after (long-met nv o)) named

-- an option is refused where what is under way is
pub long-clash : (found : Option Rule) (v : Option Text) (rows : List Row) (p : Option (Text × List Text)) → ¬ (clash rows p ≡ []) → ¬ (long_fault rules false found v (hold rows p) ≡ [])
long-clash None v rows p h = some-kind _ []
long-clash (Some a) v rows p h = go (takes_values a) v
  where
    reacts : (values : List Text) → ¬ (react_fault rules false a values (hold rows p) ≡ [])
    reacts values = fails-first (clash rows p) (use_fault false a values (settled_rows rows p)) h

    valued : (v : Option Text) → ¬ (option_fault rules false a v (hold rows p) ≡ [])
    valued None = h
    valued (Some t) = reacts (t ∷ [])

    go : (b : Bool) (v : Option Text)
        → ¬ (cond b (option_fault rules false a v (hold rows p)) (cond (is_some v) (kind.TooManyValues ∷ []) (react_fault rules false a [] (hold rows p))) ≡ [])
    go true v = valued v
    go false None = reacts []
    go false (Some t) = some-kind _ []

-- ---- `-x`

some-char : (x : ℕ) (xs : Text) → IsUtf8 (45 ∷ x ∷ xs) → (c : ℕ) × (cs : Text) × (chars (x ∷ xs) ≡ c ∷ cs)
unfolding encode
some-char x xs text = go (chars (x ∷ xs)) (ap encodes (sym (chars_past_char (45 ∷ x ∷ xs) (x ∷ xs) 45 text refl)) ∙ encodes-chars (45 ∷ x ∷ xs) text)
  where
    go : (cs : Text) → encodes (45 ∷ cs) ≡ 45 ∷ x ∷ xs → (c : ℕ) × (ds : Text) × (cs ≡ c ∷ ds)
    go [] e =
        let bad : 45 ∷ [] ≡ 45 ∷ x ∷ xs = e in
        absurd cc
    go (c ∷ cs) e = (c, cs, refl)

module _ (rows : List Row) (p : Option (Text × List Text)) (x : ℕ) (xs : Text) where
  abbrev flags-found : Bool → Kinds
  flags-found b = option_map_or (λ f. bundle_fault rules false f (hold rows p)) (cond b None (Some (x ∷ xs))) []

  abbrev short-kinds : Bool → Kinds
  short-kinds b = cond (b && bytes_eq xs []) [] (flag_word_fault rules false (option_and_then long_of_rest (cond b (Some xs) None)) (45 ∷ x ∷ xs) (hold rows p))

  no-flag : IsUtf8 (45 ∷ x ∷ xs) → ¬ (bundle_fault rules false (x ∷ xs) (hold rows p) ≡ [])
  unfolding flags_fault
  no-flag text e =
      let first = some-char x xs text in
      some-kind kind.UnknownArgument [] (sym (ap (λ (cs : Text). bundle_step_fault rules false (slice_get cs 0) (x ∷ xs) 0 (hold rows p) (flags_fault rules false (length xs))) first.2) ∙ e)

  -- whatever stands behind it in a turn
  short-is : (more : Kinds) → (x == 45) ≡ false → or_else (short-kinds (x == 45)) more ≡ or_else (bundle_fault rules false (x ∷ xs) (hold rows p)) more
  short-is more e = ap (λ b. or_else (short-kinds b) more) e ∙ ap (λ b. or_else (flags-found b) more) e

  pub short-fails : (place : ℕ) → IsUtf8 (45 ∷ x ∷ xs) → (x == 45) ≡ false → ¬ (turn_fault shape [] (at rows p idle place false) (45 ∷ x ∷ xs) ≡ [])
  short-fails place text e f =
      let met = word_met rules [] false idle place (45 ∷ x ∷ xs) (hold rows p) in
      let more = step_fault shape place met.0 met.1 in
      fails-first (bundle_fault rules false (x ∷ xs) (hold rows p)) more (no-flag text) (sym (short-is more e) ∙ f)

  pub short-fails-waiting : (n : Text) (place : ℕ) → IsUtf8 (45 ∷ x ∷ xs) → (x == 45) ≡ false → ¬ (turn_fault shape [] (at rows p (waiting_for n) place false) (45 ∷ x ∷ xs) ≡ [])
  short-fails-waiting n place text e f =
      let met = word_met rules [] false (waiting_for n) place (45 ∷ x ∷ xs) (hold rows p) in
      let more = step_fault shape place met.0 met.1 in
      fails-first (bundle_fault rules false (x ∷ xs) (hold rows p)) more (no-flag text) (sym (short-is more e) ∙ f)

-- ---- a word that is no flag

pub bare-turn : (rows : List Row) (p : Option (Text × List Text)) (place : ℕ) (w : Text) → long_of w ≡ None → short_of w ≡ None → bytes_eq w (45 ∷ 45 ∷ []) ≡ false
    → (turn_fault shape [] (at rows p idle place false) w ≡ step_fault shape place (hold rows p) value)
    × (walked rules [] (at rows p idle place false) w ≡ after_step rules w (at rows p idle place false) (hold rows p) value)
unfolding walked
bare-turn rows p place w long short dashes = (rw (dashes, long, short) refl, rw (dashes, long, short) refl)

-- it is the value of the option that waits for one
pub value-turn : (rows : List Row) (n : Text) (place : ℕ) (w : Text) → long_of w ≡ None → short_of w ≡ None → bytes_eq w (45 ∷ 45 ∷ []) ≡ false
    → arg_by_id rules n ≡ Some (single_option n)
    → (turn_fault shape [] (at rows (Some (n, [])) (waiting_for n) place false) w ≡ [])
    × (walked rules [] (at rows (Some (n, [])) (waiting_for n) place false) w ≡ at rows (Some (n, w ∷ [])) idle place false)
unfolding walked
value-turn rows n place w long short dashes known =
    let self = eq_self n in
    (rw (dashes, long, short) refl, rw (dashes, long, short, known, self) refl)

-- ---- a word that goes to a place

pub no-several : (b : Bool) (x y : Kinds) → cond (b && false) x y ≡ y
no-several true x y = refl
no-several false x y = refl

pub held-settled : (b : Bool) (x y : Held) → cond (b && false) x y ≡ y
held-settled true x y = refl
held-settled false x y = refl

-- a word in a place is refused where what is under way is, or where there is no such place
pub place-clash : (rows : List Row) (p : Option (Text × List Text)) (place : ℕ) → ¬ (clash rows p ≡ []) → ¬ (step_fault shape place (hold rows p) value ≡ [])
place-clash rows p place h = go (1 == place) (2 == place)
  where
    taken : (pending : Bool) → ¬ (cond (pending && false) [] (clash rows p) ≡ [])
    taken true = h
    taken false = h

    go : (a b : Bool) → ¬ (option_map_or (λ (r : Rule). positional_fault rules false r (hold rows p)) (cond a (Some name_rule) (cond b (Some number_rule) None)) (stray_fault shape) ≡ [])
    go true b = taken (is_pending name_rule p)
    go false true = taken (is_pending number_rule p)
    go false false = some-kind _ []
