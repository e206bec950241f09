-- What the rows of a walk say of the words read so far.
use Rattle.std.proofs.Common.{◌≡◌, ◌∙◌, ◌&&◌, ◌==◌, ◌≤◌, ◌⊎◌, inl, inr, ℕ, Bool, cond, true, false, List, [], ◌∷◌, ◌++◌, codes, length, Option, Some, None, refl, sym, ap, subst, suc, arith, append_assoc, append-nil}
use Rattle.std.specs.Option.{option_map_or}
use Rattle.std.proofs.lemmas.List.Folds.{list_all-append}
use Rattle.std.proofs.lemmas.Bool.Decides.{nat_tests}
use Rattle.clap.specs.Walk.{Held, Row, Rule, Waiting, Walk, after_step, arg_by_id, idle, is_pending, pushed, settled, used_by_id, value}
use Rattle.clap.specs.Faults.{positional_fault, step_fault, stray_fault, use_fault}
use Rattle.ntfe_words.specs.CommandLine.{Text, Setting, Reading, have_names, is_option, values_of}
use Rattle.ntfe_words.proofs.Rows.{HasForm, Seen, seek, seen-more, use_row, values-append}
use Rattle.ntfe_words.proofs.Grammar.{name_rule, number_rule, rules, shape, single}
use Rattle.ntfe_words.proofs.Uses.{repeat, single-fault, single-rows}
use Rattle.ntfe_words.proofs.Plausible.{each_option, none-named}
use Rattle.ntfe_words.proofs.Turns.{at, clash, held-settled, hold, no-several, settled_rows, some-kind}

abbrev pub given_as : Text → Text → Setting
given_as name text = record { name = name; value = Some text }

-- plain words as `clap` knows them, by their places
abbrev pub words_given : List Text → List Setting
words_given [] = []
words_given (a ∷ []) = given_as (codes "name") a ∷ []
words_given (a ∷ b ∷ more) = given_as (codes "name") a ∷ given_as (codes "number") b ∷ []

abbrev pub all_given : Reading → List Setting
all_given r = r.settings ++ words_given r.plains

-- the rows are those of the options and plain words of the reading
pub record Keeps (r : Reading) (rows : List Row) : Type 0 where
  pub seen : (n : Text) → Seen n (seek n rows) (values_of n (all_given r))
  pub known : have_names is_option r.settings ≡ true
  pub few : length r.plains ≤ 2

abbrev pub and_setting : Reading → Setting → Reading
and_setting r s = record { plains = r.plains; settings = r.settings ++ s ∷ [] }

abbrev pub and_plain : Reading → Text → Reading
and_plain r w = record { plains = r.plains ++ w ∷ []; settings = r.settings }

pub none-seen : (n : Text) (o : Option Row) (vs : List (Option Text)) → Seen n o vs → vs ≡ [] → o ≡ None
none-seen n None vs seen e = refl
none-seen n (Some row) vs seen e =
    let bad : seen.0 ∷ [] ≡ [] = sym seen.2 ∙ e in
    absurd cc

pub keep-setting : (r : Reading) (rows : List Row) (s : Setting) → Keeps r rows → is_option s.name ≡ true → HasForm s.name s.value → seek s.name rows ≡ None
    → Keeps (and_setting r s) (rows ++ use_row s.name s.value ∷ [])
keep-setting r rows s k known form none = record {
  seen = λ n. subst (λ ss. Seen n (seek n (rows ++ use_row s.name s.value ∷ [])) (values_of n ss)) (sym (append_assoc r.settings (s ∷ []) (words_given r.plains)))
      (seen-more rows r.settings (words_given r.plains) s form none k.seen n);
  known = list_all-append (λ (x : Setting). is_option x.name) r.settings (s ∷ []) ∙ (λ i. k.known i && (known i && true));
  few = k.few;
}

no-words : (n : Text) → is_option n ≡ true → (ps : List Text) → values_of n (words_given ps) ≡ []
no-words = each_option (λ n. (ps : List Text) → values_of n (words_given ps) ≡ []) workers limit width push stars
  where
    workers : (ps : List Text) → values_of (codes "workers") (words_given ps) ≡ []
    workers [] = refl
    workers (a ∷ []) = refl
    workers (a ∷ b ∷ more) = refl

    limit : (ps : List Text) → values_of (codes "limit") (words_given ps) ≡ []
    limit [] = refl
    limit (a ∷ []) = refl
    limit (a ∷ b ∷ more) = refl

    width : (ps : List Text) → values_of (codes "width") (words_given ps) ≡ []
    width [] = refl
    width (a ∷ []) = refl
    width (a ∷ b ∷ more) = refl

    push : (ps : List Text) → values_of (codes "push") (words_given ps) ≡ []
    push [] = refl
    push (a ∷ []) = refl
    push (a ∷ b ∷ more) = refl

    stars : (ps : List Text) → values_of (codes "stars") (words_given ps) ≡ []
    stars [] = refl
    stars (a ∷ []) = refl
    stars (a ∷ b ∷ more) = refl

-- the values of an option are those of all that is given
pub option-values : (r : Reading) (n : Text) → is_option n ≡ true → values_of n (all_given r) ≡ values_of n r.settings
option-values r n is = values-append n r.settings (words_given r.plains) ∙ ap (λ v. values_of n r.settings ++ v) (no-words n is r.plains) ∙ append-nil (values_of n r.settings)

-- an option that has a row was given before
pub given-before : (r : Reading) (rows : List Row) (n : Text) (row : Row) → Keeps r rows → is_option n ≡ true → seek n rows ≡ Some row → values_of n r.settings ≡ [] → ⊥
given-before r rows n row k is found e =
    let bad : Some row ≡ None = sym found ∙ none-seen n (seek n rows) (values_of n (all_given r)) (k.seen n) (option-values r n is ∙ e) in
    absurd cc

-- ---- one value under way

module _ (n : Text) (long : Option Text) (place : Option ℕ) (found : arg_by_id rules n ≡ Some (single n long place)) where
  pub waiting-clash : (rows : List Row) → ¬ (clash rows (Some (n, [])) ≡ [])
  waiting-clash rows e = some-kind _ [] (sym (ap (λ o. option_map_or (λ (a : Rule). use_fault false a [] rows) o []) found) ∙ e)

  pub value-clash : (rows : List Row) (w : Text) → clash rows (Some (n, w ∷ [])) ≡ repeat (seek n rows)
  value-clash rows w = ap (λ o. option_map_or (λ (a : Rule). use_fault false a (w ∷ []) rows) o []) found ∙ single-fault n long place w rows

  pub value-rows : (rows : List Row) (w : Text) → seek n rows ≡ None → settled_rows rows (Some (n, w ∷ [])) ≡ rows ++ use_row n (Some w) ∷ []
  value-rows rows w none = ap (λ o. used_by_id o (w ∷ []) rows) found ∙ single-rows n long place w rows none

-- ---- a plain word takes the next place

abbrev pub place_of : Reading → ℕ
place_of r = suc (length r.plains)

-- the word goes to the place of this id
pub record TakesPlace (r : Reading) (rows : List Row) (p : Option (Text × List Text)) (w : Text) (waits : Waiting) (trailing : Bool) : Type 0 where
  pub id : Text
  pub passes : step_fault shape (place_of r) (hold rows p) value ≡ []
  pub walk : after_step rules w (at rows p waits (place_of r) trailing) (hold rows p) value ≡ at (settled_rows rows p) (Some (id, w ∷ [])) idle (place_of (and_plain r w)) trailing
  pub clean : clash (settled_rows rows p) (Some (id, w ∷ [])) ≡ []
  pub keeps : Keeps (and_plain r w) (settled_rows (settled_rows rows p) (Some (id, w ∷ [])))

abbrev to_place : Text → ℕ → Text → Bool → Held → Walk
to_place id place w trailing h = record { held = pushed id w h; waiting = idle; position = place; is_trailing = trailing; stopped = None }

name-walk : (rows : List Row) (p : Option (Text × List Text)) (w : Text) (waits : Waiting) (trailing : Bool)
    → after_step rules w (at rows p waits 1 trailing) (hold rows p) value ≡ at (settled_rows rows p) (Some (codes "name", w ∷ [])) idle 2 trailing
name-walk rows p w waits true = ap (to_place (codes "name") 2 w true) (held-settled (is_pending name_rule p) (hold rows p) (settled rules (hold rows p)))
name-walk rows p w waits false = ap (to_place (codes "name") 2 w false) (held-settled (is_pending name_rule p) (hold rows p) (settled rules (hold rows p)))

number-walk : (rows : List Row) (p : Option (Text × List Text)) (w : Text) (waits : Waiting) (trailing : Bool)
    → after_step rules w (at rows p waits 2 trailing) (hold rows p) value ≡ at (settled_rows rows p) (Some (codes "number", w ∷ [])) idle 3 trailing
number-walk rows p w waits true = ap (to_place (codes "number") 3 w true) (held-settled (is_pending number_rule p) (hold rows p) (settled rules (hold rows p)))
number-walk rows p w waits false = ap (to_place (codes "number") 3 w false) (held-settled (is_pending number_rule p) (hold rows p) (settled rules (hold rows p)))

-- the word is refused, and it is one too many, or it takes a place
pub placed : (ps : List Text) (ss : List Setting) (rows : List Row) (p : Option (Text × List Text)) (w : Text) (waits : Waiting) (trailing : Bool)
    → clash rows p ≡ [] → Keeps (record { plains = ps; settings = ss }) (settled_rows rows p)
    → (¬ (step_fault shape (suc (length ps)) (hold rows p) value ≡ []) × (2 ≤ length ps)) ⊎ TakesPlace (record { plains = ps; settings = ss }) rows p w waits trailing
placed [] ss rows p w waits trailing clean k =
    let now = settled_rows rows p in
    let first : values_of (codes "name") (ss ++ []) ≡ [] = ap (values_of (codes "name")) (append-nil ss) ∙ none-named is_option (codes "name") ss k.known refl in
    let none : seek (codes "name") now ≡ None = none-seen (codes "name") (seek (codes "name") now) (values_of (codes "name") (ss ++ [])) (k.seen (codes "name")) first in
    inr (record {
      id = codes "name";
      passes = no-several (is_pending name_rule p) [] (clash rows p) ∙ clean;
      walk = name-walk rows p w waits trailing;
      clean = value-clash (codes "name") None (Some 1) refl now w ∙ ap repeat none;
      keeps = subst (Keeps (record { plains = w ∷ []; settings = ss })) (sym (value-rows (codes "name") None (Some 1) refl now w none)) (record {
        seen = seen-more now ss [] (given_as (codes "name") w) refl none k.seen;
        known = k.known;
        few = omega arith;
      });
    })
placed (a ∷ []) ss rows p w waits trailing clean k =
    let now = settled_rows rows p in
    let before = given_as (codes "name") a in
    let first : values_of (codes "number") (ss ++ before ∷ []) ≡ [] =
    values-append (codes "number") ss (before ∷ []) ∙ ap (λ v. v ++ []) (none-named is_option (codes "number") ss k.known refl) in
    let none : seek (codes "number") now ≡ None = none-seen (codes "number") (seek (codes "number") now) (values_of (codes "number") (ss ++ before ∷ [])) (k.seen (codes "number")) first in
    inr (record {
      id = codes "number";
      passes = no-several (is_pending number_rule p) [] (clash rows p) ∙ clean;
      walk = number-walk rows p w waits trailing;
      clean = value-clash (codes "number") None (Some 2) refl now w ∙ ap repeat none;
      keeps = subst (Keeps (record { plains = a ∷ w ∷ []; settings = ss })) (sym (value-rows (codes "number") None (Some 2) refl now w none)) (record {
        seen = λ n. subst (λ xs. Seen n (seek n (now ++ use_row (codes "number") (Some w) ∷ [])) (values_of n xs)) (append_assoc ss (before ∷ []) (given_as (codes "number") w ∷ []))
            (seen-more now (ss ++ before ∷ []) [] (given_as (codes "number") w) refl none (λ m. subst (λ xs. Seen m (seek m now) (values_of m xs)) (sym (append-nil (ss ++ before ∷ []))) (k.seen m)) n);
        known = k.known;
        few = omega arith;
      });
    })
placed (a ∷ b ∷ more) ss rows p w waits trailing clean k =
    let place = suc (suc (suc (length more))) in
    let one : (1 == place) ≡ false = grind (arith, nat_tests) in
    let two : (2 == place) ≡ false = grind (arith, nat_tests) in
    let stray : step_fault shape place (hold rows p) value ≡ stray_fault shape =
    λ i. option_map_or (λ (r : Rule). positional_fault rules false r (hold rows p)) (cond (one i) (Some name_rule) (cond (two i) (Some number_rule) None)) (stray_fault shape) in
    inl (λ e. some-kind _ [] (sym stray ∙ e), omega arith)
