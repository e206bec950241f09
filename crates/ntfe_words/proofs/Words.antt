-- The words of the command line, one after another: those that `clap` takes, and those that mean something.
use Rattle.std.proofs.Common.{◌≡◌, ◌∙◌, ◌&&◌, ◌==◌, ◌≤◌, ◌⊎◌, inl, inr, ℕ, not, true, false, true≢false, List, [], ◌∷◌, ◌++◌, codes, length, Option, Some, None, refl, sym, ap, subst, suc, arith}
use Rattle.std.specs.Prelude.{option_map, nat_lt}
use Rattle.std.specs.Str.{IsUtf8, bytes_eq}
use Rattle.std.proofs.lemmas.Bool.Decides.{nat_tests}
use Rattle.clap.specs.Lexer.{name_and_value}
use Rattle.clap.specs.Walk.{Row, Walk, after_step, arg_by_id, arg_by_long, idle, value, walked}
use Rattle.clap.specs.Walk.{option as waiting_for}
use Rattle.clap.specs.Faults.{long_fault, step_fault, turn_fault, walk_fault}
use Rattle.clap.specs.Kinds.{or_else}
use Rattle.clap.specs.declared.error.kind.ErrorKind.TheVariants as kind
use Rattle.ntfe_words.specs.CommandLine.{Text, Setting, Reading, is_option, kind_of, meaningless, plain, read_kind, reading_behind, stars_setting, whole, awaiting, with_plain, with_setting}
use Rattle.ntfe_words.proofs.Rows.{seek, use_row}
use Rattle.ntfe_words.proofs.Grammar.{flag, rules, shape, single_option}
use Rattle.ntfe_words.proofs.Forms.{Long, View, attached, bare, dashes, eq-swap, flagged, long, long-form, short, view, waits}
use Rattle.ntfe_words.proofs.Uses.{Known, flag-fault, flag-rows, known, repeat, single-fault, single-rows, starred, unknown, valued}
use Rattle.ntfe_words.proofs.Plausible.{Plausible, awaited, good, joined, mapped-some, usable}
use Rattle.ntfe_words.proofs.Turns.{at, bare-turn, clash, fails-first, hold, long-clash, long-turn, long-walk, settled_rows, short-fails, short-fails-waiting, some-kind, value-turn}
use Rattle.ntfe_words.proofs.Held.{Keeps, TakesPlace, and_plain, and_setting, given-before, given_as, keep-setting, place_of, placed, value-clash, value-rows, waiting-clash}
use Rattle.ntfe_words.proofs.Walks.{AllText, Answer, dashes-turn, dashes-walk, doomed, doomed-tail, dashes-turn-waiting, dashes-walk-waiting, end_fault, fails-later, fails-now, id-map, joined-nothing, joined-plain, joined-setting, refused, refused-now, tail, taken, taken-later, too-many}

abbrev Means : List Text → Option Text → Reading → Walk → Type 0
Means words wait r w = Answer w words (reading_behind words wait) r

-- the walk before a word, where no option waits, and where one does
abbrev open_at : Reading → List Row → Option (Text × List Text) → Walk
open_at r rows p = at rows p idle (place_of r) false

abbrev waiting_at : Text → Reading → List Row → Walk
waiting_at n r rows = at rows (Some (n, [])) (waiting_for n) (place_of r) false

pub record CanWait (n : Text) : Type 0 where
  pub known : is_option n ≡ true
  pub valued : bytes_eq n (codes "stars") ≡ false
  pub found : arg_by_id rules n ≡ Some (single_option n)

-- what is known of the words behind
abbrev OpenRest : List Text → Type 0
OpenRest ws = (r : Reading) (rows : List Row) (p : Option (Text × List Text)) → clash rows p ≡ [] → Keeps r (settled_rows rows p) → Means ws None r (open_at r rows p)

abbrev WaitingRest : List Text → Type 0
WaitingRest ws = (n : Text) → CanWait n → (r : Reading) (rows : List Row) → Keeps r rows → Means ws (Some n) r (waiting_at n r rows)

-- a setting that is not good is not plausible
not-usable : (r : Reading) (s : Setting) (q : Reading) → usable s.name s.value ≡ false → ¬ (Plausible (joined r (with_setting s q)))
not-usable r s q e h = true≢false (sym ((good r s q h).usable) ∙ e)

not-known : (r : Reading) (s : Setting) (q : Reading) → is_option s.name ≡ false → ¬ (Plausible (joined r (with_setting s q)))
not-known r s q e h = true≢false (sym ((good r s q h).known) ∙ e)

not-again : (r : Reading) (rows : List Row) (s : Setting) (row : Row) (q : Reading) → Keeps r rows → seek s.name rows ≡ Some row → ¬ (Plausible (joined r (with_setting s q)))
not-again r rows s row q keeps found h =
    let g = good r s q h in
    given-before r rows s.name row keeps g.known found g.first

-- the same for all readings of the words behind
each-rest : (s : Setting) (o : Option Reading) (r : Reading) → ((q : Reading) → ¬ (Plausible (joined r (with_setting s q)))) → (q : Reading) → option_map (with_setting s) o ≡ Some q
    → ¬ (Plausible (joined r q))
each-rest s None r h q e p = absurd cc
each-rest s (Some x) r h q e p =
    let same : with_setting s x ≡ q = cc in
    h x (subst (λ z. Plausible (joined r z)) (sym same) p)

-- ---- `--stars`

stars-word : (ws : List Text) → OpenRest ws → (r : Reading) (rows : List Row) (p : Option (Text × List Text)) → clash rows p ≡ [] → Keeps r (settled_rows rows p)
    → Means (codes "--stars" ∷ ws) None r (open_at r rows p)
unfolding walked
stars-word ws rest r rows p clean keeps = by_row (seek (codes "stars") (settled_rows rows p)) refl
  where
    now : List Row
    now = settled_rows rows p

    turn_is : (o : Option Row) → seek (codes "stars") now ≡ o → turn_fault shape [] (open_at r rows p) (codes "--stars") ≡ or_else (or_else [] (repeat o)) []
    turn_is o e = (λ i. or_else (or_else (clean i) ((flag-fault now ∙ ap repeat e) i)) [])

    walk_is : seek (codes "stars") now ≡ None → walked rules [] (open_at r rows p) (codes "--stars") ≡ open_at (and_setting r stars_setting) (now ++ use_row (codes "stars") None ∷ []) None
    walk_is e = ap (λ rs. open_at r rs None) (flag-rows now e)

    by_row : (o : Option Row) → seek (codes "stars") now ≡ o → Means (codes "--stars" ∷ ws) None r (open_at r rows p)
    by_row None e =
        taken-later (open_at r rows p) (open_at (and_setting r stars_setting) (now ++ use_row (codes "stars") None ∷ []) None) (codes "--stars") ws
        (option_map (with_setting stars_setting) (reading_behind ws None)) (reading_behind ws None) r (and_setting r stars_setting) (with_setting stars_setting)
        (turn_is None e) (walk_is e) refl (joined-setting r stars_setting)
        (rest (and_setting r stars_setting) (now ++ use_row (codes "stars") None ∷ []) None refl (keep-setting r now stars_setting keeps refl refl e))
    by_row (Some row) e =
        refused-now (open_at r rows p) (codes "--stars") ws (option_map (with_setting stars_setting) (reading_behind ws None)) r
        (λ f. some-kind kind.ArgumentConflict [] (sym (turn_is (Some row) e) ∙ f))
        (each-rest stars_setting (reading_behind ws None) r (λ q. not-again r now stars_setting row q keeps e))

-- ---- `--name=value`

attached-word : (ws : List Text) → OpenRest ws → (r : Reading) (rows : List Row) (p : Option (Text × List Text)) → clash rows p ≡ [] → Keeps r (settled_rows rows p)
    → (x : ℕ) (xs n v : Text) → kind_of (45 ∷ 45 ∷ x ∷ xs) ≡ whole (given_as n v) → name_and_value (x ∷ xs) ≡ (n, Some v) → Known n → Means ((45 ∷ 45 ∷ x ∷ xs) ∷ ws) None r (open_at r rows p)
attached-word ws rest r rows p clean keeps x xs n v kind_is cut knows = by_name knows
  where
    word : Text
    word = 45 ∷ 45 ∷ x ∷ xs

    now : List Row
    now = settled_rows rows p

    s : Setting
    s = given_as n v

    behind : Option Reading
    behind = reading_behind ws None

    reads : reading_behind (word ∷ ws) None ≡ option_map (with_setting s) behind
    reads = ap (λ k. read_kind k word ws (reading_behind ws)) kind_is

    refuses : ¬ (turn_fault shape [] (open_at r rows p) word ≡ []) → ((q : Reading) → ¬ (Plausible (joined r (with_setting s q)))) → Means (word ∷ ws) None r (open_at r rows p)
    refuses fails means =
        subst (λ o. Answer (open_at r rows p) (word ∷ ws) o r) (sym reads)
        (refused-now (open_at r rows p) word ws (option_map (with_setting s) behind) r fails (each-rest s behind r means))

    turn_is : arg_by_long rules n ≡ Some (single_option n) → (o : Option Row) → seek n now ≡ o → turn_fault shape [] (open_at r rows p) word ≡ or_else (or_else [] (repeat o)) []
    turn_is found o e =
        long-turn rows p (place_of r) x xs (n, Some v) (Some (single_option n)) cut found
        ∙ (λ i. or_else (or_else (clean i) ((single-fault n (Some n) None v now ∙ ap repeat e) i)) [])

    by_row : is_option n ≡ true → bytes_eq n (codes "stars") ≡ false → arg_by_long rules n ≡ Some (single_option n) → (o : Option Row) → seek n now ≡ o → Means (word ∷ ws) None r (open_at r rows p)
    by_row is other found None e =
        taken-later (open_at r rows p) (open_at (and_setting r s) (now ++ use_row n (Some v) ∷ []) None) word ws (reading_behind (word ∷ ws) None) behind r (and_setting r s) (with_setting s)
        (turn_is found None e)
        (long-walk rows p (place_of r) x xs (n, Some v) (Some (single_option n)) cut found ∙ ap (λ rs. open_at r rs None) (single-rows n (Some n) None v now e))
        reads (joined-setting r s)
        (rest (and_setting r s) (now ++ use_row n (Some v) ∷ []) None refl (keep-setting r now s keeps is (sym (ap not other)) e))
    by_row is other found (Some row) e =
        refuses (λ f. some-kind kind.ArgumentConflict [] (sym (turn_is found (Some row) e) ∙ f)) (λ q. not-again r now s row q keeps e)

    by_name : Known n → Means (word ∷ ws) None r (open_at r rows p)
    by_name (valued is other found id) = by_row is other found (seek n now) refl
    by_name (starred e) =
        refuses (λ f. some-kind kind.TooManyValues [] (sym (long-turn rows p (place_of r) x xs (n, Some v) (Some flag) cut (ap (arg_by_long rules) e)) ∙ f))
        (λ q. not-usable r s q (ap (λ m. usable m (Some v)) e))
    by_name (unknown is found) =
        refuses (λ f. some-kind kind.UnknownArgument [] (sym (long-turn rows p (place_of r) x xs (n, Some v) None cut found) ∙ f)) (λ q. not-known r s q is)

-- ---- `--name`, before its value

waits-word : (ws : List Text) → WaitingRest ws → (r : Reading) (rows : List Row) (p : Option (Text × List Text)) → clash rows p ≡ [] → Keeps r (settled_rows rows p)
    → (x : ℕ) (xs : Text) → kind_of (45 ∷ 45 ∷ x ∷ xs) ≡ awaiting (x ∷ xs) → name_and_value (x ∷ xs) ≡ (x ∷ xs, None) → bytes_eq (x ∷ xs) (codes "stars") ≡ false
    → Known (x ∷ xs) → Means ((45 ∷ 45 ∷ x ∷ xs) ∷ ws) None r (open_at r rows p)
waits-word ws rest r rows p clean keeps x xs kind_is cut other knows = by_name knows
  where
    word : Text
    word = 45 ∷ 45 ∷ x ∷ xs

    n : Text
    n = x ∷ xs

    behind : Option Reading
    behind = reading_behind ws (Some n)

    reads : reading_behind (word ∷ ws) None ≡ behind
    reads = ap (λ k. read_kind k word ws (reading_behind ws)) kind_is

    by_name : Known n → Means (word ∷ ws) None r (open_at r rows p)
    by_name (valued is starless found id) =
        taken-later (open_at r rows p) (waiting_at n r (settled_rows rows p)) word ws (reading_behind (word ∷ ws) None) behind r r (λ q. q)
        (long-turn rows p (place_of r) x xs (n, None) (Some (single_option n)) cut found ∙ ap (λ k. or_else k []) clean)
        (long-walk rows p (place_of r) x xs (n, None) (Some (single_option n)) cut found)
        (reads ∙ id-map behind) (λ q. refl)
        (rest n (record { known = is; valued = starless; found = id }) r (settled_rows rows p) keeps)
    by_name (starred e) = absurd (true≢false (sym (ap (λ m. bytes_eq m (codes "stars")) e) ∙ other))
    by_name (unknown is found) =
        subst (λ o. Answer (open_at r rows p) (word ∷ ws) o r) (sym reads)
        (refused-now (open_at r rows p) word ws behind r (λ f. some-kind kind.UnknownArgument [] (sym (long-turn rows p (place_of r) x xs (n, None) None cut found) ∙ f)) means)
      where
        means : (q : Reading) → behind ≡ Some q → ¬ (Plausible (joined r q))
        means q e h =
            let given = awaited ws n q e in
            not-known r (given_as n given.0) given.1 is (subst (λ z. Plausible (joined r z)) given.2 h)

-- ---- a plain word

bare-word : (ws : List Text) → OpenRest ws → (r : Reading) (rows : List Row) (p : Option (Text × List Text)) → clash rows p ≡ [] → Keeps r (settled_rows rows p) → (w : Text)
    → kind_of w ≡ plain → (turn_fault shape [] (open_at r rows p) w ≡ step_fault shape (place_of r) (hold rows p) value)
    → (walked rules [] (open_at r rows p) w ≡ after_step rules w (open_at r rows p) (hold rows p) value) → Means (w ∷ ws) None r (open_at r rows p)
bare-word ws rest r rows p clean keeps w kind_is turn_is walk_is = by_place (placed r.plains r.settings rows p w idle false clean keeps)
  where
    behind : Option Reading
    behind = reading_behind ws None

    reads : reading_behind (w ∷ ws) None ≡ option_map (with_plain w) behind
    reads = ap (λ k. read_kind k w ws (reading_behind ws)) kind_is

    by_place : (¬ (step_fault shape (place_of r) (hold rows p) value ≡ []) × (2 ≤ length r.plains)) ⊎ TakesPlace r rows p w idle false → Means (w ∷ ws) None r (open_at r rows p)
    by_place (inl stray) =
        refused-now (open_at r rows p) w ws (reading_behind (w ∷ ws) None) r (λ f. stray.0 (sym turn_is ∙ f))
        (λ q e h. let found = mapped-some (with_plain w) behind q (sym reads ∙ e) in too-many r w found.0 stray.1 (subst (λ z. Plausible (joined r z)) found.2 h))
    by_place (inr t) =
        taken-later (open_at r rows p) (open_at (and_plain r w) (settled_rows rows p) (Some (t.id, w ∷ []))) w ws (reading_behind (w ∷ ws) None) behind r (and_plain r w) (with_plain w)
        (turn_is ∙ t.passes) (walk_is ∙ t.walk) reads (joined-plain r w) (rest (and_plain r w) (settled_rows rows p) (Some (t.id, w ∷ [])) t.clean t.keeps)

-- ---- `-x`

short-kind : (x : ℕ) (xs : Text) → (x == 45) ≡ false → kind_of (45 ∷ x ∷ xs) ≡ meaningless
short-kind x xs e =
    let f = eq-swap x 45 e in
    let long : nat_lt 1 (suc (suc (length xs))) ≡ true = grind (arith, nat_tests) in
    rw (e, f, long) refl

-- ---- a word where no option waits

open-word : (w : Text) (ws : List Text) → IsUtf8 w → OpenRest ws → WaitingRest ws → (r : Reading) (rows : List Row) (p : Option (Text × List Text)) → clash rows p ≡ []
    → Keeps r (settled_rows rows p) → View w → Means (w ∷ ws) None r (open_at r rows p)
open-word w ws u opens waits_then r rows p clean keeps (dashes e) =
    subst (λ v. Means (v ∷ ws) None r (open_at r rows p)) (sym e)
    (taken-later (open_at r rows p) (at rows p idle (place_of r) true) (45 ∷ 45 ∷ []) ws (Some (record { plains = ws; settings = [] })) (Some (record { plains = ws; settings = [] })) r r (λ q. q)
    (dashes-turn rows p (place_of r)) (dashes-walk rows p (place_of r)) refl (λ q. refl) (tail ws r rows p idle clean keeps))
open-word w ws u opens waits_then r rows p clean keeps (short x xs f e) =
    subst (λ v. Means (v ∷ ws) None r (open_at r rows p)) (sym e)
    (refused-now (open_at r rows p) (45 ∷ x ∷ xs) ws (reading_behind ((45 ∷ x ∷ xs) ∷ ws) None) r (short-fails rows p x xs (place_of r) (subst IsUtf8 e u) f)
    (λ q is h. let none : None ≡ Some q = sym (ap (λ k. read_kind k (45 ∷ x ∷ xs) ws (reading_behind ws)) (short-kind x xs f)) ∙ is in absurd cc))
open-word w ws u opens waits_then r rows p clean keeps (bare k l s d) =
    let turn = bare-turn rows p (place_of r) w l s d in
    bare-word ws opens r rows p clean keeps w k turn.0 turn.1
open-word w ws u opens waits_then r rows p clean keeps (long x xs e) = subst (λ v. Means (v ∷ ws) None r (open_at r rows p)) (sym e) (by_form (long-form x xs))
  where
    by_form : Long (x ∷ xs) → Means ((45 ∷ 45 ∷ x ∷ xs) ∷ ws) None r (open_at r rows p)
    by_form (flagged is) = subst (λ t. Means ((45 ∷ 45 ∷ t) ∷ ws) None r (open_at r rows p)) (sym is) (stars-word ws opens r rows p clean keeps)
    by_form (attached n v kind_is cut) = attached-word ws opens r rows p clean keeps x xs n v kind_is cut (known n)
    by_form (waits kind_is cut other) = waits-word ws waits_then r rows p clean keeps x xs kind_is cut other (known (x ∷ xs))

-- ---- a word where an option waits for its value

waiting-word : (w : Text) (ws : List Text) → IsUtf8 w → AllText ws → OpenRest ws → (n : Text) → CanWait n → (r : Reading) (rows : List Row) → Keeps r rows → View w
    → Means (w ∷ ws) (Some n) r (waiting_at n r rows)
waiting-word w ws u us opens n can r rows keeps form = by_form form
  where
    waiting : Walk
    waiting = waiting_at n r rows

    behind : Option Reading
    behind = reading_behind ws None

    stuck : ¬ (clash rows (Some (n, [])) ≡ [])
    stuck = waiting-clash n (Some n) None can.found rows

    -- a value that begins with a dash
    led : (xs : Text) → ¬ (end_fault waiting ((45 ∷ xs) ∷ ws) ≡ []) → Means ((45 ∷ xs) ∷ ws) (Some n) r waiting
    led xs fails =
        refused fails (each-rest (given_as n (45 ∷ xs)) behind r (λ q. not-usable r (given_as n (45 ∷ xs)) q (λ i. not (can.valued i) && false)))

    by_row : (turn_fault shape [] waiting w ≡ []) × (walked rules [] waiting w ≡ open_at r rows (Some (n, w ∷ []))) → (o : Option Row) → seek n rows ≡ o → Means (w ∷ ws) (Some n) r waiting
    by_row turn None e =
        let s = given_as n w in
        let now = settled_rows rows (Some (n, w ∷ [])) in
        taken-later waiting (open_at r rows (Some (n, w ∷ []))) w ws (option_map (with_setting s) behind) behind r (and_setting r s) (with_setting s) turn.0 turn.1 refl (joined-setting r s)
        (opens (and_setting r s) rows (Some (n, w ∷ [])) (value-clash n (Some n) None can.found rows w ∙ ap repeat e)
        (subst (Keeps (and_setting r s)) (sym (value-rows n (Some n) None can.found rows w e)) (keep-setting r rows s keeps can.known (sym (ap not can.valued)) e)))
    by_row turn (Some row) e =
        let again : ¬ (clash rows (Some (n, w ∷ [])) ≡ []) = λ f. some-kind kind.ArgumentConflict [] (sym (value-clash n (Some n) None can.found rows w ∙ ap repeat e) ∙ f) in
        refused (fails-later waiting (open_at r rows (Some (n, w ∷ []))) w ws turn.0 turn.1 (doomed ws us rows (Some (n, w ∷ [])) (place_of r) again))
        (each-rest (given_as n w) behind r (λ q. not-again r rows (given_as n w) row q keeps e))

    by_form : View w → Means (w ∷ ws) (Some n) r waiting
    by_form (dashes e) =
        subst (λ v. Means (v ∷ ws) (Some n) r waiting) (sym e)
        (led (45 ∷ []) (fails-later waiting (at rows (Some (n, [])) (waiting_for n) (place_of r) true) (45 ∷ 45 ∷ []) ws (dashes-turn-waiting n rows (place_of r)) (dashes-walk-waiting n rows (place_of r))
        (doomed-tail ws rows (Some (n, [])) (waiting_for n) (place_of r) stuck)))
    by_form (long x xs e) =
        let nv = name_and_value (x ∷ xs) in
        let found = arg_by_long rules nv.0 in
        subst (λ v. Means (v ∷ ws) (Some n) r waiting) (sym e)
        (led (45 ∷ x ∷ xs) (fails-now waiting (45 ∷ 45 ∷ x ∷ xs) ws (fails-first (long_fault rules false found nv.1 (hold rows (Some (n, [])))) _ (long-clash found nv.1 rows (Some (n, [])) stuck))))
    by_form (short x xs f e) =
        subst (λ v. Means (v ∷ ws) (Some n) r waiting) (sym e)
        (led (x ∷ xs) (fails-now waiting (45 ∷ x ∷ xs) ws (short-fails-waiting rows (Some (n, [])) x xs n (place_of r) (subst IsUtf8 e u) f)))
    by_form (bare k l s d) = by_row (value-turn rows n (place_of r) w l s d can.found) (seek n rows) refl

-- ---- all words

abbrev At : Option Text → Reading → List Row → Option (Text × List Text) → Walk
At None r rows p = open_at r rows p
At (Some n) r rows p = waiting_at n r rows

abbrev Stands : Option Text → Reading → List Row → Option (Text × List Text) → Type 0
Stands None r rows p = (clash rows p ≡ []) × Keeps r (settled_rows rows p)
Stands (Some n) r rows p = CanWait n × Keeps r rows

pub all-words : (words : List Text) → AllText words → (wait : Option Text) (r : Reading) (rows : List Row) (p : Option (Text × List Text)) → Stands wait r rows p → Means words wait r (At wait r rows p)
unfolding walk_fault
all-words [] us None r rows p s =
    taken (record { plains = []; settings = [] }) refl rows p refl refl s.0 (subst (λ z. Keeps z (settled_rows rows p)) (sym (joined-nothing r)) s.1)
all-words [] us (Some n) r rows p s = refused (waiting-clash n (Some n) None s.0.found rows) (λ q e h. absurd cc)
all-words (w ∷ ws) us None r rows p s =
    open-word w ws us.0 (λ r' rows' p' clean keeps. all-words ws us.1 None r' rows' p' (clean, keeps)) (λ n can r' rows' keeps. all-words ws us.1 (Some n) r' rows' None (can, keeps))
    r rows p s.0 s.1 (view w)
all-words (w ∷ ws) us (Some n) r rows p s =
    waiting-word w ws us.0 us.1 (λ r' rows' p' clean keeps. all-words ws us.1 None r' rows' p' (clean, keeps)) n s.0 r rows s.1 (view w)
