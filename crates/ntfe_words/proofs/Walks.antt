-- The walk of `clap` over the words and their reading by the rules. Where `clap` takes the words, it finds what the rules read; where it does not, the words have no meaning.
use Rattle.std.proofs.Common.{◌≡◌, ◌∙◌, ◌≤◌, ◌⊎◌, inl, inr, ℕ, true, false, List, [], ◌∷◌, ◌++◌, length, Option, Some, None, refl, sym, ap, ap₂, subst, arith, append_assoc, append-nil}
use Rattle.std.specs.Prelude.{⊤, option_map, fold}
use Rattle.std.specs.Str.{IsUtf8}
use Rattle.std.proofs.lemmas.List.{length-append}
use Rattle.clap.specs.Lexer.{name_and_value}
use Rattle.clap.specs.Walk.{Row, Waiting, Walk, arg_by_long, idle, value, walked}
use Rattle.clap.specs.Walk.{option as waiting_for}
use Rattle.clap.specs.Faults.{long_fault, settle_fault, step_fault, turn_fault, walk_fault}
use Rattle.clap.specs.Kinds.{Kinds, or_else}
use Rattle.ntfe_words.specs.CommandLine.{Text, Setting, Reading, with_plain, with_setting}
use Rattle.ntfe_words.proofs.Grammar.{rules, shape}
use Rattle.ntfe_words.proofs.Forms.{View, bare, dashes, long, short, view}
use Rattle.ntfe_words.proofs.Plausible.{Plausible, joined, mapped-some}
use Rattle.ntfe_words.proofs.Turns.{at, bare-turn, clash, fails-first, hold, long-clash, place-clash, settled_rows, short-fails}
use Rattle.ntfe_words.proofs.Held.{Keeps, TakesPlace, and_plain, and_setting, place_of, placed}

abbrev pub AllText : List Text → Type 0
AllText [] = ⊤
AllText (w ∷ ws) = IsUtf8 w × AllText ws

abbrev pub walk_over : Walk → List Text → Walk
walk_over w words = fold (walked rules []) w words

-- where the walk fails, or the use that is under way at its end
abbrev pub end_fault : Walk → List Text → Kinds
end_fault w words = or_else (walk_fault shape [] w words) (settle_fault rules false (walk_over w words).held)

-- ---- a walk fails where what is under way is refused

pub doomed-tail : (words : List Text) (rows : List Row) (p : Option (Text × List Text)) (wt : Waiting) (place : ℕ) → ¬ (clash rows p ≡ []) → ¬ (end_fault (at rows p wt place true) words ≡ [])
unfolding walk_fault
doomed-tail [] rows p wt place h = h
doomed-tail (w ∷ ws) rows p wt place h =
    let turn = step_fault shape place (hold rows p) value in
    let after = walked rules [] (at rows p wt place true) w in
    fails-first (or_else turn (walk_fault shape [] after ws)) (settle_fault rules false (walk_over after ws).held) (fails-first turn (walk_fault shape [] after ws) (place-clash rows p place h))

pub fails-now : (w : Walk) (word : Text) (words : List Text) → ¬ (turn_fault shape [] w word ≡ []) → ¬ (end_fault w (word ∷ words) ≡ [])
unfolding walk_fault
fails-now w word words h =
    let turn = turn_fault shape [] w word in
    let after = walked rules [] w word in
    fails-first (or_else turn (walk_fault shape [] after words)) (settle_fault rules false (walk_over after words).held) (fails-first turn (walk_fault shape [] after words) h)

pub fails-later : (w after : Walk) (word : Text) (words : List Text) → turn_fault shape [] w word ≡ [] → walked rules [] w word ≡ after → ¬ (end_fault after words ≡ []) → ¬ (end_fault w (word ∷ words) ≡ [])
unfolding walk_fault
fails-later w after word words turn next h e =
    h (sym (ap₂ (λ t v. or_else (or_else t (walk_fault shape [] v words)) (settle_fault rules false (walk_over v words).held)) turn next) ∙ e)

pub dashes-turn : (rows : List Row) (p : Option (Text × List Text)) (place : ℕ) → turn_fault shape [] (at rows p idle place false) (45 ∷ 45 ∷ []) ≡ []
dashes-turn rows p place = refl

pub dashes-walk : (rows : List Row) (p : Option (Text × List Text)) (place : ℕ) → walked rules [] (at rows p idle place false) (45 ∷ 45 ∷ []) ≡ at rows p idle place true
unfolding walked
dashes-walk rows p place = refl

-- the same where an option waits
pub dashes-turn-waiting : (n : Text) (rows : List Row) (place : ℕ) → turn_fault shape [] (at rows (Some (n, [])) (waiting_for n) place false) (45 ∷ 45 ∷ []) ≡ []
dashes-turn-waiting n rows place = refl

pub dashes-walk-waiting : (n : Text) (rows : List Row) (place : ℕ) → walked rules [] (at rows (Some (n, [])) (waiting_for n) place false) (45 ∷ 45 ∷ []) ≡ at rows (Some (n, [])) (waiting_for n) place true
unfolding walked
dashes-walk-waiting n rows place = refl

pub doomed : (words : List Text) → AllText words → (rows : List Row) (p : Option (Text × List Text)) (place : ℕ) → ¬ (clash rows p ≡ []) → ¬ (end_fault (at rows p idle place false) words ≡ [])
unfolding walk_fault
doomed [] t rows p place h = h
doomed (w ∷ ws) t rows p place h = by_form w t.0 (view w)
  where
    by_form : (w : Text) → IsUtf8 w → View w → ¬ (end_fault (at rows p idle place false) (w ∷ ws) ≡ [])
    by_form w u (dashes e) =
        subst (λ v. ¬ (end_fault (at rows p idle place false) (v ∷ ws) ≡ [])) (sym e)
        (fails-later (at rows p idle place false) (at rows p idle place true) (45 ∷ 45 ∷ []) ws (dashes-turn rows p place) (dashes-walk rows p place) (doomed-tail ws rows p idle place h))
    by_form w u (long x xs e) =
        let nv = name_and_value (x ∷ xs) in
        let found = arg_by_long rules nv.0 in
        subst (λ v. ¬ (end_fault (at rows p idle place false) (v ∷ ws) ≡ [])) (sym e)
        (fails-now (at rows p idle place false) (45 ∷ 45 ∷ x ∷ xs) ws (fails-first (long_fault rules false found nv.1 (hold rows p)) _ (long-clash found nv.1 rows p h)))
    by_form w u (short x xs f e) =
        subst (λ v. ¬ (end_fault (at rows p idle place false) (v ∷ ws) ≡ [])) (sym e)
        (fails-now (at rows p idle place false) (45 ∷ x ∷ xs) ws (short-fails rows p x xs place (subst IsUtf8 e u) f))
    by_form w u (bare k l s d) =
        fails-now (at rows p idle place false) w ws (λ e. place-clash rows p place h (sym ((bare-turn rows p place w l s d).0) ∙ e))

-- ---- what comes of a walk

-- the walk takes all words and finds what they give, or it fails and they give nothing plausible
pub data Answer (w : Walk) (words : List Text) (o : Option Reading) (r : Reading) : Type 0 where
  taken : (q : Reading) → o ≡ Some q → (rows : List Row) (p : Option (Text × List Text)) → (walk_over w words).held ≡ hold rows p → walk_fault shape [] w words ≡ [] → clash rows p ≡ []
      → Keeps (joined r q) (settled_rows rows p) → Answer w words o r
  refused : ¬ (end_fault w words ≡ []) → ((q : Reading) → o ≡ Some q → ¬ (Plausible (joined r q))) → Answer w words o r

pub taken-later : (w after : Walk) (word : Text) (words : List Text) (o o' : Option Reading) (r r' : Reading) (f : Reading → Reading) → turn_fault shape [] w word ≡ [] → walked rules [] w word ≡ after
    → o ≡ option_map f o' → ((q : Reading) → joined r (f q) ≡ joined r' q) → Answer after words o' r' → Answer w (word ∷ words) o r
unfolding walk_fault
taken-later w after word words o o' r r' f turn next reads same (taken q e rows p held passes clean keeps) =
    taken (f q) (reads ∙ ap (option_map f) e) rows p (ap (λ v. (walk_over v words).held) next ∙ held) (ap₂ (λ t v. or_else t (walk_fault shape [] v words)) turn next ∙ passes) clean
    (subst (λ z. Keeps z (settled_rows rows p)) (sym (same q)) keeps)
taken-later w after word words o o' r r' f turn next reads same (refused fails means) =
    refused (fails-later w after word words turn next fails)
    (λ q e h. let found = mapped-some f o' q (sym reads ∙ e) in means found.0 found.1 (subst Plausible (ap (joined r) found.2 ∙ same found.0) h))

pub refused-now : (w : Walk) (word : Text) (words : List Text) (o : Option Reading) (r : Reading) → ¬ (turn_fault shape [] w word ≡ [])
    → ((q : Reading) → o ≡ Some q → ¬ (Plausible (joined r q))) → Answer w (word ∷ words) o r
refused-now w word words o r fails means = refused (fails-now w word words fails) means

pub id-map : (o : Option Reading) → o ≡ option_map (λ q. q) o
id-map None = refl
id-map (Some q) = refl

pub joined-nothing : (r : Reading) → joined r (record { plains = []; settings = [] }) ≡ r
joined-nothing r = (λ i. record { plains = append-nil r.plains i; settings = append-nil r.settings i })

pub joined-setting : (r : Reading) (s : Setting) (q : Reading) → joined r (with_setting s q) ≡ joined (and_setting r s) q
joined-setting r s q = ap (λ ss. record { plains = r.plains ++ q.plains; settings = ss }) (sym (append_assoc r.settings (s ∷ []) q.settings))

pub joined-plain : (r : Reading) (w : Text) (q : Reading) → joined r (with_plain w q) ≡ joined (and_plain r w) q
joined-plain r w q = ap (λ ps. record { plains = ps; settings = r.settings ++ q.settings }) (sym (append_assoc r.plains (w ∷ []) q.plains))

pub too-many : (r : Reading) (w : Text) (q : Reading) → 2 ≤ length r.plains → ¬ (Plausible (joined r (with_plain w q)))
too-many r w q many h =
    let count = length-append r.plains (w ∷ q.plains) in
    let few = h.few in
    absurd (omega (arith, few, count, many))

-- ---- words that are all plain

pub tail : (words : List Text) (r : Reading) (rows : List Row) (p : Option (Text × List Text)) (wt : Waiting) → clash rows p ≡ [] → Keeps r (settled_rows rows p)
    → Answer (at rows p wt (place_of r) true) words (Some (record { plains = words; settings = [] })) r
unfolding walk_fault walked
tail [] r rows p wt clean keeps = taken (record { plains = []; settings = [] }) refl rows p refl refl clean (subst (λ z. Keeps z (settled_rows rows p)) (sym (joined-nothing r)) keeps)
tail (w ∷ ws) r rows p wt clean keeps = by_place (tail ws) (placed r.plains r.settings rows p w wt true clean keeps)
  where
    by_place : ((r' : Reading) (rows' : List Row) (p' : Option (Text × List Text)) (wt' : Waiting) → clash rows' p' ≡ [] → Keeps r' (settled_rows rows' p')
        → Answer (at rows' p' wt' (place_of r') true) ws (Some (record { plains = ws; settings = [] })) r')
        → (¬ (step_fault shape (place_of r) (hold rows p) value ≡ []) × (2 ≤ length r.plains)) ⊎ TakesPlace r rows p w wt true
        → Answer (at rows p wt (place_of r) true) (w ∷ ws) (Some (record { plains = w ∷ ws; settings = [] })) r
    by_place rest (inl stray) =
        refused-now (at rows p wt (place_of r) true) w ws (Some (record { plains = w ∷ ws; settings = [] })) r stray.0
        (λ q e h. too-many r w (record { plains = ws; settings = [] }) stray.1 (subst (λ z. Plausible (joined r z)) (sym (some_same q e)) h))
      where
        some_same : (q : Reading) → Some (record { plains = w ∷ ws; settings = [] }) ≡ Some q → record { plains = w ∷ ws; settings = [] } ≡ q
        some_same q e = cc
    by_place rest (inr t) =
        taken-later (at rows p wt (place_of r) true) (at (settled_rows rows p) (Some (t.id, w ∷ [])) idle (place_of (and_plain r w)) true) w ws (Some (record { plains = w ∷ ws; settings = [] })) (Some (record { plains = ws; settings = [] })) r (and_plain r w)
        (with_plain w) t.passes t.walk refl (joined-plain r w) (rest (and_plain r w) (settled_rows rows p) (Some (t.id, w ∷ [])) idle t.clean t.keeps)
