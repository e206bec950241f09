-- What every reading has that means a command. It is what `clap` asks of words, and less than the rules ask.
use Rattle.std.proofs.Common.{◌≡◌, ◌∙◌, ◌&&◌, ◌||◌, ◌==◌, ◌≤◌, ℕ, Bool, cond, not, true, false, true≢false, List, [], ◌∷◌, ◌++◌, codes, length, nat_le, nat_lt, Option, Some, None, refl, sym, ap, ap₂, subst, arith, eqb-true}
use Rattle.std.specs.Prelude.{option_map, option_and_then}
use Rattle.std.specs.Str.{bytes_eq}
use Rattle.std.specs.Str.Parse.{digits_value}
use Rattle.std.proofs.lemmas.List.Folds.{list_all-append}
use Rattle.clap.proofs.WalkLemmas.{both}
use Rattle.ntfe_words.specs.CommandLine.{Text, Setting, Reading, AreOptions, IsMeaningOf, have_names, is_demo_option, is_option, limit_read, number, push_named, reading_behind, setting_of, stars_read, values_of, with_setting}
use Rattle.ntfe_words.specs.declared.command.Command.{Command}
use Rattle.ntfe_words.specs.declared.command.Command.TheVariants.{Classes, Resume, Faces, Demo}
use Rattle.ntfe_words.specs.declared.command.Options.{Options}
use Rattle.ntfe_words.proofs.Rows.{eq_self, same_text, values-append, value-first, value-other}

-- the text begins with a dash
abbrev pub is_led : Text → Bool
is_led [] = false
is_led (x ∷ xs) = x == 45

-- an option may be given so: `stars` without a value, and the others with one that begins with no dash
abbrev pub usable : Text → Option Text → Bool
usable n None = bytes_eq n (codes "stars")
usable n (Some v) = not (bytes_eq n (codes "stars")) && not (is_led v)

-- the option is given so, and once at most
abbrev pub fits : Text → List (Option Text) → Bool
fits n [] = true
fits n (v ∷ []) = usable n v
fits n (v ∷ again ∷ vs) = false

pub record Plausible (r : Reading) : Type 0 where
  pub known : have_names is_option r.settings ≡ true
  pub fitting : (n : Text) → is_option n ≡ true → fits n (values_of n r.settings) ≡ true
  pub few : length r.plains ≤ 2

-- one reading behind another
abbrev pub joined : Reading → Reading → Reading
joined front back = record { plains = front.plains ++ back.plains; settings = front.settings ++ back.settings }

-- ---- the five options

pub each_option : (P : Text → Type 0) → P (codes "workers") → P (codes "limit") → P (codes "width") → P (codes "push") → P (codes "stars") → (n : Text) → is_option n ≡ true → P n
each_option P w l i p s n is = go (bytes_eq n (codes "workers")) (bytes_eq n (codes "width")) (bytes_eq n (codes "limit")) (bytes_eq n (codes "push")) (bytes_eq n (codes "stars")) refl refl refl refl refl is
  where
    of : (m : Text) → P m → bytes_eq n m ≡ true → P n
    of m h e = subst P (sym (same_text n m e)) h

    go : (a b c d e : Bool) → bytes_eq n (codes "workers") ≡ a → bytes_eq n (codes "width") ≡ b → bytes_eq n (codes "limit") ≡ c → bytes_eq n (codes "push") ≡ d → bytes_eq n (codes "stars") ≡ e
        → is_option n ≡ true → P n
    go true b c d e ae be ce de ee t = of _ w ae
    go false true c d e ae be ce de ee t = of _ i be
    go false false true d e ae be ce de ee t = of _ l ce
    go false false false true e ae be ce de ee t = of _ p de
    go false false false false true ae be ce de ee t = of _ s ee
    go false false false false false ae be ce de ee t = absurd (true≢false (sym t ∙ (λ k. (ae k || be k) || (ce k || (de k || ee k)))))

-- no option of another name
pub none-named : (p : Text → Bool) (n : Text) (ss : List Setting) → have_names p ss ≡ true → p n ≡ false → values_of n ss ≡ []
none-named p n [] all not_n = refl
none-named p n (s ∷ ss) all not_n =
    let parts = both (p s.name) (have_names p ss) all in
    go parts.0 (none-named p n ss parts.1 not_n) (bytes_eq s.name n) refl
  where
    go : p s.name ≡ true → values_of n ss ≡ [] → (b : Bool) → bytes_eq s.name n ≡ b → values_of n (s ∷ ss) ≡ []
    go known rest true e = absurd (true≢false (sym known ∙ ap p (same_text s.name n e) ∙ not_n))
    go known rest false e = value-other n s ss e ∙ rest

pub demo-known : (ss : List Setting) → have_names is_demo_option ss ≡ true → have_names is_option ss ≡ true
demo-known [] all = refl
demo-known (s ∷ ss) all =
    let parts = both (is_demo_option s.name) (have_names is_demo_option ss) all in
    let more = bytes_eq s.name (codes "limit") || (bytes_eq s.name (codes "push") || bytes_eq s.name (codes "stars")) in
    ap₂ (λ a b. (a || more) && b) parts.0 (demo-known ss parts.1)

-- ---- a meaning is plausible

module _ {X : Type 0} where
  fits-read : (n : Text) (default : X) (read : Option Text → Option X) (vs : List (Option Text)) (x : X) → ((v : Option Text) (y : X) → read v ≡ Some y → usable n v ≡ true)
      → setting_of default read vs ≡ Some x → fits n vs ≡ true
  fits-read n default read [] x h e = refl
  fits-read n default read (v ∷ []) x h e = h v x e
  fits-read n default read (v ∷ again ∷ vs) x h e = absurd cc

  -- a text that begins with a dash is not read
  read-usable : (n : Text) (read : Text → Option X) → bytes_eq n (codes "stars") ≡ false → ((xs : Text) → read (45 ∷ xs) ≡ None) → (v : Option Text) (y : X)
      → option_and_then read v ≡ Some y → usable n v ≡ true
  read-usable n read other led None y e = absurd cc
  read-usable n read other led (Some []) y e = rw other refl
  read-usable n read other led (Some (x ∷ xs)) y e = go (x == 45) refl
    where
      go : (b : Bool) → (x == 45) ≡ b → usable n (Some (x ∷ xs)) ≡ true
      go false f = (λ k. not (other k) && not (f k))
      go true f =
          let bad : Some y ≡ None = sym e ∙ ap (λ z. read (z ∷ xs)) (eqb-true _ _ f) ∙ led xs in
          absurd cc

number-led : (low high : ℕ) (xs : Text) → number low high (45 ∷ xs) ≡ None
number-led low high xs = go (nat_lt 0 (length (45 ∷ xs))) (nat_le (length (45 ∷ xs)) 10) (nat_le low (digits_value 10 (45 ∷ xs)) && nat_le (digits_value 10 (45 ∷ xs)) high) (digits_value 10 (45 ∷ xs))
  where
    go : (a b c : Bool) (value : ℕ) → cond ((a && (b && false)) && c) (Some value) None ≡ None
    go false b c value = refl
    go true false c value = refl
    go true true c value = refl

pub mapped-some : {X Y : Type 0} (f : X → Y) (o : Option X) (y : Y) → option_map f o ≡ Some y → (x : X) × (o ≡ Some x) × (y ≡ f x)
mapped-some f None y e = absurd cc
mapped-some f (Some x) y e = (x, refl, cc)

fits-limit : (v : Option Text) (y : Option ℕ) → limit_read v ≡ Some y → usable (codes "limit") v ≡ true
fits-limit v y e =
    let found = mapped-some Some (option_and_then (number 0 4294967295) v) y e in
    read-usable (codes "limit") (number 0 4294967295) refl (number-led 0 4294967295) v found.0 found.1

fits-stars : (v : Option Text) (y : Bool) → stars_read v ≡ Some y → usable (codes "stars") v ≡ true
fits-stars None y e = refl
fits-stars (Some v) y e = absurd cc

fits-number : (n : Text) (default low high x : ℕ) (ss : List Setting) → bytes_eq n (codes "stars") ≡ false
    → setting_of default (option_and_then (number low high)) (values_of n ss) ≡ Some x → fits n (values_of n ss) ≡ true
fits-number n default low high x ss other e = fits-read n default (option_and_then (number low high)) (values_of n ss) x (read-usable n (number low high) other (number-led low high)) e

options-plausible : (r : Reading) (o : Options) → AreOptions r.settings o → length r.plains ≤ 2 → Plausible r
options-plausible r o are few = record {
  known = are.known;
  fitting = each_option (λ n. fits n (values_of n r.settings) ≡ true)
      (fits-number (codes "workers") 1 1 16 o.workers r.settings refl are.workers)
      (fits-read (codes "limit") None limit_read (values_of (codes "limit") r.settings) o.limit fits-limit are.limit)
      (fits-number (codes "width") 62 1 62 o.width r.settings refl are.width)
      (fits-read (codes "push") _ (option_and_then push_named) (values_of (codes "push") r.settings) o.push (read-usable (codes "push") push_named refl (λ xs. refl)) are.push)
      (fits-read (codes "stars") false stars_read (values_of (codes "stars") r.settings) o.stars fits-stars are.stars);
  few = few;
}

few-of : (r : Reading) (ps : List Text) → r.plains ≡ ps → length ps ≤ 2 → length r.plains ≤ 2
few-of r ps e h = subst (λ xs. length xs ≤ 2) (sym e) h

pub means-plausible : (r : Reading) (c : Command) → IsMeaningOf r c → Plausible r
means-plausible r (Classes o) m = options-plausible r o m.1 (few-of r _ m.0 (omega arith))
means-plausible r (Resume o) m = options-plausible r o m.1 (few-of r _ m.0 (omega arith))
means-plausible r Faces m = record {
  known = ap (have_names is_option) m.1;
  fitting = λ n is. ap (λ ss. fits n (values_of n ss)) m.1;
  few = few-of r _ m.0 (omega arith);
}
means-plausible r (Demo n workers width) m = record {
  known = demo-known r.settings m.known;
  fitting = each_option (λ n. fits n (values_of n r.settings) ≡ true)
      (fits-number (codes "workers") 1 1 16 workers r.settings refl m.workers_is)
      (ap (fits (codes "limit")) (none-named is_demo_option (codes "limit") r.settings m.known refl))
      (fits-number (codes "width") 62 1 62 width r.settings refl m.width_is)
      (ap (fits (codes "push")) (none-named is_demo_option (codes "push") r.settings m.known refl))
      (ap (fits (codes "stars")) (none-named is_demo_option (codes "stars") r.settings m.known refl));
  few = few-of r _ m.plains (omega arith);
}

-- ---- one option of a plausible reading

fits-lone : (n : Text) (xs : List (Option Text)) (v : Option Text) (ys : List (Option Text)) → fits n (xs ++ v ∷ ys) ≡ true → (xs ≡ []) × (usable n v ≡ true)
fits-lone n [] v [] e = (refl, e)
fits-lone n [] v (y ∷ ys) e = absurd (true≢false (sym e))
fits-lone n (x ∷ []) v ys e = absurd (true≢false (sym e))
fits-lone n (x ∷ z ∷ xs) v ys e = absurd (true≢false (sym e))

pub record IsGood (r : Reading) (s : Setting) : Type 0 where
  pub known : is_option s.name ≡ true
  pub first : values_of s.name r.settings ≡ []
  pub usable : usable s.name s.value ≡ true

pub good : (r : Reading) (s : Setting) (q : Reading) → Plausible (joined r (with_setting s q)) → IsGood r s
good r s q p =
    let name_known = both (is_option s.name) (have_names is_option q.settings) ((both (have_names is_option r.settings) (have_names is_option (s ∷ q.settings))
    (sym (list_all-append (λ (x : Setting). is_option x.name) r.settings (s ∷ q.settings)) ∙ p.known)).1) in
    let values_are : values_of s.name (r.settings ++ s ∷ q.settings) ≡ values_of s.name r.settings ++ s.value ∷ values_of s.name q.settings =
    values-append s.name r.settings (s ∷ q.settings) ∙ ap (λ v. values_of s.name r.settings ++ v) (value-first s.name s q.settings (eq_self s.name)) in
    let lone = fits-lone s.name (values_of s.name r.settings) s.value (values_of s.name q.settings) (ap (fits s.name) (sym values_are) ∙ p.fitting s.name name_known.0) in
    record { known = name_known.0; first = lone.0; usable = lone.1 }

-- an option that waits for its value is given with one
pub awaited : (words : List Text) (n : Text) (q : Reading) → reading_behind words (Some n) ≡ Some q
    → (w : Text) × (rest : Reading) × (q ≡ with_setting (record { name = n; value = Some w }) rest)
awaited [] n q e = absurd cc
awaited (w ∷ words) n q e =
    let found = mapped-some (with_setting (record { name = n; value = Some w })) (reading_behind words None) q e in
    (w, found.0, found.2)
