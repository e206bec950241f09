-- Rows of matches, and the values of options in a list.
use Rattle.std.proofs.Common.{◌≡◌, ◌∙◌, ◌||◌, Bool, cond, not, true, false, true≢false, List, [], ◌∷◌, ◌++◌, map, codes, Option, Some, None, is_some, refl, sym, ap, ap₂, subst, append-nil}
use Rattle.std.specs.Option.{option_or}
use Rattle.std.specs.List.{filter, find}
use Rattle.std.specs.Str.{bytes_eq}
use Rattle.std.proofs.lemmas.List.{map-append}
use Rattle.std.proofs.lemmas.List.Folds.{find-append}
use Rattle.std.proofs.lemmas.List.Elements.{filter-append}
use Rattle.std.proofs.lemmas.Slice.Eq.{bytes_eq-Decides}
use Rattle.clap.specs.Walk.{Row, at_row, has_row, more_values, with_values, without}
use Rattle.clap.specs.declared.parser.matches.ValueSource.TheVariants.{CommandLine}
use Rattle.clap.specs.declared.builder.value_parser.Reading.TheVariants as reading
use Rattle.ntfe_words.specs.CommandLine.{Text, Setting, values_of}

-- the first row of an id
abbrev pub seek : Text → List Row → Option Row
seek id rows = find (λ r. bytes_eq r.id id) rows

abbrev pub texts_of : Option Text → List Text
texts_of None = codes "true" ∷ []
texts_of (Some text) = text ∷ []

-- the row of one use
abbrev pub use_row : Text → Option Text → Row
use_row id value = record { id = id; values = texts_of value; count = None; source = Some CommandLine; reading = reading.AsWritten }

some_none : {X : Type 0} (x : X) → Some x ≡ None → ⊥
some_none x e = cc

pub same_text : (a b : Text) → bytes_eq a b ≡ true → a ≡ b
same_text a b e = (bytes_eq-Decides a b).0 e

pub eq_self : (a : Text) → bytes_eq a a ≡ true
eq_self a = (bytes_eq-Decides a a).1 refl

pub eq_swap : (a b : Text) → bytes_eq a b ≡ bytes_eq b a
eq_swap a b = go (bytes_eq a b) (bytes_eq b a) refl refl
  where
    go : (x y : Bool) → bytes_eq a b ≡ x → bytes_eq b a ≡ y → x ≡ y
    go true true e f = refl
    go false false e f = refl
    go true false e f = absurd (true≢false (sym ((bytes_eq-Decides b a).1 (sym (same_text a b e))) ∙ f))
    go false true e f = absurd (true≢false (sym ((bytes_eq-Decides a b).1 (sym (same_text b a f))) ∙ e))

-- ---- a use of an id that has no row

absent-next : (id : Text) (r : Row) (rs : List Row) (b : Bool) → cond b (Some r) (seek id rs) ≡ None → (b ≡ false) × (seek id rs ≡ None)
absent-next id r rs true e = absurd (some_none r e)
absent-next id r rs false e = (refl, e)

pub at-absent : (id : Text) (change : Row → List Row) (more rows : List Row) → seek id rows ≡ None → at_row id change more rows ≡ rows ++ more
at-absent id change more [] e = refl
at-absent id change more (r ∷ rs) e =
    let parts = absent-next id r rs (bytes_eq r.id id) e in
    rw (parts.0) (ap (λ xs. r ∷ xs) (at-absent id change more rs parts.1))

pub used-absent : (id : Text) (value : Option Text) (rows : List Row) → seek id rows ≡ None
    → with_values id reading.AsWritten CommandLine (texts_of value) (without id rows) ≡ rows ++ use_row id value ∷ []
used-absent id value rows e =
    ap (with_values id reading.AsWritten CommandLine (texts_of value)) (at-absent id (λ _. []) [] rows e ∙ append-nil rows)
    ∙ at-absent id (more_values CommandLine (texts_of value)) (use_row id value ∷ []) rows e

pub has_row-is : (id : Text) (rows : List Row) → has_row id rows ≡ is_some (seek id rows)
has_row-is id [] = refl
has_row-is id (r ∷ rs) = go (bytes_eq r.id id) (has_row-is id rs)
  where
    go : (b : Bool) → has_row id rs ≡ is_some (seek id rs) → (b || has_row id rs) ≡ is_some (cond b (Some r) (seek id rs))
    go true e = refl
    go false e = e

-- ---- values

pub values-append : (n : Text) (xs ys : List Setting) → values_of n (xs ++ ys) ≡ values_of n xs ++ values_of n ys
values-append n xs ys = ap (map (λ (s : Setting). s.value)) (filter-append (λ (s : Setting). bytes_eq s.name n) xs ys) ∙ map-append _ (filter (λ (s : Setting). bytes_eq s.name n) xs) _

pub value-first : (n : Text) (s : Setting) (ys : List Setting) → bytes_eq s.name n ≡ true → values_of n (s ∷ ys) ≡ s.value ∷ values_of n ys
value-first n s ys e = rw e refl

pub value-other : (n : Text) (s : Setting) (ys : List Setting) → bytes_eq s.name n ≡ false → values_of n (s ∷ ys) ≡ values_of n ys
value-other n s ys e = rw e refl

append-none : {X : Type 0} (xs ys : List X) → xs ++ ys ≡ [] → (xs ≡ []) × (ys ≡ [])
append-none [] ys e = (refl, e)
append-none (x ∷ xs) ys e = absurd cc

-- ---- what rows say of values: an id has no row and no value, or the row of its one value

-- `stars` alone has no value
abbrev pub HasForm : Text → Option Text → Type 0
HasForm id value = is_some value ≡ not (bytes_eq id (codes "stars"))

abbrev pub Seen : Text → Option Row → List (Option Text) → Type 0
Seen id None values = values ≡ []
Seen id (Some row) values = (value : Option Text) × (row ≡ use_row id value) × (values ≡ value ∷ []) × HasForm id value

pub seen-more : (rows : List Row) (xs ys : List Setting) (s : Setting) → HasForm s.name s.value → seek s.name rows ≡ None → ((n : Text) → Seen n (seek n rows) (values_of n (xs ++ ys)))
    → (n : Text) → Seen n (seek n (rows ++ use_row s.name s.value ∷ [])) (values_of n (xs ++ s ∷ ys))
seen-more rows xs ys s form none seen n = go (bytes_eq s.name n) refl
  where
    row : Row
    row = use_row s.name s.value

    go : (b : Bool) → bytes_eq s.name n ≡ b → Seen n (seek n (rows ++ row ∷ [])) (values_of n (xs ++ s ∷ ys))
    go false e =
        let rows_are : seek n (rows ++ row ∷ []) ≡ seek n rows = find-append _ rows (row ∷ []) ∙ rw e (kept (seek n rows)) in
        let values_are : values_of n (xs ++ s ∷ ys) ≡ values_of n (xs ++ ys) =
        values-append n xs (s ∷ ys) ∙ ap (λ v. values_of n xs ++ v) (value-other n s ys e) ∙ sym (values-append n xs ys) in
        subst (λ o. Seen n o (values_of n (xs ++ s ∷ ys))) (sym rows_are) (subst (Seen n (seek n rows)) (sym values_are) (seen n))
      where
        kept : (o : Option Row) → option_or o None ≡ o
        kept None = refl
        kept (Some r) = refl
    go true e =
        let same = same_text s.name n e in
        let before : seek n rows ≡ None = ap (λ m. seek m rows) (sym same) ∙ none in
        let nothing : values_of n (xs ++ ys) ≡ [] = subst (λ o. Seen n o (values_of n (xs ++ ys))) before (seen n) in
        let parts = append-none (values_of n xs) (values_of n ys) (sym (values-append n xs ys) ∙ nothing) in
        let row_is : seek n (rows ++ row ∷ []) ≡ Some row = find-append _ rows (row ∷ []) ∙ rw (before, e) refl in
        let values_are : values_of n (xs ++ s ∷ ys) ≡ s.value ∷ [] =
        values-append n xs (s ∷ ys) ∙ ap₂ (λ a b. a ++ b) parts.0 (value-first n s ys e ∙ ap (λ v. s.value ∷ v) parts.1) in
        subst (λ o. Seen n o (values_of n (xs ++ s ∷ ys))) (sym row_is) (s.value, ap (λ m. use_row m s.value) same, values_are, subst (λ m. HasForm m s.value) same form)
