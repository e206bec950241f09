-- The first line of a text and the first field of a line, cut off.
use Rattle.std.proofs.Common.{◌≡◌, ◌≢◌, ℕ, suc, subst, ◌+◌, ◌<◌, ◌≤◌, ◌==◌, Bool, true, cond, not, List, [], ◌∷◌, length, take, drop, get_or, ltb, filter, Option, unwrap_or, refl, sym, ap, ◌∙◌, inl, inr, arith, one-add}
use Rattle.std.specs.List.{position, position_or_len, slice_split, onto_first, before_first, after_first}
use Rattle.std.proofs.lemmas.Bool.{cases_Bool, cases_lt, ltb-false, ne_eqb}
use Rattle.std.proofs.lemmas.List.Sums.{prefix_len-le-length, fails_before_first, passes_at_first}
use Rattle.std.proofs.lemmas.List.Splits.{slice_split-cons_yes, slice_split_none, slice_split_first}
use Rattle.std.proofs.lemmas.List.{length-take, drop_more, take_all, drop_all}
use Rattle.std.specs.Str.Lines.{strip_carriage_return}
use Rattle.ntfe_model.specs.PairText.{lines, fields, is_blank, is_filled, is_skipped, unskipped}

-- the place of the first, or the length, where none passes
pub unwrap_or-position : {X : Type 0} (p : X → Bool) (xs : List X) → unwrap_or (position p xs) (length xs) ≡ position_or_len p xs
unwrap_or-position p xs =
    elim (cases_Bool (ltb (position_or_len p xs) (length xs))) [
      | inl e ↦ rw e refl
      | inr e ↦ rw e (omega (arith, ltb-false _ _ e, prefix_len-le-length (λ x. not (p x)) xs))
    ]

pub place_is : {X : Type 0} (p : X → Bool) (xs : List X) (o : Option ℕ) (n : ℕ) → o ≡ position p xs → n ≡ unwrap_or o (length xs) → n ≡ position_or_len p xs
place_is p xs o n e f = f ∙ ap (λ (v : Option ℕ). unwrap_or v (length xs)) e ∙ unwrap_or-position p xs

take_first : {X : Type 0} (x : X) (n : ℕ) (xs : List X) → take (1 + n) (x ∷ xs) ≡ x ∷ take n xs
take_first x n xs = rw one-add refl

drop_first : {X : Type 0} (x : X) (n : ℕ) (xs : List X) → drop (1 + n) (x ∷ xs) ≡ drop n xs
drop_first x n xs = rw one-add refl

drop_first_more : {X : Type 0} (x : X) (n : ℕ) (xs : List X) → drop ((1 + n) + 1) (x ∷ xs) ≡ drop (n + 1) xs
drop_first_more x n xs = ap (λ k. drop k (x ∷ xs)) (let e : (1 + n) + 1 ≡ suc (n + 1) = omega arith in e)

abbrev pub is_feed : ℕ → Bool
is_feed b = b == 10

-- a text is its first line and the text behind it
pub lines-first : (xs : List ℕ) → 0 < length xs → lines xs ≡ before_first (λ b. b == 10) xs ∷ lines (after_first (λ b. b == 10) xs)
lines-first [] h = absurd (omega arith)
lines-first (x ∷ []) h = elim (cases_Bool (is_feed x)) [ inl e ↦ rw e refl | inr e ↦ rw e refl ]
lines-first (x ∷ y ∷ ys) h =
    elim (cases_Bool (is_feed x)) [
      | inl e ↦ rw e refl
      | inr e ↦
          let n = position_or_len is_feed (y ∷ ys) in
          rw e (ap (onto_first x) (lines-first (y ∷ ys) (omega arith)) ∙ ap (λ (front : List ℕ). front ∷ lines (drop (n + 1) (y ∷ ys))) (sym (take_first x n (y ∷ ys)))
          ∙ ap (λ (back : List ℕ). take (1 + n) (x ∷ y ∷ ys) ∷ lines back) (sym (drop_first_more x n (y ∷ ys))))
    ]

-- what stands between elements that pass
abbrev parts : (ℕ → Bool) → List ℕ → List (List ℕ)
parts p xs = filter is_filled (slice_split p xs)

parts-skip : (p : ℕ → Bool) (x : ℕ) (xs : List ℕ) → p x ≡ true → parts p (x ∷ xs) ≡ parts p xs
parts-skip p x xs e = ap (filter is_filled) (slice_split-cons_yes p x xs e)

-- what passes in front counts for nothing
pub parts-start : (p : ℕ → Bool) (xs : List ℕ) → parts p xs ≡ parts p (drop (position_or_len (λ b. not (p b)) xs) xs)
parts-start p [] = refl
parts-start p (x ∷ xs) =
    elim (cases_Bool (p x)) [
      | inl e ↦
          let n = position_or_len (λ b. not (p b)) xs in
          parts-skip p x xs e ∙ parts-start p xs ∙ rw e (ap (parts p) (sym (drop_first x n xs)))
      | inr e ↦
          let whole : x ∷ xs ≡ drop (position_or_len (λ b. not (p b)) (x ∷ xs)) (x ∷ xs) = rw e refl in
          ap (parts p) whole
    ]

abbrev IsNoneBefore : (ℕ → Bool) → List ℕ → Type 0
IsNoneBefore p xs = position_or_len p xs ≡ 0 → parts p xs ≡ []

-- behind them there is nothing, if the next element passes or there is none
pub parts-none : (p : ℕ → Bool) (xs : List ℕ) → IsNoneBefore p (drop (position_or_len (λ b. not (p b)) xs) xs)
parts-none p [] = λ h. refl
parts-none p (x ∷ xs) =
    elim (cases_Bool (p x)) [
      | inl e ↦
          let n = position_or_len (λ b. not (p b)) xs in
          rw e (subst (IsNoneBefore p) (sym (drop_first x n xs)) (parts-none p xs))
      | inr e ↦ rw e (λ h. absurd (omega (arith, rw e at h)))
    ]

pub is_filled-from : (xs : List ℕ) → 0 < length xs → is_filled xs ≡ true
is_filled-from [] h = absurd (omega arith)
is_filled-from (x ∷ xs) h = ap not (ne_eqb (length (x ∷ xs)) 0 (omega arith))

parts-first_whole : (p : ℕ → Bool) (xs : List ℕ) → 0 < length xs → length xs ≤ position_or_len p xs → parts p xs ≡ xs ∷ []
parts-first_whole p xs h whole =
    ap (filter is_filled) (slice_split_none p xs (λ k d l. fails_before_first p xs k d (omega arith))) ∙ rw (is_filled-from xs h) refl

parts-first_of : (p : ℕ → Bool) (xs : List ℕ) → let n = position_or_len p xs in 0 < n → n < length xs → parts p xs ≡ take n xs ∷ parts p (drop n xs)
parts-first_of p xs h l =
    let n = position_or_len p xs in
    let filled : is_filled (take n xs) ≡ true = is_filled-from (take n xs) (simp length-take (omega arith)) in
    let skip : parts p (drop n xs) ≡ parts p (drop (n + 1) xs) =
    ap (parts p) (drop_more xs n 0 l) ∙ parts-skip p (get_or xs n 0) (drop (n + 1) xs) (passes_at_first p xs 0 l) in
    ap (filter is_filled) (slice_split_first p xs 0 l) ∙ rw filled (ap (λ (more : List (List ℕ)). take n xs ∷ more) (sym skip))

-- what stands before the first that passes is the first part
pub parts-first : (p : ℕ → Bool) (xs : List ℕ) → let n = position_or_len p xs in 0 < n → parts p xs ≡ take n xs ∷ parts p (drop n xs)
parts-first p xs h =
    let n = position_or_len p xs in
    elim (cases_lt n (length xs)) [
      | inl l ↦ parts-first_of p xs h l
      | inr l ↦
          parts-first_whole p xs (omega (arith, prefix_len-le-length (λ x. not (p x)) xs)) l
          ∙ ap (λ (front : List ℕ). front ∷ []) (sym (take_all n xs l)) ∙ ap (λ (back : List ℕ). take n xs ∷ parts p back) (sym (drop_all n xs l))
    ]

-- ---- what the two functions over lines and fields answer

-- a text behind so many lines, with its first line cut off
pub line_cut : (before : ℕ) (xs content rest : List ℕ) → 0 < length xs → content ≡ strip_carriage_return (before_first is_feed xs) → rest ≡ after_first is_feed xs
    → unskipped before (lines xs) ≡ cond (is_skipped (fields content)) (unskipped (before + 1) (lines rest)) (record { number = before + 1; fields = fields content } ∷ unskipped (before + 1) (lines rest))
line_cut before xs content rest h e f = rw (e, f) (ap (unskipped before) (lines-first xs h))

abbrev pub field_start : List ℕ → ℕ
field_start xs = position_or_len (λ b. not (is_blank b)) xs

-- no field is left, where none stands between the blanks in front and the next blank
pub no_field : (xs filled field : List ℕ) → filled ≡ drop (field_start xs) xs → field ≡ take (position_or_len is_blank filled) filled → length field ≡ 0 → fields xs ≡ []
no_field xs filled field e f h =
    let n = position_or_len is_blank filled in
    let none : n ≡ 0 = omega (arith, ap length f, length-take n filled, prefix_len-le-length (λ x. not (is_blank x)) filled) in
    let none_there : position_or_len is_blank (drop (field_start xs) xs) ≡ 0 = ap (position_or_len is_blank) (sym e) ∙ none in
    parts-start is_blank xs ∙ parts-none is_blank xs none_there

-- else it is the first
pub first_field : (xs filled field rest : List ℕ) → filled ≡ drop (field_start xs) xs → field ≡ take (position_or_len is_blank filled) filled → rest ≡ drop (position_or_len is_blank filled) filled
    → length field ≢ 0 → fields xs ≡ field ∷ fields rest
first_field xs filled field rest e f g h =
    let n = position_or_len is_blank filled in
    let some : 0 < n = omega (arith, ap length f, length-take n filled) in
    parts-start is_blank xs ∙ ap fields (sym e) ∙ parts-first is_blank filled some ∙ rw (f, g) refl
