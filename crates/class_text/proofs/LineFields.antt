-- Lines of a word and texts, by their fields.
use Rattle.std.proofs.Common.{◌≡◌, ℕ, suc, ◌<◌, ◌≤◌, ◌^◌, inl, inr, true, false, Bool, ℤ, pos, negsuc, unsigned_abs, List, [], ◌∷◌, ◌++◌, length, map, flat_map, drop, nat_eq, refl, sym, ap, ◌∙◌, arith, All}
use Rattle.std.specs.Prelude.{decimal}
use Rattle.std.specs.Fmt.{signed_decimal}
use Rattle.std.specs.Char.{is_ascii_digit}
use Rattle.std.specs.Str.{all_ascii_digits}
use Rattle.std.specs.List.{join_with_byte}
use Rattle.std.proofs.lemmas.Bool.{and_parts, leb-true, ne_eqb, cases_Bool}
use Rattle.std.proofs.lemmas.List.{append-nil, append_cancel_right}
use Rattle.std.proofs.lemmas.List.Elements.{All-nil, All-cons, All-tail, All-head}
use Rattle.std.proofs.lemmas.List.Splits.{slice_split_none, slice_split_at, join_with_byte-slice_split}
use Rattle.std.proofs.lemmas.Fmt.{digits_decimal}
use Rattle.ntfe_model.specs.RunText.{spaced}
use Rattle.class_text.specs.Fields.{fields_of}
use Rattle.class_text.specs.NumberLines.{has_space}
use Rattle.pair_text.proofs.Canonical.{own}

abbrev is_space : ℕ → Bool
is_space b = nat_eq b 32

none_passes : (xs : List ℕ) → has_space xs ≡ false → All (λ b. is_space b ≡ false) xs
none_passes [] h = All-nil _
none_passes (x ∷ xs) h =
    elim (cases_Bool (is_space x)) [
      | inl e ↦ absurd (let f : true ≡ false = rw e at h in cc)
      | inr e ↦ All-cons (λ b. is_space b ≡ false) x xs e (none_passes xs (rw e at h))
    ]

no_space_in_digits : (ds : List ℕ) → all_ascii_digits ds ≡ true → has_space ds ≡ false
no_space_in_digits [] h = refl
no_space_in_digits (d ∷ ds) h =
    let p = and_parts (is_ascii_digit d) (all_ascii_digits ds) h in
    let range = and_parts _ _ p.0 in
    let low : 48 ≤ d = leb-true 48 d range.0 in
    rw (ne_eqb d 32 (λ e. absurd (omega arith))) (no_space_in_digits ds p.1)

pub no_space_in_decimal : (n : ℕ) → n < 2 ^ 64 → has_space (decimal n) ≡ false
no_space_in_decimal n h = no_space_in_digits (decimal n) (digits_decimal own n h)

pub no_space_in_signed : (z : ℤ) → unsigned_abs z < 2 ^ 64 → has_space (signed_decimal z) ≡ false
no_space_in_signed (pos n) h = no_space_in_decimal n h
no_space_in_signed (negsuc n) h = no_space_in_decimal (suc n) h

module _ {X : Type 0} (f : X → List ℕ) where
  abbrev texts : List X → List ℕ
  texts xs = flat_map (λ x. spaced (f x)) xs

  -- the fields of a line of a word and texts without spaces
  pub line_fields : (word : List ℕ) (xs : List X) → has_space word ≡ false → All (λ x. has_space (f x) ≡ false) xs → fields_of (word ++ texts xs) ≡ word ∷ map f xs
  line_fields word [] h k = ap fields_of (append-nil word) ∙ slice_split_none is_space word (none_passes word h)
  line_fields word (x ∷ xs) h k =
      slice_split_at is_space word 32 (f x ++ texts xs) (none_passes word h) refl
      ∙ ap (λ (more : List (List ℕ)). word ∷ more) (line_fields (f x) xs (All-head (λ y. has_space (f y) ≡ false) x xs k) (All-tail (λ y. has_space (f y) ≡ false) x xs k))

  joined_fields : (word : List ℕ) (xs : List X) → join_with_byte 32 (word ∷ map f xs) ≡ word ++ texts xs
  joined_fields word [] = sym (append-nil word)
  joined_fields word (x ∷ xs) = ap (λ (more : List ℕ). word ++ 32 ∷ more) (joined_fields (f x) xs)

  -- and the line of such fields
  pub fields_line : (line word : List ℕ) (xs : List X) → fields_of line ≡ word ∷ map f xs → line ≡ word ++ texts xs
  fields_line line word xs e = sym (join_with_byte-slice_split 32 line) ∙ ap (join_with_byte 32) e ∙ joined_fields word xs

-- a list that begins with xs is xs and what follows it
pub same_front : {X : Type 0} (xs front ys others : List X) → xs ++ ys ≡ front ++ others → length xs ≤ length front → ys ≡ drop (length xs) front ++ others
same_front [] front ys others e h = e
same_front (x ∷ xs) [] ys others e h = absurd (omega arith)
same_front (x ∷ xs) (y ∷ front) ys others e h = same_front xs front ys others (ap (drop 1) e) (omega arith)

-- a line without its line feed
pub feed_off : (xs ys : List ℕ) → xs ++ 10 ∷ [] ≡ ys ++ 10 ∷ [] → xs ≡ ys
feed_off xs ys e = append_cancel_right xs ys (10 ∷ []) e
