-- What numbers of any size look like: they are digits, and the digits of a number below 2^64 are those of no other.
use Rattle.std.proofs.Common.{◌≡◌, ℕ, zero, suc, ◌+◌, ◌*◌, ◌/◌, ◌%◌, pow-suc, ◌^◌, ◌<◌, ◌≤◌, ◌⊎◌, inl, inr, Bool, true, false, cond, eqb, refl, sym, ap, ◌∙◌, subst, arith, List, [], ◌∷◌, ◌++◌, length, map, flat_map, get_or, All}
use Rattle.std.specs.Prelude.{decimal}
use Rattle.std.specs.Fmt.{digits, digits_onto, digit_glyph}
use Rattle.std.proofs.lemmas.Bool.{lt-ltb, ne_eqb}
use Rattle.std.proofs.lemmas.Fmt.{decimal_is_IsNumeral_wide, length-decimal-le}
use Rattle.std.proofs.lemmas.List.Elements.{All-nil, All-cons, All-head, All-tail}
use Rattle.std.specs.Str.Parse.{digits_value}
use Rattle.ntfe_model.specs.RunText.{spaced, number_line}
use Rattle.ntfe_model.specs.Earlier.{with_feed}
use Rattle.class_text.specs.Fields.{fields_of}
use Rattle.class_text.specs.NumberLines.{has_space}
use Rattle.class_text.proofs.FieldLists.{same_head, same_tail}
use Rattle.class_text.proofs.LineFields.{line_fields}

abbrev pub IsDigit : ℕ → Type 0
IsDigit b = (48 ≤ b) × (b ≤ 57)

glyph_is : (d : ℕ) → d < 10 → digit_glyph false d ≡ 48 + d
glyph_is d h = ap (λ (b : Bool). cond b (48 + d) (87 + d)) (lt-ltb d 10 h)

glyph_digit : (n : ℕ) → IsDigit (digit_glyph false (n % 10))
glyph_digit n = subst IsDigit (sym (glyph_is (n % 10) (omega arith))) (omega arith, omega arith)

onto_digits : (k n : ℕ) (acc : List ℕ) → All IsDigit acc → All IsDigit (digits_onto k 10 false n acc)
onto_digits zero n acc h = h
onto_digits (suc k) n acc h =
    let more = All-cons IsDigit (digit_glyph false (n % 10)) acc (glyph_digit n) h in
    by (eqb (n / 10) 0) more (onto_digits k (n / 10) (digit_glyph false (n % 10) ∷ acc) more)
  where
    by : (b : Bool) → All IsDigit (digit_glyph false (n % 10) ∷ acc) → All IsDigit (digits_onto k 10 false (n / 10) (digit_glyph false (n % 10) ∷ acc))
        → All IsDigit (cond b (digit_glyph false (n % 10) ∷ acc) (digits_onto k 10 false (n / 10) (digit_glyph false (n % 10) ∷ acc)))
    by true more rest = more
    by false more rest = rest

ten_some : (k : ℕ) → 0 < 10 ^ k
ten_some zero = omega arith
ten_some (suc k) = let e = pow-suc 10 k in let h = ten_some k in omega (arith, e, h)

onto_full : (k n : ℕ) (acc : List ℕ) → 10 ^ k ≤ n → length (digits_onto k 10 false n acc) ≡ k + length acc
onto_full zero n acc h = omega arith
onto_full (suc k) n acc h =
    ap (λ (b : Bool). length (cond b (digit_glyph false (n % 10) ∷ acc) (digits_onto k 10 false (n / 10) (digit_glyph false (n % 10) ∷ acc)))) (ne_eqb (n / 10) 0 (λ e. absurd (let l = some in omega (arith, l, e))))
    ∙ onto_full k (n / 10) (digit_glyph false (n % 10) ∷ acc) less
    ∙ (let e : k + length (digit_glyph false (n % 10) ∷ acc) ≡ suc k + length acc = omega arith in e)
  where
    power : 10 ^ suc k ≡ 10 ^ k * 10
    power = pow-suc 10 k

    less : 10 ^ k ≤ n / 10
    less = omega (arith, h, power)

    some : 0 < n / 10
    some = let l = less in let p = ten_some k in omega (arith, l, p)

pub decimal_digits : (n : ℕ) → All IsDigit (decimal n)
unfolding digits
decimal_digits n = onto_digits 64 n [] (All-nil IsDigit)

decimal_full : (n : ℕ) → 10 ^ 64 ≤ n → length (decimal n) ≡ 64
unfolding digits
decimal_full n h = onto_full 64 n [] h

-- a number below 2^64 has digits of its own
pub small_decimal : (m n : ℕ) → m < 2 ^ 64 → decimal m ≡ decimal n → m ≡ n
small_decimal m n h e = by (let c : (n < 10 ^ 64) ⊎ (10 ^ 64 ≤ n) = grind arith in c)
  where
    by : (n < 10 ^ 64) ⊎ (10 ^ 64 ≤ n) → m ≡ n
    by (inl l) = sym (decimal_is_IsNumeral_wide m (omega (arith, h))).1 ∙ ap (λ ds. digits_value 10 ds) e ∙ (decimal_is_IsNumeral_wide n l).1
    by (inr l) = absurd (let a = decimal_full n l in let b = length-decimal-le 20 m (omega arith) (omega (arith, h)) h in let c = ap length e in omega (arith, a, b, c))

no_space_among : (ds : List ℕ) → All IsDigit ds → has_space ds ≡ false
no_space_among [] h = refl
no_space_among (d ∷ ds) h =
    let range = All-head IsDigit d ds h in
    rw (ne_eqb d 32 (λ e. absurd (let l = range.0 in omega (arith, l, e)))) (no_space_among ds (All-tail IsDigit d ds h))

pub no_space_in : (n : ℕ) → has_space (decimal n) ≡ false
no_space_in n = no_space_among (decimal n) (decimal_digits n)

small_decimals : (ms ns : List ℕ) → All (λ m. m < 2 ^ 64) ms → map decimal ms ≡ map decimal ns → ms ≡ ns
small_decimals [] [] h e = refl
small_decimals [] (n ∷ ns) h e = cc
small_decimals (m ∷ ms) [] h e = cc
small_decimals (m ∷ ms) (n ∷ ns) h e =
    let first = small_decimal m n (All-head (λ k. k < 2 ^ 64) m ms h) (same_head (decimal m) (decimal n) (map decimal ms) (map decimal ns) e) in
    let rest = small_decimals ms ns (All-tail (λ k. k < 2 ^ 64) m ms h) (same_rest e) in
    λ i. first i ∷ rest i
  where
    same_rest : decimal m ∷ map decimal ms ≡ decimal n ∷ map decimal ns → map decimal ms ≡ map decimal ns
    same_rest q = cc

-- a word and numbers, as a line without its line feed
abbrev pub number_text : List ℕ → List ℕ → List ℕ
number_text word ns = word ++ flat_map (λ n. spaced (decimal n)) ns

pub number_text_fed : (word ns : List ℕ) → number_line word ns ≡ with_feed (number_text word ns)
number_text_fed word ns = refl

-- such a line has one list of numbers, where they are small
pub small_numbers : (word ms ns : List ℕ) → has_space word ≡ false → All (λ m. m < 2 ^ 64) ms → number_text word ms ≡ number_text word ns → ms ≡ ns
small_numbers word ms ns w h e =
    small_decimals ms ns h
    (same_tail word (map decimal ms) (map decimal ns)
    (sym (line_fields decimal word ms w (λ k d l. no_space_in (get_or ms k d))) ∙ ap fields_of e ∙ line_fields decimal word ns w (λ k d l. no_space_in (get_or ns k d))))
