-- Numbers below 10^19 in canonical decimal.
use Rattle.std.proofs.Common.{◌≡◌, ◌≢◌, ℕ, zero, suc, ◌+◌, ◌-◌, ◌*◌, ◌<◌, ◌≤◌, ◌^◌, ◌⊎◌, inl, inr, true, false, ℤ, pos, negsuc, unsigned_abs, leb, take, drop, add-one, List, [], ◌∷◌, length, get_or, Option, Some, None, MatchOption, sym, ap, ◌∙◌, arith}
use Rattle.std.specs.Prelude.{decimal}
use Rattle.std.specs.Str.{all_ascii_digits}
use Rattle.std.specs.Str.Parse.{digits_value}
use Rattle.std.specs.Char.{is_ascii_digit, digit_value}
use Rattle.std.specs.Fmt.{signed_decimal}
use Rattle.std.proofs.Math.Nat.{pow-suc, pow-le-pow_right}
use Rattle.std.proofs.lemmas.Bool.{and_parts, leb-true}
use Rattle.std.proofs.lemmas.List.{take_all, length-drop}
use Rattle.std.proofs.lemmas.Str.{digit_value_digit}
use Rattle.std.proofs.lemmas.Str.Parse.{digits_value_short}
use Rattle.std.proofs.lemmas.Fmt.{digits_decimal, decimal_nonempty, first_decimal, length-decimal-le, decimal-digits_value, decimal_digit, decimal_injective}
use Rattle.class_text.specs.Fields.{IsSize, IsHeight}
use Rattle.pair_text.proofs.Canonical.{own}

-- such a number has from one to 19 digits
pub no_length : (ds : List ℕ) → (length ds ≡ 0) ⊎ (19 < length ds) → (n : ℕ) → n < 10 ^ 19 → ds ≢ decimal n
no_length ds (inl z) n h e = let l : 0 < length (decimal n) = decimal_nonempty n (omega arith) in omega (arith, ap length e)
no_length ds (inr g) n h e = let l : length (decimal n) ≤ 19 = length-decimal-le 19 n (omega arith) h (omega arith) in omega (arith, ap length e)

-- and no leading zero
pub no_leading_zero : (ds : List ℕ) → get_or ds 0 0 ≡ 48 → 1 < length ds → (n : ℕ) → n < 10 ^ 19 → ds ≢ decimal n
no_leading_zero ds z l zero h e = omega (arith, ap length (e ∙ decimal_digit 0 (omega arith)))
no_leading_zero ds z l (suc n) h e = let f = first_decimal (suc n) (omega arith) (omega arith) in omega (arith, ap (λ xs. get_or xs 0 0) e)

-- what the digits' value says of them
none_from_value : (ds : List ℕ) → all_ascii_digits ds ≡ false → (n : ℕ) → n < 10 ^ 19 → ds ≢ decimal n
none_from_value ds h n l e =
    let d = digits_decimal own n (omega arith) in
    let t : all_ascii_digits ds ≡ true = ap all_ascii_digits e ∙ d in
    cc

some_from_value : (ds : List ℕ) (n : ℕ) → 0 < length ds → length ds ≤ 19 → (get_or ds 0 0 ≡ 48 → length ds ≡ 1) → all_ascii_digits ds ≡ true → n ≡ digits_value 10 ds
    → (n < 10 ^ 19) × (ds ≡ decimal n)
some_from_value ds n some few lead h q =
    let l : digits_value 10 ds < 10 ^ 19 = digits_value_short own ds 19 h few in
    let e : decimal (digits_value 10 ds) ≡ ds = decimal-digits_value own ds h some lead (omega arith) in
    (omega arith, sym e ∙ ap decimal (sym q))

pub from_value : (ds : List ℕ) (r : Option ℕ) → 0 < length ds → length ds ≤ 19 → (get_or ds 0 0 ≡ 48 → length ds ≡ 1)
    → MatchOption r (all_ascii_digits ds ≡ false) (λ n. (all_ascii_digits ds ≡ true) × (n ≡ digits_value 10 ds))
    → MatchOption r ((n : ℕ) → n < 10 ^ 19 → ds ≢ decimal n) (λ n. (n < 10 ^ 19) × (ds ≡ decimal n))
from_value ds None some few lead h = none_from_value ds h
from_value ds (Some n) some few lead h = some_from_value ds n some few lead h.0 h.1

pub same_number : (ds : List ℕ) (m n : ℕ) → m < 10 ^ 19 → n < 10 ^ 19 → ds ≡ decimal m → ds ≡ decimal n → m ≡ n
same_number ds m n h l e f = decimal_injective m n (omega arith) (omega arith) (sym e ∙ f)

power_within : (i : ℕ) → i < 19 → 10 ^ (i + 1) ≤ 10 ^ 19
power_within i k = let h : i + 1 ≤ 19 = omega arith in let p : 0 < 10 = omega arith in pow-le-pow_right p h

-- one digit more, where at most 18 came before
pub digit_room : (size d i : ℕ) → size < 10 ^ i → d ≤ 9 → i < 19 → (size * 10 + d < 10 ^ (i + 1)) × (size * 10 + d < 2 ^ 64)
digit_room size d i h l k =
    let step : 10 ^ (i + 1) ≡ 10 ^ i * 10 = rw add-one (pow-suc 10 i) in
    let most : 10 ^ (i + 1) ≤ 10 ^ 19 = power_within i k in
    (omega arith, omega arith)

-- a digit's value
pub digit_is : (b : ℕ) → is_ascii_digit b ≡ true → (48 ≤ b) × (b ≤ 57) × (digit_value b ≡ b - 48)
digit_is b d =
    let p = and_parts (leb 48 b) (leb b 57) d in
    let l = leb-true 48 b p.0 in
    let h = leb-true b 57 p.1 in
    (l, h, (let v = digit_value_digit b (l, h) in omega arith))

-- ---- heights

digit_first : (n : ℕ) → n < 2 ^ 64 → 48 ≤ get_or (decimal n) 0 0
digit_first zero h = rw (decimal_digit 0 (omega arith)) (omega arith)
digit_first (suc n) h = let f = first_decimal (suc n) (omega arith) h in omega arith

with_minus : (field : List ℕ) → 0 < length field → get_or field 0 0 ≡ 45 → field ≡ 45 ∷ drop 1 field
with_minus [] h e = absurd (omega arith)
with_minus (b ∷ field) h e = ap (λ (x : ℕ). x ∷ field) e

pub negative_height : (field : List ℕ) → 0 < length field → get_or field 0 0 ≡ 45 → IsSize 1 (drop 1 field) → IsHeight field
negative_height field h e s = from_size s.size s.low s.high s.is
  where
    from_size : (n : ℕ) → 1 ≤ n → n < 2 ^ 62 → drop 1 field ≡ decimal n → IsHeight field
    from_size zero l k q = absurd (omega arith)
    from_size (suc n) l k q = record { height = negsuc n; size = k; is = with_minus field h e ∙ ap (λ (ds : List ℕ). 45 ∷ ds) q }

pub no_negative_height : (field : List ℕ) → get_or field 0 0 ≡ 45 → ¬ (IsSize 1 (drop 1 field)) → ¬ (IsHeight field)
no_negative_height field e none h = from_height h.height h.size h.is
  where
    from_height : (z : ℤ) → unsigned_abs z < 2 ^ 62 → field ≡ signed_decimal z → ⊥
    from_height (pos n) k q = let f = digit_first n (omega arith) in omega (arith, ap (λ xs. get_or xs 0 0) q)
    from_height (negsuc n) k q = none (record { size = suc n; low = omega arith; high = k; is = ap (drop 1) q })

pub positive_height : (field : List ℕ) → IsSize 0 field → IsHeight field
positive_height field s = record { height = pos s.size; size = s.high; is = s.is }

pub no_positive_height : (field : List ℕ) → get_or field 0 0 ≢ 45 → ¬ (IsSize 0 field) → ¬ (IsHeight field)
no_positive_height field e none h = from_height h.height h.size h.is
  where
    from_height : (z : ℤ) → unsigned_abs z < 2 ^ 62 → field ≡ signed_decimal z → ⊥
    from_height (pos n) k q = none (record { size = n; low = omega arith; high = k; is = q })
    from_height (negsuc n) k q = e (ap (λ xs. get_or xs 0 0) q)

-- the rest of a list, as a range from 1 on
pub rest_is : (xs : List ℕ) → take (length xs - 1) (drop 1 xs) ≡ drop 1 xs
rest_is xs = take_all (length xs - 1) (drop 1 xs) (omega (arith, length-drop 1 xs))
