-- Digits, read one after another.
use Rattle.std.proofs.Common.{◌≡◌, ℕ, zero, suc, ◌+◌, ◌-◌, ◌*◌, ◌<◌, true, false, leb, List, [], ◌∷◌, length, get_or, take, min, refl, arith, add-one}
use Rattle.std.specs.Char.{is_ascii_digit, digit_value}
use Rattle.std.specs.Str.{all_ascii_digits}
use Rattle.std.specs.Str.Parse.{digits_value}
use Rattle.std.proofs.lemmas.Bool.{and_parts, and_from, and_left, and_right, leb-true}
use Rattle.std.proofs.lemmas.Int.Digits.{digits_value_more}
use Rattle.std.proofs.lemmas.Str.{digit_value_digit}

digits-suc : (bs : List ℕ) (i : ℕ) → i < length bs → all_ascii_digits (take i bs) ≡ true → is_ascii_digit (get_or bs i 0) ≡ true → all_ascii_digits (take (suc i) bs) ≡ true
digits-suc [] i h e d = absurd (omega arith)
digits-suc (b ∷ bs) zero h e d = and_from _ _ d refl
digits-suc (b ∷ bs) (suc i) h e d =
    let p = and_parts (is_ascii_digit b) (all_ascii_digits (take i bs)) e in
    and_from _ _ p.0 (digits-suc bs i (omega arith) p.1 d)

pub digits-more : (bs : List ℕ) (i : ℕ) → i < length bs → all_ascii_digits (take i bs) ≡ true → is_ascii_digit (get_or bs i 0) ≡ true → all_ascii_digits (take (i + 1) bs) ≡ true
digits-more bs i h e d = rw add-one (digits-suc bs i h e d)

-- where one is no digit, not all are
pub digits-fail : (bs : List ℕ) (i : ℕ) → i < length bs → is_ascii_digit (get_or bs i 0) ≡ false → all_ascii_digits bs ≡ false
digits-fail [] i h d = absurd (omega arith)
digits-fail (b ∷ bs) zero h d = and_left _ _ d
digits-fail (b ∷ bs) (suc i) h d = and_right _ _ (digits-fail bs i (omega arith) d)

digit_value-is : (c : ℕ) → is_ascii_digit c ≡ true → digit_value c ≡ c - 48
digit_value-is c d =
    let p = and_parts (leb 48 c) (leb c 57) d in
    omega (arith, digit_value_digit c (leb-true 48 c p.0, leb-true c 57 p.1))

-- one digit more behind a size that is cut at a cap
pub size-more : (cap : ℕ) (bs : List ℕ) (i size : ℕ) → i < length bs → is_ascii_digit (get_or bs i 0) ≡ true → size ≡ min (digits_value 10 (take i bs)) cap
    → min (size * 10 + (get_or bs i 0 - 48)) cap ≡ min (digits_value 10 (take (i + 1) bs)) cap
size-more cap bs i size h d e = omega (arith, digits_value_more 10 bs i h, digit_value-is (get_or bs i 0) d)
