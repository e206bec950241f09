-- Digits, read one after another.
use Rattle.std.proofs.Common.{◌≡◌, ℕ, ◌<◌, false, List, length, get_or, None, option_map, refl}
use Rattle.std.specs.Char.{is_ascii_digit}
use Rattle.std.proofs.lemmas.Bool.{and_right}
use Rattle.ntfe_model.specs.PairText.{is_filled, magnitude}
use Rattle.ntfe_model.proofs.Digits.{digits-fail}

-- where one is no digit, it is no number
pub magnitude-fail : (f : ℕ → ℕ) (bs : List ℕ) (i : ℕ) → i < length bs → is_ascii_digit (get_or bs i 0) ≡ false → None ≡ option_map f (magnitude bs)
magnitude-fail f bs i h d = rw (and_right (is_filled bs) _ (digits-fail bs i h d)) refl
