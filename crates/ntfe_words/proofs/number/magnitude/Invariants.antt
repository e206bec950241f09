use Rattle.std.proofs.Common.{◌≡◌, true, min, take}
use Rattle.std.specs.Str.{all_ascii_digits}
use Rattle.std.specs.Str.Parse.{digits_value}
use Rattle.ntfe_words.proofs.number.magnitude.Given as goal

-- the digits so far
abbrev pub invariant-loop-digit : goal.invariant-loop-digit
invariant-loop-digit l =
    let front = take l.digit-index l.digits in
    record { digits : all_ascii_digits front ≡ true; size : l.size ≡ min (digits_value 10 front) 4294967296 }
