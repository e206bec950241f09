use Rattle.std.proofs.Common.{◌≡◌, ◌<◌, ◌^◌, true, take}
use Rattle.std.specs.Str.{all_ascii_digits}
use Rattle.std.specs.Str.Parse.{digits_value}
use Rattle.class_text.proofs.canonical.value.Given as goal

-- the digits so far
abbrev pub invariant-loop-digit : goal.invariant-loop-digit
invariant-loop-digit l =
    let front = take l.digit-index l.digits in
    record { digits : all_ascii_digits front ≡ true; size : l.size ≡ digits_value 10 front; below : l.size < 10 ^ l.digit-index }
