-- The fields of a line, and numbers in them.
use Rattle.std.specs.Prelude.{◌≡◌, ℕ, ◌==◌, ◌<◌, ◌≤◌, ◌^◌, ℤ, unsigned_abs, List, [], ◌∷◌, ◌++◌, length, map, decimal, Some, None, Option, option_map, All}
use Rattle.std.specs.Fmt.{signed_decimal}
use Rattle.std.specs.List.{slice_split}
use Rattle.class_text.specs.declared.fields.Fields.{Fields}

-- what stands between the spaces
abbrev pub fields_of : List ℕ → List (List ℕ)
fields_of line = slice_split (λ b. b == 32) line

-- a cursor's fields that are still to come
abbrev pub fields_in : Option (List ℕ) → List (List ℕ)
fields_in None = []
fields_in (Some rest) = fields_of rest

abbrev pub fields_left : Fields → List (List ℕ)
fields_left f = fields_in (option_map (λ r. r.now) f.rest)

-- the first field is the number n, below 10^19, and the others follow
pub record IsNumber (n : ℕ) (fields others : List (List ℕ)) : Type 0 where
  pub below : n < 10 ^ 19
  pub are : fields ≡ decimal n ∷ others

-- the first field is no such number
abbrev pub IsNoNumber : List (List ℕ) → Type 0
IsNoNumber fields = (n : ℕ) (others : List (List ℕ)) → ¬ (IsNumber n fields others)

-- the first fields are these numbers, so many, all below the limit, and the others follow
pub record AreNumbers (count limit : ℕ) (ns : List ℕ) (fields others : List (List ℕ)) : Type 0 where
  pub count_is : length ns ≡ count
  pub below : All (λ n. n < limit) ns
  pub are : fields ≡ map decimal ns ++ others

-- the digits are those of a number from the least one on, less than 2^62
pub record IsSize (least : ℕ) (digits : List ℕ) : Type 0 where
  pub size : ℕ
  pub low : least ≤ size
  pub high : size < 2 ^ 62
  pub is : digits ≡ decimal size

-- the field is a number of size less than 2^62
pub record IsHeight (field : List ℕ) : Type 0 where
  pub height : ℤ
  pub size : unsigned_abs height < 2 ^ 62
  pub is : field ≡ signed_decimal height

-- the first fields are heights, so many, and the others follow
pub record AreHeights (count : ℕ) (fields others : List (List ℕ)) : Type 0 where
  pub these : List (List ℕ)
  pub count_is : length these ≡ count
  pub heights : All IsHeight these
  pub are : fields ≡ these ++ others
