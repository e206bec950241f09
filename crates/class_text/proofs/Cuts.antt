-- Lists, cut at the first place where a test passes.
use Rattle.std.proofs.Common.{◌≡◌, ℕ, ◌+◌, ◌<◌, inl, inr, Bool, true, not, List, [], ◌∷◌, length, take, drop, Option, Some, None, MatchOption, is_some, option_map, false, ltb, nat_eq, refl, ap, ◌∙◌, sym, arith}
use Rattle.std.specs.List.{position, position_or_len, slice_split, onto_first}
use Rattle.std.proofs.lemmas.Bool.{cases_Bool, ltb-true, ltb-false}
use Rattle.std.proofs.lemmas.List.Sums.{fails_before_first}
use Rattle.std.proofs.lemmas.List.Splits.{slice_split_none, slice_split_first}
use Rattle.ntfe_model.specs.Earlier.{but_last, whole_lines}
use Rattle.class_text.specs.Fields.{fields_of, fields_in}

module _ (p : ℕ → Bool) (xs : List ℕ) where
  -- where none passes, the list is the one part
  pub cut_none : position p xs ≡ None → slice_split p xs ≡ xs ∷ []
  cut_none e =
      elim (cases_Bool (ltb (position_or_len p xs) (length xs))) [
        | inl h ↦ (let f : Some (position_or_len p xs) ≡ None = rw h at e in cc)
        | inr h ↦ slice_split_none p xs (λ k d l. fails_before_first p xs k d (omega (arith, ltb-false _ _ h)))
      ]

  -- else it is what stands before the first, and the parts of what stands after it
  pub cut_some : (n : ℕ) → position p xs ≡ Some n → (n < length xs) × (slice_split p xs ≡ take n xs ∷ slice_split p (drop (n + 1) xs))
  cut_some n e =
      elim (cases_Bool (ltb (position_or_len p xs) (length xs))) [
        | inl h ↦
            (let f : Some (position_or_len p xs) ≡ Some n = rw h at e in
            let g : position_or_len p xs ≡ n = cc in
            let l : position_or_len p xs < length xs = ltb-true _ _ h in
            (omega (arith, l, g), slice_split_first p xs 0 l ∙ ap (λ k. take k xs ∷ slice_split p (drop (k + 1) xs)) g))
        | inr h ↦ (let f : None ≡ Some n = rw h at e in cc)
      ]

split_onto : (x : ℕ) (parts : List (List ℕ)) → (front : List ℕ) × (more : List (List ℕ)) × (onto_first x parts ≡ front ∷ more)
split_onto x [] = (x ∷ [], [], refl)
split_onto x (part ∷ parts) = (x ∷ part, parts, refl)

-- there is a first part
split_filled : (p : ℕ → Bool) (xs : List ℕ) → (front : List ℕ) × (more : List (List ℕ)) × (slice_split p xs ≡ front ∷ more)
split_filled p [] = ([], [], refl)
split_filled p (x ∷ xs) =
    elim (cases_Bool (p x)) [
      | inl e ↦ ([], slice_split p xs, rw e refl)
      | inr e ↦ (let f = split_onto x (slice_split p xs) in (f.0, f.1, rw e f.2))
    ]

abbrev pub is_feed : ℕ → Bool
is_feed b = nat_eq b 10

-- where no line ends, there is no whole line
pub no_line : (xs : List ℕ) → slice_split is_feed xs ≡ xs ∷ [] → whole_lines xs ≡ []
no_line xs e = ap but_last e

-- else the first line is whole, and more lines follow it
pub first_line : (xs line rest : List ℕ) → slice_split is_feed xs ≡ line ∷ slice_split is_feed rest → whole_lines xs ≡ line ∷ whole_lines rest
first_line xs line rest e =
    let f = split_filled is_feed rest in
    ap but_last (e ∙ ap (λ (more : List (List ℕ)). line ∷ more) f.2) ∙ ap (λ (more : List (List ℕ)). line ∷ but_last more) (sym f.2)

-- the same, of what a cut answers
pub lines_from : {T : Type 0} (front back : T → List ℕ) (xs : List ℕ) (r : Option T)
    → MatchOption r (slice_split is_feed xs ≡ xs ∷ []) (λ t. slice_split is_feed xs ≡ front t ∷ slice_split is_feed (back t))
    → MatchOption r (whole_lines xs ≡ []) (λ t. whole_lines xs ≡ front t ∷ whole_lines (back t))
lines_from front back xs None h = no_line xs h
lines_from front back xs (Some t) h = first_line xs (front t) (back t) h

pub fields_filled : (line : List ℕ) → fields_of line ≡ [] → ⊥
fields_filled line e = let f = split_filled (λ b. nat_eq b 32) line in let g : f.0 ∷ f.1 ≡ [] = sym f.2 ∙ e in cc

pub some_left : {T : Type 0} (f : T → List ℕ) (o : Option T) (b : Bool) → is_some o ≡ not b → b ≡ false → fields_in (option_map f o) ≡ [] → ⊥
some_left f None b h e q = (let s : false ≡ true = h ∙ ap not e in cc)
some_left f (Some t) b h e q = fields_filled (f t) q
