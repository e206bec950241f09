-- One use of an argument of the command line.
use Rattle.std.proofs.Common.{◌≡◌, ◌∙◌, ◌&&◌, ◌||◌, ℕ, Bool, cond, true, false, List, [], ◌∷◌, ◌++◌, codes, Option, Some, None, is_some, refl, sym, ap, subst}
use Rattle.std.specs.Str.{bytes_eq}
use Rattle.clap.specs.Walk.{Row, Rule, arg_by_id, arg_by_long, used}
use Rattle.clap.specs.Faults.{use_fault}
use Rattle.clap.specs.Kinds.{Kinds, or_else}
use Rattle.clap.specs.declared.error.kind.ErrorKind.TheVariants as kind
use Rattle.ntfe_words.specs.CommandLine.{Text, is_option}
use Rattle.ntfe_words.proofs.Rows.{seek, use_row, used-absent, has_row-is, eq_swap, same_text}
use Rattle.ntfe_words.proofs.Grammar.{single, single_option, flag, rules}

-- a second use is refused
abbrev pub repeat : Option Row → Kinds
repeat None = []
repeat (Some row) = kind.ArgumentConflict ∷ []

repeat-is : (o : Option Row) → or_else (cond (is_some o && true) (kind.ArgumentConflict ∷ []) []) [] ≡ repeat o
repeat-is None = refl
repeat-is (Some row) = refl

pub single-fault : (id : Text) (long : Option Text) (place : Option ℕ) (value : Text) (rows : List Row)
    → use_fault false (single id long place) (value ∷ []) rows ≡ repeat (seek id rows)
single-fault id long place value rows = ap (λ b. or_else (cond (b && true) (kind.ArgumentConflict ∷ []) []) []) (has_row-is id rows) ∙ repeat-is (seek id rows)

pub flag-fault : (rows : List Row) → use_fault false flag [] rows ≡ repeat (seek (codes "stars") rows)
flag-fault rows = ap (λ b. or_else (cond (b && true) (kind.ArgumentConflict ∷ []) []) []) (has_row-is (codes "stars") rows) ∙ repeat-is (seek (codes "stars") rows)

pub single-rows : (id : Text) (long : Option Text) (place : Option ℕ) (value : Text) (rows : List Row) → seek id rows ≡ None
    → used (single id long place) (value ∷ []) rows ≡ rows ++ use_row id (Some value) ∷ []
single-rows id long place value rows none = used-absent id (Some value) rows none

pub flag-rows : (rows : List Row) → seek (codes "stars") rows ≡ None → used flag [] rows ≡ rows ++ use_row (codes "stars") None ∷ []
flag-rows rows none = used-absent (codes "stars") None rows none

-- ---- which option a name is

pub data Known (n : Text) : Type 0 where
  valued : is_option n ≡ true → bytes_eq n (codes "stars") ≡ false → arg_by_long rules n ≡ Some (single_option n) → arg_by_id rules n ≡ Some (single_option n) → Known n
  starred : n ≡ codes "stars" → Known n
  unknown : is_option n ≡ false → arg_by_long rules n ≡ None → Known n

abbrev by_names : Bool → Bool → Bool → Bool → Bool → Option Rule
by_names w l i p s = cond (w || false) (Some (single_option (codes "workers"))) (cond (l || false) (Some (single_option (codes "limit")))
    (cond (i || false) (Some (single_option (codes "width"))) (cond (p || false) (Some (single_option (codes "push"))) (cond (s || false) (Some flag) None))))

abbrev is_one : Bool → Bool → Bool → Bool → Bool → Bool
is_one w l i p s = (w || i) || (l || (p || s))

pub known : (n : Text) → Known n
known n = workers (bytes_eq n (codes "workers")) refl
  where
    none_of : bytes_eq n (codes "workers") ≡ false → bytes_eq n (codes "limit") ≡ false → bytes_eq n (codes "width") ≡ false → bytes_eq n (codes "push") ≡ false
        → bytes_eq n (codes "stars") ≡ false → Known n
    none_of w l i p s =
        unknown (λ k. is_one (w k) (l k) (i k) (p k) (s k))
        (λ k. by_names ((eq_swap (codes "workers") n ∙ w) k) ((eq_swap (codes "limit") n ∙ l) k) ((eq_swap (codes "width") n ∙ i) k) ((eq_swap (codes "push") n ∙ p) k) ((eq_swap (codes "stars") n ∙ s) k))

    stars : bytes_eq n (codes "workers") ≡ false → bytes_eq n (codes "limit") ≡ false → bytes_eq n (codes "width") ≡ false → bytes_eq n (codes "push") ≡ false
        → (b : Bool) → bytes_eq n (codes "stars") ≡ b → Known n
    stars w l i p true e = starred (same_text n _ e)
    stars w l i p false e = none_of w l i p e

    push : bytes_eq n (codes "workers") ≡ false → bytes_eq n (codes "limit") ≡ false → bytes_eq n (codes "width") ≡ false → (b : Bool) → bytes_eq n (codes "push") ≡ b → Known n
    push w l i true e = subst Known (sym (same_text n (codes "push") e)) (valued refl refl refl refl)
    push w l i false e = stars w l i e (bytes_eq n (codes "stars")) refl

    width : bytes_eq n (codes "workers") ≡ false → bytes_eq n (codes "limit") ≡ false → (b : Bool) → bytes_eq n (codes "width") ≡ b → Known n
    width w l true e = subst Known (sym (same_text n (codes "width") e)) (valued refl refl refl refl)
    width w l false e = push w l e (bytes_eq n (codes "push")) refl

    limit : bytes_eq n (codes "workers") ≡ false → (b : Bool) → bytes_eq n (codes "limit") ≡ b → Known n
    limit w true e = subst Known (sym (same_text n (codes "limit") e)) (valued refl refl refl refl)
    limit w false e = width w e (bytes_eq n (codes "width")) refl

    workers : (b : Bool) → bytes_eq n (codes "workers") ≡ b → Known n
    workers true e = subst Known (sym (same_text n (codes "workers") e)) (valued refl refl refl refl)
    workers false e = limit e (bytes_eq n (codes "limit")) refl
