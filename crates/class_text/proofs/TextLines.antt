-- A text as its whole lines, each with its line feed, and a tail without one.
--     cut_of      each text is such
--     first_lines      a text begins with all lines of each beginning of it
--     lines_of_text      the lines of lines
use Rattle.std.proofs.Common.{◌≡◌, ℕ, ◌+◌, Bool, true, false, refl, sym, ap, ◌∙◌, subst, arith, List, [], ◌∷◌, ◌++◌, length, flat_map, append_assoc, All}
use Rattle.std.specs.List.{slice_split, onto_first}
use Rattle.std.proofs.lemmas.List.{append-nil, length-append}
use Rattle.std.proofs.lemmas.List.Elements.{All-nil, All-cons, All-head, All-tail}
use Rattle.std.proofs.lemmas.List.Splits.{slice_split-cons_yes, slice_split-cons_no}
use Rattle.std.proofs.lemmas.Bool.{eqb-true}
use Rattle.ntfe_model.specs.Earlier.{but_last, whole_lines, with_feed}
use Rattle.class_text.proofs.Cuts.{is_feed}

-- no line feed stands in it
abbrev pub IsOneLine : List ℕ → Type 0
IsOneLine line = All (λ b. is_feed b ≡ false) line

-- the bytes of lines
abbrev pub fed : List (List ℕ) → List ℕ
fed lines = flat_map with_feed lines

abbrev pub sizes : List (List ℕ) → ℕ
sizes [] = 0
sizes (x ∷ xs) = length x + 1 + sizes xs

pub fed_size : (xs : List (List ℕ)) → length (fed xs) ≡ sizes xs
fed_size [] = refl
fed_size (x ∷ xs) = length-append (with_feed x) (fed xs) ∙ (λ i. length-append x (10 ∷ []) i + fed_size xs i)

pub sizes_append : (xs ys : List (List ℕ)) → sizes (xs ++ ys) ≡ sizes xs + sizes ys
sizes_append [] ys = omega arith
sizes_append (x ∷ xs) ys = let h = sizes_append xs ys in omega (arith, h)

-- ---- the cut of a text

pub record IsCut (bytes : List ℕ) (lines : List (List ℕ)) : Type 0 where
  pub tail : List ℕ
  pub parts : slice_split is_feed bytes ≡ lines ++ tail ∷ []
  pub each : All IsOneLine lines
  pub last : IsOneLine tail
  pub is : bytes ≡ fed lines ++ tail

cut_parts : (bytes : List ℕ) → (lines : List (List ℕ)) × IsCut bytes lines
cut_parts [] = ([], record { tail = []; parts = refl; each = All-nil IsOneLine; last = All-nil _; is = refl })
cut_parts (x ∷ xs) = by (is_feed x) refl (cut_parts xs)
  where
    by : (b : Bool) → is_feed x ≡ b → (lines : List (List ℕ)) × IsCut xs lines → (lines : List (List ℕ)) × IsCut (x ∷ xs) lines
    by true e (lines, c) = (
      [] ∷ lines,
      record {
        tail = c.tail;
        parts = slice_split-cons_yes is_feed x xs e ∙ ap (λ (t : List (List ℕ)). [] ∷ t) c.parts;
        each = All-cons IsOneLine [] lines (All-nil _) c.each;
        last = c.last;
        is = (let f : x ≡ 10 = eqb-true x 10 e in λ i. f i ∷ c.is i);
      },
    )
    by false e ([], c) = (
      [],
      record {
        tail = x ∷ c.tail;
        parts = slice_split-cons_no is_feed x xs e ∙ ap (onto_first x) c.parts;
        each = c.each;
        last = All-cons (λ b. is_feed b ≡ false) x c.tail e c.last;
        is = ap (λ (t : List ℕ). x ∷ t) c.is;
      },
    )
    by false e (line ∷ lines, c) = (
      (x ∷ line) ∷ lines,
      record {
        tail = c.tail;
        parts = slice_split-cons_no is_feed x xs e ∙ ap (onto_first x) c.parts;
        each = All-cons IsOneLine (x ∷ line) lines (All-cons (λ b. is_feed b ≡ false) x line e (All-head IsOneLine line lines c.each)) (All-tail IsOneLine line lines c.each);
        last = c.last;
        is = ap (λ (t : List ℕ). x ∷ t) c.is;
      },
    )

all_but : (xs : List (List ℕ)) (tail : List ℕ) → but_last (xs ++ tail ∷ []) ≡ xs
all_but [] tail = refl
all_but (x ∷ []) tail = refl
all_but (x ∷ y ∷ xs) tail = ap (λ (t : List (List ℕ)). x ∷ t) (all_but (y ∷ xs) tail)

pub cut_of : (bytes : List ℕ) → IsCut bytes (whole_lines bytes)
cut_of bytes = let c = cut_parts bytes in subst (IsCut bytes) (sym (ap but_last c.1.parts ∙ all_but c.0 c.1.tail)) c.1

-- ---- beginnings

same_line : (w x p q : List ℕ) → IsOneLine w → IsOneLine x → with_feed w ++ p ≡ with_feed x ++ q → (w ≡ x) × (p ≡ q)
same_line [] [] p q hw hx e = (refl, rest e)
  where
    rest : 10 ∷ p ≡ 10 ∷ q → p ≡ q
    rest f = cc
same_line [] (x ∷ xs) p q hw hx e = absurd (let f : 10 ≡ x = first e in let g : is_feed x ≡ true = subst (λ z. is_feed z ≡ true) f refl in let h = All-head (λ b. is_feed b ≡ false) x xs hx in cc)
  where
    first : 10 ∷ p ≡ x ∷ (with_feed xs ++ q) → 10 ≡ x
    first f = cc
same_line (w ∷ ws) [] p q hw hx e = absurd (let f : 10 ≡ w = first e in let g : is_feed w ≡ true = subst (λ z. is_feed z ≡ true) f refl in let h = All-head (λ b. is_feed b ≡ false) w ws hw in cc)
  where
    first : w ∷ (with_feed ws ++ p) ≡ 10 ∷ q → 10 ≡ w
    first f = cc
same_line (w ∷ ws) (x ∷ xs) p q hw hx e =
    let r = same_line ws xs p q (All-tail (λ b. is_feed b ≡ false) w ws hw) (All-tail (λ b. is_feed b ≡ false) x xs hx) (rest e) in
    let f = first e in
    ((λ i. f i ∷ r.0 i), r.1)
  where
    first : w ∷ (with_feed ws ++ p) ≡ x ∷ (with_feed xs ++ q) → w ≡ x
    first f = cc

    rest : w ∷ (with_feed ws ++ p) ≡ x ∷ (with_feed xs ++ q) → with_feed ws ++ p ≡ with_feed xs ++ q
    rest f = cc

some_fed : (w t : List ℕ) → with_feed w ++ t ≡ [] → ⊥
some_fed [] t e = cc
some_fed (b ∷ w) t e = cc

pub first_lines : (ws xs : List (List ℕ)) (rest : List ℕ) → All IsOneLine ws → All IsOneLine xs → fed ws ++ rest ≡ fed xs → (more : List (List ℕ)) × (xs ≡ ws ++ more)
first_lines [] xs rest hw hx e = (xs, refl)
first_lines (w ∷ ws) [] rest hw hx e = absurd (some_fed w (fed ws ++ rest) (sym (append_assoc (with_feed w) (fed ws) rest) ∙ e))
first_lines (w ∷ ws) (x ∷ xs) rest hw hx e =
    let s = same_line w x (fed ws ++ rest) (fed xs) (All-head IsOneLine w ws hw) (All-head IsOneLine x xs hx) (sym (append_assoc (with_feed w) (fed ws) rest) ∙ e) in
    let r = first_lines ws xs rest (All-tail IsOneLine w ws hw) (All-tail IsOneLine x xs hx) s.1 in
    (r.0, (λ i. sym s.0 i ∷ r.1 i))

-- ---- texts that end with a line feed

abbrev pub EndsFed : List ℕ → Type 0
EndsFed bytes = (front : List ℕ) × (bytes ≡ front ++ 10 ∷ [])

pub ends_after : (xs ys : List ℕ) → EndsFed ys → EndsFed (xs ++ ys)
ends_after xs ys (front, e) = (xs ++ front, ap (λ (t : List ℕ). xs ++ t) e ∙ sym (append_assoc xs front (10 ∷ [])))

not_one : (front : List ℕ) → IsOneLine (front ++ 10 ∷ []) → ⊥
not_one [] h = let g = All-head (λ b. is_feed b ≡ false) 10 [] h in cc
not_one (x ∷ front) h = not_one front (All-tail (λ b. is_feed b ≡ false) x (front ++ 10 ∷ []) h)

no_tail : (xs tail front : List ℕ) → xs ++ tail ≡ front ++ 10 ∷ [] → IsOneLine tail → tail ≡ []
no_tail [] tail front e h = absurd (not_one front (subst IsOneLine e h))
no_tail (x ∷ xs) tail [] e h = none xs tail (rest e)
  where
    rest : x ∷ (xs ++ tail) ≡ 10 ∷ [] → xs ++ tail ≡ []
    rest f = cc

    none : (ys zs : List ℕ) → ys ++ zs ≡ [] → zs ≡ []
    none [] zs f = f
    none (y ∷ ys) zs f = cc
no_tail (x ∷ xs) tail (y ∷ front) e h = no_tail xs tail front (rest e) h
  where
    rest : x ∷ (xs ++ tail) ≡ y ∷ (front ++ 10 ∷ []) → xs ++ tail ≡ front ++ 10 ∷ []
    rest f = cc

-- such a text is its whole lines
pub whole_text : (bytes : List ℕ) → EndsFed bytes → bytes ≡ fed (whole_lines bytes)
whole_text bytes (front, e) =
    let c = cut_of bytes in
    c.is ∙ ap (λ (t : List ℕ). fed (whole_lines bytes) ++ t) (no_tail (fed (whole_lines bytes)) c.tail front (sym c.is ∙ e) c.last) ∙ append-nil (fed (whole_lines bytes))
