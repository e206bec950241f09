-- The canonical lines of a pair are a text of it.
use Rattle.std.proofs.Common.{◌≡◌, ◌≢◌, ℕ, zero, suc, ◌+◌, ◌-◌, ◌<◌, ◌≤◌, ◌^◌, true, false, not, ℤ, pos, negsuc, neg_ℤ, ◌≤ℤ◌, List, [], ◌∷◌, ◌++◌, length, get_or, filter, flat_map, Some, option_map, refl, sym, ap, ◌∙◌, append_assoc, arith, lit<, lit≤, All}
use Rattle.std.specs.Prelude.{codes, decimal}
use Rattle.std.specs.Fmt.{signed_decimal}
use Rattle.std.specs.Char.{is_ascii_digit}
use Rattle.std.specs.Str.{all_ascii_digits}
use Rattle.std.specs.Str.Lines.{strip_carriage_return}
use Rattle.std.specs.Str.Parse.{digits_value}
use Rattle.std.specs.List.{AllZip, AllByRecursion, onto_first}
use Rattle.std.proofs.lemmas.Int.{ints}
use Rattle.std.proofs.lemmas.Bool.{and_parts, ne_eqb, leb-true, or_from}
use Rattle.std.proofs.lemmas.List.{append-nil}
use Rattle.std.proofs.lemmas.List.Splits.{slice_split_none, slice_split_at}
use Rattle.std.proofs.lemmas.Str.Parse.{IsNumeralModel, numerals_by_value, tells_all_ascii_digits}
use Rattle.std.proofs.lemmas.Fmt.{digits_decimal, digits_value-decimal, decimal_nonempty}
use Rattle.ntfe_nums.specs.Vectors.{Vector}
use Rattle.ntfe_model.specs.Pairs.{VertexLists, IsSmall, IsBoundedList, IsBounded}
use Rattle.ntfe_model.specs.RunText.{vector_line, list_lines, pair_lines, spaced}
use Rattle.ntfe_model.specs.PairText.{Line, lines, fields, is_blank, is_filled, is_skipped, unskipped, magnitude, number, IsCountLine, IsVectorLine, AreListLines, IsPairText}
use Rattle.pair_text.proofs.Caps.{numbers-of}
use Rattle.pair_text.proofs.Splitting.{is_filled-from}
use Rattle.pair_text.proofs.Faults.{list_lines as list_lines_are}

-- ---- digits

pub own : IsNumeralModel (λ ds. all_ascii_digits ds ≡ true) (digits_value 10)
own = numerals_by_value (λ ds. all_ascii_digits ds ≡ true) tells_all_ascii_digits

magnitude_digits : (ds : List ℕ) → all_ascii_digits ds ≡ true → 0 < length ds → magnitude ds ≡ Some (digits_value 10 ds)
magnitude_digits ds h l = rw (is_filled-from ds l, h) refl

number_digits : (ds : List ℕ) → all_ascii_digits ds ≡ true → 0 < length ds → number ds ≡ Some (pos (digits_value 10 ds))
number_digits [] h l = absurd (omega arith)
number_digits (b ∷ ds) h l =
    let digit = and_parts (is_ascii_digit b) (all_ascii_digits ds) h in
    let range = and_parts _ _ digit.0 in
    let low : 48 ≤ b = leb-true 48 b range.0 in
    rw (ne_eqb b 43 (λ e. absurd (omega arith)), ne_eqb b 45 (λ e. absurd (omega arith))) (ap (option_map pos) (magnitude_digits (b ∷ ds) h l))

number_decimal : (n : ℕ) → n < 2 ^ 64 → number (decimal n) ≡ Some (pos n)
number_decimal n h = number_digits (decimal n) (digits_decimal own n h) (decimal_nonempty n h) ∙ ap (λ (k : ℕ). Some (pos k)) (digits_value-decimal own n h)

number_signed : (z : ℤ) → negsuc 1022 ≤ℤ z → z ≤ℤ pos 1023 → number (signed_decimal z) ≡ Some z
number_signed (pos n) low high = number_decimal n (omega (arith, ints, high))
number_signed (negsuc n) low high =
    let h : suc n < 2 ^ 64 = omega (arith, ints, low) in
    ap (option_map (λ k. neg_ℤ (pos k))) (magnitude_digits (decimal (suc n)) (digits_decimal own (suc n) h) (decimal_nonempty (suc n) h) ∙ ap Some (digits_value-decimal own (suc n) h))

-- ---- fields without blanks, line ends and a comment's sign

record IsClean (field : List ℕ) : Type 0 where
  some : 0 < length field
  above : AllByRecursion (λ b. 36 ≤ b) field

digits_above : (ds : List ℕ) → all_ascii_digits ds ≡ true → AllByRecursion (λ b. 36 ≤ b) ds
digits_above [] h = tt
digits_above (b ∷ ds) h =
    let digit = and_parts (is_ascii_digit b) (all_ascii_digits ds) h in
    let range = and_parts _ _ digit.0 in
    let low : 48 ≤ b = leb-true 48 b range.0 in
    (omega arith, digits_above ds digit.1)

clean_decimal : (n : ℕ) → n < 2 ^ 64 → IsClean (decimal n)
clean_decimal n h = record { some = decimal_nonempty n h; above = digits_above (decimal n) (digits_decimal own n h) }

clean_signed : (z : ℤ) → negsuc 1022 ≤ℤ z → z ≤ℤ pos 1023 → IsClean (signed_decimal z)
clean_signed (pos n) low high = clean_decimal n (omega (arith, ints, high))
clean_signed (negsuc n) low high =
    let h : suc n < 2 ^ 64 = omega (arith, ints, low) in
    record { some = omega arith; above = (omega arith, digits_above (decimal (suc n)) (digits_decimal own (suc n) h)) }

no_blanks : (xs : List ℕ) → AllByRecursion (λ b. 36 ≤ b) xs → All (λ b. is_blank b ≡ false) xs
no_blanks [] h k d l = absurd (omega arith)
no_blanks (x ∷ xs) h zero d l = or_from _ _ (ne_eqb x 32 (λ e. absurd (omega (arith, h.0)))) (ne_eqb x 9 (λ e. absurd (omega (arith, h.0))))
no_blanks (x ∷ xs) h (suc k) d l = no_blanks xs h.1 k d (omega arith)

fields_last : (f : List ℕ) → IsClean f → fields f ≡ f ∷ []
fields_last f h = ap (filter is_filled) (slice_split_none is_blank f (no_blanks f h.above)) ∙ rw (is_filled-from f h.some) refl

fields_more : (f rest : List ℕ) → IsClean f → fields (f ++ 32 ∷ rest) ≡ f ∷ fields rest
fields_more f rest h = ap (filter is_filled) (slice_split_at is_blank f 32 rest (no_blanks f h.above) refl) ∙ rw (is_filled-from f h.some) refl

not_comment : (f : List ℕ) (more : List (List ℕ)) → IsClean f → is_skipped (f ∷ more) ≡ false
not_comment [] more h = absurd (let l : 0 < 0 = h.some in omega arith)
not_comment (b ∷ f) more h = ne_eqb b 35 (λ e. absurd (omega (arith, h.above.0)))

-- ---- lines

-- no line end
abbrev IsContent : List ℕ → Type 0
IsContent xs = AllByRecursion (λ b. (b ≢ 10) × (b ≢ 13)) xs

content_append : (xs ys : List ℕ) → IsContent xs → IsContent ys → IsContent (xs ++ ys)
content_append [] ys g h = h
content_append (x ∷ xs) ys g h = (g.0, content_append xs ys g.1 h)

content_clean : (xs : List ℕ) → AllByRecursion (λ b. 36 ≤ b) xs → IsContent xs
content_clean [] h = tt
content_clean (x ∷ xs) h = ((λ e. absurd (omega (arith, h.0)), λ e. absurd (omega (arith, h.0))), content_clean xs h.1)

content_more : (f rest : List ℕ) → IsClean f → IsContent rest → IsContent (f ++ 32 ∷ rest)
content_more f rest h g = content_append f (32 ∷ rest) (content_clean f h.above) ((λ e. absurd (omega arith), λ e. absurd (omega arith)), g)

lines_more : (xs more : List ℕ) → IsContent xs → lines (xs ++ 10 ∷ more) ≡ xs ∷ lines more
lines_more [] more h = refl
lines_more (x ∷ xs) more h = rw (ne_eqb x 10 h.0.0) (ap (onto_first x) (lines_more xs more h.1))

no_return : (xs : List ℕ) (k : ℕ) → IsContent xs → get_or xs k 0 ≢ 13
no_return [] k h = λ e. absurd (omega arith)
no_return (x ∷ xs) zero h = h.0.1
no_return (x ∷ xs) (suc k) h = no_return xs k h.1

strip_content : (xs : List ℕ) → IsContent xs → strip_carriage_return xs ≡ xs
strip_content xs h = rw (ne_eqb (get_or xs (length xs - 1) 0) 13 (no_return xs (length xs - 1) h)) refl

line_more : (before : ℕ) (xs more : List ℕ) (fs : List (List ℕ)) → IsContent xs → fields xs ≡ fs → is_skipped fs ≡ false
    → unskipped before (lines (xs ++ 10 ∷ more)) ≡ record { number = before + 1; fields = fs } ∷ unskipped (before + 1) (lines more)
line_more before xs more fs h e s =
    ap (unskipped before) (lines_more xs more h) ∙ rw (strip_content xs h, e, s) refl

-- ---- the lines of a list

abbrev vector_content : Vector → List ℕ
vector_content v = signed_decimal v.x1 ++ 32 ∷ (signed_decimal v.x2 ++ 32 ∷ (signed_decimal v.x3 ++ 32 ∷ signed_decimal v.x4))

abbrev vector_fields : Vector → List (List ℕ)
vector_fields v = signed_decimal v.x1 ∷ signed_decimal v.x2 ∷ signed_decimal v.x3 ∷ signed_decimal v.x4 ∷ []

regroup : (a b c d e more : List ℕ) → (a ++ b ++ c ++ d ++ e) ++ more ≡ (a ++ (b ++ (c ++ d))) ++ (e ++ more)
regroup a b c d e more = simp append_assoc

vector_line_is : (v : Vector) (more : List ℕ) → vector_line v ++ more ≡ vector_content v ++ 10 ∷ more
vector_line_is v more = regroup (signed_decimal v.x1) (spaced (signed_decimal v.x2)) (spaced (signed_decimal v.x3)) (spaced (signed_decimal v.x4)) (10 ∷ []) more

vector_read : (v : Vector) (before : ℕ) (more : List ℕ) → IsSmall v → unskipped before (lines (vector_line v ++ more)) ≡ record { number = before + 1; fields = vector_fields v } ∷ unskipped (before + 1) (lines more)
vector_read v before more s =
    let c1 = clean_signed v.x1 s.low1 s.high1 in
    let c2 = clean_signed v.x2 s.low2 s.high2 in
    let c3 = clean_signed v.x3 s.low3 s.high3 in
    let c4 = clean_signed v.x4 s.low4 s.high4 in
    let d1 = signed_decimal v.x1 in
    let d2 = signed_decimal v.x2 in
    let d3 = signed_decimal v.x3 in
    let d4 = signed_decimal v.x4 in
    let content = content_more d1 (d2 ++ 32 ∷ (d3 ++ 32 ∷ d4)) c1 (content_more d2 (d3 ++ 32 ∷ d4) c2 (content_more d3 d4 c3 (content_clean d4 c4.above))) in
    let fields_are : fields (vector_content v) ≡ vector_fields v =
    fields_more d1 (d2 ++ 32 ∷ (d3 ++ 32 ∷ d4)) c1
    ∙ ap (λ (l : List (List ℕ)). d1 ∷ l)
    (fields_more d2 (d3 ++ 32 ∷ d4) c2 ∙ ap (λ (l : List (List ℕ)). d2 ∷ l) (fields_more d3 d4 c3 ∙ ap (λ (l : List (List ℕ)). d3 ∷ l) (fields_last d4 c4))) in
    ap (λ (t : List ℕ). unskipped before (lines t)) (vector_line_is v more)
    ∙ line_more before (vector_content v) more (vector_fields v) content fields_are (not_comment d1 (d2 ∷ d3 ∷ d4 ∷ []) c1)

vector_is : (v : Vector) (n : ℕ) → IsSmall v → IsVectorLine (record { number = n; fields = vector_fields v }) v
vector_is v n s = record {
  numbers_are = numbers-of _ _ _ _ v (number_signed v.x1 s.low1 s.high1) (number_signed v.x2 s.low2 s.high2) (number_signed v.x3 s.low3 s.high3) (number_signed v.x4 s.low4 s.high4);
  small = s;
}

-- behind so many lines, a text is lines with P and what more follows
record Reads (P : List Line → Type 0) (before : ℕ) (text more : List ℕ) : Type 0 where
  behind : ℕ
  these : List Line
  lines_are : unskipped before (lines (text ++ more)) ≡ these ++ unskipped behind (lines more)
  is : P these

vectors_read : (vs : List Vector) (before : ℕ) (more : List ℕ) → All IsSmall vs → Reads (λ these. AllZip IsVectorLine these vs) before (flat_map vector_line vs) more
vectors_read [] before more s = record { behind = before; these = []; lines_are = refl; is = tt }
vectors_read (v ∷ vs) before more s =
    let small : IsSmall v = s 0 v (omega arith) in
    let r = vectors_read vs (before + 1) more (λ k d l. s (suc k) d (omega arith)) in
    let line : Line = record { number = before + 1; fields = vector_fields v } in
    record {
      behind = r.behind;
      these = line ∷ r.these;
      lines_are = ap (λ (t : List ℕ). unskipped before (lines t)) (append_assoc (vector_line v) (flat_map vector_line vs) more)
          ∙ vector_read v before (flat_map vector_line vs ++ more) small ∙ ap (λ (l : List Line). line ∷ l) r.lines_are;
      is = (vector_is v (before + 1) small, r.is);
    }

regroup_list : (a b c d more : List ℕ) → ((a ++ (b ++ []) ++ c) ++ d) ++ more ≡ (a ++ b) ++ (c ++ (d ++ more))
regroup_list a b c d more = simp (append-nil, append_assoc)

list_text_is : (word : List ℕ) (vs : List Vector) (more : List ℕ) → list_lines word vs ++ more ≡ (word ++ 32 ∷ decimal (length vs)) ++ 10 ∷ (flat_map vector_line vs ++ more)
list_text_is word vs more = regroup_list word (spaced (decimal (length vs))) (10 ∷ []) (flat_map vector_line vs) more

list_read : (word : List ℕ) (vs : List Vector) (before : ℕ) (more : List ℕ) → IsClean word → IsBoundedList vs → Reads (AreListLines word vs) before (list_lines word vs) more
list_read word vs before more c b =
    let n = length vs in
    let small : n < 2 ^ 64 = omega (arith, b.at_most) in
    let digits = clean_decimal n small in
    let r = vectors_read vs (before + 1) more b.small in
    let head : Line = record { number = before + 1; fields = word ∷ decimal n ∷ [] } in
    let count : IsCountLine word n head = record { field = decimal n; fields_are = refl; number_is = number_decimal n small } in
    record {
      behind = r.behind;
      these = head ∷ r.these;
      lines_are = ap (λ (t : List ℕ). unskipped before (lines t)) (list_text_is word vs more)
          ∙ line_more before (word ++ 32 ∷ decimal n) (flat_map vector_line vs ++ more) (word ∷ decimal n ∷ []) (content_more word (decimal n) c (content_clean (decimal n) digits.above))
          (fields_more word (decimal n) c ∙ ap (λ (l : List (List ℕ)). word ∷ l) (fields_last (decimal n) digits)) (not_comment word (decimal n ∷ []) c)
          ∙ ap (λ (l : List Line). head ∷ l) r.lines_are;
      is = list_lines_are word head r.these vs n count b.at_least b.at_most r.is refl;
    }

clean_vertices : IsClean (codes "vertices")
clean_vertices = record { some = lit< tt; above = (lit≤ tt, (lit≤ tt, (lit≤ tt, (lit≤ tt, (lit≤ tt, (lit≤ tt, (lit≤ tt, (lit≤ tt, tt)))))))) }

clean_dual : IsClean (codes "dual")
clean_dual = record { some = lit< tt; above = (lit≤ tt, (lit≤ tt, (lit≤ tt, (lit≤ tt, tt)))) }

pub pair_text : (p : VertexLists) → IsBounded p → IsPairText (pair_lines p) p
pair_text p b =
    let r = list_read (codes "vertices") p.vertices 0 (list_lines (codes "dual") p.dual) clean_vertices b.vertices in
    let s = list_read (codes "dual") p.dual r.behind [] clean_dual b.dual in
    record {
      first = r.these;
      second = s.these;
      lines_are = r.lines_are
          ∙ ap (λ (l : List Line). r.these ++ l) (ap (λ (t : List ℕ). unskipped r.behind (lines t)) (sym (append-nil (list_lines (codes "dual") p.dual))) ∙ s.lines_are ∙ append-nil s.these);
      vertices = r.is;
      dual = s.is;
    }
