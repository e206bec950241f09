-- Lists of fields, taken one after another.
use Rattle.std.proofs.Common.{◌≡◌, ℕ, ◌+◌, ◌<◌, ◌≤◌, ◌^◌, false, ℤ, unsigned_abs, List, [], ◌∷◌, ◌++◌, length, get_or, map, flat_map, drop, refl, sym, ap, ◌∙◌, arith, All}
use Rattle.std.specs.Prelude.{decimal, codes}
use Rattle.std.specs.Fmt.{signed_decimal}
use Rattle.std.proofs.lemmas.List.{append-nil, length-map, get_or-map, drop_more, drop_all}
use Rattle.std.proofs.lemmas.List.Elements.{All-weaker, All-map, All-head, All-tail, All-cons, All-nil}
use Rattle.ntfe_model.specs.RunText.{spaced}
use Rattle.ntfe_model.specs.Earlier.{Layout, with_feed, IsHeightsLine}
use Rattle.class_text.specs.Fields.{fields_of, IsNumber, IsNoNumber, AreNumbers, IsHeight, AreHeights}
use Rattle.class_text.specs.NumberLines.{IsNumberLine, has_space}
use Rattle.class_text.proofs.Decimals.{same_number}
use Rattle.class_text.proofs.LineFields.{line_fields, fields_line, same_front, feed_off, no_space_in_decimal, no_space_in_signed}

-- where fewer than all fields are taken, the next one is the next of them
next_of : (i : ℕ) (xs ys fields mid others : List (List ℕ)) → fields ≡ xs ++ mid → fields ≡ ys ++ others → length xs ≡ i → i < length ys
    → mid ≡ get_or ys i [] ∷ (drop (i + 1) ys ++ others)
next_of i xs ys fields mid others e f l h =
    let rest = same_front xs ys mid others (sym e ∙ f) (omega (arith, l)) in
    rest ∙ ap (λ k. drop k ys ++ others) l ∙ ap (λ (zs : List (List ℕ)). zs ++ others) (drop_more ys i [] h)

-- where all are taken, nothing is left
none_of : (xs ys fields rest : List (List ℕ)) → fields ≡ xs ++ rest → fields ≡ ys ++ [] → length xs ≡ length ys → rest ≡ []
none_of xs ys fields rest e f l =
    same_front xs ys rest [] (sym e ∙ f) (omega (arith, l)) ∙ append-nil (drop (length xs) ys) ∙ drop_all (length xs) ys (omega (arith, l))

-- ---- numbers

next_number : (i count limit : ℕ) (ns ms : List ℕ) (fields mid others : List (List ℕ)) → AreNumbers i limit ns fields mid → i < count → AreNumbers count limit ms fields others
    → (n : ℕ) × (more : List (List ℕ)) × (n < limit) × (mid ≡ decimal n ∷ more)
next_number i count limit ns ms fields mid others a h b =
    let texts = map decimal ms in
    let long : i < length texts = omega (arith, length-map ms decimal, b.count_is) in
    let e = next_of i (map decimal ns) texts fields mid others a.are b.are (length-map ns decimal ∙ a.count_is) long in (
      get_or ms i 0,
      drop (i + 1) texts ++ others,
      b.below i 0 (omega (arith, b.count_is)),
      e ∙ ap (λ (t : List ℕ). t ∷ (drop (i + 1) texts ++ others)) (get_or-map decimal ms i 0 [] (omega (arith, b.count_is))),
    )

pub no_number : (i count limit : ℕ) (ns ms : List ℕ) (fields mid others : List (List ℕ)) → limit ≤ 2 ^ 32 → AreNumbers i limit ns fields mid → i < count → IsNoNumber mid
    → ¬ (AreNumbers count limit ms fields others)
no_number i count limit ns ms fields mid others l a h none b =
    let n = next_number i count limit ns ms fields mid others a h b in
    none n.0 n.1 (record { below = (let k : n.0 < limit = n.2 in omega arith); are = n.3 })

pub large_number : (i count limit number : ℕ) (ns ms : List ℕ) (fields mid more others : List (List ℕ)) → limit ≤ 2 ^ 32 → AreNumbers i limit ns fields mid → i < count
    → IsNumber number mid more → limit ≤ number → ¬ (AreNumbers count limit ms fields others)
large_number i count limit number ns ms fields mid more others l a h is large b =
    let n = next_number i count limit ns ms fields mid others a h b in
    let k : n.0 < limit = n.2 in
    let e : decimal number ≡ decimal n.0 = (let t : decimal number ∷ more ≡ decimal n.0 ∷ n.1 = sym is.are ∙ n.3 in cc) in
    let same = same_number (decimal number) number n.0 is.below (omega arith) refl e in
    omega arith

pub numbers_taken : (count limit : ℕ) (ns ms : List ℕ) (fields rest : List (List ℕ)) → AreNumbers count limit ns fields rest → AreNumbers count limit ms fields [] → rest ≡ []
numbers_taken count limit ns ms fields rest a b =
    none_of (map decimal ns) (map decimal ms) fields rest a.are b.are (length-map ns decimal ∙ a.count_is ∙ sym b.count_is ∙ sym (length-map ms decimal))

-- ---- heights

pub no_height : (i count : ℕ) (fields mid others : List (List ℕ)) → AreHeights i fields mid → i < count → ((field : List ℕ) (more : List (List ℕ)) → mid ≡ field ∷ more → ¬ (IsHeight field))
    → ¬ (AreHeights count fields others)
no_height i count fields mid others a h none b =
    let e = next_of i a.these b.these fields mid others a.are b.are a.count_is (omega (arith, b.count_is)) in
    none _ _ e (b.heights i [] (omega (arith, b.count_is)))

pub heights_taken : (count : ℕ) (fields rest : List (List ℕ)) → AreHeights count fields rest → AreHeights count fields [] → rest ≡ []
heights_taken count fields rest a b = none_of a.these b.these fields rest a.are b.are (a.count_is ∙ sym b.count_is)

-- ---- whole lines

cut_feed : (line front : List ℕ) → with_feed line ≡ front ++ 10 ∷ [] → line ≡ front
cut_feed line front e = feed_off line front e

pub fields_of_numbers : (word line ns : List ℕ) (count limit : ℕ) → has_space word ≡ false → limit ≤ 2 ^ 32 → IsNumberLine word count limit line ns → fields_of line ≡ word ∷ map decimal ns
fields_of_numbers word line ns count limit w l is =
    let small = All-weaker (λ n. n < limit) (λ n. has_space (decimal n) ≡ false) (λ n h. no_space_in_decimal n (omega arith)) ns is.below in
    let front : List ℕ = word ++ flat_map (λ n. spaced (decimal n)) ns in
    ap fields_of (cut_feed line front is.is) ∙ line_fields decimal word ns w small

pub same_tail : (word : List ℕ) (xs ys : List (List ℕ)) → word ∷ xs ≡ word ∷ ys → xs ≡ ys
same_tail word xs ys e = ap (drop 1) e

pub line_numbers : (word line ns : List ℕ) (count limit : ℕ) (others : List (List ℕ)) → has_space word ≡ false → limit ≤ 2 ^ 32 → fields_of line ≡ word ∷ others → IsNumberLine word count limit line ns
    → AreNumbers count limit ns others []
line_numbers word line ns count limit others w l e is = record {
  count_is = is.count_is;
  below = is.below;
  are = same_tail word others _ (sym e ∙ fields_of_numbers word line ns count limit w l is) ∙ sym (append-nil (map decimal ns));
}

pub numbers_line : (word line ns : List ℕ) (count limit : ℕ) (others rest : List (List ℕ)) → fields_of line ≡ word ∷ others → AreNumbers count limit ns others rest → rest ≡ []
    → IsNumberLine word count limit line ns
numbers_line word line ns count limit others rest e a z =
    let are : others ≡ map decimal ns = a.are ∙ ap (λ (r : List (List ℕ)). map decimal ns ++ r) z ∙ append-nil (map decimal ns) in
    record {
      is = ap with_feed (fields_line decimal line word ns (e ∙ ap (λ (r : List (List ℕ)). word ∷ r) are));
      count_is = a.count_is;
      below = a.below;
    }

heights_of : (these : List (List ℕ)) → All IsHeight these → (hs : List ℤ) × (these ≡ map signed_decimal hs) × (length hs ≡ length these) × All (λ h. unsigned_abs h < 2 ^ 62) hs
heights_of [] a = ([], refl, refl, All-nil _)
heights_of (field ∷ these) a =
    let h = All-head IsHeight field these a in
    let r = heights_of these (All-tail IsHeight field these a) in
    (h.height ∷ r.0, (λ i. h.is i ∷ r.1 i), omega (arith, r.2), All-cons (λ z. unsigned_abs z < 2 ^ 62) h.height r.0 h.size r.3)

pub heights_line : (l : Layout) (line : List ℕ) (others rest : List (List ℕ)) → fields_of line ≡ codes "heights" ∷ others → AreHeights l.points others rest → rest ≡ [] → IsHeightsLine l line
heights_line l line others rest e a z =
    let r = heights_of a.these a.heights in
    let are : others ≡ map signed_decimal r.0 = a.are ∙ ap (λ (xs : List (List ℕ)). a.these ++ xs) z ∙ append-nil a.these ∙ r.1 in
    record {
      heights = r.0;
      is = ap with_feed (fields_line signed_decimal line (codes "heights") r.0 (e ∙ ap (λ (xs : List (List ℕ)). codes "heights" ∷ xs) are));
      points = r.2 ∙ a.count_is;
      sizes = r.3;
    }

pub fields_of_heights : (l : Layout) (line : List ℕ) (h : IsHeightsLine l line) → fields_of line ≡ codes "heights" ∷ map signed_decimal h.heights
fields_of_heights l line h =
    let small = All-weaker (λ z. unsigned_abs z < 2 ^ 62) (λ z. has_space (signed_decimal z) ≡ false) (λ z k. no_space_in_signed z (omega arith)) h.heights h.sizes in
    let front : List ℕ = codes "heights" ++ flat_map (λ z. spaced (signed_decimal z)) h.heights in
    ap fields_of (cut_feed line front h.is) ∙ line_fields signed_decimal (codes "heights") h.heights refl small

pub line_heights : (l : Layout) (line : List ℕ) (others : List (List ℕ)) → fields_of line ≡ codes "heights" ∷ others → IsHeightsLine l line → AreHeights l.points others []
line_heights l line others e h =
    let are = same_tail (codes "heights") others _ (sym e ∙ fields_of_heights l line h) in
    record {
      these = map signed_decimal h.heights;
      count_is = length-map h.heights signed_decimal ∙ h.points;
      heights = All-map IsHeight signed_decimal h.heights (All-weaker (λ z. unsigned_abs z < 2 ^ 62) (λ z. IsHeight (signed_decimal z)) (λ z k. record { height = z; size = k; is = refl }) h.heights h.sizes);
      are = are ∙ sym (append-nil _);
    }

pub same_head : (field other : List ℕ) (xs ys : List (List ℕ)) → field ∷ xs ≡ other ∷ ys → field ≡ other
same_head field other xs ys e = cc
