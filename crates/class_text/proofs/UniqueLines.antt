-- A line of numbers has one list of numbers.
use Rattle.std.proofs.Common.{◌≡◌, ℕ, ◌+◌, ◌<◌, ◌≤◌, ◌^◌, false, List, [], ◌∷◌, length, get_or, map, refl, sym, ap, ◌∙◌, subst, arith, All}
use Rattle.std.specs.Prelude.{decimal, codes}
use Rattle.std.proofs.lemmas.List.Elements.{All-nil, All-cons, All-head, All-tail}
use Rattle.ntfe_model.specs.RunText.{number_line}
use Rattle.ntfe_model.specs.Earlier.{Layout, Reading, with_feed, IsClassLine, IsSimplexLine}
use Rattle.class_text.specs.NumberLines.{IsNumberLine, IsRisingFour, has_space}
use Rattle.class_text.proofs.Decimals.{same_number}
use Rattle.class_text.proofs.FieldLists.{fields_of_numbers, same_head, same_tail}

same_numbers : (limit : ℕ) → limit ≤ 2 ^ 32 → (ns ms : List ℕ) → All (λ n. n < limit) ns → All (λ n. n < limit) ms → map decimal ns ≡ map decimal ms → ns ≡ ms
same_numbers limit l [] [] a b e = refl
same_numbers limit l [] (m ∷ ms) a b e = cc
same_numbers limit l (n ∷ ns) [] a b e = cc
same_numbers limit l (n ∷ ns) (m ∷ ms) a b e =
    let h : n < limit = All-head (λ k. k < limit) n ns a in
    let k : m < limit = All-head (λ k. k < limit) m ms b in
    let first = same_number (decimal n) n m (omega arith) (omega arith) refl (same_head (decimal n) (decimal m) (map decimal ns) (map decimal ms) e) in
    let rest = same_numbers limit l ns ms (All-tail (λ k. k < limit) n ns a) (All-tail (λ k. k < limit) m ms b) (same_rest e) in
    λ i. first i ∷ rest i
  where
    same_rest : decimal n ∷ map decimal ns ≡ decimal m ∷ map decimal ms → map decimal ns ≡ map decimal ms
    same_rest q = cc

pub unique : (word line ns ms : List ℕ) (count limit : ℕ) → has_space word ≡ false → limit ≤ 2 ^ 32 → IsNumberLine word count limit line ns → IsNumberLine word count limit line ms → ns ≡ ms
unique word line ns ms count limit w l a b =
    same_numbers limit l ns ms a.below b.below
    (same_tail word (map decimal ns) (map decimal ms) (sym (fields_of_numbers word line ns count limit w l a) ∙ fields_of_numbers word line ms count limit w l b))

pub one_number : (word line : List ℕ) (n : ℕ) → n < 2 ^ 32 → with_feed line ≡ number_line word (n ∷ []) → IsNumberLine word 1 (2 ^ 32) line (n ∷ [])
one_number word line n h e = record { is = e; count_is = refl; below = All-cons (λ k. k < 2 ^ 32) n [] h (All-nil _) }

-- the one number of a line
pub only_number : (word line ns : List ℕ) (n d : ℕ) → has_space word ≡ false → n < 2 ^ 32 → IsNumberLine word 1 (2 ^ 32) line ns → with_feed line ≡ number_line word (n ∷ []) → get_or ns 0 d ≡ n
only_number word line ns n d w h a e = ap (λ xs. get_or xs 0 d) (unique word line ns (n ∷ []) 1 (2 ^ 32) w (omega arith) a (one_number word line n h e))

-- ---- simplices

simplex_numbers : (l : Layout) (line : List ℕ) (s : IsSimplexLine l line) → IsNumberLine (codes "simplex") 4 (l.points + 1) line s.members
simplex_numbers l line s = record { is = s.is; count_is = s.four; below = λ k d h. (let q : get_or s.members k d ≤ l.points = (s.numbers k d h).1 in omega arith) }

pub no_simplex : (l : Layout) (line : List ℕ) → ((ns : List ℕ) → ¬ (IsNumberLine (codes "simplex") 4 (l.points + 1) line ns)) → ¬ (IsSimplexLine l line)
no_simplex l line none s = none s.members (simplex_numbers l line s)

rising_four : (l : Layout) (line : List ℕ) (s : IsSimplexLine l line) → IsRisingFour s.members
rising_four l line s =
    let four : length s.members ≡ 4 = s.four in
    record {
      first = (s.numbers 0 0 (omega arith)).0;
      second = s.rising 0 1 0 (omega arith) (omega arith);
      third = s.rising 1 2 0 (omega arith) (omega arith);
      fourth = s.rising 2 3 0 (omega arith) (omega arith);
    }

pub no_rising : (l : Layout) (line ns : List ℕ) → l.points + 1 ≤ 2 ^ 32 → IsNumberLine (codes "simplex") 4 (l.points + 1) line ns → ¬ (IsRisingFour ns) → ¬ (IsSimplexLine l line)
no_rising l line ns h a none s =
    none (subst IsRisingFour (sym (unique (codes "simplex") line ns s.members 4 (l.points + 1) refl h a (simplex_numbers l line s))) (rising_four l line s))

-- ---- class lines

pub class_numbers : (l : Layout) (s : Reading) (line choice : List ℕ) → IsClassLine l s line choice → IsNumberLine (codes "class") l.faces l.items line choice
class_numbers l s line choice h = record { is = h.is; count_is = h.faces; below = h.items }
