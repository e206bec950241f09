-- The lines of a text, up to the first whose only field is `output`.
use Rattle.std.proofs.Common.{◌≡◌, ℕ, ◌+◌, ◌-◌, ◌<◌, ◌≤◌, inl, inr, ⊎_elim, List, [], ◌∷◌, ◌++◌, length, take, drop, refl, sym, ap, ◌∙◌, subst, append_assoc, arith, All}
use Rattle.std.specs.List.{position_or_len}
use Rattle.std.proofs.lemmas.Bool.{cases_lt, eqb-true}
use Rattle.std.proofs.lemmas.List.{append-nil, length-append, length-drop, take_all, drop_all, drop_more, take-append-le, take-append-drop}
use Rattle.std.proofs.lemmas.List.Elements.{All-nil, All-push}
use Rattle.std.proofs.lemmas.List.Concat.{flat_map-append}
use Rattle.std.proofs.lemmas.List.Sums.{passes_at_first}
use Rattle.ntfe_model.specs.PairText.{lines}
use Rattle.pair_text.specs.Output.{IsOutputLine, IsSplitAtOutput, IsFirstLine, IsCutAt, whole}
use Rattle.pair_text.proofs.Splitting.{is_feed, lines-first}

-- the first line, by the place of the first line feed
pub first_line_is : (bytes line rest : List ℕ) → 0 < length bytes → line ≡ take (position_or_len is_feed bytes) bytes → rest ≡ drop (position_or_len is_feed bytes + 1) bytes → IsFirstLine bytes line rest
first_line_is bytes line rest some e f =
    let n = position_or_len is_feed bytes in
    let cut : IsCutAt bytes (take n bytes) (drop (n + 1) bytes) =
    ⊎_elim
    (λ l. inl (sym (take-append-drop n bytes) ∙ ap (λ (xs : List ℕ). take n bytes ++ xs) (drop_more bytes n 0 l ∙ ap (λ (x : ℕ). x ∷ drop (n + 1) bytes) (eqb-true _ _ (passes_at_first is_feed bytes 0 l)))))
    (λ l. inr (sym (take_all n bytes l), drop_all (n + 1) bytes (omega arith)))
    (cases_lt n (length bytes)) in
    record {
      lines_are = lines-first bytes some ∙ (λ i. sym e i ∷ lines (sym f i));
      bytes_are = subst (λ (xs : List ℕ). IsCutAt bytes xs rest) (sym e) (subst (λ (xs : List ℕ). IsCutAt bytes (take n bytes) xs) (sym f) cut);
      shorter = omega (arith, ap length f, length-drop (n + 1) bytes);
    }

-- none of the first lines is that line
pub record NoneSoFar (bytes rest : List ℕ) : Type 0 where
  pub first : List (List ℕ)
  pub lines_are : lines bytes ≡ first ++ lines rest
  pub bytes_are : 0 < length rest → bytes ≡ whole first ++ rest
  pub others : All (λ other. ¬ (IsOutputLine other)) first
  pub shorter : length rest ≤ length bytes

pub none_at_start : (bytes : List ℕ) → NoneSoFar bytes bytes
none_at_start bytes = record { first = []; lines_are = refl; bytes_are = λ h. refl; others = All-nil _; shorter = omega arith }

module _ (bytes rest : List ℕ) (s : NoneSoFar bytes rest) (some : 0 < length rest) (line behind : List ℕ) (f : IsFirstLine rest line behind) where
  after_more : 0 < length behind → IsCutAt rest line behind → rest ≡ (line ++ 10 ∷ []) ++ behind
  after_more h (inl e) = e ∙ sym (append_assoc line (10 ∷ []) behind)
  after_more h (inr e) = absurd (let z : length behind ≡ 0 = ap length e.1 in omega arith)

  pub none_more : ¬ (IsOutputLine line) → NoneSoFar bytes behind
  none_more other_line = record {
    first = s.first ++ line ∷ [];
    lines_are = s.lines_are ∙ ap (λ (xs : List (List ℕ)). s.first ++ xs) f.lines_are ∙ sym (append_assoc s.first (line ∷ []) (lines behind));
    bytes_are = λ h.
        s.bytes_are some ∙ ap (λ (xs : List ℕ). whole s.first ++ xs) (after_more h f.bytes_are) ∙ sym (append_assoc (whole s.first) (line ++ 10 ∷ []) behind)
        ∙ ap (λ (xs : List ℕ). xs ++ behind) (sym (whole_more s.first line));
    others = All-push (λ other. ¬ (IsOutputLine other)) s.first line s.others other_line;
    shorter = (let l : length behind < length rest = f.shorter in let k = s.shorter in omega arith);
  }
    where
      whole_more : (first : List (List ℕ)) (x : List ℕ) → whole (first ++ x ∷ []) ≡ whole first ++ (x ++ 10 ∷ [])
      whole_more first x = flat_map-append (λ l. l ++ 10 ∷ []) first (x ∷ []) ∙ ap (λ (xs : List ℕ). whole first ++ xs) (append-nil (x ++ 10 ∷ []))

  pub split_here : IsOutputLine line → IsSplitAtOutput bytes (take (length bytes - length rest) bytes) behind
  split_here is = record {
    first = s.first;
    line = line;
    lines_are = s.lines_are ∙ ap (λ (xs : List (List ℕ)). s.first ++ xs) f.lines_are;
    before_is = before;
    bytes_are = subst (λ (xs : List ℕ). IsCutAt bytes (xs ++ line) behind) (sym before) (cut f.bytes_are);
    others = s.others;
    output = is;
  }
    where
      all : bytes ≡ whole s.first ++ rest
      all = s.bytes_are some

      size : length bytes - length rest ≡ length (whole s.first)
      size = omega (arith, ap length all, length-append (whole s.first) rest)

      before : take (length bytes - length rest) bytes ≡ whole s.first
      before = ap (λ n. take n bytes) size ∙ ap (take (length (whole s.first))) all ∙ take-append-le (length (whole s.first)) (whole s.first) rest (omega arith) ∙ take_all (length (whole s.first)) (whole s.first) (omega arith)

      cut : IsCutAt rest line behind → IsCutAt bytes (whole s.first ++ line) behind
      cut (inl e) = inl (all ∙ ap (λ (xs : List ℕ). whole s.first ++ xs) e ∙ sym (append_assoc (whole s.first) line (10 ∷ behind)))
      cut (inr e) = inr (all ∙ ap (λ (xs : List ℕ). whole s.first ++ xs) e.0, e.1)

pub none_at_all : (bytes rest : List ℕ) → NoneSoFar bytes rest → length rest ≡ 0 → All (λ line. ¬ (IsOutputLine line)) (lines bytes)
none_at_all bytes [] s h = subst (All (λ line. ¬ (IsOutputLine line))) (sym (s.lines_are ∙ append-nil s.first)) s.others
none_at_all bytes (x ∷ rest) s h = absurd (omega arith)
