-- Numbered lines, cut at one of them.
use Rattle.std.proofs.Common.{◌≡◌, ◌∙◌, sym, ℕ, zero, suc, ◌+◌, ◌<◌, List, [], ◌∷◌, ◌++◌, ap, append_assoc, append-nil, take, drop, length, get_or, arith}
use Rattle.ntfe_model.specs.FacesText.{numbered}

module _ {X : Type 0} (line : ℕ → X → List ℕ) where
  pub numbered-at : (k : ℕ) (xs : List X) (i : ℕ) (x : X) → i < length xs → x ≡ get_or xs i x
      → numbered line k (take i xs) ++ (line (k + i) x ++ numbered line (k + i + 1) (drop (suc i) xs)) ≡ numbered line k xs
  numbered-at k [] i x h e = absurd (omega arith)
  numbered-at k (y ∷ xs) zero x h e =
      let same : k + 0 ≡ k = omega arith in
      λ j. line (same j) (e j) ++ numbered line (same j + 1) xs
  numbered-at k (y ∷ xs) (suc i) x h e =
      let same : k + suc i ≡ k + 1 + i = omega arith in
      append_assoc (line k y) (numbered line (k + 1) (take i xs)) (line (k + suc i) x ++ numbered line (k + suc i + 1) (drop (suc i) xs))
      ∙ ap (λ l. line k y ++ l) ((λ j. numbered line (k + 1) (take i xs) ++ (line (same j) x ++ numbered line (same j + 1) (drop (suc i) xs))) ∙ numbered-at (k + 1) xs i x (omega arith) e)

  -- one more line
  pub numbered-more : (k : ℕ) (xs : List X) (i : ℕ) (x : X) → i < length xs → x ≡ get_or xs i x
      → numbered line k (take (i + 1) xs) ≡ numbered line k (take i xs) ++ line (k + i) x
  numbered-more k [] i x h e = absurd (omega arith)
  numbered-more k (y ∷ xs) zero x h e =
      let same : k ≡ k + 0 = omega arith in
      append-nil (line k y) ∙ (λ j. line (same j) (sym e j))
  numbered-more k (y ∷ xs) (suc i) x h e =
      let same : k + 1 + i ≡ k + suc i = omega arith in
      let next : suc i + 1 ≡ suc (i + 1) = omega arith in
      ap (λ n. numbered line k (take n (y ∷ xs))) next
      ∙ ap (λ l. line k y ++ l) (numbered-more (k + 1) xs i x (omega arith) e)
      ∙ sym (append_assoc (line k y) (numbered line (k + 1) (take i xs)) (line (k + 1 + i) x))
      ∙ ap (λ n. (line k y ++ numbered line (k + 1) (take i xs)) ++ line n x) same
