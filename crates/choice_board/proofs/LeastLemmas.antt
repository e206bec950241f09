-- The least of the open keys.
use Rattle.std.proofs.Common.{◌≡◌, ◌∙◌, sym, ap, subst, ◌⊎◌, inl, inr, ⊎_elim, ℕ, ◌+◌, ◌-◌, ◌<◌, ◌≤◌, List, [], ◌∷◌, ◌++◌, length, get_or, map, Option, Some, None, MatchOption, true, false, arith}
use Rattle.std.specs.Prelude.{Contains}
use Rattle.std.specs.List.{HoldsAt, range_with_len}
use Rattle.std.proofs.lemmas.List.{get_or_default, take_all, take_more, nil_from_length}
use Rattle.std.proofs.lemmas.List.FromFn.{length-map-range_with_len, take-map-range_with_len, get_or-map-range_with_len}
use Rattle.std.proofs.lemmas.List.Elements.{All-contains}
use Rattle.ntfe_model.specs.Lists.{IsBelow}
use Rattle.ntfe_model.proofs.Listings.{All-from_contains}
use Rattle.ntfe_model.proofs.Orders.{below_once}
use Rattle.choice_board.specs.States.{State, IsSound}
use Rattle.choice_board.specs.Telling.{IsLeastOpen}
use Rattle.choice_board.proofs.RowLemmas.{at_back}
use denote.Ref.{Bor}

last_is_least : (s : State) → IsSound s → (k : List ℕ) → 0 < length s.open_keys → k ≡ get_or s.open_keys (length s.open_keys - 1) k → IsLeastOpen s k
last_is_least s sound k some e = ((n, omega arith, sym e), All-from_contains (λ j. (j ≡ k) ⊎ IsBelow k j) s.open_keys (λ j p. by j p))
  where
    n : ℕ
    n = length s.open_keys - 1

    by : (j : List ℕ) → Contains s.open_keys j → (j ≡ k) ⊎ IsBelow k j
    by j (i, l, at) =
        ⊎_elim
        (λ same. inl (sym at ∙ ap (λ m. get_or s.open_keys m j) same ∙ get_or_default s.open_keys (length s.open_keys - 1) j k (omega arith) ∙ sym e))
        (λ less. inr (let P : List ℕ → Type 0 = λ x. IsBelow x j in
        let Q : List ℕ → Type 0 = λ x. IsBelow (get_or s.open_keys (length s.open_keys - 1) j) x in
        subst P (get_or_default s.open_keys (length s.open_keys - 1) j k (omega arith) ∙ sym e)
        (subst Q at (sound.falling i (length s.open_keys - 1) j less (omega arith)))))
        (let d : (i ≡ length s.open_keys - 1) ⊎ (i < length s.open_keys - 1) = grind arith in d)

-- the last key of the row, whose length was read
pub least_there : (s : State) (n : ℕ) → IsSound s → n ≡ length s.open_keys → 0 < length s.open_keys → IsLeastOpen s (get_or s.open_keys (n - 1) [])
least_there s n sound e some =
    last_is_least s sound (get_or s.open_keys (n - 1) []) some
    (ap (λ m. get_or s.open_keys (m - 1) []) e ∙ get_or_default s.open_keys (length s.open_keys - 1) [] (get_or s.open_keys (n - 1) []) (omega arith))

-- and no other key is the least
pub least_only : (s : State) (j k : List ℕ) → IsLeastOpen s j → IsLeastOpen s k → j ≡ k
least_only s j k a b =
    ⊎_elim (λ e. e)
    (λ p. ⊎_elim (λ e. sym e) (λ q. absurd (below_once k j p q)) (All-contains (λ i. (i ≡ j) ⊎ IsBelow j i) s.open_keys k a.1 b.0))
    (All-contains (λ i. (i ≡ k) ⊎ IsBelow k i) s.open_keys j b.1 a.0)

-- what the end of the open keys answers, whose number was read
pub last_answers : (s : State) (n : ℕ) → IsSound s → s.closed ≡ false → n ≡ length s.open_keys → (r : Option (Bor (List ℕ)))
    → MatchOption r (length s.open_keys ≤ 0) (λ x. (0 < length s.open_keys) × HoldsAt (λ y. x.now ≡ y) s.open_keys (n - 1))
    → MatchOption r ((s.closed ≡ true) ⊎ (s.open_keys ≡ [])) (λ k. (s.closed ≡ false) × IsLeastOpen s k.now)
last_answers s n sound open_is e None h = inr (nil_from_length s.open_keys (omega arith))
last_answers s n sound open_is e (Some x) h = (open_is, last_is_least s sound x.now h.0 (at_back s.open_keys n x.now e (h.1 x.now)))

pub mapped_more : {X : Type 0} (f : ℕ → X) (n : ℕ) (d : X) → map f (range_with_len 0 (n + 1)) ≡ map f (range_with_len 0 n) ++ f n ∷ []
mapped_more f n d =
    let xs = map f (range_with_len 0 (n + 1)) in
    let long = length-map-range_with_len f 0 (n + 1) in
    sym (take_all (n + 1) xs (omega arith)) ∙ take_more xs n d (omega arith)
    ∙ ap (λ ys. ys ++ get_or xs n d ∷ []) (take-map-range_with_len f 0 (n + 1) n (omega arith))
    ∙ ap (λ y. map f (range_with_len 0 n) ++ y ∷ []) (get_or-map-range_with_len f 0 (n + 1) n n d (omega arith) (omega arith))
