-- Whether a recorded outcome has its turn, and what is so where none has.
use Rattle.std.proofs.Common.{◌≡◌, ◌∙◌, sym, ap, subst, ◌⊎◌, inr, ⊎_elim, ℕ, suc, ◌-◌, ◌<◌, List, [], ◌∷◌, ◌++◌, length, take, drop, get_or, Bool, true, false, arith, length-append, length-drop}
use Rattle.std.specs.Prelude.{All, Contains}
use Rattle.std.specs.Ordering.{nat_cmp, is_lt}
use Rattle.std.specs.declared.cmp.Ordering.{Ordering}
use Rattle.std.specs.declared.cmp.Ordering.TheVariants.{Less, Equal, Greater}
use Rattle.std.specs.Cmp.Lexicographic.{slice_cmp}
use Rattle.std.proofs.lemmas.List.{get_or_default, nil_from_length}
use Rattle.std.proofs.Math.Seq.{get_or-append_seam}
use Rattle.ntfe_model.specs.Lists.{IsBelow}
use Rattle.ntfe_model.proofs.Listings.{All-from_contains}
use Rattle.ntfe_model.proofs.Orders.{below_once, below_chain}
use Rattle.choice_board.specs.Rows.{IsFalling}
use Rattle.choice_board.specs.States.{State, IsSound}
use Rattle.choice_board.specs.Telling.{IsNext, IsWaiting}
use Rattle.choice_board.specs.Order.{ComesFirst}
use Rattle.choice_board.specs.declared.record.Record.{Record}
use Rattle.choice_board.proofs.RowLemmas.{cut_at}

-- a row with an end
ended : {X : Type 0} (xs : List X) (x : X) → 0 < length xs → x ≡ get_or xs (length xs - 1) x → xs ≡ take (length xs - 1) xs ++ x ∷ []
ended {X} xs x some e =
    let rest = drop (suc (length xs - 1)) xs in
    let none : length rest ≡ 0 = omega (arith, length-drop (suc (length xs - 1)) xs) in
    sym (cut_at xs (length xs - 1) x (omega arith)) ∙ ap (λ ys. take (length xs - 1) xs ++ get_or xs (length xs - 1) x ∷ ys) (nil_from_length rest none)
    ∙ ap (λ y. take (length xs - 1) xs ++ y ∷ []) (sym e)

pub end_of : {X : Type 0} (xs rest : List X) (x d : X) → xs ≡ rest ++ x ∷ [] → get_or xs (length xs - 1) d ≡ x
end_of xs rest x d e =
    let l = length-append rest (x ∷ []) in
    let n : length (rest ++ x ∷ []) - 1 ≡ length rest = omega arith in
    ap (λ ys. get_or ys (length ys - 1) d) e ∙ ap (λ i. get_or (rest ++ x ∷ []) i d) n ∙ get_or-append_seam rest x [] d

-- a key below the end of a falling row is below all of it
pub below_end : (keys : List (List ℕ)) (key k : List ℕ) → IsFalling (λ x. x) keys → 0 < length keys → k ≡ get_or keys (length keys - 1) k → IsBelow key k → All (IsBelow key) keys
below_end keys key k falling some e below = All-from_contains (IsBelow key) keys by
  where
    by : (j : List ℕ) → Contains keys j → IsBelow key j
    by j (i, l, at) =
        ⊎_elim
        (λ same. (let f : k ≡ j = e ∙ get_or_default keys (length keys - 1) k j (omega arith) ∙ ap (λ m. get_or keys m j) (sym same) ∙ at in subst (IsBelow key) f below))
        (λ less. (let P : List ℕ → Type 0 = λ x. IsBelow x j in
        let Q : List ℕ → Type 0 = λ x. IsBelow (get_or keys (length keys - 1) j) x in
        let up : IsBelow k j = subst P (get_or_default keys (length keys - 1) j k (omega arith) ∙ sym e) (subst Q at (falling i (length keys - 1) j less (omega arith))) in
        below_chain key k j below up))
        (let d : (i ≡ length keys - 1) ⊎ (i < length keys - 1) = grind arith in d)

pub turn_before : (recorded : List Record) (keys : List (List ℕ)) (r : Record) (k : List ℕ) → IsFalling (λ x. x) keys → 0 < length recorded → r ≡ get_or recorded (length recorded - 1) r
    → 0 < length keys → k ≡ get_or keys (length keys - 1) k → IsBelow r.key k → ComesFirst recorded keys
turn_before recorded keys r k falling some e some_key f below =
    (take (length recorded - 1) recorded, r, ended recorded r some e, below_end keys r.key k falling some_key f below)

pub no_turn : (recorded : List Record) (keys : List (List ℕ)) (r : Record) (k : List ℕ) → r ≡ get_or recorded (length recorded - 1) r
    → 0 < length keys → k ≡ get_or keys (length keys - 1) k → ¬ (IsBelow r.key k) → ¬ (ComesFirst recorded keys)
no_turn recorded keys r k e some_key f never (rest, q, g, all) =
    let same : r ≡ q = e ∙ end_of recorded rest q r g in
    let has : IsBelow q.key k = subst (IsBelow q.key) (sym f) (all (length keys - 1) k (omega arith)) in
    let P : Record → Type 0 = λ x. IsBelow x.key k in
    never (subst P (sym same) has)

-- what `is_lt` answers
pub lt_true : (v w : List ℕ) (o : Ordering) (b : Bool) → b ≡ is_lt o → o ≡ slice_cmp nat_cmp v w → b ≡ true → IsBelow v w
lt_true v w Less b e f t = sym f
lt_true v w Equal b e f t = absurd (let x : true ≡ false = sym t ∙ e in cc)
lt_true v w Greater b e f t = absurd (let x : true ≡ false = sym t ∙ e in cc)

pub lt_false : (v w : List ℕ) (o : Ordering) (b : Bool) → b ≡ is_lt o → o ≡ slice_cmp nat_cmp v w → b ≡ false → ¬ (IsBelow v w)
lt_false v w o b e f t below = let x : false ≡ true = sym t ∙ e ∙ ap is_lt (f ∙ below) in cc

-- ---- where none has its turn, the board waits

pub next_comes_first : (s : State) (r : Record) → IsSound s → IsNext s r → ComesFirst s.recorded s.open_keys
next_comes_first s r sound next = (take n s.recorded, r, ended s.recorded r some (sym at_end), next.clear)
  where
    n : ℕ
    n = length s.recorded - 1

    some : 0 < length s.recorded
    some = let l = next.recorded.1 in omega arith

    -- the end of the row is not above r, so it is r
    at_end : get_or s.recorded (length s.recorded - 1) r ≡ r
    at_end = by next.recorded
      where
        by : Contains s.recorded r → get_or s.recorded (length s.recorded - 1) r ≡ r
        by (i, l, at) =
            ⊎_elim
            (λ same. ap (λ m. get_or s.recorded m r) (sym same) ∙ at)
            (λ less. ⊎_elim (λ e. e)
            (λ up. absurd (let P : Record → Type 0 = λ x. IsBelow (get_or s.recorded (length s.recorded - 1) r).key x.key in
            below_once r.key (get_or s.recorded (length s.recorded - 1) r).key up (subst P at (sound.records_falling i (length s.recorded - 1) r less (omega arith)))))
            (next.least (length s.recorded - 1) r (omega arith)))
            (let d : (i ≡ length s.recorded - 1) ⊎ (i < length s.recorded - 1) = grind arith in d)

pub waits_otherwise : (s : State) → IsSound s → ¬ (ComesFirst s.recorded s.open_keys) → IsWaiting s
waits_otherwise s sound none = inr (λ r next. none (next_comes_first s r sound next))
