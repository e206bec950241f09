-- The numbers of a key, and what a book keeps for them.
use Rattle.std.proofs.Common.{◌≡◌, ◌≢◌, ℕ, ◌+◌, ◌-◌, ◌<◌, ◌≤◌, ◌⊎◌, inl, inr, sym, subst, arith, List, length, get_or}
use Rattle.std.specs.Prelude.{Some, Option, MatchBool, MatchOption, Bool, true, false}
use Rattle.std.proofs.lemmas.List.{get_or-take, length-take-le}
use Rattle.ntfe_model.specs.Shapes.{Shape}
use Rattle.ntfe_model.specs.Books.{KeepsItem, KeepsAll}
use Rattle.ntfe_model.specs.Keys.{item_limit, IsKey}
use Rattle.ntfe_model.specs.declared.triangulation.Triangulation.{Triangulation}

abbrev Keeps : Type 0
Keeps = ℕ → ℕ → Option Triangulation

-- each number of a key is at most the item limit
pub key_low : (g : Shape) (key : List ℕ) → IsKey g key → (f : ℕ) → f < length key → get_or key f 0 ≤ item_limit g
key_low g key k f l = by (three f (length key - 1))
  where
    three : (i j : ℕ) → (i ≡ j) ⊎ ((i < j) ⊎ (j < i))
    three i j = grind arith

    by : (f ≡ length key - 1) ⊎ ((f < length key - 1) ⊎ (length key - 1 < f)) → get_or key f 0 ≤ item_limit g
    by (inl e) = let P : ℕ → Type 0 = λ i. get_or key i 0 ≤ item_limit g in subst P (sym e) k.last
    by (inr (inl m)) =
        let a = k.others f 0 (let e = length-take-le (length key - 1) key (omega arith) in omega (arith, e, m)) in
        let e = get_or-take (length key - 1) key f 0 m in
        omega (arith, a, e)
    by (inr (inr m)) = absurd (omega (arith, m, l))

-- of j two-faces one is left where a key has not as many numbers
pub left_over : (i j m n : ℕ) → i ≡ m → j ≡ n → m ≤ n → i ≢ j → m < n
left_over i j m n e f l d = grind (arith, e, f, l, d)

pub kept_still : (before after : Keeps) → KeepsAll before after → (f n : ℕ) → KeepsItem before f n → KeepsItem after f n
kept_still before after k f n (x, e) = (x, k f n x e)

-- one more item is kept
pub head_kept : (before after : Keeps) (key : List ℕ) (f : ℕ) → KeepsAll before after → ((k : ℕ) → k < f → KeepsItem before k (get_or key k 0)) → KeepsItem after f (get_or key f 0)
    → (k : ℕ) → k < f + 1 → KeepsItem after k (get_or key k 0)
head_kept before after key f keep old new k l = by (two k)
  where
    two : (i : ℕ) → (i < f) ⊎ (f ≤ i)
    two i = grind arith

    by : (k < f) ⊎ (f ≤ k) → KeepsItem after k (get_or key k 0)
    by (inl m) = kept_still before after keep k (get_or key k 0) (old k m)
    by (inr m) = let e : f ≡ k = omega (arith, l, m) in let P : ℕ → Type 0 = λ i. KeepsItem after i (get_or key i 0) in subst P e new

pub match_true : (A B : Type 0) (b : Bool) → MatchBool b A B → b ≡ true → A
match_true A B true h e = h
match_true A B false h e = cc

pub match_false : (A B : Type 0) (b : Bool) → MatchBool b A B → b ≡ false → B
match_false A B true h e = cc
match_false A B false h e = h

pub match_some : {X : Type 0} (A : Type 0) (B : X → Type 0) (o : Option X) (x : X) → MatchOption o A B → o ≡ Some x → B x
match_some {X} A B o x h e = let P : Option X → Type 0 = λ p. MatchOption p A B in subst P e h
