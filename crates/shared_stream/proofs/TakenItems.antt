-- Items that come one after the other from a stream.
use Rattle.std.proofs.Common.{◌≡◌, ℕ, ◌+◌, ◌<◌, ◌≤◌, ⊎_elim, refl, sym, ap, ◌∙◌, subst, arith, List, [], ◌∷◌, ◌++◌, length, Bool, true, false, Option, Some, None}
use Rattle.std.specs.Prelude.{slice_get, is_some, not, MatchBool}
use Rattle.std.proofs.lemmas.List.{length_push}
use Rattle.ntfe_model.specs.Charts.{Patch}
use Rattle.ntfe_model.specs.Words.{IsItem, HasItemAt}
use Rattle.ntfe_model.specs.declared.triangulation.Triangulation.{Triangulation}
use Rattle.ntfe_model.proofs.Items.{lesser_items}
use Rattle.fine_stream.specs.Cursors.{Cursor, StandsBefore, IsNextItem}
use Rattle.fine_stream.proofs.RowLemmas.{last_item, answer_item, answer_none}
use Rattle.shared_stream.specs.Taken.{Takes}

-- the first items from a number on, and the stream stands behind them
pub record AreTaken (h : Patch) (first : ℕ) (after : Cursor) (xs : List Triangulation) : Type 0 where
  pub items : (k : ℕ) (x : Triangulation) → slice_get xs k ≡ Some x → IsItem h (first + k) x
  pub stands : StandsBefore after (first + length xs)

pub none_taken : (c : Cursor) (n : ℕ) → StandsBefore c n → AreTaken c.patch n c []
none_taken c n s = let P : ℕ → Type 0 = λ m. StandsBefore c m in record { items = λ k x e. cc; stands = subst P (omega arith) s }

pub one_taken : (h : Patch) (n : ℕ) (c d : Cursor) (o : Option Triangulation) (x : Triangulation) (xs ys : List Triangulation) → c.patch ≡ h → IsNextItem c d o → o ≡ Some x → ys ≡ xs ++ x ∷ []
    → AreTaken h n c xs → AreTaken h n d ys
one_taken h n c d o x xs ys p a e is t =
    let P : List Triangulation → Type 0 = λ vs. AreTaken h n d vs in
    let b = answer_item c d o x a e (n + length xs) t.stands in
    let Q : ℕ → Type 0 = λ m. StandsBefore d m in
    let l = length_push xs x in
    let R : Patch → Type 0 = λ q. IsItem q (n + length xs) x in
    let i : IsItem h (n + length xs) x = subst R p b.1 in
    subst P (sym is) (record {
      items = λ k y q. ⊎_elim (λ m. t.items k y m)
          (λ m. (let A : ℕ → Type 0 = λ j. IsItem h (n + j) y in let B : Triangulation → Type 0 = λ z. IsItem h (n + length xs) z in subst A (sym m.0) (subst B (sym m.1) i))) (last_item xs x k y q);
      stands = subst Q (omega arith) b.0;
    })

within : (h : Patch) (n l k : ℕ) → ¬ (HasItemAt h (n + l)) → HasItemAt h (n + k) → k < l
within h n l k none has = grind (arith, lesser_items h (n + k) (n + l) has)

-- the stream has no more items
pub all_taken : (h : Patch) (n : ℕ) (c d : Cursor) (o : Option Triangulation) (xs : List Triangulation) → c.patch ≡ h → IsNextItem c d o → o ≡ None → length xs ≤ 256 → AreTaken h n c xs → Takes h n d xs
all_taken h n c d o xs p a e l t =
    let b = (answer_none c d o a e).1 (n + length xs) t.stands in
    let R : Patch → Type 0 = λ q. ¬ (HasItemAt q (n + length xs)) in
    record {
      items = record { items = t.items; few = l; all = λ k m has. within h n (length xs) k (subst R p b.1) has };
      stands = b.0;
    }

-- as many were taken as a segment has
pub many_taken : (h : Patch) (n : ℕ) (c : Cursor) (xs : List Triangulation) → length xs ≡ 256 → AreTaken h n c xs → Takes h n c xs
many_taken h n c xs l t = record { items = record { items = t.items; few = omega arith; all = λ k m has. omega (arith, m, l) }; stands = t.stands }

-- so many turns took an item each
pub record IsTaking (turn : ℕ) (before now : Cursor) (xs : List Triangulation) : Type 0 where
  pub patch : now.patch ≡ before.patch
  pub count : length xs ≡ turn
  pub taken : (n : ℕ) → StandsBefore before n → AreTaken before.patch n now xs

pub taking_none : (c : Cursor) → IsTaking 0 c c []
taking_none c = record { patch = refl; count = refl; taken = λ n s. none_taken c n s }

pub taking_one : (turn : ℕ) (b c d : Cursor) (o : Option Triangulation) (x : Triangulation) (xs ys : List Triangulation) → IsTaking turn b c xs → d.patch ≡ c.patch → IsNextItem c d o → o ≡ Some x → ys ≡ xs ++ x ∷ []
    → IsTaking (turn + 1) b d ys
taking_one turn b c d o x xs ys t p a e is = record {
  patch = p ∙ t.patch;
  count = ap length is ∙ length_push xs x ∙ ap (λ k. k + 1) t.count;
  taken = λ n s. one_taken b.patch n c d o x xs ys t.patch a e is (t.taken n s);
}

pub taking_all : (turn : ℕ) (b c d : Cursor) (o : Option Triangulation) (xs : List Triangulation) → IsTaking turn b c xs → turn ≤ 256 → IsNextItem c d o → o ≡ None → (n : ℕ) → StandsBefore b n → Takes b.patch n d xs
taking_all turn b c d o xs t l a e n s = let k = t.count in all_taken b.patch n c d o xs t.patch a e (omega arith) (t.taken n s)

pub taking_many : (turn : ℕ) (b c : Cursor) (xs : List Triangulation) → IsTaking turn b c xs → turn ≡ 256 → (n : ℕ) → StandsBefore b n → Takes b.patch n c xs
taking_many turn b c xs t l n s = many_taken b.patch n c xs (t.count ∙ l) (t.taken n s)

-- whether one more item comes says whether there is one behind a segment
none_behind : (h : Patch) (n l size : ℕ) → l ≤ size → ¬ (HasItemAt h (n + l)) → ¬ (HasItemAt h (n + size))
none_behind h n l size few none has = none (lesser_items h (n + size) (n + l) has (omega (arith, few)))

one_behind : (h : Patch) (n l size : ℕ) → l ≤ size → ((k : ℕ) → k < size → HasItemAt h (n + k) → k < l) → HasItemAt h (n + l) → HasItemAt h (n + size)
one_behind h n l size few all has =
    let more : ¬ (l < size) = λ m. (let k = all l m has in absurd (omega (arith, k))) in
    let whole : l ≡ size = omega (arith, few, more) in
    let Q : ℕ → Type 0 = λ k. HasItemAt h (n + k) in
    subst Q whole has

told_by : (P Q : Type 0) (h : Patch) (n : ℕ) (c d : Cursor) (o : Option Triangulation) (ended : Bool) → IsNextItem c d o → is_some o ≡ not ended → StandsBefore c n → (¬ (HasItemAt c.patch n) → P) → (HasItemAt c.patch n → Q) → MatchBool ended P Q
told_by P Q h n c d None true a e s f g = f (a.1 n s).1
told_by P Q h n c d None false a e s f g = cc
told_by P Q h n c d (Some x) true a e s f g = cc
told_by P Q h n c d (Some x) false a e s f g = g (x, (a.1 n s).1)

pub told : (h : Patch) (n : ℕ) (c d : Cursor) (o : Option Triangulation) (ended : Bool) (xs : List Triangulation) → c.patch ≡ h → IsNextItem c d o → is_some o ≡ not ended → Takes h n c xs
    → MatchBool ended (¬ (HasItemAt h (n + 256))) (HasItemAt h (n + 256))
told h n c d o ended xs p a e t =
    let R : Patch → Type 0 = λ q. HasItemAt q (n + length xs) in
    told_by _ _ h (n + length xs) c d o ended a e t.stands (λ none. none_behind h n (length xs) 256 t.items.few (λ has. none (subst R (sym p) has))) (λ has. one_behind h n (length xs) 256 t.items.few t.items.all (subst R p has))
