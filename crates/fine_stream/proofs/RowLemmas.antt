-- The first items of a face, and one more.
use Rattle.std.proofs.Common.{◌≡◌, ℕ, zero, suc, ◌+◌, ◌≤◌, ◌⊎◌, inl, inr, ⊎_elim, refl, sym, ap, ◌∙◌, subst, arith, List, [], ◌∷◌, ◌++◌, length, Bool, true, false, if◌then◌else◌, Option, Some, None, append_assoc}
use Rattle.std.specs.Prelude.{slice_get}
use Rattle.ntfe_model.specs.Charts.{Patch}
use Rattle.ntfe_model.specs.Words.{IsItem, HasItemAt}
use Rattle.ntfe_model.specs.declared.triangulation.Triangulation.{Triangulation}
use Rattle.fine_stream.specs.Cursors.{Cursor, StandsBefore, IsPlace, IsNextItem}
use Rattle.fine_stream.specs.Rows.{FirstItems, IsRow, GoesOn, HasOneMore}
use Rattle.fine_stream.specs.declared.position.Position.{Position}
use Rattle.fine_stream.specs.declared.position.Position.TheVariants.{End}
use Rattle.fine_stream.proofs.Numbers.{end_none}

pub last_item : (xs : List Triangulation) (x : Triangulation) (k : ℕ) (y : Triangulation) → slice_get (xs ++ x ∷ []) k ≡ Some y → (slice_get xs k ≡ Some y) ⊎ ((k ≡ length xs) × (y ≡ x))
last_item [] x zero y e = inr (refl, (let f : y ≡ x = cc in f))
last_item [] x (suc k) y e = cc
last_item (z ∷ zs) x zero y e = inl e
last_item (z ∷ zs) x (suc k) y e = ⊎_elim (λ p. inl p) (λ p. inr (ap suc p.0, p.1)) (last_item zs x k y e)

one_longer : (xs : List Triangulation) (x : Triangulation) → length (xs ++ x ∷ []) ≡ length xs + 1
one_longer [] x = refl
one_longer (z ∷ zs) x = let e = one_longer zs x in omega arith

pub kept_longer : (xs more : List Triangulation) (k : ℕ) (x : Triangulation) → slice_get xs k ≡ Some x → slice_get (xs ++ more) k ≡ Some x
kept_longer [] more k x e = cc
kept_longer (z ∷ zs) more zero x e = e
kept_longer (z ∷ zs) more (suc k) x e = kept_longer zs more k x e

pub answer_item : (c d : Cursor) (o : Option Triangulation) (x : Triangulation) → IsNextItem c d o → o ≡ Some x → (n : ℕ) → StandsBefore c n → StandsBefore d (n + 1) × IsItem c.patch n x
answer_item c d o x a e n s =
    let P : Option Triangulation → Type 0 = λ q. IsNextItem c d q in let b : IsNextItem c d (Some x) = subst P e a in b.1 n s

pub answer_none : (c d : Cursor) (o : Option Triangulation) → IsNextItem c d o → o ≡ None → (d.position ≡ End) × ((n : ℕ) → StandsBefore c n → StandsBefore d n × (¬ (HasItemAt c.patch n)))
answer_none c d o a e = let P : Option Triangulation → Type 0 = λ q. IsNextItem c d q in let b : IsNextItem c d None = subst P e a in b

pub row_longer : (c d : Cursor) (o : Option Triangulation) (x : Triangulation) (xs ys zs : List Triangulation) → IsRow c xs → d.patch ≡ c.patch → IsNextItem c d o → o ≡ Some x → ys ≡ xs → zs ≡ ys ++ x ∷ []
    → IsRow d zs
row_longer c d o x xs ys zs r p a e f g =
    let P : List Triangulation → Type 0 = λ vs. IsRow d vs in
    let is : zs ≡ xs ++ x ∷ [] = g ∙ ap (λ vs. vs ++ x ∷ []) f in
    let b = answer_item c d o x a e (length xs) r.stands in
    let Q : ℕ → Type 0 = λ n. StandsBefore d n in
    let R : Patch → Type 0 = λ h. (k : ℕ) (y : Triangulation) → slice_get (xs ++ x ∷ []) k ≡ Some y → IsItem h k y in
    subst P (sym is) (record {
      items = subst R (sym p) (λ k y q. ⊎_elim (λ m. r.items k y m)
          (λ m. (let A : ℕ → Type 0 = λ n. IsItem c.patch n y in let B : Triangulation → Type 0 = λ z. IsItem c.patch (length xs) z in subst A (sym m.0) (subst B (sym m.1) b.1))) (last_item xs x k y q));
      stands = subst Q (sym (one_longer xs x)) b.0;
    })

pub row_ended : (c d : Cursor) (o : Option Triangulation) (xs ys : List Triangulation) → IsRow c xs → d.patch ≡ c.patch → IsNextItem c d o → o ≡ None → ys ≡ xs → IsRow d ys
row_ended c d o xs ys r p a e f =
    let P : List Triangulation → Type 0 = λ vs. IsRow d vs in
    let R : Patch → Type 0 = λ h. (k : ℕ) (y : Triangulation) → slice_get xs k ≡ Some y → IsItem h k y in
    subst P (sym f) (record { items = subst R (sym p) r.items; stands = ((answer_none c d o a e).1 (length xs) r.stands).0 })

pub no_more : (c d : Cursor) (o : Option Triangulation) (xs : List Triangulation) → IsRow c xs → d.patch ≡ c.patch → IsNextItem c d o → o ≡ None → (k : ℕ) → length xs ≤ k → ¬ (HasItemAt c.patch k)
no_more c d o xs r p a e k l i =
    let b = answer_none c d o a e in
    let P : Position → Type 0 = λ q. IsPlace d.patch (length xs) q in
    let s = (b.1 (length xs) r.stands).0.place in
    let Q : Patch → Type 0 = λ h. HasItemAt h k in
    end_none d.patch (length xs) k (subst P b.0 s) l (subst Q (sym p) i)

-- the row has what it had, and maybe more
pub record IsFetching (before now : FirstItems) : Type 0 where
  pub patch : now.patch ≡ before.patch
  pub kept : GoesOn before.items now.items

-- a push that had room
pub pushed : (xs ys : List Triangulation) (x : Triangulation) (b : Bool) → b ≡ true → ys ≡ (if b then xs ++ x ∷ [] else xs) → ys ≡ xs ++ x ∷ []
pushed xs ys x true e f = f
pushed xs ys x false e f = cc

pub fetching_more : (before now next : FirstItems) → IsFetching before now → next.patch ≡ now.patch → HasOneMore now.items next.items → IsFetching before next
fetching_more before now next f p m = record {
  patch = p ∙ f.patch;
  kept = record {
    more = f.kept.more ++ m.item ∷ [];
    is = m.is ∙ ap (λ vs. vs ++ m.item ∷ []) f.kept.is ∙ append_assoc before.items f.kept.more (m.item ∷ []);
  };
}

pub fetching_same : (before now next : FirstItems) → IsFetching before now → next.patch ≡ now.patch → next.items ≡ now.items → IsFetching before next
fetching_same before now next f p m = record { patch = p ∙ f.patch; kept = record { more = f.kept.more; is = m ∙ f.kept.is } }

pub more_length : (xs ys : List Triangulation) → HasOneMore xs ys → length ys ≡ length xs + 1
more_length xs ys m = ap length m.is ∙ one_longer xs m.item
