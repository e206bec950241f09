-- The order of keys, at heads that they share.
use Rattle.std.proofs.Common.{◌≡◌, ◌∙◌, refl, sym, ap, subst, ℕ, ◌<◌, List, [], ◌∷◌, ◌++◌, arith}
use Rattle.std.specs.Ordering.{nat_cmp, ordering_then, ordering_reverse}
use Rattle.std.specs.declared.cmp.Ordering.TheVariants.{Less, Equal, Greater}
use Rattle.std.specs.Cmp.Lexicographic.{slice_cmp, nat_list_cmp_total}
use Rattle.std.proofs.lemmas.Cmp.{nat_cmp_total, tied_itself}
use Rattle.std.proofs.lemmas.Bool.Decides.{nat_tests}
use Rattle.ntfe_model.specs.Lists.{IsBelow}
use Rattle.ntfe_model.proofs.Orders.{below_once, equal_lists}

-- a head that two lists share does not count
pub compare_behind : (head xs ys : List ℕ) → slice_cmp nat_cmp (head ++ xs) (head ++ ys) ≡ slice_cmp nat_cmp xs ys
compare_behind [] xs ys = refl
compare_behind (x ∷ head) xs ys = ap (λ o. ordering_then o (slice_cmp nat_cmp (head ++ xs) (head ++ ys))) (tied_itself nat_cmp_total x) ∙ compare_behind head xs ys

less_is : (a b : ℕ) → a < b → nat_cmp a b ≡ Less
less_is a b h = grind (arith, nat_tests)

pub below_at : (head : List ℕ) (a b : ℕ) (xs ys : List ℕ) → a < b → IsBelow (head ++ a ∷ xs) (head ++ b ∷ ys)
below_at head a b xs ys h =
    compare_behind head (a ∷ xs) (b ∷ ys) ∙ ap (λ o. ordering_then o (slice_cmp nat_cmp xs ys)) (less_is a b h)

-- a list comes before those that go on after it
pub below_longer : (head : List ℕ) (a : ℕ) (xs : List ℕ) → IsBelow head (head ++ a ∷ xs)
below_longer [] a xs = refl
below_longer (x ∷ head) a xs = ap (λ o. ordering_then o (slice_cmp nat_cmp head (head ++ a ∷ xs))) (tied_itself nat_cmp_total x) ∙ below_longer head a xs

pub not_below_itself : (xs : List ℕ) → IsBelow xs xs → ⊥
not_below_itself xs h = below_once xs xs h h

-- what begins with a list is not below it
pub not_below_head : (head xs : List ℕ) → IsBelow (head ++ xs) head → ⊥
not_below_head [] [] h = cc
not_below_head [] (x ∷ xs) h = cc
not_below_head (y ∷ head) xs h =
    not_below_head head xs (sym (ap (λ o. ordering_then o (slice_cmp nat_cmp (head ++ xs) head)) (tied_itself nat_cmp_total y)) ∙ h)

pub below_from_above : (v w : List ℕ) → slice_cmp nat_cmp v w ≡ Greater → IsBelow w v
below_from_above v w q = nat_list_cmp_total.antisymm w v ∙ ap ordering_reverse q

-- what a comparison answered, once the second list is read
pub below_read : (v w x : List ℕ) → Less ≡ slice_cmp nat_cmp v w → w ≡ x → IsBelow v x
below_read v w x e f = sym (ap (slice_cmp nat_cmp v) f) ∙ sym e

pub above_read : (v w x : List ℕ) → Greater ≡ slice_cmp nat_cmp v w → w ≡ x → IsBelow x v
above_read v w x e f = let P : List ℕ → Type 0 = λ y. IsBelow y v in subst P f (below_from_above v w (sym e))

pub same_read : (v w x : List ℕ) → Equal ≡ slice_cmp nat_cmp v w → w ≡ x → x ≡ v
same_read v w x e f = sym f ∙ sym (equal_lists v w (sym e))
