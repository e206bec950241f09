-- A loop that asks one thing of each entry of a list.
use Rattle.std.proofs.Common.{◌≡◌, ℕ, ◌+◌, ◌<◌, ◌≤◌, refl, Bool, true, false, sym, ◌∙◌, subst, arith, List, length, get_or, below_more}
use Rattle.std.specs.Prelude.{IsTrue, All}
use Rattle.std.proofs.lemmas.List.{get_or_default}

pub passed_more : {X : Type 0} (P : X → Type 0) (xs : List X) (n : ℕ) (d : X) → n < length xs → ((k : ℕ) (x : X) → k < n → P (get_or xs k x)) → P (get_or xs n d)
    → (k : ℕ) (x : X) → k < n + 1 → P (get_or xs k x)
passed_more {X} P xs n d l before here k x m = below_more (λ j. (y : X) → P (get_or xs j y)) n (λ j q y. before j y q) (λ y. subst P (get_or_default xs n d y l) here) k m x

-- where it fails of one, it fails of the list
pub passed_not : {X : Type 0} (P : X → Type 0) (xs : List X) (n : ℕ) (d : X) (b : Bool) → n < length xs → b ≡ false → (P (get_or xs n d) → IsTrue b) → (IsTrue false → All P xs) × (All P xs → IsTrue false)
passed_not P xs n d b l e test = ((λ t. cc), (λ h. sym e ∙ test (h n d l)))

-- and where it fails of none, it is true of the list
pub passed_all : {X : Type 0} (P : X → Type 0) (xs : List X) (n : ℕ) → length xs ≤ n → ((k : ℕ) (x : X) → k < n → P (get_or xs k x)) → (IsTrue true → All P xs) × (All P xs → IsTrue true)
passed_all P xs n l before = ((λ t k x m. before k x (omega (arith, l, m))), (λ h. refl))
