-- The search of a list.
--     some_or_all      some entry has one property, or all have the other
--     some_not_zero      a function is not 0 somewhere, or 0 everywhere
use Rattle.std.proofs.Common.{◌≡◌, ◌≢◌, ℤ, pos, ◌⊎◌, inl, inr, ⊎_elim, refl, sym, subst, List, [], ◌∷◌}
use Rattle.std.specs.Prelude.{Contains}
use Rattle.ntfe_model.proofs.Listings.{Contains-here, Contains-there, Contains-cases, Contains-none}
use Rattle.ntfe_nums.proofs.Signs.{zero_or}

pub some_or_all : {A : Type 0} (P Q : A → Type 0) → ((x : A) → P x ⊎ Q x) → (xs : List A) → ((x : A) × Contains xs x × P x) ⊎ ((x : A) → Contains xs x → Q x)
some_or_all P Q decide [] = inr (λ x c. Contains-none x c)
some_or_all {A} P Q decide (y ∷ ys) = by (decide y) (some_or_all P Q decide ys)
  where
    by : P y ⊎ Q y → ((x : A) × Contains ys x × P x) ⊎ ((x : A) → Contains ys x → Q x) → ((x : A) × Contains (y ∷ ys) x × P x) ⊎ ((x : A) → Contains (y ∷ ys) x → Q x)
    by (inl h) rest = inl (y, Contains-here y y ys refl, h)
    by (inr q) (inl h) = inl (h.0, Contains-there h.0 y ys h.1, h.2)
    by (inr q) (inr all) = inr (λ x c. ⊎_elim (λ e. subst Q (sym e) q) (all x) (Contains-cases x y ys c))

pub some_not_zero : {A : Type 0} (f : A → ℤ) (xs : List A) → ((x : A) × Contains xs x × (f x ≢ pos 0)) ⊎ ((x : A) → Contains xs x → f x ≡ pos 0)
some_not_zero f xs = some_or_all (λ x. f x ≢ pos 0) (λ x. f x ≡ pos 0) (λ x. ⊎_elim inr inl (zero_or (f x))) xs
