-- The triples around a point.
use Rattle.std.proofs.Common.{◌≡◌, ℕ, ◌+◌, ◌<◌, ⊎_elim, sym, subst, List, [], ◌∷◌, ◌++◌, take, length, get_or}
use Rattle.std.specs.Prelude.{Contains}
use Rattle.std.proofs.lemmas.List.{take_more}
use Rattle.std.proofs.lemmas.List.Elements.{Contains-append_left, Contains-append_right, Contains-append_cases}
use Rattle.ntfe_model.specs.declared.triangle.Triangle.{Triangle}
use Rattle.ntfe_model.proofs.Listings.{Contains-cases, Contains-none}
use Rattle.fold_rows.specs.Rows.{HasPoint, AreAround}

only : (t u : Triangle) → Contains (u ∷ []) t → t ≡ u
only t u c = ⊎_elim (λ e. e) (λ d. Contains-none t d) (Contains-cases t u [] c)

around_one : (ts us : List Triangle) (t : Triangle) (a : ℕ) → AreAround ts a us → AreAround (ts ++ t ∷ []) a (us ++ t ∷ [])
around_one ts us t a h = record {
  sound = λ u c. ⊎_elim (λ d. Contains-append_left ts (t ∷ []) u (h.sound u d)) (λ d. Contains-append_right ts (t ∷ []) u d) (Contains-append_cases us (t ∷ []) u c);
  complete = λ u c p. ⊎_elim (λ d. Contains-append_left us (t ∷ []) u (h.complete u d p)) (λ d. Contains-append_right us (t ∷ []) u d) (Contains-append_cases ts (t ∷ []) u c);
}

around_skip : (ts us : List Triangle) (t : Triangle) (a : ℕ) → ¬ (HasPoint t a) → AreAround ts a us → AreAround (ts ++ t ∷ []) a us
around_skip ts us t a far h = record {
  sound = λ u c. Contains-append_left ts (t ∷ []) u (h.sound u c);
  complete = λ u c p. ⊎_elim (λ d. h.complete u d p) (λ d. let P : Triangle → Type 0 = λ v. HasPoint v a in absurd (far (subst P (only u t d) p))) (Contains-append_cases ts (t ∷ []) u c);
}

-- one more triple, with the corner a or not
pub around_more : (ts us vs : List Triangle) (i : ℕ) (d : Triangle) (a : ℕ) → i < length ts → vs ≡ us ++ get_or ts i d ∷ [] → AreAround (take i ts) a us → AreAround (take (i + 1) ts) a vs
around_more ts us vs i d a l e h =
    let P : List Triangle × List Triangle → Type 0 = λ p. AreAround p.0 a p.1 in
    subst P (λ t. (sym (take_more ts i d l) t, sym e t)) (around_one (take i ts) us (get_or ts i d) a h)

pub around_same : (ts us vs : List Triangle) (i : ℕ) (d : Triangle) (a : ℕ) → i < length ts → us ≡ vs → ¬ (HasPoint (get_or ts i d) a) → AreAround (take i ts) a us → AreAround (take (i + 1) ts) a vs
around_same ts us vs i d a l e far h =
    let P : List Triangle × List Triangle → Type 0 = λ p. AreAround p.0 a p.1 in
    subst P (λ t. (sym (take_more ts i d l) t, e t)) (around_skip (take i ts) us (get_or ts i d) a far h)
