-- Rows with one thing more or less: their order, and what they have.
use Rattle.std.proofs.Common.{◌≡◌, ◌≢◌, ◌∙◌, refl, sym, ap, subst, ◌⊎◌, inl, inr, ⊎_elim, ◌↔◌, ℕ, suc, ◌+◌, ◌-◌, ◌<◌, ◌≤◌, List, [], ◌∷◌, ◌++◌, length, take, drop, get_or, map, Some, Bool, true, nat_eq, arith, length-drop, drop-cons}
use Rattle.std.specs.Prelude.{AllPairs, Contains}
use Rattle.std.specs.List.{insert, remove}
use Rattle.std.proofs.lemmas.List.{get_or_default, nil_from_length, take-append-drop, get_or-take, get_or-drop, length-take}
use Rattle.std.proofs.lemmas.Bool.Decides.{nat_tests}
use Rattle.std.proofs.lemmas.List.Elements.{Contains-get_or, All-contains, Contains-append_left, Contains-append_right, Contains-append_cases}
use Rattle.std.proofs.lemmas.List.Kept.{AllPairs-cons}
use Rattle.ntfe_model.proofs.Lists.{Contains-from_map, pairs_first, pairs_across}
use Rattle.ntfe_model.specs.Lists.{IsBelow}
use Rattle.ntfe_model.proofs.Orders.{below_chain}
use Rattle.ntfe_model.proofs.Listings.{Contains-here, Contains-there, Contains-cases, AllPairs-head, AllPairs-tail, AllPairs-append, All-from_contains}
use Rattle.choice_board.specs.Rows.{IsFalling, IsFoundAt, IsBetween, IsPlaceFor}
use Rattle.choice_board.proofs.KeyOrder.{not_below_itself}

-- ---- the two parts of a row

pub pairs_second : {X : Type 0} (R : X → X → Type 0) (xs ys : List X) → AllPairs R (xs ++ ys) → AllPairs R ys
pairs_second R [] ys h = h
pairs_second R (x ∷ xs) ys h = pairs_second R xs ys (AllPairs-tail R x (xs ++ ys) h)

-- ---- a thing more between two parts

pub pairs_with : {X : Type 0} (R : X → X → Type 0) (xs : List X) (y : X) (zs : List X) → AllPairs R (xs ++ zs)
    → ((x : X) → Contains xs x → R x y) → ((z : X) → Contains zs z → R y z) → AllPairs R (xs ++ y ∷ zs)
pairs_with {X} R xs y zs h f g =
    AllPairs-append R xs (y ∷ zs) (pairs_first R xs zs h) (AllPairs-cons R y zs (All-from_contains (R y) zs g) (pairs_second R xs zs h))
    (λ x z p q. ⊎_elim (λ e. (let P : X → Type 0 = λ w. R x w in subst P (sym e) (f x p))) (λ r. pairs_across R xs zs h x z p r) (Contains-cases z y zs q))

pub pairs_without : {X : Type 0} (R : X → X → Type 0) (xs : List X) (y : X) (zs : List X) → AllPairs R (xs ++ y ∷ zs) → AllPairs R (xs ++ zs)
pairs_without R xs y zs h =
    AllPairs-append R xs zs (pairs_first R xs (y ∷ zs) h) (AllPairs-tail R y zs (pairs_second R xs (y ∷ zs) h))
    (λ x z p q. pairs_across R xs (y ∷ zs) h x z p (Contains-there z y zs q))

pub has_with : {X : Type 0} (xs : List X) (y : X) (zs : List X) (x : X) → (Contains (xs ++ y ∷ zs) x) ↔ ((x ≡ y) ⊎ Contains (xs ++ zs) x)
has_with {X} xs y zs x = (there, back)
  where
    there : Contains (xs ++ y ∷ zs) x → (x ≡ y) ⊎ Contains (xs ++ zs) x
    there p =
        ⊎_elim (λ q. inr (Contains-append_left xs zs x q)) (λ q. ⊎_elim (λ e. inl e) (λ r. inr (Contains-append_right xs zs x r)) (Contains-cases x y zs q))
        (Contains-append_cases xs (y ∷ zs) x p)

    back : (x ≡ y) ⊎ Contains (xs ++ zs) x → Contains (xs ++ y ∷ zs) x
    back (inl e) = Contains-append_right xs (y ∷ zs) x (Contains-here x y zs e)
    back (inr p) =
        ⊎_elim (λ q. Contains-append_left xs (y ∷ zs) x q) (λ q. Contains-append_right xs (y ∷ zs) x (Contains-there x y zs q)) (Contains-append_cases xs zs x p)

-- what a row in strict order has without one of its things
pub has_without : {X : Type 0} (R : X → X → Type 0) → ((x : X) → R x x → ⊥) → (xs : List X) (y : X) (zs : List X) (x : X) → AllPairs R (xs ++ y ∷ zs)
    → (Contains (xs ++ zs) x) ↔ (Contains (xs ++ y ∷ zs) x × (x ≢ y))
has_without {X} R strict xs y zs x h = (there, back)
  where
    before : Contains xs x → x ≢ y
    before q e = let P : X → Type 0 = λ w. R w y in strict y (subst P e (pairs_across R xs (y ∷ zs) h x y q (Contains-here y y zs refl)))

    behind : Contains zs x → x ≢ y
    behind q e = let P : X → Type 0 = λ w. R y w in strict y (subst P e (All-contains (R y) zs x (AllPairs-head R y zs (pairs_second R xs (y ∷ zs) h)) q))

    there : Contains (xs ++ zs) x → Contains (xs ++ y ∷ zs) x × (x ≢ y)
    there p = ((has_with xs y zs x).1 (inr p), ⊎_elim before behind (Contains-append_cases xs zs x p))

    back : Contains (xs ++ y ∷ zs) x × (x ≢ y) → Contains (xs ++ zs) x
    back p = ⊎_elim (λ e. absurd (p.1 e)) (λ q. q) ((has_with xs y zs x).0 p.0)

-- ---- the same of an insert and a remove

falls : {X : Type 0} (key : X → List ℕ) (x : X) → IsBelow (key x) (key x) → ⊥
falls key x h = not_below_itself (key x) h

pub falling_insert : {X : Type 0} (key : X → List ℕ) (row : List X) (i : ℕ) (y : X) → IsFalling key row → IsPlaceFor key row (key y) i → IsFalling key (insert row i y)
falling_insert {X} key row i y h p =
    let R : X → X → Type 0 = λ x z. IsBelow (key z) (key x) in
    let cut : row ≡ take i row ++ drop i row = sym (take-append-drop i row) in
    pairs_with R (take i row) y (drop i row) (subst (AllPairs R) cut h) higher lower
  where
    higher : (x : X) → Contains (take i row) x → IsBelow (key y) (key x)
    higher x q =
        let k = q.0 in
        let short : k < i = (let l = q.1 in omega (arith, length-take i row)) in
        let at : get_or row k x ≡ x = sym (get_or-take i row k x short) ∙ q.2 in
        let P : X → Type 0 = λ w. IsBelow (key y) (key w) in
        subst P at (p.higher k x short)

    lower : (x : X) → Contains (drop i row) x → IsBelow (key x) (key y)
    lower x q =
        let k = q.0 in
        let inside : i + k < length row = (let l = q.1 in omega (arith, length-drop i row)) in
        let at : get_or row (i + k) x ≡ x = sym (get_or-drop i row k x) ∙ q.2 in
        let P : X → Type 0 = λ w. IsBelow (key w) (key y) in
        subst P at (p.lower (i + k) x (omega arith) inside)

pub has_insert : {X : Type 0} (row : List X) (i : ℕ) (y x : X) → (Contains (insert row i y) x) ↔ ((x ≡ y) ⊎ Contains row x)
has_insert {X} row i y x =
    let P : List X → Type 0 = λ r. (Contains (insert row i y) x) ↔ ((x ≡ y) ⊎ Contains r x) in
    subst P (take-append-drop i row) (has_with (take i row) y (drop i row) x)

pub cut_at : {X : Type 0} (row : List X) (i : ℕ) (d : X) → i < length row → take i row ++ get_or row i d ∷ drop (suc i) row ≡ row
cut_at row i d l = sym (ap (λ r. take i row ++ r) (drop-cons row i d l)) ∙ take-append-drop i row

pub falling_remove : {X : Type 0} (key : X → List ℕ) (row : List X) (i : ℕ) (d : X) → i < length row → IsFalling key row → IsFalling key (remove row i)
falling_remove {X} key row i d l h =
    let R : X → X → Type 0 = λ x z. IsBelow (key z) (key x) in
    pairs_without R (take i row) (get_or row i d) (drop (suc i) row) (subst (AllPairs R) (sym (cut_at row i d l)) h)

pub has_remove : {X : Type 0} (key : X → List ℕ) (row : List X) (i : ℕ) (d x : X) → i < length row → IsFalling key row
    → (Contains (remove row i) x) ↔ (Contains row x × (x ≢ get_or row i d))
has_remove {X} key row i d x l h =
    let R : X → X → Type 0 = λ v w. IsBelow (key w) (key v) in
    let P : List X → Type 0 = λ r. (Contains (remove row i) x) ↔ (Contains r x × (x ≢ get_or row i d)) in
    subst P (cut_at row i d l)
    (has_without R (falls key) (take i row) (get_or row i d) (drop (suc i) row) x (subst (AllPairs R) (sym (cut_at row i d l)) h))

-- ---- mapped lists

pub pairs_map : {X Y : Type 0} (R : Y → Y → Type 0) (f : X → Y) (xs : List X) → AllPairs (λ v w. R (f v) (f w)) xs → AllPairs R (map f xs)
pairs_map R f [] h = λ i j d less within. absurd (omega arith)
pairs_map {X} {Y} R f (x ∷ xs) h =
    AllPairs-cons R (f x) (map f xs)
    (All-from_contains (R (f x)) (map f xs)
    (λ y p. (let r = Contains-from_map f xs y p in
    subst (R (f x)) (sym r.2) (All-contains (λ w. R (f x) (f w)) xs r.0 (AllPairs-head (λ v w. R (f v) (f w)) x xs h) r.1))))
    (pairs_map R f xs (AllPairs-tail (λ v w. R (f v) (f w)) x xs h))

-- ---- a search by halves

-- what stands at the middle is above the numbers
pub search_behind : {X : Type 0} (key : X → List ℕ) (row : List X) (numbers : List ℕ) (low high middle : ℕ) (e : X) → IsFalling key row → IsBetween key row numbers low high → middle < high
    → IsBelow numbers (key (get_or row middle e)) → IsBetween key row numbers (middle + 1) high
search_behind {X} key row numbers low high middle e falling b less below = record {
  rising = omega arith;
  within = b.within;
  higher = λ k d l. higher k d l;
  lower = b.lower;
}
  where
    inside : middle < length row
    inside = let w = b.within in omega arith

    here : (d : X) → IsBelow numbers (key (get_or row middle d))
    here d = let P : X → Type 0 = λ x. IsBelow numbers (key x) in subst P (get_or_default row middle e d inside) below

    higher : (k : ℕ) (d : X) → k < middle + 1 → IsBelow numbers (key (get_or row k d))
    higher k d l =
        ⊎_elim (λ s. (let P : ℕ → Type 0 = λ i. IsBelow numbers (key (get_or row i d)) in subst P (sym s) (here d)))
        (λ s. below_chain numbers (key (get_or row middle d)) (key (get_or row k d)) (here d) (falling k middle d s inside))
        (let r : (k ≡ middle) ⊎ (k < middle) = grind arith in r)

-- what stands at the middle is below the numbers
pub search_before : {X : Type 0} (key : X → List ℕ) (row : List X) (numbers : List ℕ) (low high middle : ℕ) (e : X) → IsFalling key row → IsBetween key row numbers low high
    → low ≤ middle → middle < high → IsBelow (key (get_or row middle e)) numbers → IsBetween key row numbers low middle
search_before {X} key row numbers low high middle e falling b least less below = record {
  rising = least;
  within = (let w = b.within in omega arith);
  higher = b.higher;
  lower = λ k d l m. lower k d l m;
}
  where
    inside : middle < length row
    inside = let w = b.within in omega arith

    here : (d : X) → IsBelow (key (get_or row middle d)) numbers
    here d = let P : X → Type 0 = λ x. IsBelow (key x) numbers in subst P (get_or_default row middle e d inside) below

    lower : (k : ℕ) (d : X) → middle ≤ k → k < length row → IsBelow (key (get_or row k d)) numbers
    lower k d l m =
        ⊎_elim (λ s. (let P : ℕ → Type 0 = λ i. IsBelow (key (get_or row i d)) numbers in subst P (sym s) (here d)))
        (λ s. below_chain (key (get_or row k d)) (key (get_or row middle d)) numbers (falling middle k d s m) (here d))
        (let r : (k ≡ middle) ⊎ (middle < k) = grind arith in r)

pub same_at : {X : Type 0} (key : X → List ℕ) (row : List X) (numbers : List ℕ) (i : ℕ) (e d : X) → i < length row → key (get_or row i e) ≡ numbers → key (get_or row i d) ≡ numbers
same_at key row numbers i e d inside h = ap key (get_or_default row i d e inside) ∙ h

-- ---- after an insert in code: `numbers` are those that were looked for

pub inserted_falls : {X : Type 0} (key : X → List ℕ) (row new : List X) (numbers : List ℕ) (i : ℕ) (y : X) → numbers ≡ key y → IsFalling key row
    → IsPlaceFor key row numbers i → new ≡ insert row i y → IsFalling key new
inserted_falls {X} key row new numbers i y f falling p g =
    let Q : List ℕ → Type 0 = λ ns. IsPlaceFor key row ns i in
    subst (IsFalling key) (sym g) (falling_insert key row i y falling (subst Q f p))

pub inserted_has : {X : Type 0} (row new : List X) (i : ℕ) (y x : X) → new ≡ insert row i y → (Contains new x) ↔ ((x ≡ y) ⊎ Contains row x)
inserted_has {X} row new i y x g =
    let P : List X → Type 0 = λ xs. (Contains xs x) ↔ ((x ≡ y) ⊎ Contains row x) in
    subst P (sym g) (has_insert row i y x)

pub found_in : {X : Type 0} (key : X → List ℕ) (row : List X) (numbers : List ℕ) (i : ℕ) (d : X) → IsFoundAt key row numbers i → (x : X) × Contains row x × (key x ≡ numbers)
found_in {X} key row numbers i d p = (get_or row i d, Contains-get_or row i d p.0, p.1 d)

-- ---- one thing more, by another name

pub some_is : {X : Type 0} (q r : X) → (Some q ≡ Some r) ↔ (r ≡ q)
some_is q r = (λ e. (let f : q ≡ r = cc in sym f), λ e. ap Some (sym e))

pub has_other : {X : Type 0} {Y : X → Type 0} (row new : List X) (y : X) → ((x : X) → (Contains new x) ↔ ((x ≡ y) ⊎ Contains row x)) → ((x : X) → (Y x) ↔ (x ≡ y))
    → (x : X) → (Contains new x) ↔ (Contains row x ⊎ Y x)
has_other row new y has same x =
    (λ p. ⊎_elim (λ e. inr ((same x).1 e)) (λ q. inl q) ((has x).0 p), λ p. (has x).1 (⊎_elim (λ q. inr q) (λ q. inl ((same x).0 q)) p))

-- ---- the back of a row whose length was read

pub at_back : {X : Type 0} (row : List X) (n : ℕ) (x : X) → n ≡ length row → x ≡ get_or row (n - 1) x → x ≡ get_or row (length row - 1) x
at_back row n x e h = h ∙ ap (λ m. get_or row (m - 1) x) e

-- a row whose length was tested against 0
pub empty_row : {X : Type 0} (row : List X) (n : ℕ) (b : Bool) → n ≡ length row → b ≡ nat_eq n 0 → b ≡ true → row ≡ []
empty_row row n b e f t =
    let h : n ≡ 0 = grind (arith, nat_tests) in
    nil_from_length row (omega arith)

-- ---- numbers that belong at a place are not in the row

pub absent : {X : Type 0} (key : X → List ℕ) (row : List X) (numbers : List ℕ) (i : ℕ) → IsPlaceFor key row numbers i → (x : X) → Contains row x → key x ≢ numbers
absent {X} key row numbers i p x (k, l, e) same =
    let f : key (get_or row k x) ≡ numbers = ap key e ∙ same in
    ⊎_elim
    (λ early. not_below_itself numbers (subst (IsBelow numbers) f (p.higher k x early)))
    (λ late. (let P : List ℕ → Type 0 = λ v. IsBelow v numbers in not_below_itself numbers (subst P f (p.lower k x late l))))
    (let d : (k < i) ⊎ (i ≤ k) = grind arith in d)
