-- Lists: what a list contains, pairs of its entries, and numbers in a row.
use Rattle.std.proofs.Common.{◌≡◌, ◌∙◌, refl, sym, ap, subst, ◌⊎◌, inl, inr, ℕ, suc, ◌+◌, ◌<◌, List, [], ◌∷◌, ◌++◌, length, get_or, map, arith, Bool, true, zero, Some}
use Rattle.std.proofs.lemmas.List.{map-id}
use Rattle.std.proofs.lemmas.List.Elements.{Contains-get_or, All-contains, Contains-append_left, Contains-append_right}
use Rattle.std.proofs.lemmas.List.Folds.{list_any_at}
use Rattle.std.proofs.lemmas.List.FromFn.{map-range_with_len_more}
use Rattle.std.proofs.lemmas.List.Kept.{AllPairs-cons}
use Rattle.std.specs.List.{list_any, range_with_len}
use Rattle.std.specs.Prelude.{AllPairs, Contains, Any}
use Rattle.ntfe_model.specs.Lists.{IsListing}
use Rattle.ntfe_model.proofs.Listings.{Contains-here, Contains-there, Contains-cases, Contains-none, AllPairs-head, AllPairs-tail, All-from_contains}

pub Contains-map : {X Y : Type 0} (f : X → Y) (xs : List X) (x : X) → Contains xs x → Contains (map f xs) (f x)
Contains-map f [] x h = Contains-none x h
Contains-map {X} {Y} f (y ∷ ys) x h = by (Contains-cases x y ys h) (Contains-map f ys x)
  where
    by : (x ≡ y) ⊎ Contains ys x → (Contains ys x → Contains (map f ys) (f x)) → Contains (f y ∷ map f ys) (f x)
    by (inl e) rest = Contains-here (f x) (f y) (map f ys) (ap f e)
    by (inr p) rest = Contains-there (f x) (f y) (map f ys) (rest p)

pub Contains-from_map : {X Y : Type 0} (f : X → Y) (xs : List X) (y : Y) → Contains (map f xs) y → (x : X) × Contains xs x × (y ≡ f x)
Contains-from_map f [] y h = Contains-none y h
Contains-from_map {X} {Y} f (x ∷ xs) y h = by (Contains-cases y (f x) (map f xs) h) (Contains-from_map f xs y)
  where
    by : (y ≡ f x) ⊎ Contains (map f xs) y → (Contains (map f xs) y → (z : X) × Contains xs z × (y ≡ f z)) → (z : X) × Contains (x ∷ xs) z × (y ≡ f z)
    by (inl e) rest = (x, Contains-here x x xs refl, e)
    by (inr p) rest = let r = rest p in (r.0, Contains-there r.0 x xs r.1, r.2)

-- the images of a listing, where the map keeps the order
pub listing_map : {X Y : Type 0} (R : X → X → Type 0) (S : Y → Y → Type 0) (P : X → Type 0) (f : X → Y) → ((x z : X) → R x z → S (f x) (f z)) → (xs : List X) → IsListing R P xs
    → IsListing S (λ y. (x : X) × P x × (y ≡ f x)) (map f xs)
listing_map {X} {Y} R S P f keeps xs l = record {
  ordered = ordered xs l.ordered;
  sound = All-from_contains (λ y. (x : X) × P x × (y ≡ f x)) (map f xs) (λ y c. (let r = Contains-from_map f xs y c in (r.0, All-contains P xs r.0 l.sound r.1, r.2)));
  complete = λ y p. subst (Contains (map f xs)) (sym p.2) (Contains-map f xs p.0 (l.complete p.0 p.1));
}
  where
    ordered : (zs : List X) → AllPairs R zs → AllPairs S (map f zs)
    ordered [] o = λ i j d k m. absurd (omega arith)
    ordered (z ∷ zs) o =
        AllPairs-cons S (f z) (map f zs)
        (All-from_contains (S (f z)) (map f zs) (λ y c. (let r = Contains-from_map f zs y c in subst (S (f z)) (sym r.2) (keeps z r.0 (All-contains (R z) zs r.0 (AllPairs-head R z zs o) r.1)))))
        (ordered zs (AllPairs-tail R z zs o))

pub any_here : (P : ℕ → Type 0) (ks : List ℕ) (i : ℕ) → i < length ks → P (get_or ks i 0) → Any P ks
any_here P ks i l p = let c = Contains-get_or ks i 0 l in (c.0, get_or ks i 0, c.1, c.2, p)

pub any_true : {X : Type 0} (p : X → Bool) (xs : List X) (x : X) → Contains xs x → p x ≡ true → list_any p xs ≡ true
any_true p xs x c e = list_any_at p xs c.0 x c.1 (ap p c.2 ∙ e)

pub pairs_first : {X : Type 0} (R : X → X → Type 0) (xs ys : List X) → AllPairs R (xs ++ ys) → AllPairs R xs
pairs_first R [] ys h = λ i j d k l. absurd (omega arith)
pairs_first R (x ∷ xs) ys h =
    AllPairs-cons R x xs (All-from_contains (R x) xs (λ z p. All-contains (R x) (xs ++ ys) z (AllPairs-head R x (xs ++ ys) h) (Contains-append_left xs ys z p)))
    (pairs_first R xs ys (AllPairs-tail R x (xs ++ ys) h))

pub pairs_across : {X : Type 0} (R : X → X → Type 0) (xs ys : List X) → AllPairs R (xs ++ ys) → (x y : X) → Contains xs x → Contains ys y → R x y
pairs_across R [] ys h x y p q = Contains-none x p
pairs_across {X} R (z ∷ xs) ys h x y p q = by (Contains-cases x z xs p) (λ r. pairs_across R xs ys (AllPairs-tail R z (xs ++ ys) h) x y r q)
  where
    by : (x ≡ z) ⊎ Contains xs x → (Contains xs x → R x y) → R x y
    by (inl e) rest = let P : X → Type 0 = λ w. R w y in subst P (sym e) (All-contains (R z) (xs ++ ys) y (AllPairs-head R z (xs ++ ys) h) (Contains-append_right xs ys y q))
    by (inr r) rest = rest r

pub range_length : (a n : ℕ) → length (range_with_len a n) ≡ n
range_length a zero = refl
range_length a (suc n) = ap suc (range_length (a + 1) n)

pub range_more : (a n : ℕ) → range_with_len a (n + 1) ≡ range_with_len a n ++ (a + n) ∷ []
range_more a n = sym (map-id (range_with_len a (n + 1))) ∙ map-range_with_len_more (λ k. k) a n (a + n) refl ∙ ap (λ ks. ks ++ (a + n) ∷ []) (map-id (range_with_len a n))

pub range_get : (a n k : ℕ) → k < n → get_or (range_with_len a n) k 0 ≡ a + k
range_get a zero k h = absurd (omega arith)
range_get a (suc n) zero h = omega arith
range_get a (suc n) (suc k) h = range_get (a + 1) n k (omega arith) ∙ (let e : a + 1 + k ≡ a + suc k = omega arith in e)

pub some_once : {X : Type 0} (x y : X) → Some x ≡ Some y → x ≡ y
some_once x y e = cc
