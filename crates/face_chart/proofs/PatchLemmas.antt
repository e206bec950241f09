-- The points of a patch, found by their numbers.
use Rattle.std.proofs.Common.{◌≡◌, ℕ, ◌-◌, ◌<◌, ◌≤◌, ◌⊎◌, inl, inr, ◌==◌, Bool, true, false, cond, refl, sym, ap, ◌∙◌, subst, arith, List, [], ◌∷◌, length, get_or}
use Rattle.std.specs.Prelude.{All, Contains}
use Rattle.std.proofs.lemmas.Bool.Decides.{nat_tests}
use Rattle.std.proofs.lemmas.List.{get_or-map, get_or_read, length-map}
use Rattle.std.proofs.lemmas.List.Elements.{All-contains, All-head, All-tail}
use Rattle.ntfe_nums.specs.Vectors.{Vector, origin}
use Rattle.ntfe_model.specs.Pairs.{IsSmall}
use Rattle.ntfe_model.specs.Charts.{Patch, Spot, place, axes, spot_numbers, IsOf}
use Rattle.ntfe_model.proofs.Listings.{Contains-cases, Contains-none, Contains-here, Contains-there}
use Rattle.ntfe_model.specs.declared.flat.Flat.{Flat}
use Rattle.ntfe_model.specs.Flats.{flat_of, IsSmallFlat}
use Rattle.face_chart.specs.Tables.{patch, place_at, AreKnown, IsTable}
use Rattle.ntfe_model.proofs.FlatLemmas.{small_flat}

pub numbers_back : (vs : List Vector) (ks : List ℕ) → spot_numbers (patch ks vs) ≡ ks
numbers_back vs [] = refl
numbers_back vs (k ∷ ks) = ap (λ ls. k ∷ ls) (numbers_back vs ks)

pub place_is : (vs : List Vector) (ks : List ℕ) (a : ℕ) → Contains ks a → place (patch ks vs) a ≡ place_at vs a
place_is vs [] a c = Contains-none a c
place_is vs (k ∷ ks) a c = by (Contains-cases a k ks c) (place_is vs ks a) (k == a) refl
  where
    yes_same : (k == a) ≡ true → k ≡ a
    yes_same e = grind (arith, nat_tests)

    no_same : a ≡ k → (k == a) ≡ false → ⊥
    no_same q e = absurd (grind (arith, nat_tests))

    by : (a ≡ k) ⊎ Contains ks a → (Contains ks a → place (patch ks vs) a ≡ place_at vs a) → (b : Bool) → (k == a) ≡ b
        → cond b (place_at vs k) (place (patch ks vs) a) ≡ place_at vs a
    by s rest true e = ap (place_at vs) (yes_same e)
    by (inl q) rest false e = absurd (no_same q e)
    by (inr d) rest false e = rest d

-- what is read at the number at a place of the list
pub place_here : (ks : List ℕ) (vs : List Vector) (i : ℕ) (v : Vector) → AreKnown ks vs → i < length ks → v ≡ get_or vs (get_or ks i 0 - 1) v → v ≡ place_at vs (get_or ks i 0)
place_here ks vs i v k l q =
    let r = k i 0 l in
    get_or_read vs (get_or ks i 0 - 1) v (let r0 = r.0 in let r1 = r.1 in omega arith) q origin

pub small_here : (ks : List ℕ) (vs : List Vector) (i : ℕ) (v : Vector) → AreKnown ks vs → All IsSmall vs → i < length ks → v ≡ get_or vs (get_or ks i 0 - 1) v → IsSmall v
small_here ks vs i v k s l q =
    let r = k i 0 l in
    let P : Vector → Type 0 = IsSmall in
    subst P (sym q) (s (get_or ks i 0 - 1) v (let r0 = r.0 in let r1 = r.1 in omega arith))

-- each point of the patch stands in it with its place
pub spot_in : (vs : List Vector) (ks : List ℕ) (a : ℕ) → Contains ks a → Contains (patch ks vs) (record { number = a; place = place_at vs a })
spot_in vs [] a c = Contains-none a c
spot_in vs (k ∷ ks) a c = by (Contains-cases a k ks c) (spot_in vs ks a)
  where
    by : (a ≡ k) ⊎ Contains ks a → (Contains ks a → Contains (patch ks vs) (record { number = a; place = place_at vs a }))
        → Contains (patch (k ∷ ks) vs) (record { number = a; place = place_at vs a })
    by (inl q) rest = Contains-here _ _ (patch ks vs) (λ i. record { number = q i; place = place_at vs (q i) })
    by (inr d) rest = Contains-there _ _ (patch ks vs) (rest d)

pub spot_from : (vs : List Vector) (ks : List ℕ) (s : Spot) → Contains (patch ks vs) s → (a : ℕ) × Contains ks a × (s.place ≡ place_at vs a)
spot_from vs [] s c = Contains-none s c
spot_from vs (k ∷ ks) s c = by (Contains-cases s _ (patch ks vs) c) (spot_from vs ks s)
  where
    by : (s ≡ record { number = k; place = place_at vs k }) ⊎ Contains (patch ks vs) s → (Contains (patch ks vs) s → (a : ℕ) × Contains ks a × (s.place ≡ place_at vs a))
        → (a : ℕ) × Contains (k ∷ ks) a × (s.place ≡ place_at vs a)
    by (inl q) rest = (k, Contains-here k k ks refl, ap (λ t. t.place) q)
    by (inr d) rest = let r = rest d in (r.0, Contains-there r.0 k ks r.1, r.2)

module _ (ks : List ℕ) (vs : List Vector) (h : Patch) (e : patch ks vs ≡ h) where
  pub of_numbers : (a : ℕ) → IsOf h a → Contains ks a
  of_numbers a o = let P = λ (ls : List ℕ). Contains ls a in subst P (ap spot_numbers (sym e) ∙ numbers_back vs ks) o

  pub of_patch : (a : ℕ) → Contains ks a → IsOf h a
  of_patch a o = let P = λ (ls : List ℕ). Contains ls a in subst P (sym (numbers_back vs ks) ∙ ap spot_numbers e) o

  pub points_are : ks ≡ spot_numbers h
  points_are = sym (numbers_back vs ks) ∙ ap spot_numbers e

  pub place_of : (a : ℕ) → IsOf h a → place_at vs a ≡ place h a
  place_of a o = sym (place_is vs ks a (of_numbers a o)) ∙ ap (λ x. place x a) e

  pub known_at : (a : ℕ) → AreKnown ks vs → IsOf h a → (1 ≤ a) × (a ≤ length vs)
  known_at a k o = All-contains (λ j. (1 ≤ j) × (j ≤ length vs)) ks a k (of_numbers a o)

  -- what is read at a point's number
  pub place_read : (a : ℕ) (v : Vector) → AreKnown ks vs → IsOf h a → v ≡ get_or vs (a - 1) v → v ≡ place h a
  place_read a v k o q =
      let r = known_at a k o in
      get_or_read vs (a - 1) v (let r0 = r.0 in let r1 = r.1 in omega arith) q origin ∙ place_of a o

  pub small_read : (a : ℕ) (v : Vector) → AreKnown ks vs → All IsSmall vs → IsOf h a → v ≡ get_or vs (a - 1) v → IsSmall v
  small_read a v k s o q =
      let r = known_at a k o in
      let P : Vector → Type 0 = IsSmall in
      subst P (sym q) (s (a - 1) v (let r0 = r.0 in let r1 = r.1 in omega arith))

  module _ (fs : List Flat) (t : IsTable ks vs fs) where
    pub flat_length : length fs ≡ length vs
    flat_length = ap length t.flat ∙ length-map vs (flat_of (axes (patch ks vs)))

    pub flat_read : (a : ℕ) (f : Flat) → IsOf h a → f ≡ get_or fs (a - 1) f → f ≡ flat_of (axes h) (place h a)
    flat_read a f o q =
        let r = known_at a t.known o in
        let l : a - 1 < length vs = (let r0 = r.0 in let r1 = r.1 in omega arith) in
        q ∙ ap (λ xs. get_or xs (a - 1) f) t.flat ∙ get_or-map (flat_of (axes (patch ks vs))) vs (a - 1) origin f l ∙ (λ i. flat_of (axes (e i)) (place_of a o i))

    pub small_place : (a : ℕ) → IsOf h a → IsSmall (place h a)
    small_place a o =
        let r = known_at a t.known o in
        let P : Vector → Type 0 = IsSmall in
        subst P (place_of a o) (t.small (a - 1) origin (let r0 = r.0 in let r1 = r.1 in omega arith))

    pub small_flat_read : (a : ℕ) (f : Flat) → IsOf h a → f ≡ get_or fs (a - 1) f → IsSmallFlat f
    small_flat_read a f o q =
        let P : Flat → Type 0 = IsSmallFlat in
        subst P (sym (flat_read a f o q)) (small_flat (axes h) (place h a) (small_place a o))

-- ---- equal patches

-- patches with the same numbers are equal exactly where all places are
pub same_patch : (ks : List ℕ) (vs ws : List Vector) → All (λ k. place_at vs k ≡ place_at ws k) ks → patch ks vs ≡ patch ks ws
same_patch [] vs ws h = refl
same_patch (k ∷ ks) vs ws h =
    let e = All-head (λ j. place_at vs j ≡ place_at ws j) k ks h in
    let r = same_patch ks vs ws (All-tail (λ j. place_at vs j ≡ place_at ws j) k ks h) in
    λ i. record { number = k; place = e i } ∷ r i

pub patch_place : (ks : List ℕ) (vs ws : List Vector) (a : ℕ) → Contains ks a → patch ks vs ≡ patch ks ws → place_at vs a ≡ place_at ws a
patch_place ks vs ws a o e = sym (place_is vs ks a o) ∙ ap (λ h. place h a) e ∙ place_is ws ks a o

-- the same of two views
pub views_same : (ks ls : List ℕ) (vs ws : List Vector) (h k : Patch) → patch ks vs ≡ h → patch ls ws ≡ k → ks ≡ ls → All (λ j. place_at vs j ≡ place_at ws j) ks → h ≡ k
views_same ks ls vs ws h k e f q p = sym e ∙ same_patch ks vs ws p ∙ ap (λ ms. patch ms ws) q ∙ f

pub views_numbers : (ks ls : List ℕ) (vs ws : List Vector) (h k : Patch) → patch ks vs ≡ h → patch ls ws ≡ k → h ≡ k → ks ≡ ls
views_numbers ks ls vs ws h k e f q = points_are ks vs h e ∙ ap spot_numbers q ∙ sym (points_are ls ws k f)

pub views_place : (ks ls : List ℕ) (vs ws : List Vector) (h k : Patch) → patch ks vs ≡ h → patch ls ws ≡ k → ks ≡ ls → h ≡ k → (a : ℕ) → Contains ks a → place_at vs a ≡ place_at ws a
views_place ks ls vs ws h k e f n q a o = patch_place ks vs ws a o (e ∙ q ∙ sym f ∙ ap (λ ms. patch ms ws) (sym n))
