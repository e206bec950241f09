-- The points of a two-face, found by their numbers.
use Rattle.std.proofs.Common.{◌≡◌, ℕ, ◌⊎◌, inl, inr, refl, ap, List, [], ◌∷◌, true, false, subst, sym, ◌∙◌, arith}
use Rattle.std.specs.Prelude.{Contains}
use lib.Dec.{eqb}
use Rattle.std.specs.List.{list_any}
use Rattle.std.proofs.lemmas.Bool.Decides.{nat_tests}
use Rattle.std.proofs.lemmas.List.Folds.{Any-from_list_any, list_any_at}
use Rattle.std.proofs.lemmas.List.Elements.{All-contains}
use Rattle.ntfe_model.specs.Points.{place_of_point}
use Rattle.ntfe_model.specs.Charts.{Spot, IsOf, place}
use Rattle.ntfe_model.specs.Lists.{IsNumberOf}
use Rattle.ntfe_model.proofs.GeometryPoints.{numbers_of, place_of_number}
use Rattle.ntfe_model.specs.declared.point.Point.{Point}
use Rattle.ntfe_model.proofs.Listings.{Contains-cases, Contains-none, Contains-here, Contains-there}
use Rattle.star_builder.specs.FaceCharts.{patch, AreKnown}

-- each point of the patch stands in it with its place
pub spot_in : (xs : List Point) (ks : List ℕ) (a : ℕ) → Contains ks a → Contains (patch ks xs) (record { number = a; place = place_of_point xs a })
spot_in xs [] a c = Contains-none a c
spot_in xs (k ∷ ks) a c = by (Contains-cases a k ks c) (spot_in xs ks a)
  where
    by : (a ≡ k) ⊎ Contains ks a → (Contains ks a → Contains (patch ks xs) (record { number = a; place = place_of_point xs a }))
        → Contains (patch (k ∷ ks) xs) (record { number = a; place = place_of_point xs a })
    by (inl q) rest = Contains-here _ _ (patch ks xs) (λ i. record { number = q i; place = place_of_point xs (q i) })
    by (inr d) rest = Contains-there _ _ (patch ks xs) (rest d)

pub spot_from : (xs : List Point) (ks : List ℕ) (s : Spot) → Contains (patch ks xs) s → (a : ℕ) × Contains ks a × (s.place ≡ place_of_point xs a)
spot_from xs [] s c = Contains-none s c
spot_from xs (k ∷ ks) s c = by (Contains-cases s _ (patch ks xs) c) (spot_from xs ks s)
  where
    by : (s ≡ record { number = k; place = place_of_point xs k }) ⊎ Contains (patch ks xs) s → (Contains (patch ks xs) s → (a : ℕ) × Contains ks a × (s.place ≡ place_of_point xs a))
        → (a : ℕ) × Contains (k ∷ ks) a × (s.place ≡ place_of_point xs a)
    by (inl q) rest = (k, Contains-here k k ks refl, ap (λ t. t.place) q)
    by (inr d) rest = let r = rest d in (r.0, Contains-there r.0 k ks r.1, r.2)

-- what a search for a number says
same_number : (y a : ℕ) → eqb y a ≡ true → y ≡ a
same_number y a e = grind (arith, nat_tests)

pub found_in : (ks : List ℕ) (a : ℕ) → list_any (λ y. eqb y a) ks ≡ true → Contains ks a
found_in ks a e =
    let f = Any-from_list_any (λ y. eqb y a) ks e in
    let s = same_number f.1 a f.4 in
    subst (Contains ks) s (f.0, f.2, f.3)

pub not_found_in : (ks : List ℕ) (a : ℕ) → list_any (λ y. eqb y a) ks ≡ false → ¬ (Contains ks a)
not_found_in ks a e c =
    let t = list_any_at (λ y. eqb y a) ks c.0 a c.1 (ap (λ y. eqb y a) c.2 ∙ same_test a) in
    cc
  where
    same_test : (b : ℕ) → eqb b b ≡ true
    same_test b = grind (arith, nat_tests)

-- ---- the patch by its numbers

pub of_numbers : (ks : List ℕ) (xs : List Point) (a : ℕ) → IsOf (patch ks xs) a → Contains ks a
of_numbers ks xs a o = subst (λ (ls : List ℕ). Contains ls a) (numbers_of ks (place_of_point xs)) o

pub of_patch : (ks : List ℕ) (xs : List Point) (a : ℕ) → Contains ks a → IsOf (patch ks xs) a
of_patch ks xs a c = subst (λ (ls : List ℕ). Contains ls a) (sym (numbers_of ks (place_of_point xs))) c

pub known_at : (ks : List ℕ) (xs : List Point) (a : ℕ) → AreKnown ks xs → IsOf (patch ks xs) a → IsNumberOf xs a
known_at ks xs a k o = All-contains (IsNumberOf xs) ks a k (of_numbers ks xs a o)

pub place_at : (ks : List ℕ) (xs : List Point) (a : ℕ) → IsOf (patch ks xs) a → place (patch ks xs) a ≡ place_of_point xs a
place_at ks xs a o = place_of_number ks (place_of_point xs) a (of_numbers ks xs a o)
