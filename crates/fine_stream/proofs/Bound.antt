-- A part has at most as many triples as the face has pairs of points.
use Rattle.std.proofs.Common.{◌≡◌, ◌≢◌, ℕ, suc, ◌+◌, ◌*◌, ◌≤◌, ◌⊎◌, inl, inr, ⊎_elim, Bool, true, false, refl, sym, ap, ◌∙◌, subst, arith, List, [], ◌∷◌, ◌++◌, map, length, ◌&&◌, ◌==◌}
use Rattle.std.specs.Prelude.{AllPairs, Contains}
use Rattle.std.specs.List.{IsDistinct, AllByRecursion}
use Rattle.std.specs.Cmp.{IsEquivalence, nat_eq_equiv}
use Rattle.std.proofs.lemmas.Map.Made.{length-le_from_is_member}
use Rattle.std.proofs.lemmas.List.Elements.{All-contains, Contains-append_left, Contains-append_right}
use Rattle.ntfe_model.specs.Charts.{Patch, IsUnit, spot_numbers}
use Rattle.ntfe_model.specs.Words.{is_same_step}
use Rattle.ntfe_model.specs.declared.triangle.Triangle.{Triangle}
use Rattle.ntfe_model.proofs.Listings.{Contains-here, Contains-there, Contains-cases, Contains-none, AllPairs-head, AllPairs-tail}
use Rattle.face_chart.proofs.Walk.{same_step_is, any_contains}
use Rattle.face_chart.proofs.WordExists.{contains_any}
use Rattle.fine_stream.specs.Paths.{AreCompatible, IsPart}

-- ---- pairs of numbers

step_equiv : IsEquivalence is_same_step
step_equiv = record {
  refl = λ e. same e.0 e.1;
  symm = λ e f. (λ i. nat_eq_equiv.symm e.0 f.0 i && nat_eq_equiv.symm e.1 f.1 i);
  congr = λ e f g p. ap (λ x. is_same_step x g) (same_step_is e f p);
}
  where
    same : (x y : ℕ) → ((x == x) && (y == y)) ≡ true
    same x y = (λ i. nat_eq_equiv.refl x i && nat_eq_equiv.refl y i)

abbrev pairs_with : ℕ → List ℕ → List (ℕ × ℕ)
pairs_with k ls = map (λ l. (k, l)) ls

abbrev pairs_from : List ℕ → List ℕ → List (ℕ × ℕ)
pairs_from [] ls = []
pairs_from (k ∷ ks) ls = pairs_with k ls ++ pairs_from ks ls

pairs_length : (ks ls : List ℕ) → length (pairs_from ks ls) ≡ length ks * length ls
pairs_length [] ls = omega arith
pairs_length (k ∷ ks) ls =
    length_append (pairs_with k ls) (pairs_from ks ls) ∙ (λ i. length_map k ls i + pairs_length ks ls i) ∙ one_more (length ks) (length ls)
  where
    length_append : (xs ys : List (ℕ × ℕ)) → length (xs ++ ys) ≡ length xs + length ys
    length_append [] ys = omega arith
    length_append (x ∷ xs) ys = let e = length_append xs ys in omega arith

    length_map : (j : ℕ) (ms : List ℕ) → length (pairs_with j ms) ≡ length ms
    length_map j [] = refl
    length_map j (m ∷ ms) = ap suc (length_map j ms)

    one_more : (m n : ℕ) → n + m * n ≡ suc m * n
    one_more m n = omega arith

in_pairs : (ks ls : List ℕ) (a b : ℕ) → Contains ks a → Contains ls b → Contains (pairs_from ks ls) (a, b)
in_pairs [] ls a b p q = Contains-none a p
in_pairs (k ∷ ks) ls a b p q =
    ⊎_elim (λ e. Contains-append_left (pairs_with k ls) (pairs_from ks ls) (a, b) (let P : ℕ → Type 0 = λ j. Contains (pairs_with j ls) (a, b) in subst P e (in_map a ls q)))
    (λ m. Contains-append_right (pairs_with k ls) (pairs_from ks ls) (a, b) (in_pairs ks ls a b m q)) (Contains-cases a k ks p)
  where
    in_map : (j : ℕ) (ms : List ℕ) → Contains ms b → Contains (pairs_with j ms) (j, b)
    in_map j [] r = Contains-none b r
    in_map j (m ∷ ms) r =
        ⊎_elim (λ e. Contains-here (j, b) (j, m) (pairs_with j ms) (λ i. (j, e i))) (λ s. Contains-there (j, b) (j, m) (pairs_with j ms) (in_map j ms s)) (Contains-cases b m ms r)

-- ---- first sides

abbrev first_sides : List Triangle → List (ℕ × ℕ)
first_sides ts = map (λ t. (t.a, t.b)) ts

apart_false : (e f : ℕ × ℕ) → e ≢ f → is_same_step e f ≡ false
apart_false e f n = by (is_same_step e f) refl
  where
    by : (b : Bool) → is_same_step e f ≡ b → b ≡ false
    by true p = absurd (n (same_step_is e f p))
    by false p = refl

sides_distinct : (h : Patch) (ts : List Triangle) → AllPairs (AreCompatible h) ts → IsDistinct is_same_step (first_sides ts)
unfolding IsDistinct
sides_distinct h [] p = tt
sides_distinct h (t ∷ ts) p = (others ts (λ u k. All-contains (AreCompatible h t) ts u (AllPairs-head (AreCompatible h) t ts p) k), sides_distinct h ts (AllPairs-tail (AreCompatible h) t ts p))
  where
    others : (us : List Triangle) → ((u : Triangle) → Contains us u → AreCompatible h t u) → AllByRecursion (λ y. is_same_step (t.a, t.b) y ≡ false) (first_sides us)
    others [] f = tt
    others (u ∷ us) f = (
      apart_false (t.a, t.b) (u.a, u.b) (λ e. (f u (Contains-here u u us refl)).apart t.a t.b u.a u.b (inl (refl, refl)) (inl (refl, refl)) (inl (ap (λ x. x.0) e, ap (λ x. x.1) e))),
      others us (λ v k. f v (Contains-there v u us k)),
    )

first_in : (ts : List Triangle) (e : ℕ × ℕ) → Contains (first_sides ts) e → (t : Triangle) × Contains ts t × (t.a ≡ e.0) × (t.b ≡ e.1)
first_in [] e k = Contains-none e k
first_in (t ∷ ts) e k = by (Contains-cases e (t.a, t.b) (first_sides ts) k) (λ l. first_in ts e l)
  where
    by : ((let f : ℕ × ℕ = (t.a, t.b) in e ≡ f) ⊎ Contains (first_sides ts) e) → (Contains (first_sides ts) e → (u : Triangle) × Contains ts u × (u.a ≡ e.0) × (u.b ≡ e.1))
        → (u : Triangle) × Contains (t ∷ ts) u × (u.a ≡ e.0) × (u.b ≡ e.1)
    by (inl p) go = (t, Contains-here t t ts refl, ap (λ x. x.0) (sym p), ap (λ x. x.1) (sym p))
    by (inr l) go = let r = go l in (r.0, Contains-there r.0 t ts r.1, r.2, r.3)

pub part_bound : (h : Patch) (ts : List Triangle) → IsPart h ts → length ts ≤ length (spot_numbers h) * length (spot_numbers h)
part_bound h ts p =
    let l = length-le_from_is_member step_equiv (first_sides ts) (pairs_from (spot_numbers h) (spot_numbers h)) (sides_distinct h ts p.compatible)
    (λ e k. contains_any e (pairs_from (spot_numbers h) (spot_numbers h)) (within e (first_in ts e (any_contains e (first_sides ts) k)))) in
    sums (length ts) (length (first_sides ts)) (length (pairs_from (spot_numbers h) (spot_numbers h))) (length (spot_numbers h) * length (spot_numbers h)) (same ts) l (pairs_length (spot_numbers h) (spot_numbers h))
  where
    same : (us : List Triangle) → length (first_sides us) ≡ length us
    same [] = refl
    same (u ∷ us) = ap suc (same us)

    sums : (a b c d : ℕ) → b ≡ a → b ≤ c → c ≡ d → a ≤ d
    sums a b c d x y z = omega (arith, x, y, z)

    within : (e : ℕ × ℕ) → ((t : Triangle) × Contains ts t × (t.a ≡ e.0) × (t.b ≡ e.1)) → Contains (pairs_from (spot_numbers h) (spot_numbers h)) e
    within e r =
        let u : IsUnit h r.0.a r.0.b r.0.c = All-contains (λ t. IsUnit h t.a t.b t.c) ts r.0 p.unit r.1 in
        let k = in_pairs (spot_numbers h) (spot_numbers h) r.0.a r.0.b u.points.0 u.points.1 in
        let P : ℕ × ℕ → Type 0 = λ x. Contains (pairs_from (spot_numbers h) (spot_numbers h)) x in
        subst P (λ i. (r.2 i, r.3 i)) k
