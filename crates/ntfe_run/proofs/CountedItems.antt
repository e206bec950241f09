-- The items of a two-face are counted.
--     listing_before      the entries of a listing before one of them
--     faces_counted      a two-face has the items of exactly the numbers below one
use Rattle.std.proofs.Common.{◌≡◌, ◌∙◌, ℕ, ◌<◌, ◌≤◌, ◌⊎◌, ◌↔◌, inl, inr, ⊎_elim, sym, ap, subst, arith, List, [], take, length, get_or}
use Rattle.std.specs.Prelude.{All, AllPairs, Contains}
use Rattle.std.proofs.lemmas.List.{get_or_default, get_or-take, length-take-le}
use Rattle.ntfe_model.specs.Lists.{IsListing}
use Rattle.ntfe_model.specs.Points.{place_of_point}
use Rattle.ntfe_model.specs.Shapes.{Shape, IsShape, face_at}
use Rattle.ntfe_model.specs.Charts.{Patch, patch_at, spot_numbers, IsUnit, AreApart}
use Rattle.ntfe_model.specs.Words.{IsTriangulation, IsItem, HasItemAt, HasItem}
use Rattle.ntfe_model.specs.declared.triangulation.Triangulation.{Triangulation}
use Rattle.ntfe_model.proofs.GeometryPoints.{numbers_of, numbers_rise}
use Rattle.ntfe_model.proofs.Items.{number_fixed}
use Rattle.ntfe_model.proofs.Listings.{listing_same}
use Rattle.ntfe_model.proofs.Orders.{below_once, WordBelow}
use Rattle.ntfe_model.proofs.Triples.{Decided}
use Rattle.fine_stream.specs.Paths.{Completes}
use Rattle.fine_stream.proofs.Waiting.{triangulation_completes, completes_triangulation}
use Rattle.fine_stream.proofs.AllItems.{steps_all}
use Rattle.ntfe_run.proofs.FaceDecisions.{some_unit, steps_listed}
use Rattle.star_builder.proofs.Decisions.{decide_less}
use Rattle.star_builder.proofs.FaceLevels.{face_apart}
use Rattle.star_builder.proofs.Inducing.{some_triple}

module _ {X : Type 0} (before : X → X → Type 0) (once : (a b : X) → before a b → before b a → ⊥) (P : X → Type 0) (xs : List X) (l : IsListing before P xs) (n : ℕ) (d : X) (inside : n < length xs) where
  abbrev x : X
  x = get_or xs n d

  count : length (take n xs) ≡ n
  count = length-take-le n xs (omega (arith, inside))

  taken : (i : ℕ) (e : X) → i < n → get_or (take n xs) i e ≡ get_or xs i e
  taken i e k = get_or-take n xs i e k

  early : (i : ℕ) → i < length (take n xs) → i < n
  early i k = let c = count in omega (arith, c, k)

  ordered : AllPairs before (take n xs)
  ordered i j e k m =
      let q = early j m in
      let R : X × X → Type 0 = λ v. before v.0 v.1 in
      subst R (λ t. (sym (taken i e (omega (arith, k, q))) t, sym (taken j e q) t)) (l.ordered i j e k (omega (arith, q, inside)))

  sound : All (λ y. P y × before y x) (take n xs)
  sound i e k =
      let q = early i k in
      let R : X → Type 0 = λ y. P y × before y x in
      let S : X → Type 0 = λ y. before (get_or xs i e) y in
      subst R (sym (taken i e q)) (l.sound i e (omega (arith, q, inside)), subst S (get_or_default xs n e d inside) (l.ordered i n e q inside))

  complete : (y : X) → P y × before y x → Contains (take n xs) y
  complete y (p, b) = by (l.complete y p)
    where
      same_y : (i : ℕ) → i < length xs → get_or xs i y ≡ y → n ≤ i → ⊥
      same_y i k e late = ⊎_elim same later (let c : (i ≡ n) ⊎ (n < i) = grind arith in c)
        where
          same : i ≡ n → ⊥
          same q =
              let S : X → Type 0 = λ z. before y z in
              let itself = subst S (get_or_default xs n d y inside ∙ ap (λ j. get_or xs j y) (sym q) ∙ e) b in
              once y y itself itself

          later : n < i → ⊥
          later q =
              let R : X × X → Type 0 = λ v. before v.0 v.1 in
              once x y (subst R (λ t. (get_or_default xs n y d inside t, e t)) (l.ordered n i y q k)) b

      by : Contains xs y → Contains (take n xs) y
      by (i, k, e) =
          ⊎_elim (λ q. (i, (let c = count in omega (arith, c, q)), taken i y q ∙ e)) (λ late. absurd (same_y i k e late)) (let c : (i < n) ⊎ (n ≤ i) = grind arith in c)

  pub listing_before : IsListing before (λ y. P y × before y (get_or xs n d)) (take n xs)
  listing_before = record { ordered = ordered; sound = sound; complete = complete }

-- ---- of a list of all triangulations

module _ (h : Patch) (xs : List Triangulation) (l : IsListing WordBelow (IsTriangulation h) xs) where
  item_at : (n : ℕ) (d : Triangulation) → n < length xs → IsItem h n (get_or xs n d)
  item_at n d inside = record {
    is = l.sound n d inside;
    lesser = take n xs;
    listing = listing_before WordBelow (λ y z. below_once y.word z.word) (IsTriangulation h) xs l n d inside;
    count = length-take-le n xs (omega (arith, inside));
  }

  listed_counted : (n : ℕ) → HasItemAt h n ↔ (n < length xs)
  listed_counted n = (to, λ k. (get_or xs n (record { word = []; triangles = [] }), item_at n (record { word = []; triangles = [] }) k))
    where
      to : HasItemAt h n → n < length xs
      to (x, item) = by (l.complete x item.is)
        where
          by : Contains xs x → n < length xs
          by (i, k, e) = let same = number_fixed h i n x (subst (IsItem h i) e (item_at i x k)) item in omega (arith, k, same)

module _ (h : Patch) (apart : AreApart h) (rising : AllPairs (λ j k. j < k) (spot_numbers h)) (a b c : ℕ) (known : IsUnit h a b c) where
  triangulations_listed : (xs : List Triangulation) × IsListing WordBelow (IsTriangulation h) xs
  triangulations_listed =
      let steps = steps_listed h apart in
      let all = steps_all h apart rising a b c known steps.0 steps.1 in (
        all.0,
        listing_same WordBelow (λ y. Completes h [] steps.0 y.word y.triangles) (IsTriangulation h) all.0 all.1 (λ y k. completes_triangulation h apart steps.0 y steps.1 k)
            (λ y p. triangulation_completes h steps.0 y steps.1 p),
      )

-- ---- of a geometry

abbrev pub IsCountOf : Shape → ℕ → ℕ → Type 0
IsCountOf g f m = (n : ℕ) → HasItem g f n ↔ (n < m)

module _ (g : Shape) (s : IsShape g) where
  items_counted : (f : ℕ) → f < length g.faces → (m : ℕ) × ((n : ℕ) → HasItemAt (patch_at g f) n ↔ (n < m))
  items_counted f within = by (some_unit (patch_at g f))
    where
      h : Patch
      h = patch_at g f

      rising : AllPairs (λ j k. j < k) (spot_numbers h)
      rising = subst (AllPairs (λ j k. j < k)) (sym (numbers_of (face_at g f).points (place_of_point g.points))) (numbers_rise g s f within)

      by : ((a : ℕ) × (b : ℕ) × (c : ℕ) × IsUnit h a b c) ⊎ ((a : ℕ) → (b : ℕ) → (c : ℕ) → IsUnit h a b c → ⊥) → (m : ℕ) × ((n : ℕ) → HasItemAt h n ↔ (n < m))
      by (inl (a, b, c, u)) =
          let all = triangulations_listed h (face_apart g s f within) rising a b c u in
          (length all.0, listed_counted h all.0 all.1)
      by (inr none) = (
        0,
        λ n. (
          (λ i. absurd (let t = some_triple g s f within i.0.triangles i.1.is.fine in none t.0.a t.0.b t.0.c (i.1.is.fine.unit t.0 t.1))),
          (λ l. absurd (omega (arith, l))),
        ),
      )

  pub faces_counted : (f : ℕ) → (m : ℕ) × IsCountOf g f m
  faces_counted f = by (decide_less f (length g.faces))
    where
      by : Decided (f < length g.faces) → (m : ℕ) × IsCountOf g f m
      by (inl within) = let c = items_counted f within in (c.0, λ n. ((λ i. (c.1 n).0 i.1), (λ l. (within, (c.1 n).1 l))))
      by (inr out) = (0, λ n. ((λ i. absurd (out i.0)), (λ l. absurd (omega (arith, l)))))
