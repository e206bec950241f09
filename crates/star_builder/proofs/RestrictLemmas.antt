-- Gathered triples, once they are in order and without repeats.
use Rattle.std.proofs.Common.{◌≡◌, ◌∙◌, ℕ, ◌<◌, ⊎_elim, refl, sym, ap, subst, true, arith, List, [], ◌∷◌, length, get_or, map}
use Rattle.std.specs.Prelude.{Contains, AllPairs, IsPermutation, IsSorted}
use Rattle.std.specs.List.{dedup}
use Rattle.std.specs.Ordering.{nat_cmp}
use Rattle.std.specs.Bool.{nat_eq}
use Rattle.std.proofs.lemmas.Bool.Decides.{Decides-eqb}
use Rattle.std.specs.Cmp.Lexicographic.{slice_cmp, pointwise, texts_ties}
use Rattle.std.proofs.lemmas.Cmp.{nat_list_cmp_total, nat_list_eq_equiv}
use Rattle.std.proofs.lemmas.Slice.Eq.{slice_eq-Decides}
use Rattle.std.proofs.lemmas.List.{get_or-map, length-map}
use Rattle.std.proofs.lemmas.List.Elements.{Contains-get_or}
use Rattle.std.proofs.lemmas.List.Kept.{Contains-dedup, Contains-from_dedup, IsStrictlySortedBy-dedup}
use Rattle.std.proofs.lemmas.List.Sorted.{Contains-permutation, IsPermutation-sym}
use Rattle.std.proofs.lemmas.Map.Keys.{Less-from_sorted}
use Rattle.ntfe_model.proofs.Lists.{Contains-map}
use Rattle.ntfe_model.specs.Lists.{IsBelow}
use Rattle.ntfe_model.specs.Charts.{Patch}
use Rattle.ntfe_model.specs.Stars.{AreTogether, IsLeft, IsRestriction}
use Rattle.ntfe_model.specs.declared.triangle.Triangle.{Triangle}
use Rattle.ntfe_model.proofs.Listings.{All-from_contains, Contains-none}
use Rattle.star_builder.specs.Gathered.{Gathers, triangle_of}
use Rattle.star_builder.specs.FaceCharts.{AreLeft}

Contains-from_map : {X Y : Type 0} (f : X → Y) (xs : List X) (d : X) (y : Y) → Contains (map f xs) y → (x : X) × Contains xs x × (y ≡ f x)
Contains-from_map f xs d y c =
    let l : c.0 < length xs = (let e = length-map xs f in let m = c.1 in omega arith) in
    (get_or xs c.0 d, Contains-get_or xs c.0 d l, sym c.2 ∙ get_or-map f xs c.0 d y l)

pub same_lists : (xs ys : List ℕ) → pointwise nat_eq xs ys ≡ true → xs ≡ ys
same_lists xs ys e = (slice_eq-Decides Decides-eqb xs ys (pointwise nat_eq xs ys) refl).0 e

module _ (h : Patch) (star : List (List ℕ)) (gathered ordered : List (List ℕ)) (g : Gathers (λ i j k. AreTogether star i j k × AreLeft h i j k) [] gathered)
    (moved : IsPermutation gathered ordered) (sorted : IsSorted (slice_cmp nat_cmp) ordered) where
  abbrev once : List (List ℕ)
  once = dedup (pointwise nat_eq) ordered

  -- each triple that is left is one that was gathered
  from_once : (t : List ℕ) → Contains once t → (a : ℕ) × (b : ℕ) × (c : ℕ) × (t ≡ a ∷ b ∷ c ∷ []) × AreTogether star a b c × AreLeft h a b c
  from_once t c =
      ⊎_elim (λ n. Contains-none t n) (λ w. (w.0, w.1, w.2, w.3, w.4.0, w.4.1))
      (g.sound t (Contains-permutation ordered gathered t (IsPermutation-sym gathered ordered moved) (Contains-from_dedup (pointwise nat_eq) ordered t c)))

  numbers_of_triple : (t : List ℕ) → Contains once t → (triangle_of t).a ∷ (triangle_of t).b ∷ (triangle_of t).c ∷ [] ≡ t
  numbers_of_triple t c = let w = from_once t c in ap (λ u. (triangle_of u).a ∷ (triangle_of u).b ∷ (triangle_of u).c ∷ []) w.3 ∙ sym w.3

  left_from : (t : List ℕ) → Contains once t → IsLeft h star (triangle_of t)
  left_from t c =
      let w = from_once t c in
      let l = w.5 in
      subst (λ (u : List ℕ). IsLeft h star (triangle_of u)) (sym w.3) (record { points = l.points; together = w.4; turned = l.turned; least = l.least })

  in_once : (t : Triangle) → IsLeft h star t → Contains once (t.a ∷ t.b ∷ t.c ∷ [])
  in_once t l =
      let x = t.a ∷ t.b ∷ t.c ∷ [] in
      Contains-dedup nat_list_eq_equiv same_lists ordered x
      (Contains-permutation gathered ordered x moved (g.complete t.a t.b t.c (l.together, record { points = l.points; turned = l.turned; least = l.least })))

  abbrev Before : Triangle → Triangle → Type 0
  Before t u = IsBelow (t.a ∷ t.b ∷ t.c ∷ []) (u.a ∷ u.b ∷ u.c ∷ [])

  in_order : AllPairs Before (map triangle_of once)
  in_order i j d lt within =
      let n : j < length once = (let e = length-map once triangle_of in omega arith) in
      let m : i < length once = omega arith in
      let below = Less-from_sorted (slice_cmp nat_cmp) once i j [] (IsStrictlySortedBy-dedup nat_list_cmp_total texts_ties ordered sorted) lt n in
      let x = get_or once i [] in
      let y = get_or once j [] in
      let ex = get_or-map triangle_of once i [] d m in
      let ey = get_or-map triangle_of once j [] d n in
      let fx = numbers_of_triple x (Contains-get_or once i [] m) in
      let fy = numbers_of_triple y (Contains-get_or once j [] n) in
      subst (λ (u : Triangle × Triangle). Before u.0 u.1) (λ k. (sym ex k, sym ey k))
      (subst (λ (u : List ℕ × List ℕ). IsBelow u.0 u.1) (λ k. (sym fx k, sym fy k)) below)

  pub restriction_listed : IsRestriction h star (map triangle_of once)
  restriction_listed = record {
    ordered = in_order;
    sound = All-from_contains (IsLeft h star) (map triangle_of once) (λ t c.
        let w = Contains-from_map triangle_of once [] t c in
        subst (IsLeft h star) (sym w.2) (left_from w.0 w.1));
    complete = λ t l. Contains-map triangle_of once (t.a ∷ t.b ∷ t.c ∷ []) (in_once t l);
  }
