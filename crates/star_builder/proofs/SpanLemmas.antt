-- Whether some three points of a patch have an area.
use Rattle.std.proofs.Common.{◌≡◌, ◌≢◌, ℕ, Bool, true, false, refl, sym, ap, ◌∙◌, pos, List}
use Rattle.std.specs.Prelude.{All, Any, Contains}
use Rattle.std.specs.List.{list_any}
use Rattle.std.proofs.lemmas.List.Elements.{All-contains}
use Rattle.std.proofs.lemmas.List.Folds.{list_any_none}
use Rattle.ntfe_nums.specs.Vectors.{Vector, area}
use Rattle.ntfe_nums.proofs.Comparisons.{zero_fails, other_passes}
use Rattle.ntfe_nums.proofs.Signs.{no_sum}
use Rattle.ntfe_model.proofs.Lists.{any_true}
use Rattle.ntfe_model.specs.Charts.{Spot, spans}
use Rattle.ntfe_model.proofs.Listings.{All-from_contains}
use Rattle.ntfe_model.specs.Points.{place_of_point}
use Rattle.ntfe_model.specs.declared.point.Point.{Point}
use Rattle.star_builder.specs.FaceCharts.{patch}
use Rattle.ntfe_model.specs.declared.flat.Flat.{Flat}
use Rattle.ntfe_model.specs.Flats.{flat_of, area_of_flats}
use Rattle.ntfe_model.proofs.PlaneNumbers.{area_split}
use Rattle.star_builder.proofs.FaceChartLemmas.{spot_in, spot_from}

pub spans_true : (ks : List ℕ) (xs : List Point) (q : ℕ × ℕ) (a b c : ℕ) → Contains ks a → Contains ks b → Contains ks c
    → area q (place_of_point xs a) (place_of_point xs b) (place_of_point xs c) ≢ pos 0 → spans (patch ks xs) q ≡ true
spans_true ks xs q a b c i j k ne =
    any_true _ (patch ks xs) _ (spot_in xs ks a i) (any_true _ (patch ks xs) _ (spot_in xs ks b j) (any_true _ (patch ks xs) _ (spot_in xs ks c k) (other_passes (area q (place_of_point xs a) (place_of_point xs b) (place_of_point xs c)) ne)))

pub spans_false : (ks : List ℕ) (xs : List Point) (q : ℕ × ℕ) (o : Vector)
    → ((a b : ℕ) → Contains ks a → Contains ks b → area q o (place_of_point xs a) (place_of_point xs b) ≡ pos 0) → spans (patch ks xs) q ≡ false
spans_false ks xs q o flat =
    none _ (λ a i. none _ (λ b j. none _ (λ c k. zero_fails (area q a.place b.place c.place) (area_split q o a.place b.place c.place ∙ no_sum _ _ _ (at a b i j) (at b c j k) (at c a k i)))))
  where
    none : (p : Spot → Bool) → ((s : Spot) → Contains (patch ks xs) s → p s ≡ false) → list_any p (patch ks xs) ≡ false
    none p h = list_any_none p (patch ks xs) (All-from_contains (λ s. p s ≡ false) (patch ks xs) h)

    at : (s t : Spot) → Contains (patch ks xs) s → Contains (patch ks xs) t → area q o s.place t.place ≡ pos 0
    at s t i j =
        let u = spot_from xs ks s i in
        let v = spot_from xs ks t j in
        (λ k. area q o (u.2 k) (v.2 k)) ∙ flat u.0 v.0 u.1 v.1

-- the answer of a search among the areas with one point
pub spans_decided : (ks : List ℕ) (xs : List Point) (q : ℕ × ℕ) (a : Flat) (o : ℕ) (r : Bool) → Contains ks o → a ≡ flat_of q (place_of_point xs o)
    → (r ≡ true → Any (λ j. Any (λ k. area_of_flats a (flat_of q (place_of_point xs j)) (flat_of q (place_of_point xs k)) ≢ pos 0) ks) ks)
    → (r ≡ false → All (λ j. All (λ k. area_of_flats a (flat_of q (place_of_point xs j)) (flat_of q (place_of_point xs k)) ≡ pos 0) ks) ks) → r ≡ spans (patch ks xs) q
spans_decided ks xs q a o true i e some none =
    let s = some refl in
    let t = s.4 in
    sym (spans_true ks xs q o s.1 t.1 i (s.0, s.2, s.3) (t.0, t.2, t.3) (λ z. t.4 (ap (λ x. area_of_flats x (flat_of q (place_of_point xs s.1)) (flat_of q (place_of_point xs t.1))) e ∙ z)))
spans_decided ks xs q a o false i e some none =
    sym (spans_false ks xs q (place_of_point xs o) (λ j k m n.
    ap (λ x. area_of_flats x (flat_of q (place_of_point xs j)) (flat_of q (place_of_point xs k))) (sym e)
    ∙ All-contains (λ y. area_of_flats a (flat_of q (place_of_point xs j)) (flat_of q (place_of_point xs y)) ≡ pos 0) ks k (All-contains (λ x. All (λ y. area_of_flats a (flat_of q (place_of_point xs x)) (flat_of q (place_of_point xs y)) ≡ pos 0) ks) ks j (none refl) m) n))
