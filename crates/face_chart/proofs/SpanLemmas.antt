-- Whether some three points of a patch have an area.
use Rattle.std.proofs.Common.{◌≡◌, ◌≢◌, ℕ, Bool, true, false, refl, sym, ap, ◌∙◌, pos, List}
use Rattle.std.specs.Prelude.{All, Any, Contains}
use Rattle.std.specs.List.{list_any}
use Rattle.std.proofs.lemmas.List.Elements.{All-contains}
use Rattle.std.proofs.lemmas.List.Folds.{list_any_none}
use Rattle.ntfe_nums.specs.Vectors.{Vector, area}
use Rattle.ntfe_nums.proofs.Comparisons.{zero_fails, other_passes}
use Rattle.ntfe_nums.proofs.Signs.{no_sum}
use Rattle.ntfe_model.proofs.Lists.{any_true}
use Rattle.ntfe_model.specs.Charts.{Spot, spans}
use Rattle.ntfe_model.proofs.Listings.{All-from_contains}
use Rattle.face_chart.specs.Tables.{patch, place_at}
use Rattle.ntfe_model.specs.declared.flat.Flat.{Flat}
use Rattle.ntfe_model.specs.Flats.{flat_of, area_of_flats}
use Rattle.face_chart.proofs.PatchLemmas.{spot_in, spot_from}
use Rattle.ntfe_model.proofs.PlaneNumbers.{area_split}

pub spans_true : (ks : List ℕ) (vs : List Vector) (q : ℕ × ℕ) (a b c : ℕ) → Contains ks a → Contains ks b → Contains ks c
    → area q (place_at vs a) (place_at vs b) (place_at vs c) ≢ pos 0 → spans (patch ks vs) q ≡ true
spans_true ks vs q a b c i j k ne =
    any_true _ (patch ks vs) _ (spot_in vs ks a i) (any_true _ (patch ks vs) _ (spot_in vs ks b j) (any_true _ (patch ks vs) _ (spot_in vs ks c k) (other_passes (area q (place_at vs a) (place_at vs b) (place_at vs c)) ne)))

pub spans_false : (ks : List ℕ) (vs : List Vector) (q : ℕ × ℕ) (o : Vector)
    → ((a b : ℕ) → Contains ks a → Contains ks b → area q o (place_at vs a) (place_at vs b) ≡ pos 0) → spans (patch ks vs) q ≡ false
spans_false ks vs q o flat =
    none _ (λ a i. none _ (λ b j. none _ (λ c k. zero_fails (area q a.place b.place c.place) (area_split q o a.place b.place c.place ∙ no_sum _ _ _ (at a b i j) (at b c j k) (at c a k i)))))
  where
    none : (p : Spot → Bool) → ((s : Spot) → Contains (patch ks vs) s → p s ≡ false) → list_any p (patch ks vs) ≡ false
    none p h = list_any_none p (patch ks vs) (All-from_contains (λ s. p s ≡ false) (patch ks vs) h)

    at : (s t : Spot) → Contains (patch ks vs) s → Contains (patch ks vs) t → area q o s.place t.place ≡ pos 0
    at s t i j =
        let u = spot_from vs ks s i in
        let v = spot_from vs ks t j in
        (λ k. area q o (u.2 k) (v.2 k)) ∙ flat u.0 v.0 u.1 v.1

-- the answer of a search among the areas with one point
pub spans_decided : (ks : List ℕ) (vs : List Vector) (q : ℕ × ℕ) (a : Flat) (o : ℕ) (r : Bool) → Contains ks o → a ≡ flat_of q (place_at vs o)
    → (r ≡ true → Any (λ j. Any (λ k. area_of_flats a (flat_of q (place_at vs j)) (flat_of q (place_at vs k)) ≢ pos 0) ks) ks)
    → (r ≡ false → All (λ j. All (λ k. area_of_flats a (flat_of q (place_at vs j)) (flat_of q (place_at vs k)) ≡ pos 0) ks) ks) → r ≡ spans (patch ks vs) q
spans_decided ks vs q a o true i e some none =
    let s = some refl in
    let t = s.4 in
    sym (spans_true ks vs q o s.1 t.1 i (s.0, s.2, s.3) (t.0, t.2, t.3) (λ z. t.4 (ap (λ x. area_of_flats x (flat_of q (place_at vs s.1)) (flat_of q (place_at vs t.1))) e ∙ z)))
spans_decided ks vs q a o false i e some none =
    sym (spans_false ks vs q (place_at vs o) (λ j k m n.
    ap (λ x. area_of_flats x (flat_of q (place_at vs j)) (flat_of q (place_at vs k))) (sym e)
    ∙ All-contains (λ y. area_of_flats a (flat_of q (place_at vs j)) (flat_of q (place_at vs y)) ≡ pos 0) ks k (All-contains (λ x. All (λ y. area_of_flats a (flat_of q (place_at vs x)) (flat_of q (place_at vs y)) ≡ pos 0) ks) ks j (none refl) m) n))
