-- Tables of unit triples: their rows, the points that close a step, and the places of triples.
--     closers_more, closers_same, closers_last      the points that close a step, one after the other
--     placed_on, placed_back, places_get      the places of the triples of a path
--     fan_candidates, row_read      what is read from the tables
use Rattle.std.proofs.Common.{◌≡◌, ℕ, zero, suc, ◌<◌, ◌≤◌, ⊎_elim, Bool, false, refl, sym, ap, ◌∙◌, subst, arith, List, [], ◌∷◌, ◌++◌, map, take, length, get_or}
use Rattle.std.specs.Prelude.{All, AllPairs, Contains, MatchBool}
use Rattle.std.proofs.lemmas.List.{get_or_read}
use Rattle.std.proofs.lemmas.List.Elements.{All-contains, Contains-append_cases, Contains-append_left, Contains-append_right, Contains-get_or}
use Rattle.ntfe_model.proofs.Listings.{Contains-here, Contains-cases, Contains-none, AllPairs-append, AllPairs-head, AllPairs-tail, all_next}
use Rattle.ntfe_model.specs.Charts.{Patch, IsOf, IsUnit, spot_numbers}
use Rattle.ntfe_model.specs.Words.{written}
use Rattle.ntfe_model.specs.declared.triangle.Triangle.{Triangle}
use Rattle.fine_stream.specs.Paths.{AreCompatible}
use Rattle.fine_stream.specs.Places.{IsPlaceOf, ArePlaces, AreFirstCandidates, AreCandidates, IsFan, TellsConflicts, AreRows, triple_at, no_triple}
use Rattle.fine_stream.specs.declared.tables.Candidate.{Candidate}
use Rattle.fine_stream.specs.declared.tables.Fan.{Fan}
use Rattle.fine_stream.proofs.Parts.{single_contains}

-- ---- rows

-- the row tells of the first triples
pub record IsRowing (h : Patch) (triples : List Triangle) (t : Triangle) (i : ℕ) (row : List Bool) : Type 0 where
  pub count : length row ≡ i
  pub told : (p : ℕ) → p < length row → MatchBool (get_or row p false) (¬ (AreCompatible h (triple_at triples p) t)) (AreCompatible h (triple_at triples p) t)

-- the rows of the first triples
pub record AreFirstRows (h : Patch) (triples : List Triangle) (i : ℕ) (xs : List (List Bool)) : Type 0 where
  pub count : length xs ≡ i
  pub rows : AreRows h triples xs

-- the triple at a place within the list
pub placed_at : (triples : List Triangle) (p : ℕ) (t : Triangle) → p < length triples → IsPlaceOf triples p t → t ≡ triple_at triples p
placed_at triples p t l e = get_or_read triples p t l (sym e) no_triple

pub row_tells : (h : Patch) (triples : List Triangle) (q : ℕ) (t : Triangle) (rows : List (List Bool)) (row : List Bool) → AreRows h triples rows → length rows ≤ length triples → q < length rows
    → row ≡ get_or rows q row → IsPlaceOf triples q t → TellsConflicts h triples t row
row_tells h triples q t rows row r s l e p =
    let P : Triangle → Type 0 = λ u. TellsConflicts h triples u row in let Q : List Bool → Type 0 = λ v. TellsConflicts h triples (triple_at triples q) v in
    subst P (sym (placed_at triples q t (omega (arith, l, s)) p)) (subst Q (sym (get_or_read rows q row l e [])) (r q l))

-- ---- the points that close a step

points_more : (cs : List Candidate) (x : Candidate) → map (λ y. y.point) (cs ++ x ∷ []) ≡ map (λ y. y.point) cs ++ x.point ∷ []
points_more [] x = refl
points_more (c ∷ cs) x = ap (λ ks. c.point ∷ ks) (points_more cs x)

-- the next point, where it may close the step
pub closers_more : (h : Patch) (triples : List Triangle) (a b k : ℕ) (x : Candidate) (ks : List ℕ) (cs next : List Candidate) → x.point ≡ k → IsOf h k → IsPlaceOf triples x.place (written a b k)
    → ((j : ℕ) → Contains ks j → j < k) → AreFirstCandidates h triples a b ks cs → next ≡ cs ++ x ∷ [] → AreFirstCandidates h triples a b (ks ++ k ∷ []) next
closers_more h triples a b k x ks cs next e o p rise r f =
    let P : List Candidate → Type 0 = λ xs. AreFirstCandidates h triples a b (ks ++ k ∷ []) xs in
    let same = points_more cs x in
    let C : List ℕ → ℕ → Type 0 = λ ls d. Contains ls d in
    let B : List ℕ → Type 0 = λ ls. AllPairs (λ i j. i < j) ls in
    subst P (sym f) (record {
      among = λ d c. ⊎_elim (λ l. Contains-append_left ks (k ∷ []) d (r.among d l)) (λ l. Contains-append_right ks (k ∷ []) d (Contains-here d k [] (single_contains d x.point l ∙ e)))
          (Contains-append_cases (map (λ y. y.point) cs) (x.point ∷ []) d (let D : List ℕ → Type 0 = λ ls. Contains ls d in subst D same c));
      rising = subst B (sym same) (AllPairs-append (λ i j. i < j) (map (λ y. y.point) cs) (x.point ∷ []) r.rising (λ i j d l m. absurd (omega (arith, l, m)))
          (λ y z l m. (let q = rise y (r.among y l) in let g = single_contains z x.point m ∙ e in let R : ℕ → Type 0 = λ w. y < w in subst R (sym g) q)));
      points = all_next (λ y. IsOf h y.point) cs x r.points (let Q : ℕ → Type 0 = λ w. IsOf h w in subst Q (sym e) o);
      places = all_next (λ y. IsPlaceOf triples y.place (written a b y.point)) cs x r.places (let Q : ℕ → Type 0 = λ w. IsPlaceOf triples x.place (written a b w) in subst Q (sym e) p);
      complete = λ c m u. (let D : List ℕ → Type 0 = λ ls. Contains ls c in subst D (sym same) (⊎_elim (λ l. Contains-append_left (map (λ y. y.point) cs) (x.point ∷ []) c (r.complete c l u))
          (λ l. Contains-append_right (map (λ y. y.point) cs) (x.point ∷ []) c (Contains-here c x.point [] (single_contains c k l ∙ sym e))) (Contains-append_cases ks (k ∷ []) c m)));
    })

-- the next point, where it does not
pub closers_same : (h : Patch) (triples : List Triangle) (a b k : ℕ) (ks : List ℕ) (cs : List Candidate) → ¬ (IsUnit h a b k) → AreFirstCandidates h triples a b ks cs → AreFirstCandidates h triples a b (ks ++ k ∷ []) cs
closers_same h triples a b k ks cs n r = record {
  among = λ d c. Contains-append_left ks (k ∷ []) d (r.among d c);
  rising = r.rising;
  points = r.points;
  places = r.places;
  complete = λ c m u. ⊎_elim (λ l. r.complete c l u) (λ l. absurd (n (let Q : ℕ → Type 0 = λ w. IsUnit h a b w in subst Q (single_contains c k l) u))) (Contains-append_cases ks (k ∷ []) c m);
}

pub closers_last : (h : Patch) (triples : List Triangle) (a b : ℕ) (ks : List ℕ) (cs : List Candidate) → ks ≡ spot_numbers h → AreFirstCandidates h triples a b ks cs → AreCandidates h triples a b cs
closers_last h triples a b ks cs e r = record {
  rising = r.rising;
  points = r.points;
  places = r.places;
  complete = λ c u. r.complete c (let P : List ℕ → Type 0 = λ ls. Contains ls c in subst P (sym e) u.points.2) u;
}

-- ---- the first entries of a list

pub lower_before : (ks : List ℕ) (i d : ℕ) → AllPairs (λ j k. j < k) ks → i < length ks → (j : ℕ) → Contains (take i ks) j → j < get_or ks i d
lower_before [] i d p l j k = absurd (omega (arith, l))
lower_before (x ∷ xs) zero d p l j k = Contains-none j k
lower_before (x ∷ xs) (suc i) d p l j k =
    let Q = λ (z : ℕ). z < get_or xs i d in
    let m : i < length xs = omega (arith, l) in
    ⊎_elim (λ e. subst Q (sym e) (All-contains (λ y. x < y) xs (get_or xs i d) (AllPairs-head (λ a b. a < b) x xs p) (Contains-get_or xs i d m)))
    (λ n. lower_before xs i d (AllPairs-tail (λ a b. a < b) x xs p) m j n) (Contains-cases j x (take i xs) k)

-- ---- places of a path

pub places_more : (triples : List Triangle) (ps : List ℕ) (ts : List Triangle) (p : ℕ) (t : Triangle) → ArePlaces triples ps ts → IsPlaceOf triples p t → ArePlaces triples (ps ++ p ∷ []) (ts ++ t ∷ [])
places_more triples [] [] p t r k = (k, tt)
places_more triples [] (t' ∷ ts) p t r k = absurd r
places_more triples (q ∷ ps) [] p t r k = absurd r
places_more triples (q ∷ ps) (u ∷ ts) p t r k = (r.0, places_more triples ps ts p t r.1 k)

-- the places of all triples but the last
pub record AreBut (triples : List Triangle) (ps : List ℕ) (ts : List Triangle) : Type 0 where
  pub first : List ℕ
  pub last : ℕ
  pub is : ps ≡ first ++ last ∷ []
  pub places : ArePlaces triples first ts

pub places_less : (triples : List Triangle) (ps : List ℕ) (ts : List Triangle) (t : Triangle) → ArePlaces triples ps (ts ++ t ∷ []) → AreBut triples ps ts
places_less triples [] [] t r = absurd r
places_less triples [] (u ∷ ts) t r = absurd r
places_less triples (p ∷ []) [] t r = record { first = []; last = p; is = refl; places = tt }
places_less triples (p ∷ q ∷ ps) [] t r = absurd r.1
places_less triples (p ∷ ps) (u ∷ ts) t r =
    let n = places_less triples ps ts t r.1 in record { first = p ∷ n.first; last = n.last; is = ap (λ qs. p ∷ qs) n.is; places = (r.0, n.places) }

pub places_count : (triples : List Triangle) (ps : List ℕ) (ts : List Triangle) → ArePlaces triples ps ts → length ps ≡ length ts
places_count triples [] [] r = refl
places_count triples [] (t ∷ ts) r = absurd r
places_count triples (p ∷ ps) [] r = absurd r
places_count triples (p ∷ ps) (t ∷ ts) r = ap suc (places_count triples ps ts r.1)

pub places_get : (triples : List Triangle) (ps : List ℕ) (ts : List Triangle) (i d : ℕ) (u : Triangle) → ArePlaces triples ps ts → i < length ts → IsPlaceOf triples (get_or ps i d) (get_or ts i u)
places_get triples [] [] i d u r l = absurd (omega (arith, l))
places_get triples [] (t ∷ ts) i d u r l = absurd r
places_get triples (p ∷ ps) [] i d u r l = absurd r
places_get triples (p ∷ ps) (t ∷ ts) zero d u r l = r.0
places_get triples (p ∷ ps) (t ∷ ts) (suc i) d u r l = places_get triples ps ts i d u r.1 (omega (arith, l))

-- behind the list each place is that of any triple
pub behind : (triples : List Triangle) (p : ℕ) (t : Triangle) → length triples ≤ p → IsPlaceOf triples p t
behind [] p t l = refl
behind (u ∷ us) zero t l = absurd (omega (arith, l))
behind (u ∷ us) (suc p) t l = behind us p t (omega (arith, l))

-- ---- nothing at all

pub none_longer : {X : Type 0} (xs : List X) (n : ℕ) → xs ≡ [] → length xs ≤ n
none_longer xs n e = let l = ap length e in omega arith

pub empty_fans : (h : Patch) (triples : List Triangle) (fans : List Fan) → fans ≡ [] → All (IsFan h triples) fans
empty_fans h triples fans e = let P : List Fan → Type 0 = λ fs. All (IsFan h triples) fs in subst P (sym e) (λ i d l. absurd (omega (arith, l)))

pub rows_none : (h : Patch) (triples : List Triangle) (rows : List (List Bool)) → rows ≡ [] → AreRows h triples rows
rows_none h triples rows e q l = absurd (let m = ap length e in omega (arith, l, m))

-- ---- what is read from the tables

pub fan_candidates : (h : Patch) (triples : List Triangle) (all fans : List Fan) (i a b : ℕ) (fan : Fan) (cs : List Candidate) → All (IsFan h triples) all → fans ≡ all → i < length fans → fan ≡ get_or fans i fan → fan.from ≡ a → fan.to ≡ b
    → cs ≡ fan.candidates.items → AreCandidates h triples a b cs
fan_candidates h triples all fans i a b fan cs each same l e f g k =
    let P : List Fan → Type 0 = λ fs. All (IsFan h triples) fs in
    let here : IsFan h triples fan = (let Q : Fan → Type 0 = IsFan h triples in subst Q (sym e) (All-contains (IsFan h triples) fans (get_or fans i fan) (subst P (sym same) each) (Contains-get_or fans i fan l))) in
    let A : ℕ → Type 0 = λ x. AreCandidates h triples x fan.to fan.candidates.items in let B : ℕ → Type 0 = λ y. AreCandidates h triples a y fan.candidates.items in
    let C : List Candidate → Type 0 = λ xs. AreCandidates h triples a b xs in
    subst C (sym k) (subst B g (subst A f here))

pub row_read : (h : Patch) (triples : List Triangle) (q : ℕ) (t : Triangle) (all rows : List (List Bool)) (row out : List Bool) → AreRows h triples all → length all ≤ length triples → rows ≡ all → q < length rows
    → row ≡ get_or rows q row → out ≡ row → IsPlaceOf triples q t → TellsConflicts h triples t out
row_read h triples q t all rows row out r s same l e o p =
    let P : List (List Bool) → Type 0 = λ xs. row ≡ get_or xs q row in let L : List (List Bool) → Type 0 = λ xs. q < length xs in
    let Q : List Bool → Type 0 = λ v. TellsConflicts h triples t v in subst Q (sym o) (row_tells h triples q t all row r s (subst L same l) (subst P same e) p)

-- ---- a path that goes on, or back, by one triple

pub placed_on : (triples : List Triangle) (ps qs : List ℕ) (ts us : List Triangle) (p : ℕ) (t : Triangle) → ArePlaces triples ps ts → IsPlaceOf triples p t → qs ≡ ps ++ p ∷ [] → us ≡ ts ++ t ∷ [] → ArePlaces triples qs us
placed_on triples ps qs ts us p t r k e f =
    let P : List ℕ → Type 0 = λ xs. ArePlaces triples xs us in let Q : List Triangle → Type 0 = λ ys. ArePlaces triples (ps ++ p ∷ []) ys in
    subst P (sym e) (subst Q (sym f) (places_more triples ps ts p t r k))

pub placed_back : (triples : List Triangle) (ps qs : List ℕ) (ts us vs : List Triangle) (t : Triangle) → ArePlaces triples ps ts → ts ≡ vs ++ t ∷ [] → ((xs : List ℕ) (x : ℕ) → ps ≡ xs ++ x ∷ [] → qs ≡ xs) → us ≡ vs
    → ArePlaces triples qs us
placed_back triples ps qs ts us vs t r e f g =
    let P : List Triangle → Type 0 = λ ys. ArePlaces triples ps ys in
    let n = places_less triples ps vs t (subst P e r) in
    let Q : List ℕ → Type 0 = λ xs. ArePlaces triples xs us in let R : List Triangle → Type 0 = λ ys. ArePlaces triples n.first ys in
    subst Q (sym (f n.first n.last n.is)) (subst R (sym g) n.places)
