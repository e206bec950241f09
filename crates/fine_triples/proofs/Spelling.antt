-- The word of a fine set, as far as it is spelled.
use Rattle.std.proofs.Common.{◌≡◌, ℕ, ◌+◌, ◌<◌, ◌≤◌, ⊎_elim, refl, sym, ◌∙◌, subst, arith, List, [], ◌∷◌, ◌++◌, length, append_assoc, length-append}
use Rattle.std.specs.Prelude.{Contains, ◌↔◌}
use Rattle.std.proofs.lemmas.List.{append-nil}
use Rattle.std.proofs.lemmas.List.Elements.{Contains-append_cases}
use Rattle.ntfe_model.specs.Charts.{Patch, AreSteps}
use Rattle.ntfe_model.specs.Triangulations.{IsRotationOf, IsSide, IsTripleOf, IsFine}
use Rattle.ntfe_model.specs.Words.{after_side, written, Closes, IsWordOf}
use Rattle.ntfe_model.specs.declared.triangle.Triangle.{Triangle}
use Rattle.ntfe_model.specs.declared.triangulation.Triangulation.{Triangulation}
use Rattle.ntfe_model.proofs.Listings.{Contains-here, Contains-cases, Contains-none}
use Rattle.ntfe_model.proofs.Triples.{same_self, same_back, side_of_triple_of, corner_side}
use Rattle.face_chart.proofs.WordExists.{IsUnderWay, under_way_first, under_way_next, left_count, left_few, count_lost, written_same}
use Rattle.face_chart.proofs.WordLemmas.{walk_word}
use Rattle.ntfe_model.proofs.Items.{word_fixes}

-- the walk from the boundary steps has come to where fs waits, and spelled the word; it goes on from here to whole walks
pub record IsSpelled (h : Patch) (us : List Triangle) (fs : List (ℕ × ℕ)) (word : List ℕ) : Type 0 where
  pub steps : List (ℕ × ℕ)
  pub boundary : AreSteps h steps
  pub reached : List Triangle
  pub triples : List Triangle
  pub under_way : IsUnderWay us reached fs
  pub count : left_count reached us + length word ≤ length us
  pub within : (t : Triangle) → Contains triples t → IsTripleOf us t
  pub goes_on : (w : List ℕ) (ts : List Triangle) → Closes fs w ts → Closes steps (word ++ w) (triples ++ ts)

pub spelled_first : (h : Patch) (us : List Triangle) (steps : List (ℕ × ℕ)) → IsFine h us → AreSteps h steps → IsSpelled h us steps []
spelled_first h us steps fine are = record {
  steps = steps;
  boundary = are;
  reached = [];
  triples = [];
  under_way = under_way_first h us steps fine are;
  count = (let f = left_few [] us in omega (arith, f));
  within = λ t k. Contains-none t k;
  goes_on = λ w ts p. p;
}

pub spelled_next : (h : Patch) (us : List Triangle) (fs : List (ℕ × ℕ)) (word : List ℕ) (a b c : ℕ) → IsFine h us → (u : Triangle) × Contains us u × IsRotationOf u a b c
    → IsSpelled h us ((a, b) ∷ fs) word → IsSpelled h us (after_side (c, a) (after_side (b, c) fs)) (word ++ c ∷ [])
spelled_next h us fs word a b c fine (u, k, r) s = record {
  steps = s.steps;
  boundary = s.boundary;
  reached = t ∷ s.reached;
  triples = s.triples ++ t ∷ [];
  under_way = under_way_next h us s.reached fs a b c u fine k r s.under_way;
  count = below _ _ _ _ _ less (length-append word (c ∷ [])) s.count;
  within = λ v l. ⊎_elim (λ m. s.within v m) (λ m. ⊎_elim (λ e. (let P : Triangle → Type 0 = λ z. IsTripleOf us z in subst P (sym e) (u, k, same))) (λ n. Contains-none v n) (Contains-cases v t [] m)) (Contains-append_cases s.triples (t ∷ []) v l);
  goes_on = λ w ts p.
      let q : Closes s.steps (word ++ c ∷ w) (s.triples ++ t ∷ ts) = s.goes_on (c ∷ w) (t ∷ ts) (refl, p) in
      let P : List ℕ × List Triangle → Type 0 = λ z. Closes s.steps z.0 z.1 in
      subst P (λ i. (sym (append_assoc word (c ∷ []) w) i, sym (append_assoc s.triples (t ∷ []) ts) i)) q;
}
  where
    t : Triangle
    t = written a b c

    same : IsRotationOf u (written a b c).a (written a b c).b (written a b c).c
    same = written_same u a b c r

    fresh : ¬ (IsTripleOf s.reached u)
    fresh o = (s.under_way.open_sides a b (Contains-here (a, b) (a, b) fs refl)).1 (side_of_triple_of s.reached u a b o (corner_side u a b c r))

    less : left_count (t ∷ s.reached) us < left_count s.reached us
    less = count_lost (written a b c) s.reached us u k fresh (same_back u (written a b c) same)

    below : (i j m n l : ℕ) → i < j → m ≡ n + 1 → j + n ≤ l → i + m ≤ l
    below i j m n l p q r = omega (arith, p, q, r)

-- while a step waits, the word is shorter than the list of triples
pub spelled_short : (h : Patch) (us : List Triangle) (fs : List (ℕ × ℕ)) (word : List ℕ) (a b : ℕ) → IsSpelled h us ((a, b) ∷ fs) word → length word < length us
spelled_short h us fs word a b s =
    let o = s.under_way.open_sides a b (Contains-here (a, b) (a, b) fs refl) in
    let u = o.0.0 in
    let less = count_lost u s.reached us u o.0.1 (λ t. o.1 (side_of_triple_of s.reached u a b t o.0.2)) (same_self u) in
    short _ _ _ _ less s.count
  where
    short : (i j n l : ℕ) → i < j → j + n ≤ l → n < l
    short i j n l p q = omega (arith, p, q)

pub spelled_side : (h : Patch) (us : List Triangle) (fs : List (ℕ × ℕ)) (word : List ℕ) (a b : ℕ) → IsSpelled h us ((a, b) ∷ fs) word → IsSide us a b
spelled_side h us fs word a b s = (s.under_way.open_sides a b (Contains-here (a, b) (a, b) fs refl)).0

-- where nothing waits, the word is spelled whole
pub spelled_whole : (h : Patch) (us : List Triangle) (word : List ℕ) → IsFine h us → IsSpelled h us [] word → IsWordOf h us word
spelled_whole h us word fine s =
    let q : Closes s.steps (word ++ []) (s.triples ++ []) = s.goes_on [] [] tt in
    let P : List ℕ × List Triangle → Type 0 = λ z. Closes s.steps z.0 z.1 in
    walk_word h us s.steps word s.triples fine s.boundary (subst P (λ i. (append-nil word i, append-nil s.triples i)) q) s.within

-- sets with one word have the same triples
pub word_set : (h : Patch) (us vs : List Triangle) (word : List ℕ) → IsWordOf h us word → IsWordOf h vs word → (t : Triangle) → IsTripleOf us t ↔ IsTripleOf vs t
word_set h us vs word p q t =
    let e : p.triangulation ≡ q.triangulation = word_fixes h p.triangulation q.triangulation p.is q.is (p.spelled ∙ sym q.spelled) in
    let P : Triangulation → Type 0 = λ x. IsTripleOf x.triangles t in (
      (λ o. (q.same t).1 (subst P e ((p.same t).0 o))),
      (λ o. (p.same t).1 (subst P (sym e) ((q.same t).0 o))),
    )
