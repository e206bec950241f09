-- What waits on a walk of the word, and that triples are a fine triangulation where nothing waits.
use Rattle.std.proofs.Common.{◌≡◌, ◌≢◌, ℕ, ◌⊎◌, inl, inr, ⊎_elim, Bool, true, false, refl, sym, ap, ◌∙◌, subst, arith, List, [], ◌∷◌, ◌++◌, append_assoc, append-nil, ℤ, pos, ◌<ℤ◌, neg_ℤ}
use Rattle.std.specs.Prelude.{All, AllPairs, Contains}
use Rattle.std.specs.List.{list_any}
use Rattle.std.proofs.lemmas.Int.{ints}
use Rattle.std.proofs.lemmas.List.Elements.{All-contains, Contains-append_cases, Contains-append_left, Contains-append_right}
use Rattle.ntfe_nums.specs.Vectors.{sign}
use Rattle.ntfe_model.specs.Charts.{Patch, axes, place, turn, IsOf, IsUnit, IsStep, AreSteps}
use Rattle.ntfe_model.specs.Triangulations.{HasSide, HaveSameEnds, DoCross, IsSide, IsFine, IsSameTriple}
use Rattle.ntfe_model.specs.Words.{is_same_step, after_side, written, Closes, IsTriangulation}
use Rattle.ntfe_model.specs.declared.triangle.Triangle.{Triangle}
use Rattle.ntfe_model.specs.declared.triangulation.Triangulation.{Triangulation}
use Rattle.ntfe_model.proofs.Listings.{Contains-here, Contains-there, Contains-cases, Contains-none, AllPairs-head, AllPairs-tail, All-from_contains}
use Rattle.std.proofs.lemmas.List.Kept.{AllPairs-cons}
use Rattle.ntfe_model.specs.Charts.{AreApart}
use Rattle.ntfe_model.proofs.PlaneNumbers.{area_swap, sign_negative, flat_last, flat_outer}
use Rattle.ntfe_model.proofs.UnitTriples.{area_of, unit_area}
use Rattle.ntfe_model.proofs.Triples.{Decided, decide_is_side, same_self, AreDifferent}
use Rattle.face_chart.proofs.Walk.{any_contains, after_keeps, after_only, after_adds, written_corner, corner_sides, sides_corner}
use Rattle.face_chart.proofs.WordExists.{contains_any, triangulation_apart}
use Rattle.ntfe_model.proofs.Folds.{unit_three}
use Rattle.ntfe_model.proofs.Items.{steps_fixed}
use Rattle.fine_stream.specs.Paths.{AreCompatible, IsPart, Completes}
use Rattle.fine_stream.proofs.Crosses.{crossing_turns, zero_first, zero_second}
use Rattle.fine_stream.proofs.Parts.{unit_side, part_left, single_contains}
use Rattle.fine_stream.proofs.Searches.{closed, fits_unit}
use Rattle.fine_triples.proofs.CrossLemmas.{cross_swap}

-- what waits: the boundary steps that are no side yet, and the reverses of sides that are neither boundary steps nor have their reverse yet
pub record IsWaiting (h : Patch) (ts : List Triangle) (fs : List (ℕ × ℕ)) : Type 0 where
  pub sound : (x y : ℕ) → Contains fs (x, y) → IsStep h x y ⊎ IsSide ts y x
  pub steps : (x y : ℕ) → IsStep h x y → ¬ (IsSide ts x y) → Contains fs (x, y)
  pub sides : (x y : ℕ) → IsSide ts x y → ¬ (IsSide ts y x) → ¬ (IsStep h x y) → Contains fs (y, x)

pub waiting_first : (h : Patch) (steps : List (ℕ × ℕ)) → AreSteps h steps → IsWaiting h [] steps
waiting_first h steps are = record {
  sound = λ x y k. inl (All-contains (λ e. IsStep h e.0 e.1) steps (x, y) are.sound k);
  steps = λ x y s n. are.complete (x, y) s;
  sides = λ x y s n m. Contains-none s.0 s.1;
}

side_left : (ts us : List Triangle) (x y : ℕ) → IsSide ts x y → IsSide (ts ++ us) x y
side_left ts us x y s = (s.0, Contains-append_left ts us s.0 s.1, s.2)

side_last : (ts : List Triangle) (t : Triangle) (x y : ℕ) → HasSide t x y → IsSide (ts ++ t ∷ []) x y
side_last ts t x y s = (t, Contains-append_right ts (t ∷ []) t (Contains-here t t [] refl), s)

side_cases : (ts : List Triangle) (t : Triangle) (x y : ℕ) → IsSide (ts ++ t ∷ []) x y → IsSide ts x y ⊎ HasSide t x y
side_cases ts t x y s =
    ⊎_elim (λ k. inl (s.0, k, s.2)) (λ k. inr (let P : Triangle → Type 0 = λ u. HasSide u x y in subst P (single_contains s.0 t k) s.2))
    (Contains-append_cases ts (t ∷ []) s.0 s.1)

module _ (h : Patch) (ts : List Triangle) (fs : List (ℕ × ℕ)) (a b c : ℕ) (u : IsUnit h a b c) (w : IsWaiting h ts ((a, b) ∷ fs)) where
  has : (x y : ℕ) → ((a ≡ x) × (b ≡ y)) ⊎ ((b ≡ x) × (c ≡ y)) ⊎ ((c ≡ x) × (a ≡ y)) → IsSide (ts ++ written a b c ∷ []) x y
  has x y o = side_last ts (written a b c) x y (sides_corner (written a b c) a b c x y (written_corner a b c) o)

  different : a ≢ b
  different e = (unit_three h (record { a = a; b = b; c = c }) u).0 e

  apart_from : (x y i j : ℕ) → ¬ (IsSide (ts ++ written a b c ∷ []) x y) → IsSide (ts ++ written a b c ∷ []) i j → (let e : ℕ × ℕ = (x, y) in let f : ℕ × ℕ = (i, j) in e ≢ f)
  apart_from x y i j n s e = n (let P : ℕ × ℕ → Type 0 = λ g. IsSide (ts ++ written a b c ∷ []) g.0 g.1 in subst P (sym e) s)

  -- what waited and is no side still waits
  kept : (x y : ℕ) → Contains ((a, b) ∷ fs) (x, y) → ¬ (IsSide (ts ++ written a b c ∷ []) x y) → Contains (closed a b c fs) (x, y)
  kept x y k n =
      let l : Contains fs (x, y) = ⊎_elim (λ e. absurd (apart_from x y a b n (has a b (inl (refl, refl))) e)) (λ l. l) (Contains-cases (x, y) (a, b) fs k) in
      after_keeps (c, a) (after_side (b, c) fs) (x, y) (after_keeps (b, c) fs (x, y) l (apart_from x y b c n (has b c (inr (inl (refl, refl))))))
      (apart_from x y c a n (has c a (inr (inr (refl, refl)))))

  -- a step that waited is a boundary step, or has its reverse among the sides
  known : (x y : ℕ) → Contains ((a, b) ∷ fs) (x, y) → ¬ (IsStep h x y) → ¬ (IsSide (ts ++ written a b c ∷ []) y x) → ⊥
  known x y k n m = ⊎_elim (λ s. n s) (λ s. m (side_left ts (written a b c ∷ []) y x s)) (w.sound x y k)

  moved : (x y i j : ℕ) → i ≡ x → j ≡ y → Contains (closed a b c fs) (j, i) → Contains (closed a b c fs) (y, x)
  moved x y i j p q k = let A : ℕ → Type 0 = λ z. Contains (closed a b c fs) (j, z) in let B : ℕ → Type 0 = λ z. Contains (closed a b c fs) (z, x) in subst B q (subst A p k)

  back_step : (x y i j : ℕ) → i ≡ x → j ≡ y → IsStep h i j → IsStep h x y
  back_step x y i j p q k = let A : ℕ → Type 0 = λ z. IsStep h z j in let B : ℕ → Type 0 = λ z. IsStep h x z in subst B q (subst A p k)

  back_side : (x y i j : ℕ) → i ≡ x → j ≡ y → IsSide (ts ++ written a b c ∷ []) j i → IsSide (ts ++ written a b c ∷ []) y x
  back_side x y i j p q k =
      let A : ℕ → Type 0 = λ z. IsSide (ts ++ written a b c ∷ []) j z in let B : ℕ → Type 0 = λ z. IsSide (ts ++ written a b c ∷ []) z x in subst B q (subst A p k)

  -- the reverse of a side of the triple waits, unless it is known
  new_first : ¬ (IsSide (ts ++ written a b c ∷ []) b a) → ¬ (IsStep h a b) → Contains (closed a b c fs) (b, a)
  new_first n m = absurd (known a b (Contains-here (a, b) (a, b) fs refl) m n)

  new_second : ¬ (IsSide (ts ++ written a b c ∷ []) c b) → ¬ (IsStep h b c) → Contains (closed a b c fs) (c, b)
  new_second n m =
      ⊎_elim (λ k. absurd (known b c (Contains-there (b, c) (a, b) fs k) m n))
      (λ k. after_keeps (c, a) (after_side (b, c) fs) (c, b) k (apart_from c b c a n (has c a (inr (inr (refl, refl))))))
      (after_adds (b, c) fs)

  new_third : ¬ (IsSide (ts ++ written a b c ∷ []) a c) → ¬ (IsStep h c a) → Contains (closed a b c fs) (a, c)
  new_third n m =
      ⊎_elim
      (λ k. ⊎_elim (λ l. absurd (known c a (Contains-there (c, a) (a, b) fs l) m n)) (λ e. absurd (different (ap (λ f. f.1) e))) (after_only (b, c) fs (c, a) k))
      (λ k. k) (after_adds (c, a) (after_side (b, c) fs))

  pub waiting_next : IsWaiting h (ts ++ written a b c ∷ []) (closed a b c fs)
  waiting_next = record {
    sound = λ x y k.
        ⊎_elim
        (λ l. ⊎_elim (λ m. ⊎_elim (λ s. inl s) (λ s. inr (side_left ts (written a b c ∷ []) y x s)) (w.sound x y (Contains-there (x, y) (a, b) fs m)))
        (λ e. inr (has y x (inr (inl (ap (λ f. f.1) (sym e), ap (λ f. f.0) (sym e)))))) (after_only (b, c) fs (x, y) l))
        (λ e. inr (has y x (inr (inr (ap (λ f. f.1) (sym e), ap (λ f. f.0) (sym e))))))
        (after_only (c, a) (after_side (b, c) fs) (x, y) k);
    steps = λ x y s n. kept x y (w.steps x y s (λ r. n (side_left ts (written a b c ∷ []) x y r))) n;
    sides = λ x y s n m. ⊎_elim (λ r. kept y x (w.sides x y r (λ z. n (side_left ts (written a b c ∷ []) y x z)) m) n)
        (λ r. ⊎_elim (λ p. moved x y a b p.0 p.1 (new_first (λ z. n (back_side x y a b p.0 p.1 z)) (λ z. m (back_step x y a b p.0 p.1 z))))
        (λ q. ⊎_elim (λ p. moved x y b c p.0 p.1 (new_second (λ z. n (back_side x y b c p.0 p.1 z)) (λ z. m (back_step x y b c p.0 p.1 z))))
        (λ p. moved x y c a p.0 p.1 (new_third (λ z. n (back_side x y c a p.0 p.1 z)) (λ z. m (back_step x y c a p.0 p.1 z)))) q)
        (corner_sides (written a b c) a b c x y (written_corner a b c) r))
        (side_cases ts (written a b c) x y s);
  }

-- at the end of a word nothing waits
pub waiting_end : (h : Patch) (word : List ℕ) (fs : List (ℕ × ℕ)) (ts us : List Triangle) → IsWaiting h ts fs → Closes fs word us → IsPart h (ts ++ us) → IsWaiting h (ts ++ us) []
waiting_end h [] [] ts [] w k p = let P : List Triangle → Type 0 = λ vs. IsWaiting h vs [] in subst P (sym (append-nil ts)) w
waiting_end h [] [] ts (u ∷ us) w k p = absurd k
waiting_end h [] ((a, b) ∷ fs) ts us w k p = absurd k
waiting_end h (c ∷ word) [] ts us w k p = absurd k
waiting_end h (c ∷ word) ((a, b) ∷ fs) ts [] w k p = absurd k
waiting_end h (c ∷ word) ((a, b) ∷ fs) ts (u ∷ us) w k p =
    let q : IsPart h ((ts ++ written a b c ∷ []) ++ us) =
    (let P : Triangle → Type 0 = λ v. IsPart h (ts ++ v ∷ us) in let Q : List Triangle → Type 0 = λ vs. IsPart h vs in subst Q (sym (append_assoc ts (written a b c ∷ []) us)) (subst P k.0 p)) in
    let n = waiting_next h ts fs a b c (fits_unit h ts a b c (part_left h (ts ++ written a b c ∷ []) us q)) w in
    let e : (ts ++ written a b c ∷ []) ++ us ≡ ts ++ u ∷ us = append_assoc ts (written a b c ∷ []) us ∙ ap (λ v. ts ++ v ∷ us) (sym k.0) in
    let P : List Triangle → Type 0 = λ vs. IsWaiting h vs [] in
    subst P e (waiting_end h word (closed a b c fs) (ts ++ written a b c ∷ []) us n k.1 q)

-- ---- a part where nothing waits is fine

pub pairs_cases : {X : Type 0} (R : X → X → Type 0) (xs : List X) → AllPairs R xs → (x y : X) → Contains xs x → Contains xs y → (x ≡ y) ⊎ (R x y ⊎ R y x)
pairs_cases R [] p x y k l = Contains-none x k
pairs_cases {X} R (z ∷ zs) p x y k l = by (Contains-cases x z zs k) (Contains-cases y z zs l) (pairs_cases R zs (AllPairs-tail R z zs p) x y)
  where
    head : (v : X) → Contains zs v → R z v
    head v m = All-contains (R z) zs v (AllPairs-head R z zs p) m

    by : ((x ≡ z) ⊎ Contains zs x) → ((y ≡ z) ⊎ Contains zs y) → (Contains zs x → Contains zs y → (x ≡ y) ⊎ (R x y ⊎ R y x)) → (x ≡ y) ⊎ (R x y ⊎ R y x)
    by (inl e) (inl f) go = inl (e ∙ sym f)
    by (inl e) (inr m) go = inr (inl (let P = λ (v : X). R v y in subst P (sym e) (head y m)))
    by (inr m) (inl f) go = inr (inr (let P = λ (v : X). R v x in subst P (sym f) (head x m)))
    by (inr m) (inr n) go = go m n

-- two sides of one triple are one, or one begins where the other ends
one_triple : (t : Triangle) (a b c d : ℕ) → HasSide t a b → HasSide t c d → ((a ≡ c) × (b ≡ d)) ⊎ ((b ≡ c) ⊎ (a ≡ d))
one_triple t a b c d (inl p) (inl q) = inl (sym p.0 ∙ q.0, sym p.1 ∙ q.1)
one_triple t a b c d (inl p) (inr (inl q)) = inr (inl (sym p.1 ∙ q.0))
one_triple t a b c d (inl p) (inr (inr q)) = inr (inr (sym p.0 ∙ q.1))
one_triple t a b c d (inr (inl p)) (inl q) = inr (inr (sym p.0 ∙ q.1))
one_triple t a b c d (inr (inl p)) (inr (inl q)) = inl (sym p.0 ∙ q.0, sym p.1 ∙ q.1)
one_triple t a b c d (inr (inl p)) (inr (inr q)) = inr (inl (sym p.1 ∙ q.0))
one_triple t a b c d (inr (inr p)) (inl q) = inr (inl (sym p.1 ∙ q.0))
one_triple t a b c d (inr (inr p)) (inr (inl q)) = inr (inr (sym p.0 ∙ q.1))
one_triple t a b c d (inr (inr p)) (inr (inr q)) = inl (sym p.0 ∙ q.0, sym p.1 ∙ q.1)

-- the sides of one triple don't cross
own_apart : (h : Patch) → AreApart h → (t : Triangle) → IsUnit h t.a t.b t.c → (a b c d : ℕ) → HasSide t a b → HasSide t c d → ¬ (HaveSameEnds a b c d)
    → ¬ (DoCross (place h a) (place h b) (place h c) (place h d))
own_apart h apart t u a b c d s r other x =
    let k = unit_side h t a b u s in let l = unit_side h t c d u r in
    let o = crossing_turns h apart a b k.0 c d l.0 k.1 l.1 other x in
    ⊎_elim (λ p. other (inl p))
    (λ q. ⊎_elim (λ e. zero_first (turn h a b c) (turn h a b d) (ap (turn h a b) (sym e) ∙ ap sign (flat_last (axes h) (place h a) (place h b))) o.0)
    (λ e. zero_second (turn h a b c) (turn h a b d) (ap (turn h a b) (sym e) ∙ ap sign (flat_outer (axes h) (place h a) (place h b))) o.0) q)
    (one_triple t a b c d s r)

module _ (h : Patch) (apart : AreApart h) (ts : List Triangle) (p : IsPart h ts) where
  part_unit : (t : Triangle) → Contains ts t → IsUnit h t.a t.b t.c
  part_unit t k = All-contains (λ t. IsUnit h t.a t.b t.c) ts t p.unit k

  part_once : (t u : Triangle) → Contains ts t → Contains ts u → (x y : ℕ) → HasSide t x y → HasSide u x y → IsSameTriple t u
  part_once t u k l x y s r =
      ⊎_elim (λ e. (let P : Triangle → Type 0 = λ z. IsSameTriple t z in subst P e (same_self t)))
      (λ q. ⊎_elim (λ c. absurd (c.apart x y x y s r (inl (refl, refl)))) (λ c. absurd (c.apart x y x y r s (inl (refl, refl)))) q)
      (pairs_cases (AreCompatible h) ts p.compatible t u k l)

  part_apart : (a b c d : ℕ) → IsSide ts a b → IsSide ts c d → ¬ (HaveSameEnds a b c d) → ¬ (DoCross (place h a) (place h b) (place h c) (place h d))
  part_apart a b c d s r other x =
      ⊎_elim (λ e. own_apart h apart s.0 (part_unit s.0 s.1) a b c d s.2 (let P : Triangle → Type 0 = λ z. HasSide z c d in subst P (sym e) r.2) other x)
      (λ q. ⊎_elim (λ m. m.apart a b c d s.2 r.2 (inr (other, x)))
      (λ m. m.apart c d a b r.2 s.2 (inr (
        (λ z. other (⊎_elim (λ y. inl (sym y.0, sym y.1)) (λ y. inr (sym y.1, sym y.0)) z)),
        cross_swap (place h a) (place h b) (place h c) (place h d) x,
      ))) q)
      (pairs_cases (AreCompatible h) ts p.compatible s.0 r.0 s.1 r.1)

  -- the reverse of a boundary step is no side
  outside : (x y : ℕ) → IsStep h x y → ¬ (IsSide ts y x)
  outside x y s r =
      let k = unit_side h r.0 y x (part_unit r.0 r.1) r.2 in
      s.outer k.0 k.1.points.2
      (sign_negative (area_of h x y k.0) (below (area_of h x y k.0) (area_of h y x k.0) (area_swap (axes h) (place h y) (place h x) (place h k.0)) (unit_area h y x k.0 k.1)))
    where
      below : (i j : ℤ) → i ≡ neg_ℤ j → pos 0 <ℤ j → i <ℤ pos 0
      below i j e l = omega (arith, ints, e, l)

  decide_step : (steps : List (ℕ × ℕ)) → AreSteps h steps → (x y : ℕ) → Decided (IsStep h x y)
  decide_step steps are x y = by (list_any (is_same_step (x, y)) steps) refl
    where
      by : (b : Bool) → list_any (is_same_step (x, y)) steps ≡ b → Decided (IsStep h x y)
      by true e = inl (All-contains (λ e. IsStep h e.0 e.1) steps (x, y) are.sound (any_contains (x, y) steps e))
      by false e = inr (λ s. (let r : false ≡ true = sym e ∙ contains_any (x, y) steps (are.complete (x, y) s) in cc))

  pub part_fine : (steps : List (ℕ × ℕ)) → AreSteps h steps → IsWaiting h ts [] → IsFine h ts
  part_fine steps are w = record {
    unit = part_unit;
    once = part_once;
    edge = λ x y. (
      (λ s. ⊎_elim (λ k. k) (λ n. Contains-none (y, x) (w.sides x y s.0 s.1 n)) (decide_step steps are x y)),
      (λ s. (⊎_elim (λ k. k) (λ n. Contains-none (x, y) (w.steps x y s n)) (decide_is_side ts x y), outside x y s)),
    );
    apart = part_apart;
  }

-- ---- the triples of a triangulation are a part

pub part_of_fine : (h : Patch) (us ts : List Triangle) → IsFine h us → ((t : Triangle) → Contains ts t → Contains us t) → AreDifferent ts → IsPart h ts
part_of_fine h us ts fine within d = record { unit = All-from_contains (λ t. IsUnit h t.a t.b t.c) ts (λ t k. fine.unit t (within t k)); compatible = pairs ts within d }
  where
    compatible : (t u : Triangle) → Contains us t → Contains us u → ¬ (IsSameTriple u t) → AreCompatible h t u
    compatible t u k l n = record {
      apart = λ x y z w s r q. ⊎_elim
          (λ e. n (fine.once u t l k x y (let A : ℕ → Type 0 = λ i. HasSide u i w in let B : ℕ → Type 0 = λ i. HasSide u x i in subst B (sym e.1) (subst A (sym e.0) r)) s))
          (λ e. fine.apart x y z w (t, k, s) (u, l, r) e.0 e.1) q;
    }

    pairs : (vs : List Triangle) → ((t : Triangle) → Contains vs t → Contains us t) → AreDifferent vs → AllPairs (AreCompatible h) vs
    pairs [] f e = λ i j x k l. absurd (omega arith)
    pairs (t ∷ vs) f e =
        AllPairs-cons (AreCompatible h) t vs
        (All-from_contains (AreCompatible h t) vs (λ u k. compatible t u (f t (Contains-here t t vs refl)) (f u (Contains-there u t vs k)) (λ s. e.0 (u, k, s))))
        (pairs vs (λ u k. f u (Contains-there u t vs k)) e.1)

-- ---- words that lead on from the boundary are those of triangulations

pub triangulation_completes : (h : Patch) (steps : List (ℕ × ℕ)) (x : Triangulation) → AreSteps h steps → IsTriangulation h x → Completes h [] steps x.word x.triangles
triangulation_completes h steps x are i = record {
  closes = let P : List (ℕ × ℕ) → Type 0 = λ es. Closes es x.word x.triangles in subst P (steps_fixed h i.steps steps i.boundary are) i.closes;
  part = part_of_fine h x.triangles x.triangles i.fine (λ t k. k) (triangulation_apart h x i);
}

pub completes_triangulation : (h : Patch) → AreApart h → (steps : List (ℕ × ℕ)) (x : Triangulation) → AreSteps h steps → Completes h [] steps x.word x.triangles → IsTriangulation h x
completes_triangulation h apart steps x are k = record {
  steps = steps;
  boundary = are;
  closes = k.closes;
  fine = part_fine h apart x.triangles k.part steps are (waiting_end h x.word steps [] x.triangles (waiting_first h steps are) k.closes k.part);
}

-- the boundary leads from points to points
pub steps_of : (h : Patch) (steps : List (ℕ × ℕ)) → AreSteps h steps → All (λ e. IsOf h e.0 × IsOf h e.1) steps
steps_of h steps are =
    All-from_contains (λ e. IsOf h e.0 × IsOf h e.1) steps (λ e k. (let s : IsStep h e.0 e.1 = All-contains (λ e. IsStep h e.0 e.1) steps e are.sound k in (s.points.0, s.points.1)))
