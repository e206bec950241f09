-- A fine set has a walk, so it has a word.
--     walk_exists      from any point of a walk within the set, the walk goes on to its end
--     word_from_steps      each fine set has a word, given its boundary steps (FineSets has them)
--     triangulation_apart, triangulation_sides      a triangulation gives no triple and no directed side twice
use Rattle.std.proofs.Common.{◌≡◌, ◌≢◌, ℕ, zero, suc, ◌+◌, ◌<◌, ◌≤◌, ◌⊎◌, inl, inr, ⊎_elim, Bool, true, false, cond, refl, sym, ap, ◌∙◌, subst, arith, List, [], ◌∷◌, length}
use Rattle.std.specs.Prelude.{Contains, filter, not, ◌&&◌, ◌||◌, ◌==◌, nat_lt, AllPairs}
use Rattle.std.specs.List.{list_any}
use Rattle.std.proofs.lemmas.Bool.Decides.{nat_tests}
use Rattle.std.proofs.lemmas.List.Elements.{All-contains}
use Rattle.ntfe_model.specs.Lists.{IsBefore2}
use Rattle.ntfe_model.specs.Charts.{Patch, AreSteps, IsStep}
use Rattle.ntfe_model.specs.Triangulations.{HasSide, IsRotationOf, IsSameTriple, IsSide, IsTripleOf, IsFine}
use Rattle.ntfe_model.specs.declared.triangulation.Triangulation.{Triangulation}
use Rattle.ntfe_model.specs.Words.{is_same_step, is_before, with_step, after_side, written, Closes, IsTriangulation, IsWordOf}
use Rattle.ntfe_model.specs.declared.triangle.Triangle.{Triangle}
use Rattle.ntfe_model.proofs.Listings.{Contains-here, Contains-there, Contains-cases, Contains-none, AllPairs-head, AllPairs-tail}
use Rattle.ntfe_model.proofs.Areas.{AreDistinct, sides}
use Rattle.ntfe_model.proofs.Triples.{Decided, decide_triple_of, decide_is_side, AreThree, side_same, same_back, same_self, corner_next, corner_side, third_point, side_of_triple_of, AreDifferent, distinct_sides}
use Rattle.face_chart.proofs.Walk.{written_corner, corner_sides, Waits, waits_next, waits_first, after_only, after_keeps, with_step_only}
use Rattle.face_chart.proofs.WordLemmas.{corner_in, walk_word}
use Rattle.ntfe_model.proofs.Folds.{unit_three}
use Rattle.ntfe_model.proofs.Orders.{EdgeBefore}

abbrev Step : Type 0
Step = ℕ × ℕ

-- ---- more on what a side changes

same_self_step : (e : Step) → is_same_step e e ≡ true
same_self_step e = both (e.0 == e.0) (e.1 == e.1) (same e.0) (same e.1)
  where
    same : (x : ℕ) → (x == x) ≡ true
    same x = grind (arith, nat_tests)

    both : (p q : Bool) → p ≡ true → q ≡ true → (p && q) ≡ true
    both true q e f = f
    both false q e f = cc

pub contains_any : (e : Step) (fs : List Step) → Contains fs e → list_any (is_same_step e) fs ≡ true
contains_any e [] h = Contains-none e h
contains_any e (f ∷ fs) h = by (is_same_step e f) refl (contains_any e fs)
  where
    by : (b : Bool) → is_same_step e f ≡ b → (Contains fs e → list_any (is_same_step e) fs ≡ true) → (b || list_any (is_same_step e) fs) ≡ true
    by true p go = refl
    by false p go =
        ⊎_elim (λ q. (let r : false ≡ true = sym p ∙ ap (is_same_step e) (sym q) ∙ same_self_step e in cc)) (λ k. go k) (Contains-cases e f fs h)

filter_both : (test : Step → Bool) (fs : List Step) (g : Step) → Contains (filter test fs) g → Contains fs g × (test g ≡ true)
filter_both test [] g h = Contains-none g h
filter_both test (f ∷ fs) g h = by (test f) refl (filter_both test fs g) h
  where
    by : (b : Bool) → test f ≡ b → (Contains (filter test fs) g → Contains fs g × (test g ≡ true)) → Contains (cond b (f ∷ filter test fs) (filter test fs)) g → Contains (f ∷ fs) g × (test g ≡ true)
    by true p go k =
        ⊎_elim (λ e. (Contains-here g f fs e, ap test e ∙ p)) (λ l. let r = go l in (Contains-there g f fs r.0, r.1)) (Contains-cases g f (filter test fs) k)
    by false p go k = let r = go k in (Contains-there g f fs r.0, r.1)

filter_distinct : (test : Step → Bool) (fs : List Step) → AreDistinct fs → AreDistinct (filter test fs)
filter_distinct test [] d = d
filter_distinct test (f ∷ fs) d = by (test f) (filter_distinct test fs d.1)
  where
    by : (b : Bool) → AreDistinct (filter test fs) → AreDistinct (cond b (f ∷ filter test fs) (filter test fs))
    by true go = ((λ k. d.0 (filter_both test fs f k).0), go)
    by false go = go

with_step_distinct : (e : Step) (fs : List Step) → AreDistinct fs → ¬ (Contains fs e) → AreDistinct (with_step e fs)
with_step_distinct e [] d n = ((λ k. Contains-none e k), d)
with_step_distinct e (f ∷ fs) d n = by (is_before e f) (with_step_distinct e fs d.1 (λ k. n (Contains-there e f fs k)))
  where
    by : (b : Bool) → AreDistinct (with_step e fs) → AreDistinct (cond b (e ∷ f ∷ fs) (f ∷ with_step e fs))
    by true go = (n, d)
    by false go = ((λ k. ⊎_elim (λ l. d.0 l) (λ p. n (Contains-here e f fs (sym p))) (with_step_only e fs f k)), go)

-- the reverse of a side is new only where the side did not wait
after_new : (e : Step) (fs : List Step) (g : Step) → Contains (after_side e fs) g → Contains fs g ⊎ ((g ≡ (e.1, e.0)) × ¬ (Contains fs e))
after_new e fs g h = by (list_any (is_same_step e) fs) refl h
  where
    by : (b : Bool) → list_any (is_same_step e) fs ≡ b → Contains (cond b (filter (λ f. not (is_same_step e f)) fs) (with_step (e.1, e.0) fs)) g → Contains fs g ⊎ ((g ≡ (e.1, e.0)) × ¬ (Contains fs e))
    by true p k = inl (filter_both (λ f. not (is_same_step e f)) fs g k).0
    by false p k = ⊎_elim (λ l. inl l) (λ q. inr (q, λ m. (let r : false ≡ true = sym p ∙ contains_any e fs m in cc))) (with_step_only (e.1, e.0) fs g k)

-- a side with two ends does not wait after it came
after_gone : (e : Step) (fs : List Step) → e.0 ≢ e.1 → Contains (after_side e fs) e → ⊥
after_gone e fs n h = by (list_any (is_same_step e) fs) refl h
  where
    clash : not (is_same_step e e) ≡ true → ⊥
    clash k = let r : not true ≡ true = ap not (sym (same_self_step e)) ∙ k in cc

    by : (b : Bool) → list_any (is_same_step e) fs ≡ b → Contains (cond b (filter (λ f. not (is_same_step e f)) fs) (with_step (e.1, e.0) fs)) e → ⊥
    by true p k = clash (filter_both (λ f. not (is_same_step e f)) fs e k).1
    by false p k = ⊎_elim (λ l. (let r : false ≡ true = sym p ∙ contains_any e fs l in cc)) (λ q. n (ap (λ f. f.0) q)) (with_step_only (e.1, e.0) fs e k)

after_distinct : (e : Step) (fs : List Step) → AreDistinct fs → (¬ (Contains fs e) → ¬ (Contains fs (e.1, e.0))) → AreDistinct (after_side e fs)
after_distinct e fs d n = by (list_any (is_same_step e) fs) refl
  where
    by : (b : Bool) → list_any (is_same_step e) fs ≡ b → AreDistinct (cond b (filter (λ f. not (is_same_step e f)) fs) (with_step (e.1, e.0) fs))
    by true p = filter_distinct (λ f. not (is_same_step e f)) fs d
    by false p = with_step_distinct (e.1, e.0) fs d (n (λ m. (let r : false ≡ true = sym p ∙ contains_any e fs m in cc)))

-- ---- a walk within a set, at some point

pub record IsUnderWay (us rs : List Triangle) (fs : List (ℕ × ℕ)) : Type 0 where
  pub waits : Waits (IsSide us) rs fs
  -- what waits are sides that are not reached
  pub open_sides : (x y : ℕ) → Contains fs (x, y) → IsSide us x y × ¬ (IsSide rs x y)
  pub distinct : AreDistinct fs
  pub within : (t : Triangle) → Contains rs t → IsTripleOf us t

pub written_same : (u : Triangle) (a b c : ℕ) → IsRotationOf u a b c → IsSameTriple u (written a b c)
written_same u a b c k = first (nat_lt a b && nat_lt a c)
  where
    second : (q : Bool) → IsSameTriple u (cond q (record { a = b; b = c; c = a }) (record { a = c; b = a; c = b }))
    second true = corner_next u a b c k
    second false = corner_next u b c a (corner_next u a b c k)

    first : (p : Bool) → IsSameTriple u (cond p (record { a = a; b = b; c = c }) (cond (nat_lt b a && nat_lt b c) (record { a = b; b = c; c = a }) (record { a = c; b = a; c = b })))
    first true = k
    first false = second (nat_lt b a && nat_lt b c)

corner_three : (t : Triangle) (a b c : ℕ) → AreThree t → IsRotationOf t a b c → (a ≢ b) × (b ≢ c) × (c ≢ a)
corner_three t a b c n (inl h) = ((λ e. n.0 (h.0 ∙ e ∙ sym h.1)), (λ e. n.1 (h.1 ∙ e ∙ sym h.2)), (λ e. n.2 (h.2 ∙ e ∙ sym h.0)))
corner_three t a b c n (inr (inl h)) = ((λ e. n.1 (h.0 ∙ e ∙ sym h.1)), (λ e. n.2 (h.1 ∙ e ∙ sym h.2)), (λ e. n.0 (h.2 ∙ e ∙ sym h.0)))
corner_three t a b c n (inr (inr h)) = ((λ e. n.2 (h.0 ∙ e ∙ sym h.1)), (λ e. n.0 (h.1 ∙ e ∙ sym h.2)), (λ e. n.1 (h.2 ∙ e ∙ sym h.0)))

-- the triple at the next step: the walk stays under way
pub under_way_next : (h : Patch) (us rs : List Triangle) (fs : List (ℕ × ℕ)) (a b c : ℕ) (u : Triangle) → IsFine h us → Contains us u → IsRotationOf u a b c
    → IsUnderWay us rs ((a, b) ∷ fs) → IsUnderWay us (written a b c ∷ rs) (after_side (c, a) (after_side (b, c) fs))
under_way_next h us rs fs a b c u fine ku corner w = record {
  waits = waits_next (IsSide us) rs fs a b c t (written_corner a b c) w.waits;
  open_sides = λ x y k. out x y (source x y k);
  distinct = after_distinct (c, a) (after_side (b, c) fs)
      (after_distinct (b, c) fs w.distinct.1 (λ m k. fresh b c bc (w.waits.sound c b (Contains-there (c, b) (a, b) fs k) (whole b c bc))))
      (λ m k. ⊎_elim (λ l. fresh c a ca (w.waits.sound a c (Contains-there (a, c) (a, b) fs l) (whole c a ca)))
      (λ e. n.2 (sym (ap (λ f. f.0) e))) (after_only (b, c) fs (a, c) k));
  within = λ v k. ⊎_elim (λ e. (let P : Triangle → Type 0 = λ z. IsTripleOf us z in subst P (sym e) (u, ku, written_same u a b c corner))) (λ l. w.within v l) (Contains-cases v t rs k);
}
  where
    t : Triangle
    t = written a b c

    n : (a ≢ b) × (b ≢ c) × (c ≢ a)
    n = corner_three u a b c (unit_three h u (fine.unit u ku)) corner

    bc : HasSide u b c
    bc = corner_side u b c a (corner_next u a b c corner)

    ca : HasSide u c a
    ca = corner_side u c a b (corner_next u b c a (corner_next u a b c corner))

    ab : HasSide u a b
    ab = corner_side u a b c corner

    whole : (x y : ℕ) → HasSide u x y → IsSide us x y
    whole x y s = (u, ku, s)

    -- no side of the triple was reached
    fresh : (x y : ℕ) → HasSide u x y → ¬ (IsSide rs x y)
    fresh x y s (r, kr, sr) =
        let o = w.within r kr in
        let same = fine.once o.0 u o.1 ku x y (side_same o.0 r x y o.2 sr) s in
        (w.open_sides a b (Contains-here (a, b) (a, b) fs refl)).1 (r, kr, side_same r o.0 a b (same_back o.0 r o.2) (side_same o.0 u a b same ab))

    -- a side of the triple that does not wait has a reverse that is not reached
    new : (x y : ℕ) → HasSide u x y → ¬ (Contains ((a, b) ∷ fs) (x, y)) → IsSide us y x × ¬ (IsSide rs y x)
    new x y s m = by (decide_is_side us y x) (decide_is_side rs y x)
      where
        by : Decided (IsSide us y x) → Decided (IsSide rs y x) → IsSide us y x × ¬ (IsSide rs y x)
        by (inl e) (inr k) = (e, k)
        by p (inl r) = absurd (m (w.waits.complete x y (whole x y s) (fresh x y s) (λ e. r)))
        by (inr k) q = absurd (m (w.waits.complete x y (whole x y s) (fresh x y s) (λ e. absurd (k e))))

    -- what waits now, waited, or is a reverse that came
    tside : (x y : ℕ) → HasSide t x y → ((a ≡ x) × (b ≡ y)) ⊎ ((b ≡ x) × (c ≡ y)) ⊎ ((c ≡ x) × (a ≡ y))
    tside x y s = corner_sides t a b c x y (written_corner a b c) s

    none : (x y : ℕ) → ((a ≡ x) × (b ≡ y) → ⊥) → ((b ≡ x) × (c ≡ y) → ⊥) → ((c ≡ x) × (a ≡ y) → ⊥) → ¬ (HasSide t x y)
    none x y p q r s = ⊎_elim p (λ z. ⊎_elim q r z) (tside x y s)

    moved2 : (P : ℕ → ℕ → Type 0) (x y i j : ℕ) → i ≡ x → j ≡ y → P i j → P x y
    moved2 P x y i j p q z = let A : ℕ → Type 0 = λ k. P k j in let B : ℕ → Type 0 = λ k. P x k in subst B q (subst A p z)

    pair : (x y i j : ℕ) → i ≡ x → j ≡ y → (let e : ℕ × ℕ = (x, y) in let f : ℕ × ℕ = (i, j) in e ≡ f)
    pair x y i j p q = λ z. (sym p z, sym q z)

    at_pair : (gs : List (ℕ × ℕ)) (x y i j : ℕ) → i ≡ x → j ≡ y → Contains gs (x, y) → Contains gs (i, j)
    at_pair gs x y i j p q k = let P : ℕ × ℕ → Type 0 = λ e. Contains gs e in subst P (pair x y i j p q) k

    -- no side of the triple waits now
    gone_ab : Contains (after_side (c, a) (after_side (b, c) fs)) (a, b) → ⊥
    gone_ab k =
        ⊎_elim (λ l. ⊎_elim (λ m. w.distinct.0 m) (λ e. n.2 (sym (ap (λ f. f.0) e))) (after_only (b, c) fs (a, b) l))
        (λ e. n.1 (ap (λ f. f.1) e)) (after_only (c, a) (after_side (b, c) fs) (a, b) k)

    gone_bc : Contains (after_side (c, a) (after_side (b, c) fs)) (b, c) → ⊥
    gone_bc k = ⊎_elim (λ l. after_gone (b, c) fs n.1 l) (λ e. n.0 (sym (ap (λ f. f.0) e))) (after_only (c, a) (after_side (b, c) fs) (b, c) k)

    gone_ca : Contains (after_side (c, a) (after_side (b, c) fs)) (c, a) → ⊥
    gone_ca k = after_gone (c, a) (after_side (b, c) fs) n.2 k

    source : (x y : ℕ) → Contains (after_side (c, a) (after_side (b, c) fs)) (x, y) → (IsSide us x y × ¬ (IsSide rs x y)) × (¬ (HasSide (written a b c) x y))
    source x y k = (
      from (after_new (c, a) (after_side (b, c) fs) (x, y) k),
      none x y (λ s. gone_ab (at_pair (after_side (c, a) (after_side (b, c) fs)) x y a b s.0 s.1 k))
          (λ s. gone_bc (at_pair (after_side (c, a) (after_side (b, c) fs)) x y b c s.0 s.1 k))
          (λ s. gone_ca (at_pair (after_side (c, a) (after_side (b, c) fs)) x y c a s.0 s.1 k)),
    )
      where
        not_bc : ¬ (Contains fs (b, c)) → ¬ (Contains ((a, b) ∷ fs) (b, c))
        not_bc m z = ⊎_elim (λ e. n.0 (sym (ap (λ f. f.0) e))) m (Contains-cases (b, c) (a, b) fs z)

        not_ca : ¬ (Contains (after_side (b, c) fs) (c, a)) → ¬ (Contains ((a, b) ∷ fs) (c, a))
        not_ca m z = ⊎_elim (λ e. n.2 (ap (λ f. f.0) e)) (λ l. m (after_keeps (b, c) fs (c, a) l (λ e. n.1 (sym (ap (λ f. f.0) e))))) (Contains-cases (c, a) (a, b) fs z)

        from : (Contains (after_side (b, c) fs) (x, y) ⊎ ((let e : ℕ × ℕ = (x, y) in let f : ℕ × ℕ = (a, c) in e ≡ f) × ¬ (Contains (after_side (b, c) fs) (c, a)))) → IsSide us x y × ¬ (IsSide rs x y)
        from (inr q) = moved2 (λ i j. IsSide us i j × ¬ (IsSide rs i j)) x y a c (ap (λ f. f.0) (sym q.0)) (ap (λ f. f.1) (sym q.0)) (new c a ca (not_ca q.1))
        from (inl l) =
            ⊎_elim (λ m. w.open_sides x y (Contains-there (x, y) (a, b) fs m))
            (λ q. moved2 (λ i j. IsSide us i j × ¬ (IsSide rs i j)) x y c b (ap (λ f. f.0) (sym q.0)) (ap (λ f. f.1) (sym q.0)) (new b c bc (not_bc q.1)))
            (after_new (b, c) fs (x, y) l)

    out : (x y : ℕ) → (IsSide us x y × ¬ (IsSide rs x y)) × (¬ (HasSide (written a b c) x y)) → IsSide us x y × ¬ (IsSide (t ∷ rs) x y)
    out x y s = (s.0.0, λ r. ⊎_elim (λ e. s.1 (let P : Triangle → Type 0 = λ z. HasSide z x y in subst P e r.2)) (λ k. s.0.1 (r.0, k, r.2)) (Contains-cases r.0 t rs r.1))

-- ---- it ends

abbrev weight : {A : Type 0} → Decided A → ℕ
weight (inl a) = 0
weight (inr n) = 1

-- how many of the triples are not reached
abbrev pub left_count : List Triangle → List Triangle → ℕ
left_count rs [] = 0
left_count rs (u ∷ us) = weight (decide_triple_of rs u) + left_count rs us

triple_behind : (t : Triangle) (rs : List Triangle) (u : Triangle) → IsTripleOf rs u → IsTripleOf (t ∷ rs) u
triple_behind t rs u o = (o.0, Contains-there o.0 t rs o.1, o.2)

weight_falls : {A B : Type 0} (p : Decided A) (q : Decided B) → (B → A) → weight p ≤ weight q
weight_falls (inl a) (inl b) f = omega arith
weight_falls (inl a) (inr n) f = omega arith
weight_falls (inr m) (inl b) f = absurd (m (f b))
weight_falls (inr m) (inr n) f = omega arith

weight_lost : {A B : Type 0} (p : Decided A) (q : Decided B) → A → (B → ⊥) → weight p < weight q
weight_lost (inl a) (inl b) x n = absurd (n b)
weight_lost (inl a) (inr k) x n = omega arith
weight_lost (inr m) q x n = absurd (m x)

count_falls : (t : Triangle) (rs us : List Triangle) → left_count (t ∷ rs) us ≤ left_count rs us
count_falls t rs [] = omega arith
count_falls t rs (u ∷ us) =
    let p = weight_falls (decide_triple_of (t ∷ rs) u) (decide_triple_of rs u) (triple_behind t rs u) in
    sums _ _ _ _ p (count_falls t rs us)
  where
    sums : (a b c d : ℕ) → a ≤ b → c ≤ d → a + c ≤ b + d
    sums a b c d p q = omega (arith, p, q)

pub count_lost : (t : Triangle) (rs us : List Triangle) (u : Triangle) → Contains us u → ¬ (IsTripleOf rs u) → IsSameTriple t u → left_count (t ∷ rs) us < left_count rs us
count_lost t rs [] u k n s = Contains-none u k
count_lost t rs (v ∷ us) u k n s = by (Contains-cases u v us k) (λ l. count_lost t rs us u l n s)
  where
    first : (a b c d : ℕ) → a < b → c ≤ d → a + c < b + d
    first a b c d p q = omega (arith, p, q)

    later : (a b c d : ℕ) → a ≤ b → c < d → a + c < b + d
    later a b c d p q = omega (arith, p, q)

    by : ((u ≡ v) ⊎ Contains us u) → (Contains us u → left_count (t ∷ rs) us < left_count rs us) → left_count (t ∷ rs) (v ∷ us) < left_count rs (v ∷ us)
    by (inl e) go =
        let P : Triangle → Type 0 = λ z. IsTripleOf (t ∷ rs) z in let Q : Triangle → Type 0 = λ z. ¬ (IsTripleOf rs z) in
        first _ _ _ _ (weight_lost (decide_triple_of (t ∷ rs) v) (decide_triple_of rs v) (subst P e (t, Contains-here t t rs refl, s)) (subst Q e n)) (count_falls t rs us)
    by (inr l) go = later _ _ _ _ (weight_falls (decide_triple_of (t ∷ rs) v) (decide_triple_of rs v) (triple_behind t rs v)) (go l)

-- no more are left than there are
pub left_few : (rs us : List Triangle) → left_count rs us ≤ length us
left_few rs [] = omega arith
left_few rs (u ∷ us) = sums _ _ (one (decide_triple_of rs u)) (left_few rs us)
  where
    one : {A : Type 0} (d : Decided A) → weight d ≤ 1
    one (inl a) = omega arith
    one (inr n) = omega arith

    sums : (a b : ℕ) → a ≤ 1 → b ≤ length us → a + b ≤ suc (length us)
    sums a b p q = omega (arith, p, q)

in_front : (us : List Triangle) (s : Triangle) (ts : List Triangle) → IsTripleOf us s → ((t : Triangle) → Contains ts t → IsTripleOf us t)
    → (t : Triangle) → Contains (s ∷ ts) t → IsTripleOf us t
in_front us s ts o go t k =
    let P : Triangle → Type 0 = λ z. IsTripleOf us z in
    ⊎_elim (λ e. subst P (sym e) o) (λ m. go t m) (Contains-cases t s ts k)

-- from any point under way, the walk goes on to its end, within the set
pub walk_exists : (h : Patch) (us : List Triangle) → IsFine h us → (n : ℕ) (rs : List Triangle) (fs : List (ℕ × ℕ)) → left_count rs us < n → IsUnderWay us rs fs
    → (word : List ℕ) × (ts : List Triangle) × Closes fs word ts × ((t : Triangle) → Contains ts t → IsTripleOf us t)
walk_exists h us fine zero rs fs l w = absurd (omega (arith, l))
walk_exists h us fine (suc n) rs [] l w = ([], [], tt, (λ t k. Contains-none t k))
walk_exists h us fine (suc n) rs ((a, b) ∷ fs) l w =
    let first = w.open_sides a b (Contains-here (a, b) (a, b) fs refl) in
    let u = first.0.0 in let ku = first.0.1 in
    let third = third_point u a b first.0.2 in
    let c = third.0 in
    let same = written_same u a b c third.1 in
    let fresh : ¬ (IsTripleOf rs u) = (λ o. first.1 (side_of_triple_of rs u a b o first.0.2)) in
    let less = count_lost (written a b c) rs us u ku fresh (same_back u (written a b c) same) in
    let go = walk_exists h us fine n (written a b c ∷ rs) (after_side (c, a) (after_side (b, c) fs)) (below _ _ n less l) (under_way_next h us rs fs a b c u fine ku third.1 w) in
    (c ∷ go.0, written a b c ∷ go.1, (refl, go.2), in_front us (written a b c) go.1 (u, ku, same) go.3)
  where
    below : (i j n : ℕ) → i < j → j < suc n → i < n
    below i j n p q = omega (arith, p, q)

-- ---- the boundary steps in order

distinct_ordered : (fs : List (ℕ × ℕ)) → AllPairs EdgeBefore fs → AreDistinct fs
distinct_ordered [] o = tt
distinct_ordered (f ∷ fs) o = ((λ k. never f.0 f.1 (All-contains (EdgeBefore f) fs f (AllPairs-head EdgeBefore f fs o) k)), distinct_ordered fs (AllPairs-tail EdgeBefore f fs o))
  where
    never : (a b : ℕ) → IsBefore2 a b a b → ⊥
    never a b p = absurd (grind (arith, p))

-- at the start the walk is under way
pub under_way_first : (h : Patch) (us : List Triangle) (steps : List (ℕ × ℕ)) → IsFine h us → AreSteps h steps → IsUnderWay us [] steps
under_way_first h us steps fine are = record {
  waits = waits_first h us steps fine are;
  open_sides = λ x y k. (let s : IsStep h x y = All-contains (λ e. IsStep h e.0 e.1) steps (x, y) are.sound k in (((fine.edge x y).1 s).0, λ r. Contains-none r.0 r.1));
  distinct = distinct_ordered steps are.ordered;
  within = λ t k. Contains-none t k;
}

-- each fine set has a word, given its boundary steps
pub word_from_steps : (h : Patch) (us : List Triangle) (steps : List (ℕ × ℕ)) → IsFine h us → AreSteps h steps → (word : List ℕ) × IsWordOf h us word
word_from_steps h us steps fine are =
    let w = walk_exists h us fine (suc (left_count [] us)) [] steps (more (left_count [] us)) (under_way_first h us steps fine are) in
    (w.0, walk_word h us steps w.0 w.1 fine are w.2 w.3)
  where
    more : (n : ℕ) → n < suc n
    more n = omega arith

-- ---- no triple comes twice

same_corner : (a b c : ℕ) (t : Triangle) → t ≡ written a b c → IsRotationOf t a b c
same_corner a b c t e = let P : Triangle → Type 0 = λ v. IsRotationOf v a b c in subst P (sym e) (written_corner a b c)

under_way_moved : (us rs : List Triangle) (fs : List (ℕ × ℕ)) (s t : Triangle) → t ≡ s → IsUnderWay us (s ∷ rs) fs → IsUnderWay us (t ∷ rs) fs
under_way_moved us rs fs s t e w = let P : Triangle → Type 0 = λ v. IsUnderWay us (v ∷ rs) fs in subst P (sym e) w

-- the walk after its first triple is under way
pub under_way_after : (h : Patch) (us rs : List Triangle) (fs : List (ℕ × ℕ)) (a b c : ℕ) (t : Triangle) → IsFine h us → t ≡ written a b c → IsTripleOf us t
    → IsUnderWay us rs ((a, b) ∷ fs) → IsUnderWay us (t ∷ rs) (after_side (c, a) (after_side (b, c) fs))
under_way_after h us rs fs a b c t fine e o w =
    let u = corner_in us t a b c e o in
    under_way_moved us rs (after_side (c, a) (after_side (b, c) fs)) (written a b c) t e (under_way_next h us rs fs a b c u.0 fine u.1 u.2 w)

-- what a walk still gives is not reached
pub walk_new : (h : Patch) (us : List Triangle) → IsFine h us → (word : List ℕ) (fs : List (ℕ × ℕ)) (ts rs : List Triangle) → Closes fs word ts
    → ((t : Triangle) → Contains ts t → IsTripleOf us t) → IsUnderWay us rs fs → (t : Triangle) → Contains ts t → ¬ (IsTripleOf rs t)
walk_new h us fine [] [] [] rs p m w t k o = Contains-none t k
walk_new h us fine [] [] (s ∷ ts) rs p m w t k o = absurd p
walk_new h us fine [] ((a, b) ∷ fs) ts rs p m w t k o = absurd p
walk_new h us fine (c ∷ word) [] ts rs p m w t k o = absurd p
walk_new h us fine (c ∷ word) ((a, b) ∷ fs) [] rs p m w t k o = absurd p
walk_new h us fine (c ∷ word) ((a, b) ∷ fs) (s ∷ ts) rs p m w t k o =
    let next = under_way_after h us rs fs a b c s fine p.0 (m s (Contains-here s s ts refl)) w in
    let later = walk_new h us fine word (after_side (c, a) (after_side (b, c) fs)) ts (s ∷ rs) p.1 (λ v l. m v (Contains-there v s ts l)) next t in
    let fresh : IsTripleOf rs s → ⊥ = (λ q. (w.open_sides a b (Contains-here (a, b) (a, b) fs refl)).1 (side_of_triple_of rs s a b q (corner_side s a b c (same_corner a b c s p.0)))) in
    ⊎_elim (λ e. fresh (let P : Triangle → Type 0 = λ v. IsTripleOf rs v in subst P e o)) (λ l. later l (triple_behind s rs t o)) (Contains-cases t s ts k)

pub walk_apart : (h : Patch) (us : List Triangle) → IsFine h us → (word : List ℕ) (fs : List (ℕ × ℕ)) (ts rs : List Triangle) → Closes fs word ts
    → ((t : Triangle) → Contains ts t → IsTripleOf us t) → IsUnderWay us rs fs → AreDifferent ts
walk_apart h us fine [] [] [] rs p m w = tt
walk_apart h us fine [] [] (s ∷ ts) rs p m w = absurd p
walk_apart h us fine [] ((a, b) ∷ fs) ts rs p m w = absurd p
walk_apart h us fine (c ∷ word) [] ts rs p m w = absurd p
walk_apart h us fine (c ∷ word) ((a, b) ∷ fs) [] rs p m w = absurd p
walk_apart h us fine (c ∷ word) ((a, b) ∷ fs) (s ∷ ts) rs p m w =
    let next = under_way_after h us rs fs a b c s fine p.0 (m s (Contains-here s s ts refl)) w in
    let in_rest : (t : Triangle) → Contains ts t → IsTripleOf us t = (λ v l. m v (Contains-there v s ts l)) in
    let gs = after_side (c, a) (after_side (b, c) fs) in (
      (λ o. walk_new h us fine word gs ts (s ∷ rs) p.1 in_rest next o.0 o.1 (s, Contains-here s s rs refl, same_back o.0 s o.2)),
      walk_apart h us fine word gs ts (s ∷ rs) p.1 in_rest next,
    )

-- no triple of a triangulation is a repeat or a rotation of another
pub triangulation_apart : (h : Patch) (x : Triangulation) → IsTriangulation h x → AreDifferent x.triangles
triangulation_apart h x i =
    walk_apart h x.triangles i.fine x.word i.steps x.triangles [] i.closes (λ t k. (t, k, same_self t)) (under_way_first h x.triangles i.steps i.fine i.boundary)

-- and its directed sides are distinct
pub triangulation_sides : (h : Patch) (x : Triangulation) → IsTriangulation h x → AreDistinct (sides x.triangles)
triangulation_sides h x i = distinct_sides x.triangles (triangulation_apart h x i) i.fine.once (λ t k. unit_three h t (i.fine.unit t k))
