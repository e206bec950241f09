-- The word's walk reaches every triple of a fine set.
--     walk_invariant      what waits, at each point of a walk: the sides of the set that aren't reached and whose reverse is reached or is no side
--     walk_reaches      so at the end all triples are reached, since those that aren't would be paired among themselves
use Rattle.std.proofs.Common.{◌≡◌, ◌≢◌, ℕ, ◌⊎◌, inl, inr, ⊎_elim, Bool, true, false, cond, refl, sym, ap, ◌∙◌, subst, arith, List, [], ◌∷◌}
use Rattle.std.specs.Prelude.{Contains, filter, not, ◌&&◌, ◌||◌, ◌==◌, nat_lt}
use Rattle.std.specs.List.{list_any}
use Rattle.std.proofs.lemmas.Bool.Decides.{nat_tests}
use Rattle.ntfe_model.specs.Charts.{Patch, AreSteps, IsStep, axes, place}
use Rattle.ntfe_model.specs.Triangulations.{HasSide, IsRotationOf, IsSide, IsTripleOf, IsFine}
use Rattle.ntfe_model.specs.Words.{is_same_step, is_before, with_step, after_side, written, Closes}
use Rattle.ntfe_model.specs.declared.triangle.Triangle.{Triangle}
use Rattle.ntfe_model.proofs.Listings.{Contains-here, Contains-there, Contains-cases, Contains-none, Contains-filter}
use Rattle.std.proofs.lemmas.List.Elements.{All-contains}
use Rattle.ntfe_nums.proofs.Comparisons.{same_from_test, both}
use Rattle.ntfe_model.proofs.Triples.{Decided, decide_side, decide_is_side, decide_triple_of, side_same, same_back, corner_same, side_of_triple_of, none_paired}

-- ---- steps that are the same

pub number_same : (x y : ℕ) → x ≡ y → (x == y) ≡ true
number_same x y e = grind (arith, nat_tests)

pub same_step_is : (e f : ℕ × ℕ) → is_same_step e f ≡ true → e ≡ f
same_step_is e f h =
    let b = both (e.0 == f.0) (e.1 == f.1) h in
    let p = same_from_test e.0 f.0 b.0 in let q = same_from_test e.1 f.1 b.1 in
    λ i. (p i, q i)

not_false : (b : Bool) → (b ≡ true → ⊥) → not b ≡ true
not_false true n = absurd (n refl)
not_false false n = refl

-- ---- what a side changes

pub any_contains : (e : ℕ × ℕ) (fs : List (ℕ × ℕ)) → list_any (is_same_step e) fs ≡ true → Contains fs e
any_contains e [] h = cc
any_contains e (f ∷ fs) h = by (is_same_step e f) refl (any_contains e fs) h
  where
    by : (b : Bool) → is_same_step e f ≡ b → (list_any (is_same_step e) fs ≡ true → Contains fs e) → (b || list_any (is_same_step e) fs) ≡ true → Contains (f ∷ fs) e
    by true p go k = Contains-here e f fs (same_step_is e f p)
    by false p go k = Contains-there e f fs (go k)

pub with_step_has : (e : ℕ × ℕ) (fs : List (ℕ × ℕ)) → Contains (with_step e fs) e
with_step_has e [] = Contains-here e e [] refl
with_step_has e (f ∷ fs) = by (is_before e f) (with_step_has e fs)
  where
    by : (b : Bool) → Contains (with_step e fs) e → Contains (cond b (e ∷ f ∷ fs) (f ∷ with_step e fs)) e
    by true go = Contains-here e e (f ∷ fs) refl
    by false go = Contains-there e f (with_step e fs) go

pub with_step_keeps : (e : ℕ × ℕ) (fs : List (ℕ × ℕ)) (g : ℕ × ℕ) → Contains fs g → Contains (with_step e fs) g
with_step_keeps e [] g h = Contains-none g h
with_step_keeps e (f ∷ fs) g h = by (is_before e f) (with_step_keeps e fs g)
  where
    by : (b : Bool) → (Contains fs g → Contains (with_step e fs) g) → Contains (cond b (e ∷ f ∷ fs) (f ∷ with_step e fs)) g
    by true go = Contains-there g e (f ∷ fs) h
    by false go = ⊎_elim (λ p. Contains-here g f (with_step e fs) p) (λ k. Contains-there g f (with_step e fs) (go k)) (Contains-cases g f fs h)

pub with_step_only : (e : ℕ × ℕ) (fs : List (ℕ × ℕ)) (g : ℕ × ℕ) → Contains (with_step e fs) g → Contains fs g ⊎ (g ≡ e)
with_step_only e [] g h = ⊎_elim (λ p. inr p) (λ k. Contains-none g k) (Contains-cases g e [] h)
with_step_only e (f ∷ fs) g h = by (is_before e f) (with_step_only e fs g) h
  where
    by : (b : Bool) → (Contains (with_step e fs) g → Contains fs g ⊎ (g ≡ e)) → Contains (cond b (e ∷ f ∷ fs) (f ∷ with_step e fs)) g → Contains (f ∷ fs) g ⊎ (g ≡ e)
    by true go k = ⊎_elim (λ p. inr p) (λ l. inl l) (Contains-cases g e (f ∷ fs) k)
    by false go k = ⊎_elim (λ p. inl (Contains-here g f fs p)) (λ l. ⊎_elim (λ m. inl (Contains-there g f fs m)) (λ p. inr p) (go l)) (Contains-cases g f (with_step e fs) k)

filter_only : (test : ℕ × ℕ → Bool) (fs : List (ℕ × ℕ)) (g : ℕ × ℕ) → Contains (filter test fs) g → Contains fs g
filter_only test [] g h = Contains-none g h
filter_only test (f ∷ fs) g h = by (test f) (filter_only test fs g) h
  where
    by : (b : Bool) → (Contains (filter test fs) g → Contains fs g) → Contains (cond b (f ∷ filter test fs) (filter test fs)) g → Contains (f ∷ fs) g
    by true go k = ⊎_elim (λ p. Contains-here g f fs p) (λ l. Contains-there g f fs (go l)) (Contains-cases g f (filter test fs) k)
    by false go k = Contains-there g f fs (go k)

-- a side takes nothing else away,
pub after_keeps : (e : ℕ × ℕ) (fs : List (ℕ × ℕ)) (g : ℕ × ℕ) → Contains fs g → g ≢ e → Contains (after_side e fs) g
after_keeps e fs g h n = by (list_any (is_same_step e) fs)
  where
    by : (b : Bool) → Contains (cond b (filter (λ f. not (is_same_step e f)) fs) (with_step (e.1, e.0) fs)) g
    by true = Contains-filter (λ f. not (is_same_step e f)) fs g h (not_false (is_same_step e g) (λ p. n (sym (same_step_is e g p))))
    by false = with_step_keeps (e.1, e.0) fs g h

-- brings nothing but its reverse,
pub after_only : (e : ℕ × ℕ) (fs : List (ℕ × ℕ)) (g : ℕ × ℕ) → Contains (after_side e fs) g → Contains fs g ⊎ (g ≡ (e.1, e.0))
after_only e fs g h = by (list_any (is_same_step e) fs) h
  where
    by : (b : Bool) → Contains (cond b (filter (λ f. not (is_same_step e f)) fs) (with_step (e.1, e.0) fs)) g → Contains fs g ⊎ (g ≡ (e.1, e.0))
    by true k = inl (filter_only (λ f. not (is_same_step e f)) fs g k)
    by false k = with_step_only (e.1, e.0) fs g k

-- and brings it unless it waits itself
pub after_adds : (e : ℕ × ℕ) (fs : List (ℕ × ℕ)) → Contains fs e ⊎ Contains (after_side e fs) (e.1, e.0)
after_adds e fs = by (list_any (is_same_step e) fs) refl
  where
    by : (b : Bool) → list_any (is_same_step e) fs ≡ b → Contains fs e ⊎ Contains (cond b (filter (λ f. not (is_same_step e f)) fs) (with_step (e.1, e.0) fs)) (e.1, e.0)
    by true p = inl (any_contains e fs p)
    by false p = inr (with_step_has (e.1, e.0) fs)

-- ---- the sides of a triple as it is written

abbrev IsOneOf : ℕ → ℕ → ℕ → ℕ → ℕ → Type 0
IsOneOf a b c x y = ((a ≡ x) × (b ≡ y)) ⊎ ((b ≡ x) × (c ≡ y)) ⊎ ((c ≡ x) × (a ≡ y))

pub written_corner : (a b c : ℕ) → IsRotationOf (written a b c) a b c
written_corner a b c = first (nat_lt a b && nat_lt a c)
  where
    second : (q : Bool) → IsRotationOf (cond q (record { a = b; b = c; c = a }) (record { a = c; b = a; c = b })) a b c
    second true = inr (inr (refl, refl, refl))
    second false = inr (inl (refl, refl, refl))

    first : (p : Bool) → IsRotationOf (cond p (record { a = a; b = b; c = c }) (cond (nat_lt b a && nat_lt b c) (record { a = b; b = c; c = a }) (record { a = c; b = a; c = b }))) a b c
    first true = inl (refl, refl, refl)
    first false = second (nat_lt b a && nat_lt b c)

-- the sides of a triple with these corners
pub corner_sides : (t : Triangle) (a b c x y : ℕ) → IsRotationOf t a b c → HasSide t x y → IsOneOf a b c x y
corner_sides t a b c x y (inl h) (inl s) = inl (sym h.0 ∙ s.0, sym h.1 ∙ s.1)
corner_sides t a b c x y (inl h) (inr (inl s)) = inr (inl (sym h.1 ∙ s.0, sym h.2 ∙ s.1))
corner_sides t a b c x y (inl h) (inr (inr s)) = inr (inr (sym h.2 ∙ s.0, sym h.0 ∙ s.1))
corner_sides t a b c x y (inr (inl h)) (inl s) = inr (inr (sym h.2 ∙ s.0, sym h.0 ∙ s.1))
corner_sides t a b c x y (inr (inl h)) (inr (inl s)) = inl (sym h.0 ∙ s.0, sym h.1 ∙ s.1)
corner_sides t a b c x y (inr (inl h)) (inr (inr s)) = inr (inl (sym h.1 ∙ s.0, sym h.2 ∙ s.1))
corner_sides t a b c x y (inr (inr h)) (inl s) = inr (inl (sym h.1 ∙ s.0, sym h.2 ∙ s.1))
corner_sides t a b c x y (inr (inr h)) (inr (inl s)) = inr (inr (sym h.2 ∙ s.0, sym h.0 ∙ s.1))
corner_sides t a b c x y (inr (inr h)) (inr (inr s)) = inl (sym h.0 ∙ s.0, sym h.1 ∙ s.1)

pub sides_corner : (t : Triangle) (a b c x y : ℕ) → IsRotationOf t a b c → IsOneOf a b c x y → HasSide t x y
sides_corner t a b c x y (inl h) (inl s) = inl (h.0 ∙ s.0, h.1 ∙ s.1)
sides_corner t a b c x y (inl h) (inr (inl s)) = inr (inl (h.1 ∙ s.0, h.2 ∙ s.1))
sides_corner t a b c x y (inl h) (inr (inr s)) = inr (inr (h.2 ∙ s.0, h.0 ∙ s.1))
sides_corner t a b c x y (inr (inl h)) (inl s) = inr (inl (h.0 ∙ s.0, h.1 ∙ s.1))
sides_corner t a b c x y (inr (inl h)) (inr (inl s)) = inr (inr (h.1 ∙ s.0, h.2 ∙ s.1))
sides_corner t a b c x y (inr (inl h)) (inr (inr s)) = inl (h.2 ∙ s.0, h.0 ∙ s.1)
sides_corner t a b c x y (inr (inr h)) (inl s) = inr (inr (h.0 ∙ s.0, h.1 ∙ s.1))
sides_corner t a b c x y (inr (inr h)) (inr (inl s)) = inl (h.1 ∙ s.0, h.2 ∙ s.1)
sides_corner t a b c x y (inr (inr h)) (inr (inr s)) = inr (inl (h.2 ∙ s.0, h.0 ∙ s.1))

-- ---- what waits

-- D are the directed sides of a set; the triples rs are reached; fs waits
pub record Waits (D : ℕ → ℕ → Type 0) (rs : List Triangle) (fs : List (ℕ × ℕ)) : Type 0 where
  -- where the reverse of a step that waits is a side, it is reached
  pub sound : (x y : ℕ) → Contains fs (x, y) → D y x → IsSide rs y x
  -- a side that is not reached waits, once its reverse is reached, or is no side
  pub complete : (x y : ℕ) → D x y → ¬ (IsSide rs x y) → (D y x → IsSide rs y x) → Contains fs (x, y)

side_behind : (t : Triangle) (rs : List Triangle) (x y : ℕ) → IsSide rs x y → IsSide (t ∷ rs) x y
side_behind t rs x y s = (s.0, Contains-there s.0 t rs s.1, s.2)

side_front : (t : Triangle) (rs : List Triangle) (x y : ℕ) → HasSide t x y → IsSide (t ∷ rs) x y
side_front t rs x y s = (t, Contains-here t t rs refl, s)

side_cases : (t : Triangle) (rs : List Triangle) (x y : ℕ) → IsSide (t ∷ rs) x y → HasSide t x y ⊎ IsSide rs x y
side_cases t rs x y s =
    ⊎_elim (λ e. inl (let P : Triangle → Type 0 = λ u. HasSide u x y in subst P e s.2)) (λ k. inr (s.0, k, s.2)) (Contains-cases s.0 t rs s.1)

-- one turn of the walk keeps it
pub waits_next : (D : ℕ → ℕ → Type 0) (rs : List Triangle) (fs : List (ℕ × ℕ)) (a b c : ℕ) (t : Triangle) → IsRotationOf t a b c
    → Waits D rs ((a, b) ∷ fs) → Waits D (t ∷ rs) (after_side (c, a) (after_side (b, c) fs))
waits_next D rs fs a b c t corner w = record { sound = sound; complete = complete }
  where
    has : (x y : ℕ) → IsOneOf a b c x y → HasSide t x y
    has x y o = sides_corner t a b c x y corner o

    reached : (x y : ℕ) → IsOneOf a b c x y → IsSide (t ∷ rs) x y
    reached x y o = side_front t rs x y (has x y o)

    waiting : (x y : ℕ) → Contains fs (x, y) → D y x → IsSide rs y x
    waiting x y k d = w.sound x y (Contains-there (x, y) (a, b) fs k) d

    sound : (x y : ℕ) → Contains (after_side (c, a) (after_side (b, c) fs)) (x, y) → D y x → IsSide (t ∷ rs) y x
    sound x y k d =
        ⊎_elim
        (λ l. ⊎_elim (λ m. side_behind t rs y x (waiting x y m d)) (λ e. reached y x (inr (inl (ap (λ f. f.1) (sym e), ap (λ f. f.0) (sym e))))) (after_only (b, c) fs (x, y) l))
        (λ e. reached y x (inr (inr (ap (λ f. f.1) (sym e), ap (λ f. f.0) (sym e)))))
        (after_only (c, a) (after_side (b, c) fs) (x, y) k)

    complete : (x y : ℕ) → D x y → ¬ (IsSide (t ∷ rs) x y) → (D y x → IsSide (t ∷ rs) y x) → Contains (after_side (c, a) (after_side (b, c) fs)) (x, y)
    complete x y d n back = by (decide_side t y x)
      where
        fresh : ¬ (IsSide rs x y)
        fresh s = n (side_behind t rs x y s)

        other : (u v : ℕ) → IsOneOf a b c u v → (let e : ℕ × ℕ = (x, y) in let f : ℕ × ℕ = (u, v) in e ≢ f)
        other u v o e = n (reached x y (let P : ℕ × ℕ → Type 0 = λ f. IsOneOf a b c f.0 f.1 in subst P (sym e) o))

        kept : Contains (after_side (b, c) fs) (x, y) → Contains (after_side (c, a) (after_side (b, c) fs)) (x, y)
        kept k = after_keeps (c, a) (after_side (b, c) fs) (x, y) k (other c a (inr (inr (refl, refl))))

        pair : (u v : ℕ) → v ≡ x → u ≡ y → (let e : ℕ × ℕ = (v, u) in let f : ℕ × ℕ = (x, y) in e ≡ f)
        pair u v p q = λ i. (p i, q i)

        -- the reverse waited before this turn: then the side is reached, which it isn't
        never : (u v : ℕ) → u ≡ y → v ≡ x → Contains ((a, b) ∷ fs) (u, v) → ⊥
        never u v p q k =
            let k2 : Contains ((a, b) ∷ fs) (y, x) = (let P : ℕ × ℕ → Type 0 = λ f. Contains ((a, b) ∷ fs) f in subst P (λ i. (p i, q i)) k) in
            fresh (w.sound y x k2 d)

        of : HasSide t y x → IsOneOf a b c y x
        of s = corner_sides t a b c y x corner s

        turn : IsOneOf a b c y x → Contains (after_side (c, a) (after_side (b, c) fs)) (x, y)
        turn (inl s) = absurd (never a b s.0 s.1 (Contains-here (a, b) (a, b) fs refl))
        turn (inr (inl s)) =
            ⊎_elim (λ k. absurd (never b c s.0 s.1 (Contains-there (b, c) (a, b) fs k)))
            (λ k. kept (let P : ℕ × ℕ → Type 0 = λ f. Contains (after_side (b, c) fs) f in subst P (pair b c s.1 s.0) k))
            (after_adds (b, c) fs)
        turn (inr (inr s)) =
            ⊎_elim
            (λ k. ⊎_elim (λ l. absurd (never c a s.0 s.1 (Contains-there (c, a) (a, b) fs l)))
            (λ e. absurd (n (reached x y (inr (inl (ap (λ f. f.1) (sym e) ∙ s.1, s.0))))))
            (after_only (b, c) fs (c, a) k))
            (λ k. let P : ℕ × ℕ → Type 0 = λ f. Contains (after_side (c, a) (after_side (b, c) fs)) f in subst P (pair c a s.1 s.0) k)
            (after_adds (c, a) (after_side (b, c) fs))

        by : Decided (HasSide t y x) → Contains (after_side (c, a) (after_side (b, c) fs)) (x, y)
        by (inl s) = turn (of s)
        by (inr m) =
            let k = w.complete x y d fresh (λ e. ⊎_elim (λ s. absurd (m s)) (λ s. s) (side_cases t rs y x (back e))) in
            let l : Contains fs (x, y) = ⊎_elim (λ e. absurd (other a b (inl (refl, refl)) e)) (λ l. l) (Contains-cases (x, y) (a, b) fs k) in
            kept (after_keeps (b, c) fs (x, y) l (other b c (inr (inl (refl, refl)))))

-- ---- the whole walk

-- the triples in the order in which they are reached, the last first
abbrev pub onto : List Triangle → List Triangle → List Triangle
onto [] rs = rs
onto (t ∷ ts) rs = onto ts (t ∷ rs)

pub from_onto : (ts rs : List Triangle) (t : Triangle) → Contains (onto ts rs) t → Contains ts t ⊎ Contains rs t
from_onto [] rs t h = inr h
from_onto (u ∷ ts) rs t h =
    let go = from_onto ts (u ∷ rs) t in
    ⊎_elim (λ k. inl (Contains-there t u ts k)) (λ k. ⊎_elim (λ e. inl (Contains-here t u ts e)) (λ l. inr l) (Contains-cases t u rs k)) (go h)

pub in_onto : (ts rs : List Triangle) (t : Triangle) → Contains ts t ⊎ Contains rs t → Contains (onto ts rs) t
in_onto [] rs t h = ⊎_elim (λ k. Contains-none t k) (λ k. k) h
in_onto (u ∷ ts) rs t h =
    let go = in_onto ts (u ∷ rs) t in
    go (⊎_elim (λ k. ⊎_elim (λ e. inr (Contains-here t u rs e)) (λ l. inl l) (Contains-cases t u ts k)) (λ k. inr (Contains-there t u rs k)) h)

pub walk_invariant : (D : ℕ → ℕ → Type 0) (word : List ℕ) (fs : List (ℕ × ℕ)) (ts rs : List Triangle) → Closes fs word ts → Waits D rs fs → Waits D (onto ts rs) []
walk_invariant D [] [] [] rs h w = w
walk_invariant D [] [] (t ∷ ts) rs h w = absurd h
walk_invariant D [] ((a, b) ∷ fs) ts rs h w = absurd h
walk_invariant D (c ∷ word) [] ts rs h w = absurd h
walk_invariant D (c ∷ word) ((a, b) ∷ fs) [] rs h w = absurd h
walk_invariant D (c ∷ word) ((a, b) ∷ fs) (t ∷ ts) rs h w =
    let corner : IsRotationOf t a b c = (let P : Triangle → Type 0 = λ u. IsRotationOf u a b c in subst P (sym h.0) (written_corner a b c)) in
    walk_invariant D word (after_side (c, a) (after_side (b, c) fs)) ts (t ∷ rs) h.1 (waits_next D rs fs a b c t corner w)

-- at the start the boundary steps wait
pub waits_first : (h : Patch) (us : List Triangle) (steps : List (ℕ × ℕ)) → IsFine h us → AreSteps h steps → Waits (IsSide us) [] steps
waits_first h us steps fine are = record {
  sound = λ x y k d. let s : IsStep h x y = All-contains (λ e. IsStep h e.0 e.1) steps (x, y) are.sound k in absurd (((fine.edge x y).1 s).1 d);
  complete = λ x y d n back. are.complete (x, y) ((fine.edge x y).0 (d, λ e. let s = back e in Contains-none s.0 s.1));
}

-- at the end each side that isn't reached has a reverse that isn't reached
pub left_paired : (us rs : List Triangle) → Waits (IsSide us) rs [] → (x y : ℕ) → IsSide us x y → ¬ (IsSide rs x y) → IsSide us y x × ¬ (IsSide rs y x)
left_paired us rs w x y d n = by (decide_is_side us y x) (decide_is_side rs y x)
  where
    by : Decided (IsSide us y x) → Decided (IsSide rs y x) → IsSide us y x × ¬ (IsSide rs y x)
    by (inl e) (inr m) = (e, m)
    by p (inl s) = Contains-none (x, y) (w.complete x y d n (λ e. s))
    by (inr m) q = Contains-none (x, y) (w.complete x y d n (λ e. absurd (m e)))

-- the triples of us that are not in ts
record AreLeft (ts us vs : List Triangle) : Type 0 where
  within : (v : Triangle) → Contains vs v → Contains us v
  missing : (v : Triangle) → Contains vs v → ¬ (IsTripleOf ts v)
  covers : (u : Triangle) → Contains us u → IsTripleOf ts u ⊎ Contains vs u

left_of : (ts us : List Triangle) → (vs : List Triangle) × AreLeft ts us vs
left_of ts [] = ([], record { within = λ v k. k; missing = λ v k. Contains-none v k; covers = λ u k. Contains-none u k })
left_of ts (u ∷ us) = by (decide_triple_of ts u) (left_of ts us)
  where
    by : Decided (IsTripleOf ts u) → (vs : List Triangle) × AreLeft ts us vs → (vs : List Triangle) × AreLeft ts (u ∷ us) vs
    by (inl y) (vs, r) = (
      vs,
      record {
        within = λ v k. Contains-there v u us (r.within v k);
        missing = r.missing;
        covers = λ v k. ⊎_elim (λ e. inl (let P : Triangle → Type 0 = λ x. IsTripleOf ts x in subst P (sym e) y)) (λ l. r.covers v l) (Contains-cases v u us k);
      },
    )
    by (inr n) (vs, r) = (
      u ∷ vs,
      record {
        within = λ v k. ⊎_elim (λ e. Contains-here v u us e) (λ l. Contains-there v u us (r.within v l)) (Contains-cases v u vs k);
        missing = λ v k. ⊎_elim (λ e m. n (let P : Triangle → Type 0 = λ x. IsTripleOf ts x in subst P e m)) (λ l. r.missing v l) (Contains-cases v u vs k);
        covers = λ v k. ⊎_elim (λ e. inr (Contains-here v u vs e)) (λ l. ⊎_elim (λ m. inl m) (λ m. inr (Contains-there v u vs m)) (r.covers v l)) (Contains-cases v u us k);
      },
    )

-- The walk reaches every triple: where each of its triples is in the fine set, each triple of the set is one of its triples.
pub walk_reaches : (h : Patch) (us : List Triangle) (steps : List (ℕ × ℕ)) (word : List ℕ) (ts : List Triangle) → IsFine h us → AreSteps h steps → Closes steps word ts
    → ((t : Triangle) → Contains ts t → IsTripleOf us t) → (u : Triangle) → Contains us u → IsTripleOf ts u
walk_reaches h us steps word ts fine are closes of u k = by (left_of ts us)
  where
    w : Waits (IsSide us) (onto ts []) []
    w = walk_invariant (IsSide us) word steps ts [] closes (waits_first h us steps fine are)

    from : (x y : ℕ) → IsSide (onto ts []) x y → IsSide ts x y
    from x y s = (s.0, ⊎_elim (λ l. l) (λ l. Contains-none s.0 l) (from_onto ts [] s.0 s.1), s.2)

    to : (x y : ℕ) → IsSide ts x y → IsSide (onto ts []) x y
    to x y s = (s.0, in_onto ts [] s.0 (inl s.1), s.2)

    -- a triple of the set with a side that is reached is reached
    fixed : (v : Triangle) → Contains us v → (x y : ℕ) → HasSide v x y → IsSide ts x y → IsTripleOf ts v
    fixed v l x y s r =
        let o = of r.0 r.1 in
        let m = side_same o.0 r.0 x y o.2 r.2 in
        (r.0, r.1, corner_same r.0 o.0 v.a v.b v.c (same_back o.0 r.0 o.2) (fine.once o.0 v o.1 l x y m s))

    by : (vs : List Triangle) × AreLeft ts us vs → IsTripleOf ts u
    by (vs, r) =
        let paired : (x y : ℕ) → IsSide vs x y → IsSide vs y x = (λ x y s.
        let p = left_paired us (onto ts []) w x y (s.0, r.within s.0 s.1, s.2) (λ m. r.missing s.0 s.1 (fixed s.0 (r.within s.0 s.1) x y s.2 (from x y m))) in
        let q = p.0 in
        ⊎_elim (λ m. absurd (p.1 (to y x (side_of_triple_of ts q.0 y x m q.2)))) (λ m. (q.0, m, q.2)) (r.covers q.0 q.1)) in
        let none = none_paired (axes h) (place h) vs (λ v l. (fine.unit v (r.within v l)).left) (λ v x l m. fine.once v x (r.within v l) (r.within x m)) paired in
        ⊎_elim (λ m. m) (λ m. Contains-none u (let P : List Triangle → Type 0 = λ xs. Contains xs u in subst P none m)) (r.covers u k)
