-- How the first word is found, from the words that begin with one number.
use Rattle.std.proofs.Common.{◌≡◌, ℕ, zero, suc, ◌<◌, ◌⊎◌, inl, inr, ⊎_elim, Bool, true, false, cond, refl, sym, ◌∙◌, subst, arith, List, [], ◌∷◌, ◌++◌, take, length, get_or, Option, Some, None, append_assoc, append-nil, ◌&&◌, nat_lt}
use Rattle.std.specs.Prelude.{All, AllPairs, Contains}
use Rattle.std.specs.Ordering.{nat_cmp, ordering_then}
use Rattle.std.specs.declared.cmp.Ordering.{Ordering}
use Rattle.std.specs.declared.cmp.Ordering.TheVariants.{Less, Equal, Greater}
use Rattle.std.specs.Cmp.{ranked}
use Rattle.std.specs.Cmp.Lexicographic.{slice_cmp}
use Rattle.std.proofs.lemmas.List.Elements.{All-contains}
use Rattle.ntfe_model.specs.Lists.{IsBelow}
use Rattle.ntfe_model.specs.Charts.{Patch, IsOf, IsUnit}
use Rattle.ntfe_model.specs.Words.{after_side, written}
use Rattle.ntfe_model.specs.declared.triangle.Triangle.{Triangle}
use Rattle.ntfe_model.proofs.Listings.{Contains-here, Contains-there, Contains-cases, Contains-none, AllPairs-head, AllPairs-tail, All-from_contains}
use Rattle.ntfe_model.proofs.Orders.{three_ways, below_once}
use Rattle.face_chart.proofs.Walk.{after_only, written_corner}
use Rattle.ntfe_model.proofs.Folds.{unit_corner}
use Rattle.fine_stream.specs.Paths.{AreOf, IsPart, Completes}
use Rattle.fine_stream.specs.Found.{IsAfter, BeginsAfter, BeginsWith, IsFirst, HasNone}
use Rattle.fine_stream.proofs.Parts.{part_left}

-- ---- the order of words

pub below_empty : (v : List ℕ) → IsBelow v [] → ⊥
below_empty [] p = cc
below_empty (x ∷ xs) p = cc

pub below_cons : (x y : ℕ) (xs ys : List ℕ) → IsBelow (x ∷ xs) (y ∷ ys) → (x < y) ⊎ ((x ≡ y) × IsBelow xs ys)
below_cons x y xs ys p = by (nat_cmp x y) refl p
  where
    by : (r : Ordering) → r ≡ nat_cmp x y → ordering_then r (slice_cmp nat_cmp xs ys) ≡ Less → (x < y) ⊎ ((x ≡ y) × IsBelow xs ys)
    by Less q f = inl (ranked x y Less q)
    by Equal q f = inr (ranked x y Equal q, f)
    by Greater q f = cc

pub below_same : (c : ℕ) (v w : List ℕ) → IsBelow (c ∷ v) (c ∷ w) → IsBelow v w
below_same c v w p = ⊎_elim (λ l. absurd (omega (arith, l))) (λ q. q.1) (below_cons c c v w p)

tail_same : (x y : ℕ) (xs ys : List ℕ) → x ∷ xs ≡ y ∷ ys → (x ≡ y) × (xs ≡ ys)
tail_same x y xs ys e = (cc, cc)

pub same_below : (c : ℕ) (v w : List ℕ) → IsBelow v w → IsBelow (c ∷ v) (c ∷ w)
same_below c v w p = by (three_ways (c ∷ v) (c ∷ w))
  where
    by : IsBelow (c ∷ v) (c ∷ w) ⊎ ((c ∷ v ≡ c ∷ w) ⊎ IsBelow (c ∷ w) (c ∷ v)) → IsBelow (c ∷ v) (c ∷ w)
    by (inl q) = q
    by (inr (inl e)) = let f = (tail_same c c v w e).1 in let P : List ℕ → Type 0 = λ z. IsBelow z w in let q : IsBelow w w = subst P f p in absurd (below_once w w q q)
    by (inr (inr q)) = absurd (below_once v w p (below_same c w v q))

pub head_below : (x y : ℕ) (xs ys : List ℕ) → x < y → IsBelow (x ∷ xs) (y ∷ ys)
head_below x y xs ys p = by (three_ways (x ∷ xs) (y ∷ ys))
  where
    by : IsBelow (x ∷ xs) (y ∷ ys) ⊎ ((x ∷ xs ≡ y ∷ ys) ⊎ IsBelow (y ∷ ys) (x ∷ xs)) → IsBelow (x ∷ xs) (y ∷ ys)
    by (inl q) = q
    by (inr (inl e)) = let f = (tail_same x y xs ys e).0 in absurd (omega (arith, f, p))
    by (inr (inr q)) = ⊎_elim (λ l. absurd (omega (arith, l, p))) (λ e. let f = e.0 in absurd (omega (arith, f, p))) (below_cons y x ys xs q)

-- ---- one step of a word

-- the steps that wait after the first one is closed
abbrev pub closed : ℕ → ℕ → ℕ → List (ℕ × ℕ) → List (ℕ × ℕ)
closed a b c fs = after_side (c, a) (after_side (b, c) fs)

part_moved : (h : Patch) (ts us : List Triangle) (u t : Triangle) → u ≡ t → IsPart h (ts ++ u ∷ us) → IsPart h ((ts ++ t ∷ []) ++ us)
part_moved h ts us u t e p =
    let P : Triangle → Type 0 = λ v. IsPart h (ts ++ v ∷ us) in let Q : List Triangle → Type 0 = λ vs. IsPart h vs in subst Q (sym (append_assoc ts (t ∷ []) us)) (subst P e p)

part_back : (h : Patch) (ts us : List Triangle) (t : Triangle) → IsPart h ((ts ++ t ∷ []) ++ us) → IsPart h (ts ++ t ∷ us)
part_back h ts us t p = let Q : List Triangle → Type 0 = λ vs. IsPart h vs in subst Q (append_assoc ts (t ∷ []) us) p

pub completes_rest : (h : Patch) (ts : List Triangle) (a b c : ℕ) (fs : List (ℕ × ℕ)) (v : List ℕ) (u : Triangle) (us : List Triangle) → Completes h ts ((a, b) ∷ fs) (c ∷ v) (u ∷ us)
    → Completes h (ts ++ written a b c ∷ []) (closed a b c fs) v us
completes_rest h ts a b c fs v u us k = record { closes = k.closes.1; part = part_moved h ts us u (written a b c) k.closes.0 k.part }

pub completes_more : (h : Patch) (ts : List Triangle) (a b c : ℕ) (fs : List (ℕ × ℕ)) (v : List ℕ) (us : List Triangle) → Completes h (ts ++ written a b c ∷ []) (closed a b c fs) v us
    → Completes h ts ((a, b) ∷ fs) (c ∷ v) (written a b c ∷ us)
completes_more h ts a b c fs v us k = record { closes = (refl, k.closes); part = part_back h ts us (written a b c) k.part }

-- the first number of a word fits
pub completes_fits : (h : Patch) (ts : List Triangle) (a b c : ℕ) (fs : List (ℕ × ℕ)) (v : List ℕ) (vs : List Triangle) → Completes h ts ((a, b) ∷ fs) (c ∷ v) vs
    → IsPart h (ts ++ written a b c ∷ [])
completes_fits h ts a b c fs v [] k = absurd k.closes
completes_fits h ts a b c fs v (u ∷ us) k = part_left h (ts ++ written a b c ∷ []) us (completes_rest h ts a b c fs v u us k).part

pub fits_unit : (h : Patch) (ts : List Triangle) (a b c : ℕ) → IsPart h (ts ++ written a b c ∷ []) → IsUnit h a b c
fits_unit h ts a b c p =
    unit_corner h (written a b c) a b c (All-contains (λ t. IsUnit h t.a t.b t.c) (ts ++ written a b c ∷ []) (written a b c) p.unit (in_last ts (written a b c))) (written_corner a b c)
  where
    in_last : (us : List Triangle) (t : Triangle) → Contains (us ++ t ∷ []) t
    in_last [] t = Contains-here t t [] refl
    in_last (u ∷ us) t = Contains-there t u (us ++ t ∷ []) (in_last us t)

pub begins_any : (v : List ℕ) → BeginsAfter None v
begins_any [] = tt
begins_any (c ∷ v) = tt

pub first_empty : (h : Patch) (ts : List Triangle) (P : List ℕ → Type 0) → IsPart h ts → P [] → IsFirst h ts [] P [] []
first_empty h ts P p q = record {
  completes = record { closes = tt; part = let Q : List Triangle → Type 0 = λ vs. IsPart h vs in subst Q (sym (append-nil ts)) p };
  has = q;
  first = λ v vs k r l. below_empty v l;
}

module _ (h : Patch) (ts : List Triangle) (a b c : ℕ) (fs : List (ℕ × ℕ)) where
  -- a word with a first number c goes on from the triple with c
  rest_with : (d : ℕ) (v : List ℕ) (u : Triangle) (us : List Triangle) → d ≡ c → Completes h ts ((a, b) ∷ fs) (d ∷ v) (u ∷ us) → Completes h (ts ++ written a b c ∷ []) (closed a b c fs) v us
  rest_with d v u us e k =
      let P : ℕ → Type 0 = λ z. Completes h (ts ++ written a b z ∷ []) (closed a b z fs) v us in subst P e (completes_rest h ts a b d fs v u us k)

  below_with : (d : ℕ) (v w : List ℕ) → d ≡ c → IsBelow (d ∷ v) (c ∷ w) → IsBelow v w
  below_with d v w e l = let P : ℕ → Type 0 = λ z. IsBelow (z ∷ v) (c ∷ w) in below_same c v w (subst P e l)

  pub with_found : (limit : Option ℕ) (w : List ℕ) (us : List Triangle) → IsAfter limit c → IsFirst h (ts ++ written a b c ∷ []) (closed a b c fs) (BeginsAfter None) w us
      → IsFirst h ts ((a, b) ∷ fs) (BeginsWith limit c) (c ∷ w) (written a b c ∷ us)
  with_found limit w us after f = record { completes = completes_more h ts a b c fs w us f.completes; has = (refl, after); first = first }
    where
      first : (v : List ℕ) (vs : List Triangle) → Completes h ts ((a, b) ∷ fs) v vs → BeginsWith limit c v → ¬ (IsBelow v (c ∷ w))
      first [] vs k p l = absurd p
      first (d ∷ v) [] k p l = absurd k.closes
      first (d ∷ v) (u ∷ vs) k p l = f.first v vs (rest_with d v u vs p.0 k) (begins_any v) (below_with d v w p.0 l)

  pub with_none : (limit : Option ℕ) → HasNone h (ts ++ written a b c ∷ []) (closed a b c fs) (BeginsAfter None) → HasNone h ts ((a, b) ∷ fs) (BeginsWith limit c)
  with_none limit n [] vs k p = absurd p
  with_none limit n (d ∷ v) [] k p = absurd k.closes
  with_none limit n (d ∷ v) (u ∷ vs) k p = n v vs (rest_with d v u vs p.0 k) (begins_any v)

  -- ---- after a last word

  pub next_found : (l w : List ℕ) (us : List Triangle) → IsFirst h (ts ++ written a b c ∷ []) (closed a b c fs) (IsBelow l) w us
      → IsFirst h ts ((a, b) ∷ fs) (IsBelow (c ∷ l)) (c ∷ w) (written a b c ∷ us)
  next_found l w us f = record { completes = completes_more h ts a b c fs w us f.completes; has = same_below c l w f.has; first = first }
    where
      by : (d : ℕ) (v : List ℕ) (u : Triangle) (vs : List Triangle) → Completes h ts ((a, b) ∷ fs) (d ∷ v) (u ∷ vs) → (c < d) ⊎ ((c ≡ d) × IsBelow l v) → (d < c) ⊎ ((d ≡ c) × IsBelow v w) → ⊥
      by d v u vs k (inl p) (inl q) = absurd (omega arith)
      by d v u vs k (inl p) (inr q) = let e = q.0 in absurd (omega arith)
      by d v u vs k (inr p) (inl q) = let e = p.0 in absurd (omega arith)
      by d v u vs k (inr p) (inr q) = f.first v vs (rest_with d v u vs q.0 k) p.1 q.1

      first : (v : List ℕ) (vs : List Triangle) → Completes h ts ((a, b) ∷ fs) v vs → IsBelow (c ∷ l) v → ¬ (IsBelow v (c ∷ w))
      first [] vs k p q = absurd (below_empty (c ∷ l) p)
      first (d ∷ v) [] k p q = absurd k.closes
      first (d ∷ v) (u ∷ vs) k p q = by d v u vs k (below_cons c d l v p) (below_cons d c v w q)

  pub next_later : (l w : List ℕ) (us : List Triangle) → HasNone h (ts ++ written a b c ∷ []) (closed a b c fs) (IsBelow l) → IsFirst h ts ((a, b) ∷ fs) (BeginsAfter (Some c)) w us
      → IsFirst h ts ((a, b) ∷ fs) (IsBelow (c ∷ l)) w us
  next_later l w us n f = record { completes = f.completes; has = has w us f.completes f.has; first = first }
    where
      has : (v : List ℕ) (vs : List Triangle) → Completes h ts ((a, b) ∷ fs) v vs → BeginsAfter (Some c) v → IsBelow (c ∷ l) v
      has [] vs k p = absurd k.closes
      has (d ∷ v) vs k p = head_below c d l v p

      by : (d : ℕ) (v : List ℕ) (u : Triangle) (vs : List Triangle) → Completes h ts ((a, b) ∷ fs) (d ∷ v) (u ∷ vs) → (c < d) ⊎ ((c ≡ d) × IsBelow l v) → IsBelow (d ∷ v) w → ⊥
      by d v u vs k (inl p) q = f.first (d ∷ v) (u ∷ vs) k p q
      by d v u vs k (inr p) q = n v vs (rest_with d v u vs (sym p.0) k) p.1

      first : (v : List ℕ) (vs : List Triangle) → Completes h ts ((a, b) ∷ fs) v vs → IsBelow (c ∷ l) v → ¬ (IsBelow v w)
      first [] vs k p q = absurd (below_empty (c ∷ l) p)
      first (d ∷ v) [] k p q = absurd k.closes
      first (d ∷ v) (u ∷ vs) k p q = by d v u vs k (below_cons c d l v p) q

  pub next_none : (l : List ℕ) → HasNone h (ts ++ written a b c ∷ []) (closed a b c fs) (IsBelow l) → HasNone h ts ((a, b) ∷ fs) (BeginsAfter (Some c))
      → HasNone h ts ((a, b) ∷ fs) (IsBelow (c ∷ l))
  next_none l n m [] vs k p = absurd (below_empty (c ∷ l) p)
  next_none l n m (d ∷ v) [] k p = absurd k.closes
  next_none l n m (d ∷ v) (u ∷ vs) k p =
      ⊎_elim (λ q. m (d ∷ v) (u ∷ vs) k q) (λ q. n v vs (rest_with d v u vs (sym q.0) k) q.1) (below_cons c d l v p)

-- ---- all numbers in turn

lower_taken : (ks : List ℕ) (i d : ℕ) → AllPairs (λ j k. j < k) ks → i < length ks → Contains ks d → d < get_or ks i 0 → Contains (take i ks) d
lower_taken [] i d o l k m = Contains-none d k
lower_taken (x ∷ xs) zero d o l k m =
    ⊎_elim (λ e. absurd (omega (arith, e, m))) (λ n. (let q : x < d = All-contains (λ y. x < y) xs d (AllPairs-head (λ j z. j < z) x xs o) n in absurd (omega arith))) (Contains-cases d x xs k)
lower_taken (x ∷ xs) (suc i) d o l k m =
    let go = lower_taken xs i d (AllPairs-tail (λ j z. j < z) x xs o) (omega arith) in
    ⊎_elim (λ e. Contains-here d x (take i xs) e) (λ n. Contains-there d x (take i xs) (go n m)) (Contains-cases d x xs k)

unit_of : (h : Patch) (ts : List Triangle) (a b d : ℕ) (fs : List (ℕ × ℕ)) (v : List ℕ) (vs : List Triangle) → Completes h ts ((a, b) ∷ fs) (d ∷ v) vs → IsUnit h a b d
unit_of h ts a b d fs v vs k = fits_unit h ts a b d (completes_fits h ts a b d fs v vs k)

pub turn_found : (h : Patch) (ts : List Triangle) (a b : ℕ) (fs : List (ℕ × ℕ)) (limit : Option ℕ) (ks : List ℕ) (i c : ℕ) (w : List ℕ) (us : List Triangle)
    → ((d : ℕ) → IsUnit h a b d → Contains ks d) → AllPairs (λ j k. j < k) ks → i < length ks → c ≡ get_or ks i 0
    → All (λ d. HasNone h ts ((a, b) ∷ fs) (BeginsWith limit d)) (take i ks)
    → IsFirst h ts ((a, b) ∷ fs) (BeginsWith limit c) w us → IsFirst h ts ((a, b) ∷ fs) (BeginsAfter limit) w us
turn_found h ts a b fs limit ks i c w us complete o l e none f = record { completes = f.completes; has = has w f.has; first = first }
  where
    has : (x : List ℕ) → BeginsWith limit c x → BeginsAfter limit x
    has [] p = absurd p
    has (d ∷ x) p = let P : ℕ → Type 0 = λ z. IsAfter limit z in subst P (sym p.0) p.1

    lower : (d : ℕ) (v : List ℕ) (vs : List Triangle) → Completes h ts ((a, b) ∷ fs) (d ∷ v) vs → IsAfter limit d → d < c → ⊥
    lower d v vs k p q =
        let m = complete d (unit_of h ts a b d fs v vs k) in
        let r : d < get_or ks i 0 = (let R : ℕ → Type 0 = λ z. d < z in subst R e q) in
        All-contains (λ z. HasNone h ts ((a, b) ∷ fs) (BeginsWith limit z)) (take i ks) d none (lower_taken ks i d o l m r) (d ∷ v) vs k (refl, p)

    by : (x : List ℕ) → BeginsWith limit c x → (d : ℕ) (v : List ℕ) → IsBelow (d ∷ v) x → ((d < c) ⊎ (d ≡ c)) × IsAfter limit c
    by [] q d v m = absurd q
    by (y ∷ x) q d v m =
        (⊎_elim (λ n. inl (let R : ℕ → Type 0 = λ z. d < z in subst R q.0 n)) (λ n. inr (n.0 ∙ q.0)) (below_cons d y v x m), q.1)

    first : (v : List ℕ) (vs : List Triangle) → Completes h ts ((a, b) ∷ fs) v vs → BeginsAfter limit v → ¬ (IsBelow v w)
    first [] vs k p q = absurd k.closes
    first (d ∷ v) vs k p q = let r = by w f.has d v q in ⊎_elim (λ n. lower d v vs k p n) (λ n. f.first (d ∷ v) vs k (n, r.1) q) r.0

pub turn_none : (h : Patch) (ts : List Triangle) (a b : ℕ) (fs : List (ℕ × ℕ)) (limit : Option ℕ) (ks : List ℕ) → ((d : ℕ) → IsUnit h a b d → Contains ks d)
    → All (λ d. HasNone h ts ((a, b) ∷ fs) (BeginsWith limit d)) ks → HasNone h ts ((a, b) ∷ fs) (BeginsAfter limit)
turn_none h ts a b fs limit ks complete none [] vs k p = absurd k.closes
turn_none h ts a b fs limit ks complete none (d ∷ v) vs k p =
    All-contains (λ z. HasNone h ts ((a, b) ∷ fs) (BeginsWith limit z)) ks d none (complete d (unit_of h ts a b d fs v vs k)) (d ∷ v) vs k (refl, p)

-- a number that does not fit, or does not come after the limit
pub none_fitting : (h : Patch) (ts : List Triangle) (a b c : ℕ) (fs : List (ℕ × ℕ)) (limit : Option ℕ) → ¬ (IsPart h (ts ++ written a b c ∷ [])) → HasNone h ts ((a, b) ∷ fs) (BeginsWith limit c)
none_fitting h ts a b c fs limit n [] vs k p = absurd p
none_fitting h ts a b c fs limit n (d ∷ v) vs k p =
    let P : ℕ → Type 0 = λ z. IsPart h (ts ++ written a b z ∷ []) in n (subst P p.0 (completes_fits h ts a b d fs v vs k))

pub none_after : (h : Patch) (ts : List Triangle) (steps : List (ℕ × ℕ)) (limit : Option ℕ) (c : ℕ) → ¬ (IsAfter limit c) → HasNone h ts steps (BeginsWith limit c)
none_after h ts steps limit c n [] vs k p = absurd p
none_after h ts steps limit c n (d ∷ v) vs k p = n p.1

-- ---- points

pub written_of : (P : ℕ → Type 0) (a b c : ℕ) → P a → P b → P c → P (written a b c).a × P (written a b c).b × P (written a b c).c
written_of P a b c p q r = first (nat_lt a b && nat_lt a c)
  where
    Three : Triangle → Type 0
    Three t = P t.a × P t.b × P t.c

    second : (s : Bool) → (let t : Triangle = cond s (record { a = b; b = c; c = a }) (record { a = c; b = a; c = b }) in P t.a × P t.b × P t.c)
    second true = (q, r, p)
    second false = (r, p, q)

    first : (s : Bool) → (let t : Triangle = cond s (record { a = a; b = b; c = c }) (cond (nat_lt b a && nat_lt b c) (record { a = b; b = c; c = a }) (record { a = c; b = a; c = b })) in P t.a × P t.b × P t.c)
    first true = (p, q, r)
    first false = second (nat_lt b a && nat_lt b c)

side_of : (h : Patch) (e : ℕ × ℕ) (fs : List (ℕ × ℕ)) → IsOf h e.0 → IsOf h e.1 → AreOf h fs → AreOf h (after_side e fs)
side_of h e fs p q all =
    All-from_contains (λ g. IsOf h g.0 × IsOf h g.1) (after_side e fs) (λ g k.
    ⊎_elim (λ l. All-contains (λ g. IsOf h g.0 × IsOf h g.1) fs g all l)
    (λ m. let P : ℕ × ℕ → Type 0 = λ z. IsOf h z.0 × IsOf h z.1 in subst P (sym m) (q, p)) (after_only e fs g k))

pub closed_of : (h : Patch) (a b c : ℕ) (fs : List (ℕ × ℕ)) → AreOf h ((a, b) ∷ fs) → IsOf h c → AreOf h (closed a b c fs)
closed_of h a b c fs all o =
    let here : IsOf h a × IsOf h b = All-contains (λ g. IsOf h g.0 × IsOf h g.1) ((a, b) ∷ fs) (a, b) all (Contains-here (a, b) (a, b) fs refl) in
    let rest : AreOf h fs = All-from_contains (λ g. IsOf h g.0 × IsOf h g.1) fs (λ g k. All-contains (λ g. IsOf h g.0 × IsOf h g.1) ((a, b) ∷ fs) g all (Contains-there g (a, b) fs k)) in
    side_of h (c, a) (after_side (b, c) fs) o here.0 (side_of h (b, c) fs here.1 o rest)
