-- What the calls of the search add to the path.
use Rattle.std.proofs.Common.{◌≡◌, ℕ, zero, suc, ◌+◌, ◌-◌, ◌*◌, ◌<◌, ◌≤◌, Bool, true, false, refl, sym, ap, ◌∙◌, subst, arith, List, [], ◌∷◌, ◌++◌, take, drop, length, get_or, Option, None, append_assoc, append-nil, map}
use Rattle.std.specs.Prelude.{All, AllPairs, Contains, MatchBool}
use Rattle.std.proofs.Math.Seq.{drop-append_seam, take-append_seam, drop-length}
use Rattle.std.proofs.lemmas.List.{take_all, get_or_read}
use Rattle.std.proofs.lemmas.List.Elements.{All-contains, All-more, All-same, Contains-get_or}
use Rattle.ntfe_model.specs.Charts.{Patch, IsOf, IsUnit}
use Rattle.ntfe_model.specs.Words.{written}
use Rattle.ntfe_model.specs.declared.triangle.Triangle.{Triangle}
use Rattle.fine_stream.specs.Paths.{AreOf, IsPart}
use Rattle.fine_stream.specs.Kept.{Keeps, waiting_after, closing, closed_with}
use Rattle.fine_stream.specs.Found.{IsAfter, BeginsAfter, BeginsWith, IsFirst, HasNone, Adds, AddsNone}
use Rattle.fine_stream.specs.Places.{IsPlaceOf, AreCandidates, AreTables}
use Rattle.fine_stream.specs.declared.path.Path.{Path}
use Rattle.fine_stream.specs.declared.tables.Candidate.{Candidate}
use Rattle.fine_stream.specs.declared.tables.Tables.{Tables}
use Rattle.fine_stream.proofs.Searches.{closed, first_empty, with_found, with_none, turn_found, turn_none, none_fitting, none_after, written_of, closed_of}

pub when_true : (b : Bool) (P Q : Type 0) → b ≡ true → MatchBool b P Q → P
when_true true P Q e m = m
when_true false P Q e m = cc

pub when_false : (b : Bool) (P Q : Type 0) → b ≡ false → MatchBool b P Q → Q
when_false true P Q e m = cc
when_false false P Q e m = m

-- the first of the steps
abbrev pub first_step : List (ℕ × ℕ) → ℕ × ℕ
first_step steps = get_or steps 0 (0, 0)

abbrev pub rest_of : List (ℕ × ℕ) → List (ℕ × ℕ)
rest_of [] = []
rest_of (e ∷ steps) = steps

-- what holds of triples and steps holds of the same ones
carried : (F : List Triangle → List (ℕ × ℕ) → Type 0) (us vs : List Triangle) (es fs : List (ℕ × ℕ)) → us ≡ vs → es ≡ fs → F us es → F vs fs
carried F us vs es fs p q x = let A : List Triangle → Type 0 = λ ws. F ws es in let B : List (ℕ × ℕ) → Type 0 = λ gs. F vs gs in subst B q (subst A p x)

-- what a path keeps, one with the same lists keeps
pub keeps_same : (root : List (ℕ × ℕ)) (r : List ℕ) (p q : Path) → Keeps root r p → q.word.items ≡ p.word.items → q.triangles.items ≡ p.triangles.items → q.steps.items ≡ p.steps.items
    → q.starts.items ≡ p.starts.items → Keeps root r q
keeps_same root r p q k w t f s = record { word = w ∙ k.word; all = t ∙ k.all; waiting = f ∙ k.waiting; starts = s ∙ k.starts; closes = k.closes }

-- ---- all numbers in turn

-- the numbers before place i lead to no word, and the path is as it was
pub record IsTurning (h : Patch) (steps : List (ℕ × ℕ)) (limit : Option ℕ) (ks : List ℕ) (i : ℕ) (before now : Path) : Type 0 where
  pub words : now.word.items ≡ before.word.items
  pub all : now.triangles.items ≡ before.triangles.items
  pub waiting : now.steps.items ≡ before.steps.items
  pub starts : now.starts.items ≡ before.starts.items
  pub none : All (λ d. HasNone h before.triangles.items steps (BeginsWith limit d)) (take i ks)

-- the steps from a place on
pub none_left : (steps : List (ℕ × ℕ)) (n : ℕ) → n ≡ length steps → drop n steps ≡ []
none_left steps n e = ap (λ k. drop k steps) e ∙ drop-length steps

pub some_left : (steps : List (ℕ × ℕ)) (n : ℕ) → n < length steps → 0 < length (drop n steps)
some_left [] n l = absurd (omega (arith, l))
some_left (x ∷ steps) zero l = omega arith
some_left (x ∷ steps) (suc n) l = some_left steps n (omega arith)

pub first_left : (steps : List (ℕ × ℕ)) (n : ℕ) → get_or steps n (0, 0) ≡ first_step (drop n steps)
first_left [] zero = refl
first_left [] (suc n) = refl
first_left (x ∷ steps) zero = refl
first_left (x ∷ steps) (suc n) = first_left steps n

pub written_left : (steps : List (ℕ × ℕ)) (n c : ℕ) (t : Triangle) (e : ℕ × ℕ) → n < length steps → e ≡ get_or steps n e → t ≡ written e.0 e.1 c
    → t ≡ written (first_step (drop n steps)).0 (first_step (drop n steps)).1 c
written_left steps n c t e l r w = w ∙ ap (λ p. written p.0 p.1 c) (get_or_read steps n e l r (0, 0) ∙ first_left steps n)

drop_front : (es fs : List (ℕ × ℕ)) (n : ℕ) → n ≡ length es → drop n (es ++ fs) ≡ fs
drop_front es fs n e = ap (λ k. drop k (es ++ fs)) e ∙ drop-append_seam es fs

take_front : (es fs : List (ℕ × ℕ)) (n : ℕ) → n ≡ length es → take n (es ++ fs) ≡ es
take_front es fs n e = ap (λ k. take k (es ++ fs)) e ∙ take-append_seam es fs

pub within_longer : (es fs gs : List (ℕ × ℕ)) (n : ℕ) → n ≡ length es → gs ≡ es ++ fs → n ≤ length gs
within_longer es fs gs n e f = (let l = ap length f in let m = longer es in omega arith)
  where
    longer : (hs : List (ℕ × ℕ)) → length hs ≤ length (hs ++ fs)
    longer [] = omega arith
    longer (x ∷ hs) = let r = longer hs in omega arith

pub adds_empty : (h : Patch) (steps : List (ℕ × ℕ)) (limit : Option ℕ) (before : Path) → steps ≡ [] → IsPart h before.triangles.items
    → Adds h steps (BeginsAfter limit) before before
adds_empty h steps limit before e p =
    let P : List (ℕ × ℕ) → Type 0 = λ es. Adds h es (BeginsAfter limit) before before in
    subst P (sym e) (record {
      word = [];
      triangles = [];
      is = first_empty h before.triangles.items (BeginsAfter limit) p tt;
      words = sym (append-nil before.word.items);
      all = sym (append-nil before.triangles.items);
      kept = λ root r k f. (r, k);
    })

-- a word that begins with the number at place i
pub adds_turn : (h : Patch) (steps es : List (ℕ × ℕ)) (limit : Option ℕ) (ks : List ℕ) (i : ℕ) (before now after : Path) → 0 < length steps → es ≡ steps
    → ((d : ℕ) → IsUnit h (first_step steps).0 (first_step steps).1 d → Contains ks d) → AllPairs (λ j k. j < k) ks → i < length ks → IsTurning h steps limit ks i before now → Adds h es (BeginsWith limit (get_or ks i 0)) now after → Adds h steps (BeginsAfter limit) before after
adds_turn h steps es limit ks i before now after s e complete o l t a =
    let P : List (ℕ × ℕ) → Type 0 = λ fs. Adds h fs (BeginsWith limit (get_or ks i 0)) now after in by steps complete s t (subst P e a)
  where
    by : (steps : List (ℕ × ℕ)) → ((d : ℕ) → IsUnit h (first_step steps).0 (first_step steps).1 d → Contains ks d) → 0 < length steps → IsTurning h steps limit ks i before now → Adds h steps (BeginsWith limit (get_or ks i 0)) now after → Adds h steps (BeginsAfter limit) before after
    by [] f s t a = absurd (omega (arith, s))
    by ((x, y) ∷ fs) f s t a = record {
      word = a.word;
      triangles = a.triangles;
      is = let P : List Triangle → Type 0 = λ us. IsFirst h us ((x, y) ∷ fs) (BeginsWith limit (get_or ks i 0)) a.word a.triangles in
          turn_found h before.triangles.items x y fs limit ks i (get_or ks i 0) a.word a.triangles f o l refl t.none (subst P t.all a.is);
      words = a.words ∙ ap (λ w. w ++ a.word) t.words;
      all = a.all ∙ ap (λ us. us ++ a.triangles) t.all;
      kept = λ root r k f. a.kept root r (keeps_same root r before now k t.words t.all t.waiting t.starts) f;
    }

pub none_turn : (h : Patch) (steps : List (ℕ × ℕ)) (limit : Option ℕ) (ks : List ℕ) (i : ℕ) (before now : Path) → 0 < length steps
    → ((d : ℕ) → IsUnit h (first_step steps).0 (first_step steps).1 d → Contains ks d) → length ks ≤ i
    → IsTurning h steps limit ks i before now → AddsNone h steps (BeginsAfter limit) before now
none_turn h [] limit ks i before now s f l t = absurd (omega (arith, s))
none_turn h ((x, y) ∷ fs) limit ks i before now s f l t = record {
  none = turn_none h before.triangles.items x y fs limit ks f
      (All-same (λ d. HasNone h before.triangles.items ((x, y) ∷ fs) (BeginsWith limit d)) ks (take i ks) (sym (take_all i ks l)) t.none);
  words = t.words;
  all = t.all;
  waiting = t.waiting;
  starts = t.starts;
}

pub turning_more : (h : Patch) (steps es : List (ℕ × ℕ)) (limit : Option ℕ) (ks : List ℕ) (i : ℕ) (before now after : Path) → es ≡ steps → i < length ks → IsTurning h steps limit ks i before now
    → AddsNone h es (BeginsWith limit (get_or ks i 0)) now after → IsTurning h steps limit ks (i + 1) before after
turning_more h steps es limit ks i before now after e l t a = record {
  words = a.words ∙ t.words;
  all = a.all ∙ t.all;
  waiting = a.waiting ∙ t.waiting;
  starts = a.starts ∙ t.starts;
  none = All-more (λ d. HasNone h before.triangles.items steps (BeginsWith limit d)) ks i 0 l t.none
      (carried (λ us fs. HasNone h us fs (BeginsWith limit (get_or ks i 0))) now.triangles.items before.triangles.items es steps t.all e a.none);
}

-- ---- all candidates in turn

pub first_closed : (c : ℕ) (steps : List (ℕ × ℕ)) → closing c steps ≡ written (first_step steps).0 (first_step steps).1 c
first_closed c [] = refl
first_closed c ((x, y) ∷ fs) = refl

abbrev pub points_of : List Candidate → List ℕ
points_of cs = map (λ x. x.point) cs

pub count_points : (cs : List Candidate) → length (points_of cs) ≡ length cs
count_points [] = refl
count_points (c ∷ cs) = ap suc (count_points cs)

point_at : (cs : List Candidate) (i : ℕ) (d : Candidate) → i < length cs → get_or (points_of cs) i 0 ≡ (get_or cs i d).point
point_at [] i d l = absurd (omega (arith, l))
point_at (c ∷ cs) zero d l = refl
point_at (c ∷ cs) (suc i) d l = point_at cs i d (omega (arith, l))

-- the step at a place is the first one from there on
pub step_at : (steps : List (ℕ × ℕ)) (n : ℕ) (e : ℕ × ℕ) → n < length steps → e ≡ get_or steps n e → e ≡ first_step (drop n steps)
step_at steps n e l r = get_or_read steps n e l r (0, 0) ∙ first_left steps n

pub candidates_at : (h : Patch) (x : Tables) (steps : List (ℕ × ℕ)) (n : ℕ) (e : ℕ × ℕ) (cs : List Candidate) → n < length steps → e ≡ get_or steps n e
    → ((h : Patch) → AreTables h x → AreCandidates h x.triples.items e.0 e.1 cs) → AreTables h x → AreCandidates h x.triples.items (first_step (drop n steps)).0 (first_step (drop n steps)).1 cs
candidates_at h x steps n e cs l r f t = let P : ℕ × ℕ → Type 0 = λ g. AreCandidates h x.triples.items g.0 g.1 cs in subst P (step_at steps n e l r) (f h t)

pub adds_candidate : (h : Patch) (triples : List Triangle) (steps es : List (ℕ × ℕ)) (limit : Option ℕ) (cs : List Candidate) (i : ℕ) (d : Candidate) (before now after : Path) → 0 < length steps → es ≡ steps
    → AreCandidates h triples (first_step steps).0 (first_step steps).1 cs → i < length cs → IsTurning h steps limit (points_of cs) i before now
    → Adds h es (BeginsWith limit (get_or cs i d).point) now after → Adds h steps (BeginsAfter limit) before after
adds_candidate h triples steps es limit cs i d before now after s e k l t a =
    let n = count_points cs in let P : ℕ → Type 0 = λ c. Adds h es (BeginsWith limit c) now after in
    adds_turn h steps es limit (points_of cs) i before now after s e k.complete k.rising (omega arith) t (subst P (sym (point_at cs i d l)) a)

pub none_candidate : (h : Patch) (triples : List Triangle) (steps : List (ℕ × ℕ)) (limit : Option ℕ) (cs : List Candidate) (i : ℕ) (before now : Path) → 0 < length steps
    → AreCandidates h triples (first_step steps).0 (first_step steps).1 cs → length cs ≤ i → IsTurning h steps limit (points_of cs) i before now → AddsNone h steps (BeginsAfter limit) before now
none_candidate h triples steps limit cs i before now s k l t = let n = count_points cs in none_turn h steps limit (points_of cs) i before now s k.complete (omega arith) t

pub candidate_more : (h : Patch) (steps es : List (ℕ × ℕ)) (limit : Option ℕ) (cs : List Candidate) (i : ℕ) (d : Candidate) (before now after : Path) → es ≡ steps → i < length cs → IsTurning h steps limit (points_of cs) i before now
    → AddsNone h es (BeginsWith limit (get_or cs i d).point) now after → IsTurning h steps limit (points_of cs) (i + 1) before after
candidate_more h steps es limit cs i d before now after e l t a =
    let n = count_points cs in let P : ℕ → Type 0 = λ c. AddsNone h es (BeginsWith limit c) now after in
    turning_more h steps es limit (points_of cs) i before now after e (omega arith) t (subst P (sym (point_at cs i d l)) a)

pub candidate_place : (h : Patch) (triples : List Triangle) (steps es : List (ℕ × ℕ)) (cs : List Candidate) (i : ℕ) (d : Candidate) → es ≡ steps → AreCandidates h triples (first_step steps).0 (first_step steps).1 cs
    → i < length cs → IsPlaceOf triples (get_or cs i d).place (closing (get_or cs i d).point es)
candidate_place h triples steps es cs i d e k l =
    let P : Triangle → Type 0 = λ t. IsPlaceOf triples (get_or cs i d).place t in
    subst P (sym (first_closed (get_or cs i d).point steps) ∙ ap (closing (get_or cs i d).point) (sym e)) (k.places i d l)

-- the place of the triple that closes the first step
pub closing_place : (triples : List Triangle) (p c : ℕ) (steps : List (ℕ × ℕ)) (t : Triangle) → IsPlaceOf triples p (closing c steps) → t ≡ written (first_step steps).0 (first_step steps).1 c → IsPlaceOf triples p t
closing_place triples p c steps t k e = let P : Triangle → Type 0 = λ u. IsPlaceOf triples p u in subst P (first_closed c steps ∙ sym e) k

-- ---- one number

pub triangle_of : (h : Patch) (steps : List (ℕ × ℕ)) (c : ℕ) (t : Triangle) → 0 < length steps → AreOf h steps → IsOf h c → t ≡ written (first_step steps).0 (first_step steps).1 c
    → IsOf h t.a × IsOf h t.b × IsOf h t.c
triangle_of h steps c t s all o e =
    let p : IsOf h (first_step steps).0 × IsOf h (first_step steps).1 = All-contains (λ g. IsOf h g.0 × IsOf h g.1) steps (first_step steps) all (Contains-get_or steps 0 (0, 0) s) in
    let P : Triangle → Type 0 = λ u. IsOf h u.a × IsOf h u.b × IsOf h u.c in
    subst P (sym e) (written_of (IsOf h) (first_step steps).0 (first_step steps).1 c p.0 p.1 o)

pub adds_unfit : (h : Patch) (steps : List (ℕ × ℕ)) (limit : Option ℕ) (c : ℕ) (t : Triangle) (before : Path) → 0 < length steps → t ≡ written (first_step steps).0 (first_step steps).1 c
    → ¬ (IsPart h (before.triangles.items ++ t ∷ [])) → AddsNone h steps (BeginsWith limit c) before before
adds_unfit h [] limit c t before s e n = absurd (omega (arith, s))
adds_unfit h ((a, b) ∷ fs) limit c t before s e n = record {
  none = none_fitting h before.triangles.items a b c fs limit (λ p. n (let P : Triangle → Type 0 = λ u. IsPart h (before.triangles.items ++ u ∷ []) in subst P (sym e) p));
  words = refl;
  all = refl;
  waiting = refl;
  starts = refl;
}

pub adds_early : (h : Patch) (steps : List (ℕ × ℕ)) (limit : Option ℕ) (c : ℕ) (before : Path) → ¬ (IsAfter limit c) → AddsNone h steps (BeginsWith limit c) before before
adds_early h steps limit c before n = record { none = none_after h before.triangles.items steps limit c n; words = refl; all = refl; waiting = refl; starts = refl }

-- the path goes on by one triangle, and these steps wait then
pub record IsStepOn (h : Patch) (steps next : List (ℕ × ℕ)) (c : ℕ) (before now : Path) : Type 0 where
  pub front : next ≡ closed (first_step steps).0 (first_step steps).1 c (rest_of steps)
  pub some : 0 < length steps
  pub words : now.word.items ≡ before.word.items ++ c ∷ []
  pub all : now.triangles.items ≡ before.triangles.items ++ written (first_step steps).0 (first_step steps).1 c ∷ []
  pub waiting : now.steps.items ≡ before.steps.items ++ next
  pub starts : now.starts.items ≡ before.starts.items ++ length before.steps.items ∷ []

pub step_on : (h : Patch) (steps : List (ℕ × ℕ)) (n c : ℕ) (t : Triangle) (before now : Path) → 0 < length steps → n ≡ length before.steps.items
    → ((a b : ℕ) (fs : List (ℕ × ℕ)) → steps ≡ (a, b) ∷ fs → now.steps.items ≡ before.steps.items ++ closed a b c fs) → t ≡ written (first_step steps).0 (first_step steps).1 c
    → now.word.items ≡ before.word.items ++ c ∷ [] → now.triangles.items ≡ before.triangles.items ++ t ∷ []
    → now.starts.items ≡ before.starts.items ++ length before.steps.items ∷ [] → IsStepOn h steps (drop n now.steps.items) c before now
step_on h [] n c t before now s l f e w a b = absurd (omega (arith, s))
step_on h ((x, y) ∷ fs) n c t before now s l f e w a b =
    let g = f x y fs refl in
    let front : drop n now.steps.items ≡ closed x y c fs = ap (drop n) g ∙ drop_front before.steps.items (closed x y c fs) n l in
    record {
      front = front;
      some = s;
      words = w;
      all = a ∙ ap (λ u. before.triangles.items ++ u ∷ []) e;
      waiting = g ∙ ap (λ es. before.steps.items ++ es) (sym front);
      starts = b;
    }

rest_closed : (c : ℕ) (steps : List (ℕ × ℕ)) → 0 < length steps → closed (first_step steps).0 (first_step steps).1 c (rest_of steps) ≡ closed_with c steps
rest_closed c [] s = absurd (omega (arith, s))
rest_closed c ((x, y) ∷ fs) s = refl

-- where the path kept what it came by, it does so after the step
pub keeps_on : (h : Patch) (steps next : List (ℕ × ℕ)) (c : ℕ) (before now : Path) → IsStepOn h steps next c before now → (root : List (ℕ × ℕ)) (r : List ℕ) → Keeps root r before → steps ≡ waiting_after root r
    → Keeps root (c ∷ r) now × (next ≡ waiting_after root (c ∷ r))
keeps_on h steps next c before now k root r m e =
    let f : next ≡ closed_with c (waiting_after root r) = k.front ∙ rest_closed c steps k.some ∙ ap (closed_with c) e in
    let t : written (first_step steps).0 (first_step steps).1 c ≡ closing c (waiting_after root r) = sym (first_closed c steps) ∙ ap (closing c) e in (
      record {
        word = k.words ∙ ap (λ w. w ++ c ∷ []) m.word;
        all = k.all ∙ (λ i. m.all i ++ t i ∷ []);
        waiting = k.waiting ∙ (λ i. m.waiting i ++ f i);
        starts = k.starts ∙ (λ i. m.starts i ++ length (m.waiting i) ∷ []);
        closes = ((let P : List (ℕ × ℕ) → Type 0 = λ es. 0 < length es in subst P e k.some), m.closes);
      },
      f,
    )

pub step_part : (h : Patch) (steps next : List (ℕ × ℕ)) (c : ℕ) (t : Triangle) (before now : Path) → IsStepOn h steps next c before now
    → t ≡ written (first_step steps).0 (first_step steps).1 c → IsPart h (before.triangles.items ++ t ∷ []) → IsPart h now.triangles.items
step_part h steps next c t before now k e p =
    let P : List Triangle → Type 0 = λ us. IsPart h us in subst P (ap (λ u. before.triangles.items ++ u ∷ []) e ∙ sym k.all) p

pub step_points : (h : Patch) (steps next : List (ℕ × ℕ)) (c : ℕ) (before now : Path) → IsStepOn h steps next c before now → AreOf h steps → IsOf h c → AreOf h next
step_points h [] next c before now k all o = absurd (let s = k.some in omega arith)
step_points h ((x, y) ∷ fs) next c before now k all o = let P : List (ℕ × ℕ) → Type 0 = λ es. AreOf h es in subst P (sym k.front) (closed_of h x y c fs all o)

words_on : (w v x y : List ℕ) (c : ℕ) → y ≡ w ++ c ∷ [] → x ≡ y ++ v → x ≡ w ++ c ∷ v
words_on w v x y c e f = f ∙ ap (λ z. z ++ v) e ∙ append_assoc w (c ∷ []) v

triangles_on : (w v x y : List Triangle) (t : Triangle) → y ≡ w ++ t ∷ [] → x ≡ y ++ v → x ≡ w ++ t ∷ v
triangles_on w v x y t e f = f ∙ ap (λ z. z ++ v) e ∙ append_assoc w (t ∷ []) v

pub step_found : (h : Patch) (steps next : List (ℕ × ℕ)) (limit : Option ℕ) (c : ℕ) (before now after : Path) → IsStepOn h steps next c before now → IsAfter limit c
    → Adds h next (BeginsAfter None) now after → Adds h steps (BeginsWith limit c) before after
step_found h [] next limit c before now after k l a = absurd (let s = k.some in omega arith)
step_found h ((x, y) ∷ fs) next limit c before now after k l a = record {
  word = c ∷ a.word;
  triangles = written x y c ∷ a.triangles;
  is = with_found h before.triangles.items x y c fs limit a.word a.triangles l
      (carried (λ us es. IsFirst h us es (BeginsAfter None) a.word a.triangles) now.triangles.items (before.triangles.items ++ written x y c ∷ []) next (closed x y c fs) k.all k.front a.is);
  words = words_on before.word.items a.word after.word.items now.word.items c k.words a.words;
  all = triangles_on before.triangles.items a.triangles after.triangles.items now.triangles.items (written x y c) k.all a.all;
  kept = λ root r m e. let n = keeps_on h ((x, y) ∷ fs) next c before now k root r m e in a.kept root (c ∷ r) n.0 n.1;
}

-- the last step is taken back, and all but n of the waiting steps
pub record IsBack (n : ℕ) (now after : Path) : Type 0 where
  pub word : (word : List ℕ) (c : ℕ) → now.word.items ≡ word ++ c ∷ [] → after.word.items ≡ word
  pub triangles : (ts : List Triangle) (t : Triangle) → now.triangles.items ≡ ts ++ t ∷ [] → after.triangles.items ≡ ts
  pub steps : after.steps.items ≡ take n now.steps.items
  pub starts : (ss : List ℕ) (s : ℕ) → now.starts.items ≡ ss ++ s ∷ [] → after.starts.items ≡ ss

back_steps : (h : Patch) (steps next : List (ℕ × ℕ)) (c n : ℕ) (before now later after : Path) → IsStepOn h steps next c before now → n ≡ length before.steps.items → later.steps.items ≡ now.steps.items
    → IsBack n later after → after.steps.items ≡ before.steps.items
back_steps h steps next c n before now later after k l e b = b.steps ∙ ap (take n) (e ∙ k.waiting) ∙ take_front before.steps.items next n l

pub step_none : (h : Patch) (steps next : List (ℕ × ℕ)) (limit : Option ℕ) (c n : ℕ) (before now later after : Path) → IsStepOn h steps next c before now → n ≡ length before.steps.items
    → AddsNone h next (BeginsAfter None) now later → IsBack n later after → AddsNone h steps (BeginsWith limit c) before after
step_none h [] next limit c n before now later after k l a b = absurd (let s = k.some in omega arith)
step_none h ((x, y) ∷ fs) next limit c n before now later after k l a b = record {
  none = with_none h before.triangles.items x y c fs limit
      (carried (λ us es. HasNone h us es (BeginsAfter None)) now.triangles.items (before.triangles.items ++ written x y c ∷ []) next (closed x y c fs) k.all k.front a.none);
  words = b.word before.word.items c (a.words ∙ k.words);
  all = b.triangles before.triangles.items (written x y c) (a.all ∙ k.all);
  waiting = back_steps h ((x, y) ∷ fs) next c n before now later after k l a.waiting b;
  starts = b.starts before.starts.items (length before.steps.items) (a.starts ∙ k.starts);
}

-- there is room for fewer triangles after one more
pub room_falls : (m : ℕ) (us vs : List Triangle) (t : Triangle) → vs ≡ us ++ t ∷ [] → length vs ≤ m → 2 * (m - length vs) + 1 < 2 * (m - length us)
room_falls m us vs t e l = by (length us) (length vs) (ap length e ∙ one_more us) l
  where
    one_more : (ws : List Triangle) → length (ws ++ t ∷ []) ≡ length ws + 1
    one_more [] = refl
    one_more (w ∷ ws) = let r = one_more ws in omega arith

    by : (x y : ℕ) → y ≡ x + 1 → y ≤ m → 2 * (m - y) + 1 < 2 * (m - x)
    by x y p q = omega (arith, p, q)
