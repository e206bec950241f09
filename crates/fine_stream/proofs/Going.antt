-- From the end of a word back along its path, and on to the next word.
--     starts_at, back_one, closed_path      what the path keeps, as it falls and grows
--     going_first, going_step, going_found, going_passed, going_end, shorter      the way back
--     replay_some, replay_more      the way along a word from its beginning
use Rattle.std.proofs.Common.{◌≡◌, ℕ, zero, suc, ◌+◌, ◌<◌, ◌≤◌, refl, sym, ap, ◌∙◌, subst, arith, List, [], ◌∷◌, ◌++◌, take, drop, length, get_or, Some, append_assoc, append-nil}
use Rattle.std.proofs.Math.Seq.{drop-append_seam, take-append_seam, take-suc}
use Rattle.ntfe_model.specs.Lists.{IsBelow}
use Rattle.ntfe_model.specs.Charts.{Patch, AreSteps}
use Rattle.ntfe_model.specs.Words.{written, Closes}
use Rattle.ntfe_model.specs.declared.triangle.Triangle.{Triangle}
use Rattle.fine_stream.specs.Paths.{AreOf, IsPart}
use Rattle.fine_stream.specs.Found.{BeginsAfter, IsFirst, HasNone, Adds, AddsNone}
use Rattle.fine_stream.specs.Kept.{Keeps, DoClose, spelled, closed_with, closing, waiting_after, triangles_after, stacked, begins}
use Rattle.fine_stream.specs.Cursors.{IsWhole, FindsFirst, FindsNone}
use Rattle.fine_stream.specs.declared.path.Path.{Path}
use Rattle.fine_stream.proofs.Searches.{closed, closed_of, fits_unit, next_found, next_later, next_none, below_empty}
use Rattle.fine_stream.proofs.Finding.{keeps_same, keeps_on, step_on, some_left, written_left}
use Rattle.fine_stream.proofs.Parts.{part_left, one_before}
use Rattle.fine_stream.proofs.Waiting.{steps_of}

-- ---- what a path keeps

length_last : {X : Type 0} (xs : List X) (x : X) → length (xs ++ x ∷ []) ≡ length xs + 1
length_last [] x = refl
length_last (y ∷ xs) x = let e = length_last xs x in omega arith

length_more : (es fs : List (ℕ × ℕ)) → length es ≤ length (es ++ fs)
length_more [] fs = omega arith
length_more (e ∷ es) fs = let r = length_more es fs in omega arith

-- the last of the lists begins where its start says
pub starts_at : (root : List (ℕ × ℕ)) (r : List ℕ) (p : Path) (s : ℕ) → Keeps root r p → (p.starts.items ≡ [] → s ≡ 0) → ((ss : List ℕ) (n : ℕ) → p.starts.items ≡ ss ++ n ∷ [] → s ≡ n)
    → (s ≤ length p.steps.items) × (drop s p.steps.items ≡ waiting_after root r)
starts_at root [] p s k first last =
    let e = first k.starts in (omega arith, (λ i. drop (e i) (k.waiting i)))
starts_at root (c ∷ r) p s k first last =
    let e : s ≡ length (stacked root r) = last (begins root r) (length (stacked root r)) k.starts in
    let l = ap length k.waiting in let m = length_more (stacked root r) (waiting_after root (c ∷ r)) in (
      over s (length (stacked root r)) (length p.steps.items) (length (stacked root r ++ waiting_after root (c ∷ r))) e l m,
      (λ i. drop (e i) (k.waiting i)) ∙ drop-append_seam (stacked root r) (waiting_after root (c ∷ r)),
    )
  where
    over : (a b x y : ℕ) → a ≡ b → x ≡ y → b ≤ y → a ≤ x
    over a b x y p q l = omega (arith, p, q, l)

pub some_waits : (root : List (ℕ × ℕ)) (r : List ℕ) (p : Path) (s : ℕ) → (s ≤ length p.steps.items) × (drop s p.steps.items ≡ waiting_after root r) → 0 < length (waiting_after root r) → s < length p.steps.items
some_waits root r p s (l, e) w = by s p.steps.items (let P : List (ℕ × ℕ) → Type 0 = λ es. 0 < length es in subst P (sym e) w)
  where
    by : (n : ℕ) (es : List (ℕ × ℕ)) → 0 < length (drop n es) → n < length es
    by zero [] q = absurd (omega (arith, q))
    by (suc n) [] q = absurd (omega (arith, q))
    by zero (e ∷ es) q = omega arith
    by (suc n) (e ∷ es) q = let t = by n es q in omega arith

-- the last number taken back
pub back_one : (root : List (ℕ × ℕ)) (r : List ℕ) (c s d : ℕ) (p q : Path) → Keeps root (c ∷ r) p → ((w : List ℕ) (d' : ℕ) → p.word.items ≡ w ++ d' ∷ [] → d ≡ d') → ((ss : List ℕ) (n : ℕ) → p.starts.items ≡ ss ++ n ∷ [] → s ≡ n)
    → ((w : List ℕ) (x : ℕ) → p.word.items ≡ w ++ x ∷ [] → q.word.items ≡ w) → ((ts : List Triangle) (t : Triangle) → p.triangles.items ≡ ts ++ t ∷ [] → q.triangles.items ≡ ts)
    → q.steps.items ≡ take s p.steps.items → ((ss : List ℕ) (n : ℕ) → p.starts.items ≡ ss ++ n ∷ [] → q.starts.items ≡ ss) → (d ≡ c) × Keeps root r q
back_one root r c s d p q k last start word all steps starts =
    let e : s ≡ length (stacked root r) = start (begins root r) (length (stacked root r)) k.starts in (
      last (spelled r) c k.word,
      record {
        word = word (spelled r) c k.word;
        all = all (triangles_after root r) (closing c (waiting_after root r)) k.all;
        waiting = steps ∙ (λ i. take (e i) (k.waiting i)) ∙ take-append_seam (stacked root r) (waiting_after root (c ∷ r));
        starts = starts (begins root r) (length (stacked root r)) k.starts;
        closes = k.closes.1;
      },
    )

-- ---- words, from their ends

-- what is left of a word closes what waits
pub closes_left : (root : List (ℕ × ℕ)) (r v : List ℕ) (us : List Triangle) → Closes root (spelled r ++ v) us → (vs : List Triangle) × Closes (waiting_after root r) v vs
closes_left root [] v us k = (us, k)
closes_left root (c ∷ r) v us k =
    let P : List ℕ → Type 0 = λ w. Closes root w us in
    let n = closes_left root r (c ∷ v) us (subst P (append_assoc (spelled r) (c ∷ []) v) k) in one (waiting_after root r) n.0 n.1
  where
    one : (fs : List (ℕ × ℕ)) (vs : List Triangle) → Closes fs (c ∷ v) vs → (us : List Triangle) × Closes (closed_with c fs) v us
    one [] vs m = absurd m
    one ((a, b) ∷ fs) [] m = absurd m
    one ((a, b) ∷ fs) (t ∷ vs) m = (vs, m.1)

-- the triangles of a word that leads to the end are those that close its steps
pub closed_triangles : (root : List (ℕ × ℕ)) (r : List ℕ) (us : List Triangle) → Closes root (spelled r) us → us ≡ triangles_after root r
closed_triangles root r us k =
    let P : List ℕ → Type 0 = λ w. Closes root w us in
    let n = split root r [] us (subst P (sym (append-nil (spelled r))) k) in n.2 ∙ ap (λ vs. triangles_after root r ++ vs) (none (waiting_after root r) n.0 n.1) ∙ append-nil (triangles_after root r)
  where
    none : (fs : List (ℕ × ℕ)) (vs : List Triangle) → Closes fs [] vs → vs ≡ []
    none [] [] m = refl
    none [] (t ∷ vs) m = absurd m
    none ((a, b) ∷ fs) vs m = absurd m

    one : (c : ℕ) (v : List ℕ) (ts us : List Triangle) (fs : List (ℕ × ℕ)) (vs : List Triangle) → Closes fs (c ∷ v) vs → us ≡ ts ++ vs
        → (ws : List Triangle) × Closes (closed_with c fs) v ws × (us ≡ (ts ++ closing c fs ∷ []) ++ ws)
    one c v ts us [] vs m e = absurd m
    one c v ts us ((a, b) ∷ fs) [] m e = absurd m
    one c v ts us ((a, b) ∷ fs) (t ∷ vs) m e = (vs, m.1, e ∙ ap (λ u. ts ++ u ∷ vs) m.0 ∙ sym (append_assoc ts (written a b c ∷ []) vs))

    split : (root : List (ℕ × ℕ)) (r v : List ℕ) (us : List Triangle) → Closes root (spelled r ++ v) us → (vs : List Triangle) × Closes (waiting_after root r) v vs × (us ≡ triangles_after root r ++ vs)
    split root [] v us m = (us, m, refl)
    split root (c ∷ r) v us m =
        let P : List ℕ → Type 0 = λ w. Closes root w us in
        let n = split root r (c ∷ v) us (subst P (append_assoc (spelled r) (c ∷ []) v) m) in one c v (triangles_after root r) us (waiting_after root r) n.0 n.1 n.2

-- where a word goes on, a step waits
pub closes_some : (fs : List (ℕ × ℕ)) (c : ℕ) (v : List ℕ) (us : List Triangle) → Closes fs (c ∷ v) us → 0 < length fs
closes_some [] c v us k = absurd k
closes_some (e ∷ fs) c v us k = omega arith

points_after : (h : Patch) (root : List (ℕ × ℕ)) (r : List ℕ) → AreOf h root → DoClose root r → IsPart h (triangles_after root r) → AreOf h (waiting_after root r)
points_after h root [] all d p = all
points_after h root (c ∷ r) all d p =
    one (waiting_after root r) (triangles_after root r) d.0 (points_after h root r all d.1 (part_left h (triangles_after root r) (closing c (waiting_after root r) ∷ []) p)) p
  where
    one : (fs : List (ℕ × ℕ)) (ts : List Triangle) → 0 < length fs → AreOf h fs → IsPart h (ts ++ closing c fs ∷ []) → AreOf h (closed_with c fs)
    one [] ts l o q = absurd (omega (arith, l))
    one ((a, b) ∷ fs) ts l o q = closed_of h a b c fs o (fits_unit h ts a b c q).points.2

-- no word comes after the empty one where nothing waits
whole_none : (h : Patch) (ts : List Triangle) (fs : List (ℕ × ℕ)) (us : List Triangle) → Closes fs [] us → HasNone h ts fs (IsBelow [])
whole_none h ts [] us k [] vs m p = below_empty [] p
whole_none h ts [] us k (c ∷ v) vs m p = absurd m.closes
whole_none h ts ((a, b) ∷ fs) us k v vs m p = absurd k

-- what is first from here on is so from the boundary on
lifted : (h : Patch) (root : List (ℕ × ℕ)) (r rest w : List ℕ) (us : List Triangle) → DoClose root r → IsFirst h (triangles_after root r) (waiting_after root r) (IsBelow rest) w us
    → IsFirst h [] root (IsBelow (spelled r ++ rest)) (spelled r ++ w) (triangles_after root r ++ us)
lifted h root [] rest w us d f = f
lifted h root (c ∷ r) rest w us d f =
    let ts = triangles_after root r in let t = closing c (waiting_after root r) in
    let A : List ℕ → Type 0 = λ v. IsFirst h [] root (IsBelow v) (spelled r ++ c ∷ w) (ts ++ t ∷ us) in
    let B : List ℕ → Type 0 = λ v. IsFirst h [] root (IsBelow (spelled (c ∷ r) ++ rest)) v (ts ++ t ∷ us) in
    let C : List Triangle → Type 0 = λ vs. IsFirst h [] root (IsBelow (spelled (c ∷ r) ++ rest)) (spelled (c ∷ r) ++ w) vs in
    let g = lifted h root r (c ∷ rest) (c ∷ w) (t ∷ us) d.1 (one (waiting_after root r) ts d.0 f) in
    subst C (sym (append_assoc ts (t ∷ []) us)) (subst B (sym (append_assoc (spelled r) (c ∷ []) w)) (subst A (sym (append_assoc (spelled r) (c ∷ []) rest)) g))
  where
    one : (fs : List (ℕ × ℕ)) (ts : List Triangle) → 0 < length fs → IsFirst h (ts ++ closing c fs ∷ []) (closed_with c fs) (IsBelow rest) w us → IsFirst h ts fs (IsBelow (c ∷ rest)) (c ∷ w) (closing c fs ∷ us)
    one [] ts l g = absurd (omega (arith, l))
    one ((a, b) ∷ fs) ts l g = next_found h ts a b c fs rest w us g

later : (h : Patch) (fs : List (ℕ × ℕ)) (ts : List Triangle) (c : ℕ) (rest w : List ℕ) (us : List Triangle) → 0 < length fs → HasNone h (ts ++ closing c fs ∷ []) (closed_with c fs) (IsBelow rest)
    → IsFirst h ts fs (BeginsAfter (Some c)) w us → IsFirst h ts fs (IsBelow (c ∷ rest)) w us
later h [] ts c rest w us l n f = absurd (omega (arith, l))
later h ((a, b) ∷ fs) ts c rest w us l n f = next_later h ts a b c fs rest w us n f

none_later : (h : Patch) (fs : List (ℕ × ℕ)) (ts : List Triangle) (c : ℕ) (rest : List ℕ) → 0 < length fs → HasNone h (ts ++ closing c fs ∷ []) (closed_with c fs) (IsBelow rest)
    → HasNone h ts fs (BeginsAfter (Some c)) → HasNone h ts fs (IsBelow (c ∷ rest))
none_later h [] ts c rest l n m = absurd (omega (arith, l))
none_later h ((a, b) ∷ fs) ts c rest l n m = next_none h ts a b c fs rest n m

-- ---- the way back

-- the path keeps a first part of the last word, and no word with this part comes after the last one
pub record IsGoingBack (h : Patch) (last : List ℕ) (p : Path) : Type 0 where
  pub root : List (ℕ × ℕ)
  pub boundary : AreSteps h root
  pub numbers : List ℕ
  pub rest : List ℕ
  pub keeps : Keeps root numbers p
  pub is : last ≡ spelled numbers ++ rest
  pub part : IsPart h (triangles_after root numbers)
  pub none : HasNone h (triangles_after root numbers) (waiting_after root numbers) (IsBelow rest)

-- the same, and with the next number of the last word no other word comes after it
pub record IsBackAt (h : Patch) (last : List ℕ) (c : ℕ) (p : Path) : Type 0 where
  pub root : List (ℕ × ℕ)
  pub boundary : AreSteps h root
  pub numbers : List ℕ
  pub rest : List ℕ
  pub keeps : Keeps root numbers p
  pub is : last ≡ spelled numbers ++ c ∷ rest
  pub part : IsPart h (triangles_after root numbers)
  pub some : 0 < length (waiting_after root numbers)
  pub points : AreOf h (waiting_after root numbers)
  pub none : HasNone h (triangles_after root numbers ++ closing c (waiting_after root numbers) ∷ []) (closed_with c (waiting_after root numbers)) (IsBelow rest)

pub going_first : (h : Patch) (p : Path) → IsWhole h p → IsGoingBack h p.word.items p
going_first h p w =
    let k = w.keeps in
    let P : List ℕ → Type 0 = λ v. Closes w.root v p.triangles.items in let Q : List Triangle → Type 0 = λ ts. IsPart h ts in
    let left = closes_left w.root w.numbers [] p.triangles.items (subst P (k.word ∙ sym (append-nil (spelled w.numbers))) w.completes.closes) in
    record {
      root = w.root;
      boundary = w.boundary;
      numbers = w.numbers;
      rest = [];
      keeps = k;
      is = k.word ∙ sym (append-nil (spelled w.numbers));
      part = subst Q k.all w.completes.part;
      none = whole_none h (triangles_after w.root w.numbers) (waiting_after w.root w.numbers) left.0 left.1;
    }

pub going_step : (h : Patch) (last : List ℕ) (p q : Path) (d : ℕ) → IsGoingBack h last p → 0 < length p.word.items
    → ((root : List (ℕ × ℕ)) (r : List ℕ) (c : ℕ) → Keeps root (c ∷ r) p → (d ≡ c) × Keeps root r q) → IsBackAt h last d q
going_step h last p q d g l back = by g.numbers g.keeps g.is g.part g.none
  where
    by : (r : List ℕ) → Keeps g.root r p → last ≡ spelled r ++ g.rest → IsPart h (triangles_after g.root r) → HasNone h (triangles_after g.root r) (waiting_after g.root r) (IsBelow g.rest) → IsBackAt h last d q
    by [] k e t n = absurd (let m = ap length k.word in omega (arith, l, m))
    by (c ∷ r) k e t n =
        let b = back g.root r c k in
        let part = part_left h (triangles_after g.root r) (closing c (waiting_after g.root r) ∷ []) t in
        let P : ℕ → Type 0 = λ x. IsBackAt h last x q in
        subst P (sym b.0) (record {
          root = g.root;
          boundary = g.boundary;
          numbers = r;
          rest = g.rest;
          keeps = b.1;
          is = e ∙ append_assoc (spelled r) (c ∷ []) g.rest;
          part = part;
          some = k.closes.0;
          points = points_after h g.root r (steps_of h g.root g.boundary) k.closes.1 part;
          none = n;
        })

-- what holds wherever the path has a last number
pub going_some : (h : Patch) (last : List ℕ) (p : Path) (X : Type 0) → IsGoingBack h last p → 0 < length p.word.items → ((root : List (ℕ × ℕ)) (r : List ℕ) (c : ℕ) → Keeps root (c ∷ r) p → X) → X
going_some h last p X g l f = by g.numbers g.keeps
  where
    by : (r : List ℕ) → Keeps g.root r p → X
    by [] k = absurd (let m = ap length k.word in omega (arith, l, m))
    by (c ∷ r) k = f g.root r c k

pub going_found : (h : Patch) (last : List ℕ) (c : ℕ) (es : List (ℕ × ℕ)) (q p : Path) (b : IsBackAt h last c q) → es ≡ waiting_after b.root b.numbers → Adds h es (BeginsAfter (Some c)) q p → FindsFirst h (IsBelow last) p
going_found h last c es q p b e a =
    let root = b.root in let r = b.numbers in let ts = triangles_after root r in let fs = waiting_after root r in
    let A : List Triangle → Type 0 = λ us. IsFirst h us es (BeginsAfter (Some c)) a.word a.triangles in
    let B : List (ℕ × ℕ) → Type 0 = λ gs. IsFirst h ts gs (BeginsAfter (Some c)) a.word a.triangles in
    let f = lifted h root r (c ∷ b.rest) a.word a.triangles b.keeps.closes (later h fs ts c b.rest a.word a.triangles b.some b.none (subst B e (subst A b.keeps.all a.is))) in
    let n = a.kept root r b.keeps e in
    let C : List ℕ → Type 0 = λ v. IsFirst h [] root (IsBelow v) (spelled r ++ a.word) (ts ++ a.triangles) in
    let D : List ℕ → Type 0 = λ v. IsFirst h [] root (IsBelow last) v (ts ++ a.triangles) in
    let F : List Triangle → Type 0 = λ us. IsFirst h [] root (IsBelow last) p.word.items us in
    record {
      root = root;
      boundary = b.boundary;
      is = subst F (sym (a.all ∙ ap (λ us. us ++ a.triangles) b.keeps.all)) (subst D (sym (a.words ∙ ap (λ v. v ++ a.word) b.keeps.word)) (subst C (sym b.is) f));
      numbers = n.0;
      keeps = n.1;
    }

pub going_passed : (h : Patch) (last : List ℕ) (c : ℕ) (es : List (ℕ × ℕ)) (q p : Path) (b : IsBackAt h last c q) → es ≡ waiting_after b.root b.numbers → AddsNone h es (BeginsAfter (Some c)) q p → IsGoingBack h last p
going_passed h last c es q p b e a =
    let root = b.root in let r = b.numbers in let ts = triangles_after root r in let fs = waiting_after root r in
    let A : List Triangle → Type 0 = λ us. HasNone h us es (BeginsAfter (Some c)) in let B : List (ℕ × ℕ) → Type 0 = λ gs. HasNone h ts gs (BeginsAfter (Some c)) in
    record {
      root = root;
      boundary = b.boundary;
      numbers = r;
      rest = c ∷ b.rest;
      keeps = keeps_same root r q p b.keeps a.words a.all a.waiting a.starts;
      is = b.is;
      part = b.part;
      none = none_later h fs ts c b.rest b.some b.none (subst B e (subst A b.keeps.all a.none));
    }

pub going_end : (h : Patch) (last : List ℕ) (p : Path) → IsGoingBack h last p → length p.word.items ≡ 0 → FindsNone h (IsBelow last)
going_end h last p g l = by g.numbers g.keeps g.is g.none
  where
    by : (r : List ℕ) → Keeps g.root r p → last ≡ spelled r ++ g.rest → HasNone h (triangles_after g.root r) (waiting_after g.root r) (IsBelow g.rest) → FindsNone h (IsBelow last)
    by [] k e n = record { root = g.root; boundary = g.boundary; none = (let P : List ℕ → Type 0 = λ v. HasNone h [] g.root (IsBelow v) in subst P (sym e) n) }
    by (c ∷ r) k e n = absurd (let m = ap length k.word in let o = length_last (spelled r) c in omega (arith, l, m, o))

-- ---- along a word from its beginning

-- the path keeps the first numbers of the word, and the others lead on to the end
pub record IsReplayed (root : List (ℕ × ℕ)) (word : List ℕ) (i : ℕ) (p : Path) : Type 0 where
  pub numbers : List ℕ
  pub triangles : List Triangle
  pub keeps : Keeps root numbers p
  pub is : spelled numbers ≡ take i word
  pub closes : Closes (waiting_after root numbers) (drop i word) triangles

abbrev pub IsReplaying : List ℕ → ℕ → Path → Path → Type 0
IsReplaying word i before now = (root : List (ℕ × ℕ)) (us : List Triangle) → Keeps root [] before → Closes root word us → IsReplayed root word i now

next_place : (i : ℕ) → suc i ≡ i + 1
next_place i = omega arith

pub replay_some : (root : List (ℕ × ℕ)) (word : List ℕ) (i : ℕ) (p : Path) → i < length word → (s : IsReplayed root word i p) → 0 < length (waiting_after root s.numbers)
replay_some root word i p l s =
    let P : List ℕ → Type 0 = λ v. Closes (waiting_after root s.numbers) v s.triangles in
    closes_some (waiting_after root s.numbers) (get_or word i 0) (drop (suc i) word) s.triangles (subst P (one_before word i 0 l) s.closes)

pub replay_more : (root : List (ℕ × ℕ)) (word : List ℕ) (i d : ℕ) (p q : Path) → i < length word → IsReplayed root word i p
    → ((r : List ℕ) → Keeps root r p → Keeps root (get_or word i d ∷ r) q) → IsReplayed root word (i + 1) q
replay_more root word i d p q l s f =
    let c = get_or word i d in
    let P : List ℕ → Type 0 = λ v. Closes (waiting_after root s.numbers) v s.triangles in
    let N : ℕ → Type 0 = λ j. IsReplayed root word j q in
    let n = one (waiting_after root s.numbers) c (drop (suc i) word) s.triangles (subst P (one_before word i d l) s.closes) in
    subst N (next_place i) (record {
      numbers = c ∷ s.numbers;
      triangles = n.0;
      keeps = f s.numbers s.keeps;
      is = ap (λ v. v ++ c ∷ []) s.is ∙ sym (take-suc word i d l);
      closes = n.1;
    })
  where
    one : (fs : List (ℕ × ℕ)) (c : ℕ) (v : List ℕ) (vs : List Triangle) → Closes fs (c ∷ v) vs → (us : List Triangle) × Closes (closed_with c fs) v us
    one [] c v vs m = absurd m
    one ((a, b) ∷ fs) c v [] m = absurd m
    one ((a, b) ∷ fs) c v (t ∷ vs) m = (vs, m.1)

-- one number more
pub closed_path : (root : List (ℕ × ℕ)) (r : List ℕ) (c s : ℕ) (e : ℕ × ℕ) (t : Triangle) (p q : Path) → Keeps root r p → drop s p.steps.items ≡ waiting_after root r → s < length p.steps.items
    → e ≡ get_or p.steps.items s e → t ≡ written e.0 e.1 c
    → ((a b : ℕ) (fs : List (ℕ × ℕ)) → drop s p.steps.items ≡ (a, b) ∷ fs → q.steps.items ≡ p.steps.items ++ closed a b c fs)
    → q.word.items ≡ p.word.items ++ c ∷ [] → q.triangles.items ≡ p.triangles.items ++ t ∷ [] → q.starts.items ≡ p.starts.items ++ length p.steps.items ∷ [] → Keeps root (c ∷ r) q
closed_path root r c s e t p q k w l g d f word all starts =
    let on =
    step_on [] (drop s p.steps.items) (length p.steps.items) c t p q (some_left p.steps.items s l) refl f (written_left p.steps.items s c t e l g d) word all starts in
    (keeps_on [] (drop s p.steps.items) (drop (length p.steps.items) q.steps.items) c p q on root r k w).0

-- the word is shorter by the number that was taken back
pub shorter : (h : Patch) (last : List ℕ) (d : ℕ) (p q after : Path) → IsGoingBack h last p → 0 < length p.word.items
    → ((root : List (ℕ × ℕ)) (r : List ℕ) (c : ℕ) → Keeps root (c ∷ r) p → (d ≡ c) × Keeps root r q) → after.word.items ≡ q.word.items → length after.word.items < length p.word.items
shorter h last d p q after g l back e = by g.numbers g.keeps
  where
    by : (r : List ℕ) → Keeps g.root r p → length after.word.items < length p.word.items
    by [] k = absurd (let m = ap length k.word in omega (arith, l, m))
    by (c ∷ r) k =
        let m = ap length k.word in let n = length_last (spelled r) c in let o = ap length (e ∙ (back g.root r c k).1.word) in omega (arith, m, n, o)
