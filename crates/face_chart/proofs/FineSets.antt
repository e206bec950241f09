-- What each fine set has: its boundary steps in order, its word, and its folds in order of edges.
--     picked      the sides of a list with a property, in order and without repeats
--     steps_exist, word_exists, folds_exist      a fine set has all three
--     folds_fixed      and the folds are only one list
use Rattle.std.proofs.Common.{◌≡◌, ◌≢◌, ℕ, ◌<◌, ◌≤◌, ◌⊎◌, inl, inr, ⊎_elim, Bool, true, false, cond, refl, sym, ap, ◌∙◌, subst, arith, List, [], ◌∷◌}
use Rattle.std.specs.Prelude.{Contains, ◌&&◌, ◌||◌, ◌==◌, nat_lt, AllPairs}
use Rattle.std.specs.List.{list_any}
use Rattle.std.proofs.lemmas.Bool.Decides.{nat_tests}
use Rattle.std.proofs.lemmas.List.Kept.{AllPairs-cons}
use Rattle.std.proofs.lemmas.List.Elements.{All-contains}
use Rattle.ntfe_nums.proofs.Comparisons.{same_from_test, both, other_from_test}
use Rattle.ntfe_model.specs.Lists.{IsBefore2}
use Rattle.ntfe_model.specs.Charts.{Patch, AreSteps, IsStep}
use Rattle.ntfe_model.specs.Triangulations.{IsSide, IsFine}
use Rattle.ntfe_model.specs.Words.{is_same_step, is_before, with_step, IsWordOf}
use Rattle.ntfe_model.specs.Choices.{IsInnerEdge, IsFoldOf, AreFolds}
use Rattle.ntfe_model.specs.declared.triangle.Triangle.{Triangle}
use Rattle.ntfe_model.specs.declared.triangulation.Triangulation.{Triangulation}
use Rattle.ntfe_model.specs.declared.nogood.Fold.{Fold}
use Rattle.ntfe_model.proofs.Listings.{Contains-here, Contains-there, Contains-cases, Contains-none, AllPairs-head, AllPairs-tail, All-from_contains, listing_unique}
use Rattle.ntfe_model.proofs.Areas.{sides}
use Rattle.ntfe_model.proofs.Triples.{Decided, decide_number, decide_both, decide_is_side, in_sides, from_sides, decide_not}
use Rattle.face_chart.proofs.Walk.{with_step_only, with_step_has, with_step_keeps, any_contains}
use Rattle.face_chart.proofs.WordExists.{contains_any, word_from_steps}
use Rattle.ntfe_model.proofs.Folds.{fold_exists, fold_edge, fold_unique}
use Rattle.ntfe_model.proofs.Orders.{FoldBefore, EdgeBefore, before_once}

-- ---- the order of steps

either_true : (p q : Bool) → (p || q) ≡ true → (p ≡ true) ⊎ (q ≡ true)
either_true true q e = inl refl
either_true false q e = inr e

either_false : (p q : Bool) → (p || q) ≡ false → (p ≡ false) × (q ≡ false)
either_false true q e = cc
either_false false q e = (refl, e)

and_false : (p q : Bool) → (p && q) ≡ false → (p ≡ false) ⊎ (q ≡ false)
and_false true q e = inr e
and_false false q e = inl refl

lt_is : (x y : ℕ) → nat_lt x y ≡ true → x < y
lt_is x y e = grind (arith, nat_tests)

not_lt : (x y : ℕ) → nat_lt x y ≡ false → y ≤ x
not_lt x y e = grind (arith, nat_tests)

pub before_is : (e f : ℕ × ℕ) → is_before e f ≡ true → EdgeBefore e f
before_is e f h =
    ⊎_elim (λ p. inl (lt_is e.0 f.0 p)) (λ p. (let q = both (e.0 == f.0) (nat_lt e.1 f.1) p in inr (same_from_test e.0 f.0 q.0, lt_is e.1 f.1 q.1)))
    (either_true (nat_lt e.0 f.0) ((e.0 == f.0) && nat_lt e.1 f.1) h)

numbers_before : (a b i j : ℕ) → i ≤ a → (a ≢ i) ⊎ (j ≤ b) → (a ≡ i → b ≡ j → ⊥) → IsBefore2 i j a b
numbers_before a b i j l p n = by (decide_number a i) p
  where
    strict : (x y : ℕ) → x ≤ y → (y ≡ x → ⊥) → x < y
    strict x y q r = grind (arith, q, r)

    by : Decided (a ≡ i) → (a ≢ i) ⊎ (j ≤ b) → IsBefore2 i j a b
    by (inr m) q = inl (strict i a l m)
    by (inl e) (inl m) = absurd (m e)
    by (inl e) (inr m) = inr (sym e, strict j b m (n e))

pub not_before : (e f : ℕ × ℕ) → is_before e f ≡ false → e ≢ f → EdgeBefore f e
not_before e f h n =
    let p = either_false (nat_lt e.0 f.0) ((e.0 == f.0) && nat_lt e.1 f.1) h in
    numbers_before e.0 e.1 f.0 f.1 (not_lt e.0 f.0 p.0)
    (⊎_elim (λ q. inl (other_from_test e.0 f.0 q)) (λ q. inr (not_lt e.1 f.1 q)) (and_false (e.0 == f.0) (nat_lt e.1 f.1) p.1))
    (λ q r. n (λ i. (q i, r i)))

earlier_chain : (e f g : ℕ × ℕ) → EdgeBefore e f → EdgeBefore f g → EdgeBefore e g
earlier_chain e f g p q = chain e.0 e.1 f.0 f.1 g.0 g.1 p q
  where
    chain : (a b i j x y : ℕ) → IsBefore2 a b i j → IsBefore2 i j x y → IsBefore2 a b x y
    chain a b i j x y (inl p) (inl q) = inl (omega (arith, p, q))
    chain a b i j x y (inl p) (inr q) = inl (let r = q.0 in omega (arith, p, r))
    chain a b i j x y (inr p) (inl q) = inl (let r = p.0 in omega (arith, q, r))
    chain a b i j x y (inr p) (inr q) = inr (p.0 ∙ q.0, (let r = p.1 in let s = q.1 in omega (arith, r, s)))

pub with_step_ordered : (e : ℕ × ℕ) (fs : List (ℕ × ℕ)) → AllPairs EdgeBefore fs → ¬ (Contains fs e) → AllPairs EdgeBefore (with_step e fs)
with_step_ordered e [] o n = AllPairs-cons EdgeBefore e [] (All-from_contains (EdgeBefore e) [] (λ g k. Contains-none g k)) o
with_step_ordered e (f ∷ fs) o n = by (is_before e f) refl (with_step_ordered e fs (AllPairs-tail EdgeBefore f fs o) (λ k. n (Contains-there e f fs k)))
  where
    head : (g : ℕ × ℕ) → Contains fs g → EdgeBefore f g
    head g k = All-contains (EdgeBefore f) fs g (AllPairs-head EdgeBefore f fs o) k

    by : (b : Bool) → is_before e f ≡ b → AllPairs EdgeBefore (with_step e fs) → AllPairs EdgeBefore (cond b (e ∷ f ∷ fs) (f ∷ with_step e fs))
    by true p go =
        let l = before_is e f p in
        AllPairs-cons EdgeBefore e (f ∷ fs)
        (All-from_contains (EdgeBefore e) (f ∷ fs) (λ g k. ⊎_elim (λ q. (let P : ℕ × ℕ → Type 0 = λ z. EdgeBefore e z in subst P (sym q) l)) (λ m. earlier_chain e f g l (head g m)) (Contains-cases g f fs k))) o
    by false p go =
        let l = not_before e f p (λ q. n (Contains-here e f fs q)) in
        AllPairs-cons EdgeBefore f (with_step e fs)
        (All-from_contains (EdgeBefore f) (with_step e fs) (λ g k. ⊎_elim (λ m. head g m) (λ q. (let P : ℕ × ℕ → Type 0 = λ z. EdgeBefore f z in subst P (sym q) l)) (with_step_only e fs g k))) go

-- ---- the sides with a property, in order

pub record IsPicked (P : ℕ × ℕ → Type 0) (es fs : List (ℕ × ℕ)) : Type 0 where
  pub ordered : AllPairs EdgeBefore fs
  pub within : (e : ℕ × ℕ) → Contains fs e → Contains es e
  pub passes : (e : ℕ × ℕ) → Contains fs e → P e
  pub covers : (e : ℕ × ℕ) → Contains es e → P e → Contains fs e

decide_contains : (fs : List (ℕ × ℕ)) (e : ℕ × ℕ) → Decided (Contains fs e)
decide_contains fs e = by (list_any (is_same_step e) fs) refl
  where
    by : (b : Bool) → list_any (is_same_step e) fs ≡ b → Decided (Contains fs e)
    by true p = inl (any_contains e fs p)
    by false p = inr (λ k. (let r : false ≡ true = sym p ∙ contains_any e fs k in cc))

pub picked : (P : ℕ × ℕ → Type 0) → ((e : ℕ × ℕ) → Decided (P e)) → (es : List (ℕ × ℕ)) → (fs : List (ℕ × ℕ)) × IsPicked P es fs
picked P decide [] = (
  [],
  record {
    ordered = λ i j d h k. absurd (omega arith);
    within = λ e k. k;
    passes = λ e k. Contains-none e k;
    covers = λ e k p. k;
  },
)
picked P decide (e ∷ es) = split (picked P decide es)
  where
    by : (fs : List (ℕ × ℕ)) → IsPicked P es fs → Decided (P e) → Decided (Contains fs e) → (gs : List (ℕ × ℕ)) × IsPicked P (e ∷ es) gs
    by fs r (inr n) q = (
      fs,
      record {
        ordered = r.ordered;
        within = λ f k. Contains-there f e es (r.within f k);
        passes = r.passes;
        covers = λ f k p. ⊎_elim (λ m. absurd (n (subst P m p))) (λ l. r.covers f l p) (Contains-cases f e es k);
      },
    )
    by fs r (inl p) (inl m) = (
      fs,
      record {
        ordered = r.ordered;
        within = λ f k. Contains-there f e es (r.within f k);
        passes = r.passes;
        covers = λ f k z. ⊎_elim (λ q. (let Q : ℕ × ℕ → Type 0 = λ g. Contains fs g in subst Q (sym q) m)) (λ l. r.covers f l z) (Contains-cases f e es k);
      },
    )
    by fs r (inl p) (inr n) = (
      with_step e fs,
      record {
        ordered = with_step_ordered e fs r.ordered n;
        within = λ f k. ⊎_elim (λ l. Contains-there f e es (r.within f l)) (λ q. Contains-here f e es q) (with_step_only e fs f k);
        passes = λ f k. ⊎_elim (λ l. r.passes f l) (λ q. subst P (sym q) p) (with_step_only e fs f k);
        covers = λ f k z. ⊎_elim (λ q. (let Q : ℕ × ℕ → Type 0 = λ g. Contains (with_step e fs) g in subst Q (sym q) (with_step_has e fs))) (λ l. with_step_keeps e fs f (r.covers f l z)) (Contains-cases f e es k);
      },
    )

    split : (fs : List (ℕ × ℕ)) × IsPicked P es fs → (gs : List (ℕ × ℕ)) × IsPicked P (e ∷ es) gs
    split (fs, r) = by fs r (decide e) (decide_contains fs e)

-- ---- the boundary steps and the word

pub steps_exist : (h : Patch) (us : List Triangle) → IsFine h us → (steps : List (ℕ × ℕ)) × AreSteps h steps
steps_exist h us fine =
    let r = picked (λ e. ¬ (IsSide us e.1 e.0)) (λ e. decide_not (decide_is_side us e.1 e.0)) (sides us) in (
      r.0,
      record {
        ordered = r.1.ordered;
        sound = All-from_contains (λ e. IsStep h e.0 e.1) r.0 (λ e k. (fine.edge e.0 e.1).0 (from_sides us e (r.1.within e k), r.1.passes e k));
        complete = λ e s. let z = (fine.edge e.0 e.1).1 s in r.1.covers e (in_sides us e.0 e.1 z.0) z.1;
      },
    )

-- each fine set has a word
pub word_exists : (h : Patch) (us : List Triangle) → IsFine h us → (word : List ℕ) × IsWordOf h us word
word_exists h us fine = let s = steps_exist h us fine in word_from_steps h us s.0 fine s.1

-- ---- the folds

record AreFoldsOf (h : Patch) (x : Triangulation) (es : List (ℕ × ℕ)) (rs : List Fold) : Type 0 where
  ordered : AllPairs FoldBefore rs
  sound : (r : Fold) → Contains rs r → IsFoldOf h x r
  edges : (r : Fold) → Contains rs r → Contains es (r.a, r.b)
  covers : (e : ℕ × ℕ) → Contains es e → (r : Fold) × Contains rs r × (r.a ≡ e.0) × (r.b ≡ e.1)

folds_of_edges : (h : Patch) (x : Triangulation) → IsFine h x.triangles → (es : List (ℕ × ℕ)) → AllPairs EdgeBefore es
    → ((e : ℕ × ℕ) → Contains es e → IsInnerEdge x.triangles e.0 e.1) → (rs : List Fold) × AreFoldsOf h x es rs
folds_of_edges h x fine [] o inner = (
  [],
  record {
    ordered = λ i j d k l. absurd (omega arith);
    sound = λ r k. Contains-none r k;
    edges = λ r k. Contains-none r k;
    covers = λ e k. Contains-none e k;
  },
)
folds_of_edges h x fine (e ∷ es) o inner =
    by (fold_exists h x fine e.0 e.1 (inner e (Contains-here e e es refl)))
    (folds_of_edges h x fine es (AllPairs-tail EdgeBefore e es o) (λ f k. inner f (Contains-there f e es k)))
  where
    first : (a b i j m n : ℕ) → m ≡ a → n ≡ b → IsBefore2 a b i j → IsBefore2 m n i j
    first a b i j m n p q l = let A : ℕ → Type 0 = λ k. IsBefore2 k b i j in let B : ℕ → Type 0 = λ k. IsBefore2 m k i j in subst B (sym q) (subst A (sym p) l)

    by : ((r : Fold) × (r.a ≡ e.0) × (r.b ≡ e.1) × IsFoldOf h x r) → ((rs : List Fold) × AreFoldsOf h x es rs) → (rs : List Fold) × AreFoldsOf h x (e ∷ es) rs
    by (f, fa, fb, ff) (rs, go) = (
      f ∷ rs,
      record {
        ordered = AllPairs-cons FoldBefore f rs
            (All-from_contains (FoldBefore f) rs (λ r k. first e.0 e.1 r.a r.b f.a f.b fa fb (All-contains (EdgeBefore e) es (r.a, r.b) (AllPairs-head EdgeBefore e es o) (go.edges r k))))
            go.ordered;
        sound = λ r k. ⊎_elim (λ q. (let P : Fold → Type 0 = λ z. IsFoldOf h x z in subst P (sym q) ff)) (λ l. go.sound r l) (Contains-cases r f rs k);
        edges = λ r k. ⊎_elim (λ q. Contains-here (r.a, r.b) e es (λ i. ((ap (λ z. z.a) q ∙ fa) i, (ap (λ z. z.b) q ∙ fb) i)))
            (λ l. Contains-there (r.a, r.b) e es (go.edges r l)) (Contains-cases r f rs k);
        covers = λ g k. ⊎_elim (λ q. (f, Contains-here f f rs refl, fa ∙ ap (λ z. z.0) (sym q), fb ∙ ap (λ z. z.1) (sym q)))
            (λ l. let c = go.covers g l in (c.0, Contains-there c.0 f rs c.1, c.2, c.3)) (Contains-cases g e es k);
      },
    )

decide_less : (a b : ℕ) → Decided (a < b)
decide_less a b = by (nat_lt a b) refl
  where
    below : (p q : ℕ) → nat_lt p q ≡ false → p < q → ⊥
    below p q e l = let m = not_lt p q e in absurd (omega (arith, l, m))

    by : (t : Bool) → nat_lt a b ≡ t → Decided (a < b)
    by true p = inl (lt_is a b p)
    by false p = inr (below a b p)

-- the folds of a fine set in order of edges, one for each inner edge
pub folds_exist : (h : Patch) (x : Triangulation) → IsFine h x.triangles → (rs : List Fold) × AreFolds h x rs
folds_exist h x fine = by (picked Inner decide (sides x.triangles))
  where
    Inner : ℕ × ℕ → Type 0
    Inner e = (e.0 < e.1) × IsSide x.triangles e.1 e.0

    decide : (e : ℕ × ℕ) → Decided (Inner e)
    decide e = decide_both (decide_less e.0 e.1) (decide_is_side x.triangles e.1 e.0)

    by : (es : List (ℕ × ℕ)) × IsPicked Inner (sides x.triangles) es → (rs : List Fold) × AreFolds h x rs
    by (es, p) =
        let go = folds_of_edges h x fine es p.ordered (λ e k. let i = p.passes e k in (i.0, from_sides x.triangles e (p.within e k), i.1)) in (
          go.0,
          record {
            ordered = go.1.ordered;
            sound = All-from_contains (IsFoldOf h x) go.0 go.1.sound;
            complete = λ q f.
                let i = fold_edge h x q f in
                let c = go.1.covers (q.a, q.b) (p.covers (q.a, q.b) (in_sides x.triangles q.a q.b i.1) (i.0, i.2)) in
                let P : Fold → Type 0 = λ z. Contains go.0 z in
                subst P (fold_unique h x fine c.0 q (go.1.sound c.0 c.1) f c.2 c.3) c.1;
          },
        )

-- and there is only one such list
pub folds_fixed : (h : Patch) (x : Triangulation) (qs rs : List Fold) → AreFolds h x qs → AreFolds h x rs → qs ≡ rs
folds_fixed h x qs rs l m = listing_unique FoldBefore (IsFoldOf h x) (λ q r p s. before_once q.a q.b r.a r.b p s) qs rs l m
