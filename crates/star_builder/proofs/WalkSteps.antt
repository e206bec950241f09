-- The steps of a walk over ridges, one ridge after the other.
use Rattle.std.proofs.Common.{◌≡◌, ◌≢◌, ℕ, ◌+◌, ◌<◌, ◌≤◌, ◌⊎◌, inl, inr, ⊎_elim, refl, sym, ap, ◌∙◌, subst, arith, ℤ, List, [], ◌∷◌, ◌++◌, length, take, get_or, true}
use Rattle.std.specs.Prelude.{Contains}
use Rattle.std.specs.List.{list_any}
use Rattle.std.specs.Cmp.Lexicographic.{pointwise}
use Rattle.std.specs.Bool.{nat_eq}
use Rattle.std.proofs.lemmas.List.{get_or_default, get_or_append_left, take_more, take_all, append_assoc, append-nil}
use Rattle.std.proofs.lemmas.List.Folds.{Any-from_list_any}
use Rattle.std.proofs.lemmas.List.Elements.{Contains-append_left, Contains-append_right, Contains-append_cases, Contains-get_or}
use Rattle.ntfe_nums.specs.Vectors.{Vector}
use Rattle.ntfe_model.specs.Stars.{IsOrder, IsOuterRidge, IsBeyond}
use Rattle.ntfe_model.specs.declared.point.Point.{Point}
use Rattle.ntfe_model.proofs.Listings.{Contains-here, Contains-cases, Contains-none}
use Rattle.ntfe_model.specs.Pairs.{entry}
use Rattle.ntfe_model.specs.Points.{place_of_point}
use Rattle.ntfe_model.specs.Reflexive.{IsTight}
use Rattle.ntfe_model.specs.Shapes.{Shape, IsShape}
use Rattle.ntfe_nums.proofs.Signs.{same_or}
use Rattle.star_builder.specs.Walks.{IsCrossedIn, IsMemberIn, IsStep, IsWalked}
use Rattle.star_builder.proofs.DualLemmas.{dual_unique}
use Rattle.star_builder.proofs.LowSimplices.{has_first, has_second, has_third, has_fourth}
use Rattle.star_builder.proofs.RestrictLemmas.{same_lists}
use Rattle.star_builder.proofs.WalkEnds.{all_reached}

module _ (ms : List Vector) (xs : List Point) (w : List ℤ) (order : List ℕ) (s : List ℕ) where
  abbrev Step : List ℕ → List (List ℕ) → List (List ℕ) → Type 0
  Step = IsStep ms xs w order s

  only_one : (x n : ℕ) → Contains (x ∷ []) n → x ≡ n
  only_one x n h = ⊎_elim (λ q. sym q) (λ r. absurd (Contains-none n r)) (Contains-cases n x [] h)

  pub step_none : (old : List (List ℕ)) → Step [] old old
  step_none old = record { added = []; items = sym (append-nil old); sound = λ t h. absurd (Contains-none t h); crossed = λ n h. absurd (Contains-none n h) }

  -- nothing is added for x
  step_kept : (x : ℕ) (old : List (List ℕ)) → IsOuterRidge ms xs s x ⊎ ((t : List ℕ) × IsBeyond ms xs w order s x t × Contains old t) → Step (x ∷ []) old old
  step_kept x old h = record {
    added = [];
    items = sym (append-nil old);
    sound = λ t c. absurd (Contains-none t c);
    crossed = λ n c. subst (λ j. IsOuterRidge ms xs s j ⊎ ((t : List ℕ) × IsBeyond ms xs w order s j t × Contains old t)) (only_one x n c) h;
  }

  pub step_outer : (x : ℕ) (old : List (List ℕ)) → IsOuterRidge ms xs s x → Step (x ∷ []) old old
  step_outer x old o = step_kept x old (inl o)

  pub step_there : (x : ℕ) (old : List (List ℕ)) (t : List ℕ) → IsBeyond ms xs w order s x t → Contains old t → Step (x ∷ []) old old
  step_there x old t b c = step_kept x old (inr (t, b, c))

  pub step_one : (x : ℕ) (old new : List (List ℕ)) (t : List ℕ) → IsBeyond ms xs w order s x t → new ≡ old ++ t ∷ [] → Step (x ∷ []) old new
  step_one x old new t b e = record {
    added = t ∷ [];
    items = e;
    sound = λ u c. ⊎_elim (λ q. (x, subst (λ (y : List ℕ). IsBeyond ms xs w order s x y) (sym q) b)) (λ r. absurd (Contains-none u r)) (Contains-cases u t [] c);
    crossed = λ n c. subst (λ j. IsOuterRidge ms xs s j ⊎ ((t : List ℕ) × IsBeyond ms xs w order s j t × Contains new t)) (only_one x n c)
        (inr (t, b, subst (λ (ts : List (List ℕ)). Contains ts t) (sym e) (Contains-append_right old (t ∷ []) t (Contains-here t t [] refl))));
  }

  pub step_more : (some more : List ℕ) (old mid new : List (List ℕ)) → Step some old mid → Step more mid new → Step (some ++ more) old new
  step_more some more old mid new p q = record {
    added = p.added ++ q.added;
    items = q.items ∙ ap (λ (ts : List (List ℕ)). ts ++ q.added) p.items ∙ append_assoc old p.added q.added;
    sound = λ t c. ⊎_elim (p.sound t) (q.sound t) (Contains-append_cases p.added q.added t c);
    crossed = λ n c. ⊎_elim
        (λ l. ⊎_elim inl (λ b. inr (b.0, b.1, subst (λ (ts : List (List ℕ)). Contains ts b.0) (sym q.items) (Contains-append_left mid q.added b.0 b.2))) (p.crossed n l))
        (λ r. q.crossed n r) (Contains-append_cases some more n c);
  }

  -- ---- a loop over the points

  pub step_next : (n : ℕ) (old mid new : List (List ℕ)) → n < length s → Step (take n s) old mid → Step (get_or s n 0 ∷ []) mid new → Step (take (n + 1) s) old new
  step_next n old mid new l p q = subst (λ (ks : List ℕ). Step ks old new) (sym (take_more s n 0 l)) (step_more (take n s) (get_or s n 0 ∷ []) old mid new p q)

  pub step_end : (n : ℕ) (old new : List (List ℕ)) → length s ≤ n → Step (take n s) old new → Step s old new
  step_end n old new l p = subst (λ (ks : List ℕ). Step ks old new) (take_all n s l) p

-- ---- what is there

pub found_list : (tss : List (List ℕ)) (t : List ℕ) → list_any (λ y. pointwise nat_eq y t) tss ≡ true → Contains tss t
found_list tss t e =
    let f = Any-from_list_any (λ (y : List ℕ). pointwise nat_eq y t) tss e in
    let q = same_lists f.1 t f.4 in
    subst (λ (u : List ℕ). Contains tss u) q (f.0, f.2, f.3)

-- ---- the walk in one facet

module _ (ms : List Vector) (xs : List Point) (w : List ℤ) (order : List ℕ) (facet : ℕ) where
  -- the member beyond lies in the same facet
  beyond_in : (s t : List ℕ) (without : ℕ) → IsMemberIn ms xs w order facet s → IsBeyond ms xs w order s without t → IsMemberIn ms xs w order facet t
  beyond_in s t without (r, inside) b = (b.is, (inside.0, λ k h. subst (λ v. IsTight v (place_of_point xs k)) same (b.both.1.1 k h)))
    where
      on : (k : ℕ) → Contains (r.a ∷ r.b ∷ r.c ∷ r.d ∷ []) k → Contains s k
      on k h = subst (λ (ks : List ℕ). Contains ks k) (sym r.is) h

      first : Contains s r.a
      first = on r.a (has_first r.a r.b r.c r.d)

      second : Contains s r.b
      second = on r.b (has_second r.a r.b r.c r.d)

      third : Contains s r.c
      third = on r.c (has_third r.a r.b r.c r.d)

      fourth : Contains s r.d
      fourth = on r.d (has_fourth r.a r.b r.c r.d)

      same : entry ms b.facet ≡ entry ms facet
      same =
          dual_unique (place_of_point xs r.a) (place_of_point xs r.b) (place_of_point xs r.c) (place_of_point xs r.d) (entry ms b.facet) (entry ms facet) r.independent
          (b.both.0.1 r.a first) (b.both.0.1 r.b second) (b.both.0.1 r.c third) (b.both.0.1 r.d fourth) (inside.1 r.a first) (inside.1 r.b second) (inside.1 r.c third) (inside.1 r.d fourth)

  pub walked_first : (first : List ℕ) → IsMemberIn ms xs w order facet first → (reached : List (List ℕ)) → reached ≡ first ∷ [] → IsWalked ms xs w order facet 0 reached
  walked_first first m reached e = subst (λ (ts : List (List ℕ)). IsWalked ms xs w order facet 0 ts) (sym e) (record {
    members = λ t c. ⊎_elim (λ q. subst (λ (u : List ℕ). IsMemberIn ms xs w order facet u) (sym q) m) (λ h. absurd (Contains-none t h)) (Contains-cases t first [] c);
    crossed = λ j l. absurd (omega (arith, l));
    start = first;
    some = Contains-here first first [] refl;
  })

  pub walked_next : (n : ℕ) (old new : List (List ℕ)) (s : List ℕ) → n < length old → s ≡ get_or old n [] → IsStep ms xs w order s s old new → IsWalked ms xs w order facet n old → IsWalked ms xs w order facet (n + 1) new
  walked_next n old new s l e step h = record {
    members = λ t c. ⊎_elim (h.members t) (λ a. let b = step.sound t a in beyond_in s t b.0 (h.members s among) b.1)
        (Contains-append_cases old step.added t (subst (λ (ts : List (List ℕ)). Contains ts t) step.items c));
    crossed = λ j k k2. ⊎_elim (λ q. subst (λ (u : List ℕ). IsCrossedIn ms xs w order new u) (e ∙ sym (kept n l) ∙ ap (λ i. get_or new i []) (sym q)) step.crossed)
        (λ q. let jn : j < n = less j n k q in let jl : j < length old = omega (arith, jn, l) in
        subst (λ (u : List ℕ). IsCrossedIn ms xs w order new u) (sym (kept j jl)) (more (get_or old j []) (h.crossed j jn jl))) (same_or j n);
    start = h.start;
    some = into h.start h.some;
  }
    where
      less : (j n : ℕ) → j < n + 1 → j ≢ n → j < n
      less j n l q = grind arith

      into : (t : List ℕ) → Contains old t → Contains new t
      into t c = subst (λ (ts : List (List ℕ)). Contains ts t) (sym step.items) (Contains-append_left old step.added t c)

      among : Contains old s
      among = subst (λ (u : List ℕ). Contains old u) (sym e) (Contains-get_or old n [] l)

      kept : (j : ℕ) → j < length old → get_or new j [] ≡ get_or old j []
      kept j k = ap (λ (ts : List (List ℕ)). get_or ts j []) step.items ∙ get_or_append_left old step.added [] j k

      more : (u : List ℕ) → IsCrossedIn ms xs w order old u → IsCrossedIn ms xs w order new u
      more u f n c = ⊎_elim inl (λ b. inr (b.0, b.1, into b.0 b.2)) (f n c)

-- where all are crossed, all members are there
pub walked_whole : (g : Shape) → IsShape g → (w : List ℤ) (order : List ℕ) → IsOrder (length g.points) order → (facet : ℕ) (reached : List (List ℕ))
    → IsWalked g.pair.dual g.points w order facet (length reached) reached → (t : List ℕ) → IsMemberIn g.pair.dual g.points w order facet t → Contains reached t
walked_whole g s w order all facet reached h t m =
    all_reached g s w order all facet m.1.0 t m reached h.members
    (λ u c. subst (λ (y : List ℕ). IsCrossedIn g.pair.dual g.points w order reached y) (sym (get_or_default reached c.0 u [] c.1) ∙ c.2) (h.crossed c.0 c.1 c.1))
    h.start h.some

pub walked_all : (ms : List Vector) (xs : List Point) (w : List ℤ) (order : List ℕ) (facet n : ℕ) (reached : List (List ℕ)) → length reached ≤ n → IsWalked ms xs w order facet n reached
    → IsWalked ms xs w order facet (length reached) reached
walked_all ms xs w order facet n reached l h = record { members = h.members; crossed = λ j k k2. h.crossed j (omega (arith, k, l)) k; start = h.start; some = h.some }
