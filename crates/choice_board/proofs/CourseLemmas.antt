-- Whatever is done with a board, the classes that it hands out are a list without gaps.
use Rattle.std.proofs.Common.{◌≡◌, ◌∙◌, refl, sym, ap, subst, ◌⊎◌, inl, inr, ⊎_elim, ℕ, ◌<◌, List, [], ◌∷◌, ◌++◌, length, Option, Some, arith}
use Rattle.std.specs.Prelude.{All, AllPairs, Contains}
use Rattle.std.proofs.lemmas.List.Elements.{All-append, All-contains, Contains-append_left}
use Rattle.std.proofs.lemmas.List.Kept.{AllPairs-cons}
use Rattle.ntfe_model.specs.Lists.{IsBelow}
use Rattle.ntfe_model.specs.Shapes.{Shape}
use Rattle.ntfe_model.specs.Choices.{IsChoice, IsExtendable}
use Rattle.ntfe_model.specs.Keys.{IsAfter, IsPruned}
use Rattle.ntfe_model.specs.declared.nogood.Nogood.{Nogood}
use Rattle.ntfe_model.proofs.Listings.{Contains-here, Contains-there, Contains-cases, All-from_contains, AllPairs-head}
use Rattle.ntfe_model.proofs.Orders.{after_chain, below_chain, three_ways}
use Rattle.choice_board.specs.States.{State}
use Rattle.choice_board.specs.Starts.{new_board}
use Rattle.choice_board.specs.Telling.{IsTaken, IsBlocked, AreAllBlocked}
use Rattle.choice_board.specs.Courses.{Event, settles, tells, closes, IsStep, IsCourse, class_told, classes_told, newest, IsWithoutGaps}
use Rattle.choice_board.specs.declared.outcome.Outcome.TheVariants.{Class, Wide, Far}
use Rattle.choice_board.specs.declared.record.Found.{Found}
use Rattle.choice_board.specs.declared.record.Found.TheVariants.{Class as FoundClass}
use Rattle.choice_board.specs.Verdicts.{IsTrueOf, pruned_by}
use Rattle.choice_board.specs.declared.verdict.Verdict.{Verdict}
use Rattle.choice_board.specs.declared.verdict.Settled.TheVariants.{Stale, Taken}
use Rattle.choice_board.proofs.SettleLemmas.{blockable}

-- the last clause follows from the one before
finish : (g : Shape) (after : Option (List ℕ)) (classes : List (List ℕ)) (t : State) → t.geometry ≡ g
    → ((c : List ℕ) → IsChoice g c → IsAfter after c → IsAfter t.last c ⊎ Contains classes c ⊎ IsBlocked t c)
    → AreAllBlocked t → 0 < length g.faces → (c : List ℕ) → IsChoice g c → IsAfter after c → Contains classes c ⊎ IsBlocked t c
finish g after classes t e covers blocked some c choice up =
    ⊎_elim (λ above. inr (all c choice above)) (λ p. p) (covers c choice up)
  where
    all : (c' : List ℕ) → IsChoice g c' → IsAfter t.last c' → IsBlocked t c'
    all = let P : Shape → Type 0 = λ h. 0 < length h.faces → (c' : List ℕ) → IsChoice h c' → IsAfter t.last c' → IsBlocked t c' in subst P e blocked some

begins : (g : Shape) (after : Option (List ℕ)) (t : State) → t ≡ new_board g after → IsWithoutGaps g after [] t
begins g after t e =
    let geometry = ap (λ s. s.geometry) e in
    let covers : (c : List ℕ) → IsChoice g c → IsAfter after c → IsAfter t.last c ⊎ Contains [] c ⊎ IsBlocked t c =
    λ c choice up. inl (let P : Option (List ℕ) → Type 0 = λ l. IsAfter l c in subst P (sym (ap (λ s. s.last) e)) up) in
    record {
      geometry = geometry;
      last = ap (λ s. s.last) e;
      falling = λ i j d l m. absurd (omega arith);
      above = λ i d l. absurd (omega arith);
      extendable = λ i d l. absurd (omega arith);
      certified = (let P : State → Type 0 = λ s. All (λ p. IsPruned g p.0 p.1) s.pruned in subst P (sym e) (λ i d l. absurd (omega arith)));
      covers = covers;
      whole = finish g after [] t geometry covers;
    }

-- ---- a call that hands out no class

abbrev AreCertified : Shape → State → Type 0
AreCertified g t = All (λ p. IsPruned g p.0 p.1) t.pruned

certified_same : (g : Shape) (s t : State) → t.pruned ≡ s.pruned → AreCertified g s → AreCertified g t
certified_same g s t e h = subst (All (λ p. IsPruned g p.0 p.1)) (sym e) h

certified_more : (g : Shape) (s t : State) (key : List ℕ) (v : Verdict) → s.geometry ≡ g → IsTrueOf s.geometry key v → t.pruned ≡ s.pruned ++ pruned_by key v → AreCertified g s → AreCertified g t
certified_more g s t key v e true_of f h =
    let P : Shape → Type 0 = λ x. IsTrueOf x key v in
    let here = subst P e true_of in
    subst (All (λ p. IsPruned g p.0 p.1)) (sym f)
    (All-append (λ p. IsPruned g p.0 p.1) s.pruned (pruned_by key v) h (All-from_contains (λ p. IsPruned g p.0 p.1) (pruned_by key v) (λ p q. (blockable g key v here p q).0)))

still : (g : Shape) (after : Option (List ℕ)) (classes : List (List ℕ)) (s t : State) → IsWithoutGaps g after classes s → t.geometry ≡ s.geometry → t.last ≡ s.last
    → ((c : List ℕ) → IsBlocked s c → IsBlocked t c) → AreCertified g t → IsWithoutGaps g after classes t
still g after classes s t w geometry last kept certified =
    let covers : (c : List ℕ) → IsChoice g c → IsAfter after c → IsAfter t.last c ⊎ Contains classes c ⊎ IsBlocked t c =
    λ c choice up.
    ⊎_elim (λ a. inl (let P : Option (List ℕ) → Type 0 = λ l. IsAfter l c in subst P (sym last) a)) (⊎_elim (λ p. inr (inl p)) (λ b. inr (inr (kept c b)))) (w.covers c choice up) in
    record {
      geometry = geometry ∙ w.geometry;
      last = last ∙ w.last;
      falling = w.falling;
      above = w.above;
      extendable = w.extendable;
      certified = certified;
      covers = covers;
      whole = finish g after classes t (geometry ∙ w.geometry) covers;
    }

blocked_more : (s t : State) (more : List (List ℕ × Nogood)) → t.pruned ≡ s.pruned ++ more → (c : List ℕ) → IsBlocked s c → IsBlocked t c
blocked_more s t more e c (p, has, head) =
    let P : List (List ℕ × Nogood) → Type 0 = λ xs. Contains xs p in
    (p, subst P (sym e) (Contains-append_left s.pruned more p has), head)

blocked_same : (s t : State) → t.pruned ≡ s.pruned → (c : List ℕ) → IsBlocked s c → IsBlocked t c
blocked_same s t e c (p, has, head) = let P : List (List ℕ × Nogood) → Type 0 = λ xs. Contains xs p in (p, subst P (sym e) has, head)

-- ---- a class is handed out

-- what is above the newest class is above all of them
above_all : (after : Option (List ℕ)) (classes : List (List ℕ)) (choice : List ℕ) → AllPairs (λ j k. IsBelow k j) classes → IsAfter (newest after classes) choice → All (λ k. IsBelow k choice) classes
above_all after [] choice falling up = λ i d l. absurd (omega arith)
above_all after (k ∷ ks) choice falling up =
    All-from_contains (λ j. IsBelow j choice) (k ∷ ks)
    (λ j p. ⊎_elim (λ e. (let P : List ℕ → Type 0 = λ x. IsBelow x choice in subst P (sym e) up))
    (λ q. below_chain j k choice (All-contains (λ x. IsBelow x k) ks j (AllPairs-head (λ x y. IsBelow y x) k ks falling) q) up)
    (Contains-cases j k ks p))

above_start : (after : Option (List ℕ)) (classes : List (List ℕ)) (choice : List ℕ) → All (IsAfter after) classes → IsAfter (newest after classes) choice → IsAfter after choice
above_start after [] choice all up = up
above_start after (k ∷ ks) choice all up = after_chain after k choice (All-contains (IsAfter after) (k ∷ ks) k all (Contains-here k k ks refl)) up

grows : (g : Shape) (after : Option (List ℕ)) (classes : List (List ℕ)) (s t : State) (choice : List ℕ) (found : Found) → IsWithoutGaps g after classes s → IsTaken s t choice found
    → IsExtendable s.geometry choice → t.last ≡ Some choice → IsWithoutGaps g after (choice ∷ classes) t
grows g after classes s t choice found w k extends last = record {
  geometry = geometry;
  last = last;
  falling = AllPairs-cons (λ x y. IsBelow y x) choice classes (above_all after classes choice w.falling up) w.falling;
  above = with_choice (IsAfter after) (above_start after classes choice w.above up) w.above;
  certified = certified_same g s t k.pruned w.certified;
  extendable = with_choice (IsExtendable g) (let P : Shape → Type 0 = λ h. IsExtendable h choice in subst P w.geometry extends) w.extendable;
  covers = covers;
  whole = finish g after (choice ∷ classes) t geometry covers;
}
  where
    geometry : t.geometry ≡ g
    geometry = k.geometry ∙ w.geometry

    up : IsAfter (newest after classes) choice
    up = let P : Option (List ℕ) → Type 0 = λ l. IsAfter l choice in subst P w.last k.above

    with_choice : (P : List ℕ → Type 0) → P choice → All P classes → All P (choice ∷ classes)
    with_choice P here all = All-from_contains P (choice ∷ classes) (λ j p. ⊎_elim (λ e. subst P (sym e) here) (λ q. All-contains P classes j all q) (Contains-cases j choice classes p))

    between : (c : List ℕ) → IsChoice g c → IsAfter s.last c → IsBelow c choice → IsBlocked s c
    between = let P : Shape → Type 0 = λ h. (c : List ℕ) → IsChoice h c → IsAfter s.last c → IsBelow c choice → IsBlocked s c in subst P w.geometry k.between

    covers : (c : List ℕ) → IsChoice g c → IsAfter after c → IsAfter t.last c ⊎ Contains (choice ∷ classes) c ⊎ IsBlocked t c
    covers c is_choice c_up =
        ⊎_elim
        (λ a. ⊎_elim (λ l. inr (inr (blocked_same s t k.pruned c (between c is_choice a l))))
        (⊎_elim (λ e. inr (inl (Contains-here c choice classes e)))
        (λ l. inl (let P : Option (List ℕ) → Type 0 = λ m. IsAfter m c in subst P (sym last) l)))
        (three_ways c choice))
        (⊎_elim (λ p. inr (inl (Contains-there c choice classes p))) (λ b. inr (inr (blocked_same s t k.pruned c b))))
        (w.covers c is_choice c_up)

-- ---- any calls

step : (g : Shape) (after : Option (List ℕ)) (e : Event) (classes : List (List ℕ)) (s t : State) → IsWithoutGaps g after classes s → IsStep s e t → IsWithoutGaps g after (class_told e ++ classes) t
step g after (settles key v Stale) classes s t w h =
    let same = ap (λ x. x.pruned) h.1.1 in
    still g after classes s t w (ap (λ x. x.geometry) h.1.1) (ap (λ x. x.last) h.1.1) (blocked_same s t same) (certified_same g s t same w.certified)
step g after (settles key v (Taken opened)) classes s t w h =
    still g after classes s t w h.1.1.geometry h.1.1.last (blocked_more s t _ h.1.1.pruned) (certified_more g s t key v w.geometry h.0 h.1.1.pruned w.certified)
step g after (tells (Class choice heights)) classes s t w h =
    grows g after classes s t choice (FoundClass choice heights) w h.0 (record { items = h.0.is_true.0.0; heights = heights; extends = h.0.is_true.0.2 }) h.1
step g after (tells (Wide choice number width)) classes s t w h =
    still g after classes s t w h.0.geometry h.1 (blocked_same s t h.0.pruned) (certified_same g s t h.0.pruned w.certified)
step g after (tells (Far face)) classes s t w h =
    still g after classes s t w h.2.geometry h.3 (blocked_same s t h.2.pruned) (certified_same g s t h.2.pruned w.certified)
step g after closes classes s t w h =
    let same = ap (λ x. x.pruned) h in
    still g after classes s t w (ap (λ x. x.geometry) h) (ap (λ x. x.last) h) (blocked_same s t same) (certified_same g s t same w.certified)

pub without_gaps : (g : Shape) (after : Option (List ℕ)) (events : List Event) (t : State) → IsCourse g after events t → IsWithoutGaps g after (classes_told events) t
without_gaps g after [] t h = begins g after t h
without_gaps g after (e ∷ es) t (s, course, h) = step g after e (classes_told es) s t (without_gaps g after es s course) h
