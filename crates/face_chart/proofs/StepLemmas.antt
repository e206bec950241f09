-- The list of the boundary steps, made of one part after the other.
use Rattle.std.proofs.Common.{◌≡◌, ℕ, zero, suc, ◌+◌, ◌<◌, ◌≤◌, ◌⊎◌, inl, inr, ⊎_elim, refl, sym, ap, ◌∙◌, subst, arith, List, [], ◌∷◌, ◌++◌, take, length, get_or, append_assoc}
use Rattle.std.specs.Prelude.{AllPairs, Contains}
use Rattle.std.proofs.lemmas.List.{append-nil, take_all}
use Rattle.std.proofs.lemmas.List.Elements.{All-cons, All-nil, All-append, All-weaker, All-contains, Contains-append_left, Contains-append_right, Contains-get_or}
use Rattle.ntfe_model.specs.Lists.{IsBefore2}
use Rattle.ntfe_model.specs.Charts.{Patch, IsStep, AreSteps, spot_numbers}
use Rattle.ntfe_model.proofs.Listings.{AllPairs-append, AllPairs-head, AllPairs-tail, Contains-here, Contains-there, Contains-cases, Contains-none}
use Rattle.face_chart.specs.Steps.{IsStepWith, AddsSteps}
use Rattle.ntfe_model.proofs.Orders.{EdgeBefore}

-- ---- the first numbers of a list

plus_one : (i : ℕ) → i + 1 ≡ suc i
plus_one i = omega arith

more : (ks : List ℕ) (i x : ℕ) → i < length ks → Contains (take (suc i) ks) x → Contains (take i ks) x ⊎ (x ≡ get_or ks i 0)
more [] i x l c = absurd (omega arith)
more (k ∷ ks) zero x l c = by (Contains-cases x k [] c)
  where
    by : (x ≡ k) ⊎ Contains [] x → Contains [] x ⊎ (x ≡ k)
    by (inl e) = inr e
    by (inr d) = inl d
more (k ∷ ks) (suc i) x l c = by (Contains-cases x k (take (suc i) ks) c) (more ks i x (omega arith))
  where
    by : (x ≡ k) ⊎ Contains (take (suc i) ks) x → (Contains (take (suc i) ks) x → Contains (take i ks) x ⊎ (x ≡ get_or ks i 0)) → Contains (k ∷ take i ks) x ⊎ (x ≡ get_or ks i 0)
    by (inl e) rest = inl (Contains-here x k (take i ks) e)
    by (inr d) rest = ⊎_elim (λ q. inl (Contains-there x k (take i ks) q)) (λ q. inr q) (rest d)

kept : (ks : List ℕ) (i x : ℕ) → Contains (take i ks) x → Contains (take (suc i) ks) x
kept [] zero x c = Contains-none x c
kept [] (suc i) x c = Contains-none x c
kept (k ∷ ks) zero x c = Contains-none x c
kept (k ∷ ks) (suc i) x c = by (Contains-cases x k (take i ks) c) (kept ks i x)
  where
    by : (x ≡ k) ⊎ Contains (take i ks) x → (Contains (take i ks) x → Contains (take (suc i) ks) x) → Contains (k ∷ take (suc i) ks) x
    by (inl e) rest = Contains-here x k (take (suc i) ks) e
    by (inr d) rest = Contains-there x k (take (suc i) ks) (rest d)

last : (ks : List ℕ) (i x : ℕ) → i < length ks → x ≡ get_or ks i 0 → Contains (take (suc i) ks) x
last [] i x l e = absurd (omega arith)
last (k ∷ ks) zero x l e = Contains-here x k [] e
last (k ∷ ks) (suc i) x l e = Contains-there x k (take (suc i) ks) (last ks i x (omega arith) e)

-- one more of them
pub taken_more : (ks : List ℕ) (i x : ℕ) → i < length ks → Contains (take (i + 1) ks) x → Contains (take i ks) x ⊎ (x ≡ get_or ks i 0)
taken_more ks i x l c = more ks i x l (let P = λ (n : ℕ). Contains (take n ks) x in subst P (plus_one i) c)

pub taken_kept : (ks : List ℕ) (i x : ℕ) → Contains (take i ks) x → Contains (take (i + 1) ks) x
taken_kept ks i x c = let P = λ (n : ℕ). Contains (take n ks) x in subst P (sym (plus_one i)) (kept ks i x c)

pub taken_last : (ks : List ℕ) (i x : ℕ) → i < length ks → x ≡ get_or ks i 0 → Contains (take (i + 1) ks) x
taken_last ks i x l e = let P = λ (n : ℕ). Contains (take n ks) x in subst P (sym (plus_one i)) (last ks i x l e)

-- of rising numbers, those before a place are less than the one there
pub taken_below : (ks : List ℕ) (i x : ℕ) → AllPairs (λ j k. j < k) ks → i < length ks → Contains (take i ks) x → x < get_or ks i 0
taken_below [] i x r l c = absurd (omega arith)
taken_below (k ∷ ks) zero x r l c = Contains-none x c
taken_below (k ∷ ks) (suc i) x r l c = by (Contains-cases x k (take i ks) c) (taken_below ks i x (AllPairs-tail (λ j m. j < m) k ks r) (omega arith))
  where
    first : k < get_or ks i 0
    first = All-contains (λ m. k < m) ks (get_or ks i 0) (AllPairs-head (λ j m. j < m) k ks r) (Contains-get_or ks i 0 (omega arith))

    by : (x ≡ k) ⊎ Contains (take i ks) x → (Contains (take i ks) x → x < get_or ks i 0) → x < get_or ks i 0
    by (inl e) rest = let f = first in omega (arith, e, f)
    by (inr d) rest = rest d

-- ---- lists of steps

module _ (h : Patch) where
  pub steps_none : (S : ℕ → ℕ → Type 0) (es : List (ℕ × ℕ)) → ((a b : ℕ) → IsStep h a b → S a b → ⊥) → AddsSteps h S es es
  steps_none S es none = record {
    added = [];
    listing = record {
      ordered = λ i j d k l. absurd (omega arith);
      sound = All-nil (IsStepWith h S);
      complete = λ e p. absurd (none e.0 e.1 p.step p.numbers);
    };
    items = sym (append-nil es);
  }

  pub steps_more : (S T R : ℕ → ℕ → Type 0) (old mid new : List (ℕ × ℕ)) → ((a b i j : ℕ) → S a b → T i j → IsBefore2 a b i j)
      → ((a b : ℕ) → S a b → R a b) → ((a b : ℕ) → T a b → R a b) → ((a b : ℕ) → R a b → S a b ⊎ T a b)
      → AddsSteps h S old mid → AddsSteps h T mid new → AddsSteps h R old new
  steps_more S T R old mid new apart f g split a b = record {
    added = a.added ++ b.added;
    listing = record {
      ordered = AllPairs-append EdgeBefore a.added b.added a.listing.ordered b.listing.ordered
          (λ x y p q. apart x.0 x.1 y.0 y.1 (All-contains (IsStepWith h S) a.added x a.listing.sound p).numbers (All-contains (IsStepWith h T) b.added y b.listing.sound q).numbers);
      sound = All-append (IsStepWith h R) a.added b.added
          (All-weaker (IsStepWith h S) (IsStepWith h R) (λ x p. record { step = p.step; numbers = f x.0 x.1 p.numbers }) a.added a.listing.sound)
          (All-weaker (IsStepWith h T) (IsStepWith h R) (λ x p. record { step = p.step; numbers = g x.0 x.1 p.numbers }) b.added b.listing.sound);
      complete = λ x p. ⊎_elim
          (λ s. Contains-append_left a.added b.added x (a.listing.complete x (record { step = p.step; numbers = s })))
          (λ t. Contains-append_right a.added b.added x (b.listing.complete x (record { step = p.step; numbers = t })))
          (split x.0 x.1 p.numbers);
    };
    items = b.items ∙ ap (λ es. es ++ b.added) a.items ∙ append_assoc old a.added b.added;
  }

  pub steps_same : (S T : ℕ → ℕ → Type 0) (old new : List (ℕ × ℕ)) → ((a b : ℕ) → IsStep h a b → S a b → T a b) → ((a b : ℕ) → IsStep h a b → T a b → S a b) → AddsSteps h S old new → AddsSteps h T old new
  steps_same S T old new f g a = record {
    added = a.added;
    listing = record {
      ordered = a.listing.ordered;
      sound = All-weaker (IsStepWith h S) (IsStepWith h T) (λ x p. record { step = p.step; numbers = f x.0 x.1 p.step p.numbers }) a.added a.listing.sound;
      complete = λ x p. a.listing.complete x (record { step = p.step; numbers = g x.0 x.1 p.step p.numbers });
    };
    items = a.items;
  }

  abbrev pub is : ℕ → ℕ → ℕ → ℕ → Type 0
  is i j a b = (a ≡ i) × (b ≡ j)

  pub steps_one : (i j : ℕ) (es new : List (ℕ × ℕ)) → IsStep h i j → new ≡ es ++ (i, j) ∷ [] → AddsSteps h (is i j) es new
  steps_one i j es new s q = record {
    added = (i, j) ∷ [];
    listing = record {
      ordered = λ a b d k l. absurd (omega arith);
      sound = All-cons (IsStepWith h (is i j)) (i, j) [] (record { step = s; numbers = (refl, refl) }) (All-nil (IsStepWith h (is i j)));
      complete = λ x p. Contains-here x (i, j) [] (λ t. (p.numbers.0 t, p.numbers.1 t));
    };
    items = q;
  }

  -- ---- the steps that begin at one point

  abbrev pub from : ℕ → List ℕ → ℕ → ℕ → ℕ → Type 0
  from i ks n a b = (a ≡ i) × Contains (take n ks) b

  pub from_start : (i : ℕ) (ks : List ℕ) (es : List (ℕ × ℕ)) → AddsSteps h (from i ks 0) es es
  from_start i ks es = steps_none (from i ks 0) es (λ a b s p. Contains-none b p.1)

  pub from_more : (i : ℕ) (ks : List ℕ) (n : ℕ) (old mid new : List (ℕ × ℕ)) → AllPairs (λ j k. j < k) ks → n < length ks
      → AddsSteps h (from i ks n) old mid → AddsSteps h (is i (get_or ks n 0)) mid new → AddsSteps h (from i ks (n + 1)) old new
  from_more i ks n old mid new r l =
      steps_more (from i ks n) (is i (get_or ks n 0)) (from i ks (n + 1)) old mid new
      (λ a b c d s t. inr (s.0 ∙ sym t.0, (let k = taken_below ks n b r l s.1 in let e = t.1 in omega (arith, k, e))))
      (λ a b s. (s.0, taken_kept ks n b s.1))
      (λ a b t. (t.0, taken_last ks n b l t.1))
      (λ a b p. ⊎_elim (λ q. inl (p.0, q)) (λ q. inr (p.0, q)) (taken_more ks n b l p.1))

  pub from_end : (i : ℕ) (ks : List ℕ) (n : ℕ) (old new : List (ℕ × ℕ)) → ks ≡ spot_numbers h → length ks ≤ n → AddsSteps h (from i ks n) old new → AddsSteps h (λ a b. a ≡ i) old new
  from_end i ks n old new e l =
      steps_same (from i ks n) (λ a b. a ≡ i) old new (λ a b s p. p.0)
      (λ a b s p. (p, (let P = λ (ms : List ℕ). Contains ms b in subst P (sym e ∙ sym (take_all n ks l)) s.points.1)))

  -- ---- all steps

  abbrev pub upto : List ℕ → ℕ → ℕ → ℕ → Type 0
  upto ks n a b = Contains (take n ks) a

  pub upto_start : (ks : List ℕ) (es : List (ℕ × ℕ)) → AddsSteps h (upto ks 0) es es
  upto_start ks es = steps_none (upto ks 0) es (λ a b s p. Contains-none a p)

  pub upto_more : (ks : List ℕ) (n : ℕ) (old mid new : List (ℕ × ℕ)) → AllPairs (λ j k. j < k) ks → n < length ks
      → AddsSteps h (upto ks n) old mid → AddsSteps h (λ a b. a ≡ get_or ks n 0) mid new → AddsSteps h (upto ks (n + 1)) old new
  upto_more ks n old mid new r l =
      steps_more (upto ks n) (λ a b. a ≡ get_or ks n 0) (upto ks (n + 1)) old mid new
      (λ a b c d s t. inl (let k = taken_below ks n a r l s in omega (arith, k, t)))
      (λ a b s. taken_kept ks n a s)
      (λ a b t. taken_last ks n a l t)
      (λ a b p. taken_more ks n a l p)

  pub upto_end : (ks : List ℕ) (n : ℕ) (new : List (ℕ × ℕ)) → ks ≡ spot_numbers h → length ks ≤ n → AddsSteps h (upto ks n) [] new → AreSteps h new
  upto_end ks n new e l a =
      let P : List (ℕ × ℕ) → Type 0 = AreSteps h in
      subst P (sym a.items) (record {
        ordered = a.listing.ordered;
        sound = All-weaker (IsStepWith h (upto ks n)) (λ x. IsStep h x.0 x.1) (λ x p. p.step) a.added a.listing.sound;
        complete = λ x s. a.listing.complete x (record { step = s; numbers = (let Q = λ (ms : List ℕ). Contains ms x.0 in subst Q (sym e ∙ sym (take_all n ks l)) s.points.0) });
      })

  -- a pair of points that is a step, or is none
  pub pair_step : (i j k : ℕ) (es new : List (ℕ × ℕ)) → j ≡ k → IsStep h i j → new ≡ es ++ (i, j) ∷ [] → AddsSteps h (is i k) es new
  pair_step i j k es new e s q = subst (λ (m : ℕ). AddsSteps h (is i m) es new) e (steps_one i j es new s q)

  pub pair_none : (i j k : ℕ) (es new : List (ℕ × ℕ)) → j ≡ k → (IsStep h i j → ⊥) → es ≡ new → AddsSteps h (is i k) es new
  pair_none i j k es new e never q =
      subst (λ (m : ℕ × List (ℕ × ℕ)). AddsSteps h (is i m.0) es m.1) (λ t. (e t, q t))
      (steps_none (is i j) es (λ a b s p. never (subst (λ (m : ℕ × ℕ). IsStep h m.0 m.1) (λ t. (p.0 t, p.1 t)) s)))
