-- What answers for the choices of a closed key, and that each choice keeps exactly one holder.
use Rattle.std.proofs.Common.{◌≡◌, ◌≢◌, ◌∙◌, refl, sym, subst, ◌⊎◌, inl, inr, ⊎_elim, ℕ, List, [], ◌∷◌, ◌++◌, length, map, Option, Some, None}
use Rattle.std.specs.Prelude.{Contains}
use Rattle.ntfe_model.specs.Shapes.{Shape}
use Rattle.ntfe_model.specs.Choices.{IsChoice}
use Rattle.ntfe_model.specs.Keys.{IsKey, IsAfter}
use Rattle.ntfe_model.proofs.Listings.{Contains-here, Contains-there, Contains-cases, Contains-none}
use Rattle.choice_board.specs.Places.{Place, cone, under, IsIn, raised, first_under}
use Rattle.choice_board.specs.Verdicts.{IsTrueOf, opened_by, recorded_by, pruned_by}
use Rattle.choice_board.specs.States.{State, Holder, waits, told, blocks, IsHolder, place_of}
use Rattle.choice_board.specs.declared.verdict.Verdict.{Verdict}
use Rattle.choice_board.specs.declared.verdict.Verdict.TheVariants.{End, Pruned, Class, Wide, Far, Descend}
use Rattle.choice_board.specs.declared.record.Record.{Record}
use Rattle.choice_board.proofs.ItemNumbers.{end_has_none}
use Rattle.choice_board.proofs.PlaceLemmas.{cone_parts, under_in, raised_in, under_apart, first_in, first_all}

-- the holders share the choices of a place: each lies in it, no list of numbers has two, each choice of it has one
pub record AreParts (g : Shape) (old : Place) (news : List Holder) : Type 0 where
  pub inside : (h : Holder) (c : List ℕ) → Contains news h → IsIn (length g.faces) (place_of h) c → IsIn (length g.faces) old c
  pub apart : (h i : Holder) (c : List ℕ) → Contains news h → Contains news i → IsIn (length g.faces) (place_of h) c → IsIn (length g.faces) (place_of i) c → h ≡ i
  pub covers : (c : List ℕ) → IsChoice g c → IsIn (length g.faces) old c → (h : Holder) × Contains news h × IsIn (length g.faces) (place_of h) c

no_parts : (g : Shape) (old : Place) → ((c : List ℕ) → IsChoice g c → IsIn (length g.faces) old c → ⊥) → AreParts g old []
no_parts g old none = record {
  inside = λ h c p q. Contains-none h p;
  apart = λ h i c p q r s. Contains-none h p;
  covers = λ c p q. absurd (none c p q);
}

pub one_part : (g : Shape) (a : Holder) → AreParts g (place_of a) (a ∷ [])
one_part g a = record {
  inside = λ h c p q. (let P : Holder → Type 0 = λ x. IsIn (length g.faces) (place_of x) c in subst P (only h p) q);
  apart = λ h i c p q r s. only h p ∙ sym (only i q);
  covers = λ c p q. (a, Contains-here a a [] refl, q);
}
  where
    only : (h : Holder) → Contains (a ∷ []) h → h ≡ a
    only h p = ⊎_elim (λ e. e) (λ q. Contains-none h q) (Contains-cases h a [] p)

two_parts : (g : Shape) (old : Place) (a b : Holder)
    → ((c : List ℕ) → IsIn (length g.faces) (place_of a) c → IsIn (length g.faces) old c)
    → ((c : List ℕ) → IsIn (length g.faces) (place_of b) c → IsIn (length g.faces) old c)
    → ((c : List ℕ) → IsIn (length g.faces) (place_of a) c → IsIn (length g.faces) (place_of b) c → ⊥)
    → ((c : List ℕ) → IsIn (length g.faces) old c → IsIn (length g.faces) (place_of a) c ⊎ IsIn (length g.faces) (place_of b) c)
    → AreParts g old (a ∷ b ∷ [])
two_parts g old a b first second never split = record {
  inside = λ h c p q. ⊎_elim (λ e. first c (moved h a c e q)) (λ e. second c (moved h b c e q)) (which h p);
  apart = λ h i c p q r s.
      ⊎_elim
      (λ e. ⊎_elim (λ f. e ∙ sym f) (λ f. absurd (never c (moved h a c e r) (moved i b c f s))) (which i q))
      (λ e. ⊎_elim (λ f. absurd (never c (moved i a c f s) (moved h b c e r))) (λ f. e ∙ sym f) (which i q))
      (which h p);
  covers = λ c p q.
      ⊎_elim (λ r. (a, Contains-here a a (b ∷ []) refl, r)) (λ r. (b, Contains-there b a (b ∷ []) (Contains-here b b [] refl), r)) (split c q);
}
  where
    which : (h : Holder) → Contains (a ∷ b ∷ []) h → (h ≡ a) ⊎ (h ≡ b)
    which h p = ⊎_elim (λ e. inl e) (λ q. inr (⊎_elim (λ e. e) (λ r. Contains-none h r) (Contains-cases h b [] q))) (Contains-cases h a (b ∷ []) p)

    moved : (h i : Holder) (c : List ℕ) → h ≡ i → IsIn (length g.faces) (place_of h) c → IsIn (length g.faces) (place_of i) c
    moved h i c e q = let P : Holder → Type 0 = λ x. IsIn (length g.faces) (place_of x) c in subst P e q

-- ---- the holders that a verdict brings

abbrev pub told_if : Option Record → List Holder
told_if None = []
told_if (Some r) = told r ∷ []

abbrev pub news_of : List ℕ → Verdict → List Holder
news_of key v = map waits (opened_by key v) ++ (told_if (recorded_by key v) ++ map blocks (pruned_by key v))

-- what begins with the key, and the cone of the raised key, share the key's cone
head_and_raised : (g : Shape) (key : List ℕ) (a : Holder) → IsKey g key → place_of a ≡ under key → AreParts g (cone key) (waits (raised key) ∷ a ∷ [])
head_and_raised g key a k e =
    two_parts g (cone key) (waits (raised key)) a
    (λ c p. raised_in n key c k.some p)
    (λ c p. under_in n key c k.some (there c p))
    (λ c p q. under_apart n key c k.some k.at_most (there c q) p)
    (λ c p. ⊎_elim (λ q. inr (back c q)) (λ q. inl q) (cone_parts n key c k.some k.at_most p))
  where
    n : ℕ
    n = length g.faces

    there : (c : List ℕ) → IsIn (length g.faces) (place_of a) c → IsIn (length g.faces) (under key) c
    there c p = let P : Place → Type 0 = λ x. IsIn (length g.faces) x c in subst P e p

    back : (c : List ℕ) → IsIn (length g.faces) (under key) c → IsIn (length g.faces) (place_of a) c
    back c p = let P : Place → Type 0 = λ x. IsIn (length g.faces) x c in subst P (sym e) p

pub news_are_parts : (g : Shape) (key : List ℕ) (v : Verdict) → IsKey g key → IsTrueOf g key v → AreParts g (cone key) (news_of key v)
news_are_parts g key End k t = no_parts g (cone key) (λ c p q. end_has_none g key c k.some k.at_most t p q)
news_are_parts g key (Pruned m) k t = head_and_raised g key (blocks (key, m)) k refl
news_are_parts g key (Class w) k t = head_and_raised g key _ k refl
news_are_parts g key (Wide step number) k t = head_and_raised g key _ k refl
news_are_parts g key Far k t = one_part g _
news_are_parts g key Descend k t =
    let n = length g.faces in
    two_parts g (cone key) (waits (first_under key)) (waits (raised key))
    (λ c p. under_in n key c k.some (first_in n key c p))
    (λ c p. raised_in n key c k.some p)
    (λ c p q. under_apart n key c k.some k.at_most (first_in n key c p) q)
    (λ c p. ⊎_elim (λ q. inl (first_all n key c t.0 q)) (λ q. inr q) (cone_parts n key c k.some k.at_most p))

-- ---- one holder gives way to others

-- the holders of t are those of s but the old one, and the new ones
pub record GivesWay (s t : State) (old : Holder) (news : List Holder) : Type 0 where
  pub had : IsHolder s old
  pub from : (h : Holder) → IsHolder t h → (IsHolder s h × (h ≢ old)) ⊎ Contains news h
  pub stays : (h : Holder) → IsHolder s h → (h ≡ old) ⊎ IsHolder t h
  pub comes : (h : Holder) → Contains news h → IsHolder t h

abbrev pub HoldsAll : Shape → Option (List ℕ) → State → Type 0
HoldsAll g last s = (c : List ℕ) → IsChoice g c → IsAfter last c → (h : Holder) × IsHolder s h × IsIn (length g.faces) (place_of h) c

abbrev pub HoldsOnce : Shape → State → Type 0
HoldsOnce g s = (h i : Holder) (c : List ℕ) → IsHolder s h → IsHolder s i → IsIn (length g.faces) (place_of h) c → IsIn (length g.faces) (place_of i) c → h ≡ i

pub still_held : (g : Shape) (last : Option (List ℕ)) (s t : State) (old : Holder) (news : List Holder) → GivesWay s t old news → AreParts g (place_of old) news
    → HoldsAll g last s → HoldsAll g last t
still_held g last s t old news w parts held c choice after = by (held c choice after)
  where
    by : (h : Holder) × IsHolder s h × IsIn (length g.faces) (place_of h) c → (h : Holder) × IsHolder t h × IsIn (length g.faces) (place_of h) c
    by (h, has, p) =
        ⊎_elim
        (λ e. (let P : Holder → Type 0 = λ x. IsIn (length g.faces) (place_of x) c in
        let r = parts.covers c choice (subst P e p) in
        (r.0, w.comes r.0 r.1, r.2)))
        (λ q. (h, q, p))
        (w.stays h has)

pub still_apart : (g : Shape) (s t : State) (old : Holder) (news : List Holder) → GivesWay s t old news → AreParts g (place_of old) news
    → HoldsOnce g s → HoldsOnce g t
still_apart g s t old news w parts once h i c a b p q =
    ⊎_elim
    (λ x. ⊎_elim (λ y. once h i c x.0 y.0 p q) (λ y. absurd (x.1 (once h old c x.0 w.had p (parts.inside i c y q)))) (w.from i b))
    (λ x. ⊎_elim (λ y. absurd (y.1 (once i old c y.0 w.had q (parts.inside h c x p)))) (λ y. parts.apart h i c x y p q) (w.from i b))
    (w.from h a)
