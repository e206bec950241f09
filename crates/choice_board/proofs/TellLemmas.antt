-- A board that hands out its least outcome skips no choice, and stays sound.
use Rattle.std.proofs.Common.{◌≡◌, ◌≢◌, ◌∙◌, refl, sym, ap, subst, ◌⊎◌, inl, inr, ⊎_elim, ℕ, ◌<◌, ◌≤◌, List, [], ◌∷◌, ◌++◌, length, Some, None, arith}
use Rattle.std.specs.Prelude.{All, AllPairs, Contains}
use Rattle.std.proofs.lemmas.List.{take_all}
use Rattle.std.proofs.lemmas.List.Elements.{All-contains, Contains-append_left, Contains-append_right, Contains-append_cases}
use Rattle.ntfe_model.proofs.Lists.{pairs_first, pairs_across}
use Rattle.ntfe_model.specs.Lists.{IsBelow}
use Rattle.ntfe_model.specs.Shapes.{Shape}
use Rattle.ntfe_model.specs.Choices.{IsChoice}
use Rattle.ntfe_model.specs.Keys.{IsKey, IsAfter}
use Rattle.ntfe_model.proofs.Listings.{Contains-here, Contains-cases, Contains-none, All-from_contains}
use Rattle.ntfe_model.proofs.Orders.{after_chain, below_chain}
use Rattle.choice_board.specs.Places.{Place, under, IsIn}
use Rattle.choice_board.specs.States.{State, Holder, waits, told, blocks, ends, IsHolder, place_of, place_of_record, place_of_stop, IsTrueRecord, IsSound}
use Rattle.choice_board.specs.Telling.{IsNext, IsBlocked, IsTaken, AreAllBlocked}
use Rattle.choice_board.specs.declared.record.Record.{Record}
use Rattle.choice_board.specs.declared.record.Found.{Found}
use Rattle.choice_board.specs.declared.record.Found.TheVariants.{Class, Wide, Far}
use Rattle.choice_board.specs.declared.record.Stop.{Stop}
use Rattle.choice_board.specs.declared.totals.Totals.{Totals}
use Rattle.choice_board.proofs.KeyOrder.{not_below_itself}
use Rattle.choice_board.proofs.PlaceLemmas.{under_not_below, cone_not_below}
use Rattle.choice_board.proofs.Holders.{GivesWay, AreParts, one_part, still_held, still_apart}

-- ---- the last of the recorded outcomes is the least

abbrev pub IsRowEnd : State → List Record → Record → Type 0
IsRowEnd s rest r = s.recorded ≡ rest ++ r ∷ []

the_one : {X : Type 0} (x y : X) → Contains (x ∷ []) y → y ≡ x
the_one x y p = ⊎_elim (λ e. e) (λ q. Contains-none y q) (Contains-cases y x [] p)

end_contains : (s : State) (rest : List Record) (r : Record) → IsRowEnd s rest r → Contains s.recorded r
end_contains s rest r e = let P : List Record → Type 0 = λ xs. Contains xs r in subst P (sym e) (Contains-append_right rest (r ∷ []) r (Contains-here r r [] refl))

rest_contains : (s : State) (rest : List Record) (r q : Record) → IsRowEnd s rest r → Contains rest q → Contains s.recorded q
rest_contains s rest r q e p = let P : List Record → Type 0 = λ xs. Contains xs q in subst P (sym e) (Contains-append_left rest (r ∷ []) q p)

rest_above : (s : State) (rest : List Record) (r q : Record) → IsSound s → IsRowEnd s rest r → Contains rest q → IsBelow r.key q.key
rest_above s rest r q sound e p =
    let R : Record → Record → Type 0 = λ x y. IsBelow y.key x.key in
    pairs_across R rest (r ∷ []) (subst (AllPairs R) e sound.records_falling) q r p (Contains-here r r [] refl)

rest_or_end : (s : State) (rest : List Record) (r q : Record) → IsRowEnd s rest r → Contains s.recorded q → (q ≡ r) ⊎ Contains rest q
rest_or_end s rest r q e p =
    let P : List Record → Type 0 = λ xs. Contains xs q in
    ⊎_elim (λ c. inr c) (λ c. inl (the_one r q c)) (Contains-append_cases rest (r ∷ []) q (subst P e p))

pub end_is_next : (s : State) (rest : List Record) (r : Record) → IsSound s → IsRowEnd s rest r → All (IsBelow r.key) s.open_keys → IsNext s r
end_is_next s rest r sound e clear = record {
  recorded = end_contains s rest r e;
  least = All-from_contains (λ q. (q ≡ r) ⊎ IsBelow r.key q.key) s.recorded (λ q p. ⊎_elim (λ f. inl f) (λ c. inr (rest_above s rest r q sound e c)) (rest_or_end s rest r q e p));
  clear = clear;
}

-- ---- each choice below it is blocked

record_not_below : (n : ℕ) (key c : List ℕ) (found : Found) → 1 ≤ length key → length key ≤ n → IsIn n (place_of_record key found) c → IsBelow c key → ⊥
record_not_below n key c (Class choice w) some most p h = under_not_below n key c p h
record_not_below n key c (Wide choice step number) some most p h = under_not_below n key c p h
record_not_below n key c Far some most p h = cone_not_below n key c some most p h

-- an open key or a recorded outcome at or above r has no choice below r
not_above : (c low high : List ℕ) → IsBelow c low → (low ≡ high) ⊎ IsBelow low high → IsBelow c high
not_above c low high h (inl e) = subst (IsBelow c) e h
not_above c low high h (inr l) = below_chain c low high h l

pub blocked_below : (s : State) (r : Record) → IsSound s → s.stop ≡ None → IsNext s r
    → (c : List ℕ) → IsChoice s.geometry c → IsAfter s.last c → IsBelow c r.key → IsBlocked s c
blocked_below s r sound running next c choice after below = by (sound.held some c choice after)
  where
    g : Shape
    g = s.geometry

    key : IsKey s.geometry r.key
    key = All-contains (λ q. IsKey s.geometry q.key) s.recorded r sound.record_keys next.recorded

    some : 0 < length s.geometry.faces
    some = let a = key.some in let b = key.at_most in omega arith

    by : (h : Holder) × IsHolder s h × IsIn (length s.geometry.faces) (place_of h) c → IsBlocked s c
    by (waits k, has, p) =
        let is_key : IsKey g k = All-contains (IsKey g) s.open_keys k sound.keys has in
        let up : IsBelow r.key k = All-contains (IsBelow r.key) s.open_keys k next.clear has in
        absurd (cone_not_below (length g.faces) k c is_key.some is_key.at_most p (below_chain c r.key k below up))
    by (told q, has, p) =
        let is_key : IsKey g q.key = All-contains (λ x. IsKey g x.key) s.recorded q sound.record_keys has in
        let up : (q ≡ r) ⊎ IsBelow r.key q.key = All-contains (λ x. (x ≡ r) ⊎ IsBelow r.key x.key) s.recorded q next.least has in
        absurd (record_not_below (length g.faces) q.key c q.found is_key.some is_key.at_most p
        (not_above c r.key q.key below (⊎_elim (λ e. inl (ap (λ x. x.key) (sym e))) (λ l. inr l) up)))
    by (blocks b, has, p) = (b, has, p.1)
    by (ends x, has, p) = absurd (let e : None ≡ Some x = sym running ∙ has in cc)

-- what is known of the record that is taken
pub taken : (s t : State) (rest : List Record) (r : Record) → IsSound s → s.stop ≡ None → IsRowEnd s rest r → All (IsBelow r.key) s.open_keys
    → t.recorded ≡ rest → t.open_keys ≡ s.open_keys → t.pruned ≡ s.pruned → t.geometry ≡ s.geometry → t.closed ≡ s.closed → IsTaken s t r.key r.found
taken s t rest r sound running e clear f open_keys pruned geometry closed =
    let next = end_is_next s rest r sound e clear in
    record {
      running = running;
      next = next;
      is_true = All-contains (λ q. IsTrueRecord s.geometry q.key q.found) s.recorded r sound.records next.recorded;
      above = All-contains (λ q. IsAfter s.last q.key) s.recorded r sound.records_above next.recorded;
      between = blocked_below s r sound running next;
      recorded = e ∙ ap (λ xs. xs ++ r ∷ []) (sym f);
      open_keys = open_keys;
      pruned = pruned;
      geometry = geometry;
      closed = closed;
    }

-- ---- a class is handed out

abbrev pub after_class : State → List Record → List ℕ → Totals → State
after_class s rest key totals = record s { recorded = rest; last = Some key; totals = totals }

all_rest : (P : Record → Type 0) (s : State) (rest : List Record) (r : Record) → IsRowEnd s rest r → All P s.recorded → All P rest
all_rest P s rest r e h = All-from_contains P rest (λ q p. All-contains P s.recorded q h (rest_contains s rest r q e p))

pub class_sound : (s : State) (rest : List Record) (r : Record) (totals : Totals) → IsSound s → s.stop ≡ None → IsRowEnd s rest r → All (IsBelow r.key) s.open_keys
    → length r.key ≡ length s.geometry.faces → place_of_record r.key r.found ≡ under r.key → IsSound (after_class s rest r.key totals)
class_sound s rest r totals sound running e clear long place = record {
  shape = sound.shape;
  keys = sound.keys;
  falling = sound.falling;
  above = clear;
  record_keys = all_rest (λ q. IsKey s.geometry q.key) s rest r e sound.record_keys;
  records = all_rest (λ q. IsTrueRecord s.geometry q.key q.found) s rest r e sound.records;
  records_falling = (let R : Record → Record → Type 0 = λ x y. IsBelow y.key x.key in pairs_first R rest (r ∷ []) (subst (AllPairs R) e sound.records_falling));
  records_above = All-from_contains (λ q. IsBelow r.key q.key) rest (λ q p. rest_above s rest r q sound e p);
  blocked = sound.blocked;
  once = sound.once;
  held = λ some c choice up. by c up (sound.held some c choice (after_chain s.last r.key c above up));
  apart = λ h i c p q. sound.apart h i c (old h p) (old i q);
}
  where
    above : IsAfter s.last r.key
    above = All-contains (λ q. IsAfter s.last q.key) s.recorded r sound.records_above (end_contains s rest r e)

    new : State
    new = after_class s rest r.key totals

    old : (h : Holder) → IsHolder (after_class s rest r.key totals) h → IsHolder s h
    old (waits k) p = p
    old (told q) p = rest_contains s rest r q e p
    old (blocks b) p = p
    old (ends x) p = p

    -- the class itself is not above itself
    itself : (c : List ℕ) → IsBelow r.key c → IsIn (length s.geometry.faces) (place_of_record r.key r.found) c → ⊥
    itself c up p =
        let P : Place → Type 0 = λ x. IsIn (length s.geometry.faces) x c in
        let q : IsIn (length s.geometry.faces) (under r.key) c = subst P place p in
        let short : length c ≤ length r.key = (let a = q.0 in omega arith) in
        let same : c ≡ r.key = sym (take_all (length r.key) c short) ∙ q.1 in
        not_below_itself r.key (subst (IsBelow r.key) same up)

    by : (c : List ℕ) → IsBelow r.key c → (h : Holder) × IsHolder s h × IsIn (length s.geometry.faces) (place_of h) c
        → (h : Holder) × IsHolder (after_class s rest r.key totals) h × IsIn (length s.geometry.faces) (place_of h) c
    by c up (waits k, has, p) = (waits k, has, p)
    by c up (told q, has, p) =
        ⊎_elim
        (λ f. absurd (let P : Record → Type 0 = λ x. IsIn (length s.geometry.faces) (place_of_record x.key x.found) c in itself c up (subst P f p)))
        (λ a. (told q, a, p))
        (rest_or_end s rest r q e has)
    by c up (blocks b, has, p) = (blocks b, has, p)
    by c up (ends x, has, p) = (ends x, has, p)

-- ---- the listing ends

abbrev pub after_stop : State → List Record → Stop → State
after_stop s rest x = record s { recorded = rest; stop = Some x }

pub stop_sound : (s : State) (rest : List Record) (r : Record) (x : Stop) → IsSound s → s.stop ≡ None → IsRowEnd s rest r
    → place_of_record r.key r.found ≡ place_of_stop x → IsSound (after_stop s rest x)
stop_sound s rest r x sound running e place = record {
  shape = sound.shape;
  keys = sound.keys;
  falling = sound.falling;
  above = sound.above;
  record_keys = all_rest (λ q. IsKey s.geometry q.key) s rest r e sound.record_keys;
  records = all_rest (λ q. IsTrueRecord s.geometry q.key q.found) s rest r e sound.records;
  records_falling = (let R : Record → Record → Type 0 = λ y z. IsBelow z.key y.key in pairs_first R rest (r ∷ []) (subst (AllPairs R) e sound.records_falling));
  records_above = all_rest (λ q. IsAfter s.last q.key) s rest r e sound.records_above;
  blocked = sound.blocked;
  once = sound.once;
  held = λ some. still_held s.geometry s.last s new (told r) (ends x ∷ []) way parts (sound.held some);
  apart = still_apart s.geometry s new (told r) (ends x ∷ []) way parts sound.apart;
}
  where
    new : State
    new = after_stop s rest x

    parts : AreParts s.geometry (place_of_record r.key r.found) (ends x ∷ [])
    parts = let P : Place → Type 0 = λ p. AreParts s.geometry p (ends x ∷ []) in subst P (sym place) (one_part s.geometry (ends x))

    way : GivesWay s (after_stop s rest x) (told r) (ends x ∷ [])
    way = record { had = end_contains s rest r e; from = from; stays = stays; comes = comes }
      where
        from : (h : Holder) → IsHolder (after_stop s rest x) h → (IsHolder s h × (h ≢ told r)) ⊎ Contains (ends x ∷ []) h
        from (waits k) p = inl (p, λ f. cc)
        from (told q) p = inl (rest_contains s rest r q e p, λ f. not_below_itself r.key (let same : q ≡ r = cc in let P : Record → Type 0 = λ y. IsBelow r.key y.key in subst P same (rest_above s rest r q sound e p)))
        from (blocks b) p = inl (p, λ f. cc)
        from (ends y) p = inr (let same : y ≡ x = (let q : Some x ≡ Some y = p in cc) in Contains-here (ends y) (ends x) [] (ap ends same))

        stays : (h : Holder) → IsHolder s h → (h ≡ told r) ⊎ IsHolder (after_stop s rest x) h
        stays (waits k) p = inr p
        stays (told q) p = ⊎_elim (λ f. inl (ap told f)) (λ a. inr a) (rest_or_end s rest r q e p)
        stays (blocks b) p = inr p
        stays (ends y) p = absurd (let f : None ≡ Some y = sym running ∙ p in cc)

        comes : (h : Holder) → Contains (ends x ∷ []) h → IsHolder (after_stop s rest x) h
        comes h p = subst (IsHolder (after_stop s rest x)) (sym (the_one (ends x) h p)) refl

-- ---- where nothing is open or recorded, and nothing ended the listing

pub all_blocked : (s : State) → IsSound s → s.open_keys ≡ [] → s.recorded ≡ [] → s.stop ≡ None → AreAllBlocked s
all_blocked s sound closed told_all running some choice is above = by (sound.held some choice is above)
  where
    by : (h : Holder) × IsHolder s h × IsIn (length s.geometry.faces) (place_of h) choice → IsBlocked s choice
    by (waits k, has, p) = Contains-none k (subst (λ (ks : List (List ℕ)). Contains ks k) closed has)
    by (told r, has, p) = Contains-none r (subst (λ (rs : List Record). Contains rs r) told_all has)
    by (blocks b, has, p) = (b, has, p.1)
    by (ends x, has, p) = absurd (let e : None ≡ Some x = sym running ∙ has in cc)
