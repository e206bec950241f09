-- A settled board is sound.
use Rattle.std.proofs.Common.{◌≡◌, ◌≢◌, ◌∙◌, refl, sym, ap, subst, ◌⊎◌, inl, inr, ⊎_elim, ℕ, ◌+◌, ◌<◌, ◌≤◌, List, [], ◌∷◌, ◌++◌, length, map, Option, Some, None, arith}
use Rattle.std.specs.Prelude.{All, AllPairs, Contains}
use Rattle.std.proofs.lemmas.List.Elements.{All-contains, All-append, Contains-append_left, Contains-append_right, Contains-append_cases}
use Rattle.ntfe_model.proofs.Lists.{Contains-map, Contains-from_map}
use Rattle.ntfe_model.specs.Lists.{IsBelow}
use Rattle.ntfe_model.specs.Shapes.{Shape}
use Rattle.ntfe_model.specs.Keys.{IsKey, IsAfter, IsPruned, stem, last_number, item_limit}
use Rattle.ntfe_model.specs.declared.nogood.Nogood.{Nogood}
use Rattle.ntfe_model.proofs.Listings.{Contains-here, Contains-cases, Contains-none, All-from_contains, AllPairs-append}
use Rattle.ntfe_model.proofs.Orders.{after_chain, three_ways}
use Rattle.choice_board.specs.Places.{cone, under, IsIn, raised, first_under}
use Rattle.choice_board.specs.Verdicts.{IsTrueOf, opened_by, recorded_by, pruned_by}
use Rattle.choice_board.specs.States.{State, Holder, waits, told, blocks, ends, IsHolder, place_of_record, IsTrueRecord, IsSound}
use Rattle.choice_board.specs.Settling.{IsSettled}
use Rattle.choice_board.specs.declared.verdict.Verdict.{Verdict}
use Rattle.choice_board.specs.declared.verdict.Verdict.TheVariants.{End, Pruned, Class, Wide, Far, Descend}
use Rattle.choice_board.specs.declared.record.Record.{Record}
use Rattle.choice_board.specs.declared.record.Found.{Found}
use Rattle.choice_board.specs.declared.record.Found.TheVariants.{Class as FoundClass, Wide as FoundWide, Far as FoundFar}
use Rattle.choice_board.proofs.KeyOrder.{not_below_itself}
use Rattle.choice_board.proofs.PlaceLemmas.{under_in, padded, padded_under, below_raised, below_first, raised_length, length_snoc, stem_snoc, last_snoc, key_parts}
use Rattle.choice_board.proofs.Holders.{GivesWay, AreParts, news_of, told_if, news_are_parts, still_held, still_apart}

-- ---- the key gives way to what the verdict brings

told_in : (o : Option Record) (r : Record) → o ≡ Some r → Contains (told_if o) (told r)
told_in None r e = cc
told_in (Some q) r e = Contains-here (told r) (told q) [] (let f : q ≡ r = cc in sym (ap told f))

told_from : (o : Option Record) (h : Holder) → Contains (told_if o) h → (r : Record) × (o ≡ Some r) × (h ≡ told r)
told_from None h p = Contains-none h p
told_from (Some r) h p = (r, refl, ⊎_elim (λ e. e) (λ q. Contains-none h q) (Contains-cases h (told r) [] p))

pub gives_way : (s t : State) (key : List ℕ) (v : Verdict) → Contains s.open_keys key → IsSettled s t key v → GivesWay s t (waits key) (news_of key v)
gives_way s t key v has k = record { had = has; from = from; stays = stays; comes = comes }
  where
    rest : List Holder
    rest = told_if (recorded_by key v) ++ map blocks (pruned_by key v)

    from : (h : Holder) → IsHolder t h → (IsHolder s h × (h ≢ waits key)) ⊎ Contains (news_of key v) h
    from (waits j) p =
        ⊎_elim (λ q. inl (q.0, λ e. q.1 (let f : j ≡ key = cc in f))) (λ q. inr (Contains-append_left (map waits (opened_by key v)) _ (waits j) (Contains-map waits (opened_by key v) j q)))
        ((k.open_keys j).0 p)
    from (told r) p =
        ⊎_elim (λ q. inl (q, λ e. cc)) (λ e. inr (Contains-append_right (map waits (opened_by key v)) _ (told r) (Contains-append_left (told_if (recorded_by key v)) _ (told r) (told_in (recorded_by key v) r e))))
        ((k.recorded r).0 p)
    from (blocks b) p =
        let P : List (List ℕ × Nogood) → Type 0 = λ xs. Contains xs b in
        ⊎_elim (λ q. inl (q, λ e. cc))
        (λ q. inr (Contains-append_right (map waits (opened_by key v)) _ (blocks b) (Contains-append_right (told_if (recorded_by key v)) _ (blocks b) (Contains-map blocks (pruned_by key v) b q))))
        (Contains-append_cases s.pruned (pruned_by key v) b (subst P k.pruned p))
    from (ends x) p = inl (sym k.stop ∙ p, λ e. cc)

    stays : (h : Holder) → IsHolder s h → (h ≡ waits key) ⊎ IsHolder t h
    stays (waits j) p =
        ⊎_elim (λ l. inr ((k.open_keys j).1 (inl (p, λ e. not_below_itself key (let P : List ℕ → Type 0 = λ i. IsBelow i key in subst P e l)))))
        (⊎_elim (λ e. inl (ap waits e)) (λ l. inr ((k.open_keys j).1 (inl (p, λ e. not_below_itself key (let P : List ℕ → Type 0 = λ i. IsBelow key i in subst P e l))))))
        (three_ways j key)
    stays (told r) p = inr ((k.recorded r).1 (inl p))
    stays (blocks b) p = inr (let P : List (List ℕ × Nogood) → Type 0 = λ xs. Contains xs b in subst P (sym k.pruned) (Contains-append_left s.pruned (pruned_by key v) b p))
    stays (ends x) p = inr (k.stop ∙ p)

    comes : (h : Holder) → Contains (news_of key v) h → IsHolder t h
    comes h p =
        ⊎_elim
        (λ q. (let r = Contains-from_map waits (opened_by key v) h q in
        subst (IsHolder t) (sym r.2) ((k.open_keys r.0).1 (inr r.1))))
        (λ q. ⊎_elim
        (λ u. (let r = told_from (recorded_by key v) h u in subst (IsHolder t) (sym r.2) ((k.recorded r.0).1 (inr r.1))))
        (λ u. (let r = Contains-from_map blocks (pruned_by key v) h u in
        let P : List (List ℕ × Nogood) → Type 0 = λ xs. Contains xs r.0 in
        subst (IsHolder t) (sym r.2) (subst P (sym k.pruned) (Contains-append_right s.pruned (pruned_by key v) r.0 r.1))))
        (Contains-append_cases (told_if (recorded_by key v)) (map blocks (pruned_by key v)) h q))
        (Contains-append_cases (map waits (opened_by key v)) (told_if (recorded_by key v) ++ map blocks (pruned_by key v)) h p)

-- ---- what comes is true, and above

raised_is_key : (g : Shape) (key : List ℕ) → IsKey g key → last_number key < item_limit g → IsKey g (raised key)
raised_is_key g key k less =
    let l = raised_length key k.some in
    let a = stem_snoc (stem key) (last_number key + 1) in
    let b = last_snoc (stem key) (last_number key + 1) in
    record { some = omega arith; at_most = omega arith; last = omega arith; others = subst (All (λ n. n < item_limit g)) (sym a) k.others }

first_is_key : (g : Shape) (key : List ℕ) → IsKey g key → last_number key < item_limit g → length key < length g.faces → IsKey g (first_under key)
first_is_key g key k less more =
    let P : ℕ → Type 0 = λ n. n < item_limit g in
    let l = length_snoc key 0 in
    let b = last_snoc key 0 in
    let all : All P key = subst (All P) (sym (key_parts key k.some)) (All-append P (stem key) (last_number key ∷ []) k.others (one (last_number key) less)) in
    record { some = omega arith; at_most = omega arith; last = omega arith; others = subst (All P) (sym (stem_snoc key 0)) all }
  where
    one : (x : ℕ) → x < item_limit g → All (λ n. n < item_limit g) (x ∷ [])
    one x h = All-from_contains (λ n. n < item_limit g) (x ∷ []) (λ y p. ⊎_elim (λ e. (let P : ℕ → Type 0 = λ n. n < item_limit g in subst P (sym e) h)) (λ q. Contains-none y q) (Contains-cases y x [] p))

-- what is said of the opened keys
abbrev IsOpenable : Shape → List ℕ → List ℕ → Type 0
IsOpenable g key j = IsKey g j × IsBelow key j

raise_only : (g : Shape) (key : List ℕ) → IsKey g key → last_number key < item_limit g → (j : List ℕ) → Contains (raised key ∷ []) j → IsOpenable g key j
raise_only g key k less j p =
    ⊎_elim (λ e. subst (IsOpenable g key) (sym e) (raised_is_key g key k less, below_raised key k.some)) (λ q. Contains-none j q) (Contains-cases j (raised key) [] p)

pub openable : (g : Shape) (key : List ℕ) (v : Verdict) → IsKey g key → IsTrueOf g key v → (j : List ℕ) → Contains (opened_by key v) j → IsOpenable g key j
openable g key End k t j p = Contains-none j p
openable g key (Pruned n) k t j p = raise_only g key k t.0 j p
openable g key (Class w) k t j p = raise_only g key k t.1 j p
openable g key (Wide step number) k t j p = raise_only g key k t.1 j p
openable g key Far k t j p = Contains-none j p
openable g key Descend k t j p =
    ⊎_elim (λ e. subst (IsOpenable g key) (sym e) (first_is_key g key k t.1 t.0, below_first key)) (λ q. raise_only g key k t.1 j q)
    (Contains-cases j (first_under key) (raised key ∷ []) p)

-- what is said of a recorded outcome
abbrev IsRecordable : Shape → List ℕ → Record → Type 0
IsRecordable g key r = IsTrueRecord g r.key r.found × (r.key ≡ key)

recordable_at : (g : Shape) (key : List ℕ) (q r : Record) → Some q ≡ Some r → IsRecordable g key q → IsRecordable g key r
recordable_at g key q r e t = let f : q ≡ r = cc in subst (IsRecordable g key) f t

pub recordable : (g : Shape) (key : List ℕ) (v : Verdict) (r : Record) → IsTrueOf g key v → recorded_by key v ≡ Some r → IsRecordable g key r
recordable g key End r t e = cc
recordable g key (Pruned n) r t e = cc
recordable g key (Class w) r t e = recordable_at g key _ r e ((t, refl), refl)
recordable g key (Wide step number) r t e = recordable_at g key _ r e ((t, refl), refl)
recordable g key Far r t e = recordable_at g key _ r e (t, refl)
recordable g key Descend r t e = cc

abbrev pub IsBlockable : Shape → List ℕ → List ℕ × Nogood → Type 0
IsBlockable g key p = IsPruned g p.0 p.1 × (p.0 ≡ key)

pub blockable : (g : Shape) (key : List ℕ) (v : Verdict) → IsTrueOf g key v → (p : List ℕ × Nogood) → Contains (pruned_by key v) p → IsBlockable g key p
blockable g key End t p c = Contains-none p c
blockable g key (Pruned n) t p c = ⊎_elim (λ e. subst (IsBlockable g key) (sym e) (t, refl)) (λ q. Contains-none p q) (Contains-cases p (key, n) [] c)
blockable g key (Class w) t p c = Contains-none p c
blockable g key (Wide step number) t p c = Contains-none p c
blockable g key Far t p c = Contains-none p c
blockable g key Descend t p c = Contains-none p c

-- ---- an open key is in no other part of the board

record_has_padded : (n : ℕ) (key : List ℕ) (found : Found) → 1 ≤ length key → length key ≤ n → IsIn n (place_of_record key found) (padded n key)
record_has_padded n key (FoundClass choice w) some most = padded_under n key most
record_has_padded n key (FoundWide choice step number) some most = padded_under n key most
record_has_padded n key FoundFar some most = under_in n key (padded n key) some (padded_under n key most)

pub not_recorded : (s : State) → IsSound s → (key : List ℕ) → Contains s.open_keys key → (r : Record) → Contains s.recorded r → r.key ≢ key
not_recorded s sound key has r p e =
    let n = length s.geometry.faces in
    let k : IsKey s.geometry key = All-contains (IsKey s.geometry) s.open_keys key sound.keys has in
    let P : List ℕ → Type 0 = λ j. IsIn n (place_of_record j r.found) (padded n key) in
    let same : told r ≡ waits key =
    sound.apart (told r) (waits key) (padded n key) p has (subst P (sym e) (record_has_padded n key r.found k.some k.at_most))
    (under_in n key (padded n key) k.some (padded_under n key k.at_most)) in
    cc

not_pruned : (s : State) → IsSound s → (key : List ℕ) → Contains s.open_keys key → (p : List ℕ × Nogood) → Contains s.pruned p → p.0 ≢ key
not_pruned s sound key has p q e =
    let n = length s.geometry.faces in
    let k : IsKey s.geometry key = All-contains (IsKey s.geometry) s.open_keys key sound.keys has in
    let P : List ℕ → Type 0 = λ j. IsIn n (under j) (padded n key) in
    let same : blocks p ≡ waits key =
    sound.apart (blocks p) (waits key) (padded n key) q has (subst P (sym e) (padded_under n key k.at_most))
    (under_in n key (padded n key) k.some (padded_under n key k.at_most)) in
    cc

-- ---- a settled board is sound

few_pruned : (key : List ℕ) (v : Verdict) → AllPairs (λ p q. p.0 ≢ q.0) (pruned_by key v)
few_pruned key v = λ i j d less within. absurd (let l = at_most key v in omega arith)
  where
    at_most : (k : List ℕ) (w : Verdict) → length (pruned_by k w) ≤ 1
    at_most k End = omega arith
    at_most k (Pruned n) = omega arith
    at_most k (Class w) = omega arith
    at_most k (Wide step number) = omega arith
    at_most k Far = omega arith
    at_most k Descend = omega arith

-- with the geometry and the last class of the old board
sound_here : (s t : State) (key : List ℕ) (v : Verdict) → IsSound s → Contains s.open_keys key → IsTrueOf s.geometry key v → IsSettled s t key v
    → AllPairs (λ j k. IsBelow k j) t.open_keys → AllPairs (λ q r. IsBelow r.key q.key) t.recorded
    → IsSound (record t { geometry = s.geometry; last = s.last })
sound_here s t key v sound has true_of k falling records_falling = record {
  shape = sound.shape;
  keys = All-from_contains (IsKey g) t.open_keys (λ j p. ⊎_elim (λ q. All-contains (IsKey g) s.open_keys j sound.keys q.0) (λ q. (openable g key v is_key true_of j q).0) ((k.open_keys j).0 p));
  falling = falling;
  above = All-from_contains (IsAfter s.last) t.open_keys (λ j p. ⊎_elim (λ q. All-contains (IsAfter s.last) s.open_keys j sound.above q.0) (λ q. after_chain s.last key j after (openable g key v is_key true_of j q).1) ((k.open_keys j).0 p));
  record_keys = All-from_contains (λ r. IsKey g r.key) t.recorded (λ r p. ⊎_elim (λ q. All-contains (λ r'. IsKey g r'.key) s.recorded r sound.record_keys q) (λ e. subst (IsKey g) (sym (recordable g key v r true_of e).1) is_key) ((k.recorded r).0 p));
  records = All-from_contains (λ r. IsTrueRecord g r.key r.found) t.recorded (λ r p. ⊎_elim (λ q. All-contains (λ r'. IsTrueRecord g r'.key r'.found) s.recorded r sound.records q) (λ e. (recordable g key v r true_of e).0) ((k.recorded r).0 p));
  records_falling = records_falling;
  records_above = All-from_contains (λ r. IsAfter s.last r.key) t.recorded (λ r p. ⊎_elim (λ q. All-contains (λ r'. IsAfter s.last r'.key) s.recorded r sound.records_above q) (λ e. subst (IsAfter s.last) (sym (recordable g key v r true_of e).1) after) ((k.recorded r).0 p));
  blocked = subst (All (λ p. IsPruned g p.0 p.1)) (sym k.pruned) (All-append (λ p. IsPruned g p.0 p.1) s.pruned (pruned_by key v) sound.blocked (All-from_contains (λ p. IsPruned g p.0 p.1) (pruned_by key v) (λ p q. (blockable g key v true_of p q).0)));
  once = subst (AllPairs (λ p q. p.0 ≢ q.0)) (sym k.pruned)
      (AllPairs-append (λ p q. p.0 ≢ q.0) s.pruned (pruned_by key v) sound.once (few_pruned key v)
      (λ p q a b e. not_pruned s sound key has p a (e ∙ (blockable g key v true_of q b).1)));
  held = λ some. still_held g s.last s t (waits key) (news_of key v) way parts (sound.held some);
  apart = still_apart g s t (waits key) (news_of key v) way parts sound.apart;
}
  where
    g : Shape
    g = s.geometry

    is_key : IsKey s.geometry key
    is_key = All-contains (IsKey s.geometry) s.open_keys key sound.keys has

    after : IsAfter s.last key
    after = All-contains (IsAfter s.last) s.open_keys key sound.above has

    way : GivesWay s t (waits key) (news_of key v)
    way = gives_way s t key v has k

    parts : AreParts s.geometry (cone key) (news_of key v)
    parts = news_are_parts s.geometry key v is_key true_of

pub settled_sound : (s t : State) (key : List ℕ) (v : Verdict) → IsSound s → Contains s.open_keys key → IsTrueOf s.geometry key v → IsSettled s t key v
    → AllPairs (λ j k. IsBelow k j) t.open_keys → AllPairs (λ q r. IsBelow r.key q.key) t.recorded → IsSound t
settled_sound s t key v sound has true_of k falling records_falling =
    let e = sym k.geometry in
    let f = sym k.last in
    subst IsSound (λ i. record t { geometry = e i; last = f i }) (sound_here s t key v sound has true_of k falling records_falling)
