-- What a board hands out comes next, and where it is over nothing is left.
use Rattle.std.proofs.Common.{◌≡◌, ℕ, ◌+◌, ◌<◌, ◌⊎◌, inl, inr, ⊎_elim, refl, sym, ap, ◌∙◌, subst, arith, List, [], ◌∷◌, ◌++◌, length, Some, None}
use Rattle.std.specs.Prelude.{Option, Contains, All, AllPairs}
use Rattle.std.proofs.lemmas.List.Elements.{All-contains, All-cons, All-nil, Contains-append_left}
use Rattle.ntfe_model.specs.Lists.{IsBelow}
use Rattle.ntfe_model.specs.Shapes.{Shape}
use Rattle.ntfe_model.specs.Choices.{IsExtendable}
use Rattle.ntfe_model.specs.Keys.{IsKey, IsLive, IsAfter}
use Rattle.ntfe_model.proofs.Listings.{Contains-here, Contains-there, Contains-none, AllPairs-head, AllPairs-tail, All-from_contains}
use Rattle.choice_board.specs.Places.{IsIn}
use Rattle.choice_board.specs.Starts.{new_board}
use Rattle.choice_board.specs.States.{State, Holder, IsHolder, place_of, IsSound}
use Rattle.choice_board.specs.Telling.{IsBlocked, IsTaken, IsHandedOut, IsWaiting}
use Rattle.choice_board.specs.declared.record.Record.{Record}
use Rattle.choice_board.specs.declared.record.Found.{Found}
use Rattle.choice_board.specs.declared.record.Found.TheVariants.{Class as FoundClass, Wide as FoundWide, Far as FoundFar}
use Rattle.choice_board.specs.declared.outcome.Outcome.{Outcome}
use Rattle.choice_board.specs.declared.outcome.Outcome.TheVariants.{Class, Wide, Far}
use Rattle.farkas_check.proofs.Refuting.{blocked_refuted}
use Rattle.star_builder.proofs.SomeFaces.{has_face}
use Rattle.steal_workers.specs.Listings.{Listed, Progress, at_start, ComesNext, IsNextOutcome, NoneIsLeft}
use Rattle.steal_workers.specs.Blocks.{MovesTo}
use Rattle.steal_workers.specs.Boards.{IsLiveRecord, IsUnderWay, IsFewer, IsOver, IsAbreast, IsLevel, IsOneOn}
use Rattle.steal_workers.proofs.LiveKeys.{start_live}

-- a choice that begins with the head of a pruned key is not extendable
blocked_not : (s : State) → IsSound s → (choice : List ℕ) → IsBlocked s choice → IsExtendable s.geometry choice → ⊥
blocked_not s sound choice (p, held, begins) e =
    let pruned = All-contains (λ q. Rattle.ntfe_model.specs.Keys.IsPruned s.geometry q.0 q.1) s.pruned p sound.blocked held in
    blocked_refuted s.geometry p.1 p.0 choice sound.shape pruned.1 pruned.2 begins e

-- ---- what is handed out comes next

module _ (l : Listed) (last : Option (List ℕ)) (s t : State) (a : IsLevel l last s) where
  comes_next : (key : List ℕ) (found : Found) → IsTaken s t key found → ComesNext l.geometry last key
  comes_next key found h = record {
    above = subst (λ (x : Option (List ℕ)). IsAfter x key) a.last h.above;
    none_between = λ c e after below.
        (let there : IsExtendable s.geometry c = subst (λ (g : Shape). IsExtendable g c) (sym a.under_way.geometry) e in
        let above : IsAfter s.last c = subst (λ (x : Option (List ℕ)). IsAfter x c) (sym a.last) after in
        blocked_not s a.sound c (h.between c there.items above below) there);
  }

  live_record : (key : List ℕ) (found : Found) → IsTaken s t key found → IsLiveRecord l key found
  live_record key found h = All-contains (λ r. IsLiveRecord l r.key r.found) s.recorded (record { key = key; found = found }) a.under_way.records h.next.recorded

  pub next_outcome : (o : Outcome) → IsHandedOut s t o → IsNextOutcome l last o
  next_outcome (Class choice w) h = (subst (λ (g : Shape). Rattle.ntfe_model.specs.Keys.IsClass g choice w) a.under_way.geometry h.0.is_true.0, comes_next choice (FoundClass choice w) h.0)
  next_outcome (Wide choice step number) h =
      let live = live_record choice (FoundWide choice step number) h.0 in
      (record { items = subst (λ (g : Shape). Rattle.ntfe_model.specs.Choices.IsChoice g choice) a.under_way.geometry h.0.is_true.0.0; live = live.0; wide = live.1 }, comes_next choice (FoundWide choice step number) h.0)
  next_outcome (Far face) (key, ends, taken, same, stops, totals) =
      let k : IsKey s.geometry key = All-contains (λ q. IsKey s.geometry q.key) s.recorded (record { key = key; found = FoundFar }) a.sound.record_keys taken.next.recorded in (
        key,
        record {
          is_key = subst (λ (g : Shape). IsKey g key) a.under_way.geometry k;
          live = live_record key FoundFar taken;
          far = subst (λ (g : Shape). Rattle.ntfe_model.specs.Keys.IsFar g key) a.under_way.geometry taken.is_true;
          ends_at = ends;
        },
        comes_next key FoundFar taken,
      )

pub level : (p : Progress) (s : State) → IsAbreast p s → IsLevel p.listed p.last s
level p s a = record { last = a.last; under_way = a.under_way; sound = a.sound }

-- ---- what is handed out leaves all else under way

pub fewer_taken : (s t : State) (key : List ℕ) (found : Found) → IsTaken s t key found → IsFewer s t
fewer_taken s t key found h = record {
  open_keys = h.open_keys;
  given_out = h.closed;
  geometry = h.geometry;
  recorded = λ r c. subst (λ (rs : List Record). Contains rs r) (sym h.recorded) (Contains-append_left t.recorded (record { key = key; found = found } ∷ []) r c);
}

pub fewer_handed : (s t : State) (o : Outcome) → IsHandedOut s t o → IsFewer s t
fewer_handed s t (Class choice w) h = fewer_taken s t choice (FoundClass choice w) h.0
fewer_handed s t (Wide choice step number) h = fewer_taken s t choice (FoundWide choice step number) h.0
fewer_handed s t (Far face) (key, ends, h, last, stop, totals) = fewer_taken s t key FoundFar h

pub fewer_under_way : (l : Listed) (s t : State) → IsFewer s t → IsUnderWay l s → IsUnderWay l t
fewer_under_way l s t h u = record {
  geometry = h.geometry ∙ u.geometry;
  keys = subst (λ (ks : List (List ℕ)). All (IsLive l.geometry l.start l.width) ks) (sym h.open_keys) u.keys;
  records = All-from_contains (λ r. IsLiveRecord l r.key r.found) t.recorded (λ r c. All-contains (λ x. IsLiveRecord l x.key x.found) s.recorded r u.records (h.recorded r c));
}

-- ---- after a class

module _ (p : Progress) (s t : State) (a : IsAbreast p s) (q : Progress) (later : IsSound t) where
  pub class_abreast : (o : Outcome) → IsHandedOut s t o → MovesTo p q o → IsAbreast q t × (length t.recorded < length s.recorded) × IsFewer s t
  class_abreast (Class choice w) h e = (
    record {
      last = h.1 ∙ sym (ap (λ x. x.last) e);
      under_way = subst (λ (l : Listed). IsUnderWay l t) (sym (ap (λ x. x.listed) e)) (fewer_under_way p.listed s t (fewer_taken s t choice (FoundClass choice w) h.0) a.under_way);
      running = record { not_stopped = h.2; given_out = h.0.closed ∙ a.running.given_out };
      sound = later;
    },
    shorter s.recorded t.recorded (record { key = choice; found = FoundClass choice w }) h.0.recorded,
    fewer_taken s t choice (FoundClass choice w) h.0,
  )
    where
      shorter : (rs us : List Record) (r : Record) → rs ≡ us ++ r ∷ [] → length us < length rs
      shorter rs us r x = let z = ap length x ∙ length_more us r in omega (arith, z)
        where
          length_more : (vs : List Record) (v : Record) → length (vs ++ v ∷ []) ≡ length vs + 1
          length_more [] v = refl
          length_more (u ∷ vs) v = let r2 = length_more vs v in omega (arith, r2)
  class_abreast (Wide choice step number) h e = absurd e
  class_abreast (Far face) h e = absurd e

pub moved_listed : (p q : Progress) (o : Outcome) → MovesTo p q o → q.listed ≡ p.listed
moved_listed p q (Class choice w) e = ap (λ x. x.listed) e
moved_listed p q (Wide choice step number) e = absurd e
moved_listed p q (Far face) e = absurd e

-- ---- fewer outcomes

pub fewer_then : (s t u : State) → IsFewer s t → IsFewer t u → IsFewer s u
fewer_then s t u p q = record {
  open_keys = q.open_keys ∙ p.open_keys;
  given_out = q.given_out ∙ p.given_out;
  geometry = q.geometry ∙ p.geometry;
  recorded = λ r c. p.recorded r (q.recorded r c);
}

pub fewer_self : (s : State) → IsFewer s s
fewer_self s = record { open_keys = refl; given_out = refl; geometry = refl; recorded = λ r c. c }

-- ---- a settled key

pub settled_abreast : (p : Progress) (s t : State) → IsAbreast p s → IsSound t → IsOneOn s t → (IsUnderWay p.listed s → IsUnderWay p.listed t) → IsAbreast p t
settled_abreast p s t a sound o stays = record {
  last = o.last ∙ a.last;
  under_way = stays a.under_way;
  running = record { not_stopped = o.stop ∙ a.running.not_stopped; given_out = o.closed ∙ a.running.given_out };
  sound = sound;
}

-- ---- a new board

pub new_under_way : (l : Listed) → IsSound (new_board l.geometry l.start) → IsUnderWay l (new_board l.geometry l.start)
new_under_way l fresh = record {
  geometry = refl;
  keys = start_live l.geometry l.start l.width fresh.above;
  records = All-nil (λ r. IsLiveRecord l r.key r.found);
}

pub new_abreast : (l : Listed) (s : State) → IsSound s → s ≡ new_board l.geometry l.start → IsAbreast (at_start l) s
new_abreast l s sound e = subst (IsAbreast (at_start l)) (sym e) record {
  last = refl;
  under_way = new_under_way l fresh;
  running = record { not_stopped = refl; given_out = refl };
  sound = fresh;
}
  where
    fresh : IsSound (new_board l.geometry l.start)
    fresh = subst IsSound e sound

-- ---- the end

-- some record of a falling list is the least
least_record : (rs : List Record) → AllPairs (λ q r. IsBelow r.key q.key) rs → 0 < length rs → (r : Record) × Contains rs r × All (λ q. (q ≡ r) ⊎ IsBelow r.key q.key) rs
least_record [] h l = absurd (omega (arith, l))
least_record (x ∷ []) h l = (x, Contains-here x x [] refl, All-cons (λ q. (q ≡ x) ⊎ IsBelow x.key q.key) x [] (inl refl) (All-nil (λ q. (q ≡ x) ⊎ IsBelow x.key q.key)))
least_record (x ∷ y ∷ rs) h l =
    let m = least_record (y ∷ rs) (AllPairs-tail (λ q r. IsBelow r.key q.key) x (y ∷ rs) h) (omega arith) in
    (m.0, Contains-there m.0 x (y ∷ rs) m.1, All-cons (λ q. (q ≡ m.0) ⊎ IsBelow m.0.key q.key) x (y ∷ rs) (inr (All-contains (λ r. IsBelow r.key x.key) (y ∷ rs) m.0 (AllPairs-head (λ q r. IsBelow r.key q.key) x (y ∷ rs) h) m.1)) m.2)

-- where no key is open and nothing can be handed out, nothing is recorded
pub over : (s : State) → IsSound s → IsWaiting s → s.stop ≡ None → s.open_keys ≡ [] → IsOver s
over s sound waits e none = record { no_key = none; no_record = empty s.recorded refl; running = e }
  where
    no_next : (rs : List Record) → s.recorded ≡ rs → 0 < length rs → ⊥
    no_next rs q l =
        let m = least_record rs (subst (λ (us : List Record). AllPairs (λ v r. IsBelow r.key v.key) us) q sound.records_falling) l in
        ⊎_elim (λ n. n e)
        (λ n. n m.0 record {
          recorded = subst (λ (us : List Record). Contains us m.0) (sym q) m.1;
          least = subst (λ (us : List Record). All (λ v. (v ≡ m.0) ⊎ IsBelow m.0.key v.key) us) (sym q) m.2;
          clear = subst (λ (ks : List (List ℕ)). All (IsBelow m.0.key) ks) (sym none) (All-nil (IsBelow m.0.key));
        })
        waits

    empty : (rs : List Record) → s.recorded ≡ rs → s.recorded ≡ []
    empty [] q = q
    empty (r ∷ rs) q = absurd (no_next (r ∷ rs) q (omega arith))

-- where nothing is open or recorded, no extendable choice is left
pub none_left : (s : State) → IsSound s → IsOver s → NoneIsLeft s.geometry s.last
none_left s sound o c e a = let h = sound.held (has_face s.geometry sound.shape) c e.items a in by h.0 h.1 h.2
  where
    by : (h : Holder) → IsHolder s h → IsIn (length s.geometry.faces) (place_of h) c → ⊥
    by (Holder.waits key) k i = Contains-none key (subst (λ (ks : List (List ℕ)). Contains ks key) o.no_key k)
    by (Holder.told r) k i = Contains-none r (subst (λ rs. Contains rs r) o.no_record k)
    by (Holder.blocks q) k i = blocked_not s sound c (q, k, i.1) e
    by (Holder.ends z) k i = let x : None ≡ Some z = sym o.running ∙ k in cc
