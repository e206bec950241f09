-- What a settled key opens, and the keys that a board begins with, may be come to.
use Rattle.std.proofs.Common.{◌≡◌, ℕ, ◌+◌, ◌<◌, ◌≤◌, ◌⊎◌, inl, inr, ⊎_elim, sym, ap, ◌∙◌, subst, arith, List, [], ◌∷◌, length, take, map, slice_index, Bool, true, false, cond, nat_eq, Some, None, length-append}
use Rattle.std.specs.Prelude.{Contains, All, Option}
use Rattle.std.specs.List.{range_with_len}
use Rattle.std.proofs.lemmas.List.{take-append-le, take-take, length-take-le}
use Rattle.std.proofs.Math.Seq.{take-append_seam}
use Rattle.std.proofs.lemmas.List.Elements.{All-contains, All-cons, All-nil}
use Rattle.ntfe_model.specs.Shapes.{Shape}
use Rattle.ntfe_model.specs.Keys.{stem, last_number, AllItemsExist, IsRefutedAt, IsAfter, IsNoPrefixOf, BeginsWith, IsLive}
use Rattle.ntfe_model.proofs.Listings.{Contains-cases, Contains-none, All-from_contains, listing_range}
use Rattle.choice_board.specs.Places.{raised, first_under}
use Rattle.choice_board.specs.Starts.{key_past, start_keys}
use Rattle.choice_board.specs.Verdicts.{opened_by, recorded_by}
use Rattle.choice_board.specs.declared.verdict.Verdict.{Verdict}
use Rattle.choice_board.specs.declared.verdict.Verdict.TheVariants.{End, Pruned, Class, Wide, Far, Descend}
use Rattle.choice_board.specs.declared.record.Record.{Record}
use Rattle.choice_board.specs.declared.record.Found.TheVariants.{Class as FoundClass, Wide as FoundWide, Far as FoundFar}
use Rattle.choice_board.proofs.PlaceLemmas.{stem_length, key_parts, raised_length, below_raised, below_first}
use Rattle.ntfe_model.proofs.Examples.{first_live}
use Rattle.ntfe_model.proofs.Lists.{Contains-from_map}
use Rattle.ntfe_model.proofs.Orders.{after_chain}
use Rattle.steal_workers.specs.Listings.{Listed}
use Rattle.steal_workers.specs.Boards.{IsLiveRecord}
use Rattle.steal_workers.specs.Probing.{IsProbed}

-- ---- what is opened

front_of_raised : (key : List ℕ) (k : ℕ) → 1 ≤ length key → k < length key → take k (raised key) ≡ take k key
front_of_raised key k some l =
    let n = stem_length key some in
    let m : k ≤ length (stem key) = omega arith in
    take-append-le k (stem key) ((last_number key + 1) ∷ []) m ∙ sym (take-append-le k (stem key) (last_number key ∷ []) m) ∙ ap (take k) (sym (key_parts key some))

module _ (g : Shape) (start : Option (List ℕ)) (width : ℕ) where
  -- all items of the head exist and the solver is not infeasible on it, unless it is a prefix of the start
  abbrev IsOpenStem : List ℕ → Type 0
  IsOpenStem head = IsNoPrefixOf start head → AllItemsExist g head × ¬ (IsRefutedAt g width head)

  pub live_raised : (key : List ℕ) → 1 ≤ length key → IsLive g start width key → IsLive g start width (raised key)
  live_raised key some live = record {
    after = after_chain start key (raised key) live.after (below_raised key some);
    open_stems = λ k p l. (let m : k < length key = (let e = raised_length key some in omega arith) in
        subst IsOpenStem (sym (front_of_raised key k some m)) (live.open_stems k p m));
  }

  pub live_first : (key : List ℕ) → IsLive g start width key → AllItemsExist g key → ¬ (IsRefutedAt g width key) → IsLive g start width (first_under key)
  live_first key live items open_key = record {
    after = after_chain start key (first_under key) live.after (below_first key);
    open_stems = λ k p l. by k p (let e = length-append key (0 ∷ []) in let d : (k < length key) ⊎ (k ≡ length key) = grind (arith, e, l) in d);
  }
    where
      by : (k : ℕ) → 0 < k → (k < length key) ⊎ (k ≡ length key) → IsOpenStem (take k (first_under key))
      by k p (inl m) = subst IsOpenStem (sym (take-append-le k key (0 ∷ []) (omega arith))) (live.open_stems k p m)
      by k p (inr e) = subst IsOpenStem (sym (ap (λ j. take j (first_under key)) e ∙ take-append_seam key (0 ∷ []))) (λ n. (items, open_key))

  one_raised : (key : List ℕ) → 1 ≤ length key → IsLive g start width key → (j : List ℕ) → Contains (raised key ∷ []) j → IsLive g start width j
  one_raised key some live j c = ⊎_elim (λ e. subst (IsLive g start width) (sym e) (live_raised key some live)) (λ d. Contains-none j d) (Contains-cases j (raised key) [] c)

  pub opened_live : (key : List ℕ) (v : Verdict) → 1 ≤ length key → IsLive g start width key → IsProbed g width key v → (j : List ℕ) → Contains (opened_by key v) j → IsLive g start width j
  opened_live key End some live probed j c = Contains-none j c
  opened_live key (Pruned n) some live probed j c = one_raised key some live j c
  opened_live key (Class w) some live probed j c = one_raised key some live j c
  opened_live key (Wide step number) some live probed j c = one_raised key some live j c
  opened_live key Far some live probed j c = Contains-none j c
  opened_live key Descend some live probed j c =
      ⊎_elim (λ e. subst (IsLive g start width) (sym e) (live_first key live probed.0 probed.1)) (one_raised key some live j) (Contains-cases j (first_under key) (raised key ∷ []) c)

-- ---- what is recorded

record_of : (x r : Record) → Some x ≡ Some r → x ≡ r
record_of x r e = cc

pub recorded_live : (l : Listed) (key : List ℕ) (v : Verdict) → IsLive l.geometry l.start l.width key → IsProbed l.geometry l.width key v → (r : Record) → recorded_by key v ≡ Some r → IsLiveRecord l r.key r.found
recorded_live l key End live probed r e = cc
recorded_live l key (Pruned n) live probed r e = cc
recorded_live l key (Class w) live probed r e = along (record_of (record { key = key; found = FoundClass key w }) r e)
  where
    along : record { key = key; found = FoundClass key w } ≡ r → IsLiveRecord l r.key r.found
    along q = subst (λ (x : Record). IsLiveRecord l x.key x.found) q tt
recorded_live l key (Wide step number) live probed r e = along (record_of (record { key = key; found = FoundWide key step number }) r e)
  where
    along : record { key = key; found = FoundWide key step number } ≡ r → IsLiveRecord l r.key r.found
    along q = subst (λ (x : Record). IsLiveRecord l x.key x.found) q (live, probed)
recorded_live l key Far live probed r e = along (record_of (record { key = key; found = FoundFar }) r e)
  where
    along : record { key = key; found = FoundFar } ≡ r → IsLiveRecord l r.key r.found
    along q = subst (λ (x : Record). IsLiveRecord l x.key x.found) q live
recorded_live l key Descend live probed r e = cc

-- ---- what a board begins with

-- the front of a key past the start is a front of the start
past_front : (a : List ℕ) (i k : ℕ) → i < length a → k < length (key_past a i) → take k (key_past a i) ≡ take k a
past_front a i k l m =
    let n : length (take i a) ≡ i = length-take-le i a (omega (arith, l)) in
    let e : length (key_past a i) ≡ length (take i a) + 1 = length-append (take i a) ((slice_index a i + 1) ∷ []) in
    let low : k ≤ i = omega (arith, m, n, e) in
    take-append-le k (take i a) ((slice_index a i + 1) ∷ []) (omega (arith, low, n)) ∙ take-take k i a low

past_within : (a : List ℕ) (i k : ℕ) → i < length a → k < length (key_past a i) → k < length a
past_within a i k l m =
    let n : length (take i a) ≡ i = length-take-le i a (omega (arith, l)) in
    let e : length (key_past a i) ≡ length (take i a) + 1 = length-append (take i a) ((slice_index a i + 1) ∷ []) in
    omega (arith, m, n, e, l)

past_live : (g : Shape) (width : ℕ) (a : List ℕ) (i : ℕ) → i < length a → IsAfter (Some a) (key_past a i) → IsLive g (Some a) width (key_past a i)
past_live g width a i l after = record {
  after = after;
  open_stems = λ k p m none. absurd (none (begins k m));
}
  where
    begins : (k : ℕ) → k < length (key_past a i) → BeginsWith (take k (key_past a i)) a
    begins k m =
        let f = past_front a i k l m in
        let n : length (take k a) ≡ k = length-take-le k a (let w = past_within a i k l m in omega (arith, w)) in
        ap (λ h. take (length h) a) f ∙ ap (λ j. take j a) n ∙ sym f

pub start_live : (g : Shape) (start : Option (List ℕ)) (width : ℕ) → All (IsAfter start) (start_keys (length g.faces) start) → All (IsLive g start width) (start_keys (length g.faces) start)
start_live g None width above = by (nat_eq (length g.faces) 0)
  where
    by : (b : Bool) → All (IsLive g None width) (cond b [] ((0 ∷ []) ∷ []))
    by true = All-nil (IsLive g None width)
    by false = All-cons (IsLive g None width) (0 ∷ []) [] (first_live g width) (All-nil (IsLive g None width))
start_live g (Some a) width above = All-from_contains (IsLive g (Some a) width) keys one
  where
    keys : List (List ℕ)
    keys = map (key_past a) (range_with_len 0 (length a))

    one : (k : List ℕ) → Contains keys k → IsLive g (Some a) width k
    one k c =
        let r = Contains-from_map (key_past a) (range_with_len 0 (length a)) k c in
        let s : (0 ≤ r.0) × (r.0 < 0 + length a) = All-contains (λ i. (0 ≤ i) × (i < 0 + length a)) (range_with_len 0 (length a)) r.0 (listing_range 0 (length a)).sound r.1 in
        let after : IsAfter (Some a) (key_past a r.0) = subst (IsAfter (Some a)) r.2 (All-contains (IsAfter (Some a)) keys k above c) in
        subst (IsLive g (Some a) width) (sym r.2) (past_live g width a r.0 (let l = s.1 in omega (arith, l)) after)
