-- A key that is closed in code is settled as stated.
use Rattle.std.proofs.Common.{◌≡◌, ◌≢◌, ◌∙◌, refl, sym, ap, subst, ◌⊎◌, inl, inr, ⊎_elim, ◌↔◌, ℕ, ◌<◌, List, [], ◌∷◌, ◌++◌, length, get_or, Option, Some, None}
use Rattle.std.specs.Prelude.{Contains, MatchOption, MatchResult, Result, Ok, Err}
use Rattle.std.specs.Result.{result_ok}
use Rattle.std.specs.List.{remove}
use Rattle.std.proofs.lemmas.List.{get_or_default}
use Rattle.std.proofs.lemmas.List.Elements.{All-contains}
use Rattle.ntfe_model.specs.Keys.{IsKey}
use Rattle.ntfe_model.specs.declared.nogood.Nogood.{Nogood}
use Rattle.ntfe_model.proofs.Listings.{Contains-here, Contains-there, Contains-cases, Contains-none}
use Rattle.choice_board.specs.Verdicts.{IsTrueOf, opened_by, recorded_by, pruned_by}
use Rattle.choice_board.specs.Rows.{IsFalling, IsFoundAt, IsPlaceFor}
use Rattle.choice_board.specs.Making.{new_by, raised_by, key_made, record_made, pruned_made}
use Rattle.choice_board.specs.Places.{raised, first_under}
use Rattle.choice_board.specs.States.{State, IsSound}
use Rattle.choice_board.specs.Views.{state_of}
use Rattle.choice_board.specs.Settling.{IsSettled, totals_taken}
use Rattle.choice_board.specs.declared.opening.Made.{Made}
use Rattle.choice_board.specs.declared.record.Record.{Record}
use Rattle.choice_board.specs.declared.totals.Totals.{Totals}
use Rattle.choice_board.specs.declared.verdict.Verdict.{Verdict}
use Rattle.choice_board.specs.declared.verdict.Verdict.TheVariants.{End, Pruned, Class, Wide, Far, Descend}
use Rattle.choice_board.proofs.RowLemmas.{has_remove, falling_remove, some_is, absent}
use Rattle.choice_board.proofs.SettleLemmas.{not_recorded, settled_sound}

pub at_place : (keys : List (List ℕ)) (key : List ℕ) (place : ℕ) → IsFoundAt (λ k. k) keys key place → Contains keys key
at_place keys key place f = (place, f.0, f.1 key)

-- the key that was read at a place of the row
pub found_there : (keys : List (List ℕ)) (key : List ℕ) (place : ℕ) → place < length keys → key ≡ get_or keys place key → IsFoundAt (λ k. k) keys key place
found_there keys key place l e = (l, λ d. get_or_default keys place d key l ∙ sym e)

pub open_is_key : (s : State) (key : List ℕ) → IsSound s → Contains s.open_keys key → IsKey s.geometry key
open_is_key s key sound has = All-contains (IsKey s.geometry) s.open_keys key sound.keys has

-- what code knows of the rows once the key is closed
pub record IsClosed (s : State) (key : List ℕ) (v : Verdict) (place : ℕ) (made : Made) (keys : List (List ℕ)) (recorded : List Record) (pruned : List (List ℕ × Nogood)) (totals : Totals) : Type 0 where
  pub found : IsFoundAt (λ k. k) s.open_keys key place
  pub falling : IsFalling (λ k. k) keys
  pub has : (k : List ℕ) → (Contains keys k) ↔ (Contains (remove s.open_keys place) k ⊎ Contains (opened_by key v) k)
  pub records_falling : IsFalling (λ r. r.key) recorded
  pub records_has : (r : Record) → (Contains recorded r) ↔ (Contains s.recorded r ⊎ (record_made key made ≡ Some r))
  pub recorded_made : record_made key made ≡ recorded_by key v
  pub pruned_is : pruned ≡ s.pruned ++ pruned_made key made
  pub pruned_made_is : pruned_made key made ≡ pruned_by key v
  pub totals_are : totals ≡ totals_taken s.totals v

pub closed_is_settled : (s : State) (key : List ℕ) (v : Verdict) (place : ℕ) (made : Made) (keys : List (List ℕ)) (recorded : List Record) (pruned : List (List ℕ × Nogood)) (totals : Totals)
    → IsSound s → IsClosed s key v place made keys recorded pruned totals
    → IsSettled s (state_of s.geometry s.last keys recorded pruned s.stop s.closed totals) key v
closed_is_settled s key v place made keys recorded pruned totals sound k = record {
  open_keys = λ j. (λ p. ⊎_elim (λ q. inl (there j q)) (λ q. inr q) ((k.has j).0 p), λ p. (k.has j).1 (⊎_elim (λ q. inl (back j q)) (λ q. inr q) p));
  recorded = λ r. (let P : Option Record → Type 0 = λ o. (Contains recorded r) ↔ (Contains s.recorded r ⊎ (o ≡ Some r)) in subst P k.recorded_made (k.records_has r));
  pruned = k.pruned_is ∙ ap (λ xs. s.pruned ++ xs) k.pruned_made_is;
  totals = k.totals_are;
  geometry = refl;
  last = refl;
  stop = refl;
  closed = refl;
}
  where
    at : get_or s.open_keys place key ≡ key
    at = k.found.1 key

    without : (j : List ℕ) → (Contains (remove s.open_keys place) j) ↔ (Contains s.open_keys j × (j ≢ get_or s.open_keys place key))
    without j = has_remove (λ x. x) s.open_keys place key j k.found.0 sound.falling

    there : (j : List ℕ) → Contains (remove s.open_keys place) j → Contains s.open_keys j × (j ≢ key)
    there j p = let q = (without j).0 p in (q.0, λ e. q.1 (e ∙ sym at))

    back : (j : List ℕ) → Contains s.open_keys j × (j ≢ key) → Contains (remove s.open_keys place) j
    back j p = (without j).1 (p.0, λ e. p.1 (e ∙ at))

pub closed_sound : (s : State) (key : List ℕ) (v : Verdict) (place : ℕ) (made : Made) (keys : List (List ℕ)) (recorded : List Record) (pruned : List (List ℕ × Nogood)) (totals : Totals)
    → IsSound s → IsTrueOf s.geometry key v → IsClosed s key v place made keys recorded pruned totals
    → IsSound (state_of s.geometry s.last keys recorded pruned s.stop s.closed totals)
closed_sound s key v place made keys recorded pruned totals sound true_of k =
    settled_sound s (state_of s.geometry s.last keys recorded pruned s.stop s.closed totals) key v sound (at_place s.open_keys key place k.found) true_of
    (closed_is_settled s key v place made keys recorded pruned totals sound k) k.falling k.records_falling

-- ---- the opened keys: a new one, and the key itself, raised

no_more : (j k : List ℕ) → (Contains (j ∷ []) k) ↔ ((Some j ≡ Some k) ⊎ (None ≡ Some k))
no_more j k = (
  λ p. ⊎_elim (λ e. inl ((some_is j k).1 e)) (λ q. Contains-none k q) (Contains-cases k j [] p),
  λ p. ⊎_elim (λ e. Contains-here k j [] ((some_is j k).0 e)) (λ e. cc) p,
)

one_more : (j i k : List ℕ) → (Contains (j ∷ i ∷ []) k) ↔ ((Some j ≡ Some k) ⊎ (Some i ≡ Some k))
one_more j i k = (
  λ p. ⊎_elim (λ e. inl ((some_is j k).1 e)) (λ q. inr (⊎_elim (λ e. (some_is i k).1 e) (λ r. Contains-none k r) (Contains-cases k i [] q))) (Contains-cases k j (i ∷ []) p),
  λ p. ⊎_elim (λ e. Contains-here k j (i ∷ []) ((some_is j k).0 e)) (λ e. Contains-there k j (i ∷ []) (Contains-here k i [] ((some_is i k).0 e))) p,
)

pub opened_parts : (key : List ℕ) (v : Verdict) (k : List ℕ) → (Contains (opened_by key v) k) ↔ ((new_by key v ≡ Some k) ⊎ (raised_by key v ≡ Some k))
opened_parts key End k = (λ p. Contains-none k p, λ p. ⊎_elim (λ e. cc) (λ e. cc) p)
opened_parts key (Pruned n) k = no_more (raised key) k
opened_parts key (Class w) k = no_more (raised key) k
opened_parts key (Wide step number) k = no_more (raised key) k
opened_parts key Far k = (λ p. Contains-none k p, λ p. ⊎_elim (λ e. cc) (λ e. cc) p)
opened_parts key Descend k = one_more (first_under key) (raised key) k

-- ---- from what the calls say

-- where the numbers stand among the open keys, if they do
pub found_place : (s : State) (key numbers : List ℕ) → numbers ≡ key → (r : Result ℕ ℕ)
    → MatchResult r (λ i. IsFoundAt (λ k. k) s.open_keys numbers i) (λ i. IsPlaceFor (λ k. k) s.open_keys numbers i)
    → MatchOption (result_ok r) (¬ (Contains s.open_keys key)) (λ i. IsFoundAt (λ k. k) s.open_keys key i)
found_place s key numbers e (Ok i) h = let P : List ℕ → Type 0 = λ ns. IsFoundAt (λ k. k) s.open_keys ns i in subst P e h
found_place s key numbers e (Err i) h = λ has. absent (λ k. k) s.open_keys numbers i h key has (sym e)

pub own_is_key : (keys room : List (List ℕ)) (key own : List ℕ) (place : ℕ) → room ≡ keys → IsFoundAt (λ k. k) keys key place → own ≡ get_or room place own → own ≡ key
own_is_key keys room key own place e p f = f ∙ ap (λ xs. get_or xs place own) e ∙ p.1 own

-- the key that is taken out is in no recorded outcome
pub fresh_record : (s : State) (key own : List ℕ) (room : List Record) → IsSound s → Contains s.open_keys key → own ≡ key → room ≡ s.recorded → (r : Record) → Contains room r → r.key ≢ own
fresh_record s key own room sound has e f r p q =
    let P : List Record → Type 0 = λ xs. Contains xs r in
    not_recorded s sound key has r (subst P f p) (q ∙ e)

pub removed_falls : (s : State) (room removed : List (List ℕ)) (key : List ℕ) (place : ℕ) → IsSound s → IsFoundAt (λ k. k) s.open_keys key place → room ≡ s.open_keys → removed ≡ remove room place
    → IsFalling (λ k. k) removed
removed_falls s room removed key place sound p e f =
    subst (IsFalling (λ k. k)) (sym (f ∙ ap (λ xs. remove xs place) e)) (falling_remove (λ k. k) s.open_keys place key p.0 sound.falling)

pub has_through : (removed was first keys : List (List ℕ)) (new : Option (List ℕ)) (own key : List ℕ) (v : Verdict) (made : Made) → removed ≡ was → new ≡ new_by key v → own ≡ key
    → key_made key made ≡ raised_by key v → ((k : List ℕ) → (Contains first k) ↔ (Contains removed k ⊎ (new ≡ Some k)))
    → ((k : List ℕ) → (Contains keys k) ↔ (Contains first k ⊎ (key_made own made ≡ Some k))) → (k : List ℕ) → (Contains keys k) ↔ (Contains was k ⊎ Contains (opened_by key v) k)
has_through removed was first keys new own key v made e f o m h g k = (there, back)
  where
    P : List (List ℕ) → Type 0
    P xs = Contains xs k

    same : key_made own made ≡ raised_by key v
    same = ap (λ x. key_made x made) o ∙ m

    there : Contains keys k → Contains was k ⊎ Contains (opened_by key v) k
    there p =
        ⊎_elim
        (λ q. ⊎_elim (λ r. inl (subst P e r)) (λ r. inr ((opened_parts key v k).1 (inl (sym f ∙ r)))) ((h k).0 q))
        (λ q. inr ((opened_parts key v k).1 (inr (sym same ∙ q))))
        ((g k).0 p)

    back : Contains was k ⊎ Contains (opened_by key v) k → Contains keys k
    back (inl p) = (g k).1 (inl ((h k).1 (inl (subst P (sym e) p))))
    back (inr p) = ⊎_elim (λ q. (g k).1 (inl ((h k).1 (inr (f ∙ q))))) (λ q. (g k).1 (inr (same ∙ q))) ((opened_parts key v k).0 p)

pub records_through : (room was recorded : List Record) (own key : List ℕ) (made : Made) → room ≡ was → own ≡ key
    → ((r : Record) → (Contains recorded r) ↔ (Contains room r ⊎ (record_made own made ≡ Some r))) → (r : Record) → (Contains recorded r) ↔ (Contains was r ⊎ (record_made key made ≡ Some r))
records_through room was recorded own key made e f h r =
    let P : List Record → Type 0 = λ xs. (Contains recorded r) ↔ (Contains xs r ⊎ (record_made own made ≡ Some r)) in
    let Q : List ℕ → Type 0 = λ k. (Contains recorded r) ↔ (Contains was r ⊎ (record_made k made ≡ Some r)) in
    subst Q f (subst P e (h r))
