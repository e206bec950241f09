-- A settled key: the listing stays under way, and its least open key rises.
use Rattle.std.proofs.Common.{◌≡◌, refl, ℕ, ◌+◌, ◌-◌, ◌<◌, ◌≤◌, ◌⊎◌, ⊎_elim, sym, ◌∙◌, subst, arith, Bool, true, false, List, [], ◌∷◌, length}
use Rattle.std.specs.Prelude.{Contains, All}
use Rattle.std.proofs.lemmas.List.Elements.{All-contains, All-append, All-weaker, All-cons, All-nil}
use Rattle.ntfe_model.specs.Lists.{IsBelow}
use Rattle.ntfe_model.specs.Shapes.{Shape}
use Rattle.ntfe_model.specs.Keys.{item_limit, stem, last_number, IsKey, IsLive}
use Rattle.ntfe_model.proofs.Listings.{Contains-cases, Contains-none, All-from_contains}
use Rattle.choice_board.specs.Places.{raised, first_under}
use Rattle.choice_board.specs.Verdicts.{opened_by}
use Rattle.choice_board.specs.States.{State, IsSound}
use Rattle.choice_board.specs.Settling.{IsSettled, IsKeySettled}
use Rattle.choice_board.specs.Telling.{IsLeastOpen, IsLeastSettled}
use Rattle.choice_board.specs.declared.verdict.Verdict.{Verdict}
use Rattle.choice_board.specs.declared.verdict.Verdict.TheVariants.{End, Pruned, Class, Wide, Far, Descend}
use Rattle.choice_board.proofs.LeastLemmas.{least_only}
use Rattle.choice_board.proofs.PlaceLemmas.{key_parts, below_raised, below_first}
use Rattle.steal_workers.specs.Listings.{Listed}
use Rattle.steal_workers.specs.Boards.{IsUnderWay, IsLiveRecord, IsOneOn, HasSettledLeast, StaysUnderWay, key_base, key_power, key_value, least_value}
use Rattle.steal_workers.specs.Probing.{IsProbed}
use Rattle.steal_workers.proofs.KeyValues.{value_small, value_rises, least_most, least_above, least_bound}
use Rattle.steal_workers.proofs.LiveKeys.{opened_live, recorded_live}

-- a listing stays under way when a key that was probed is settled
under_way_settled : (l : Listed) (s t : State) (key : List ℕ) (v : Verdict) → IsSound s → IsUnderWay l s → Contains s.open_keys key → IsProbed l.geometry l.width key v → IsSettled s t key v → IsUnderWay l t
under_way_settled l s t key v sound u c probed z = record {
  geometry = z.geometry ∙ u.geometry;
  keys = All-from_contains (IsLive l.geometry l.start l.width) t.open_keys
      (λ j h. ⊎_elim (λ old. All-contains (IsLive l.geometry l.start l.width) s.open_keys j u.keys old.0) (λ new. opened_live l.geometry l.start l.width key v some live probed j new) ((z.open_keys j).0 h));
  records = All-from_contains (λ r. IsLiveRecord l r.key r.found) t.recorded
      (λ r h. ⊎_elim (λ old. All-contains (λ q. IsLiveRecord l q.key q.found) s.recorded r u.records old) (λ new. recorded_live l key v live probed r new) ((z.recorded r).0 h));
}
  where
    live : IsLive l.geometry l.start l.width key
    live = All-contains (IsLive l.geometry l.start l.width) s.open_keys key u.keys c

    some : 1 ≤ length key
    some = (All-contains (IsKey s.geometry) s.open_keys key sound.keys c).some

-- ---- the least open key rises

key_small : (g : Shape) (key : List ℕ) → IsKey g key → All (λ k. k + 2 ≤ key_base) key
key_small g key k =
    subst (λ (ks : List ℕ). All (λ m. m + 2 ≤ key_base) ks) (sym (key_parts key k.some))
    (All-append (λ m. m + 2 ≤ key_base) (stem key) (last_number key ∷ [])
    (All-weaker (λ m. m < item_limit g) (λ m. m + 2 ≤ key_base) (λ m l. omega (arith, l)) (stem key) k.others)
    (All-cons (λ m. m + 2 ≤ key_base) (last_number key) [] (let l = k.last in omega (arith, l)) (All-nil (λ m. m + 2 ≤ key_base))))

above_settled : (key : List ℕ) (v : Verdict) → 1 ≤ length key → (j : List ℕ) → Contains (opened_by key v) j → IsBelow key j
above_settled key v some j c = by v c
  where
    one : Contains (raised key ∷ []) j → IsBelow key j
    one d = ⊎_elim (λ e. subst (IsBelow key) (sym e) (below_raised key some)) (λ n. Contains-none j n) (Contains-cases j (raised key) [] d)

    by : (w : Verdict) → Contains (opened_by key w) j → IsBelow key j
    by End d = Contains-none j d
    by (Pruned n) d = one d
    by (Class w) d = one d
    by (Wide step number) d = one d
    by Far d = Contains-none j d
    by Descend d = ⊎_elim (λ e. subst (IsBelow key) (sym e) (below_first key)) one (Contains-cases j (first_under key) (raised key ∷ []) d)

pub least_rises : (s t : State) (key : List ℕ) (v : Verdict) → IsSound s → IsSound t → IsLeastOpen s key → IsSettled s t key v
    → least_value (length s.geometry.faces) s.open_keys < least_value (length s.geometry.faces) t.open_keys
least_rises s t key v sound later least z = chain (least_most n s.open_keys key least.0) (least_above n (key_value n key) t.open_keys (value_small n key (key_small s.geometry key is_key)) above)
  where
    n : ℕ
    n = length s.geometry.faces

    is_key : IsKey s.geometry key
    is_key = All-contains (IsKey s.geometry) s.open_keys key sound.keys least.0

    chain : {a b c : ℕ} → a ≤ b → b < c → a < c
    chain p q = omega (arith, p, q)

    above : (j : List ℕ) → Contains t.open_keys j → key_value n key < key_value n j
    above j c =
        let k : IsKey s.geometry j = subst (λ (g : Shape). IsKey g j) z.geometry (All-contains (IsKey t.geometry) t.open_keys j later.keys c) in
        value_rises n key j is_key.at_most k.at_most (key_small s.geometry key is_key) (key_small s.geometry j k)
        (⊎_elim (λ old. ⊎_elim (λ e. absurd (old.1 e)) (λ b. b) (All-contains (λ i. (i ≡ key) ⊎ IsBelow key i) s.open_keys j least.1 old.0)) (λ new. above_settled key v is_key.some j new) ((z.open_keys j).0 c))

-- a listing stays under way, whether the verdict came in time or too late
pub stays_under_way : (g : Shape) (width : ℕ) (s t : State) (key : List ℕ) (v : Verdict) (a : Bool) → IsSound s → IsProbed g width key v → IsKeySettled s t key v a → StaysUnderWay g width s t
stays_under_way g width s t key v false sound probed z l same wide u = subst (IsUnderWay l) (sym z.1) record { geometry = u.geometry; keys = u.keys; records = u.records }
stays_under_way g width s t key v true sound probed z l same wide u =
    under_way_settled l s t key v sound u z.0 (subst (λ (x : Shape × ℕ). IsProbed x.0 x.1 key v) (λ i. (sym same i, sym wide i)) probed) z.1

-- ---- the least open key is settled

pub settled_least : (s t : State) (v : Verdict) (b : Bool) → IsSound s → IsSound t → s.closed ≡ false → IsLeastSettled s t v b → HasSettledLeast s t b
settled_least s t v true sound later given (_, (key, least, z)) = record { geometry = z.geometry; last = z.last; stop = z.stop; closed = z.closed; rises = least_rises s t key v sound later least z }
settled_least s t v false sound later given (none, same) = (same, ⊎_elim (λ e. (let f : true ≡ false = sym e ∙ given in cc)) (λ e. e) none)

-- a listing stays under way when the least key was probed and settled
pub least_under_way : (g : Shape) (width : ℕ) (s t : State) (key : List ℕ) (v : Verdict) (b : Bool) → IsSound s → IsLeastOpen s key → IsProbed g width key v → IsLeastSettled s t v b → StaysUnderWay g width s t
least_under_way g width s t key v true sound least probed (_, (k, first, z)) l own wide u =
    stays_under_way g width s t k v true sound (subst (λ (j : List ℕ). IsProbed g width j v) (least_only s key k least first) probed) (first.0, z) l own wide u
least_under_way g width s t key v false sound least probed (_, same) l own wide u = subst (IsUnderWay l) (sym same) u

-- what is left of a listing falls with each settled key
pub left_falls : (g : Shape) (s t u : State) → t.geometry ≡ g → t.open_keys ≡ s.open_keys → IsOneOn t u
    → key_power (length g.faces) - least_value (length g.faces) u.open_keys < key_power (length g.faces) - least_value (length g.faces) s.open_keys
left_falls g s t u e k o =
    falls (key_power n) (least_value n u.open_keys) (least_value n s.open_keys) (least_bound n u.open_keys)
    (subst (λ (ks : List (List ℕ)). least_value n ks < least_value n u.open_keys) k (subst (λ (x : Shape). least_value (length x.faces) t.open_keys < least_value (length x.faces) u.open_keys) e o.rises))
  where
    n : ℕ
    n = length g.faces

    falls : (p v w : ℕ) → v ≤ p → w < v → p - v < p - w
    falls p v w l h = omega (arith, l, h)
