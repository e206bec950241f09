-- What is handed out, case by case.
use Rattle.std.proofs.Common.{◌≡◌, ◌∙◌, refl, sym, ap, subst, inl, ℕ, ◌-◌, ◌≤◌, List, [], ◌∷◌, ◌++◌, length, Option, Some, None, Bool, true, false, ℤ, arith}
use Rattle.std.specs.Prelude.{All, Contains, MatchBool}
use Rattle.std.specs.Option.{is_some}
use Rattle.std.proofs.lemmas.List.Elements.{All-contains}
use Rattle.ntfe_model.specs.Lists.{IsBelow}
use Rattle.ntfe_model.specs.Keys.{IsKey}
use Rattle.choice_board.specs.States.{State, IsTrueRecord, place_of_record, IsSound}
use Rattle.choice_board.specs.Views.{state_of}
use Rattle.choice_board.specs.Order.{ComesFirst}
use Rattle.choice_board.specs.Telling.{HasNext, IsTaken, IsHandedOut, IsWaiting, outcome_told, totals_written}
use Rattle.choice_board.specs.declared.outcome.Outcome.{Outcome}
use Rattle.choice_board.specs.declared.outcome.Outcome.TheVariants.{Class, Wide, Far}
use Rattle.choice_board.specs.declared.record.Record.{Record}
use Rattle.choice_board.specs.declared.record.Found.{Found}
use Rattle.choice_board.specs.declared.record.Found.TheVariants.{Class as FoundClass, Wide as FoundWide, Far as FoundFar}
use Rattle.choice_board.specs.declared.record.Stop.{Stop}
use Rattle.choice_board.specs.declared.record.Stop.TheVariants.{Wide as StopWide, Far as StopFar}
use Rattle.choice_board.specs.declared.totals.Totals.{Totals}
use Rattle.ntfe_model.proofs.Counts.{faces_few}
use Rattle.choice_board.proofs.TellLemmas.{taken, class_sound, stop_sound, end_is_next}
use Rattle.choice_board.proofs.OrderLemmas.{end_of, waits_otherwise}

-- r is the end of the row of recorded outcomes, and has its turn
pub record HasEnd (s : State) (rest : List Record) (r : Record) : Type 0 where
  pub running : s.stop ≡ None
  pub row : s.recorded ≡ rest ++ r ∷ []
  pub clear : All (IsBelow r.key) s.open_keys

pub none_from_test : (o : Option Stop) (b : Bool) → b ≡ is_some o → b ≡ false → o ≡ None
none_from_test None b e f = refl
none_from_test (Some x) b e f = absurd (let g : false ≡ true = sym f ∙ e in cc)

pub has_end : (s : State) (rest : List Record) (r : Record) (b : Bool) → b ≡ is_some s.stop → b ≡ false → ComesFirst s.recorded s.open_keys → s.recorded ≡ rest ++ r ∷ [] → HasEnd s rest r
has_end s rest r b e f (others, q, g, clear) row = record {
  running = none_from_test s.stop b e f;
  row = row;
  clear = (let same : q ≡ r = sym (end_of s.recorded others q r g) ∙ end_of s.recorded rest r r row in
      let P : Record → Type 0 = λ x. All (IsBelow x.key) s.open_keys in subst P same clear);
}

is_recorded : (s : State) (rest : List Record) (r : Record) → IsSound s → HasEnd s rest r → Contains s.recorded r
is_recorded s rest r sound e = (end_is_next s rest r sound e.row e.clear).recorded

true_record : (s : State) (rest : List Record) (r : Record) (found : Found) → IsSound s → HasEnd s rest r → r.found ≡ found → IsTrueRecord s.geometry r.key found
true_record s rest r found sound e f =
    subst (IsTrueRecord s.geometry r.key) f (All-contains (λ q. IsTrueRecord s.geometry q.key q.found) s.recorded r sound.records (is_recorded s rest r sound e))

-- ---- a class

abbrev pub class_state : State → List Record → List ℕ → Totals → State
class_state s rest key totals = state_of s.geometry (Some key) s.open_keys rest s.pruned s.stop s.closed totals

pub class_state_sound : (s : State) (rest : List Record) (r : Record) (key choice : List ℕ) (w : List ℤ) (totals : Totals) → IsSound s → HasEnd s rest r → key ≡ r.key → r.found ≡ FoundClass choice w
    → IsSound (class_state s rest key totals)
class_state_sound s rest r key choice w totals sound e same f =
    let t = true_record s rest r (FoundClass choice w) sound e f in
    let P : List ℕ → Type 0 = λ k. IsSound (class_state s rest k totals) in
    subst P (sym same) (class_sound s rest r totals sound e.running e.row e.clear t.0.0.faces (ap (place_of_record r.key) f))

pub class_handed : (s : State) (rest : List Record) (r : Record) (key choice : List ℕ) (w : List ℤ) (totals : Totals) → IsSound s → HasEnd s rest r → key ≡ r.key → r.found ≡ FoundClass choice w
    → totals ≡ totals_written s.totals → IsHandedOut s (class_state s rest key totals) (Class choice w)
class_handed s rest r key choice w totals sound e same f g =
    let t = true_record s rest r (FoundClass choice w) sound e f in
    let new = class_state s rest key totals in
    let P : Found → Type 0 = IsTaken s new r.key in
    let Q : List ℕ → Type 0 = λ k. IsTaken s new k (FoundClass choice w) in
    (subst Q (sym t.1) (subst P f (taken s new rest r sound e.running e.row e.clear refl refl refl refl refl)), ap Some (same ∙ sym t.1), e.running, g)

-- ---- the end of the listing

abbrev pub stop_state : State → List Record → Stop → State
stop_state s rest x = state_of s.geometry s.last s.open_keys rest s.pruned (Some x) s.closed s.totals

pub wide_state_sound : (s : State) (rest : List Record) (r : Record) (choice : List ℕ) (step : ℕ) (number : ℤ) → IsSound s → HasEnd s rest r → r.found ≡ FoundWide choice step number
    → IsSound (stop_state s rest (StopWide r.key))
wide_state_sound s rest r choice step number sound e f = stop_sound s rest r (StopWide r.key) sound e.running e.row (ap (place_of_record r.key) f)

pub wide_handed : (s : State) (rest : List Record) (r : Record) (choice : List ℕ) (step : ℕ) (number : ℤ) → IsSound s → HasEnd s rest r → r.found ≡ FoundWide choice step number
    → IsHandedOut s (stop_state s rest (StopWide r.key)) (Wide choice step number)
wide_handed s rest r choice step number sound e f =
    let t = true_record s rest r (FoundWide choice step number) sound e f in
    let new = stop_state s rest (StopWide r.key) in
    let P : Found → Type 0 = IsTaken s new r.key in
    let Q : List ℕ → Type 0 = λ k. IsTaken s new k (FoundWide choice step number) in
    (subst Q (sym t.1) (subst P f (taken s new rest r sound e.running e.row e.clear refl refl refl refl refl)), refl, ap (λ k. Some (StopWide k)) (sym t.1), refl)

pub far_state_sound : (s : State) (rest : List Record) (r : Record) → IsSound s → HasEnd s rest r → r.found ≡ FoundFar → IsSound (stop_state s rest (StopFar r.key))
far_state_sound s rest r sound e f = stop_sound s rest r (StopFar r.key) sound e.running e.row (ap (place_of_record r.key) f)

pub record_is_key : (s : State) (rest : List Record) (r : Record) → IsSound s → HasEnd s rest r → IsKey s.geometry r.key
record_is_key s rest r sound e = All-contains (λ q. IsKey s.geometry q.key) s.recorded r sound.record_keys (is_recorded s rest r sound e)

pub record_few : (s : State) (rest : List Record) (r : Record) → IsSound s → HasEnd s rest r → length r.key ≤ 5000
record_few s rest r sound e = let k = record_is_key s rest r sound e in let a = k.at_most in let b = faces_few s.geometry sound.shape in omega arith

pub far_handed : (s : State) (rest : List Record) (r : Record) (numbers : List ℕ) → IsSound s → HasEnd s rest r → r.found ≡ FoundFar → numbers ≡ r.key
    → IsHandedOut s (stop_state s rest (StopFar r.key)) (Far (length numbers - 1))
far_handed s rest r numbers sound e f same =
    let k = record_is_key s rest r sound e in
    let some : 1 ≤ length r.key = k.some in
    let long : length numbers ≡ length r.key = ap length same in
    let new = stop_state s rest (StopFar r.key) in
    let P : Found → Type 0 = IsTaken s new r.key in
    (r.key, omega arith, subst P f (taken s new rest r sound e.running e.row e.clear refl refl refl refl refl), refl, refl, refl)

-- ---- nothing is handed out

pub stopped_waits : (s : State) (b : Bool) → b ≡ is_some s.stop → b ≡ true → IsWaiting s
stopped_waits s b e f = inl (λ g. (let h : true ≡ false = sym f ∙ e ∙ ap is_some g in cc))

-- ---- from what the calls say

-- whether something can be handed out
pub tells_ready : (s : State) → IsSound s → s.stop ≡ None
    → (b : Bool) → (b ≡ true → ComesFirst s.recorded s.open_keys) → (b ≡ false → ¬ (ComesFirst s.recorded s.open_keys)) → MatchBool b (HasNext s) (IsWaiting s)
tells_ready s sound running true first none = let h = first refl in (running, (h.1, end_is_next s h.0 h.1 sound h.2 h.3))
tells_ready s sound running false first none = waits_otherwise s sound (none refl)

-- ---- what was found, from what is told

pub told_class : (key : List ℕ) (found : Found) (o : Outcome) (choice : List ℕ) (w : List ℤ) → o ≡ outcome_told key found → o ≡ Class choice w → found ≡ FoundClass choice w
told_class key (FoundClass c v) o choice w e f = let g : Class c v ≡ Class choice w = sym e ∙ f in cc
told_class key (FoundWide c m n) o choice w e f = absurd (let g : Wide c m n ≡ Class choice w = sym e ∙ f in cc)
told_class key FoundFar o choice w e f = absurd (let g : Far (length key - 1) ≡ Class choice w = sym e ∙ f in cc)

pub told_wide : (key : List ℕ) (found : Found) (o : Outcome) (choice : List ℕ) (step : ℕ) (number : ℤ) → o ≡ outcome_told key found → o ≡ Wide choice step number → found ≡ FoundWide choice step number
told_wide key (FoundClass c v) o choice step number e f = absurd (let g : Class c v ≡ Wide choice step number = sym e ∙ f in cc)
told_wide key (FoundWide c m n) o choice step number e f = let g : Wide c m n ≡ Wide choice step number = sym e ∙ f in cc
told_wide key FoundFar o choice step number e f = absurd (let g : Far (length key - 1) ≡ Wide choice step number = sym e ∙ f in cc)

pub told_far : (key : List ℕ) (found : Found) (o : Outcome) (face : ℕ) → o ≡ outcome_told key found → o ≡ Far face → found ≡ FoundFar
told_far key (FoundClass c v) o face e f = absurd (let g : Class c v ≡ Far face = sym e ∙ f in cc)
told_far key (FoundWide c m n) o face e f = absurd (let g : Wide c m n ≡ Far face = sym e ∙ f in cc)
told_far key FoundFar o face e f = refl
