-- The board that workers share stays one, whatever is settled on it or handed out.
use Rattle.std.proofs.Common.{◌≡◌, ◌≢◌, refl, sym, ap, ◌∙◌, subst, ℕ, ◌+◌, ◌-◌, ◌^◌, min, List, [], ◌∷◌, Bool, true, false, nat_eq, arith}
use Rattle.std.specs.Prelude.{Option, Contains}
use Rattle.std.proofs.lemmas.Bool.Decides.{nat_tests}
use Rattle.ntfe_model.specs.Shapes.{Shape}
use Rattle.choice_board.specs.States.{State, IsSound}
use Rattle.choice_board.specs.Starts.{new_board}
use Rattle.choice_board.specs.Settling.{IsSettled, IsKeySettled, IsStale, totals_taken, counted}
use Rattle.choice_board.specs.Telling.{IsHandedOut}
use Rattle.choice_board.specs.declared.totals.Totals.{Totals}
use Rattle.choice_board.specs.declared.outcome.Outcome.{Outcome}
use Rattle.choice_board.specs.declared.outcome.Outcome.TheVariants.{Class, Wide, Far}
use Rattle.choice_board.specs.declared.verdict.Verdict.{Verdict}
use Rattle.choice_board.specs.declared.verdict.Verdict.TheVariants as verdict
use Rattle.steal_workers.specs.Listings.{Listed, NoneIsLeft}
use Rattle.steal_workers.specs.Boards.{IsUnderWay, IsFewer, IsOver, IsLevel}
use Rattle.steal_workers.specs.Probing.{IsVerdictOn}
use Rattle.steal_workers.specs.Shared.{Shared, IsListedOn, IsShared, AreHandedOut, IsRow}
use Rattle.steal_workers.proofs.HandedOut.{none_left, new_under_way, fewer_handed, fewer_under_way}
use Rattle.steal_workers.proofs.Rows.{handed_row}
use Rattle.steal_workers.proofs.Ends.{counted_more}
use Rattle.steal_workers.proofs.Settled.{stays_under_way}

-- the board of a listing at its last class is level with it
pub is_level : (s : Shared) (l : Listed) (last : Option (List ℕ)) → IsShared s → IsListedOn s l → s.board.last ≡ last → IsLevel l last s.board
is_level s l last h on e = record { last = e; under_way = h.under_way l on; sound = h.sound }

-- ---- what one moment under the lock tells

-- what is handed out is a row
pub row_look : (s : Shared) (l : Listed) (last : Option (List ℕ)) → IsShared s → IsListedOn s l × (s.board.last ≡ last) → (t : State) (os : List Outcome) → AreHandedOut s.board t os → IsRow l last os
row_look s l last h (on, e) t os told = handed_row l last s.board t (is_level s l last h on e) os told

-- where the board is over nothing is left
pub over_look : (s : Shared) (l : Listed) (last : Option (List ℕ)) → IsShared s → IsListedOn s l × (s.board.last ≡ last) → IsOver s.board → NoneIsLeft l.geometry last
over_look s l last h (on, e) over = subst (λ (x : Shape × Option (List ℕ)). NoneIsLeft x.0 x.1) (λ i. (sym on.geometry i, e i)) (none_left s.board h.sound over)

-- ---- what is handed out

handed_settled : (s t : State) (o : Outcome) → IsHandedOut s t o → t.totals.settled ≡ s.totals.settled
handed_settled s t (Class choice w) h = ap (λ x. x.settled) h.3
handed_settled s t (Wide choice step number) h = ap (λ x. x.settled) h.3
handed_settled s t (Far face) (key, ends, h, last, stop, totals) = ap (λ x. x.settled) totals

handed_shared : (s : Shared) (t : State) (o : Outcome) → IsHandedOut s.board t o → IsSound t → IsShared s → IsShared (record s { board = t })
handed_shared s t o h sound shared = record {
  sound = sound;
  under_way = λ l on. fewer_under_way l s.board t fewer (shared.under_way l record { geometry = on.geometry ∙ fewer.geometry; start = on.start; width = on.width });
  tied = handed_settled s.board t o h ∙ shared.tied;
}
  where
    fewer : IsFewer s.board t
    fewer = fewer_handed s.board t o h

-- one outcome after the other
pub row_shared : (s : Shared) (t : State) (os : List Outcome) → AreHandedOut s.board t os → IsShared s → IsShared (record s { board = t })
row_shared s t [] same shared = subst (λ (b : State). IsShared (record s { board = b })) (sym same) shared
row_shared s t (o ∷ os) (u, told, sound, later) shared = row_shared (record s { board = u }) t os later (handed_shared s u o told sound shared)

-- ---- a new board

pub new_shared : (s : Shared) → IsSound s.board → s.board ≡ new_board s.board.geometry s.start → s.booked ≡ 0 → IsShared s
new_shared s sound e none = record {
  sound = sound;
  under_way = λ l on. subst (IsUnderWay l) (board l on) (new_under_way l (subst IsSound (sym (board l on)) sound));
  tied = ap (λ (b : State). b.totals.settled) e ∙ sym (ap (λ n. min (2 ^ 63) n) none);
}
  where
    board : (l : Listed) → IsListedOn s l → new_board l.geometry l.start ≡ s.board
    board l on = (λ i. new_board (on.geometry i) (on.start i)) ∙ sym e

-- ---- the totals

-- whoever holds the whole ledger counts as many settled keys as the board
pub totals_agree : (least settled own booked : ℕ) → least ≡ min own (2 ^ 63) → own ≡ min (2 ^ 64 - 1) booked → settled ≡ min (2 ^ 63) booked → nat_eq least settled ≡ true
totals_agree least settled own booked e f h = grind (arith, nat_tests, e, f, h)

-- ---- a closed board

pub closed_shared : (s : Shared) (t : State) → IsShared s → IsSound t → t ≡ record s.board { closed = true } → IsShared (record s { board = t })
closed_shared s t shared sound e = record {
  sound = sound;
  under_way = λ l on. subst (IsUnderWay l) (sym e)
      (let u = shared.under_way l record { geometry = on.geometry ∙ ap (λ (b : State). b.geometry) e; start = on.start; width = on.width } in
      record { geometry = u.geometry; keys = u.keys; records = u.records });
  tied = ap (λ (b : State). b.totals.settled) e ∙ shared.tied;
}

-- ---- a settled key

taken_settled : (c : Totals) (v : Verdict) → (totals_taken c v).settled ≡ counted c.settled
taken_settled c verdict.End = refl
taken_settled c (verdict.Pruned n) = refl
taken_settled c (verdict.Class w) = refl
taken_settled c (verdict.Wide step number) = refl
taken_settled c verdict.Far = refl
taken_settled c verdict.Descend = refl

module _ (s : Shared) (t : State) (key : List ℕ) (v : Verdict) (shared : IsShared s) (sound : IsSound t) (is : IsVerdictOn s.board.geometry s.width key v) where
  still_under_way : (a : Bool) → IsKeySettled s.board t key v a → t.geometry ≡ s.board.geometry → (l : Listed) → IsListedOn (record s { board = t }) l → IsUnderWay l t
  still_under_way a h same l on =
      let own : l.geometry ≡ s.board.geometry = on.geometry ∙ same in
      stays_under_way s.board.geometry s.width s.board t key v a shared.sound is.1 h l own on.width (shared.under_way l record { geometry = own; start = on.start; width = on.width })

  -- a verdict that came too late changes nothing of it
  pub stale_shared : IsStale s.board t key → IsShared (record s { board = t })
  stale_shared h = record {
    sound = sound;
    under_way = still_under_way false h (ap (λ (b : State). b.geometry) h.1);
    tied = ap (λ (b : State). b.totals.settled) h.1 ∙ shared.tied;
  }

  -- a key that was closed is booked
  pub taken_shared : Contains s.board.open_keys key × IsSettled s.board t key v → (total : ℕ) → total ≡ s.booked + 1 → IsShared (record s { board = t; booked = total })
  taken_shared h total one = record {
    sound = sound;
    under_way = λ l on. still_under_way true h h.1.geometry l record { geometry = on.geometry; start = on.start; width = on.width };
    tied = ap (λ (c : Totals). c.settled) h.1.totals ∙ taken_settled s.board.totals v ∙ counted_more s.board.totals.settled s.booked shared.tied ∙ ap (λ n. min (2 ^ 63) n) (sym one);
  }
