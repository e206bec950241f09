-- The totals count the calls on a board, each up to 2^63.
use Rattle.std.proofs.Common.{◌≡◌, ◌∙◌, refl, sym, ap, subst, ℕ, ◌+◌, ◌^◌, min, Bool, true, false, cond, List, [], ◌∷◌, Option, arith}
use Rattle.std.specs.Prelude.{count_by}
use Rattle.std.proofs.lemmas.Bool.Decides.{nat_tests}
use Rattle.std.proofs.lemmas.List.Sums.{sum_by-cons}
use Rattle.ntfe_model.specs.Shapes.{Shape}
use Rattle.choice_board.specs.States.{State}
use Rattle.choice_board.specs.Settling.{counted, totals_stale, totals_taken}
use Rattle.choice_board.specs.Telling.{totals_written}
use Rattle.choice_board.specs.Courses.{Event, settles, tells, closes, IsStep, IsCourse}
use Rattle.choice_board.specs.Counts.{AreCounted, capped, is_taken, is_stale, is_class, is_pruned, is_written}
use Rattle.choice_board.specs.declared.outcome.Outcome.TheVariants.{Class as TellsClass, Wide as TellsWide, Far as TellsFar}
use Rattle.choice_board.specs.declared.totals.Totals.{Totals}
use Rattle.choice_board.specs.declared.verdict.Settled.TheVariants.{Stale, Taken}
use Rattle.choice_board.specs.declared.verdict.Verdict.TheVariants.{End, Pruned, Class, Wide, Far, Descend}

up : (x n : ℕ) → x ≡ min n (2 ^ 63) → counted x ≡ min (1 + n) (2 ^ 63)
up x n e = grind (arith, nat_tests)

same : (x n : ℕ) → x ≡ min n (2 ^ 63) → x ≡ min (0 + n) (2 ^ 63)
same x n e = grind arith

-- the totals after an event
abbrev totals_by : Totals → Event → Totals
totals_by c (settles key v Stale) = totals_stale c
totals_by c (settles key v (Taken opened)) = totals_taken c v
totals_by c (tells (TellsClass choice w)) = totals_written c
totals_by c (tells (TellsWide choice step number)) = c
totals_by c (tells (TellsFar face)) = c
totals_by c closes = c

-- a total that counts the event where the test says so
moves : (test : Event → Bool) (e : Event) (es : List Event) (x y : ℕ) (b : Bool) → test e ≡ b → y ≡ cond b (counted x) x → x ≡ capped test es → y ≡ capped test (e ∷ es)
moves test e es x y b t f h = by b t f ∙ sym (ap (λ n. min n (2 ^ 63)) (sum_by-cons (λ v. cond (test v) 1 0) e es))
  where
    by : (b' : Bool) → test e ≡ b' → y ≡ cond b' (counted x) x → y ≡ min (cond (test e) 1 0 + count_by test es) (2 ^ 63)
    by true u g = let P : Bool → Type 0 = λ v. y ≡ min (cond v 1 0 + count_by test es) (2 ^ 63) in subst P (sym u) (g ∙ up x (count_by test es) h)
    by false u g = let P : Bool → Type 0 = λ v. y ≡ min (cond v 1 0 + count_by test es) (2 ^ 63) in subst P (sym u) (g ∙ same x (count_by test es) h)

all_move : (e : Event) (es : List Event) (c d : Totals) (taken stale class pruned written : Bool)
    → is_taken e ≡ taken → is_stale e ≡ stale → is_class e ≡ class → is_pruned e ≡ pruned → is_written e ≡ written
    → d.settled ≡ cond taken (counted c.settled) c.settled → d.stale ≡ cond stale (counted c.stale) c.stale → d.classes ≡ cond class (counted c.classes) c.classes
    → d.pruned ≡ cond pruned (counted c.pruned) c.pruned → d.written ≡ cond written (counted c.written) c.written → AreCounted es c → AreCounted (e ∷ es) d
all_move e es c d taken stale class pruned written t1 t2 t3 t4 t5 f1 f2 f3 f4 f5 k = record {
  settled = moves is_taken e es c.settled d.settled taken t1 f1 k.settled;
  stale = moves is_stale e es c.stale d.stale stale t2 f2 k.stale;
  classes = moves is_class e es c.classes d.classes class t3 f3 k.classes;
  pruned = moves is_pruned e es c.pruned d.pruned pruned t4 f4 k.pruned;
  written = moves is_written e es c.written d.written written t5 f5 k.written;
}

event_moves : (e : Event) (es : List Event) (c : Totals) → AreCounted es c → AreCounted (e ∷ es) (totals_by c e)
event_moves (settles key End Stale) es c k = all_move (settles key End Stale) es c _ false true false false false refl refl refl refl refl refl refl refl refl refl k
event_moves (settles key (Pruned n) Stale) es c k = all_move (settles key (Pruned n) Stale) es c _ false true false false false refl refl refl refl refl refl refl refl refl refl k
event_moves (settles key (Class w) Stale) es c k = all_move (settles key (Class w) Stale) es c _ false true false false false refl refl refl refl refl refl refl refl refl refl k
event_moves (settles key (Wide step number) Stale) es c k = all_move (settles key (Wide step number) Stale) es c _ false true false false false refl refl refl refl refl refl refl refl refl refl k
event_moves (settles key Far Stale) es c k = all_move (settles key Far Stale) es c _ false true false false false refl refl refl refl refl refl refl refl refl refl k
event_moves (settles key Descend Stale) es c k = all_move (settles key Descend Stale) es c _ false true false false false refl refl refl refl refl refl refl refl refl refl k
event_moves (settles key End (Taken opened)) es c k = all_move (settles key End (Taken opened)) es c _ true false false false false refl refl refl refl refl refl refl refl refl refl k
event_moves (settles key (Pruned n) (Taken opened)) es c k = all_move (settles key (Pruned n) (Taken opened)) es c _ true false false true false refl refl refl refl refl refl refl refl refl refl k
event_moves (settles key (Class w) (Taken opened)) es c k = all_move (settles key (Class w) (Taken opened)) es c _ true false true false false refl refl refl refl refl refl refl refl refl refl k
event_moves (settles key (Wide step number) (Taken opened)) es c k = all_move (settles key (Wide step number) (Taken opened)) es c _ true false false false false refl refl refl refl refl refl refl refl refl refl k
event_moves (settles key Far (Taken opened)) es c k = all_move (settles key Far (Taken opened)) es c _ true false false false false refl refl refl refl refl refl refl refl refl refl k
event_moves (settles key Descend (Taken opened)) es c k = all_move (settles key Descend (Taken opened)) es c _ true false false false false refl refl refl refl refl refl refl refl refl refl k
event_moves (tells (TellsClass choice w)) es c k = all_move (tells (TellsClass choice w)) es c _ false false false false true refl refl refl refl refl refl refl refl refl refl k
event_moves (tells (TellsWide choice step number)) es c k = all_move (tells (TellsWide choice step number)) es c _ false false false false false refl refl refl refl refl refl refl refl refl refl k
event_moves (tells (TellsFar face)) es c k = all_move (tells (TellsFar face)) es c _ false false false false false refl refl refl refl refl refl refl refl refl refl k
event_moves closes es c k = all_move closes es c _ false false false false false refl refl refl refl refl refl refl refl refl refl k

-- what a call says of the totals
step_totals : (s t : State) (e : Event) → IsStep s e t → t.totals ≡ totals_by s.totals e
step_totals s t (settles key v Stale) h = ap (λ x. x.totals) h.1.1
step_totals s t (settles key v (Taken opened)) h = h.1.1.totals
step_totals s t (tells (TellsClass choice w)) h = h.3
step_totals s t (tells (TellsWide choice step number)) h = h.3
step_totals s t (tells (TellsFar face)) h = h.5
step_totals s t closes h = ap (λ x. x.totals) h

pub course_counted : (g : Shape) (after : Option (List ℕ)) (events : List Event) (t : State) → IsCourse g after events t → AreCounted events t.totals
course_counted g after [] t h = subst (AreCounted []) (sym (ap (λ x. x.totals) h)) (record { settled = refl; stale = refl; classes = refl; pruned = refl; written = refl })
course_counted g after (e ∷ es) t (s, course, h) =
    subst (AreCounted (e ∷ es)) (sym (step_totals s t e h)) (event_moves e es s.totals (course_counted g after es s course))
