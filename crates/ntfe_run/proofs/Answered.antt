-- From the reading of an input and the writing of its answer to what the status says of the command.
use Rattle.std.proofs.Common.{◌≡◌, ◌∙◌, refl, sym, ap, subst, ℕ, List, Some, None, Result, Ok, Err, inl, inr}
use Rattle.std.specs.Prelude.{Option, IfErr}
use Rattle.std.specs.Io.KnownBytes.{Keeps}
use Rattle.io_edge.proofs.Pieces.{prefix_all}
use Rattle.io_edge.specs.Changes.{Change}
use Rattle.io_edge.specs.Lines.{WritesText}
use Rattle.io_edge.specs.declared.line_fault.LineFault.{LineFault}
use Rattle.io_edge.specs.declared.line_fault.LineFault.TheVariants as line
use Rattle.ntfe_model.specs.Shapes.{Shape}
use Rattle.ntfe_model.specs.FacesText.{faces_text}
use Rattle.ntfe_run.specs.Edges.{Edges}
use Rattle.io_edge.specs.Reading.{ReadsAll, ReadsPast}
use Rattle.ntfe_model.specs.RunText.{Form}
use Rattle.ntfe_run.specs.Inputs.{IsRefusalOf}
use Rattle.ntfe_run.specs.Earlier.{IsBegunRefusal}
use Rattle.ntfe_run.specs.Rooms.{Room, IsRead, IsReadInput, IsAnswer, IsAnswered}
use Rattle.ntfe_run.specs.Commands.{faces_room}
use Rattle.ntfe_run.specs.Statuses.{status_of_lines, IsReadStop, IsByteStop}
use Rattle.ntfe_run.specs.Messages.{TellsMessage}
use Rattle.ntfe_run.specs.declared.status.Refusal.{Refusal}
use Rattle.ntfe_run.specs.declared.status.Refusal.TheVariants.{Size, NoOutput, Text, Pair, Points, Earlier}
use Rattle.ntfe_run.specs.declared.status.Status.{Status}
use Rattle.ntfe_run.specs.declared.status.Status.TheVariants.{Done, Usage, Refused, Overflow, Limit, Memory, ReadFault, WriteFault}

-- the points and two-faces are a text of their own
pub faces_answer : (g : Shape) (a b : Option (List ℕ)) (f h : ℕ) (r : Result (Unit {0}) LineFault) → WritesText a b f h r (faces_text g)
    → IsAnswer faces_room g (record { before = a; after = b }) (record { before = f; after = h }) (status_of_lines r)
faces_answer g a b f h (Ok done) w = record { text = faces_text g; is = refl; all = w.ok }
faces_answer g a b f h (Err line.Write) w = (record { text = faces_text g; is = refl; prefix = w.err }, w.cause refl)
faces_answer g a b f h (Err line.Memory) w = record { text = faces_text g; is = refl; prefix = w.err }

-- an input was read, and answered
pub answered : (r : Room) (i : r.Input) (e : Edges) (s : Status) → IsReadInput r e i → IsAnswer r i e.taken e.write_faults s → IsAnswered r e s
answered r i e Done read h = record { cause = (i, read); text = record { input = i; read = read; takes = h } }
answered r i e (Overflow choice step number) read h = record { cause = (i, read, h.is.0); text = record { input = i; read = read; takes = h } }
answered r i e (Limit face) read h = record { cause = (i, h.is.0, read, h.is.1); text = record { input = i; read = read; takes = h } }
answered r i e (Refused refusal) read h = absurd h
answered r i e Memory read h = record { cause = tt; text = inr record { input = i; read = read; takes = h } }
answered r i e WriteFault read h = record { cause = h.1; text = record { input = i; read = read; takes = h.0 } }
answered r i e ReadFault read h = absurd h
answered r i e Usage read h = absurd h

-- no input was read, and nothing was written
module _ (r : Room) (most : ℕ) (limited : r.limit ≡ Some most) (e : Edges) (kept : Keeps e.taken.before e.taken.after) where
  -- the input was read, and refused
  refused : (refusal : Refusal) → (bytes : List ℕ) × ReadsAll e.left.before e.left.after bytes most × r.Refuses bytes refusal → IsRead r.limit e (λ bytes. r.Refuses bytes refusal)
  refused refusal h = subst (λ (l : Option ℕ). IsRead l e (λ bytes. r.Refuses bytes refusal)) (sym limited) h

  pub read_stopped : (s : Status) → IsReadStop most r.Refuses e.left e.read_faults s → IsAnswered r e s
  read_stopped (Refused (Size limit)) h = record { cause = (limited ∙ ap (λ n. Some n) (sym h.0), subst (λ (n : ℕ). ReadsPast e.left.before e.left.after n) (sym h.0) h.1); text = kept }
  read_stopped (Refused NoOutput) h = record { cause = refused NoOutput h; text = kept }
  read_stopped (Refused (Text fault)) h = record { cause = refused (Text fault) h; text = kept }
  read_stopped (Refused (Pair fault)) h = record { cause = refused (Pair fault) h; text = kept }
  read_stopped (Refused (Points fault)) h = record { cause = refused (Points fault) h; text = kept }
  read_stopped (Refused (Earlier fault)) h = record { cause = refused (Earlier fault) h; text = kept }
  read_stopped Memory h = record { cause = tt; text = inl kept }
  read_stopped ReadFault h = record { cause = h; text = kept }
  read_stopped Done h = absurd h
  read_stopped Usage h = absurd h
  read_stopped WriteFault h = absurd h
  read_stopped (Overflow choice step number) h = absurd h
  read_stopped (Limit face) h = absurd h

-- a source that stops before its end stops every reading
pub bytes_stopped : (most : ℕ) (Refuses : List ℕ → Refusal → Type 0) (left : Change (Option (List ℕ))) (faults : Change ℕ) (s : Status) → IsByteStop most left faults s → IsReadStop most Refuses left faults s
bytes_stopped most Refuses left faults (Refused (Size limit)) h = h
bytes_stopped most Refuses left faults (Refused NoOutput) h = absurd h.2
bytes_stopped most Refuses left faults (Refused (Text fault)) h = absurd h.2
bytes_stopped most Refuses left faults (Refused (Pair fault)) h = absurd h.2
bytes_stopped most Refuses left faults (Refused (Points fault)) h = absurd h.2
bytes_stopped most Refuses left faults (Refused (Earlier fault)) h = absurd h.2
bytes_stopped most Refuses left faults Memory h = tt
bytes_stopped most Refuses left faults ReadFault h = h
bytes_stopped most Refuses left faults Done h = absurd h
bytes_stopped most Refuses left faults Usage h = absurd h
bytes_stopped most Refuses left faults WriteFault h = absurd h
bytes_stopped most Refuses left faults (Overflow choice step number) h = absurd h
bytes_stopped most Refuses left faults (Limit face) h = absurd h

-- what is read and refused stops the run
module _ (most : ℕ) (left : Change (Option (List ℕ))) (faults : Change ℕ) (bytes : List ℕ) (read : ReadsAll left.before left.after bytes most) where
  pub pair_refused : (refusal : Refusal) → IsRefusalOf bytes refusal → IsReadStop most IsRefusalOf left faults (Refused refusal)
  pair_refused (Text fault) h = (bytes, read, h)
  pair_refused (Pair fault) h = (bytes, read, h)
  pair_refused (Points fault) h = (bytes, read, h)
  pair_refused (Size limit) h = absurd h
  pair_refused NoOutput h = absurd h
  pair_refused (Earlier fault) h = absurd h

  pub begun_refused : (form : Form) (refusal : Refusal) → IsBegunRefusal form bytes refusal → IsReadStop most (IsBegunRefusal form) left faults (Refused refusal)
  begun_refused form NoOutput h = (bytes, read, h)
  begun_refused form (Text fault) h = (bytes, read, h)
  begun_refused form (Pair fault) h = (bytes, read, h)
  begun_refused form (Points fault) h = (bytes, read, h)
  begun_refused form (Earlier fault) h = (bytes, read, h)
  begun_refused form (Size limit) h = absurd h.holds

-- a line that was written to its end, or to a fault of the sink, tells the message
pub told : (a b : Option (List ℕ)) (f h : ℕ) (r : Result (Unit {0}) LineFault) (text : List ℕ) → IfErr r (λ e. e ≡ line.Write) → WritesText a b f h r text
    → TellsMessage (record { before = a; after = b }) (record { before = f; after = h }) text
told a b f h (Ok done) text e w = record { prefix = prefix_all a b text w.ok; whole = λ n. w.ok }
told a b f h (Err d) text e w = record { prefix = w.err; whole = λ n. absurd (n (w.cause (ap (λ x. Err x) e))) }

pub keeps_same : (a : Option (List ℕ)) → Keeps a a
keeps_same None = tt
keeps_same (Some xs) = refl
