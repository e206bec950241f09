-- Where a command can answer what it is given and no count of faults rose, all was done or memory ran out.
use Rattle.std.proofs.Common.{◌≡◌, ◌∙◌, inl, inr, refl, sym, ap, subst, ℕ, ℤ, List, Some, None}
use Rattle.std.specs.Prelude.{Option}
use Rattle.io_edge.specs.Reading.{ReadsAll, ReadsPast}
use Rattle.ntfe_words.specs.CommandLine.{Setting, Reading, number, AreOptions, IsDemo, IsMeaningOf, IsMeaning}
use Rattle.ntfe_words.specs.declared.command.Command.{Command}
use Rattle.ntfe_words.specs.declared.command.Command.TheVariants as command
use Rattle.ntfe_words.specs.declared.command.Options.{Options}
use Rattle.ntfe_run.specs.Edges.{Edges}
use Rattle.ntfe_run.specs.Rooms.{Room, IsRead, IsReadInput, IsReadRefusal, IsGiven, HasCause}
use Rattle.ntfe_run.specs.Commands.{room_of, form_of_options}
use Rattle.ntfe_run.specs.Answers.{HasAnswer, HasAnswerCause, IsComplete}
use Rattle.ntfe_run.proofs.BegunFixed.{begun_fixed, begun_not_refused}
use Rattle.ntfe_run.proofs.InputsFixed.{read_fixed, not_past, shape_fixed, input_fixed, not_refused}
use Rattle.ntfe_run.specs.declared.status.Refusal.{Refusal}
use Rattle.ntfe_run.specs.declared.status.Refusal.TheVariants.{Size, NoOutput, Text, Pair, Points, Earlier}
use Rattle.ntfe_run.specs.declared.status.Status.{Status}
use Rattle.ntfe_run.specs.declared.status.Status.TheVariants.{Done, Usage, Refused, Overflow, Limit, Memory, ReadFault, WriteFault}

-- ---- words mean one command

options_fixed : (settings : List Setting) (o p : Options) → AreOptions settings o → AreOptions settings p → o ≡ p
options_fixed settings o p h k =
    let a : o.workers ≡ p.workers = cc (h.workers, k.workers) in
    let b : o.limit ≡ p.limit = cc (h.limit, k.limit) in
    let c : o.width ≡ p.width = cc (h.width, k.width) in
    let d : o.push ≡ p.push = cc (h.push, k.push) in
    let e : o.stars ≡ p.stars = cc (h.stars, k.stars) in
    λ i. record { workers = a i; limit = b i; width = c i; push = d i; stars = e i }

demo_fixed : (r : Reading) (n workers width m others wide : ℕ) → IsDemo r n workers width → IsDemo r m others wide → (n ≡ m) × (workers ≡ others) × (width ≡ wide)
demo_fixed r n workers width m others wide h k =
    let a : h.word ≡ k.word = cc (h.plains, k.plains) in
    let b : Some n ≡ Some m = sym h.n_is ∙ ap (number 1 5) a ∙ k.n_is in
    (cc b, cc (h.workers_is, k.workers_is), cc (h.width_is, k.width_is))

reading_fixed : (r : Reading) (c d : Command) → IsMeaningOf r c → IsMeaningOf r d → c ≡ d
reading_fixed r (command.Classes o) (command.Classes p) h k = ap command.Classes (options_fixed r.settings o p h.1 k.1)
reading_fixed r (command.Classes o) (command.Resume p) h k = let e = sym h.0 ∙ k.0 in cc
reading_fixed r (command.Classes o) command.Faces h k = let e = sym h.0 ∙ k.0 in cc
reading_fixed r (command.Classes o) (command.Demo m others wide) h k = let e = sym h.0 ∙ k.plains in cc
reading_fixed r (command.Resume o) (command.Classes p) h k = let e = sym h.0 ∙ k.0 in cc
reading_fixed r (command.Resume o) (command.Resume p) h k = ap command.Resume (options_fixed r.settings o p h.1 k.1)
reading_fixed r (command.Resume o) command.Faces h k = let e = sym h.0 ∙ k.0 in cc
reading_fixed r (command.Resume o) (command.Demo m others wide) h k = let e = sym h.0 ∙ k.plains in cc
reading_fixed r command.Faces (command.Classes p) h k = let e = sym h.0 ∙ k.0 in cc
reading_fixed r command.Faces (command.Resume p) h k = let e = sym h.0 ∙ k.0 in cc
reading_fixed r command.Faces command.Faces h k = refl
reading_fixed r command.Faces (command.Demo m others wide) h k = let e = sym h.0 ∙ k.plains in cc
reading_fixed r (command.Demo n workers width) (command.Classes p) h k = let e = sym h.plains ∙ k.0 in cc
reading_fixed r (command.Demo n workers width) (command.Resume p) h k = let e = sym h.plains ∙ k.0 in cc
reading_fixed r (command.Demo n workers width) command.Faces h k = let e = sym h.plains ∙ k.0 in cc
reading_fixed r (command.Demo n workers width) (command.Demo m others wide) h k = (let e = demo_fixed r n workers width m others wide h k in λ i. command.Demo (e.0 i) (e.1 i) (e.2 i))

pub meaning_fixed : (words : List (List ℕ)) (c d : Command) → IsMeaning words c → IsMeaning words d → c ≡ d
meaning_fixed words c d h k =
    let e : h.read ≡ k.read = cc (h.reads, k.reads) in
    reading_fixed k.read c d (subst (λ (r : Reading). IsMeaningOf r c) e h.means) k.means

-- ---- the rooms: bytes hold one input, or are refused

pub holds_once : (c : Command) (bytes : List ℕ) (i j : (room_of c).Input) → (room_of c).Holds bytes i → (room_of c).Holds bytes j → i ≡ j
holds_once (command.Classes o) bytes i j h k = input_fixed bytes i j h k
holds_once (command.Resume o) bytes i j h k = begun_fixed (form_of_options o) bytes i j h k
holds_once command.Faces bytes i j h k = input_fixed bytes i j h k
holds_once (command.Demo n workers width) bytes i j h k = shape_fixed i j (h.pair ∙ sym k.pair) h.shape k.shape

pub not_refused_too : (c : Command) (bytes : List ℕ) (i : (room_of c).Input) (refusal : Refusal) → (room_of c).Holds bytes i → (room_of c).Refuses bytes refusal → ⊥
not_refused_too (command.Classes o) bytes i refusal h k = not_refused bytes i refusal h k
not_refused_too (command.Resume o) bytes i refusal h k = begun_not_refused (form_of_options o) bytes i h refusal k
not_refused_too command.Faces bytes i refusal h k = not_refused bytes i refusal h k
not_refused_too (command.Demo n workers width) bytes i refusal h k = k

module _ (e : Edges) where
  -- what was read is what is given
  from_read : (limit : Option ℕ) (bytes : List ℕ) (P : List ℕ → Type 0) → IsGiven limit e bytes → IsRead limit e P → P bytes
  from_read None bytes P given (untouched, p) = subst P (sym given) p
  from_read (Some limit) bytes P given (own, reads, p) =
      subst P (read_fixed bytes own e.left.after limit (subst (λ (l : Option (List ℕ)). ReadsAll l e.left.after own limit) given.0 reads)) p

  not_too_long : (limit : Option ℕ) (bytes : List ℕ) (most : ℕ) → limit ≡ Some most → IsGiven limit e bytes → ReadsPast e.left.before e.left.after most → ⊥
  not_too_long limit bytes most at given past =
      let g = subst (λ (l : Option ℕ). IsGiven l e bytes) at given in not_past bytes e.left.after most g.1 (subst (λ (l : Option (List ℕ)). ReadsPast l e.left.after most) g.0 past)

module _ (words : List (List ℕ)) (e : Edges) (a : HasAnswer words e) where
  abbrev own : Room
  own = room_of a.asked

  no_refusal_of : (refusal : Refusal) → IsRead own.limit e (λ bytes. own.Refuses bytes refusal) → ⊥
  no_refusal_of refusal r = not_refused_too a.asked a.can.bytes a.can.input refusal a.can.holds (from_read e own.limit a.can.bytes (λ bytes. own.Refuses bytes refusal) a.can.given r)

  no_refusal : (refusal : Refusal) → IsReadRefusal own e refusal → ⊥
  no_refusal (Size limit) r = not_too_long e own.limit a.can.bytes limit r.0 a.can.given r.1
  no_refusal NoOutput r = no_refusal_of NoOutput r
  no_refusal (Text fault) r = no_refusal_of (Text fault) r
  no_refusal (Pair fault) r = no_refusal_of (Pair fault) r
  no_refusal (Points fault) r = no_refusal_of (Points fault) r
  no_refusal (Earlier fault) r = no_refusal_of (Earlier fault) r

  own_input : (i : own.Input) → IsReadInput own e i → i ≡ a.can.input
  own_input i r = holds_once a.asked a.can.bytes i a.can.input (from_read e own.limit a.can.bytes (λ bytes. own.Holds bytes i) a.can.given r) a.can.holds

  own_cause : (c : Command) (status : Status) → IsMeaning words c → HasCause (room_of c) e status → HasCause own e status
  own_cause c status m h = subst (λ (d : Command). HasCause (room_of d) e status) (meaning_fixed words c a.asked m a.means) h

  not_wide : (choice : List ℕ) (step : ℕ) (number : ℤ) → HasCause own e (Overflow choice step number) → ⊥
  not_wide choice step number (i, read, wide) = a.can.reach.narrow choice step number (subst (λ (j : own.Input). own.IsWide j choice step number) (own_input i read) wide)

  not_far : (face : ℕ) → HasCause own e (Limit face) → ⊥
  not_far face (i, key, read, far) = a.can.reach.near face key (subst (λ (j : own.Input). own.IsFar j face key) (own_input i read) far)

pub complete : (words : List (List ℕ)) (e : Edges) (status : Status) → HasAnswerCause words e status → IsComplete words e status
complete words e Done c a n m = inl refl
complete words e Memory c a n m = inr refl
complete words e Usage c a n m = absurd (c.0 (a.asked, a.means))
complete words e ReadFault (c, means, k) a n m = absurd (n k)
complete words e WriteFault (c, means, k) a n m = absurd (m k)
complete words e (Overflow choice step number) (c, means, k) a n m = absurd (not_wide words e a choice step number (own_cause words e a c (Overflow choice step number) means k))
complete words e (Limit face) (c, means, k) a n m = absurd (not_far words e a face (own_cause words e a c (Limit face) means k))
complete words e (Refused refusal) (c, means, k) a n m = absurd (no_refusal words e a refusal (own_cause words e a c (Refused refusal) means k))
