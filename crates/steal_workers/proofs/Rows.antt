-- What a board hands out one after the other is a row of what comes next.
use Rattle.std.proofs.Common.{◌≡◌, refl, sym, ◌∙◌, subst, ℕ, List, [], ◌∷◌, ◌++◌}
use Rattle.std.specs.Prelude.{Option}
use Rattle.std.proofs.lemmas.List.Elements.{All-contains}
use Rattle.ntfe_model.specs.Shapes.{Shape}
use Rattle.ntfe_model.specs.Keys.{IsKey}
use Rattle.choice_board.specs.States.{State, IsSound}
use Rattle.choice_board.specs.Telling.{IsHandedOut}
use Rattle.choice_board.specs.declared.record.Found.TheVariants.{Class as FoundClass}
use Rattle.choice_board.specs.declared.outcome.Outcome.{Outcome}
use Rattle.choice_board.specs.declared.outcome.Outcome.TheVariants.{Class, Wide, Far}
use Rattle.steal_workers.specs.Listings.{Listed, Progress}
use Rattle.steal_workers.specs.Blocks.{MovesTo}
use Rattle.steal_workers.specs.Boards.{IsLevel}
use Rattle.steal_workers.specs.Shared.{IsKeyed, AreHandedOut, IsRow, last_after}
use Rattle.steal_workers.proofs.HandedOut.{next_outcome, fewer_handed, fewer_under_way}

-- ---- what is handed out

-- the choice of a class that is handed out is a key
handed_keyed : (s t : State) (g : Shape) → IsSound s → s.geometry ≡ g → (o : Outcome) → IsHandedOut s t o → IsKeyed g o
handed_keyed s t g sound e (Class choice w) h =
    subst (λ (x : Shape). IsKey x choice) e (All-contains (λ r. IsKey s.geometry r.key) s.recorded (record { key = choice; found = FoundClass choice w }) sound.record_keys h.0.next.recorded)
handed_keyed s t g sound e (Wide choice step number) h = tt
handed_keyed s t g sound e (Far face) h = tt

-- the board stays level with whoever writes the outcome
handed_level : (l : Listed) (last : Option (List ℕ)) (s t : State) → IsLevel l last s → IsSound t → (o : Outcome) → IsHandedOut s t o → IsLevel l (last_after last o) t
handed_level l last s t level sound o told = record { last = handed_last o told; under_way = fewer_under_way l s t (fewer_handed s t o told) level.under_way; sound = sound }
  where
    handed_last : (o : Outcome) → IsHandedOut s t o → t.last ≡ last_after last o
    handed_last (Class choice w) h = h.1
    handed_last (Wide choice step number) h = h.1 ∙ level.last
    handed_last (Far face) (key, ends, taken, same, stops, totals) = same ∙ level.last

-- ---- a row

pub handed_row : (l : Listed) (last : Option (List ℕ)) (s t : State) → IsLevel l last s → (os : List Outcome) → AreHandedOut s t os → IsRow l last os
handed_row l last s t level [] h = tt
handed_row l last s t level (o ∷ os) (u, told, sound, later) =
    (next_outcome l last s u level o told, handed_keyed s u l.geometry level.sound level.under_way.geometry o told, handed_row l (last_after last o) u t (handed_level l last s u level sound o told) os later)

-- one outcome more
pub handed_more : (s t u : State) (os : List Outcome) (o : Outcome) → AreHandedOut s t os → IsHandedOut t u o → IsSound u → AreHandedOut s u (os ++ o ∷ [])
handed_more s t u [] o same told sound = (u, subst (λ (x : State). IsHandedOut x u o) same told, sound, refl)
handed_more s t u (x ∷ os) o (v, first, whole, later) told sound = (v, first, whole, handed_more v t u os o later told sound)

-- once the first outcome is written, the others come next
pub rest_row : (p q : Progress) (o : Outcome) (os : List Outcome) → IsRow p.listed p.last (o ∷ os) → MovesTo p q o → IsRow q.listed q.last os
rest_row p q (Class choice w) os row moved = subst (λ (x : Progress). IsRow x.listed x.last os) (sym moved) row.2
rest_row p q (Wide choice step number) os row moved = absurd moved
rest_row p q (Far face) os row moved = absurd moved
