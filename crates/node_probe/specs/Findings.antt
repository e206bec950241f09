-- What each finding at a key says.
use Rattle.std.specs.Prelude.{◌≡◌, ℕ, ◌+◌, ◌<◌, ℤ, List, length, map, slice_get, Some, Contains, ⊤}
use Rattle.ntfe_model.specs.Shapes.{Shape}
use Rattle.ntfe_model.specs.Choices.{IsExtendable}
use Rattle.ntfe_model.specs.Certificates.{IsCertificate, IsBlockedBy}
use Rattle.ntfe_model.specs.Solver.{fold_row, IsInfeasible}
use Rattle.ntfe_model.specs.Keys.{item_limit, last_number, AllItemsExist, AreHeadFolds, BeginsWith, IsEnd, IsFar, IsPruned, IsClass, IsWideAt, IsInner, IsRefutedAt}
use Rattle.ntfe_model.specs.declared.nogood.Fold.{Fold}
use Rattle.ntfe_model.specs.declared.nogood.Term.{Term}
use Rattle.ntfe_model.specs.declared.nogood.Nogood.{Nogood}
use Rattle.nogood_set.specs.Blocking.{NoneBlocks, IsFirstBlocking}
use Rattle.node_probe.specs.declared.finding.Finding.{Finding}
use Rattle.node_probe.specs.declared.finding.Finding.TheVariants.{End, Far, Blocked, Refuted, Wide, Class, Descend}

-- all items of the head exist, and are in reach
abbrev pub IsWithin : Shape → List ℕ → Type 0
IsWithin g key = AllItemsExist g key × (last_number key < item_limit g)

-- the entry at this place is the first that blocks the key
pub record IsBlockedAt (g : Shape) (set : List Nogood) (key : List ℕ) (place : ℕ) : Type 0 where
  pub first : IsFirstBlocking set key place
  pub pruned : IsPruned g key first.entry

-- The stated solver at this width is infeasible on the head's folds, and the certificate has its multipliers, with the folds of their rows;
-- it blocks the key, and each of its parts has a term.
pub record IsRefutation (g : Shape) (width : ℕ) (key : List ℕ) (n : Nogood) : Type 0 where
  pub rows : List Fold
  pub folds : AreHeadFolds g 0 key rows
  pub multipliers : List (ℕ × ℤ)
  pub infeasible : IsInfeasible (length g.points) (map (fold_row (length g.points)) rows) (Some width) multipliers
  pub times : map (λ t. t.times) n.terms ≡ map (λ e. e.1) multipliers
  pub terms : map (λ t. Some t.fold) n.terms ≡ map (λ e. slice_get rows e.0) multipliers
  pub certificate : IsCertificate g n
  pub blocks : IsBlockedBy key n
  pub used : (k : ℕ) → k < length n.parts → (t : Term) × Contains n.terms t × (t.part ≡ k)

-- what the solver finds on the head's folds
abbrev pub IsSolution : Shape → ℕ → List ℕ → Finding → Type 0
IsSolution g width key (Refuted n) = IsRefutation g width key n
IsSolution g width key (Wide step number) = (length key ≡ length g.faces) × IsWideAt g width key step number
IsSolution g width key (Class w) = (length key ≡ length g.faces) × IsClass g key w
IsSolution g width key Descend = IsInner g key × ¬ (IsRefutedAt g width key)
IsSolution g width key End = ⊥
IsSolution g width key (Far face) = ⊥
IsSolution g width key (Blocked place) = ⊥

-- the first that holds: an item does not exist; the last is out of reach; an entry of the set blocks the key; what the solver finds
abbrev pub IsFinding : Shape → ℕ → List ℕ → List Nogood → Finding → Type 0
IsFinding g width key set End = IsEnd g key
IsFinding g width key set (Far face) = IsFar g key × (length key ≡ face + 1)
IsFinding g width key set (Blocked place) = IsWithin g key × IsBlockedAt g set key place
IsFinding g width key set (Refuted n) = IsWithin g key × NoneBlocks set key × IsSolution g width key (Refuted n)
IsFinding g width key set (Wide step number) = IsWithin g key × NoneBlocks set key × IsSolution g width key (Wide step number)
IsFinding g width key set (Class w) = IsWithin g key × NoneBlocks set key × IsSolution g width key (Class w)
IsFinding g width key set Descend = IsWithin g key × NoneBlocks set key × IsSolution g width key Descend

-- where a certificate blocks the key, no extendable choice begins with its numbers
abbrev pub RulesOut : Shape → List ℕ → Finding → Type 0
RulesOut g key (Blocked place) = (choice : List ℕ) → IsExtendable g choice → ¬ (BeginsWith key choice)
RulesOut g key (Refuted n) = (choice : List ℕ) → IsExtendable g choice → ¬ (BeginsWith key choice)
RulesOut g key x = ⊤
