-- What is found at a key where the run goes on from the key before.
use Rattle.std.specs.Prelude.{ℕ, List}
use Rattle.ntfe_model.specs.Shapes.{Shape}
use Rattle.ntfe_model.specs.Certificates.{IsCertificate, IsBlockedBy}
use Rattle.ntfe_model.specs.declared.nogood.Nogood.{Nogood}
use Rattle.nogood_set.specs.Blocking.{NoneBlocks}
use Rattle.node_probe.specs.Findings.{IsWithin, IsSolution, IsFinding}
use Rattle.node_probe.specs.declared.finding.Finding.{Finding}
use Rattle.node_probe.specs.declared.finding.Finding.TheVariants.{End, Far, Blocked, Refuted, Wide, Class, Descend}

-- what holds of the head's folds: where they cancel, a certificate that blocks the key; else what the solver finds
abbrev pub IsJudgement : Shape → ℕ → List ℕ → Finding → Type 0
IsJudgement g width key (Refuted n) = IsCertificate g n × IsBlockedBy key n
IsJudgement g width key (Wide step number) = IsSolution g width key (Wide step number)
IsJudgement g width key (Class w) = IsSolution g width key (Class w)
IsJudgement g width key Descend = IsSolution g width key Descend
IsJudgement g width key End = ⊥
IsJudgement g width key (Far face) = ⊥
IsJudgement g width key (Blocked place) = ⊥

-- the first that holds: an item does not exist; the last is out of reach; an entry of the set blocks the key; what holds of the head's folds
abbrev pub IsFoundTrue : Shape → ℕ → List ℕ → List Nogood → Finding → Type 0
IsFoundTrue g width key set (Refuted n) = IsWithin g key × NoneBlocks set key × IsJudgement g width key (Refuted n)
IsFoundTrue g width key set End = IsFinding g width key set End
IsFoundTrue g width key set (Far face) = IsFinding g width key set (Far face)
IsFoundTrue g width key set (Blocked place) = IsFinding g width key set (Blocked place)
IsFoundTrue g width key set (Wide step number) = IsFinding g width key set (Wide step number)
IsFoundTrue g width key set (Class w) = IsFinding g width key set (Class w)
IsFoundTrue g width key set Descend = IsFinding g width key set Descend
