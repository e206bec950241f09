-- What is found where the run goes on from the key before.
use Rattle.std.proofs.Common.{ℕ, List}
use Rattle.farkas_check.proofs.Refuting.{blocked_refuted}
use Rattle.ntfe_model.specs.Shapes.{Shape, IsShape}
use Rattle.ntfe_model.specs.declared.nogood.Nogood.{Nogood}
use Rattle.node_probe.specs.Findings.{IsSolution, IsFinding, RulesOut}
use Rattle.node_probe.specs.Followed.{IsJudgement, IsFoundTrue}
use Rattle.node_probe.specs.declared.finding.Finding.{Finding}
use Rattle.node_probe.specs.declared.finding.Finding.TheVariants.{End, Far, Blocked, Refuted, Wide, Class, Descend}

pub solution_judged : (g : Shape) (width : ℕ) (key : List ℕ) (x : Finding) → IsSolution g width key x → IsJudgement g width key x
solution_judged g width key (Refuted n) h = (h.certificate, h.blocks)
solution_judged g width key (Wide step number) h = h
solution_judged g width key (Class w) h = h
solution_judged g width key Descend h = h
solution_judged g width key End h = h
solution_judged g width key (Far face) h = h
solution_judged g width key (Blocked place) h = h

pub finding_true : (g : Shape) (width : ℕ) (key : List ℕ) (set : List Nogood) (x : Finding) → IsFinding g width key set x → IsFoundTrue g width key set x
finding_true g width key set (Refuted n) h = (h.0, h.1, (h.2.certificate, h.2.blocks))
finding_true g width key set (Wide step number) h = h
finding_true g width key set (Class w) h = h
finding_true g width key set Descend h = h
finding_true g width key set End h = h
finding_true g width key set (Far face) h = h
finding_true g width key set (Blocked place) h = h

-- ---- a certificate that blocks the key rules its choices out

pub judged_out : (g : Shape) (width : ℕ) (key : List ℕ) (x : Finding) → IsShape g → IsJudgement g width key x → RulesOut g key x
judged_out g width key (Refuted n) s h = λ choice e b. blocked_refuted g n key choice s h.0 h.1 b e
judged_out g width key (Wide step number) s h = tt
judged_out g width key (Class w) s h = tt
judged_out g width key Descend s h = tt
judged_out g width key End s h = tt
judged_out g width key (Far face) s h = tt
judged_out g width key (Blocked place) s h = absurd h

pub found_out : (g : Shape) (width : ℕ) (key : List ℕ) (set : List Nogood) (x : Finding) → IsShape g → IsFinding g width key set x → RulesOut g key x
found_out g width key set (Blocked place) s h = λ choice e b. blocked_refuted g h.1.first.entry key choice s h.1.pruned.1 h.1.pruned.2 b e
found_out g width key set (Refuted n) s h = λ choice e b. blocked_refuted g n key choice s h.2.certificate h.2.blocks b e
found_out g width key set (Wide step number) s h = tt
found_out g width key set (Class w) s h = tt
found_out g width key set Descend s h = tt
found_out g width key set End s h = tt
found_out g width key set (Far face) s h = tt
