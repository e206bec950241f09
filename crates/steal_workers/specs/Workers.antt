-- What a worker of a pool keeps.
use Rattle.std.specs.Prelude.{◌≡◌, ℕ, List, All}
use Rattle.ntfe_model.specs.Shapes.{Shape}
use Rattle.ntfe_model.specs.Certificates.{IsCertificate}
use Rattle.ntfe_model.specs.declared.nogood.Nogood.{Nogood}
use Rattle.steal_workers.specs.Probing.{Probes, IsVerdictOn}
use Rattle.steal_workers.specs.declared.found_keys.FoundKey.{FoundKey}

-- all that was found is true, at this width
abbrev pub AreFound : Shape → ℕ → List FoundKey → Type 0
AreFound g width found = All (λ f. IsVerdictOn g width f.key f.verdict) found

-- its book and its certificates are of its geometry, and all that it found is true
pub record IsWorker (p : Probes) (g book_shape : Shape) (certificates : List Nogood) (keys : List FoundKey) : Type 0 where
  pub geometry : p.geometry ≡ g
  pub book : book_shape ≡ g
  pub set : All (IsCertificate g) certificates
  pub found : AreFound g p.width keys
