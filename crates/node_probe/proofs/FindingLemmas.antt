-- What is found at a key, from what was tried before.
use Rattle.std.proofs.Common.{◌≡◌, ◌≢◌, ◌∙◌, ℕ, ◌-◌, ◌<◌, ◌≤◌, ap, subst, arith, List, length, get_or}
use Rattle.std.specs.Prelude.{All}
use Rattle.std.proofs.lemmas.Option.{slice_get_within, get_or_from_slice_get}
use Rattle.ntfe_model.specs.Shapes.{Shape, IsShape}
use Rattle.ntfe_model.specs.Certificates.{IsCertificate}
use Rattle.ntfe_model.specs.Keys.{item_limit, last_number, IsKey}
use Rattle.ntfe_model.specs.declared.nogood.Nogood.{Nogood}
use Rattle.nogood_set.specs.Blocking.{IsFirstBlocking}
use Rattle.node_probe.specs.Findings.{IsBlockedAt}
use Rattle.ntfe_model.proofs.Counts.{faces_few}

pub key_few : (g : Shape) → IsShape g → (key : List ℕ) → IsKey g key → length key ≤ 4225
key_few g s key k = let a = faces_few g s in let b = k.at_most in omega (arith, a, b)

-- a last number that is not the item limit is below it
pub near_last : (g : Shape) (key numbers : List ℕ) → IsKey g key → numbers ≡ key → get_or numbers (length numbers - 1) 0 ≢ item_limit g → last_number key < item_limit g
near_last g key numbers k e d = less (last_number key) (item_limit g) k.last (λ q. d (ap (λ (ks : List ℕ). get_or ks (length ks - 1) 0) e ∙ q))
  where
    less : (i j : ℕ) → i ≤ j → i ≢ j → i < j
    less i j l n = grind (arith, l, n)

-- an entry that blocks the key is a certificate
pub blocked_at : (g : Shape) (set : List Nogood) (key : List ℕ) (place : ℕ) → All (IsCertificate g) set → last_number key < item_limit g → IsFirstBlocking set key place → IsBlockedAt g set key place
blocked_at g set key place all near first = record {
  first = first;
  pruned = (
    near,
    (let l = slice_get_within set place first.entry first.is in let P : Nogood → Type 0 = IsCertificate g in subst P (get_or_from_slice_get set place first.entry first.entry first.is) (all place first.entry l)),
    first.blocks,
  );
}
