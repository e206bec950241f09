use Rattle.std.proofs.Common.{◌≡◌, ◌∷◌, [], length, arith, refl, sym, ap, ◌∙◌, map}
use Rattle.std.proofs.lemmas.List.{map-append, length-map}
use Rattle.nogood_set.proofs.Chains.{kept, chains_partless}
use Rattle.nogood_set.proofs.set.NogoodSet.add_partless.Goals as goal

pub invariant_of-self : goal.invariant_of-self
invariant_of-self c = kept _ _ _ _ _ _ _ (ap (map (λ r. r.now)) c.reserve.ensures.items) refl (λ _. refl) c.self.invariant

pub invariant_of-self-in_err-reserve-2 : goal.invariant_of-self-in_err-reserve-2
invariant_of-self-in_err-reserve-2 c = kept _ _ _ _ _ _ _ (ap (map (λ r. r.now)) c.reserve.ensures.items) c.reserve-2.ensures.items (λ _. refl) c.self.invariant

pub invariant_of-self-2 : goal.invariant_of-self-2
invariant_of-self-2 c =
    let h = kept _ _ _ _ _ _ _ (ap (map (λ r. r.now)) c.reserve.ensures.items) c.reserve-2.ensures.items (λ _. refl) c.self.invariant in
    let place : c.len-place.result ≡ length (map (λ r. r.now) c.reserve.new.self.items) = omega (arith, c.len-place.ensures, c.reserve.new.self.ok, length-map c.reserve.new.self.items (λ r. r.now)) in
    let longer = ap (map (λ r. r.now)) c.push_reserved.ensures.items ∙ map-append (λ r. r.now) c.reserve.new.self.items (c.args.nogood ∷ []) in
    let k = kept _ _ _ _ _ _ _ longer c.push_reserved-2.ensures.items (λ _. refl) (chains_partless _ _ _ _ _ _ h c.requires place) in
    rw (sym c.or-self-inside.ensures) at k
