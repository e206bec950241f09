use Rattle.std.proofs.Common.{[], ◌∷◌, refl, sym, ap, ◌∙◌, subst, lit<}
use Rattle.std.proofs.lemmas.Bool.{false≢true}
use Rattle.ntfe_model.specs.PairText.{number}
use Rattle.pair_text.proofs.Caps.{number-of, capped-back, capped-large}
use Rattle.ntfe_model.proofs.SmallVectors.{IsSmallNumber}
use Rattle.pair_text.proofs.reading.read_count.Goals as goal

pub returns-then-not-is_small-clause-fault : goal.returns-then-not-is_small-clause-fault
returns-then-not-is_small-clause-fault c =
    let z = number-of (number c.in-Some.field.now) _ c.in-Some-number.ensures in (
      refl,
      record {
        ns = c.in-Some.field.now ∷ [];
        zs = z.0 ∷ [];
        has = (c.in-Some.ensures, refl);
        are = ap (λ o. o ∷ []) z.1;
        large = (0, z.0, lit< tt, refl, capped-large z.0 (λ s. false≢true (sym c.if-not-is_small.true ∙ c.is_small.ensures.1 (subst IsSmallNumber (sym (capped-back z.0 c.in-Some-number.count z.2 ∙ z.2)) s))));
      },
    )
