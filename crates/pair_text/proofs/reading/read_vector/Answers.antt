use Rattle.std.proofs.Common.{[], ◌∷◌, refl, sym, ◌∙◌, subst}
use Rattle.std.proofs.lemmas.Bool.{false≢true}
use Rattle.ntfe_nums.specs.Vectors.{numbers}
use Rattle.ntfe_model.specs.Pairs.{IsSmall}
use Rattle.pair_text.proofs.Caps.{vector-large}
use Rattle.pair_text.proofs.reading.read_vector.Goals as goal

pub returns-then-not-are_small : goal.returns-then-not-are_small
returns-then-not-are_small c =
    let h = c.in-Some-four_numbers.ensures in (
      refl,
      record {
        ns = c.in-Some.a.now ∷ c.in-Some.b.now ∷ c.in-Some.c.now ∷ c.in-Some.d.now ∷ [];
        zs = numbers h.exact;
        has = (c.in-Some.ensures, refl);
        are = h.are;
        large = vector-large h.exact (λ s. false≢true (sym c.if-not-are_small.true ∙ c.are_small.ensures.1 (subst IsSmall (sym h.is) s)));
      },
    )
