-- From first places, counted from 0, to least numbers, counted from 1.
use Rattle.std.proofs.Common.{◌≡◌, ◌∙◌, ℕ, ◌+◌, ◌-◌, ◌<◌, ⊎_elim, sym, ap, subst, arith, negsuc, ◌≤ℤ◌, ◌<ℤ◌, List, length}
use Rattle.std.proofs.lemmas.List.{get_or_default}
use Rattle.std.specs.Prelude.{Contains}
use Rattle.ntfe_nums.specs.Vectors.{Vector, dot, origin}
use Rattle.ntfe_model.specs.Lists.{IsLeast2}
use Rattle.ntfe_model.specs.Pairs.{VertexLists, entry}
use Rattle.ntfe_model.specs.Reflexive.{at, IsTightOnFour, HasLowProduct}
use Rattle.reflexive_pair.specs.RuledOut.{HasNoLowProduct, AreTightOnFour}
use Rattle.reflexive_pair.specs.Firsts.{IsHighBelow, IsFirstLow}
use Rattle.ntfe_model.proofs.Entries.{entry-at}
use Rattle.reflexive_pair.proofs.CauseLemmas.{not_low}

-- the entry at a place that is known by its number
at_number : (vs : List Vector) (a i : ℕ) → a ≡ i + 1 → at vs i ≡ entry vs a
at_number vs a i e = let f : i ≡ a - 1 = omega arith in ap (at vs) f

-- what the code reads at a place
pub same_four : (P : Vector → Vector → Vector → Vector → Type 0) {a b c d a' b' c' d' : Vector} → a ≡ a' → b ≡ b' → c ≡ c' → d ≡ d' → P a b c d → P a' b' c' d'
same_four P {a} {b} {c} {d} {a'} {b'} {c'} {d'} e f g h x =
    let P1 : Vector → Type 0 = λ y. P y b c d in
    let P2 : Vector → Type 0 = λ y. P a' y c d in
    let P3 : Vector → Type 0 = λ y. P a' b' y d in
    let P4 : Vector → Type 0 = λ y. P a' b' c' y in
    subst P4 h (subst P3 g (subst P2 f (subst P1 e x)))

-- the place where an entry stands
contained_at : (vs : List Vector) (x : Vector) (c : Contains vs x) → at vs c.0 ≡ x
contained_at vs x c = get_or_default vs c.0 origin x c.1 ∙ c.2

pub no_low_product : (p : VertexLists) → ((k : ℕ) → k < length p.vertices → IsHighBelow (at p.vertices k) p.dual (length p.dual)) → HasNoLowProduct p
no_low_product p h m v cm cv =
    let P : Vector → Type 0 = λ x. negsuc 0 ≤ℤ dot x v in
    let Q : Vector → Type 0 = λ x. negsuc 0 ≤ℤ dot (at p.dual cm.0) x in
    subst P (contained_at p.dual m cm) (subst Q (contained_at p.vertices v cv) (h cv.0 cv.1 cm.0 cm.1))

pub all_tight : (ms vs : List Vector) → ((k : ℕ) → k < length ms → IsTightOnFour (at ms k) vs) → AreTightOnFour ms vs
all_tight ms vs h m c = let P : Vector → Type 0 = λ x. IsTightOnFour x vs in subst P (contained_at ms m c) (h c.0 c.1)

pub low_least : (p : VertexLists) (i j : ℕ) → i < length p.vertices → IsFirstLow (at p.vertices i) p.dual j → ((k : ℕ) → k < i → IsHighBelow (at p.vertices k) p.dual (length p.dual)) → IsLeast2 (HasLowProduct p) (i + 1) (j + 1)
low_least p i j within h before = record {
  holds = record {
    vertex = (omega arith, omega arith);
    facet = (omega arith, (let a = h.within in omega arith));
    under = let P : Vector → Type 0 = λ m. dot m (entry p.vertices (i + 1)) <ℤ negsuc 0 in
        let Q : Vector → Type 0 = λ v. dot (at p.dual j) v <ℤ negsuc 0 in
        subst P (sym (entry-at p.dual j)) (subst Q (sym (entry-at p.vertices i)) h.low);
  };
  least = λ a b earlier r.
      let v = r.vertex in
      let f = r.facet in
      ⊎_elim
      (λ (lt : a < i + 1). not_low _ (before (a - 1) (omega arith) (b - 1) (omega arith)) r.under)
      (λ (s : (a ≡ i + 1) × (b < j + 1)).
      let Q : Vector → Type 0 = λ w. negsuc 0 ≤ℤ dot (entry p.dual b) w in
      not_low _ (subst Q (at_number p.vertices a i s.0) (h.first (b - 1) (omega arith))) r.under) earlier;
}
