-- Members of a star as four independent points of a facet, in any order, above which every other point of the facet rises at whole heights.
--     IsLow xs v m a b c d      such points, where m has the facet
--     low_member, member_low      they are the members of the star
use Rattle.std.proofs.Common.{◌≡◌, ◌≢◌, ℕ, ◌<◌, ◌⊎◌, inl, inr, ⊎_elim, refl, sym, ap, ◌∙◌, subst, arith, ℤ, pos, ◌*ℤ◌, ◌<ℤ◌, neg_ℤ, List, [], ◌∷◌, length}
use Rattle.std.specs.Prelude.{Contains}
use Rattle.std.specs.List.{range_with_len}
use Rattle.std.proofs.lemmas.Int.{ints}
use Rattle.std.proofs.lemmas.List.Sorted.{Contains-permutation}
use Rattle.ntfe_nums.specs.Vectors.{Vector}
use Rattle.ntfe_nums.proofs.Ring.{ring}
use Rattle.ntfe_nums.proofs.Ring.Expression.{var, times, neg}
use Rattle.ntfe_model.specs.Lists.{IsNumberOf}
use Rattle.ntfe_model.specs.Pairs.{IsSmall, entry}
use Rattle.ntfe_model.specs.Reflexive.{IsTight}
use Rattle.ntfe_model.specs.Points.{place_of_point}
use Rattle.ntfe_model.specs.Stars.{IsOrder, IsMember, IsLexAbove}
use Rattle.ntfe_model.specs.declared.point.Point.{Point}
use Rattle.ntfe_model.proofs.Listings.{Contains-here, Contains-there, listing_range}
use Rattle.ntfe_nums.proofs.Exchanges.{swap_first, swap_middle, swap_last, same_front, same_inner, same_third}
use Rattle.star_builder.proofs.FourPoints.{in_four}
use Rattle.star_builder.proofs.Rises.{rise, volume, rise_swap_first, rise_swap_middle, rise_swap_last}
use Rattle.star_builder.proofs.WholeHeights.{AreFive, whole, lex_rises, rises_lex, never_level}

-- ---- numbers that turn their signs

pub turned_product : (v r v' r' : ℤ) → v' ≡ neg_ℤ v → r' ≡ neg_ℤ r → pos 0 <ℤ (v *ℤ r) → pos 0 <ℤ (v' *ℤ r')
turned_product v r v' r' e f l =
    subst (λ z. pos 0 <ℤ z) (ring (v ∷ r ∷ []) (times (var 0) (var 1)) (times (neg (var 0)) (neg (var 1))) refl ∙ (λ i. sym e i *ℤ sym f i)) l

pub turned_not_zero : (v v' : ℤ) → v' ≡ neg_ℤ v → v ≢ pos 0 → v' ≢ pos 0
turned_not_zero v v' e n z = n (by v v' e z)
  where
    by : (v v' : ℤ) → v' ≡ neg_ℤ v → v' ≡ pos 0 → v ≡ pos 0
    by v v' e z = omega (arith, ints, e, z)

-- ---- members of four

pub has_first : (a b c d : ℕ) → Contains (a ∷ b ∷ c ∷ d ∷ []) a
has_first a b c d = Contains-here a a (b ∷ c ∷ d ∷ []) refl

pub has_second : (a b c d : ℕ) → Contains (a ∷ b ∷ c ∷ d ∷ []) b
has_second a b c d = Contains-there b a (b ∷ c ∷ d ∷ []) (Contains-here b b (c ∷ d ∷ []) refl)

pub has_third : (a b c d : ℕ) → Contains (a ∷ b ∷ c ∷ d ∷ []) c
has_third a b c d = Contains-there c a (b ∷ c ∷ d ∷ []) (Contains-there c b (c ∷ d ∷ []) (Contains-here c c (d ∷ []) refl))

pub has_fourth : (a b c d : ℕ) → Contains (a ∷ b ∷ c ∷ d ∷ []) d
has_fourth a b c d = Contains-there d a (b ∷ c ∷ d ∷ []) (Contains-there d b (c ∷ d ∷ []) (Contains-there d c (d ∷ []) (Contains-here d d [] refl)))

-- what is not one of four is none of them
pub none_of_four : (a b c d p : ℕ) → ¬ (Contains (a ∷ b ∷ c ∷ d ∷ []) p) → (p ≢ a) × (p ≢ b) × (p ≢ c) × (p ≢ d)
none_of_four a b c d p out = (
  (λ e. out (named a e (has_first a b c d))),
  (λ e. out (named b e (has_second a b c d))),
  (λ e. out (named c e (has_third a b c d))),
  (λ e. out (named d e (has_fourth a b c d))),
)
  where
    named : (k : ℕ) → p ≡ k → Contains (a ∷ b ∷ c ∷ d ∷ []) k → Contains (a ∷ b ∷ c ∷ d ∷ []) p
    named k e h = subst (λ j. Contains (a ∷ b ∷ c ∷ d ∷ []) j) (sym e) h

-- ---- four points above which the others rise

pub record IsLow (xs : List Point) (v : ℕ → ℤ) (m : Vector) (a b c d : ℕ) : Type 0 where
  pub numbers : IsNumberOf xs a × IsNumberOf xs b × IsNumberOf xs c × IsNumberOf xs d
  pub tight : IsTight m (place_of_point xs a) × IsTight m (place_of_point xs b) × IsTight m (place_of_point xs c) × IsTight m (place_of_point xs d)
  pub independent : volume (place_of_point xs) v a b c d ≢ pos 0
  pub above : (p : ℕ) → IsNumberOf xs p → p ≢ a → p ≢ b → p ≢ c → p ≢ d → IsTight m (place_of_point xs p)
      → pos 0 <ℤ (volume (place_of_point xs) v a b c d *ℤ rise (place_of_point xs) v a b c d p)

module _ (xs : List Point) (v : ℕ → ℤ) (m : Vector) where
  abbrev at : ℕ → Vector
  at = place_of_point xs

  pub low_first : (a b c d : ℕ) → IsLow xs v m a b c d → IsLow xs v m b a c d
  low_first a b c d l = record {
    numbers = (l.numbers.1, l.numbers.0, l.numbers.2, l.numbers.3);
    tight = (l.tight.1, l.tight.0, l.tight.2, l.tight.3);
    independent = turned_not_zero (volume at v a b c d) (volume at v b a c d) (swap_first (at a) (at b) (at c) (at d)) l.independent;
    above = λ p n pb pa pc pd t. turned_product (volume at v a b c d) (rise at v a b c d p) (volume at v b a c d) (rise at v b a c d p)
        (swap_first (at a) (at b) (at c) (at d)) (rise_swap_first at v a b c d p) (l.above p n pa pb pc pd t);
  }

  pub low_middle : (a b c d : ℕ) → IsLow xs v m a b c d → IsLow xs v m a c b d
  low_middle a b c d l = record {
    numbers = (l.numbers.0, l.numbers.2, l.numbers.1, l.numbers.3);
    tight = (l.tight.0, l.tight.2, l.tight.1, l.tight.3);
    independent = turned_not_zero (volume at v a b c d) (volume at v a c b d) (swap_middle (at a) (at b) (at c) (at d)) l.independent;
    above = λ p n pa pc pb pd t. turned_product (volume at v a b c d) (rise at v a b c d p) (volume at v a c b d) (rise at v a c b d p)
        (swap_middle (at a) (at b) (at c) (at d)) (rise_swap_middle at v a b c d p) (l.above p n pa pb pc pd t);
  }

  pub low_last : (a b c d : ℕ) → IsLow xs v m a b c d → IsLow xs v m a b d c
  low_last a b c d l = record {
    numbers = (l.numbers.0, l.numbers.1, l.numbers.3, l.numbers.2);
    tight = (l.tight.0, l.tight.1, l.tight.3, l.tight.2);
    independent = turned_not_zero (volume at v a b c d) (volume at v a b d c) (swap_last (at a) (at b) (at c) (at d)) l.independent;
    above = λ p n pa pb pd pc t. turned_product (volume at v a b c d) (rise at v a b c d p) (volume at v a b d c) (rise at v a b d c p)
        (swap_last (at a) (at b) (at c) (at d)) (rise_swap_last at v a b c d p) (l.above p n pa pb pc pd t);
  }

  pub low_tight : (a b c d : ℕ) → IsLow xs v m a b c d → (k : ℕ) → Contains (a ∷ b ∷ c ∷ d ∷ []) k → IsTight m (at k)
  low_tight a b c d l k h = by (in_four a b c d k h)
    where
      by : (k ≡ a) ⊎ ((k ≡ b) ⊎ ((k ≡ c) ⊎ (k ≡ d))) → IsTight m (place_of_point xs k)
      by (inl e) = subst (λ j. IsTight m (place_of_point xs j)) (sym e) l.tight.0
      by (inr (inl e)) = subst (λ j. IsTight m (place_of_point xs j)) (sym e) l.tight.1
      by (inr (inr (inl e))) = subst (λ j. IsTight m (place_of_point xs j)) (sym e) l.tight.2
      by (inr (inr (inr e))) = subst (λ j. IsTight m (place_of_point xs j)) (sym e) l.tight.3

  -- independent points are different
  pub volume_apart_first : (a b c d : ℕ) → volume at v a b c d ≢ pos 0 → a ≢ b
  volume_apart_first a b c d n e = n (ap (λ k. volume at v k b c d) e ∙ same_front (at b) (at c) (at d))

  pub volume_apart_middle : (a b c d : ℕ) → volume at v a b c d ≢ pos 0 → b ≢ c
  volume_apart_middle a b c d n e = n (ap (λ k. volume at v a k c d) e ∙ same_inner (at a) (at c) (at d))

  pub volume_apart_last : (a b c d : ℕ) → volume at v a b c d ≢ pos 0 → c ≢ d
  volume_apart_last a b c d n e = n (ap (λ k. volume at v a b k d) e ∙ same_third (at a) (at b) (at d))

  pub low_apart : (a b c d : ℕ) → IsLow xs v m a b c d → c ≢ d
  low_apart a b c d l = volume_apart_last a b c d l.independent

  -- what is none of four different numbers makes five
  pub volume_five : (a b c d p : ℕ) → volume at v a b c d ≢ pos 0 → p ≢ a → p ≢ b → p ≢ c → p ≢ d → AreFive a b c d p
  volume_five a b c d p n pa pb pc pd = record {
    ab = volume_apart_first a b c d n;
    ac = volume_apart_first a c b d (middle a b c d n);
    ad = volume_apart_first a d b c (middle a b d c (last a b c d n));
    bc = volume_apart_middle a b c d n;
    bd = volume_apart_middle a b d c (last a b c d n);
    cd = volume_apart_last a b c d n;
    pa = pa;
    pb = pb;
    pc = pc;
    pd = pd;
  }
    where
      middle : (a b c d : ℕ) → volume at v a b c d ≢ pos 0 → volume at v a c b d ≢ pos 0
      middle a b c d k = turned_not_zero (volume at v a b c d) (volume at v a c b d) (swap_middle (at a) (at b) (at c) (at d)) k

      last : (a b c d : ℕ) → volume at v a b c d ≢ pos 0 → volume at v a b d c ≢ pos 0
      last a b c d k = turned_not_zero (volume at v a b c d) (volume at v a b d c) (swap_last (at a) (at b) (at c) (at d)) k

-- heights at which no other point lies level with four independent points
abbrev pub IsGeneric : List Point → (ℕ → ℤ) → Type 0
IsGeneric xs v =
    (a b c d p : ℕ) → IsNumberOf xs a → IsNumberOf xs b → IsNumberOf xs c → IsNumberOf xs d → IsNumberOf xs p → p ≢ a → p ≢ b → p ≢ c → p ≢ d
    → volume (place_of_point xs) v a b c d ≢ pos 0 → rise (place_of_point xs) v a b c d p ≢ pos 0

-- ---- members of the star

module _ (ms : List Vector) (xs : List Point) (w : List ℤ) (order : List ℕ) (all : IsOrder (length xs) order)
    (small : (k : ℕ) → IsNumberOf xs k → IsSmall (place_of_point xs k)) where
  abbrev heights : ℕ → ℤ
  heights = whole w order

  pub in_order : (k : ℕ) → IsNumberOf xs k → Contains order k
  in_order k n = Contains-permutation (range_with_len 1 (length xs)) order k all ((listing_range 1 (length xs)).complete k (n.0, (let l = n.1 in omega (arith, l))))

  pub low_member : (facet : ℕ) → IsNumberOf ms facet → (a b c d : ℕ) → a < b → b < c → c < d → IsLow xs heights (entry ms facet) a b c d
      → IsMember ms xs w order (a ∷ b ∷ c ∷ d ∷ [])
  low_member facet number a b c d ab bc cd l = record {
    a = a;
    b = b;
    c = c;
    d = d;
    is = refl;
    ordered = (l.numbers.0, ab, bc, cd, l.numbers.3);
    facet = facet;
    number = number;
    tight = low_tight xs heights (entry ms facet) a b c d l;
    independent = l.independent;
    others = λ p n out t. let o = none_of_four a b c d p out in others p n o.0 o.1 o.2 o.3 t;
  }
    where
      others : (p : ℕ) → IsNumberOf xs p → p ≢ a → p ≢ b → p ≢ c → p ≢ d → IsTight (entry ms facet) (place_of_point xs p) → IsLexAbove xs w order a b c d p
      others p n pa pb pc pd t =
          rises_lex w order xs a b c d p l.independent (volume_five xs heights (entry ms facet) a b c d p l.independent pa pb pc pd) (in_order p n)
          (small a l.numbers.0) (small b l.numbers.1) (small c l.numbers.2) (small d l.numbers.3) (small p n) (l.above p n pa pb pc pd t)

  pub member_low : (members : List ℕ) (r : IsMember ms xs w order members) → IsLow xs heights (entry ms r.facet) r.a r.b r.c r.d
  member_low members r = record {
    numbers = (na, nb, nc, nd);
    tight = (r.tight r.a (named r.a (has_first r.a r.b r.c r.d)), r.tight r.b (named r.b (has_second r.a r.b r.c r.d)), r.tight r.c (named r.c (has_third r.a r.b r.c r.d)), r.tight r.d (named r.d (has_fourth r.a r.b r.c r.d)));
    independent = r.independent;
    above = λ p n pa pb pc pd t. lex_rises w order xs r.a r.b r.c r.d p r.independent (volume_five xs heights (entry ms r.facet) r.a r.b r.c r.d p r.independent pa pb pc pd) (in_order p n)
        (small r.a na) (small r.b nb) (small r.c nc) (small r.d nd) (small p n) (r.others p n (outside p pa pb pc pd) t);
  }
    where
      na : IsNumberOf xs r.a
      na = r.ordered.0

      nd : IsNumberOf xs r.d
      nd = r.ordered.4

      nb : IsNumberOf xs r.b
      nb = (let o = r.ordered in (omega (arith, o.0, o.1), omega (arith, o.2, o.3, o.4)))

      nc : IsNumberOf xs r.c
      nc = (let o = r.ordered in (omega (arith, o.0, o.1, o.2), omega (arith, o.3, o.4)))

      named : (k : ℕ) → Contains (r.a ∷ r.b ∷ r.c ∷ r.d ∷ []) k → Contains members k
      named k h = subst (λ (ks : List ℕ). Contains ks k) (sym r.is) h

      outside : (p : ℕ) → p ≢ r.a → p ≢ r.b → p ≢ r.c → p ≢ r.d → ¬ (Contains members p)
      outside p pa pb pc pd h = ⊎_elim pa (λ h1. ⊎_elim pb (λ h2. ⊎_elim pc pd h2) h1) (in_four r.a r.b r.c r.d p (subst (λ (ks : List ℕ). Contains ks p) r.is h))

  pub generic : IsGeneric xs heights
  generic a b c d p na nb nc nd np pa pb pc pd independent =
      never_level w order xs a b c d p independent (volume_five xs heights (place_of_point xs a) a b c d p independent pa pb pc pd) (in_order p np)
      (small a na) (small b nb) (small c nc) (small d nd) (small p np)
