-- Triples that can stand together.
--     crossing_conflict, no_conflict_turns      sides in conflict, by the turns of their ends
--     part_more, part_left, part_next      one triple more, the triples before, and the next one
use Rattle.std.proofs.Common.{◌≡◌, ℕ, zero, suc, ◌+◌, ◌<◌, ◌≤◌, inl, inr, ⊎_elim, refl, sym, ap, ◌∙◌, subst, arith, List, [], ◌∷◌, ◌++◌, length, drop, get_or}
use Rattle.std.proofs.Math.Seq.{drop-length}
use Rattle.std.specs.Prelude.{All, Contains}
use Rattle.ntfe_model.specs.Charts.{Patch, turn, IsUnit}
use Rattle.ntfe_model.specs.Triangulations.{HasSide}
use Rattle.ntfe_model.specs.declared.triangle.Triangle.{Triangle}
use Rattle.ntfe_model.proofs.Listings.{Contains-here, Contains-cases, Contains-none, AllPairs-append, All-from_contains}
use Rattle.std.proofs.lemmas.List.Elements.{All-contains, All-cons, Contains-append_cases, Contains-append_left, Contains-append_right}
use Rattle.ntfe_model.proofs.Lists.{pairs_first, pairs_across}
use Rattle.ntfe_model.specs.Charts.{AreApart}
use Rattle.ntfe_model.proofs.UnitTriples.{unit_turn}
use Rattle.fine_stream.specs.Paths.{AreOpposite, IsUnitSide, AreInConflict, AreCompatible, IsPart}
use Rattle.fine_stream.proofs.Crosses.{crossing_turns, turns_crossing}

pub second_side : (h : Patch) (a b c : ℕ) → IsUnit h a b c → IsUnitSide h b c
second_side h a b c u = (a, unit_turn h a b c u)

pub third_side : (h : Patch) (a b c : ℕ) → IsUnit h a b c → IsUnitSide h c a
third_side h a b c u = (b, unit_turn h b c a (unit_turn h a b c u))

pub unit_side : (h : Patch) (t : Triangle) (x y : ℕ) → IsUnit h t.a t.b t.c → HasSide t x y → IsUnitSide h x y
unit_side h t x y u s = by s
  where
    moved : (i j : ℕ) → IsUnitSide h i j → i ≡ x → j ≡ y → IsUnitSide h x y
    moved i j k p q = let P : ℕ → Type 0 = λ z. IsUnitSide h z j in let Q : ℕ → Type 0 = λ z. IsUnitSide h x z in subst Q q (subst P p k)

    by : HasSide t x y → IsUnitSide h x y
    by (inl p) = moved t.a t.b (t.c, u) p.0 p.1
    by (inr (inl p)) = moved t.b t.c (second_side h t.a t.b t.c u) p.0 p.1
    by (inr (inr p)) = moved t.c t.a (third_side h t.a t.b t.c u) p.0 p.1

-- ---- conflicts

pub crossing_conflict : (h : Patch) → AreApart h → (x y z w : ℕ) → IsUnitSide h x y → IsUnitSide h z w → ¬ ((x ≡ z) × (y ≡ w)) → ¬ ((x ≡ w) × (y ≡ z))
    → AreOpposite (turn h x y z) (turn h x y w) → AreOpposite (turn h z w x) (turn h z w y) → AreInConflict h x y z w
crossing_conflict h apart x y z w u v n m p q =
    inr ((λ e. ⊎_elim n m e), turns_crossing h apart x y u.0 z w u.1 v.1.points.0 v.1.points.1 p q)

pub no_conflict_same : (h : Patch) (x y z w : ℕ) → IsUnitSide h x y → (x ≡ w) × (y ≡ z) → ¬ ((x ≡ z) × (y ≡ w)) → ¬ (AreInConflict h x y z w)
no_conflict_same h x y z w u e n k = ⊎_elim n (λ p. p.0 (inr e)) k

pub no_conflict_turns : (h : Patch) → AreApart h → (x y z w : ℕ) → IsUnitSide h x y → IsUnitSide h z w → ¬ ((x ≡ z) × (y ≡ w))
    → (AreOpposite (turn h x y z) (turn h x y w) → AreOpposite (turn h z w x) (turn h z w y) → ⊥) → ¬ (AreInConflict h x y z w)
no_conflict_turns h apart x y z w u v n m k =
    ⊎_elim n (λ p. let o = crossing_turns h apart x y u.0 z w v.0 u.1 v.1 p.0 p.1 in m o.0 o.1) k

-- what is said of the three sides is said of each
pub each_side : (P : ℕ → ℕ → Type 0) (u : Triangle) → P u.a u.b → P u.b u.c → P u.c u.a → (z w : ℕ) → HasSide u z w → P z w
each_side P u p q r z w s = by s
  where
    moved : (i j : ℕ) → P i j → i ≡ z → j ≡ w → P z w
    moved i j k e f = let A : ℕ → Type 0 = λ y. P y j in let B : ℕ → Type 0 = λ y. P z y in subst B f (subst A e k)

    by : HasSide u z w → P z w
    by (inl e) = moved u.a u.b p e.0 e.1
    by (inr (inl e)) = moved u.b u.c q e.0 e.1
    by (inr (inr e)) = moved u.c u.a r e.0 e.1

pub compatible_sides : (h : Patch) (t u : Triangle) → ((z w : ℕ) → HasSide u z w → ¬ (AreInConflict h t.a t.b z w)) → ((z w : ℕ) → HasSide u z w → ¬ (AreInConflict h t.b t.c z w))
    → ((z w : ℕ) → HasSide u z w → ¬ (AreInConflict h t.c t.a z w)) → AreCompatible h t u
compatible_sides h t u p q r = record {
  apart = λ x y z w s o. each_side (λ i j. (z w : ℕ) → HasSide u z w → ¬ (AreInConflict h i j z w)) t p q r x y s z w o;
}

-- ---- one triple more, and less

pub single_contains : {X : Type 0} (x y : X) → Contains (y ∷ []) x → x ≡ y
single_contains x y k = ⊎_elim (λ e. e) (λ l. Contains-none x l) (Contains-cases x y [] k)

pub part_more : (h : Patch) (ts : List Triangle) (t : Triangle) → IsPart h ts → IsUnit h t.a t.b t.c → All (λ u. AreCompatible h u t) ts → IsPart h (ts ++ t ∷ [])
part_more h ts t p u all = record {
  unit = All-from_contains (λ v. IsUnit h v.a v.b v.c) (ts ++ t ∷ []) (λ v k.
      ⊎_elim (λ l. All-contains (λ v. IsUnit h v.a v.b v.c) ts v p.unit l) (λ l. let P : Triangle → Type 0 = λ z. IsUnit h z.a z.b z.c in subst P (sym (single_contains v t l)) u)
      (Contains-append_cases ts (t ∷ []) v k));
  compatible = AllPairs-append (AreCompatible h) ts (t ∷ []) p.compatible (λ i j d k l. absurd (omega arith))
      (λ v z k l. let P : Triangle → Type 0 = λ w. AreCompatible h v w in subst P (sym (single_contains z t l)) (All-contains (λ w. AreCompatible h w t) ts v all k));
}

-- the triples before
pub part_left : (h : Patch) (ts us : List Triangle) → IsPart h (ts ++ us) → IsPart h ts
part_left h ts us p = record {
  unit = All-from_contains (λ v. IsUnit h v.a v.b v.c) ts (λ v k. All-contains (λ v. IsUnit h v.a v.b v.c) (ts ++ us) v p.unit (Contains-append_left ts us v k));
  compatible = pairs_first (AreCompatible h) ts us p.compatible;
}

-- the next triple
pub part_next : (h : Patch) (ts : List Triangle) (t : Triangle) → IsPart h (ts ++ t ∷ []) → IsUnit h t.a t.b t.c × All (λ u. AreCompatible h u t) ts
part_next h ts t p = (
  All-contains (λ v. IsUnit h v.a v.b v.c) (ts ++ t ∷ []) t p.unit (Contains-append_right ts (t ∷ []) t (Contains-here t t [] refl)),
  All-from_contains (λ u. AreCompatible h u t) ts (λ u k. pairs_across (AreCompatible h) ts (t ∷ []) p.compatible u t k (Contains-here t t [] refl)),
)

-- ---- from the last triple on

-- the triples from place n on are compatible with t
pub record AreCompatibleFrom (h : Patch) (n : ℕ) (us : List Triangle) (t : Triangle) : Type 0 where
  pub within : n ≤ length us
  pub all : All (λ u. AreCompatible h u t) (drop n us)

pub from_end : (h : Patch) (n : ℕ) (us : List Triangle) (t : Triangle) → n ≡ length us → AreCompatibleFrom h n us t
from_end h n us t e = record {
  within = omega arith;
  all = let P : List Triangle → Type 0 = λ vs. All (λ u. AreCompatible h u t) vs in
      subst P (sym (ap (λ k. drop k us) e ∙ drop-length us)) (All-from_contains (λ u. AreCompatible h u t) [] (λ u k. Contains-none u k));
}

pub one_before : {X : Type 0} (us : List X) (n : ℕ) (d : X) → n < length us → drop n us ≡ get_or us n d ∷ drop (suc n) us
one_before [] n d l = absurd (omega (arith, l))
one_before (u ∷ us) zero d l = refl
one_before (u ∷ us) (suc n) d l = one_before us n d (omega arith)

pub from_before : (h : Patch) (n m : ℕ) (us : List Triangle) (t d : Triangle) → n ≡ m + 1 → AreCompatible h (get_or us m d) t → AreCompatibleFrom h n us t → AreCompatibleFrom h m us t
from_before h n m us t d e c a = record {
  within = (let w = a.within in omega arith);
  all = let P : List Triangle → Type 0 = λ vs. All (λ v. AreCompatible h v t) vs in
      let rest : All (λ v. AreCompatible h v t) (drop (suc m) us) = (let Q : ℕ → Type 0 = λ k. All (λ v. AreCompatible h v t) (drop k us) in subst Q (e ∙ next m) a.all) in
      subst P (sym (one_before us m d (let w = a.within in omega arith))) (All-cons (λ v. AreCompatible h v t) (get_or us m d) (drop (suc m) us) c rest);
}
  where
    next : (k : ℕ) → k + 1 ≡ suc k
    next k = omega arith

pub from_all : (h : Patch) (n : ℕ) (us : List Triangle) (t : Triangle) → n ≤ 0 → AreCompatibleFrom h n us t → All (λ u. AreCompatible h u t) us
from_all h zero us t l a = a.all
from_all h (suc n) us t l a = absurd (omega (arith, l))
