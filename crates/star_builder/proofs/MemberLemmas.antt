-- Members of a star, by the numbers of their four points.
use Rattle.std.specs.Option.{MatchOption, is_some}
use Rattle.std.proofs.Common.{Option, None, Some, false, ◌≡◌, ℕ, ◌+◌, ◌-◌, ◌≤◌, ◌⊎◌, inl, inr, ⊎_elim, refl, sym, ap, subst, arith, ℤ, List, [], ◌∷◌, get_or, length}
use Rattle.std.specs.Prelude.{Contains}
use Rattle.std.proofs.lemmas.List.Elements.{Contains-get_or}
use Rattle.ntfe_nums.specs.Vectors.{Vector, origin}
use Rattle.ntfe_model.specs.Pairs.{entry}
use Rattle.ntfe_model.specs.Points.{place_of_point}
use Rattle.ntfe_model.specs.Reflexive.{at, IsTight, HasFacet}
use Rattle.ntfe_model.specs.Stars.{IsMember, IsLexAbove}
use Rattle.ntfe_model.specs.declared.point.Point.{Point}
use Rattle.ntfe_model.proofs.Listings.{Contains-here, Contains-there, Contains-cases, Contains-none}
use Rattle.star_builder.specs.declared.four.Four.{Four}
use Rattle.ntfe_model.specs.TightBits.{IsFacetOf}
use Rattle.star_builder.specs.Fours.{AreRising, AreIndependent, members_of}
use Rattle.star_builder.specs.Others.{IsOther, AreOthersAbove}
use Rattle.star_builder.proofs.DualLemmas.{dual_unique}

-- ---- the four as a list

module _ (f : Four) where
  pub has_first : Contains (members_of f) f.a
  has_first = Contains-here f.a f.a (f.b ∷ f.c ∷ f.d ∷ []) refl

  pub has_second : Contains (members_of f) f.b
  has_second = Contains-there f.b f.a (f.b ∷ f.c ∷ f.d ∷ []) (Contains-here f.b f.b (f.c ∷ f.d ∷ []) refl)

  pub has_third : Contains (members_of f) f.c
  has_third = Contains-there f.c f.a (f.b ∷ f.c ∷ f.d ∷ []) (Contains-there f.c f.b (f.c ∷ f.d ∷ []) (Contains-here f.c f.c (f.d ∷ []) refl))

  pub has_fourth : Contains (members_of f) f.d
  has_fourth =
      Contains-there f.d f.a (f.b ∷ f.c ∷ f.d ∷ []) (Contains-there f.d f.b (f.c ∷ f.d ∷ []) (Contains-there f.d f.c (f.d ∷ []) (Contains-here f.d f.d [] refl)))

  -- what has none but these four
  pub one_of : (k : ℕ) → Contains (members_of f) k → (k ≡ f.a) ⊎ ((k ≡ f.b) ⊎ ((k ≡ f.c) ⊎ (k ≡ f.d)))
  one_of k h = ⊎_elim (λ e. inl e) (λ h. inr (⊎_elim (λ e. inl e) (λ h. inr (⊎_elim (λ e. inl e) (λ h. inr (⊎_elim (λ e. e) (λ h. Contains-none k h) (Contains-cases k f.d [] h)))
      (Contains-cases k f.c (f.d ∷ []) h))) (Contains-cases k f.b (f.c ∷ f.d ∷ []) h))) (Contains-cases k f.a (f.b ∷ f.c ∷ f.d ∷ []) h)

  pub all_four : (P : ℕ → Type 0) → P f.a → P f.b → P f.c → P f.d → (k : ℕ) → Contains (members_of f) k → P k
  all_four P a b c d k h =
      ⊎_elim (λ e. subst P (sym e) a) (λ h. ⊎_elim (λ e. subst P (sym e) b) (λ h. ⊎_elim (λ e. subst P (sym e) c) (λ e. subst P (sym e) d) h) h) (one_of k h)

-- ---- one more point

pub others_more : (xs : List Point) (w : List ℤ) (order : List ℕ) (m : Vector) (f : Four) (n : ℕ) → AreOthersAbove xs w order m f n
    → (IsOther xs m f (n + 1) → IsLexAbove xs w order f.a f.b f.c f.d (n + 1)) → AreOthersAbove xs w order m f (n + 1)
others_more xs w order m f n h k p l r o =
    ⊎_elim (λ s. h p l s o) (λ (e : p ≡ n + 1). let P : ℕ → Type 0 = λ q. IsOther xs m f q → IsLexAbove xs w order f.a f.b f.c f.d q in subst P (sym e) k o) (split p r)
  where
    split : (q : ℕ) → q ≤ n + 1 → (q ≤ n) ⊎ (q ≡ n + 1)
    split q r = grind arith

-- ---- members

module _ (ms : List Vector) (xs : List Point) (w : List ℤ) (order : List ℕ) (f : Four) where
  -- a member with these numbers, by a facet's place
  pub member_from : AreRising xs f → (k : ℕ) → IsFacetOf ms (place_of_point xs f.a) (place_of_point xs f.b) (place_of_point xs f.c) (place_of_point xs f.d) k → AreIndependent xs f
      → AreOthersAbove xs w order (at ms k) f (length xs) → IsMember ms xs w order (members_of f)
  member_from r k t i o =
      let e : entry ms (k + 1) ≡ at ms k = ap (at ms) (let q : k + 1 - 1 ≡ k = omega arith in q) in
      let Tight : Vector → ℕ → Type 0 = λ m j. IsTight m (place_of_point xs j) in
      record {
        a = f.a;
        b = f.b;
        c = f.c;
        d = f.d;
        is = refl;
        ordered = (r.first, r.ab, r.bc, r.cd, r.last);
        facet = k + 1;
        number = (let l = t.place in (omega arith, omega arith));
        tight = λ j h. subst (λ (m : Vector). Tight m j) (sym e) (all_four f (Tight (at ms k)) t.first t.second t.third t.fourth j h);
        independent = i;
        others = λ p n not_in h. o p n.0 n.1 (record {
          not_a = λ q. not_in (subst (Contains (members_of f)) (sym q) (has_first f));
          not_b = λ q. not_in (subst (Contains (members_of f)) (sym q) (has_second f));
          not_c = λ q. not_in (subst (Contains (members_of f)) (sym q) (has_third f));
          not_d = λ q. not_in (subst (Contains (members_of f)) (sym q) (has_fourth f));
          tight = subst (λ (m : Vector). Tight m p) e h;
        });
      }

  module _ (h : IsMember ms xs w order (members_of f)) where
    pub same_first : h.a ≡ f.a
    same_first = sym (ap (λ l. get_or l 0 0) h.is)

    pub same_second : h.b ≡ f.b
    same_second = sym (ap (λ l. get_or l 1 0) h.is)

    pub same_third : h.c ≡ f.c
    same_third = sym (ap (λ l. get_or l 2 0) h.is)

    pub same_fourth : h.d ≡ f.d
    same_fourth = sym (ap (λ l. get_or l 3 0) h.is)

    pub member_facet : HasFacet ms (place_of_point xs f.a) (place_of_point xs f.b) (place_of_point xs f.c) (place_of_point xs f.d)
    member_facet =
        (entry ms h.facet, Contains-get_or ms (h.facet - 1) origin (let l = h.number.0 in let m = h.number.1 in omega arith), h.tight f.a (has_first f), h.tight f.b (has_second f), h.tight f.c (has_third f), h.tight f.d (has_fourth f))

    pub member_independent : AreIndependent xs f
    member_independent =
        subst (λ (u : ℕ × ℕ × ℕ × ℕ). AreIndependent xs (record { a = u.0; b = u.1; c = u.2; d = u.3 })) (λ i. (same_first i, same_second i, same_third i, same_fourth i)) h.independent

    -- the facet is the one that is known of the four
    pub member_others : (k : ℕ) → IsFacetOf ms (place_of_point xs f.a) (place_of_point xs f.b) (place_of_point xs f.c) (place_of_point xs f.d) k → AreOthersAbove xs w order (at ms k) f (length xs)
    member_others k t p l r o =
        let e : entry ms h.facet ≡ at ms k = dual_unique (place_of_point xs f.a) (place_of_point xs f.b) (place_of_point xs f.c) (place_of_point xs f.d) (entry ms h.facet) (at ms k) member_independent
        (h.tight f.a (has_first f)) (h.tight f.b (has_second f)) (h.tight f.c (has_third f)) (h.tight f.d (has_fourth f)) t.first t.second t.third t.fourth in
        let not_in : ¬ (Contains (members_of f) p) = λ q. ⊎_elim (λ e. o.not_a e) (λ q. ⊎_elim (λ e. o.not_b e) (λ q. ⊎_elim (λ e. o.not_c e) (λ e. o.not_d e) q) q) (one_of f p q) in
        subst (λ (u : ℕ × ℕ × ℕ × ℕ). IsLexAbove xs w order u.0 u.1 u.2 u.3 p) (λ i. (same_first i, same_second i, same_third i, same_fourth i))
        (h.others p (l, r) not_in (subst (λ (m : Vector). IsTight m (place_of_point xs p)) (sym e) o.tight))

-- what is known where a search finds nothing
pub none_found : {X : Type 0} (r : Option X) (A : Type 0) (B : X → Type 0) → MatchOption r A B → false ≡ is_some r → A
none_found None A B m e = m
none_found (Some x) A B m e = cc
