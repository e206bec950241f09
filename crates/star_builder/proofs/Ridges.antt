-- A member of a star as a ridge by rising numbers and the fourth point.
--     IsSplit      the three numbers of the ridge, and the member as a low simplex in this order
--     split_member      a member without any one of its points
--     shares_ridge, split_ridge      a member that has the ridge
use Rattle.std.proofs.Common.{◌≡◌, ℕ, ◌<◌, ◌⊎◌, inl, inr, ⊎_elim, sym, subst, arith, ℤ, List, [], ◌∷◌}
use Rattle.std.specs.Prelude.{Contains, AllPairs}
use Rattle.std.proofs.lemmas.List.Elements.{All-cons, All-nil}
use Rattle.std.proofs.lemmas.List.Kept.{AllPairs-cons}
use Rattle.ntfe_nums.specs.Vectors.{Vector}
use Rattle.ntfe_model.specs.declared.point.Point.{Point}
use Rattle.ntfe_model.proofs.Listings.{ordered_unique}
use Rattle.star_builder.specs.declared.ridge.Ridge.{Ridge}
use Rattle.star_builder.specs.Ridges.{IsRidge}
use Rattle.star_builder.proofs.FourPoints.{in_four}
use Rattle.star_builder.proofs.LowSimplices.{IsLow, low_first, low_middle, low_last, has_first, has_second, has_third, has_fourth}

-- ---- four numbers in another order

pub four_from : (a b c d : ℕ) (xs : List ℕ) → Contains xs a → Contains xs b → Contains xs c → Contains xs d → (n : ℕ) → Contains (a ∷ b ∷ c ∷ d ∷ []) n → Contains xs n
four_from a b c d xs ha hb hc hd n h = by (in_four a b c d n h)
  where
    by : (n ≡ a) ⊎ ((n ≡ b) ⊎ ((n ≡ c) ⊎ (n ≡ d))) → Contains xs n
    by (inl e) = subst (λ k. Contains xs k) (sym e) ha
    by (inr (inl e)) = subst (λ k. Contains xs k) (sym e) hb
    by (inr (inr (inl e))) = subst (λ k. Contains xs k) (sym e) hc
    by (inr (inr (inr e))) = subst (λ k. Contains xs k) (sym e) hd

-- the two lists have the same numbers
abbrev pub HaveSame : List ℕ → List ℕ → Type 0
HaveSame xs ys = ((n : ℕ) → Contains xs n → Contains ys n) × ((n : ℕ) → Contains ys n → Contains xs n)

pub same_then : (xs ys zs : List ℕ) → HaveSame xs ys → HaveSame ys zs → HaveSame xs zs
same_then xs ys zs h k = (λ n c. k.0 n (h.0 n c), λ n c. h.1 n (k.1 n c))

pub same_first_two : (a b c d : ℕ) → HaveSame (a ∷ b ∷ c ∷ d ∷ []) (b ∷ a ∷ c ∷ d ∷ [])
same_first_two a b c d = (
  four_from a b c d (b ∷ a ∷ c ∷ d ∷ []) (has_second b a c d) (has_first b a c d) (has_third b a c d) (has_fourth b a c d),
  four_from b a c d (a ∷ b ∷ c ∷ d ∷ []) (has_second a b c d) (has_first a b c d) (has_third a b c d) (has_fourth a b c d),
)

pub same_middle_two : (a b c d : ℕ) → HaveSame (a ∷ b ∷ c ∷ d ∷ []) (a ∷ c ∷ b ∷ d ∷ [])
same_middle_two a b c d = (
  four_from a b c d (a ∷ c ∷ b ∷ d ∷ []) (has_first a c b d) (has_third a c b d) (has_second a c b d) (has_fourth a c b d),
  four_from a c b d (a ∷ b ∷ c ∷ d ∷ []) (has_first a b c d) (has_third a b c d) (has_second a b c d) (has_fourth a b c d),
)

pub same_last_two : (a b c d : ℕ) → HaveSame (a ∷ b ∷ c ∷ d ∷ []) (a ∷ b ∷ d ∷ c ∷ [])
same_last_two a b c d = (
  four_from a b c d (a ∷ b ∷ d ∷ c ∷ []) (has_first a b d c) (has_second a b d c) (has_fourth a b d c) (has_third a b d c),
  four_from a b d c (a ∷ b ∷ c ∷ d ∷ []) (has_first a b c d) (has_second a b c d) (has_fourth a b c d) (has_third a b c d),
)

rising_pairs : (a b c d : ℕ) → a < b → b < c → c < d → AllPairs (λ i j. i < j) (a ∷ b ∷ c ∷ d ∷ [])
rising_pairs a b c d ab bc cd =
    AllPairs-cons (λ i j. i < j) a (b ∷ c ∷ d ∷ []) (All-cons (λ j. a < j) b (c ∷ d ∷ []) ab (All-cons (λ j. a < j) c (d ∷ []) (omega (arith, ab, bc)) (All-cons (λ j. a < j) d [] (omega (arith, ab, bc, cd)) (All-nil (λ j. a < j)))))
    (AllPairs-cons (λ i j. i < j) b (c ∷ d ∷ []) (All-cons (λ j. b < j) c (d ∷ []) bc (All-cons (λ j. b < j) d [] (omega (arith, bc, cd)) (All-nil (λ j. b < j))))
    (AllPairs-cons (λ i j. i < j) c (d ∷ []) (All-cons (λ j. c < j) d [] cd (All-nil (λ j. c < j)))
    (AllPairs-cons (λ i j. i < j) d [] (All-nil (λ j. d < j)) (λ i j e k l. absurd (omega arith)))))

-- rising lists of the same four numbers are equal
pub rising_same : (a b c d i j k l : ℕ) → a < b → b < c → c < d → i < j → j < k → k < l → HaveSame (a ∷ b ∷ c ∷ d ∷ []) (i ∷ j ∷ k ∷ l ∷ []) → (a ∷ b ∷ c ∷ d ∷ []) ≡ (i ∷ j ∷ k ∷ l ∷ [])
rising_same a b c d i j k l ab bc cd ij jk kl h =
    ordered_unique (λ x y. x < y) (λ x y p q. absurd (omega (arith, p, q))) (a ∷ b ∷ c ∷ d ∷ []) (i ∷ j ∷ k ∷ l ∷ []) (rising_pairs a b c d ab bc cd) (rising_pairs i j k l ij jk kl) h.0 h.1

-- three rising numbers among four
pub three_places : (a b c d : ℕ) → a < b → b < c → c < d → (i j k : ℕ) → i < j → j < k → (i ≡ a) ⊎ ((i ≡ b) ⊎ ((i ≡ c) ⊎ (i ≡ d))) → (j ≡ a) ⊎ ((j ≡ b) ⊎ ((j ≡ c) ⊎ (j ≡ d))) → (k ≡ a) ⊎ ((k ≡ b) ⊎ ((k ≡ c) ⊎ (k ≡ d)))
    → ((i ≡ b) × (j ≡ c) × (k ≡ d)) ⊎ (((i ≡ a) × (j ≡ c) × (k ≡ d)) ⊎ (((i ≡ a) × (j ≡ b) × (k ≡ d)) ⊎ ((i ≡ a) × (j ≡ b) × (k ≡ c))))
three_places a b c d ab bc cd i j k ij jk p q r = grind arith

-- four are all of them
pub four_places : (a b c d : ℕ) → a < b → b < c → c < d → (i j k l : ℕ) → i < j → j < k → k < l → (i ≡ a) ⊎ ((i ≡ b) ⊎ ((i ≡ c) ⊎ (i ≡ d))) → (j ≡ a) ⊎ ((j ≡ b) ⊎ ((j ≡ c) ⊎ (j ≡ d))) → (k ≡ a) ⊎ ((k ≡ b) ⊎ ((k ≡ c) ⊎ (k ≡ d)))
    → (l ≡ a) ⊎ ((l ≡ b) ⊎ ((l ≡ c) ⊎ (l ≡ d))) → (i ≡ a) × (j ≡ b) × (k ≡ c) × (l ≡ d)
four_places a b c d ab bc cd i j k l ij jk kl p q r s = by (three_places a b c d ab bc cd i j k ij jk p q r)
  where
    not_last : k ≡ d → ⊥
    not_last e = ⊎_elim (λ h. absurd (omega (arith, ab, bc, cd, kl, e, h))) (λ h. ⊎_elim (λ h. absurd (omega (arith, bc, cd, kl, e, h))) (λ h. ⊎_elim (λ h. absurd (omega (arith, cd, kl, e, h))) (λ h. absurd (omega (arith, kl, e, h))) h) h) s

    last : k ≡ c → l ≡ d
    last e = ⊎_elim (λ h. absurd (omega (arith, ab, bc, kl, e, h))) (λ h. ⊎_elim (λ h. absurd (omega (arith, bc, kl, e, h))) (λ h. ⊎_elim (λ h. absurd (omega (arith, kl, e, h))) (λ h. h) h) h) s

    by : ((i ≡ b) × (j ≡ c) × (k ≡ d)) ⊎ (((i ≡ a) × (j ≡ c) × (k ≡ d)) ⊎ (((i ≡ a) × (j ≡ b) × (k ≡ d)) ⊎ ((i ≡ a) × (j ≡ b) × (k ≡ c)))) → (i ≡ a) × (j ≡ b) × (k ≡ c) × (l ≡ d)
    by (inl h) = absurd (not_last h.2)
    by (inr (inl h)) = absurd (not_last h.2)
    by (inr (inr (inl h))) = absurd (not_last h.2)
    by (inr (inr (inr h))) = (h.0, h.1, h.2, last h.2)

-- ---- a ridge and the fourth point

pub record IsSplit (xs : List Point) (v : ℕ → ℤ) (m : Vector) (members : List ℕ) (without : ℕ) : Type 0 where
  pub i : ℕ
  pub j : ℕ
  pub k : ℕ
  pub ij : i < j
  pub jk : j < k
  pub low : IsLow xs v m i j k without
  pub same : HaveSame members (i ∷ j ∷ k ∷ without ∷ [])

module _ (xs : List Point) (v : ℕ → ℤ) (m : Vector) (a b c d : ℕ) (ab : a < b) (bc : b < c) (cd : c < d) (low : IsLow xs v m a b c d) where
  abbrev members : List ℕ
  members = a ∷ b ∷ c ∷ d ∷ []

  low_without_second : IsLow xs v m a c d b
  low_without_second = low_last xs v m a c b d (low_middle xs v m a b c d low)

  low_without_first : IsLow xs v m b c d a
  low_without_first = low_last xs v m b c a d (low_middle xs v m b a c d (low_first xs v m a b c d low))

  same_without_second : HaveSame members (a ∷ c ∷ d ∷ b ∷ [])
  same_without_second = same_then members (a ∷ c ∷ b ∷ d ∷ []) (a ∷ c ∷ d ∷ b ∷ []) (same_middle_two a b c d) (same_last_two a c b d)

  same_without_first : HaveSame members (b ∷ c ∷ d ∷ a ∷ [])
  same_without_first =
      same_then members (b ∷ c ∷ a ∷ d ∷ []) (b ∷ c ∷ d ∷ a ∷ []) (same_then members (b ∷ a ∷ c ∷ d ∷ []) (b ∷ c ∷ a ∷ d ∷ []) (same_first_two a b c d) (same_middle_two b a c d)) (same_last_two b c a d)

  pub split_member : (without : ℕ) → Contains members without → IsSplit xs v m members without
  split_member without h = by (in_four a b c d without h)
    where
      made : (i j k e : ℕ) → i < j → j < k → IsLow xs v m i j k e → HaveSame (a ∷ b ∷ c ∷ d ∷ []) (i ∷ j ∷ k ∷ e ∷ []) → without ≡ e → IsSplit xs v m (a ∷ b ∷ c ∷ d ∷ []) without
      made i j k e ij jk l same q = subst (λ x. IsSplit xs v m (a ∷ b ∷ c ∷ d ∷ []) x) (sym q) (record { i = i; j = j; k = k; ij = ij; jk = jk; low = l; same = same })

      by : (without ≡ a) ⊎ ((without ≡ b) ⊎ ((without ≡ c) ⊎ (without ≡ d))) → IsSplit xs v m (a ∷ b ∷ c ∷ d ∷ []) without
      by (inl e) = made b c d a bc cd low_without_first same_without_first e
      by (inr (inl e)) = made a c d b (omega (arith, ab, bc)) cd low_without_second same_without_second e
      by (inr (inr (inl e))) = made a b d c ab (omega (arith, bc, cd)) (low_last xs v m a b c d low) (same_last_two a b c d) e
      by (inr (inr (inr e))) = made a b c d ab bc low (λ n h. h, λ n h. h) e

  -- a member that has three numbers i < j < k is these and a fourth
  pub shares_ridge : (i j k : ℕ) → i < j → j < k → Contains members i → Contains members j → Contains members k
      → (e : ℕ) × IsLow xs v m i j k e × HaveSame members (i ∷ j ∷ k ∷ e ∷ [])
  shares_ridge i j k ij jk hi hj hk = by (three_places a b c d ab bc cd i j k ij jk (in_four a b c d i hi) (in_four a b c d j hj) (in_four a b c d k hk))
    where
      made : (x y z e : ℕ) → IsLow xs v m x y z e → HaveSame (a ∷ b ∷ c ∷ d ∷ []) (x ∷ y ∷ z ∷ e ∷ []) → (i ≡ x) × (j ≡ y) × (k ≡ z)
          → (f : ℕ) × IsLow xs v m i j k f × HaveSame (a ∷ b ∷ c ∷ d ∷ []) (i ∷ j ∷ k ∷ f ∷ [])
      made x y z e l same q = (
        e,
        subst (λ n. IsLow xs v m n j k e) (sym q.0) (subst (λ n. IsLow xs v m x n k e) (sym q.1) (subst (λ n. IsLow xs v m x y n e) (sym q.2) l)),
        subst (λ n. HaveSame (a ∷ b ∷ c ∷ d ∷ []) (n ∷ j ∷ k ∷ e ∷ [])) (sym q.0) (subst (λ n. HaveSame (a ∷ b ∷ c ∷ d ∷ []) (x ∷ n ∷ k ∷ e ∷ [])) (sym q.1) (subst (λ n. HaveSame (a ∷ b ∷ c ∷ d ∷ []) (x ∷ y ∷ n ∷ e ∷ [])) (sym q.2) same)),
      )

      by : ((i ≡ b) × (j ≡ c) × (k ≡ d)) ⊎ (((i ≡ a) × (j ≡ c) × (k ≡ d)) ⊎ (((i ≡ a) × (j ≡ b) × (k ≡ d)) ⊎ ((i ≡ a) × (j ≡ b) × (k ≡ c))))
          → (e : ℕ) × IsLow xs v m i j k e × HaveSame (a ∷ b ∷ c ∷ d ∷ []) (i ∷ j ∷ k ∷ e ∷ [])
      by (inl p) = made b c d a low_without_first same_without_first p
      by (inr (inl p)) = made a c d b low_without_second same_without_second p
      by (inr (inr (inl p))) = made a b d c (low_last xs v m a b c d low) (same_last_two a b c d) p
      by (inr (inr (inr p))) = made a b c d low (λ n h. h, λ n h. h) p

  -- a ridge by its three numbers, and the fourth point
  pub split_ridge : (r : Ridge) (without : ℕ) → IsRidge members without r → Contains members without → IsLow xs v m r.a r.b r.c without × HaveSame members (r.a ∷ r.b ∷ r.c ∷ without ∷ [])
  split_ridge r without h has = by (shares_ridge r.a r.b r.c h.ab h.bc h.first h.second h.third)
    where
      by : (e : ℕ) × IsLow xs v m r.a r.b r.c e × HaveSame (a ∷ b ∷ c ∷ d ∷ []) (r.a ∷ r.b ∷ r.c ∷ e ∷ []) → IsLow xs v m r.a r.b r.c without × HaveSame (a ∷ b ∷ c ∷ d ∷ []) (r.a ∷ r.b ∷ r.c ∷ without ∷ [])
      by (e, l, same) = subst (λ j. IsLow xs v m r.a r.b r.c j × HaveSame (a ∷ b ∷ c ∷ d ∷ []) (r.a ∷ r.b ∷ r.c ∷ j ∷ [])) (sym (left (in_four r.a r.b r.c e without (same.0 without has)))) (l, same)
        where
          left : (without ≡ r.a) ⊎ ((without ≡ r.b) ⊎ ((without ≡ r.c) ⊎ (without ≡ e))) → without ≡ e
          left (inl q) = absurd (h.not_a (sym q))
          left (inr (inl q)) = absurd (h.not_b (sym q))
          left (inr (inr (inl q))) = absurd (h.not_c (sym q))
          left (inr (inr (inr q))) = q
