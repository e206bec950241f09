-- Where a walk over ridges ends, each member of the facet is reached.
--     all_reached      a member of the facet among the reached, from which no ridge is open
use Rattle.std.proofs.Common.{◌≡◌, ◌≢◌, ℕ, ◌-◌, ◌<◌, ◌⊎◌, inl, inr, ⊎_elim, refl, sym, ◌∙◌, subst, arith, ℤ, pos, ◌+ℤ◌, ◌-ℤ◌, ◌*ℤ◌, ◌<ℤ◌, ◌≤ℤ◌, List, [], ◌∷◌, length}
use Rattle.std.specs.Prelude.{Contains}
use Rattle.std.proofs.lemmas.Int.{ints}
use Rattle.ntfe_nums.specs.Vectors.{Vector}
use Rattle.ntfe_nums.proofs.Exchanges.{first_last, second_last, swap_last}
use Rattle.ntfe_nums.proofs.Signs.{negative_or, sign_of, square_positive}
use Rattle.ntfe_model.specs.Lists.{IsNumberOf}
use Rattle.ntfe_model.specs.Pairs.{entry}
use Rattle.ntfe_model.specs.Points.{place_of_point}
use Rattle.ntfe_model.specs.Reflexive.{IsTight}
use Rattle.ntfe_model.specs.Shapes.{Shape, IsShape}
use Rattle.ntfe_model.specs.Stars.{IsOrder, IsMember, IsOuterRidge, IsBeyond}
use Rattle.ntfe_model.proofs.PlaneNumbers.{zero_factor}
use Rattle.star_builder.specs.declared.four.Four.{Four}
use Rattle.star_builder.specs.declared.ridge.Ridge.{Ridge}
use Rattle.star_builder.specs.Fours.{members_of}
use Rattle.star_builder.specs.Ridges.{IsRidge, IsJoined}
use Rattle.star_builder.specs.Walks.{IsMemberIn, IsCrossedIn}
use Rattle.star_builder.proofs.BeyondMembers.{below_zero, low_in}
use Rattle.star_builder.proofs.CrossedRidges.{four_in, outer_not_across}
use Rattle.star_builder.proofs.Crossings.{joined_rises, joined_square, turned_twice}
use Rattle.star_builder.proofs.InnerRidges.{one_on_side}
use Rattle.star_builder.proofs.LowSimplices.{IsLow, generic, has_first, has_second, has_third, has_fourth}
use Rattle.star_builder.proofs.Ratios.{least_ratio, IsTouched}
use Rattle.star_builder.proofs.Ridges.{HaveSame, four_places, shares_ridge, split_ridge}
use Rattle.star_builder.proofs.Rises.{volume}
use Rattle.star_builder.proofs.StarListing.{star_exists}
use Rattle.star_builder.proofs.VertexPoints.{point_small}
use Rattle.star_builder.proofs.Walks.{level, level_not_negative, no_lower, none_apart, total}
use Rattle.star_builder.proofs.WholeHeights.{whole}

-- a sum below 0 has a part below 0
some_part : (x y z u : ℤ) → (x +ℤ y +ℤ z +ℤ u) <ℤ pos 0 → (x <ℤ pos 0) ⊎ ((y <ℤ pos 0) ⊎ ((z <ℤ pos 0) ⊎ (u <ℤ pos 0)))
some_part x y z u l =
    ⊎_elim inl (λ x0. inr (⊎_elim inl (λ y0. inr (⊎_elim inl (λ z0. inr (⊎_elim (λ h. h) (λ u0. absurd (no x0 y0 z0 u0)) (negative_or u))) (negative_or z))) (negative_or y))) (negative_or x)
  where
    no : pos 0 ≤ℤ x → pos 0 ≤ℤ y → pos 0 ≤ℤ z → pos 0 ≤ℤ u → ⊥
    no x0 y0 z0 u0 = absurd (omega (arith, ints, l, x0, y0, z0, u0))

module _ (g : Shape) (s : IsShape g) (w : List ℤ) (order : List ℕ) (all : IsOrder (length g.points) order) (facet : ℕ) (number : IsNumberOf g.pair.dual facet) where
  abbrev at : ℕ → Vector
  at = place_of_point g.points

  abbrev v : ℕ → ℤ
  v = whole w order

  abbrev m : Vector
  m = entry g.pair.dual facet

  -- four numbers of a member of the facet
  record IsLowFour (t : List ℕ) (f : Four) : Type 0 where
    is : t ≡ members_of f
    ab : f.a < f.b
    bc : f.b < f.c
    cd : f.c < f.d
    low : IsLow g.points v m f.a f.b f.c f.d

  low_four : (t : List ℕ) → IsMemberIn g.pair.dual g.points w order facet t → IsLowFour t (four_in t)
  low_four t (r, inside) =
      let star = star_exists g.pair.dual g.points w order in
      subst (λ (ks : List ℕ). IsLowFour ks (four_in ks)) (sym r.is)
      (record { is = refl; ab = r.ordered.1; bc = r.ordered.2; cd = r.ordered.3; low = low_in g w order star.0 s all star.1 facet t r inside })

  module _ (target : List ℕ) (aim : IsMemberIn g.pair.dual g.points w order facet target) where
    abbrev e : Four
    e = four_in target

    aimed : IsLowFour target e
    aimed = low_four target aim

    abbrev sum : (ℕ → ℤ) → ℤ
    sum f = total g.points v m e.a e.b e.c e.d aimed.low f

    abbrev height_of : Four → ℤ
    height_of f = level g.points v m e.a e.b e.c e.d aimed.low f.a f.b f.c f.d

    abbrev square_of : Four → ℤ
    square_of f = volume at v f.a f.b f.c f.d *ℤ volume at v f.a f.b f.c f.d

    joined_level : (f : Four) (r : Ridge) (p : ℕ) → IsJoined r p f → volume at v r.a r.b r.c p ≢ pos 0 → height_of f ≡ level g.points v m e.a e.b e.c e.d aimed.low r.a r.b r.c p
    joined_level f r p joined n =
        let one = joined_rises g.points m r v p f joined n in
        λ i. one e.a i +ℤ one e.b i +ℤ one e.c i +ℤ one e.d i

    module _ (reached : List (List ℕ)) (members : (t : List ℕ) → Contains reached t → IsMemberIn g.pair.dual g.points w order facet t)
        (closed : (t : List ℕ) → Contains reached t → IsCrossedIn g.pair.dual g.points w order reached t) where
      abbrev low_at : (t : List ℕ) → Contains reached t → IsLowFour t (four_in t)
      low_at t c = low_four t (members t c)

      module _ (y : List ℕ) (touched : IsTouched (λ t. height_of (four_in t)) (λ t. square_of (four_in t)) reached y) where
        abbrev f : Four
        f = four_in y

        here : IsLowFour y f
        here = low_at y touched.within

        abbrev away : Ridge → ℕ → ℕ → ℤ
        away r without x = volume at v r.a r.b r.c without *ℤ volume at v r.a r.b r.c x

        module _ (r : Ridge) (without : ℕ) (ridge : IsRidge (members_of f) without r) (has : Contains (members_of f) without) where
          parts : IsLow g.points v m r.a r.b r.c without × HaveSame (members_of f) (r.a ∷ r.b ∷ r.c ∷ without ∷ [])
          parts = split_ridge g.points v m f.a f.b f.c f.d here.ab here.bc here.cd here.low r without ridge has

          -- a ridge in two facets parts no point of the facet
          outer : IsOuterRidge g.pair.dual g.points y without → (x : ℕ) → IsNumberOf g.points x → IsTight m (at x) → away r without x <ℤ pos 0 → ⊥
          outer o x n t l =
              outer_not_across g s w order all f (subst (λ (ks : List ℕ). IsMember g.pair.dual g.points w order ks) here.is (members y touched.within).0) without has (facet - 1)
              (record { place = (let h = number.0 in let k = number.1 in omega arith); first = here.low.tight.0; second = here.low.tight.1; third = here.low.tight.2; fourth = here.low.tight.3 })
              r ridge (subst (λ (ks : List ℕ). IsOuterRidge g.pair.dual g.points ks without) here.is o) x n (record { tight = t; opposite = l })

          -- the member beyond is no nearer to the target
          inner : (t : List ℕ) → IsBeyond g.pair.dual g.points w order y without t → Contains reached t → sum (away r without) <ℤ pos 0 → ⊥
          inner t b c parted = by (shares_ridge g.points v m there.a there.b there.c there.d next.ab next.bc next.cd next.low r.a r.b r.c ridge.ab ridge.bc (shared r.a ridge.first ridge.not_a) (shared r.b ridge.second ridge.not_b) (shared r.c ridge.third ridge.not_c))
            where
              there : Four
              there = four_in t

              next : IsLowFour t (four_in t)
              next = low_at t c

              shared : (k : ℕ) → Contains (members_of f) k → k ≢ without → Contains (members_of (four_in t)) k
              shared k h n = subst (λ (ks : List ℕ). Contains ks k) next.is (b.shares k (subst (λ (ks : List ℕ). Contains ks k) (sym here.is) h) n)

              by : (p : ℕ) × IsLow g.points v m r.a r.b r.c p × HaveSame (members_of (four_in t)) (r.a ∷ r.b ∷ r.c ∷ p ∷ []) → ⊥
              by (p, low, same) =
                  no_lower g.points v m e.a e.b e.c e.d aimed.low r.a r.b r.c without p parts.0 low opposite parted
                  (subst (λ z. pos 0 ≤ℤ z) (λ i. square y_joined parts.0.independent i *ℤ joined_level (four_in t) r p t_joined low.independent i -ℤ joined_level f r without y_joined parts.0.independent i *ℤ square t_joined low.independent i)
                  (touched.over t c))
                where
                  square : {q : ℕ} {h : Four} → IsJoined r q h → volume at v r.a r.b r.c q ≢ pos 0 → square_of h ≡ volume at v r.a r.b r.c q *ℤ volume at v r.a r.b r.c q
                  square {q} {h} joined n = joined_square g.points m r v q h joined n

                  y_joined : IsJoined r without f
                  y_joined = record { ab = here.ab; bc = here.bc; cd = here.cd; sound = parts.1.0; complete = parts.1.1 }

                  t_joined : IsJoined r p (four_in t)
                  t_joined = record { ab = next.ab; bc = next.bc; cd = next.cd; sound = same.0; complete = same.1 }

                  -- else the two would be one
                  same_side : pos 0 <ℤ (volume at v r.a r.b r.c without *ℤ volume at v r.a r.b r.c p) → ⊥
                  same_side l =
                      let q = one_on_side g.points v (generic g.pair.dual g.points w order all (point_small g s)) m r.a r.b r.c without parts.0 p low l in
                      b.new.1 (subst (λ (ks : List ℕ). Contains ks b.fourth) (sym here.is) (parts.1.1 b.fourth (subst (λ j. Contains (r.a ∷ r.b ∷ r.c ∷ j ∷ []) b.fourth) (sym q) (same.0 b.fourth (subst (λ (ks : List ℕ). Contains ks b.fourth) next.is b.new.0)))))

                  opposite : (volume at v r.a r.b r.c without *ℤ volume at v r.a r.b r.c p) <ℤ pos 0
                  opposite =
                      ⊎_elim (λ l. absurd (same_side l))
                      (λ l. below_zero (volume at v r.a r.b r.c without *ℤ volume at v r.a r.b r.c p) l (λ z. ⊎_elim parts.0.independent low.independent (zero_factor (volume at v r.a r.b r.c without) (volume at v r.a r.b r.c p) z)))
                      (sign_of (volume at v r.a r.b r.c without *ℤ volume at v r.a r.b r.c p))

          not_parted : pos 0 ≤ℤ sum (away r without)
          not_parted = ⊎_elim (λ l. absurd (no l)) (λ h. h) (negative_or (sum (away r without)))
            where
              no : sum (away r without) <ℤ pos 0 → ⊥
              no l =
                  ⊎_elim
                  (λ o. let n = aimed.low.numbers in let t = aimed.low.tight in
                  ⊎_elim (outer o e.a n.0 t.0) (λ h. ⊎_elim (outer o e.b n.1 t.1) (λ h. ⊎_elim (outer o e.c n.2 t.2) (outer o e.d n.3 t.3) h) h)
                  (some_part (away r without e.a) (away r without e.b) (away r without e.c) (away r without e.d) l))
                  (λ b. inner b.0 b.1 b.2 l)
                  (closed y touched.within without (subst (λ (ks : List ℕ). Contains ks without) (sym here.is) has))

        apart : (i j : ℕ) → i < j → (j ≢ i) × (i ≢ j)
        apart i j l = (λ q. absurd (omega (arith, l, q)), λ q. absurd (omega (arith, l, q)))

        less : (i j k : ℕ) → i < j → j < k → i < k
        less i j k l h = omega (arith, l, h)

        found : Contains reached target
        found = subst (λ (ks : List ℕ). Contains reached ks) (here.is ∙ same ∙ sym aimed.is) touched.within
          where
            first : pos 0 ≤ℤ sum (λ x. volume at v f.a f.b f.c f.d *ℤ volume at v x f.b f.c f.d)
            first =
                let one = λ (x : ℕ). turned_twice (volume at v f.a f.b f.c f.d) (volume at v x f.b f.c f.d) (volume at v f.b f.c f.d f.a) (volume at v f.b f.c f.d x) (first_last (at f.a) (at f.b) (at f.c) (at f.d)) (first_last (at x) (at f.b) (at f.c) (at f.d)) in
                subst (λ z. pos 0 ≤ℤ z) (λ i. one e.a i +ℤ one e.b i +ℤ one e.c i +ℤ one e.d i)
                (not_parted (record { a = f.b; b = f.c; c = f.d }) f.a
                (record {
                  ab = here.bc;
                  bc = here.cd;
                  not_a = (apart f.a f.b here.ab).0;
                  not_b = (apart f.a f.c (less f.a f.b f.c here.ab here.bc)).0;
                  not_c = (apart f.a f.d (less f.a f.c f.d (less f.a f.b f.c here.ab here.bc) here.cd)).0;
                  first = has_second f.a f.b f.c f.d;
                  second = has_third f.a f.b f.c f.d;
                  third = has_fourth f.a f.b f.c f.d;
                })
                (has_first f.a f.b f.c f.d))

            second : pos 0 ≤ℤ sum (λ x. volume at v f.a f.b f.c f.d *ℤ volume at v f.a x f.c f.d)
            second =
                subst (λ z. pos 0 ≤ℤ z) (λ i. (second_last (at f.a) (at f.b) (at f.c) (at f.d) i *ℤ second_last (at f.a) (at e.a) (at f.c) (at f.d) i) +ℤ (second_last (at f.a) (at f.b) (at f.c) (at f.d) i *ℤ second_last (at f.a) (at e.b) (at f.c) (at f.d) i)
                +ℤ (second_last (at f.a) (at f.b) (at f.c) (at f.d) i *ℤ second_last (at f.a) (at e.c) (at f.c) (at f.d) i) +ℤ (second_last (at f.a) (at f.b) (at f.c) (at f.d) i *ℤ second_last (at f.a) (at e.d) (at f.c) (at f.d) i))
                (not_parted (record { a = f.a; b = f.c; c = f.d }) f.b
                (record {
                  ab = less f.a f.b f.c here.ab here.bc;
                  bc = here.cd;
                  not_a = (apart f.a f.b here.ab).1;
                  not_b = (apart f.b f.c here.bc).0;
                  not_c = (apart f.b f.d (less f.b f.c f.d here.bc here.cd)).0;
                  first = has_first f.a f.b f.c f.d;
                  second = has_third f.a f.b f.c f.d;
                  third = has_fourth f.a f.b f.c f.d;
                })
                (has_second f.a f.b f.c f.d))

            third : pos 0 ≤ℤ sum (λ x. volume at v f.a f.b f.c f.d *ℤ volume at v f.a f.b x f.d)
            third =
                let one = λ (x : ℕ). turned_twice (volume at v f.a f.b f.c f.d) (volume at v f.a f.b x f.d) (volume at v f.a f.b f.d f.c) (volume at v f.a f.b f.d x) (swap_last (at f.a) (at f.b) (at f.c) (at f.d)) (swap_last (at f.a) (at f.b) (at x) (at f.d)) in
                subst (λ z. pos 0 ≤ℤ z) (λ i. one e.a i +ℤ one e.b i +ℤ one e.c i +ℤ one e.d i)
                (not_parted (record { a = f.a; b = f.b; c = f.d }) f.c
                (record {
                  ab = here.ab;
                  bc = less f.b f.c f.d here.bc here.cd;
                  not_a = (apart f.a f.c (less f.a f.b f.c here.ab here.bc)).1;
                  not_b = (apart f.b f.c here.bc).1;
                  not_c = (apart f.c f.d here.cd).0;
                  first = has_first f.a f.b f.c f.d;
                  second = has_second f.a f.b f.c f.d;
                  third = has_fourth f.a f.b f.c f.d;
                })
                (has_third f.a f.b f.c f.d))

            fourth : pos 0 ≤ℤ sum (λ x. volume at v f.a f.b f.c f.d *ℤ volume at v f.a f.b f.c x)
            fourth =
                not_parted (record { a = f.a; b = f.b; c = f.c }) f.d
                (record {
                  ab = here.ab;
                  bc = here.bc;
                  not_a = (apart f.a f.d (less f.a f.c f.d (less f.a f.b f.c here.ab here.bc) here.cd)).1;
                  not_b = (apart f.b f.d (less f.b f.c f.d here.bc here.cd)).1;
                  not_c = (apart f.c f.d here.cd).1;
                  first = has_first f.a f.b f.c f.d;
                  second = has_second f.a f.b f.c f.d;
                  third = has_third f.a f.b f.c f.d;
                })
                (has_fourth f.a f.b f.c f.d)

            same : members_of (four_in y) ≡ members_of (four_in target)
            same =
                let o = none_apart g.points v m e.a e.b e.c e.d aimed.low f.a f.b f.c f.d here.low first second third fourth in
                let q = four_places f.a f.b f.c f.d here.ab here.bc here.cd e.a e.b e.c e.d aimed.ab aimed.bc aimed.cd o.0 o.1 o.2 o.3 in
                λ i. sym q.0 i ∷ sym q.1 i ∷ sym q.2 i ∷ sym q.3 i ∷ []

      pub all_reached : (start : List ℕ) → Contains reached start → Contains reached target
      all_reached start within =
          let y = least_ratio (λ t. height_of (four_in t)) (λ t. square_of (four_in t)) reached
          (λ t c. let h = low_at t c in level_not_negative g.points v m e.a e.b e.c e.d aimed.low (four_in t).a (four_in t).b (four_in t).c (four_in t).d h.low)
          start within (square_positive _ (low_at start within).low.independent) in
          found y.0 y.1
