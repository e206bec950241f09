-- A linear form that no thing of a list lies below, tilted until it touches another.
--     tilt_along      the tilt along any gap that is not 0 at some e of the list
--     tilt_about      the tilt about i, j and k, where some e of the list is independent of them
--     three_held, three_tilts      a form that touches three things of the list, independent with a
use Rattle.std.proofs.Common.{◌≡◌, ◌≢◌, refl, sym, ap, ◌∙◌, subst, arith, ℤ, pos, ◌-ℤ◌, ◌*ℤ◌, ◌<ℤ◌, ◌≤ℤ◌, neg_ℤ, List, [], ◌∷◌}
use Rattle.std.specs.Prelude.{⊤, Contains}
use Rattle.std.proofs.lemmas.Int.{ints}
use Rattle.ntfe_nums.specs.Vectors.{Vector, cofactors, difference, multiple}
use Rattle.ntfe_nums.proofs.Ring.{ring}
use Rattle.ntfe_nums.proofs.Ring.Expression.{var, num, minus, times, neg}
use Rattle.ntfe_nums.proofs.DetLemmas.{det4-cofactors}
use Rattle.ntfe_nums.proofs.Exchanges.{swap_middle, swap_last, same_first, same_second, same_third}
use Rattle.star_builder.proofs.LowSimplices.{turned_not_zero}
use Rattle.star_builder.proofs.Ratios.{tilted, IsTouched, least_ratio}
use Rattle.star_builder.proofs.Rises.{gap, gap_tilt, volume}
use Rattle.ntfe_nums.proofs.Signs.{square_positive, zero_out, positive_product, product_not_negative}

module _ {A : Type 0} (place : A → Vector) (height : A → ℤ) (xs : List A) where
  -- no thing of the list lies below the form
  abbrev pub IsUnder : ℤ → Vector → Type 0
  IsUnder s n = (x : A) → Contains xs x → pos 0 ≤ℤ gap place height s n x

  -- ---- the tilt along any gap

  -- the form after the tilt along the gap of t and u, and what it touches, on the side of e
  pub record IsTiltedAlong (s : ℤ) (n : Vector) (t : ℤ) (u : Vector) (e : A) : Type 0 where
    pub y : A
    pub within : Contains xs y
    pub same_side : pos 0 <ℤ (gap place height t u e *ℤ gap place height t u y)
    pub apart : gap place height t u y ≢ pos 0
    pub factor : ℤ
    pub positive : pos 0 <ℤ factor
    pub other : ℤ
    pub size : ℤ
    pub form : Vector
    pub size_is : size ≡ factor *ℤ s -ℤ other *ℤ t
    pub under : IsUnder size form
    pub touches : gap place height size form y ≡ pos 0
    pub keeps : (x : A) → gap place height t u x ≡ pos 0 → gap place height size form x ≡ factor *ℤ gap place height s n x
    pub falls : (x : A) → pos 0 ≤ℤ (gap place height t u e *ℤ gap place height t u x) → gap place height size form x ≤ℤ (factor *ℤ gap place height s n x)

  module _ (s : ℤ) (n : Vector) (under : IsUnder s n) (t : ℤ) (u : Vector) (e : A) (h : Contains xs e) (independent : gap place height t u e ≢ pos 0) where
    abbrev end : ℤ
    end = gap place height t u e

    abbrev level : A → ℤ
    level = gap place height s n

    -- positive at e
    abbrev slope : A → ℤ
    slope x = end *ℤ gap place height t u x

    abbrev new_size : A → ℤ
    new_size y = slope y *ℤ s -ℤ (level y *ℤ end) *ℤ t

    abbrev new_form : A → Vector
    new_form y = difference (multiple (slope y) n) (multiple (level y *ℤ end) u)

    tilt_gap : (y x : A) → tilted level slope y x ≡ gap place height (new_size y) (new_form y) x
    tilt_gap y x =
        ring (slope y ∷ level x ∷ level y ∷ end ∷ gap place height t u x ∷ [])
        (minus (times (var 0) (var 1)) (times (var 2) (times (var 3) (var 4)))) (minus (times (var 0) (var 1)) (times (times (var 2) (var 3)) (var 4))) refl
        ∙ gap_tilt place height (slope y) s (level y *ℤ end) t n u x

    touched : (y : A) → IsTouched level slope xs y → IsTiltedAlong s n t u e
    touched y r = record {
      y = y;
      within = r.within;
      same_side = r.rises;
      apart = λ q. no (slope y) (zero_out end (gap place height t u y) q) r.rises;
      factor = slope y;
      positive = r.rises;
      other = level y *ℤ end;
      size = new_size y;
      form = new_form y;
      size_is = refl;
      under = λ x c. subst (λ z. pos 0 ≤ℤ z) (tilt_gap y x) (r.over x c);
      touches = sym (tilt_gap y y) ∙ ring (slope y ∷ level y ∷ []) (minus (times (var 0) (var 1)) (times (var 1) (var 0))) (num (pos 0)) refl;
      keeps = λ x q. sym (tilt_gap y x) ∙ (λ i. slope y *ℤ level x -ℤ level y *ℤ (end *ℤ q i))
          ∙ ring (slope y ∷ level x ∷ level y ∷ end ∷ []) (minus (times (var 0) (var 1)) (times (var 2) (times (var 3) (num (pos 0))))) (times (var 0) (var 1)) refl;
      falls = λ x l. less (slope y *ℤ level x) (level y *ℤ slope x) (gap place height (new_size y) (new_form y) x) (tilt_gap y x) (product_not_negative (level y) (slope x) (under y r.within) l);
    }
      where
        less : (a b c : ℤ) → a -ℤ b ≡ c → pos 0 ≤ℤ b → c ≤ℤ a
        less a b c q l = omega (arith, ints, q, l)

        no : (z : ℤ) → z ≡ pos 0 → pos 0 <ℤ z → ⊥
        no z q l = absurd (omega (arith, ints, q, l))

    pub tilt_along : IsTiltedAlong s n t u e
    tilt_along = (let r = least_ratio level slope xs under e h (square_positive end independent) in touched r.0 r.1)

  -- ---- the tilt about three things

  -- the form after the tilt about i, j and k, and what it touches, on the side of e
  pub record IsTilted (s : ℤ) (n : Vector) (i j k e : A) : Type 0 where
    pub y : A
    pub within : Contains xs y
    pub same_side : pos 0 <ℤ (volume place height i j k e *ℤ volume place height i j k y)
    pub apart : volume place height i j k y ≢ pos 0
    pub factor : ℤ
    pub positive : pos 0 <ℤ factor
    pub size : ℤ
    pub form : Vector
    pub size_is : size ≡ factor *ℤ s
    pub under : IsUnder size form
    pub touches : gap place height size form y ≡ pos 0
    pub keeps : (x : A) → volume place height i j k x ≡ pos 0 → gap place height size form x ≡ factor *ℤ gap place height s n x
    pub falls : (x : A) → pos 0 ≤ℤ (volume place height i j k e *ℤ volume place height i j k x) → gap place height size form x ≤ℤ (factor *ℤ gap place height s n x)

  -- the gap of the cofactors is the volume, turned
  pub volume_gap : (i j k x : A) → gap place height (pos 0) (cofactors (place i) (place j) (place k)) x ≡ neg_ℤ (volume place height i j k x)
  volume_gap i j k x = (λ q. pos 0 *ℤ height x -ℤ sym (det4-cofactors (place i) (place j) (place k) (place x)) q) ∙ turned (volume place height i j k x) (height x)
    where
      turned : (v z : ℤ) → pos 0 *ℤ z -ℤ v ≡ neg_ℤ v
      turned v z = ring (v ∷ z ∷ []) (minus (times (num (pos 0)) (var 1)) (var 0)) (neg (var 0)) refl

  pub tilt_about : (s : ℤ) (n : Vector) → IsUnder s n → (i j k e : A) → Contains xs e → volume place height i j k e ≢ pos 0 → IsTilted s n i j k e
  tilt_about s n under i j k e h independent =
      by (tilt_along s n under (pos 0) (cofactors (place i) (place j) (place k)) e h (λ q. independent (volume_none e q)))
    where
      both_turned : (x : A) → gap place height (pos 0) (cofactors (place i) (place j) (place k)) e *ℤ gap place height (pos 0) (cofactors (place i) (place j) (place k)) x
          ≡ volume place height i j k e *ℤ volume place height i j k x
      both_turned x =
          (λ q. volume_gap i j k e q *ℤ volume_gap i j k x q)
          ∙ ring (volume place height i j k e ∷ volume place height i j k x ∷ []) (times (neg (var 0)) (neg (var 1))) (times (var 0) (var 1)) refl

      volume_none : (x : A) → gap place height (pos 0) (cofactors (place i) (place j) (place k)) x ≡ pos 0 → volume place height i j k x ≡ pos 0
      volume_none x q = zero _ _ (volume_gap i j k x) q
        where
          zero : (y v : ℤ) → y ≡ neg_ℤ v → y ≡ pos 0 → v ≡ pos 0
          zero y v p r = omega (arith, ints, p, r)

      by : IsTiltedAlong s n (pos 0) (cofactors (place i) (place j) (place k)) e → IsTilted s n i j k e
      by t = record {
        y = t.y;
        within = t.within;
        same_side = subst (λ z. pos 0 <ℤ z) (both_turned t.y) t.same_side;
        apart = λ q. t.apart (volume_gap i j k t.y ∙ ap neg_ℤ q);
        factor = t.factor;
        positive = t.positive;
        size = t.size;
        form = t.form;
        size_is = t.size_is ∙ ring (t.factor ∷ s ∷ t.other ∷ []) (minus (times (var 0) (var 1)) (times (var 2) (num (pos 0)))) (times (var 0) (var 1)) refl;
        under = t.under;
        touches = t.touches;
        keeps = λ x q. t.keeps x (volume_gap i j k x ∙ ap neg_ℤ q);
        falls = λ x l. t.falls x (subst (λ z. pos 0 ≤ℤ z) (sym (both_turned x)) l);
      }

  -- a form under the list that is 0 at i stays so where i is among the three that the tilt is about
  pub keeps_zero : (s : ℤ) (n : Vector) (i j k e : A) (t : IsTilted s n i j k e) (x : A) → volume place height i j k x ≡ pos 0 → gap place height s n x ≡ pos 0
      → gap place height t.size t.form x ≡ pos 0
  keeps_zero s n i j k e t x q f = t.keeps x q ∙ zero_out t.factor (gap place height s n x) f

  -- ---- three tilts about a

  -- a form with three things of the list that it touches, independent with a, and how the value at a grew
  pub record IsThrice (s : ℤ) (n : Vector) (a : A) : Type 0 where
    pub y1 : A
    pub y2 : A
    pub y3 : A
    pub within : Contains xs y1 × Contains xs y2 × Contains xs y3
    pub independent : volume place height a y1 y2 y3 ≢ pos 0
    pub factor : ℤ
    pub positive : pos 0 <ℤ factor
    pub size : ℤ
    pub form : Vector
    pub size_is : size ≡ factor *ℤ s
    pub under : IsUnder size form
    pub touches : (gap place height size form y1 ≡ pos 0) × (gap place height size form y2 ≡ pos 0) × (gap place height size form y3 ≡ pos 0)
    pub keeps : gap place height size form a ≡ factor *ℤ gap place height s n a

  swapped : (i j k l : A) → volume place height i j k l ≢ pos 0 → volume place height i j l k ≢ pos 0
  swapped i j k l q = turned_not_zero (volume place height i j k l) (volume place height i j l k) (swap_last (place i) (place j) (place k) (place l)) q

  -- where each tilt keeps some property of the form, so do all three
  module _ (Holds : ℤ → Vector → Type 0)
      (turn : (s : ℤ) (n : Vector) → IsUnder s n → Holds s n → (i j k z : A) → Contains xs z → volume place height i j k z ≢ pos 0 → (e : A) × (t : IsTilted s n i j k e) × Holds t.size t.form) where
    pub three_held : (s : ℤ) (n : Vector) → IsUnder s n → Holds s n → (a b c d : A) → Contains xs b → Contains xs c → Contains xs d → volume place height a b c d ≢ pos 0
        → (t : IsThrice s n a) × Holds t.size t.form
    three_held s n under held a b c d hb hc hd independent = first (turn s n under held a b c d hd independent)
      where
        product_first : (f1 f2 f3 z : ℤ) → f3 *ℤ (f2 *ℤ (f1 *ℤ z)) ≡ ((f3 *ℤ f2) *ℤ f1) *ℤ z
        product_first f1 f2 f3 z = ring (f1 ∷ f2 ∷ f3 ∷ z ∷ []) (times (var 2) (times (var 1) (times (var 0) (var 3)))) (times (times (times (var 2) (var 1)) (var 0)) (var 3)) refl

        third : (e1 e2 e3 : A) (t : IsTilted s n a b c e1) (u : IsTilted t.size t.form a b t.y e2) (r : IsTilted u.size u.form a t.y u.y e3) → Holds r.size r.form → (t : IsThrice s n a) × Holds t.size t.form
        third e1 e2 e3 t u r h = (
          record {
            y1 = t.y;
            y2 = u.y;
            y3 = r.y;
            within = (t.within, u.within, r.within);
            independent = r.apart;
            factor = (r.factor *ℤ u.factor) *ℤ t.factor;
            positive = positive_product (r.factor *ℤ u.factor) t.factor (positive_product r.factor u.factor r.positive u.positive) t.positive;
            size = r.size;
            form = r.form;
            size_is = r.size_is ∙ ap (λ z. r.factor *ℤ z) (u.size_is ∙ ap (λ z. u.factor *ℤ z) t.size_is) ∙ product_first t.factor u.factor r.factor s;
            under = r.under;
            touches = (
              keeps_zero u.size u.form a t.y u.y e3 r t.y (same_second (place a) (place t.y) (place u.y)) (keeps_zero t.size t.form a b t.y e2 u t.y (same_third (place a) (place b) (place t.y)) t.touches),
              keeps_zero u.size u.form a t.y u.y e3 r u.y (same_third (place a) (place t.y) (place u.y)) u.touches,
              r.touches,
            );
            keeps = r.keeps a (same_first (place a) (place t.y) (place u.y))
                ∙ ap (λ z. r.factor *ℤ z) (u.keeps a (same_first (place a) (place b) (place t.y)) ∙ ap (λ z. u.factor *ℤ z) (t.keeps a (same_first (place a) (place b) (place c))))
                ∙ product_first t.factor u.factor r.factor (gap place height s n a);
          },
          h,
        )

        -- b moves behind the two that are touched
        behind : (b y z : A) → volume place height a b y z ≢ pos 0 → volume place height a y z b ≢ pos 0
        behind b y z q = swapped a y b z (turned_not_zero (volume place height a b y z) (volume place height a y b z) (swap_middle (place a) (place b) (place y) (place z)) q)

        second : (e1 : A) (t : IsTilted s n a b c e1) → (e2 : A) × (u : IsTilted t.size t.form a b t.y e2) × Holds u.size u.form → (t : IsThrice s n a) × Holds t.size t.form
        second e1 t (e2, u, h) = let r = turn u.size u.form u.under h a t.y u.y b hb (behind b t.y u.y u.apart) in third e1 e2 r.0 t u r.1 r.2

        first : (e1 : A) × (t : IsTilted s n a b c e1) × Holds t.size t.form → (t : IsThrice s n a) × Holds t.size t.form
        first (e1, t, h) = second e1 t (turn t.size t.form t.under h a b t.y c hc (swapped a b c t.y t.apart))

  pub three_tilts : (s : ℤ) (n : Vector) → IsUnder s n → (a b c d : A) → Contains xs b → Contains xs c → Contains xs d → volume place height a b c d ≢ pos 0 → IsThrice s n a
  three_tilts s n under a b c d hb hc hd independent =
      (three_held (λ s n. ⊤) (λ s n under h i j k z hz q. (z, tilt_about s n under i j k z hz q, tt)) s n under tt a b c d hb hc hd independent).0
