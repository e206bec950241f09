-- The sums of a line, and the steps of its intervals.
use Rattle.std.proofs.Common.{◌≡◌, ℕ, ◌+◌, ◌^◌, ◌<◌, ◌≤◌, refl, sym, ap, ◌∙◌, subst, arith, ℤ, pos, negsuc, ◌+ℤ◌, ◌*ℤ◌, ◌≤ℤ◌, List, [], ◌∷◌, length, take, get_or, unsigned_abs, w64, to_z, of_z, FitsSigned, length-take, get_or-take}
use Rattle.std.specs.Prelude.{All, ◌↔◌}
use Rattle.std.proofs.lemmas.List.{take_all, get_or_read}
use Rattle.std.proofs.lemmas.List.Elements.{All-more, All-take}
use Rattle.ntfe_nums.specs.Vectors.{Vector, numbers, origin, dot}
use Rattle.ntfe_nums.proofs.Ring.{Expression}
use Rattle.ntfe_nums.proofs.Ring.Expression.{var, plus, times}
use Rattle.ntfe_nums.proofs.Machine.{machine, raw, exact, fits, value-size, AreWithin-four}
use Rattle.ntfe_model.specs.Pairs.{IsSmall}
use Rattle.lattice_points.proofs.CutLemmas.{short_back}
use Rattle.lattice_points.specs.declared.bounds.Extent.{Extent}
use Rattle.lattice_points.specs.Boxes.{IsWithin}
use Rattle.lattice_points.specs.Lines.{head_sum, IsOpen}
use Rattle.ntfe_model.proofs.SmallVectors.{small_size, small_coordinates}

-- the vector at a place of a list of small ones
pub small_at : (ms : List Vector) (i : ℕ) (m : Vector) → i < length ms → m ≡ get_or ms i m → All IsSmall ms → IsSmall m
small_at ms i m l e h = let P : Vector → Type 0 = IsSmall in subst P (sym e) (h i m l)

pub same_at : (ms : List Vector) (i : ℕ) (m : Vector) → i < length ms → m ≡ get_or ms i m → m ≡ get_or ms i origin
same_at ms i m l e = get_or_read ms i m l e origin

-- ---- the sum of two products

headE : Expression
headE = plus (times (var 0) (var 1)) (times (var 2) (var 3))

module _ (m : Vector) (cs : List ℤ) (x1 x2 : ℤ) (e : cs ≡ numbers m) (s : IsSmall m) (h1 : unsigned_abs x1 ≤ 1023) (h2 : unsigned_abs x2 ≤ 1023) where
  pub head_fits : FitsSigned w64 (raw w64 (get_or cs 0 (pos 0) ∷ x1 ∷ get_or cs 1 (pos 0) ∷ x2 ∷ []) (plus (times (var 0) (var 1)) (times (var 2) (var 3))))
  head_fits =
      let p = AreWithin-four 1023 cs (small_coordinates m cs s e) in
      fits w64 (get_or cs 0 (pos 0) ∷ x1 ∷ get_or cs 1 (pos 0) ∷ x2 ∷ []) (1023 ∷ 1023 ∷ 1023 ∷ 1023 ∷ []) (p 0, (h1, (p 1, (h2, tt)))) (plus (times (var 0) (var 1)) (times (var 2) (var 3))) refl

  pub head_is : machine w64 (get_or cs 0 (pos 0) ∷ x1 ∷ get_or cs 1 (pos 0) ∷ x2 ∷ []) (plus (times (var 0) (var 1)) (times (var 2) (var 3))) ≡ head_sum m x1 x2
  head_is =
      let p = AreWithin-four 1023 cs (small_coordinates m cs s e) in
      exact w64 (get_or cs 0 (pos 0) ∷ x1 ∷ get_or cs 1 (pos 0) ∷ x2 ∷ []) (1023 ∷ 1023 ∷ 1023 ∷ 1023 ∷ []) (p 0, (h1, (p 1, (h2, tt)))) (plus (times (var 0) (var 1)) (times (var 2) (var 3))) refl
      ∙ (λ i. get_or (e i) 0 (pos 0) *ℤ x1 +ℤ get_or (e i) 1 (pos 0) *ℤ x2)

  pub head_size : unsigned_abs (head_sum m x1 x2) ≤ 2093058
  head_size = value-size (m.x1 ∷ x1 ∷ m.x2 ∷ x2 ∷ []) (1023 ∷ 1023 ∷ 1023 ∷ 1023 ∷ []) (plus (times (var 0) (var 1)) (times (var 2) (var 3))) (small_size m.x1 s.low1 s.high1, (h1, (small_size m.x2 s.low2 s.high2, (h2, tt))))

-- ---- the slope and the level of the fourth coordinate

pub fourth_is : (m : Vector) (cs : List ℤ) → cs ≡ numbers m → IsSmall m → to_z w64 (of_z w64 (get_or cs 3 (pos 0))) ≡ m.x4
fourth_is m cs e s = short_back (get_or cs 3 (pos 0)) (let p = AreWithin-four 1023 cs (small_coordinates m cs s e) 3 in omega arith) ∙ ap (λ ns. get_or ns 3 (pos 0)) e

module _ (m : Vector) (cs : List ℤ) (sum x1 x2 x3 : ℤ) (e : cs ≡ numbers m) (s : IsSmall m) (q : sum ≡ head_sum m x1 x2) (h1 : unsigned_abs x1 ≤ 1023) (h2 : unsigned_abs x2 ≤ 1023) (h3 : unsigned_abs x3 ≤ 1023) where
  sum_size : unsigned_abs sum ≤ 2093058
  sum_size = let P : ℤ → Type 0 = λ y. unsigned_abs y ≤ 2093058 in subst P (sym q) (head_size m cs x1 x2 e s h1 h2)

  pub third_fits : FitsSigned w64 (raw w64 (get_or cs 2 (pos 0) ∷ x3 ∷ []) (times (var 0) (var 1)))
  third_fits =
      let p = AreWithin-four 1023 cs (small_coordinates m cs s e) in
      fits w64 (get_or cs 2 (pos 0) ∷ x3 ∷ []) (1023 ∷ 1023 ∷ []) (p 2, (h3, tt)) (times (var 0) (var 1)) refl

  pub level_fits : FitsSigned w64 (raw w64 (sum ∷ get_or cs 2 (pos 0) ∷ x3 ∷ []) (plus (var 0) (times (var 1) (var 2))))
  level_fits =
      let p = AreWithin-four 1023 cs (small_coordinates m cs s e) in
      fits w64 (sum ∷ get_or cs 2 (pos 0) ∷ x3 ∷ []) (2093058 ∷ 1023 ∷ 1023 ∷ []) (sum_size, (p 2, (h3, tt))) (plus (var 0) (times (var 1) (var 2))) refl

  level_plain : machine w64 (sum ∷ get_or cs 2 (pos 0) ∷ x3 ∷ []) (plus (var 0) (times (var 1) (var 2))) ≡ sum +ℤ get_or cs 2 (pos 0) *ℤ x3
  level_plain =
      let p = AreWithin-four 1023 cs (small_coordinates m cs s e) in
      exact w64 (sum ∷ get_or cs 2 (pos 0) ∷ x3 ∷ []) (2093058 ∷ 1023 ∷ 1023 ∷ []) (sum_size, (p 2, (h3, tt))) (plus (var 0) (times (var 1) (var 2))) refl

  pub level_is : machine w64 (sum ∷ get_or cs 2 (pos 0) ∷ x3 ∷ []) (plus (var 0) (times (var 1) (var 2))) ≡ head_sum m x1 x2 +ℤ m.x3 *ℤ x3
  level_is = level_plain ∙ (λ i. q i +ℤ get_or (e i) 2 (pos 0) *ℤ x3)

  pub level_size : unsigned_abs (machine w64 (sum ∷ get_or cs 2 (pos 0) ∷ x3 ∷ []) (plus (var 0) (times (var 1) (var 2)))) ≤ 2 ^ 32
  level_size =
      let p = AreWithin-four 1023 cs (small_coordinates m cs s e) in
      let b : unsigned_abs (sum +ℤ get_or cs 2 (pos 0) *ℤ x3) ≤ 3139587 = value-size (sum ∷ get_or cs 2 (pos 0) ∷ x3 ∷ []) (2093058 ∷ 1023 ∷ 1023 ∷ []) (plus (var 0) (times (var 1) (var 2))) (sum_size, (p 2, (h3, tt))) in
      let P : ℤ → Type 0 = λ y. unsigned_abs y ≤ 2 ^ 32 in
      subst P (sym level_plain) (let r : unsigned_abs (sum +ℤ get_or cs 2 (pos 0) *ℤ x3) ≤ 2 ^ 32 = omega arith in r)

-- ---- one more dual vertex

fewer : (P : Vector → Type 0) (ms : List Vector) (i : ℕ) → i < length ms → All P (take (i + 1) ms) → All P (take i ms)
fewer P ms i l h = λ k d b.
    let n = length-take i ms in
    let o = length-take (i + 1) ms in
    let b' : k < i = omega arith in
    let r : P (get_or (take (i + 1) ms) k d) = h k d (omega arith) in
    let e : get_or (take (i + 1) ms) k d ≡ get_or (take i ms) k d = get_or-take (i + 1) ms k d (omega arith) ∙ sym (get_or-take i ms k d b') in
    subst P e r

last : (P : Vector → Type 0) (ms : List Vector) (i : ℕ) (m : Vector) → i < length ms → All P (take (i + 1) ms) → P (get_or ms i m)
last P ms i m l h =
    let o = length-take (i + 1) ms in
    subst P (get_or-take (i + 1) ms i m (omega arith)) (h i m (omega arith))

module _ (ms : List Vector) (i : ℕ) (m : Vector) (l : i < length ms) (e : m ≡ get_or ms i m) (before next extent : Extent) (at : ℤ → Vector)
    (old : (x : ℤ) → IsWithin before x ↔ (IsWithin extent x × IsOpen (take i ms) (at x))) (cut : (x : ℤ) → IsWithin next x ↔ (IsWithin before x × (negsuc 0 ≤ℤ dot m (at x)))) where
  pub interval_more : (x : ℤ) → IsWithin next x ↔ (IsWithin extent x × IsOpen (take (i + 1) ms) (at x))
  interval_more x =
      let P : Vector → Type 0 = λ n. negsuc 0 ≤ℤ dot n (at x) in (
        λ w.
            let c = (cut x).0 w in
            let o = (old x).0 c.0 in
            (o.0, All-more P ms i m l o.1 (subst P e c.1)),
        λ (w, h). (cut x).1 ((old x).1 (w, fewer P ms i l h), subst P (sym e) (last P ms i m l h)),
      )

  -- where nothing is left, the rest of the dual vertices shuts out nothing more
  pub interval_none : ((x : ℤ) → IsWithin next x → ⊥) → (x : ℤ) → IsWithin next x ↔ (IsWithin extent x × IsOpen ms (at x))
  interval_none none x = (λ w. absurd (none x w), λ (w, h). (interval_more x).1 (w, All-take (λ n. negsuc 0 ≤ℤ dot n (at x)) (i + 1) ms h))

pub interval_all : (ms : List Vector) (i : ℕ) (left extent : Extent) (at : ℤ → Vector) → length ms ≤ i
    → ((x : ℤ) → IsWithin left x ↔ (IsWithin extent x × IsOpen (take i ms) (at x))) → (x : ℤ) → IsWithin left x ↔ (IsWithin extent x × IsOpen ms (at x))
interval_all ms i left extent at l h x =
    let P : List Vector → Type 0 = λ ns. IsWithin left x ↔ (IsWithin extent x × IsOpen ns (at x)) in
    subst P (take_all i ms l) (h x)
