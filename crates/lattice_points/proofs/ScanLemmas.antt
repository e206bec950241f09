-- One part of the way after the other: what they add together.
use Rattle.std.proofs.Common.{◌≡◌, ℕ, ◌+◌, ◌<◌, ◌≤◌, ◌⊎◌, inl, inr, ⊎_elim, refl, sym, ap, ◌∙◌, subst, arith, ℤ, pos, ◌*◌, ◌^◌, true, false, ◌+ℤ◌, ◌-ℤ◌, ◌*ℤ◌, ◌≤ℤ◌, unsigned_abs, w64, to_z, of_z, List, [], ◌∷◌, ◌++◌, length, append_assoc, length-append, Ordering}
use Rattle.std.proofs.Common.{Result, Ok, Err}
use Rattle.std.specs.Prelude.{is_ok, ◌<ℤ◌, IfOk, OnOk, IfErr, OnErr}
use Rattle.lattice_points.specs.declared.fault.PointFault.{PointFault}
use Rattle.lattice_points.specs.declared.fault.PointFault.TheVariants.{TooMany}
use Rattle.lattice_points.specs.Faults.{HasFewColumns, HasCause}
use Rattle.std.specs.Ordering.{ordering_then, int_cmp}
use Rattle.std.specs.Cmp.{int_cmp_is}
use Rattle.std.specs.declared.cmp.Ordering.TheVariants.{Less, Equal}
use Rattle.std.proofs.lemmas.Int.{ints, by_lt_z}
use Rattle.std.proofs.lemmas.List.{append-nil}
use lib.Signed.{lt_z, ≤ℤ_refl}
use Rattle.ntfe_nums.specs.Sizes.{AreWithin}
use Rattle.ntfe_nums.proofs.Ring.{right_sum, product_one, product_zero}
use Rattle.ntfe_nums.specs.Vectors.{Vector, Precedes}
use Rattle.ntfe_model.specs.Pairs.{VertexLists}
use Rattle.ntfe_model.specs.Points.{IsPointOf, ArePoints}
use Rattle.ntfe_model.specs.declared.point.Point.{Point}
use Rattle.ntfe_model.proofs.Listings.{listing_nil, listing_append, listing_same}
use Rattle.lattice_points.specs.declared.found.Found.{Found}
use Rattle.lattice_points.specs.declared.bounds.Extent.{Extent}
use Rattle.lattice_points.proofs.CutLemmas.{product_rises, short_back, not_past, past}
use Rattle.lattice_points.specs.Scans.{IsAnywhere, IsBelow, IsPointWith, Adds}

-- ---- the order of coordinates

then_less : (o r : Ordering) → o ≡ Less → ordering_then o r ≡ Less
then_less o r e = ap (λ s. ordering_then s r) e

then_equal : (o r : Ordering) → o ≡ Equal → r ≡ Less → ordering_then o r ≡ Less
then_equal o r e f = ap (λ s. ordering_then s r) e ∙ f

less : (a b : ℤ) → a <ℤ b → int_cmp a b ≡ Less
less a b h = sym (int_cmp_is a b Less h)

equal : (a b : ℤ) → a ≡ b → int_cmp a b ≡ Equal
equal a b h = sym (int_cmp_is a b Equal h)

pub first_less : (a b : Vector) → a.x1 <ℤ b.x1 → Precedes a b
first_less a b h = then_less _ _ (less a.x1 b.x1 h)

pub second_less : (a b : Vector) → a.x1 ≡ b.x1 → a.x2 <ℤ b.x2 → Precedes a b
second_less a b e h = then_equal _ _ (equal a.x1 b.x1 e) (then_less _ _ (less a.x2 b.x2 h))

pub third_less : (a b : Vector) → a.x1 ≡ b.x1 → a.x2 ≡ b.x2 → a.x3 <ℤ b.x3 → Precedes a b
third_less a b e f h = then_equal _ _ (equal a.x1 b.x1 e) (then_equal _ _ (equal a.x2 b.x2 f) (then_less _ _ (less a.x3 b.x3 h)))

pub fourth_less : (a b : Vector) → a.x1 ≡ b.x1 → a.x2 ≡ b.x2 → a.x3 ≡ b.x3 → a.x4 <ℤ b.x4 → Precedes a b
fourth_less a b e f g h = then_equal _ _ (equal a.x1 b.x1 e) (then_equal _ _ (equal a.x2 b.x2 f) (then_equal _ _ (equal a.x3 b.x3 g) (then_less _ _ (less a.x4 b.x4 h))))

-- ---- parts of the way

pub adds_same : (p : VertexLists) (S T : Vector → Type 0) (old new : Found) → ((v : Vector) → S v → T v) → ((v : Vector) → T v → S v) → Adds p S old new → Adds p T old new
adds_same p S T old new f g a = record {
  added = a.added;
  listing = listing_same (λ x y. Precedes x.place y.place) (IsPointWith p S) (IsPointWith p T) a.added a.listing
      (λ q k. record { point = k.point; place = f q.place k.place }) (λ q k. record { point = k.point; place = g q.place k.place });
  count = a.count;
  kept = a.kept;
}

-- where there is no point nothing is found
pub adds_nothing : (p : VertexLists) (S : Vector → Type 0) (f : Found) → ((q : Point) → IsPointOf p q → S q.place → ⊥) → Adds p S f f
adds_nothing p S f h = record {
  added = [];
  listing = listing_nil (λ x y. Precedes x.place y.place) (IsPointWith p S) (λ q k. h q k.point k.place);
  count = omega arith;
  kept = λ k. sym (append-nil f.points.items);
}

-- S is what is known of the places, and c the coordinate that is gone through
module _ (p : VertexLists) (S : Vector → Type 0) (c : Vector → ℤ) where
  -- below the least coordinate nothing is found
  pub adds_none : (z : ℤ) (f : Found) → ((q : Point) → IsPointOf p q → S q.place → z ≤ℤ c q.place) → Adds p (IsBelow S c z) f f
  adds_none z f h = record {
    added = [];
    listing = listing_nil (λ x y. Precedes x.place y.place) (IsPointWith p (IsBelow S c z)) (λ q k. (let a = h q k.point k.place.0 in let b = k.place.1 in omega (arith, ints)));
    count = omega arith;
    kept = λ k. sym (append-nil f.points.items);
  }

  -- one more coordinate
  pub adds_more : (T : Vector → Type 0) (z next : ℤ) (old mid new : Found) → next ≡ z +ℤ pos 1 → ((a b : Vector) → S a → S b → c a <ℤ c b → Precedes a b)
      → ((v : Vector) → T v → S v × (c v ≡ z)) → ((v : Vector) → S v → c v ≡ z → T v)
      → Adds p (IsBelow S c z) old mid → Adds p T mid new → Adds p (IsBelow S c next) old new
  adds_more T z next old mid new e order f g a b = record {
    added = a.added ++ b.added;
    listing = listing_append (λ x y. Precedes x.place y.place) (IsPointWith p (IsBelow S c z)) (IsPointWith p T) (IsPointWith p (IsBelow S c next)) a.added b.added a.listing b.listing
        (λ x y h k. (let t = f y.place k.place in let l = h.place.1 in let q = t.1 in order x.place y.place h.place.0 t.0 (omega (arith, ints))))
        (λ x h. record { point = h.point; place = (h.place.0, (let l = h.place.1 in omega (arith, ints))) })
        (λ x h. (let t = f x.place h.place in let q = t.1 in record { point = h.point; place = (t.0, omega (arith, ints)) }))
        (λ x h. by_lt_z (c x.place) z (λ l. inl (record { point = h.point; place = (h.place.0, l) }))
        (λ l. inr (record { point = h.point; place = g x.place h.place.0 (let k = h.place.1 in omega (arith, ints)) })));
    count = (let m = a.count in let n = b.count in let o = length-append a.added b.added in omega arith);
    kept = λ k.
        b.kept k ∙ ap (λ xs. xs ++ b.added) (a.kept (let n = b.count in omega arith)) ∙ append_assoc old.points.items a.added b.added;
  }

  -- past the greatest coordinate all is found
  pub adds_all : (z : ℤ) (old new : Found) → ((q : Point) → IsPointOf p q → S q.place → c q.place <ℤ z) → Adds p (IsBelow S c z) old new → Adds p S old new
  adds_all z old new h a = record {
    added = a.added;
    listing = listing_same (λ x y. Precedes x.place y.place) (IsPointWith p (IsBelow S c z)) (IsPointWith p S) a.added a.listing
        (λ q k. record { point = k.point; place = k.place.0 }) (λ q k. record { point = k.point; place = (k.place, h q k.point k.place) });
    count = a.count;
    kept = a.kept;
  }

zero_room : (per n : ℕ) (low : ℤ) → pos n ≤ℤ (pos n +ℤ pos per *ℤ (low -ℤ low))
zero_room per n low =
    let e : low -ℤ low ≡ pos 0 = omega (arith, ints) in
    let f : pos per *ℤ (low -ℤ low) ≡ pos 0 = ap (λ k. pos per *ℤ k) e ∙ product_zero (pos per) in
    omega (arith, ints)

more_room : (per a b d : ℕ) (z low : ℤ) → pos b ≤ℤ (pos a +ℤ pos per *ℤ (z -ℤ low)) → d ≤ b + per → pos d ≤ℤ (pos a +ℤ pos per *ℤ (z +ℤ pos 1 -ℤ low))
more_room per a b d z low h k =
    let e : z +ℤ pos 1 -ℤ low ≡ (z -ℤ low) +ℤ pos 1 = omega (arith, ints) in
    let f : pos per *ℤ (z +ℤ pos 1 -ℤ low) ≡ pos per *ℤ (z -ℤ low) +ℤ pos per = ap (λ y. pos per *ℤ y) e ∙ right_sum (pos per) (z -ℤ low) (pos 1) ∙ ap (λ y. pos per *ℤ (z -ℤ low) +ℤ y) (product_one (pos per)) in
    omega (arith, ints)

-- ---- going through the numbers of an extent

-- the coordinate c went up to z, and each of its values added at most `per` points
pub record Sweeps (p : VertexLists) (S : Vector → Type 0) (c : Vector → ℤ) (e : Extent) (per : ℕ) (z : ℤ) (old new : Found) : Type 0 where
  pub low : e.low ≤ℤ z
  pub high : (z ≤ℤ (e.high +ℤ pos 1)) ⊎ (z ≡ e.low)
  pub adds : Adds p (IsBelow S c z) old new
  pub room : pos new.count ≤ℤ (pos old.count +ℤ pos per *ℤ (z -ℤ e.low))

module _ (p : VertexLists) (S : Vector → Type 0) (c : Vector → ℤ) (e : Extent) (per : ℕ) (size : AreWithin (2 ^ 33) (e.low ∷ e.high ∷ [])) where
  pub sweep_start : (f : Found) → ((q : Point) → IsPointOf p q → S q.place → e.low ≤ℤ c q.place) → Sweeps p S c e per (to_z w64 (of_z w64 e.low)) f f
  sweep_start f h =
      let k : unsigned_abs e.low ≤ 2 ^ 34 = (let s = size.0 in omega arith) in
      let P : ℤ → Type 0 = λ z. Sweeps p S c e per z f f in
      subst P (sym (short_back e.low k)) (record {
        low = ≤ℤ_refl e.low;
        high = inr refl;
        adds = adds_none p S c e.low f h;
        room = zero_room per f.count e.low;
      })

  pub sweep_step : (T : Vector → Type 0) (z : ℤ) (old mid new : Found) → lt_z z (to_z w64 (of_z w64 (to_z w64 (of_z w64 e.high) +ℤ pos 1))) ≡ true
      → ((a b : Vector) → S a → S b → c a <ℤ c b → Precedes a b) → ((v : Vector) → T v → S v × (c v ≡ z)) → ((v : Vector) → S v → c v ≡ z → T v)
      → Sweeps p S c e per z old mid → Adds p T mid new → new.count ≤ mid.count + per → Sweeps p S c e per (to_z w64 (of_z w64 (z +ℤ pos 1))) old new
  sweep_step T z old mid new t order f g s a most =
      let n = not_past z e.high size.1.0 t in
      let l = s.low in
      let i = size.0 in
      let j = size.1.0 in
      let k : unsigned_abs (z +ℤ pos 1) ≤ 2 ^ 34 = omega (arith, ints) in
      let P : ℤ → Type 0 = λ y. Sweeps p S c e per y old new in
      subst P (sym (short_back (z +ℤ pos 1) k)) (record {
        low = omega (arith, ints);
        high = inl (omega (arith, ints));
        adds = adds_more p S c T z (z +ℤ pos 1) old mid new refl order f g s.adds a;
        room = more_room per old.count mid.count new.count z e.low s.room most;
      })

  pub sweep_end : (z : ℤ) (old new : Found) → lt_z z (to_z w64 (of_z w64 (to_z w64 (of_z w64 e.high) +ℤ pos 1))) ≡ false
      → ((q : Point) → IsPointOf p q → S q.place → c q.place ≤ℤ e.high) → Sweeps p S c e per z old new → Adds p S old new
  sweep_end z old new t h s =
      let n = past z e.high size.1.0 t in
      adds_all p S c z old new (λ q k m. (let i = h q k m in omega (arith, ints))) s.adds

  pub sweep_room : (z : ℤ) (old new : Found) → (e.low ≤ℤ e.high → (e.high -ℤ e.low) ≤ℤ pos 2046) → Sweeps p S c e per z old new → new.count ≤ old.count + per * 2047
  sweep_room z old new span s =
      let r = s.room in
      let l = s.low in
      let d : (z -ℤ e.low) ≤ℤ pos 2047 = ⊎_elim
      (λ h. by_lt_z e.high e.low (λ k. omega (arith, ints)) (λ k. (let m = span k in omega (arith, ints))))
      (λ q. omega (arith, ints)) s.high in
      let m = product_rises per (z -ℤ e.low) (pos 2047) d in
      omega (arith, ints)

-- ---- the whole way

module _ (p : VertexLists) (old new : Found) (a : Adds p IsAnywhere old new) (none : old.points.items ≡ []) (zero : old.count ≡ 0) where
  pub all_points : ArePoints p a.added
  all_points = listing_same (λ x y. Precedes x.place y.place) (IsPointWith p IsAnywhere) (IsPointOf p) a.added a.listing (λ q k. k.point) (λ q k. record { point = k; place = tt })

  pub all_counted : new.count ≡ length a.added
  all_counted = let n = a.count in omega arith

  pub all_kept : new.count ≤ 400 → new.points.items ≡ a.added
  all_kept h = a.kept h ∙ ap (λ xs. xs ++ a.added) none

  pub points_from : (r : Result (List Point) PointFault) → IfOk r (λ xs. xs ≡ new.points.items) → OnOk r (new.count ≤ 400) → IfOk r (ArePoints p)
  points_from (Ok xs) h k = subst (λ (ys : List Point). ArePoints p ys) (sym (h ∙ all_kept k)) all_points
  points_from (Err e) h k = tt

  pub few_from : (r : Result (List Point) PointFault) → IfOk r (λ xs. xs ≡ new.points.items) → OnOk r (new.count ≤ 400) → IfOk r (λ xs. length xs ≤ 400)
  few_from (Ok xs) h k =
      let e = ap length (h ∙ all_kept k) in
      let c = all_counted in
      omega arith
  few_from (Err e) h k = tt

  pub cause_from : (r : Result (List Point) PointFault) → HasFewColumns p.vertices → IfErr r (λ e. e ≡ TooMany new.count) → OnErr r (400 < new.count) → IfErr r (HasCause p)
  cause_from (Ok xs) f h k = tt
  cause_from (Err e) f h k =
      let P : PointFault → Type 0 = HasCause p in
      subst P (sym h) (f, record { points = a.added; are = all_points; count = all_counted; over = k })

pub ok_from : {A E : Type 0} (P : Type 0) (r : Result A E) → P → OnOk r P
ok_from P (Ok x) h = h
ok_from P (Err e) h = tt

pub from_ok : {A E : Type 0} (P : Type 0) (r : Result A E) → OnOk r P → true ≡ is_ok r → P
from_ok P (Ok x) h e = h
from_ok P (Err x) h e = cc
