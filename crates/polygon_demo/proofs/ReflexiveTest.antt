-- A test of two lists that computes, and that is true only where they form a reflexive pair.
use Rattle.std.proofs.Common.{◌≡◌, ◌≢◌, ℕ, zero, suc, ◌<◌, ◌≤◌, inl, inr, ⊎_elim, Bool, true, false, ◌&&◌, ℤ, pos, negsuc, ◌-ℤ◌, ◌≤ℤ◌, List, length, drop, refl, ap, ◌∙◌, arith}
use Rattle.std.specs.Prelude.{Contains}
use Rattle.std.proofs.lemmas.Int.{ints}
use Rattle.std.proofs.lemmas.List.{get_or_default}
use Rattle.std.proofs.lemmas.List.Elements.{Contains-get_or, All-from_get_or, All-contains}
use Rattle.ntfe_nums.specs.Vectors.{Vector, origin, dot, difference, det4, normal, side_of, AreAffinelyIndependent}
use Rattle.ntfe_model.specs.Pairs.{VertexLists}
use Rattle.ntfe_model.specs.Reflexive.{at, IsTight, HasNoRepeat, AreRising, IsTightOnFour, IsOnOneSide, HasFacet, IsCovered, IsReflexive}
use Rattle.polygon_demo.proofs.TailLemmas.{each_tail, some_tail, both, both_parts, one_of, each_from, some_from}

-- ---- numbers

abbrev pub is_zero : ℤ → Bool
is_zero (pos zero) = true
is_zero (pos (suc n)) = false
is_zero (negsuc n) = false

abbrev pub is_over : ℤ → Bool
is_over (pos zero) = false
is_over (pos (suc n)) = true
is_over (negsuc n) = false

abbrev pub is_under : ℤ → Bool
is_under (pos n) = false
is_under (negsuc n) = true

abbrev pub is_minus_one : ℤ → Bool
is_minus_one (pos n) = false
is_minus_one (negsuc zero) = true
is_minus_one (negsuc (suc n)) = false

abbrev pub is_high : ℤ → Bool
is_high (pos n) = true
is_high (negsuc zero) = true
is_high (negsuc (suc n)) = false

is_zero-true : (z : ℤ) → is_zero z ≡ true → z ≡ pos 0
is_zero-true (pos zero) e = refl
is_zero-true (pos (suc n)) e = cc
is_zero-true (negsuc n) e = cc

is_zero-false : (z : ℤ) → is_zero z ≡ false → z ≢ pos 0
is_zero-false (pos zero) e q = cc
is_zero-false (pos (suc n)) e q = cc
is_zero-false (negsuc n) e q = cc

is_over-true : (z : ℤ) → is_over z ≡ true → ¬ (z ≤ℤ pos 0)
is_over-true (pos zero) e l = cc
is_over-true (pos (suc n)) e l = omega (arith, ints)
is_over-true (negsuc n) e l = cc

is_under-true : (z : ℤ) → is_under z ≡ true → ¬ (pos 0 ≤ℤ z)
is_under-true (pos n) e l = cc
is_under-true (negsuc n) e l = omega (arith, ints)

is_minus_one-true : (z : ℤ) → is_minus_one z ≡ true → z ≡ negsuc 0
is_minus_one-true (pos n) e = cc
is_minus_one-true (negsuc zero) e = refl
is_minus_one-true (negsuc (suc n)) e = cc

is_high-true : (z : ℤ) → is_high z ≡ true → negsuc 0 ≤ℤ z
is_high-true (pos n) e = omega (arith, ints)
is_high-true (negsuc zero) e = omega (arith, ints)
is_high-true (negsuc (suc n)) e = cc

-- ---- vectors

abbrev pub is_tight : Vector → Vector → Bool
is_tight m v = is_minus_one (dot m v)

abbrev pub is_origin : Vector → Bool
is_origin n = (is_zero n.x1 && is_zero n.x2) && (is_zero n.x3 && is_zero n.x4)

is_origin-true : (n : Vector) → is_origin n ≡ true → n ≡ origin
is_origin-true n e =
    let h = both_parts (is_zero n.x1 && is_zero n.x2) _ e in
    let a = both_parts (is_zero n.x1) _ h.0 in
    let b = both_parts (is_zero n.x3) _ h.1 in
    λ i. record { x1 = is_zero-true _ a.0 i; x2 = is_zero-true _ a.1 i; x3 = is_zero-true _ b.0 i; x4 = is_zero-true _ b.1 i }

no_difference : (a b : Vector) → a ≡ b → is_origin (difference a b) ≡ true
no_difference a b e =
    let zero_is : (x y : ℤ) → x ≡ y → x -ℤ y ≡ pos 0 = λ x y q. omega (arith, ints) in
    λ i. is_origin (record {
      x1 = zero_is a.x1 b.x1 (ap (λ v. v.x1) e) i;
      x2 = zero_is a.x2 b.x2 (ap (λ v. v.x2) e) i;
      x3 = zero_is a.x3 b.x3 (ap (λ v. v.x3) e) i;
      x4 = zero_is a.x4 b.x4 (ap (λ v. v.x4) e) i;
    })

-- ---- the parts of the definition. In a case of `elim` a test is computed only where it is needed

abbrev pub are_distinct : List Vector → Bool
are_distinct vs = each_tail (λ a rest. each_tail (λ b _. elim (is_origin (difference a b)) [ true ↦ false | false ↦ true ]) rest) vs

abbrev pub are_high : List Vector → List Vector → Bool
are_high ms vs = each_tail (λ m _. each_tail (λ v _. is_high (dot m v)) vs) ms

-- the test passes at some entry that m is tight on
abbrev pub some_tight : Vector → (Vector → List Vector → Bool) → List Vector → Bool
some_tight m t vs = some_tail (λ v rest. elim (is_tight m v) [ true ↦ t v rest | false ↦ false ]) vs

abbrev pub is_tight_on_four : List Vector → Vector → Bool
is_tight_on_four vs m =
    some_tight m (λ a as1. some_tight m (λ b as2. some_tight m (λ c as3. some_tight m (λ d as4.
    elim (is_zero (det4 a b c d)) [ true ↦ false | false ↦ true ]) as3) as2) as1) vs

abbrev pub is_described : List Vector → Vector → Vector → Vector → Vector → Bool
is_described ms a b c d = some_tail (λ m _. (is_tight m a && is_tight m b) && (is_tight m c && is_tight m d)) ms

-- some entry lies on either side of the hyperplane
abbrev pub is_cut : List Vector → Vector → Vector → Vector → Vector → Bool
is_cut vs a b c d =
    elim (some_tail (λ x _. is_over (side_of a b c d x)) vs) [ true ↦ some_tail (λ x _. is_under (side_of a b c d x)) vs | false ↦ false ]

abbrev pub is_covered : VertexLists → Vector → Vector → Vector → Vector → Bool
is_covered p a b c d =
    elim (is_described p.dual a b c d) [
      | true ↦ true
      | false ↦
          elim (is_origin (normal a b c d)) [ true ↦ true | false ↦ is_cut p.vertices a b c d ]
    ]

abbrev pub are_covered : VertexLists → Bool
are_covered p =
    each_tail (λ a as1. each_tail (λ b as2. each_tail (λ c as3. each_tail (λ d as4. is_covered p a b c d) as3) as2) as1) p.vertices

-- ---- what each says

flipped : (x : Bool) → elim x [ true ↦ false | false ↦ true ] ≡ true → x ≡ false
flipped true e = cc
flipped false e = refl

distinct : (vs : List Vector) → are_distinct vs ≡ true → HasNoRepeat vs
distinct vs e i j d h l q =
    let differs : Vector → Vector → Bool = λ a b. elim (is_origin (difference a b)) [ true ↦ false | false ↦ true ] in
    let row = each_from (λ a rest. each_tail (λ b _. differs a b) rest) vs 0 i e (omega arith) (omega arith) in
    let apart = flipped (is_origin (difference (at vs i) (at vs j))) (each_from (λ b _. differs (at vs i) b) vs (suc i) j row h l) in
    let same : at vs i ≡ at vs j = get_or_default vs i origin d (omega arith) ∙ q ∙ get_or_default vs j d origin l in
    let equal = no_difference (at vs i) (at vs j) same in
    cc

high : (ms vs : List Vector) → are_high ms vs ≡ true → (m v : Vector) → Contains ms m → Contains vs v → negsuc 0 ≤ℤ dot m v
high ms vs e m v cm cv =
    let row : (i : ℕ) → i < length ms → each_tail (λ x _. is_high (dot (at ms i) x)) vs ≡ true = λ i l. each_from (λ y _. each_tail (λ x _. is_high (dot y x)) vs) ms 0 i e (omega arith) l in
    let row_m : each_tail (λ x _. is_high (dot m x)) vs ≡ true =
    All-contains (λ y. each_tail (λ x _. is_high (dot y x)) vs ≡ true) ms m (All-from_get_or (λ y. each_tail (λ x _. is_high (dot y x)) vs ≡ true) ms origin row) cm in
    All-contains (λ x. negsuc 0 ≤ℤ dot m x) vs v
    (All-from_get_or (λ x. negsuc 0 ≤ℤ dot m x) vs origin (λ j l. is_high-true _ (each_from (λ x _. is_high (dot m x)) vs 0 j row_m (omega arith) l))) cv

-- a place that m is tight on
abbrev FoundTight : Vector → (Vector → List Vector → Bool) → List Vector → ℕ → Type 0
FoundTight m t vs n = (i : ℕ) × (n ≤ i) × (i < length vs) × IsTight m (at vs i) × (t (at vs i) (drop (suc i) vs) ≡ true)

tight_from : (m : Vector) (t : Vector → List Vector → Bool) (vs : List Vector) (n : ℕ) → some_tight m t (drop n vs) ≡ true → FoundTight m t vs n
tight_from m t vs n e =
    let f = some_from (λ v rest. elim (is_tight m v) [ true ↦ t v rest | false ↦ false ]) vs n e in
    let s = both (is_tight m (at vs f.0)) _ f.3 in
    (f.0, f.1, f.2, is_minus_one-true _ s.0, s.1)

tight_on_four : (vs : List Vector) (m : Vector) → is_tight_on_four vs m ≡ true → IsTightOnFour m vs
tight_on_four vs m e =
    let t4 : Vector → Vector → Vector → Vector → Bool = λ a b c d. elim (is_zero (det4 a b c d)) [ true ↦ false | false ↦ true ] in
    let t3 : Vector → Vector → Vector → List Vector → Bool = λ a b c as3. some_tight m (λ d _. t4 a b c d) as3 in
    let t2 : Vector → Vector → List Vector → Bool = λ a b as2. some_tight m (λ c as3. t3 a b c as3) as2 in
    let i = tight_from m (λ a as1. some_tight m (λ b as2. t2 a b as2) as1) vs 0 e in
    let j = tight_from m (λ b as2. t2 (at vs i.0) b as2) vs (suc i.0) i.4 in
    let k = tight_from m (λ c as3. t3 (at vs i.0) (at vs j.0) c as3) vs (suc j.0) j.4 in
    let l = tight_from m (λ d _. t4 (at vs i.0) (at vs j.0) (at vs k.0) d) vs (suc k.0) k.4 in
    record {
      i = i.0;
      j = j.0;
      k = k.0;
      l = l.0;
      rising = (j.1, k.1, l.1, l.2);
      four = record { first = i.3; second = j.3; third = k.3; fourth = l.3; independent = is_zero-false _ (flipped _ l.4) };
    }

all_tight_on_four : (ms vs : List Vector) → each_tail (λ m _. is_tight_on_four vs m) ms ≡ true → (m : Vector) → Contains ms m → IsTightOnFour m vs
all_tight_on_four ms vs e m c =
    All-contains (λ y. IsTightOnFour y vs) ms m
    (All-from_get_or (λ y. IsTightOnFour y vs) ms origin (λ i l. tight_on_four vs _ (each_from (λ y _. is_tight_on_four vs y) ms 0 i e (omega arith) l))) c

described : (ms : List Vector) (a b c d : Vector) → is_described ms a b c d ≡ true → HasFacet ms a b c d
described ms a b c d e =
    let f = some_from (λ m _. (is_tight m a && is_tight m b) && (is_tight m c && is_tight m d)) ms 0 e in
    let m = at ms f.0 in
    let h = both_parts (is_tight m a && is_tight m b) _ f.3 in
    let p = both_parts (is_tight m a) _ h.0 in
    let q = both_parts (is_tight m c) _ h.1 in
    (m, Contains-get_or ms f.0 origin f.2, is_minus_one-true _ p.0, is_minus_one-true _ p.1, is_minus_one-true _ q.0, is_minus_one-true _ q.1)

cut : (vs : List Vector) (a b c d : Vector) → is_cut vs a b c d ≡ true → ¬ (IsOnOneSide a b c d vs)
cut vs a b c d e h =
    let s = both (some_tail (λ x _. is_over (side_of a b c d x)) vs) _ e in
    let over = some_from (λ x _. is_over (side_of a b c d x)) vs 0 s.0 in
    let under = some_from (λ x _. is_under (side_of a b c d x)) vs 0 s.1 in
    ⊎_elim (λ low. is_over-true _ over.3 (low over.0 origin over.2)) (λ high. is_under-true _ under.3 (high under.0 origin under.2)) h

covered : (p : VertexLists) (a b c d : Vector) → is_covered p a b c d ≡ true → AreAffinelyIndependent a b c d → IsOnOneSide a b c d p.vertices → HasFacet p.dual a b c d
covered p a b c d e independent side =
    elim (one_of (is_described p.dual a b c d) _ e) [
      | inl f ↦ described p.dual a b c d f
      | inr r ↦ elim (one_of (is_origin (normal a b c d)) _ r) [
        | inl z ↦ absurd (independent (is_origin-true _ z))
        | inr k ↦ absurd (cut p.vertices a b c d k side)
      ]
    ]

all_covered : (p : VertexLists) → are_covered p ≡ true → (i j k l : ℕ) → AreRising i j k l (length p.vertices) → IsCovered p i j k l
all_covered p e i j k l h =
    let vs = p.vertices in
    let t3 : Vector → Vector → Vector → List Vector → Bool = λ a b c as3. each_tail (λ d _. is_covered p a b c d) as3 in
    let t2 : Vector → Vector → List Vector → Bool = λ a b as2. each_tail (λ c as3. t3 a b c as3) as2 in
    let i_is = each_from (λ a as1. each_tail (λ b as2. t2 a b as2) as1) vs 0 i e (omega arith) (omega arith) in
    let j_is = each_from (λ b as2. t2 (at vs i) b as2) vs (suc i) j i_is h.0 (omega arith) in
    let k_is = each_from (λ c as3. t3 (at vs i) (at vs j) c as3) vs (suc j) k j_is h.1 (omega arith) in
    covered p (at vs i) (at vs j) (at vs k) (at vs l) (each_from (λ d _. is_covered p (at vs i) (at vs j) (at vs k) d) vs (suc k) l k_is h.2 h.3)

-- ---- the whole test

abbrev pub is_reflexive : VertexLists → Bool
is_reflexive p =
    ((are_distinct p.vertices && are_distinct p.dual) && are_high p.dual p.vertices)
    && ((each_tail (λ m _. is_tight_on_four p.vertices m) p.dual && each_tail (λ v _. is_tight_on_four p.dual v) p.vertices) && are_covered p)

pub reflexive : (p : VertexLists) → is_reflexive p ≡ true → IsReflexive p
reflexive p e =
    let h = both_parts ((are_distinct p.vertices && are_distinct p.dual) && are_high p.dual p.vertices) _ e in
    let u = both_parts (are_distinct p.vertices && are_distinct p.dual) _ h.0 in
    let d = both_parts (are_distinct p.vertices) _ u.0 in
    let w = both_parts (each_tail (λ m _. is_tight_on_four p.vertices m) p.dual && each_tail (λ v _. is_tight_on_four p.dual v) p.vertices) _ h.1 in
    let f = both_parts (each_tail (λ m _. is_tight_on_four p.vertices m) p.dual) _ w.0 in
    record {
      distinct_vertices = distinct p.vertices d.0;
      distinct_dual = distinct p.dual d.1;
      within = high p.dual p.vertices u.1;
      facets = all_tight_on_four p.dual p.vertices f.0;
      corners = all_tight_on_four p.vertices p.dual f.1;
      closed = all_covered p w.1;
    }
