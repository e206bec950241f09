-- A test of two lists that computes, and that is true only where they are bounded as a pair's lists are.
use Rattle.std.proofs.Common.{◌≡◌, ℕ, ◌<◌, Bool, true, ◌&&◌, nat_lt, ℤ, pos, negsuc, ◌≤ℤ◌, unsigned_abs, List, length, arith}
use Rattle.std.proofs.lemmas.Int.{ints}
use Rattle.std.proofs.lemmas.Bool.Decides.{nat_tests}
use Rattle.std.proofs.lemmas.List.Elements.{All-from_get_or}
use Rattle.ntfe_nums.specs.Vectors.{Vector, origin}
use Rattle.ntfe_model.specs.Pairs.{VertexLists, IsSmall, IsBoundedList, IsBounded}
use Rattle.polygon_demo.proofs.TailLemmas.{each_tail, each_from, both_parts}

abbrev is_short : ℤ → Bool
is_short z = nat_lt (unsigned_abs z) 1024

abbrev is_small : Vector → Bool
is_small v = (is_short v.x1 && is_short v.x2) && (is_short v.x3 && is_short v.x4)

abbrev is_bounded_list : List Vector → Bool
is_bounded_list vs = (nat_lt 4 (length vs) && nat_lt (length vs) 65) && each_tail (λ v _. is_small v) vs

abbrev pub is_bounded : VertexLists → Bool
is_bounded p = is_bounded_list p.vertices && is_bounded_list p.dual

below : (m n : ℕ) → nat_lt m n ≡ true → m < n
below m n e = grind (arith, nat_tests)

short : (z : ℤ) → is_short z ≡ true → (negsuc 1022 ≤ℤ z) × (z ≤ℤ pos 1023)
short z e = let h = below _ _ e in (omega (arith, ints), omega (arith, ints))

small : (v : Vector) → is_small v ≡ true → IsSmall v
small v e =
    let h = both_parts (is_short v.x1 && is_short v.x2) _ e in
    let p = both_parts (is_short v.x1) _ h.0 in
    let q = both_parts (is_short v.x3) _ h.1 in
    let a = short v.x1 p.0 in
    let b = short v.x2 p.1 in
    let c = short v.x3 q.0 in
    let d = short v.x4 q.1 in
    record { low1 = a.0; high1 = a.1; low2 = b.0; high2 = b.1; low3 = c.0; high3 = c.1; low4 = d.0; high4 = d.1 }

bounded_list : (vs : List Vector) → is_bounded_list vs ≡ true → IsBoundedList vs
bounded_list vs e =
    let h = both_parts (nat_lt 4 (length vs) && nat_lt (length vs) 65) _ e in
    let s = both_parts (nat_lt 4 (length vs)) _ h.0 in
    record {
      at_least = below _ _ s.0;
      at_most = (let l : length vs < 65 = below _ _ s.1 in omega arith);
      small = All-from_get_or IsSmall vs origin (λ i l. small _ (each_from (λ v _. is_small v) vs 0 i h.1 (omega arith) l));
    }

pub bounded : (p : VertexLists) → is_bounded p ≡ true → IsBounded p
bounded p e = let h = both_parts (is_bounded_list p.vertices) _ e in record { vertices = bounded_list p.vertices h.0; dual = bounded_list p.dual h.1 }
