-- The definitions at worked examples.
use Rattle.std.proofs.Common.{◌≡◌, ℕ, zero, suc, ◌<◌, ℤ, pos, negsuc, ◌+ℤ◌, ◌*ℤ◌, ◌≤ℤ◌, List, [], ◌∷◌, ◌++◌, Some, None, inl, inr, refl, ap, arith}
use Rattle.std.specs.Prelude.{codes, map, take, replicate, length, slice_index_or, All, unsigned_abs, ◌^◌, false}
use Rattle.std.specs.List.{range_with_len}
use Rattle.std.proofs.lemmas.Int.{ints}
use Rattle.std.specs.Fmt.{digits}
use Rattle.ntfe_model.specs.Lists.{IsBelow, IsBefore2, IsBefore4}
use Rattle.ntfe_nums.specs.Vectors.{Vector, origin, Precedes, coordinate, det4, normal, cofactors, side_of, AreAffinelyIndependent}
use Rattle.ntfe_model.specs.Pairs.{VertexLists}
use Rattle.ntfe_model.specs.Points.{facets_through, points_on_both, IsPointOf, MeetInTwoFace, IsBoxSide}
use Rattle.ntfe_model.specs.declared.point.Point.{Point}
use Rattle.ntfe_model.specs.Charts.{Patch, patch_of, axes, turn}
use Rattle.ntfe_model.specs.Words.{Closes, written}
use Rattle.ntfe_model.specs.Certificates.{total_coefficient, IsBlockedBy, no_part}
use Rattle.ntfe_model.specs.Shapes.{Shape}
use Rattle.ntfe_model.specs.Keys.{stem, last_number, BeginsWith, IsAfter, IsLive, IsNoPrefixOf, AllItemsExist, IsRefutedAt}
use Rattle.ntfe_model.specs.RunText.{Form, Block, Kept, nothing_kept, head_text, number_line, signed_line, star_lines, IsTextOf}
use Rattle.ntfe_model.specs.Earlier.{Layout, head_lines, IsKeptOf, IsAllowed, after_head, IsHeadFault, IsBodyFault}
use Rattle.ntfe_model.specs.Earlier.Place.{class_or_end, heights_of, nothing}
use Rattle.ntfe_model.specs.declared.nogood.Fold.{Fold}
use Rattle.ntfe_model.specs.declared.nogood.Term.{Term}
use Rattle.ntfe_model.specs.declared.nogood.Nogood.{Nogood}
use Rattle.ntfe_model.specs.declared.nogood.Push.TheVariants.{Up}

abbrev v : ℤ → ℤ → ℤ → ℤ → Vector
v a b c d = record { x1 = a; x2 = b; x3 = c; x4 = d }

abbrev m1 : ℤ
m1 = negsuc 0

abbrev o : ℤ
o = pos 0

abbrev e : ℤ
e = pos 1

abbrev simplex : VertexLists
simplex = record {
  vertices = v e o o o ∷ v o e o o ∷ v o o e o ∷ v o o o e ∷ v m1 m1 m1 m1 ∷ [];
  dual = v m1 m1 m1 m1 ∷ v (pos 4) m1 m1 m1 ∷ v m1 (pos 4) m1 m1 ∷ v m1 m1 (pos 4) m1 ∷ v m1 m1 m1 (pos 4) ∷ [];
}

unit_det : det4 (v e o o o) (v o e o o) (v o o e o) (v o o o e) ≡ pos 1
unfolding det4
unit_det = refl

-- the facets of the vertex -1 -1 -1 -1
facets_of_last : facets_through simplex.dual (v m1 m1 m1 m1) ≡ 2 ∷ 3 ∷ 4 ∷ 5 ∷ []
facets_of_last = refl

-- ---- orders

-- a list comes before those that go on after it, and the first number that differs decides
prefix_below : IsBelow (5 ∷ []) (5 ∷ 7 ∷ [])
prefix_below = refl

words_below : IsBelow (5 ∷ 7 ∷ []) (7 ∷ 5 ∷ [])
words_below = refl

pair_before : IsBefore2 4 6 5 4
pair_before = inl (omega arith)

four_before : IsBefore4 1 3 5 7 1 3 6 7
four_before = inr (refl, refl, inl (omega arith))

-- ---- determinants

-- the side is 0 at the four points, and at x = 0 it is the constant of the form
side_at_first : side_of (v e o o o) (v o e o o) (v o o e o) (v o o o e) (v e o o o) ≡ pos 0
unfolding det4
side_at_first = refl

side_at_origin : side_of (v e o o o) (v o e o o) (v o o e o) (v o o o e) origin ≡ pos 1
unfolding det4
side_at_origin = refl

normal_of_four : normal (v e o o o) (v o e o o) (v o o e o) (v o o o e) ≡ v m1 m1 m1 m1
unfolding cofactors
normal_of_four = refl

-- a determinant with no zeros to speak of
full_det : det4 (v (pos 1) (pos 2) (pos 3) (pos 4)) (v (pos 5) (pos 6) (pos 7) (pos 9)) (v (pos 2) (negsuc 0) (pos 3) (pos 0)) (v (pos 4) (pos 1) (negsuc 1) (pos 8)) ≡ negsuc 314
unfolding det4
full_det = refl

-- the corners of a square of side 1 are affinely dependent
square_dependent : ¬ (AreAffinelyIndependent (v o o o o) (v e o o o) (v o e o o) (v e e o o))
unfolding cofactors
square_dependent h = h refl

-- ---- the points of the simplex, in order

abbrev point_of : ℤ → ℤ → ℤ → ℤ → Point
point_of a b c d = record { place = v a b c d; facets = facets_through simplex.dual (v a b c d) }

abbrev simplex_points : List Point
simplex_points = point_of m1 m1 m1 m1 ∷ point_of o o o e ∷ point_of o o e o ∷ point_of o e o o ∷ point_of e o o o ∷ []

first_precedes : Precedes (v m1 m1 m1 m1) (v o o o e)
first_precedes = refl

second_precedes : Precedes (v o o o e) (v o o e o)
second_precedes = refl

last_precedes : Precedes (v o e o o) (v e o o o)
last_precedes = refl

facets_of_point_2 : facets_through simplex.dual (v o o o e) ≡ 1 ∷ 2 ∷ 3 ∷ 4 ∷ []
facets_of_point_2 = refl

-- the origin is on no facet
facets_of_origin : facets_through simplex.dual origin ≡ []
facets_of_origin = refl

-- in the dual of the simplex this point is interior to a facet, so it is left out
facets_of_inner : facets_through simplex.vertices (v m1 o o o) ≡ 1 ∷ []
facets_of_inner = refl

inner_is_left_out : ¬ (IsPointOf (record { vertices = simplex.dual; dual = simplex.vertices }) (record { place = v m1 o o o; facets = 1 ∷ [] }))
inner_is_left_out x = let h : 1 < 1 = x.two in absurd (omega arith)

-- what holds of the five vertices holds of all
at_vertices : (P : Vector → Type 0) → P (v e o o o) → P (v o e o o) → P (v o o e o) → P (v o o o e) → P (v m1 m1 m1 m1) → All P simplex.vertices
at_vertices P p q r s t zero x h = p
at_vertices P p q r s t (suc zero) x h = q
at_vertices P p q r s t (suc (suc zero)) x h = r
at_vertices P p q r s t (suc (suc (suc zero))) x h = s
at_vertices P p q r s t (suc (suc (suc (suc zero)))) x h = t
at_vertices P p q r s t (suc (suc (suc (suc (suc k))))) x h = absurd (omega arith)

-- the third coordinates go from -1 to 1
simplex_side : IsBoxSide simplex.vertices 3 (pos 3)
simplex_side = record {
  low = m1;
  high = e;
  least = at_vertices (λ w. m1 ≤ℤ coordinate 3 w) (omega (arith, ints)) (omega (arith, ints)) (omega (arith, ints)) (omega (arith, ints)) (omega (arith, ints));
  greatest = at_vertices (λ w. coordinate 3 w ≤ℤ e) (omega (arith, ints)) (omega (arith, ints)) (omega (arith, ints)) (omega (arith, ints)) (omega (arith, ints));
  lowest = (4, v m1 m1 m1 m1, omega arith, refl, refl);
  highest = (2, v o o e o, omega arith, refl, refl);
  side_is = refl;
}

-- ---- the two-faces of the simplex: the points on both facets

face_0 : points_on_both simplex simplex_points 1 2 ≡ 2 ∷ 3 ∷ 4 ∷ []
face_0 = refl

face_1 : points_on_both simplex simplex_points 1 3 ≡ 2 ∷ 3 ∷ 5 ∷ []
face_1 = refl

face_2 : points_on_both simplex simplex_points 1 4 ≡ 2 ∷ 4 ∷ 5 ∷ []
face_2 = refl

face_3 : points_on_both simplex simplex_points 1 5 ≡ 3 ∷ 4 ∷ 5 ∷ []
face_3 = refl

face_4 : points_on_both simplex simplex_points 2 3 ≡ 1 ∷ 2 ∷ 3 ∷ []
face_4 = refl

face_5 : points_on_both simplex simplex_points 2 4 ≡ 1 ∷ 2 ∷ 4 ∷ []
face_5 = refl

face_6 : points_on_both simplex simplex_points 2 5 ≡ 1 ∷ 3 ∷ 4 ∷ []
face_6 = refl

face_7 : points_on_both simplex simplex_points 3 4 ≡ 1 ∷ 2 ∷ 5 ∷ []
face_7 = refl

face_8 : points_on_both simplex simplex_points 3 5 ≡ 1 ∷ 3 ∷ 5 ∷ []
face_8 = refl

face_9 : points_on_both simplex simplex_points 4 5 ≡ 1 ∷ 4 ∷ 5 ∷ []
face_9 = refl

-- the facets 1 and 2 meet in the triangle of the last three unit vectors
meet_1_2 : MeetInTwoFace simplex 1 2
meet_1_2 = record {
  ordered = (omega arith, omega arith, omega arith);
  a = v o e o o;
  b = v o o e o;
  c = v o o o e;
  vertices = ((1, omega arith, refl), (2, omega arith, refl), (3, omega arith, refl));
  first = (refl, refl, refl);
  second = (refl, refl, refl);
  span = ((2, 3), omega arith, omega arith, omega arith, (λ q. let r : pos 1 ≡ pos 0 = q in cc));
}

-- two opposite facets have no vertex in common, whatever the vertices are
opposite_facets : (vs : List Vector) → ¬ (MeetInTwoFace (record { vertices = vs; dual = v m1 m1 m1 m1 ∷ v e e e e ∷ [] }) 1 2)
opposite_facets vs w = no w.a.x1 w.a.x2 w.a.x3 w.a.x4 w.first.0 w.second.0
  where
    no : (p q r s : ℤ) → m1 *ℤ p +ℤ m1 *ℤ q +ℤ m1 *ℤ r +ℤ m1 *ℤ s ≡ m1 → e *ℤ p +ℤ e *ℤ q +ℤ e *ℤ r +ℤ e *ℤ s ≡ m1 → ⊥
    no p q r s g h = absurd (omega (arith, ints, g, h))

-- the patch of face 0; its points 2, 3, 4 differ in the first coordinates (2, 3)
face_0_axes : axes (patch_of simplex_points (record { first = 1; second = 2; points = 2 ∷ 3 ∷ 4 ∷ [] })) ≡ (2, 3)
unfolding axes
face_0_axes = refl

face_0_turn : turn (patch_of simplex_points (record { first = 1; second = 2; points = 2 ∷ 3 ∷ 4 ∷ [] })) 2 4 3 ≡ pos 1
unfolding axes
face_0_turn = refl

-- a square in the last two coordinates: the first five pairs have no area
last_axes : axes (record { number = 1; place = v e o m1 m1 } ∷ record { number = 2; place = v e o m1 o } ∷ record { number = 3; place = v e o o m1 } ∷ record { number = 4; place = v e o o o } ∷ []) ≡ (3, 4)
unfolding axes
last_axes = refl

-- three points at the origin, b and c
abbrev corner : Vector → Vector → Patch
corner b c = record { number = 1; place = origin } ∷ record { number = 2; place = b } ∷ record { number = 3; place = c } ∷ []

axes_1_3 : axes (corner (v e o o o) (v o o e e)) ≡ (1, 3)
unfolding axes
axes_1_3 = refl

axes_1_4 : axes (corner (v e o o o) (v o o o e)) ≡ (1, 4)
unfolding axes
axes_1_4 = refl

axes_2_3 : axes (corner (v o e o o) (v o o e e)) ≡ (2, 3)
unfolding axes
axes_2_3 = refl

axes_2_4 : axes (corner (v o e o o) (v o o o e)) ≡ (2, 4)
unfolding axes
axes_2_4 = refl

-- the square with the points 4, 5, 6, 7
abbrev square : Patch
square =
    record { number = 4; place = v o e o o } ∷ record { number = 5; place = v o e e o }
    ∷ record { number = 6; place = v e o o o } ∷ record { number = 7; place = v e o e o } ∷ []

square_axes : axes square ≡ (1, 3)
unfolding axes
square_axes = refl

square_turn : turn square 4 6 5 ≡ pos 1
unfolding axes
square_turn = refl

square_item_0 : Closes ((4, 6) ∷ (5, 4) ∷ (6, 7) ∷ (7, 5) ∷ []) (5 ∷ 7 ∷ []) (written 4 6 5 ∷ written 5 6 7 ∷ [])
square_item_0 = (refl, (refl, tt))

square_item_1 : Closes ((4, 6) ∷ (5, 4) ∷ (6, 7) ∷ (7, 5) ∷ []) (7 ∷ 5 ∷ []) (written 4 6 7 ∷ written 4 7 5 ∷ [])
square_item_1 = (refl, (refl, tt))

-- three folds that cancel
abbrev fold_of : ℕ → ℕ → ℕ → ℕ → Fold
fold_of a b c d = record { a = a; b = b; c = c; d = d; alpha = e; beta = e }

abbrev terms : List Term
terms =
    record { part = 0; fold = fold_of 11 14 10 15; times = e } ∷ record { part = 1; fold = fold_of 10 12 8 14; times = e }
    ∷ record { part = 2; fold = fold_of 8 15 11 12; times = e } ∷ []

-- of all 15 points
cancel : map (total_coefficient terms) (range_with_len 1 15) ≡ replicate 15 o
cancel = refl

-- the terms of the first two alone don't cancel
cancel_not : total_coefficient (take 2 terms) 12 ≡ m1
cancel_not = refl

abbrev nogood : Nogood
nogood = record { parts = record { face = 2; item = 0 } ∷ record { face = 3; item = 0 } ∷ record { face = 4; item = 1 } ∷ []; terms = terms }

blocked : IsBlockedBy (0 ∷ 7 ∷ 0 ∷ 0 ∷ 1 ∷ []) nogood
blocked zero d h = (omega arith, refl)
blocked (suc zero) d h = (omega arith, refl)
blocked (suc (suc zero)) d h = (omega arith, refl)
blocked (suc (suc (suc k))) d h = absurd (omega arith)

-- a key that differs in one part is not blocked, and neither is one that is too short
not_blocked : ¬ (IsBlockedBy (0 ∷ 7 ∷ 0 ∷ 0 ∷ 0 ∷ []) nogood)
not_blocked b = differ ((b 2 no_part (omega arith)).1)
  where
    differ : ◌≡◌ {A = ℕ} 0 1 → ⊥
    differ h = cc

not_blocked_short : ¬ (IsBlockedBy (0 ∷ 7 ∷ 0 ∷ 0 ∷ []) nogood)
not_blocked_short b = let h : 4 < 4 = (b 2 no_part (omega arith)).0 in absurd (omega arith)

-- ---- keys

-- 0 5 7 stands for the choices that begin with 0 5 and go on with at least 7
key_stem : stem (0 ∷ 5 ∷ 7 ∷ []) ≡ 0 ∷ 5 ∷ []
key_stem = refl

key_last : last_number (0 ∷ 5 ∷ 7 ∷ []) ≡ 7
key_last = refl

stem_of_one : stem (7 ∷ []) ≡ []
stem_of_one = refl

last_of_one : last_number (7 ∷ []) ≡ 7
last_of_one = refl

begins : BeginsWith (0 ∷ 5 ∷ []) (0 ∷ 5 ∷ 9 ∷ 1 ∷ [])
begins = refl

-- a list is below what it begins
prefix_below_again : IsBelow (0 ∷ 5 ∷ []) (0 ∷ 5 ∷ 0 ∷ [])
prefix_below_again = refl

-- so a key that the start begins with is not after it, and the next key is
after_start : IsAfter (Some (0 ∷ 5 ∷ 2 ∷ [])) (0 ∷ 6 ∷ [])
after_start = refl

not_after_start : ¬ (IsAfter (Some (0 ∷ 5 ∷ 2 ∷ [])) (0 ∷ 5 ∷ []))
not_after_start e = cc

-- the first key is live for no start at every width
pub first_live : (g : Shape) (width : ℕ) → IsLive g None width (0 ∷ [])
first_live g width = record { after = tt; open_stems = λ k low high h. absurd (omega arith) }

-- so is each first key above the start
next_live : (g : Shape) (width : ℕ) → IsLive g (Some (0 ∷ 5 ∷ 2 ∷ [])) width (0 ∷ 6 ∷ [])
next_live g width = record { after = refl; open_stems = open_stems }
  where
    open_stems : (k : ℕ) → 0 < k → k < 2 → IsNoPrefixOf (Some (0 ∷ 5 ∷ 2 ∷ [])) (take k (0 ∷ 6 ∷ []))
        → AllItemsExist g (take k (0 ∷ 6 ∷ [])) × ¬ (IsRefutedAt g width (take k (0 ∷ 6 ∷ [])))
    open_stems zero low high h = absurd (omega arith)
    open_stems (suc zero) low high h = absurd (h refl)
    open_stems (suc (suc k)) low high h = absurd (omega arith)

-- ---- run text

simplex_head : head_text simplex (record { push = Up; stars = false }) ≡ codes "ntfe 1\nvertices 5\n1 0 0 0\n0 1 0 0\n0 0 1 0\n0 0 0 1\n-1 -1 -1 -1\ndual 5\n-1 -1 -1 -1\n4 -1 -1 -1\n-1 4 -1 -1\n-1 -1 4 -1\n-1 -1 -1 4\npush up\n"
unfolding digits
simplex_head = refl

class_line : number_line (codes "class") (0 ∷ 0 ∷ 12 ∷ []) ≡ codes "class 0 0 12\n"
unfolding digits
class_line = refl

heights_line : signed_line (codes "heights") (o ∷ m1 ∷ pos 18 ∷ []) ≡ codes "heights 0 -1 18\n"
unfolding digits
heights_line = refl

star_text : star_lines (Some ((1 ∷ 2 ∷ 4 ∷ 5 ∷ []) ∷ (3 ∷ 5 ∷ 6 ∷ 17 ∷ []) ∷ [])) ≡ codes "star 2\nsimplex 1 2 4 5\nsimplex 3 5 6 17\n"
unfolding digits
star_text = refl

abbrev form : Form
form = record { push = Up; stars = false }

-- two blocks that are due
abbrev due : List Block
due =
    record { choice = 0 ∷ 3 ∷ []; heights = o ∷ m1 ∷ []; star = None }
    ∷ record { choice = 1 ∷ 0 ∷ []; heights = e ∷ o ∷ []; star = None } ∷ []

-- the head and two blocks are kept
abbrev kept : Kept
kept = record { bytes = 300; blocks = 2; last = Some (0 ∷ 2 ∷ []) }

no_limit_text : IsTextOf simplex form kept None due (codes "class 0 3\nheights 0 -1\nclass 1 0\nheights 1 0\nend 4\n")
unfolding digits
no_limit_text = refl

-- four classes are under the limit 5 only
limit_5_text : IsTextOf simplex form kept (Some 5) due (codes "class 0 3\nheights 0 -1\nclass 1 0\nheights 1 0\nend 4\n")
unfolding digits
limit_5_text = inl (omega arith, refl)

limit_4_text : IsTextOf simplex form kept (Some 4) due (codes "class 0 3\nheights 0 -1\nclass 1 0\nheights 1 0\nlimit 4\n")
unfolding digits
limit_4_text = inr (omega arith, refl)

limit_3_text : IsTextOf simplex form kept (Some 3) due (codes "class 0 3\nheights 0 -1\nlimit 3\n")
unfolding digits
limit_3_text = inr (omega arith, refl)

-- more is kept than the limit asks for
limit_1_text : IsTextOf simplex form kept (Some 1) due (codes "limit 2\n")
unfolding digits
limit_1_text = inr (omega arith, refl)

-- nothing is kept, and nothing is asked for
limit_0_text : IsTextOf simplex form nothing_kept (Some 0) due (head_text simplex form ++ codes "limit 0\n")
unfolding digits
limit_0_text = inr (omega arith, refl)

-- ---- an earlier output, of a form with two points and two two-faces

abbrev layout : Layout
layout = record { pair = simplex; form = form; points = 2; faces = 2; items = 1_048_576 }

abbrev head_bytes : List ℕ
head_bytes = codes "ntfe 1\nvertices 5\n1 0 0 0\n0 1 0 0\n0 0 1 0\n0 0 0 1\n-1 -1 -1 -1\ndual 5\n-1 -1 -1 -1\n4 -1 -1 -1\n-1 4 -1 -1\n-1 -1 4 -1\n-1 -1 -1 4\npush up\n"

head_lines_count : length (head_lines layout) ≡ 14
unfolding digits
head_lines_count = refl

head_size : length head_bytes ≡ 133
head_size = refl

-- a whole head and no block: all of it is kept
kept_head : IsKeptOf layout (head_bytes ++ codes "class 0") (record { bytes = 133; blocks = 0; last = None })
unfolding digits
kept_head = inr ([], _, refl, refl, refl)

-- a head that is not whole: nothing is kept
kept_nothing : IsKeptOf layout (codes "ntfe 1\nvertices 5\n1 0") nothing_kept
unfolding digits
kept_nothing = inl (_, arith_missing, refl, refl)
  where
    arith_missing : 0 < 12
    arith_missing = omega arith

-- one whole block, a last line that isn't kept
kept_block : IsKeptOf layout (head_bytes ++ codes "class 0 7\nheights 0 -3\nend 1\n") (record { bytes = 156; blocks = 1; last = Some (0 ∷ 7 ∷ []) })
unfolding digits
kept_block = inr (codes "class 0 7" ∷ codes "heights 0 -3" ∷ codes "end 1" ∷ [], _, refl, (_, class_allowed, (_, heights_allowed, (_, end_allowed, refl))), refl)
  where
    items : All (λ n. n < 1_048_576) (0 ∷ 7 ∷ [])
    items zero d h = omega arith
    items (suc zero) d h = omega arith
    items (suc (suc k)) d h = absurd (omega arith)

    sizes : All (λ z. unsigned_abs z < 2 ^ 62) (o ∷ negsuc 2 ∷ [])
    sizes zero d h = omega arith
    sizes (suc zero) d h = omega arith
    sizes (suc (suc k)) d h = absurd (omega arith)

    class_allowed : IsAllowed layout (after_head layout) class_or_end (codes "class 0 7") (record { place = heights_of (0 ∷ 7 ∷ []); read = 143; kept = record { bytes = 133; blocks = 0; last = None } })
    class_allowed = inl (0 ∷ 7 ∷ [], record { is = refl; faces = refl; items = items; above = tt }, refl)

    heights_allowed : IsAllowed layout (record { place = heights_of (0 ∷ 7 ∷ []); read = 143; kept = record { bytes = 133; blocks = 0; last = None } }) (heights_of (0 ∷ 7 ∷ [])) (codes "heights 0 -3")
        (record { place = class_or_end; read = 156; kept = record { bytes = 156; blocks = 1; last = Some (0 ∷ 7 ∷ []) } })
    heights_allowed = (record { heights = o ∷ negsuc 2 ∷ []; is = refl; points = refl; sizes = sizes }, refl)

    end_allowed : IsAllowed layout (record { place = class_or_end; read = 156; kept = record { bytes = 156; blocks = 1; last = Some (0 ∷ 7 ∷ []) } }) class_or_end (codes "end 1")
        (record { place = nothing; read = 162; kept = record { bytes = 156; blocks = 1; last = Some (0 ∷ 7 ∷ []) } })
    end_allowed = inr (inl refl, refl)

-- a head of version 2 differs in its first line
head_fault : IsHeadFault layout (codes "ntfe 2\n") 1
unfolding digits
head_fault = (0, record { holds = (_, _, refl, refl, λ q. differ (ap (λ xs. slice_index_or xs 5 0) q)); least = λ a h. absurd (omega arith) }, refl)
  where
    differ : ◌≡◌ {A = ℕ} 50 49 → ⊥
    differ h = omega arith

-- nothing may stand behind the last line
body_fault : IsBodyFault layout (head_bytes ++ codes "end 0\n\n") 16
unfolding digits
body_fault =
    record {
      good = codes "end 0" ∷ [];
      line = [];
      rest = [];
      at = record { place = nothing; read = 139; kept = record { bytes = 133; blocks = 0; last = None } };
      lines = refl;
      reads = (_, inr (inl refl, refl), refl);
      refused = λ t h. h;
      number_is = refl;
    }
