-- A new board is sound.
use Rattle.std.proofs.Common.{◌≡◌, ◌∙◌, refl, sym, ap, subst, ◌⊎◌, ⊎_elim, ℕ, suc, ◌+◌, ◌-◌, ◌<◌, ◌≤◌, List, [], ◌∷◌, ◌++◌, length, take, drop, get_or, map, Option, Some, None, Bool, true, false, cond, arith}
use Rattle.std.specs.Prelude.{All, AllPairs, Contains, slice_index, nat_eq}
use Rattle.std.specs.List.{range_with_len}
use Rattle.std.specs.Ordering.{nat_cmp, ordering_then}
use Rattle.std.specs.declared.cmp.Ordering.{Ordering}
use Rattle.std.specs.declared.cmp.Ordering.TheVariants.{Less, Equal, Greater}
use Rattle.std.specs.Cmp.{ranked}
use Rattle.std.specs.Cmp.Lexicographic.{slice_cmp}
use Rattle.std.proofs.lemmas.List.{take-append-le, take-take, get_or-take, get_or_append_left, length-take-le}
use Rattle.std.proofs.lemmas.List.Elements.{All-contains}
use Rattle.std.proofs.lemmas.Bool.Decides.{nat_tests}
use Rattle.ntfe_model.proofs.Lists.{Contains-map, Contains-from_map}
use Rattle.ntfe_model.specs.Lists.{IsBelow}
use Rattle.ntfe_model.specs.declared.face.Face.{Face}
use Rattle.ntfe_model.specs.declared.nogood.Nogood.{Nogood}
use Rattle.choice_board.specs.declared.record.Record.{Record}
use Rattle.choice_board.specs.Views.{state_of}
use Rattle.ntfe_model.specs.Shapes.{Shape, IsShape}
use Rattle.ntfe_model.specs.Choices.{IsChoice}
use Rattle.ntfe_model.specs.Keys.{IsKey, IsAfter, IsStart, stem, last_number, item_limit}
use Rattle.ntfe_model.proofs.Listings.{Contains-here, Contains-cases, Contains-none, All-from_contains, listing_range}
use Rattle.choice_board.specs.Places.{cone, IsIn}
use Rattle.choice_board.specs.States.{waits, told, blocks, ends, IsSound}
use Rattle.choice_board.specs.Starts.{key_past, start_keys, new_board}
use Rattle.choice_board.proofs.KeyOrder.{below_at}
use Rattle.choice_board.proofs.PlaceLemmas.{length_snoc, stem_snoc, last_snoc}
use Rattle.choice_board.proofs.RowLemmas.{cut_at, pairs_map}
use Rattle.choice_board.proofs.Holders.{HoldsOnce}

-- ---- two lists of one length differ first at some place

pub first_difference : (a c : List ℕ) → length a ≡ length c → IsBelow a c → (k : ℕ) × (k < length a) × (take k a ≡ take k c) × (slice_index a k < slice_index c k)
first_difference [] [] e h = cc
first_difference [] (y ∷ ys) e h = absurd (omega arith)
first_difference (x ∷ xs) [] e h = absurd (omega arith)
first_difference (x ∷ xs) (y ∷ ys) e h = by (nat_cmp x y) refl (λ h'. first_difference xs ys (omega arith) h') h
  where
    by : (r : Ordering) → r ≡ nat_cmp x y
        → (IsBelow xs ys → (k : ℕ) × (k < length xs) × (take k xs ≡ take k ys) × (slice_index xs k < slice_index ys k))
        → ordering_then r (slice_cmp nat_cmp xs ys) ≡ Less
        → (k : ℕ) × (k < suc (length xs)) × (take k (x ∷ xs) ≡ take k (y ∷ ys)) × (slice_index (x ∷ xs) k < slice_index (y ∷ ys) k)
    by Less q rest f = (0, omega arith, refl, ranked x y Less q)
    by Equal q rest f =
        let r = rest f in
        let p : x ≡ y = ranked x y Equal q in
        let t = r.2 in
        (suc r.0, (let l = r.1 in omega arith), (λ i. p i ∷ t i), r.3)
    by Greater q rest f = cc

-- ---- the keys past a start

past_length : (a : List ℕ) (k : ℕ) → k < length a → length (key_past a k) ≡ k + 1
past_length a k l = let e = length_snoc (take k a) (slice_index a k + 1) in let t = length-take-le k a (omega arith) in omega arith

past_stem : (a : List ℕ) (k : ℕ) → stem (key_past a k) ≡ take k a
past_stem a k = stem_snoc (take k a) (slice_index a k + 1)

past_last : (a : List ℕ) (k : ℕ) → last_number (key_past a k) ≡ slice_index a k + 1
past_last a k = last_snoc (take k a) (slice_index a k + 1)

past_is_key : (g : Shape) (a : List ℕ) (k : ℕ) → length a ≡ length g.faces → All (λ n. n < item_limit g) a → k < length a → IsKey g (key_past a k)
past_is_key g a k long small l =
    let n = past_length a k l in
    let e = past_last a k in
    let low : slice_index a k < item_limit g = small k 0 l in
    record {
      some = omega arith;
      at_most = omega arith;
      last = omega arith;
      others = subst (All (λ n. n < item_limit g)) (sym (past_stem a k))
          (λ i d m. (let t = length-take-le k a (omega arith) in
          let P : ℕ → Type 0 = λ x. x < item_limit g in
          let early : i < k = omega arith in
          subst P (sym (get_or-take k a i d early)) (small i d (omega arith))));
    }

start_below : (a : List ℕ) (k : ℕ) → k < length a → IsBelow a (key_past a k)
start_below a k l =
    let P : List ℕ → Type 0 = λ xs. IsBelow xs (key_past a k) in
    subst P (cut_at a k 0 l) (below_at (take k a) (slice_index a k) (slice_index a k + 1) (drop (suc k) a) [] (omega arith))

-- a later key begins with more of the start, and so is lesser
past_falls : (a : List ℕ) (i j : ℕ) → i < j → j < length a → IsBelow (key_past a j) (key_past a i)
past_falls a i j less within =
    let z = key_past a j in
    let t = length-take-le j a (omega arith) in
    let n = past_length a j within in
    let heads : take i z ≡ take i a = take-append-le i (take j a) _ (omega arith) ∙ take-take i j a (omega arith) in
    let same : slice_index z i ≡ slice_index a i = get_or_append_left (take j a) _ 0 i (omega arith) ∙ get_or-take j a i 0 less in
    let P : List ℕ → Type 0 = λ xs. IsBelow xs (key_past a i) in
    let inside : i < length z = omega arith in
    subst P (ap (λ xs. xs ++ slice_index z i ∷ drop (suc i) z) (sym heads) ∙ cut_at z i 0 inside)
    (below_at (take i a) (slice_index z i) (slice_index a i + 1) (drop (suc i) z) [] (omega arith))

past_held : (a c : List ℕ) → length a ≡ length c → IsBelow a c → (k : ℕ) × (k < length a) × IsIn (length a) (cone (key_past a k)) c
past_held a c long below =
    let d = first_difference a c long below in
    let k = d.0 in
    let n = past_length a k d.1 in
    let e = past_last a k in
    let at : length (key_past a k) - 1 ≡ k = omega arith in
    let up : slice_index a k < slice_index c k = d.3 in
    let same : slice_index c (length (key_past a k) - 1) ≡ slice_index c k = ap (λ i. slice_index c i) at in
    (k, d.1, (sym long, ap (λ i. take i c) at ∙ sym d.2 ∙ sym (past_stem a k), omega arith))

past_apart : (a c : List ℕ) (i j : ℕ) → i < j → j < length a → IsIn (length a) (cone (key_past a i)) c → IsIn (length a) (cone (key_past a j)) c → ⊥
past_apart a c i j less within p q =
    let m = past_length a i (omega arith) in
    let n = past_length a j within in
    let e = past_last a i in
    let at_i : length (key_past a i) - 1 ≡ i = omega arith in
    let at_j : length (key_past a j) - 1 ≡ j = omega arith in
    let up : last_number (key_past a i) ≤ slice_index c (length (key_past a i) - 1) = p.2 in
    let here : slice_index c (length (key_past a i) - 1) ≡ slice_index c i = ap (λ k. slice_index c k) at_i in
    let heads : take j c ≡ take j a = sym (ap (λ k. take k c) at_j) ∙ q.1 ∙ past_stem a j in
    let same : slice_index c i ≡ slice_index a i = sym (get_or-take j c i 0 less) ∙ ap (λ xs. slice_index xs i) heads ∙ get_or-take j a i 0 less in
    omega arith

-- ---- a board with open keys alone

-- what is to be shown of the open keys of a new board
record AreStartKeys (g : Shape) (after : Option (List ℕ)) (keys : List (List ℕ)) : Type 0 where
  all : All (IsKey g) keys
  falling : AllPairs (λ j k. IsBelow k j) keys
  above : All (IsAfter after) keys
  held : 0 < length g.faces → (c : List ℕ) → IsChoice g c → IsAfter after c → (key : List ℕ) × Contains keys key × IsIn (length g.faces) (cone key) c
  apart : (j k c : List ℕ) → Contains keys j → Contains keys k → IsIn (length g.faces) (cone j) c → IsIn (length g.faces) (cone k) c → j ≡ k

board_of_keys : (g : Shape) (after : Option (List ℕ)) → IsShape g → AreStartKeys g after (start_keys (length g.faces) after) → IsSound (new_board g after)
board_of_keys g after shape k = record {
  shape = shape;
  keys = k.all;
  falling = k.falling;
  above = k.above;
  record_keys = λ i d l. absurd (omega arith);
  records = λ i d l. absurd (omega arith);
  records_falling = λ i j d l m. absurd (omega arith);
  records_above = λ i d l. absurd (omega arith);
  blocked = λ i d l. absurd (omega arith);
  once = λ i j d l m. absurd (omega arith);
  held = λ some c choice above. (let r = k.held some c choice above in (waits r.0, r.1, r.2));
  apart = once;
}
  where
    once : HoldsOnce g (new_board g after)
    once (waits j) (waits i) c p q a b = ap waits (k.apart j i c p q a b)
    once (waits j) (told r) c p q a b = Contains-none r q
    once (waits j) (blocks x) c p q a b = Contains-none x q
    once (waits j) (ends x) c p q a b = cc
    once (told r) i c p q a b = Contains-none r p
    once (blocks x) i c p q a b = Contains-none x p
    once (ends x) i c p q a b = cc

-- where there is no start, the key 0 has all choices
no_start_keys : (g : Shape) (b : Bool) → nat_eq (length g.faces) 0 ≡ b → AreStartKeys g None (cond b [] ((0 ∷ []) ∷ []))
no_start_keys g true e = record {
  all = λ i d l. absurd (omega arith);
  falling = λ i j d l m. absurd (omega arith);
  above = λ i d l. absurd (omega arith);
  held = λ some. absurd (grind (arith, nat_tests));
  apart = λ j k c p. Contains-none j p;
}
no_start_keys g false e = record {
  all = All-from_contains (IsKey g) ((0 ∷ []) ∷ []) (λ k p. subst (IsKey g) (sym (only k p)) zero_is_key);
  falling = λ i j d l m. absurd (omega arith);
  above = λ i d l. tt;
  held = λ some c choice above. (0 ∷ [], Contains-here (0 ∷ []) (0 ∷ []) [] refl, (choice.faces, refl, omega arith));
  apart = λ j k c p q a b. only j p ∙ sym (only k q);
}
  where
    only : (k : List ℕ) → Contains ((0 ∷ []) ∷ []) k → k ≡ 0 ∷ []
    only k p = ⊎_elim (λ r. r) (λ q. Contains-none k q) (Contains-cases k (0 ∷ []) [] p)

    some_faces : 1 ≤ length g.faces
    some_faces = grind (arith, nat_tests)

    zero_is_key : IsKey g (0 ∷ [])
    zero_is_key = record { some = omega arith; at_most = some_faces; last = omega arith; others = λ i d l. absurd (omega arith) }

past_start_keys : (g : Shape) (a : List ℕ) → IsStart g (Some a) → AreStartKeys g (Some a) (map (key_past a) (range_with_len 0 (length a)))
past_start_keys g a start = record {
  all = All-from_contains (IsKey g) keys (λ k p. (let r = place k p in subst (IsKey g) (sym r.2) (past_is_key g a r.0 start.0 start.1 r.1)));
  falling = pairs_map (λ j k. IsBelow k j) (key_past a) (range_with_len 0 (length a)) (λ i j d l m. past_falls a _ _ ((listing_range 0 (length a)).ordered i j d l m) (within j d m));
  above = All-from_contains (IsAfter (Some a)) keys (λ k p. (let r = place k p in subst (IsAfter (Some a)) (sym r.2) (start_below a r.0 r.1)));
  held = λ some c choice above. (
      let r = past_held a c (start.0 ∙ sym choice.faces) above in
      let P : ℕ → Type 0 = λ n. IsIn n (cone (key_past a r.0)) c in
      (key_past a r.0, Contains-map (key_past a) (range_with_len 0 (length a)) r.0 ((listing_range 0 (length a)).complete r.0 (omega arith, (let l = r.1 in omega arith))), subst P start.0 r.2));
  apart = λ j k c p q x y. (let r = place j p in let s = place k q in same j k c r s x y);
}
  where
    keys : List (List ℕ)
    keys = map (key_past a) (range_with_len 0 (length a))

    within : (i d : ℕ) → i < length (range_with_len 0 (length a)) → get_or (range_with_len 0 (length a)) i d < length a
    within i d l = let r = (listing_range 0 (length a)).sound i d l in omega arith

    place : (k : List ℕ) → Contains (map (key_past a) (range_with_len 0 (length a))) k → (i : ℕ) × (i < length a) × (k ≡ key_past a i)
    place k p =
        let r = Contains-from_map (key_past a) (range_with_len 0 (length a)) k p in
        let s : (0 ≤ r.0) × (r.0 < 0 + length a) = All-contains (λ i. (0 ≤ i) × (i < 0 + length a)) (range_with_len 0 (length a)) r.0 (listing_range 0 (length a)).sound r.1 in
        (r.0, (let l = s.1 in omega arith), r.2)

    same : (j k c : List ℕ) → (i : ℕ) × (i < length a) × (j ≡ key_past a i) → (i : ℕ) × (i < length a) × (k ≡ key_past a i)
        → IsIn (length g.faces) (cone j) c → IsIn (length g.faces) (cone k) c → j ≡ k
    same j k c (m, lm, em) (n, ln, en) x y =
        ⊎_elim (λ l. absurd (past_apart a c m n l ln (at m j em x) (at n k en y)))
        (⊎_elim (λ e. em ∙ ap (key_past a) e ∙ sym en) (λ l. absurd (past_apart a c n m l lm (at n k en y) (at m j em x))))
        (let d : (m < n) ⊎ ((m ≡ n) ⊎ (n < m)) = grind arith in d)
      where
        at : (i : ℕ) (key : List ℕ) → key ≡ key_past a i → IsIn (length g.faces) (cone key) c → IsIn (length a) (cone (key_past a i)) c
        at i key e p =
            let P : List ℕ → Type 0 = λ xs. IsIn (length g.faces) (cone xs) c in
            let Q : ℕ → Type 0 = λ count. IsIn count (cone (key_past a i)) c in
            subst Q (sym start.0) (subst P e p)

pub new_board_sound : (g : Shape) (after : Option (List ℕ)) → IsShape g → IsStart g after → IsSound (new_board g after)
new_board_sound g None shape start = board_of_keys g None shape (no_start_keys g (nat_eq (length g.faces) 0) refl)
new_board_sound g (Some a) shape start = board_of_keys g (Some a) shape (past_start_keys g a start)

-- the parts of a new board, as code puts them together
pub new_parts_sound : (g : Shape) (after : Option (List ℕ)) (faces : List Face) (keys : List (List ℕ)) (recorded : List Record) (pruned : List (List ℕ × Nogood))
    → IsShape g → IsStart g after → faces ≡ g.faces → keys ≡ start_keys (length faces) after → recorded ≡ [] → pruned ≡ []
    → IsSound (state_of g after keys recorded pruned None false (record { settled = 0; stale = 0; classes = 0; pruned = 0; written = 0 }))
new_parts_sound g after faces keys recorded pruned shape start e k r p =
    let f : keys ≡ start_keys (length g.faces) after = k ∙ ap (λ xs. start_keys (length xs) after) e in
    let a = sym f in
    let b = sym r in
    let d = sym p in
    subst IsSound (λ i. state_of g after (a i) (b i) (d i) None false (record { settled = 0; stale = 0; classes = 0; pruned = 0; written = 0 })) (new_board_sound g after shape start)
