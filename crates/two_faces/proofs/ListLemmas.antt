-- One part of the pairs of facets after the other: what they add together.
use Rattle.std.proofs.Common.{◌≡◌, ℕ, ◌+◌, ◌-◌, ◌<◌, ◌≤◌, ◌⊎◌, inl, inr, ⊎_elim, filter, get_or, refl, sym, ap, ◌∙◌, subst, arith, List, [], ◌∷◌, ◌++◌, length, append_assoc}
use Rattle.std.specs.Prelude.{All, Any, ◌&&◌}
use Rattle.std.specs.List.{range_with_len}
use Rattle.std.proofs.lemmas.List.{append-nil, get_or_read}
use Rattle.std.proofs.lemmas.List.Elements.{All-cons, All-nil}
use Rattle.ntfe_nums.specs.Vectors.{Vector, origin}
use Rattle.ntfe_model.specs.Lists.{IsBefore2}
use Rattle.ntfe_model.specs.Pairs.{VertexLists, entry}
use Rattle.ntfe_model.specs.Points.{IsFaceOf, AreFaces, MeetInTwoFace, points_on_both, place_of_point, no_point, is_tight}
use Rattle.ntfe_model.specs.declared.face.Face.{Face}
use Rattle.ntfe_model.specs.declared.point.Point.{Point}
use Rattle.ntfe_model.proofs.Listings.{Contains-here}
use Rattle.ntfe_model.proofs.Listings.{listing_nil, listing_append, listing_same}
use Rattle.two_faces.specs.Meets.{IsFirst}
use Rattle.two_faces.proofs.MeetLemmas.{meet_from, first_from, none_from}
use Rattle.two_faces.specs.Added.{IsFaceWith, AddsFaces}

abbrev before : Face → Face → Type 0
before f g = IsBefore2 f.first f.second g.first g.second

module _ (p : VertexLists) (xs : List Point) where
  pub faces_none : (S : ℕ → ℕ → Type 0) (fs : List Face) → ((f : Face) → IsFaceOf p xs f → S f.first f.second → ⊥) → AddsFaces p xs S fs fs
  faces_none S fs none = record {
    added = [];
    listing = listing_nil before (IsFaceWith p xs S) (λ f h. none f h.face h.numbers);
    items = sym (append-nil fs);
  }

  pub faces_more : (S T R : ℕ → ℕ → Type 0) (old mid new : List Face) → ((a b i j : ℕ) → S a b → T i j → IsBefore2 a b i j)
      → ((a b : ℕ) → S a b → R a b) → ((a b : ℕ) → T a b → R a b) → ((a b : ℕ) → R a b → S a b ⊎ T a b)
      → AddsFaces p xs S old mid → AddsFaces p xs T mid new → AddsFaces p xs R old new
  faces_more S T R old mid new apart f g split a b = record {
    added = a.added ++ b.added;
    listing = listing_append before (IsFaceWith p xs S) (IsFaceWith p xs T) (IsFaceWith p xs R) a.added b.added a.listing b.listing
        (λ x y h k. apart x.first x.second y.first y.second h.numbers k.numbers)
        (λ x h. record { face = h.face; numbers = f x.first x.second h.numbers })
        (λ x h. record { face = h.face; numbers = g x.first x.second h.numbers })
        (λ x h. pick x h.face (split x.first x.second h.numbers));
    items = b.items ∙ ap (λ fs. fs ++ b.added) a.items ∙ append_assoc old a.added b.added;
  }
    where
      pick : (x : Face) → IsFaceOf p xs x → S x.first x.second ⊎ T x.first x.second → IsFaceWith p xs S x ⊎ IsFaceWith p xs T x
      pick x h (inl s) = inl (record { face = h; numbers = s })
      pick x h (inr t) = inr (record { face = h; numbers = t })

  pub faces_same : (S T : ℕ → ℕ → Type 0) (old new : List Face) → ((f : Face) → IsFaceOf p xs f → S f.first f.second → T f.first f.second) → ((f : Face) → IsFaceOf p xs f → T f.first f.second → S f.first f.second)
      → AddsFaces p xs S old new → AddsFaces p xs T old new
  faces_same S T old new f g a = record {
    added = a.added;
    listing = listing_same before (IsFaceWith p xs S) (IsFaceWith p xs T) a.added a.listing
        (λ x h. record { face = h.face; numbers = f x h.face h.numbers }) (λ x h. record { face = h.face; numbers = g x h.face h.numbers });
    items = a.items;
  }

  -- one two-face
  pub faces_one : (i j : ℕ) (ks : List ℕ) (fs new : List Face) → MeetInTwoFace p i j → ks ≡ points_on_both p xs i j → new ≡ fs ++ (record { first = i; second = j; points = ks }) ∷ []
      → AddsFaces p xs (λ a b. (a ≡ i) × (b ≡ j)) fs new
  faces_one i j ks fs new m e q = record {
    added = (record { first = i; second = j; points = ks }) ∷ [];
    listing = record {
      ordered = λ a b d h k. absurd (omega arith);
      sound = All-cons (IsFaceWith p xs (λ a b. (a ≡ i) × (b ≡ j))) (record { first = i; second = j; points = ks }) []
          (record { face = record { meet = m; points = e }; numbers = (refl, refl) }) (All-nil (IsFaceWith p xs (λ a b. (a ≡ i) × (b ≡ j))));
      complete = λ f h.
          Contains-here f (record { first = i; second = j; points = ks }) []
          (λ t. record { first = h.numbers.0 t; second = h.numbers.1 t; points = (h.face.points ∙ (λ u. points_on_both p xs (h.numbers.0 u) (h.numbers.1 u)) ∙ sym e) t });
    };
    items = q;
  }

  -- all pairs
  pub faces_all : (fs new : List Face) → AddsFaces p xs (λ a b. Unit {0}) fs new → fs ≡ [] → AreFaces p xs new
  faces_all fs new a e =
      let q : a.added ≡ new = sym (a.items ∙ ap (λ gs. gs ++ a.added) e) in
      subst (λ (gs : List Face). AreFaces p xs gs) q
      (listing_same before (IsFaceWith p xs (λ a b. Unit {0})) (IsFaceOf p xs) a.added a.listing (λ x h. h.face) (λ x h. record { face = h; numbers = tt }))

-- ---- one pair of places

pub entry_next : (ms ns : List Vector) (i : ℕ) (m : Vector) → ns ≡ ms → i < length ns → m ≡ get_or ns i m → entry ms (i + 1) ≡ m
entry_next ms ns i m e l q =
    let k : i + 1 - 1 ≡ i = omega arith in
    ap (λ j. get_or ms j origin) k ∙ ap (λ us. get_or us i origin) (sym e) ∙ sym (get_or_read ns i m l q origin)

pub place_next : (xs : List Point) (i : ℕ) (x : Point) → i < length xs → x ≡ get_or xs i x → place_of_point xs (1 + i) ≡ x.place
place_next xs i x l q =
    let k : 1 + i - 1 ≡ i = omega arith in
    ap (λ y. y.place) (ap (λ j. get_or xs j no_point) k ∙ sym (get_or_read xs i x l q no_point))

module _ (p : VertexLists) (xs : List Point) (i j : ℕ) (m n : Vector) (vs : List Vector) (ev : vs ≡ p.vertices) (em : entry p.dual (i + 1) ≡ m) (en : entry p.dual (j + 1) ≡ n) (h : i < j) (k : j < length p.dual) where
  same_vertices : Any (IsFirst m n vs) vs ≡ Any (IsFirst (entry p.dual (i + 1)) (entry p.dual (j + 1)) p.vertices) p.vertices
  same_vertices = λ t. Any (IsFirst (sym em t) (sym en t) (ev t)) (ev t)

  meet_yes : Any (IsFirst m n vs) vs → MeetInTwoFace p (i + 1) (j + 1)
  meet_yes a = meet_from p (i + 1) (j + 1) (omega arith, omega arith, omega arith) (subst (λ (T : Type 0). T) same_vertices a)

  meet_no : All (λ a. ¬ (IsFirst m n vs a)) vs → MeetInTwoFace p (i + 1) (j + 1) → ⊥
  meet_no a b = none_from (IsFirst m n vs) vs a (subst (λ (T : Type 0). T) (sym same_vertices) (first_from p (i + 1) (j + 1) (omega arith, omega arith, omega arith) b))

  -- the facets at these places meet: their two-face is added
  pub pair_yes : (ks : List ℕ) (fs new : List Face) → Any (IsFirst m n vs) vs → ks ≡ filter (λ k. is_tight m (place_of_point xs k) && is_tight n (place_of_point xs k)) (range_with_len 1 (length xs))
      → new ≡ fs ++ (record { first = i + 1; second = j + 1; points = ks }) ∷ [] → AddsFaces p xs (λ a b. (a ≡ i + 1) × (b ≡ j + 1)) fs new
  pair_yes ks fs new a e q =
      faces_one p xs (i + 1) (j + 1) ks fs new (meet_yes a)
      (e ∙ (λ t. filter (λ k. is_tight (sym em t) (place_of_point xs k) && is_tight (sym en t) (place_of_point xs k)) (range_with_len 1 (length xs)))) q

  -- they do not: there is none
  pub pair_no : (fs : List Face) → All (λ a. ¬ (IsFirst m n vs a)) vs → AddsFaces p xs (λ a b. (a ≡ i + 1) × (b ≡ j + 1)) fs fs
  pair_no fs a = faces_none p xs (λ a b. (a ≡ i + 1) × (b ≡ j + 1)) fs (λ f g e. meet_no a (subst (λ (u : ℕ × ℕ). MeetInTwoFace p u.0 u.1) (λ t. (e.0 t, e.1 t)) g.meet))

  pub pair_step : (old mid new : List Face) → AddsFaces p xs (λ a b. (a ≡ i + 1) × (b ≤ j)) old mid → AddsFaces p xs (λ a b. (a ≡ i + 1) × (b ≡ j + 1)) mid new → AddsFaces p xs (λ a b. (a ≡ i + 1) × (b ≤ j + 1)) old new
  pair_step old mid new =
      faces_more p xs (λ a b. (a ≡ i + 1) × (b ≤ j)) (λ a b. (a ≡ i + 1) × (b ≡ j + 1)) (λ a b. (a ≡ i + 1) × (b ≤ j + 1)) old mid new
      (λ a b c d s t. inr (s.0 ∙ sym t.0, (let u = s.1 in let v = t.1 in omega arith)))
      (λ a b s. (s.0, (let u = s.1 in omega arith)))
      (λ a b t. (t.0, (let v = t.1 in omega arith)))
      (λ a b r. split a b r.0 r.1)
    where
      split : (a b : ℕ) → a ≡ i + 1 → b ≤ j + 1 → ((a ≡ i + 1) × (b ≤ j)) ⊎ ((a ≡ i + 1) × (b ≡ j + 1))
      split a b e l = ⊎_elim (λ q. inl (e, q)) (λ q. inr (e, q)) (two b l)
        where
          two : (b : ℕ) → b ≤ j + 1 → (b ≤ j) ⊎ (b ≡ j + 1)
          two b l = grind arith

-- ---- all pairs that begin at one place

pub row_step : (p : VertexLists) (xs : List Point) (i : ℕ) (old mid new : List Face) → AddsFaces p xs (λ a b. a ≤ i) old mid → AddsFaces p xs (λ a b. a ≡ i + 1) mid new → AddsFaces p xs (λ a b. a ≤ i + 1) old new
row_step p xs i old mid new =
    faces_more p xs (λ a b. a ≤ i) (λ a b. a ≡ i + 1) (λ a b. a ≤ i + 1) old mid new
    (λ a b c d s t. inl (omega arith)) (λ a b s. omega arith) (λ a b t. omega arith) (λ a b r. two a r)
  where
    two : (b : ℕ) → b ≤ i + 1 → (b ≤ i) ⊎ (b ≡ i + 1)
    two b l = grind arith

pub row_end : (p : VertexLists) (xs : List Point) (i j : ℕ) (old new : List Face) → length p.dual ≤ j → AddsFaces p xs (λ a b. (a ≡ i + 1) × (b ≤ j)) old new → AddsFaces p xs (λ a b. a ≡ i + 1) old new
row_end p xs i j old new l =
    faces_same p xs (λ a b. (a ≡ i + 1) × (b ≤ j)) (λ a b. a ≡ i + 1) old new (λ f h s. s.0)
    (λ f h s. (s, (let o = h.meet.ordered.2 in omega arith)))

pub row_start : (p : VertexLists) (xs : List Point) (i : ℕ) (fs : List Face) → AddsFaces p xs (λ a b. (a ≡ i + 1) × (b ≤ i + 1)) fs fs
row_start p xs i fs = faces_none p xs (λ a b. (a ≡ i + 1) × (b ≤ i + 1)) fs (λ f h s. (let o = h.meet.ordered.1 in let a = s.0 in let b = s.1 in omega arith))

pub rows_end : (p : VertexLists) (xs : List Point) (i : ℕ) (new fs : List Face) → length p.dual ≤ i → AddsFaces p xs (λ a b. a ≤ i) [] new → fs ≡ new → AreFaces p xs fs
rows_end p xs i new fs l a e =
    subst (λ (gs : List Face). AreFaces p xs gs) (sym e)
    (faces_all p xs [] new (faces_same p xs (λ a b. a ≤ i) (λ a b. Unit {0}) [] new (λ f h s. tt) (λ f h s. (let o = h.meet.ordered.1 in let q = h.meet.ordered.2 in omega arith)) a) refl)
