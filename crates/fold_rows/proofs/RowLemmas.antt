-- The list of the folds, made of one part after the other.
use Rattle.std.proofs.Common.{◌≡◌, ℕ, ◌+◌, ◌<◌, ◌≤◌, ◌⊎◌, inl, inr, ⊎_elim, sym, ap, ◌∙◌, subst, arith, ℤ, pos, ◌<ℤ◌, List, [], ◌∷◌, ◌++◌, take, length, get_or, append_assoc}
use Rattle.std.specs.Prelude.{All, AllPairs, Contains, ◌↔◌}
use Rattle.std.proofs.lemmas.List.{append-nil, take_all}
use Rattle.std.proofs.lemmas.List.Elements.{All-cons, All-nil, All-append, All-contains}
use Rattle.ntfe_model.specs.Lists.{IsBefore2}
use Rattle.ntfe_model.specs.Charts.{Patch, spot_numbers, IsOf}
use Rattle.ntfe_model.specs.Triangulations.{HasSide, IsFine}
use Rattle.ntfe_model.specs.Choices.{IsInnerEdge, AreOpposite, IsFoldOf, AreFolds, IsRegularBy, fold_value, IsSmallFold}
use Rattle.ntfe_model.specs.declared.triangle.Triangle.{Triangle}
use Rattle.ntfe_model.specs.declared.triangulation.Triangulation.{Triangulation}
use Rattle.ntfe_model.specs.declared.nogood.Fold.{Fold}
use Rattle.ntfe_model.proofs.Listings.{listing_nil, listing_append, listing_same, Contains-here}
use Rattle.ntfe_model.specs.Charts.{AreApart}
use Rattle.face_chart.proofs.StepLemmas.{taken_more, taken_kept, taken_last, taken_below}
use Rattle.ntfe_model.proofs.Triples.{third_point}
use Rattle.ntfe_model.proofs.Folds.{unit_corner, fold_edge, fold_unique}
use Rattle.fold_rows.specs.Rows.{HasPoint, AreAround, AreUnits, unspelled, AddsFolds}
use Rattle.ntfe_model.proofs.FoldPlanes.{AreFoldsPositive, folds_give_above, above_gives_folds}
use Rattle.ntfe_model.proofs.Orders.{FoldBefore}

-- ---- the triples around a point have the folds of its edges

side_point : (t : Triangle) (a b : ℕ) → HasSide t a b → HasPoint t a × HasPoint t b
side_point t a b (inl (e, f)) = (inl e, inr (inl f))
side_point t a b (inr (inl (e, f))) = (inr (inl e), inr (inr f))
side_point t a b (inr (inr (e, f))) = (inr (inr e), inl f)

pub around_units : (h : Patch) (ts us : List Triangle) (a : ℕ) → IsFine h ts → AreAround ts a us → AreUnits h us
around_units h ts us a fine near t c = fine.unit t (near.sound t c)

pub around_edge : (ts us : List Triangle) (a b : ℕ) → AreAround ts a us → IsInnerEdge ts a b → IsInnerEdge us a b
around_edge ts us a b near e =
    let p = e.1 in
    let q = e.2 in
    (e.0, (p.0, near.complete p.0 p.1 (side_point p.0 a b p.2).0, p.2), (q.0, near.complete q.0 q.1 (side_point q.0 b a q.2).1, q.2))

pub around_fold : (h : Patch) (x : Triangulation) (us : List Triangle) (a : ℕ) (r : Fold) → AreAround x.triangles a us → IsFoldOf h (unspelled us) r → IsFoldOf h x r
around_fold h x us a r near f = record {
  edge = f.edge;
  ordered = f.ordered;
  opposite = ⊎_elim (λ o. inl (wider r.c r.d o)) (λ o. inr (wider r.d r.c o)) f.opposite;
  balance = f.balance;
  two = f.two;
}
  where
    wider : (c d : ℕ) → AreOpposite us r.a r.b c d → AreOpposite x.triangles r.a r.b c d
    wider c d (t, u, i, j, p, q) = (t, u, near.sound t i, near.sound u j, p, q)

-- ---- parts of the list

module _ (h : Patch) (x : Triangulation) where
  pub adds_none : (S : ℕ → ℕ → Type 0) (rs : List Fold) → ((r : Fold) → IsFoldOf h x r → S r.a r.b → ⊥) → AddsFolds h x S rs rs
  adds_none S rs none = record {
    added = [];
    listing = listing_nil FoldBefore (λ r. IsFoldOf h x r × S r.a r.b) (λ r p. none r p.0 p.1);
    small = All-nil IsSmallFold;
    items = sym (append-nil rs);
  }

  pub adds_one : (S : ℕ → ℕ → Type 0) (rs new : List Fold) (r : Fold) → IsFoldOf h x r → IsSmallFold r → S r.a r.b → ((q : Fold) → IsFoldOf h x q → S q.a q.b → q ≡ r)
      → new ≡ rs ++ r ∷ [] → AddsFolds h x S rs new
  adds_one S rs new r f small s only e = record {
    added = r ∷ [];
    listing = record {
      ordered = λ i j d k l. absurd (omega arith);
      sound = All-cons (λ q. IsFoldOf h x q × S q.a q.b) r [] (f, s) (All-nil (λ q. IsFoldOf h x q × S q.a q.b));
      complete = λ q p. Contains-here q r [] (only q p.0 p.1);
    };
    small = All-cons IsSmallFold r [] small (All-nil IsSmallFold);
    items = e;
  }

  pub adds_more : (S T R : ℕ → ℕ → Type 0) (old mid new : List Fold) → ((a b i j : ℕ) → S a b → T i j → IsBefore2 a b i j)
      → ((a b : ℕ) → S a b → R a b) → ((a b : ℕ) → T a b → R a b) → ((a b : ℕ) → R a b → S a b ⊎ T a b)
      → AddsFolds h x S old mid → AddsFolds h x T mid new → AddsFolds h x R old new
  adds_more S T R old mid new apart f g split a b = record {
    added = a.added ++ b.added;
    listing = listing_append FoldBefore (λ r. IsFoldOf h x r × S r.a r.b) (λ r. IsFoldOf h x r × T r.a r.b) (λ r. IsFoldOf h x r × R r.a r.b) a.added b.added a.listing b.listing
        (λ q r p o. apart q.a q.b r.a r.b p.1 o.1) (λ r p. (p.0, f r.a r.b p.1)) (λ r p. (p.0, g r.a r.b p.1)) (λ r p. ⊎_elim (λ s. inl (p.0, s)) (λ t. inr (p.0, t)) (split r.a r.b p.1));
    small = All-append IsSmallFold a.added b.added a.small b.small;
    items = b.items ∙ ap (λ rs. rs ++ b.added) a.items ∙ append_assoc old a.added b.added;
  }

  adds_same : (S T : ℕ → ℕ → Type 0) (old new : List Fold) → ((r : Fold) → IsFoldOf h x r → S r.a r.b → T r.a r.b) → ((r : Fold) → IsFoldOf h x r → T r.a r.b → S r.a r.b)
      → AddsFolds h x S old new → AddsFolds h x T old new
  adds_same S T old new f g a = record {
    added = a.added;
    listing = listing_same FoldBefore (λ r. IsFoldOf h x r × S r.a r.b) (λ r. IsFoldOf h x r × T r.a r.b) a.added a.listing (λ r p. (p.0, f r p.0 p.1)) (λ r p. (p.0, g r p.0 p.1));
    small = a.small;
    items = a.items;
  }

  -- the ends of a fold's edge are points of the face
  fold_points : IsFine h x.triangles → (r : Fold) → IsFoldOf h x r → IsOf h r.a × IsOf h r.b
  fold_points fine r f =
      let s = (fold_edge h x r f).1 in
      let c = third_point s.0 r.a r.b s.2 in
      let u = unit_corner h s.0 r.a r.b c.0 (fine.unit s.0 s.1) c.1 in
      (u.points.0, u.points.1)

  -- ---- the folds of one edge

  abbrev pub is : ℕ → ℕ → ℕ → ℕ → Type 0
  is i j a b = (a ≡ i) × (b ≡ j)

  pub edge_added : IsFine h x.triangles → (i j k : ℕ) (rs new : List Fold) (r : Fold) → j ≡ k → IsFoldOf h x r → (r.a ≡ i) × (r.b ≡ j) → IsSmallFold r → new ≡ rs ++ r ∷ [] → AddsFolds h x (is i k) rs new
  edge_added fine i j k rs new r e f p small q =
      subst (λ (m : ℕ). AddsFolds h x (is i m) rs new) e
      (adds_one (is i j) rs new r f small p (λ o g s. fold_unique h x fine o r g f (s.0 ∙ sym p.0) (s.1 ∙ sym p.1)) q)

  pub edge_passed : (i j k : ℕ) (rs new : List Fold) → j ≡ k → ¬ (IsInnerEdge x.triangles i j) → rs ≡ new → AddsFolds h x (is i k) rs new
  edge_passed i j k rs new e none q =
      subst (λ (m : ℕ × List Fold). AddsFolds h x (is i m.0) rs m.1) (λ t. (e t, q t))
      (adds_none (is i j) rs (λ r f p. none (let P : ℕ × ℕ → Type 0 = λ m. IsInnerEdge x.triangles m.0 m.1 in subst P (λ t. (p.0 t, p.1 t)) (fold_edge h x r f))))

  -- ---- the folds of the edges at one point

  abbrev pub from : ℕ → List ℕ → ℕ → ℕ → ℕ → Type 0
  from i ks n a b = (a ≡ i) × Contains (take n ks) b

  pub from_more : (i : ℕ) (ks : List ℕ) (n : ℕ) (old mid new : List Fold) → AllPairs (λ j k. j < k) ks → n < length ks
      → AddsFolds h x (from i ks n) old mid → AddsFolds h x (is i (get_or ks n 0)) mid new → AddsFolds h x (from i ks (n + 1)) old new
  from_more i ks n old mid new r l =
      adds_more (from i ks n) (is i (get_or ks n 0)) (from i ks (n + 1)) old mid new
      (λ a b c d s t. inr (s.0 ∙ sym t.0, (let k = taken_below ks n b r l s.1 in let e = t.1 in omega (arith, k, e))))
      (λ a b s. (s.0, taken_kept ks n b s.1))
      (λ a b t. (t.0, taken_last ks n b l t.1))
      (λ a b p. ⊎_elim (λ q. inl (p.0, q)) (λ q. inr (p.0, q)) (taken_more ks n b l p.1))

  pub from_end : IsFine h x.triangles → (i n : ℕ) (old new : List Fold) → length (spot_numbers h) ≤ n → AddsFolds h x (from i (spot_numbers h) n) old new → AddsFolds h x (λ a b. a ≡ i) old new
  from_end fine i n old new l =
      adds_same (from i (spot_numbers h) n) (λ a b. a ≡ i) old new (λ r f p. p.0)
      (λ r f p. (p, (let P = λ (ms : List ℕ). Contains ms r.b in subst P (sym (take_all n (spot_numbers h) l)) (fold_points fine r f).1)))

  -- ---- all folds

  abbrev pub upto : List ℕ → ℕ → ℕ → ℕ → Type 0
  upto ks n a b = Contains (take n ks) a

  pub upto_more : (ks : List ℕ) (n : ℕ) (old mid new : List Fold) → AllPairs (λ j k. j < k) ks → n < length ks
      → AddsFolds h x (upto ks n) old mid → AddsFolds h x (λ a b. a ≡ get_or ks n 0) mid new → AddsFolds h x (upto ks (n + 1)) old new
  upto_more ks n old mid new r l =
      adds_more (upto ks n) (λ a b. a ≡ get_or ks n 0) (upto ks (n + 1)) old mid new
      (λ a b c d s t. inl (let k = taken_below ks n a r l s in omega (arith, k, t)))
      (λ a b s. taken_kept ks n a s)
      (λ a b t. taken_last ks n a l t)
      (λ a b p. taken_more ks n a l p)

  pub upto_end : IsFine h x.triangles → (n : ℕ) (new : List Fold) → length (spot_numbers h) ≤ n → AddsFolds h x (upto (spot_numbers h) n) [] new → AreFolds h x new × All IsSmallFold new
  upto_end fine n new l a =
      let P : List Fold → Type 0 = λ rs. AreFolds h x rs × All IsSmallFold rs in
      subst P (sym a.items) (
        listing_same FoldBefore (λ r. IsFoldOf h x r × Contains (take n (spot_numbers h)) r.a) (IsFoldOf h x) a.added a.listing (λ r p. p.0)
            (λ r f. (f, (let Q = λ (ms : List ℕ). Contains ms r.a in subst Q (sym (take_all n (spot_numbers h) l)) (fold_points fine r f).0))),
        a.small,
      )

  -- ---- planes

  pub folds_listed : (w : List ℤ) (rs : List Fold) → AreFolds h x rs → All (λ r. pos 0 <ℤ fold_value w r) rs ↔ AreFoldsPositive h w x
  folds_listed w rs l = ((λ k r f. All-contains (λ q. pos 0 <ℤ fold_value w q) rs r k (l.complete r f)), (λ p k d lt. p (get_or rs k d) (l.sound k d lt)))

  -- all folds of the list are positive exactly where every other point lies above each triple
  pub listed_exactly_regular : AreApart h → IsFine h x.triangles → (rs : List Fold) → AreFolds h x rs → (w : List ℤ) → All (λ r. pos 0 <ℤ fold_value w r) rs ↔ IsRegularBy h w x
  listed_exactly_regular apart fine rs l w =
      ((λ k. folds_give_above h apart w x fine ((folds_listed w rs l).0 k)), (λ k. (folds_listed w rs l).1 (above_gives_folds h w x fine k)))
