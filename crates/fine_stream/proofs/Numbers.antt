-- The number of the item that a search finds.
use Rattle.std.proofs.Common.{◌≡◌, ℕ, zero, suc, ◌+◌, ◌≤◌, ◌⊎◌, inl, inr, ⊎_elim, refl, sym, ap, ◌∙◌, subst, arith, List, [], ◌∷◌, ◌++◌, length}
use Rattle.std.specs.Prelude.{All, AllPairs, Contains}
use Rattle.std.proofs.lemmas.List.Elements.{All-contains}
use Rattle.ntfe_model.specs.Lists.{IsListing, IsBelow}
use Rattle.ntfe_model.specs.Charts.{Patch, AreSteps}
use Rattle.ntfe_model.specs.Words.{IsTriangulation, IsItem, HasItemAt}
use Rattle.ntfe_model.specs.declared.triangle.Triangle.{Triangle}
use Rattle.ntfe_model.specs.declared.triangulation.Triangulation.{Triangulation}
use Rattle.ntfe_model.proofs.Listings.{Contains-here, Contains-there, Contains-cases, Contains-none, AllPairs-head, AllPairs-tail, listing_nil, listing_append, listing_same}
use Rattle.ntfe_model.proofs.Orders.{three_ways, below_once, below_chain, WordBelow}
use Rattle.ntfe_model.specs.Charts.{AreApart}
use Rattle.ntfe_model.proofs.Items.{word_fixes}
use Rattle.fine_stream.specs.Found.{IsFirst, HasNone}
use Rattle.fine_stream.specs.Cursors.{IsPlace, Follows}
use Rattle.fine_stream.specs.declared.position.Position.{Position}
use Rattle.fine_stream.specs.declared.position.Position.TheVariants.{Start, After, End}
use Rattle.fine_stream.proofs.Waiting.{triangulation_completes, completes_triangulation}
use Rattle.std.proofs.lemmas.List.{length-append}

abbrev Lesser : Patch → List ℕ → Triangulation → Type 0
Lesser h word y = IsTriangulation h y × IsBelow y.word word

-- the triangulations up to an item
upto_listing : (h : Patch) (m : ℕ) (x : Triangulation) (i : IsItem h m x) → IsListing WordBelow (λ y. IsTriangulation h y × (IsBelow y.word x.word ⊎ (y ≡ x))) (i.lesser ++ x ∷ [])
upto_listing h m x i =
    listing_append WordBelow (Lesser h x.word) (λ y. y ≡ x) (λ y. IsTriangulation h y × (IsBelow y.word x.word ⊎ (y ≡ x))) i.lesser (x ∷ []) i.listing single
    (λ y z p e. let P : Triangulation → Type 0 = λ v. IsBelow y.word v.word in subst P (sym e) p.1)
    (λ y p. (p.0, inl p.1))
    (λ y e. ((let P : Triangulation → Type 0 = λ v. IsTriangulation h v in subst P (sym e) i.is), inr e))
    (λ y p. ⊎_elim (λ l. inl (p.0, l)) (λ e. inr e) p.1)
  where
    single : IsListing WordBelow (λ y. y ≡ x) (x ∷ [])
    single = record {
      ordered = λ j k d l g. absurd (omega arith);
      sound = one;
      complete = λ y e. Contains-here y x [] e;
    }
      where
        one : All (λ y. y ≡ x) (x ∷ [])
        one zero d l = refl
        one (suc k) d l = absurd (omega (arith, l))

module _ (h : Patch) (apart : AreApart h) (steps : List (ℕ × ℕ)) (are : AreSteps h steps) where
  pub first_item : (position : Position) (w : List ℕ) (us : List Triangle) → IsFirst h [] steps (Follows position) w us
      → (n : ℕ) → IsPlace h n position → IsItem h n (record { word = w; triangles = us })
  first_item Start w us f n e = record {
    is = completes_triangulation h apart steps (record { word = w; triangles = us }) are f.completes;
    lesser = [];
    listing = listing_nil WordBelow (Lesser h w) (λ y p. f.first y.word y.triangles (triangulation_completes h steps y are p.0) tt p.1);
    count = sym e;
  }
  first_item (After last) w us f n (m, x, i, e, g) = record {
    is = completes_triangulation h apart steps (record { word = w; triangles = us }) are f.completes;
    lesser = i.lesser ++ x ∷ [];
    listing = listing_same WordBelow (λ y. IsTriangulation h y × (IsBelow y.word x.word ⊎ (y ≡ x))) (Lesser h w) (i.lesser ++ x ∷ []) (upto_listing h m x i) below above;
    count = length-append i.lesser (x ∷ []) ∙ ap (λ k. k + 1) i.count ∙ sym g;
  }
    where
      after : IsBelow x.word w
      after = let P : List ℕ → Type 0 = λ v. IsBelow v w in subst P (sym e) f.has

      below : (y : Triangulation) → IsTriangulation h y × (IsBelow y.word x.word ⊎ (y ≡ x)) → Lesser h w y
      below y p = (
        p.0,
        ⊎_elim (λ l. below_chain y.word x.word w l after) (λ q. (let P : Triangulation → Type 0 = λ v. IsBelow v.word w in subst P (sym q) after)) p.1,
      )

      above : (y : Triangulation) → Lesser h w y → IsTriangulation h y × (IsBelow y.word x.word ⊎ (y ≡ x))
      above y p = (p.0, by (three_ways y.word x.word))
        where
          by : IsBelow y.word x.word ⊎ ((y.word ≡ x.word) ⊎ IsBelow x.word y.word) → IsBelow y.word x.word ⊎ (y ≡ x)
          by (inl l) = inl l
          by (inr (inl q)) = inr (word_fixes h y x p.0 i.is q)
          by (inr (inr l)) =
              let P : List ℕ → Type 0 = λ v. IsBelow v y.word in
              absurd (f.first y.word y.triangles (triangulation_completes h steps y are p.0) (subst P e l) p.1)
  first_item End w us f n p = absurd f.has

  pub no_item : (position : Position) → HasNone h [] steps (Follows position) → (n : ℕ) → IsPlace h n position → IsPlace h n End
  no_item Start none n e = ([], listing_nil WordBelow (IsTriangulation h) (λ y p. none y.word y.triangles (triangulation_completes h steps y are p) tt), sym e)
  no_item (After last) none n (m, x, i, e, g) = (
    i.lesser ++ x ∷ [],
    listing_same WordBelow (λ y. IsTriangulation h y × (IsBelow y.word x.word ⊎ (y ≡ x))) (IsTriangulation h) (i.lesser ++ x ∷ []) (upto_listing h m x i) (λ y p. p.0) all,
    length-append i.lesser (x ∷ []) ∙ ap (λ k. k + 1) i.count ∙ sym g,
  )
    where
      all : (y : Triangulation) → IsTriangulation h y → IsTriangulation h y × (IsBelow y.word x.word ⊎ (y ≡ x))
      all y p = (p, by (three_ways y.word x.word))
        where
          by : IsBelow y.word x.word ⊎ ((y.word ≡ x.word) ⊎ IsBelow x.word y.word) → IsBelow y.word x.word ⊎ (y ≡ x)
          by (inl l) = inl l
          by (inr (inl q)) = inr (word_fixes h y x p i.is q)
          by (inr (inr l)) =
              let P : List ℕ → Type 0 = λ v. IsBelow v y.word in
              absurd (none y.word y.triangles (triangulation_completes h steps y are p) (subst P e l))
  no_item End none n p = p

-- ---- no item after the end

ordered_length : {X : Type 0} (before : X → X → Type 0) → ((a b : X) → before a b → before b a → ⊥) → (xs ys : List X) → AllPairs before xs → AllPairs before ys
    → ((x : X) → Contains xs x → Contains ys x) → length xs ≤ length ys
ordered_length before strict [] ys o p f = omega arith
ordered_length before strict (x ∷ xs) [] o p f = Contains-none x (f x (Contains-here x x xs refl))
ordered_length {X} before strict (x ∷ xs) (y ∷ ys) o p f =
    by (Contains-cases x y ys (f x (Contains-here x x xs refl))) (ordered_length before strict xs ys (AllPairs-tail before x xs o) (AllPairs-tail before y ys p))
    (ordered_length before strict (x ∷ xs) ys o (AllPairs-tail before y ys p))
  where
    after_x : (z : X) → Contains xs z → before x z
    after_x z k = All-contains (before x) xs z (AllPairs-head before x xs o) k

    after_y : (z : X) → Contains ys z → before y z
    after_y z k = All-contains (before y) ys z (AllPairs-head before y ys p) k

    by : ((x ≡ y) ⊎ Contains ys x) → (((z : X) → Contains xs z → Contains ys z) → length xs ≤ length ys) → (((z : X) → Contains (x ∷ xs) z → Contains ys z) → suc (length xs) ≤ length ys)
        → suc (length xs) ≤ suc (length ys)
    by (inl e) go rest =
        let l = go (λ z k. ⊎_elim (λ q. (let r : before x x = subst (before x) (q ∙ sym e) (after_x z k) in absurd (strict x x r r))) (λ m. m) (Contains-cases z y ys (f z (Contains-there z x xs k)))) in
        omega arith
    by (inr m) go rest =
        let l = rest (λ z k. ⊎_elim (λ q. absurd (first z k q)) (λ n. n) (Contains-cases z y ys (f z k))) in
        omega arith
      where
        first : (z : X) → Contains (x ∷ xs) z → z ≡ y → ⊥
        first z k q =
            ⊎_elim (λ r. (let b : before y y = subst (before y) (sym r ∙ q) (after_y x m) in strict y y b b))
            (λ n. strict x y (subst (before x) q (after_x z n)) (after_y x m)) (Contains-cases z x xs k)

pub end_none : (h : Patch) (n k : ℕ) → IsPlace h n End → n ≤ k → ¬ (HasItemAt h k)
end_none h n k (xs, all, count) l (y, i) =
    let m = ordered_length WordBelow (λ a b. below_once a.word b.word) (i.lesser ++ y ∷ []) xs (upto_listing h k y i).ordered all.ordered
    (λ z c. all.complete z (All-contains (λ v. IsTriangulation h v × (IsBelow v.word y.word ⊎ (v ≡ y))) (i.lesser ++ y ∷ []) z (upto_listing h k y i).sound c).0) in
    let e = length-append i.lesser (y ∷ []) in let g = i.count in
    absurd (over (length (i.lesser ++ y ∷ [])) (length i.lesser) (length xs) count m e g)
  where
    over : (a b c : ℕ) → c ≡ n → a ≤ c → a ≡ b + 1 → b ≡ k → ⊥
    over a b c w x v z = absurd (omega (arith, w, x, v, z, l))
