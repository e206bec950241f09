-- A word fixes its triangulation, and a number its item; the numbers of the items have no gaps.
use Rattle.std.proofs.Common.{get_or, ⊎_elim, take, ◌≡◌, ℕ, suc, ◌<◌, ◌≤◌, ◌⊎◌, inl, inr, Bool, true, false, cond, refl, sym, ap, ◌∙◌, subst, arith, List, [], ◌∷◌, length}
use Rattle.std.specs.Prelude.{Contains, filter, All, AllPairs}
use Rattle.std.proofs.lemmas.List.{get_or-take, length-take-le, get_or_default}
use Rattle.std.specs.Ordering.{nat_cmp, is_lt}
use Rattle.std.specs.declared.cmp.Ordering.{Ordering}
use Rattle.std.specs.declared.cmp.Ordering.TheVariants.{Less, Equal, Greater}
use Rattle.std.specs.Cmp.Lexicographic.{slice_cmp, nat_list_cmp_total}
use Rattle.ntfe_model.specs.Lists.{IsBelow, IsBefore2}
use Rattle.ntfe_model.specs.Charts.{Patch, IsStep, AreSteps}
use Rattle.ntfe_model.specs.Words.{Closes, after_side, IsTriangulation, IsItem, HasItemAt}
use Rattle.ntfe_model.specs.declared.triangle.Triangle.{Triangle}
use Rattle.ntfe_model.specs.declared.triangulation.Triangulation.{Triangulation}
use Rattle.ntfe_model.proofs.Listings.{Contains-cases, Contains-none, listing_filter, listing_unique}
use Rattle.ntfe_model.proofs.Orders.{below_once, below_chain, three_ways}

-- ---- a word fixes its triangulation

pub steps_fixed : (h : Patch) (es fs : List (ℕ × ℕ)) → AreSteps h es → AreSteps h fs → es ≡ fs
steps_fixed h es fs l k =
    let R : ℕ × ℕ → ℕ × ℕ → Type 0 = λ e f. IsBefore2 e.0 e.1 f.0 f.1 in
    listing_unique R (λ e. IsStep h e.0 e.1) (λ e f p q. strict e.0 e.1 f.0 f.1 p q) es fs l k
  where
    strict : (a b c d : ℕ) → IsBefore2 a b c d → IsBefore2 c d a b → ⊥
    strict a b c d p q = absurd (grind arith)

closes_fixed : (word : List ℕ) (fs : List (ℕ × ℕ)) (ts us : List Triangle) → Closes fs word ts → Closes fs word us → ts ≡ us
closes_fixed [] [] [] [] h k = refl
closes_fixed [] [] [] (u ∷ us) h k = absurd k
closes_fixed [] [] (t ∷ ts) us h k = absurd h
closes_fixed [] ((a, b) ∷ fs) ts us h k = absurd h
closes_fixed (c ∷ word) [] ts us h k = absurd h
closes_fixed (c ∷ word) ((a, b) ∷ fs) [] us h k = absurd h
closes_fixed (c ∷ word) ((a, b) ∷ fs) (t ∷ ts) [] h k = absurd k
closes_fixed (c ∷ word) ((a, b) ∷ fs) (t ∷ ts) (u ∷ us) h k =
    let r = closes_fixed word (after_side (c, a) (after_side (b, c) fs)) ts us h.1 k.1 in
    let q = h.0 ∙ sym k.0 in
    λ i. q i ∷ r i

pub word_fixes : (h : Patch) (x y : Triangulation) → IsTriangulation h x → IsTriangulation h y → x.word ≡ y.word → x ≡ y
word_fixes h x y p q e =
    let s = steps_fixed h q.steps p.steps q.boundary p.boundary in
    let c : Closes p.steps x.word y.triangles =
    let P = λ (w : List ℕ). Closes p.steps w y.triangles in let Q = λ (es : List (ℕ × ℕ)). Closes es y.word y.triangles in subst P (sym e) (subst Q s q.closes) in
    let r = closes_fixed x.word p.steps x.triangles y.triangles p.closes c in
    λ i. record { word = e i; triangles = r i }

-- ---- an item has one number, and a number one item

pub number_fixed : (h : Patch) (m n : ℕ) (x : Triangulation) → IsItem h m x → IsItem h n x → m ≡ n
number_fixed h m n x p q =
    sym p.count ∙ ap length (listing_unique (λ y z. IsBelow y.word z.word) (λ y. IsTriangulation h y × IsBelow y.word x.word) (λ y z. below_once y.word z.word) p.lesser q.lesser p.listing q.listing) ∙ q.count

-- a filter that refuses an entry has a shorter list
shorter : {X : Type 0} (test : X → Bool) (xs : List X) (x : X) → Contains xs x → test x ≡ false → length (filter test xs) < length xs
shorter test [] x h e = Contains-none x h
shorter {X} test (y ∷ ys) x h e = by (Contains-cases x y ys h) (shorter test ys x) (test y) refl
  where
    most : (xs : List X) → length (filter test xs) ≤ length xs
    most [] = omega arith
    most (z ∷ zs) = go (test z) (most zs)
      where
        go : (b : Bool) → length (filter test zs) ≤ length zs → length (cond b (z ∷ filter test zs) (filter test zs)) ≤ suc (length zs)
        go true l = omega arith
        go false l = omega arith

    by : (x ≡ y) ⊎ Contains ys x → (Contains ys x → test x ≡ false → length (filter test ys) < length ys) → (b : Bool) → test y ≡ b
        → length (cond b (y ∷ filter test ys) (filter test ys)) < suc (length ys)
    by (inl q) rest true f = let g : true ≡ false = sym f ∙ ap test (sym q) ∙ e in cc
    by (inl q) rest false f = let l = most ys in omega arith
    by (inr c) rest true f = let l = rest c e in omega arith
    by (inr c) rest false f = let l = rest c e in omega arith

-- an item with a lesser word has a lesser number
pub number_rises : (h : Patch) (m n : ℕ) (x y : Triangulation) → IsItem h m x → IsItem h n y → IsBelow x.word y.word → m < n
number_rises h m n x y p q l = by p.count q.count (ap length same) (shorter test q.lesser x (q.listing.complete x (p.is, l)) never)
  where
    test : Triangulation → Bool
    test z = is_lt (slice_cmp nat_cmp z.word x.word)

    never : test x ≡ false
    never = go (test x) refl
      where
        go : (b : Bool) → test x ≡ b → b ≡ false
        go false e = refl
        go true e = let d = less x.word x.word e in absurd (below_once x.word x.word d d)
          where
            less : (u w : List ℕ) → is_lt (slice_cmp nat_cmp u w) ≡ true → IsBelow u w
            less u w f = turn (slice_cmp nat_cmp u w) f
              where
                turn : (r : Ordering) → is_lt r ≡ true → r ≡ Less
                turn Less g = refl
                turn Equal g = cc
                turn Greater g = cc

    less_of : (r : Ordering) → is_lt r ≡ true → r ≡ Less
    less_of Less g = refl
    less_of Equal g = cc
    less_of Greater g = cc

    same : p.lesser ≡ filter test q.lesser
    same =
        listing_unique (λ y' z. IsBelow y'.word z.word) (λ y'. IsTriangulation h y' × IsBelow y'.word x.word) (λ y' z. below_once y'.word z.word) p.lesser (filter test q.lesser) p.listing
        (listing_filter (λ y' z. IsBelow y'.word z.word) (λ y'. IsTriangulation h y' × IsBelow y'.word y.word) (λ y'. IsTriangulation h y' × IsBelow y'.word x.word) test q.lesser q.listing
        (λ z d e. (d.0, less_of (slice_cmp nat_cmp z.word x.word) e))
        (λ z d. (d.0, nat_list_cmp_total.trans z.word x.word y.word d.1 l))
        (λ z d. ap is_lt d.1))

    by : length p.lesser ≡ m → length q.lesser ≡ n → length p.lesser ≡ length (filter test q.lesser) → length (filter test q.lesser) < length q.lesser → m < n
    by a b c d = omega (arith, a, b, c, d)

pub item_fixed : (h : Patch) (n : ℕ) (x y : Triangulation) → IsItem h n x → IsItem h n y → x ≡ y
item_fixed h n x y p q = by (three_ways x.word y.word)
  where
    by : IsBelow x.word y.word ⊎ ((x.word ≡ y.word) ⊎ IsBelow y.word x.word) → x ≡ y
    by (inl l) = absurd (let k = number_rises h n n x y p q l in omega arith)
    by (inr (inl e)) = word_fixes h x y p.is q.is e
    by (inr (inr l)) = absurd (let k = number_rises h n n y x q p l in omega arith)

-- ---- the numbers have no gaps

-- the lesser items of an item are the items with the lesser numbers
pub lesser_item : (h : Patch) (m n : ℕ) (x : Triangulation) → IsItem h m x → n < m → HasItemAt h n
lesser_item h m n x p less = (y, record { is = (below n inside).0; lesser = take n ys; listing = record { ordered = ordered; sound = sound; complete = complete }; count = count })
  where
    ys : List Triangulation
    ys = p.lesser

    inside : n < length p.lesser
    inside = let e = p.count in omega arith

    y : Triangulation
    y = get_or p.lesser n x

    below : (k : ℕ) → k < length p.lesser → IsTriangulation h (get_or p.lesser k x) × IsBelow (get_or p.lesser k x).word x.word
    below k l = p.listing.sound k x l

    count : length (take n p.lesser) ≡ n
    count = length-take-le n p.lesser (omega arith)

    taken : (i : ℕ) (d : Triangulation) → i < length (take n p.lesser) → get_or (take n p.lesser) i d ≡ get_or p.lesser i d
    taken i d l = get_or-take n p.lesser i d (omega (arith, count))

    ordered : AllPairs (λ v w. IsBelow v.word w.word) (take n p.lesser)
    ordered i j d k l =
        let P : Triangulation × Triangulation → Type 0 = λ v. IsBelow v.0.word v.1.word in
        subst P (λ t. (sym (taken i d (omega arith)) t, sym (taken j d l) t)) (p.listing.ordered i j d k (omega (arith, count)))

    below_y : (k : ℕ) (d : Triangulation) → k < n → IsBelow (get_or p.lesser k d).word y.word
    below_y k d l =
        let P : Triangulation → Type 0 = λ w. IsBelow (get_or p.lesser k d).word w.word in
        subst P (get_or_default p.lesser n d x inside) (p.listing.ordered k n d l inside)

    sound : All (λ z. IsTriangulation h z × IsBelow z.word y.word) (take n p.lesser)
    sound k d l =
        let early : k < n = omega (arith, count) in
        let P : Triangulation → Type 0 = λ z. IsTriangulation h z × IsBelow z.word y.word in
        subst P (sym (get_or-take n p.lesser k d early)) ((p.listing.sound k d (omega arith)).0, below_y k d early)

    complete : (z : Triangulation) → IsTriangulation h z × IsBelow z.word y.word → Contains (take n p.lesser) z
    complete z q = by (p.listing.complete z (q.0, below_chain z.word y.word x.word q.1 (below n inside).1))
      where
        by : Contains p.lesser z → Contains (take n p.lesser) z
        by (k, l, e) = ⊎_elim (λ early. (k, omega (arith, count), get_or-take n p.lesser k z early ∙ e)) (λ late. absurd (never late)) (let d : (k < n) ⊎ (n ≤ k) = grind arith in d)
          where
            same : IsBelow y.word z.word → ⊥
            same up = below_once y.word z.word up q.1

            never : n ≤ k → ⊥
            never late =
                ⊎_elim
                (λ same_place. (let P : Triangulation → Type 0 = λ w. IsBelow z.word w.word in
                let itself = subst P (get_or_default p.lesser n x z inside ∙ ap (λ i. get_or p.lesser i z) (sym same_place) ∙ e) q.1 in
                below_once z.word z.word itself itself))
                (λ later. (let P : Triangulation → Type 0 = λ w. IsBelow w.word z.word in
                let Q : Triangulation → Type 0 = λ w. IsBelow (get_or p.lesser n z).word w.word in
                same (subst P (get_or_default p.lesser n z x inside) (subst Q e (p.listing.ordered n k z later l)))))
                (let d : (k ≡ n) ⊎ (n < k) = grind arith in d)

pub lesser_items : (h : Patch) (m n : ℕ) → HasItemAt h m → n ≤ m → HasItemAt h n
lesser_items h m n p less =
    ⊎_elim (λ e. (let P : ℕ → Type 0 = HasItemAt h in subst P e p)) (λ l. lesser_item h m n p.0 p.1 l) (let d : (m ≡ n) ⊎ (n < m) = grind arith in d)
