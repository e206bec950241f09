-- No basis comes twice in the moving.
--     IsMoving columns bound s ts t      pivots of the moving lead from s over ts to t, and no variable above the bound leaves
--     IsLoaded columns s                 no slack's row has a height that is not basic
--     no_return                          after one move or more another set of variables is basic than at first
use Rattle.std.proofs.Common.{◌≡◌, ℕ, ◌<◌, ◌≤◌, ◌⊎◌, inl, inr, refl, sym, ◌∙◌, subst, arith, ℤ, List, [], ◌∷◌, length, get_or, Some, None, Option}
use Rattle.ntfe_model.specs.Solver.{Line, IsPivot}
use Rattle.strict_solver.specs.Equations.{Holds}
use Rattle.strict_solver.proofs.Pivots.{IsTable, pivot-table, pivot-holds, pivot-held, pivot-gone, pivot-kept, pivot-before, pivot-basic, pivot-left, pivot-leaving, pivot-entering}
use Rattle.strict_solver.proofs.Moves.{IsMove, first_slack-found, entering-found, IsGone}
use Rattle.strict_solver.proofs.Values.{bland}
use Rattle.strict_solver.proofs.Entries.{basic_or_not, not_both, none_unless}

abbrev Lines : Type 0
Lines = List (Option Line)

pub record IsMovingStep (columns bound : ℕ) (s t : List (Option Line)) : Type 0 where
  pub x : ℕ
  pub y : ℕ
  pub small : x ≤ bound
  pub move : IsMove columns s x y
  pub is : IsPivot x y s t

abbrev pub IsMoving : ℕ → ℕ → List (Option Line) → List (List (Option Line)) → List (Option Line) → Type 0
IsMoving columns bound s [] t = s ≡ t
IsMoving columns bound s (r ∷ rs) t = IsMovingStep columns bound s r × IsMoving columns bound r rs t

abbrev pub IsLoaded : ℕ → List (Option Line) → Type 0
IsLoaded columns s = (k : ℕ) → k < columns → get_or s k None ≡ None → IsGone columns s k

abbrev pub IsBasic : List (Option Line) → ℕ → Type 0
IsBasic s z = (r : Line) × (get_or s z None ≡ Some r)

pub row-of : (columns x y : ℕ) (s : Lines) → IsMove columns s x y → (columns ≤ x) × (columns ≤ y)
row-of columns x y s m =
    let f = first_slack-found columns _ s x m.leaving in
    (f.slack, (entering-found columns s x f.row y f.is m.entering).slack)

pub step-table : (columns bound : ℕ) (s t : Lines) → IsMovingStep columns bound s t → IsTable s → IsTable t
step-table columns bound s t m w = pivot-table m.x m.y s t m.is w

pub step-loaded : (columns bound : ℕ) (s t : Lines) → IsMovingStep columns bound s t → IsTable s → columns ≤ length s → IsLoaded columns s → IsLoaded columns t
step-loaded columns bound s t m w c l k h e =
    let r = row-of columns m.x m.y s m.move in
    pivot-gone m.x m.y s t m.is w columns k h r.0 (λ i. let a = r.1 in omega arith) (omega arith) (l k h (pivot-before m.x m.y s t m.is k e (λ i. let a = r.0 in omega arith)))

-- what each move keeps is kept by all
pub moving-keeps : (columns bound : ℕ) (P : Lines → Type 0) → ((s t : Lines) → IsMovingStep columns bound s t → P s → P t) → (s : Lines) (ts : List (List (Option Line))) (t : Lines) → IsMoving columns bound s ts t → P s → P t
moving-keeps columns bound P f s [] t m p = subst P m p
moving-keeps columns bound P f s (r ∷ ts) t m p = moving-keeps columns bound P f r ts t m.1 (f s r m.0 p)

pub moving-table : (columns bound : ℕ) (s : Lines) (ts : List (List (Option Line))) (t : Lines) → IsMoving columns bound s ts t → IsTable s → IsTable t
moving-table columns bound = moving-keeps columns bound IsTable (step-table columns bound)

pub moving-length : (columns bound : ℕ) (s : Lines) (ts : List (List (Option Line))) (t : Lines) → IsMoving columns bound s ts t → length t ≡ length s
moving-length columns bound s ts t m = moving-keeps columns bound (λ r. length r ≡ length s) (λ a b k e. k.is.length_same ∙ e) s ts t m refl

pub moving-loaded : (columns bound : ℕ) (s : Lines) (ts : List (List (Option Line))) (t : Lines) → IsMoving columns bound s ts t → IsTable s → columns ≤ length s → IsLoaded columns s → IsLoaded columns t
moving-loaded columns bound s [] t m w c l = let P : Lines → Type 0 = λ r. IsLoaded columns r in subst P m l
moving-loaded columns bound s (r ∷ ts) t m w c l =
    let e = m.0.is.length_same in
    moving-loaded columns bound r ts t m.1 (step-table columns bound s r m.0 w) (omega arith) (step-loaded columns bound s r m.0 w c l)

pub moving-holds : (columns bound : ℕ) (s : Lines) (ts : List (List (Option Line))) (t : Lines) → IsMoving columns bound s ts t → IsTable s → (one : ℤ) (vs : List ℤ) → length vs ≡ length s
    → (Holds one vs s → Holds one vs t) × (Holds one vs t → Holds one vs s)
moving-holds columns bound s [] t m w one vs l =
    let P : Lines → Type 0 = λ r. Holds one vs r in ((λ h. subst P m h), (λ h. subst P (sym m) h))
moving-holds columns bound s (r ∷ ts) t m w one vs l =
    let rest = moving-holds columns bound r ts t m.1 (step-table columns bound s r m.0 w) one vs (l ∙ sym m.0.is.length_same) in
    let k = m.0 in
    ((λ h. rest.0 (pivot-holds k.x k.y s r k.is w one vs l h)), (λ h. pivot-held k.x k.y s r k.is w one vs l (rest.1 h)))

-- a basic variable above the bound stays
moving-stays : (columns bound : ℕ) (s : Lines) (ts : List (List (Option Line))) (t : Lines) → IsMoving columns bound s ts t → (j : ℕ) → bound < j → IsBasic s j → IsBasic t j
moving-stays columns bound s ts t m j h = moving-keeps columns bound (λ r. IsBasic r j) (λ a c k b. pivot-kept k.x k.y a c k.is j b.0 b.1 (λ e. let l = k.small in omega arith)) s ts t m

moving-empty : (columns bound : ℕ) (s : Lines) (ts : List (List (Option Line))) (t : Lines) → IsMoving columns bound s ts t → (j : ℕ) → bound < j → get_or t j None ≡ None → get_or s j None ≡ None
moving-empty columns bound s ts t m j h e = none_unless _ (λ q g. let n = moving-stays columns bound s ts t m j h (q, g) in not_both _ n.0 n.1 e)

weaker : (columns k n : ℕ) (s : Lines) (ts : List (List (Option Line))) (t : Lines) → k ≤ n → IsMoving columns k s ts t → IsMoving columns n s ts t
weaker columns k n s [] t h m = m
weaker columns k n s (r ∷ ts) t h m = (record { x = m.0.x; y = m.0.y; small = (let a = m.0.small in omega arith); move = m.0.move; is = m.0.is }, weaker columns k n r ts t h m.1)

-- the greatest variable that leaves, at some moment
pub record IsGreatest (columns : ℕ) (s t : List (Option Line)) : Type 0 where
  pub q : ℕ
  pub us : List (List (Option Line))
  pub a : List (Option Line)
  pub next : List (Option Line)
  pub vs : List (List (Option Line))
  pub before : IsMoving columns q s us a
  pub step : IsMovingStep columns q a next
  pub leaves : step.x ≡ q
  pub after : IsMoving columns q next vs t

greatest : (columns bound : ℕ) (s r : Lines) (rs : List (List (Option Line))) (t : Lines) → IsMoving columns bound s (r ∷ rs) t → IsGreatest columns s t
greatest columns bound s r [] t m = record {
  q = m.0.x;
  us = [];
  a = s;
  next = r;
  vs = [];
  before = refl;
  step = record { x = m.0.x; y = m.0.y; small = omega arith; move = m.0.move; is = m.0.is };
  leaves = refl;
  after = m.1;
}
greatest columns bound s r (r' ∷ rs) t m = by (greatest columns bound r r' rs t m.1)
  where
    by : IsGreatest columns r t → IsGreatest columns s t
    by g = at (let c : (m.0.x ≤ g.q) ⊎ (g.q ≤ m.0.x) = grind arith in c)
      where
        join : (us : List (List (Option Line))) (u a b v : Lines) (vs : List (List (Option Line))) (n : ℕ) → IsMoving columns n u us a → IsMovingStep columns n a b → IsMoving columns n b vs v
            → (ws : List (List (Option Line))) × IsMoving columns n u ws v
        join [] u a b v vs n f k h = (b ∷ vs, ((let P : Lines → Type 0 = λ c. IsMovingStep columns n c b in subst P (sym f) k), h))
        join (c ∷ us) u a b v vs n f k h = let w = join us c a b v vs n f.1 k h in (c ∷ w.0, (f.0, w.1))

        at : (m.0.x ≤ g.q) ⊎ (g.q ≤ m.0.x) → IsGreatest columns s t
        at (inl h) = record {
          q = g.q;
          us = r ∷ g.us;
          a = g.a;
          next = g.next;
          vs = g.vs;
          before = (record { x = m.0.x; y = m.0.y; small = h; move = m.0.move; is = m.0.is }, g.before);
          step = g.step;
          leaves = g.leaves;
          after = g.after;
        }
        at (inr h) =
            let w = join g.us r g.a g.next t g.vs g.q g.before g.step g.after in
            record {
              q = m.0.x;
              us = [];
              a = s;
              next = r;
              vs = w.0;
              before = refl;
              step = record { x = m.0.x; y = m.0.y; small = omega arith; move = m.0.move; is = m.0.is };
              leaves = refl;
              after = weaker columns g.q m.0.x r w.0 t h w.1;
            }

-- a moment where a variable enters
pub record Enters (columns bound q : ℕ) (s t : List (Option Line)) : Type 0 where
  pub us : List (List (Option Line))
  pub b : List (Option Line)
  pub next : List (Option Line)
  pub vs : List (List (Option Line))
  pub before : IsMoving columns bound s us b
  pub step : IsMovingStep columns bound b next
  pub enters : step.y ≡ q
  pub after : IsMoving columns bound next vs t

entered : (columns bound q : ℕ) (s : Lines) (ts : List (List (Option Line))) (t : Lines) → IsMoving columns bound s ts t → get_or s q None ≡ None → IsBasic t q → Enters columns bound q s t
entered columns bound q s [] t m e b = let P : Lines → Type 0 = λ r. get_or r q None ≡ None in absurd (not_both _ b.0 b.1 (subst P m e))
entered columns bound q s (r ∷ ts) t m e b = by (basic_or_not (get_or r q None)) (entered columns bound q r ts t m.1)
  where
    by : ((o : Line) × (get_or r q None ≡ Some o)) ⊎ (get_or r q None ≡ None) → (get_or r q None ≡ None → IsBasic t q → Enters columns bound q r t) → Enters columns bound q s t
    by (inl g) rest = at (pivot-basic m.0.x m.0.y s r m.0.is q g.0 g.1).1
      where
        at : (q ≡ m.0.y) ⊎ ((o : Line) × (get_or s q None ≡ Some o)) → Enters columns bound q s t
        at (inl h) = record { us = []; b = s; next = r; vs = ts; before = refl; step = m.0; enters = sym h; after = m.1 }
        at (inr h) = absurd (not_both _ h.0 h.1 e)
    by (inr g) rest =
        let n = rest g b in
        record { us = r ∷ n.us; b = n.b; next = n.next; vs = n.vs; before = (m.0, n.before); step = n.step; enters = n.enters; after = n.after }

module _ (columns : ℕ) (s t : List (Option Line)) (w : IsTable s) (c : columns ≤ length s) (l : IsLoaded columns s) (g : IsGreatest columns s t)
    (to : (z : ℕ) → IsBasic s z → IsBasic t z) (from : (z : ℕ) → IsBasic t z → IsBasic s z) where
  wa : IsTable g.a
  wa = moving-table columns g.q s g.us g.a g.before w

  wn : IsTable g.next
  wn = step-table columns g.q g.a g.next g.step wa

  same_empty : (j : ℕ) → get_or s j None ≡ None → get_or t j None ≡ None
  same_empty j e = none_unless _ (λ r h. let n = from j (r, h) in not_both _ n.0 n.1 e)

  leaving : IsMove columns g.a g.q g.step.y
  leaving = let P : ℕ → Type 0 = λ x. IsMove columns g.a x g.step.y in subst P g.leaves g.step.move

  step-down : (j : ℕ) → g.q < j → get_or g.next j None ≡ None → get_or g.a j None ≡ None
  step-down j h e = moving-empty columns g.q g.a (g.next ∷ []) g.next (g.step, refl) j h e

  -- the end of the argument, at a moment where q enters
  ends : (b next : Lines) (k : IsMovingStep columns g.q b next) → k.y ≡ g.q → IsTable b → IsLoaded columns b
      → ((one : ℤ) (vs : List ℤ) → length vs ≡ length g.a → Holds one vs g.a → Holds one vs b)
      → ((j : ℕ) → g.q < j → get_or b j None ≡ None → get_or g.a j None ≡ None) → ⊥
  ends b next k e wb lb same above =
      let P : ℕ → Type 0 = λ y. IsMove columns b k.x y in
      bland columns g.a b wa wb same lb k.x g.q g.step.y leaving (subst P e k.move)
      (below (λ h. apart (h ∙ sym e))) above
    where
      apart : k.x ≡ k.y → ⊥
      apart h =
          let Q : ℕ → Type 0 = λ y. get_or b y None ≡ Some k.is.row in
          not_both _ k.is.row (subst Q h (pivot-leaving k.x k.y b next k.is).0) (pivot-entering k.x k.y b next k.is).0

      below : (k.x ≡ g.q → ⊥) → k.x < g.q
      below n = let h = k.small in at (let d : (k.x ≡ g.q) ⊎ (k.x < g.q) = grind arith in d)
        where
          at : (k.x ≡ g.q) ⊎ (k.x < g.q) → k.x < g.q
          at (inl i) = absurd (n i)
          at (inr i) = i

  left : get_or g.next g.q None ≡ None
  left = let P : ℕ → Type 0 = λ x. get_or g.next x None ≡ None in subst P g.leaves (pivot-left g.step.x g.step.y g.a g.next g.step.is)

  there_was : IsBasic g.a g.q
  there_was = (g.step.is.row, (let P : ℕ → Type 0 = λ x. get_or g.a x None ≡ Some g.step.is.row in subst P g.leaves (pivot-leaving g.step.x g.step.y g.a g.next g.step.is).0))

  length-a : length g.a ≡ length s
  length-a = moving-length columns g.q s g.us g.a g.before

  later : Enters columns g.q g.q g.next t → ⊥
  later n =
      ends n.b n.next n.step n.enters
      (moving-table columns g.q g.next n.us n.b n.before wn)
      (moving-loaded columns g.q g.next n.us n.b n.before wn (let a = length-a in let d = g.step.is.length_same in omega arith)
      (step-loaded columns g.q g.a g.next g.step wa (let a = length-a in omega arith) (moving-loaded columns g.q s g.us g.a g.before w c l)))
      (λ one vs k h. (moving-holds columns g.q g.next n.us n.b n.before wn one vs (k ∙ sym g.step.is.length_same)).0 (pivot-holds g.step.x g.step.y g.a g.next g.step.is wa one vs k h))
      (λ j h e. step-down j h (moving-empty columns g.q g.next n.us n.b n.before j h e))

  earlier : Enters columns g.q g.q s g.a → ⊥
  earlier n =
      let wb = moving-table columns g.q s n.us n.b n.before w in
      let lb = moving-length columns g.q s n.us n.b n.before in
      ends n.b n.next n.step n.enters wb
      (moving-loaded columns g.q s n.us n.b n.before w c l)
      (λ one vs k h.
      (let m : IsMoving columns g.q n.b (n.next ∷ n.vs) g.a = (n.step, n.after) in
      (moving-holds columns g.q n.b (n.next ∷ n.vs) g.a m wb one vs (k ∙ length-a ∙ sym lb)).1 h))
      (λ j h e. step-down j h (moving-empty columns g.q g.next g.vs t g.after j h (same_empty j (moving-empty columns g.q s n.us n.b n.before j h e))))

  comes_twice : ⊥
  comes_twice = by (basic_or_not (get_or s g.q None))
    where
      by : ((r : Line) × (get_or s g.q None ≡ Some r)) ⊎ (get_or s g.q None ≡ None) → ⊥
      by (inl h) = later (entered columns g.q g.q g.next g.vs t g.after left (to g.q h))
      by (inr h) = earlier (entered columns g.q g.q s g.us g.a g.before h there_was)

-- after one move or more another set of variables is basic
pub no_return : (columns bound : ℕ) (s r : List (Option Line)) (rs : List (List (Option Line))) (t : List (Option Line)) → IsTable s → columns ≤ length s → IsLoaded columns s
    → IsMoving columns bound s (r ∷ rs) t → ((z : ℕ) → IsBasic s z → IsBasic t z) → ((z : ℕ) → IsBasic t z → IsBasic s z) → ⊥
no_return columns bound s r rs t w c l m to from = comes_twice columns s t w c l (greatest columns bound s r rs t m) to from
