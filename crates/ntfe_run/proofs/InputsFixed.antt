-- The bytes of an input are those of one input only.
use Rattle.std.proofs.Common.{◌≡◌, ◌≢◌, ◌∙◌, refl, sym, ap, subst, arith, ℕ, ◌+◌, ◌<◌, ◌≤◌, ℤ, pos, ◌+ℤ◌, ◌-ℤ◌, ◌*ℤ◌, ◌≤ℤ◌, List, ◌++◌, length, Some, None}
use Rattle.std.specs.Prelude.{Option, All, Any}
use Rattle.std.proofs.lemmas.Int.{ints}
use Rattle.std.proofs.lemmas.List.{append-nil, length-append}
use Rattle.io_edge.specs.Reading.{ReadsAll, ReadsPast}
use Rattle.ntfe_nums.specs.Vectors.{Vector, Precedes, coordinate}
use Rattle.ntfe_model.specs.Lists.{IsBefore2}
use Rattle.ntfe_model.specs.Pairs.{VertexLists}
use Rattle.ntfe_model.specs.PairText.{lines_of}
use Rattle.ntfe_model.specs.Points.{IsPointOf, ArePoints, IsFaceOf, AreFaces, IsBoxSide, AreColumns}
use Rattle.ntfe_model.specs.Reflexive.{IsReflexive}
use Rattle.ntfe_model.specs.Shapes.{Shape, IsShape}
use Rattle.ntfe_model.specs.declared.point.Point.{Point}
use Rattle.ntfe_model.specs.declared.face.Face.{Face}
use Rattle.ntfe_model.proofs.Listings.{listing_unique}
use Rattle.pair_text.proofs.Unique.{pair_fixed, pair_cause}
use Rattle.reflexive_pair.proofs.CauseLemmas.{fault_refutes}
use Rattle.lattice_points.specs.Faults.{HasFewColumns, HasColumnsOver, HasPointsOver, HasCause}
use Rattle.lattice_points.specs.declared.fault.PointFault.{PointFault}
use Rattle.lattice_points.specs.declared.fault.PointFault.TheVariants as point
use Rattle.ntfe_run.specs.Inputs.{IsInputOf, IsRefusalOf}
use Rattle.ntfe_run.specs.declared.status.Refusal.{Refusal}
use Rattle.ntfe_run.specs.declared.status.Refusal.TheVariants.{Size, NoOutput, Text, Pair, Points, Earlier}
use Rattle.ntfe_model.proofs.Orders.{precedes_once, before_once}

-- ---- what was read

pub read_fixed : (bs cs : List ℕ) (left : Option (List ℕ)) (n : ℕ) → ReadsAll (Some bs) left cs n → cs ≡ bs
read_fixed bs cs None n r = absurd r.taken
read_fixed bs cs (Some ys) n r = sym (append-nil cs) ∙ ap (λ zs. cs ++ zs) (sym r.end) ∙ sym r.taken

pub not_past : (bs : List ℕ) (left : Option (List ℕ)) (n : ℕ) → length bs ≤ n → ReadsPast (Some bs) left n → ⊥
not_past bs None n l r = absurd r.taken
not_past bs (Some ys) n l r =
    let e : length bs ≡ length r.bytes + length ys = ap length r.taken ∙ length-append r.bytes ys in
    let o : length r.bytes ≡ n + 1 = r.one_more in
    omega (arith, l, e, o)

-- ---- the points and the two-faces

points_fixed : (p : VertexLists) (xs ys : List Point) → ArePoints p xs → ArePoints p ys → xs ≡ ys
points_fixed p xs ys h k = listing_unique (λ x y. Precedes x.place y.place) (IsPointOf p) (λ x y a b. precedes_once x.place y.place a b) xs ys h k

faces_fixed : (p : VertexLists) (xs : List Point) (fs gs : List Face) → AreFaces p xs fs → AreFaces p xs gs → fs ≡ gs
faces_fixed p xs fs gs h k =
    listing_unique (λ f g. IsBefore2 f.first f.second g.first g.second) (IsFaceOf p xs) (λ f g a b. before_once f.first f.second g.first g.second a b) fs gs h k

pub shape_fixed : (g h : Shape) → g.pair ≡ h.pair → IsShape g → IsShape h → g ≡ h
shape_fixed g h e s t =
    let p : g.points ≡ h.points = points_fixed h.pair g.points h.points (subst (λ (q : VertexLists). ArePoints q g.points) e s.points) t.points in
    let f : g.faces ≡ h.faces =
    faces_fixed h.pair h.points g.faces h.faces (subst (λ (xs : List Point). AreFaces h.pair xs g.faces) p (subst (λ (q : VertexLists). AreFaces q g.points g.faces) e s.faces)) t.faces in
    λ i. record { pair = e i; points = p i; faces = f i }

pub input_fixed : (bytes : List ℕ) (g h : Shape) → IsInputOf bytes g → IsInputOf bytes h → g ≡ h
input_fixed bytes g h i j = shape_fixed g h (pair_fixed g.pair h.pair (lines_of bytes) i.text j.text) i.shape j.shape

-- ---- the box

low_under : (vs : List Vector) (k : ℕ) (a b : ℤ) → All (λ v. a ≤ℤ coordinate k v) vs → Any (λ v. coordinate k v ≡ b) vs → a ≤ℤ b
low_under vs k a b l (i, v, h, e, same) = subst (λ (z : ℤ). a ≤ℤ z) same (subst (λ (w : Vector). a ≤ℤ coordinate k w) e (l i v h))

high_over : (vs : List Vector) (k : ℕ) (a b : ℤ) → All (λ v. coordinate k v ≤ℤ a) vs → Any (λ v. coordinate k v ≡ b) vs → b ≤ℤ a
high_over vs k a b l (i, v, h, e, same) = subst (λ (z : ℤ). z ≤ℤ a) same (subst (λ (w : Vector). coordinate k w ≤ℤ a) e (l i v h))

equal_both : (a b : ℤ) → a ≤ℤ b → b ≤ℤ a → a ≡ b
equal_both a b h k = omega (arith, ints, h, k)

side_fixed : (vs : List Vector) (k : ℕ) (x y : ℤ) → IsBoxSide vs k x → IsBoxSide vs k y → x ≡ y
side_fixed vs k x y s t =
    let low = equal_both s.low t.low (low_under vs k s.low t.low s.least t.lowest) (low_under vs k t.low s.low t.least s.lowest) in
    let high = equal_both s.high t.high (high_over vs k t.high s.high t.greatest s.highest) (high_over vs k s.high t.high s.greatest t.highest) in
    s.side_is ∙ (λ i. high i -ℤ low i +ℤ pos 1) ∙ sym t.side_is

columns_fixed : (vs : List Vector) (m n : ℤ) → AreColumns vs m → AreColumns vs n → m ≡ n
columns_fixed vs m n (a, b, c, s, t, u, e) (a', b', c', s', t', u', e') =
    e ∙ (λ i. side_fixed vs 1 a a' s s' i *ℤ side_fixed vs 2 b b' t t' i *ℤ side_fixed vs 3 c c' u u' i) ∙ sym e'

-- ---- an input is not refused

not_wide : (vs : List Vector) (n : ℕ) → HasFewColumns vs → HasColumnsOver vs n → ⊥
not_wide vs n f o =
    let e : f.columns ≡ pos n = columns_fixed vs f.columns (pos n) f.are o.are in
    let few : f.columns ≤ℤ pos 16777216 = f.few in
    let over : 16777216 < n = o.over in
    omega (arith, ints, e, few, over)

not_many : (g : Shape) (n : ℕ) → IsShape g → HasPointsOver g.pair n → ⊥
not_many g n s o =
    let e = ap length (points_fixed g.pair o.points g.points o.are s.points) in
    let few : length g.points ≤ 400 = s.few in
    let count : n ≡ length o.points = o.count in
    let over : 400 < n = o.over in
    omega (arith, e, few, count, over)

no_point_fault : (g : Shape) (fault : PointFault) → IsShape g → HasFewColumns g.pair.vertices → fault ≢ point.Memory → HasCause g.pair fault → ⊥
no_point_fault g (point.TooWide n) s f other c = not_wide g.pair.vertices n f c
no_point_fault g (point.TooMany n) s f other c = not_many g n s c.1
no_point_fault g point.Memory s f other c = other refl

pub not_refused : (bytes : List ℕ) (g : Shape) (refusal : Refusal) → IsInputOf bytes g → IsRefusalOf bytes refusal → ⊥
not_refused bytes g (Text fault) i r = r.1 (pair_cause g.pair (lines_of bytes) fault i.text r.0)
not_refused bytes g (Pair fault) i r =
    fault_refutes r.pair fault r.holds (let e = pair_fixed g.pair r.pair (lines_of bytes) i.text r.text in subst IsReflexive e i.shape.reflexive)
not_refused bytes g (Points fault) i r =
    let e = pair_fixed r.0.pair g.pair (lines_of bytes) r.0.text i.text in
    no_point_fault g fault i.shape i.narrow r.1 (subst (λ (p : VertexLists). HasCause p fault) e r.0.holds.1)
not_refused bytes g (Size limit) i r = r
not_refused bytes g NoOutput i r = r
not_refused bytes g (Earlier fault) i r = r
