-- How many two-faces there are at most.
use Rattle.std.proofs.Common.{ℕ, ◌+◌, ◌*◌, ◌<◌, ◌≤◌, inl, inr, arith, List, [], ◌∷◌, length, get_or}
use Rattle.std.specs.Prelude.{All, AllPairs}
use Rattle.std.proofs.lemmas.List.Elements.{All-head, All-tail}
use Rattle.ntfe_model.specs.Lists.{IsBefore2}
use Rattle.ntfe_model.specs.Shapes.{Shape, IsShape}
use Rattle.ntfe_model.specs.declared.face.Face.{Face}
use Rattle.ntfe_model.proofs.Listings.{AllPairs-head, AllPairs-tail}

-- a list whose codes rise, from m on and below b
pub codes_count : {X : Type 0} (code : X → ℕ) (b m : ℕ) (xs : List X) → AllPairs (λ x y. code x < code y) xs → All (λ x. (m ≤ code x) × (code x < b)) xs → m ≤ b → length xs + m ≤ b
codes_count code b m [] r a l = omega (arith, l)
codes_count {X} code b m (x ∷ xs) r a l =
    let h = All-head (λ y. (m ≤ code y) × (code y < b)) x xs a in
    let t = All-tail (λ y. (m ≤ code y) × (code y < b)) x xs a in
    let k = codes_count code b (code x + 1) xs (AllPairs-tail (λ y z. code y < code z) x xs r) (above t (AllPairs-head (λ y z. code y < code z) x xs r)) (let u = h.1 in omega (arith, u)) in
    let v = h.0 in
    omega (arith, k, v)
  where
    above : All (λ y. (m ≤ code y) × (code y < b)) xs → All (λ y. code x < code y) xs → All (λ y. (code x + 1 ≤ code y) × (code y < b)) xs
    above p q i d n = ((let u = q i d n in omega (arith, u)), (p i d n).1)

-- ---- two-faces

face_order : (a b i j : ℕ) → b ≤ 64 → IsBefore2 a b i j → a * 65 + b < i * 65 + j
face_order a b i j l (inl h) = omega (arith, l, h)
face_order a b i j l (inr (e, h)) = omega (arith, e, h)

pub faces_few : (g : Shape) → IsShape g → length g.faces ≤ 4225
faces_few g s =
    let c = codes_count (λ (f : Face). f.first * 65 + f.second) 4225 0 g.faces
    (λ i j d l m. face_order (get_or g.faces i d).first (get_or g.faces i d).second (get_or g.faces j d).first (get_or g.faces j d).second (let k = range i d (omega (arith, l, m)) in k.1) (s.faces.ordered i j d l m))
    (λ i d l. let k = range i d l in let p = k.0 in let q = k.1 in (omega arith, omega (arith, p, q)))
    (omega arith) in
    omega (arith, c)
  where
    range : (i : ℕ) (d : Face) → i < length g.faces → ((get_or g.faces i d).first ≤ 64) × ((get_or g.faces i d).second ≤ 64)
    range i d l =
        let o = (s.faces.sound i d l).meet.ordered in
        let few = s.bounded.dual.at_most in
        let p = o.1 in
        let q = o.2 in
        (omega (arith, few, p, q), omega (arith, few, q))
