use Rattle.std.proofs.Common.{ℕ, ℤ, ◌≡◌, ◌≤◌, ◌∙◌, arith, sym, subst, unsigned_abs, w64, to_z, of_z, List, [], ◌∷◌, get_or, pos}
use Rattle.ntfe_nums.specs.Sizes.{AreWithin}
use Rattle.ntfe_nums.proofs.DetLemmas.{dotE, row}
use Rattle.ntfe_nums.proofs.Machine.{AreBounded, AreWithin-four, AreWithin-weaker, value-size}
use Rattle.ntfe_model.proofs.FlatLemmas.{word_back}
use Rattle.face_chart.proofs.segment.product.Goals as goal

abbrev vars : List ℤ → List ℤ → List ℤ
vars xs ys = get_or xs 0 (pos 0) ∷ get_or xs 1 (pos 0) ∷ get_or xs 2 (pos 0) ∷ get_or xs 3 (pos 0) ∷ get_or ys 0 (pos 0) ∷ get_or ys 1 (pos 0) ∷ get_or ys 2 (pos 0) ∷ get_or ys 3 (pos 0) ∷ []

abbrev bounds : List ℕ
bounds = 2046 ∷ 2046 ∷ 2046 ∷ 2046 ∷ 2046 ∷ 2046 ∷ 2046 ∷ 2046 ∷ []

bounded : (xs ys : List ℤ) → AreWithin 2046 xs → AreWithin 2046 ys → AreBounded (vars xs ys) bounds
bounded xs ys a b =
    let p = AreWithin-four 2046 xs a in
    let q = AreWithin-four 2046 ys b in
    (p 0, (p 1, (p 2, (p 3, (q 0, (q 1, (q 2, (q 3, tt))))))))

pub dot4-requires-clause-first : goal.dot4-requires-clause-first
dot4-requires-clause-first c = AreWithin-weaker 2046 1048576 c.args.d.now (omega arith) c.requires.first

pub dot4-requires-clause-second : goal.dot4-requires-clause-second
dot4-requires-clause-second c = AreWithin-weaker 2046 1048576 c.args.e.now (omega arith) c.requires.second

pub returns : goal.returns
returns c =
    let z = c.dot4.result in
    let P : ℤ → Type 0 = λ y. unsigned_abs y ≤ 16777216 in
    let v = value-size (vars c.args.d.now c.args.e.now) bounds (dotE (row 0) (row 4)) (bounded c.args.d.now c.args.e.now c.requires.first c.requires.second) in
    let s : unsigned_abs z ≤ 16777216 = subst P (sym c.dot4.ensures) (omega (arith, v)) in
    let b : to_z w64 (of_z w64 z) ≡ z = word_back z s in
    record { value = b ∙ c.dot4.ensures; size = subst P (sym b) s }
