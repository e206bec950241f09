use Rattle.std.proofs.Common.{◌≡◌, sym, subst, refl, List}
use Rattle.ntfe_model.specs.Shapes.{Shape}
use Rattle.ntfe_model.specs.Charts.{patch_at}
use Rattle.ntfe_model.specs.Words.{IsItem}
use Rattle.ntfe_model.specs.declared.point.Point.{Point}
use Rattle.ntfe_model.specs.declared.triangle.Triangle.{Triangle}
use Rattle.ntfe_model.specs.declared.triangulation.Triangulation.{Triangulation}
use Rattle.ntfe_model.specs.declared.nogood.Part.{Part}
use Rattle.ntfe_model.specs.declared.nogood.Fold.{Fold}
use Rattle.farkas_check.specs.Folds.{HasThirds, HasSmallPoints, IsBalanced}
use Rattle.farkas_check.proofs.BalanceLemmas.{two_from_word, two_to_word}
use Rattle.farkas_check.proofs.PartFolds.{fold_of_item, part_factors, thirds_points, points_small, part_balance, part_fold}
use Rattle.farkas_check.proofs.folds.is_fold.Goals as goal

-- what is read in the book and in the lists that were lent
held : (b g : Shape) (p : Part) (x : Triangulation) → b ≡ g → IsItem (patch_at b p.face) p.item x → IsItem (patch_at g p.face) p.item x
held b g p x e i = let P : Shape → Type 0 = λ h. IsItem (patch_at h p.face) p.item x in subst P e i

thirds_of : (ts us : List Triangle) (r : Fold) → ts ≡ us → HasThirds ts r → HasThirds us r
thirds_of ts us r e h = let P : List Triangle → Type 0 = λ vs. HasThirds vs r in subst P e h

balanced_in : (xs ys : List Point) (r : Fold) → xs ≡ ys → IsBalanced xs r → IsBalanced ys r
balanced_in xs ys r e h = let P : List Point → Type 0 = λ zs. IsBalanced zs r in subst P e h

small_in : (xs ys : List Point) (r : Fold) → xs ≡ ys → HasSmallPoints xs r → HasSmallPoints ys r
small_in xs ys r e h = let P : List Point → Type 0 = λ zs. HasSmallPoints zs r in subst P e h

pub returns-then-not-has_small_factors-clause-when_false : goal.returns-then-not-has_small_factors-clause-when_false
returns-then-not-has_small_factors-clause-when_false g c = λ e k.
    let p = c.args.part.now in
    let x = c.in-Some.item.now in
    c.if-not-has_small_factors.ensures.when_false refl
    (part_factors c.args.geometry.now c.points-points.ensures.shape p c.requires.kept.0 x (held _ _ p x c.requires.shape c.in-Some.ensures.item) c.args.fold.now k)

pub returns-then-fold-ne2-clause-when_false : goal.returns-then-fold-ne2-clause-when_false
returns-then-fold-ne2-clause-when_false g c = λ e k.
    let r = c.args.fold.now in
    let s = c.if-not-has_small_factors.ensures.when_true refl in
    c.if-fold-ne2.true (two_to_word r.alpha r.beta s.0 s.1 k.2.two)

pub returns-then-not-has_thirds-clause-when_false : goal.returns-then-not-has_thirds-clause-when_false
returns-then-not-has_thirds-clause-when_false g c = λ e k.
    let p = c.args.part.now in
    let x = c.in-Some.item.now in
    let i = held _ _ p x c.requires.shape c.in-Some.ensures.item in
    c.if-not-has_thirds.ensures.when_false refl
    (thirds_of _ _ c.args.fold.now (sym c.as_slice.ensures) (fold_of_item c.args.geometry.now c.points-points.ensures.shape p c.requires.kept.0 x i c.args.fold.now k).opposite)

pub is_balanced-requires-clause-points : goal.is_balanced-requires-clause-points
is_balanced-requires-clause-points g c =
    let p = c.args.part.now in
    let x = c.in-Some.item.now in
    let r = c.args.fold.now in
    let i = held _ _ p x c.requires.shape c.in-Some.ensures.item in
    let s = c.points-points.ensures.shape in
    let h = thirds_of _ _ r c.as_slice.ensures (c.if-not-has_thirds.ensures.when_true refl) in
    small_in _ _ r (sym c.points-points.ensures.value) (points_small c.args.geometry.now s p c.requires.kept.0 x i r (thirds_points c.args.geometry.now s p c.requires.kept.0 x i r h))

pub returns-clause-when_true : goal.returns-clause-when_true
returns-clause-when_true g c = λ e.
    let p = c.args.part.now in
    let x = c.in-Some.item.now in
    let r = c.args.fold.now in
    let i = held _ _ p x c.requires.shape c.in-Some.ensures.item in
    let s = c.points-points.ensures.shape in
    let l = c.if-not-has_small_factors.ensures.when_true refl in
    let h = thirds_of _ _ r c.as_slice.ensures (c.if-not-has_thirds.ensures.when_true refl) in
    part_fold c.args.geometry.now s p c.requires.kept.0 x i r (thirds_points c.args.geometry.now s p c.requires.kept.0 x i r h) c.if-fold.false c.if-fold-2.false
    (two_from_word r.alpha r.beta l.0 l.1 c.if-fold-ne2.false) h (balanced_in _ _ r c.points-points.ensures.value (c.is_balanced.ensures.when_true e))

pub returns-clause-when_false : goal.returns-clause-when_false
returns-clause-when_false g c = λ e k.
    let p = c.args.part.now in
    let x = c.in-Some.item.now in
    let r = c.args.fold.now in
    let i = held _ _ p x c.requires.shape c.in-Some.ensures.item in
    let s = c.points-points.ensures.shape in
    let h = thirds_of _ _ r c.as_slice.ensures (c.if-not-has_thirds.ensures.when_true refl) in
    c.is_balanced.ensures.when_false e
    (balanced_in _ _ r (sym c.points-points.ensures.value) (part_balance c.args.geometry.now s p c.requires.kept.0 x i r (thirds_points c.args.geometry.now s p c.requires.kept.0 x i r h) k))
