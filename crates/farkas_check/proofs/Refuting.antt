-- A certificate refutes every choice that begins with the head that it blocks: the positive combination of positive folds is not zero.
use Rattle.std.proofs.Common.{◌≡◌, ℕ, zero, suc, ◌<◌, ◌≤◌, ◌⊎◌, inl, inr, sym, ap, ◌∙◌, subst, arith, ℤ, pos, negsuc, ◌+ℤ◌, ◌*ℤ◌, ◌<ℤ◌, ◌≤ℤ◌, List, [], ◌∷◌, length, get_or}
use Rattle.std.specs.Prelude.{All}
use Rattle.std.proofs.lemmas.Int.{ints}
use Rattle.std.proofs.lemmas.List.{get_or-take}
use Rattle.std.proofs.lemmas.List.Elements.{All-weaker, All-head, All-tail}
use Rattle.ntfe_model.specs.Shapes.{Shape, IsShape}
use Rattle.ntfe_model.specs.Charts.{Patch, patch_at, IsOf}
use Rattle.ntfe_model.specs.Words.{IsItem}
use Rattle.ntfe_model.specs.Choices.{IsExtendable, IsFoldOf, AreOpposite}
use Rattle.ntfe_model.specs.Certificates.{fold_coefficient, total_coefficient, part_at, no_part, IsTermOf, IsCertificate, IsBlockedBy}
use Rattle.ntfe_model.specs.Keys.{BeginsWith}
use Rattle.ntfe_model.specs.declared.triangulation.Triangulation.{Triangulation}
use Rattle.ntfe_model.specs.declared.nogood.Fold.{Fold}
use Rattle.ntfe_model.specs.declared.nogood.Term.{Term}
use Rattle.ntfe_model.specs.declared.nogood.Part.{Part}
use Rattle.ntfe_model.specs.declared.nogood.Nogood.{Nogood}
use Rattle.ntfe_model.proofs.GeometryPoints.{point_within}
use Rattle.ntfe_model.proofs.Folds.{unit_corner}
use Rattle.ntfe_model.proofs.FoldPlanes.{above_gives_folds}
use Rattle.farkas_check.proofs.Sums.{value, value_zero, HasPoints, fold_is_value, sum_of, total_value}

-- ---- the points of a fold are numbered from 1

fold_points : (g : Shape) → IsShape g → (f : ℕ) → f < length g.faces → (x : Triangulation) (n : ℕ) → IsItem (patch_at g f) n x → (r : Fold) → IsFoldOf (patch_at g f) x r → HasPoints r
fold_points g s f within x n item r k = by k.opposite
  where
    h : Patch
    h = patch_at g f

    of : (c d : ℕ) → AreOpposite x.triangles r.a r.b c d → (1 ≤ r.a) × (1 ≤ r.b) × (1 ≤ c) × (1 ≤ d)
    of c d o =
        let u = unit_corner h o.0 r.a r.b c (item.is.fine.unit o.0 o.2) o.4 in
        let v = unit_corner h o.1 r.b r.a d (item.is.fine.unit o.1 o.3) o.5 in
        let one = λ (a : ℕ) (o : IsOf (patch_at g f) a). (point_within g s f within a o).0 in
        (one r.a u.points.0, one r.b u.points.1, one c u.points.2, one d v.points.2)

    by : AreOpposite x.triangles r.a r.b r.c r.d ⊎ AreOpposite x.triangles r.a r.b r.d r.c → HasPoints r
    by (inl o) = let p = of r.c r.d o in record { a = p.0; b = p.1; c = p.2; d = p.3 }
    by (inr o) = let p = of r.d r.c o in record { a = p.0; b = p.1; c = p.3; d = p.2 }

-- ---- the sum of the terms is positive

positive_product : (x y : ℤ) → pos 1 ≤ℤ x → pos 0 <ℤ y → pos 0 <ℤ (x *ℤ y)
positive_product (pos zero) y h k = absurd (omega (arith, ints, h))
positive_product (pos (suc m)) (pos zero) h k = absurd (omega (arith, ints, k))
positive_product (pos (suc m)) (pos (suc n)) h k = omega (arith, ints)
positive_product (pos (suc m)) (negsuc n) h k = absurd (omega (arith, ints, k))
positive_product (negsuc m) y h k = absurd (omega (arith, ints, h))

sum_positive : (ts : List Term) (f : Term → ℤ) → 0 < length ts → All (λ t. pos 0 <ℤ f t) ts → pos 0 <ℤ sum_of ts f
sum_positive [] f l a = absurd (omega (arith, l))
sum_positive (t ∷ []) f l a = let p = All-head (λ u. pos 0 <ℤ f u) t [] a in last (f t) p
  where
    last : (x : ℤ) → pos 0 <ℤ x → pos 0 <ℤ (x +ℤ pos 0)
    last x p = omega (arith, ints, p)
sum_positive (t ∷ u ∷ ts) f l a =
    both (f t) (sum_of (u ∷ ts) f) (All-head (λ v. pos 0 <ℤ f v) t (u ∷ ts) a) (sum_positive (u ∷ ts) f (omega arith) (All-tail (λ v. pos 0 <ℤ f v) t (u ∷ ts) a))
  where
    both : (x y : ℤ) → pos 0 <ℤ x → pos 0 <ℤ y → pos 0 <ℤ (x +ℤ y)
    both x y p q = omega (arith, ints, p, q)

-- ---- the refutation

-- a choice that begins with the head has the certificate's item at the part
part_taken : (key choice : List ℕ) (p : Part) → (p.face < length key) × (get_or key p.face 0 ≡ p.item) → BeginsWith key choice → get_or choice p.face 0 ≡ p.item
part_taken key choice p h b = sym (get_or-take (length key) choice p.face 0 h.0) ∙ ap (λ (ns : List ℕ). get_or ns p.face 0) b ∙ h.1

-- no extendable choice begins with the head that a certificate blocks
pub blocked_refuted : (g : Shape) (n : Nogood) (key choice : List ℕ) → IsShape g → IsCertificate g n → IsBlockedBy key n → BeginsWith key choice → IsExtendable g choice → ⊥
blocked_refuted g n key choice s cert blocked begins e =
    clash (sum_of n.terms f) (sum_positive n.terms f cert.some (All-weaker (IsTermOf g n) (λ t. pos 0 <ℤ f t) positive n.terms cert.terms)) (sym (total_value w n.terms) ∙ cancels)
  where
    w : List ℤ
    w = e.heights

    f : Term → ℤ
    f t = t.times *ℤ value w 1 (fold_coefficient t.fold)

    clash : (x : ℤ) → pos 0 <ℤ x → x ≡ pos 0 → ⊥
    clash x l q = absurd (omega (arith, ints, l, q))

    cancels : value w 1 (total_coefficient n.terms) ≡ pos 0
    cancels = value_zero w 1 (total_coefficient n.terms) (λ j l m. cert.cancel j (l, (let h = e.extends.heights in omega (arith, m, h))))

    positive : (t : Term) → IsTermOf g n t → pos 0 <ℤ f t
    positive t k =
        let p = part_at n t.part in
        let in_face : (p.face < length g.faces) × _ = cert.items t.part no_part k.part in
        let taken = part_taken key choice p (blocked t.part no_part k.part) begins in
        let item : IsItem (patch_at g p.face) (get_or choice p.face 0) k.item = subst (λ (m : ℕ). IsItem (patch_at g p.face) m k.item) (sym taken) k.is_item in
        let regular = e.extends.lifts p.face in_face.0 k.item item in
        let value_is = fold_is_value w t.fold (fold_points g s p.face in_face.0 k.item p.item k.is_item t.fold k.fold) in
        positive_product t.times (value w 1 (fold_coefficient t.fold)) k.times
        (subst (λ (x : ℤ). pos 0 <ℤ x) (sym value_is) (above_gives_folds (patch_at g p.face) w k.item k.is_item.is.fine regular t.fold k.fold))
