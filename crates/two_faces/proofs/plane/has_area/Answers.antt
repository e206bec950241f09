use Rattle.std.proofs.Common.{◌∙◌, sym, refl, w64}
use Rattle.ntfe_nums.proofs.Ring.Expression.{var, minus}
use Rattle.ntfe_nums.proofs.Machine.{fits}
use Rattle.ntfe_model.proofs.SmallVectors.{small_coordinates}
use Rattle.two_faces.proofs.PlaneLemmas.{vars, bounds, bounded, leftE, rightE, areaE, area_true, area_false, area_from, plane_from}
use Rattle.two_faces.proofs.plane.has_area.Goals as goal

pub overflow_sub-result : goal.overflow_sub-result
overflow_sub-result c =
    let x = c.coordinates-a in
    let y = c.coordinates-b in
    let z = c.coordinates-c in
    fits w64 (vars x.result.now y.result.now z.result.now c.args.p c.args.q) bounds
    (bounded x.result.now y.result.now z.result.now c.args.p c.args.q (small_coordinates c.args.a.now x.result.now c.requires.first x.ensures.list) (small_coordinates c.args.b.now y.result.now c.requires.second y.ensures.list)
    (small_coordinates c.args.c.now z.result.now c.requires.third z.ensures.list)) (minus (var 2) (var 0)) refl

pub overflow_sub-result-2 : goal.overflow_sub-result-2
overflow_sub-result-2 c =
    let x = c.coordinates-a in
    let y = c.coordinates-b in
    let z = c.coordinates-c in
    fits w64 (vars x.result.now y.result.now z.result.now c.args.p c.args.q) bounds
    (bounded x.result.now y.result.now z.result.now c.args.p c.args.q (small_coordinates c.args.a.now x.result.now c.requires.first x.ensures.list) (small_coordinates c.args.b.now y.result.now c.requires.second y.ensures.list)
    (small_coordinates c.args.c.now z.result.now c.requires.third z.ensures.list)) (minus (var 5) (var 1)) refl

pub overflow_mul-result : goal.overflow_mul-result
overflow_mul-result c =
    let x = c.coordinates-a in
    let y = c.coordinates-b in
    let z = c.coordinates-c in
    fits w64 (vars x.result.now y.result.now z.result.now c.args.p c.args.q) bounds
    (bounded x.result.now y.result.now z.result.now c.args.p c.args.q (small_coordinates c.args.a.now x.result.now c.requires.first x.ensures.list) (small_coordinates c.args.b.now y.result.now c.requires.second y.ensures.list)
    (small_coordinates c.args.c.now z.result.now c.requires.third z.ensures.list)) (leftE) refl

pub overflow_sub-result-3 : goal.overflow_sub-result-3
overflow_sub-result-3 c =
    let x = c.coordinates-a in
    let y = c.coordinates-b in
    let z = c.coordinates-c in
    fits w64 (vars x.result.now y.result.now z.result.now c.args.p c.args.q) bounds
    (bounded x.result.now y.result.now z.result.now c.args.p c.args.q (small_coordinates c.args.a.now x.result.now c.requires.first x.ensures.list) (small_coordinates c.args.b.now y.result.now c.requires.second y.ensures.list)
    (small_coordinates c.args.c.now z.result.now c.requires.third z.ensures.list)) (minus (var 3) (var 1)) refl

pub overflow_sub-result-4 : goal.overflow_sub-result-4
overflow_sub-result-4 c =
    let x = c.coordinates-a in
    let y = c.coordinates-b in
    let z = c.coordinates-c in
    fits w64 (vars x.result.now y.result.now z.result.now c.args.p c.args.q) bounds
    (bounded x.result.now y.result.now z.result.now c.args.p c.args.q (small_coordinates c.args.a.now x.result.now c.requires.first x.ensures.list) (small_coordinates c.args.b.now y.result.now c.requires.second y.ensures.list)
    (small_coordinates c.args.c.now z.result.now c.requires.third z.ensures.list)) (minus (var 4) (var 0)) refl

pub overflow_mul-result-2 : goal.overflow_mul-result-2
overflow_mul-result-2 c =
    let x = c.coordinates-a in
    let y = c.coordinates-b in
    let z = c.coordinates-c in
    fits w64 (vars x.result.now y.result.now z.result.now c.args.p c.args.q) bounds
    (bounded x.result.now y.result.now z.result.now c.args.p c.args.q (small_coordinates c.args.a.now x.result.now c.requires.first x.ensures.list) (small_coordinates c.args.b.now y.result.now c.requires.second y.ensures.list)
    (small_coordinates c.args.c.now z.result.now c.requires.third z.ensures.list)) (rightE) refl

pub overflow_sub-result-5 : goal.overflow_sub-result-5
overflow_sub-result-5 c =
    let x = c.coordinates-a in
    let y = c.coordinates-b in
    let z = c.coordinates-c in
    fits w64 (vars x.result.now y.result.now z.result.now c.args.p c.args.q) bounds
    (bounded x.result.now y.result.now z.result.now c.args.p c.args.q (small_coordinates c.args.a.now x.result.now c.requires.first x.ensures.list) (small_coordinates c.args.b.now y.result.now c.requires.second y.ensures.list)
    (small_coordinates c.args.c.now z.result.now c.requires.third z.ensures.list)) (areaE) refl

pub returns : goal.returns
returns c =
    let x = c.coordinates-a in
    let y = c.coordinates-b in
    let z = c.coordinates-c in
    let a = small_coordinates c.args.a.now x.result.now c.requires.first x.ensures.list in
    let b = small_coordinates c.args.b.now y.result.now c.requires.second y.ensures.list in
    let d = small_coordinates c.args.c.now z.result.now c.requires.third z.ensures.list in
    let p = c.args.p in
    let q = c.args.q in
    let e = area_from c.args.a.now c.args.b.now c.args.c.now x.result.now y.result.now z.result.now p q x.ensures.list y.ensures.list z.ensures.list in
    record {
      when_true = λ t. plane_from c.args.a.now c.args.b.now c.args.c.now p q c.requires.places c.requires.known (λ u. area_true x.result.now y.result.now z.result.now p q a b d t (sym e ∙ u));
      when_false = λ t. e ∙ area_false x.result.now y.result.now z.result.now p q a b d t;
    }
