use Rattle.std.proofs.Common.{[], ◌∷◌, ◌++◌, length}
use Rattle.std.specs.Prelude.{codes}
use Rattle.std.proofs.lemmas.Result.{err_from_is_err_and}
use Rattle.io_edge.proofs.Texts.{writes_then, writes_exit}
use Rattle.ntfe_model.specs.RunText.{number_line}
use Rattle.ntfe_model.specs.FacesText.{numbered, point_line, face_line}
use Rattle.ntfe_run.proofs.commands.faces.write_faces.Goals as goal

pub returns-in_err-write_count : goal.returns-in_err-write_count
returns-in_err-write_count g c =
    let p = err_from_is_err_and c.from_residual.result c.from_residual.ensures.1 in
    let ps = c.points-points.result.now in
    let fs = c.faces-faces.result.now in
    let points = number_line (codes "points") (length ps ∷ []) in
    let point_lines = numbered point_line 1 ps in
    let faces = number_line (codes "faces") (length fs ∷ []) in
    let face_lines = numbered face_line 0 fs in
    rw (p.1, p.2, ← c.points-points.ensures.value, ← c.faces-faces.ensures.value)
    (writes_exit _ _ _ _ points (point_lines ++ (faces ++ face_lines)) _ c.in_err-write_count.ensures)

pub returns-in_err-write_numbered : goal.returns-in_err-write_numbered
returns-in_err-write_numbered g c =
    let p = err_from_is_err_and c.from_residual-in_err-write_numbered.result c.from_residual-in_err-write_numbered.ensures.1 in
    let ps = c.points-points.result.now in
    let fs = c.faces-faces.result.now in
    let points = number_line (codes "points") (length ps ∷ []) in
    let point_lines = numbered point_line 1 ps in
    let faces = number_line (codes "faces") (length fs ∷ []) in
    let face_lines = numbered face_line 0 fs in
    rw (p.1, p.2, ← c.points-points.ensures.value, ← c.faces-faces.ensures.value)
    (writes_then _ _ _ _ _ _ points (point_lines ++ (faces ++ face_lines)) _ c.in_ok-write_count.ensures
    (writes_exit _ _ _ _ point_lines (faces ++ face_lines) _ c.in_err-write_numbered.ensures))

pub returns-in_err-write_count-2 : goal.returns-in_err-write_count-2
returns-in_err-write_count-2 g c =
    let p = err_from_is_err_and c.from_residual-in_err-write_count-2.result c.from_residual-in_err-write_count-2.ensures.1 in
    let ps = c.points-points.result.now in
    let fs = c.faces-faces.result.now in
    let points = number_line (codes "points") (length ps ∷ []) in
    let point_lines = numbered point_line 1 ps in
    let faces = number_line (codes "faces") (length fs ∷ []) in
    let face_lines = numbered face_line 0 fs in
    rw (p.1, p.2, ← c.points-points.ensures.value, ← c.faces-faces.ensures.value)
    (writes_then _ _ _ _ _ _ points (point_lines ++ (faces ++ face_lines)) _ c.in_ok-write_count.ensures
    (writes_then _ _ _ _ _ _ point_lines (faces ++ face_lines) _ c.in_ok-write_numbered.ensures
    (writes_exit _ _ _ _ faces face_lines _ c.in_err-write_count-2.ensures)))

pub returns : goal.returns
returns g c =
    let ps = c.points-points.result.now in
    let fs = c.faces-faces.result.now in
    let points = number_line (codes "points") (length ps ∷ []) in
    let point_lines = numbered point_line 1 ps in
    let faces = number_line (codes "faces") (length fs ∷ []) in
    let face_lines = numbered face_line 0 fs in
    rw (← c.points-points.ensures.value, ← c.faces-faces.ensures.value)
    (writes_then _ _ _ _ _ _ points (point_lines ++ (faces ++ face_lines)) _ c.in_ok-write_count.ensures
    (writes_then _ _ _ _ _ _ point_lines (faces ++ face_lines) _ c.in_ok-write_numbered.ensures
    (writes_then _ _ _ _ _ _ faces face_lines _ c.in_ok-write_count-2.ensures c.write_numbered-2.ensures)))
