use Rattle.std.proofs.Common.{rules, FitsSigned, to_z-of_z, ◌≤◌, ◌∙◌, refl, sym, ap, arith, ℕ, pos, List, length, get_or, w64}
use Rattle.std.proofs.lemmas.List.{get_or_read}
use Rattle.std.proofs.lemmas.Option.{slice_get_read}
use Rattle.std.proofs.Math.Facts.{Fits-below}
use Rattle.node_probe.proofs.AssemblyLemmas.{next_few, next_assembled}
use Rattle.node_probe.proofs.assembling.certificate.Goals as goal

pub overflow_cast-len : goal.overflow_cast-len
overflow_cast-len c =
    let i = c.loop-entry.entry-index in
    let ms = c.args.multipliers.now in
    let faces = c.args.rows.now.faces.items in
    let known = c.requires.known i (0, pos 0) c.loop-entry-test.true in
    let face = get_or_read faces (get_or ms i (0, pos 0)).0 c.index-face.result.now (let k = c.requires.count in omega (arith, known, k)) c.index-face.ensures 0 in
    let item = ap (λ (ks : List ℕ). get_or ks c.index-face.result.now 0) (sym (c.as_slice-numbers.ensures ∙ c.key.view_is)) in
    let few = next_few c.args.key.now c.args.rows.now.folds.items faces c.requires.count c.requires.faces c.requires.within ms c.requires.known c.requires.rising i (0, pos 0)
    c.loop-entry-test.true c.loop-entry.parts.items c.loop-entry.terms.items c.loop-entry.invariant _ face item c.add_part.new.parts.items c.in_ok-add_part.ensures in
    let e = c.len.ensures in
    let b = c.requires.few in
    let v = c.add_part.new.parts.ok.0 in
    Fits-below tt (let r : c.len.result ≤ 4294967295 = omega (arith, few, e, b, v) in r)

pub loop-entry-preserved : goal.loop-entry-preserved
loop-entry-preserved c =
    let i = c.loop-entry.entry-index in
    let ms = c.args.multipliers.now in
    let faces = c.args.rows.now.faces.items in
    let rs = c.args.rows.now.folds.items in
    let known = c.requires.known i (0, pos 0) c.loop-entry-test.true in
    let face = get_or_read faces (get_or ms i (0, pos 0)).0 c.index-face.result.now (let k = c.requires.count in omega (arith, known, k)) c.index-face.ensures 0 in
    let item = ap (λ (ks : List ℕ). get_or ks c.index-face.result.now 0) (sym (c.as_slice-numbers.ensures ∙ c.key.view_is)) in
    next_assembled c.args.key.now rs faces c.requires.count c.requires.faces c.requires.within ms c.requires.known c.requires.rising i (0, pos 0)
    c.loop-entry-test.true c.loop-entry.parts.items c.loop-entry.terms.items c.loop-entry.invariant _ face item c.add_part.new.parts.items c.in_ok-add_part.ensures
    _ (let e = c.len.ensures in let v = c.add_part.new.parts.ok.0 in omega (arith, e, v)) (sym (slice_get_read rs (length rs) (get_or ms i (0, pos 0)).0 c.index.result.now refl known c.index.ensures))
    (let f : FitsSigned w64 (get_or ms i (0, pos 0)).1 = search rules in to_z-of_z f)
    c.push.new.self.items c.in_ok-push.ensures.items
