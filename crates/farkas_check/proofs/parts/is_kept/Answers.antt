use Rattle.std.proofs.Common.{◌≡◌, subst, ◌<◌, ap, ◌∙◌, sym, arith, true, length, Option, Some, None, Bor, is_some, MatchOption}
use Rattle.ntfe_model.specs.declared.triangulation.Triangulation.{Triangulation}
use Rattle.ntfe_model.specs.Shapes.{Shape}
use Rattle.ntfe_model.specs.Charts.{patch_at}
use Rattle.ntfe_model.specs.Words.{IsItem}
use Rattle.ntfe_model.specs.declared.nogood.Part.{Part}
use Rattle.farkas_check.specs.Parts.{HasItemOf}
use Rattle.farkas_check.proofs.parts.is_kept.Goals as goal

-- what is found is kept
found : (o : Option (Bor Triangulation)) (k : Option Triangulation) → MatchOption o (k ≡ None) (λ x. k ≡ Some x.now) → is_some o ≡ true → (x : Triangulation) × (k ≡ Some x)
found None k m e = cc
found (Some x) k m e = (x.now, m)

pub returns-clause-when_true : goal.returns-clause-when_true
returns-clause-when_true g c = λ e. (
  (let f = c.if-part-faces.false in let n = ap length c.faces.ensures.value in omega (arith, f, n)),
  c.if-part-gt-ITEM_LIMIT.false,
  found c.kept.result (g.B.Book.keeps c.args.book.now c.args.part.now.face c.args.part.now.item) c.kept.ensures.value (sym c.is_some.ensures ∙ e),
)

-- what is found is an item
found_with : (P : Triangulation → Type 0) (o : Option (Bor Triangulation)) → MatchOption o (Unit {0}) (λ x. P x.now) → is_some o ≡ true → (x : Triangulation) × P x
found_with P None m e = cc
found_with P (Some x) m e = (x.now, m)

item_of : (b g : Shape) (p : Part) → b ≡ g → p.face < length g.faces → (x : Triangulation) × IsItem (patch_at b p.face) p.item x → HasItemOf g p
item_of b g p q l f = let P : Shape → Type 0 = λ h. IsItem (patch_at h p.face) p.item f.0 in (l, (l, (f.0, subst P q f.1)))

pub returns-clause-exists : goal.returns-clause-exists
returns-clause-exists g c = λ e.
    let b = g.B.Book.shape c.args.book.now in
    let p = c.args.part.now in
    item_of b c.args.geometry.now p c.requires (let f = c.if-part-faces.false in let n = ap length c.faces.ensures.value in omega (arith, f, n))
    (found_with (IsItem (patch_at b p.face) p.item) c.kept.result c.kept.ensures.item (sym c.is_some.ensures ∙ e))
