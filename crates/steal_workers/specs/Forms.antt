-- The form of the text of the classes.
use Rattle.std.specs.Prelude.{◌≡◌, length}
use Rattle.ntfe_model.specs.Shapes.{Shape}
use Rattle.class_text.specs.declared.form.TextForm.{TextForm}

-- what the writers take is of this geometry
pub record IsFormOf (g : Shape) (form : TextForm) : Type 0 where
  pub pair : form.pair ≡ g.pair
  pub points : form.points ≡ length g.points
  pub faces : form.faces ≡ length g.faces
