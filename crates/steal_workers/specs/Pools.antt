-- A pool of workers.
use Rattle.std.specs.Prelude.{◌≡◌, ℕ, ◌≤◌, List, Option}
use Rattle.ntfe_model.specs.Shapes.{Shape}
use Rattle.ntfe_model.specs.Keys.{IsStart}
use Rattle.class_text.specs.Forms.{form_of}
use Rattle.class_text.specs.declared.form.TextForm.{TextForm}
use Rattle.steal_workers.specs.Listings.{Listed}
use Rattle.steal_workers.specs.Probing.{Probes}

-- what a pool lists: the classes of a geometry after a start, with solver numbers below 2^width in size
pub record Pooled : Type 0 where
  pub geometry : Shape
  pub start : Option (List ℕ)
  pub width : ℕ

-- it begins at a choice of its geometry, if at any, and its shelf has the items of its geometry
pub record IsPooled (p : Pooled) (items : Shape) : Type 0 where
  pub start : IsStart p.geometry p.start
  pub low : 1 ≤ p.width
  pub high : p.width ≤ 62
  pub shelf : items ≡ p.geometry

-- what its server lists, in a form, up to a limit
abbrev pub listed_by : Pooled → TextForm → Option ℕ → Listed
listed_by p form limit = record { geometry = p.geometry; form = form_of form; kept = form.kept; start = p.start; limit = limit; width = p.width }

-- what its workers probe
abbrev pub probes_of : Pooled → Probes
probes_of p = record { geometry = p.geometry; width = p.width }

-- the listing is of its geometry, start and width
pub record IsListedBy (p : Pooled) (l : Listed) : Type 0 where
  pub geometry : l.geometry ≡ p.geometry
  pub start : l.start ≡ p.start
  pub width : l.width ≡ p.width
