use Rattle.std.proofs.Common.{◌≡◌, ◌∙◌, sym, Bool, false}
use Rattle.std.specs.Prelude.{IsTrue}
use Rattle.fine_triples.proofs.FineConditions.{fine_from, fine_unit, fine_once, fine_edges, fine_closed, fine_apart}
use Rattle.fine_triples.proofs.fine.is_fine.Goals as goal

failed : (A B : Type 0) (b : Bool) → b ≡ false → (A → IsTrue b) → (B → A) → (IsTrue false → B) × (B → IsTrue false)
failed A B b e test weaker = ((λ t. cc), (λ h. sym e ∙ test (weaker h)))

pub returns-then-not-are_unit : goal.returns-then-not-are_unit
returns-then-not-are_unit c = failed _ _ c.are_unit.result c.if-not-are_unit.true c.are_unit.ensures.1 (fine_unit c.args.chart.now c.args.triangles.now c.boundary-boundary.result.now c.boundary-boundary.ensures)

pub returns-then-not-are_once : goal.returns-then-not-are_once
returns-then-not-are_once c = failed _ _ c.are_once.result c.if-not-are_once.true c.are_once.ensures.1 (fine_once c.args.chart.now c.args.triangles.now c.boundary-boundary.result.now c.boundary-boundary.ensures)

pub returns-then-not-are_edges : goal.returns-then-not-are_edges
returns-then-not-are_edges c = failed _ _ c.are_edges.result c.if-not-are_edges.true c.are_edges.ensures.1 (fine_edges c.args.chart.now c.args.triangles.now c.boundary-boundary.result.now c.boundary-boundary.ensures)

pub returns-then-not-are_closed : goal.returns-then-not-are_closed
returns-then-not-are_closed c = failed _ _ c.are_closed.result c.if-not-are_closed.true c.are_closed.ensures.1 (fine_closed c.args.chart.now c.args.triangles.now c.boundary-boundary.result.now c.boundary-boundary.ensures)

pub returns : goal.returns
returns c =
    let h = c.args.chart.now in
    let ts = c.args.triangles.now in
    let es = c.boundary-boundary.result.now in
    let are = c.boundary-boundary.ensures in (
      (λ t. fine_from h ts es are (c.are_unit.ensures.0 c.if-not-are_unit.false) (c.are_once.ensures.0 c.if-not-are_once.false) (c.are_edges.ensures.0 c.if-not-are_edges.false)
          (c.are_closed.ensures.0 c.if-not-are_closed.false) (c.all_keep_apart.ensures.0 t)),
      (λ f. c.all_keep_apart.ensures.1 (fine_apart h ts es are f)),
    )

pub all_keep_apart-requires : goal.all_keep_apart-requires
all_keep_apart-requires c = record { unit = c.are_unit.ensures.0 c.if-not-are_unit.false }
