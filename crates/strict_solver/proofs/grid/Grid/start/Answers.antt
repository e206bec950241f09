use Rattle.std.proofs.Common.{◌≡◌, ◌≢◌, ℕ, ◌+◌, ◌<◌, ◌⊎◌, inl, inr, ◌∙◌, refl, sym, ap, subst, arith, ℤ, pos, List, length, get_or, Some}
use Rattle.std.specs.Prelude.{slice_get}
use Rattle.ntfe_model.specs.declared.nogood.Fold.{Fold}
use Rattle.ntfe_model.specs.Solver.{first_wide, line_numbers}
use Rattle.strict_solver.specs.declared.place.Place.{Place}
use Rattle.strict_solver.specs.Rows.{AreNarrow, PlacesWithin, line_in}
use Rattle.strict_solver.specs.Grids.{row_at}
use Rattle.strict_solver.specs.Starts.{IsFoldOver, IsStartPlacing, IsStartRow}
use Rattle.strict_solver.proofs.Elimination.{at_place, same_place, wide_answer}
use Rattle.strict_solver.proofs.PlacingAll.{start_placing}
use Rattle.strict_solver.proofs.Opening.{opened_grid, opened_stands, opened_wide}
use Rattle.strict_solver.proofs.grid.Grid.start.Goals as goal

abbrev no_fold : Fold
no_fold = record { a = 0; b = 0; c = 0; d = 0; alpha = pos 0; beta = pos 0 }

pub open_row-requires-clause-fold : goal.open_row-requires-clause-fold
open_row-requires-clause-fold c =
    let P : ℕ → Type 0 = λ k. IsFoldOver k (get_or c.args.folds.now c.loop-r.r no_fold) in
    subst P (sym c.loop-r.invariant.room.columns) (c.requires.folds.each c.loop-r.r (get_or c.args.folds.now c.loop-r.r no_fold) (at_place c.args.folds.now c.loop-r.r no_fold (get_or c.args.folds.now c.loop-r.r no_fold) c.loop-r-test.true refl))

pub loop-r-init : goal.loop-r-init
loop-r-init c =
    let e = c.place_all.ensures in
    record {
      room = record {
        columns = e.columns;
        cells = ap (λ v. length v.items) e.cells;
        capacity = e.capacity;
        pivot = ap (λ v. length v.numbers.items) e.pivot;
        scratch = ap (λ v. length v.items) e.scratch;
      };
      places = e.places;
      done = λ q f l g. absurd (omega arith);
    }

pub loop-r-preserved : goal.loop-r-preserved
loop-r-preserved c =
    let i = c.loop-r.invariant in
    let e = c.if-not-open_row.ensures in
    let n = c.args.self.now.columns in
    let r = c.loop-r.r in
    let now = c.open_row.new.self in
    let here = at_place c.args.folds.now r no_fold (get_or c.args.folds.now c.loop-r.r no_fold) c.loop-r-test.true refl in
    let same = i.room.columns in
    let P : ℕ → Type 0 = λ k. (q : ℕ) → q ≢ r → row_at (k + 2) now.cells.items q ≡ row_at (k + 2) c.loop-r.self.cells.items q in
    let others = subst P same e.others in
    record {
      room = record {
        columns = e.columns ∙ same;
        cells = e.cells ∙ i.room.cells;
        capacity = ap (λ v. v.cap) e.places ∙ i.room.capacity;
        pivot = ap (λ v. length v.numbers.items) e.pivot ∙ i.room.pivot;
        scratch = e.scratch ∙ ap (λ k. k + 2) same ∙ sym c.requires.room.scratch;
      };
      places = (let Q : List Place → Type 0 = λ k. IsStartPlacing n (length c.args.folds.now) k in subst Q (ap (λ v. v.items) (sym e.places)) i.places);
      done = λ q f l g. at q f g (let k : (q < r) ⊎ (q ≡ r) = grind arith in k) others;
    }
  where
    at : (q : ℕ) (f : Fold) → slice_get c.args.folds.now q ≡ Some f → (q < c.loop-r.r) ⊎ (q ≡ c.loop-r.r)
        → ((q : ℕ) → q ≢ c.loop-r.r → row_at (c.args.self.now.columns + 2) c.open_row.new.self.cells.items q ≡ row_at (c.args.self.now.columns + 2) c.loop-r.self.cells.items q)
        → IsStartRow c.args.self.now.columns f (row_at (c.args.self.now.columns + 2) c.open_row.new.self.cells.items q) × AreNarrow c.args.width (row_at (c.args.self.now.columns + 2) c.open_row.new.self.cells.items q)
    at q f g (inl l) others =
        let R : List ℤ → Type 0 = λ k. IsStartRow c.args.self.now.columns f k × AreNarrow c.args.width k in
        subst R (sym (others q (λ h. omega arith))) (c.loop-r.invariant.done q f l g)
    at q f g (inr l) others =
        let here = at_place c.args.folds.now c.loop-r.r no_fold (get_or c.args.folds.now c.loop-r.r no_fold) c.loop-r-test.true refl in
        let S : ℕ → Type 0 = λ k. slice_get c.args.folds.now k ≡ Some f in
        let same = same_place c.args.folds.now c.loop-r.r (get_or c.args.folds.now c.loop-r.r no_fold) f here (subst S l g) in
        let T : Fold → Type 0 = λ k. IsStartRow c.args.self.now.columns k (row_at (c.args.self.now.columns + 2) c.open_row.new.self.cells.items c.loop-r.r) × AreNarrow c.args.width (row_at (c.args.self.now.columns + 2) c.open_row.new.self.cells.items c.loop-r.r) in
        let U : ℕ → Type 0 = λ k. IsStartRow c.args.self.now.columns f (row_at (c.args.self.now.columns + 2) c.open_row.new.self.cells.items k) × AreNarrow c.args.width (row_at (c.args.self.now.columns + 2) c.open_row.new.self.cells.items k) in
        let V : ℕ → Type 0 = λ k. IsStartRow k (get_or c.args.folds.now c.loop-r.r no_fold) (row_at (k + 2) c.open_row.new.self.cells.items c.loop-r.r) × AreNarrow c.args.width (row_at (k + 2) c.open_row.new.self.cells.items c.loop-r.r) in
        subst U (sym l) (subst T same (subst V c.loop-r.invariant.room.columns c.if-not-open_row.ensures.answer))

pub first_wide_number-requires-clause-within : goal.first_wide_number-requires-clause-within
first_wide_number-requires-clause-within c =
    let i = c.loop-r.invariant in
    let n = c.args.self.now.columns in
    let e = c.if-not-open_row.ensures in
    let p = start_placing n (length c.args.folds.now) c.loop-r.self.places.items i.places in
    let count : length c.deref.result.now ≡ n + 2 = ap (λ (k : List ℤ). length k) c.deref.ensures.value ∙ e.scratch ∙ ap (λ k. k + 2) i.room.columns in
    let places : c.deref-then-not-open_row.result.now ≡ c.loop-r.self.places.items = c.deref-then-not-open_row.ensures.value ∙ ap (λ v. v.items) e.places in
    let P : ℕ → Type 0 = λ k. PlacesWithin k c.deref-then-not-open_row.result.now in
    let Q : List Place → Type 0 = λ k. PlacesWithin (n + 2) k in
    subst P (sym count) (subst Q (sym places) (record { each = λ v q f. (p.columns_within v q f).1 }))

pub returns-then-not-open_row-clause-answer : goal.returns-then-not-open_row-clause-answer
returns-then-not-open_row-clause-answer c =
    let i = c.loop-r.invariant in
    let n = c.args.self.now.columns in
    let e = c.if-not-open_row.ensures in
    let old = c.args.self.now in
    let fs = c.args.folds.now in
    let now = c.loop-r.self in
    let p = start_placing n (length fs) now.places.items i.places in
    let row = c.open_row.new.self.scratch.items in
    let here = at_place fs c.loop-r.r no_fold (get_or c.args.folds.now c.loop-r.r no_fold) c.loop-r-test.true refl in
    let count : length row ≡ n + 2 = e.scratch ∙ ap (λ k. k + 2) i.room.columns in
    let places : c.deref-then-not-open_row.result.now ≡ now.places.items = c.deref-then-not-open_row.ensures.value ∙ ap (λ v. v.items) e.places in
    let V : ℕ → Type 0 = λ k. IsStartRow k (get_or c.args.folds.now c.loop-r.r no_fold) row in
    wide_answer c.args.width (n + 2) now.places.items row c.first_wide_number.result _ _ count p.taken e.answer.1
    (c.first_wide_number.ensures ∙ (λ t. first_wide c.args.width (line_numbers (line_in (places t) (c.deref.ensures.value t)))))
    (λ z w. opened_wide c.args.width old now fs c.loop-r.r c.requires.room i row (get_or c.args.folds.now c.loop-r.r no_fold) z here (subst V i.room.columns e.answer.0) w)

pub returns-clause-answer : goal.returns-clause-answer
returns-clause-answer c = (
  opened_grid c.args.width c.args.self.now c.loop-r.self c.args.folds.now c.loop-r.r c.requires.room c.loop-r.invariant (omega arith),
  opened_stands c.args.width c.args.self.now c.loop-r.self c.args.folds.now c.loop-r.r c.requires.room c.loop-r.invariant (omega arith),
)
