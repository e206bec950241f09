use Rattle.std.proofs.Common.{◌≡◌, ◌∙◌, ◌<◌, ◌⊎◌, inl, inr, ap, sym, subst, arith, ℕ, pos, Some, to_z, w64}
use Rattle.std.specs.Prelude.{slice_get}
use Rattle.strict_solver.specs.declared.place.Place.TheVariants.{Column}
use Rattle.strict_solver.specs.Standing.{fold_sum, cell_at}
use Rattle.strict_solver.proofs.Elimination.{at_place, same_place}
use Rattle.strict_solver.proofs.ShortRows.{word64}
use Rattle.strict_solver.proofs.basis.Basis.first_height.Goals.{in-Column+else-fold_at-ne0, in_default}
use Rattle.strict_solver.proofs.basis.Basis.first_height.Goals as goal

pub loop-k-preserved : goal.loop-k-preserved
loop-k-preserved c = λ j p l e. by j p e (let d : (j < c.loop-k.k) ⊎ (j ≡ c.loop-k.k) = grind arith in d)
  where
    none_of : ℕ → Type 0
    none_of p = fold_sum (cell_at c.args.self.now.columns c.args.self.now.cells.items p) c.args.fold.now ≡ pos 0

    place_here : slice_get c.args.self.now.places.items c.loop-k.k ≡ Some c.index.result.now
    place_here = at_place c.args.self.now.places.items c.loop-k.k c.index.result.now c.index.result.now (let t = c.loop-k-test.true in let n = c.requires.enough in omega arith) (sym c.index.ensures)

    column : (q p : ℕ) → c.index.result.now ≡ Column q → slice_get c.args.self.now.places.items c.loop-k.k ≡ Some (Column p) → q ≡ p
    column q p i e = let f : Column q ≡ Column p = sym i ∙ same_place c.args.self.now.places.items c.loop-k.k c.index.result.now (Column p) place_here e in cc

    here : (p : ℕ) → slice_get c.args.self.now.places.items c.loop-k.k ≡ Some (Column p) → none_of p
    here p e =
        elim c.match-index.branch [
          | in-Column+else-fold_at-ne0 w ↦
              let z = w.fold_at.result in
              let none : z ≡ pos 0 = sym (word64 z (let s = w.fold_at.ensures.size in omega arith)) ∙ ap (to_z w64) w.if-fold_at-ne0.false in
              subst none_of (column w.in-Column.p p w.in-Column.is e) (sym w.fold_at.ensures.value ∙ none)
          | in_default w ↦ absurd (w.in_default.not-Column p (same_place c.args.self.now.places.items c.loop-k.k c.index.result.now (Column p) place_here e))
        ]

    by : (j p : ℕ) → slice_get c.args.self.now.places.items j ≡ Some (Column p) → (j < c.loop-k.k) ⊎ (j ≡ c.loop-k.k) → none_of p
    by j p e (inl l) = c.loop-k.invariant j p l e
    by j p e (inr i) = let P : ℕ → Type 0 = λ k. slice_get c.args.self.now.places.items k ≡ Some (Column p) in here p (subst P i e)
