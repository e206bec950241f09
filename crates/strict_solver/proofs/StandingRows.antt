-- One more row for a basis that stands at the end of a run.
--     loads      the row has a height that is not basic: one exchange leads to the next end
--     idles      it has none: the basis goes on moving
use Rattle.std.proofs.Common.{◌≡◌, ◌≢◌, ℕ, ◌+◌, ◌<◌, ◌≤◌, refl, sym, ap, ◌∙◌, subst, arith, ℤ, pos, ◌+ℤ◌, ◌*ℤ◌, List, [], ◌∷◌, ◌++◌, map, length, get_or, set, Some, None, Option, suc, zero}
use Rattle.std.specs.Prelude.{slice_get}
use Rattle.std.proofs.lemmas.List.{get_or-map, map-append}
use Rattle.ntfe_nums.specs.Vectors.{sign}
use Rattle.ntfe_nums.proofs.Ring.{product_zero}
use Rattle.ntfe_model.specs.declared.nogood.Fold.{Fold}
use Rattle.ntfe_model.specs.Solver.{Line, Table, coefficient_at, fold_row, IsPivot, IsReduced}
use Rattle.strict_solver.specs.declared.place.Place.{Place}
use Rattle.strict_solver.specs.declared.place.Place.TheVariants.{Row, Column}
use Rattle.strict_solver.specs.declared.basis.Basis.{Basis}
use Rattle.strict_solver.specs.Rows.{number, number_at, line_in}
use Rattle.strict_solver.specs.Grids.{row_at}
use Rattle.strict_solver.specs.Starts.{IsFoldOver}
use Rattle.strict_solver.specs.Equations.{combination, Holds}
use Rattle.strict_solver.specs.Continuing.{wider, with_row, IsLineFor, IsLeastHeight, EndsWith, HasLoadedTo}
use Rattle.strict_solver.specs.Standing.{StandsFor, StandsAtEnd, StandsLoaded, IsSlackRow, fold_sum, cell_at, LoadsNothing, IsFirstHeight, IsExchanged, IsPutIn}
use Rattle.strict_solver.proofs.Forms.{reduced_parts, reduced-holds}
use Rattle.strict_solver.proofs.Pivots.{IsTable, AreLowest, reduced-clear}
use Rattle.strict_solver.proofs.Runs.{AreRows}
use Rattle.strict_solver.proofs.Reduced.{reduced, reduced-is}
use Rattle.strict_solver.proofs.Wider.{reduced-wider}
use Rattle.strict_solver.proofs.Elimination.{same_place}
use Rattle.strict_solver.proofs.Placing.{coefficient_there}
use Rattle.strict_solver.proofs.GoingOn.{start-lowest}
use Rattle.strict_solver.proofs.Joining.{row-table, row-last, row-length, run-lowest}
use Rattle.strict_solver.proofs.LineOf.{line-reduced}
use Rattle.strict_solver.proofs.Outcome.{are_rows}
use Rattle.strict_solver.proofs.Going.{going-loads, going-idles}
use Rattle.strict_solver.proofs.SlackLines.{reached-table, reached-length}
use Rattle.strict_solver.proofs.Standing.{raw-line, place-other, joins, pivoted}
use Rattle.ntfe_model.specs.Solver.{start_table}

-- a place that comes last
pub last_place : {A : Type 0} (ps : List A) (o : A) → slice_get (ps ++ o ∷ []) (length ps) ≡ Some o
last_place [] o = refl
last_place (p ∷ ps) o = last_place ps o

pub push_before : {X : Type 0} (xs : List X) (y x : X) (i : ℕ) → slice_get xs i ≡ Some x → slice_get (xs ++ y ∷ []) i ≡ Some x
push_before [] y x i e = cc
push_before (z ∷ xs) y x zero e = e
push_before (z ∷ xs) y x (suc i) e = push_before xs y x i e

one-more : (n : ℕ) (fs : List Fold) (f : Fold) → map (fold_row n) (fs ++ f ∷ []) ≡ map (fold_row n) fs ++ fold_row n f ∷ []
one-more n fs f = map-append (fold_row n) fs (f ∷ [])

module _ (b : Basis) (fs : List Fold) (f : Fold) (over : IsFoldOver b.columns f) (h : StandsAtEnd b fs) (line : List ℤ) (k : IsSlackRow b.columns b.cells.items b.denominator f line) where
  rs : List (List ℤ)
  rs = map (fold_row b.columns) fs

  rows : AreRows b.columns (map (fold_row b.columns) fs)
  rows = are_rows b.columns fs

  rows-more : AreRows b.columns (map (fold_row b.columns) fs ++ fold_row b.columns f ∷ [])
  rows-more = let P : List (List ℤ) → Type 0 = λ q. AreRows b.columns q in subst P (one-more b.columns fs f) (are_rows b.columns (fs ++ f ∷ []))

  end-table : IsTable h.end.lines
  end-table = reached-table b.columns (map (fold_row b.columns) fs) rows h.ends.steps h.end h.ends.reaches

  end-length : length h.end.lines ≡ b.columns + length (map (fold_row b.columns) fs)
  end-length = reached-length b.columns (map (fold_row b.columns) fs) rows h.ends.steps h.end h.ends.reaches

  wide-enough : b.columns ≤ length h.end.lines
  wide-enough = let a = end-length in omega arith

  end-lowest : AreLowest h.end.lines
  end-lowest = run-lowest b.columns (start_table b.columns (map (fold_row b.columns) fs)) h.ends.reaches.tables h.end h.ends.reaches.run (start-lowest b.columns (length (map (fold_row b.columns) fs)) (map (fold_row b.columns) fs))

  raw : Line
  raw = line_in b.places.items line

  raw-for : IsLineFor (fold_row b.columns f) h.end.lines (line_in b.places.items line)
  raw-for = raw-line b.columns b.places.items b.cells.items b.denominator h.end.lines h.stands f line wide-enough over k

  low : Line
  low = reduced (line_in b.places.items line)

  low-is : IsReduced (line_in b.places.items line) (reduced (line_in b.places.items line))
  low-is = reduced-is (line_in b.places.items line) raw-for.positive

  low-for : IsLineFor (fold_row b.columns f) h.end.lines (reduced (line_in b.places.items line))
  low-for = line-reduced (fold_row b.columns f) h.end.lines (line_in b.places.items line) (reduced (line_in b.places.items line)) raw-for low-is

  -- a height that is not basic has a column, whose number the line has
  clear : (j : ℕ) → j < b.columns → get_or h.end.lines j None ≡ None → ((p : ℕ) → slice_get b.places.items j ≡ Some (Column p) → number line p ≡ pos 0) → coefficient_at (reduced (line_in b.places.items line)) j ≡ pos 0
  clear j l n e =
      let p = place-other b.columns b.places.items b.cells.items b.denominator h.end.lines h.stands j (let a = wide-enough in omega arith) n in
      reduced-clear (line_in b.places.items line) (reduced (line_in b.places.items line)) j low-is (coefficient_there b.places.items line j (Column p.0) p.1 ∙ e p.0 p.1)

  entry : (j p : ℕ) → slice_get b.places.items j ≡ Some (Column p) → number line p ≡ fold_sum (cell_at b.columns b.cells.items p) f
  entry j p e = let w = h.stands.within j p e in k.coefficients p w.0 w.1

  joined : StandsFor b.columns (b.places.items ++ Row 0 ∷ []) b.cells.items b.denominator (with_row h.end.lines (reduced (line_in b.places.items line)))
  joined = joins b.columns b.places.items b.cells.items b.denominator h.end.lines h.stands (fold_row b.columns f) (reduced (line_in b.places.items line)) wide-enough end-table end-lowest low-for low-is.lowest

  more-rows : (t : Table) → EndsWith b.columns (map (fold_row b.columns) fs ++ fold_row b.columns f ∷ []) t → EndsWith b.columns (map (fold_row b.columns) (fs ++ f ∷ [])) t
  more-rows t e = let P : List (List ℤ) → Type 0 = λ q. EndsWith b.columns q t in subst P (sym (one-more b.columns fs f)) e

  pub idles : LoadsNothing b f → (c : Basis) → c.columns ≡ b.columns → c.cells ≡ b.cells → c.denominator ≡ b.denominator → c.places.items ≡ b.places.items ++ Row 0 ∷ [] → StandsLoaded c (fs ++ f ∷ [])
  idles none c ec el ed ep =
      let g = going-idles b.columns (map (fold_row b.columns) fs) (fold_row b.columns f) rows-more h.end h.ends (reduced (line_in b.places.items line)) low-for low-is.lowest (λ j l n. clear j l n (λ p e. entry j p e ∙ none j p l e)) in
      let t = g.0 in
      let L : List (List ℤ) → Type 0 = λ q. HasLoadedTo b.columns q t in
      let loaded = subst L (sym (one-more b.columns fs f)) g.1 in
      let M : ℕ → Type 0 = λ m. HasLoadedTo m (map (fold_row m) (fs ++ f ∷ [])) t in
      let S : List (Option Line) → Type 0 = λ ls. StandsFor b.columns (b.places.items ++ Row 0 ∷ []) b.cells.items b.denominator ls in
      let stands = subst S (sym g.3) joined in
      let P : ℕ → Type 0 = λ m. StandsFor m c.places.items c.cells.items c.denominator t.lines in
      let Q : List Place → Type 0 = λ ps. StandsFor b.columns ps c.cells.items c.denominator t.lines in
      let R : ℤ → Type 0 = λ z. StandsFor b.columns (b.places.items ++ Row 0 ∷ []) c.cells.items z t.lines in
      let T : List ℤ → Type 0 = λ xs. StandsFor b.columns (b.places.items ++ Row 0 ∷ []) xs b.denominator t.lines in
      record { table = t; loaded = subst M (sym ec) loaded; stands = subst P (sym ec) (subst Q (sym ep) (subst R (sym ed) (subst T (sym (ap (λ v. v.items) el)) stands))) }

  module _ (y : ℕ) (i : IsFirstHeight b f y) where
    other : get_or h.end.lines y None ≡ None
    other = h.stands.other y i.column i.is

    least : IsLeastHeight b.columns h.end.lines (reduced (line_in b.places.items line)) y
    least = record {
      within = i.within;
      other = other;
      some = λ e. i.some (sym (entry y i.column i.is) ∙ sym (coefficient_there b.places.items line y (Column i.column) i.is) ∙ scaled e);
      least = λ j l n. clear j (let a = i.within in omega arith) n (λ p e. entry j p e ∙ i.before j p l e);
    }
      where
        p : (line_in b.places.items line).coefficients ≡ map (λ e. pos low-is.k *ℤ e) (reduced (line_in b.places.items line)).coefficients
        p = (reduced_parts (line_in b.places.items line) (reduced (line_in b.places.items line)) low-is).2

        scaled : coefficient_at (reduced (line_in b.places.items line)) y ≡ pos 0 → coefficient_at (line_in b.places.items line) y ≡ pos 0
        scaled e =
            ap (λ es. get_or es y (pos 0)) p
            ∙ get_or-map (λ z. pos low-is.k *ℤ z) (reduced (line_in b.places.items line)).coefficients y (pos 0) (pos 0) (let a = low-for.count in let c = wide-enough in let d = i.within in omega arith)
            ∙ ap (λ z. pos low-is.k *ℤ z) e ∙ product_zero (pos low-is.k)

    module _ (d : Basis) (r p : ℕ) (ex : slice_get (b.places.items ++ Row 0 ∷ []) (length b.places.items) ≡ Some (Row r)) (ey : slice_get (b.places.items ++ Row 0 ∷ []) y ≡ Some (Column p))
        (ec : d.columns ≡ b.columns) (ep : d.places.items ≡ set (set (b.places.items ++ Row 0 ∷ []) (length b.places.items) (Column p)) y (Row r)) (ed : d.denominator ≡ sign (number line p) *ℤ number line p)
        (put : (j : ℕ) → j < b.columns → IsPutIn line p b.denominator (row_at (b.columns + 2) b.cells.items j) (row_at (b.columns + 2) d.cells.items j)) where
      next : (t : Table) × EndsWith b.columns (map (fold_row b.columns) fs ++ fold_row b.columns f ∷ []) t × IsPivot (length h.end.lines) y (with_row h.end.lines (reduced (line_in b.places.items line))) t.lines
      next =
          let g = going-loads b.columns (map (fold_row b.columns) fs) (fold_row b.columns f) rows-more h.end h.ends (reduced (line_in b.places.items line)) low-for low-is.lowest y least in
          (g.0, g.1, g.3)

      column-same : (m n : ℕ) → slice_get (b.places.items ++ Row 0 ∷ []) y ≡ Some (Column m) → slice_get (b.places.items ++ Row 0 ∷ []) y ≡ Some (Column n) → m ≡ n
      column-same m n e g = let a : Column m ≡ Column n = same_place (b.places.items ++ Row 0 ∷ []) y (Column m) (Column n) e g in cc

      some : number line p ≢ pos 0
      some e = i.some (sym (entry y i.column i.is) ∙ ap (number line) (column-same i.column p (push_before b.places.items (Row 0) (Column i.column) y i.is) ey) ∙ e)

      slack : (one : ℤ) (vs : List ℤ) → length vs ≡ length (with_row h.end.lines (reduced (line_in b.places.items line))) → Holds one vs (with_row h.end.lines (reduced (line_in b.places.items line)))
          → b.denominator *ℤ get_or vs (length h.end.lines) (pos 0) ≡ number line 1 *ℤ one +ℤ combination (map (number_at line) (b.places.items ++ Row 0 ∷ [])) vs
      slack one vs c hs =
          let x = length h.end.lines in
          let m = hs (length h.end.lines) (wider (reduced (line_in b.places.items line))) (row-last h.end.lines (reduced (line_in b.places.items line))) in
          let e = (reduced-holds one vs (length h.end.lines) (wider (line_in b.places.items line)) (wider (reduced (line_in b.places.items line)))
          (reduced-wider (line_in b.places.items line) (reduced (line_in b.places.items line)) low-is)).1 m in
          ap (λ z. z *ℤ get_or vs (length h.end.lines) (pos 0)) (sym k.first)
          ∙ e
          ∙ ap (λ es. number line 1 *ℤ one +ℤ combination es vs) (sym (map-append (number_at line) b.places.items (Row 0 ∷ [])))

      pub loads-to : StandsAtEnd d (fs ++ f ∷ [])
      loads-to =
          let n = next in
          let s = with_row h.end.lines (reduced (line_in b.places.items line)) in
          let low = reduced (line_in b.places.items line) in
          let t = n.0 in
          let X : ℕ → Type 0 = λ x. slice_get (b.places.items ++ Row 0 ∷ []) x ≡ Some (Row r) in
          let now = pivoted b.columns (b.places.items ++ Row 0 ∷ []) b.cells.items b.denominator s joined t.lines (length h.end.lines) y r p line d.cells.items
          (row-table (fold_row b.columns f) h.end.lines low end-table end-lowest low-for low-is.lowest)
          (let a = row-length h.end.lines low in let c = wide-enough in omega arith) (subst X h.stands.count ex) ey n.2 slack some put in
          let M : ℕ → Type 0 = λ m. EndsWith m (map (fold_row m) (fs ++ f ∷ [])) t in
          let Y : ℕ → Type 0 = λ x. StandsFor b.columns (set (set (b.places.items ++ Row 0 ∷ []) x (Column p)) y (Row r)) d.cells.items (sign (number line p) *ℤ number line p) t.lines in
          let P : ℕ → Type 0 = λ m. StandsFor m d.places.items d.cells.items d.denominator t.lines in
          let Q : List Place → Type 0 = λ ps. StandsFor b.columns ps d.cells.items d.denominator t.lines in
          let R : ℤ → Type 0 = λ z. StandsFor b.columns (set (set (b.places.items ++ Row 0 ∷ []) (length b.places.items) (Column p)) y (Row r)) d.cells.items z t.lines in
          record { end = t; ends = subst M (sym ec) (more-rows t n.1); stands = subst P (sym ec) (subst Q (sym ep) (subst R (sym ed) (subst Y (sym h.stands.count) now))) }

    pub loads : (c d : Basis) → c.columns ≡ b.columns → c.cells ≡ b.cells → c.denominator ≡ b.denominator → c.line.items ≡ line → c.places.items ≡ b.places.items ++ Row 0 ∷ [] → IsExchanged c d (length b.places.items) y
        → StandsAtEnd d (fs ++ f ∷ [])
    loads c d ec el ed en ep x =
        let p = x.column in
        let lines : c.line.items ≡ line = en in
        let cells : c.cells.items ≡ b.cells.items = ap (λ v. v.items) el in
        let S : List Place → Type 0 = λ ps. slice_get ps (length b.places.items) ≡ Some (Row x.row) in
        let T : List Place → Type 0 = λ ps. slice_get ps y ≡ Some (Column x.column) in
        loads-to d x.row x.column (subst S ep x.leaves) (subst T ep x.enters) (x.columns ∙ ec) (x.places ∙ ap (λ ps. set (set ps (length b.places.items) (Column x.column)) y (Row x.row)) ep)
        (x.denominator ∙ ap (λ es. sign (number es x.column) *ℤ number es x.column) lines)
        (λ j l.
        (let L : List ℤ → Type 0 = λ es. IsPutIn es x.column b.denominator (row_at (b.columns + 2) b.cells.items j) (row_at (b.columns + 2) d.cells.items j) in
        let D : ℤ → Type 0 = λ z. IsPutIn c.line.items x.column z (row_at (b.columns + 2) b.cells.items j) (row_at (b.columns + 2) d.cells.items j) in
        let E : List ℤ → Type 0 = λ es. IsPutIn c.line.items x.column c.denominator (row_at (b.columns + 2) es j) (row_at (b.columns + 2) d.cells.items j) in
        let C : ℕ → Type 0 = λ m. IsPutIn c.line.items x.column c.denominator (row_at (m + 2) c.cells.items j) (row_at (m + 2) d.cells.items j) in
        subst L lines (subst D ed (subst E cells (subst C ec (x.put j (let e = ec in omega arith)))))))
