-- What a basis keeps while it moves.
use Rattle.std.proofs.Common.{◌≡◌, ◌≢◌, ℕ, zero, suc, ◌+◌, ◌-ℤ◌, ◌≤ℤ◌, ◌⊎◌, inl, inr, ◌*◌, ◌^◌, ◌<◌, ◌≤◌, refl, sym, ap, ◌∙◌, subst, arith, ℤ, pos, ◌<ℤ◌, List, [], ◌∷◌, ◌++◌, length, get_or, unsigned_abs, Some}
use Rattle.std.specs.Prelude.{slice_get}
use Rattle.std.proofs.lemmas.Int.{ints}
use Rattle.ntfe_model.specs.declared.nogood.Fold.{Fold}
use Rattle.strict_solver.specs.declared.place.Place.TheVariants.{Row, Column}
use Rattle.strict_solver.specs.declared.basis.Basis.{Basis}
use Rattle.strict_solver.specs.Rows.{number, PlacesWithin}
use Rattle.strict_solver.specs.Starts.{IsFoldOver, AreFoldsOver}
use Rattle.strict_solver.specs.Mixing.{AreNarrowRows}
use Rattle.strict_solver.specs.Standing.{fold_sum, cell_at, constant_of, IsSized, StandsAtEnd, StandsLoaded, HasSlackRow, HasNoneBelow, IsFirstBelow, LoadsNothing, IsFirstHeight, HasNoneEntering, IsFirstToEnter, HasSameSizes, HasOtherLine, IsExchanged, IsStuck}
use Rattle.strict_solver.proofs.Elimination.{from_place, at_place}
use Rattle.strict_solver.proofs.Standing.{place-basic}
use Rattle.strict_solver.proofs.Moves.{move_of-feasible, moving-feasible}
use Rattle.strict_solver.proofs.StandingRows.{last_place, idles, loads, push_before}
use Rattle.strict_solver.proofs.StandingMoves.{slack-row, basic, stuck, moves-to, none-below, ends}

-- the memory is as it was, and the basis stands for a table of the run, with nothing left to load
pub record IsSettling (old now : Basis) (fs : List Fold) : Type 0 where
  pub sizes : HasSameSizes old now
  pub sized : IsSized now
  pub stands : StandsLoaded now fs

pub sizes_next : (b c d : Basis) → HasSameSizes b c → HasSameSizes c d → HasSameSizes b d
sizes_next b c d h k = record { columns = k.columns ∙ h.columns; cells = k.cells ∙ h.cells; line = k.line ∙ h.line }

-- a basis whose kept line alone has changed
module _ (b c : Basis) (o : HasOtherLine b c) where
  pub other_sizes : HasSameSizes b c
  other_sizes = record { columns = o.columns; cells = ap (λ v. length v.items) o.cells; line = o.line }

  pub other_sized : IsSized b → IsSized c
  other_sized h = record {
    few = subst (λ n. n ≤ 400) (sym o.columns) h.few;
    cells = ap (λ v. length v.items) o.cells ∙ h.cells ∙ ap (λ n. n * (n + 2)) (sym o.columns);
    line = o.line ∙ h.line ∙ ap (λ n. n + 2) (sym o.columns);
    narrow = (let P : ℕ → Type 0 = λ n. AreNarrowRows n (n + 2) c.cells.items in let Q : List ℤ → Type 0 = λ xs. AreNarrowRows b.columns (b.columns + 2) xs in subst P (sym o.columns) (subst Q (sym (ap (λ v. v.items) o.cells)) h.narrow));
    positive = (let P : ℤ → Type 0 = λ z. pos 0 <ℤ z in subst P (sym o.denominator) h.positive);
    small = (let P : ℤ → Type 0 = λ z. unsigned_abs z < 2 ^ 30 in subst P (sym o.denominator) h.small);
  }

  pub other_over : (f : Fold) → IsFoldOver b.columns f → IsFoldOver c.columns f
  other_over f h = let P : ℕ → Type 0 = λ n. IsFoldOver n f in subst P (sym o.columns) h

  as_relined : c ≡ record { columns = b.columns; denominator = b.denominator; cells = b.cells; places = b.places; line = c.line }
  as_relined i = record { columns = o.columns i; denominator = o.denominator i; cells = o.cells i; places = o.places i; line = c.line }

  pub other_loaded : (fs : List Fold) → StandsLoaded b fs → StandsLoaded c fs
  other_loaded fs h = let P : Basis → Type 0 = λ k. StandsLoaded k fs in subst P (sym as_relined) (record { table = h.table; loaded = h.loaded; stands = h.stands })

  pub other_end : (fs : List Fold) → StandsAtEnd b fs → StandsAtEnd c fs
  other_end fs h = let P : Basis → Type 0 = λ k. StandsAtEnd k fs in subst P (sym as_relined) (record { end = h.end; ends = h.ends; stands = h.stands })

  pub other_below : (fs : List Fold) (j : ℕ) → IsFirstBelow b fs j → IsFirstBelow c fs j
  other_below fs j h = let P : Basis → Type 0 = λ k. IsFirstBelow k fs j in subst P (sym as_relined) (record { fold = h.fold; is = h.is; below = h.below; before = h.before })

  pub other_first : (f : Fold) (y : ℕ) → IsFirstHeight b f y → IsFirstHeight c f y
  other_first f y h = let P : Basis → Type 0 = λ k. IsFirstHeight k f y in subst P (sym as_relined) (record { within = h.within; column = h.column; is = h.is; some = h.some; before = h.before })

  pub all_over : (fs : List Fold) → AreFoldsOver b.columns fs → AreFoldsOver c.columns fs
  all_over fs h = record { each = λ j f e. other_over f (h.each j f e) }

pub over_same : (n m : ℕ) (fs : List Fold) → m ≡ n → AreFoldsOver n fs → AreFoldsOver m fs
over_same n m fs e h = let P : ℕ → Type 0 = λ k. AreFoldsOver k fs in subst P (sym e) h

-- ---- a basis with the line of the first negative slack
module _ (b : Basis) (fs : List Fold) (over : AreFoldsOver b.columns fs) (h : StandsLoaded b fs) (j : ℕ) (d : Fold) (n : IsFirstBelow b fs j) (c : Basis) (o : HasOtherLine b c) (k : HasSlackRow c (get_or fs j d)) where
  now_over : AreFoldsOver c.columns fs
  now_over = all_over b c o fs over

  now : StandsLoaded c fs
  now = other_loaded b c o fs h

  still : IsFirstBelow c fs j
  still = other_below b c o fs j n

  same_fold : get_or fs j d ≡ still.fold
  same_fold = (from_place fs j d still.fold still.is).1

  below_now : constant_of c (get_or fs j d) <ℤ pos 0
  below_now = let P : Fold → Type 0 = λ f. constant_of c f <ℤ pos 0 in subst P (sym same_fold) still.below

  is_now : slice_get fs j ≡ Some (get_or fs j d)
  is_now = at_place fs j d (get_or fs j d) (from_place fs j d n.fold n.is).0 refl

  abbrev first : IsFirstBelow c fs j
  first = record { fold = get_or fs j d; is = is_now; below = below_now; before = still.before }

  pub now_stuck : HasNoneEntering c → IsStuck c fs j
  now_stuck f = stuck c fs now_over now j first k f

  pub leaves_now : (r : ℕ) × (slice_get c.places.items (c.columns + j) ≡ Some (Row r))
  leaves_now = let l = basic c fs now_over now j first in place-basic c.columns c.places.items c.cells.items c.denominator now.table.lines now.stands (c.columns + j) l.0 l.1

  pub enters_now : (y : ℕ) → IsFirstToEnter c y → (p : ℕ) × (slice_get c.places.items y ≡ Some (Column p)) × (2 ≤ p) × (p < c.columns + 2) × (number c.line.items p ≢ pos 0)
  enters_now y f = let w = now.stands.within y f.column f.is in (f.column, f.is, w.0, w.1, (λ e. let a = f.positive in omega (arith, ints)))

  pub moved_now : (y : ℕ) → IsFirstToEnter c y → (e : Basis) → IsExchanged c e (c.columns + j) y → StandsLoaded e fs
  moved_now y f e x = moves-to c fs now_over now j first k y f e x

  pub first_now : (k : ℕ) → k < c.columns → cell_at c.columns c.cells.items 0 k ≡ c.denominator
  first_now = now.stands.first

  pub within_now : PlacesWithin (c.columns + 2) c.places.items
  within_now = record { each = λ v p e. (now.stands.within v p e).1 }

-- ---- folds with one more
module _ (n : ℕ) (before : List Fold) (f : Fold) (over : AreFoldsOver n (before ++ f ∷ [])) where
  pub last_over : IsFoldOver n f
  last_over = over.each (length before) f (last_place before f)

  pub front_over : AreFoldsOver n before
  front_over = record { each = λ j g e. over.each j g (push_before before f g j e) }

front_or_last : (gs : List Fold) (f g : Fold) (j : ℕ) → slice_get (gs ++ f ∷ []) j ≡ Some g → (slice_get gs j ≡ Some g) ⊎ (f ≡ g)
front_or_last [] f g zero e = inr cc
front_or_last [] f g (suc j) e = cc
front_or_last (h ∷ gs) f g zero e = inl e
front_or_last (h ∷ gs) f g (suc j) e = front_or_last gs f g j e

-- ---- a basis at the end of a run
module _ (b : Basis) (before : List Fold) (h : StandsAtEnd b before) where
  pub end_first : (k : ℕ) → k < b.columns → cell_at b.columns b.cells.items 0 k ≡ b.denominator
  end_first = h.stands.first

  -- one more row has no height to load
  module _ (f : Fold) (over : AreFoldsOver b.columns (before ++ f ∷ [])) (none : LoadsNothing b f) (d : Basis) (ec : d.columns ≡ b.columns) (el : d.cells ≡ b.cells) (ed : d.denominator ≡ b.denominator) (ep : d.places.items ≡ b.places.items ++ Row 0 ∷ []) where
    pub end_idles : StandsLoaded d (before ++ f ∷ [])
    end_idles =
        let r = slack-row b.columns b.cells.items b.denominator f in
        idles b before f (last_over b.columns before f over) h r.0 r.1 none d ec el ed ep

    none_before : HasNoneBelow b before
    none_before =
        let m = move_of-feasible b.columns h.end h.ends.move in
        none-below b before (front_over b.columns before f over) (record { table = h.end; loaded = record { steps = h.ends.steps; reaches = h.ends.reaches; done = m.0 }; stands = h.stands })
        (moving-feasible b.columns h.end.lines m.1)

    -- only the slack of the last row can be negative
    pub end_stays : pos 0 ≤ℤ constant_of b f → StandsAtEnd d (before ++ f ∷ [])
    end_stays l = ends d (before ++ f ∷ []) (over_same b.columns d.columns (before ++ f ∷ []) ec over) end_idles (λ j g e. none_now g (by g (front_or_last before f g j e) (none_before j g)))
      where
        none_now : (g : Fold) → pos 0 ≤ℤ constant_of b g → pos 0 ≤ℤ constant_of d g
        none_now g = let P : ℤ → Type 0 = λ z. pos 0 ≤ℤ z in subst P (λ t. fold_sum (cell_at (sym ec t) (ap (λ v. v.items) (sym el) t) 1) g -ℤ sym ed t)

        by : (g : Fold) → {X : Type 0} → X ⊎ (f ≡ g) → (X → pos 0 ≤ℤ constant_of b g) → pos 0 ≤ℤ constant_of b g
        by g (inl e) k = k e
        by g (inr e) k = let P : Fold → Type 0 = λ q. pos 0 ≤ℤ constant_of b q in subst P e l

  -- one more row, whose line is kept, has a height to load
  module _ (f : Fold) (over : IsFoldOver b.columns f) (y : ℕ) (i : IsFirstHeight b f y) (c : Basis) (o : HasOtherLine b c) (k : HasSlackRow c f) where
    now_first : IsFirstHeight c f y
    now_first = other_first b c o f y i

    now_end : StandsAtEnd c before
    now_end = other_end b c o before h

    pub end_enters : (p : ℕ) × (slice_get c.places.items y ≡ Some (Column p)) × (2 ≤ p) × (p < c.columns + 2) × (number c.line.items p ≢ pos 0)
    end_enters =
        let n = now_first in
        let w = now_end.stands.within y n.column n.is in
        (n.column, n.is, w.0, w.1, (λ e. n.some (sym (k.row.coefficients n.column w.0 w.1) ∙ e)))

    pub still_first : (j : ℕ) → j < c.columns → cell_at c.columns c.cells.items 0 j ≡ c.denominator
    still_first = now_end.stands.first

    pub end_loads : (d : Basis) → d.columns ≡ c.columns → d.cells ≡ c.cells → d.denominator ≡ c.denominator → d.line.items ≡ c.line.items → d.places.items ≡ c.places.items ++ Row 0 ∷ []
        → (e : Basis) → IsExchanged d e (length c.places.items) y → StandsAtEnd e (before ++ f ∷ [])
    end_loads d ec el ed en ep e x = loads c before f (other_over b c o f over) now_end c.line.items k.row y now_first d e ec el ed en ep x
