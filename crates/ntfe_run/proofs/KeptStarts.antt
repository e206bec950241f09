-- The last kept choice is a start: it has a number below the item limit for each two-face.
use Rattle.std.proofs.Common.{inl, inr, sym, subst, true, false, Bool, cond, ℕ, zero, suc, ◌+◌, List, [], ◌∷◌, length, Some, None}
use Rattle.ntfe_model.specs.Shapes.{Shape}
use Rattle.ntfe_model.specs.Keys.{IsStart}
use Rattle.ntfe_model.specs.RunText.{Form, Kept}
use Rattle.ntfe_model.specs.Earlier.{Place, Reading, Reads, IsAllowed, IsKeptOf, after_head, goes_on, ends_block, after_simplex}
use Rattle.ntfe_model.specs.Earlier.Place.{class_or_end, heights_of, star_of, simplices_of, nothing}
use Rattle.ntfe_run.specs.Earlier.{layout}

module _ (form : Form) (g : Shape) where
  -- the choice of the block that is read is a start
  abbrev IsReadStart : Place → Type 0
  IsReadStart class_or_end = IsStart g None
  IsReadStart (heights_of choice) = IsStart g (Some choice)
  IsReadStart (star_of choice) = IsStart g (Some choice)
  IsReadStart (simplices_of choice n) = IsStart g (Some choice)
  IsReadStart nothing = IsStart g None

  record HasStarts (r : Reading) : Type 0 where
    pub kept : IsStart g r.kept.last
    pub read : IsReadStart r.place

  ended : (s : Reading) (size : ℕ) (choice : List ℕ) → IsStart g (Some choice) → HasStarts (ends_block s size choice)
  ended s size choice h = record { kept = h; read = tt }

  after_heights : (s : Reading) (size : ℕ) (choice : List ℕ) (stars : Bool) → IsStart g s.kept.last → IsStart g (Some choice) → HasStarts (cond stars (goes_on s size (star_of choice)) (ends_block s size choice))
  after_heights s size choice true k h = record { kept = k; read = h }
  after_heights s size choice false k h = ended s size choice h

  after_one : (s : Reading) (size : ℕ) (choice : List ℕ) (n : ℕ) → IsStart g s.kept.last → IsStart g (Some choice) → HasStarts (after_simplex s size choice n)
  after_one s size choice zero k h = ended s size choice h
  after_one s size choice (suc n) k h = record { kept = k; read = h }

  after_line : (s : Reading) (p : Place) (line : List ℕ) (t : Reading) → IsStart g s.kept.last → IsReadStart p → IsAllowed (layout form g) s p line t → HasStarts t
  after_line s class_or_end line t k h (inl (choice, is, e)) = subst HasStarts (sym e) record { kept = k; read = (is.faces, is.items) }
  after_line s class_or_end line t k h (inr (is, e)) = subst HasStarts (sym e) record { kept = k; read = tt }
  after_line s (heights_of choice) line t k h (is, e) = subst HasStarts (sym e) (after_heights s (length line + 1) choice form.stars k h)
  after_line s (star_of choice) line t k h (n, low, high, is, e) = subst HasStarts (sym e) record { kept = k; read = h }
  after_line s (simplices_of choice zero) line t k h a = absurd a
  after_line s (simplices_of choice (suc n)) line t k h (is, e) = subst HasStarts (sym e) (after_one s (length line + 1) choice n k h)
  after_line s nothing line t k h a = absurd a

  after_lines : (s : Reading) (xs : List (List ℕ)) (t : Reading) → HasStarts s → Reads (layout form g) s xs t → HasStarts t
  after_lines s [] t h e = subst HasStarts e h
  after_lines s (x ∷ xs) t h (r, a, k) = after_lines r xs t (after_line s s.place x r h.kept h.read a) k

  pub kept_start : (bytes : List ℕ) (kept : Kept) → IsKeptOf (layout form g) bytes kept → IsStart g kept.last
  kept_start bytes kept (inl (missing, some, is, e)) = subst (λ (k : Kept). IsStart g k.last) (sym e) tt
  kept_start bytes kept (inr (xs, end, is, reads, e)) =
      subst (λ (k : Kept). IsStart g k.last) (sym e) (after_lines (after_head (layout form g)) xs end record { kept = tt; read = tt } reads).kept
