-- The entries of a table: a variable is basic, and has a line, or it is not.
use Rattle.std.proofs.Common.{◌≡◌, ◌≢◌, ℕ, ◌<◌, ◌⊎◌, inl, inr, refl, sym, subst, ap, List, length, get_or, Some, None, Option, true, ◌∙◌}
use Rattle.std.specs.Prelude.{slice_get, is_none}
use Rattle.ntfe_nums.proofs.Signs.{same_or}
use Rattle.ntfe_model.specs.Solver.{Line}
use Rattle.std.proofs.lemmas.Option.{slice_get-get_or}

pub basic_or_not : (o : Option Line) → ((r : Line) × (o ≡ Some r)) ⊎ (o ≡ None)
basic_or_not None = inr refl
basic_or_not (Some r) = inl (r, refl)

-- what holds at x, at y and at each other place, basic or not, holds at all
pub at_places : (x y : ℕ) (s : List (Option Line)) (P : ℕ → Type 0) → P x → P y → ((z : ℕ) → z ≢ y → get_or s z None ≡ None → P z) → ((z : ℕ) (q : Line) → z ≢ x → get_or s z None ≡ Some q → P z) → (z : ℕ) → P z
at_places x y s P a b f g z = by (same_or z x) (same_or z y) (basic_or_not (get_or s z None))
  where
    by : (z ≡ x) ⊎ (z ≢ x) → (z ≡ y) ⊎ (z ≢ y) → ((q : Line) × (get_or s z None ≡ Some q)) ⊎ (get_or s z None ≡ None) → P z
    by (inl e) j o = subst P (sym e) a
    by (inr i) (inl e) o = subst P (sym e) b
    by (inr i) (inr j) (inl e) = g z e.0 i e.1
    by (inr i) (inr j) (inr e) = f z j e

pub none_unless : (o : Option Line) → ((r : Line) → o ≡ Some r → ⊥) → o ≡ None
none_unless None h = refl
none_unless (Some r) h = absurd (h r refl)

pub not_both : (o : Option Line) (r : Line) → o ≡ Some r → o ≡ None → ⊥
not_both o r e f = cc

pub both_some : (o : Option Line) (q r : Line) → o ≡ Some q → o ≡ Some r → q ≡ r
both_some o q r e f = cc

pub none_of : (o : Option Line) → is_none o ≡ true → o ≡ None
none_of None h = refl
none_of (Some r) h = cc

abbrev pub line_or : Line → Option Line → Line
line_or r None = r
line_or r (Some q) = q

pub slice_none : (s : List (Option Line)) (z : ℕ) → z < length s → get_or s z None ≡ None → slice_get s z ≡ Some None
slice_none s z h e = slice_get-get_or s z None h ∙ ap Some e
