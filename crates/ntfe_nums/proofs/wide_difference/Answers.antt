use Rattle.std.proofs.Common.{ℕ, ℤ, pos, ◌≡◌, ◌≤◌, ◌^◌, ◌-ℤ◌, List, [], ◌∷◌, get_or, sym, subst, refl, ◌∙◌, unsigned_abs, to_z, of_z, FitsSigned}
use Rattle.std.specs.Int.{w128}
use Rattle.ntfe_nums.specs.Vectors.{numbers, vector, difference}
use Rattle.ntfe_nums.specs.Sizes.{AreWithin}
use Rattle.ntfe_nums.proofs.Ring.{Expression}
use Rattle.ntfe_nums.proofs.Ring.Expression.{var, minus}
use Rattle.ntfe_nums.proofs.Machine.{AreWithin-same, AreWithin-difference, AreBounded, AreWithin-four, AreWithin-numbers, exact, fits}
use Rattle.ntfe_nums.proofs.wide_difference.Goals as goal

size_at : (ws zs : List ℤ) (i : ℕ) → ws ≡ numbers (vector zs) → AreWithin (2 ^ 20) zs → unsigned_abs (get_or ws i (pos 0)) ≤ 2 ^ 20
size_at ws zs i e h =
    let P : List ℤ → Type 0 = λ l. unsigned_abs (get_or l i (pos 0)) ≤ 2 ^ 20 in
    subst P (sym e) (AreWithin-four (2 ^ 20) (numbers (vector zs)) (AreWithin-numbers (2 ^ 20) zs h) i)

abbrev form : Expression
form = minus (var 0) (var 1)

module _ (bs as' : List ℤ) (b a : List ℤ) (e : bs ≡ numbers (vector b)) (f : as' ≡ numbers (vector a)) (h : AreWithin (2 ^ 20) b) (k : AreWithin (2 ^ 20) a) (i : ℕ) where
  bounded : AreBounded (get_or bs i (pos 0) ∷ get_or as' i (pos 0) ∷ []) (2 ^ 20 ∷ 2 ^ 20 ∷ [])
  bounded = (size_at bs b i e h, (size_at as' a i f k, tt))

  part_fits : FitsSigned w128 (to_z w128 (of_z w128 (get_or bs i (pos 0))) -ℤ to_z w128 (of_z w128 (get_or as' i (pos 0))))
  part_fits = fits w128 (get_or bs i (pos 0) ∷ get_or as' i (pos 0) ∷ []) (2 ^ 20 ∷ 2 ^ 20 ∷ []) bounded form refl

  part : to_z w128 (of_z w128 (to_z w128 (of_z w128 (get_or bs i (pos 0))) -ℤ to_z w128 (of_z w128 (get_or as' i (pos 0))))) ≡ get_or (numbers (vector b)) i (pos 0) -ℤ get_or (numbers (vector a)) i (pos 0)
  part =
      exact w128 (get_or bs i (pos 0) ∷ get_or as' i (pos 0) ∷ []) (2 ^ 20 ∷ 2 ^ 20 ∷ []) bounded form refl
      ∙ (λ t. get_or (e t) i (pos 0) -ℤ get_or (f t) i (pos 0))

pub overflow_sub-result : goal.overflow_sub-result
overflow_sub-result c = part_fits c.wide-b.result c.wide-a.result c.args.b.now c.args.a.now c.wide-b.ensures.value c.wide-a.ensures.value c.requires.first c.requires.second 0

pub overflow_sub-result-2 : goal.overflow_sub-result-2
overflow_sub-result-2 c = part_fits c.wide-b.result c.wide-a.result c.args.b.now c.args.a.now c.wide-b.ensures.value c.wide-a.ensures.value c.requires.first c.requires.second 1

pub overflow_sub-result-3 : goal.overflow_sub-result-3
overflow_sub-result-3 c = part_fits c.wide-b.result c.wide-a.result c.args.b.now c.args.a.now c.wide-b.ensures.value c.wide-a.ensures.value c.requires.first c.requires.second 2

pub overflow_sub-result-4 : goal.overflow_sub-result-4
overflow_sub-result-4 c = part_fits c.wide-b.result c.wide-a.result c.args.b.now c.args.a.now c.wide-b.ensures.value c.wide-a.ensures.value c.requires.first c.requires.second 3

pub returns-clause-value : goal.returns-clause-value
returns-clause-value c =
    let p = λ (i : ℕ). part c.wide-b.result c.wide-a.result c.args.b.now c.args.a.now c.wide-b.ensures.value c.wide-a.ensures.value c.requires.first c.requires.second i in
    λ t. p 0 t ∷ p 1 t ∷ p 2 t ∷ p 3 t ∷ []

pub returns-clause-small : goal.returns-clause-small
returns-clause-small c =
    AreWithin-same (2 ^ 21) _ (numbers (difference (vector c.args.b.now) (vector c.args.a.now))) (returns-clause-value c)
    (AreWithin-difference (2 ^ 20) (2 ^ 20) c.args.b.now c.args.a.now c.requires.first c.requires.second)
