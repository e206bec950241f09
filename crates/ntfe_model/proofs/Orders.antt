-- The orders of the definitions are strict; that of words, keys and choices is total.
use Rattle.std.proofs.Common.{◌≡◌, ◌∙◌, refl, sym, ap, ◌⊎◌, inl, inr, ℕ, List, [], ◌∷◌, arith, Option, None, Some}
use Rattle.std.specs.Ordering.{nat_cmp, ordering_then, ordering_reverse}
use Rattle.std.specs.declared.cmp.Ordering.{Ordering}
use Rattle.std.specs.declared.cmp.Ordering.TheVariants.{Less, Equal, Greater}
use Rattle.std.specs.Cmp.{ranked}
use Rattle.std.specs.Cmp.Lexicographic.{slice_cmp, lists_total, nat_list_cmp_total}
use Rattle.std.proofs.lemmas.Cmp.{int_cmp_total}
use Rattle.ntfe_nums.specs.Vectors.{Vector, Precedes, numbers}
use Rattle.ntfe_model.specs.Lists.{IsBelow, IsBefore2}
use Rattle.ntfe_model.specs.Keys.{IsAfter}
use Rattle.ntfe_model.specs.declared.triangulation.Triangulation.{Triangulation}
use Rattle.ntfe_model.specs.declared.nogood.Fold.{Fold}

-- ---- the orders by the letters of the words, and by the ends of edges and folds

abbrev pub WordBelow : Triangulation → Triangulation → Type 0
WordBelow y z = IsBelow y.word z.word

abbrev pub EdgeBefore : ℕ × ℕ → ℕ × ℕ → Type 0
EdgeBefore e f = IsBefore2 e.0 e.1 f.0 f.1

abbrev pub FoldBefore : Fold → Fold → Type 0
FoldBefore q r = IsBefore2 q.a q.b r.a r.b

-- ---- each is strict

pub precedes_once : (a b : Vector) → Precedes a b → Precedes b a → ⊥
precedes_once a b p q = let r : Less ≡ ordering_reverse Less = sym p ∙ (lists_total int_cmp_total).antisymm (numbers a) (numbers b) ∙ ap ordering_reverse q in cc

pub before_once : (a b c d : ℕ) → IsBefore2 a b c d → IsBefore2 c d a b → ⊥
before_once a b c d p q = absurd (grind arith)

pub below_once : (v w : List ℕ) → IsBelow v w → IsBelow w v → ⊥
below_once v w p q = let r : Less ≡ ordering_reverse Less = sym p ∙ nat_list_cmp_total.antisymm v w ∙ ap ordering_reverse q in cc

pub below_chain : (u v w : List ℕ) → IsBelow u v → IsBelow v w → IsBelow u w
below_chain u v w p q = nat_list_cmp_total.trans u v w p q

pub after_chain : (s : Option (List ℕ)) (v w : List ℕ) → IsAfter s v → IsBelow v w → IsAfter s w
after_chain None v w p q = tt
after_chain (Some u) v w p q = below_chain u v w p q

pub equal_lists : (v w : List ℕ) → slice_cmp nat_cmp v w ≡ Equal → v ≡ w
equal_lists [] [] e = refl
equal_lists [] (y ∷ ys) e = cc
equal_lists (x ∷ xs) [] e = cc
equal_lists (x ∷ xs) (y ∷ ys) e = by (nat_cmp x y) refl (equal_lists xs ys) e
  where
    by : (r : Ordering) → r ≡ nat_cmp x y → (slice_cmp nat_cmp xs ys ≡ Equal → xs ≡ ys) → ordering_then r (slice_cmp nat_cmp xs ys) ≡ Equal → x ∷ xs ≡ y ∷ ys
    by Less q rest f = cc
    by Equal q rest f = let p : x ≡ y = ranked x y Equal q in let t = rest f in λ i. p i ∷ t i
    by Greater q rest f = cc

pub three_ways : (v w : List ℕ) → IsBelow v w ⊎ ((v ≡ w) ⊎ IsBelow w v)
three_ways v w = by (slice_cmp nat_cmp v w) refl
  where
    by : (r : Ordering) → slice_cmp nat_cmp v w ≡ r → IsBelow v w ⊎ ((v ≡ w) ⊎ IsBelow w v)
    by Less q = inl q
    by Equal q = inr (inl (equal_lists v w q))
    by Greater q = inr (inr (nat_list_cmp_total.antisymm w v ∙ ap ordering_reverse q))
