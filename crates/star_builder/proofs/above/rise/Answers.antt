use Rattle.std.proofs.Common.{ℕ, ℤ, ◌∙◌, ◌^◌, ◌≤◌, List, [], ◌∷◌, refl, sym, subst, arith, unsigned_abs}
use Rattle.std.specs.Int.{w128}
use Rattle.ntfe_nums.specs.Sizes.{AreWithin}
use Rattle.ntfe_nums.proofs.Ring.{Expression, value}
use Rattle.ntfe_nums.proofs.Ring.Expression.{plus, minus, times, var}
use Rattle.ntfe_nums.proofs.Machine.{AreBounded, exact, fits, value-size}
use Rattle.star_builder.proofs.above.rise.Goals as goal

abbrev bounds : List ℕ
bounds = let m : ℕ = 2 ^ 48 in let h : ℕ = 2 ^ 63 in m ∷ m ∷ m ∷ m ∷ m ∷ h ∷ h ∷ h ∷ h ∷ h ∷ []

abbrev part : ℕ → ℕ → Expression
part i j = times (var i) (var j)

abbrev sum2 : Expression
sum2 = plus (part 1 6) (part 2 7)

abbrev sum3 : Expression
sum3 = plus sum2 (part 3 8)

abbrev sum4 : Expression
sum4 = plus sum3 (part 4 9)

abbrev whole : Expression
whole = minus (part 0 5) sum4

bounded : (s k l m n x a b c d : ℤ) → AreWithin (2 ^ 48) (s ∷ k ∷ l ∷ m ∷ n ∷ []) → unsigned_abs x ≤ 2 ^ 63 → unsigned_abs a ≤ 2 ^ 63 → unsigned_abs b ≤ 2 ^ 63 → unsigned_abs c ≤ 2 ^ 63 → unsigned_abs d ≤ 2 ^ 63
    → AreBounded (s ∷ k ∷ l ∷ m ∷ n ∷ x ∷ a ∷ b ∷ c ∷ d ∷ []) bounds
bounded s k l m n x a b c d w hx ha hb hc hd = (w.0, (w.1.0, (w.1.1.0, (w.1.1.1.0, (w.1.1.1.1.0, (hx, (ha, (hb, (hc, (hd, tt))))))))))

pub overflow_mul-result : goal.overflow_mul-result
overflow_mul-result c =
    let m = c.args.m.now in
    let x = c.height_of-x in
    let a = c.height_of-a in
    let b = c.height_of-b in
    let u = c.height_of-c in
    let d = c.height_of-d in
    let vars : List ℤ = m.size ∷ m.first ∷ m.second ∷ m.third ∷ m.fourth ∷ x.result ∷ a.result ∷ b.result ∷ u.result ∷ d.result ∷ [] in
    let h = bounded m.size m.first m.second m.third m.fourth x.result a.result b.result u.result d.result c.requires.within x.ensures.size a.ensures.size b.ensures.size u.ensures.size d.ensures.size in
    fits w128 vars bounds h (part 0 5) refl

pub overflow_mul-result-2 : goal.overflow_mul-result-2
overflow_mul-result-2 c =
    let m = c.args.m.now in
    let x = c.height_of-x in
    let a = c.height_of-a in
    let b = c.height_of-b in
    let u = c.height_of-c in
    let d = c.height_of-d in
    let vars : List ℤ = m.size ∷ m.first ∷ m.second ∷ m.third ∷ m.fourth ∷ x.result ∷ a.result ∷ b.result ∷ u.result ∷ d.result ∷ [] in
    let h = bounded m.size m.first m.second m.third m.fourth x.result a.result b.result u.result d.result c.requires.within x.ensures.size a.ensures.size b.ensures.size u.ensures.size d.ensures.size in
    fits w128 vars bounds h (part 1 6) refl

pub overflow_mul-result-3 : goal.overflow_mul-result-3
overflow_mul-result-3 c =
    let m = c.args.m.now in
    let x = c.height_of-x in
    let a = c.height_of-a in
    let b = c.height_of-b in
    let u = c.height_of-c in
    let d = c.height_of-d in
    let vars : List ℤ = m.size ∷ m.first ∷ m.second ∷ m.third ∷ m.fourth ∷ x.result ∷ a.result ∷ b.result ∷ u.result ∷ d.result ∷ [] in
    let h = bounded m.size m.first m.second m.third m.fourth x.result a.result b.result u.result d.result c.requires.within x.ensures.size a.ensures.size b.ensures.size u.ensures.size d.ensures.size in
    fits w128 vars bounds h (part 2 7) refl

pub overflow_add-result : goal.overflow_add-result
overflow_add-result c =
    let m = c.args.m.now in
    let x = c.height_of-x in
    let a = c.height_of-a in
    let b = c.height_of-b in
    let u = c.height_of-c in
    let d = c.height_of-d in
    let vars : List ℤ = m.size ∷ m.first ∷ m.second ∷ m.third ∷ m.fourth ∷ x.result ∷ a.result ∷ b.result ∷ u.result ∷ d.result ∷ [] in
    let h = bounded m.size m.first m.second m.third m.fourth x.result a.result b.result u.result d.result c.requires.within x.ensures.size a.ensures.size b.ensures.size u.ensures.size d.ensures.size in
    fits w128 vars bounds h sum2 refl

pub overflow_mul-result-4 : goal.overflow_mul-result-4
overflow_mul-result-4 c =
    let m = c.args.m.now in
    let x = c.height_of-x in
    let a = c.height_of-a in
    let b = c.height_of-b in
    let u = c.height_of-c in
    let d = c.height_of-d in
    let vars : List ℤ = m.size ∷ m.first ∷ m.second ∷ m.third ∷ m.fourth ∷ x.result ∷ a.result ∷ b.result ∷ u.result ∷ d.result ∷ [] in
    let h = bounded m.size m.first m.second m.third m.fourth x.result a.result b.result u.result d.result c.requires.within x.ensures.size a.ensures.size b.ensures.size u.ensures.size d.ensures.size in
    fits w128 vars bounds h (part 3 8) refl

pub overflow_add-result-2 : goal.overflow_add-result-2
overflow_add-result-2 c =
    let m = c.args.m.now in
    let x = c.height_of-x in
    let a = c.height_of-a in
    let b = c.height_of-b in
    let u = c.height_of-c in
    let d = c.height_of-d in
    let vars : List ℤ = m.size ∷ m.first ∷ m.second ∷ m.third ∷ m.fourth ∷ x.result ∷ a.result ∷ b.result ∷ u.result ∷ d.result ∷ [] in
    let h = bounded m.size m.first m.second m.third m.fourth x.result a.result b.result u.result d.result c.requires.within x.ensures.size a.ensures.size b.ensures.size u.ensures.size d.ensures.size in
    fits w128 vars bounds h sum3 refl

pub overflow_mul-result-5 : goal.overflow_mul-result-5
overflow_mul-result-5 c =
    let m = c.args.m.now in
    let x = c.height_of-x in
    let a = c.height_of-a in
    let b = c.height_of-b in
    let u = c.height_of-c in
    let d = c.height_of-d in
    let vars : List ℤ = m.size ∷ m.first ∷ m.second ∷ m.third ∷ m.fourth ∷ x.result ∷ a.result ∷ b.result ∷ u.result ∷ d.result ∷ [] in
    let h = bounded m.size m.first m.second m.third m.fourth x.result a.result b.result u.result d.result c.requires.within x.ensures.size a.ensures.size b.ensures.size u.ensures.size d.ensures.size in
    fits w128 vars bounds h (part 4 9) refl

pub overflow_add-result-3 : goal.overflow_add-result-3
overflow_add-result-3 c =
    let m = c.args.m.now in
    let x = c.height_of-x in
    let a = c.height_of-a in
    let b = c.height_of-b in
    let u = c.height_of-c in
    let d = c.height_of-d in
    let vars : List ℤ = m.size ∷ m.first ∷ m.second ∷ m.third ∷ m.fourth ∷ x.result ∷ a.result ∷ b.result ∷ u.result ∷ d.result ∷ [] in
    let h = bounded m.size m.first m.second m.third m.fourth x.result a.result b.result u.result d.result c.requires.within x.ensures.size a.ensures.size b.ensures.size u.ensures.size d.ensures.size in
    fits w128 vars bounds h sum4 refl

pub overflow_sub-result : goal.overflow_sub-result
overflow_sub-result c =
    let m = c.args.m.now in
    let x = c.height_of-x in
    let a = c.height_of-a in
    let b = c.height_of-b in
    let u = c.height_of-c in
    let d = c.height_of-d in
    let vars : List ℤ = m.size ∷ m.first ∷ m.second ∷ m.third ∷ m.fourth ∷ x.result ∷ a.result ∷ b.result ∷ u.result ∷ d.result ∷ [] in
    let h = bounded m.size m.first m.second m.third m.fourth x.result a.result b.result u.result d.result c.requires.within x.ensures.size a.ensures.size b.ensures.size u.ensures.size d.ensures.size in
    fits w128 vars bounds h whole refl

pub returns-clause-value : goal.returns-clause-value
returns-clause-value c =
    let m = c.args.m.now in
    let x = c.height_of-x in
    let a = c.height_of-a in
    let b = c.height_of-b in
    let u = c.height_of-c in
    let d = c.height_of-d in
    let vars : List ℤ = m.size ∷ m.first ∷ m.second ∷ m.third ∷ m.fourth ∷ x.result ∷ a.result ∷ b.result ∷ u.result ∷ d.result ∷ [] in
    let h = bounded m.size m.first m.second m.third m.fourth x.result a.result b.result u.result d.result c.requires.within x.ensures.size a.ensures.size b.ensures.size u.ensures.size d.ensures.size in
    exact w128 vars bounds h whole refl
    ∙ (λ i. value (m.size ∷ m.first ∷ m.second ∷ m.third ∷ m.fourth ∷ x.ensures.value i ∷ a.ensures.value i ∷ b.ensures.value i ∷ u.ensures.value i ∷ d.ensures.value i ∷ []) whole)

pub returns-clause-size : goal.returns-clause-size
returns-clause-size c =
    let m = c.args.m.now in
    let x = c.height_of-x in
    let a = c.height_of-a in
    let b = c.height_of-b in
    let u = c.height_of-c in
    let d = c.height_of-d in
    let vars : List ℤ = m.size ∷ m.first ∷ m.second ∷ m.third ∷ m.fourth ∷ x.result ∷ a.result ∷ b.result ∷ u.result ∷ d.result ∷ [] in
    let h = bounded m.size m.first m.second m.third m.fourth x.result a.result b.result u.result d.result c.requires.within x.ensures.size a.ensures.size b.ensures.size u.ensures.size d.ensures.size in
    let s = value-size vars bounds whole h in
    let P : ℤ → Type 0 = λ z. unsigned_abs z ≤ 2 ^ 114 in
    subst P (sym (exact w128 vars bounds h whole refl)) (omega (arith, s))
