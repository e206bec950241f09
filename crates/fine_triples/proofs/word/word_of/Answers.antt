use Rattle.std.proofs.Common.{◌≡◌, ◌∙◌, ◌+◌, ◌-◌, ◌<◌, length, List, [], ◌∷◌, ℕ, sym, ap, subst, arith, length-append}
use Rattle.ntfe_model.specs.Words.{IsWordOf, after_side}
use Rattle.fine_triples.proofs.Insertion.{front_is, some_left, none_left}
use Rattle.fine_triples.proofs.Spelling.{IsSpelled, spelled_first, spelled_next, spelled_side, spelled_short, spelled_whole, word_set}
use Rattle.fine_triples.proofs.word.word_of.Goals as goal

pub loop-waiting-init : goal.loop-waiting-init
loop-waiting-init c =
    let P : List (ℕ × ℕ) × List ℕ → Type 0 = λ s. IsSpelled c.args.chart.now c.args.triangles.now s.0 s.1 in
    subst P (λ i. (sym c.in_ok-waiting.ensures.items i, sym c.new-word.ensures.items i)) (spelled_first c.args.chart.now c.args.triangles.now c.boundary-boundary.result.now c.requires c.boundary-boundary.ensures)

pub third_point-c-requires : goal.third_point-c-requires
third_point-c-requires c =
    let l = some_left c.loop-waiting.waiting.items c.loop-waiting.waiting.len c.is_empty.result c.loop-waiting.waiting.ok.0 c.is_empty.ensures c.loop-waiting-test.true in
    let e = front_is c.loop-waiting.waiting.items c.remove-a.new.self.items c.remove-a.result l c.remove-a.ensures.value c.remove-a.ensures.items in
    let P : List (ℕ × ℕ) → Type 0 = λ fs. IsSpelled c.args.chart.now c.args.triangles.now fs c.loop-waiting.word.items in
    spelled_side c.args.chart.now c.args.triangles.now c.remove-a.new.self.items c.loop-waiting.word.items c.remove-a.result.0 c.remove-a.result.1 (subst P e c.loop-waiting.invariant)

falls : (l m n : ℕ) → m < l → n ≡ m + 1 → l - n < l - m
falls l m n p q = omega (arith, p, q)

pub loop-waiting-smaller : goal.loop-waiting-smaller
loop-waiting-smaller c =
    let l = some_left c.loop-waiting.waiting.items c.loop-waiting.waiting.len c.is_empty.result c.loop-waiting.waiting.ok.0 c.is_empty.ensures c.loop-waiting-test.true in
    let e = front_is c.loop-waiting.waiting.items c.remove-a.new.self.items c.remove-a.result l c.remove-a.ensures.value c.remove-a.ensures.items in
    let P : List (ℕ × ℕ) → Type 0 = λ fs. IsSpelled c.args.chart.now c.args.triangles.now fs c.loop-waiting.word.items in
    let s = spelled_short c.args.chart.now c.args.triangles.now c.remove-a.new.self.items c.loop-waiting.word.items c.remove-a.result.0 c.remove-a.result.1 (subst P e c.loop-waiting.invariant) in
    let n = ap length c.in_ok-push.ensures.items ∙ length-append c.loop-waiting.word.items (c.third_point-c.result ∷ []) in
    falls _ _ _ s n

pub loop-waiting-preserved : goal.loop-waiting-preserved
loop-waiting-preserved c =
    let h = c.args.chart.now in
    let us = c.args.triangles.now in
    let a = c.remove-a.result.0 in
    let b = c.remove-a.result.1 in
    let z = c.third_point-c.result in
    let gs = c.remove-a.new.self.items in
    let ws = c.loop-waiting.word.items in
    let l = some_left c.loop-waiting.waiting.items c.loop-waiting.waiting.len c.is_empty.result c.loop-waiting.waiting.ok.0 c.is_empty.ensures c.loop-waiting-test.true in
    let e = front_is c.loop-waiting.waiting.items gs c.remove-a.result l c.remove-a.ensures.value c.remove-a.ensures.items in
    let P : List (ℕ × ℕ) → Type 0 = λ fs. IsSpelled h us fs ws in
    let s = spelled_next h us gs ws a b z c.requires c.third_point-c.ensures (subst P e c.loop-waiting.invariant) in
    let Q : List (ℕ × ℕ) × List ℕ → Type 0 = λ x. IsSpelled h us x.0 x.1 in
    let f = c.in_ok-take_side-2.ensures ∙ ap (after_side (z, a)) c.in_ok-take_side.ensures in
    let g = c.in_ok-push.ensures.items in
    subst Q (λ i. (sym f i, sym g i)) s

pub returns-clause-word : goal.returns-clause-word
returns-clause-word c =
    let h = c.args.chart.now in
    let us = c.args.triangles.now in
    let e = none_left c.loop-waiting.waiting.items c.loop-waiting.waiting.len c.is_empty.result c.loop-waiting.waiting.ok.0 c.is_empty.ensures c.loop-waiting-test.false in
    let P : List (ℕ × ℕ) → Type 0 = λ fs. IsSpelled h us fs c.loop-waiting.word.items in
    let Q : List ℕ → Type 0 = IsWordOf h us in
    subst Q (sym c.from_vec.ensures) (spelled_whole h us c.loop-waiting.word.items c.requires (subst P e c.loop-waiting.invariant))

pub returns-clause-fixed : goal.returns-clause-fixed
returns-clause-fixed c us o t = word_set c.args.chart.now c.args.triangles.now us c.from_vec.result (returns-clause-word c) o t
