use Rattle.std.proofs.Common.{◌≡◌, ◌∙◌, sym, ap, subst, ℕ, suc, ◌+◌, ◌-◌, ◌≤◌, List, [], ◌∷◌, ◌++◌, length, take, get_or, set, arith}
use Rattle.std.proofs.Math.Seq.{take-suc-set}
use Rattle.std.proofs.lemmas.List.{get_or_default, length-set, take_all}
use Rattle.choice_board.specs.Places.{raised}
use Rattle.choice_board.proofs.opening.raise.Goals as goal

-- the last number of the items raised where they stand
own_raised : (key : List ℕ) (x : ℕ) → 1 ≤ length key → x ≡ get_or key (length key - 1) x → set key (length key - 1) (x + 1) ≡ raised key
own_raised key x some at =
    let n = length key - 1 in
    let l = length-set key (length key - 1) (x + 1) in
    sym (take_all (suc n) (set key n (x + 1)) (omega arith)) ∙ take-suc-set key n (x + 1) (omega arith)
    ∙ ap (λ y. take n key ++ (y + 1) ∷ []) (at ∙ get_or_default key n x 0 (omega arith))

raised_items : (key items : List ℕ) (n x : ℕ) → items ≡ key → n ≡ length items → 1 ≤ length key → x ≡ get_or items (n - 1) x → set items (n - 1) (x + 1) ≡ raised key
raised_items key items n x e l some at =
    let P : List ℕ × ℕ → Type 0 = λ p. x ≡ get_or p.0 (p.1 - 1) x → set p.0 (p.1 - 1) (x + 1) ≡ raised key in
    subst P (λ i. (sym e i, sym (l ∙ ap length e) i)) (own_raised key x some) at

pub returns : goal.returns
returns c =
    let l : c.len-stem.result ≡ length c.into_vec-items.result.items = omega arith in
    c.from_vec.ensures
    ∙ raised_items c.args.key c.into_vec-items.result.items c.len-stem.result c.index_mut.result.now (c.into_vec-items.ensures ∙ c.key.view_is) l c.requires.some c.index_mut.ensures.value
