-- Below a number whose item does not exist there is no choice.
use Rattle.std.proofs.Common.{◌≡◌, ◌∙◌, sym, ap, subst, ◌⊎◌, ⊎_elim, ℕ, ◌-◌, ◌<◌, ◌≤◌, List, length, arith}
use Rattle.std.specs.Prelude.{slice_index}
use Rattle.std.proofs.lemmas.List.{get_or-take}
use Rattle.ntfe_model.specs.Shapes.{Shape}
use Rattle.ntfe_model.specs.Charts.{patch_at}
use Rattle.ntfe_model.specs.Choices.{IsChoice}
use Rattle.ntfe_model.specs.Keys.{IsEnd, last_number}
use Rattle.ntfe_model.specs.Words.{HasItem}
use Rattle.ntfe_model.proofs.Items.{lesser_items}
use Rattle.choice_board.specs.Places.{IsIn, cone}

-- no choice begins with a number whose item does not exist, or goes on from it
pub end_has_none : (g : Shape) (key c : List ℕ) → 1 ≤ length key → length key ≤ length g.faces → IsEnd g key → IsChoice g c → IsIn (length g.faces) (cone key) c → ⊥
end_has_none g key c some most (f, within, none) choice p =
    ⊎_elim (λ early. none (before early)) (λ last. none (at last)) (let d : (f < length key - 1) ⊎ (f ≡ length key - 1) = grind arith in d)
  where
    item : HasItem g f (slice_index c f)
    item = choice.items f (omega arith)

    before : f < length key - 1 → HasItem g f (slice_index key f)
    before early =
        let j = length key - 1 in
        let same : slice_index c f ≡ slice_index key f =
        sym (get_or-take j c f 0 early) ∙ ap (λ xs. slice_index xs f) p.1 ∙ get_or-take j key f 0 early in
        subst (HasItem g f) same item

    at : f ≡ length key - 1 → HasItem g f (slice_index key f)
    at last =
        let low : last_number key ≤ slice_index c (length key - 1) = p.2 in
        let here : slice_index key f ≡ last_number key = ap (λ i. slice_index key i) last in
        let there : slice_index c f ≡ slice_index c (length key - 1) = ap (λ i. slice_index c i) last in
        (item.0, lesser_items (patch_at g f) (slice_index c f) (slice_index key f) item.1 (omega arith))
