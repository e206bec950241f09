-- What the solver's answers on a head's folds say of the key.
use Rattle.std.proofs.Common.{◌≡◌, ℕ, ◌<◌, ◌≤◌, subst, arith, ℤ, pos, ◌<ℤ◌, ◌≤ℤ◌, List, length, map, get_or}
use Rattle.std.specs.Prelude.{All, slice_get, Some, None}
use Rattle.std.proofs.lemmas.Int.{ints}
use Rattle.std.proofs.lemmas.List.Elements.{All-weaker}
use Rattle.std.proofs.lemmas.Option.{slice_get_within, get_or_from_slice_get}
use Rattle.ntfe_model.specs.Shapes.{Shape, IsShape}
use Rattle.ntfe_model.specs.Choices.{fold_value, IsSmallFold}
use Rattle.ntfe_model.specs.Solver.{fold_row, IsFeasible, IsInfeasible, IsWide}
use Rattle.ntfe_model.specs.Keys.{AllItemsExist, last_number, item_limit, IsClass, IsRefutedAt}
use Rattle.ntfe_model.specs.declared.nogood.Fold.{Fold}
use Rattle.strict_solver.specs.Starts.{IsFoldOver, AreFoldsOver}
use Rattle.strict_solver.specs.Answers.{Answer}
use Rattle.strict_solver.specs.Answers.Answer.{feasible, infeasible}
use Rattle.strict_solver.specs.Solving.{AreMultipliers, HasSolved, HasMeaning}
use Rattle.strict_solver.specs.declared.run.Solved.TheVariants.{Feasible, Infeasible, Wide}
use Rattle.strict_solver.proofs.Meaning.{above}
use Rattle.strict_solver.proofs.Agree.{one_answer}
use Rattle.strict_solver.proofs.Determined.{infeasible_not_wide}
use Rattle.node_probe.specs.Heads.{AreHeadRows}
use Rattle.node_probe.proofs.Heads.{head_all, head_folds_fixed}
use Rattle.node_probe.proofs.Counts.{fold_known}
use Rattle.node_probe.proofs.Extending.{folds_extend}

-- heights at a width are those without one
unwidened : (columns : ℕ) (rs : List (List ℤ)) (width : ℕ) (w : List ℤ) → IsFeasible columns rs (Some width) w → IsFeasible columns rs None w
unwidened columns rs width w h = record {
  steps = h.steps;
  end = h.end;
  reaches = record { tables = h.reaches.tables; count = h.reaches.count; run = h.reaches.run; narrow = λ k t l e. tt };
  narrow = tt;
  move = h.move;
  scales = h.scales;
  scaling = h.scaling;
  narrow_scaling = tt;
}

module _ (g : Shape) (s : IsShape g) (key : List ℕ) (rs : List Fold) (faces : List ℕ) (rows : AreHeadRows g key rs faces) where
  abbrev HasKnown : Fold → Type 0
  HasKnown r =
      ((1 ≤ r.a) × (r.a ≤ length g.points)) × ((1 ≤ r.b) × (r.b ≤ length g.points)) × ((1 ≤ r.c) × (r.c ≤ length g.points)) × ((1 ≤ r.d) × (r.d ≤ length g.points))

  all_known : length key ≤ length g.faces → All HasKnown rs
  all_known at_most = head_all g HasKnown key rs rows.folds (λ f l x i r k. fold_known g s f (omega (arith, l, at_most)) (get_or key f 0) x i r k)

  pub folds_over : length key ≤ length g.faces → AreFoldsOver (length g.points) rs
  folds_over at_most = record { each = over }
    where
      over : (j : ℕ) (f : Fold) → slice_get rs j ≡ Some f → IsFoldOver (length g.points) f
      over j f e =
          let l = slice_get_within rs j f e in
          let at = get_or_from_slice_get rs j f f e in
          let P : Fold → Type 0 = λ r. HasKnown r × IsSmallFold r in
          let k = subst P at (all_known at_most j f l, rows.small j f l) in
          record { a = k.0.0; b = k.0.1; c = k.0.2; d = k.0.3; alpha = k.1.0; beta = k.1.1 }

  -- heights that the solver finds on all folds of a choice make it a class
  pub open_class : AllItemsExist g key → last_number key < item_limit g → (at_most : length key ≤ length g.faces) → length key ≡ length g.faces → (w : List ℤ)
      → IsFeasible (length g.points) (map (fold_row (length g.points)) rs) None w → IsClass g key w
  open_class items near at_most faces_are w h =
      let k = above (length g.points) rs None w (folds_over at_most) h in (
        record { faces = faces_are; items = λ f l. items f (omega (arith, l, faces_are)) },
        near,
        folds_extend g s w k.0 key faces_are rs rows.folds (All-weaker (λ f. pos 1 ≤ℤ fold_value w f) (λ f. pos 0 <ℤ fold_value w f) (λ f l. positive (fold_value w f) l) rs k.1),
        (rs, rows.folds, h),
      )
    where
      positive : (z : ℤ) → pos 1 ≤ℤ z → pos 0 <ℤ z
      positive z l = omega (arith, ints, l)

  -- the same at a width
  pub class_of : AllItemsExist g key → last_number key < item_limit g → length key ≡ length g.faces → (width : ℕ) (w : List ℤ) → IsFeasible (length g.points) (map (fold_row (length g.points)) rs) (Some width) w → IsClass g key w
  class_of items near faces_are width w h = open_class items near (omega (arith, faces_are)) faces_are w (unwidened (length g.points) (map (fold_row (length g.points)) rs) width w h)

  -- a refuted key has multipliers on these folds
  pub refuted_on : (width : ℕ) → IsRefutedAt g width key → (ms : List (ℕ × ℤ)) × IsInfeasible (length g.points) (map (fold_row (length g.points)) rs) (Some width) ms
  refuted_on width (qs, ms, folds, k) =
      let e = head_folds_fixed g 0 key qs rs folds rows.folds in
      let P : List Fold → Type 0 = λ ts. IsInfeasible (length g.points) (map (fold_row (length g.points)) ts) (Some width) ms in
      (ms, subst P e k)

  -- where it finds heights, or is wide, it is not infeasible
  pub open_not_refuted : (width : ℕ) (w : List ℤ) → IsFeasible (length g.points) (map (fold_row (length g.points)) rs) None w → IsRefutedAt g width key → ⊥
  open_not_refuted width w h r = let i = refuted_on width r in one_answer (length g.points) (map (fold_row (length g.points)) rs) None (Some width) w i.0 h i.1

  pub not_refuted : (width : ℕ) (w : List ℤ) → IsFeasible (length g.points) (map (fold_row (length g.points)) rs) (Some width) w → IsRefutedAt g width key → ⊥
  not_refuted width w h = open_not_refuted width w (unwidened (length g.points) (map (fold_row (length g.points)) rs) width w h)

  pub not_refuted_wide : (width step : ℕ) (number : ℤ) → IsWide (length g.points) (map (fold_row (length g.points)) rs) width step number → IsRefutedAt g width key → ⊥
  not_refuted_wide width step number h r = let i = refuted_on width r in infeasible_not_wide (length g.points) (map (fold_row (length g.points)) rs) width i.0 step number i.1 h

-- ---- an answer, over the points and the folds that it is of

pub solved_infeasible : (columns n width : ℕ) (qs rs : List Fold) (a : Answer) (ms : List (ℕ × ℤ)) → columns ≡ n → qs ≡ rs → a ≡ infeasible ms → HasSolved columns (map (fold_row columns) qs) width Infeasible a
    → HasMeaning columns qs Infeasible a → IsInfeasible n (map (fold_row n) rs) (Some width) ms × AreMultipliers n (map (fold_row n) rs) ms
solved_infeasible columns n width qs rs a ms e f m h k =
    let P : ℕ × List Fold × Answer → Type 0 = λ t. HasSolved t.0 (map (fold_row t.0) t.1) width Infeasible t.2 × HasMeaning t.0 t.1 Infeasible t.2 in
    subst P (λ i. (e i, f i, m i)) (h, k)

pub solved_feasible : (columns n width : ℕ) (qs rs : List Fold) (a : Answer) (ws : List ℤ) → columns ≡ n → qs ≡ rs → a ≡ feasible ws → HasSolved columns (map (fold_row columns) qs) width Feasible a
    → HasMeaning columns qs Feasible a → IsFeasible n (map (fold_row n) rs) (Some width) ws × ((length ws ≡ n) × All (λ f. pos 1 ≤ℤ fold_value ws f) rs)
solved_feasible columns n width qs rs a ws e f m h k =
    let P : ℕ × List Fold × Answer → Type 0 = λ t. HasSolved t.0 (map (fold_row t.0) t.1) width Feasible t.2 × HasMeaning t.0 t.1 Feasible t.2 in
    subst P (λ i. (e i, f i, m i)) (h, k)

pub solved_wide : (columns n width : ℕ) (qs rs : List Fold) (a : Answer) (step : ℕ) (number : ℤ) → columns ≡ n → qs ≡ rs → HasSolved columns (map (fold_row columns) qs) width (Wide step number) a
    → IsWide n (map (fold_row n) rs) width step number
solved_wide columns n width qs rs a step number e f h =
    let P : ℕ × List Fold → Type 0 = λ t. IsWide t.0 (map (fold_row t.0) t.1) width step number in
    subst P (λ i. (e i, f i)) h.0
