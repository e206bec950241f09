-- The certificate that is put together is one, and blocks the key.
use Rattle.std.proofs.Common.{◌≡◌, ℕ, ◌+◌, ◌-◌, ◌<◌, ◌≤◌, sym, ap, ◌∙◌, subst, arith, ℤ, pos, ◌<ℤ◌, ◌≤ℤ◌, List, [], ◌∷◌, length, map, get_or}
use Rattle.std.specs.Prelude.{slice_get, Some, None}
use Rattle.std.proofs.lemmas.Int.{ints}
use Rattle.std.proofs.lemmas.List.{length-map, get_or-map}
use Rattle.std.proofs.lemmas.Option.{slice_get-get_or}
use Rattle.ntfe_model.proofs.Lists.{some_once}
use Rattle.ntfe_model.specs.Shapes.{Shape, IsShape}
use Rattle.ntfe_model.specs.Charts.{patch_at}
use Rattle.ntfe_model.specs.Words.{IsItem, HasItem}
use Rattle.ntfe_model.specs.Choices.{IsFoldOf}
use Rattle.ntfe_model.specs.Certificates.{no_part, part_at, IsTermOf, IsCertificate, total_coefficient}
use Rattle.ntfe_model.specs.Solver.{fold_row, IsInfeasible}
use Rattle.ntfe_model.specs.Keys.{AllItemsExist}
use Rattle.ntfe_model.specs.declared.triangulation.Triangulation.{Triangulation}
use Rattle.ntfe_model.specs.declared.nogood.Fold.{Fold}
use Rattle.ntfe_model.specs.declared.nogood.Term.{Term}
use Rattle.ntfe_model.specs.declared.nogood.Nogood.{Nogood}
use Rattle.strict_solver.specs.Solving.{AreMultipliers}
use Rattle.strict_solver.proofs.Uses.{AreTermsOf, terms_cancel}
use Rattle.node_probe.specs.Heads.{AreHeadRows}
use Rattle.node_probe.specs.Refutations.{IsAssembled}
use Rattle.node_probe.specs.Findings.{IsRefutation}
use Rattle.ntfe_model.proofs.Counts.{codes_count}
use Rattle.node_probe.proofs.Counts.{head_few}

-- ---- the terms

cons_first : {X : Type 0} (x y : X) (xs ys : List X) → x ∷ xs ≡ y ∷ ys → x ≡ y
cons_first x y xs ys e = cc

cons_rest : {X : Type 0} (x y : X) (xs ys : List X) → x ∷ xs ≡ y ∷ ys → xs ≡ ys
cons_rest x y xs ys e = cc

terms_of : (rs : List Fold) (ms : List (ℕ × ℤ)) (ts : List Term) → map (λ t. t.times) ts ≡ map (λ e. e.1) ms → map (λ t. Some t.fold) ts ≡ map (λ e. slice_get rs e.0) ms → AreTermsOf rs ms ts
terms_of rs [] [] a b = tt
terms_of rs [] (t ∷ ts) a b = cc
terms_of rs (e ∷ ms) [] a b = cc
terms_of rs (e ∷ ms) (t ∷ ts) a b = (
  cons_first t.times e.1 (map (λ u. u.times) ts) (map (λ f. f.1) ms) a,
  sym (cons_first (Some t.fold) (slice_get rs e.0) (map (λ u. Some u.fold) ts) (map (λ f. slice_get rs f.0) ms) b),
  terms_of rs ms ts (cons_rest t.times e.1 (map (λ u. u.times) ts) (map (λ f. f.1) ms) a) (cons_rest (Some t.fold) (slice_get rs e.0) (map (λ u. Some u.fold) ts) (map (λ f. slice_get rs f.0) ms) b),
)

module _ (g : Shape) (s : IsShape g) (key : List ℕ) (at_most : length key ≤ length g.faces) (items : AllItemsExist g key) (rs : List Fold) (faces : List ℕ) (rows : AreHeadRows g key rs faces)
    (ms : List (ℕ × ℤ)) (m : AreMultipliers (length g.points) (map (fold_row (length g.points)) rs) ms) (n : Nogood) (h : IsAssembled key rs faces ms n.parts n.terms) where
  counts : length n.terms ≡ length ms
  counts = sym (length-map n.terms (λ (u : Term). u.times)) ∙ ap length h.times ∙ length-map ms (λ (f : ℕ × ℤ). f.1)

  row_count : length (map (fold_row (length g.points)) rs) ≡ length rs
  row_count = length-map rs (fold_row (length g.points))

  known : (j : ℕ) (e : ℕ × ℤ) → j < length ms → (get_or ms j e).0 < length rs
  known j e l = let k = (m.positive j e l).0 in let c = row_count in omega (arith, k, c)

  few : length n.terms < 4294967296
  few =
      let c = codes_count (λ (e : ℕ × ℤ). e.0) (length rs) 0 ms m.rising (λ j e l. (let k = known j e l in (omega arith, k))) (omega arith) in
      let r = head_few g s key rs at_most rows.folds in
      let t = counts in
      omega (arith, c, r, t)

  term_is : (j : ℕ) (d : Term) → j < length n.terms → IsTermOf g n (get_or n.terms j d)
  term_is j d l =
      let c = counts in
      let e : ℕ × ℤ = (0, pos 0) in
      let lm : j < length ms = omega (arith, l, c) in
      let t = get_or n.terms j d in
      let r = (get_or ms j e).0 in
      let named = h.named j d e l in
      let part = part_at n t.part in
      let fold : Some t.fold ≡ slice_get rs r =
      sym (get_or-map (λ (u : Term). Some u.fold) n.terms j d None l) ∙ ap (λ us. get_or us j None) h.folds ∙ get_or-map (λ (f : ℕ × ℤ). slice_get rs f.0) ms j e None lm in
      let same : t.fold ≡ get_or rs r t.fold = some_once t.fold (get_or rs r t.fold) (fold ∙ slice_get-get_or rs r t.fold (known j e lm)) in
      let times : t.times ≡ (get_or ms j e).1 =
      sym (get_or-map (λ (u : Term). u.times) n.terms j d (pos 0) l) ∙ ap (λ us. get_or us j (pos 0)) h.times ∙ get_or-map (λ (f : ℕ × ℤ). f.1) ms j e (pos 0) lm in
      let owner = rows.owners r t.fold (known j e lm) in
      let in_head = h.items t.part no_part named.0 in
      let F : ℕ × Fold → Type 0 = λ u. (x : Triangulation) × IsItem (patch_at g u.0) (get_or key u.0 0) x × IsFoldOf (patch_at g u.0) x u.1 in
      let o = subst F (λ i. (sym named.1 i, sym same i)) owner.1 in
      let N : ℕ → Type 0 = λ k. IsItem (patch_at g part.face) k o.0 in
      record {
        part = named.0;
        item = o.0;
        is_item = subst N in_head.1 o.1;
        fold = o.2;
        times = at_least t.times (get_or ms j e).1 times (m.positive j e lm).1;
      }
    where
      at_least : (x y : ℤ) → x ≡ y → pos 0 <ℤ y → pos 1 ≤ℤ x
      at_least x y q p = omega (arith, ints, q, p)

  pub certificate_is : IsCertificate g n
  certificate_is = record {
    rising = h.rising;
    items = λ k d l.
        let i = h.items k d l in
        let p = get_or n.parts k d in
        let N : ℕ → Type 0 = λ z. HasItem g p.face z in
        (omega (arith, i.0, at_most), subst N i.1 (items p.face i.0));
    terms = term_is;
    some = (let a = m.some in let c = counts in omega (arith, a, c));
    few = few;
    cancel = λ k l.
        let z = terms_cancel (length g.points) rs ms n.terms m (terms_of rs ms n.terms h.times h.folds) (k - 1) (let a = l.0 in let b = l.1 in omega (arith, a, b)) in
        ap (total_coefficient n.terms) (let a = l.0 in let e : k ≡ 1 + (k - 1) = omega (arith, a) in e) ∙ z;
  }

  pub refutation : (width : ℕ) → IsInfeasible (length g.points) (map (fold_row (length g.points)) rs) (Some width) ms → IsRefutation g width key n
  refutation width k = record {
    rows = rs;
    folds = rows.folds;
    multipliers = ms;
    infeasible = k;
    times = h.times;
    terms = h.folds;
    certificate = certificate_is;
    blocks = h.items;
    used = h.used;
  }
