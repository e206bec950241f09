-- A certificate is put together term by term.
use Rattle.std.proofs.Common.{◌≡◌, ◌≢◌, ℕ, ◌+◌, ◌-◌, ◌<◌, ◌≤◌, ◌⊎◌, inl, inr, refl, sym, ap, ◌∙◌, subst, arith, ℤ, List, [], ◌∷◌, ◌++◌, length, take, get_or}
use Rattle.std.specs.Prelude.{All, AllPairs, Contains, slice_get, Some}
use Rattle.std.proofs.lemmas.List.{length-append, length-map, map-append, get_or_append_left, get_or_default, take_more, get_or-take, length-take-le}
use Rattle.std.proofs.lemmas.List.Elements.{All-append, All-cons, All-nil, Contains-append_left, Contains-append_right}
use Rattle.std.proofs.Math.Seq.{get_or-append_right}
use Rattle.ntfe_model.specs.Certificates.{no_part}
use Rattle.ntfe_model.specs.declared.nogood.Fold.{Fold}
use Rattle.ntfe_model.specs.declared.nogood.Part.{Part}
use Rattle.ntfe_model.specs.declared.nogood.Term.{Term}
use Rattle.ntfe_model.proofs.Listings.{AllPairs-append, Contains-here, Contains-cases, Contains-none}
use Rattle.node_probe.specs.Refutations.{IsLastFace, AddsPart, IsAssembled}
use Rattle.ntfe_model.proofs.Counts.{codes_count}

-- ---- no more parts than numbers of the head

pub parts_few : (head : List ℕ) (ps : List Part) → AllPairs (λ p q. p.face < q.face) ps → All (λ p. (p.face < length head) × (get_or head p.face 0 ≡ p.item)) ps → length ps ≤ length head
parts_few head ps r a =
    let c = codes_count (λ (p : Part). p.face) (length head) 0 ps r (λ i d l. let k = (a i d l).0 in (omega arith, k)) (omega arith) in
    omega (arith, c)

-- ---- one part more, or the same

module _ (ps qs : List Part) (p : Part) (h : AddsPart ps p qs) where
  pub old_part : (k : ℕ) → k < length ps → (k < length qs) × (get_or qs k no_part ≡ get_or ps k no_part)
  old_part k l = by h
    where
      by : (IsLastFace ps p.face × (qs ≡ ps)) ⊎ ((¬ (IsLastFace ps p.face)) × (qs ≡ ps ++ p ∷ [])) → (k < length qs) × (get_or qs k no_part ≡ get_or ps k no_part)
      by (inl (m, e)) = let n = ap length e in (omega (arith, l, n), ap (λ rs. get_or rs k no_part) e)
      by (inr (m, e)) =
          let n = ap length e ∙ length-append ps (p ∷ []) in
          (omega (arith, l, n), ap (λ rs. get_or rs k no_part) e ∙ get_or_append_left ps (p ∷ []) no_part k l)

  pub last_part : IsLastFace qs p.face
  last_part = by h
    where
      by : (IsLastFace ps p.face × (qs ≡ ps)) ⊎ ((¬ (IsLastFace ps p.face)) × (qs ≡ ps ++ p ∷ [])) → IsLastFace qs p.face
      by (inl (m, e)) = let P : List Part → Type 0 = λ rs. IsLastFace rs p.face in subst P (sym e) m
      by (inr (m, e)) =
          let n = length-append ps (p ∷ []) in
          let s : length (ps ++ p ∷ []) - 1 ≡ length ps = omega (arith, n) in
          let at = ap (λ k. get_or (ps ++ p ∷ []) k no_part) s ∙ get_or-append_right ps (p ∷ []) (length ps) no_part (omega arith) ∙ ap (λ k. get_or (p ∷ []) k no_part) (let z : length ps - length ps ≡ 0 = omega arith in z) in
          let P : List Part → Type 0 = λ rs. IsLastFace rs p.face in
          subst P (sym e) (omega (arith, n), ap (λ (q : Part). q.face) at)

  pub all_parts : (P : Part → Type 0) → All P ps → P p → All P qs
  all_parts P a b = by h
    where
      Q : List Part → Type 0
      Q rs = All P rs

      by : (IsLastFace ps p.face × (qs ≡ ps)) ⊎ ((¬ (IsLastFace ps p.face)) × (qs ≡ ps ++ p ∷ [])) → All P qs
      by (inl (m, e)) = subst Q (sym e) a
      by (inr (m, e)) = subst Q (sym e) (All-append P ps (p ∷ []) a (All-cons P p [] b (All-nil P)))

  -- the parts rise, if none is beyond the new one
  pub parts_rising : AllPairs (λ q r. q.face < r.face) ps → ((k : ℕ) → k < length ps → (get_or ps k no_part).face ≤ p.face) → AllPairs (λ q r. q.face < r.face) qs
  parts_rising r below = by h
    where
      Q : List Part → Type 0
      Q rs = AllPairs (λ (q : Part) (s : Part). q.face < s.face) rs

      before : ¬ (IsLastFace ps p.face) → (k : ℕ) → k < length ps → (get_or ps k no_part).face < p.face
      before other k l = two (let d : (k ≡ length ps - 1) ⊎ (k < length ps - 1) = (let d = three k (length ps) l in d) in d)
        where
          three : (i n : ℕ) → i < n → (i ≡ n - 1) ⊎ (i < n - 1)
          three i n m = grind (arith, m)

          at_last : ((get_or ps (length ps - 1) no_part).face < p.face)
          at_last = less (get_or ps (length ps - 1) no_part).face p.face (below (length ps - 1) (omega (arith, l))) (λ e. other (omega (arith, l), e))
            where
              less : (i j : ℕ) → i ≤ j → i ≢ j → i < j
              less i j m n = grind (arith, m, n)

          two : (k ≡ length ps - 1) ⊎ (k < length ps - 1) → (get_or ps k no_part).face < p.face
          two (inl e) = let P : ℕ → Type 0 = λ i. (get_or ps i no_part).face < p.face in subst P (sym e) at_last
          two (inr m) = let u = r k (length ps - 1) no_part m (omega (arith, l)) in let v = at_last in omega (arith, u, v)

      cross : ¬ (IsLastFace ps p.face) → (x y : Part) → Contains ps x → Contains (p ∷ []) y → x.face < y.face
      cross other x y (k, l, e) c = from (Contains-cases y p [] c)
        where
          from : (y ≡ p) ⊎ Contains [] y → x.face < y.face
          from (inl q) =
              let b = before other k l in
              let i = ap (λ (z : Part). z.face) (get_or_default ps k no_part x l ∙ e) in
              let j = ap (λ (z : Part). z.face) q in
              omega (arith, b, i, j)
          from (inr q) = Contains-none y q

      by : (IsLastFace ps p.face × (qs ≡ ps)) ⊎ ((¬ (IsLastFace ps p.face)) × (qs ≡ ps ++ p ∷ [])) → Q qs
      by (inl (m, e)) = subst Q (sym e) r
      by (inr (m, e)) = subst Q (sym e) (AllPairs-append (λ (q : Part) (s : Part). q.face < s.face) ps (p ∷ []) r (λ i j d a b. absurd (omega (arith, a, b))) (cross m))

  -- a part of the new list is one of the old list or the last one
  pub part_cases : (k : ℕ) → k < length qs → (k < length ps) ⊎ (k ≡ length qs - 1)
  part_cases k l = by h
    where
      two : (i m n : ℕ) → i < n → n ≡ m + 1 → (i < m) ⊎ (i ≡ n - 1)
      two i m n a b = grind (arith, a, b)

      by : (IsLastFace ps p.face × (qs ≡ ps)) ⊎ ((¬ (IsLastFace ps p.face)) × (qs ≡ ps ++ p ∷ [])) → (k < length ps) ⊎ (k ≡ length qs - 1)
      by (inl (m, e)) = let n = ap length e in inl (omega (arith, l, n))
      by (inr (m, e)) = two k (length ps) (length qs) l (ap length e ∙ length-append ps (p ∷ []))

-- ---- one term more

module _ (head : List ℕ) (rs : List Fold) (faces : List ℕ) (count : length faces ≡ length rs) (rising : AllPairs (λ e f. e ≤ f) faces) (ms : List (ℕ × ℤ)) (ps : List Part) (ts : List Term)
    (h : IsAssembled head rs faces ms ps ts) (e : ℕ × ℤ) (known : e.0 < length rs) (later : (j : ℕ) (d : ℕ × ℤ) → j < length ms → (get_or ms j d).0 < e.0)
    (p : Part) (face : p.face ≡ get_or faces e.0 0) (item : (p.face < length head) × (get_or head p.face 0 ≡ p.item)) (qs : List Part) (adds : AddsPart ps p qs) where
  counts : length ts ≡ length ms
  counts = sym (length-map ts (λ (u : Term). u.times)) ∙ ap length h.times ∙ length-map ms (λ (f : ℕ × ℤ). f.1)

  abbrev IsNamed : List Part → Term → ℕ × ℤ → Type 0
  IsNamed us u f = (u.part < length us) × ((get_or us u.part no_part).face ≡ get_or faces f.0 0)

  old_named : (j : ℕ) (d : Term) (f : ℕ × ℤ) → j < length ts → IsNamed qs (get_or ts j d) (get_or ms j f)
  old_named j d f l =
      let n = h.named j d f l in
      let o = old_part ps qs p adds (get_or ts j d).part n.0 in
      (o.0, ap (λ (q : Part). q.face) o.1 ∙ n.1)

  -- no part lies beyond the new one
  below : (k : ℕ) → k < length ps → (get_or ps k no_part).face ≤ p.face
  below k l =
      let u = h.used k l in
      let j = u.1.0 in
      let n = h.named j u.0 e u.1.1 in
      let same : (get_or ps k no_part).face ≡ get_or faces (get_or ms j e).0 0 = ap (λ (i : ℕ). (get_or ps i no_part).face) (sym (ap (λ (v : Term). v.part) u.1.2 ∙ u.2)) ∙ n.1 in
      let m = later j e (let c = counts in let a = u.1.1 in omega (arith, a, c)) in
      let r = rising (get_or ms j e).0 e.0 0 m (omega (arith, known, count)) in
      omega (arith, same, r, face)

  pub new_few : length qs ≤ length head
  new_few = parts_few head qs (parts_rising ps qs p adds h.rising below) (all_parts ps qs p adds (λ q. (q.face < length head) × (get_or head q.face 0 ≡ q.item)) h.items item)

  module _ (t : Term) (part : t.part ≡ length qs - 1) (fold : Some t.fold ≡ slice_get rs e.0) (times : t.times ≡ e.1) where
    new_named : IsNamed qs t e
    new_named =
        let m = last_part ps qs p adds in
        let P : ℕ → Type 0 = λ k. (k < length qs) × ((get_or qs k no_part).face ≡ get_or faces e.0 0) in
        subst P (sym part) ((let a = m.0 in omega (arith, a)), m.1 ∙ face)

    all_named : (j : ℕ) (d : Term) (f : ℕ × ℤ) → j < length (ts ++ t ∷ []) → IsNamed qs (get_or (ts ++ t ∷ []) j d) (get_or (ms ++ e ∷ []) j f)
    all_named j d f l = by (two j (length ts) (length (ts ++ t ∷ [])) l (length-append ts (t ∷ [])))
      where
        two : (i m n : ℕ) → i < n → n ≡ m + 1 → (i < m) ⊎ (i ≡ m)
        two i m n a b = grind (arith, a, b)

        P : Term × (ℕ × ℤ) → Type 0
        P u = IsNamed qs u.0 u.1

        by : (j < length ts) ⊎ (j ≡ length ts) → P (get_or (ts ++ t ∷ []) j d, get_or (ms ++ e ∷ []) j f)
        by (inl m) =
            let a = get_or_append_left ts (t ∷ []) d j m in
            let c = counts in
            let b = get_or_append_left ms (e ∷ []) f j (omega (arith, m, c)) in
            subst P (λ i. (sym a i, sym b i)) (old_named j d f m)
        by (inr m) =
            let c = counts in
            let a = get_or-append_right ts (t ∷ []) j d (omega (arith, m)) ∙ ap (λ k. get_or (t ∷ []) k d) (let z : j - length ts ≡ 0 = omega (arith, m) in z) in
            let b = get_or-append_right ms (e ∷ []) j f (omega (arith, m, c)) ∙ ap (λ k. get_or (e ∷ []) k f) (let z : j - length ms ≡ 0 = omega (arith, m, c) in z) in
            subst P (λ i. (sym a i, sym b i)) new_named

    pub assembled_more : IsAssembled head rs faces (ms ++ e ∷ []) qs (ts ++ t ∷ [])
    assembled_more = record {
      times = map-append (λ (u : Term). u.times) ts (t ∷ []) ∙ (λ i. h.times i ++ times i ∷ []) ∙ sym (map-append (λ (f : ℕ × ℤ). f.1) ms (e ∷ []));
      folds = map-append (λ (u : Term). Some u.fold) ts (t ∷ []) ∙ (λ i. h.folds i ++ fold i ∷ []) ∙ sym (map-append (λ (f : ℕ × ℤ). slice_get rs f.0) ms (e ∷ []));
      named = all_named;
      items = all_parts ps qs p adds (λ q. (q.face < length head) × (get_or head q.face 0 ≡ q.item)) h.items item;
      rising = parts_rising ps qs p adds h.rising below;
      used = use_of;
    }
      where
        use_of : (k : ℕ) → k < length qs → (u : Term) × Contains (ts ++ t ∷ []) u × (u.part ≡ k)
        use_of k l = by (part_cases ps qs p adds k l)
          where
            by : (k < length ps) ⊎ (k ≡ length qs - 1) → (u : Term) × Contains (ts ++ t ∷ []) u × (u.part ≡ k)
            by (inl m) = let u = h.used k m in (u.0, Contains-append_left ts (t ∷ []) u.0 u.1, u.2)
            by (inr m) = (t, Contains-append_right ts (t ∷ []) t (Contains-here t t [] refl), part ∙ sym m)

-- ---- the next of the multipliers

module _ (head : List ℕ) (rs : List Fold) (faces : List ℕ) (count : length faces ≡ length rs) (rising : AllPairs (λ e f. e ≤ f) faces) (within : All (λ f. f < length head) faces)
    (ms : List (ℕ × ℤ)) (known : All (λ (e : ℕ × ℤ). e.0 < length rs) ms) (rise : AllPairs (λ (e : ℕ × ℤ) (f : ℕ × ℤ). e.0 < f.0) ms) (i : ℕ) (d : ℕ × ℤ) (l : i < length ms)
    (ps : List Part) (ts : List Term) (h : IsAssembled head rs faces (take i ms) ps ts) (p : Part) (face : p.face ≡ get_or faces (get_or ms i d).0 0) (item : get_or head p.face 0 ≡ p.item)
    (qs : List Part) (adds : AddsPart ps p qs) where
  abbrev e : ℕ × ℤ
  e = get_or ms i d

  later : (j : ℕ) (c : ℕ × ℤ) → j < length (take i ms) → (get_or (take i ms) j c).0 < e.0
  later j c m =
      let n = length-take-le i ms (omega (arith, l)) in
      let k : j < i = omega (arith, m, n) in
      let a = ap (λ (f : ℕ × ℤ). f.0) (get_or-take i ms j c k ∙ get_or_default ms j c d (omega (arith, k, l))) in
      let b = rise j i d k l in
      omega (arith, a, b)

  in_head : (p.face < length head) × (get_or head p.face 0 ≡ p.item)
  in_head = ((let k = within (get_or ms i d).0 0 (let a = known i d l in omega (arith, a, count)) in omega (arith, k, face)), item)

  pub next_few : length qs ≤ length head
  next_few = new_few head rs faces count rising (take i ms) ps ts h e (known i d l) later p face in_head qs adds

  pub next_assembled : (t : Term) → t.part ≡ length qs - 1 → Some t.fold ≡ slice_get rs e.0 → t.times ≡ e.1 → (us : List Term) → us ≡ ts ++ t ∷ [] → IsAssembled head rs faces (take (i + 1) ms) qs us
  next_assembled t part fold times us eq =
      let P : List (ℕ × ℤ) × List Term → Type 0 = λ x. IsAssembled head rs faces x.0 qs x.1 in
      subst P (λ j. (sym (take_more ms i d l) j, sym eq j)) (assembled_more head rs faces count rising (take i ms) ps ts h e (known i d l) later p face in_head qs adds t part fold times)
