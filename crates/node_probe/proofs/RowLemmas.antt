-- The rows of a head, one two-face after the other.
use Rattle.std.proofs.Common.{take, ◌≡◌, ℕ, ◌+◌, ◌-◌, ◌<◌, ◌≤◌, ◌⊎◌, inl, inr, sym, ap, ◌∙◌, subst, arith, List, [], ◌∷◌, ◌++◌, length, get_or, replicate, take, pos}
use Rattle.std.specs.Prelude.{All, AllPairs, Contains}
use Rattle.std.proofs.lemmas.List.{take_more, length-take-le, length-append, get_or_append_left, get_or-replicate, length-replicate, get_or_default}
use Rattle.std.proofs.lemmas.List.Elements.{All-append}
use Rattle.std.proofs.Math.Seq.{get_or-append_right}
use Rattle.ntfe_model.specs.Shapes.{Shape}
use Rattle.ntfe_model.specs.Charts.{patch_at}
use Rattle.ntfe_model.specs.Words.{IsItem}
use Rattle.ntfe_model.specs.declared.nogood.Fold.{Fold}
use Rattle.ntfe_model.proofs.Listings.{AllPairs-append}
use Rattle.ntfe_model.specs.Choices.{IsSmallFold}
use Rattle.node_probe.specs.Heads.{AreItemFolds, IsRowOf, AreHeadRows}
use Rattle.node_probe.proofs.Heads.{head_more}

-- ---- equal numbers

replicate_rising : (n f : ℕ) → AllPairs (λ i j. i ≤ j) (replicate n f)
replicate_rising n f i j d l m =
    let e = length-replicate n f in
    let p = get_or-replicate n i f d (omega (arith, e, l, m)) in
    let q = get_or-replicate n j f d (omega (arith, e, m)) in
    omega (arith, p, q)

replicate_only : (n f k : ℕ) → Contains (replicate n f) k → k ≡ f
replicate_only n f k (i, l, e) = sym e ∙ get_or-replicate n i f k (let q = length-replicate n f in omega (arith, l, q))

-- ---- the rows

module _ (g : Shape) (ks : List ℕ) (n : ℕ) (rs : List Fold) (faces : List ℕ) (h : AreHeadRows g ks rs faces) (last : List Fold) (item : AreItemFolds g (length ks) n last) (small : All IsSmallFold last) where
  abbrev key : List ℕ
  key = ks ++ n ∷ []

  key_length : length key ≡ length ks + 1
  key_length = length-append ks (n ∷ [])

  key_last : get_or key (length ks) 0 ≡ n
  key_last = get_or-append_right ks (n ∷ []) (length ks) 0 (omega arith) ∙ ap (λ i. get_or (n ∷ []) i 0) (let e : length ks - length ks ≡ 0 = omega arith in e)

  old_row : (f : ℕ) (r : Fold) → IsRowOf g ks f r → IsRowOf g key f r
  old_row f r (l, (x, i, k)) =
      let P : ℕ → Type 0 = λ m. IsItem (patch_at g f) m x in
      let e = key_length in
      (omega (arith, l, e), (x, subst P (sym (get_or_append_left ks (n ∷ []) 0 f l)) i, k))

  new_row : (j : ℕ) (d : Fold) → j < length last → IsRowOf g key (length ks) (get_or last j d)
  new_row j d l =
      let P : ℕ → Type 0 = λ m. IsItem (patch_at g (length ks)) m item.0 in
      let e = key_length in
      (omega (arith, e), (item.0, subst P (sym key_last) item.1, item.2.sound j d l))

  owner : (j : ℕ) (d : Fold) → j < length (rs ++ last) → IsRowOf g key (get_or (faces ++ replicate (length last) (length ks)) j 0) (get_or (rs ++ last) j d)
  owner j d l = by (two j)
    where
      two : (i : ℕ) → (i < length rs) ⊎ (length rs ≤ i)
      two i = grind arith

      P : ℕ × Fold → Type 0
      P t = IsRowOf g key t.0 t.1

      by : (j < length rs) ⊎ (length rs ≤ j) → P (get_or (faces ++ replicate (length last) (length ks)) j 0, get_or (rs ++ last) j d)
      by (inl m) =
          let c = h.count in
          let a = get_or_append_left faces (replicate (length last) (length ks)) 0 j (omega (arith, m, c)) in
          let b = get_or_append_left rs last d j m in
          subst P (λ t. (sym a t, sym b t)) (old_row (get_or faces j 0) (get_or rs j d) (h.owners j d m))
      by (inr m) =
          let c = h.count in
          let e = length-append rs last in
          let i : j - length rs < length last = omega (arith, e, l, m) in
          let s : j - length faces ≡ j - length rs = omega (arith, c) in
          let a = get_or-append_right faces (replicate (length last) (length ks)) j 0 (omega (arith, m, c)) ∙ ap (λ k. get_or (replicate (length last) (length ks)) k 0) s ∙ get_or-replicate (length last) (j - length rs) (length ks) 0 i in
          let b = get_or-append_right rs last j d m in
          subst P (λ t. (sym a t, sym b t)) (new_row (j - length rs) d i)

  pub rows_more : AreHeadRows g key (rs ++ last) (faces ++ replicate (length last) (length ks))
  rows_more = record {
    folds = head_more g ks n item.0 rs last h.folds item.1 item.2;
    small = All-append IsSmallFold rs last h.small small;
    count = length-append faces (replicate (length last) (length ks)) ∙ (λ t. h.count t + length-replicate (length last) (length ks) t) ∙ sym (length-append rs last);
    owners = owner;
    rising = AllPairs-append (λ i j. i ≤ j) faces (replicate (length last) (length ks)) h.rising (replicate_rising (length last) (length ks)) below;
  }
    where
      below : (x y : ℕ) → Contains faces x → Contains (replicate (length last) (length ks)) y → x ≤ y
      below x y (j, l, e) q =
          let o = h.owners j (record { a = 0; b = 0; c = 0; d = 0; alpha = pos 0; beta = pos 0 }) (let c = h.count in omega (arith, l, c)) in
          let m = o.0 in
          let same = replicate_only (length last) (length ks) y q in
          let at : get_or faces j x ≡ get_or faces j 0 = get_or_default faces j x 0 l in
          omega (arith, m, e, same, at)

-- one more number of a key
pub rows_step : (g : Shape) (key : List ℕ) (f : ℕ) (rs qs last lent : List Fold) (faces more : List ℕ) (n : ℕ) → f < length key → n ≡ get_or key f 0 → lent ≡ last → qs ≡ rs ++ lent → more ≡ faces ++ replicate (length lent) f
    → AreItemFolds g f n last → All IsSmallFold last → AreHeadRows g (take f key) rs faces → AreHeadRows g (take (f + 1) key) qs more
rows_step g key f rs qs last lent faces more n l e el eq em item small h =
    let len : length (take f key) ≡ f = length-take-le f key (omega (arith, l)) in
    let I : ℕ × ℕ → Type 0 = λ t. AreItemFolds g t.0 t.1 last in
    let r = rows_more g (take f key) (get_or key f 0) rs faces h last (subst I (λ t. (sym len t, e t)) item) small in
    let P : List ℕ × List Fold × List ℕ → Type 0 = λ t. AreHeadRows g t.0 t.1 t.2 in
    let q1 = take_more key f 0 l in
    let q2 = eq ∙ ap (λ xs. rs ++ xs) el in
    let q3 = em ∙ (λ t. faces ++ replicate (length (el t)) (sym len t)) in
    subst P (λ t. (sym q1 t, sym q2 t, sym q3 t)) r

-- each row is of a two-face of the head
pub rows_within : (g : Shape) (key : List ℕ) (rs : List Fold) (faces : List ℕ) → AreHeadRows g key rs faces → All (λ f. f < length key) faces
rows_within g key rs faces h j d l =
    let o = (h.owners j (record { a = 0; b = 0; c = 0; d = 0; alpha = pos 0; beta = pos 0 }) (let c = h.count in omega (arith, l, c))).0 in
    let e : get_or faces j d ≡ get_or faces j 0 = get_or_default faces j d 0 l in
    omega (arith, o, e)
