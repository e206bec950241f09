-- A walk along a chain, and what the walks for all numbers of a key find.
use Rattle.std.proofs.Common.{◌≡◌, ℕ, zero, suc, ◌+◌, ◌<◌, ◌≤◌, ◌⊎◌, inl, inr, ⊎_elim, Bool, true, false, true≢false, List, [], ◌∷◌, ◌++◌, length, get_or, take, Option, Some, None, refl, sym, ap, ◌∙◌, subst, arith}
use Rattle.std.specs.Prelude.{slice_get, slice_index, IsTrue, ◌↔◌, MatchOption}
use Rattle.std.specs.Bool.{then_some}
use Rattle.std.specs.Option.{option_or}
use Rattle.std.proofs.Math.Nat.{eq-or-lt_of_le}
use Rattle.std.proofs.lemmas.List.{length_push, get_or_push, get_or-take, length-take-le}
use Rattle.std.proofs.lemmas.Option.{get_or_from_slice_get, slice_get-get_or}
use Rattle.ntfe_model.specs.Certificates.{IsBlockedBy}
use Rattle.ntfe_model.specs.declared.nogood.Part.{Part}
use Rattle.ntfe_model.specs.declared.nogood.Nogood.{Nogood}
use Rattle.nogood_set.specs.Blocking.{NoneBlocks, IsFirstBlocking, BlocksAt, IsAtMost, ComesFirst}
use Rattle.nogood_set.specs.LastParts.{Item, EndsWith, IsLatest, IsFirstPartless, AreChained}
use Rattle.nogood_set.proofs.Chains.{ends as ends_or_empty}

lt_or_le : (k m : ℕ) → (k < m) ⊎ (m ≤ k)
lt_or_le k zero = inr (omega arith)
lt_or_le zero (suc m) = inl (omega arith)
lt_or_le (suc k) (suc m) = ⊎_elim (λ (a : k < m). inl (omega (arith, a))) (λ (a : m ≤ k). inr (omega (arith, a))) (lt_or_le k m)

-- how far a walk still goes
abbrev pub steps_left : Option ℕ → ℕ
steps_left None = 0
steps_left (Some at) = at + 1

-- the walk along the chain of p comes next to this place, and what blocks the key behind it is not before `first`
pub record Walked (es : List Nogood) (key : List ℕ) (p : Item) (next first : Option ℕ) : Type 0 where
  pub to : ℕ
  pub within : to ≤ length es
  pub chain : IsLatest es p to next
  pub blocks : BlocksAt es key first
  pub behind : (k : ℕ) (d : Nogood) → to ≤ k → k < length es → EndsWith (get_or es k d) p → IsBlockedBy key (get_or es k d) → IsAtMost first k

pub starts : (es : List Nogood) (key : List ℕ) (bs : List (Option ℕ)) (f : Item → Option ℕ) (o next : Option ℕ) (p : Item) → AreChained es bs f o → next ≡ f p → Walked es key p next None
starts es key bs f o next p h is = record { to = length es; within = omega arith; chain = subst (IsLatest es p (length es)) (sym is) (h.heads p); blocks = _; behind = λ k d a b e k'. absurd (omega (arith, a, b)) }

pub within : (es : List Nogood) (key : List ℕ) (p : Item) (at : ℕ) (first : Option ℕ) → Walked es key p (Some at) first → at < length es
within es key p at first w = omega (arith, w.within, w.chain.0)

pub goes_down : (es : List Nogood) (key : List ℕ) (bs : List (Option ℕ)) (f : Item → Option ℕ) (o first d : Option ℕ) (p : Item) (at : ℕ) → AreChained es bs f o → Walked es key p (Some at) first → IsLatest es p at (get_or bs at d)
goes_down es key bs f o first d p at h w = h.links at d p (within es key p at first w) w.chain.1

falls : (es : List Nogood) (p : Item) (at : ℕ) (next : Option ℕ) → IsLatest es p at next → steps_left next < at + 1
falls es p at None h = let z : steps_left None ≡ 0 = refl in omega (arith, z)
falls es p at (Some k) h = let z : steps_left (Some k) ≡ k + 1 = refl in omega (arith, z, h.0)

pub falls_next : (es : List Nogood) (key : List ℕ) (bs : List (Option ℕ)) (f : Item → Option ℕ) (o first d now next : Option ℕ) (p : Item) (at : ℕ) → AreChained es bs f o → Walked es key p now first → now ≡ Some at → next ≡ get_or bs at d
    → steps_left next < steps_left now
falls_next es key bs f o first d now next p at h w here is =
    let v : Walked es key p (Some at) first = subst (λ (q : Option ℕ). Walked es key p q first) here w in
    subst (λ (q : Option ℕ). steps_left next < steps_left q) (sym here) (falls es p at next (subst (IsLatest es p at) (sym is) (goes_down es key bs f o first d p at h v)))

pub walks : (es : List Nogood) (key : List ℕ) (bs : List (Option ℕ)) (f : Item → Option ℕ) (o first d next : Option ℕ) (p : Item) (at : ℕ) (n : Nogood) (b : Bool)
    → AreChained es bs f o → Walked es key p (Some at) first → next ≡ get_or bs at d → slice_get es at ≡ Some n → (IsTrue b ↔ IsBlockedBy key n) → Walked es key p next (option_or (then_some b at) first)
walks es key bs f o first d next p at n b h w is entry tells = by b tells
  where
    here : (x : Nogood) → get_or es at x ≡ n
    here x = get_or_from_slice_get es at n x entry

    seen : (k : ℕ) (x : Nogood) → at < k → k < length es → EndsWith (get_or es k x) p → IsBlockedBy key (get_or es k x) → IsAtMost first k
    seen k x c l e blocked = ⊎_elim (λ (a : k < w.to). absurd (w.chain.2 k x (omega (arith, c)) a e)) (λ (a : w.to ≤ k). w.behind k x a l e blocked) (lt_or_le k w.to)

    behind : (q : Option ℕ) → ((j : ℕ) → at < j → IsAtMost first j → IsAtMost q j) → (IsBlockedBy key n → IsAtMost q at)
        → (k : ℕ) (x : Nogood) → at ≤ k → k < length es → EndsWith (get_or es k x) p → IsBlockedBy key (get_or es k x) → IsAtMost q k
    behind q more mine k x a l e blocked = ⊎_elim
        (λ (m : at ≡ k). subst (IsAtMost q) m (mine (subst (IsBlockedBy key) (ap (λ (j : ℕ). get_or es j x) (sym m) ∙ here x) blocked)))
        (λ (c : at < k). more k c (seen k x c l e blocked)) (eq-or-lt_of_le a)

    by : (b : Bool) → (IsTrue b ↔ IsBlockedBy key n) → Walked es key p next (option_or (then_some b at) first)
    by true t = record {
      to = at;
      within = omega (arith, w.within, w.chain.0);
      chain = subst (IsLatest es p at) (sym is) (goes_down es key bs f o first d p at h w);
      blocks = (within es key p at first w, λ x. subst (IsBlockedBy key) (sym (here x)) (t.0 refl));
      behind = behind (Some at) (λ j c m. omega (arith, c)) (λ _. omega arith);
    }
    by false t = record {
      to = at;
      within = omega (arith, w.within, w.chain.0);
      chain = subst (IsLatest es p at) (sym is) (goes_down es key bs f o first d p at h w);
      blocks = w.blocks;
      behind = behind first (λ j c m. m) (λ blocked. absurd (true≢false (sym (t.1 blocked))));
    }

pub walked : (es : List Nogood) (key : List ℕ) (p : Item) (first : Option ℕ) → Walked es key p None first → ComesFirst es key (λ n. EndsWith n p) first
walked es key p first w k d l e blocked = ⊎_elim (λ (a : k < w.to). absurd (w.chain k d (omega arith) a e)) (λ (a : w.to ≤ k). w.behind k d a l e blocked) (lt_or_le k w.to)

-- ---- all numbers of a key

-- `first` is not behind any entry that blocks the key and has no parts, or ends at a two-face below this one
pub record Found (es : List Nogood) (key : List ℕ) (face : ℕ) (first : Option ℕ) : Type 0 where
  pub blocks : BlocksAt es key first
  pub partless : ComesFirst es key (λ n. n.parts ≡ []) first
  pub ended : (p : Item) → p.0 < face → ComesFirst es key (λ n. EndsWith n p) first

partless_blocks : (key : List ℕ) (n : Nogood) → n.parts ≡ [] → IsBlockedBy key n
partless_blocks key n e k d l = absurd (omega (arith, l, ap length e))

pub finds_partless : (es : List Nogood) (key : List ℕ) (bs : List (Option ℕ)) (f : Item → Option ℕ) (o : Option ℕ) → AreChained es bs f o → Found es key 0 o
finds_partless es key bs f o h = by o h.first
  where
    by : (o : Option ℕ) → IsFirstPartless es o → Found es key 0 o
    by None first = record { blocks = _; partless = λ k d l e b. absurd (first k d l e); ended = λ p l. absurd (omega (arith, l)) }
    by (Some at) first = record {
      blocks = (first.0, λ d. partless_blocks key (get_or es at d) (first.1 d));
      partless = λ k d l e b. ⊎_elim (λ (a : k < at). absurd (first.2 k d a e)) (λ (a : at ≤ k). a) (lt_or_le k at);
      ended = λ p l. absurd (omega (arith, l));
    }

-- the last part of an entry that blocks a key is in the key
last_in_key : (key : List ℕ) (n : Nogood) (p : Item) → EndsWith n p → IsBlockedBy key n → (p.0 < length key) × (slice_index key p.0 ≡ p.1)
last_in_key key n p h blocked =
    let part : Part = record { face = p.0; item = p.1 } in
    let at : get_or n.parts (length h.0) part ≡ part = ap (λ (xs : List Part). get_or xs (length h.0) part) h.1 ∙ get_or_push h.0 part part (length h.0) refl in
    subst (λ (q : Part). (q.face < length key) × (slice_index key q.face ≡ q.item)) at (blocked (length h.0) part (omega (arith, ap length h.1, length_push h.0 part)))

pub finds : (es : List Nogood) (key head : List ℕ) (face : ℕ) (first more next : Option ℕ) → head ≡ key → Found es key face first → BlocksAt es head more → ComesFirst es head (λ n. EndsWith n (face, slice_index head face)) more
    → (next ≡ first) ⊎ (next ≡ more) → ((k : ℕ) → IsAtMost first k ⊎ IsAtMost more k → IsAtMost next k) → Found es key (face + 1) next
finds es key head face first more next is h blocks' ends' either least = record {
  blocks = ⊎_elim (λ (e : next ≡ first). subst (BlocksAt es key) (sym e) h.blocks) (λ (e : next ≡ more). subst (BlocksAt es key) (sym e) blocks) either;
  partless = λ k d l e b. least k (inl (h.partless k d l e b));
  ended = λ p l k d m e b. ⊎_elim (λ (a : p.0 ≡ face). least k (inr (ends k d m (subst (EndsWith (get_or es k d)) (same p a (last_in_key key (get_or es k d) p e b).1) e) b)))
      (λ (a : p.0 < face). least k (inl (h.ended p a k d m e b))) (eq-or-lt_of_le (omega (arith, l)));
}
  where
    item : ℕ
    item = slice_index key face

    blocks : BlocksAt es key more
    blocks = subst (λ (ks : List ℕ). BlocksAt es ks more) is blocks'

    ends : ComesFirst es key (λ n. EndsWith n (face, item)) more
    ends = subst (λ (ks : List ℕ). ComesFirst es ks (λ n. EndsWith n (face, slice_index ks face)) more) is ends'

    same : (p : Item) → p.0 ≡ face → slice_index key p.0 ≡ p.1 → p ≡ (face, item)
    same p a b = let c : p.1 ≡ item = sym b ∙ ap (slice_index key) a in λ i. (a i, c i)

-- where all numbers of the key are looked up
all_found : (es : List Nogood) (key : List ℕ) (first : Option ℕ) → Found es key (length key) first → (k : ℕ) (d : Nogood) → k < length es → IsBlockedBy key (get_or es k d) → IsAtMost first k
all_found es key first h k d l b = ⊎_elim (λ (e : (get_or es k d).parts ≡ []). h.partless k d l e b)
    (λ (e : (front : List Part) × (x : Part) × ((get_or es k d).parts ≡ front ++ x ∷ [])).
    let p : Item = (e.1.face, e.1.item) in
    let end : EndsWith (get_or es k d) p = (e.0, e.2) in
    h.ended p (last_in_key key (get_or es k d) p end b).0 k d l end b)
    (ends_or_empty (get_or es k d).parts)

pub ends_found : (es : List Nogood) (key : List ℕ) (first : Option ℕ) → Found es key (length key) first → MatchOption first (NoneBlocks es key) (IsFirstBlocking es key)
ends_found es key None h = λ k d l b. all_found es key None h k d l b
ends_found es key (Some at) h = record {
  entry = get_or es at nothing;
  is = slice_get-get_or es at nothing h.blocks.0;
  blocks = h.blocks.1 nothing;
  first = λ k d l b.
      let m : k < at = omega (arith, l, length-take-le at es (omega (arith, h.blocks.0))) in
      let n : k < length es = omega (arith, m, h.blocks.0) in
      let e : get_or (take at es) k d ≡ get_or es k d = get_or-take at es k d m in
      let late : at ≤ k = all_found es key (Some at) h k d n (subst (IsBlockedBy key) e b) in
      absurd (omega (arith, m, late));
}
  where
    nothing : Nogood
    nothing = record { parts = []; terms = [] }
