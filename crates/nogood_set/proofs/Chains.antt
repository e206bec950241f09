-- The chains of entries that end with the same item, as the set grows.
use Rattle.std.proofs.Common.{◌≡◌, ◌≢◌, ℕ, ◌+◌, ◌<◌, ◌≤◌, ◌⊎◌, inl, inr, ⊎_elim, Bool, true, false, cond, ◌&&◌, true≢false, List, [], ◌∷◌, ◌++◌, length, get_or, Option, Some, None, refl, sym, ap, ◌∙◌, subst, arith}
use Rattle.std.specs.Prelude.{nat_eq}
use Rattle.std.specs.Option.{option_or}
use Rattle.std.proofs.Math.Nat.{eq-or-lt_of_le}
use Rattle.std.proofs.lemmas.Bool.{eqb-true}
use Rattle.std.proofs.lemmas.List.{same_from_push, length_push, get_or_push, get_or_append_left}
use Rattle.ntfe_model.specs.declared.nogood.Part.{Part}
use Rattle.ntfe_model.specs.declared.nogood.Nogood.{Nogood}
use Rattle.nogood_set.specs.LastParts.{Item, EndsWith, NoneEnds, IsLatest, IsFirstPartless, AreChained}

-- a list is empty or has a last item
pub ends : {X : Type 0} (xs : List X) → (xs ≡ []) ⊎ ((front : List X) × (x : X) × (xs ≡ front ++ x ∷ []))
ends [] = inl refl
ends (x ∷ xs) = ⊎_elim (λ e. inr ([], x, ap (λ l. x ∷ l) e)) (λ k. inr (x ∷ k.0, k.1, ap (λ l. x ∷ l) k.2)) (ends xs)

pub ends_once : (n : Nogood) (p q : Item) → EndsWith n p → EndsWith n q → p ≡ q
ends_once n p q h k =
    let part : Item → Part = λ r. record { face = r.0; item = r.1 } in
    let e : part p ≡ part q = (same_from_push h.0 k.0 (part p) (part q) (sym h.1 ∙ k.1)).1 in
    λ i. ((e i).face, (e i).item)

pub not_partless : (n : Nogood) (p : Item) → EndsWith n p → n.parts ≢ []
not_partless n p h e = absurd (omega (arith, ap length h.1, ap length e, length_push h.0 (record { face = p.0; item = p.1 })))

-- below one more place
below_or_at : (k m : ℕ) → k < m + 1 → (k < m) ⊎ (k ≡ m)
below_or_at k m h = ⊎_elim (λ (e : k ≡ m). inr e) (λ (l : k < m). inl l) (eq-or-lt_of_le (omega (arith, h)))

-- ---- one more entry

module _ (es : List Nogood) (n : Nogood) where
  old : (k : ℕ) (d : Nogood) → k < length es → get_or (es ++ n ∷ []) k d ≡ get_or es k d
  old k d l = get_or_append_left es (n ∷ []) d k l

  none_keep : (p : Item) (from to : ℕ) → to ≤ length es → NoneEnds es p from to → NoneEnds (es ++ n ∷ []) p from to
  none_keep p from to l h k d a b e = h k d a b (subst (λ x. EndsWith x p) (old k d (omega (arith, b, l))) e)

  latest_keep : (p : Item) (to : ℕ) (o : Option ℕ) → to ≤ length es → IsLatest es p to o → IsLatest (es ++ n ∷ []) p to o
  latest_keep p to None l h = none_keep p 0 to l h
  latest_keep p to (Some at) l h = (h.0, λ d. subst (λ x. EndsWith x p) (sym (old at d (omega (arith, h.0, l)))) (h.1 d), none_keep p (at + 1) to l h.2)

  none_more : (p : Item) (from : ℕ) → ¬ (EndsWith n p) → NoneEnds es p from (length es) → NoneEnds (es ++ n ∷ []) p from (length es + 1)
  none_more p from free h k d a b e = ⊎_elim (λ (l : k < length es). none_keep p from (length es) (omega arith) h k d a l e)
      (λ (m : k ≡ length es). free (subst (λ x. EndsWith x p) (get_or_push es n d k (sym m)) e)) (below_or_at k (length es) b)

  latest_more : (p : Item) (o : Option ℕ) → ¬ (EndsWith n p) → IsLatest es p (length es) o → IsLatest (es ++ n ∷ []) p (length es + 1) o
  latest_more p None free h = none_more p 0 free h
  latest_more p (Some at) free h = (omega (arith, h.0), λ d. subst (λ x. EndsWith x p) (sym (old at d h.0)) (h.1 d), none_more p (at + 1) free h.2)

  latest_new : (p : Item) → EndsWith n p → IsLatest (es ++ n ∷ []) p (length es + 1) (Some (length es))
  latest_new p h = (omega arith, (λ d. subst (λ x. EndsWith x p) (sym (get_or_push es n d (length es) refl)) h), λ k d a b e. absurd (omega (arith, a, b)))

  partless_keep : (o : Option ℕ) → n.parts ≢ [] → IsFirstPartless es o → IsFirstPartless (es ++ n ∷ []) o
  partless_keep None some h = λ k d l e.
      ⊎_elim (λ (a : k < length es). h k d a (subst (λ x. x.parts ≡ []) (old k d a) e)) (λ (m : k ≡ length es). some (subst (λ x. x.parts ≡ []) (get_or_push es n d k (sym m)) e))
      (below_or_at k (length es) (omega (arith, l, length_push es n)))
  partless_keep (Some at) some h = (
    omega (arith, h.0, length_push es n),
    (λ d. subst (λ x. x.parts ≡ []) (sym (old at d h.0)) (h.1 d)),
    λ k d l e. h.2 k d l (subst (λ x. x.parts ≡ []) (old k d (omega (arith, l, h.0))) e),
  )

  partless_more : (o : Option ℕ) → n.parts ≡ [] → IsFirstPartless es o → IsFirstPartless (es ++ n ∷ []) (option_or o (Some (length es)))
  partless_more None none h = (
    omega (arith, length_push es n),
    (λ d. subst (λ x. x.parts ≡ []) (sym (get_or_push es n d (length es) refl)) none),
    λ k d l e. h k d l (subst (λ x. x.parts ≡ []) (old k d l) e),
  )
  partless_more (Some at) none h = (
    omega (arith, h.0, length_push es n),
    (λ d. subst (λ x. x.parts ≡ []) (sym (old at d h.0)) (h.1 d)),
    λ k d l e. h.2 k d l (subst (λ x. x.parts ≡ []) (old k d (omega (arith, l, h.0))) e),
  )

-- ---- the chains

pub empty : (f : Item → Option ℕ) → ((p : Item) → f p ≡ None) → AreChained [] [] f None
empty f none = record {
  same = refl;
  heads = λ p. subst (IsLatest [] p 0) (sym (none p)) (λ k d a b e. absurd (omega (arith, b)));
  links = λ k o p l e. absurd (omega (arith, l));
  first = λ k d l e. absurd (omega (arith, l));
}

pub kept : (es es' : List Nogood) (bs bs' : List (Option ℕ)) (f f' : Item → Option ℕ) (o : Option ℕ) → es' ≡ es → bs' ≡ bs → ((p : Item) → f' p ≡ f p) → AreChained es bs f o → AreChained es' bs' f' o
kept es es' bs bs' f f' o e b same h =
    let same' : f' ≡ f = λ i p. same p i in
    subst (λ (g : Item → Option ℕ). AreChained es' bs' g o) (sym same') (subst (λ (ys : List (Option ℕ)). AreChained es' ys f o) (sym b) (subst (λ (xs : List Nogood). AreChained xs bs f o) (sym e) h))

-- the link of an entry that was there
old_link : (es : List Nogood) (n : Nogood) (bs : List (Option ℕ)) (b : Option ℕ) (f : Item → Option ℕ) (o : Option ℕ) → AreChained es bs f o
    → (k : ℕ) (d : Option ℕ) (p : Item) → k < length es → ((x : Nogood) → EndsWith (get_or (es ++ n ∷ []) k x) p) → IsLatest (es ++ n ∷ []) p k (get_or (bs ++ b ∷ []) k d)
old_link es n bs b f o h k d p l e =
    let l' : k < length bs = omega (arith, l, h.same) in
    subst (IsLatest (es ++ n ∷ []) p k) (sym (get_or_append_left bs (b ∷ []) d k l'))
    (latest_keep es n p k (get_or bs k d) (omega (arith, l)) (h.links k d p l (λ x. subst (λ y. EndsWith y p) (old es n k x l) (e x))))

same_from_test : (p q : Item) → (nat_eq p.0 q.0 && nat_eq p.1 q.1) ≡ true → p ≡ q
same_from_test p q e = both (nat_eq p.0 q.0) (nat_eq p.1 q.1) refl refl e
  where
    both : (a b : Bool) → nat_eq p.0 q.0 ≡ a → nat_eq p.1 q.1 ≡ b → (a && b) ≡ true → p ≡ q
    both true true x y k = let u = eqb-true p.0 q.0 x in let v = eqb-true p.1 q.1 y in λ i. (u i, v i)
    both true false x y k = absurd (true≢false (sym k))
    both false b x y k = absurd (true≢false (sym k))

differ_from_test : (p q : Item) → (nat_eq p.0 q.0 && nat_eq p.1 q.1) ≡ false → p ≢ q
differ_from_test p q e same = absurd (true≢false (sym (ap (λ (r : Item). nat_eq p.0 r.0 && nat_eq p.1 r.1) (sym same) ∙ ends_true) ∙ e))
  where
    self : (a : ℕ) → nat_eq a a ≡ true
    self a = search (arith)

    ends_true : (nat_eq p.0 p.0 && nat_eq p.1 p.1) ≡ true
    ends_true = (λ i. self p.0 i && self p.1 i)

-- an entry that ends with p
pub chains : (es : List Nogood) (n : Nogood) (bs : List (Option ℕ)) (f f' : Item → Option ℕ) (o : Option ℕ) (p : Item) (place : ℕ) → AreChained es bs f o → EndsWith n p → place ≡ length es
    → ((q : Item) → f' q ≡ cond (nat_eq p.0 q.0 && nat_eq p.1 q.1) (Some place) (f q)) → AreChained (es ++ n ∷ []) (bs ++ f p ∷ []) f' o
chains es n bs f f' o p place h end here up' = record {
  same = omega (arith, h.same, length_push es n, length_push bs (f p));
  heads = λ q. head q (nat_eq p.0 q.0 && nat_eq p.1 q.1) refl;
  links = λ k d q l e. ⊎_elim (λ (a : k < length es). old_link es n bs (f p) f o h k d q a e) (λ (m : k ≡ length es). new_link k d q m e) (below_or_at k (length es) (omega (arith, l, length_push es n)));
  first = partless_keep es n o (not_partless n p end) h.first;
}
  where
    long : length es + 1 ≡ length (es ++ n ∷ [])
    long = omega (arith, length_push es n)

    up : (q : Item) → f' q ≡ cond (nat_eq p.0 q.0 && nat_eq p.1 q.1) (Some (length es)) (f q)
    up q = up' q ∙ ap (λ (m : ℕ). cond (nat_eq p.0 q.0 && nat_eq p.1 q.1) (Some m) (f q)) here

    head : (q : Item) (b : Bool) → (nat_eq p.0 q.0 && nat_eq p.1 q.1) ≡ b → IsLatest (es ++ n ∷ []) q (length (es ++ n ∷ [])) (f' q)
    head q true e =
        let is : f' q ≡ Some (length es) = up q ∙ ap (λ (b : Bool). cond b (Some (length es)) (f q)) e in
        subst (λ (m : ℕ). IsLatest (es ++ n ∷ []) q m (f' q)) long (subst (IsLatest (es ++ n ∷ []) q (length es + 1)) (sym is) (latest_new es n q (subst (EndsWith n) (same_from_test p q e) end)))
    head q false e =
        let is : f' q ≡ f q = up q ∙ ap (λ (b : Bool). cond b (Some (length es)) (f q)) e in
        subst (λ (m : ℕ). IsLatest (es ++ n ∷ []) q m (f' q)) long
        (subst (IsLatest (es ++ n ∷ []) q (length es + 1)) (sym is) (latest_more es n q (f q) (λ k. differ_from_test p q e (ends_once n p q end k)) (h.heads q)))

    new_link : (k : ℕ) (d : Option ℕ) (q : Item) → k ≡ length es → ((x : Nogood) → EndsWith (get_or (es ++ n ∷ []) k x) q) → IsLatest (es ++ n ∷ []) q k (get_or (bs ++ f p ∷ []) k d)
    new_link k d q m e =
        let same : p ≡ q = ends_once n p q end (subst (λ x. EndsWith x q) (get_or_push es n n k (sym m)) (e n)) in
        let at : get_or (bs ++ f p ∷ []) k d ≡ f q = get_or_push bs (f p) d k (h.same ∙ sym m) ∙ ap f same in
        subst (IsLatest (es ++ n ∷ []) q k) (sym at) (subst (λ (j : ℕ). IsLatest (es ++ n ∷ []) q j (f q)) (sym m) (latest_keep es n q (length es) (f q) (omega arith) (h.heads q)))

-- an entry without parts
pub chains_partless : (es : List Nogood) (n : Nogood) (bs : List (Option ℕ)) (f : Item → Option ℕ) (o : Option ℕ) (place : ℕ) → AreChained es bs f o → n.parts ≡ [] → place ≡ length es → AreChained (es ++ n ∷ []) (bs ++ None ∷ []) f (option_or o (Some place))
chains_partless es n bs f o place h none here = record {
  same = omega (arith, h.same, length_push es n, length_push bs no_place);
  heads = λ q. subst (λ (m : ℕ). IsLatest (es ++ n ∷ []) q m (f q)) long (latest_more es n q (f q) (λ k. not_partless n q k none) (h.heads q));
  links = λ k d q l e. ⊎_elim (λ (a : k < length es). old_link es n bs None f o h k d q a e)
      (λ (m : k ≡ length es). absurd (not_partless n q (subst (λ x. EndsWith x q) (get_or_push es n n k (sym m)) (e n)) none)) (below_or_at k (length es) (omega (arith, l, length_push es n)));
  first = subst (λ (m : ℕ). IsFirstPartless (es ++ n ∷ []) (option_or o (Some m))) (sym here) (partless_more es n o none h.first);
}
  where
    long : length es + 1 ≡ length (es ++ n ∷ [])
    long = omega (arith, length_push es n)

    no_place : Option ℕ
    no_place = None
