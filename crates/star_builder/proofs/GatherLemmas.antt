-- Triples that are gathered in one loop after the other.
use Rattle.std.proofs.Common.{◌≡◌, ◌∙◌, ℕ, ◌+◌, ◌<◌, ◌≤◌, ◌⊎◌, inl, inr, ⊎_elim, refl, sym, ap, subst, List, [], ◌∷◌, ◌++◌, length, take, get_or}
use Rattle.std.specs.Prelude.{Contains}
use Rattle.std.proofs.lemmas.List.{take_more, take_all}
use Rattle.std.proofs.lemmas.List.Elements.{Contains-append_left, Contains-append_right, Contains-append_cases}
use Rattle.ntfe_model.proofs.Listings.{Contains-here, Contains-cases, Contains-none}
use Rattle.star_builder.specs.Gathered.{Gathers}

pub gathers_none : (P : ℕ → ℕ → ℕ → Type 0) (old : List (List ℕ)) → ((a b c : ℕ) → P a b c → ⊥) → Gathers P old old
gathers_none P old none = record { sound = λ t h. inl h; kept = λ t h. h; complete = λ a b c p. absurd (none a b c p) }

-- one triple, after which the list goes on
pub gathers_one : (P : ℕ → ℕ → ℕ → Type 0) (a b c : ℕ) (old new : List (List ℕ)) → new ≡ old ++ (a ∷ b ∷ c ∷ []) ∷ [] → P a b c
    → ((i j k : ℕ) → P i j k → (i ≡ a) × (j ≡ b) × (k ≡ c)) → Gathers P old new
gathers_one P a b c old new e p only = record {
  sound = λ t h. ⊎_elim (λ l. inl l) (λ r. inr (a, b, c, the_one t r, p)) (Contains-append_cases old ((a ∷ b ∷ c ∷ []) ∷ []) t (subst (λ (ts : List (List ℕ)). Contains ts t) e h));
  kept = λ t h. back t (Contains-append_left old ((a ∷ b ∷ c ∷ []) ∷ []) t h);
  complete = λ i j k q.
      let s = only i j k q in
      back (i ∷ j ∷ k ∷ []) (Contains-append_right old ((a ∷ b ∷ c ∷ []) ∷ []) (i ∷ j ∷ k ∷ []) (Contains-here (i ∷ j ∷ k ∷ []) (a ∷ b ∷ c ∷ []) [] (λ n. s.0 n ∷ s.1 n ∷ s.2 n ∷ [])));
}
  where
    back : (t : List ℕ) → Contains (old ++ (a ∷ b ∷ c ∷ []) ∷ []) t → Contains new t
    back t h = subst (λ (ts : List (List ℕ)). Contains ts t) (sym e) h

    the_one : (t : List ℕ) → Contains ((a ∷ b ∷ c ∷ []) ∷ []) t → t ≡ a ∷ b ∷ c ∷ []
    the_one t h = ⊎_elim (λ q. q) (λ r. Contains-none t r) (Contains-cases t (a ∷ b ∷ c ∷ []) [] h)

pub gathers_more : (P Q R : ℕ → ℕ → ℕ → Type 0) (old mid new : List (List ℕ)) → ((a b c : ℕ) → P a b c → R a b c) → ((a b c : ℕ) → Q a b c → R a b c)
    → ((a b c : ℕ) → R a b c → P a b c ⊎ Q a b c) → Gathers P old mid → Gathers Q mid new → Gathers R old new
gathers_more P Q R old mid new f g split p q = record {
  sound = λ t h. ⊎_elim (λ l. ⊎_elim (λ o. inl o) (λ w. inr (w.0, w.1, w.2, w.3, f w.0 w.1 w.2 w.4)) (p.sound t l)) (λ w. inr (w.0, w.1, w.2, w.3, g w.0 w.1 w.2 w.4)) (q.sound t h);
  kept = λ t h. q.kept t (p.kept t h);
  complete = λ a b c r. ⊎_elim (λ l. q.kept (a ∷ b ∷ c ∷ []) (p.complete a b c l)) (λ m. q.complete a b c m) (split a b c r);
}

pub gathers_same : (P Q : ℕ → ℕ → ℕ → Type 0) (old new : List (List ℕ)) → ((a b c : ℕ) → P a b c → Q a b c) → ((a b c : ℕ) → Q a b c → P a b c) → Gathers P old new → Gathers Q old new
gathers_same P Q old new f g p = record {
  sound = λ t h. ⊎_elim (λ o. inl o) (λ w. inr (w.0, w.1, w.2, w.3, f w.0 w.1 w.2 w.4)) (p.sound t h);
  kept = p.kept;
  complete = λ a b c q. p.complete a b c (g a b c q);
}

-- ---- a loop over a list: what the first n things give

module _ {X : Type 0} (s : List X) (P : X → ℕ → ℕ → ℕ → Type 0) where
  abbrev pub GivenBy : ℕ → ℕ → ℕ → ℕ → Type 0
  GivenBy n i j k = (x : X) × Contains (take n s) x × P x i j k

  pub gathers_next : (n : ℕ) (x : X) (old mid new : List (List ℕ)) → n < length s → (d : X) → x ≡ get_or s n d → Gathers (GivenBy n) old mid → Gathers (P x) mid new → Gathers (GivenBy (n + 1)) old new
  gathers_next n x old mid new h d e =
      gathers_more (GivenBy n) (P x) (GivenBy (n + 1)) old mid new
      (λ a b c g. (g.0, into g.0 (Contains-append_left (take n s) (x ∷ []) g.0 g.1), g.2))
      (λ a b c p. (x, into x (Contains-append_right (take n s) (x ∷ []) x (Contains-here x x [] refl)), p))
      (λ a b c g. ⊎_elim (λ l. inl (g.0, l, g.2)) (λ r. inr (at g.0 a b c r g.2)) (Contains-append_cases (take n s) (x ∷ []) g.0 (subst (λ (ys : List X). Contains ys g.0) whole g.1)))
    where
      whole : take (n + 1) s ≡ take n s ++ x ∷ []
      whole = take_more s n d h ∙ ap (λ y. take n s ++ y ∷ []) (sym e)

      into : (y : X) → Contains (take n s ++ x ∷ []) y → Contains (take (n + 1) s) y
      into y c = subst (λ (ys : List X). Contains ys y) (sym whole) c

      at : (y : X) (i j k : ℕ) → Contains (x ∷ []) y → P y i j k → P x i j k
      at y i j k c p = ⊎_elim (λ q. subst (λ (z : X). P z i j k) q p) (λ r. Contains-none y r) (Contains-cases y x [] c)

  pub gathers_end : (n : ℕ) (Q : ℕ → ℕ → ℕ → Type 0) (old new : List (List ℕ)) → length s ≤ n → ((a b c : ℕ) (x : X) → Contains s x → P x a b c → Q a b c) → ((a b c : ℕ) → Q a b c → (x : X) × Contains s x × P x a b c)
      → Gathers (GivenBy n) old new → Gathers Q old new
  gathers_end n Q old new h f g =
      gathers_same (GivenBy n) Q old new
      (λ a b c r. f a b c r.0 (subst (λ (ys : List X). Contains ys r.0) (take_all n s h) r.1) r.2)
      (λ a b c q. let r = g a b c q in (r.0, subst (λ (ys : List X). Contains ys r.0) (sym (take_all n s h)) r.1, r.2))
