-- Two segments cross exactly where an end of one lies inside the other, where they are one, or where they meet inside.
use Rattle.std.proofs.Common.{◌≡◌, ◌≢◌, ℕ, ◌-◌, ◌<◌, ◌≤◌, ◌⊎◌, inl, inr, ⊎_elim, refl, sym, ap, ◌∙◌, subst, arith, pos}
use Rattle.ntfe_nums.specs.Vectors.{Vector, multiple}
use Rattle.ntfe_model.specs.Triangulations.{mixed, IsEndOf, DoCross}
use Rattle.ntfe_model.proofs.Triples.{Decided, decide_vector}
use Rattle.fine_triples.specs.Meetings.{IsInside, HasInsideEnd, AreOneSegment, DoMeetInside}
use Rattle.fine_triples.proofs.InsideLemmas.{scale_back, share_none, share_whole, share_same, share_turn, first_end, last_end}

-- ---- the other way round

end_turn : (n : ℕ) (p a b : Vector) → IsEndOf n p a b → IsEndOf n p b a
end_turn n p a b e = ⊎_elim (λ q. inr q) (λ q. inl q) e

pub cross_turn : (a b c d : Vector) → DoCross a b c d → DoCross a b d c
cross_turn a b c d h = record {
  n = h.n;
  s = h.s;
  t = h.n - h.t;
  range = (h.range.0, h.range.1, (let k = h.range.2 in omega (arith, k)));
  meet = h.meet ∙ share_turn h.n h.t c d h.range.2;
  no_end = λ e. h.no_end (e.0, end_turn h.n (mixed h.n h.s a b) d c e.1);
}

pub cross_swap : (a b c d : Vector) → DoCross a b c d → DoCross c d a b
cross_swap a b c d h = record {
  n = h.n;
  s = h.t;
  t = h.s;
  range = (h.range.0, h.range.2, h.range.1);
  meet = sym h.meet;
  no_end = λ e.
      let P : Vector → Type 0 = λ p. IsEndOf h.n p a b × IsEndOf h.n p c d in
      h.no_end (subst P (sym h.meet) (e.1, e.0));
}

pub meet_turn : (a b c d : Vector) → DoMeetInside a b c d → DoMeetInside a b d c
meet_turn a b c d h = record {
  distinct = (h.distinct.0, λ e. h.distinct.1 (sym e));
  n = h.n;
  s = h.s;
  t = h.n - h.t;
  first = h.first;
  second = (let k = h.second.0 in let l = h.second.1 in omega (arith, k, l), let k = h.second.0 in let l = h.second.1 in omega (arith, k, l));
  meet = h.meet ∙ share_turn h.n h.t c d (let l = h.second.1 in omega (arith, l));
}

abbrev pub meet_swap : (a b c d : Vector) → DoMeetInside a b c d → DoMeetInside c d a b
meet_swap a b c d h = record {
  distinct = (h.distinct.1, h.distinct.0);
  n = h.n;
  s = h.t;
  t = h.s;
  first = h.second;
  second = h.first;
  meet = sym h.meet;
}

-- ---- what makes them cross

pub meet_crosses : (a b c d : Vector) → DoMeetInside a b c d → DoCross a b c d
meet_crosses a b c d h = record {
  n = h.n;
  s = h.s;
  t = h.t;
  range = (
    (let k = h.first.0 in let l = h.first.1 in omega (arith, k, l)),
    (let l = h.first.1 in omega (arith, l)),
    (let l = h.second.1 in omega (arith, l)),
  );
  meet = h.meet;
  no_end = λ e. ⊎_elim (λ p. h.distinct.0 (first_end h.n h.s a b h.first.0 p)) (λ p. h.distinct.0 (last_end h.n h.s a b h.first.1 p)) e.0;
}

pub inside_crosses : (a b x y : Vector) → IsInside a b x → DoCross a b x y
inside_crosses a b x y h = record {
  n = h.on.n;
  s = h.on.s;
  t = 0;
  range = (h.on.range.0, h.on.range.1, omega arith);
  meet = sym h.on.mix ∙ sym (share_none h.on.n x y);
  no_end = λ e.
      ⊎_elim (λ p. h.first (scale_back h.on.n x a h.on.range.0 (h.on.mix ∙ p)))
      (λ p. h.second (scale_back h.on.n x b h.on.range.0 (h.on.mix ∙ p))) e.0;
}

pub inside_end_crosses : (a b c d : Vector) → HasInsideEnd a b c d → DoCross a b c d
inside_end_crosses a b c d (inl h) = inside_crosses a b c d h
inside_end_crosses a b c d (inr (inl h)) = cross_turn a b d c (inside_crosses a b d c h)
inside_end_crosses a b c d (inr (inr (inl h))) = cross_swap c d a b (inside_crosses c d a b h)
inside_end_crosses a b c d (inr (inr (inr h))) = cross_swap c d a b (cross_turn c d b a (inside_crosses c d b a h))

middle_crosses : (a b : Vector) → a ≢ b → DoCross a b a b
middle_crosses a b d = record {
  n = 2;
  s = 1;
  t = 1;
  range = (omega arith, omega arith, omega arith);
  meet = refl;
  no_end = λ e. ⊎_elim (λ p. d (first_end 2 1 a b (omega arith) p)) (λ p. d (last_end 2 1 a b (omega arith) p)) e.0;
}

pub one_crosses : (a b c d : Vector) → AreOneSegment a b c d → DoCross a b c d
one_crosses a b c d h = ⊎_elim (λ e. to c d e) (λ e. cross_turn a b d c (to d c e)) h.ends
  where
    to : (x y : Vector) → (a ≡ x) × (b ≡ y) → DoCross a b x y
    to x y e = let P : Vector × Vector → Type 0 = λ z. DoCross a b z.0 z.1 in subst P (λ i. (e.0 i, e.1 i)) (middle_crosses a b h.distinct)

-- ---- and nothing else does

pub cross_cases : (a b c d : Vector) → DoCross a b c d → HasInsideEnd a b c d ⊎ DoMeetInside a b c d
cross_cases a b c d h =
    by (decide_vector p (multiple (pos h.n) a)) (decide_vector p (multiple (pos h.n) b)) (decide_vector p (multiple (pos h.n) c)) (decide_vector p (multiple (pos h.n) d))
  where
    p : Vector
    p = mixed h.n h.s a b

    scaled : (x y : Vector) → p ≡ multiple (pos h.n) x → x ≡ y → p ≡ multiple (pos h.n) y
    scaled x y e q = e ∙ ap (multiple (pos h.n)) q

    above : (k : ℕ) → k ≢ 0 → 0 < k
    above k n = grind (arith, n)

    below : (k n : ℕ) → k ≤ n → k ≢ n → k < n
    below k n l m = grind (arith, l, m)

    by : Decided (p ≡ multiple (pos h.n) a) → Decided (p ≡ multiple (pos h.n) b) → Decided (p ≡ multiple (pos h.n) c) → Decided (p ≡ multiple (pos h.n) d)
        → HasInsideEnd a b c d ⊎ DoMeetInside a b c d
    by (inl e) q r s = inl (inr (inr (inl (record {
      on = record { n = h.n; s = h.t; range = (h.range.0, h.range.2); mix = sym e ∙ h.meet };
      first = λ f. h.no_end (inl e, inl (scaled a c e f));
      second = λ f. h.no_end (inl e, inr (scaled a d e f));
    }))))
    by (inr na) (inl e) r s = inl (inr (inr (inr (record {
      on = record { n = h.n; s = h.t; range = (h.range.0, h.range.2); mix = sym e ∙ h.meet };
      first = λ f. h.no_end (inr e, inl (scaled b c e f));
      second = λ f. h.no_end (inr e, inr (scaled b d e f));
    }))))
    by (inr na) (inr nb) (inl e) s = inl (inl (record {
      on = record { n = h.n; s = h.s; range = (h.range.0, h.range.1); mix = sym e };
      first = λ f. na (scaled c a e f);
      second = λ f. nb (scaled c b e f);
    }))
    by (inr na) (inr nb) (inr nc) (inl e) = inl (inr (inl (record {
      on = record { n = h.n; s = h.s; range = (h.range.0, h.range.1); mix = sym e };
      first = λ f. na (scaled d a e f);
      second = λ f. nb (scaled d b e f);
    })))
    by (inr na) (inr nb) (inr nc) (inr nd) = inr (record {
      distinct = (
        (λ e. let P : Vector → Type 0 = λ z. mixed h.n h.s a z ≡ multiple (pos h.n) a in na (subst P e (share_same h.n h.s a))),
        (λ e. let P : Vector → Type 0 = λ z. mixed h.n h.t c z ≡ multiple (pos h.n) c in nc (h.meet ∙ subst P e (share_same h.n h.t c))),
      );
      n = h.n;
      s = h.s;
      t = h.t;
      first = (
        above h.s (λ e. let P : ℕ → Type 0 = λ k. mixed h.n k a b ≡ multiple (pos h.n) a in na (subst P (sym e) (share_none h.n a b))),
        below h.s h.n h.range.1 (λ e. let P : ℕ → Type 0 = λ k. mixed h.n k a b ≡ multiple (pos h.n) b in nb (subst P (sym e) (share_whole h.n a b))),
      );
      second = (
        above h.t (λ e. let P : ℕ → Type 0 = λ k. mixed h.n k c d ≡ multiple (pos h.n) c in nc (h.meet ∙ subst P (sym e) (share_none h.n c d))),
        below h.t h.n h.range.2 (λ e. let P : ℕ → Type 0 = λ k. mixed h.n k c d ≡ multiple (pos h.n) d in nd (h.meet ∙ subst P (sym e) (share_whole h.n c d))),
      );
      meet = h.meet;
    })
