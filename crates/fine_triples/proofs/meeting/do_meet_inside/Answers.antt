use Rattle.std.proofs.Common.{◌≡◌, ◌≢◌, ◌∙◌, ℕ, ◌<◌, ⊎_elim, sym, subst, arith, ℤ, pos, List}
use Rattle.ntfe_nums.specs.Vectors.{Vector, vector, numbers, difference}
use Rattle.fine_triples.specs.declared.meeting.Shares.{Shares}
use Rattle.fine_triples.specs.Meetings.{DoMeetInside, gram, first_share, second_share}
use Rattle.fine_triples.specs.ShareNumbers.{AreInside, IsMetAt}
use Rattle.ntfe_model.proofs.Triples.{decide_integer}
use Rattle.fine_triples.proofs.ShareLemmas.{meets_from, shares_inside, shares_at}
use Rattle.fine_triples.proofs.meeting.do_meet_inside.Goals as goal

-- the shares, and the lists of the three differences
module _ (a b c f : Vector) (m : Shares) (d e r : List ℤ) (pd : d ≡ numbers (difference b a)) (pe : e ≡ numbers (difference f c)) (pr : r ≡ numbers (difference c a))
    (pn : m.n ≡ gram (vector d) (vector e)) (ps : m.s ≡ first_share (vector d) (vector e) (vector r)) (pt : m.t ≡ second_share (vector d) (vector e) (vector r)) where
  whole : m.n ≡ gram (difference b a) (difference f c)
  whole = pn ∙ (λ i. gram (vector (pd i)) (vector (pe i)))

  first : m.s ≡ first_share (difference b a) (difference f c) (difference c a)
  first = ps ∙ (λ i. first_share (vector (pd i)) (vector (pe i)) (vector (pr i)))

  second : m.t ≡ second_share (difference b a) (difference f c) (difference c a)
  second = pt ∙ (λ i. second_share (vector (pd i)) (vector (pe i)) (vector (pr i)))

  abbrev Met : ℕ → List ℤ × List ℤ × List ℤ → Type 0
  Met k z = IsMetAt m z.0 z.1 z.2 k

  meets : AreInside m → ((k : ℕ) → k < 4 → IsMetAt m d e r k) → DoMeetInside a b c f
  meets h g =
      meets_from a b c f m.n m.s m.t whole first second h.first.0 h.first.1 h.second.0 h.second.1
      (λ k l. let P : List ℤ × List ℤ × List ℤ → Type 0 = Met k in subst P (λ i. (pd i, pe i, pr i)) (g k l))

  none_where : (m.n ≢ pos 0 → ⊥) → gram (difference b a) (difference f c) ≡ pos 0
  none_where never = sym whole ∙ ⊎_elim (λ z. z) (λ z. absurd (never z)) (decide_integer m.n (pos 0))

  outside : ¬ (AreInside m) → DoMeetInside a b c f → gram (difference b a) (difference f c) ≡ pos 0
  outside h i =
      none_where (λ z. h (let s = shares_inside a b c f m.n m.s m.t whole first second i z in record { first = s.0; second = s.1 }))

  apart : (k : ℕ) → k < 4 → ¬ (IsMetAt m d e r k) → DoMeetInside a b c f → gram (difference b a) (difference f c) ≡ pos 0
  apart k l h i =
      none_where (λ z. h (let P : List ℤ × List ℤ × List ℤ → Type 0 = Met k in subst P (λ i. (sym pd i, sym pe i, sym pr i)) (shares_at a b c f m.n m.s m.t whole first second i z k l)))

pub returns-then-not-are_inside-clause-when_false : goal.returns-then-not-are_inside-clause-when_false
returns-then-not-are_inside-clause-when_false c t =
    let m = c.shares_of-shares in
    outside c.args.a.now c.args.b.now c.args.c.now c.args.f.now m.result c.difference-d.result c.difference-e.result c.difference-r.result c.difference-d.ensures.value c.difference-e.ensures.value c.difference-r.ensures.value m.ensures.n m.ensures.s m.ensures.t
    (c.are_inside.ensures.when_false c.if-not-are_inside.true)

pub returns-then-not-is_met_at-clause-when_false : goal.returns-then-not-is_met_at-clause-when_false
returns-then-not-is_met_at-clause-when_false c t =
    let m = c.shares_of-shares in
    apart c.args.a.now c.args.b.now c.args.c.now c.args.f.now m.result c.difference-d.result c.difference-e.result c.difference-r.result c.difference-d.ensures.value c.difference-e.ensures.value c.difference-r.ensures.value m.ensures.n m.ensures.s m.ensures.t
    c.loop-i.i c.loop-i-test.true (c.is_met_at.ensures.when_false c.if-not-is_met_at.true)

pub returns-clause-when_true : goal.returns-clause-when_true
returns-clause-when_true c t =
    let m = c.shares_of-shares in
    meets c.args.a.now c.args.b.now c.args.c.now c.args.f.now m.result c.difference-d.result c.difference-e.result c.difference-r.result c.difference-d.ensures.value c.difference-e.ensures.value c.difference-r.ensures.value m.ensures.n m.ensures.s m.ensures.t
    (c.are_inside.ensures.when_true c.if-not-are_inside.false) (λ k l. c.loop-i.invariant k (let f = c.loop-i-test.false in omega (arith, l, f)))
