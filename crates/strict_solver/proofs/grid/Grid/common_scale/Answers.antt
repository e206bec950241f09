use Rattle.std.proofs.Common.{◌≡◌, ℕ, ◌+◌, ◌/◌, ◌^◌, ◌<◌, ◌≤◌, ◌⊎◌, inl, inr, ◌∙◌, sym, ap, subst, arith, pow_mono, pos, unsigned_abs, length, get_or, map, Some, None, to_z}
use Rattle.std.specs.Int.{w128}
use Rattle.std.proofs.lemmas.Int.{to_z_pos}
use Rattle.std.proofs.lemmas.List.{length-map, get_or-map}
use Rattle.std.proofs.Math.Nat.{div-eq_of_lt, div-lt_iff_lt-mul}
use Rattle.std.proofs.lemmas.Nat.{pow_pos}
use Rattle.strict_solver.specs.Grids.{lines_of}
use Rattle.strict_solver.specs.Scales.{scale_to, scales_of, scale_next}
use Rattle.strict_solver.proofs.Running.{wider_grid}
use Rattle.strict_solver.proofs.Scaling.{scale_start, scale_step, ranged_length, ranged_get, wide_at}
use Rattle.strict_solver.proofs.grid.Grid.common_scale.Goals as goal

pub loop-k-init : goal.loop-k-init
loop-k-init c = record {
  is = sym (scale_start (lines_of c.args.self.now));
  positive = omega arith;
  narrow = λ i l. (let e : i ≡ 0 = omega arith in let f = ap (scale_to (lines_of c.args.self.now)) e ∙ scale_start (lines_of c.args.self.now) in let p = pow_mono {i = 1} {j = c.args.width} c.requires.low in omega arith);
}

pub scale_after-next-requires-clause-grid : goal.scale_after-next-requires-clause-grid
scale_after-next-requires-clause-grid c = wider_grid c.args.width 62 c.args.self.now c.requires.high c.requires.grid

pub scale_after-next-requires-clause-small : goal.scale_after-next-requires-clause-small
scale_after-next-requires-clause-small c =
    let h = c.loop-k.invariant.narrow c.loop-k.k (omega arith) in
    let e = c.loop-k.invariant.is in
    let p = pow_mono {i = c.args.width} {j = 62} c.requires.high in
    omega arith

pub returns-then-next-width-ne0 : goal.returns-then-next-width-ne0
returns-then-next-width-ne0 c =
    let ls = lines_of c.args.self.now in
    let n = c.args.self.now.columns in
    let k = c.loop-k.k in
    let width = c.args.width in
    let value : c.scale_after-next.result ≡ scale_to ls (k + 1) = c.scale_after-next.ensures.value ∙ ap (λ m. scale_next m (get_or ls k None)) c.loop-k.invariant.is ∙ sym (scale_step ls k) in
    let size = c.scale_after-next.ensures.size in
    let word : to_z w128 c.scale_after-next.result ≡ pos c.scale_after-next.result = to_z_pos w128 c.scale_after-next.result (omega arith) in
    let count : length (map pos (scales_of n ls)) ≡ n = length-map (scales_of n ls) pos ∙ ranged_length (λ i. scale_to ls (i + 1)) n in
    let at : (i : ℕ) → i < n → get_or (map pos (scales_of n ls)) i (pos 0) ≡ pos (scale_to ls (i + 1)) =
    λ i l. get_or-map pos (scales_of n ls) i 0 (pos 0) (let e = ranged_length (λ i. scale_to ls (i + 1)) n in omega arith) ∙ ap pos (ranged_get (λ i. scale_to ls (i + 1)) n i 0 l) in
    let wide : 2 ^ width ≤ c.scale_after-next.result = above (2 ^ width) c.scale_after-next.result c.if-next-width-ne0.true in
    wide_at width (map pos (scales_of n ls)) k (omega arith)
    (λ i l. subst (λ z. unsigned_abs z < 2 ^ width) (sym (at i (omega arith))) (c.loop-k.invariant.narrow (i + 1) (omega arith)))
    (subst (λ z. 2 ^ width ≤ unsigned_abs z) (sym (at k (omega arith))) (subst (λ m. 2 ^ width ≤ m) value wide))
    ∙ ap Some (at k (omega arith) ∙ ap pos (sym value) ∙ sym word)
  where
    above : (m n : ℕ) → (n / m ≡ 0 → ⊥) → m ≤ n
    above m n h = at (let c : (n < m) ⊎ (m ≤ n) = grind arith in c)
      where
        at : (n < m) ⊎ (m ≤ n) → m ≤ n
        at (inl l) = absurd (h (div-eq_of_lt l))
        at (inr l) = l

pub loop-k-preserved : goal.loop-k-preserved
loop-k-preserved c =
    let ls = lines_of c.args.self.now in
    let k = c.loop-k.k in
    let value : c.scale_after-next.result ≡ scale_to ls (k + 1) = c.scale_after-next.ensures.value ∙ ap (λ m. scale_next m (get_or ls k None)) c.loop-k.invariant.is ∙ sym (scale_step ls k) in
    record {
      is = value;
      positive = c.scale_after-next.ensures.positive;
      narrow = λ i l. at i (let d : (i ≤ k) ⊎ (i ≡ k + 1) = grind arith in d) value (below (2 ^ c.args.width) c.scale_after-next.result (pow_pos c.args.width) c.if-next-width-ne0.false);
    }
  where
    below : (m n : ℕ) → 0 < m → n / m ≡ 0 → n < m
    below m n p e = at (let c : (n < m) ⊎ (m ≤ n) = grind arith in c)
      where
        at : (n < m) ⊎ (m ≤ n) → n < m
        at (inl l) = l
        at (inr l) = absurd (let s = (div-lt_iff_lt-mul {k = m} {x = n} {y = 1} p).0 (let q : n / m < 1 = omega arith in q) in omega arith)

    at : (i : ℕ) → (i ≤ c.loop-k.k) ⊎ (i ≡ c.loop-k.k + 1) → c.scale_after-next.result ≡ scale_to (lines_of c.args.self.now) (c.loop-k.k + 1) → c.scale_after-next.result < 2 ^ c.args.width → scale_to (lines_of c.args.self.now) i < 2 ^ c.args.width
    at i (inl l) e h = c.loop-k.invariant.narrow i l
    at i (inr l) e h = subst (λ n. n < 2 ^ c.args.width) (e ∙ ap (scale_to (lines_of c.args.self.now)) (sym l)) h
