use Rattle.std.proofs.Common.{inl, inr, refl}
use Rattle.fine_stream.proofs.Separations.{beyond_compatible}
use Rattle.fine_stream.proofs.sides.is_beyond_side.Goals as goal

pub returns-then-is_beyond : goal.returns-then-is_beyond
returns-then-is_beyond c =
    λ e. beyond_compatible c.args.chart.now c.requires.apart c.args.t.now c.args.u.now c.args.t.now.a c.args.t.now.b c.args.t.now.c (inl (refl, refl, refl)) c.requires.first c.requires.second
    (c.is_beyond.ensures c.if-is_beyond.true)

pub returns-then-is_beyond-2 : goal.returns-then-is_beyond-2
returns-then-is_beyond-2 c =
    λ e. beyond_compatible c.args.chart.now c.requires.apart c.args.t.now c.args.u.now c.args.t.now.b c.args.t.now.c c.args.t.now.a (inr (inl (refl, refl, refl))) c.requires.first c.requires.second
    (c.is_beyond-2.ensures c.if-is_beyond-2.true)

pub returns : goal.returns
returns c =
    λ e. beyond_compatible c.args.chart.now c.requires.apart c.args.t.now c.args.u.now c.args.t.now.c c.args.t.now.a c.args.t.now.b (inr (inr (refl, refl, refl))) c.requires.first c.requires.second
    (c.is_beyond-3.ensures e)
