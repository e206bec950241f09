use Rattle.star_builder.proofs.Crossings.{between, across_first, across_second, across_third, are_rising}
use Rattle.star_builder.proofs.crossing.Crossing.candidate.Goals as goal

pub join-four-requires-clause-not_a : goal.join-four-requires-clause-not_a
join-four-requires-clause-not_a c = let s = c.args.self.now in across_first s.points.now s.facet.now s.ridge s.without c.args.p c.requires.across

pub join-four-requires-clause-not_b : goal.join-four-requires-clause-not_b
join-four-requires-clause-not_b c = let s = c.args.self.now in across_second s.points.now s.facet.now s.ridge s.without c.args.p c.requires.across

pub join-four-requires-clause-not_c : goal.join-four-requires-clause-not_c
join-four-requires-clause-not_c c = let s = c.args.self.now in across_third s.points.now s.facet.now s.ridge s.without c.args.p c.requires.across

pub frame_of-frame-requires-clause-four : goal.frame_of-frame-requires-clause-four
frame_of-frame-requires-clause-four c =
    let s = c.args.self.now in are_rising s.points.now s.facet.now s.ridge s.first (between s) s.last c.args.p c.requires.point c.join-four.result c.join-four.ensures
