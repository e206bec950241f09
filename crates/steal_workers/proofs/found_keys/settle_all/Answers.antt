use Rattle.std.proofs.Common.{sym, subst, ℕ}
use Rattle.ntfe_model.specs.Shapes.{Shape}
use Rattle.steal_workers.specs.Probing.{IsVerdictOn}
use Rattle.steal_workers.proofs.FoundKeys.{first_found, rest_found, same_listing_then, same_tally_then}
use Rattle.steal_workers.proofs.found_keys.settle_all.Goals as goal

pub settle-requires-clause-verdict : goal.settle-requires-clause-verdict
settle-requires-clause-verdict g c =
    let i = c.loop-key.invariant in
    subst (λ (x : Shape × ℕ). IsVerdictOn x.0 x.1 c.in-Some.field-0.key c.in-Some.field-0.verdict) (λ k. (sym i.listing.geometry k, sym i.listing.width k))
    (first_found c.args.board.now.board.geometry c.args.board.now.width c.in-Some.field-0 c.pop_front.new.self.items c.loop-key.found.items c.in-Some.ensures.items i.found)

pub returns-in_err-all-clause-found : goal.returns-in_err-all-clause-found
returns-in_err-all-clause-found g c =
    rest_found c.args.board.now.board.geometry c.args.board.now.width c.in-Some.field-0 c.pop_front.new.self.items c.loop-key.found.items c.in-Some.ensures.items c.loop-key.invariant.found

pub loop-key-preserved : goal.loop-key-preserved
loop-key-preserved g c =
    let i = c.loop-key.invariant in
    record {
      listing = same_listing_then c.args.board.now c.loop-key.board c.settle.new.self i.listing c.settle.ensures.listing;
      found = rest_found c.args.board.now.board.geometry c.args.board.now.width c.in-Some.field-0 c.pop_front.new.self.items c.loop-key.found.items c.in-Some.ensures.items i.found;
      tally = same_tally_then c.args.mine.now c.loop-key.mine c.settle.new.mine i.tally c.settle.ensures.tally;
    }
