-- `Table::walked`: a row more, as long as it is fine.
use mathlib.Core.Path.{◌≡◌, sym, ◌∙◌}
use native.Mathlib.Numerals.{add-one}
use lib.ListN.{length}
use Rattle.std.proofs.Common.{rules}
use Rattle.share.specs.Table.{row}
use Rattle.share.proofs.Walk.{walk_starts, walk_next}
use Rattle.share.proofs.Table.walked.Goals as goal

pub loop-at-init : goal.loop-at-init
loop-at-init c = walk_starts c.args.self.now

pub loop-at-preserved : goal.loop-at-preserved
unfolding row
loop-at-preserved c =
    let one_each : length c.args.self.now.rows ≡ 64 = search rules in
    let stored = c.in_ok-of.ensures.some in
    let found = rw (stored.0, stored.1) at (sym c.after.ensures ∙ c.in_ok-seen.was) in
    rw add-one (walk_next c.args.self.now c.loop-at.at c.loop-at.seen one_each c.loop-at-test.true c.in_ok-seen.seen found c.loop-at.invariant)
