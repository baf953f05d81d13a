-- `Table::reenter`: the queue that left is free again, so it enters; the release freed rows and moved none.
use Rattle.share.proofs.Departing.{rejoins}
use Rattle.share.proofs.Settling.{left_ahead}
use Rattle.share.proofs.Table.reenter.Goals as goal

pub enter-requires : goal.enter-requires
enter-requires c =
    let a = c.args in
    let t = a.self.now in
    rw c.depart.ensures
    (rejoins t a.queue a.weight a.length c.requires.0, left_ahead t a.queue a.nearest c.requires.0.leaves c.requires.0.owed c.requires.1)
