-- `Table::take_back`: the slice is taken in, and the holder's row charged; it goes on asking.
use Rattle.head.specs.Head.{sliced}
use Rattle.share.specs.Table.{with_slice}
use Rattle.share.proofs.Charges.{return_charges, return_places}
use Rattle.share.proofs.Grounds.{returning_settles}
use Rattle.share.proofs.Table.take_back.Goals as goal

pub charged-requires : goal.charged-requires
charged-requires c = let a = c.args in rw c.row_of-row.ensures (return_charges a.self.now a.queue a.used c.requires.0)

pub put-requires : goal.put-requires
unfolding with_slice sliced
put-requires c =
    let a = c.args in
    rw (c.charged.ensures, c.row_of-row.ensures) (return_places a.self.now a.queue a.used c.requires.0 a.early)

pub settle-requires : goal.settle-requires
unfolding with_slice sliced
settle-requires c =
    let a = c.args in
    rw (c.put.ensures, c.charged.ensures, c.row_of-row.ensures) (returning_settles a.self.now a.queue a.used a.early a.nearest c.requires.0 c.requires.1)
