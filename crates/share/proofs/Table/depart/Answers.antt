-- `Table::depart`: a queue that V has reached is freed; another goes, and stands no nearer than itself.
use Rattle.share.proofs.Grounds.{freeing_settles}
use Rattle.share.proofs.Table.depart.Goals as goal

pub settle-requires : goal.settle-requires
settle-requires c = let a = c.args in rw c.put.ensures (freeing_settles a.self.now a.queue c.requires.0 a.nearest c.requires.1)
