-- `Table::enter`: the newcomer's row is orderly, so it can be put in place and the table settled.
use mathlib.Core.Path.{◌≡◌, refl, subst⁻¹}
use Prim.Native.Nat.{ℕ}
use Rattle.rows.specs.declared.Request.{Request}
use Rattle.rows.specs.declared.State.TheVariants.{Asking}
use Rattle.rows.specs.Requests.{opened, entering}
use Rattle.share.specs.Asks.{Placing}
use Rattle.share.proofs.Grounds.{entering_places, entering_settles}
use Rattle.share.proofs.Table.enter.Goals as goal

-- the row that is made is the newcomer's
row_is : (w : ℕ) {position entry length meant : ℕ} {q : Request} → position ≡ entry → length ≡ meant → q ≡ opened position length → record { weight = w; position = position; state = Asking q } ≡ entering w entry meant
unfolding entering
row_is w at long asked = rw (asked, at, long) refl

pub put-requires : goal.put-requires
put-requires c =
    let a = c.args in
    subst⁻¹ (Placing a.self.now a.queue) (row_is a.weight c.entry-position.ensures c.length_meant.ensures c.opened-request.ensures)
    (entering_places a.self.now a.queue a.weight a.length c.requires.0)

pub settle-requires : goal.settle-requires
settle-requires c =
    let a = c.args in
    rw (c.put.ensures, row_is a.weight c.entry-position.ensures c.length_meant.ensures c.opened-request.ensures)
    (entering_settles a.self.now a.queue a.weight a.length c.requires.0 a.nearest c.requires.1)
