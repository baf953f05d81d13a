-- `Table::pass`: a row that is ready is freed, and what is left to free still ends where all of it would.
use mathlib.Core.Path.{◌≡◌, refl, ap, sym, subst⁻¹, ◌∙◌}
use Prim.Native.Nat.{ℕ, ◌-◌, ◌<◌}
use native.Mathlib.Omega.{arith}
use lib.ListN.{set}
use Rattle.rows.specs.Row.{blank}
use Rattle.head.specs.declared.Head.{Head}
use Rattle.head.specs.Judged.{Replacing}
use Rattle.share.specs.declared.Table.{Table}
use Rattle.share.specs.Release.{freed}
use Rattle.share.specs.Sound.{ready}
use Rattle.share.specs.Table.{row, placed}
use Rattle.share.proofs.Passes.{Passing, pass_frees}
use Rattle.share.proofs.Sound.{ready_says}
use Rattle.share.proofs.Totals.{may_replace}
use Rattle.share.proofs.Table.pass.Goals as goal

-- a row of the table for a free one
frees_one : (t : Table) (i : ℕ) {t₀ : Table} → Passing t₀ t i → 0 < i → Replacing t.head (row t (i - 1)) blank
frees_one t i inv some = may_replace t (i - 1) blank (record { orderly = inv.releasing.orderly; inside = omega (arith, inv.inside); new = (refl, refl) })

pub replaced-self-requires : goal.replaced-self-requires
unfolding row
replaced-self-requires c = frees_one c.loop-at.self c.loop-at.at c.loop-at.invariant (omega arith)

pub loop-at-preserved-then-is_ready : goal.loop-at-preserved-then-is_ready
unfolding row ready freed placed
loop-at-preserved-then-is_ready c =
    let t = c.loop-at.self in
    let i = c.loop-at.at in
    let is : record { rows = set t.rows (i - 1) blank; head = c.replaced-self.result } ≡ freed t (i - 1) =
    ap (λ (h : Head). record { rows = set t.rows (i - 1) blank; head = h }) c.replaced-self.ensures in
    let reads = rw (c.time.ensures.total, c.time.ensures.sum) at c.is_ready.ensures in
    subst⁻¹ (λ (x : Table). Passing c.args.self.now x (i - 1)) is
    (pass_frees c.args.self.now t i c.loop-at.invariant (omega arith) (ready_says t (i - 1) (sym reads ∙ c.if-is_ready.true)))
