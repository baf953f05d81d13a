-- `Table::write_lags`: what is written and what is to be written make the whole list.
use mathlib.Core.Path.{◌≡◌, subst, ◌∙◌}
use Prim.Native.Nat.{ℕ}
use native.Mathlib.Numerals.{add-one}
use native.Mathlib.Omega.{arith}
use mir.Syntax.{w64}
use mir.ValLaws.{to_z-of_z}
use Rattle.share.specs.Table.{row}
use Rattle.share.proofs.Written.{Writing, writing_next, writing_ends}
use Rattle.share.proofs.Table.write_lags.Goals as goal

pub loop-at-preserved : goal.loop-at-preserved
unfolding row
loop-at-preserved c =
    let loop = c.loop-at in
    let written = to_z-of_z w64 c.lag_of.result (record { sfits = c.lag_of.type_inv }) in
    rw add-one
    (writing_next c.args.self.now _ loop.at loop.list _ c.loop-at-test.true c.requires.0.one_each
    (omega (arith, loop.auto.list, c.requires.1)) (written ∙ c.lag_of.ensures) loop.invariant)

pub returns : goal.returns
returns c =
    let loop = c.loop-at in
    let all : loop.at ≡ 64 = omega (arith, c.loop-at-test.false, loop.auto.at-end) in
    writing_ends c.args.self.now _ loop.list c.requires.0.one_each
    (subst (λ (i : ℕ). Writing c.args.self.now c.args.list.now i loop.list) all loop.invariant)
