-- A row put in the place of one with the same share leaves W and A as they were.
use mathlib.Core.Path.{◌≡◌}
use Prim.Native.Nat.{ℕ}
use native.Mathlib.Omega.{arith}
use Rattle.rows.specs.declared.Row.{Row}
use Rattle.rows.specs.Row.{weight_in, moment_in}
use Rattle.head.specs.Head.{summed}
use Rattle.share.specs.declared.Table.{Table}
use Rattle.share.specs.Table.{row, placed}

module _ (t : Table) (i : ℕ) (r : Row) where
  pub placed_total : weight_in r ≡ weight_in (row t i) → (placed t i r).head.total ≡ t.head.total
  unfolding placed summed
  placed_total e = omega arith

  pub placed_sum : moment_in r ≡ moment_in (row t i) → (placed t i r).head.sum ≡ t.head.sum
  unfolding placed summed
  placed_sum e = omega arith
