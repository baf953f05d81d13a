-- A departure is counted once: taking a row's share out of A and W moves V by its lag over the weight that is left, which is equation 14.
use mathlib.Core.Bool.{true, false, cond}
use mathlib.Core.Path.{◌≡◌, refl}
use Prim.Native.Nat.{ℕ, ◌+◌, ◌*◌, ◌<◌}
use native.Mathlib.Omega.{arith}
use lib.ListN.{length}
use Rattle.rows.specs.declared.Row.{Row}
use Rattle.rows.specs.declared.State.{State}
use Rattle.rows.specs.declared.State.TheVariants.{Going}
use Rattle.rows.specs.Row.{is_free, is_asking, weight_in, moment_in}
use Rattle.rows.proofs.Shares.{asking_not_free}
use Rattle.head.specs.Head.{summed}
use Rattle.share.specs.declared.Table.{Table}
use Rattle.share.specs.Events.{leaving}
use Rattle.share.specs.Release.{freed}
use Rattle.share.specs.Table.{row, reached, placed, TrueSums}
use Rattle.share.proofs.Placed.{weight_within, moment_within}
use Rattle.share.proofs.Release.{freed_total, freed_sum}

-- a row that is not free has its weight in W and its weight x position in A
here : (s : State) (n : ℕ) → is_free s ≡ false → cond (is_free s) 0 n ≡ n
here s n e = rw e refl

pub weight_here : (r : Row) → is_free r.state ≡ false → weight_in r ≡ r.weight
unfolding weight_in
weight_here r e = here r.state r.weight e

pub moment_here : (r : Row) → is_free r.state ≡ false → moment_in r ≡ r.weight * r.position
unfolding moment_in
moment_here r e = here r.state (r.weight * r.position) e

-- A' and W' are what is left of A and W without w at p
once : (A W A' W' w p : ℕ) → A' + w * p ≡ A → W' + w ≡ W → A' * W + w * (W * p) ≡ A * W' + w * A
once A W A' W' w p a b = rw (← a, ← b) (omega arith)

module _ (t : Table) (i : ℕ) (sums : TrueSums t) (inside : i < length t.rows) where
  -- Equation 14, V' = V + lag / (W - w), over the common denominator W x W' and with both sides' negative part moved across:
  -- V' is A' / W', V is A / W, and the lag in position units is w (A - W p) / W.
  pub departure_once : is_free (row t i).state ≡ false → let r : Row = row t i in (freed t i).head.sum * t.head.total + r.weight * (t.head.total * r.position) ≡ t.head.sum * (freed t i).head.total + r.weight * t.head.sum
  departure_once present =
      let r : Row = row t i in
      let a : (freed t i).head.sum + r.weight * r.position ≡ t.head.sum = omega (arith, freed_sum t i, moment_within t i sums inside, moment_here r present) in
      let b : (freed t i).head.total + r.weight ≡ t.head.total = omega (arith, freed_total t i, weight_within t i sums inside, weight_here r present) in
      once t.head.sum t.head.total (freed t i).head.sum (freed t i).head.total r.weight r.position a b

abbrev gone : Row → Row
gone r = record { weight = r.weight; position = r.position; state = Going }

-- "Else it becomes going: ... it keeps its weight in W": a queue that leaves owing time changes neither W nor A
module _ (t : Table) (queue : ℕ) (asks : is_asking (row t queue).state ≡ true) (owing : reached t (row t queue).position ≡ false) where
  pub going_keeps_W : (placed t queue (leaving t (row t queue))).head.total ≡ t.head.total
  unfolding placed summed leaving
  going_keeps_W = simp (owing, weight_here (row t queue) (asking_not_free (row t queue).state asks)) (omega (arith, weight_here (gone (row t queue)) refl))

  pub going_keeps_A : (placed t queue (leaving t (row t queue))).head.sum ≡ t.head.sum
  unfolding placed summed leaving
  going_keeps_A = simp (owing, moment_here (row t queue) (asking_not_free (row t queue).state asks)) (omega (arith, moment_here (gone (row t queue)) refl))
