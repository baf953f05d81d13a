use mathlib.Core.Logic.{◌⊎◌}
use Prim.Native.Nat.{◌<◌}
use Rattle.share.specs.Asks.{Releasing}
use Rattle.share.specs.Release.{Frees, released}
use Rattle.share.specs.Sound.{Calm}
use Rattle.share.proofs.Table.settle.Given as goal

-- between the passes: `weight` is what W was before the last one
abbrev pub invariant-loop-self : goal.invariant-loop-self
invariant-loop-self l = Releasing l.self × Frees l.self (released l.initial.self) × ((l.self.head.total < l.weight) ⊎ Calm l.self)

abbrev pub decreases-loop-self : goal.decreases-loop-self
decreases-loop-self l = l.weight
