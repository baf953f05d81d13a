-- B1 to B13 hold of the definitions: one statement, computed.
use mathlib.Core.Bool.{true}
use mathlib.Core.Path.{◌≡◌, refl}
use Rattle.laws.specs.Lists.{all}
use Rattle.share.proofs.Computes.{stepping}
use Rattle.cases.specs.Bench.{lone_at, bench}
use Rattle.cases.specs.Facts.{holds, line_holds, case_holds}

pub bench_holds : all case_holds bench ≡ true
unfolding stepping holds line_holds case_holds lone_at
bench_holds = refl
