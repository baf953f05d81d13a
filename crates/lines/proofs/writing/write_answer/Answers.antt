-- `write_answer` puts the parts one after the other; what stands after each is what stood before it and the part. That sum and total are put, each in its
-- place, is asked by itself.
use mathlib.Core.Path.{◌≡◌}
use mathlib.Core.List.{List}
use Prim.Native.Nat.{ℕ}
use Rattle.std.proofs.Common.{rules}
use Rattle.lines.specs.Places.{Wrote}
use Rattle.lines.proofs.Digits.{ended, wrote_line}
use Rattle.lines.proofs.writing.write_answer.Goals as goal

-- the number that is put is this one
is_number : {l m : List ℕ} {at p n k : ℕ} (then : ℕ) → n ≡ k → Wrote l at (ended n then) m p → Wrote l at (ended k then) m p
is_number then e w = rw e at w

pub returns : goal.returns
returns c =
    wrote_line _ _ _ _ c.put.ensures.wrote c.put-2.ensures.wrote c.put_grant.ensures.wrote (is_number 32 (search rules) c.put-3.ensures.wrote) (is_number 10 (search rules) c.put-4.ensures.wrote) (search rules)
