-- What a letter and its numbers name, letter by letter as the reader looks at them.
use mathlib.Core.Path.{◌≡◌}
use mathlib.Core.Bool.{cond}
use mathlib.Core.List.{List, [], ◌∷◌}
use Prim.Native.Nat.{ℕ}
use native.Mathlib.Omega.{arith}
use lib.Dec.{eqb}
use lib.ListN.{length, get_or}
use Rattle.std.specs.Prelude.{Option, None, Some}
use Rattle.std.proofs.lemmas.Bool.Decides.{nat_tests}
use Rattle.rows.specs.Numbers.{default_length}
use Rattle.head.specs.declared.Event.{Event}
use Rattle.head.specs.declared.Event.TheVariants.{Join, Leave, Reweight, Length, Grant}
use Rattle.lines.specs.Grammar.{letter_s, letter_j, letter_l, letter_w, letter_r, letter_g, letter_u, return_of, fresh_of, event_of}

-- so many numbers are wanted
abbrev exactly : ℕ → ℕ → Option Event → Option Event
exactly k n e = cond (eqb n k) e None

abbrev fresh_by : ℕ → ℕ → ℕ → ℕ → Option Event
fresh_by n a b c = cond (eqb n 1) (fresh_of a 1 default_length) (cond (eqb n 2) (fresh_of a b default_length) (exactly 3 n (fresh_of a b c)))

abbrev by_letter : ℕ → ℕ → ℕ → ℕ → ℕ → Option Event
by_letter k n a b c =
    cond (eqb k letter_g) (exactly 0 n (Some Grant))
    (cond (eqb k letter_s) (fresh_by n a b c)
    (cond (eqb k letter_l) (exactly 1 n (Some (Leave a)))
    (cond (eqb k letter_r) (exactly 2 n (Some (Length a b)))
    (cond (eqb k letter_j) (exactly 3 n (Some (Join a b c)))
    (cond (eqb k letter_w) (exactly 3 n (Some (Reweight a b c)))
    (cond (eqb k letter_u) (exactly 3 n (return_of a b c)) None))))))

pub named : (k : ℕ) (ns : List ℕ) → event_of k ns ≡ by_letter k (length ns) (get_or ns 0 0) (get_or ns 1 0) (get_or ns 2 0)
unfolding event_of
named k [] = grind (arith, nat_tests)
named k (a ∷ []) = grind (arith, nat_tests)
named k (a ∷ b ∷ []) = grind (arith, nat_tests)
named k (a ∷ b ∷ c ∷ []) = grind (arith, nat_tests)
named k (a ∷ b ∷ c ∷ d ∷ ns) = grind (arith, nat_tests)

pub ruleset naming = (nat_tests, named)
