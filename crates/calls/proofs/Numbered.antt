-- The numbers of refusal tell the refusals apart. This is the one proof that goes through all of them.
use mathlib.Core.Bool.{cond}
use mathlib.Core.List.{List, [], ◌∷◌}
use mathlib.Core.Path.{◌≡◌, refl, sym, ap, ◌∙◌}
use Prim.Native.Nat.{ℕ, ◌≤◌}
use native.Mathlib.Omega.{arith}
use lib.Dec.{eqb}
use Rattle.head.specs.declared.Refusal.{Refusal}
use Rattle.head.specs.declared.Refusal.TheVariants.{Unsound, QueueOutside, WeightOutside, LengthOutside, SliceOut, NotHolder, RowTaken, NotAsking, LagBelow, TicksOutside, TableEmpty, CeilingPassed, ListShort, LimitOutside, RowFree, RuleOutside, DefaultOutside}
use Rattle.head.specs.Answers.{refusal_number}

-- a refusal is known by its number, and no number is 0
abbrev refusals : List Refusal
refusals =
    Unsound ∷ QueueOutside ∷ WeightOutside ∷ LengthOutside ∷ SliceOut ∷ NotHolder ∷ RowTaken ∷ NotAsking ∷ LagBelow ∷ TicksOutside ∷ TableEmpty
    ∷ CeilingPassed ∷ ListShort ∷ LimitOutside ∷ RowFree ∷ RuleOutside ∷ DefaultOutside ∷ []

abbrev numbered : ℕ → List Refusal → Refusal
numbered n [] = Unsound
numbered n (why ∷ rest) = cond (eqb (refusal_number why) n) why (numbered n rest)

abbrev refusal_of : ℕ → Refusal
refusal_of n = numbered n refusals

pub known : (why : Refusal) → (refusal_of (refusal_number why) ≡ why) × (1 ≤ refusal_number why)
known Unsound = (refl, omega arith)
known QueueOutside = (refl, omega arith)
known WeightOutside = (refl, omega arith)
known LengthOutside = (refl, omega arith)
known SliceOut = (refl, omega arith)
known NotHolder = (refl, omega arith)
known RowTaken = (refl, omega arith)
known NotAsking = (refl, omega arith)
known LagBelow = (refl, omega arith)
known TicksOutside = (refl, omega arith)
known TableEmpty = (refl, omega arith)
known CeilingPassed = (refl, omega arith)
known ListShort = (refl, omega arith)
known LimitOutside = (refl, omega arith)
known RowFree = (refl, omega arith)
known RuleOutside = (refl, omega arith)
known DefaultOutside = (refl, omega arith)

pub same_refusal : (a b : Refusal) → refusal_number a ≡ refusal_number b → a ≡ b
same_refusal a b e = sym (known a).0 ∙ ap refusal_of e ∙ (known b).0
