-- A signed whole number as the difference of two naturals.
use Rattle.std.specs.Prelude.{ℕ, ℤ}
use Rattle.std.proofs.Math.IntN.{sub_ℕ}

infixl 60 ◌⊖◌
-- a - b, below zero where b is the greater
unfoldable pub ◌⊖◌ : ℕ → ℕ → ℤ
a ⊖ b = sub_ℕ a b
