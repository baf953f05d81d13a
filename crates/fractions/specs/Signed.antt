-- Signed whole numbers: the library's sum, product and opposite under names that stay shut, so that laws about them can be put to use.
use Rattle.std.specs.Prelude.{List, [], ◌∷◌, ℕ, ℤ, pos, neg_ℤ, ◌+ℤ◌, ◌*ℤ◌}

unfoldable pub plus : ℤ → ℤ → ℤ
plus x y = x +ℤ y

-- a whole number of times
unfoldable pub times : ℤ → ℕ → ℤ
times x n = x *ℤ pos n

unfoldable pub opposite : ℤ → ℤ
opposite x = neg_ℤ x

-- the sum of a list
abbrev pub summed : List ℤ → ℤ
summed [] = pos 0
summed (x ∷ xs) = plus x (summed xs)
