-- Exact fractions: document 01, "The account", its second sentence.

-- signed whole numbers, under names that stay shut
pub mod Signed
-- a fraction, its sums and products, its equality and order by cross products
pub mod Fraction
