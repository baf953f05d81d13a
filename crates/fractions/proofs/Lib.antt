-- laws of signed numbers, as equations of naturals
pub mod Differences
-- what a fraction is worth
pub mod Values
-- the laws of fractions: equality, sum, order, ceiling
pub mod Laws
