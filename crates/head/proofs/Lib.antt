-- Laws of the definitions of the head.

-- a newcomer enters at the least whole number not below V
pub mod Entry
-- the resting position is in order by its test
pub mod Rest
-- the slice that is out is decided by its test
pub mod Slice
-- whether a walk was whole is decided by its test
pub mod Judged
-- the request of an orderly row can be served
pub mod Asking
-- one refusal after another is the first of the list
pub mod Verdicts
-- the product that the code computes is the lag
pub mod Lags
