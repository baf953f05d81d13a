-- The head of a table, in document 01's words: what it keeps beside its rows, the slice that is out, lags, answers and refusals. A reader believes all
-- but the last file, which stands between the project's own functions.

-- the numbers of a head; where a newcomer enters
pub mod Head
-- the resting position of an empty table
pub mod Rest
-- the slice that is out: when it is in order, and how long one is
pub mod Slice
-- the lag of a row
pub mod Lag
-- the number and the values of each answer
pub mod Answers
-- what each event is refused for, in its order
pub mod Refusals
-- what a walk and the head tell together
pub mod Judged
