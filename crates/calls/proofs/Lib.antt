-- Theorems on the calls that no function's proof needs. `Answering`, `Granting` and `Soundness` hold what the demands say of single calls and of runs.

-- a refusal is known by its number
pub mod Numbered
-- what a call answers: a refusal, or what the event does
pub mod Replies
-- each refusal exactly when its sentence says so, and in the order of the numbers
pub mod Applying
-- demand 1 of an event
pub mod Answering
-- no second outcome fits a contract
pub mod Outcomes
-- a row with the same share leaves W and A
pub mod SameSums
-- the rule of the choice names one queue
pub mod Choosing
-- events keep a table sound, and so do runs
pub mod Soundness
-- demand 2 of a grant
pub mod Granting
-- a departure is counted once: equation 14
pub mod OneDeparture
-- release frees exactly the rows that V comes to reach
pub mod Exactly
-- equations 7 to 12, 14 and 15 of report 96-038
pub mod Equations
-- what a release leaves alone, and which rows it frees
pub mod Releasing
-- where a table comes to rest when the last row is freed
pub mod Resting
-- what each accepted event means, of the definitions that the contracts cite
pub mod Meaning
-- what an accepted leave means; a reweight is a leave and a join
pub mod Departed
-- what stands whatever the event
pub mod Standing
-- a length of 0 is the table's default said by name
pub mod ByName
-- where a row stands, by its lag and by V
pub mod Panel
-- the public calls in one: refused with the table as given, or done
pub mod Calling
-- a call answers a number exactly when that refusal is the lowest that speaks against it
pub mod Given
-- 720,720, the size of a lag, and fields that are 0
pub mod Figures
