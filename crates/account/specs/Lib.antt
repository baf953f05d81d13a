-- The account of a run: document 01, "The account", sentence by sentence. `Changes` to `Bound` know events and nothing of a table. The others set it
-- beside one: `Counted` asks only whether an event was accepted, and `Report` reads what the lag report hands out.

-- what an accepted event counts as
pub mod Changes
-- what the account keeps, and what each change makes of it
pub mod Account
-- a departure that counts once, and one that counts twice
pub mod Departures
-- the release of the account, and the account of a list of changes
pub mod Books
-- what goes on with a run, over which V never falls
pub mod Clock
-- when two accounts are the same
pub mod Same
-- how low an account may not fall
pub mod Bound
-- the accepted events of a run, as the account counts them
pub mod Counted
-- V and the reported lags of a table, as fractions
pub mod Report
-- what a row that is freed gives to one who stays
pub mod Passing
-- a row and an entry that say the same of a queue
pub mod Agrees
-- the longest request, read off the tables of a run
pub mod Longest
-- the rows that an event names, and what may become of the others
pub mod Named
