-- What the share table is, in document 01's words and order. A reader who believes these files, but for the last two, and those of `rows` and `head` knows
-- what is proved.

-- a table, its rows, its sums and V; a row put in another's place
pub mod Table
-- a sound table: the test and the record
pub mod Sound
-- the list of all lags
pub mod LagList
-- release, as a rule without an order and as a function
pub mod Release
-- whom a grant goes to, as a rule and as a function
pub mod Choice
-- what each accepted event makes of the table
pub mod Events
-- one step: what each call answers, refused ones too
pub mod Calls
-- a run of events
pub mod Runs
-- what the walk over the rows has done, and what it tells
pub mod Walks
-- what the private functions ask for
pub mod Asks
