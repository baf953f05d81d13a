-- What the theorems on the calls are about: a public call and a run of calls; which refusal speaks against a call, in document 01's words; and what an
-- accepted event means, for each a record of the table before and the table after.

-- the public calls on a table, and runs of them
pub mod Public
-- which refusal speaks against a call, in the words of document 01
pub mod Against
-- a list of events in which every length of 0 is said by name
pub mod ByName
-- what a grant is to be
pub mod Rightly
-- what each accepted event means, of the tables before and after
pub mod Meaning
