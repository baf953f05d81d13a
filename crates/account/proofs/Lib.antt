-- `Demands` is to be read first; the files above it lead to it in this order.

-- table and account side by side, but for the fractions
pub mod Match
-- V, lags and the bound beside that: what ties the two
pub mod Tied
-- both release in lockstep
pub mod Releases
-- a return keeps the tie
pub mod Returning
-- an entry keeps the tie
pub mod Entering
-- events that move no V keep the tie
pub mod Leaving
-- the account's release, lowest first, is a release
pub mod Clearing
-- every step, and so every run, keeps the tie
pub mod Simulation
-- V never falls
pub mod Clock
-- what a tie says: the reported lags are the accounts, and add up to nothing
pub mod Reports
-- a departure counts once
pub mod Departures
-- B2 computed: counted twice it differs
pub mod Twice
-- the order in which the account frees rows makes no difference
pub mod Orders
-- the longest request noted is the longest seen
pub mod Longest
-- an event alters only the rows that it names or releases
pub mod Frames
-- all of this over a run from a fresh table
pub mod Theorems
-- what a release and a leave pass on, once
pub mod Passing
-- the theorems of a run of events, of runs of public calls
pub mod Called
-- the three demands, sentence by sentence
pub mod Demands
