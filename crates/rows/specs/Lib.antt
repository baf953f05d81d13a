-- The numbers of the shop, a row with its request, and what can be asked of them without a table. A reader believes all but the last two files,
-- which stand between the project's own functions.

-- the numbers of the shop, the table of steps, the default length
pub mod Numbers
-- a row: its state, weight, position, opening and deadline
pub mod Row
-- whether V = A / W has reached a position
pub mod Virtual
-- what a sound table asks of a row, of its request and of the terms
pub mod Orderly
-- what the events make of a row and its request
pub mod Requests
-- the order in which requests go
pub mod Order
-- what a walk sees of one row more
pub mod Looks
-- what functions of a row ask for, so that their numbers fit
pub mod Fits
