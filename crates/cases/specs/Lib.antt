-- what a case may say of an event: of its answer, and of the table after it
pub mod Facts
-- B1 to B11, with every number that document 01 gives
pub mod Bench
