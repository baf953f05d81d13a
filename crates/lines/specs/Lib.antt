-- What bandtrace reads and prints, in the words of document 01's section "The program bandtrace".

-- a line cut into fields, the input into lines
pub mod Cut
-- a decimal as a field, and the digits that are printed
pub mod Decimal
-- which event a line is, and which line an event
pub mod Grammar
-- bytes put at a place of a buffer: between functions
pub mod Places
-- what the reader finds at a place of a line: between functions
pub mod Reading
-- what is printed
pub mod Print
-- the input in pieces, and what working one of them does
pub mod Pieces
