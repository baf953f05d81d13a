-- where bytes are cut
pub mod Cutting
-- a decimal read from the left
pub mod Decimals
-- a line taken field by field
pub mod Fields
-- what a letter and its numbers name
pub mod Naming
-- digits, and what is put into a buffer one after the other
pub mod Digits
-- a field is a decimal exactly when it is the digits of a number
pub mod Decimal
-- lines and events, both ways
pub mod RoundTrip
-- input worked piece by piece prints what the whole prints
pub mod Pieces
-- what holds of the loop over the lines of a piece
pub mod Working
-- turns one after the other print what the whole input prints
pub mod Turning
-- sixteen lines that are answered 15
pub mod Broken
-- the worked run of document 01, byte for byte
pub mod Worked
