-- B1 to B11 hold: one statement, computed
pub mod Bench
