-- The definitions compared with document 004, row by row: its notation, and for each rule of Tables 2 and 3 worked
-- reductions, with all that an expression or a process does and so with what it does not. Assumes nothing.
pub mod Notation
pub mod Table3
pub mod Table2
