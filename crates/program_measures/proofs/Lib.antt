pub mod MeasuredTables
