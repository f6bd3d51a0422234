pub mod NodeLookups
