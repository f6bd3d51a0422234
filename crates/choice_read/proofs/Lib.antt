-- The laws of a schedule's bytes, for whoever goes through one.
pub mod ScheduleHeads
