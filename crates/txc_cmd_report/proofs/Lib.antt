pub mod Deciding
pub mod ReportLemmas
