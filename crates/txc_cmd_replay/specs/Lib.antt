pub mod Rounds
pub mod Keeping
pub use Rattle.txc_cmd_report.specs.Outcome
pub use Rattle.txc_cmd_report.specs.Text
