pub mod Answer
pub use Rattle.txc_cmd_report.specs.Outcome
pub use Rattle.txc_cmd_report.specs.Text
pub use Rattle.txc_cmd_report.specs.Line
pub use Rattle.txc_cmd_replay.specs.Rounds
