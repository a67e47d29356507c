-- What journals are accepted and where others are at fault, for those that call `check`: said where laws of journals stand, and passed on here.
pub use Rattle.run_journals.specs.Begins.{CanRun}
pub use Rattle.run_journals.specs.Accepted.{IsAcceptedOf, IsAccepted}
pub use Rattle.run_journals.specs.Causes.{Cause, IsNo}
