-- The words that the clauses of this crate's code share, from where they are defined.
pub use Rattle.module_code.specs.Program.{IsModule}
pub use Rattle.life_check.specs.ChainTheorem.{ChainNeverFaults}
pub use Rattle.script_text.specs.Certified.{AreCertified, HasCertificate}
pub use Rattle.script_text.specs.Heads.{EndsCert, EndsHead, EndsModule, TakesBehind, TakesBehindModule, TakesBehindSkipped, TakesChecked}
pub use Rattle.script_text.specs.Heads.{TakesHeading, TakesInCert, TakesInModule, TakesLine, TellsMore, at_line, begins_module, head_of}
pub use Rattle.script_text.specs.Heads.{is_skipped, no_head, seen_part, taken_as, with_cert, with_line}
pub use Rattle.script_text.specs.Parts.{codes_of, first_from, refused_in, unmade}
pub use Rattle.script_text.specs.Scripts.{budget_at}
