-- The words that the clauses of this crate's code share, from where they are defined.
pub use Rattle.module_code.specs.Program.{Program}
pub use Rattle.byte_streams.specs.Counted.{reads_left, source_of}
pub use Rattle.life_check.specs.Seen.{seen_cert}
pub use Rattle.life_check.specs.Versions.{version_two}
pub use Rattle.life_cert.specs.CertText.{cert_text}
pub use Rattle.life_cert.specs.Rounds.{made}
pub use Rattle.module_commands.specs.StreamFaults.{TellsOfReader, TellsOfReaders, TellsOfWriter}
pub use Rattle.module_commands.specs.Streams.{Writes, WritesText}
pub use Rattle.module_commands.specs.TextAnswers.{IsAnswerFor, IsAnswerWith, IsAssembled, IsCertification, IsCertified, IsCheckOutput, IsModuleText, IsTaskOutput}
pub use Rattle.module_commands.specs.TextAnswers.{IsOutputFront, IsUpgrade, IsUpgradeOutput, IsVerdict, TellsCertFault, made_form}
