use Rattle.run_laws.proofs.MemoryFiles.{files_in_memory}
use Rattle.run_laws.proofs.laws.files_in_memory_are_known.Goals as goal

pub returns : goal.returns
returns c = record { known = files_in_memory }
