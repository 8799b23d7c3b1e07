-- The laws of all instructions.
use Rattle.module_code.specs.declared.instr.Instr.TheVariants as instr
use Rattle.run_model.specs.declared.bucket.Home.{Home}
use Rattle.life_check.specs.Soundness.{StepLands}
use Rattle.life_check.proofs.Asides.{law_aside}
use Rattle.life_check.proofs.Brigades.{law_bclean, law_bconcat, law_bcreate}
use Rattle.life_check.proofs.Cleared.{law_pclear, law_pdestroy}
use Rattle.life_check.proofs.Cuts.{law_read, law_split}
use Rattle.life_check.proofs.Partitions.{law_bpart}
use Rattle.life_check.proofs.Passes.{law_pass, law_ret}
use Rattle.life_check.proofs.Places.{law_first, law_next}
use Rattle.life_check.proofs.Plain.{law_jempty, law_jend, law_jkind, law_jnull, law_jsent}
use Rattle.life_check.proofs.Pools.{law_label, law_pcreate, law_prelabel, law_unlabel}
use Rattle.life_check.proofs.Puts.{law_before, law_head, law_tail}
use Rattle.life_check.proofs.Saved.{law_bsave}
use Rattle.life_check.proofs.Splits.{law_bsplit}
use Rattle.life_check.proofs.Takes.{law_bdelete, law_unlink}
use Rattle.life_check.proofs.Uniform.{law_uniform}

-- a row for each instruction that the law of the last row does not serve
pub step_lands : (lives : Home → Type 0) → StepLands lives
step_lands lives (instr.PCreate q) = law_pcreate {lives = lives} q
step_lands lives (instr.PClear q) = law_pclear {lives = lives} q
step_lands lives (instr.PDestroy q) = law_pdestroy {lives = lives} q
step_lands lives (instr.Label q t) = law_label {lives = lives} q t
step_lands lives (instr.PreLabel q t) = law_prelabel {lives = lives} q t
step_lands lives (instr.Unlabel q t) = law_unlabel {lives = lives} q t
step_lands lives (instr.BCreate o) = law_bcreate {lives = lives} o
step_lands lives (instr.BClean b) = law_bclean {lives = lives} b
step_lands lives (instr.BConcat a b) = law_bconcat {lives = lives} a b
step_lands lives (instr.BSplit b c a) = law_bsplit {lives = lives} b c a
step_lands lives (instr.BPart b x c l) = law_bpart {lives = lives} b x c l
step_lands lives (instr.BSave o b) = law_bsave {lives = lives} o b
step_lands lives (instr.JEmpty b l) = law_jempty {lives = lives} b l
step_lands lives (instr.Pass b l) = law_pass {lives = lives} b l
step_lands lives (instr.First c b) = law_first {lives = lives} c b
step_lands lives (instr.Next d c) = law_next {lives = lives} d c
step_lands lives (instr.JEnd c l) = law_jend {lives = lives} c l
step_lands lives (instr.JKind c k l) = law_jkind {lives = lives} c k l
step_lands lives (instr.Unlink c) = law_unlink {lives = lives} c
step_lands lives (instr.BDelete c) = law_bdelete {lives = lives} c
step_lands lives (instr.Tail b c) = law_tail {lives = lives} b c
step_lands lives (instr.Head b c) = law_head {lives = lives} b c
step_lands lives (instr.Before c d) = law_before {lives = lives} c d
step_lands lives (instr.Split c x l) = law_split {lives = lives} c l x
step_lands lives (instr.Aside c q) = law_aside {lives = lives} c q
step_lands lives (instr.Read c l) = law_read {lives = lives} c l
step_lands lives (instr.JNull v l) = law_jnull {lives = lives} v l
step_lands lives (instr.JSent l) = law_jsent {lives = lives} l
step_lands lives (instr.Ret t) = law_ret {lives = lives} t
step_lands lives i = law_uniform {lives = lives} i tt tt
