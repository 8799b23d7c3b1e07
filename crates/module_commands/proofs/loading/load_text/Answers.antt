use Rattle.std.proofs.Common.{rules, ℕ, List}
use Rattle.module_commands.specs.Loading.{IsLoaded}
use Rattle.module_commands.specs.declared.loading.Loaded.TheVariants as loaded
use Rattle.module_commands.proofs.AnswerLaws.{of_any}
use Rattle.module_commands.proofs.loading.load_text.Goals as goal

pub returns-in_ok-asm_fault-in-Err-clause-ok : goal.returns-in_ok-asm_fault-in-Err-clause-ok
returns-in_ok-asm_fault-in-Err-clause-ok g c =
    let answer = c.in_ok-asm_fault-in-Err.field-0 in
    let told : (t : List ℕ) → IsLoaded c.args.text.now t (loaded.Refused answer) = λ t. search rules in
    of_any _ _ told
