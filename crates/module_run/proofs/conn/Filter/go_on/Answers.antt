-- By the instruction that was read.
use Rattle.std.proofs.Common.{◌∙◌, ℕ, refl, sym, ap}
use Rattle.module_code.specs.declared.instr.Instr.{Instr}
use Rattle.run_model.specs.Passing.{after_pass}
use Rattle.module_run.proofs.CurrentAt.{current_at}
use Rattle.module_run.proofs.conn.Filter.go_on.Goals as goal

pub behind_pass-self-requires-clause-passes : goal.behind_pass-self-requires-clause-passes
behind_pass-self-requires-clause-passes c =
    let p = c.requires.passes in
    (p.0, (p.1.0, sym (current_at c.args.code.now c.args.self.now.call.pc c.at.result c.at.ensures.value) ∙ p.1.1))

pub returns-clause-call : goal.returns-clause-call
returns-clause-call c = ap (λ (n : ℕ). record c.args.self.now.call { pc = n })
    (c.behind_pass-self.ensures ∙ ap (λ (i : Instr). after_pass c.args.status i c.args.self.now.call.pc) (sym (current_at c.args.code.now c.args.self.now.call.pc c.at.result c.at.ensures.value)))

pub returns-clause-lent : goal.returns-clause-lent
returns-clause-lent c = refl
