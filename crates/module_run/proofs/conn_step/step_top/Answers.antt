-- By the step that is chosen.
use Rattle.std.proofs.Common.{Result, Ok, ◌∙◌, ap, subst}
use Rattle.run_model.specs.declared.event.StepRefusal.{StepRefusal}
use Rattle.module_run.specs.declared.conn_bare.Bare.{Bare}
use Rattle.module_run.specs.Stepping.{IsWatchedStep, stepped_by}
use Rattle.module_run.proofs.conn_step.step_top.Goals as goal

pub step_watched-requires : goal.step_watched-requires
step_watched-requires g c = (let p = c.requires.on_top in record { on_top = (p.0, (p.1.0, (p.1.1.0, p.1.1.1.0))) })

pub step_bare-requires : goal.step_bare-requires
step_bare-requires g c = (let p = c.requires.on_top in record { faultless = (p.0, (p.1.0, (p.1.1.0, record { is_top = p.1.1.1.0; faultless = p.1.1.1.1 c.if-not-bare.false }))) })

pub returns-then-not-bare-clause-steps : goal.returns-then-not-bare-clause-steps
returns-then-not-bare-clause-steps g c v f rest is faultless = c.step_watched.ensures.steps v f rest is

pub returns-in-Ok-Went-clause-steps : goal.returns-in-Ok-Went-clause-steps
returns-in-Ok-Went-clause-steps g c v f rest is faultless =
    let d = g.F.Files.device c.args.files.now in
    let e = g.F.Files.device c.step_bare.new.files in
    subst (λ (r : Result Bare StepRefusal). IsWatchedStep c.args.modules.now d e v f rest c.step_bare.new.tree c.step_bare.new.store c.step_bare.new.conn (stepped_by r))
    (c.in-Ok-Went.is ∙ ap (λ (b : Bare). Ok b) c.in-Ok-Went.field-0-is) (c.step_bare.ensures.steps v f rest (record { is_top = is; faultless = faultless c.if-not-bare.false }))

pub returns-in-Ok-CallEnded-clause-steps : goal.returns-in-Ok-CallEnded-clause-steps
returns-in-Ok-CallEnded-clause-steps g c v f rest is faultless =
    let d = g.F.Files.device c.args.files.now in
    let e = g.F.Files.device c.step_bare.new.files in
    subst (λ (r : Result Bare StepRefusal). IsWatchedStep c.args.modules.now d e v f rest c.step_bare.new.tree c.step_bare.new.store c.step_bare.new.conn (stepped_by r))
    (c.in-Ok-CallEnded.is ∙ ap (λ (b : Bare). Ok b) c.in-Ok-CallEnded.field-0-is) (c.step_bare.ensures.steps v f rest (record { is_top = is; faultless = faultless c.if-not-bare.false }))

pub returns-in-Err-clause-steps : goal.returns-in-Err-clause-steps
returns-in-Err-clause-steps g c v f rest is faultless =
    let d = g.F.Files.device c.args.files.now in
    let e = g.F.Files.device c.step_bare.new.files in
    subst (λ (r : Result Bare StepRefusal). IsWatchedStep c.args.modules.now d e v f rest c.step_bare.new.tree c.step_bare.new.store c.step_bare.new.conn (stepped_by r))
    c.in-Err.is (c.step_bare.ensures.steps v f rest (record { is_top = is; faultless = faultless c.if-not-bare.false }))
