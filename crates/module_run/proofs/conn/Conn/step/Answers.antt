-- By the tests, and by what the watched step did.
use Rattle.std.proofs.Common.{◌≡◌, ◌∙◌, sym, ap, subst, refl, Some, Err, Ok, arith}
use Rattle.run_model.specs.declared.event.Cause.{Cause}
use Rattle.run_model.specs.declared.event.Refusal.{Refusal}
use Rattle.run_model.specs.declared.event.Refusal.TheVariants.{Broken}
use Rattle.pool_tree.specs.Tree.{map_of}
use Rattle.module_run.specs.declared.conn.Conn.{Conn}
use Rattle.module_run.specs.Conns.{filter_at}
use Rattle.module_run.specs.Stepping.{IsStep, settled}
use Rattle.module_run.proofs.CallsLeave.{ends_alike, ends_unchanged, leaves_alike}
use Rattle.module_run.proofs.Executing.{answer_settled, can_step, cause_of, count_of, none_there, refusal_settled, runs_on_top, settled_filters, step_broken, step_goes, step_idle, step_over}
use Rattle.module_run.proofs.Neighbours.{unchanged, unmoved}
use Rattle.module_run.proofs.conn.Conn.step.Goals as goal

pub returns-in-Some-clause-steps : goal.returns-in-Some-clause-steps
returns-in-Some-clause-steps g c v stands bare =
    step_broken c.args.modules.now c.args.budget c.args.tree.now c.args.store.now (g.F.Files.device c.args.files.now) c.args.self.now v stands.left c.in-Some.cause c.in-Some.is

pub returns-then-not-self-clause-steps : goal.returns-then-not-self-clause-steps
returns-then-not-self-clause-steps g c v stands bare = step_idle c.args.modules.now c.args.budget c.args.tree.now c.args.store.now (g.F.Files.device c.args.files.now) c.args.self.now v stands.left
    (none_there c.args.self.now.broken c.in_default.not-Some) c.if-not-self.true

pub returns-then-self-budget-clause-steps : goal.returns-then-self-budget-clause-steps
returns-then-self-budget-clause-steps g c v stands bare =
    step_over c.args.modules.now c.args.budget c.args.tree.now c.args.store.now (g.F.Files.device c.args.files.now) c.args.self.now v stands.left c.break_by.new.self c.break_by.result
    (none_there c.args.self.now.broken c.in_default.not-Some) c.if-not-self.false c.if-self-budget.true c.break_by.ensures.broken c.break_by.ensures.told

pub step_top-requires : goal.step_top-requires
step_top-requires g c =
    let chain = c.args.modules.now in
    let d = g.F.Files.device c.args.files.now in
    let s = c.requires.stands in
    let left = s.1.0.left in
    let t = runs_on_top chain c.args.budget c.args.tree.now c.args.store.now d c.args.self.now s.0 left c.if-not-self.false in
    let faultless = can_step chain c.args.budget c.args.tree.now c.args.store.now d c.args.self.now s.0 left
    (none_there c.args.self.now.broken c.in_default.not-Some) c.if-self-budget.false t.0 t.1.0 t.1.1 in
    record { on_top = (s.0, (t.0, (t.1.0, (record { stands = s.1.0; on_top = t.1.1 }, λ bare. faultless (s.1.1 bare))))) }

pub returns-in-Ok-clause-steps : goal.returns-in-Ok-clause-steps
returns-in-Ok-clause-steps g c v stands bare =
    let chain = c.args.modules.now in
    let d = g.F.Files.device c.args.files.now in
    let e = g.F.Files.device c.step_top.new.files in
    let self = c.args.self.now in
    let after = c.step_top.new.conn in
    let t = runs_on_top chain c.args.budget c.args.tree.now c.args.store.now d self v stands.left c.if-not-self.false in
    let faultless = can_step chain c.args.budget c.args.tree.now c.args.store.now d self v stands.left (none_there self.broken c.in_default.not-Some) c.if-self-budget.false t.0 t.1.0 t.1.1 in
    let done = c.in-Ok.ensures.steps v t.0 t.1.0 (record { stands = stands; on_top = t.1.1 }) (λ is. faultless (bare is)) in
    let count : after.count ≡ v.1.count = c.in-Ok.ensures.count ∙ sym (count_of chain c.args.tree.now c.args.store.now d self v stands.left) in
    subst (λ (x : Conn). IsStep chain c.args.budget d e v c.step_top.new.tree c.step_top.new.store x (Ok c.in-Ok.stepped)) (sym c.settle.ensures)
    (step_goes chain c.args.budget c.args.tree.now c.args.store.now d self v stands.left c.step_top.new.tree c.step_top.new.store e (settled c.in-Ok.stepped after) t.0 t.1.0 (Ok c.in-Ok.stepped)
    (none_there self.broken c.in_default.not-Some) c.if-self-budget.false t.1.1 (answer_settled chain c.step_top.new.tree c.step_top.new.store d e after v t.0 t.1.0 c.in-Ok.stepped t.1.1 count done))

pub returns-in-Err-clause-steps : goal.returns-in-Err-clause-steps
returns-in-Err-clause-steps g c v stands bare =
    let chain = c.args.modules.now in
    let d = g.F.Files.device c.args.files.now in
    let e = g.F.Files.device c.step_top.new.files in
    let self = c.args.self.now in
    let after = c.step_top.new.conn in
    let t = runs_on_top chain c.args.budget c.args.tree.now c.args.store.now d self v stands.left c.if-not-self.false in
    let faultless = can_step chain c.args.budget c.args.tree.now c.args.store.now d self v stands.left (none_there self.broken c.in_default.not-Some) c.if-self-budget.false t.0 t.1.0 t.1.1 in
    let done = c.in-Err.ensures.steps v t.0 t.1.0 (record { stands = stands; on_top = t.1.1 }) (λ is. faultless (bare is)) in
    let sound = cause_of chain c.args.tree.now c.args.store.now d self v stands.left ∙ none_there self.broken c.in_default.not-Some in
    let broke = refusal_settled chain c.step_top.new.tree c.step_top.new.store d e after v t.0 t.1.0 c.in-Err.why sound t.1.1 done in
    let told : c.break_by-in-Err.result ≡ Broken c.cause_of.result = c.break_by-in-Err.ensures.told in
    subst (λ (x : Conn). IsStep chain c.args.budget d e v c.step_top.new.tree c.step_top.new.store x (Err c.break_by-in-Err.result)) (sym c.break_by-in-Err.ensures.broken)
    (subst (λ (r : Refusal). IsStep chain c.args.budget d e v c.step_top.new.tree c.step_top.new.store (record after { broken = Some c.cause_of.result }) (Err r)) (sym told)
    (subst (λ (k : Cause). IsStep chain c.args.budget d e v c.step_top.new.tree c.step_top.new.store (record after { broken = Some k }) (Err (Broken k))) (sym c.cause_of.ensures)
    (step_goes chain c.args.budget c.args.tree.now c.args.store.now d self v stands.left c.step_top.new.tree c.step_top.new.store e _ t.0 t.1.0 _
    (none_there self.broken c.in_default.not-Some) c.if-self-budget.false t.1.1 broke)))

pub returns-in-Some-clause-leaves : goal.returns-in-Some-clause-leaves
returns-in-Some-clause-leaves g c =
    unmoved (map_of c.args.tree.now) c.args.store.now c.args.self.now c.args.self.now (λ k. refl)

pub returns-in-Some-clause-ended : goal.returns-in-Some-clause-ended
returns-in-Some-clause-ended g c = ends_unchanged c.args.store.now c.args.store.now c.args.self.now c.args.self.now (λ k. refl)

pub returns-then-not-self-clause-leaves : goal.returns-then-not-self-clause-leaves
returns-then-not-self-clause-leaves g c =
    unmoved (map_of c.args.tree.now) c.args.store.now c.args.self.now c.args.self.now (λ k. refl)

pub returns-then-not-self-clause-ended : goal.returns-then-not-self-clause-ended
returns-then-not-self-clause-ended g c = ends_unchanged c.args.store.now c.args.store.now c.args.self.now c.args.self.now (λ k. refl)

pub returns-then-self-budget-clause-leaves : goal.returns-then-self-budget-clause-leaves
unfolding filter_at
returns-then-self-budget-clause-leaves g c = unchanged (map_of c.args.tree.now) c.args.store.now c.args.store.now c.args.self.now c.break_by.new.self (λ n. refl) refl (omega arith)
    (λ id there young. there) (λ k. ap (λ (x : Conn). filter_at x k) c.break_by.ensures.broken)

pub returns-then-self-budget-clause-ended : goal.returns-then-self-budget-clause-ended
unfolding filter_at
returns-then-self-budget-clause-ended g c = ends_unchanged c.args.store.now c.args.store.now c.args.self.now c.break_by.new.self (λ k. ap (λ (x : Conn). filter_at x k) c.break_by.ensures.broken)

pub returns-in-Ok-clause-leaves : goal.returns-in-Ok-clause-leaves
returns-in-Ok-clause-leaves g c =
    leaves_alike (map_of c.args.tree.now) c.args.store.now c.step_top.new.store c.args.self.now c.step_top.new.conn c.settle.new.self
    (λ k. ap (λ (x : Conn). filter_at x k) c.settle.ensures ∙ settled_filters c.in-Ok.stepped c.step_top.new.conn k) c.in-Ok.ensures.leaves

pub returns-in-Ok-clause-ended : goal.returns-in-Ok-clause-ended
returns-in-Ok-clause-ended g c =
    ends_alike (map_of c.args.tree.now) c.args.store.now c.step_top.new.store c.args.self.now c.step_top.new.conn c.settle.new.self
    (λ k. ap (λ (x : Conn). filter_at x k) c.settle.ensures ∙ settled_filters c.in-Ok.stepped c.step_top.new.conn k) c.in-Ok.ensures.ended

pub returns-in-Err-clause-leaves : goal.returns-in-Err-clause-leaves
unfolding filter_at
returns-in-Err-clause-leaves g c =
    leaves_alike (map_of c.args.tree.now) c.args.store.now c.step_top.new.store c.args.self.now c.step_top.new.conn c.break_by-in-Err.new.self
    (λ k. ap (λ (x : Conn). filter_at x k) c.break_by-in-Err.ensures.broken) c.in-Err.ensures.leaves

pub returns-in-Err-clause-ended : goal.returns-in-Err-clause-ended
unfolding filter_at
returns-in-Err-clause-ended g c =
    ends_alike (map_of c.args.tree.now) c.args.store.now c.step_top.new.store c.args.self.now c.step_top.new.conn c.break_by-in-Err.new.self
    (λ k. ap (λ (x : Conn). filter_at x k) c.break_by-in-Err.ensures.broken) c.in-Err.ensures.ended
