-- By its fault, or by what the call on top does.
use Rattle.std.proofs.Common.{refl, sym, ◌∙◌}
use Rattle.pool_tree.specs.Tree.{map_of}
use Rattle.module_run.proofs.CallsLeave.{ends_unchanged}
use Rattle.module_run.proofs.Executing.{none_there}
use Rattle.module_run.proofs.Looking.{seen_next, stands_at}
use Rattle.module_run.proofs.Neighbours.{unmoved}
use Rattle.module_run.proofs.OnlyAsked.{ends_asked, leaves_asked, left_asked, on_top_asked}
use Rattle.module_run.proofs.conn_step.step_watched.Goals as goal

pub next_instr-next-requires : goal.next_instr-next-requires
next_instr-next-requires g c =
    (let p = c.requires.on_top in stands_at c.args.modules.now c.args.tree.now c.args.store.now (g.F.Files.device c.args.files.now) c.args.conn.now p.0 p.1.0 p.1.1.0 p.1.1.1)

pub fault_of-requires : goal.fault_of-requires
fault_of-requires g c =
    let d = g.F.Files.device c.args.files.now in
    let p = c.requires.on_top in
    let looks = seen_next c.args.modules.now c.args.tree.now c.args.store.now d c.args.conn.now p.0 p.1.0 p.1.1.0 p.1.1.1 c.next_instr-next.result c.next_instr-next.ensures in
    record { on_top = (d, (p.0, (p.1.0, (p.1.1.0, (p.1.1.1, looks))))) }

pub returns-in-Some-clause-steps : goal.returns-in-Some-clause-steps
returns-in-Some-clause-steps g c v f rest is =
    let d = g.F.Files.device c.args.files.now in
    let a = c.fault_of.ensures in
    let looks = seen_next c.args.modules.now c.args.tree.now c.args.store.now d c.args.conn.now v f rest is c.next_instr-next.result c.next_instr-next.ensures in (
      sym (a.value d v f rest is looks) ∙ c.in-Some.is,
      looks.of,
      looks.pc,
      record { device = refl; left = left_asked c.args.modules.now d c.args.conn.now v c.args.tree.now c.fault_of.new.tree c.args.store.now c.fault_of.new.store a.tree_asked a.asked is.stands.left },
    )

pub returns-in-Some-clause-leaves : goal.returns-in-Some-clause-leaves
returns-in-Some-clause-leaves g c =
    let s = c.fault_of.new.store in
    leaves_asked c.args.conn.now c.args.conn.now c.args.tree.now c.fault_of.new.tree c.args.store.now s s c.fault_of.ensures.tree_asked c.fault_of.ensures.asked
    (unmoved (map_of c.fault_of.new.tree) s c.args.conn.now c.args.conn.now (λ k. refl))

pub returns-in-Some-clause-ended : goal.returns-in-Some-clause-ended
returns-in-Some-clause-ended g c =
    let s = c.fault_of.new.store in
    ends_asked c.args.conn.now c.args.conn.now c.args.store.now s s c.fault_of.ensures.asked (ends_unchanged s s c.args.conn.now c.args.conn.now (λ k. refl))

pub execute_next-requires : goal.execute_next-requires
execute_next-requires g c =
    let d = g.F.Files.device c.args.files.now in
    let p = c.requires.on_top in
    let a = c.fault_of.ensures in
    let looks = seen_next c.args.modules.now c.args.tree.now c.args.store.now d c.args.conn.now p.0 p.1.0 p.1.1.0 p.1.1.1 c.next_instr-next.result c.next_instr-next.ensures in
    let is = on_top_asked c.args.modules.now d c.args.conn.now p.0 p.1.0 p.1.1.0 c.args.tree.now c.fault_of.new.tree c.args.store.now c.fault_of.new.store a.tree_asked a.asked p.1.1.1 in
    let none = none_there c.fault_of.result c.in_default.not-Some in
    record { on_top = (p.0, (p.1.0, (p.1.1.0, (record { is_top = is; faultless = sym (a.value d p.0 p.1.0 p.1.1.0 p.1.1.1 looks) ∙ none }, looks)))) }

pub returns-clause-steps : goal.returns-clause-steps
returns-clause-steps g c v f rest before =
    let d = g.F.Files.device c.args.files.now in
    let a = c.fault_of.ensures in
    let looks = seen_next c.args.modules.now c.args.tree.now c.args.store.now d c.args.conn.now v f rest before c.next_instr-next.result c.next_instr-next.ensures in
    let is = on_top_asked c.args.modules.now d c.args.conn.now v f rest c.args.tree.now c.fault_of.new.tree c.args.store.now c.fault_of.new.store a.tree_asked a.asked before in
    let none = none_there c.fault_of.result c.in_default.not-Some in
    c.execute_next.ensures.steps v f rest (record { is_top = is; faultless = sym (a.value d v f rest before looks) ∙ none }) looks

pub returns-clause-leaves : goal.returns-clause-leaves
returns-clause-leaves g c =
    leaves_asked c.args.conn.now c.execute_next.new.conn c.args.tree.now c.fault_of.new.tree c.args.store.now c.fault_of.new.store c.execute_next.new.store c.fault_of.ensures.tree_asked
    c.fault_of.ensures.asked c.execute_next.ensures.leaves

pub returns-clause-ended : goal.returns-clause-ended
returns-clause-ended g c = ends_asked c.args.conn.now c.execute_next.new.conn c.args.store.now c.fault_of.new.store c.execute_next.new.store c.fault_of.ensures.asked c.execute_next.ensures.ended
