-- By the filter and the module that are found at the place of the call on top.
use Rattle.std.proofs.Common.{◌-◌, ◌≤◌, min, length, sym, ◌≡◌, ◌∙◌, List, Some, ap, slice_get, subst}
use Rattle.model_laws.proofs.chains.Modules.{module_at_proper}
use Rattle.module_run.specs.Conns.{top_of}
use Rattle.module_code.specs.Program.{Program, fits}
use Rattle.pool_tree.specs.Tree.{map_of}
use Rattle.module_run.specs.declared.conn.Filter.{Filter}
use Rattle.module_run.proofs.Looking.{fault_read, looked, read_at}
use Rattle.module_run.proofs.Tops.{view_of}
use Rattle.module_run.proofs.conn.Conn.fault_of.Goals as goal

pub fault-requires-clause-fit : goal.fault-requires-clause-fit
fault-requires-clause-fit g c = ap (fits c.code-code.result.now) c.requires.on_top.1.1.1.1.1.instr ∙ (looked c.args.modules.now c.args.tree.now c.args.store.now c.requires.on_top.0 c.args.self.now
    c.requires.on_top.1.0 c.requires.on_top.1.1.0 c.requires.on_top.1.1.1.0 c.requires.on_top.1.1.1.1.0 c.top.result c.in-Some.filter.now c.code-code.result.now c.top.ensures
    (subst (λ (xs : List Filter). slice_get xs c.top.result ≡ Some c.in-Some.filter.now) c.deref.ensures.value (read_at c.deref.result.now c.top.result c.in-Some.filter.now
    c.in-Some.ensures.lookup.3.0 c.in-Some.ensures.lookup.1))
    c.code-code.ensures).fit

pub fault-requires-clause-held : goal.fault-requires-clause-held
fault-requires-clause-held g c = (looked c.args.modules.now c.args.tree.now c.args.store.now c.requires.on_top.0 c.args.self.now c.requires.on_top.1.0 c.requires.on_top.1.1.0
    c.requires.on_top.1.1.1.0 c.requires.on_top.1.1.1.1.0 c.top.result c.in-Some.filter.now c.code-code.result.now c.top.ensures
    (subst (λ (xs : List Filter). slice_get xs c.top.result ≡ Some c.in-Some.filter.now) c.deref.ensures.value (read_at c.deref.result.now c.top.result c.in-Some.filter.now
    c.in-Some.ensures.lookup.3.0 c.in-Some.ensures.lookup.1))
    c.code-code.ensures).held

pub returns-clause-value : goal.returns-clause-value
returns-clause-value g c d v f rest is looks =
    fault_read c.args.modules.now c.args.tree.now c.args.store.now c.args.self.now v f c.in-Some.filter.now c.code-code.result.now c.args.next c.fault.result c.as_slice.result.now
    c.as_slice.ensures.value
    (looked c.args.modules.now c.args.tree.now c.args.store.now d c.args.self.now v f rest is c.top.result c.in-Some.filter.now c.code-code.result.now c.top.ensures
    (subst (λ (xs : List Filter). slice_get xs c.top.result ≡ Some c.in-Some.filter.now) c.deref.ensures.value (read_at c.deref.result.now c.top.result c.in-Some.filter.now
    c.in-Some.ensures.lookup.3.0 c.in-Some.ensures.lookup.1)) c.code-code.ensures) looks (c.fault.ensures.value (view_of (map_of c.args.tree.now) c.args.self.now v))

pub code-code-requires : goal.code-code-requires
code-code-requires g c = c.requires.on_top.1.1.1.1.0.stands.lawful.chained.some

pub fault-requires-clause-few : goal.fault-requires-clause-few
fault-requires-clause-few g c =
    subst (λ (p : Program). length p.brigades ≤ 8) (sym c.code-code.ensures)
    (module_at_proper c.args.modules.now c.requires.on_top.1.1.1.1.0.stands.lawful.chained (min (top_of c.args.self.now) (length c.args.modules.now - 1))).brigades
