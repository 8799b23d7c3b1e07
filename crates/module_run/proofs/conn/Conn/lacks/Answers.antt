use Rattle.std.proofs.Common.{◌-◌, ◌≤◌, min, ◌≡◌, ℕ, List, length, Bool, slice_get, Some, sym, ◌∙◌, ap, subst, refl, ◌||◌}
use Rattle.model_laws.proofs.chains.Modules.{module_at_proper}
use Rattle.module_run.specs.Conns.{top_of}
use Rattle.module_run.specs.Looking.{calls_at}
use Rattle.module_code.specs.Program.{Program, fits}
use Rattle.run_model.specs.Steps.{is_spent}
use Rattle.pool_tree.specs.Tree.{map_of}
use Rattle.brigade_ops.specs.Store.{lists, next_name}
use Rattle.module_run.specs.declared.conn.Filter.{Filter}
use Rattle.module_run.proofs.Tops.{view_of}
use Rattle.module_run.proofs.Looking.{looked, read_at, lacks_as, seen_faultless}
use Rattle.module_run.proofs.conn.Conn.lacks.Goals as goal

-- src/look.rt:101:9
pub lacks_names-requires-clause-fit : goal.lacks_names-requires-clause-fit
lacks_names-requires-clause-fit g c = ap (fits c.code-code.result.now) c.requires.on_top.1.1.1.1.1.instr ∙ (looked c.args.modules.now c.args.tree.now c.args.store.now c.requires.on_top.0
    c.args.self.now c.requires.on_top.1.0 c.requires.on_top.1.1.0 c.requires.on_top.1.1.1.0 c.requires.on_top.1.1.1.1.0 c.top.result c.in-Some.filter.now c.code-code.result.now
    c.top.ensures (subst (λ (xs : List Filter). slice_get xs c.top.result ≡ Some c.in-Some.filter.now) c.deref.ensures.value
    (read_at c.deref.result.now c.top.result c.in-Some.filter.now c.in-Some.ensures.lookup.3.0 c.in-Some.ensures.lookup.1))
    c.code-code.ensures).fit

pub lacks_names-requires-clause-faultless : goal.lacks_names-requires-clause-faultless
lacks_names-requires-clause-faultless g c =
    let p = c.requires.on_top in (
      view_of (map_of c.args.tree.now) c.args.self.now p.1.0,
      seen_faultless c.args.modules.now c.args.tree.now c.args.store.now c.args.self.now p.1.0 p.1.1.0 c.args.next p.1.1.1.1.1 p.1.1.1.1.2 c.in-Some.filter.now c.code-code.result.now
          (looked c.args.modules.now c.args.tree.now c.args.store.now c.requires.on_top.0 c.args.self.now c.requires.on_top.1.0 c.requires.on_top.1.1.0 c.requires.on_top.1.1.1.0
          c.requires.on_top.1.1.1.1.0 c.top.result c.in-Some.filter.now c.code-code.result.now c.top.ensures (subst
          (λ (xs : List Filter). slice_get xs c.top.result ≡ Some c.in-Some.filter.now) c.deref.ensures.value (read_at c.deref.result.now c.top.result c.in-Some.filter.now
          c.in-Some.ensures.lookup.3.0 c.in-Some.ensures.lookup.1))
          c.code-code.ensures),
    )

-- src/look.rt:101:9
pub lacks_names-requires-clause-held : goal.lacks_names-requires-clause-held
lacks_names-requires-clause-held g c = (looked c.args.modules.now c.args.tree.now c.args.store.now c.requires.on_top.0 c.args.self.now c.requires.on_top.1.0 c.requires.on_top.1.1.0
    c.requires.on_top.1.1.1.0 c.requires.on_top.1.1.1.1.0 c.top.result c.in-Some.filter.now c.code-code.result.now c.top.ensures
    (subst (λ (xs : List Filter). slice_get xs c.top.result ≡ Some c.in-Some.filter.now) c.deref.ensures.value (read_at c.deref.result.now c.top.result c.in-Some.filter.now
    c.in-Some.ensures.lookup.3.0 c.in-Some.ensures.lookup.1))
    c.code-code.ensures).held

-- src/look.rt:80:5
pub returns-then-lacks_names : goal.returns-then-lacks_names
returns-then-lacks_names g c d v f rest is looks =
    let whole = lacks_as c.args.modules.now c.args.tree.now c.args.store.now d c.args.self.now v f rest is c.args.next looks c.in-Some.filter.now c.code-code.result.now
    (looked c.args.modules.now c.args.tree.now c.args.store.now d c.args.self.now v f rest is c.top.result c.in-Some.filter.now c.code-code.result.now c.top.ensures
    (subst (λ (xs : List Filter). slice_get xs c.top.result ≡ Some c.in-Some.filter.now) c.deref.ensures.value (read_at c.deref.result.now c.top.result c.in-Some.filter.now
    c.in-Some.ensures.lookup.3.0 c.in-Some.ensures.lookup.1)) c.code-code.ensures) c.as_slice.result.now c.as_slice.ensures.value c.lacks_names.result (is_spent (next_name c.args.store.now)
    (calls_at c.args.modules.now (lists c.args.store.now) c.args.self.now c.args.next.instr)) (c.lacks_names.ensures (view_of (map_of c.args.tree.now) c.args.self.now v)) refl in
    c.if-lacks_names.true ∙ (sym (ap (λ (t : Bool). t || is_spent (next_name c.args.store.now) (calls_at c.args.modules.now (lists c.args.store.now) c.args.self.now c.args.next.instr)) c.if-lacks_names.true) ∙ whole)

-- src/look.rt:80:5
pub returns-else-lacks_names : goal.returns-else-lacks_names
returns-else-lacks_names g c d v f rest is looks =
    let whole = lacks_as c.args.modules.now c.args.tree.now c.args.store.now d c.args.self.now v f rest is c.args.next looks c.in-Some.filter.now c.code-code.result.now
    (looked c.args.modules.now c.args.tree.now c.args.store.now d c.args.self.now v f rest is c.top.result c.in-Some.filter.now c.code-code.result.now c.top.ensures
    (subst (λ (xs : List Filter). slice_get xs c.top.result ≡ Some c.in-Some.filter.now) c.deref.ensures.value (read_at c.deref.result.now c.top.result c.in-Some.filter.now
    c.in-Some.ensures.lookup.3.0 c.in-Some.ensures.lookup.1)) c.code-code.ensures) c.as_slice.result.now c.as_slice.ensures.value c.lacks_names.result c.is_spent.result
    (c.lacks_names.ensures (view_of (map_of c.args.tree.now) c.args.self.now v)) (c.is_spent.ensures
    ∙ (ap (is_spent c.next_name.result) (c.calls.ensures (lists c.args.store.now)) ∙ ap (λ (n : ℕ). is_spent n (calls_at c.args.modules.now (lists c.args.store.now) c.args.self.now c.args.next.instr)) c.next_name.ensures)) in
    sym (ap (λ (t : Bool). t || c.is_spent.result) c.if-lacks_names.false) ∙ whole

pub code-code-requires : goal.code-code-requires
code-code-requires g c = c.requires.on_top.1.1.1.1.0.stands.lawful.chained.some

pub lacks_names-requires-clause-few : goal.lacks_names-requires-clause-few
lacks_names-requires-clause-few g c =
    subst (λ (p : Program). length p.brigades ≤ 8) (sym c.code-code.ensures)
    (module_at_proper c.args.modules.now c.requires.on_top.1.1.1.1.0.stands.lawful.chained (min (top_of c.args.self.now) (length c.args.modules.now - 1))).brigades
