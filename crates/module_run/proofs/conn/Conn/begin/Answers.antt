-- By the tests, and by what is left where none refuses.
use Rattle.std.proofs.Common.{◌≡◌, ℕ, true, false, Some, None, refl, sym, ap, subst, ◌∙◌}
use Rattle.run_model.specs.Turns.{begins, begun}
use Rattle.pool_tree.specs.Tree.{map_of}
use Rattle.brigade_ops.specs.Store.{lists, next_name}
use Rattle.run_model.specs.declared.event.Refusal.TheVariants as refusal
use Rattle.module_run.specs.CalledFirst.{CalledFirst}
use Rattle.module_run.specs.Happened.{has_lasted}
use Rattle.module_run.proofs.Refusing.{begin_refused, begin_passed}
use Rattle.module_run.proofs.RequestBegins.{begun_left, conn_live, happened_as, begin_idle, never_some}
use Rattle.module_run.proofs.Unchanged.{left_same}
use Rattle.module_run.proofs.Neighbours.{rises_by, unchanged, unmoved}
use Rattle.module_run.proofs.NeighboursLeft.{first_leaves}
use Rattle.module_run.proofs.conn.Conn.begin.Goals as goal

pub call_and_pool-requires : goal.call_and_pool-requires
call_and_pool-requires g c = (let s = c.requires.stands.1 in conn_live c.args.modules.now c.args.tree.now c.args.store.now c.requires.stands.0 c.args.self.now s.linked s.so)

pub returns-in-Some-clause-happened : goal.returns-in-Some-clause-happened
returns-in-Some-clause-happened g c d v stands =
    happened_as c.args.modules.now c.args.tree.now c.args.store.now d c.args.self.now (Some c.in-Some.why) (begins (has_lasted c.in-Some.why) c.args.modules.now v) v
    (begin_refused (map_of c.args.tree.now) (lists c.args.store.now) (next_name c.args.store.now) c.args.self.now v stands.left.seen (has_lasted c.in-Some.why) c.args.modules.now c.in-Some.why
    (sym c.refusal_to_begin.ensures ∙ c.in-Some.is))
    stands.left

pub returns-in_default-call_and_pool-clause-happened : goal.returns-in_default-call_and_pool-clause-happened
returns-in_default-call_and_pool-clause-happened g c d v stands =
    let none = sym c.refusal_to_begin.ensures ∙ never_some c.refusal_to_begin.result c.in_default.not-Some in
    let e = c.in_default-call_and_pool.ensures in
    happened_as c.args.modules.now c.call_and_pool.new.tree c.call_and_pool.new.store d c.args.self.now (Some refusal.NoMemory) (begins false c.args.modules.now v) v
    (begin_passed (map_of c.args.tree.now) (lists c.args.store.now) (next_name c.args.store.now) c.args.self.now v stands.left.seen false c.args.modules.now none)
    (left_same c.args.store.now c.call_and_pool.new.store e.err e.next e.pools c.args.modules.now c.args.tree.now c.call_and_pool.new.tree d c.args.self.now v e.kept e.references stands.left)

pub returns-clause-happened : goal.returns-clause-happened
returns-clause-happened g c d v stands =
    let none = sym c.refusal_to_begin.ensures ∙ never_some c.refusal_to_begin.result c.in_default.not-Some in
    let e = c.in-Ok.ensures in
    let self = c.args.self.now in
    let named : c.in-Ok.name ≡ next_name c.args.store.now = ap (λ (p : ℕ × ℕ). p.0) e.made in
    let pool : c.in-Ok.pool ≡ (map_of c.args.tree.now).next = ap (λ (p : ℕ × ℕ). p.1) e.made in
    happened_as c.args.modules.now c.call_and_pool.new.tree c.call_and_pool.new.store d c.call_first.new.self None (begins true c.args.modules.now v) (begun c.args.modules.now v)
    (begin_passed (map_of c.args.tree.now) (lists c.args.store.now) (next_name c.args.store.now) self v stands.left.seen true c.args.modules.now none)
    (begun_left c.args.modules.now c.args.tree.now c.args.store.now d self v stands c.call_and_pool.new.tree c.call_and_pool.new.store c.call_first.new.self
    (begin_idle self.broken self.busy self.req (map_of c.args.tree.now).next (next_name c.args.store.now) none)
    (subst (λ (n : ℕ). CalledFirst c.args.modules.now n (record self { req = Some (map_of c.args.tree.now).next }) c.call_first.new.self) named
    (subst (λ (p : ℕ). CalledFirst c.args.modules.now c.in-Ok.name (record self { req = Some p }) c.call_first.new.self) pool c.call_first.ensures))
    e.tree e.formed e.rings e.next e.names e.pools e.references)

pub returns-in-Some-clause-leaves : goal.returns-in-Some-clause-leaves
returns-in-Some-clause-leaves g c =
    unmoved (map_of c.args.tree.now) c.args.store.now c.args.self.now c.args.self.now (λ k. refl)

pub returns-in_default-call_and_pool-clause-leaves : goal.returns-in_default-call_and_pool-clause-leaves
returns-in_default-call_and_pool-clause-leaves g c =
    let e = c.in_default-call_and_pool.ensures in
    let next = e.next in
    unchanged (map_of c.args.tree.now) c.args.store.now c.call_and_pool.new.store c.args.self.now c.args.self.now e.err e.pools (rises_by next) e.names (λ k. refl)

pub returns-clause-leaves : goal.returns-clause-leaves
returns-clause-leaves g c =
    let none = sym c.refusal_to_begin.ensures ∙ never_some c.refusal_to_begin.result c.in_default.not-Some in
    let e = c.in-Ok.ensures in
    let self = c.args.self.now in
    let s = c.requires.stands.1.so in
    let named : c.in-Ok.name ≡ next_name c.args.store.now = ap (λ (p : ℕ × ℕ). p.0) e.made in
    let pool : c.in-Ok.pool ≡ (map_of c.args.tree.now).next = ap (λ (p : ℕ × ℕ). p.1) e.made in
    first_leaves c.args.modules.now (map_of c.args.tree.now) c.args.store.now c.call_and_pool.new.store self c.call_first.new.self (Some (map_of c.args.tree.now).next) s.left.stacked
    (begin_idle self.broken self.busy self.req (map_of c.args.tree.now).next (next_name c.args.store.now) none)
    (subst (λ (n : ℕ). CalledFirst c.args.modules.now n (record self { req = Some (map_of c.args.tree.now).next }) c.call_first.new.self) named
    (subst (λ (p : ℕ). CalledFirst c.args.modules.now c.in-Ok.name (record self { req = Some p }) c.call_first.new.self) pool c.call_first.ensures))
    e.rings e.next e.names e.pools
