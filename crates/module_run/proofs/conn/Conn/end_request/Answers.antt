-- By the tests, and by what is left where none refuses.
use Rattle.std.proofs.Common.{◌≡◌, ℕ, true, false, map, Option, Some, None, is_some, refl, sym, ap, subst, ◌∙◌}
use Rattle.bucket_kinds.specs.Device.{Device}
use Rattle.run_model.specs.declared.event.Refusal.TheVariants as refusal
use Rattle.run_model.specs.Turns.{ended, ends, request_over, unless_refused}
use Rattle.pool_tree.specs.Tree.{map_of}
use Rattle.brigade_ops.specs.Store.{lists, next_name}
use Rattle.interp_exec.specs.CarriedOut.{ClosedWith}
use Rattle.module_run.specs.declared.conn.Conn.{Conn}
use Rattle.module_run.specs.Destroyed.{quieted, request_left}
use Rattle.module_run.specs.Happened.{has_lasted}
use Rattle.module_run.specs.Proceeding.{LeftAs}
use Rattle.module_run.proofs.Alongside.{left_relabelled}
use Rattle.module_run.proofs.Refusing.{end_refused, end_passed}
use Rattle.module_run.proofs.RequestBegins.{happened_as, req_is, request_below, request_idle, request_live, request_under}
use Rattle.module_run.proofs.RequestEnds.{request_left_as}
use Rattle.brigade_ops.proofs.Stores.{same_brigade}
use Rattle.module_run.specs.Conns.{filter_at}
use Rattle.module_run.proofs.Neighbours.{rises_by, unchanged, unmoved}
use Rattle.module_run.proofs.NeighboursLeft.{destroyed_leaves}
use Rattle.model_laws.proofs.parts.Paths.{under_trans}
use Rattle.module_run.proofs.Unchanged.{left_same}
use Rattle.module_run.proofs.conn.Conn.end_request.Goals as goal

pub destroy-requires-clause-below : goal.destroy-requires-clause-below
destroy-requires-clause-below g c =
    (let s = c.requires.stands in request_below s.0 c.args.tree.now c.args.store.now (g.F.Files.device c.args.files.now) c.args.self.now s.1.linked s.1.so c.in-Ok.pool c.in-Ok.ensures.pool)

pub destroy-requires-clause-live : goal.destroy-requires-clause-live
destroy-requires-clause-live g c =
    (let s = c.requires.stands in request_live s.0 c.args.tree.now c.args.store.now (g.F.Files.device c.args.files.now) c.args.self.now s.1.linked s.1.so c.in-Ok.pool c.in-Ok.ensures.pool)

pub returns-in-Err-clause-ends : goal.returns-in-Err-clause-ends
returns-in-Err-clause-ends g c chain v stands =
    happened_as chain c.args.tree.now c.args.store.now (g.F.Files.device c.args.files.now) c.args.self.now (Some c.in-Err.why) (ends (has_lasted c.in-Err.why) v) v
    (end_refused (map_of c.args.tree.now) (lists c.args.store.now) (next_name c.args.store.now) c.args.self.now v stands.left.seen (has_lasted c.in-Err.why) c.in-Err.why
    (sym c.in-Err.ensures.refusal))
    stands.left

pub returns-in_default-clause-ends : goal.returns-in_default-clause-ends
returns-in_default-clause-ends g c chain v stands =
    let e = c.in_default.ensures in
    let self = c.args.self.now in
    let d = g.F.Files.device c.args.files.now in
    happened_as chain c.destroy.new.tree c.destroy.new.store (g.F.Files.device c.destroy.new.files) c.destroy.new.self (Some refusal.NoMemory) (ends false v) v
    (end_passed (map_of c.args.tree.now) (lists c.args.store.now) (next_name c.args.store.now) self v stands.left.seen false (sym c.in-Ok.ensures.refusal))
    (subst (λ (x : Device). LeftAs chain c.destroy.new.tree c.destroy.new.store x c.destroy.new.self v) (sym e.unread)
    (subst (λ (x : Conn). LeftAs chain c.destroy.new.tree c.destroy.new.store d x v) (sym e.rest)
    (left_relabelled chain c.destroy.new.tree c.destroy.new.store d self v c.destroy.new.self.labels e.same
    (left_same c.args.store.now c.destroy.new.store e.err e.next e.pools chain c.args.tree.now c.destroy.new.tree d self v e.kept e.uncounted stands.left))))

pub returns-clause-ends : goal.returns-clause-ends
returns-clause-ends g c chain v stands =
    let e = c.in-Ok-destroy.ensures in
    let self = c.args.self.now in
    let d = g.F.Files.device c.args.files.now in
    let after = c.forget_request.new.self in
    let none = sym c.in-Ok.ensures.refusal in
    let more = e.labels in
    let left =
    request_left_as chain c.args.tree.now c.destroy.new.tree c.args.store.now c.destroy.new.store d (g.F.Files.device c.destroy.new.files) self stands.left.stacked
    (request_idle self.broken self.busy self.req none) c.in-Ok.pool e.ok
    after.filters c.destroy.new.self.labels after.files (c.forget_request.ensures.quiet ∙ ap (λ (x : Conn). map quieted x.filters.items) e.rest) v stands.left more c.forget_request.ensures.files in
    let same : after ≡ request_left self after.filters c.destroy.new.self.labels after.files =
    c.forget_request.ensures.rest ∙ ap (λ (x : Conn). request_left x after.filters x.labels after.files) e.rest in
    happened_as chain c.destroy.new.tree c.destroy.new.store (g.F.Files.device c.destroy.new.files) after None (ends true v) (request_over c.in-Ok.pool v)
    (end_passed (map_of c.args.tree.now) (lists c.args.store.now) (next_name c.args.store.now) self v stands.left.seen true none
    ∙ ap (λ (o : Option ℕ). unless_refused None v (ended o v)) (req_is (map_of c.args.tree.now) (lists c.args.store.now) (next_name c.args.store.now) self v stands.left.seen ∙ c.in-Ok.ensures.pool))
    (subst (λ (x : Conn). LeftAs chain c.destroy.new.tree c.destroy.new.store (g.F.Files.device c.destroy.new.files) x (request_over c.in-Ok.pool v)) (sym same) left)

pub returns-clause-closed : goal.returns-clause-closed
returns-clause-closed g c =
    let e = c.in-Ok-destroy.ensures in
    subst (λ (o : Option ℕ). ClosedWith (g.F.Files.device c.args.files.now) (g.F.Files.device c.destroy.new.files) o (map_of c.args.tree.now) (map_of c.destroy.new.tree)) (sym c.in-Ok.ensures.pool)
    (record { closed = e.ok.closed; others = e.others })

pub returns-in-Err-clause-leaves : goal.returns-in-Err-clause-leaves
returns-in-Err-clause-leaves g c =
    unmoved (map_of c.args.tree.now) c.args.store.now c.args.self.now c.args.self.now (λ k. refl)

pub returns-in_default-clause-leaves : goal.returns-in_default-clause-leaves
unfolding filter_at
returns-in_default-clause-leaves g c =
    let e = c.in_default.ensures in
    let next = e.next in
    unchanged (map_of c.args.tree.now) c.args.store.now c.destroy.new.store c.args.self.now c.destroy.new.self e.err e.pools (rises_by next)
    (λ id there young. sym (ap is_some (same_brigade c.args.store.now c.destroy.new.store e.err id)) ∙ there) (λ k. ap (λ (x : Conn). filter_at x k) e.rest)

pub returns-clause-leaves : goal.returns-clause-leaves
unfolding filter_at
returns-clause-leaves g c =
    let e = c.in-Ok-destroy.ensures in
    let self = c.args.self.now in
    let s = c.requires.stands.1.so in
    let tree = c.args.tree.now in
    let next = e.next in
    destroyed_leaves c.requires.stands.0 tree c.destroy.new.tree c.args.store.now c.destroy.new.store (g.F.Files.device c.args.files.now)
    (g.F.Files.device c.destroy.new.files) self c.forget_request.new.self c.in-Ok.pool
    (request_under c.requires.stands.0 tree c.args.store.now (g.F.Files.device c.args.files.now) self c.requires.stands.1.linked s c.in-Ok.pool c.in-Ok.ensures.pool) s.left.formed e.ok
    (c.forget_request.ensures.quiet ∙ ap (λ (x : Conn). map quieted x.filters.items) e.rest)

pub returns-clause-unreferred : goal.returns-clause-unreferred
returns-clause-unreferred g c file none =
    let s = c.requires.stands.1.so in
    let tree = c.args.tree.now in
    let self = c.args.self.now in
    let under = request_under c.requires.stands.0 tree c.args.store.now (g.F.Files.device c.args.files.now) self c.requires.stands.1.linked s c.in-Ok.pool c.in-Ok.ensures.pool in
    c.destroy.ensures.unreferred file (λ p below. none p (under_trans (map_of tree) s.left.formed self.conn c.in-Ok.pool p under below))

pub returns-in_default-clause-unreferred : goal.returns-in_default-clause-unreferred
returns-in_default-clause-unreferred g c file none = ap (λ (d : Device). d.numbered file) c.in_default.ensures.unread
