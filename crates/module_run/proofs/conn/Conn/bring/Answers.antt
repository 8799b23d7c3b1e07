-- By the tests, and by what is left where none refuses.
use Rattle.std.proofs.Common.{◌≡◌, ◌≤◌, ℕ, ◌+◌, true, false, List, Option, Some, None, refl, sym, ap, subst, ◌∙◌, arith}
use Rattle.run_model.specs.declared.event.Piece.{Piece}
use Rattle.run_model.specs.declared.event.Refusal.TheVariants as refusal
use Rattle.run_model.specs.Refusals.{first_refusal}
use Rattle.run_model.specs.Turns.{brings, brought, brought_in, unless_refused}
use Rattle.run_model.specs.State.{Instance}
use Rattle.pool_tree.specs.Tree.{map_of}
use Rattle.bucket_kinds.specs.declared.stored.Stored.{Stored}
use Rattle.bucket_ring.specs.declared.rings.Rings.{Ghosts}
use Rattle.brigade_ops.specs.declared.store.Brigades.{Brigades}
use Rattle.module_run.specs.declared.conn.Conn.{Conn}
use Rattle.brigade_ops.specs.Store.{lists, next_name}
use Rattle.module_run.specs.CalledMain.{CalledMain}
use Rattle.module_run.specs.Conns.{filter_at, lengths, place_in, runs_of, shown_filter}
use Rattle.module_run.specs.Happened.{has_lasted}
use Rattle.module_run.specs.Refused.{bring_tests}
use Rattle.module_run.proofs.CallsLeave.{main_leaves}
use Rattle.module_run.proofs.Tops.{filter_within}
use Rattle.model_laws.proofs.chains.Modules.{first_in_places}
use Rattle.module_run.proofs.Neighbours.{rises_by, unchanged, unmoved}
use Rattle.module_run.proofs.MainStacked.{has_brought, left_brought}
use Rattle.module_run.proofs.Refusing.{bring_refused, bring_passed}
use Rattle.module_run.proofs.RequestBegins.{bring_idle, happened_as, req_is}
use Rattle.module_run.proofs.Unchanged.{later_off_pools, left_same}
use Rattle.module_run.proofs.conn.Conn.bring.Goals as goal

-- the filters as they were
abbrev shown_before : {R : Type 0} {g : Ghosts R Stored} → Brigades R g → Conn → ℕ → Instance
shown_before store c k = shown_filter (runs_of c) (lists store) (filter_at c k)

pub returns-in-Err-clause-happened : goal.returns-in-Err-clause-happened
returns-in-Err-clause-happened g c tree d v stands =
    let self = c.args.self.now in
    happened_as c.args.modules.now tree c.args.store.now d self (Some c.in-Err.why) (brings (has_lasted c.in-Err.why) c.args.modules.now c.args.pieces v) v
    (bring_refused (map_of tree) (lists c.args.store.now) (next_name c.args.store.now) self v stands.left.seen (has_lasted c.in-Err.why) c.args.modules.now c.args.pieces c.in-Err.why
    (ap (λ (ps : List Piece). first_refusal (bring_tests self.broken self.busy self.req (lengths self.files.items) (next_name c.args.store.now) ps)) (sym c.as_slice.ensures)
    ∙ sym c.in-Err.ensures.refusal))
    stands.left

pub returns-in_default-clause-happened : goal.returns-in_default-clause-happened
returns-in_default-clause-happened g c tree d v stands =
    let self = c.args.self.now in
    let e = c.in_default.ensures in
    let none = ap (λ (ps : List Piece). first_refusal (bring_tests self.broken self.busy self.req (lengths self.files.items) (next_name c.args.store.now) ps)) (sym c.as_slice.ensures)
    ∙ sym c.in-Ok.ensures.refusal in
    happened_as c.args.modules.now tree c.call_and_brigade.new.store d self (Some refusal.NoMemory) (brings false c.args.modules.now c.args.pieces v) v
    (bring_passed (map_of tree) (lists c.args.store.now) (next_name c.args.store.now) self v stands.left.seen false c.args.modules.now c.args.pieces none)
    (left_same c.args.store.now c.call_and_brigade.new.store e.err e.next e.pools c.args.modules.now tree tree d self v refl e.references stands.left)

pub returns-clause-happened : goal.returns-clause-happened
returns-clause-happened g c tree d v stands =
    let self = c.args.self.now in
    let old = c.args.store.now in
    let new = c.call_and_brigade.new.store in
    let e = c.in-Ok-call_and_brigade.ensures in
    let made = c.in-Ok-call_and_brigade in
    let none = ap (λ (ps : List Piece). first_refusal (bring_tests self.broken self.busy self.req (lengths self.files.items) (next_name old) ps)) (sym c.as_slice.ensures)
    ∙ sym c.in-Ok.ensures.refusal in
    let named : made.name ≡ next_name old = ap (λ (p : ℕ × ℕ). p.0) e.made in
    let brigade : made.brigade ≡ next_name old + 1 = ap (λ (p : ℕ × ℕ). p.1) e.made in
    let later : next_name old + 2 ≤ next_name new = (let n = e.next in omega (arith, n)) in
    let to = place_in c.args.modules.now (lists old) self 0 in
    happened_as c.args.modules.now tree new d c.call_main.new.self None (brings true c.args.modules.now c.args.pieces v) (brought_in c.args.modules.now c.args.pieces c.in-Ok.pool v)
    (bring_passed (map_of tree) (lists old) (next_name old) self v stands.left.seen true c.args.modules.now c.args.pieces none
    ∙ ap (λ (o : Option ℕ). unless_refused None v (brought c.args.modules.now c.args.pieces o v)) (req_is (map_of tree) (lists old) (next_name old) self v stands.left.seen ∙ c.in-Ok.ensures.pool))
    (left_brought c.args.modules.now old new self c.call_main.new.self to (first_in_places c.args.modules.now (shown_before old self)) c.in-Ok.pool c.args.pieces stands.left.stacked
    (bring_idle self.broken self.busy self.req (lengths self.files.items) (next_name old) c.args.pieces none)
    (subst (λ (n : ℕ). CalledMain c.args.modules.now to n (next_name old + 1) self c.call_main.new.self) named
    (subst (λ (b : ℕ). CalledMain c.args.modules.now to made.name b self c.call_main.new.self) brigade (c.call_main.ensures (lists old))))
    (has_brought old new c.in-Ok.pool c.args.pieces e.rings.0 e.rings.1.0 e.rings.1.1) later e.names e.pools (later_off_pools old (map_of tree) stands.left.house)
    refl tree d v.0 v.1 stands.left e.references e.next e.rings.1.1)

pub returns-in-Err-clause-leaves : goal.returns-in-Err-clause-leaves
returns-in-Err-clause-leaves g c ps = unmoved ps c.args.store.now c.args.self.now c.args.self.now (λ k. refl)

pub returns-in_default-clause-leaves : goal.returns-in_default-clause-leaves
returns-in_default-clause-leaves g c ps =
    let e = c.in_default.ensures in
    let next = e.next in
    unchanged ps c.args.store.now c.call_and_brigade.new.store c.args.self.now c.args.self.now e.err e.pools (rises_by next) e.names (λ k. refl)

pub returns-clause-leaves : goal.returns-clause-leaves
returns-clause-leaves g c ps =
    let self = c.args.self.now in
    let chain = c.args.modules.now in
    let old = c.args.store.now in
    let new = c.call_and_brigade.new.store in
    let s = c.requires.stands in
    let e = c.in-Ok-call_and_brigade.ensures in
    let made = c.in-Ok-call_and_brigade in
    let none = ap (λ (ps : List Piece). first_refusal (bring_tests self.broken self.busy self.req (lengths self.files.items) (next_name old) ps)) (sym c.as_slice.ensures)
    ∙ sym c.in-Ok.ensures.refusal in
    let named : made.name ≡ next_name old = ap (λ (p : ℕ × ℕ). p.0) e.made in
    let brigade : made.brigade ≡ next_name old + 1 = ap (λ (p : ℕ × ℕ). p.1) e.made in
    let to = place_in chain (lists old) self 0 in
    let many = s.1.1.so.left.stacked.many in
    let inside = first_in_places chain (shown_before old self) in
    let first = filter_within self to (omega (arith, many, inside)) in
    main_leaves chain ps old new self c.call_main.new.self to first.0 first.1
    (subst (λ (n : ℕ). CalledMain chain to n (next_name old + 1) self c.call_main.new.self) named
    (subst (λ (b : ℕ). CalledMain chain to made.name b self c.call_main.new.self) brigade (c.call_main.ensures (lists old))))
    (has_brought old new c.in-Ok.pool c.args.pieces e.rings.0 e.rings.1.0 e.rings.1.1).before (let n = e.next in omega (arith, n)) e.names e.pools
