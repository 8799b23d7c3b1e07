-- By what is left of a new connection.
use Rattle.std.proofs.Common.{◌≡◌, ℕ, ◌+◌, List, None, Option, length, sym, ap, subst, ◌∙◌}
use Rattle.std.specs.Prelude.{slice_get}
use Rattle.std.specs.Global.{Vec}
use Rattle.module_code.specs.Program.{Program}
use Rattle.pool_tree.specs.Tree.{map_of}
use Rattle.pool_tree.proofs.Trees.{tree_formed}
use Rattle.brigade_ops.specs.Store.{next_name}
use Rattle.run_model.specs.Pools.{created}
use Rattle.module_run.specs.declared.conn.Conn.{Conn}
use Rattle.module_run.specs.declared.conn.Filter.{Filter}
use Rattle.module_run.specs.CalledFirst.{CalledFirst}
use Rattle.module_run.specs.Conns.{filter_at}
use Rattle.module_run.specs.Opening.{IsNewConn}
use Rattle.module_run.proofs.Opens.{opened_beside, opened_left}
use Rattle.module_run.proofs.conn.Conn.open.Goals as goal

-- the new connection, by the names that were given out
begun : (chain : List Program) (filters : Vec Filter) (name pool next root : ℕ) (c d : Conn) → ◌≡◌ {A = ℕ × ℕ} (name, pool) (next, root) → IsNewConn filters pool c → CalledFirst chain name c d
    → length filters.items ≡ length chain + 1
    → IsNewConn filters root c × ((length c.filters.items ≡ length chain + 1) × CalledFirst chain next (record c { req = None }) d)
begun chain filters name pool next root c d made is called many = (
  subst (λ (p : ℕ × ℕ). IsNewConn filters p.1 c) made is,
  (
    ap (λ (fs : Vec Filter). length fs.items) is.filters_are ∙ many,
    subst (λ (r : Option ℕ). CalledFirst chain next (record c { req = r }) d) is.req (subst (λ (p : ℕ × ℕ). CalledFirst chain p.0 c d) made called),
  ),
)

pub returns-clause-opened : goal.returns-clause-opened
unfolding filter_at
returns-clause-opened g c d k open_files named given =
    let e = c.in-Ok-call_and_pool.ensures in
    let b = begun c.args.modules.now c.in-Ok.filters c.in-Ok-call_and_pool.name c.in-Ok-call_and_pool.pool (next_name c.args.store.now) (map_of c.args.tree.now).next c.new-conn.result
    c.call_first.new.self e.made c.new-conn.ensures c.call_first.ensures c.in-Ok.ensures.many in
    opened_left c.args.modules.now c.args.tree.now c.args.store.now c.requires.can c.new-conn.result c.requires.some c.in-Ok.filters b.0 b.1.0
    (λ j f at. c.in-Ok.ensures.new j f (ap (λ (fs : Vec Filter). slice_get fs.items j) (sym b.0.filters_are) ∙ at))
    c.call_and_pool.new.tree c.call_and_pool.new.store c.call_first.new.self d k c.root-root.result open_files named given
    (tree_formed c.args.tree.now) b.1.1 e.tree e.formed e.rings e.next e.names e.pools e.references

pub returns-clause-beside : goal.returns-clause-beside
unfolding filter_at
returns-clause-beside g c =
    let e = c.in-Ok-call_and_pool.ensures in
    let b = begun c.args.modules.now c.in-Ok.filters c.in-Ok-call_and_pool.name c.in-Ok-call_and_pool.pool (next_name c.args.store.now) (map_of c.args.tree.now).next c.new-conn.result
    c.call_first.new.self e.made c.new-conn.ensures c.call_first.ensures c.in-Ok.ensures.many in
    opened_beside c.args.modules.now c.args.tree.now c.args.store.now c.requires.can c.new-conn.result c.requires.some c.in-Ok.filters b.0 b.1.0
    (λ j f at. c.in-Ok.ensures.new j f (ap (λ (fs : Vec Filter). slice_get fs.items j) (sym b.0.filters_are) ∙ at))
    c.call_and_pool.new.store c.call_first.new.self b.1.1 e.rings e.next e.names e.pools

pub returns-clause-pools : goal.returns-clause-pools
returns-clause-pools g c root top = c.in-Ok-call_and_pool.ensures.tree ∙ ap (λ (n : ℕ). created n (map_of c.args.tree.now)) (sym (c.root-root.ensures.alone root top))
