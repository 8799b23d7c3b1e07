-- What is given up in the end changes nothing that is seen.
use Rattle.std.proofs.Common.{ℕ, is_some, refl, sym, ap, subst, ◌∙◌, rules}
use Rattle.std.proofs.lemmas.Result.{err_from_is_err_and}
use Rattle.run_model.specs.Pools.{is_in}
use Rattle.pool_tree.specs.Tree.{map_of}
use Rattle.brigade_ops.specs.House.{AreOpen}
use Rattle.brigade_ops.proofs.HouseCalls.{house_still}
use Rattle.module_run.proofs.PoolsListed.{all_listed}
use Rattle.module_run.proofs.Neighbours.{then_same, unmoved}
use Rattle.module_run.proofs.RequestBegins.{conn_live}
use Rattle.module_run.proofs.Unreferred.{same_device}
use Rattle.module_run.proofs.conn.Conn.close.Goals as goal

pub pools_under-requires : goal.pools_under-requires
pools_under-requires g c = (let s = c.requires.stands in conn_live s.0 c.args.tree.now c.args.store.now (g.F.Files.device c.args.files.now) c.args.self.now s.1.linked s.1.so)

pub returns-clause-gone : goal.returns-clause-gone
returns-clause-gone g c n held = c.give_up.ensures.same n ∙ c.in_ok-destroy_all.ensures.gone n held

pub returns-clause-leaves : goal.returns-clause-leaves
returns-clause-leaves g c =
    let e = c.give_up.ensures in
    then_same (map_of c.args.tree.now) c.args.store.now c.destroy_all.new.store c.give_up.new.self c.args.self.now c.destroy_all.new.self c.destroy_all.ensures.leaves e.same e.next e.names e.pools

pub returns-clause-none : goal.returns-clause-none
returns-clause-none g c = c.give_up.ensures.same 0 ∙ c.destroy_all.ensures.none

pub returns-clause-house : goal.returns-clause-house
returns-clause-house g c =
    let e = c.give_up.ensures in
    house_still c.destroy_all.new.store c.give_up.new.self (map_of c.destroy_all.new.tree) e.pools e.references c.destroy_all.ensures.house (λ n. ap is_some (e.same n))

pub returns-clause-references : goal.returns-clause-references
returns-clause-references g c = subst (λ (f : ℕ → ℕ). AreOpen f (g.F.Files.device c.destroy_all.new.files)) (sym c.give_up.ensures.references) c.destroy_all.ensures.references

pub returns-in_err-pools : goal.returns-in_err-pools
returns-in_err-pools g c =
    let p = err_from_is_err_and c.from_residual.result c.from_residual.ensures.1 in
    let o = same_device (g.F.Files.device c.args.files.now) in
    let l = unmoved (map_of c.args.tree.now) c.args.store.now c.args.self.now c.args.self.now (λ k. refl) in
    let s = c.requires.stands.1.so.left in
    rw p.1 (search (rules, o, l, s.none, s.house, s.references))

pub returns-in_err-push : goal.returns-in_err-push
returns-in_err-push g c =
    let p = err_from_is_err_and c.from_residual-in_err-push.result c.from_residual-in_err-push.ensures.1 in
    let o = same_device (g.F.Files.device c.args.files.now) in
    let l = unmoved (map_of c.args.tree.now) c.args.store.now c.args.self.now c.args.self.now (λ k. refl) in
    let s = c.requires.stands.1.so.left in
    rw p.1 (search (rules, o, l, s.none, s.house, s.references))

pub returns-in_err-destroy_all : goal.returns-in_err-destroy_all
returns-in_err-destroy_all g c =
    let p = err_from_is_err_and c.from_residual-in_err-destroy_all.result c.from_residual-in_err-destroy_all.ensures.1 in
    rw p.1 (search rules)

pub returns-clause-freed : goal.returns-clause-freed
returns-clause-freed g c p under =
    let s = c.requires.stands in
    let live = conn_live s.0 c.args.tree.now c.args.store.now (g.F.Files.device c.args.files.now) c.args.self.now s.1.linked s.1.so in
    let found = c.in_ok-pools.pools.items in
    let listed = all_listed c.args.tree.now c.args.self.now.conn found live c.in_ok-pools.ensures p under in
    c.give_up.ensures.freed p (ap (is_in p) (c.as_slice.ensures.value ∙ c.in_ok-push.ensures.items) ∙ listed)
