use Rattle.std.proofs.Common.{◌≡◌, ◌==◌, ℕ, true, cond, Option, Some, is_some, refl, sym, ap, subst, ◌∙◌, arith}
use Rattle.std.proofs.lemmas.Bool.{eq-eqb}
use Rattle.run_model.specs.declared.payload.Payload.{Payload}
use Rattle.run_model.specs.declared.payload.Payload.TheVariants.{Brigade}
use Rattle.run_model.specs.Payloads.{payload_eq}
use Rattle.run_model.specs.Pools.{Pools, is_live, registered}
use Rattle.run_model.specs.RunOrder.{killed}
use Rattle.pool_tree.specs.Tree.{map_of}
use Rattle.pool_tree.proofs.Trees.{tree_formed}
use Rattle.bucket_ring.specs.Lists.{upd}
use Rattle.brigade_ops.specs.House.{AreHoused}
use Rattle.name_table.specs.NameTable.{value_in}
use Rattle.brigade_ops.specs.Store.{lists, brigade_of, pool_of, next_name, references}
use Rattle.brigade_ops.proofs.Housed.{house_stays, house_made}
use Rattle.brigade_ops.proofs.Stores.{brigades}
use Rattle.brigade_ops.proofs.Undone.{killed_again, live_registered}
use Rattle.bucket_store.specs.BucketStore.{seen}
use Rattle.brigade_ops.proofs.store.Brigades.create.Goals as goal

pub kill-killed-requires : goal.kill-killed-requires
kill-killed-requires g c =
    subst (λ (ps : Pools Payload). is_live ps c.args.pool ≡ true) (sym c.in-Ok.ensures.ok)
    (live_registered (map_of c.args.tree.now) c.args.pool c.args.pool (Brigade c.next_name-name.result) c.requires)

pub returns-in-Err-clause-kept : goal.returns-in-Err-clause-kept
returns-in-Err-clause-kept g c =
    let n = c.next_name-name.result in
    let test : Payload → _ = λ other. payload_eq other (Brigade n) in
    c.kill-killed.ensures.rest
    ∙ (ap (killed c.args.pool test) c.in-Ok.ensures.ok ∙ killed_again (map_of c.args.tree.now) c.args.pool test (Brigade n) (eq-eqb n n refl))

pub returns-in-Ok-new_ring-clause-registered : goal.returns-in-Ok-new_ring-clause-registered
unfolding next_name
returns-in-Ok-new_ring-clause-registered g c =
    c.in-Ok.ensures.ok ∙ ap (λ (n : ℕ). registered c.args.pool (Brigade n) (map_of c.args.tree.now)) (c.next_name-name.ensures ∙ sym c.in-Ok-new_ring.ensures.name)

pub returns-in-Ok-new_ring-clause-names : goal.returns-in-Ok-new_ring-clause-names
unfolding brigade_of next_name
returns-in-Ok-new_ring-clause-names g c = c.new_ring.ensures.names

pub returns-in-Ok-new_ring-clause-spent : goal.returns-in-Ok-new_ring-clause-spent
unfolding next_name
returns-in-Ok-new_ring-clause-spent g c = c.in-Ok-new_ring.ensures.spent

pub returns-in-Err-clause-names : goal.returns-in-Err-clause-names
unfolding brigade_of next_name
returns-in-Err-clause-names g c = c.new_ring.ensures.names

pub returns-in-Err-clause-spent : goal.returns-in-Err-clause-spent
unfolding next_name
returns-in-Err-clause-spent g c = c.in-Err.ensures.spent

pub returns-in-Ok-new_ring-clause-house : goal.returns-in-Ok-new_ring-clause-house
unfolding lists pool_of next_name references upd
returns-in-Ok-new_ring-clause-house g c house =
    let store = c.args.self.now in
    let b = c.in-Ok-new_ring.b in
    let pool = c.args.pool in
    let ps = map_of c.args.tree.now in
    let name : b ≡ next_name store = c.in-Ok-new_ring.ensures.name in
    let same : c.next_name-name.result ≡ b = c.next_name-name.ensures ∙ sym name in
    subst (AreHoused (seen c.new_ring.new.self) (value_in c.put.new.self) (references store)) (sym (c.in-Ok.ensures.ok ∙ ap (λ (n : ℕ). registered pool (Brigade n) ps) same))
    (house_made (lists store) (pool_of store) (references store) ps house (seen c.new_ring.new.self) (value_in c.put.new.self) (references store) pool b (tree_formed c.args.tree.now) c.requires
    (λ there. let young = brigades store b there in absurd (omega (arith, young, name)))
    c.in-Ok-new_ring.ensures.ok
    (λ n. c.put.ensures.values n ∙ ap (λ (o : Option ℕ). cond (n == b) (Some pool) o) (c.in_ok-reserve.ensures.values n))
    (λ f. refl))

pub returns-in-Err-clause-house : goal.returns-in-Err-clause-house
unfolding lists pool_of references
returns-in-Err-clause-house g c house =
    let store = c.args.self.now in
    subst (AreHoused (seen c.new_ring.new.self) (value_in c.reserve.new.self) (references store)) (sym (returns-in-Err-clause-kept g c))
    (house_stays (lists store) (pool_of store) (references store) (map_of c.args.tree.now) house (seen c.new_ring.new.self) (value_in c.reserve.new.self) (references store)
    (λ n p at some. ap is_some (c.in-Err.ensures.err n) ∙ some)
    c.in_ok-reserve.ensures.values
    (λ f. refl))
