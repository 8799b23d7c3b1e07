-- Where the lists of a store are as they were, a connection over it stands for the same.
use Rattle.std.proofs.Common.{[], ◌≡◌, ℕ, Option, List, is_some, sym, ap, subst, ◌∙◌, arith}
use Rattle.std.specs.Option.{option_map_or}
use Rattle.std.proofs.Math.Path.{fun_ext}
use Rattle.bucket_ring.specs.declared.rings.Rings.{Ghosts}
use Rattle.bucket_ring.specs.Kept.{NoneRevived, once_in}
use Rattle.bucket_kinds.specs.Device.{Device}
use Rattle.module_code.specs.Program.{Program}
use Rattle.run_model.specs.declared.payload.Payload.{Payload}
use Rattle.run_model.specs.Chains.{Linked}
use Rattle.pool_tree.specs.declared.tree.PoolTree.{PoolTree}
use Rattle.pool_tree.specs.Tree.{map_of}
use Rattle.bucket_kinds.specs.declared.stored.Stored.{Stored}
use Rattle.brigade_ops.specs.declared.store.Brigades.{Brigades}
use Rattle.brigade_ops.specs.House.{AreOpen, IsHouse}
use Rattle.bucket_store.specs.Items.{Items}
use Rattle.brigade_ops.specs.Store.{lists, brigade_of, pool_of, references, next_name}
use Rattle.module_run.specs.declared.conn.Conn.{Conn}
use Rattle.module_run.specs.Conns.{conn_of}
use Rattle.module_run.specs.Proceeding.{LeftAs}
use Rattle.module_run.specs.Stacked.{AreWhole, IsStacked}
use Rattle.module_run.proofs.HeldStays.{held_stays}

module _ {R : Type 0} {g : Ghosts R Stored} (chain : List Program) (tree : PoolTree Payload) (store new : Brigades R g) (device : Device) (c : Conn) (v : Linked)
    (out : (n : ℕ) → lists new n ≡ lists store n)
    (next : next_name new ≡ next_name store) (pools : pool_of new ≡ pool_of store) (refs : references new ≡ references store)
    (names : NoneRevived (brigade_of store) (brigade_of new) (next_name store)) where
  house : IsHouse store (map_of tree) → IsHouse new (map_of tree)
  house old = record {
    held = λ name p. old.held name p ∙ ap (λ (q : ℕ → Option ℕ). once_in p (q name)) (sym pools);
    there = λ name p is. ap is_some (out name) ∙ old.there name p (ap (λ (q : ℕ → Option ℕ). q name) (sym pools) ∙ is);
    referred = λ file. ap (λ (r : ℕ → ℕ). r file) refs ∙ old.referred file;
  }

  stacked : IsStacked chain store c → IsStacked chain new c
  stacked old = record {
    many = old.many;
    within = old.within;
    queue = old.queue;
    held = λ k f is. held_stays (brigade_of store) (brigade_of new) (lists store) (lists new) (pool_of store) (pool_of new) (next_name store) (next_name new) f.instance f.call
        (omega (arith, next)) pools names
        (λ b n named. out n) (λ pos. out f.call.name) (old.held k f is);
    apart = old.apart;
    called = old.called;
    brought = λ m f is named. let b = old.brought m f is named in (ap (λ (q : ℕ → Option ℕ). q m) pools ∙ b.0, ap is_some (out m) ∙ b.1);
    whole = λ last m f is named. subst (λ (o : Option Items). AreWhole (option_map_or (λ bs. bs) o [])) (sym (out m)) (old.whole last m f is named);
  }

  pub left_same : LeftAs chain tree store device c v → LeftAs chain tree new device c v
  left_same old = record {
    seen = record { pools = old.seen.pools; given = old.seen.given ∙ sym next; conn = old.seen.conn ∙ ap (λ (L : ℕ → Option Items). conn_of (map_of tree) L v.1.opened c) (sym (fun_ext out)) };
    opens = old.opens;
    formed = old.formed;
    house = house old.house;
    references = subst (λ (r : ℕ → ℕ). AreOpen r device) (sym refs) old.references;
    none = out 0 ∙ old.none;
    stacked = stacked old.stacked;
  }
