-- The new brigade has the next name.
use Rattle.std.proofs.Common.{◌==◌, ℕ, [], Some, sym, ap, subst, ◌∙◌}
use Rattle.std.specs.Prelude.{if◌then◌else◌}
use Rattle.std.proofs.Math.Path.{fun_ext}
use Rattle.bucket_ring.specs.Lists as ring
use Rattle.run_model.specs.declared.bucket.Mark.TheVariants.{Usable}
use Rattle.run_model.specs.declared.payload.Payload.TheVariants as payload
use Rattle.run_model.specs.Pools.{registered}
use Rattle.pool_tree.specs.Tree.{map_of}
use Rattle.brigade_ops.specs.Store.{lists, brigade_of, pool_of, next_name}
use Rattle.interp_state.specs.declared.machine.Slot.TheVariants as slot
use Rattle.interp_state.specs.Held.{HeldOver}
use Rattle.interp_state.specs.Slots.{slot_at}
use Rattle.interp_exec.proofs.CarriedOut.{names_made, names_same}
use Rattle.interp_exec.proofs.Makes.{held_same}
use Rattle.interp_state.proofs.LeftAlone.{rest_made, rest_same}
use Rattle.interp_state.proofs.Names.{no_less}
use Rattle.interp_exec.proofs.NewBrigades.{created_step, created_held}
use Rattle.interp_exec.proofs.Trees.{seen_kept}
use Rattle.interp_exec.proofs.creates.create.Goals as goal

pub returns-in_default : goal.returns-in_default
returns-in_default g c =
    let s = c.args.store.now in
    let new = c.create.new.self in
    let i = c.args.instance.now in
    let e = c.in_default.ensures in
    record {
      ok = tt;
      house = e.house;
      references = e.references;
      tree_unasked = e.tree_unasked;
      slots = names_same (next_name s) (next_name new) i;
      err = λ view call. seen_kept (lists s) (lists new) (next_name s) (next_name new) (map_of c.args.tree.now) (map_of c.create.new.tree) view i call e.next e.kept e.err;
      held = λ call. held_same s new e.next e.names (fun_ext e.off) e.err i call;
      left = λ call. rest_same s new (no_less _ _ e.next) e.names e.off e.unasked e.err i call;
    }

pub returns-clause-house : goal.returns-clause-house
returns-clause-house g c = c.in-Ok.ensures.house

pub returns-clause-ok : goal.returns-clause-ok
returns-clause-ok g c =
    λ code view call held named.
    let k = next_name c.args.store.now in
    let L = lists c.args.store.now in
    let i = c.args.instance.now in
    let born = c.in-Ok.ensures.name in
    created_step L (lists c.create.new.self) k i c.set_slot.new.self c.args.o c.args.pool
    (λ n. c.in-Ok.ensures.ok n ∙ ap (λ (j : ℕ). ring.upd L j (Some []) n) born)
    (λ a. c.set_slot.ensures.slots a ∙ ap (λ (j : ℕ). if a == c.args.o then slot.Made j (Some c.args.pool) Usable else slot_at i a) born)
    (map_of c.args.tree.now) (map_of c.create.new.tree) view call code (next_name c.create.new.self) held.named held.called c.set_slot.ensures.rest c.in-Ok.ensures.next
    (c.in-Ok.ensures.registered ∙ ap (λ (j : ℕ). registered c.args.pool (payload.Brigade j) (map_of c.args.tree.now)) born) named

pub returns-clause-held : goal.returns-clause-held
returns-clause-held g c =
    λ call held.
    let k = next_name c.args.store.now in
    let L = lists c.args.store.now in
    let P = pool_of c.args.store.now in
    let i = c.args.instance.now in
    let born = c.in-Ok.ensures.name in
    let now = created_held L (lists c.create.new.self) k i c.set_slot.new.self c.args.o c.args.pool
    (λ n. c.in-Ok.ensures.ok n ∙ ap (λ (j : ℕ). ring.upd L j (Some []) n) born)
    (λ a. c.set_slot.ensures.slots a ∙ ap (λ (j : ℕ). if a == c.args.o then slot.Made j (Some c.args.pool) Usable else slot_at i a) born)
    (brigade_of c.args.store.now) (brigade_of c.create.new.self) P (pool_of c.create.new.self) call c.requires.slot
    (λ n. c.in-Ok.ensures.on n ∙ ap (λ (j : ℕ). ring.upd P j (Some c.args.pool) n) born) c.in-Ok.ensures.names held in
    subst (λ (n : ℕ). HeldOver (brigade_of c.create.new.self) (lists c.create.new.self) (pool_of c.create.new.self) n c.set_slot.new.self call) (sym c.in-Ok.ensures.next) now

pub returns-clause-left : goal.returns-clause-left
returns-clause-left g c =
    λ call.
    rest_made c.args.store.now c.create.new.self c.in-Ok.ensures.names c.create.ensures.unasked c.in-Ok.name c.args.pool c.in-Ok.ensures.name c.in-Ok.ensures.next c.in-Ok.ensures.ok
    c.in-Ok.ensures.on c.args.instance.now call

pub returns-clause-slots : goal.returns-clause-slots
returns-clause-slots g c =
    names_made (next_name c.args.store.now)
    (next_name c.create.new.self) c.in-Ok.name c.args.o c.args.pool c.args.instance.now c.set_slot.new.self c.in-Ok.ensures.name c.in-Ok.ensures.next c.requires.slot c.set_slot.ensures.slots
