-- The files of what came in to the output filter are open.
use Rattle.std.proofs.Common.{◌≡◌, ◌≢◌, ℕ, Bool, List, [], ◌∷◌, All, Option, Some, None, length, refl, sym, ap, subst, ◌∙◌}
use Rattle.std.proofs.lemmas.List.Elements.{All-cons, All-head, All-nil, All-tail}
use Rattle.bucket_kinds.specs.Device.{Device}
use Rattle.bucket_kinds.specs.Reading.{IsOpenFor}
use Rattle.bucket_kinds.specs.declared.stored.Stored.{Stored}
use Rattle.bucket_ring.specs.declared.rings.Rings.{Ghosts}
use Rattle.bucket_ring.specs.Lists.{list_at}
use Rattle.module_code.specs.Program.{Program}
use Rattle.module_code.specs.declared.instr.Instr.{Instr}
use Rattle.run_model.specs.declared.bucket.Content.{Content}
use Rattle.run_model.specs.declared.bucket.Content.TheVariants as content
use Rattle.run_model.specs.declared.bucket.Home.{Home}
use Rattle.run_model.specs.declared.bucket.Home.TheVariants as home
use Rattle.run_model.specs.declared.payload.Payload.{Payload}
use Rattle.run_model.specs.Chains.{Frame, Linked}
use Rattle.run_model.specs.State.{items_of}
use Rattle.pool_tree.specs.declared.tree.PoolTree.{PoolTree}
use Rattle.pool_tree.specs.Tree.{map_of}
use Rattle.bucket_store.specs.Items.{Item, Items}
use Rattle.brigade_ops.specs.declared.store.Brigades.{Brigades}
use Rattle.brigade_ops.specs.Store.{lists, next_name}
use Rattle.interp_state.specs.Given.{HasOpenAlive, RangeIsOpen}
use Rattle.interp_state.specs.Seen.{calls_in, home_in, seen, shown}
use Rattle.interp_state.specs.Slots.{live_in, name_in, slot_at}
use Rattle.interp_state.proofs.Changes.{live_is}
use Rattle.interp_state.proofs.Items.{items_dead, items_live}
use Rattle.module_run.specs.declared.conn.Conn.{Conn}
use Rattle.module_run.specs.declared.conn.Filter.{Filter}
use Rattle.module_run.specs.Conns.{filter_at, top_of}
use Rattle.module_run.specs.Proceeding.{IsReady}
use Rattle.module_run.specs.Stacked.{AreWhole, IsWhole, named_at}
use Rattle.module_run.proofs.AtWork as work
use Rattle.module_run.proofs.Tops.{view_of}

pool_alive : (h : Home) (p : ℕ) → h ≡ home.Pool p → h ≢ home.Ended
pool_alive h p is ended = (let e : home.Pool p ≡ home.Ended = sym is ∙ ended in cc)

item_open : (d : Device) (runs : ℕ → Bool) (y : Item) → IsWhole y.1 → (home_in runs y.0.birth y.1.home ≢ home.Ended → IsOpenFor d y.1.content) → IsOpenFor d y.1.content
item_open d runs y whole alive = go y.1.content refl where
  go : (k : Content) → y.1.content ≡ k → IsOpenFor d k
  go (content.Bytes bs) e = tt
  go content.Nothing e = tt
  go (content.Range file start len) e =
      let at = whole file start len e in
      subst (IsOpenFor d) e (alive (pool_alive (home_in runs y.0.birth y.1.home) at.0 (ap (home_in runs y.0.birth) at.1)))

pub items_open : (d : Device) (runs : ℕ → Bool) (xs : Items) → AreWhole xs → All (HasOpenAlive d) (shown runs xs) → All (RangeIsOpen d) (shown runs xs)
items_open d runs [] whole alive = All-nil (RangeIsOpen d)
items_open d runs (y ∷ ys) whole alive =
    All-cons (RangeIsOpen d) _ (shown runs ys)
    (item_open d runs y (All-head (λ (x : Item). IsWhole x.1) y ys whole) (All-head (HasOpenAlive d) _ (shown runs ys) alive))
    (items_open d runs ys (All-tail (λ (x : Item). IsWhole x.1) y ys whole) (All-tail (HasOpenAlive d) _ (shown runs ys) alive))

module _ {R : Type 0} {g : Ghosts R Stored} (chain : List Program) (i : Instr) (tree : PoolTree Payload) (store : Brigades R g) (d : Device) (c : Conn) (v : Linked) (f : Frame) (rest : List Frame)
    (ready : IsReady chain i tree store d c v f rest) (x : Filter) (here : filter_at c (top_of c) ≡ Some x) where
  pub whole_open : top_of c ≡ length chain → All (RangeIsOpen d) (items_of ((seen store (view_of (map_of tree) c v) x.instance x.call).instance.brigades 8))
  whole_open last = go (live_in (lists store) (slot_at x.instance 8)) refl where
    alive : All (HasOpenAlive d) (items_of ((seen store (view_of (map_of tree) c v) x.instance x.call).instance.brigades 8))
    alive = (work.open_in chain i tree store d c v f rest ready x here (view_of (map_of tree) c v).labels (view_of (map_of tree) c v).files (view_of (map_of tree) c v).out (view_of (map_of tree) c v).waits refl).brigades 8

    go : (o : Option ℕ) → live_in (lists store) (slot_at x.instance 8) ≡ o → All (RangeIsOpen d) (items_of ((seen store (view_of (map_of tree) c v) x.instance x.call).instance.brigades 8))
    go None none =
        subst (All (RangeIsOpen d)) (sym (items_dead (lists store) (next_name store) (view_of (map_of tree) c v) x.instance x.call 8 none)) (All-nil (RangeIsOpen d))
    go (Some n) is =
        let items = items_live (lists store) (next_name store) (view_of (map_of tree) c v) x.instance x.call 8 n is in
        let named : named_at x 8 ≡ Some n = ap name_in (live_is (lists store) (slot_at x.instance 8) n is).1.1.0 in
        subst (All (RangeIsOpen d)) (sym items)
        (items_open d (calls_in (view_of (map_of tree) c v) x.call) (list_at (lists store) n) (ready.stands.left.stacked.whole last n x here named) (subst (All (HasOpenAlive d)) items alive))
