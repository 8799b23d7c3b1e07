-- What a host stands for after an event of one connection: the others are as they were.
use Rattle.std.proofs.Common.{◌≡◌, ◌≢◌, ◌⊎◌, ℕ, ◌<◌, ◌≤◌, true, List, Option, Some, None, is_some, cond, inl, inr, refl, sym, ◌∙◌, ap, subst, arith}
use Rattle.std.specs.HashMap.{get}
use Rattle.std.specs.Prelude.{nat_eq}
use Rattle.std.proofs.Math.Path.{fun_ext}
use Rattle.std.proofs.lemmas.Bool.Decides.{nat_tests}
use Rattle.module_code.specs.Program.{Program}
use Rattle.bucket_kinds.specs.Device.{Device, Held}
use Rattle.bucket_ring.specs.declared.rings.Rings.{Ghosts}
use Rattle.run_model.specs.declared.payload.Payload.{Payload}
use Rattle.run_model.specs.Chains.{Connection, Linked, pools_of}
use Rattle.run_model.specs.Indexed.{upd}
use Rattle.run_model.specs.Pools.{Pools}
use Rattle.run_model.specs.Worlds.{World, put_conn}
use Rattle.model_laws.specs.PartSteps.{linked_in_part}
use Rattle.model_laws.specs.Reached.{IsReached}
use Rattle.model_laws.specs.SharedPools.{over}
use Rattle.run_model.proofs.Updates.{upd_either}
use Rattle.model_laws.proofs.chains.EventTurns.{EventTurn}
use Rattle.model_laws.proofs.chains.LeftTree.{left_tree}
use Rattle.model_laws.proofs.chains.WorldKept.{AnyLength}
use Rattle.pool_tree.specs.declared.tree.PoolTree.{PoolTree}
use Rattle.pool_tree.specs.Tree.{map_of}
use Rattle.bucket_kinds.specs.declared.stored.Stored.{Stored}
use Rattle.brigade_ops.specs.declared.store.Brigades.{Brigades}
use Rattle.brigade_ops.specs.House.{IsHouse}
use Rattle.bucket_store.specs.Items.{Items}
use Rattle.brigade_ops.specs.Store.{lists, pool_of}
use Rattle.module_run.specs.declared.conn.Conn.{Conn}
use Rattle.module_run.specs.Conns.{conn_of}
use Rattle.module_run.specs.Neighbours.{HoldsName, IsForeign, LeavesOthers}
use Rattle.module_run.specs.Proceeding.{HasOpen, LeftAs, MayHold}
use Rattle.module_run.proofs.Neighbours.{shows_same, stacked_same}
use Rattle.filter_chain.specs.declared.conns.Conns.{Conns}
use Rattle.filter_chain.specs.Hosted.{conn_at, IsHosted}
use Rattle.filter_chain.specs.Hosting.{HoldsWorld, IsHostedIf}
use Rattle.filter_chain.specs.Spared.{Spares}
use Rattle.filter_chain.proofs.Hosts.{laws, known, found, held_given, hosted_if, foreign}

-- no brigade of the name 0 is on a pool
pub none_off : {R : Type 0} {g : Ghosts R Stored} (store : Brigades R g) (ps : Pools Payload) → IsHouse store ps → lists store 0 ≡ None → pool_of store 0 ≡ None
none_off store ps house none = by_pool (pool_of store 0) refl where
  by_pool : (o : Option ℕ) → pool_of store 0 ≡ o → pool_of store 0 ≡ None
  by_pool None is = is
  by_pool (Some p) is = absurd (let there = house.there 0 p is in let gone = ap is_some none in cc)

-- these pools do not show in what else a connection shows
pub over_shown : (ps qs : Pools Payload) (rings : ℕ → Option Items) (opened : ℕ → Option (List ℕ)) (conn : Conn) (c : Connection) → over ps c ≡ conn_of ps rings opened conn
    → over qs c ≡ conn_of qs rings opened conn
unfolding conn_of
over_shown ps qs rings opened conn c seen = ap (over qs) seen

module _ {R : Type 0} {g : Ghosts R Stored} {budget : ℕ} {chain : List Program} {d : Device} {tree : PoolTree Payload} {store : Brigades R g} {last : ℕ} {conns : ℕ → Option Conn} {w : World}
    (h : HoldsWorld budget chain d tree store last conns w) where
  -- What the device has of the files of others.
  module _ (number : ℕ) (c : Connection) (here : w.conns number ≡ Some c) (e : Device) (spared : Spares d e c) where
    not_open : (k file : ℕ) (b : Connection) → k ≢ number → w.conns k ≡ Some b → is_some (b.opened file) ≡ true → c.opened file ≡ None
    not_open k file b other there opened = by_open (c.opened file) refl where
      by_open : (o : Option (List ℕ)) → c.opened file ≡ o → c.opened file ≡ None
      by_open None none = none
      by_open (Some bytes) is = absurd (other ((laws h).apart.own k number file b c there here opened (ap is_some is)))

    pub opens_still : (k : ℕ) (b : Connection) → k ≢ number → w.conns k ≡ Some b → HasOpen d b → HasOpen e b
    opens_still k b other there opens file bytes is =
        let some : is_some (b.opened file) ≡ true = ap is_some is in
        let given = (laws h).apart.given k file b there some in
        let old : file < d.next = (let le = h.files in omega (arith, given)) in
        subst (λ (held : Held). MayHold held bytes) (sym (spared.others file old (not_open k file b other there some))) (opens file bytes is)

  -- The connection conn0 became conn, over another tree and store, and left the others, which hold what is foreign to it.
  module _ (number : ℕ) (conn0 conn : Conn) (ps : Pools Payload) (away : (k : ℕ) (x : Conn) → k ≢ number → conns k ≡ Some x → (n : ℕ) → 0 < n → HoldsName x n → IsForeign ps store conn0 n)
      (newer : PoolTree Payload) (new : Brigades R g) (left : LeavesOthers ps store new conn0 conn) (house : IsHouse new (map_of newer)) (none : lists new 0 ≡ None) (e : Device)
      (opens : (k : ℕ) (b : Connection) → k ≢ number → w.conns k ≡ Some b → HasOpen d b → HasOpen e b) where
    hosted_still : (k : ℕ) (x : Conn) (b : Connection) → k ≢ number → conns k ≡ Some x → w.conns k ≡ Some b → IsHosted chain tree store d x b → IsHosted chain newer new e x b
    hosted_still k x b other there seen is =
        let off = none_off store (map_of tree) h.house h.none in
        let off_now = none_off new (map_of newer) house none in
        record {
          seen = over_shown (map_of tree) (map_of newer) (lists store) b.opened x b is.seen
              ∙ sym (shows_same chain ps store new conn0 conn x left is.stacked (away k x other there) h.none none off off_now (map_of newer) b.opened);
          opens = opens k b other seen is.opens;
          stacked = stacked_same chain ps store new conn0 conn x left is.stacked (away k x other there) h.none none off off_now;
        }

    pub others_still : (k : ℕ) → k ≢ number → IsHostedIf chain newer new e (conns k) (w.conns k)
    others_still k other = hosted_if (conns k) (w.conns k) (λ x c at there is. hosted_still k x c other at there is) (h.conns k)

    -- No brigade is held by two.
    new_apart : (k n : ℕ) (x : Conn) → k ≢ number → conns k ≡ Some x → 0 < n → HoldsName x n → HoldsName conn n → ⊥
    new_apart k n x other there pos theirs mine = elim (left.holds n pos mine) [
      | inl before ↦ (away k x other there n pos theirs).unheld before
      | inr fresh ↦ (let given = held_given h x (found h k x there).2.stacked n theirs in omega (arith, given, fresh))
    ]

    pub apart_then : (after : ℕ → Option Conn) → ((k : ℕ) → after k ≡ upd conns number (Some conn) k) → (j k n : ℕ) (a b : Conn) → after j ≡ Some a → after k ≡ Some b → j ≢ k → 0 < n → HoldsName a n
        → HoldsName b n → ⊥
    apart_then after is j k n a b at_j at_k differ pos held_a held_b = elim (upd_either conns number j (Some conn)) [
      | inl here ↦ (elim (upd_either conns number k (Some conn)) [
        | inl too ↦ differ (here.0 ∙ sym too.0)
        | inr off ↦ new_apart k n b off.0 (sym off.1 ∙ sym (is k) ∙ at_k) pos held_b (subst (λ (x : Conn). HoldsName x n) (same a (sym here.1 ∙ sym (is j) ∙ at_j)) held_a)
      ])
      | inr away ↦ (elim (upd_either conns number k (Some conn)) [
        | inl too ↦ new_apart j n a away.0 (sym away.1 ∙ sym (is j) ∙ at_j) pos held_a (subst (λ (x : Conn). HoldsName x n) (same b (sym too.1 ∙ sym (is k) ∙ at_k)) held_b)
        | inr off ↦ h.apart j k n a b (sym away.1 ∙ sym (is j) ∙ at_j) (sym off.1 ∙ sym (is k) ∙ at_k) differ pos held_a held_b
      ])
    ] where
      same : (x : Conn) → Some conn ≡ Some x → x ≡ conn
      same x e = cc

  -- Where one connection is put or taken out and the others are there still, all are.
  module _ (number : ℕ) (newer : PoolTree Payload) (new : Brigades R g) (e : Device) (s : Option Conn) (x : Option Connection)
      (others : (k : ℕ) → k ≢ number → IsHostedIf chain newer new e (conns k) (w.conns k)) (hosted : IsHostedIf chain newer new e s x)
      (after : ℕ → Option Conn) (is : (k : ℕ) → after k ≡ upd conns number s k) where
    as_is : (k : ℕ) (o : Option Conn) (b : Option Connection) → after k ≡ o → upd w.conns number x k ≡ b → IsHostedIf chain newer new e o b
        → IsHostedIf chain newer new e (after k) (upd w.conns number x k)
    as_is k o b there conn so =
        subst (λ (y : Option Conn). IsHostedIf chain newer new e y (upd w.conns number x k)) (sym there) (subst (λ (y : Option Connection). IsHostedIf chain newer new e o y) (sym conn) so)

    each : (k : ℕ) → ((k ≡ number) × (upd conns number s k ≡ s)) ⊎ ((k ≢ number) × (upd conns number s k ≡ conns k))
        → ((k ≡ number) × (upd w.conns number x k ≡ x)) ⊎ ((k ≢ number) × (upd w.conns number x k ≡ w.conns k))
        → IsHostedIf chain newer new e (after k) (upd w.conns number x k)
    each k (inl a) (inl b) = as_is k s x (is k ∙ a.1) b.1 hosted
    each k (inl a) (inr b) = absurd (b.0 a.0)
    each k (inr a) (inl b) = absurd (a.0 b.0)
    each k (inr a) (inr b) = as_is k (conns k) (w.conns k) (is k ∙ a.1) b.1 (others k a.0)

    pub conns_put : (k : ℕ) → IsHostedIf chain newer new e (after k) (upd w.conns number x k)
    conns_put k = each k (upd_either conns number k s) (upd_either w.conns number k x)

  -- One connection is served, and the others are as they were. all: what is left of it over the tree.
  module _ (number : ℕ) (conn0 conn : Conn) (at : conns number ≡ Some conn0) (c : Connection) (here : w.conns number ≡ Some c) (e : Device) (spared : Spares d e c) (newer : PoolTree Payload)
      (new : Brigades R g)
      (leaves : LeavesOthers (map_of tree) store new conn0 conn) (all : Linked) (turn : EventTurn chain AnyLength w.common (over (map_of tree) c) all) (left : LeftAs chain newer new e conn all)
      (files : all.0.file ≤ e.next) where
    part : Linked
    part = linked_in_part c.conn all

    tree_then : map_of newer ≡ pools_of all.0 all.1
    unfolding conn_of
    tree_then = ap (λ (n : ℕ). record (map_of newer) { next = n }) (sym left.seen.pools)
        ∙ sym (ap (λ (x : Connection). pools_of all.0 x) left.seen.conn)

    whole_then : over (map_of newer) part.1 ≡ all.1
    unfolding part
    whole_then = ap (λ (ps : Pools Payload). over ps all.1) tree_then

    hosted_then : IsHosted chain newer new e conn part.1
    unfolding part
    hosted_then = record { seen = whole_then ∙ left.seen.conn; opens = left.opens; stacked = left.stacked }

    pub holds_put : (after : ℕ → Option Conn) → ((k : ℕ) → after k ≡ upd conns number (Some conn) k) → IsReached budget chain (put_conn number (linked_in_part c.conn all) w)
        → HoldsWorld budget chain e newer new last after (put_conn number (linked_in_part c.conn all) w)
    unfolding part
    holds_put after is reached = record {
      chained = h.chained;
      reached = reached;
      last_is = h.last_is;
      pools = tree_then ∙ sym (left_tree chain w (map_of tree) number c (known h number c here) all turn);
      names = left.seen.given;
      files = files;
      house = left.house;
      open_files = left.references;
      none = left.none;
      conns = conns_put number newer new e (Some conn) (Some part.1)
          (others_still number conn0 conn (map_of tree) (foreign h number conn0 at) newer new leaves left.house left.none e (opens_still number c here e spared)) hosted_then after is;
      apart = apart_then number conn0 conn (map_of tree) (foreign h number conn0 at) newer new leaves left.house left.none e (opens_still number c here e spared) after is;
    }

-- Tables of equal maps are the same.
pub same_conns : (a b : Conns) → a.by_number ≡ b.by_number → conn_at a ≡ conn_at b
unfolding conn_at
same_conns a b e = fun_ext (λ n. ap (λ m. get nat_eq m n) e)

pub written_at : {X : Type 0} (f : ℕ → X) (i k : ℕ) (v : X) → cond (nat_eq i k) v (f k) ≡ upd f i v k
unfolding upd
written_at f i k v = grind (arith, nat_tests)
