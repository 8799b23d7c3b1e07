-- A connection that was left as it was, though there may be more room in its lists.
use Rattle.std.proofs.Common.{◌≡◌, ℕ, suc, ◌-◌, ◌<◌, ◌&&◌, Bool, List, [], length, Option, Some, is_some, sym, ◌∙◌, ap, subst, arith, ◌==◌, ◌||◌, ◌++◌, ◌∷◌, refl}
use Rattle.std.specs.Option.{option_map_or}
use Rattle.std.specs.Prelude.{slice_get, if◌then◌else◌}
use Rattle.std.specs.Global.{Vec}
use Rattle.std.proofs.Math.Path.{fun_ext}
use Rattle.module_code.specs.Program.{Program}
use Rattle.bucket_kinds.specs.Device.{Device}
use Rattle.bucket_ring.specs.declared.rings.Rings.{Ghosts}
use Rattle.bucket_ring.specs.Kept.{NoneRevived, once_in}
use Rattle.run_model.specs.declared.payload.Payload.{Payload}
use Rattle.run_model.specs.Pools.{Pools}
use Rattle.run_model.specs.Chains.{Connection, Linked}
use Rattle.pool_tree.specs.declared.tree.PoolTree.{PoolTree}
use Rattle.pool_tree.specs.Tree.{map_of}
use Rattle.bucket_kinds.specs.declared.stored.Stored.{Stored}
use Rattle.brigade_ops.specs.declared.store.Brigades.{Brigades}
use Rattle.bucket_store.specs.Items.{Items}
use Rattle.brigade_ops.specs.Store.{lists, brigade_of, pool_of, references, next_name}
use Rattle.module_run.specs.declared.conn.Filter.{Filter}
use Rattle.module_run.specs.declared.conn.Conn.{Conn}
use Rattle.module_run.specs.Conns.{conn_of, filter_at, call_name, top_of, stack_over, shown_frame, shown_filter, counting}
use Rattle.module_run.specs.Proceeding.{LeftAs}
use Rattle.interp_state.specs.Seen.{is_running}
use Rattle.module_run.specs.Stacked.{AreWhole, FiltersApart, AreCalled, IsStacked, called_of, is_called, is_waiting, names_of}
use Rattle.interp_state.proofs.Names.{held_kept, no_less, still_same}
use Rattle.run_model.specs.Pools.{is_in}
use Rattle.module_run.proofs.Callers.{names_same}

-- a connection with these lists
abbrev pub changed : Conn → Vec Filter → Vec ℕ → Vec ℕ → Conn
changed c fs cs ws = record c { filters = fs; callers = cs; waits = ws }

module _ (c : Conn) (fs : Vec Filter) (cs ws : Vec ℕ) (filters : fs.items ≡ c.filters.items) (callers : cs.items ≡ c.callers.items) (waits : ws.items ≡ c.waits.items) where
  at_same : (k : ℕ) → filter_at (changed c fs cs ws) k ≡ filter_at c k
  unfolding filter_at
  at_same k = ap (λ (xs : List Filter). slice_get xs k) filters

  was_at : (k : ℕ) (f : Filter) → filter_at (changed c fs cs ws) k ≡ Some f → filter_at c k ≡ Some f
  was_at k f is = sym (at_same k) ∙ is

  same_top : top_of (changed c fs cs ws) ≡ top_of c
  same_top = refl

  same_called : (k : ℕ) → is_called (changed c fs cs ws) k ≡ is_called c k
  same_called k = ap (λ (ks : List ℕ). c.busy && (k == top_of c || is_in k ks)) callers

  same_waiting : (k : ℕ) → is_waiting (changed c fs cs ws) k ≡ is_waiting c k
  same_waiting k = ap (is_in k) callers

  apart_spared : FiltersApart c → FiltersApart (changed c fs cs ws)
  apart_spared apart = record {
    own = λ i j a b m f e low less is that. apart.own i j a b m f e low less (was_at i f is) (was_at j e that);
    later = λ i j b m f e less low is that. apart.later i j b m f e less low (was_at i f is) (was_at j e that);
    handed = λ i j a m f e less is that. apart.handed i j a m f e less (was_at i f is) (was_at j e that);
    loose = λ i j b f e is that. apart.loose i j b f e (was_at i f is) (was_at j e that);
    calls = λ i j f e is that. apart.calls i j f e (was_at i f is) (was_at j e that);
  }

  called_spared : (chain : List Program) → AreCalled chain c → AreCalled chain (changed c fs cs ws)
  called_spared chain called = record {
    runs = λ k f is runs. called.runs k f (was_at k f is) (sym (same_called k) ∙ runs);
    idle = λ k f is idle. called.idle k f (was_at k f is) (sym (same_called k) ∙ idle);
    lent = λ k f is. called.lent k f (was_at k f is) ∙ sym (same_waiting k);
    passes = λ k b f is. called.passes k b f (was_at k f is);
    passed = λ k b f is. called.passed k b f (was_at k f is);
    inward = λ i k j b f e at next is that. called.inward i k j b f e (was_placed i k at) (was_placed (suc i) j next) (was_at k f is) (was_at j e that);
    incoming = λ k f is idle. called.incoming k f (was_at k f is) (sym (same_called k) ∙ idle);
    waits = waits ∙ (called.waits ∙ (ap (names_of c) (sym callers) ∙ sym (names_same c (changed c fs cs ws) cs.items (λ k _. ap call_name (at_same k)))));
    quiet = λ idle. ap (λ (ks : List ℕ). length ks) callers ∙ called.quiet idle;
    rises = λ i j k l lt a b. called.rises i j k l lt (was_placed i k a) (was_placed j l b);
    bottom = ap (λ (ks : List ℕ). slice_get (ks ++ top_of c ∷ []) 0) callers ∙ called.bottom;
    outer = λ e. callers ∙ called.outer e;
  } where
    was_placed : (i k : ℕ) → slice_get (called_of (changed c fs cs ws)) i ≡ Some k → slice_get (called_of c) i ≡ Some k
    was_placed i k at = ap (λ (ks : List ℕ). slice_get (ks ++ top_of c ∷ []) i) (sym callers) ∙ at

  module _ (L M : ℕ → Option Items) (same : (n : ℕ) → M n ≡ L n) where
    shown_spared : (ps : Pools Payload) (opened : ℕ → Option (List ℕ)) → conn_of ps L opened c ≡ conn_of ps M opened (changed c fs cs ws)
    unfolding conn_of filter_at
    shown_spared ps opened =
        ap (λ (X : ℕ → Option Items). conn_of ps X opened c) (fun_ext (λ n. sym (same n)))
        ∙ (ap (λ (xs : List Filter). shape xs c.callers.items c.waits.items) (sym filters) ∙ (ap (λ (ks : List ℕ). shape fs.items ks c.waits.items) (sym callers) ∙ ap (shape fs.items cs.items) (sym waits))) where
          runs : List Filter → List ℕ → ℕ → Bool
          runs xs ns = is_running (call_name (slice_get xs (top_of c))) ns

          shape : List Filter → List ℕ → List ℕ → Connection
          shape xs ks ns = record (conn_of ps M opened c) {
            instances = λ k. shown_filter (runs xs ns) M (slice_get xs k);
            stack = if c.busy then shown_frame (runs xs ns) M (top_of c) (slice_get xs (top_of c)) ∷ stack_over (λ k. shown_frame (runs xs ns) M k (slice_get xs k)) ks else [];
            queue = counting c.queue ((length xs - 1) - c.queue);
          }

  module _ {R : Type 0} {g : Ghosts R Stored} (chain : List Program) (tree : PoolTree Payload) (old new : Brigades R g) (d : Device) (v : Linked)
      (same : (n : ℕ) → lists new n ≡ lists old n) (next : next_name new ≡ next_name old) (names : NoneRevived (brigade_of old) (brigade_of new) (next_name old))
      (pools : pool_of new ≡ pool_of old) (refs : references new ≡ references old) where
    stacked_spared : IsStacked chain old c → IsStacked chain new (changed c fs cs ws)
    stacked_spared stacked = record {
      many = ap (λ (xs : List Filter). length xs) filters ∙ stacked.many;
      within = (let t = same_top in let w = stacked.within in omega (arith, t, w));
      queue = stacked.queue;
      held = λ k f is. held_kept old new (no_less (next_name old) (next_name new) next) names pools (still_same (lists old) (lists new) same) f.instance f.call (stacked.held k f (was_at k f is));
      apart = apart_spared stacked.apart;
      called = called_spared chain stacked.called;
      brought = λ m f is named. (let was = stacked.brought m f (was_at c.first f is) named in
          (ap (λ (p : ℕ → Option ℕ). p m) pools ∙ was.0, ap is_some (same m) ∙ was.1));
      whole = λ out m f is named. subst (λ (o : Option Items). AreWhole (option_map_or (λ bs. bs) o [])) (sym (same m)) (stacked.whole out m f (was_at (top_of c) f is) named);
    }

    pub left_spared : LeftAs chain tree old d c v → LeftAs chain tree new d (changed c fs cs ws) v
    left_spared left = record {
      seen = record {
        pools = left.seen.pools;
        given = left.seen.given ∙ sym next;
        conn = left.seen.conn ∙ shown_spared (lists old) (lists new) same (map_of tree) v.1.opened;
      };
      opens = left.opens;
      formed = left.formed;
      house = record {
        held = λ name p. left.house.held name p ∙ ap (λ (f : ℕ → Option ℕ). once_in p (f name)) (sym pools);
        there = λ name p on. ap is_some (same name) ∙ left.house.there name p (ap (λ (f : ℕ → Option ℕ). f name) (sym pools) ∙ on);
        referred = λ file. ap (λ (f : ℕ → ℕ). f file) refs ∙ left.house.referred file;
      };
      references = λ file pos. left.references file (subst (λ (n : ℕ). 0 < n) (ap (λ (f : ℕ → ℕ). f file) refs) pos);
      none = same 0 ∙ left.none;
      stacked = stacked_spared left.stacked;
    }
