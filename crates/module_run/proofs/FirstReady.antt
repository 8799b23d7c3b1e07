-- The filter whose call is on top, where none waits for it, may end it.
use Rattle.std.proofs.Common.{Bool, ◌≡◌, ◌≢◌, ℕ, suc, ◌+◌, ◌-◌, ◌<◌, true, List, [], ◌∷◌, length, set, Option, Some, None, is_some, refl, sym, ap, subst, ◌∙◌, inl, inr, arith}
use Rattle.std.specs.Prelude.{slice_get, slice_index_or}
use Rattle.std.proofs.lemmas.Bool.{cases_eq, false≢true}
use Rattle.std.proofs.lemmas.List.{length-set}
use Rattle.std.proofs.lemmas.Option.{slice_get_read}
use Rattle.bucket_ring.specs.declared.rings.Rings.{Ghosts}
use Rattle.bucket_ring.specs.Kept.{NoneRevived}
use Rattle.bucket_ring.specs.Lists as ring
use Rattle.bucket_kinds.specs.Device.{Device}
use Rattle.module_code.specs.Program.{Program}
use Rattle.module_code.specs.declared.instr.Instr.TheVariants as instr
use Rattle.module_code.specs.declared.instr.Status.{Status}
use Rattle.run_model.specs.declared.payload.Payload.{Payload}
use Rattle.run_model.specs.Chains.{Frame, Connection, Linked}
use Rattle.model_laws.specs.ChainSound.{IsRising}
use Rattle.run_model.specs.Turns.{calls_of}
use Rattle.pool_tree.specs.declared.tree.PoolTree.{PoolTree}
use Rattle.bucket_kinds.specs.declared.stored.Stored.{Stored}
use Rattle.brigade_ops.specs.declared.store.Brigades.{Brigades}
use Rattle.brigade_ops.specs.Store.{lists, brigade_of, pool_of, next_name}
use Rattle.module_run.specs.declared.conn.Conn.{Conn}
use Rattle.module_run.specs.declared.conn.Filter.{Filter}
use Rattle.interp_state.specs.declared.machine.Instance.{Instance}
use Rattle.module_run.specs.Conns.{modules_of, conn_of, counting, filter_at, waiting}
use Rattle.interp_state.specs.Held.{IsHeld}
use Rattle.module_run.specs.Proceeding.{IsReady}
use Rattle.module_run.specs.Stacked.{named_at}
use Rattle.interp_state.proofs.Changes.{ring_here, ring_off}
use Rattle.module_run.proofs.EndedLast.{parts}
use Rattle.module_run.proofs.Filters.{get_here, get_other}
use Rattle.module_run.proofs.Finishing.{rest_none, top_first}
use Rattle.module_run.proofs.HeldStays.{held_stays}
use Rattle.module_run.proofs.Callers.{first_below}
use Rattle.module_run.proofs.TopFilter.{filter_read, on_top_of, top_runs, top_within}

module _ {R : Type 0} {g : Ghosts R Stored} (chain : List Program) (s : Status) (tree : PoolTree Payload) (store : Brigades R g) (device : Device) (c : Conn) (v : Linked) (f : Frame)
    (rest : List Frame)
    (ready : IsReady chain (instr.Ret s) tree store device c v f rest) (none : waiting c ≡ 0) where
  pub first_within : c.first < length c.filters.items
  first_within = (let a = top_within chain (instr.Ret s) tree store device c v f rest ready in let b = first_below chain c ready.stands.left.stacked.called in omega (arith, a, b))

  free_0 : (o : Option ℕ) → pool_of store 0 ≡ o → o ≡ None
  free_0 None is = refl
  free_0 (Some p) is = absurd (false≢true (sym (ap is_some ready.stands.left.none) ∙ ready.stands.left.house.there 0 p is))

  pub zero_free : pool_of store 0 ≡ None
  zero_free = free_0 (pool_of store 0) refl

  -- what is still to run
  queue_is : v.1.queue ≡ counting c.queue (modules_of c - c.queue)
  unfolding conn_of
  queue_is = ap (λ (x : Connection). x.queue) ready.stands.left.seen.conn

  queue_more : c.queue < modules_of c → v.1.queue ≡ c.queue ∷ counting (suc c.queue) (modules_of c - (c.queue + 1))
  unfolding counting
  queue_more within = queue_is ∙ ap (counting c.queue) (let e : modules_of c - c.queue ≡ suc (modules_of c - (c.queue + 1)) = omega (arith, within) in e)

  frame_of : f.of ≡ c.first
  frame_of = ap (λ (h : Frame). h.of) (on_top_of chain (instr.Ret s) tree store device c v f rest ready).frame ∙ top_first chain s tree store device c v f rest ready none

  -- the next filter comes later than the first one
  pub queue_later : c.queue < modules_of c → c.first < c.queue
  unfolding IsRising
  queue_later within = subst (λ (n : ℕ). n < c.queue) frame_of (subst (IsRising f.of) (queue_more within) (ready.stands.lawful.sound.calls.later f rest ready.on_top)).0

  -- a call begins
  pub one_begins : (last : Bool) → c.queue < modules_of c → calls_of last (instr.Ret s) rest v.1.queue ≡ 1
  one_begins last within = ap (λ (fs : List Frame). calls_of last (instr.Ret s) fs v.1.queue) (rest_none chain s tree store device c v f rest ready none)
      ∙ ap (calls_of last (instr.Ret s) []) (queue_more within)

  module _ (t : Filter) (at : t ≡ slice_index_or c.filters.items c.first t) where
    pub first_read : filter_at c c.first ≡ Some t
    first_read = filter_read c c.first t first_within at

    pub first_held : IsHeld store t.instance t.call
    first_held = ready.stands.left.stacked.held c.first t first_read

    pub first_runs : 0 < t.call.name
    first_runs = top_runs chain (instr.Ret s) tree store device c v f rest ready t (ap (filter_at c) (top_first chain s tree store device c v f rest ready none) ∙ first_read)

    pub first_brought : (m : ℕ) → named_at t 8 ≡ Some m → (pool_of store m ≡ None) × (is_some (lists store m) ≡ true)
    first_brought m named = ready.stands.left.stacked.brought m t first_read named

    -- once a ring was made
    module _ (made : Brigades R g) (name : ℕ) (is : name ≡ next_name store) (out : (n : ℕ) → lists made n ≡ ring.upd (lists store) name (Some []) n) (next : next_name made ≡ next_name store + 1)
        (names : NoneRevived (brigade_of store) (brigade_of made) (next_name store)) (pools : pool_of made ≡ pool_of store) where
      pub as_was : (n : ℕ) → n < next_name store → lists made n ≡ lists store n
      as_was n below = out n ∙ ring_off (lists store) name n (Some []) (λ e. omega (arith, below, is, e))

      pub made_empty : lists made (next_name store) ≡ Some []
      made_empty = ap (lists made) (sym is) ∙ (out name ∙ ring_here (lists store) name (Some []))

      pub made_held : IsHeld made t.instance t.call
      made_held = held_stays (brigade_of store) (brigade_of made) (lists store) (lists made) (pool_of store) (pool_of made) (next_name store) (next_name made) t.instance t.call
          (omega (arith, next)) pools names
          (λ b n named. as_was n (first_held.named b n named)) (λ pos. as_was t.call.name first_held.called) first_held

      pub made_none : lists made 0 ≡ None
      made_none = as_was 0 (let a = first_held.called in omega (arith, a)) ∙ ready.stands.left.none

      pub made_free : pool_of made 0 ≡ None
      made_free = ap (λ (p : ℕ → Option ℕ). p 0) pools ∙ zero_free

      pub made_brought : (m : ℕ) → named_at t 8 ≡ Some m → (pool_of made m ≡ None) × (is_some (lists made m) ≡ true)
      made_brought m named = (let b = first_brought m named in (ap (λ (p : ℕ → Option ℕ). p m) pools ∙ b.0, ap is_some (as_was m (first_held.named 8 m named)) ∙ b.1))

-- the filters once the first one's call ended
pub set_first : (c d : Conn) (e : Filter) → c.first < length c.filters.items → d.filters.items ≡ set c.filters.items c.first e → (filter_at d c.first ≡ Some e)
    × ((k : ℕ) → k ≢ c.first → filter_at d k ≡ filter_at c k)
unfolding filter_at
set_first c d e within items = (
  ap (λ (xs : List Filter). slice_get xs c.first) items ∙ get_here c.filters.items c.first e within,
  λ k ne. ap (λ (xs : List Filter). slice_get xs k) items ∙ get_other c.filters.items c.first k e ne,
)

-- and that of the next one began
pub record SetNext (c d : Conn) (ended before begun : Filter) : Type 0 where
  pub first : filter_at d c.first ≡ Some ended
  pub was : filter_at c c.queue ≡ Some before
  pub now : filter_at d c.queue ≡ Some begun
  pub others : (k : ℕ) → k ≢ c.first → k ≢ c.queue → filter_at d k ≡ filter_at c k
  pub same : (k : ℕ) → k ≢ c.first → parts (filter_at d k) ≡ parts (filter_at c k)
  pub count : length d.filters.items ≡ length c.filters.items

pub set_next : (c d : Conn) (ended before begun : Filter) → c.first < c.queue → c.queue < length c.filters.items → before ≡ slice_index_or (set c.filters.items c.first ended) c.queue before
    → begun.instance ≡ before.instance → begun.lent ≡ before.lent → d.filters.items ≡ set (set c.filters.items c.first ended) c.queue begun → SetNext c d ended before begun
unfolding filter_at
set_next c d ended before begun later within at instance lent items = record {
  first = ap (λ (ys : List Filter). slice_get ys c.first) items
      ∙ (get_other (set xs c.first ended) c.queue c.first begun (λ e. omega (arith, later, e)) ∙ get_here xs c.first ended (omega (arith, later, within)));
  was = before_is;
  now = begun_is;
  others = rest;
  same = λ k ne. elim (cases_eq k c.queue) [
    | inl q ↦ ap (λ (j : ℕ). parts (slice_get d.filters.items j)) q ∙ (ap parts begun_is ∙ (ap (λ (i : Instance). Some (i, begun.lent)) instance
        ∙ (ap (λ (o : Option ℕ). Some (before.instance, o)) lent ∙ (ap parts (sym before_is) ∙ ap (λ (j : ℕ). parts (slice_get xs j)) (sym q)))))
    | inr off ↦ ap parts (rest k ne off)
  ];
  count = ap length items ∙ (length-set (set xs c.first ended) c.queue begun ∙ length-set xs c.first ended);
} where
  xs : List Filter
  xs = c.filters.items

  rest : (k : ℕ) → k ≢ c.first → k ≢ c.queue → slice_get d.filters.items k ≡ slice_get c.filters.items k
  rest k ne off = ap (λ (ys : List Filter). slice_get ys k) items ∙ (get_other (set xs c.first ended) c.queue k begun off ∙ get_other xs c.first k ended ne)

  before_is : slice_get c.filters.items c.queue ≡ Some before
  before_is = sym (get_other xs c.first c.queue ended (λ e. omega (arith, later, e)))
      ∙ slice_get_read (set xs c.first ended) (length (set xs c.first ended)) c.queue before refl (let l = length-set xs c.first ended in omega (arith, within, l)) at

  begun_is : slice_get d.filters.items c.queue ≡ Some begun
  begun_is = ap (λ (ys : List Filter). slice_get ys c.queue) items ∙ get_here (set xs c.first ended) c.queue begun (let l = length-set xs c.first ended in omega (arith, within, l))
