-- The filters of a connection as a pass to the next one writes them.
use Rattle.std.proofs.Common.{◌≡◌, ◌≢◌, ◌==◌, ℕ, ◌<◌, Bool, true, List, [], ◌∷◌, ◌++◌, length, set, Some, None, Result, Ok, Err, is_ok, sym, ◌∙◌, ap, arith}
use Rattle.std.specs.Prelude.{if◌then◌else◌, slice_get, slice_index_or, OnErr}
use Rattle.std.specs.Global.{Vec}
use Rattle.std.specs.Vec.{with_item}
use Rattle.std.proofs.lemmas.List.{length-set, set-get_or}
use Rattle.std.proofs.lemmas.Option.{get_or_from_slice_get}
use Rattle.run_model.specs.declared.bucket.Mark.TheVariants.{Usable, Passed}
use Rattle.interp_state.specs.declared.machine.Slot.TheVariants as slot
use Rattle.module_run.specs.declared.conn.Filter.{Filter}
use Rattle.module_run.specs.declared.conn.Conn.{Conn}
use Rattle.module_run.specs.Conns.{filter_at, top_of}
use Rattle.interp_state.specs.Slots.{slot_at, marked}
use Rattle.module_run.specs.Stacked.{named_at}
use Rattle.module_run.proofs.Filters.{get_here, get_other}
use Rattle.module_run.proofs.HandsOn.{HandsOn}
use Rattle.module_run.proofs.Spared.{changed}

-- what was read at a place of a list
pub read_as : {X : Type 0} (xs : List X) (k : ℕ) (r x : X) → r ≡ slice_index_or xs k r → slice_get xs k ≡ Some x → r ≡ x
read_as xs k r x is there = is ∙ get_or_from_slice_get xs k x r there

pub on_err : {X E C : Type 0} (r : Result X E) → C → OnErr r C
on_err (Ok x) h = tt
on_err (Err e) h = h

-- where a call did not fail
pub pushed_ok : {X E Y : Type 0} (r : Result X E) (n o : List Y) → is_ok r ≡ true → (xs : List Y) → xs ≡ (if is_ok r then n else o) → xs ≡ n
pushed_ok r n o ok xs is = is ∙ ap (λ (t : Bool). if t then n else o) ok

-- what is read of the filter on top
pub reads_here : (c : Conn) (t : ℕ) → t ≡ top_of c → (x r : Filter) → filter_at c (top_of c) ≡ Some x → r ≡ slice_index_or c.filters.items t r → r ≡ x
unfolding filter_at
reads_here c t at x r here is = read_as c.filters.items t r x is (ap (slice_get c.filters.items) at ∙ here)

-- what is read of another filter
pub reads_next : (c : Conn) (to : ℕ) (e r : Filter) → filter_at c to ≡ Some e → r ≡ slice_index_or c.filters.items to r → r ≡ e
unfolding filter_at
reads_next c to e r behind is = read_as c.filters.items to r e is behind

module _ (c : Conn) (t to : ℕ) (at : t ≡ top_of c) (later : top_of c < to) (was y z : Filter) where
  abbrev pub written : Vec Filter
  written = with_item (with_item (with_item c.filters to was) t y) to z

  module _ (x e : Filter) (top : filter_at c (top_of c) ≡ Some x) (behind : filter_at c to ≡ Some e) (within : to < length c.filters.items) where
    -- What is read there: the filter on top first, then the next one, and the one on top again.
    pub reads_top : (r : Filter) → r ≡ slice_index_or (set c.filters.items to was) t r → r ≡ x
    unfolding filter_at
    reads_top r is = read_as (set c.filters.items to was) t r x is (get_other c.filters.items to t was (λ q. omega (arith, q, at, later)) ∙ (ap (slice_get c.filters.items) at ∙ top))

    pub reads_behind : (r : Filter) → r ≡ slice_index_or (set (set c.filters.items to was) t y) to r → r ≡ was
    reads_behind r is = read_as (set (set c.filters.items to was) t y) to r was is
        (get_other (set c.filters.items to was) t to y (λ q. omega (arith, q, at, later)) ∙ get_here c.filters.items to was (omega (arith, within)))

    pub reads_again : (r : Filter) → r ≡ slice_index_or written.items t r → r ≡ y
    reads_again r is = read_as written.items t r y is
        (get_other (set (set c.filters.items to was) t y) to t z (λ q. omega (arith, q, at, later))
        ∙ get_here (set c.filters.items to was) t y (let n = length-set c.filters.items to was in omega (arith, at, later, within, n)))

    module _ (cs ws : Vec ℕ) (next b m : ℕ) (callers : cs.items ≡ c.callers.items ++ top_of c ∷ []) (waits : ws.items ≡ c.waits.items ++ x.call.name ∷ []) (busy : c.busy ≡ true) (variable : b < 9) (handed : named_at x b ≡ Some m)
        (slots : (a : ℕ) → slot_at y.instance a ≡ (if a == b then marked Passed (slot_at x.instance b) else slot_at x.instance a))
        (slots_behind : (a : ℕ) → slot_at z.instance a ≡ (if a == 8 then slot.Made m None Usable else slot_at e.instance a))
        (call : y.call ≡ x.call) (name : z.call.name ≡ next) (lent : y.lent ≡ Some b) (alone : z.lent ≡ None) where
      pub built : HandsOn c written cs ws to next b m x e y z
      unfolding filter_at
      built = record {
        later = later;
        top = top;
        behind = behind;
        top_after = ap (slice_get written.items) (sym at)
            ∙ (get_other (set (set c.filters.items to was) t y) to t z (λ q. omega (arith, q, at, later))
            ∙ get_here (set c.filters.items to was) t y (let n = length-set c.filters.items to was in omega (arith, at, later, within, n)));
        behind_after = get_here (set (set c.filters.items to was) t y) to z
            (let n = length-set c.filters.items to was in let k = length-set (set c.filters.items to was) t y in omega (arith, within, n, k));
        others = λ j ne off.
            get_other (set (set c.filters.items to was) t y) to j z off
            ∙ (get_other (set c.filters.items to was) t j y (λ q. ne (omega (arith, q, at))) ∙ get_other c.filters.items to j was off);
        many = length-set (set (set c.filters.items to was) t y) to z ∙ (length-set (set c.filters.items to was) t y ∙ length-set c.filters.items to was);
        waits = waits;
        callers = callers;
        busy = busy;
        variable = variable;
        handed = handed;
        slots = slots;
        slots_behind = slots_behind;
        call = call;
        name = name;
        lent = lent;
        alone = alone;
      }

-- the filter on top alone is written
module _ (c : Conn) (t : ℕ) (at : t ≡ top_of c) (w : Filter) (within : top_of c < length c.filters.items) where
  pub writes_here : filter_at (changed c (with_item c.filters t w) c.callers c.waits) (top_of c) ≡ Some w
  unfolding filter_at
  writes_here = ap (slice_get (set c.filters.items t w)) (sym at) ∙ get_here c.filters.items t w (omega (arith, at, within))

  pub writes_off : (k : ℕ) → k ≢ top_of c → filter_at (changed c (with_item c.filters t w) c.callers c.waits) k ≡ filter_at c k
  unfolding filter_at
  writes_off k ne = get_other c.filters.items t k w (λ q. ne (q ∙ at))

-- what was read is written back
pub same_back : (fs : Vec Filter) (k : ℕ) (r w : Filter) → r ≡ slice_index_or fs.items k r → w ≡ r → (with_item fs k w).items ≡ fs.items
same_back fs k r w is back = ap (set fs.items k) (back ∙ is) ∙ set-get_or fs.items k r
