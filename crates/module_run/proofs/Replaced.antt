-- A call returned to the one that waits, by the lists of filters and names.
use Rattle.module_code.specs.Program.{Program}
use Rattle.run_model.specs.Pools.{is_in}
use Rattle.interp_state.proofs.Pushed.{pushed_in}
use Rattle.module_run.proofs.Callers.{names_more, take_all, waits_below}
use Rattle.module_run.specs.Stacked.{AreCalled, names_of}
use Rattle.std.proofs.Common.{◌≡◌, ◌≢◌, ℕ, zero, suc, ◌-◌, ◌<◌, List, length, set, take, Some, refl, sym, ap, ◌∙◌, arith, [], ◌∷◌, ◌++◌, Option}
use Rattle.std.specs.Prelude.{slice_get, slice_index_or, option_to_list}
use Rattle.std.proofs.lemmas.List.{length-set, length-append}
use Rattle.std.proofs.lemmas.Option.{slice_get_read}
use Rattle.module_run.specs.declared.conn.Conn.{Conn}
use Rattle.module_run.specs.declared.conn.Filter.{Filter}
use Rattle.module_run.specs.Conns.{filter_at, top_of, call_name}
use Rattle.module_run.proofs.Filters.{get_here, get_other}

pub one_less : (n : ℕ) → 0 < n → (w : ℕ) × (n ≡ suc w)
one_less zero lt = absurd (omega (arith, lt))
one_less (suc w) lt = (w, refl)

-- Filters of which that on top became `ended`, and the one before it `resumed`.
pub record Replaces (c d : Conn) (w : ℕ) (top ended wait resumed : Filter) : Type 0 where
  pub on_top : filter_at c (top_of c) ≡ Some top
  pub below : filter_at c w ≡ Some wait
  pub top_after : filter_at d (top_of c) ≡ Some ended
  pub below_after : filter_at d w ≡ Some resumed
  pub others : (k : ℕ) → k ≢ top_of c → k ≢ w → filter_at d k ≡ filter_at c k
  pub count : length d.filters.items ≡ length c.filters.items

-- the filter that waits for that on top, once that one was changed
pub below_read : (c : Conn) (n w : ℕ) (ended wait : Filter) → top_of c < length c.filters.items → n ≡ top_of c → w < top_of c → wait ≡ slice_index_or (set c.filters.items n ended) w wait
    → filter_at c w ≡ Some wait
unfolding filter_at
below_read c n w ended wait within at low is =
    sym (get_other c.filters.items n w ended (λ e. omega (arith, e, at, low)))
    ∙ slice_get_read (set c.filters.items n ended) (length (set c.filters.items n ended)) w wait refl (let l = length-set c.filters.items n ended in omega (arith, within, low, l)) is

pub replaced : (c d : Conn) (n w : ℕ) (top ended wait resumed : Filter) → top_of c < length c.filters.items → n ≡ top_of c → w < top_of c
    → top ≡ slice_index_or c.filters.items n top → wait ≡ slice_index_or (set c.filters.items n ended) w wait → d.filters.items ≡ set (set c.filters.items n ended) w resumed
    → Replaces c d w top ended wait resumed
unfolding filter_at
replaced c d n w top ended wait resumed within at low top_is wait_is items = record {
  on_top = ap (slice_get xs) (sym at) ∙ slice_get_read xs (length xs) n top refl (omega (arith, within, at)) top_is;
  below = below_read c n w ended wait within at low wait_is;
  top_after = ap (λ (ys : List Filter). slice_get ys (top_of c)) items
      ∙ (ap (slice_get (set (set xs n ended) w resumed)) (sym at) ∙ (get_other (set xs n ended) w n resumed (λ e. omega (arith, e, at, low)) ∙ get_here xs n ended (omega (arith, within, at))));
  below_after = ap (λ (ys : List Filter). slice_get ys w) items
      ∙ get_here (set xs n ended) w resumed (let l = length-set xs n ended in omega (arith, within, low, l));
  others = λ k off under. ap (λ (ys : List Filter). slice_get ys k) items ∙ (get_other (set xs n ended) w k resumed under ∙ get_other xs n k ended (λ e. off (e ∙ at)));
  count = ap length items ∙ (length-set (set xs n ended) w resumed ∙ length-set xs n ended);
} where
  xs : List Filter
  xs = c.filters.items

-- the names of those that wait still
pub names_left : (c : Conn) (left : List ℕ) (w n : ℕ) (waits : List ℕ) → c.callers.items ≡ left ++ w ∷ [] → c.waits.items ≡ names_of c c.callers.items → n ≡ length c.waits.items
    → waits ≡ take (n - 1) c.waits.items → waits ≡ names_of c left
names_left c left w n waits callers names len is =
    let all : c.waits.items ≡ names_of c left ++ call_name (filter_at c w) ∷ [] = names ∙ (ap (names_of c) callers ∙ names_more c left w) in
    is ∙ (ap (take (n - 1)) all ∙ take_all (names_of c left) (call_name (filter_at c w)) (n - 1)
    (let l = len ∙ (ap (λ (xs : List ℕ). length xs) all ∙ length-append (names_of c left) (call_name (filter_at c w) ∷ [])) in omega (arith, l)))

-- the one that is popped waits
pub popped : (xs ys : List ℕ) (r : Option ℕ) (w : ℕ) → xs ≡ ys ++ option_to_list r → r ≡ Some w → xs ≡ ys ++ w ∷ []
popped xs ys r w items some = items ∙ ap (λ (o : Option ℕ). ys ++ option_to_list o) some

pub popped_below : (chain : List Program) (c : Conn) (left : List ℕ) (w : ℕ) → AreCalled chain c → c.callers.items ≡ left ++ w ∷ [] → w < top_of c
popped_below chain c left w called callers = waits_below chain c called w (ap (is_in w) callers ∙ pushed_in w w left refl)
