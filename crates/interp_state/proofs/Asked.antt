-- What is asked of variables and brigades, over the lists of a store.
use Rattle.std.proofs.Common.{◌≡◌, ℕ, ◌+◌, Bool, true, false, ◌||◌, not, nat_lt, nat_le, [], ◌∷◌, ◌++◌, length, Option, Some, None, is_some, refl, sym, ap, ◌∙◌}
use Rattle.std.specs.Prelude.{slice_index_or, if◌then◌else◌}
use Rattle.std.proofs.lemmas.Bool.{false≢true}
use Rattle.bucket_ring.specs.declared.names.BucketId.{BucketId}
use Rattle.bucket_ring.specs.Lists.{list_at, first_of}
use Rattle.module_code.specs.declared.instr.Instr.{Instr}
use Rattle.module_code.specs.declared.instr.Value.{Value}
use Rattle.run_model.specs.declared.bucket.NamedBucket.{NamedBucket}
use Rattle.run_model.specs.declared.bucket.PoolVar.{PoolVar}
use Rattle.run_model.specs.declared.bucket.PoolVar.TheVariants as poolvar
use Rattle.run_model.specs.BrigadeLists.{bucket_across, is_short, length_in}
use Rattle.run_model.specs.BucketSteps.{items_at, names_if, names_to_part}
use Rattle.run_model.specs.Cutting.{length_of}
use Rattle.run_model.specs.Pools.{is_empty}
use Rattle.run_model.specs.Effects.{buffer_limit, do_put, is_full, is_null_brigade, is_null_pool, value_of}
use Rattle.run_model.specs.State.{Configuration}
use Rattle.run_model.specs.Steps.{is_spent, lacks_names, names_of, pool_names_of}
use Rattle.bucket_store.specs.Items.{Items, named}
use Rattle.interp_state.specs.declared.machine.Instance.{Instance}
use Rattle.interp_state.specs.declared.machine.Call.{Call}
use Rattle.interp_state.specs.declared.machine.Slot.{Slot}
use Rattle.interp_state.specs.declared.machine.Slot.TheVariants as slot
use Rattle.interp_state.specs.ContextViews.{ContextView}
use Rattle.interp_state.specs.Slots.{slot_at, live_in}
use Rattle.interp_state.specs.Seen.{seen_over, calls_in, shown, shown_as, shown_slot}
use Rattle.interp_state.proofs.Changes.{items_of_slot, live_is}

length_shown : (runs : ℕ → Bool) (xs : Items) → length_in (shown runs xs) ≡ length_in (named xs)
unfolding length_in
length_shown runs [] = refl
length_shown runs (x ∷ xs) = ap (λ n. length_of x.1.content + n) (length_shown runs xs)

no_length : length_in [] ≡ 0
unfolding length_in
no_length = refl

-- a list has a first bucket, or it is empty
none_first : (runs : ℕ → Bool) (xs : Items) (t : Bool) → is_some (first_of xs) ≡ not t → t ≡ is_empty (shown runs xs)
none_first runs [] true e = refl
none_first runs [] false e = absurd (false≢true e)
none_first runs (x ∷ xs) true e = absurd (false≢true (sym e))
none_first runs (x ∷ xs) false e = refl

abbrev pub is_unmade : Slot → Bool
is_unmade slot.Null = true
is_unmade (slot.Made n pool mark) = false

null_shown : (runs : ℕ → Bool) (L : ℕ → Option Items) (s : Slot) → is_unmade s ≡ is_null_brigade (shown_slot runs L s)
null_shown runs L slot.Null = refl
null_shown runs L (slot.Made n pool mark) = go (L n) where
  go : (o : Option Items) → false ≡ is_null_brigade (shown_as runs n pool mark o)
  go None = refl
  go (Some xs) = refl

module _ (L : ℕ → Option Items) (k : ℕ) (view : ContextView) (i : Instance) (call : Call) where
  pub null_brigade : (b : ℕ) (s : Slot) → slot_at i b ≡ s → is_unmade s ≡ is_null_brigade ((seen_over L k view i call).instance.brigades b)
  unfolding seen_over
  null_brigade b s is = ap is_unmade (sym is) ∙ null_shown (calls_in view call) L (slot_at i b)

  pub null_pool : (q : ℕ) (v : PoolVar) → slice_index_or i.pools q poolvar.Null ≡ v → is_null_pool v ≡ is_null_pool ((seen_over L k view i call).instance.pools q)
  unfolding seen_over
  null_pool q v is = ap is_null_pool (sym is)

  module _ (b : ℕ) where
    items_live : (n : ℕ) → live_in L (slot_at i b) ≡ Some n → items_at (seen_over L k view i call) b ≡ shown (calls_in view call) (list_at L n)
    items_live n is = let s = live_is L (slot_at i b) n is in items_of_slot L k view i call b n s.0 s.1.0 s.1.1.0

    pub short_live : (n p : ℕ) → live_in L (slot_at i b) ≡ Some n → nat_lt (length_in (named (list_at L n))) p ≡ is_short p (items_at (seen_over L k view i call) b)
    short_live n p is = ap (λ m. nat_lt m p) (sym (ap length_in (items_live n is) ∙ length_shown (calls_in view call) (list_at L n)))

    pub empty_live : (n : ℕ) (first : Option BucketId) (t : Bool) → live_in L (slot_at i b) ≡ Some n → first ≡ first_of (list_at L n) → is_some first ≡ not t
        → t ≡ is_empty (items_at (seen_over L k view i call) b)
    empty_live n first t is at none = none_first (calls_in view call) (list_at L n) t (sym (ap is_some at) ∙ none) ∙ ap is_empty (sym (items_live n is))

    pub across_live : (n p : ℕ) (o : Option NamedBucket) → live_in L (slot_at i b) ≡ Some n → o ≡ bucket_across p (shown (calls_in view call) (list_at L n))
        → names_if (is_some o) ≡ names_to_part p (items_at (seen_over L k view i call) b)
    across_live n p o is at = ap (λ (y : Option NamedBucket). names_if (is_some y)) (at ∙ ap (bucket_across p) (sym (items_live n is)))

  -- a buffer is full by its length
  pub full_is : (x : Value) (n m : ℕ) (t : Bool) → t ≡ (nat_lt 255 n || nat_le buffer_limit m) → n ≡ value_of (seen_over L k view i call) x → m ≡ length call.buffer
      → t ≡ is_full (seen_over L k view i call) x
  unfolding seen_over
  full_is x n m t is number len =
      is
      ∙ (ap (λ (a : ℕ). nat_lt 255 a || nat_le buffer_limit m) number
      ∙ ap (λ (a : ℕ). nat_lt 255 (value_of (seen_over L k view i call) x) || nat_le buffer_limit a) len)

  -- the names of the store are spent, or those of the pools
  pub store_spent : (instr : Instr) (t : Bool) → t ≡ is_spent k (names_of (seen_over L k view i call) instr) → t ≡ true → t ≡ lacks_names (seen_over L k view i call) instr
  unfolding seen_over lacks_names
  store_spent instr t is spent = spent ∙ sym (ap (λ (u : Bool). u || is_spent view.pools.next (pool_names_of instr)) (sym is ∙ spent))

  pub pools_spent : (instr : Instr) (t u : Bool) → t ≡ is_spent k (names_of (seen_over L k view i call) instr) → t ≡ false → u ≡ is_spent view.pools.next (pool_names_of instr)
      → u ≡ lacks_names (seen_over L k view i call) instr
  unfolding seen_over lacks_names
  pools_spent instr t u is left at = at ∙ sym (ap (λ (v : Bool). v || is_spent view.pools.next (pool_names_of instr)) (sym is ∙ left))

-- a byte that is put
module _ (x : Value) (r : Configuration) where
  pub not_put : is_full r x ≡ true → r ≡ do_put x r
  not_put full = sym (ap (λ (t : Bool). if t then r else record r { call = record r.call { buffer = r.call.buffer ++ value_of r x ∷ [] } }) full)

  pub put_is : (s : Configuration) (byte : ℕ) → is_full r x ≡ false → byte ≡ value_of r x → s ≡ record r { call = record r.call { buffer = r.call.buffer ++ byte ∷ [] } } → s ≡ do_put x r
  put_is s byte room is out =
      out
      ∙ (ap (λ (n : ℕ). record r { call = record r.call { buffer = r.call.buffer ++ n ∷ [] } }) is
      ∙ sym (ap (λ (t : Bool). if t then r else record r { call = record r.call { buffer = r.call.buffer ++ value_of r x ∷ [] } }) room))
