-- A call returns: what its instance reads as, and what is held.
use Rattle.std.proofs.Common.{◌≡◌, ◌≢◌, ◌==◌, ℕ, zero, suc, ◌<◌, Bool, true, false, ◌&&◌, ◌||◌, not, List, [], Some, None, Option, is_some, refl, sym, ap, ◌∙◌, inl, inr, arith}
use Rattle.std.specs.Prelude.{if◌then◌else◌, slice_index_or}
use Rattle.std.specs.List.{list_any}
use Rattle.std.specs.Option.{option_map_or}
use Rattle.std.proofs.Math.Path.{fun_ext}
use Rattle.std.proofs.lemmas.Bool.{cases_eq, eq-eqb, ne_eqb}
use Rattle.bucket_ring.specs.declared.names.BucketId.{BucketId}
use Rattle.bucket_ring.specs.Lists as ring
use Rattle.bucket_ring.specs.Lists.{list_at}
use Rattle.run_model.specs.declared.bucket.NamedBucket.{NamedBucket}
use Rattle.run_model.specs.declared.bucket.BrigadeVar.{BrigadeVar}
use Rattle.run_model.specs.declared.bucket.BrigadeVar.TheVariants as var
use Rattle.run_model.specs.declared.bucket.Cursor.{Cursor}
use Rattle.run_model.specs.declared.bucket.Cursor.TheVariants as cursor
use Rattle.run_model.specs.declared.bucket.Mark.{Mark}
use Rattle.run_model.specs.declared.bucket.PoolVar.{PoolVar}
use Rattle.run_model.specs.declared.bucket.PoolVar.TheVariants as poolvar
use Rattle.run_model.specs.Effects.{do_return, returned_var}
use Rattle.run_model.specs.State.{Configuration}
use Rattle.bucket_store.specs.Items.{Items}
use Rattle.interp_state.specs.declared.machine.Instance.{Instance}
use Rattle.interp_state.specs.declared.machine.Call.{Call}
use Rattle.interp_state.specs.declared.machine.Slot.TheVariants as slot
use Rattle.interp_state.specs.declared.machine.CursorValue.TheVariants as cursor_value
use Rattle.interp_state.specs.ContextViews.{ContextView}
use Rattle.interp_state.specs.Held.{HeldOver}
use Rattle.interp_state.specs.Slots.{slot_at, cursor_at, name_in, SameButSlots}
use Rattle.interp_state.specs.Seen.{seen_over, calls_in, is_running, shown, shown_slot, shown_cursor}
use Rattle.interp_state.proofs.Changes.{ring_off}
use Rattle.interp_calls.proofs.Returned.{RunsWithout, returned_slot}
use Rattle.interp_state.proofs.Running.{running_waits}

and_true : (t : Bool) → t ≡ (t && true)
and_true true = refl
and_true false = refl

-- once a call has returned, those run that waited
pub runs_without : (name : ℕ) (waits : List ℕ) → list_any (λ w. name == w) waits ≡ false → RunsWithout (is_running name waits) (is_running 0 waits) name
runs_without name waits other zero = refl
runs_without name waits other (suc m) = running_waits 0 waits (suc m) not_0 not_0 ∙ elim (cases_eq (suc m) name) [
  | inl e ↦ ap (λ j. list_any (λ w. j == w) waits) e ∙ (other ∙ sym (ap (λ t. (t || list_any (λ w. suc m == w) waits) && not t) (eq-eqb (suc m) name e)))
  | inr ne ↦ and_true (list_any (λ w. suc m == w) waits) ∙ sym (ap (λ t. (t || list_any (λ w. suc m == w) waits) && not t) (ne_eqb (suc m) name ne))
] where
  not_0 : suc m ≢ 0
  not_0 e = omega (arith, e)

-- an instance whose `in` is null, over rings of which that of the loose buckets ended, and no call
module _ (L M : ℕ → Option Items) (i new : Instance) (call ended : Call)
    (loose : (b : ℕ) → name_in (slot_at i b) ≢ Some call.name) (nulled : (a : ℕ) → slot_at new a ≡ (if a == 8 then slot.Null else slot_at i a))
    (over : (n : ℕ) → M n ≡ ring.upd L call.name None n) where
  in_null : (b : ℕ) → b ≡ 8 → slot_at new b ≡ slot.Null
  in_null b e = nulled b ∙ ap (λ (t : Bool). if t then slot.Null else slot_at i b) (eq-eqb b 8 e)

  as_was : (b : ℕ) → b ≢ 8 → slot_at new b ≡ slot_at i b
  as_was b ne = nulled b ∙ ap (λ (t : Bool). if t then slot.Null else slot_at i b) (ne_eqb b 8 ne)

  pub was : (b n : ℕ) (pool : Option ℕ) (mark : Mark) → slot_at new b ≡ slot.Made n pool mark → (b ≢ 8) × (slot_at i b ≡ slot.Made n pool mark)
  was b n pool mark is = elim (cases_eq b 8) [
    | inl e ↦ absurd (let x : slot.Null ≡ slot.Made n pool mark = sym (in_null b e) ∙ is in cc)
    | inr ne ↦ (ne, sym (as_was b ne) ∙ is)
  ]

  pub was_named : (b n : ℕ) → name_in (slot_at new b) ≡ Some n → (b ≢ 8) × (name_in (slot_at i b) ≡ Some n)
  was_named b n is = elim (cases_eq b 8) [
    | inl e ↦ absurd (let x : None ≡ Some n = sym (ap name_in (in_null b e)) ∙ is in cc)
    | inr ne ↦ (ne, sym (ap name_in (as_was b ne)) ∙ is)
  ]

  -- a variable's brigade is as it was
  pub stays : (b n : ℕ) (pool : Option ℕ) (mark : Mark) → slot_at i b ≡ slot.Made n pool mark → M n ≡ L n
  stays b n pool mark is = over n ∙ ring_off L call.name n None (λ e. loose b (ap name_in is ∙ ap (λ (j : ℕ). Some j) e))

  pub held_returned : (at new_at : BucketId → Option ℕ) (p q : ℕ → Option ℕ) (k l : ℕ) → l ≡ k → q ≡ p → p 0 ≡ None → ended.name ≡ 0 → ((c : ℕ) → cursor_at ended c ≡ cursor_value.Unset)
      → HeldOver at L p k i call → HeldOver new_at M q l new ended
  held_returned at new_at p q k l next pools free name unset held = record {
    apart = λ a b n e f. held.apart a b n (was_named a n e).1 (was_named b n f).1;
    loose = λ b e. (let pos = held.real b 0 ((was_named b 0 (e ∙ ap (λ (n : ℕ). Some n) name)).1) in omega (arith, pos));
    given = λ c id e. absurd (let x : cursor_value.Unset ≡ cursor_value.At id = sym (unset c) ∙ e in cc);
    named = λ b n e. let a = held.named b n (was_named b n e).1 in omega (arith, a, next);
    real = λ b n e. held.real b n (was_named b n e).1;
    called = let a = held.called in omega (arith, a, next, name);
    runs = λ pos. absurd (omega (arith, pos, name));
    free = ap q name ∙ (ap (λ (f : ℕ → Option ℕ). f 0) pools ∙ free);
    on = λ b n pool mark own is there.
        (let before = (was b n pool mark is).1 in ap (λ (f : ℕ → Option ℕ). f n) pools ∙ held.on b n pool mark own before (sym (ap is_some (stays b n pool mark before)) ∙ there));
    incoming = λ n pool mark is. absurd ((was 8 n pool mark is).0 refl);
  }

  pub seen_returned : (k l : ℕ) (view : ContextView) → l ≡ k → SameButSlots i new → L 0 ≡ None → 0 < call.name → ended.name ≡ 0 → ((c : ℕ) → cursor_at ended c ≡ cursor_value.Unset)
      → ended.buffer ≡ []
      → ended.pc ≡ call.pc
      → list_any (λ w. call.name == w) view.waits ≡ false → seen_over M l view new ended ≡ do_return (seen_over L k view i call)
  unfolding seen_over
  seen_returned k l view next same none pos name unset empty at other =
      let r = seen_over L k view i call in
      let brigades : ℕ → BrigadeVar = λ b. if b == 8 then var.Null else returned_var call.name (r.instance.brigades b) in
      let made : List PoolVar → (ℕ → BrigadeVar) → List ℕ → Bool → ℕ → (ℕ → Cursor) → List ℕ → List NamedBucket → ℕ → ℕ → Configuration =
      λ ps bs ns sent name cursors buffer items next pc. record r {
        instance = record { pools = λ p. slice_index_or ps p poolvar.Null; brigades = bs; numbers = λ n. slice_index_or ns n 0; sent = sent; left = i.left };
        call = record { name = name; cursors = cursors; buffer = buffer; loose = items };
        shared = record r.shared { next = next };
        pc = pc;
      } in
      ap (λ (t : Bool). record (seen_over M l view new ended) { instance = record (seen_over M l view new ended).instance { left = t } }) same.left
      ∙ (ap (λ bs. made new.pools bs new.numbers new.sent ended.name (λ c. shown_cursor (cursor_at ended c)) ended.buffer (shown (calls_in view ended) (list_at M ended.name)) l ended.pc)
      (fun_ext by_slot)
      ∙ (ap (λ ps. made ps brigades new.numbers new.sent ended.name (λ c. shown_cursor (cursor_at ended c)) ended.buffer (shown (calls_in view ended) (list_at M ended.name)) l ended.pc) same.pools
      ∙ (ap (λ ns. made i.pools brigades ns new.sent ended.name (λ c. shown_cursor (cursor_at ended c)) ended.buffer (shown (calls_in view ended) (list_at M ended.name)) l ended.pc) same.numbers
      ∙ (ap (λ t. made i.pools brigades i.numbers t ended.name (λ c. shown_cursor (cursor_at ended c)) ended.buffer (shown (calls_in view ended) (list_at M ended.name)) l ended.pc) same.sent
      ∙ (ap (λ cs. made i.pools brigades i.numbers i.sent ended.name cs ended.buffer (shown (calls_in view ended) (list_at M ended.name)) l ended.pc) (fun_ext (λ c. ap shown_cursor (unset c)))
      ∙ (ap (λ bytes. made i.pools brigades i.numbers i.sent ended.name (λ c. cursor.Unset) bytes (shown (calls_in view ended) (list_at M ended.name)) l ended.pc) empty
      ∙ (ap (λ items. made i.pools brigades i.numbers i.sent ended.name (λ c. cursor.Unset) [] items l ended.pc) no_loose
      ∙ (ap (λ n. made i.pools brigades i.numbers i.sent n (λ c. cursor.Unset) [] [] l ended.pc) name
      ∙ (ap (λ n. made i.pools brigades i.numbers i.sent 0 (λ c. cursor.Unset) [] [] n ended.pc) next
      ∙ ap (λ n. made i.pools brigades i.numbers i.sent 0 (λ c. cursor.Unset) [] [] k n) at))))))))) where
        without : RunsWithout (calls_in view call) (calls_in view ended) call.name
        without n = ap (λ j. is_running j view.waits n) name ∙ runs_without call.name view.waits other n

        by_slot : (b : ℕ) → shown_slot (calls_in view ended) M (slot_at new b) ≡ (if b == 8 then var.Null else returned_var call.name (shown_slot (calls_in view call) L (slot_at i b)))
        by_slot b = elim (cases_eq b 8) [
          | inl e ↦ ap (shown_slot (calls_in view ended) M) (in_null b e)
              ∙ sym (ap (λ (t : Bool). if t then var.Null else returned_var call.name (shown_slot (calls_in view call) L (slot_at i b))) (eq-eqb b 8 e))
          | inr ne ↦ ap (shown_slot (calls_in view ended) M) (as_was b ne) ∙ (returned_slot (calls_in view call) (calls_in view ended) call.name without L M (slot_at i b) (stays b)
              ∙ sym (ap (λ (t : Bool). if t then var.Null else returned_var call.name (shown_slot (calls_in view call) L (slot_at i b))) (ne_eqb b 8 ne)))
        ]

        no_loose : shown (calls_in view ended) (list_at M ended.name) ≡ []
        no_loose = ap (λ (o : Option Items). shown (calls_in view ended) (option_map_or (λ bs. bs) o []))
            (ap M name ∙ (over 0 ∙ (ring_off L call.name 0 None (λ e. (let p = pos in omega (arith, p, e))) ∙ none)))
