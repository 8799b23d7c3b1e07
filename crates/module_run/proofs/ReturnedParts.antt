-- What the filters and calls of a connection read as once a call has returned.
use Rattle.std.proofs.Common.{◌≡◌, ◌≢◌, ◌==◌, ℕ, Bool, List, [], map, Option, Some, None, refl, sym, ap, ◌∙◌, inl, inr}
use Rattle.std.specs.Prelude.{if◌then◌else◌, slice_index_or}
use Rattle.std.specs.Option.{option_map_or}
use Rattle.std.proofs.Math.Path.{fun_ext}
use Rattle.std.proofs.lemmas.Bool.{cases_eq, eq-eqb, ne_eqb}
use Rattle.bucket_ring.specs.Lists.{list_at}
use Rattle.run_model.specs.declared.bucket.NamedBucket.{NamedBucket}
use Rattle.run_model.specs.declared.bucket.BrigadeVar.{BrigadeVar}
use Rattle.run_model.specs.declared.bucket.BrigadeVar.TheVariants as var
use Rattle.run_model.specs.declared.bucket.Mark.{Mark}
use Rattle.run_model.specs.declared.bucket.Mark.TheVariants.{Passed}
use Rattle.run_model.specs.declared.bucket.PoolVar.{PoolVar}
use Rattle.run_model.specs.declared.bucket.PoolVar.TheVariants as poolvar
use Rattle.run_model.specs.Buckets.{returned_bucket}
use Rattle.run_model.specs.Chains.{Frame, touched_instance, touched_frame}
use Rattle.run_model.specs.Effects.{handed_over, returned_var, with_items}
use Rattle.run_model.specs.Indexed.{upd}
use Rattle.run_model.specs.Passing.{given_back}
use Rattle.run_model.specs.State as model
use Rattle.run_model.specs.State.{items_of}
use Rattle.run_model.proofs.Updates.{upd_either, upd_at, upd_off}
use Rattle.bucket_store.specs.Items.{Items}
use Rattle.module_run.specs.declared.conn.Filter.{Filter}
use Rattle.interp_state.specs.declared.machine.Instance.{Instance}
use Rattle.interp_state.specs.declared.machine.Slot.{Slot}
use Rattle.interp_state.specs.declared.machine.Slot.TheVariants as slot
use Rattle.module_run.specs.Conns.{lent_by, shown_call, shown_filter, shown_frame, shown_instance}
use Rattle.interp_state.specs.Seen.{shown, shown_as, shown_slot}
use Rattle.interp_state.specs.Slots.{SameButSlots, marked, name_in, slot_at}
use Rattle.interp_calls.proofs.Returned.{RunsWithout, returned_items, returned_slot}

-- the brigades of an instance are as they were
abbrev pub AreAsWere : (ℕ → Option Items) → (ℕ → Option Items) → Instance → Type 0
AreAsWere L M i = (b n : ℕ) → name_in (slot_at i b) ≡ Some n → M n ≡ L n

returned_lent : (name : ℕ) (v : BrigadeVar) → handed_over (returned_var name v) ≡ returned_var name (handed_over v)
returned_lent name var.Null = refl
returned_lent name var.Gone = refl
returned_lent name (var.Live v) = refl

module _ (old new : ℕ → Bool) (name : ℕ) (gone : RunsWithout old new name) (L M : ℕ → Option Items) where
  one_slot : (s : Slot) → ((n : ℕ) → name_in s ≡ Some n → M n ≡ L n) → shown_slot new M s ≡ returned_var name (shown_slot old L s)
  one_slot s same = returned_slot old new name gone L M s (λ n pool mark is. same n (ap name_in is))

  by_slot : (i : Instance) → AreAsWere L M i → (b : ℕ) → shown_slot new M (slot_at i b) ≡ returned_var name (shown_slot old L (slot_at i b))
  by_slot i same b = one_slot (slot_at i b) (same b)

  pub returned_instance : (i : Instance) → AreAsWere L M i → shown_instance new M i ≡ touched_instance (returned_var name) (shown_instance old L i)
  returned_instance i same = ap (λ (bs : ℕ → BrigadeVar). record (shown_instance old L i) { brigades = bs }) (fun_ext (by_slot i same))

  lent_returned : (o : Option ℕ) (i : model.Instance) → lent_by o (touched_instance (returned_var name) i) ≡ touched_instance (returned_var name) (lent_by o i)
  lent_returned None i = refl
  lent_returned (Some b) i = ap (λ (bs : ℕ → BrigadeVar). record i { brigades = bs }) (fun_ext each) where
    after : ℕ → BrigadeVar
    after k = returned_var name (i.brigades k)

    each : (k : ℕ) → upd after b (handed_over (after b)) k ≡ returned_var name (upd i.brigades b (handed_over (i.brigades b)) k)
    each k = elim (upd_either i.brigades b k (handed_over (i.brigades b))) [
      | inl p ↦ ap (upd after b (handed_over (after b))) p.0 ∙ (upd_at after b (handed_over (after b)) ∙ (returned_lent name (i.brigades b) ∙ sym (ap (returned_var name) p.1)))
      | inr p ↦ upd_off after b k (handed_over (after b)) p.0 ∙ sym (ap (returned_var name) p.1)
    ]

  -- a filter whose brigades are as they were
  pub returned_filter : (o : Option Filter) → ((f : Filter) → o ≡ Some f → AreAsWere L M f.instance) → shown_filter new M o ≡ touched_instance (returned_var name) (shown_filter old L o)
  returned_filter None same = refl
  returned_filter (Some f) same = ap (lent_by f.lent) (returned_instance f.instance (same f refl)) ∙ lent_returned f.lent (shown_instance old L f.instance)

  -- and its call, with its loose buckets
  pub returned_frame : (k : ℕ) (o : Option Filter) → ((f : Filter) → o ≡ Some f → M f.call.name ≡ L f.call.name) → shown_frame new M k o ≡ touched_frame (returned_bucket name) (shown_frame old L k o)
  returned_frame k None same = refl
  returned_frame k (Some f) same = ap with_loose (ap (λ (o : Option Items). shown new (option_map_or (λ bs. bs) o [])) (same f refl) ∙ returned_items old new name gone (list_at L f.call.name)) where
    with_loose : List NamedBucket → Frame
    with_loose items = record { of = k; call = record (shown_call old L f.call) { loose = items }; pc = f.call.pc }

  -- the instance whose call it was
  pub ended_instance : (i i' : Instance) → ((a : ℕ) → slot_at i' a ≡ (if a == 8 then slot.Null else slot_at i a)) → SameButSlots i i' → ((b n : ℕ) → b ≢ 8 → name_in (slot_at i b) ≡ Some n → M n ≡ L n)
      → shown_instance new M i' ≡ record (shown_instance old L i) { brigades = λ b. if b == 8 then var.Null else returned_var name (shown_slot old L (slot_at i b)) }
  ended_instance i i' nulled rest same =
      ap (λ (t : Bool). record (shown_instance new M i') { left = t }) rest.left
      ∙ (ap (λ (bs : ℕ → BrigadeVar). made i'.pools bs i'.numbers i'.sent) (fun_ext each)
      ∙ (ap (λ (ps : List PoolVar). made ps after i'.numbers i'.sent) rest.pools
      ∙ (ap (λ (ns : List ℕ). made i.pools after ns i'.sent) rest.numbers
      ∙ ap (made i.pools after i.numbers) rest.sent))) where
        made : List PoolVar → (ℕ → BrigadeVar) → List ℕ → Bool → model.Instance
        made ps bs ns sent = record { pools = λ p. slice_index_or ps p poolvar.Null; brigades = bs; numbers = λ n. slice_index_or ns n 0; sent = sent; left = i.left }

        after : ℕ → BrigadeVar
        after b = if b == 8 then var.Null else returned_var name (shown_slot old L (slot_at i b))

        each : (b : ℕ) → shown_slot new M (slot_at i' b) ≡ after b
        each b = elim (cases_eq b 8) [
          | inl e ↦ ap (shown_slot new M) (nulled b ∙ ap (λ (t : Bool). if t then slot.Null else slot_at i b) (eq-eqb b 8 e))
              ∙ sym (ap (λ (t : Bool). if t then var.Null else returned_var name (shown_slot old L (slot_at i b))) (eq-eqb b 8 e))
          | inr ne ↦ ap (shown_slot new M) (nulled b ∙ ap (λ (t : Bool). if t then slot.Null else slot_at i b) (ne_eqb b 8 ne))
              ∙ (one_slot (slot_at i b) (λ n. same b n ne) ∙ sym (ap (λ (t : Bool). if t then var.Null else returned_var name (shown_slot old L (slot_at i b))) (ne_eqb b 8 ne)))
        ]

  -- the brigade that was passed, where what is left of it is in the slot `in`
  kept_slot : (s came : Slot) (m : ℕ) → s ≡ marked Passed s → name_in s ≡ Some m → name_in came ≡ Some m → M m ≡ L m
      → shown_slot new M s ≡ with_items (map (returned_bucket name) (items_of (shown_slot old L came))) (returned_var name (handed_over (shown_slot old L s)))
  kept_slot slot.Null came m mark is there same = absurd (cc)
  kept_slot (slot.Made n pool mark) slot.Null m passed is there same = absurd (cc)
  kept_slot (slot.Made n pool mark) (slot.Made j on usable) m passed is there same =
      let e : mark ≡ Passed = cc in
      let n_is : n ≡ m = cc in
      let j_is : j ≡ m = cc in
      ap (λ (i : ℕ). shown_as new n pool mark (M i)) n_is ∙ (ap (λ (o : Option Items). shown_as new n pool mark o) same ∙ (ap (λ (k : Mark). shown_as new n pool k (L m)) e ∙ (go (L m)
      ∙ ap (λ (i : ℕ). with_items (map (returned_bucket name) (items_of (shown_as old j on usable (L m)))) (returned_var name (handed_over (shown_as old n pool mark (L i))))) (sym n_is)
      ∙ ap (λ (i : ℕ). with_items (map (returned_bucket name) (items_of (shown_as old j on usable (L i)))) (returned_var name (handed_over (shown_as old n pool mark (L n))))) (sym j_is)))) where
        go : (o : Option Items)
            → shown_as new n pool Passed o ≡ with_items (map (returned_bucket name) (items_of (shown_as old j on usable o))) (returned_var name (handed_over (shown_as old n pool mark o)))
        go None = refl
        go (Some xs) = ap (λ (items : List NamedBucket). var.Live (record { name = n; on = pool; mark = Passed; items = items })) (returned_items old new name gone xs)

  -- the filter that has its brigade again
  pub given_instance : (i : Instance) (b m : ℕ) (came : Slot) → AreAsWere L M i → slot_at i b ≡ marked Passed (slot_at i b) → name_in (slot_at i b) ≡ Some m → name_in came ≡ Some m
      → shown_instance new M i ≡ given_back b (map (returned_bucket name) (items_of (shown_slot old L came))) (touched_instance (returned_var name) (lent_by (Some b) (shown_instance old L i)))
  given_instance i b m came same passed is there = ap (λ (bs : ℕ → BrigadeVar). record (shown_instance old L i) { brigades = bs }) (fun_ext each) where
    was : ℕ → BrigadeVar
    was k = shown_slot old L (slot_at i k)

    left : List NamedBucket
    left = map (returned_bucket name) (items_of (shown_slot old L came))

    touched : ℕ → BrigadeVar
    touched k = returned_var name (upd was b (handed_over (was b)) k)

    each : (k : ℕ) → shown_slot new M (slot_at i k) ≡ upd touched b (with_items left (touched b)) k
    each k = elim (upd_either touched b k (with_items left (touched b))) [
      | inl p ↦ ap (λ (j : ℕ). shown_slot new M (slot_at i j)) p.0
          ∙ (kept_slot (slot_at i b) came m passed is there (same b m is)
          ∙ (ap (λ (v : BrigadeVar). with_items left (returned_var name v)) (sym (upd_at was b (handed_over (was b)))) ∙ sym p.1))
      | inr p ↦ by_slot i same k ∙ (ap (returned_var name) (sym (upd_off was b k (handed_over (was b)) p.0)) ∙ sym p.1)
    ]
