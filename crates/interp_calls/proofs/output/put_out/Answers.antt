-- The brigade of the variable is there, or nothing is put out.
use Rattle.std.proofs.Common.{◌≡◌, ℕ, true, Option, Some, None, is_some, List, All, not, ◌&&◌, refl, sym, ap, subst, ◌∙◌}
use Rattle.std.proofs.lemmas.Result.{IfOk-weaker}
use Rattle.bucket_ring.specs.Lists.{list_at}
use Rattle.run_model.specs.declared.bucket.NamedBucket.{NamedBucket}
use Rattle.run_model.specs.Steps.{has_bytes}
use Rattle.brigade_ops.specs.Store.{lists, next_name}
use Rattle.interp_calls.specs.Delivery.{WasDelivered, out_of}
use Rattle.interp_state.specs.Given.{RangeIsOpen}
use Rattle.interp_state.specs.Seen.{calls_in}
use Rattle.interp_state.specs.Slots.{live_in, name_in}
use Rattle.interp_state.specs.declared.machine.Slot.{Slot}
use Rattle.interp_state.specs.declared.machine.Slot.TheVariants as slot
use Rattle.bucket_store.specs.Items.{Items}
use Rattle.brigade_ops.proofs.Stores.{bucket_found}
use Rattle.interp_state.proofs.Items.{items_dead, items_live}
use Rattle.interp_state.proofs.OpenFiles.{open_found}
use Rattle.interp_calls.proofs.Delivering.{none_delivered}
use Rattle.interp_calls.proofs.output.put_out.Goals as goal

-- a brigade that is there is live
made_live : (L : ℕ → Option Items) (s : Slot) (n : ℕ) → name_in s ≡ Some n → is_some (L n) ≡ true → live_in L s ≡ Some n
made_live L slot.Null n e there = absurd (cc)
made_live L (slot.Made m pool mark) n e there = let same : m ≡ n = cc in ap (λ (k : ℕ). live_in (λ (j : ℕ). L k) (slot.Made k pool mark)) same ∙ go (L n) there where
  go : (o : Option Items) → is_some o ≡ true → live_in (λ (j : ℕ). o) (slot.Made n pool mark) ≡ Some n
  go None some = absurd (cc)
  go (Some xs) some = refl

pub add_brigade-requires-clause-there : goal.add_brigade-requires-clause-there
add_brigade-requires-clause-there g c = c.requires.there c.in-Made.name (ap name_in (sym c.in-Made.ensures))

pub add_brigade-requires-clause-ends : goal.add_brigade-requires-clause-ends
add_brigade-requires-clause-ends g c = λ id x at is. c.requires.ends c.args.b c.in-Made.name id x (ap name_in (sym c.in-Made.ensures)) at is

pub add_brigade-requires-clause-open : goal.add_brigade-requires-clause-open
add_brigade-requires-clause-open g c =
    λ id x at is.
    let s = c.args.store.now in
    let around = c.requires.open.0 in
    let call = c.requires.open.1 in
    let d = g.F.Files.device c.args.files.now in
    let named = ap name_in (sym c.in-Made.ensures) in
    let has = subst (λ (xs : List NamedBucket). All (RangeIsOpen d) xs) (items_live (lists s) (next_name s) around c.args.instance.now call c.args.b c.in-Made.name
    (made_live (lists s) _ c.in-Made.name named (c.requires.there c.in-Made.name named))) c.requires.open.2 in
    open_found d (calls_in around call) id x (list_at (lists s) c.in-Made.name) has (bucket_found s id c.in-Made.name x at is)

pub returns-in-Made-clause-delivered : goal.returns-in-Made-clause-delivered
returns-in-Made-clause-delivered g c =
    let s = c.args.store.now in
    let i = c.args.instance.now in
    let named = ap name_in (sym c.in-Made.ensures) in
    let live = made_live (lists s) _ c.in-Made.name named (c.requires.there c.in-Made.name named) in
    IfOk-weaker c.add_brigade.result _ _ (λ well same around call.
    subst (λ (items : List NamedBucket). WasDelivered (g.F.Files.device c.args.files.now) (g.F.Files.device c.add_brigade.new.files) (out_of c.args.out.now c.args.ended.now) items
    (out_of c.add_brigade.new.out c.add_brigade.new.ended) well)
    (sym (items_live (lists s) (next_name s) around i call c.args.b c.in-Made.name live)) (same (calls_in around call))) c.add_brigade.ensures.ok

pub returns-in-Made-clause-sure : goal.returns-in-Made-clause-sure
returns-in-Made-clause-sure g c around call none =
    let s = c.args.store.now in
    let i = c.args.instance.now in
    let named = ap name_in (sym c.in-Made.ensures) in
    let live = made_live (lists s) _ c.in-Made.name named (c.requires.there c.in-Made.name named) in
    let items = items_live (lists s) (next_name s) around i call c.args.b c.in-Made.name live in
    c.add_brigade.ensures.sure (calls_in around call) (sym (ap (λ (xs : List NamedBucket). not c.args.ended.now && has_bytes xs) items) ∙ none)

pub returns-in-Null-clause-delivered : goal.returns-in-Null-clause-delivered
returns-in-Null-clause-delivered g c around call =
    let s = c.args.store.now in
    let d = g.F.Files.device c.args.files.now in
    let dead : live_in (lists s) _ ≡ None = ap (live_in (lists s)) (sym c.in-Null.ensures) in
    subst (λ (items : List NamedBucket). WasDelivered d d (out_of c.args.out.now c.args.ended.now) items (out_of c.args.out.now c.args.ended.now) true)
    (sym (items_dead (lists s) (next_name s) around c.args.instance.now call c.args.b dead)) (none_delivered d c.args.out.now c.args.ended.now)
