-- Both brigades are there, and the first is on a pool, or nothing is saved.
use Rattle.std.proofs.Common.{◌≡◌, ◌++◌, [], ℕ, Option, Some, None, Bool, true, false, not, is_some, map, List, All, sym, ap, subst, ◌∙◌, refl, arith}
use Rattle.std.proofs.lemmas.Bool.{false≢true}
use Rattle.bucket_ring.specs.Lists.{list_at}
use Rattle.pool_tree.specs.Tree.{map_of}
use Rattle.bucket_store.specs.Items.{aside_item}
use Rattle.brigade_ops.specs.Store.{lists, brigade_of, pool_of, next_name, references}
use Rattle.bucket_kinds.specs.declared.stored.Stored.{Stored}
use Rattle.bucket_ring.specs.declared.rings.Rings.{Ghosts}
use Rattle.brigade_ops.specs.declared.store.Brigades.{Brigades}
use Rattle.run_model.specs.declared.bucket.Mark.{Mark}
use Rattle.interp_state.specs.declared.machine.Instance.{Instance}
use Rattle.interp_state.specs.declared.machine.Slot.TheVariants as slot
use Rattle.run_model.specs.declared.bucket.NamedBucket.{NamedBucket}
use Rattle.interp_state.specs.Given.{RangeIsOpen}
use Rattle.run_model.specs.BucketSteps.{items_at}
use Rattle.run_model.specs.Effects.{made_on, new_ref}
use Rattle.run_model.specs.Steps.{takes_reference}
use Rattle.interp_state.specs.Seen.{seen_over, shown, calls_in}
use Rattle.interp_state.specs.Slots.{slot_at, name_in}
use Rattle.interp_state.proofs.Slots.{named_there}
use Rattle.interp_state.proofs.Items.{items_live}
use Rattle.interp_state.proofs.LeftAlone.{rest_both, rest_same, ours_slot}
use Rattle.interp_state.proofs.OpenFiles.{refs_all, refs_same}
use Rattle.interp_state.proofs.Names.{apart_in, held_kept, no_less, still_same, still_both, by_result}
use Rattle.interp_exec.proofs.Saved.{made_loose, made_there, not_saved, saved}
use Rattle.interp_state.proofs.Quiet.{none_referred}
use Rattle.interp_exec.proofs.SetAside.{refs_shown}
use Rattle.interp_exec.proofs.Trees.{over_pools, on_both, on_both_err, seen_kept}
use Rattle.interp_exec.proofs.saves.save.Goals as goal
use Rattle.interp_exec.proofs.saves.save.Goals.{Else-is_none}

-- The brigade `to`, which is there, is in the variable o, and lies on a pool.
record IsInto {R : Type 0} {g : Ghosts R Stored} (store : Brigades R g) (i : Instance) (o to : ℕ) (mark : Mark) : Type 0 where
  pool : ℕ
  is : slot_at i o ≡ slot.Made to (Some pool) mark
  there : is_some (lists store to) ≡ true
  lies : pool_of store to ≡ Some pool

none_is : (o : Option ℕ) (t : Bool) → is_some o ≡ not t → t ≡ true → o ≡ None
none_is None t e f = refl
none_is (Some p) t e f = absurd (false≢true (sym (e ∙ ap not f)))

some_is : (o : Option ℕ) (t : Bool) → is_some o ≡ not t → t ≡ false → (p : ℕ) × (o ≡ Some p)
some_is None t e f = absurd (false≢true (e ∙ ap not f))
some_is (Some p) t e f = (p, refl)

pub returns-then-is_none-clause-ok : goal.returns-then-is_none-clause-ok
returns-then-is_none-clause-ok g c =
    λ view call held.
    let L = lists c.args.store.now in
    let k = next_name c.args.store.now in
    let i = c.args.instance.now in
    let these = over_pools (map_of c.args.tree.now) view in
    not_saved (seen_over L k these i call) c.args.o c.args.b (made_loose L k these i call c.args.o c.in-Made.to c.in-Made.field-2
    (sym c.in-Made.ensures ∙ ap (λ (p : Option ℕ). slot.Made c.in-Made.to p c.in-Made.field-2) (none_is c.in-Made.on c.is_none.result c.is_none.ensures c.if-is_none.true)))

pub save-requires-clause-onto : goal.save-requires-clause-onto
save-requires-clause-onto g c = named_there (lists c.args.store.now) (slot_at c.args.instance.now c.args.o) c.in-Made.to c.requires.live_into (ap name_in (sym c.in-Made.ensures))

pub save-requires-clause-apart : goal.save-requires-clause-apart
save-requires-clause-apart g c =
    λ e. c.requires.apart (c.requires.held c.args.o c.args.b c.brigade-from.result (ap name_in (sym c.in-Made.ensures) ∙ ap (λ (n : ℕ). Some n) e) c.brigade-from.ensures.name)

-- The brigade into which buckets are saved lies on a pool.
into : (g : _) (c : Else-is_none g) → IsInto c.args.store.now c.args.instance.now c.args.o c.in-Made.to c.in-Made.field-2
into g c =
    let s = c.args.store.now in
    let i = c.args.instance.now in
    let on = some_is c.in-Made.on c.is_none.result c.is_none.ensures c.if-is_none.false in
    let is : slot_at i c.args.o ≡ slot.Made c.in-Made.to (Some on.0) c.in-Made.field-2 = sym c.in-Made.ensures ∙ ap (λ (p : Option ℕ). slot.Made c.in-Made.to p c.in-Made.field-2) on.1 in
    let there = named_there (lists s) (slot_at i c.args.o) c.in-Made.to c.requires.live_into (ap name_in (sym c.in-Made.ensures)) in
    record {
      pool = on.0;
      is = is;
      there = there;
      lies = c.requires.on c.args.o c.in-Made.to (Some on.0) c.in-Made.field-2 (λ e. let first = c.requires.first in omega (arith, first, e)) is there;
    }

pub returns-clause-ok : goal.returns-clause-ok
returns-clause-ok g c =
    let s = c.args.store.now in
    let i = c.args.instance.now in
    let ps = map_of c.args.tree.now in
    let on = into g (goal.at.returns-clause-ok g c).Else-is_none in
    on_both c.save.result _ _ _ (λ out refs view call held.
    saved (lists s) (lists c.save.new.self) (next_name s) (next_name c.save.new.self) ps (map_of c.save.new.tree) view i call c.args.o c.args.b c.in-Made.to c.brigade-from.result on.pool
    c.in-Made.field-2 (apart_in (brigade_of s) (lists s) (pool_of s) (next_name s) i call held) c.requires.apart on.is on.there
    (c.brigade-from.ensures.live (lists s) c.requires.live_from) c.save.ensures.next (λ n. out on.pool n on.lies) (refs on.pool on.lies))
    c.save.ensures.ok c.save.ensures.registered

pub returns-clause-held : goal.returns-clause-held
returns-clause-held g c =
    λ call held.
    let s = c.args.store.now in
    let ps = map_of c.args.tree.now in
    let on = into g (goal.at.returns-clause-held g c).Else-is_none in
    held_kept s c.save.new.self (no_less (next_name s) (next_name c.save.new.self) c.save.ensures.next) c.save.ensures.names c.save.ensures.pools
    (by_result c.save.result _ _
    (λ out. still_both (lists s) (lists c.save.new.self) c.in-Made.to c.brigade-from.result (λ xs. xs ++ map (aside_item ps on.pool) (list_at (lists s) c.brigade-from.result)) (λ xs. [])
    (λ n. out on.pool n on.lies))
    (λ out. still_same (lists s) (lists c.save.new.self) out)
    c.save.ensures.ok c.save.ensures.err)
    c.args.instance.now call held

pub returns-clause-err : goal.returns-clause-err
returns-clause-err g c =
    let s = c.args.store.now in
    on_both_err c.save.result _ _ _ (λ out kept view call.
    seen_kept (lists s) (lists c.save.new.self) (next_name s) (next_name c.save.new.self) (map_of c.args.tree.now)
    (map_of c.save.new.tree) view c.args.instance.now call c.save.ensures.next kept out)
    c.save.ensures.err c.save.ensures.kept

pub returns-clause-left : goal.returns-clause-left
returns-clause-left g c =
    λ call.
    let s = c.args.store.now in
    let i = c.args.instance.now in
    let ps = map_of c.args.tree.now in
    let on = into g (goal.at.returns-clause-left g c).Else-is_none in
    let rises = no_less (next_name s) (next_name c.save.new.self) c.save.ensures.next in
    by_result c.save.result _ _
    (λ out. rest_both s c.save.new.self rises c.save.ensures.names c.save.ensures.pools c.save.ensures.unasked c.in-Made.to c.brigade-from.result
    (λ xs. xs ++ map (aside_item ps on.pool) (list_at (lists s) c.brigade-from.result)) (λ xs. []) (λ n. out on.pool n on.lies) i call
    (ours_slot i call c.args.o c.in-Made.to (ap name_in on.is)) (ours_slot i call c.args.b c.brigade-from.result c.brigade-from.ensures.name))
    (λ out. rest_same s c.save.new.self rises c.save.ensures.names (λ n. ap (λ (f : ℕ → Option ℕ). f n) c.save.ensures.pools) c.save.ensures.unasked out i call)
    c.save.ensures.ok c.save.ensures.err

pub returns-clause-open : goal.returns-clause-open
returns-clause-open g c =
    λ d view call opens.
    let s = c.args.store.now in
    let i = c.args.instance.now in
    let ps = map_of c.args.tree.now in
    let on = into g (goal.at.returns-clause-open g c).Else-is_none in
    let has = subst (λ (xs : List NamedBucket). All (RangeIsOpen d) xs)
    (items_live (lists s) (next_name s) view i call c.args.b c.brigade-from.result (c.brigade-from.ensures.live (lists s) c.requires.live_from)) opens in
    by_result c.save.result _ _
    (λ counts. refs_all d (calls_in view call) ps on.pool (list_at (lists s) c.brigade-from.result) (references s) (references c.save.new.self) (λ f. counts on.pool f on.lies) has)
    (λ same. refs_same d (references s) (references c.save.new.self) same)
    c.save.ensures.counted c.save.ensures.uncounted

pub returns-clause-sure : goal.returns-clause-sure
returns-clause-sure g c view call none =
    let s = c.args.store.now in
    let i = c.args.instance.now in
    let ps = map_of c.args.tree.now in
    let over = over_pools ps view in
    let on = into g (goal.at.returns-clause-sure g c).Else-is_none in
    let runs = calls_in over call in
    let r = seen_over (lists s) (next_name s) over i call in
    let made : made_on (r.instance.brigades c.args.o) ≡ Some on.pool = made_there (lists s) (next_name s) over i call c.args.o c.in-Made.to on.pool c.in-Made.field-2 on.is on.there in
    let items : items_at r c.args.b ≡ shown runs (list_at (lists s) c.brigade-from.result) =
    items_live (lists s) (next_name s) over i call c.args.b c.brigade-from.result (c.brigade-from.ensures.live (lists s) c.requires.live_from) in
    let quiet : takes_reference ps (Some on.pool) (shown runs (list_at (lists s) c.brigade-from.result)) ≡ false =
    sym (ap (λ (o : Option ℕ). takes_reference ps o (items_at r c.args.b)) made ∙ ap (takes_reference ps (Some on.pool)) items) ∙ none in
    c.save.ensures.sure on.pool on.lies
    (sym (refs_shown ps on.pool runs (list_at (lists s) c.brigade-from.result)) ∙ none_referred (new_ref ps on.pool) (shown runs (list_at (lists s) c.brigade-from.result)) quiet)
