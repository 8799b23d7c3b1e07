-- What the effect wants is so, since there is no fault.
use Rattle.std.proofs.Common.{◌≡◌, ℕ, Bool, true, false, not, refl, sym, ap, ◌∙◌}
use Rattle.std.proofs.lemmas.Bool.{false≢true}
use Rattle.std.proofs.lemmas.Result.{on_err_weaker, on_ok_weaker}
use Rattle.module_code.specs.Program.{fits}
use Rattle.run_model.specs.BucketSteps.{items_at, names_to_part, names_to_split}
use Rattle.run_model.specs.Cursors.{at_cursor}
use Rattle.run_model.specs.Effects.{is_full}
use Rattle.run_model.specs.Faults.{InBrigade, InThis, WHome, WHomeAcross}
use Rattle.run_model.specs.Steps.{value_of}
use Rattle.run_model.specs.declared.effect.Effect.{Effect}
use Rattle.pool_tree.specs.Tree.{map_of}
use Rattle.brigade_ops.specs.Store.{brigade_of, lists, next_name, pool_of}
use Rattle.interp_state.proofs.LeftAlone.{left_none}
use Rattle.interp_state.specs.Context.{in_context}
use Rattle.interp_state.specs.Seen.{seen_over}
use Rattle.interp_state.specs.Slots.{name_in}
use Rattle.interp_state.proofs.HeldAlike.{held_slots}
use Rattle.interp_state.proofs.Faultless.{nowhere}
use Rattle.interp_state.proofs.Quiet.{grown_none}
use Rattle.run_model.specs.EffectOf.{instr_with}
use Rattle.interp_exec.specs.Grows.{grows_by}
use Rattle.interp_state.proofs.Needed.{faultless_at, met, stands, usable_live}
use Rattle.run_model.proofs.WithEffects.{made_cursor}
use Rattle.interp_exec.proofs.execute_on_store.execute_on_store.Goals as goal

pub make_bucket-requires-clause-cursor : goal.make_bucket-requires-clause-cursor
make_bucket-requires-clause-cursor g c = made_cursor c.args.code.now c.in-Make.c c.in-Make.source (sym (ap (λ (e : Effect). fits c.args.code.now (instr_with e)) c.in-Make.is) ∙ c.requires.fit)

pub change_number-requires-clause-faultless : goal.change_number-requires-clause-faultless
change_number-requires-clause-faultless g c = (in_context c.args.context.now (map_of c.args.tree.now) nowhere, faultless_at (c.requires.faultless nowhere) c.in-Number.is)

pub make_bucket-requires-clause-faultless : goal.make_bucket-requires-clause-faultless
make_bucket-requires-clause-faultless g c = λ view. faultless_at (c.requires.faultless view) c.in-Make.is

pub returns-in-Make-clause-ok : goal.returns-in-Make-clause-ok
returns-in-Make-clause-ok g c = rw c.in-Make.is c.make_bucket.ensures.ok

pub move_buckets-requires-clause-faultless : goal.move_buckets-requires-clause-faultless
move_buckets-requires-clause-faultless g c = (in_context c.args.context.now (map_of c.args.tree.now) nowhere, c.requires.faultless nowhere)

pub split-requires-clause-stands : goal.split-requires-clause-stands
split-requires-clause-stands g c = stands (c.requires.faultless nowhere) c.in-Split.is 0 c.in-Split.c InBrigade refl

pub returns-in-Split-clause-ok : goal.returns-in-Split-clause-ok
returns-in-Split-clause-ok g c =
    rw c.in-Split.is (on_ok_weaker c.split.result (λ out view choice.
    let over = in_context c.args.context.now (map_of c.args.tree.now) view in
    rw (c.from-n.ensures ∙ c.value_of.ensures (lists c.args.store.now) (next_name c.args.store.now) over c.args.call.now) at
    (out over (met (c.requires.faultless view) c.in-Split.is 1 (WHome c.in-Split.c) refl)))
    c.split.ensures.ok)

pub concat-requires-clause-live_first : goal.concat-requires-clause-live_first
concat-requires-clause-live_first g c = usable_live (c.requires.faultless nowhere) c.in-Concat.is 0 c.in-Concat.a refl

pub concat-requires-clause-live_second : goal.concat-requires-clause-live_second
concat-requires-clause-live_second g c = usable_live (c.requires.faultless nowhere) c.in-Concat.is 1 c.in-Concat.b refl

pub bsplit-requires-clause-live_from : goal.bsplit-requires-clause-live_from
bsplit-requires-clause-live_from g c = usable_live (c.requires.faultless nowhere) c.in-SplitBrigade.is 0 c.in-SplitBrigade.b refl

pub bsplit-requires-clause-live_into : goal.bsplit-requires-clause-live_into
bsplit-requires-clause-live_into g c = usable_live (c.requires.faultless nowhere) c.in-SplitBrigade.is 2 c.in-SplitBrigade.a refl

pub bpart-requires-clause-live : goal.bpart-requires-clause-live
bpart-requires-clause-live g c = usable_live (c.requires.faultless nowhere) c.in-PartBrigade.is 0 c.in-PartBrigade.b refl

pub bsplit-requires-clause-stands : goal.bsplit-requires-clause-stands
bsplit-requires-clause-stands g c = stands (c.requires.faultless nowhere) c.in-SplitBrigade.is 1 c.in-SplitBrigade.c (InThis c.in-SplitBrigade.b) refl

pub returns-in-PartBrigade-clause-ok : goal.returns-in-PartBrigade-clause-ok
returns-in-PartBrigade-clause-ok g c =
    rw c.in-PartBrigade.is (on_ok_weaker c.bpart.result (λ out view choice.
    let over = in_context c.args.context.now (map_of c.args.tree.now) view in
    let point = c.from-point.ensures ∙ c.value_of-in-PartBrigade.ensures (lists c.args.store.now) (next_name c.args.store.now) over c.args.call.now in
    rw point at (out over (rw point (met (c.requires.faultless view) c.in-PartBrigade.is 1 (WHomeAcross c.in-PartBrigade.b c.in-PartBrigade.x) refl))))
    c.bpart.ensures.ok)

pub returns-in-Concat-clause-left : goal.returns-in-Concat-clause-left
returns-in-Concat-clause-left g c = c.concat.ensures.left c.args.call.now

pub returns-in-PartBrigade-clause-sure : goal.returns-in-PartBrigade-clause-sure
returns-in-PartBrigade-clause-sure g c view none =
    let over = in_context c.args.context.now (map_of c.args.tree.now) view in
    let r = seen_over (lists c.args.store.now) (next_name c.args.store.now) over c.args.instance.now c.args.call.now in
    let at = c.from-point.ensures ∙ c.value_of-in-PartBrigade.ensures (lists c.args.store.now) (next_name c.args.store.now) over c.args.call.now in
    c.bpart.ensures.sure over (ap (λ (n : ℕ). names_to_part n (items_at r c.in-PartBrigade.b)) at
    ∙ (grown_none (names_to_part (value_of r c.in-PartBrigade.x) (items_at r c.in-PartBrigade.b)) 0 false (sym (ap (grows_by r) c.in-PartBrigade.is) ∙ none)).0)

not_full : (t : Bool) → not t ≡ false → t ≡ true
not_full true e = refl
not_full false e = absurd (false≢true (sym e))

pub returns-in-Nothing-clause-ok : goal.returns-in-Nothing-clause-ok
returns-in-Nothing-clause-ok g c = rw c.in-Nothing.is (λ view choice. refl)

pub returns-in-Number-clause-ok : goal.returns-in-Number-clause-ok
returns-in-Number-clause-ok g c = rw c.in-Number.is (λ view choice. c.change_number.ensures.new (in_context c.args.context.now (map_of c.args.tree.now) view))

pub returns-in-Put-clause-ok : goal.returns-in-Put-clause-ok
returns-in-Put-clause-ok g c =
    rw c.in-Put.is (on_ok_weaker c.put.result (λ made view choice.
    made (lists c.args.store.now) (next_name c.args.store.now) (in_context c.args.context.now (map_of c.args.tree.now) view)) c.put.ensures.ok)

pub returns-in-Concat-clause-ok : goal.returns-in-Concat-clause-ok
returns-in-Concat-clause-ok g c =
    rw c.in-Concat.is (λ view choice. c.concat.ensures.new (in_context c.args.context.now (map_of c.args.tree.now) view) c.args.call.now c.requires.held)

pub returns-in-SplitBrigade-clause-ok : goal.returns-in-SplitBrigade-clause-ok
returns-in-SplitBrigade-clause-ok g c =
    rw c.in-SplitBrigade.is (λ view choice. c.bsplit.ensures.new (in_context c.args.context.now (map_of c.args.tree.now) view))

pub returns-in-Clean-clause-ok : goal.returns-in-Clean-clause-ok
returns-in-Clean-clause-ok g c view choice = c.move_buckets.ensures.state (in_context c.args.context.now (map_of c.args.tree.now) view) choice

pub returns-in-Put-clause-err : goal.returns-in-Put-clause-err
returns-in-Put-clause-err g c = on_err_weaker c.put.result (λ same view. same (lists c.args.store.now) (next_name c.args.store.now) view) c.put.ensures.err

pub returns-in-Put-clause-sure : goal.returns-in-Put-clause-sure
returns-in-Put-clause-sure g c view none =
    let over = in_context c.args.context.now (map_of c.args.tree.now) view in
    let r = seen_over (lists c.args.store.now) (next_name c.args.store.now) over c.args.instance.now c.args.call.now in
    c.put.ensures.sure (lists c.args.store.now) (next_name c.args.store.now) over
    (not_full (is_full r c.in-Put.x) (grown_none 0 0 (not (is_full r c.in-Put.x)) (sym (ap (grows_by r) c.in-Put.is) ∙ none)).1)

pub returns-in-Make-clause-sure : goal.returns-in-Make-clause-sure
returns-in-Make-clause-sure g c view none =
    let over = in_context c.args.context.now (map_of c.args.tree.now) view in
    let r = seen_over (lists c.args.store.now) (next_name c.args.store.now) over c.args.instance.now c.args.call.now in
    absurd (false≢true (sym none ∙ ap (grows_by r) c.in-Make.is))

pub returns-in-Split-clause-sure : goal.returns-in-Split-clause-sure
returns-in-Split-clause-sure g c view none =
    let over = in_context c.args.context.now (map_of c.args.tree.now) view in
    let r = seen_over (lists c.args.store.now) (next_name c.args.store.now) over c.args.instance.now c.args.call.now in
    let at = c.from-n.ensures ∙ c.value_of.ensures (lists c.args.store.now) (next_name c.args.store.now) over c.args.call.now in
    c.split.ensures.sure over (ap (λ (n : ℕ). names_to_split n (at_cursor r c.in-Split.c)) at
    ∙ (grown_none (names_to_split (value_of r c.in-Split.x) (at_cursor r c.in-Split.c)) 0 false (sym (ap (grows_by r) c.in-Split.is) ∙ none)).0)

pub returns-in-Put-clause-held : goal.returns-in-Put-clause-held
returns-in-Put-clause-held g c = c.put.ensures.held (brigade_of c.args.store.now) (lists c.args.store.now) (pool_of c.args.store.now) (next_name c.args.store.now) c.requires.held

pub returns-in-Concat-clause-held : goal.returns-in-Concat-clause-held
returns-in-Concat-clause-held g c = c.concat.ensures.held c.args.call.now c.requires.held

pub returns-in-Nothing-clause-left : goal.returns-in-Nothing-clause-left
returns-in-Nothing-clause-left g c = left_none c.args.store.now c.args.instance.now c.args.call.now

pub returns-in-Number-clause-left : goal.returns-in-Number-clause-left
returns-in-Number-clause-left g c = left_none c.args.store.now c.args.instance.now c.args.call.now

pub returns-in-Put-clause-left : goal.returns-in-Put-clause-left
returns-in-Put-clause-left g c = left_none c.args.store.now c.args.instance.now c.args.call.now

pub returns-in-ClearBuffer-clause-left : goal.returns-in-ClearBuffer-clause-left
returns-in-ClearBuffer-clause-left g c = left_none c.args.store.now c.args.instance.now c.args.call.now

pub returns-in-Leave-clause-left : goal.returns-in-Leave-clause-left
returns-in-Leave-clause-left g c = left_none c.args.store.now c.args.instance.now c.args.call.now

pub returns-in-Leave-clause-ok : goal.returns-in-Leave-clause-ok
returns-in-Leave-clause-ok g c = λ view choice. rw c.in-Leave.is
    (c.leave.ensures.seen (lists c.args.store.now) (next_name c.args.store.now) (in_context c.args.context.now (map_of c.args.tree.now) view) c.args.call.now)

pub returns-in-Leave-clause-held : goal.returns-in-Leave-clause-held
returns-in-Leave-clause-held g c =
    let s = c.args.store.now in
    held_slots (brigade_of s) (lists s) (pool_of s) (next_name s) c.args.instance.now c.leave.new.self c.args.call.now c.leave.ensures.slots c.requires.held

pub returns-in-Leave-clause-slots : goal.returns-in-Leave-clause-slots
returns-in-Leave-clause-slots g c = λ b. ap name_in (c.leave.ensures.slots b)
