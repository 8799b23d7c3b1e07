-- The brigade of the variable is there.
use Rattle.std.proofs.Common.{List, All, not, ◌&&◌, sym, ap, subst, ◌∙◌}
use Rattle.bucket_ring.specs.Lists.{list_at}
use Rattle.run_model.specs.declared.bucket.NamedBucket.{NamedBucket}
use Rattle.run_model.specs.Steps.{has_bytes}
use Rattle.brigade_ops.specs.Store.{lists, next_name}
use Rattle.interp_calls.specs.Delivery.{WasDelivered, out_of}
use Rattle.interp_state.specs.Given.{RangeIsOpen}
use Rattle.interp_state.specs.Seen.{calls_in}
use Rattle.brigade_ops.proofs.Stores.{bucket_found}
use Rattle.interp_state.proofs.Items.{items_live}
use Rattle.interp_state.proofs.OpenFiles.{open_found}
use Rattle.interp_calls.proofs.output.pass_out.Goals as goal

pub add_brigade-requires-clause-ends : goal.add_brigade-requires-clause-ends
add_brigade-requires-clause-ends g c =
    λ id x at is.
    let i = c.args.instance.now in
    c.requires.ends c.args.b c.brigade-name.result id x c.brigade-name.ensures.name at is

pub add_brigade-requires-clause-open : goal.add_brigade-requires-clause-open
add_brigade-requires-clause-open g c =
    λ id x at is.
    let s = c.args.store.now in
    let around = c.requires.open.0 in
    let call = c.requires.open.1 in
    let d = g.F.Files.device c.args.files.now in
    let has = subst (λ (xs : List NamedBucket). All (RangeIsOpen d) xs) (items_live (lists s) (next_name s) around c.args.instance.now call c.args.b c.brigade-name.result
    (c.brigade-name.ensures.live (lists c.args.store.now) c.requires.live)) c.requires.open.2 in
    open_found d (calls_in around call) id x (list_at (lists s) c.brigade-name.result) has (bucket_found s id c.brigade-name.result x at is)

pub returns-clause-delivered : goal.returns-clause-delivered
returns-clause-delivered g c =
    λ around call.
    let s = c.args.store.now in
    let i = c.args.instance.now in
    subst (λ (items : List NamedBucket). WasDelivered (g.F.Files.device c.args.files.now) (g.F.Files.device c.add_brigade.new.files) (out_of c.args.out.now c.args.ended.now) items
    (out_of c.add_brigade.new.out c.add_brigade.new.ended) c.in_ok-well.well)
    (sym (items_live (lists s) (next_name s) around i call c.args.b c.brigade-name.result (c.brigade-name.ensures.live (lists c.args.store.now) c.requires.live)))
    (c.in_ok-well.ensures.ok (calls_in around call))

pub returns-in_err-well-clause-sure : goal.returns-in_err-well-clause-sure
returns-in_err-well-clause-sure g c around call none =
    let s = c.args.store.now in
    let i = c.args.instance.now in
    let items = items_live (lists s) (next_name s) around i call c.args.b c.brigade-name.result (c.brigade-name.ensures.live (lists c.args.store.now) c.requires.live) in
    let sure = c.in_err-well.ensures.sure (calls_in around call) (sym (ap (λ (xs : List NamedBucket). not c.args.ended.now && has_bytes xs) items) ∙ none) in
    absurd (cc sure)
