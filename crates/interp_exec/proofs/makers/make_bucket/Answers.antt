-- What is made stands behind the loose ones, and at the cursor.
use Rattle.std.proofs.Common.{ℕ, ◌+◌, ◌≤◌, Option, sym, ap, ◌∙◌, arith}
use Rattle.bucket_ring.specs.Lists.{put_tail}
use Rattle.run_model.specs.BucketSteps.{do_make}
use Rattle.run_model.specs.declared.bucket.Bucket.{Bucket}
use Rattle.pool_tree.specs.Tree.{map_of}
use Rattle.brigade_ops.specs.Store.{lists, brigade_of, pool_of, next_name}
use Rattle.interp_state.specs.Context.{in_context}
use Rattle.interp_state.specs.Seen.{seen_over}
use Rattle.interp_state.proofs.LeftAlone.{left_on, left_same, ours_loose}
use Rattle.interp_state.proofs.Names.{apart_in, no_less}
use Rattle.interp_exec.proofs.Makes.{held_same, made, made_held}
use Rattle.interp_exec.proofs.makers.make_bucket.Goals as goal

pub returns-clause-ok : goal.returns-clause-ok
returns-clause-ok g c =
    λ view choice.
    let old = c.args.store.now in
    let over = in_context c.args.context.now (map_of c.args.tree.now) view in
    let i = c.args.instance.now in
    let new = c.in_ok-id.ensures.ok in
    ap (λ (k : ℕ). seen_over (lists c.add_made.new.store) k over i c.set_cursor.new.self) new.1.0.next
    ∙ (made (lists old) (lists c.add_made.new.store) (next_name old) over i c.args.call.now c.in_ok-id.id new.0 c.set_cursor.new.self c.args.c
    (apart_in (brigade_of old) (lists old) (pool_of old) (next_name old) i c.args.call.now c.requires.held) (c.requires.held.runs c.requires.runs) new.1.0.name new.1.0.out
    (c.set_cursor.ensures.seen (lists c.add_made.new.store) (next_name old + 1) over i)
    ∙ ap (λ (o : Option Bucket). do_make c.args.c o (seen_over (lists old) (next_name old) over i c.args.call.now)) (sym (new.1.1 view)))

pub returns-clause-held : goal.returns-clause-held
returns-clause-held g c =
    let new = c.in_ok-id.ensures.ok in
    let rises : next_name c.args.store.now ≤ next_name c.add_made.new.store = let e = new.1.0.next in omega (arith, e) in
    made_held c.args.store.now c.add_made.new.store c.args.call.now.name c.in_ok-id.id new.0
    (c.requires.held.runs c.requires.runs) new.1.0.out c.args.instance.now c.args.call.now c.set_cursor.new.self c.args.c
    rises c.add_made.ensures.names c.add_made.ensures.pools c.set_cursor.ensures.name c.set_cursor.ensures.cursors c.requires.held

pub returns-clause-left : goal.returns-clause-left
returns-clause-left g c =
    let new = c.in_ok-id.ensures.ok in
    let rises : next_name c.args.store.now ≤ next_name c.add_made.new.store = let e = new.1.0.next in omega (arith, e) in
    left_on c.args.store.now c.add_made.new.store rises c.add_made.ensures.names c.add_made.ensures.pools c.add_made.ensures.references c.add_made.ensures.unasked
    c.args.call.now.name (put_tail (c.in_ok-id.id, new.0)) new.1.0.out c.args.instance.now c.args.call.now (ours_loose c.args.instance.now c.args.call.now)

pub returns-in_err-id-clause-held : goal.returns-in_err-id-clause-held
returns-in_err-id-clause-held g c =
    held_same c.args.store.now c.add_made.new.store c.in_err-id.ensures.next c.add_made.ensures.names c.add_made.ensures.pools c.in_err-id.ensures.err
    c.args.instance.now c.args.call.now c.requires.held

pub returns-in_err-id-clause-left : goal.returns-in_err-id-clause-left
returns-in_err-id-clause-left g c =
    left_same c.args.store.now c.add_made.new.store (no_less (next_name c.args.store.now) (next_name c.add_made.new.store) c.in_err-id.ensures.next)
    c.add_made.ensures.names c.add_made.ensures.pools c.add_made.ensures.references c.add_made.ensures.unasked c.in_err-id.ensures.err c.args.instance.now c.args.call.now
