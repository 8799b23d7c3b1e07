-- By the new ring, which is empty.
use Rattle.std.proofs.Common.{◌∙◌, ap, ℕ, [], Some}
use Rattle.bucket_ring.specs.Lists.{upd}
use Rattle.brigade_ops.specs.Store.{lists}
use Rattle.interp_calls.proofs.Begins.{held_begun, seen_begun}
use Rattle.interp_calls.proofs.calls.begin_call.Goals as goal

pub returns-clause-seen : goal.returns-clause-seen
returns-clause-seen g c view =
    seen_begun c.args.store.now c.loose.new.self c.args.instance.now c.args.call.now c.start.new.self c.requires.held c.requires.idle
    (λ n. c.in_ok-name.ensures.ok n ∙ ap (λ (j : ℕ). upd (lists c.args.store.now) j (Some []) n) c.in_ok-name.ensures.name)
    (c.start.ensures.name ∙ c.in_ok-name.ensures.name) c.start.ensures.cursors c.args.pc view c.in_ok-name.ensures.next c.start.ensures.buffer c.start.ensures.pc

pub returns-clause-held : goal.returns-clause-held
returns-clause-held g c =
    held_begun c.args.store.now c.loose.new.self c.args.instance.now c.args.call.now c.start.new.self c.requires.held c.requires.idle
    (λ n. c.in_ok-name.ensures.ok n ∙ ap (λ (j : ℕ). upd (lists c.args.store.now) j (Some []) n) c.in_ok-name.ensures.name)
    (c.start.ensures.name ∙ c.in_ok-name.ensures.name) c.start.ensures.cursors c.in_ok-name.ensures.next c.loose.ensures.names c.loose.ensures.pools c.requires.free
