-- What was taken stands behind what was there.
use Rattle.std.proofs.Common.{◌≡◌, Bool, true, false, not, ◌&&◌, sym, ap, ◌∙◌, rules}
use Rattle.run_model.specs.Steps.{has_bytes}
use Rattle.interp_state.proofs.Quiet.{bytes_shown, ok_never}
use Rattle.bucket_ring.specs.Lists.{list_at}
use Rattle.brigade_ops.specs.Store.{lists}
use Rattle.interp_state.specs.Seen.{shown}
use Rattle.interp_calls.proofs.Delivering.{was_ended, was_delivered}
use Rattle.interp_calls.proofs.output.add_brigade.Goals as goal

pub returns-then-ended-clause-ok : goal.returns-then-ended-clause-ok
returns-then-ended-clause-ok g c =
    λ runs.
    let ended : c.args.ended.now ≡ true = search rules in
    was_ended (g.F.Files.device c.args.files.now) c.args.out.now c.args.ended.now (shown runs (list_at (lists c.args.store.now) c.args.b)) ended

pub returns-clause-ok : goal.returns-clause-ok
returns-clause-ok g c =
    λ runs.
    let t = c.in-Ok.ensures.added in
    let open_to : c.args.ended.now ≡ false = search rules in
    was_delivered (g.F.Files.device c.args.files.now) (g.F.Files.device c.add_all.new.files) runs
    (list_at (lists c.args.store.now) c.args.b) c.in-Ok.met.whole t.added c.args.out.now c.add_all.new.self c.args.ended.now c.ends.result open_to t.taken_so t.grown
    (c.ends.ensures runs)

pub returns-in_default-clause-sure : goal.returns-in_default-clause-sure
returns-in_default-clause-sure g c runs none =
    let open_to : c.args.ended.now ≡ false = search rules in
    let quiet : has_bytes (shown runs (list_at (lists c.args.store.now) c.args.b)) ≡ false =
    sym (ap (λ (t : Bool). not t && has_bytes (shown runs (list_at (lists c.args.store.now) c.args.b))) open_to) ∙ none in
    let sure = c.add_all.ensures.sure (sym (bytes_shown runs (list_at (lists c.args.store.now) c.args.b)) ∙ quiet) in
    absurd (ok_never c.add_all.result sure c.in_default.not-Ok)
