-- The bucket of the name tells its home.
use Rattle.std.proofs.Common.{◌≡◌, true, is_some, ap, ◌∙◌}
use Rattle.std.specs.Bool.{then_some}
use Rattle.run_model.specs.declared.fault.FaultKind.TheVariants.{F5}
use Rattle.run_model.specs.Buckets.{is_ended}
use Rattle.brigade_ops.specs.Store.{brigade_of, bucket_at}
use Rattle.bucket_store.proofs.Walks.{told_some}
use Rattle.interp_state.specs.Seen.{is_running}
use Rattle.interp_state.proofs.Running.{bucket_there, fault_of_home}
use Rattle.interp_checks.proofs.LiveContents.{some_where}
use Rattle.interp_checks.proofs.home_wants.home_fault.Goals as goal

pub returns : goal.returns
returns g c =
    let s = c.args.store.now in
    let id = c.in-Some.id in
    let x = bucket_there s id (told_some (λ j. is_some (brigade_of s j) ≡ true) c.args.bucket c.requires id c.in-Some.is) in
    c.then_some.ensures
    ∙ (ap (λ t. then_some t F5) (c.is_ended.ensures ∙ ap is_ended (c.home_of.ensures x.0 x.1))
    ∙ (some_where _ F5 ∙ fault_of_home (is_running c.args.call.now.name c.args.context.now.waits.now) (bucket_at s) id x.0 c.args.bucket c.in-Some.is x.1))
