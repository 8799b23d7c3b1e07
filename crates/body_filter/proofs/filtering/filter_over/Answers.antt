use Rattle.std.proofs.Common.{◌∙◌, ap}
use Rattle.std.proofs.lemmas.Result.{err_from_is_err_and}
use Rattle.run_model.specs.Files.{no_files}
use Rattle.byte_streams.specs.Counted.{source_of}
use Rattle.bucket_kinds.specs.MemDevice.{device_of, failures_of, mem_device}
use Rattle.bucket_kinds.specs.declared.mem_files.MemFiles.{MemFiles}
use Rattle.body_filter.proofs.Opened.{filtered, filtered_up_to, hostless, open_alive, out_alive, out_safe, refused_end, unopened}
use Rattle.body_filter.proofs.SafeCalls.{end_well, event_unfaulted, safe_event}
use Rattle.body_filter.proofs.filtering.filter_over.Goals as goal

pub returns-in_err-host-clause-err : goal.returns-in_err-host-clause-err
returns-in_err-host-clause-err g c =
    let p = err_from_is_err_and c.from_residual.result c.from_residual.ensures.1 in
    rw (p.1, p.2) (hostless c.args.limits.budget c.args.chain _ _)

pub run_out-requires : goal.run_out-requires
run_out-requires g c = open_alive c.in_ok-host.host c.open_conn.new.self c.in-Ok.number (_, c.in_ok-host.ensures.empty) c.in-Ok.ensures.event

pub feed-requires : goal.feed-requires
feed-requires g c =
    out_alive c.open_conn.new.self c.run_out.new.host c.in-Ok.number c.run_out.result
    (open_alive c.in_ok-host.host c.open_conn.new.self c.in-Ok.number (_, c.in_ok-host.ensures.empty) c.in-Ok.ensures.event) c.run_out.ensures.leads

pub returns-in_err-feed-in-Ok-clause-err : goal.returns-in_err-feed-in-Ok-clause-err
returns-in_err-feed-in-Ok-clause-err g c =
    let e = c.in_ok-host.ensures in
    let device = ap (λ (m : MemFiles). mem_device m) e.files ∙ (ap
    (λ fs. device_of fs (failures_of c.new.result)) c.new.ensures.files ∙ ap (device_of no_files) c.new.ensures.failures) in
    let p = err_from_is_err_and c.from_residual-in_err-feed-in-Ok.result c.from_residual-in_err-feed-in-Ok.ensures.1 in
    rw (p.1, p.2) (filtered_up_to c.in_ok-host.host c.open_conn.new.self c.run_out.new.host c.feed.new.host c.args.limits.budget c.args.chain e.empty e.budget e.chain device c.in-Ok.number
    c.run_out.result _ _ _ _ c.in-Ok.ensures.event c.run_out.ensures.leads _ c.in_err-feed-in-Ok.ensures.leads)

pub returns-in-Ok-clause-ok : goal.returns-in-Ok-clause-ok
returns-in-Ok-clause-ok g c =
    let e = c.in_ok-host.ensures in
    let device = ap (λ (m : MemFiles). mem_device m) e.files ∙ (ap
    (λ fs. device_of fs (failures_of c.new.result)) c.new.ensures.files ∙ ap (device_of no_files) c.new.ensures.failures) in
    filtered c.in_ok-host.host c.open_conn.new.self c.run_out.new.host c.feed.new.host c.args.limits.budget c.args.chain e.empty e.budget e.chain device c.in-Ok.number
    c.run_out.result _ _ _ (g.S.Source.remaining
    (source_of c.feed.new.reader)) c.in-Ok.ensures.event c.run_out.ensures.leads c.in_ok-feed-in-Ok.field-0 c.body_end.result c.body_end.ensures c.in_ok-feed-in-Ok.ensures.leads

pub returns-clause-ok : goal.returns-clause-ok
returns-clause-ok g c =
    let e = c.in_ok-host.ensures in
    let device = ap (λ (m : MemFiles). mem_device m) e.files ∙ (ap
    (λ fs. device_of fs (failures_of c.new.result)) c.new.ensures.files ∙ ap (device_of no_files) c.new.ensures.failures) in
    unopened c.in_ok-host.host c.open_conn.new.self c.open_conn.new.self c.open_conn.new.self c.args.limits.budget c.args.chain e.empty
    e.budget e.chain device c.in-Err.refusal _ _ c.in-Err.ensures.event

pub returns-in-Ok-clause-safe : goal.returns-in-Ok-clause-safe
returns-in-Ok-clause-safe g c =
    end_well c.in_ok-feed-in-Ok.field-0 c.body_end.result c.body_end.ensures (c.in_ok-feed-in-Ok.ensures.safe
    (out_safe c.open_conn.new.self c.run_out.new.host c.in-Ok.number c.run_out.result (open_alive c.in_ok-host.host c.open_conn.new.self c.in-Ok.number
    (_, c.in_ok-host.ensures.empty) c.in-Ok.ensures.event)
    c.run_out.ensures.leads (safe_event mem_device c.in_ok-host.host c.open_conn.new.self _ _ _ (_, c.in_ok-host.ensures.empty) c.in-Ok.ensures.event c.in_ok-host.ensures.safe)))

pub returns-clause-safe : goal.returns-clause-safe
returns-clause-safe g c =
    refused_end c.in-Err.refusal (event_unfaulted mem_device c.in_ok-host.host c.open_conn.new.self _ _ _
    (_, c.in_ok-host.ensures.empty) c.in_ok-host.ensures.safe c.in-Err.ensures.event)
