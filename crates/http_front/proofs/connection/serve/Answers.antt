use Rattle.std.proofs.Common.{None, refl}
use Rattle.byte_streams.specs.Counted.{source_of}
use Rattle.http_front.proofs.Beside.{beside_same}
use Rattle.http_front.proofs.ConnectLaws.{has_opened, has_still, none_opened, not_visited, opened_conn, served_ok, served_err, sink_told, sink_unopened, source_told, source_unopened, visited}
use Rattle.http_front.proofs.ServeOnce.{only_served}
use Rattle.http_front.proofs.connection.serve.Goals as goal

pub returns-in-Ok-clause-ok : goal.returns-in-Ok-clause-ok
returns-in-Ok-clause-ok g c =
    served_ok g.F.Files.device g.K.Clock.tells c.args.site.now c.args.host.now c.args.clock.now (g.S.Source.remaining (source_of c.serve_open-served.new.reader))
    (g.W.Sink.contents c.args.sink.now) (g.W.Sink.contents c.serve_open-served.new.sink) c.in-Ok.number c.run_call.new.host c.serve_open-served.new.handler
    c.close.new.host c.serve_open-served.new.clock (opened_conn g.F.Files.device c.in-Ok.number c.args.host.now c.run_call.new.host c.open_conn.new.self
    c.run_call.result c.in-Ok.ensures.event c.run_call.ensures.leads) c.serve_open-served.ensures.open
    (c.serve_open-served.ensures.beside c.run_call.new.host (beside_same g.F.Files.device c.in-Ok.number c.run_call.new.host))
    (g.S.Source.remaining (source_of c.args.reader.now)) c.serve_open-served.result c.close.result c.close.ensures c.serve_open-served.ensures.ok c.outcome_of.result c.outcome_of.ensures

pub returns-in-Ok-clause-err : goal.returns-in-Ok-clause-err
returns-in-Ok-clause-err g c =
    served_err g.F.Files.device g.K.Clock.tells c.args.site.now c.args.host.now c.args.clock.now (g.S.Source.remaining (source_of c.serve_open-served.new.reader))
    (g.W.Sink.contents c.args.sink.now) (g.W.Sink.contents c.serve_open-served.new.sink) c.in-Ok.number c.run_call.new.host c.serve_open-served.new.handler
    c.close.new.host c.serve_open-served.new.clock (opened_conn g.F.Files.device c.in-Ok.number c.args.host.now c.run_call.new.host c.open_conn.new.self
    c.run_call.result c.in-Ok.ensures.event c.run_call.ensures.leads) c.serve_open-served.ensures.open
    (c.serve_open-served.ensures.beside c.run_call.new.host (beside_same g.F.Files.device c.in-Ok.number c.run_call.new.host))
    (g.S.Source.remaining (source_of c.args.reader.now)) c.serve_open-served.result c.close.result c.close.ensures
    c.serve_open-served.ensures.ok c.outcome_of.result c.outcome_of.ensures c.serve_open-served.ensures.err

pub returns-in-Err-clause-err : goal.returns-in-Err-clause-err
returns-in-Err-clause-err g c =
    none_opened g.F.Files.device g.K.Clock.tells c.args.site.now c.args.host.now c.args.clock.now (g.S.Source.remaining (source_of c.args.reader.now))
    (g.W.Sink.contents c.args.sink.now) (g.W.Sink.contents c.args.sink.now) c.open_conn.new.self _ c.in-Err.refusal
    (g.S.Source.remaining (source_of c.args.reader.now)) refl refl c.kind_of.ensures refl c.in-Err.ensures.event

pub returns-in-Ok-clause-visits : goal.returns-in-Ok-clause-visits
returns-in-Ok-clause-visits g c =
    visited g.F.Files.device g.K.Clock.tells c.args.site.now c.args.host.now c.in-Ok.number c.run_call.new.host c.serve_open-served.new.handler c.close.new.host
    (opened_conn g.F.Files.device c.in-Ok.number c.args.host.now c.run_call.new.host c.open_conn.new.self c.run_call.result c.in-Ok.ensures.event
    c.run_call.ensures.leads) c.serve_open-served.ensures.open
    (c.serve_open-served.ensures.beside c.run_call.new.host (beside_same g.F.Files.device c.in-Ok.number c.run_call.new.host)) c.serve_open-served.result
    c.close.result c.close.ensures c.outcome_of.result c.outcome_of.ensures

pub returns-in-Err-clause-visits : goal.returns-in-Err-clause-visits
returns-in-Err-clause-visits g c =
    not_visited g.F.Files.device g.K.Clock.tells c.args.site.now c.args.host.now c.open_conn.new.self
    (record { kind = c.kind_of.result; left = None }) c.in-Err.refusal c.in-Err.ensures.event

pub close-requires : goal.close-requires
close-requires g c =
    has_still g.F.Files.device c.in-Ok.number c.open_conn.new.self c.serve_open-served.new.handler
    (has_opened g.F.Files.device c.in-Ok.number c.args.host.now c.open_conn.new.self c.requires.alive c.in-Ok.ensures.event)
    (c.serve_open-served.ensures.beside c.open_conn.new.self (c.run_call.ensures.beside c.open_conn.new.self (beside_same g.F.Files.device c.in-Ok.number c.open_conn.new.self)))

pub returns-in-Ok-clause-source : goal.returns-in-Ok-clause-source
returns-in-Ok-clause-source g c = source_told _ _ _ c.serve_open-served.result c.close.result c.outcome_of.result c.outcome_of.ensures c.serve_open-served.ensures.source

pub returns-in-Ok-clause-sink : goal.returns-in-Ok-clause-sink
returns-in-Ok-clause-sink g c = sink_told _ _ c.serve_open-served.result c.close.result c.outcome_of.result c.outcome_of.ensures c.serve_open-served.ensures.sink

pub returns-in-Err-clause-source : goal.returns-in-Err-clause-source
returns-in-Err-clause-source g c = source_unopened _ _ c.in-Err.refusal c.kind_of.result c.kind_of.ensures

pub returns-in-Err-clause-sink : goal.returns-in-Err-clause-sink
returns-in-Err-clause-sink g c = sink_unopened _ c.in-Err.refusal c.kind_of.result c.kind_of.ensures

pub returns-in-Ok-clause-only : goal.returns-in-Ok-clause-only
returns-in-Ok-clause-only g c =
    only_served g.F.Files.device g.K.Clock.tells c.args.site.now c.args.host.now c.close.new.host c.args.clock.now c.serve_open-served.new.clock c.outcome_of.result
    (g.S.Source.remaining (source_of c.args.reader.now)) (g.W.Sink.contents c.args.sink.now) (g.W.Sink.contents c.serve_open-served.new.sink) (returns-in-Ok-clause-ok g c)
