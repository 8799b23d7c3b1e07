use Rattle.std.proofs.Common.{ap, sym, ◌∙◌}
use Rattle.byte_text.specs.TextLines.{RawLine}
use Rattle.bucket_kinds.specs.MemDevice.{mem_device}
use Rattle.script_play.specs.declared.session.Session.{Session}
use Rattle.script_play.specs.Plays.{due_at}
use Rattle.script_play.proofs.SessionLaws.{told_reply}
use Rattle.script_play.proofs.session.Session.take.Goals as goal

pub returns-clause-ok : goal.returns-clause-ok
returns-clause-ok g c = λ v hosted.
    let line : RawLine = record { text = c.args.text.now; ended = c.args.ended } in
    let new : Session _ _ = record { host = c.serve.new.host } in
    let due = ap (λ f. due_at (mem_device f) line) (sym c.files.ensures) ∙ sym c.in_ok-command.ensures ∙ c.in-Some.is in
    rw c.give_back.ensures (told_reply new c.args.self.now c.in-Some.command c.in_ok-reply.reply v hosted
    (c.in_ok-reply.ensures.served v.host_view.world hosted.hosts) c.args.out.now.items _ c.args.number line c.in_ok-reply.ensures.safe due c.in_ok-put_reply.ensures.ok)
