use Rattle.std.proofs.Common.{ℕ, List, length, ap, refl, ◌∙◌}
use Rattle.std.specs.Prelude.{codes}
use Rattle.std.proofs.lemmas.Result.{on_ok_weaker}
use Rattle.http_message.specs.Replying.{framing_line, head_text, opening}
use Rattle.http_message.proofs.Puts.{onto, onto_as, onto_both}
use Rattle.http_message.proofs.replying.put_opening.Goals as goal

pub returns : goal.returns
unfolding opening head_text
returns c =
    let old = c.args.out.now.items in
    let date = c.in_ok-put_date_line.ensures in
    let status = onto old _ _ c.in_ok-extend_from_slice.ensures.items c.in_ok-put_status.ensures in
    let dated = onto old _ _ (onto old _ _ status c.in_ok-extend_from_slice-2.ensures.items) date.2 in
    let allowed = onto_as old _ _ _ (c.as_bytes.ensures.value ∙ c.allow_line.ensures) dated c.in_ok-extend_from_slice-3.ensures.items in
    let closes = onto_as old _ _ _ (c.as_bytes-2.ensures.value ∙ c.connection_line.ensures) allowed c.in_ok-extend_from_slice-4.ensures.items in
    let reply = c.args.reply.now in
    let size = ap (λ (bytes : List ℕ). framing_line reply.status reply.version reply.method (length bytes)) c.as_slice-size.ensures in
    let framed = onto_both old _ _ (codes "\r\n") _ (codes "\r\n") size refl closes c.in_ok-put_framing_line.ensures in
    on_ok_weaker c.put_chunk_line.result (λ last. (date.0, date.1, onto old _ _ framed last)) c.put_chunk_line.ensures
