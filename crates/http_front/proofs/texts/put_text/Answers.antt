use Rattle.std.proofs.Common.{◌≡◌, ℕ, List, ◌++◌, append-nil, ap, sym, ◌∙◌}
use Rattle.std.proofs.lemmas.Result.{on_ok_weaker}
use Rattle.http_message.specs.Replying.{closing, opening, reply_text}
use Rattle.http_message.proofs.Puts.{onto_as, put_well}
use Rattle.http_front.proofs.Parts.{sent_whole}
use Rattle.http_front.proofs.texts.put_text.Goals as goal

pub returns-then-middle-gt-JOINED_BYTES : goal.returns-then-middle-gt-JOINED_BYTES
unfolding reply_text
returns-then-middle-gt-JOINED_BYTES c =
    let r = c.args.reply.now in
    let date = c.in_ok-put_opening.ensures in
    let tail = c.in_ok-extend_from_slice.ensures.items in
    let whole = sent_whole r c.middle.result.now 2048 c.middle.ensures c.if-middle-gt-JOINED_BYTES.true in (
      date.0,
      date.1,
      rw (date.2, c.clear.ensures.head, c.replace.ensures.value, tail, c.clear.ensures.tail, c.as_bytes.ensures.value, c.closing.ensures)
          (ap (λ body. opening r date.0 ++ body ++ closing r) (sym whole)),
    )

pub returns : goal.returns
unfolding reply_text
returns c =
    let r = c.args.reply.now in
    let date = c.in_ok-put_opening.ensures in
    let old = c.clear.new.self.head.items in
    let body = onto_as old _ _ _ c.middle-2.ensures date.2 c.in_ok-extend_from_slice-2.ensures.items in
    let end = c.as_bytes-2.ensures.value ∙ c.closing-2.ensures in
    on_ok_weaker c.extend_from_slice-3.result (λ (last : c.extend_from_slice-3.new.self.items ≡ c.extend_from_slice-2.new.self.items ++ c.as_bytes-2.result.now). (
      date.0,
      date.1,
      rw (c.clear.ensures.body, c.clear.ensures.tail)
          (append-nil _ ∙ append-nil _ ∙ onto_as old _ _ _ end body last ∙ ap (λ (l : List ℕ). l ++ reply_text r date.0) c.clear.ensures.head),
    ))
    (put_well c.extend_from_slice-3.result _ _ _ c.extend_from_slice-3.ensures.items)
