use Rattle.std.proofs.Common.{◌≡◌, ◌∙◌, decimal}
use Rattle.byte_text.proofs.WritingLaws.{wrote_then}
use Rattle.life_cert.proofs.print_state.put_numbered.Goals as goal

pub returns : goal.returns
returns g c =
    let digits : c.as_bytes.result.now ≡ decimal c.args.number = c.as_bytes.ensures.value ∙ c.format.ensures.text in
    wrote_then _ _ _ _ _ _ c.in_ok-put_all.ensures (rw digits at c.put_all-2.ensures)
