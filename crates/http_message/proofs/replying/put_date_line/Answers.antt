use Rattle.std.proofs.Common.{◌++◌, refl}
use Rattle.std.specs.Prelude.{codes}
use Rattle.std.proofs.lemmas.Result.{on_ok_weaker}
use Rattle.httpdate.specs.Date.{date_text}
use Rattle.http_message.proofs.Dated.{dated}
use Rattle.http_message.proofs.Puts.{onto, onto_as, put_well}
use Rattle.http_message.proofs.replying.put_date_line.Goals as goal

pub returns-in_ok-extend_from_slice-in-Ok-2 : goal.returns-in_ok-extend_from_slice-in-Ok-2
returns-in_ok-extend_from_slice-in-Ok-2 c =
    let old = c.args.out.now.items in
    let early = c.in-Ok.ensures.succeeds.0 refl in
    on_ok_weaker c.extend_from_slice-in-Ok-2.result
    (λ last. (
      codes "Date: " ++ date_text c.in-Ok.date ++ codes "\r\n",
      dated c.args.moment c.in-Ok.date _ c.in-Ok.ensures.value early refl,
      onto old _ _ (onto_as old _ _ _ c.to_bytes.ensures c.in_ok-extend_from_slice-in-Ok.ensures.items c.in_ok-extend_from_slice-in-Ok-2.ensures.items) last,
    ))
    (put_well c.extend_from_slice-in-Ok-2.result _ _ _ c.extend_from_slice-in-Ok-2.ensures.items)
