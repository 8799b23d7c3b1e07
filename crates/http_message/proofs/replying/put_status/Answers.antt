use Rattle.std.proofs.Common.{List, ℕ, ◌++◌, take, ap, ◌∙◌}
use Rattle.std.specs.Prelude.{codes}
use Rattle.std.proofs.lemmas.Result.{on_ok_weaker}
use Rattle.http_message.specs.Replying.{status_text}
use Rattle.http_message.proofs.Puts.{onto, onto_as, put_well, status_parts}
use Rattle.http_message.proofs.replying.put_status.Goals as goal

pub returns : goal.returns
returns c =
    let old = c.args.out.now.items in
    let whole = status_text c.args.status in
    let code = c.in_ok-extend_from_slice.ensures.items ∙ ap (λ (l : List ℕ). old ++ l) (c.as_bytes.ensures.value ∙ c.as_str.ensures ∙ c.code.ensures) in
    let spaced = onto old (take 3 whole) (codes " ") code c.in_ok-extend_from_slice-2.ensures.items in
    on_ok_weaker c.extend_from_slice-3.result
    (λ last. onto_as old _ _ _ (c.as_bytes-2.ensures.value ∙ c.phrase.ensures) spaced last ∙ ap (λ (l : List ℕ). old ++ l) (status_parts c.args.status))
    (put_well c.extend_from_slice-3.result _ _ _ c.extend_from_slice-3.ensures.items)
