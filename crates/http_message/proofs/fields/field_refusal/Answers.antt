-- By the three tests: whether the Host lines fit, whether a length is bad, whether there is content.
use Rattle.std.proofs.Common.{◌≡◌, ℕ, Bool, true, false, List, map, Some, None, if◌then◌else◌, refl, sym, ◌∙◌}
use Rattle.std.specs.Prelude.{not}
use Rattle.std.specs.List.{list_any}
use Rattle.http1.specs.Fields.{Header}
use Rattle.http_message.specs.Prelude.{header_bytes}
use Rattle.http_message.specs.Fields.{hosts_fit, is_bad_length, has_content, field_refusal}
use Rattle.http_message.specs.declared.status.StatusCode.TheVariants.{BadRequest, ContentTooLarge}
use Rattle.http_message.proofs.fields.field_refusal.Goals as goal
use Rattle.http_message.proofs.fields.field_refusal.Goals.{then-not-hosts_fit-via-then-not-hosts_fit, then-not-hosts_fit-via-else-not-hosts_fit+then-bad}

refused : (minor : ℕ) (fields : List Header) (fit bad content : Bool) → fit ≡ hosts_fit minor fields → bad ≡ list_any is_bad_length fields
    → content ≡ list_any has_content fields
    → (if not fit then Some BadRequest else (if bad then Some BadRequest else (if content then Some ContentTooLarge else None))) ≡ field_refusal minor fields
unfolding field_refusal
refused minor fields fit bad content f b c = rw (f, b, c) refl

pub returns-then-not-hosts_fit : goal.returns-then-not-hosts_fit
returns-then-not-hosts_fit c =
    let fields = map (header_bytes c.args.buf.now) c.args.spans.now in
    let content = list_any has_content fields in
    elim c.then-not-hosts_fit.branch [
      | then-not-hosts_fit-via-then-not-hosts_fit w ↦ refused c.args.minor fields false (list_any is_bad_length fields) content w.if-not-hosts_fit.ensures refl refl
      | then-not-hosts_fit-via-else-not-hosts_fit+then-bad w ↦
          refused c.args.minor fields true true content w.if-not-hosts_fit.ensures (sym w.if-bad.true ∙ c.tests_of_content-bad.ensures.bad) refl
    ]

pub returns-then-content : goal.returns-then-content
returns-then-content c =
    refused c.args.minor (map (header_bytes c.args.buf.now) c.args.spans.now) true false true c.if-not-hosts_fit.ensures
    (sym c.if-bad.false ∙ c.tests_of_content-bad.ensures.bad) (sym c.if-content.true ∙ c.tests_of_content-bad.ensures.content)

pub returns : goal.returns
returns c =
    refused c.args.minor (map (header_bytes c.args.buf.now) c.args.spans.now) true false false c.if-not-hosts_fit.ensures
    (sym c.if-bad.false ∙ c.tests_of_content-bad.ensures.bad) (sym c.if-content.false ∙ c.tests_of_content-bad.ensures.content)
