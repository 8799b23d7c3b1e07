-- What a head asks for, from the spans of its parts.
use Rattle.std.proofs.Common.{◌≡◌, ℕ, List, map, take, Some, None, ap, ap₂, ◌∙◌}
use Rattle.httparse.specs.Grammar.{RequestHead}
use Rattle.httparse.specs.Spans.{IsRequestAt, header_bytes, span_bytes}
use Rattle.httparse.specs.declared.spans.HeaderSpan.{HeaderSpan}
use Rattle.httparse.specs.declared.spans.RequestSpans.{RequestSpans}
use Rattle.http_message.specs.Fields.{field_refusal, closes}
use Rattle.http_message.specs.Asking.{method_refusal, target_refusal, or_else, head_refusal, head_closes}
use Rattle.http_message.specs.declared.status.StatusCode.{StatusCode}

pub closes_of : (buf : List ℕ) (spans : List HeaderSpan) (r : RequestSpans) (h : RequestHead) → IsRequestAt buf spans r h
    → closes r.version (map (header_bytes buf) (take r.headers spans)) ≡ head_closes h
unfolding head_closes
closes_of buf spans r h at = ap₂ closes at.version at.fields

-- the refusal of the fields, or else that of the request line
refusal_of : (buf : List ℕ) (spans : List HeaderSpan) (r : RequestSpans) (h : RequestHead) → IsRequestAt buf spans r h
    → or_else (field_refusal r.version (map (header_bytes buf) (take r.headers spans))) (or_else (method_refusal h.method) (target_refusal h.target)) ≡ head_refusal h
unfolding head_refusal
refusal_of buf spans r h at =
    ap (λ x. or_else x (or_else (method_refusal h.method) (target_refusal h.target))) (ap₂ field_refusal at.version at.fields)

pub refused_by_fields : (buf : List ℕ) (spans : List HeaderSpan) (r : RequestSpans) (h : RequestHead) (status : StatusCode) → IsRequestAt buf spans r h
    → Some status ≡ field_refusal r.version (map (header_bytes buf) (take r.headers spans)) → Some status ≡ head_refusal h
refused_by_fields buf spans r h status at same =
    ap (λ x. or_else x (or_else (method_refusal h.method) (target_refusal h.target))) same ∙ refusal_of buf spans r h at

pub refused_by_line : (buf : List ℕ) (spans : List HeaderSpan) (r : RequestSpans) (h : RequestHead) (method target : List ℕ) → IsRequestAt buf spans r h
    → None ≡ field_refusal r.version (map (header_bytes buf) (take r.headers spans))
    → method ≡ span_bytes buf r.method → target ≡ span_bytes buf r.path
    → or_else (method_refusal method) (target_refusal target) ≡ head_refusal h
refused_by_line buf spans r h method target at none m t =
    ap₂ (λ x y. or_else (method_refusal x) (target_refusal y)) (m ∙ at.method) (t ∙ at.path)
    ∙ ap (λ x. or_else x (or_else (method_refusal h.method) (target_refusal h.target))) none
    ∙ refusal_of buf spans r h at
