-- The words that the clauses of this crate's code share, from where they are defined.
pub use Rattle.httparse.specs.Grammar.{RequestHead}
pub use Rattle.httparse.specs.Spans.{IsHeaderWithin, IsRequestAt, IsRequestWithin, header_bytes, span_bytes}
pub use Rattle.byte_text.specs.TextLines.{lines_of}
pub use Rattle.http_message.specs.Asking.{head_closes, method_refusal, or_else, head_refusal, status_closes, target_refusal}
pub use Rattle.http_message.specs.Fields.{closes, field_refusal, has_content, hosts_fit, is_bad_length, is_digits, is_zeros}
pub use Rattle.http_message.specs.SiteFiles.{AddsLine, AddsLines, AddsNothing, NamesFile, SiteFailsAt, no_routes}
pub use Rattle.http_message.specs.Sites.{route_of}
