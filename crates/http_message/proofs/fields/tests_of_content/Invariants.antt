use Rattle.std.proofs.Common.{◌≡◌, ◌||◌, map, drop}
use Rattle.std.specs.List.{list_any}
use Rattle.httparse.specs.Spans.{header_bytes}
use Rattle.http_message.specs.Fields.{has_content, is_bad_length}
use Rattle.http_message.proofs.fields.tests_of_content.Given as goal

-- what is left decides of all
abbrev pub invariant-loop-span : goal.invariant-loop-span
invariant-loop-span l =
    ((l.bad || list_any is_bad_length (map (header_bytes l.buf) (drop l.span-index l.spans))) ≡ list_any is_bad_length (map (header_bytes l.buf) l.spans))
    × ((l.content || list_any has_content (map (header_bytes l.buf) (drop l.span-index l.spans))) ≡ list_any has_content (map (header_bytes l.buf) l.spans))
