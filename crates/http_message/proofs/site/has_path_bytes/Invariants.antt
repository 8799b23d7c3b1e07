use Rattle.std.proofs.Common.{◌≡◌, drop}
use Rattle.std.specs.List.{list_all}
use Rattle.http_message.specs.Routes.{is_path_byte}
use Rattle.http_message.proofs.site.has_path_bytes.Given as goal

-- what is left decides of all
abbrev pub invariant-loop-b : goal.invariant-loop-b
invariant-loop-b l = list_all is_path_byte (drop l.b-index l.path) ≡ list_all is_path_byte l.path
