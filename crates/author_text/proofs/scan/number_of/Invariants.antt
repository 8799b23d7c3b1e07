use Rattle.std.proofs.Common.{◌≡◌, ◌≤◌, ◌^◌, drop, min}
use Rattle.std.specs.Prelude.{IsTrue}
use Rattle.std.specs.Char.{is_ascii_hexdigit}
use Rattle.std.specs.List.{list_all}
use Rattle.std.specs.Str.Parse.{digits_value, digits_value_after}
use Rattle.author_text.proofs.scan.number_of.Given as goal

abbrev pub invariant-loop-byte : goal.invariant-loop-byte
invariant-loop-byte l = record {
  read :
      IsTrue (list_all is_ascii_hexdigit l.digits)
      → min (digits_value_after l.base l.value (drop l.byte-index l.digits)) (2 ^ 32) ≡ min (digits_value l.base l.digits) (2 ^ 32);
  within : l.value ≤ 2 ^ 32;
}
