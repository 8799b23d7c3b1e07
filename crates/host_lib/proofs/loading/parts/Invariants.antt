use Rattle.std.proofs.Common.{◌≡◌, length, drop, map}
use Rattle.filter_files.specs.Settings.{KeepsWords}
use Rattle.script_text.specs.Heads.{seen_part}
use Rattle.host_lib.specs.Texts.{AreFront, start_of}
use Rattle.host_lib.proofs.loading.parts.Given as goal

abbrev pub invariant-loop-index : goal.invariant-loop-index
invariant-loop-index l = record {
  rest : l.rest ≡ drop (start_of l.lengths l.index) l.texts;
  count : length l.parts.items ≡ l.index;
  front : AreFront l.texts l.lengths (map seen_part l.parts.items);
  words : KeepsWords l.fn.settings l.settings;
}
