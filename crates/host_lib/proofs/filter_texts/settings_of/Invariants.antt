-- So many words are read; what is left is as long as the lengths that are.
use Rattle.std.proofs.Common.{◌≡◌, ◌++◌, ℕ, List, length, drop, map, take}
use Rattle.std.specs.List.{concat, sum}
use Rattle.filter_files.specs.Settings.{setting_word}
use Rattle.host_lib.proofs.filter_texts.settings_of.Given as goal

abbrev pub invariant-loop-length : goal.invariant-loop-length
invariant-loop-length l = record {
  left : length l.rest ≡ sum (drop l.length-index l.lengths);
  long : map (λ (word : List ℕ). length word) (map setting_word l.settings.items) ≡ take l.length-index l.lengths;
  whole : concat (map setting_word l.settings.items) ++ l.rest ≡ l.words;
}
