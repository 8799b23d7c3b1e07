use Rattle.std.proofs.Common.{◌≡◌, ◌+◌, length, take}
use Rattle.std.specs.List.{sum}
use Rattle.host_lib.proofs.filter_texts.fit_words.Given as goal

abbrev pub invariant-loop-length : goal.invariant-loop-length
invariant-loop-length l = l.rest + sum (take l.length-index l.lengths) ≡ length l.words
