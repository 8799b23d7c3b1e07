use Rattle.std.proofs.Common.{◌≡◌, ◌+◌, drop, false}
use Rattle.std.specs.Option.{option_map}
use Rattle.author_text.specs.Scanning.{len_to_quote}
use Rattle.author_text.proofs.scan.len_to_quote.Given as goal

abbrev pub invariant-loop-at : goal.invariant-loop-at
invariant-loop-at l = len_to_quote false l.text ≡ option_map (λ k. k + l.at) (len_to_quote l.is_escaped (drop l.at l.text))
