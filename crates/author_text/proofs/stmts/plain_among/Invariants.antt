use Rattle.std.proofs.Common.{◌≡◌, drop}
use Rattle.author_text.specs.ReadStmts.{plain_among}
use Rattle.author_text.proofs.stmts.plain_among.Given as goal

abbrev pub invariant-loop-plain : goal.invariant-loop-plain
invariant-loop-plain l = plain_among l.text (drop l.plain-index l.plains) ≡ plain_among l.text l.plains
