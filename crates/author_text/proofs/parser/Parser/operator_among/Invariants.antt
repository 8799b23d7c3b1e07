use Rattle.std.proofs.Common.{◌≡◌, IsTrue, drop}
use Rattle.author_text.specs.ReadExprs.{operator_among}
use Rattle.author_text.specs.Reading.{unread_of}
use Rattle.author_text.specs.UnreadTokens.{next_token}
use Rattle.author_text.proofs.parser.Parser.operator_among.Given as goal

abbrev pub invariant-loop-op : goal.invariant-loop-op
invariant-loop-op l =
    IsTrue l.self.faults.is_whole → operator_among l.level (next_token (unread_of l.self)) (drop l.op-index l.ops) ≡ operator_among l.level (next_token (unread_of l.self)) l.ops
