use Rattle.std.proofs.Common.{◌≡◌, arith}
use Rattle.author_text.specs.declared.source.BinaryOp.TheVariants as op
use Rattle.author_text.specs.ReadExprs.{operator_among}
use Rattle.author_text.specs.Reading.{unread_of}
use Rattle.author_text.specs.UnreadTokens.{next_token}
use Rattle.author_text.proofs.OperatorLaws.{operator_found, operator_passed, operator_past}
use Rattle.author_text.proofs.parser.Parser.operator_among.Goals.{else-rank-via-then-rank+else-at, else-rank-via-else-rank}
use Rattle.author_text.proofs.parser.Parser.operator_among.Goals as goal

pub returns-then-at : goal.returns-then-at
returns-then-at c = λ wh.
    operator_found c.args.level _ c.args.ops.now c.loop-op.op-index _ _ c.loop-op-test.true (cc (c.if-rank.true, c.rank.ensures, c.rank-in-loop-op.ensures, c.operator_level.ensures))
    (cc (c.at.ensures wh, c.operator_text.ensures, c.if-at.true)) (c.loop-op.invariant wh)

pub loop-op-preserved : goal.loop-op-preserved
loop-op-preserved c = λ wh.
    elim c.else-rank.branch [
      | else-rank-via-then-rank+else-at w ↦
          operator_passed c.args.level (next_token (unread_of c.args.self.now)) c.args.ops.now c.loop-op.op-index op.Or
          (operator_among c.args.level (next_token (unread_of c.args.self.now)) c.args.ops.now) c.loop-op-test.true (λ q. cc (w.at.ensures wh, w.operator_text.ensures, w.if-at.false)) (c.loop-op.invariant wh)
      | else-rank-via-else-rank w ↦
          operator_passed c.args.level (next_token (unread_of c.args.self.now)) c.args.ops.now c.loop-op.op-index op.Or
          (operator_among c.args.level (next_token (unread_of c.args.self.now)) c.args.ops.now) c.loop-op-test.true
          (λ q.
          let e : c.rank.result ≡ c.rank-in-loop-op.result = cc (q, c.rank.ensures, c.rank-in-loop-op.ensures, c.operator_level.ensures) in
          absurd (omega (arith, e, w.if-rank.false))) (c.loop-op.invariant wh)
    ]

pub returns : goal.returns
returns c = λ wh. operator_past c.args.level _ c.args.ops.now c.loop-op.op-index _ c.loop-op-test.false (c.loop-op.invariant wh)
