-- The token ends before the first space.
use Rattle.std.proofs.Common.{rules}
use Rattle.byte_text.specs.Bytes.{token, after_token}
use Rattle.byte_text.proofs.bytes.cut_token.Goals as goal

pub returns-clause-token : goal.returns-clause-token
unfolding token after_token
returns-clause-token c = search rules
