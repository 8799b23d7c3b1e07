use Rattle.byte_text.specs.Bytes.{after_token}
use Rattle.life_cert.specs.Drafts.{NoStateIsIn}
use Rattle.life_cert.proofs.SayingLaws.{no_state_said, refused_for}
use Rattle.life_cert.proofs.draft.CertDraft.new_state.Goals as goal

pub returns-in-Err : goal.returns-in-Err
returns-in-Err c =
    let rest = after_token c.args.line.now in
    refused_for c.args.number (NoStateIsIn rest) _ c.in-Err.error (no_state_said c.args.self.now c.requires.draft rest c.requires.other) c.in-Err.ensures
