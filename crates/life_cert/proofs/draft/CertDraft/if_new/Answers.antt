use Rattle.std.proofs.Common.{rules}
use Rattle.life_state.specs.Seen.{seen}
use Rattle.life_cert.proofs.SayingLaws.{new_said, old_state, refused_here}
use Rattle.life_cert.proofs.draft.CertDraft.if_new.Goals as goal

pub returns-in-None : goal.returns-in-None
returns-in-None c = new_said c.args.self.now c.requires.draft c.args.rest.now (seen c.args.state) c.requires.here (search rules)

pub returns-in-Some : goal.returns-in-Some
returns-in-Some c = refused_here c.args.number _ c.no_state.result c.no_state.ensures
    (old_state c.args.self.now c.requires.draft c.args.rest.now (seen c.args.state) c.in-Some.field-0 c.requires.other c.requires.here (search rules))
