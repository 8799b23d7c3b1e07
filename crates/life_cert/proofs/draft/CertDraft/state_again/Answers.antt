use Rattle.life_state.specs.Seen.{seen}
use Rattle.life_cert.proofs.SayingLaws.{again_said, no_again, refused_here}
use Rattle.life_cert.proofs.draft.CertDraft.state_again.Goals as goal

pub returns-in-Some : goal.returns-in-Some
returns-in-Some c =
    again_said c.args.self.now c.requires.draft c.args.rest.now c.args.other (seen c.in-Some.state) c.requires.other c.in-Some.ensures.0 c.in-Some.ensures.1 c.in-Some.ensures.2

pub returns-in-None : goal.returns-in-None
returns-in-None c =
    refused_here c.args.number _ c.no_state.result c.no_state.ensures (no_again c.args.self.now c.requires.draft c.args.rest.now c.args.other c.ranges.other.fits c.requires.other c.in-None.ensures)
