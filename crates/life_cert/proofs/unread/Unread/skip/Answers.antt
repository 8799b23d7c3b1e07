use Rattle.life_cert.proofs.StateWords.{behind_is}
use Rattle.life_cert.proofs.unread.Unread.skip.Goals as goal

pub returns : goal.returns
returns c = behind_is c.args.word.now c.args.self.now.bytes.now c.min-len.result c.min-len.ensures
