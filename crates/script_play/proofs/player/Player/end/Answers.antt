use Rattle.script_play.proofs.PlayerLaws.{texts_low}
use Rattle.script_play.proofs.player.Player.end.Goals as goal

pub end-requires : goal.end-requires
end-requires g c = texts_low c.args.self.now c.in-Texts.texts c.requires.at.0 (cc) c.requires.at.1
