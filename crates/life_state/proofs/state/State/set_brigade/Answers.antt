-- One place of the array is written.
use Rattle.std.proofs.Common.{◌<◌, ℕ, length, ap, arith}
use Rattle.life_state.specs.States.{BrigadeKnown}
use Rattle.life_state.specs.Seen.{seen, seen_brigade, unmade}
use Rattle.life_state.proofs.Arrays.{read_set_at}
use Rattle.life_state.proofs.state.State.set_brigade.Goals as goal

pub returns : goal.returns
unfolding seen
returns c =
    let inside : c.args.b < length c.args.self.now.brigades = omega arith in
    ap (λ (f : ℕ → BrigadeKnown). record (seen c.args.self.now) { brigades = f }) (read_set_at seen_brigade unmade c.args.self.now.brigades c.args.b c.from.result c.args.brigade c.from.ensures inside)
