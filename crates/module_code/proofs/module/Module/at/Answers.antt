-- The instruction is one of the code, and each of these is placed.
use Rattle.std.proofs.Common.{◌≡◌, ◌<◌, length, subst, ap, refl, arith}
use Rattle.std.proofs.lemmas.Option.{slice_get_read}
use Rattle.module_code.specs.Program.{IsPlaced, Program}
use Rattle.module_code.proofs.module.Module.at.Goals as goal

pub returns-clause-placed : goal.returns-clause-placed
returns-clause-placed c =
    let m = c.self.inside in
    let shown : Program = record { pools = m.pools; brigades = m.brigades; texts = m.texts; code = m.code; init = m.init; main = m.main } in
    let size : length shown.code ≡ length c.args.self.now.code = ap (λ (p : Program). length p.code) c.self.view_is in
    let inside : c.args.pc < length c.self.inside.code = omega (arith, size) in
    let found = slice_get_read c.self.inside.code (length c.self.inside.code) c.args.pc c.at.result.now refl inside c.at.ensures in
    subst (λ (p : Program). IsPlaced p c.args.pc c.at.result.now) c.self.view_is (c.self.invariant.placed c.args.pc c.at.result.now found)
