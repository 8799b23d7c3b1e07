-- The length that the list keeps is that of its items.
use Rattle.std.proofs.Common.{length, refl, ap, rules}
use Rattle.module_code.proofs.seq.Seq.as_mut_slice.Goals as goal

pub returns : goal.returns
returns g c =
    let same = c.self.view_is in
    let size = c.self.inside.items.ok.0 in
    ((refl, λ w. cc (ap length same)), search rules)
