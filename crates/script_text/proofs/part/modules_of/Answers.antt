use Rattle.std.proofs.Common.{◌≡◌, ◌∷◌}
use Rattle.std.specs.Vec.Iter.{into_iter_items}
use Rattle.module_code.specs.Program.{IsModule}
use Rattle.script_text.proofs.PartLaws.{codes_on, all_on}
use Rattle.script_text.proofs.part.modules_of.Goals as goal

pub loop-part-preserved : goal.loop-part-preserved
loop-part-preserved c =
    let at = c.loop-part in
    let part = c.in-Some.part in
    let rest = into_iter_items c.next.new.self in
    let steps : into_iter_items at.part-iterator ≡ part ∷ rest = c.in-Some.ensures.steps.0 in
    let pushed = c.in_ok-push.ensures.items in (
      codes_on at.modules.items c.push.new.self.items (into_iter_items at.part-iterator) rest c.args.parts.items part _ at.invariant.0 steps pushed c.module_of.ensures.value,
      all_on IsModule at.modules.items c.push.new.self.items _ at.invariant.1 pushed c.module_of.ensures.sound,
    )
