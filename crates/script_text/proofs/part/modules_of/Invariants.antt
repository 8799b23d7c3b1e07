-- The modules so far, and those of the parts that are left, are all.
use Rattle.std.proofs.Common.{◌≡◌, ◌++◌, All, map}
use Rattle.std.specs.Vec.Iter.{into_iter_items}
use Rattle.module_code.specs.Program.{IsModule}
use Rattle.script_text.specs.Heads.{seen_part}
use Rattle.script_text.specs.Parts.{codes_of}
use Rattle.script_text.proofs.part.modules_of.Given as goal

abbrev pub invariant-loop-part : goal.invariant-loop-part
invariant-loop-part l =
    (l.modules.items ++ codes_of (map seen_part (into_iter_items l.part-iterator)) ≡ codes_of (map seen_part l.fn.parts.items)) × All IsModule l.modules.items
