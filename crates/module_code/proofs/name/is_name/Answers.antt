-- Each part of the rule is tested.
use Rattle.std.proofs.Common.{rules}
use Rattle.module_code.specs.Names.{is_name}
use Rattle.module_code.proofs.name.is_name.Goals as goal

pub returns-else-is_letter : goal.returns-else-is_letter
unfolding is_name
returns-else-is_letter c = search rules
