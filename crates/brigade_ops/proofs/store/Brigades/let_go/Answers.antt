use Rattle.std.proofs.Common.{ap, ◌∙◌}
use Rattle.bucket_kinds.specs.Device.{Device}
use Rattle.name_table.specs.NameTable.{value_in}
use Rattle.brigade_ops.specs.Store.{references}
use Rattle.brigade_ops.proofs.Ended.{closed_one}
use Rattle.brigade_ops.proofs.store.Brigades.let_go.Goals as goal

pub returns-else-count-gt1-clause-closed : goal.returns-else-count-gt1-clause-closed
unfolding references
returns-else-count-gt1-clause-closed g c f =
    ap (λ (d : Device). d.numbered f) c.close_file.ensures
    ∙ closed_one c.args.file f (value_in c.args.self.now.references) (value_in c.remove.new.self) (g.F.Files.device c.args.files.now).numbered c.remove.ensures
