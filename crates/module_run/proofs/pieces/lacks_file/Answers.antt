-- A range is one of some file of the request, or of none.
use Rattle.std.proofs.Common.{◌+◌, not, sym, ap, ◌∙◌}
use Rattle.run_model.specs.Pieces.{lacks_file}
use Rattle.module_run.specs.Conns.{lengths}
use Rattle.module_run.proofs.Looked.{any_lengths}
use Rattle.module_run.proofs.pieces.lacks_file.Goals as goal

pub returns-in-File : goal.returns-in-File
returns-in-File c =
    ap not (c.has_range.ensures ∙ any_lengths c.args.files.now c.in-File.file (c.in-File.start + c.in-File.len)) ∙ ap (lacks_file (lengths c.args.files.now)) (sym c.in-File.is)
