-- By the tests.
use Rattle.std.proofs.Common.{◌≡◌, true, false, sym, ◌∙◌}
use Rattle.std.specs.List.{list_any}
use Rattle.run_model.specs.Pieces.{data_behind_eos, lacks_file}
use Rattle.module_run.specs.Conns.{lengths}
use Rattle.module_run.proofs.Executing.{none_there}
use Rattle.module_run.proofs.conn.Conn.pool_to_bring.Goals as goal

pub returns-then-lack_files-clause-refusal : goal.returns-then-lack_files-clause-refusal
returns-then-lack_files-clause-refusal g c =
    let sound = none_there c.args.self.now.broken c.in_default.not-Some in
    let late : data_behind_eos c.args.pieces.now ≡ false = sym c.has_data_behind_eos.ensures ∙ c.if-has_data_behind_eos.false in
    let lacks : list_any (lacks_file (lengths c.args.self.now.files.items)) c.args.pieces.now ≡ true = sym (rw c.as_slice.ensures.value at c.lack_files.ensures) ∙ c.if-lack_files.true in
    rw (sound, c.if-self.false, c.in-Some-req.is, late, lacks)
