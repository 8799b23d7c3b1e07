use Rattle.std.proofs.Common.{◌++◌}
use Rattle.byte_text.proofs.WritingLaws.{wrote_then}
use Rattle.life_cert.proofs.Writing.{wrote_front}
use Rattle.life_cert.specs.StateText.{brigade_name, classes_text}
use Rattle.life_cert.proofs.print_state.put_place.Goals as goal

pub returns-in_err-put_brigade_name : goal.returns-in_err-put_brigade_name
returns-in_err-put_brigade_name g c =
    wrote_front _ _ (brigade_name c.args.brigade) ((c.args.sign.now ++ classes_text c.args.classes)) c.from_residual.result c.from_residual.ensures.0 c.in_err-put_brigade_name.ensures

pub returns-in_err-put_all : goal.returns-in_err-put_all
returns-in_err-put_all g c =
    wrote_then _ _ _ (brigade_name c.args.brigade) ((c.args.sign.now ++ classes_text c.args.classes)) c.from_residual-in_err-put_all.result c.in_ok-put_brigade_name.ensures
    (wrote_front _ _ (c.args.sign.now) (classes_text c.args.classes) c.from_residual-in_err-put_all.result c.from_residual-in_err-put_all.ensures.0 c.in_err-put_all.ensures)

pub returns : goal.returns
returns g c =
    wrote_then _ _ _ (brigade_name c.args.brigade) ((c.args.sign.now ++ classes_text c.args.classes)) c.put_classes.result c.in_ok-put_brigade_name.ensures
    (wrote_then _ _ _ (c.args.sign.now) (classes_text c.args.classes) c.put_classes.result c.in_ok-put_all.ensures (c.put_classes.ensures))
