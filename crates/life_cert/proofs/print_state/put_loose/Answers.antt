use Rattle.std.proofs.Common.{◌++◌, codes}
use Rattle.byte_text.proofs.WritingLaws.{wrote_then}
use Rattle.life_cert.proofs.Writing.{wrote_front}
use Rattle.life_state.specs.Seen.{seen_homes}
use Rattle.life_cert.specs.StateText.{classes_text, homes_text}
use Rattle.life_cert.proofs.print_state.put_loose.Goals as goal

pub returns-in_err-put_all : goal.returns-in_err-put_all
returns-in_err-put_all g c =
    wrote_front _ _ (codes "loose/")
    ((classes_text c.args.classes ++ (codes "/" ++ homes_text (seen_homes c.args.homes.now)))) c.from_residual.result c.from_residual.ensures.0 c.in_err-put_all.ensures

pub returns-in_err-put_classes : goal.returns-in_err-put_classes
returns-in_err-put_classes g c =
    wrote_then _ _ _ (codes "loose/") ((classes_text c.args.classes ++ (codes "/" ++ homes_text (seen_homes c.args.homes.now)))) c.from_residual-in_err-put_classes.result c.in_ok-put_all.ensures
    (wrote_front _ _ (classes_text c.args.classes)
    ((codes "/" ++ homes_text (seen_homes c.args.homes.now))) c.from_residual-in_err-put_classes.result c.from_residual-in_err-put_classes.ensures.0 c.in_err-put_classes.ensures)

pub returns-in_err-put_all-2 : goal.returns-in_err-put_all-2
returns-in_err-put_all-2 g c =
    wrote_then _ _ _ (codes "loose/") ((classes_text c.args.classes ++ (codes "/" ++ homes_text (seen_homes c.args.homes.now)))) c.from_residual-in_err-put_all-2.result c.in_ok-put_all.ensures
    (wrote_then _ _ _ (classes_text c.args.classes) ((codes "/" ++ homes_text (seen_homes c.args.homes.now))) c.from_residual-in_err-put_all-2.result c.in_ok-put_classes.ensures
    (wrote_front _ _ (codes "/") (homes_text (seen_homes c.args.homes.now)) c.from_residual-in_err-put_all-2.result c.from_residual-in_err-put_all-2.ensures.0 c.in_err-put_all-2.ensures))

pub returns : goal.returns
returns g c =
    wrote_then _ _ _ (codes "loose/") ((classes_text c.args.classes ++ (codes "/" ++ homes_text (seen_homes c.args.homes.now)))) c.put_homes.result c.in_ok-put_all.ensures
    (wrote_then _ _ _ (classes_text c.args.classes) ((codes "/" ++ homes_text (seen_homes c.args.homes.now))) c.put_homes.result c.in_ok-put_classes.ensures
    (wrote_then _ _ _ (codes "/") (homes_text (seen_homes c.args.homes.now)) c.put_homes.result c.in_ok-put_all-2.ensures (c.put_homes.ensures)))
