use Rattle.std.proofs.Common.{◌++◌, codes}
use Rattle.byte_text.proofs.WritingLaws.{wrote_then}
use Rattle.life_cert.proofs.Writing.{wrote_front}
use Rattle.life_cert.specs.StateText.{where_holds}
use Rattle.life_cert.proofs.print_state.put_set.Goals as goal

pub returns-in_err-put_if : goal.returns-in_err-put_if
returns-in_err-put_if g c =
    wrote_front _ _ (where_holds c.args.null (codes "n"))
    ((where_holds c.args.gone (codes "g") ++ where_holds c.args.live (codes "l"))) c.from_residual.result c.from_residual.ensures.0 c.in_err-put_if.ensures

pub returns-in_err-put_if-2 : goal.returns-in_err-put_if-2
returns-in_err-put_if-2 g c =
    wrote_then _ _ _ (where_holds c.args.null (codes "n")) ((where_holds c.args.gone (codes "g") ++ where_holds c.args.live (codes "l"))) c.from_residual-in_err-put_if-2.result
    c.in_ok-put_if.ensures (wrote_front _ _ (where_holds c.args.gone (codes "g"))
    (where_holds c.args.live (codes "l")) c.from_residual-in_err-put_if-2.result c.from_residual-in_err-put_if-2.ensures.0 c.in_err-put_if-2.ensures)

pub returns : goal.returns
returns g c =
    wrote_then _ _ _ (where_holds c.args.null (codes "n")) ((where_holds c.args.gone (codes "g") ++ where_holds c.args.live (codes "l"))) c.put_if-3.result c.in_ok-put_if.ensures
    (wrote_then _ _ _ (where_holds c.args.gone (codes "g")) (where_holds c.args.live (codes "l")) c.put_if-3.result c.in_ok-put_if-2.ensures (c.put_if-3.ensures))
