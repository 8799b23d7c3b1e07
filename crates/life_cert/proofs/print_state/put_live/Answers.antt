use Rattle.std.proofs.Common.{◌++◌, codes}
use Rattle.byte_text.proofs.WritingLaws.{wrote_then}
use Rattle.life_cert.proofs.Writing.{wrote_front, wrote_where}
use Rattle.life_state.specs.Seen.{seen_brigade}
use Rattle.life_cert.specs.StateText.{where_holds, usable_text}
use Rattle.life_cert.proofs.print_state.put_live.Goals as goal

pub returns-in_err-put_all : goal.returns-in_err-put_all
returns-in_err-put_all g c =
    wrote_where _ _ ((c.args.sign.now ++ (where_holds c.args.brigade.now.usable (codes "u") ++ (where_holds c.args.brigade.now.passed (codes "p") ++ usable_text
    (seen_brigade c.args.brigade.now))))) c.from_residual.result (c.args.brigade.now.live) c.if-not-brigade.false (wrote_front _ _ (c.args.sign.now)
    ((where_holds c.args.brigade.now.usable (codes "u") ++ (where_holds c.args.brigade.now.passed (codes "p") ++ usable_text (seen_brigade c.args.brigade.now)))) c.from_residual.result
    c.from_residual.ensures.0 c.in_err-put_all.ensures)

pub returns-in_err-put_if : goal.returns-in_err-put_if
returns-in_err-put_if g c =
    wrote_where _ _ ((c.args.sign.now ++ (where_holds c.args.brigade.now.usable (codes "u") ++ (where_holds c.args.brigade.now.passed (codes "p") ++ usable_text
    (seen_brigade c.args.brigade.now))))) c.from_residual-in_err-put_if.result (c.args.brigade.now.live) c.if-not-brigade.false
    (wrote_then _ _ _ (c.args.sign.now) ((where_holds c.args.brigade.now.usable (codes "u") ++ (where_holds c.args.brigade.now.passed (codes "p") ++ usable_text
    (seen_brigade c.args.brigade.now)))) c.from_residual-in_err-put_if.result c.in_ok-put_all.ensures (wrote_front _ _ (where_holds c.args.brigade.now.usable (codes "u"))
    ((where_holds c.args.brigade.now.passed (codes "p") ++ usable_text (seen_brigade c.args.brigade.now))) c.from_residual-in_err-put_if.result c.from_residual-in_err-put_if.ensures.0
    c.in_err-put_if.ensures))

pub returns-in_err-put_if-2 : goal.returns-in_err-put_if-2
returns-in_err-put_if-2 g c =
    wrote_where _ _ ((c.args.sign.now ++ (where_holds c.args.brigade.now.usable (codes "u") ++ (where_holds c.args.brigade.now.passed (codes "p") ++ usable_text
    (seen_brigade c.args.brigade.now))))) c.from_residual-in_err-put_if-2.result (c.args.brigade.now.live) c.if-not-brigade.false
    (wrote_then _ _ _ (c.args.sign.now) ((where_holds c.args.brigade.now.usable (codes "u") ++ (where_holds c.args.brigade.now.passed (codes "p") ++ usable_text
    (seen_brigade c.args.brigade.now)))) c.from_residual-in_err-put_if-2.result c.in_ok-put_all.ensures (wrote_then _ _ _ (where_holds c.args.brigade.now.usable (codes "u"))
    ((where_holds c.args.brigade.now.passed (codes "p") ++ usable_text (seen_brigade c.args.brigade.now))) c.from_residual-in_err-put_if-2.result c.in_ok-put_if.ensures
    (wrote_front _ _ (where_holds c.args.brigade.now.passed (codes "p"))
    (usable_text (seen_brigade c.args.brigade.now)) c.from_residual-in_err-put_if-2.result c.from_residual-in_err-put_if-2.ensures.0 c.in_err-put_if-2.ensures)))

pub returns : goal.returns
returns g c =
    wrote_where _ _ ((c.args.sign.now ++ (where_holds c.args.brigade.now.usable (codes "u") ++ (where_holds c.args.brigade.now.passed (codes "p") ++ usable_text
    (seen_brigade c.args.brigade.now))))) c.put_usable.result (c.args.brigade.now.live) c.if-not-brigade.false (wrote_then _ _ _ (c.args.sign.now)
    ((where_holds c.args.brigade.now.usable (codes "u") ++ (where_holds c.args.brigade.now.passed (codes "p") ++ usable_text (seen_brigade c.args.brigade.now)))) c.put_usable.result
    c.in_ok-put_all.ensures (wrote_then _ _ _ (where_holds c.args.brigade.now.usable (codes "u")) ((where_holds c.args.brigade.now.passed (codes "p") ++ usable_text
    (seen_brigade c.args.brigade.now))) c.put_usable.result c.in_ok-put_if.ensures
    (wrote_then _ _ _ (where_holds c.args.brigade.now.passed (codes "p")) (usable_text (seen_brigade c.args.brigade.now)) c.put_usable.result c.in_ok-put_if-2.ensures (c.put_usable.ensures))))
