use Rattle.std.proofs.Common.{◌++◌, codes}
use Rattle.byte_text.proofs.WritingLaws.{wrote_then}
use Rattle.life_cert.proofs.Writing.{wrote_front}
use Rattle.life_state.specs.Seen.{seen_brigade}
use Rattle.life_cert.specs.StateText.{numbered, set_text, live_text}
use Rattle.life_cert.proofs.print_state.put_brigade.Goals as goal

pub returns-in_err-put_numbered : goal.returns-in_err-put_numbered
returns-in_err-put_numbered g c =
    wrote_front _ _ (numbered (codes " b") c.args.number) ((codes "=" ++ (set_text c.args.brigade.now.null c.args.brigade.now.gone c.args.brigade.now.live ++ live_text (codes "/")
    (seen_brigade c.args.brigade.now)))) c.from_residual.result c.from_residual.ensures.0 c.in_err-put_numbered.ensures

pub returns-in_err-put_all : goal.returns-in_err-put_all
returns-in_err-put_all g c =
    wrote_then _ _ _ (numbered (codes " b") c.args.number) ((codes "=" ++ (set_text c.args.brigade.now.null c.args.brigade.now.gone c.args.brigade.now.live ++ live_text (codes "/")
    (seen_brigade c.args.brigade.now)))) c.from_residual-in_err-put_all.result c.in_ok-put_numbered.ensures (wrote_front _ _ (codes "=")
    ((set_text c.args.brigade.now.null c.args.brigade.now.gone c.args.brigade.now.live ++ live_text (codes "/") (seen_brigade c.args.brigade.now))) c.from_residual-in_err-put_all.result
    c.from_residual-in_err-put_all.ensures.0 c.in_err-put_all.ensures)

pub returns-in_err-put_set : goal.returns-in_err-put_set
returns-in_err-put_set g c =
    wrote_then _ _ _ (numbered (codes " b") c.args.number) ((codes "=" ++ (set_text c.args.brigade.now.null c.args.brigade.now.gone c.args.brigade.now.live ++ live_text (codes "/")
    (seen_brigade c.args.brigade.now)))) c.from_residual-in_err-put_set.result c.in_ok-put_numbered.ensures (wrote_then _ _ _ (codes "=")
    ((set_text c.args.brigade.now.null c.args.brigade.now.gone c.args.brigade.now.live ++ live_text (codes "/") (seen_brigade c.args.brigade.now))) c.from_residual-in_err-put_set.result
    c.in_ok-put_all.ensures (wrote_front _ _ (set_text c.args.brigade.now.null c.args.brigade.now.gone c.args.brigade.now.live)
    (live_text (codes "/") (seen_brigade c.args.brigade.now)) c.from_residual-in_err-put_set.result c.from_residual-in_err-put_set.ensures.0 c.in_err-put_set.ensures))

pub returns : goal.returns
returns g c =
    wrote_then _ _ _ (numbered (codes " b") c.args.number) ((codes "=" ++ (set_text c.args.brigade.now.null c.args.brigade.now.gone c.args.brigade.now.live ++ live_text (codes "/")
    (seen_brigade c.args.brigade.now)))) c.put_live.result c.in_ok-put_numbered.ensures (wrote_then _ _ _ (codes "=")
    ((set_text c.args.brigade.now.null c.args.brigade.now.gone c.args.brigade.now.live ++ live_text (codes "/") (seen_brigade c.args.brigade.now))) c.put_live.result c.in_ok-put_all.ensures
    (wrote_then _ _ _ (set_text c.args.brigade.now.null c.args.brigade.now.gone c.args.brigade.now.live)
    (live_text (codes "/") (seen_brigade c.args.brigade.now)) c.put_live.result c.in_ok-put_set.ensures (c.put_live.ensures)))
