use Rattle.std.proofs.Common.{◌++◌, codes}
use Rattle.byte_text.proofs.WritingLaws.{wrote_then}
use Rattle.life_cert.proofs.Writing.{wrote_front}
use Rattle.life_cert.specs.StateText.{numbered, set_text}
use Rattle.life_cert.proofs.print_state.put_pool.Goals as goal

pub returns-in_err-put_numbered : goal.returns-in_err-put_numbered
returns-in_err-put_numbered g c =
    wrote_front _ _ (numbered (codes " p") c.args.number)
    ((codes "=" ++ set_text c.args.pool.null c.args.pool.gone c.args.pool.live)) c.from_residual.result c.from_residual.ensures.0 c.in_err-put_numbered.ensures

pub returns-in_err-put_all : goal.returns-in_err-put_all
returns-in_err-put_all g c =
    wrote_then _ _ _ (numbered (codes " p") c.args.number) ((codes "=" ++ set_text c.args.pool.null c.args.pool.gone c.args.pool.live)) c.from_residual-in_err-put_all.result
    c.in_ok-put_numbered.ensures (wrote_front _ _ (codes "=")
    (set_text c.args.pool.null c.args.pool.gone c.args.pool.live) c.from_residual-in_err-put_all.result c.from_residual-in_err-put_all.ensures.0 c.in_err-put_all.ensures)

pub returns : goal.returns
returns g c =
    wrote_then _ _ _ (numbered (codes " p") c.args.number) ((codes "=" ++ set_text c.args.pool.null c.args.pool.gone c.args.pool.live)) c.put_set.result c.in_ok-put_numbered.ensures
    (wrote_then _ _ _ (codes "=") (set_text c.args.pool.null c.args.pool.gone c.args.pool.live) c.put_set.result c.in_ok-put_all.ensures (c.put_set.ensures))
