use Rattle.std.proofs.Common.{◌++◌, ◌&&◌, codes}
use Rattle.std.specs.Prelude.{nat_lt}
use Rattle.byte_text.proofs.WritingLaws.{wrote_then}
use Rattle.life_cert.proofs.Writing.{wrote_front, wrote_where}
use Rattle.life_state.specs.Seen.{seen}
use Rattle.life_cert.specs.StateText.{cursor_name}
use Rattle.life_cert.proofs.print_state.put_fact.Goals as goal

pub returns-in_err-put_all : goal.returns-in_err-put_all
returns-in_err-put_all g c =
    wrote_where _ _ ((codes " " ++ (cursor_name c.args.c ++ (codes "!" ++ cursor_name c.args.d)))) c.from_residual.result (nat_lt c.args.c c.args.d && (seen c.args.state.now).facts c.args.c
    c.args.d) (rw c.fact.ensures at c.if-not-rises.false)
    (wrote_front _ _ (codes " ") ((cursor_name c.args.c ++ (codes "!" ++ cursor_name c.args.d))) c.from_residual.result c.from_residual.ensures.0 c.in_err-put_all.ensures)

pub returns-in_err-put_cursor_name : goal.returns-in_err-put_cursor_name
returns-in_err-put_cursor_name g c =
    wrote_where _ _ ((codes " " ++ (cursor_name c.args.c ++ (codes "!" ++ cursor_name c.args.d)))) c.from_residual-in_err-put_cursor_name.result
    (nat_lt c.args.c c.args.d && (seen c.args.state.now).facts c.args.c c.args.d) (rw c.fact.ensures at c.if-not-rises.false) (wrote_then _ _ _ (codes " ")
    ((cursor_name c.args.c ++ (codes "!" ++ cursor_name c.args.d))) c.from_residual-in_err-put_cursor_name.result c.in_ok-put_all.ensures (wrote_front _ _ (cursor_name c.args.c)
    ((codes "!" ++ cursor_name c.args.d)) c.from_residual-in_err-put_cursor_name.result c.from_residual-in_err-put_cursor_name.ensures.0 c.in_err-put_cursor_name.ensures))

pub returns-in_err-put_all-2 : goal.returns-in_err-put_all-2
returns-in_err-put_all-2 g c =
    wrote_where _ _ ((codes " " ++ (cursor_name c.args.c ++ (codes "!" ++ cursor_name c.args.d)))) c.from_residual-in_err-put_all-2.result
    (nat_lt c.args.c c.args.d && (seen c.args.state.now).facts c.args.c c.args.d) (rw c.fact.ensures at c.if-not-rises.false) (wrote_then _ _ _ (codes " ")
    ((cursor_name c.args.c ++ (codes "!" ++ cursor_name c.args.d))) c.from_residual-in_err-put_all-2.result c.in_ok-put_all.ensures
    (wrote_then _ _ _ (cursor_name c.args.c) ((codes "!" ++ cursor_name c.args.d)) c.from_residual-in_err-put_all-2.result c.in_ok-put_cursor_name.ensures
    (wrote_front _ _ (codes "!") (cursor_name c.args.d) c.from_residual-in_err-put_all-2.result c.from_residual-in_err-put_all-2.ensures.0 c.in_err-put_all-2.ensures)))

pub returns : goal.returns
returns g c =
    wrote_where _ _ ((codes " " ++ (cursor_name c.args.c ++ (codes "!" ++ cursor_name c.args.d)))) c.put_cursor_name-2.result (nat_lt c.args.c c.args.d && (seen c.args.state.now).facts c.args.c
    c.args.d) (rw c.fact.ensures at c.if-not-rises.false) (wrote_then _ _ _ (codes " ") ((cursor_name c.args.c ++ (codes "!" ++ cursor_name c.args.d))) c.put_cursor_name-2.result
    c.in_ok-put_all.ensures (wrote_then _ _ _ (cursor_name c.args.c) ((codes "!" ++ cursor_name c.args.d)) c.put_cursor_name-2.result c.in_ok-put_cursor_name.ensures
    (wrote_then _ _ _ (codes "!") (cursor_name c.args.d) c.put_cursor_name-2.result c.in_ok-put_all-2.ensures (c.put_cursor_name-2.ensures))))
