use Rattle.std.proofs.Common.{◌++◌, ◌∙◌, codes, sym}
use Rattle.byte_text.proofs.WritingLaws.{wrote_then}
use Rattle.life_cert.proofs.Writing.{wrote_front, wrote_where}
use Rattle.life_state.specs.Facts.{is_set}
use Rattle.life_state.specs.Seen.{seen_cursor}
use Rattle.life_cert.specs.StateText.{cursor_name, place_text_of}
use Rattle.life_cert.proofs.print_state.put_cursor.Goals as goal

pub returns-in_err-put_all : goal.returns-in_err-put_all
returns-in_err-put_all g c =
    wrote_where _ _ ((codes " " ++ (cursor_name c.args.number ++ (codes "=" ++ place_text_of (seen_cursor c.args.cursor.now))))) c.from_residual.result (is_set (seen_cursor c.args.cursor.now))
    (sym c.is_set-set.ensures ∙ c.if-not-set.false) (wrote_front _ _ (codes " ")
    ((cursor_name c.args.number ++ (codes "=" ++ place_text_of (seen_cursor c.args.cursor.now)))) c.from_residual.result c.from_residual.ensures.0 c.in_err-put_all.ensures)

pub returns-in_err-put_cursor_name : goal.returns-in_err-put_cursor_name
returns-in_err-put_cursor_name g c =
    wrote_where _ _ ((codes " " ++ (cursor_name c.args.number ++ (codes "=" ++ place_text_of (seen_cursor c.args.cursor.now))))) c.from_residual-in_err-put_cursor_name.result
    (is_set (seen_cursor c.args.cursor.now)) (sym c.is_set-set.ensures ∙ c.if-not-set.false) (wrote_then _ _ _ (codes " ")
    ((cursor_name c.args.number ++ (codes "=" ++ place_text_of (seen_cursor c.args.cursor.now)))) c.from_residual-in_err-put_cursor_name.result c.in_ok-put_all.ensures
    (wrote_front _ _ (cursor_name c.args.number) ((codes "=" ++ place_text_of (seen_cursor c.args.cursor.now))) c.from_residual-in_err-put_cursor_name.result
    c.from_residual-in_err-put_cursor_name.ensures.0 c.in_err-put_cursor_name.ensures))

pub returns-in_err-put_all-2 : goal.returns-in_err-put_all-2
returns-in_err-put_all-2 g c =
    wrote_where _ _ ((codes " " ++ (cursor_name c.args.number ++ (codes "=" ++ place_text_of (seen_cursor c.args.cursor.now))))) c.from_residual-in_err-put_all-2.result
    (is_set (seen_cursor c.args.cursor.now)) (sym c.is_set-set.ensures ∙ c.if-not-set.false) (wrote_then _ _ _ (codes " ")
    ((cursor_name c.args.number ++ (codes "=" ++ place_text_of (seen_cursor c.args.cursor.now)))) c.from_residual-in_err-put_all-2.result c.in_ok-put_all.ensures
    (wrote_then _ _ _ (cursor_name c.args.number) ((codes "=" ++ place_text_of (seen_cursor c.args.cursor.now))) c.from_residual-in_err-put_all-2.result c.in_ok-put_cursor_name.ensures
    (wrote_front _ _ (codes "=") (place_text_of (seen_cursor c.args.cursor.now)) c.from_residual-in_err-put_all-2.result c.from_residual-in_err-put_all-2.ensures.0 c.in_err-put_all-2.ensures)))

pub returns : goal.returns
returns g c =
    wrote_where _ _ ((codes " " ++ (cursor_name c.args.number ++ (codes "=" ++ place_text_of (seen_cursor c.args.cursor.now))))) c.put_cursor_state.result (is_set (seen_cursor c.args.cursor.now))
    (sym c.is_set-set.ensures ∙ c.if-not-set.false) (wrote_then _ _ _ (codes " ") ((cursor_name c.args.number ++ (codes "=" ++ place_text_of (seen_cursor c.args.cursor.now))))
    c.put_cursor_state.result c.in_ok-put_all.ensures (wrote_then _ _ _ (cursor_name c.args.number) ((codes "=" ++ place_text_of (seen_cursor c.args.cursor.now))) c.put_cursor_state.result
    c.in_ok-put_cursor_name.ensures
    (wrote_then _ _ _ (codes "=") (place_text_of (seen_cursor c.args.cursor.now)) c.put_cursor_state.result c.in_ok-put_all-2.ensures (c.put_cursor_state.ensures))))
