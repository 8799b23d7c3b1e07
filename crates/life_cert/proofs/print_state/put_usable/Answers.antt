use Rattle.std.proofs.Common.{◌++◌, codes}
use Rattle.byte_text.proofs.WritingLaws.{wrote_then}
use Rattle.life_cert.proofs.Writing.{wrote_front, wrote_where}
use Rattle.life_state.specs.Seen.{seen_homes}
use Rattle.life_cert.specs.StateText.{content_text, homes_text}
use Rattle.life_cert.proofs.print_state.put_usable.Goals as goal

pub returns-in_err-put_all : goal.returns-in_err-put_all
returns-in_err-put_all g c =
    wrote_where _ _ ((codes "/" ++ (content_text c.args.brigade.now.content ++ (codes "/" ++ homes_text (seen_homes c.args.brigade.now.homes))))) c.from_residual.result
    (c.args.brigade.now.usable) c.if-not-brigade.false (wrote_front _ _ (codes "/")
    ((content_text c.args.brigade.now.content ++ (codes "/" ++ homes_text (seen_homes c.args.brigade.now.homes)))) c.from_residual.result c.from_residual.ensures.0 c.in_err-put_all.ensures)

pub returns-in_err-put_all-2 : goal.returns-in_err-put_all-2
returns-in_err-put_all-2 g c =
    wrote_where _ _ ((codes "/" ++ (content_text c.args.brigade.now.content ++ (codes "/" ++ homes_text (seen_homes c.args.brigade.now.homes))))) c.from_residual-in_err-put_all-2.result
    (c.args.brigade.now.usable) c.if-not-brigade.false (wrote_then _ _ _ (codes "/") ((content_text c.args.brigade.now.content
    ++ (codes "/" ++ homes_text (seen_homes c.args.brigade.now.homes)))) c.from_residual-in_err-put_all-2.result c.in_ok-put_all.ensures
    (wrote_front _ _ (content_text c.args.brigade.now.content) ((codes "/" ++ homes_text (seen_homes c.args.brigade.now.homes))) c.from_residual-in_err-put_all-2.result
    c.from_residual-in_err-put_all-2.ensures.0 (rw c.content_text.ensures at c.in_err-put_all-2.ensures)))

pub returns-in_err-put_all-3 : goal.returns-in_err-put_all-3
returns-in_err-put_all-3 g c =
    wrote_where _ _ ((codes "/" ++ (content_text c.args.brigade.now.content ++ (codes "/" ++ homes_text (seen_homes c.args.brigade.now.homes))))) c.from_residual-in_err-put_all-3.result
    (c.args.brigade.now.usable) c.if-not-brigade.false (wrote_then _ _ _ (codes "/") ((content_text c.args.brigade.now.content
    ++ (codes "/" ++ homes_text (seen_homes c.args.brigade.now.homes)))) c.from_residual-in_err-put_all-3.result c.in_ok-put_all.ensures
    (wrote_then _ _ _ (content_text c.args.brigade.now.content) ((codes "/" ++ homes_text (seen_homes c.args.brigade.now.homes))) c.from_residual-in_err-put_all-3.result
    (rw c.content_text.ensures at c.in_ok-put_all-2.ensures) (wrote_front _ _ (codes "/")
    (homes_text (seen_homes c.args.brigade.now.homes)) c.from_residual-in_err-put_all-3.result c.from_residual-in_err-put_all-3.ensures.0 c.in_err-put_all-3.ensures)))

pub returns : goal.returns
returns g c =
    wrote_where _ _ ((codes "/" ++ (content_text c.args.brigade.now.content ++ (codes "/" ++ homes_text (seen_homes c.args.brigade.now.homes))))) c.put_homes.result
    (c.args.brigade.now.usable) c.if-not-brigade.false (wrote_then _ _ _ (codes "/") ((content_text c.args.brigade.now.content
    ++ (codes "/" ++ homes_text (seen_homes c.args.brigade.now.homes)))) c.put_homes.result c.in_ok-put_all.ensures (wrote_then _ _ _ (content_text c.args.brigade.now.content)
    ((codes "/" ++ homes_text (seen_homes c.args.brigade.now.homes))) c.put_homes.result (rw c.content_text.ensures at c.in_ok-put_all-2.ensures)
    (wrote_then _ _ _ (codes "/") (homes_text (seen_homes c.args.brigade.now.homes)) c.put_homes.result c.in_ok-put_all-3.ensures (c.put_homes.ensures))))
