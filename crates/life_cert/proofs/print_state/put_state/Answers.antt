-- The parts of the text in turn: those that are written whole, and the front of the one at which the writer failed.
use Rattle.std.proofs.Common.{ℕ, List, ◌++◌, subst}
use Rattle.byte_text.specs.Writes.{AppendsText, writer_state}
use Rattle.byte_text.proofs.WritingLaws.{wrote_then}
use Rattle.life_cert.proofs.Writing.{Front, wrote_front}
use Rattle.life_state.specs.States.{BrigadeKnown, State}
use Rattle.life_state.specs.Seen.{seen}
use Rattle.life_cert.specs.StateText.{pool_text, brigade_text, in_text, cursor_text, facts_text, each, state_text}
use Rattle.life_cert.proofs.print_state.put_state.Goals as goal

-- the text from the cursors on, and so on up to that of the pools
abbrev from_cursors : State → List ℕ
from_cursors s = each 0 9 (λ k. cursor_text k (s.cursors k)) ++ each 0 9 (facts_text s)

abbrev from_in : State → List ℕ
from_in s = in_text (s.brigades 8) ++ from_cursors s

abbrev from_brigades : State → List ℕ
from_brigades s = each 0 s.brigade_count (λ b. brigade_text b (s.brigades b)) ++ from_in s

abbrev from_pools : State → List ℕ
from_pools s = each 0 s.pool_count (λ q. pool_text q (s.pools q)) ++ from_brigades s

pub returns-in_err-put_all : goal.returns-in_err-put_all
unfolding state_text
returns-in_err-put_all g c =
    wrote_front _ _ _ (from_pools (seen c.args.state.now)) _ c.from_residual.ensures.0 (rw (c.sent_text.ensures, c.sent.ensures) at c.in_err-put_all.ensures)

pub returns-in_err-put_pools : goal.returns-in_err-put_pools
unfolding state_text
returns-in_err-put_pools g c =
    wrote_then _ _ _ _ _ _ (rw (c.sent_text.ensures, c.sent.ensures) at c.in_ok-put_all.ensures)
    (wrote_front _ _ _ (from_brigades (seen c.args.state.now)) _ c.from_residual-in_err-put_pools.ensures.0 c.in_err-put_pools.ensures)

pub returns-in_err-put_brigades : goal.returns-in_err-put_brigades
unfolding state_text
returns-in_err-put_brigades g c =
    wrote_then _ _ _ _ _ _ (rw (c.sent_text.ensures, c.sent.ensures) at c.in_ok-put_all.ensures) (wrote_then _ _ _ _ _ _ c.in_ok-put_pools.ensures
    (wrote_front _ _ _ (from_in (seen c.args.state.now)) _ c.from_residual-in_err-put_brigades.ensures.0 c.in_err-put_brigades.ensures))

pub returns-in_err-put_live : goal.returns-in_err-put_live
unfolding state_text
returns-in_err-put_live g c =
    let w = writer_state g.W.Write.contents in
    wrote_then _ _ _ _ _ _ (rw (c.sent_text.ensures, c.sent.ensures) at c.in_ok-put_all.ensures) (wrote_then _ _ _ _ _ _ c.in_ok-put_pools.ensures
    (wrote_then _ _ _ _ _ _ c.in_ok-put_brigades.ensures (wrote_front _ _ _ (from_cursors (seen c.args.state.now)) _ c.from_residual-in_err-put_live.ensures.0
    (subst (λ (v : BrigadeKnown). Front (w c.put_brigades.new.out) (w c.put_live.new.out) (in_text v)) c.brigade.ensures c.in_err-put_live.ensures))))

pub returns-in_err-put_cursors : goal.returns-in_err-put_cursors
unfolding state_text
returns-in_err-put_cursors g c =
    let w = writer_state g.W.Write.contents in
    wrote_then _ _ _ _ _ _ (rw (c.sent_text.ensures, c.sent.ensures) at c.in_ok-put_all.ensures) (wrote_then _ _ _ _ _ _ c.in_ok-put_pools.ensures
    (wrote_then _ _ _ _ _ _ c.in_ok-put_brigades.ensures
    (wrote_then _ _ _ _ _ _ (subst (λ (v : BrigadeKnown). AppendsText (w c.put_brigades.new.out) (w c.put_live.new.out) (in_text v)) c.brigade.ensures c.in_ok-put_live.ensures)
    (wrote_front _ _ _ (each 0 9 (facts_text (seen c.args.state.now))) _ c.from_residual-in_err-put_cursors.ensures.0 c.in_err-put_cursors.ensures))))

pub returns : goal.returns
unfolding state_text
returns g c =
    let w = writer_state g.W.Write.contents in
    wrote_then _ _ _ _ _ _ (rw (c.sent_text.ensures, c.sent.ensures) at c.in_ok-put_all.ensures) (wrote_then _ _ _ _ _ _ c.in_ok-put_pools.ensures
    (wrote_then _ _ _ _ _ _ c.in_ok-put_brigades.ensures
    (wrote_then _ _ _ _ _ _ (subst (λ (v : BrigadeKnown). AppendsText (w c.put_brigades.new.out) (w c.put_live.new.out) (in_text v)) c.brigade.ensures c.in_ok-put_live.ensures)
    (wrote_then _ _ _ _ _ _ c.in_ok-put_cursors.ensures c.put_facts.ensures))))
