use Rattle.std.proofs.Common.{refl, ◌∙◌}
use Rattle.std.proofs.lemmas.Result.{on_ok_weaker, on_err_weaker}
use Rattle.script_text.specs.Heads.{head_of}
use Rattle.script_text.specs.declared.texts.LineTaken.TheVariants as taken
use Rattle.script_play.proofs.PlayerLaws.{heard, heard_more, heard_over, heard_ready, heard_begun, heard_quiet, heard_still, heard_checked, heard_command, begun_by, on_err_any}
use Rattle.script_play.proofs.player.Player.take_line.Goals as goal

pub begin-requires : goal.begin-requires
begin-requires g c =
    let k = heard c.args.self.now _ c.in-Texts.texts c.take.new.self _ taken.Checked c.args.out.now.items c.take.new.out.items c.requires.at.0 c.requires.few
    (cc) c.requires.at.1 c.in-Checked.is c.in_ok-take.ensures.ok in
    record { ready = (head_of c.take.new.self, heard_ready _ _ _ _ _ _ _ k) }

pub begin-requires-in-Command : goal.begin-requires-in-Command
begin-requires-in-Command g c =
    let k = heard c.args.self.now _ c.in-Texts.texts c.take.new.self _ taken.Command c.args.out.now.items c.take.new.out.items c.requires.at.0 c.requires.few
    (cc) c.requires.at.1 c.in-Command.is c.in_ok-take.ensures.ok in
    record { ready = (head_of c.take.new.self, heard_begun _ _ _ _ _ _ _ k) }

pub take_command-requires-in-Command : goal.take_command-requires-in-Command
take_command-requires-in-Command g c =
    let k = heard c.args.self.now _ c.in-Texts.texts c.take.new.self _ taken.Command c.args.out.now.items c.take.new.out.items c.requires.at.0 c.requires.few
    (cc) c.requires.at.1 c.in-Command.is c.in_ok-take.ensures.ok in
    let b = c.in_ok-begin-in-Command.ensures.ok (head_of c.take.new.self) (heard_begun _ _ _ _ _ _ _ k) in
    record { begun = (b.stage, b.at, (begun_by _ (head_of c.take.new.self) _ _ b).0) }

pub returns-in-More-clause-ok : goal.returns-in-More-clause-ok
returns-in-More-clause-ok g c = λ s at.
    let k = heard c.args.self.now _ c.in-Texts.texts c.take.new.self _ taken.More c.args.out.now.items c.take.new.out.items s c.requires.few (cc) at c.in-More.is c.in_ok-take.ensures.ok in
    heard_more _ _ _ _ _ _ _ s k refl refl

pub returns-in-Over-clause-ok : goal.returns-in-Over-clause-ok
returns-in-Over-clause-ok g c = λ s at.
    let k = heard c.args.self.now _ c.in-Texts.texts c.take.new.self _ taken.Over c.args.out.now.items c.take.new.out.items s c.requires.few (cc) at c.in-Over.is c.in_ok-take.ensures.ok in
    rw c.stop.ensures (heard_over _ _ _ _ _ _ _ s k refl)

pub returns-in-Checked-clause-ok : goal.returns-in-Checked-clause-ok
returns-in-Checked-clause-ok g c = λ s at.
    let k = heard c.args.self.now _ c.in-Texts.texts c.take.new.self _ taken.Checked c.args.out.now.items c.take.new.out.items s c.requires.few (cc) at c.in-Checked.is c.in_ok-take.ensures.ok in
    on_ok_weaker c.begin.result (λ b. heard_checked _ _ _ _ c.take.new.self _ _ _ s k b) (c.begin.ensures.ok (head_of c.take.new.self) (heard_ready _ _ _ _ _ _ _ k))

pub returns-in-Checked-clause-err : goal.returns-in-Checked-clause-err
returns-in-Checked-clause-err g c =
    let k = heard c.args.self.now _ c.in-Texts.texts c.take.new.self _ taken.Checked c.args.out.now.items c.take.new.out.items c.requires.at.0 c.requires.few
    (cc) c.requires.at.1 c.in-Checked.is c.in_ok-take.ensures.ok in
    on_err_weaker c.begin.result (λ e. e ∙ heard_quiet _ _ _ _ _ _ _ k) c.begin.ensures.err

pub returns-in_err-begin-in-Command-clause-err : goal.returns-in_err-begin-in-Command-clause-err
returns-in_err-begin-in-Command-clause-err g c =
    let k = heard c.args.self.now _ c.in-Texts.texts c.take.new.self _ taken.Command c.args.out.now.items c.take.new.out.items c.requires.at.0 c.requires.few
    (cc) c.requires.at.1 c.in-Command.is c.in_ok-take.ensures.ok in
    on_err_any c.from_residual-in_err-begin-in-Command.result (c.in_err-begin-in-Command.ensures.err ∙ heard_still _ _ _ _ _ _ _ k)

pub returns-in_ok-begin-in-Command-clause-ok : goal.returns-in_ok-begin-in-Command-clause-ok
returns-in_ok-begin-in-Command-clause-ok g c = λ s at.
    let k = heard c.args.self.now _ c.in-Texts.texts c.take.new.self _ taken.Command c.args.out.now.items c.take.new.out.items s c.requires.few (cc) at c.in-Command.is c.in_ok-take.ensures.ok in
    let b = c.in_ok-begin-in-Command.ensures.ok (head_of c.take.new.self) (heard_begun _ _ _ _ _ _ _ k) in
    on_ok_weaker c.take_command-in-Command.result (λ t. heard_command c.begin-in-Command.new.self _ _ _ _ c.take.new.self _ _ _ _ s k b c.in_ok-begin-in-Command.ensures.lines t)
    (c.take_command-in-Command.ensures.ok b.stage b.at (begun_by _ (head_of c.take.new.self) _ _ b).0)

pub returns-in_ok-begin-in-Command-clause-err : goal.returns-in_ok-begin-in-Command-clause-err
returns-in_ok-begin-in-Command-clause-err g c =
    let k = heard c.args.self.now _ c.in-Texts.texts c.take.new.self _ taken.Command c.args.out.now.items c.take.new.out.items c.requires.at.0 c.requires.few
    (cc) c.requires.at.1 c.in-Command.is c.in_ok-take.ensures.ok in
    let b = c.in_ok-begin-in-Command.ensures.ok (head_of c.take.new.self) (heard_begun _ _ _ _ _ _ _ k) in
    on_err_weaker c.take_command-in-Command.result (λ e. e ∙ (begun_by _ (head_of c.take.new.self) _ _ b).1 ∙ heard_still _ _ _ _ _ _ _ k) c.take_command-in-Command.ensures.err
