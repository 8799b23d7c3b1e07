use Rattle.std.proofs.Common.{ap, ◌∙◌, ◌++◌, List, ℕ}
use Rattle.std.specs.Global.{Vec}
use Rattle.pool_tree.specs.Printed.{payload_text, printed}
use Rattle.run_model.specs.Worlds.{tree_of}
use Rattle.script_play.proofs.Served.{pools_served}
use Rattle.script_play.proofs.commands.pools.Goals as goal

pub returns-clause-served : goal.returns-clause-served
returns-clause-served g c w hosts =
    let text = c.in_ok-extend.ensures.ok ∙ ap (λ (l : List ℕ). l ++ c.as_slice.result.now) c.new-text.ensures ∙ c.as_slice.ensures.value in
    let none = ap (λ (v : Vec ℕ). v.items) c.new-out.ensures.writer ∙ c.new.ensures.items in
    let lines = ap (λ (v : Vec ℕ). v.items) c.into_writer-lines.ensures
    ∙ ((c.in-Ok.ensures w hosts).bytes ∙ ap (λ (l : List ℕ). l ++ printed payload_text (tree_of w) 0 w.common.root) none) in
    pools_served c.args.host.now w c.extend.new.self (text ∙ lines) hosts
