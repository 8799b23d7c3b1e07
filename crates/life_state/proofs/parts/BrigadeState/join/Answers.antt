-- Part by part.
use Rattle.std.proofs.Common.{◌||◌, ap, ◌∙◌}
use Rattle.life_state.specs.declared.parts.Contents.{Contents}
use Rattle.life_state.specs.States.{Homes, BrigadeKnown}
use Rattle.life_state.specs.Order.{brigade_join}
use Rattle.life_state.specs.Seen.{seen_homes}
use Rattle.life_state.proofs.parts.BrigadeState.join.Goals as goal

pub returns : goal.returns
unfolding brigade_join
returns c =
    let a = c.args.self.now in
    let b = c.args.other.now in
    let of : Contents → Homes → BrigadeKnown = λ content homes. record {
      null = a.null || b.null;
      gone = a.gone || b.gone;
      live = a.live || b.live;
      usable = a.usable || b.usable;
      passed = a.passed || b.passed;
      content = content;
      homes = homes;
    } in
    ap (λ content. of content (seen_homes c.join-2.result)) c.join.ensures ∙ ap (of _) c.join-2.ensures
