-- By the classes of the bucket.
use Rattle.std.proofs.Common.{◌≡◌, ap, ◌∙◌}
use Rattle.life_state.specs.declared.parts.Classes.{Classes}
use Rattle.life_state.specs.Rules.{classes_of, of_kind, not_of_kind, told_classes}
use Rattle.life_state.specs.Seen.{seen}
use Rattle.life_state.proofs.Picks.{edges_are}
use Rattle.life_state.proofs.state.State.jkind.Goals as goal

pub returns : goal.returns
returns c =
    let s = seen c.args.self in
    let classes : c.classes-classes.result ≡ classes_of (s.cursors c.args.c) = c.classes-classes.ensures ∙ ap classes_of c.cursor.ensures in
    edges_are _ _ _
    (c.told_classes.ensures ∙ ap (λ (t : Classes). told_classes c.args.c t s) (c.not_of_kind.ensures ∙ ap (not_of_kind c.args.test) classes))
    (c.told_classes-2.ensures ∙ ap (λ (t : Classes). told_classes c.args.c t s) (c.of_kind.ensures ∙ ap (of_kind c.args.test) classes))
