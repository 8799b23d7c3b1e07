use Rattle.std.proofs.Common.{sym, ◌∙◌}
use Rattle.http_front.proofs.BeginLaws.{wants_path}
use Rattle.http_front.proofs.Stepped.{ok_gives}
use Rattle.http_front.proofs.wanted.wanted_of.Goals as goal

pub returns-in-None : goal.returns-in-None
returns-in-None c =
    ok_gives _ _ c.path_wanted.result (λ w says h at. wants_path c.args.site.now h w (sym (c.head_refusal.ensures h at) ∙ c.in-None.is) (says h (c.of.ensures ∙ at.path))) c.path_wanted.ensures
