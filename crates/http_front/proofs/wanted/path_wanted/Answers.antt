use Rattle.std.proofs.Common.{ap, refl, sym, ◌∙◌}
use Rattle.http_message.specs.Sites.{route_of}
use Rattle.http_front.proofs.Stepped.{file_at_path, no_file}
use Rattle.http_front.proofs.wanted.path_wanted.Goals as goal

pub returns-in_default : goal.returns-in_default
returns-in_default c h t = (sym (no_file c.args.site.now h c.args.target.now t c.in_default.ensures), refl)

pub returns-in-Some-route : goal.returns-in-Some-route
returns-in-Some-route c h t =
    sym (file_at_path c.args.site.now h c.args.target.now c.in-Some.sent.now t c.in-Some.ensures)
    ∙ ap (route_of c.args.site.now) (sym (c.as_slice.ensures.value ∙ c.in_ok-path.ensures)) ∙ c.in-Some-route.ensures

pub returns : goal.returns
returns c h t = (
  sym (file_at_path c.args.site.now h c.args.target.now c.in-Some.sent.now t c.in-Some.ensures)
      ∙ ap (route_of c.args.site.now) (sym (c.as_slice.ensures.value ∙ c.in_ok-path.ensures)) ∙ c.in-None.ensures,
  refl,
)
