use Rattle.std.proofs.Common.{refl, sym, ap, Some, None}
use Rattle.http_message.specs.Sites.{route_of}
use Rattle.http_message.proofs.SitePaths.{lookup-utf8, found}
use Rattle.http_message.proofs.site.Site.route.Goals as goal

pub returns-in_default : goal.returns-in_default
unfolding route_of
returns-in_default c =
    rw (lookup-utf8 c.args.path.now c.args.self.now.routes c.args.self.now.paths c.in_default.ensures.cases.0) refl

pub returns-in-Ok-at : goal.returns-in-Ok-at
unfolding route_of
returns-in-Ok-at c =
    rw (found c.args.self.now.routes c.args.path.now c.in-Ok.text.now _ c.args.self.now.paths c.in-Ok.ensures.cases.0 c.in-Ok-at.ensures.found)
    (ap Some (sym c.as_slice.ensures.value))

pub returns-in-Err : goal.returns-in-Err
unfolding route_of
returns-in-Err c =
    rw (found c.args.self.now.routes c.args.path.now c.in-Ok.text.now None c.args.self.now.paths c.in-Ok.ensures.cases.0 c.in-Err.ensures.missing)
    refl
