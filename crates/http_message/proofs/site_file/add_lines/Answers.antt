use Rattle.std.proofs.Common.{◌≡◌, ◌+◌, ◌<◌, ◌∙◌, true, false, length, drop, ap, arith, subst, sym, rules}
use Rattle.std.proofs.lemmas.List.{length-drop}
use Rattle.std.proofs.lemmas.Bool.Decides.{nat_tests}
use Rattle.byte_text.specs.TextLines.{lines_of, first_line, width}
use Rattle.http_message.specs.Sites.{route_of}
use Rattle.http_message.specs.SiteFiles.{no_routes, AddsLine, AddsNothing, SiteFailsAt}
use Rattle.http_message.proofs.SiteLaws.{RoutesSoFar, added_first, nothing_first, so_far_adds, so_far_fails, so_far_end}
use Rattle.http_message.proofs.site_file.add_lines.Goals as goal

pub returns-then-not-branch-clause-line : goal.returns-then-not-branch-clause-line
returns-then-not-branch-clause-line c = λ k e.
    let some : 0 < length c.loop-rest.rest.now = grind arith in
    let same : c.loop-rest.number + 1 ≡ k = cc e in
    let line = c.first_line-line in
    let no : c.in_ok-add_line.field-0 ≡ false = search rules in
    let nothing : AddsNothing (record { text = line.result.text.now; ended = line.result.ended }) (route_of c.loop-rest.site) = c.in_ok-add_line.ensures.refused no in
    subst (λ x. SiteFailsAt 1 (lines_of c.args.text.now) no_routes x) same (so_far_fails c.args.text.now c.loop-rest.rest.now c.loop-rest.number _ _ _ c.loop-rest.invariant.0
    (line.ensures.lines some) (nothing_first c.loop-rest.rest.now line.result.text.now line.result.ended _ line.ensures.text line.ensures.ended nothing))

pub returns-clause-site : goal.returns-clause-site
returns-clause-site c =
    let none : length c.loop-rest.rest.now ≡ 0 = grind (arith, nat_tests) in
    so_far_end c.args.text.now c.loop-rest.rest.now c.loop-rest.number _ c.loop-rest.invariant.0 none

pub loop-rest-preserved : goal.loop-rest-preserved
loop-rest-preserved c =
    let some : 0 < length c.loop-rest.rest.now = grind arith in
    let line = c.first_line-line in
    let yes : c.in_ok-add_line.field-0 ≡ true = search rules in
    let one : AddsLine (record { text = line.result.text.now; ended = line.result.ended }) (route_of c.loop-rest.site) (route_of c.add_line.new.site) = c.in_ok-add_line.ensures.added yes in
    let next = so_far_adds c.args.text.now c.loop-rest.rest.now c.loop-rest.number _ _ _ (route_of c.add_line.new.site) c.loop-rest.invariant.0 (line.ensures.lines some)
    (added_first c.loop-rest.rest.now line.result.text.now line.result.ended _ _ line.ensures.text line.ensures.ended one) in
    let rest : c.behind-rest.result.now ≡ drop (width (first_line c.loop-rest.rest.now)) c.loop-rest.rest.now = c.behind-rest.ensures ∙ ap (λ w. drop w c.loop-rest.rest.now) line.ensures.width in
    let moves = line.ensures.moves some in
    let within = line.ensures.within in
    let few = c.loop-rest.invariant.1 in
    let long = ap length c.behind-rest.ensures ∙ length-drop line.result.width c.loop-rest.rest.now in (
      subst (λ l. RoutesSoFar c.args.text.now l (c.loop-rest.number + 1) (route_of c.add_line.new.site)) (sym rest) next,
      omega (arith, moves, within, few, long),
    )
