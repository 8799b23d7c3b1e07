use Rattle.std.proofs.Common.{rules, ◌≡◌, true, None, refl}
use Rattle.http_message.specs.Routes.{is_site_path}
use Rattle.http_message.specs.Sites.{route_of}
use Rattle.http_message.proofs.SitePaths.{put-paths, put-map}
use Rattle.http_message.proofs.site.Site.add.Goals as goal

pub returns-then-not-is_site_path : goal.returns-then-not-is_site_path
returns-then-not-is_site_path c = record {
  good = tt;
  free = tt;
  put = tt;
  bad = λ _. cc;
  refused = λ _. refl;
  taken = λ e. cc;
  short = λ e. cc;
  kept = λ q. refl;
}

pub returns-then-is_some : goal.returns-then-is_some
returns-then-is_some c = record {
  good = tt;
  free = tt;
  put = tt;
  bad = λ e. cc;
  refused = λ e. first_of (cc, search rules);
  taken = λ _. search rules;
  short = λ e. cc;
  kept = λ q. refl;
}

pub returns-in_default : goal.returns-in_default
returns-in_default c = record {
  good = tt;
  free = tt;
  put = tt;
  bad = λ e. cc;
  refused = λ e. first_of (cc, search rules);
  taken = λ e. cc;
  short = λ _. first_of (search rules, cc);
  kept = λ q. refl;
}

pub invariant_of-self : goal.invariant_of-self
invariant_of-self c =
    let good : is_site_path c.args.path.now ≡ true = first_of (cc, search rules) in
    record {
      paths = put-paths c.in-Ok.name c.args.self.now.routes c.insert.new.self c.args.path.now good c.insert.result c.insert.ensures c.args.self.now.paths;
    }

pub returns : goal.returns
unfolding route_of
returns c =
    let good : is_site_path c.args.path.now ≡ true = first_of (cc, search rules) in
    let free : route_of c.args.self.now c.args.path.now ≡ None = first_of (search rules, cc) in
    record {
      good = good;
      free = free;
      put = put-map c.in-Ok.name c.args.self.now.routes c.insert.new.self c.args.path.now good
          (λ route. route.value.items) c.args.file.now c.in-Ok-insert.field-0 c.in-Ok-insert.ensures free c.in-Ok.ensures.items;
      bad = tt;
      refused = λ e. cc (good, e);
      taken = tt;
      short = tt;
      kept = tt;
    }
