-- The files that a site has.
use Rattle.std.specs.Prelude.{ℕ, List, Option}
use Rattle.matchit.specs.Order.{lookup}
use Rattle.matchit.specs.Router.{map_key}
use Rattle.http_message.specs.declared.site.Site.{Site}

-- the name of the file that stands under a path
unfoldable pub route_of : Site → List ℕ → Option (List ℕ)
route_of site path = map_key (λ route. route.value.items) (lookup path site.routes)
