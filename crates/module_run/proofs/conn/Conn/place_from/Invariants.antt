-- All filters before k have left, so a brigade goes from k on where it goes from the first place on.
use Rattle.std.proofs.Common.{◌≡◌, ℕ}
use Rattle.std.specs.Prelude.{Option}
use Rattle.bucket_store.specs.Items.{Items}
use Rattle.module_run.specs.Conns.{place_in}
use Rattle.module_run.proofs.conn.Conn.place_from.Given as goal

abbrev pub invariant-loop-k : goal.invariant-loop-k
invariant-loop-k l = (rings : ℕ → Option Items) → place_in l.modules rings l.self l.k ≡ place_in l.modules rings l.self l.fn.from
