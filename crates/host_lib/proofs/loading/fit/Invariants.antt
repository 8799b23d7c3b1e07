use Rattle.std.proofs.Common.{◌≡◌, ◌+◌, length}
use Rattle.host_lib.specs.Texts.{start_of}
use Rattle.host_lib.proofs.loading.fit.Given as goal

abbrev pub invariant-loop-each : goal.invariant-loop-each
invariant-loop-each l = l.rest + start_of l.lengths l.each-index ≡ length l.texts
