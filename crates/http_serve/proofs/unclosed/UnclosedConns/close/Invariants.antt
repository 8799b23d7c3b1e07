-- The host stands for some world.
use Rattle.http_front.specs.Driven.{IsAlive}
use Rattle.http_serve.proofs.unclosed.UnclosedConns.close.Given as goal

abbrev pub invariant-loop-number : goal.invariant-loop-number
invariant-loop-number g l = IsAlive g.F.Files.device l.host
