-- The host stands for some world.
use Rattle.http_front.specs.Driven.{IsAlive}
use Rattle.http_serve.proofs.listening.serve_in_order.Given as goal

abbrev pub invariant-loop : goal.invariant-loop
invariant-loop g l = IsAlive g.F.Files.device l.host
