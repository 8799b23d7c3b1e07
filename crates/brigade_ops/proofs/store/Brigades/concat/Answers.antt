-- It is what the rings do.
use Rattle.std.proofs.Common.{refl}
use Rattle.brigade_ops.specs.Store.{lists, brigade_of, pool_of, next_name, references}
use Rattle.brigade_ops.proofs.store.Brigades.concat.Goals as goal

pub splice_tail-requires-clause-ring : goal.splice_tail-requires-clause-ring
unfolding lists
splice_tail-requires-clause-ring g c = c.requires.onto

pub splice_tail-requires-clause-from : goal.splice_tail-requires-clause-from
unfolding lists
splice_tail-requires-clause-from g c = c.requires.from

pub returns-clause-out : goal.returns-clause-out
unfolding lists
returns-clause-out g c = c.splice_tail.ensures.out

pub returns-clause-next : goal.returns-clause-next
unfolding next_name
returns-clause-next g c = c.splice_tail.ensures.next

pub returns-clause-names : goal.returns-clause-names
unfolding brigade_of next_name
returns-clause-names g c = c.splice_tail.ensures.names

pub returns-clause-pools : goal.returns-clause-pools
unfolding pool_of
returns-clause-pools g c = refl

pub returns-clause-references : goal.returns-clause-references
unfolding references
returns-clause-references g c = refl
