use Rattle.model_laws.proofs.Brought.{buckets_as_pieces, late_data_is_refused, brought_ends_once}
use Rattle.model_laws.proofs.laws.brought_brigades_end_once.Goals as goal

pub returns-clause-pieces : goal.returns-clause-pieces
returns-clause-pieces c = buckets_as_pieces

pub returns-clause-refused : goal.returns-clause-refused
returns-clause-refused c = late_data_is_refused

pub returns-clause-brought : goal.returns-clause-brought
returns-clause-brought c = brought_ends_once
