use Rattle.model_laws.proofs.parts.Seen.{begins_in_part, brings_in_part, ends_in_part, labels_in_part, opens_file_in_part, steps_in_part}
use Rattle.model_laws.proofs.parts.SoundOver.{sound_over}
use Rattle.model_laws.proofs.parts.TopSpares.{top_spares}
use Rattle.model_laws.proofs.laws.events_are_seen_in_their_part.Goals as goal

pub returns-clause-steps : goal.returns-clause-steps
returns-clause-steps c = steps_in_part

pub returns-clause-begins : goal.returns-clause-begins
returns-clause-begins c = begins_in_part

pub returns-clause-brings : goal.returns-clause-brings
returns-clause-brings c = brings_in_part

pub returns-clause-opens_file : goal.returns-clause-opens_file
returns-clause-opens_file c = opens_file_in_part

pub returns-clause-ends : goal.returns-clause-ends
returns-clause-ends c = ends_in_part

pub returns-clause-labels : goal.returns-clause-labels
returns-clause-labels c = labels_in_part

pub returns-clause-sound : goal.returns-clause-sound
returns-clause-sound c = sound_over

pub returns-clause-others : goal.returns-clause-others
returns-clause-others c = top_spares
