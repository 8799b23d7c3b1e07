use Rattle.model_laws.proofs.parts.Own.{own_changes}
use Rattle.model_laws.proofs.parts.Others.{others_stay, spares_root, new_spares}
use Rattle.model_laws.proofs.parts.Order.{part_formed, reads_alike, new_planted}
use Rattle.model_laws.proofs.parts.Joined.{joined_stays, parts_whole}
use Rattle.model_laws.proofs.laws.parts_stand_apart.Goals as goal

pub returns-clause-formed : goal.returns-clause-formed
returns-clause-formed c = part_formed

pub returns-clause-alike : goal.returns-clause-alike
returns-clause-alike c = reads_alike

pub returns-clause-own : goal.returns-clause-own
returns-clause-own c = own_changes

pub returns-clause-others : goal.returns-clause-others
returns-clause-others c = others_stay

pub returns-clause-root : goal.returns-clause-root
returns-clause-root c = spares_root

pub returns-clause-new : goal.returns-clause-new
returns-clause-new c = new_planted

pub returns-clause-new_apart : goal.returns-clause-new_apart
returns-clause-new_apart c = new_spares

pub returns-clause-joined_stays : goal.returns-clause-joined_stays
returns-clause-joined_stays c = joined_stays

pub returns-clause-joined : goal.returns-clause-joined
returns-clause-joined c = parts_whole
