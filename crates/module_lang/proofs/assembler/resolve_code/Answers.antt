-- Handler by handler, with the labels that stand before.
use Rattle.std.proofs.Common.{◌≡◌, Ok, [], ◌++◌}
use Rattle.std.proofs.lemmas.Result.{err_from_is_err_and}
use Rattle.module_lang.specs.Handlers.{IsSeen, handler_resolved}
use Rattle.module_lang.proofs.AssemblingLaws.{seen_none, stop1, stop2, stop3, done}
use Rattle.module_lang.proofs.ModuleLaws.{module_of}
use Rattle.module_lang.proofs.assembler.resolve_code.Goals as goal
use Rattle.module_lang.proofs.assembler.resolve_code.Goals.{In_ok-resolve_handler, In_ok-resolve_handler-2, In_ok-resolve_handler-3}

-- the code of the first handler, and of each further one, with the labels that have been seen
first : (c : In_ok-resolve_handler) → (handler_resolved [] c.args.draft.now.open c.args.code.now ≡ Ok c.resolve_handler.new.code) × IsSeen c.resolve_handler.new.seen c.args.draft.now.open.labels
first c =
    let seen = seen_none c.new-seen.result c.new-seen.ensures.empty in
    (c.in_ok-resolve_handler.ensures.code [] seen, c.in_ok-resolve_handler.ensures.seen [] seen)

second : (c : In_ok-resolve_handler-2) → IsSeen c.resolve_handler.new.seen c.args.draft.now.open.labels
    → (handler_resolved c.args.draft.now.open.labels c.args.draft.now.init c.resolve_handler.new.code ≡ Ok c.resolve_handler-2.new.code)
    × IsSeen c.resolve_handler-2.new.seen (c.args.draft.now.open.labels ++ c.args.draft.now.init.labels)
second c seen = (c.in_ok-resolve_handler-2.ensures.code _ seen, c.in_ok-resolve_handler-2.ensures.seen _ seen)

third : (c : In_ok-resolve_handler-3) → IsSeen c.resolve_handler-2.new.seen (c.args.draft.now.open.labels ++ c.args.draft.now.init.labels)
    → handler_resolved (c.args.draft.now.open.labels ++ c.args.draft.now.init.labels) c.args.draft.now.main c.resolve_handler-2.new.code ≡ Ok c.resolve_handler-3.new.code
third c seen = c.in_ok-resolve_handler-3.ensures.code _ seen

pub returns-in_err-resolve_handler-clause-code : goal.returns-in_err-resolve_handler-clause-code
returns-in_err-resolve_handler-clause-code c =
    let p = err_from_is_err_and c.from_residual.result c.from_residual.ensures.1 in
    let seen = seen_none c.new-seen.result c.new-seen.ensures.empty in
    rw (p.1, p.2) (stop1 c.args.draft.now _ c.args.code.now c.requires.empty (c.in_err-resolve_handler.ensures.fault [] seen))

pub returns-in_err-resolve_handler-2-clause-code : goal.returns-in_err-resolve_handler-2-clause-code
returns-in_err-resolve_handler-2-clause-code c =
    let p = err_from_is_err_and c.from_residual-in_err-resolve_handler-2.result c.from_residual-in_err-resolve_handler-2.ensures.1 in
    let a = first (goal.at.returns-in_err-resolve_handler-2-clause-code c).In_ok-resolve_handler in
    rw (p.1, p.2) (stop2 c.args.draft.now _ c.args.code.now c.requires.empty c.resolve_handler.new.code a.0 (c.in_err-resolve_handler-2.ensures.fault c.args.draft.now.open.labels a.1))

pub returns-in_err-resolve_handler-3-clause-code : goal.returns-in_err-resolve_handler-3-clause-code
returns-in_err-resolve_handler-3-clause-code c =
    let g = goal.at.returns-in_err-resolve_handler-3-clause-code c in
    let p = err_from_is_err_and c.from_residual-in_err-resolve_handler-3.result c.from_residual-in_err-resolve_handler-3.ensures.1 in
    let a = first g.In_ok-resolve_handler in
    let b = second g.In_ok-resolve_handler-2 a.1 in
    rw (p.1, p.2) (stop3 c.args.draft.now _ c.args.code.now c.requires.empty c.resolve_handler.new.code c.resolve_handler-2.new.code a.0 b.0
    (c.in_err-resolve_handler-3.ensures.fault (c.args.draft.now.open.labels ++ c.args.draft.now.init.labels) b.1))

pub returns-clause-code : goal.returns-clause-code
returns-clause-code c =
    let g = goal.at.returns-clause-code c in
    let a = first g.In_ok-resolve_handler in
    let b = second g.In_ok-resolve_handler-2 a.1 in
    rw (c.len-init.ensures, c.len-main.ensures)
    (done c.args.draft.now c.args.code.now _ _ _ c.requires.empty a.0 b.0 (third g.In_ok-resolve_handler-3 b.1))

pub returns-clause-sound : goal.returns-clause-sound
returns-clause-sound c =
    let g = goal.at.returns-clause-sound c in
    let a = first g.In_ok-resolve_handler in
    let b = second g.In_ok-resolve_handler-2 a.1 in
    rw (c.len-init.ensures, c.len-main.ensures)
    (module_of c.args.draft.now c.args.code.now _ _ _ c.requires.empty c.requires.draft a.0 b.0 (third g.In_ok-resolve_handler-3 b.1))
