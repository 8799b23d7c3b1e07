-- By what is told of the opening.
use Rattle.std.proofs.Common.{◌<◌, ℕ, ◌+◌, ◌-◌, ◌^◌, false, is_some, Ok, Err, refl, sym, ap, subst, ◌∙◌, inr, arith, rules}
use Rattle.std.proofs.Math.Path.{fun_ext}
use Rattle.bucket_kinds.specs.Answers.{Opens}
use Rattle.bucket_kinds.specs.Device.{Device}
use Rattle.run_model.specs.declared.event.Refusal.{Refusal}
use Rattle.run_model.specs.declared.event.Refusal.TheVariants as refusal
use Rattle.run_model.specs.Turns.{Found, file_taken}
use Rattle.pool_tree.specs.Tree.{map_of}
use Rattle.brigade_ops.specs.Store.{lists, next_name}
use Rattle.module_run.specs.declared.conn.Conn.{Conn}
use Rattle.module_run.specs.declared.conn.OpenFile.{OpenFile}
use Rattle.module_run.specs.Happened.{has_lasted}
use Rattle.module_run.specs.OpenedFile.{WasOpened}
use Rattle.module_run.specs.Proceeding.{LeftAs}
use Rattle.module_run.specs.Conns.{filter_at}
use Rattle.module_run.proofs.Neighbours.{rises_by, unchanged, unmoved}
use Rattle.module_run.proofs.FileOpens.{closed_again, file_left, left_device, left_refiled, numbered_closed, some_bytes}
use Rattle.module_run.proofs.OpeningsTold.{may_tell_unasked, not_spent, opening_is, rest_of, stays_unasked, unasked, was_opened, was_refused}
use Rattle.module_run.proofs.Refusing.{open_left, open_refused}
use Rattle.module_run.proofs.RequestBegins.{request_live}
use Rattle.module_run.proofs.Unchanged.{left_same}
use Rattle.module_run.proofs.conn.Conn.open_file.Goals as goal

pub keep_file-requires : goal.keep_file-requires
keep_file-requires g c =
    (let s = c.requires.stands in request_live s.0 c.args.tree.now c.args.store.now (g.F.Files.device c.args.files.now) c.args.self.now s.1.linked s.1.so c.in-Ok.pool c.in-Ok.ensures.pool)

pub returns-in-Err-clause-opened : goal.returns-in-Err-clause-opened
returns-in-Err-clause-opened g c chain v stands below =
    let d = g.F.Files.device c.args.files.now in
    was_opened chain c.args.tree.now c.args.store.now d d c.args.self.now c.args.name.now v (Err c.in-Err.why) (unasked v.0.file d c.args.name.now) v
    (may_tell_unasked v.0.file d c.args.name.now below)
    (open_refused (map_of c.args.tree.now) (lists c.args.store.now) (next_name c.args.store.now) c.args.self.now v stands.left.seen (unasked v.0.file d c.args.name.now)
    (has_lasted c.in-Err.why) c.in-Err.why (sym c.in-Err.ensures.refusal))
    stands.left below (stays_unasked c.args.name.now d c.args.self.now.broken c.args.self.now.busy c.args.self.now.req c.in-Err.why c.in-Err.ensures.refusal) tt

pub returns-in-Err-open_file-clause-opened : goal.returns-in-Err-open_file-clause-opened
returns-in-Err-open_file-clause-opened g c chain v stands below =
    let d = g.F.Files.device c.args.files.now in
    let e = g.F.Files.device c.open_file.new.self in
    subst (λ (r : Refusal). WasOpened chain c.args.tree.now c.args.store.now d e c.args.self.now c.args.name.now (Err r) v) (sym c.unopened.ensures)
    (was_refused chain c.args.tree.now c.args.store.now d e c.args.self.now c.args.name.now v c.in-Err-open_file.fault c.in-Err-open_file.ensures (sym c.in-Ok.ensures.refusal) stands.left below)

pub returns-in_default-clause-opened : goal.returns-in_default-clause-opened
returns-in_default-clause-opened g c chain v stands below =
    let self = c.args.self.now in
    let d = g.F.Files.device c.args.files.now in
    let e = g.F.Files.device c.open_file.new.self in
    let last = g.F.Files.device c.close_file.new.self in
    let told = c.in-Ok-open_file.opened in
    let opens : Opens d c.args.name.now told.0 told.1 e = c.in-Ok-open_file.ensures in
    let bytes = some_bytes (d.named c.args.name.now) told.1 opens.length_is in
    let k = c.in_default.ensures in
    was_opened chain c.keep_file.new.tree c.keep_file.new.store d last c.keep_file.new.self c.args.name.now v (Err refusal.NoMemory) (Found (d.next - v.0.file) bytes.0) v
    (bytes.1.0, rest_of v.0.file d.next below)
    (open_left (map_of c.args.tree.now) (lists c.args.store.now) (next_name c.args.store.now) self v stands.left.seen false (d.next - v.0.file) bytes.0 (sym c.in-Ok.ensures.refusal)
    (not_spent (v.0.file + (d.next - v.0.file)) (let lt = opens.number_fits in let at = opens.number_is in let all = rest_of v.0.file d.next below in omega (arith, all, lt, at))))
    (left_device chain c.keep_file.new.tree c.keep_file.new.store d last c.keep_file.new.self v
    (λ file. ap (λ (x : Device). x.numbered file) c.close_file.ensures ∙ numbered_closed d e c.args.name.now told.0 told.1 opens file)
    (subst (λ (x : Conn). LeftAs chain c.keep_file.new.tree c.keep_file.new.store d x v) (sym k.rest)
    (left_refiled chain c.keep_file.new.tree c.keep_file.new.store d d self v c.keep_file.new.self.files k.same
    (left_same c.args.store.now c.keep_file.new.store (λ n. ap (λ (f : ℕ → _). f n) k.lists) k.next k.pools chain c.args.tree.now c.keep_file.new.tree d self v k.kept
    (fun_ext k.uncounted) stands.left))))
    (let next = ap (λ (x : Device). x.next) c.close_file.ensures in let after = ap (λ (x : Device). x.next) opens.after in omega (arith, below, next, after))
    (opens.went_well, inr (closed_again d e c.args.name.now told.0 told.1 opens last c.close_file.ensures)) tt

pub returns-clause-opened : goal.returns-clause-opened
returns-clause-opened g c chain v stands below =
    let self = c.args.self.now in
    let d = g.F.Files.device c.args.files.now in
    let e = g.F.Files.device c.open_file.new.self in
    let told = c.in-Ok-open_file.opened in
    let opens : Opens d c.args.name.now told.0 told.1 e = c.in-Ok-open_file.ensures in
    let bytes = some_bytes (d.named c.args.name.now) told.1 opens.length_is in
    let k = c.in-Ok-keep_file.ensures in
    let file : OpenFile = record { number = told.0; len = told.1 } in
    let short : told.1 < 2 ^ 64 = search rules in
    was_opened chain c.keep_file.new.tree c.keep_file.new.store d e c.keep_file.new.self c.args.name.now v (Ok (told.0, told.1)) (Found (d.next - v.0.file) bytes.0)
    (file_taken c.in-Ok.pool told.0 bytes.0 v) (bytes.1.0, rest_of v.0.file d.next below)
    (opening_is (map_of c.args.tree.now) (lists c.args.store.now) (next_name c.args.store.now) self v stands.left.seen told.0 told.1 d.next c.in-Ok.pool bytes.0 opens.number_is opens.number_fits
    below bytes.1.1 c.in-Ok.ensures.pool (sym c.in-Ok.ensures.refusal))
    (subst (λ (x : Conn). LeftAs chain c.keep_file.new.tree c.keep_file.new.store e x (file_taken c.in-Ok.pool told.0 bytes.0 v)) (sym k.rest)
    (file_left d e c.args.name.now told.0 told.1 opens chain c.args.tree.now c.keep_file.new.tree c.args.store.now c.keep_file.new.store self v stands.left c.in-Ok.pool bytes.0 bytes.1.0 bytes.1.1
    c.keep_file.new.self.files file refl refl k.files k.map k.formed (k.house stands.left.house) k.counted k.lists k.brigades k.pools k.next))
    (let after = ap (λ (x : Device). x.next) opens.after in let at = opens.number_is in omega (arith, after, at))
    (opens.went_well, opens.after) short

pub returns-in-Err-clause-leaves : goal.returns-in-Err-clause-leaves
returns-in-Err-clause-leaves g c =
    unmoved (map_of c.args.tree.now) c.args.store.now c.args.self.now c.args.self.now (λ k. refl)

pub returns-in-Err-open_file-clause-leaves : goal.returns-in-Err-open_file-clause-leaves
returns-in-Err-open_file-clause-leaves g c =
    unmoved (map_of c.args.tree.now) c.args.store.now c.args.self.now c.args.self.now (λ k. refl)

pub returns-in_default-clause-leaves : goal.returns-in_default-clause-leaves
unfolding filter_at
returns-in_default-clause-leaves g c =
    let e = c.keep_file.ensures in
    let next = e.next in
    unchanged (map_of c.args.tree.now) c.args.store.now c.keep_file.new.store c.args.self.now c.keep_file.new.self (λ n. ap (λ (f : ℕ → _). f n) e.lists) e.pools (rises_by next)
    (λ id there young. ap (λ (f : _ → _). is_some (f id)) (sym e.brigades) ∙ there) (λ k. ap (λ (x : Conn). filter_at x k) e.rest)

pub returns-clause-leaves : goal.returns-clause-leaves
unfolding filter_at
returns-clause-leaves g c =
    let e = c.keep_file.ensures in
    let next = e.next in
    unchanged (map_of c.args.tree.now) c.args.store.now c.keep_file.new.store c.args.self.now c.keep_file.new.self (λ n. ap (λ (f : ℕ → _). f n) e.lists) e.pools (rises_by next)
    (λ id there young. ap (λ (f : _ → _). is_some (f id)) (sym e.brigades) ∙ there) (λ k. ap (λ (x : Conn). filter_at x k) e.rest)
