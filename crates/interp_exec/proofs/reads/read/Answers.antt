-- The bucket is found where the cursor stands, and is read or not.
use Rattle.std.proofs.Common.{◌≡◌, true, false, [], Err, Result, Some, None, Option, is_some, sym, ap, subst, ◌∙◌}
use Rattle.bucket_ring.specs.declared.names.BucketId.{BucketId}
use Rattle.bucket_kinds.specs.Reading.{IsOpenFor}
use Rattle.run_model.specs.BucketSteps.{content_at}
use Rattle.run_model.specs.Cursors.{CursorPlace, bucket_at, read_cursor}
use Rattle.run_model.specs.Cutting.{read_of, wanted}
use Rattle.run_model.specs.Faults.{home_fault}
use Rattle.run_model.specs.State.{set_cursor}
use Rattle.run_model.specs.declared.bucket.Cursor.TheVariants as cursor
use Rattle.run_model.specs.declared.bucket.Bucket.{Bucket}
use Rattle.run_model.specs.declared.bucket.NamedBucket.{NamedBucket}
use Rattle.bucket_store.specs.declared.refusal.ReadRefusal.{ReadRefusal}
use Rattle.bucket_store.specs.declared.refusal.ReadRefusal.TheVariants as refusal
use Rattle.bucket_store.specs.Items.{named_item, replaced, rest_item}
use Rattle.brigade_ops.specs.Store.{lists, brigade_of, pool_of, next_name}
use Rattle.interp_state.specs.declared.machine.CursorValue.TheVariants as cursor_value
use Rattle.interp_state.specs.Given.{WasRead}
use Rattle.interp_state.specs.Held.{WasGiven}
use Rattle.interp_state.specs.Seen.{seen_over, calls_in, item_in}
use Rattle.interp_exec.proofs.Makes.{alive_at, held_same}
use Rattle.interp_exec.proofs.BucketReads.{read_into, taken_of, none_given, is_wanted, told_none, told_some, done_read, rest_same, same_read, next_is, next_rises, next_same, err_ok}
use Rattle.interp_state.proofs.Changes.{seen_same}
use Rattle.interp_state.proofs.LeftAlone.{left_on, left_same, ours_slot}
use Rattle.interp_state.proofs.Names.{name_kept, apart_in, held_kept, no_less, still_on}
use Rattle.interp_state.proofs.Standing.{within_set, within_here, within_live}
use Rattle.interp_state.proofs.Stands.{some_same}
use Rattle.interp_state.proofs.Walks.{held_cursor, same_at}
use Rattle.interp_exec.proofs.reads.read.Goals as goal

pub bucket-id-requires-clause-at : goal.bucket-id-requires-clause-at
bucket-id-requires-clause-at g c = within_set c.args.store.now c.args.instance.now c.args.call.now c.args.c c.requires.held c.requires.stands

pub read-requires-clause-there : goal.read-requires-clause-there
read-requires-clause-there g c = within_live c.args.store.now c.args.instance.now c.args.call.now c.args.c c.requires.held c.requires.stands c.bucket-id.result c.bucket-id.ensures

pub read-requires-clause-ends : goal.read-requires-clause-ends
read-requires-clause-ends g c =
    λ x here.
    let s = within_here c.args.store.now c.args.instance.now c.args.call.now c.args.c c.requires.held c.requires.stands c.bucket-id.result c.bucket-id.ensures in
    c.requires.ends s.variable s.ring c.bucket-id.result x s.named s.inside here

pub returns-in-Ok-clause-ok : goal.returns-in-Ok-clause-ok
returns-in-Ok-clause-ok g c =
    λ view b z stands home.
    let s = within_here c.args.store.now c.args.instance.now c.args.call.now c.args.c c.requires.held c.requires.stands c.bucket-id.result c.bucket-id.ensures in
    let r = seen_over (lists c.args.store.now) (next_name c.args.store.now) view c.args.instance.now c.args.call.now in
    let y : NamedBucket = named_item (item_in (calls_in view c.args.call.now) (c.bucket-id.result, s.bucket)) in
    let read = c.in-Ok.ensures.read s.bucket s.here in
    let gave = read.ok s.ring s.inside in
    let took = taken_of (g.F.Files.device c.args.files.now) s.bucket.content gave.0 gave.1 in
    let same = took.1.1 s.bucket in
    let wrote = same_read c.args.store.now c.read.new.self c.bucket-id.result c.in-Ok.field-0 s.bucket s.ring gave.0 took.0 same gave.2 in
    let alive = alive_at (ap bucket_at (s.at view)) (ap (λ (s : CursorPlace). home_fault (bucket_at s)) stands ∙ home) in
    let rest = read.rest ∙ rest_same [] took.0 s.bucket in
    let next = next_is [] s.bucket (next_name c.args.store.now) (next_name c.read.new.self) read.names in
    subst (λ (s : CursorPlace). WasRead (g.F.Files.device c.args.files.now) (g.F.Files.device c.read.new.files) s r
    (seen_over (lists c.read.new.self) (next_name c.read.new.self) view c.args.instance.now c.set_cursor.new.self) true) (sym (s.at view))
    (record {
      given = Some gave.0;
      gave = (gave.1, read.asked);
      answer = told_some (Some gave.0) s.variable y took.0 took.1.0;
      state = done_read (Some gave.0) (Some took.0) s.variable y r (seen_over (lists c.read.new.self) (next_name c.read.new.self) view c.args.instance.now c.set_cursor.new.self) took.1.0
          (read_into (lists c.args.store.now) (lists c.read.new.self) (next_name c.args.store.now) (next_name c.read.new.self) view c.args.instance.now c.args.call.now c.set_cursor.new.self
          (apart_in (brigade_of c.args.store.now) (lists c.args.store.now) (pool_of c.args.store.now) (next_name c.args.store.now) c.args.instance.now c.args.call.now c.requires.held)
          c.bucket-id.result c.in-Ok.field-0 s.bucket took.0
          s.variable s.ring s.named s.given s.found alive s.name.young rest c.in-Ok.ensures.name next wrote
          (c.set_cursor.ensures.seen (lists c.read.new.self) (next_name c.read.new.self) view c.args.instance.now));
    })

pub returns-in-Ok-clause-held : goal.returns-in-Ok-clause-held
returns-in-Ok-clause-held g c =
    let s = within_here c.args.store.now c.args.instance.now c.args.call.now c.args.c c.requires.held c.requires.stands c.bucket-id.result c.bucket-id.ensures in
    let read = c.in-Ok.ensures.read s.bucket s.here in
    let gave = read.ok s.ring s.inside in
    let rises = next_rises [] s.bucket (next_name c.args.store.now) (next_name c.read.new.self) read.names in
    let still = held_kept c.args.store.now c.read.new.self rises c.read.ensures.names c.read.ensures.pools
    (still_on (lists c.args.store.now) (lists c.read.new.self) s.ring (replaced c.bucket-id.result (read_of gave.0 s.bucket).0 (rest_item c.in-Ok.field-0 (read_of gave.0 s.bucket).1)) gave.2)
    c.args.instance.now c.args.call.now c.requires.held in
    held_cursor (brigade_of c.read.new.self) (lists c.read.new.self) (pool_of c.read.new.self) (next_name c.read.new.self) c.args.instance.now c.args.call.now c.set_cursor.new.self 8
    (cursor_value.At c.bucket-id.result) c.set_cursor.ensures.name c.set_cursor.ensures.cursors
    (λ j e. subst (WasGiven c.read.new.self) (same_at c.bucket-id.result j e)
    (name_kept (brigade_of c.args.store.now) (brigade_of c.read.new.self) (next_name c.args.store.now) (next_name c.read.new.self) rises c.read.ensures.names c.bucket-id.result s.name)) still

pub returns-in-Err-ReadFault-clause-ok : goal.returns-in-Err-ReadFault-clause-ok
returns-in-Err-ReadFault-clause-ok g c =
    λ view b z stands home.
    let s = within_here c.args.store.now c.args.instance.now c.args.call.now c.args.c c.requires.held c.requires.stands c.bucket-id.result c.bucket-id.ensures in
    let r = seen_over (lists c.args.store.now) (next_name c.args.store.now) view c.args.instance.now c.args.call.now in
    let y : NamedBucket = named_item (item_in (calls_in view c.args.call.now) (c.bucket-id.result, s.bucket)) in
    let read = c.in-Err-ReadFault.ensures.read s.bucket s.here in
    let no_rest : Option BucketId = None in
    let fault : ◌≡◌ {A = Result (Option BucketId) ReadRefusal} (Err c.in-Err-ReadFault.field-0) (Err refusal.ReadFault) =
    ap (λ (e : ReadRefusal). let o : Result (Option BucketId) ReadRefusal = Err e in o) c.in-Err-ReadFault.field-0-is in
    let some = is_wanted (wanted s.bucket.content) (λ zero. err_ok c.in-Err-ReadFault.field-0 no_rest (read.unread zero).0) in
    let none = none_given s.bucket.content some in
    subst (λ (s : CursorPlace). WasRead (g.F.Files.device c.args.files.now) (g.F.Files.device c.read.new.files) s r
    (seen_over (lists c.read.new.self) (next_name c.read.new.self) view c.args.instance.now c.set_cursor-in-Err-ReadFault.new.self) false) (sym (s.at view))
    (record {
      given = None;
      gave = (some, read.fault fault);
      answer = told_none None s.variable y none;
      state = done_read None None s.variable y r (seen_over (lists c.read.new.self) (next_name c.read.new.self) view c.args.instance.now c.set_cursor-in-Err-ReadFault.new.self) none
          (c.set_cursor-in-Err-ReadFault.ensures.seen (lists c.read.new.self) (next_name c.read.new.self) view c.args.instance.now
          ∙ ap (set_cursor read_cursor cursor.Unset) (seen_same (lists c.args.store.now) (next_name c.args.store.now) view c.args.instance.now c.args.call.now (lists c.read.new.self)
          (next_name c.read.new.self) (next_same (is_some (read_of [] s.bucket).1) (next_name c.args.store.now) (next_name c.read.new.self) read.names) c.in-Err-ReadFault.ensures.err));
    })

pub returns-in-Err-ReadFault-clause-held : goal.returns-in-Err-ReadFault-clause-held
returns-in-Err-ReadFault-clause-held g c =
    let s = within_here c.args.store.now c.args.instance.now c.args.call.now c.args.c c.requires.held c.requires.stands c.bucket-id.result c.bucket-id.ensures in
    let read = c.in-Err-ReadFault.ensures.read s.bucket s.here in
    let same = next_same (is_some (read_of [] s.bucket).1) (next_name c.args.store.now) (next_name c.read.new.self) read.names in
    let still = held_same c.args.store.now c.read.new.self same c.read.ensures.names c.read.ensures.pools c.in-Err-ReadFault.ensures.err c.args.instance.now c.args.call.now c.requires.held in
    held_cursor (brigade_of c.read.new.self) (lists c.read.new.self) (pool_of c.read.new.self) (next_name c.read.new.self) c.args.instance.now c.args.call.now c.set_cursor-in-Err-ReadFault.new.self
    8 cursor_value.Unset c.set_cursor-in-Err-ReadFault.ensures.name c.set_cursor-in-Err-ReadFault.ensures.cursors
    (λ j e. absurd (let never = e in cc)) still

pub returns-in-Err-clause-held : goal.returns-in-Err-clause-held
returns-in-Err-clause-held g c =
    let s = within_here c.args.store.now c.args.instance.now c.args.call.now c.args.c c.requires.held c.requires.stands c.bucket-id.result c.bucket-id.ensures in
    let read = c.in-Err.ensures.read s.bucket s.here in
    let same = next_same (is_some (read_of [] s.bucket).1) (next_name c.args.store.now) (next_name c.read.new.self) read.names in
    held_same c.args.store.now c.read.new.self same c.read.ensures.names c.read.ensures.pools c.in-Err.ensures.err c.args.instance.now c.args.call.now c.requires.held

pub returns-in-Err-clause-err : goal.returns-in-Err-clause-err
returns-in-Err-clause-err g c =
    λ view.
    let s = within_here c.args.store.now c.args.instance.now c.args.call.now c.args.c c.requires.held c.requires.stands c.bucket-id.result c.bucket-id.ensures in
    let read = c.in-Err.ensures.read s.bucket s.here in
    seen_same (lists c.args.store.now) (next_name c.args.store.now) view c.args.instance.now c.args.call.now (lists c.read.new.self) (next_name c.read.new.self)
    (next_same (is_some (read_of [] s.bucket).1) (next_name c.args.store.now) (next_name c.read.new.self) read.names) c.in-Err.ensures.err

pub returns-in-Ok-clause-left : goal.returns-in-Ok-clause-left
returns-in-Ok-clause-left g c =
    let s = within_here c.args.store.now c.args.instance.now c.args.call.now c.args.c c.requires.held c.requires.stands c.bucket-id.result c.bucket-id.ensures in
    let read = c.in-Ok.ensures.read s.bucket s.here in
    let gave = read.ok s.ring s.inside in
    left_on c.args.store.now c.read.new.self
    (next_rises [] s.bucket (next_name c.args.store.now) (next_name c.read.new.self) read.names) c.read.ensures.names c.read.ensures.pools c.read.ensures.references c.read.ensures.unasked
    s.ring (replaced c.bucket-id.result (read_of gave.0 s.bucket).0 (rest_item c.in-Ok.field-0 (read_of gave.0 s.bucket).1)) gave.2 c.args.instance.now c.args.call.now
    (ours_slot c.args.instance.now c.args.call.now s.variable s.ring s.named)

pub returns-in-Err-ReadFault-clause-left : goal.returns-in-Err-ReadFault-clause-left
returns-in-Err-ReadFault-clause-left g c =
    let s = within_here c.args.store.now c.args.instance.now c.args.call.now c.args.c c.requires.held c.requires.stands c.bucket-id.result c.bucket-id.ensures in
    let read = c.in-Err-ReadFault.ensures.read s.bucket s.here in
    let same = next_same (is_some (read_of [] s.bucket).1) (next_name c.args.store.now) (next_name c.read.new.self) read.names in
    left_same c.args.store.now c.read.new.self (no_less (next_name c.args.store.now) (next_name c.read.new.self) same) c.read.ensures.names c.read.ensures.pools c.read.ensures.references
    c.read.ensures.unasked c.in-Err-ReadFault.ensures.err c.args.instance.now c.args.call.now

pub returns-in-Err-clause-left : goal.returns-in-Err-clause-left
returns-in-Err-clause-left g c =
    let s = within_here c.args.store.now c.args.instance.now c.args.call.now c.args.c c.requires.held c.requires.stands c.bucket-id.result c.bucket-id.ensures in
    let read = c.in-Err.ensures.read s.bucket s.here in
    let same = next_same (is_some (read_of [] s.bucket).1) (next_name c.args.store.now) (next_name c.read.new.self) read.names in
    left_same c.args.store.now c.read.new.self (no_less (next_name c.args.store.now) (next_name c.read.new.self) same) c.read.ensures.names c.read.ensures.pools c.read.ensures.references
    c.read.ensures.unasked c.in-Err.ensures.err c.args.instance.now c.args.call.now

pub read-requires-clause-open : goal.read-requires-clause-open
read-requires-clause-open g c =
    λ y here.
    let s = within_here c.args.store.now c.args.instance.now c.args.call.now c.args.c c.requires.held c.requires.stands c.bucket-id.result c.bucket-id.ensures in
    let view = c.requires.open.0 in
    let same : s.bucket ≡ y = some_same _ s.bucket y s.here here in
    subst (λ (x : Bucket). IsOpenFor (g.F.Files.device c.args.files.now) x.content) same
    (subst (λ (p : CursorPlace). IsOpenFor (g.F.Files.device c.args.files.now) (content_at p)) (s.at view) c.requires.open.1)

pub returns-in-Err-clause-sure : goal.returns-in-Err-clause-sure
returns-in-Err-clause-sure g c view none =
    let s = within_here c.args.store.now c.args.instance.now c.args.call.now c.args.c c.requires.held c.requires.stands c.bucket-id.result c.bucket-id.ensures in
    let no_rest : Option BucketId = None in
    absurd (err_ok c.in-Err.field-0 no_rest ((c.in-Err.ensures.read s.bucket s.here).unread (sym (ap (λ (s : CursorPlace). wanted (content_at s)) (s.at view)) ∙ none)).0)
