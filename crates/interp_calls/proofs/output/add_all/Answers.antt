-- One bucket after another.
use Rattle.std.proofs.Common.{Bool, arith, ◌+◌, ◌≡◌, true, false, ◌++◌, ◌∷◌, List, ℕ, length, take, drop, refl, sym, ap, subst, ◌∙◌, Option, Some, [], rules}
use Rattle.std.proofs.Math.Seq.{drop-append_seam, drop-length, take-append_seam}
use Rattle.std.proofs.lemmas.Bool.{false≢true}
use Rattle.std.proofs.lemmas.List.{append-nil}
use Rattle.std.proofs.lemmas.Result.{err_from_is_err_and}
use Rattle.bucket_ring.specs.Lists.{list_at, rest}
use Rattle.bucket_ring.specs.declared.names.BucketId.{BucketId}
use Rattle.run_model.specs.Buckets.{has_eos, is_eos, is_eos_kind}
use Rattle.run_model.specs.Steps.{has_bytes}
use Rattle.bucket_store.specs.Items.{Items, from_place, named}
use Rattle.brigade_ops.specs.Store.{lists, brigade_of}
use Rattle.bucket_store.specs.Views.{bucket_of}
use Rattle.bucket_store.proofs.Walks.{told_some}
use Rattle.interp_calls.proofs.Buffers.{behind, both_parts}
use Rattle.interp_calls.proofs.Delivering.{ItemsSoFar, items_none, items_end, items_eos, items_failed, items_more, items_left, place_end as none_left}
use Rattle.interp_state.proofs.Quiet.{quiet_more}
use Rattle.interp_state.specs.Seen.{shown}
use Rattle.interp_state.proofs.Walked.{WalkAt, any_on, any_stop, head_here, inside_on, shorter}
use Rattle.interp_calls.proofs.WellRead.{open_still}
use Rattle.interp_calls.specs.Delivery.{HasFront}
use Rattle.interp_calls.specs.Filled.{HasRoomFor, bytes_before_eos, reads, text}
use Rattle.run_model.specs.Cutting.{length_of}
use Rattle.interp_calls.proofs.RoomLeft.{empty_unread, less_room, plain_before}
use Rattle.interp_calls.proofs.output.add_all.Goals as goal
use Rattle.interp_calls.proofs.output.add_all.Goals.{After-payload-bucket}

-- what is not read where no room was made
unread_still : (read roomy : Bool) → (read ≡ true → roomy ≡ true) → roomy ≡ false → read ≡ false
unread_still true roomy to none = sym (to refl) ∙ none
unread_still false roomy to none = refl

-- no room was made before, where none is there
not_roomy : {before : Bool} (roomy : Bool) → (roomy ≡ false → before ≡ false) → ¬ (roomy ≡ true) → before ≡ false
not_roomy true stays never = absurd (never refl)
not_roomy false stays never = stays refl

at : (g : _) (c : After-payload-bucket g) → WalkAt c.args.store.now c.args.b c.loop-place.place c.in-Some.id (bucket_of c.payload-bucket.result)
at g c = record { at = c.in-Some.is; inside = c.loop-place.invariant.inside c.in-Some.id c.in-Some.is; here = c.payload-bucket.ensures }

-- what is left begins with the bucket
from_here : (g : _) (c : After-payload-bucket g)
    → rest c.in-Some.id (list_at (lists c.args.store.now) c.args.b) ≡ (c.in-Some.id, bucket_of c.payload-bucket.result) ∷ drop 1 (rest c.in-Some.id (list_at (lists c.args.store.now) c.args.b))
from_here g c = sym (ap (λ (o : Option BucketId). from_place o (list_at (lists c.args.store.now) c.args.b)) c.in-Some.is) ∙ head_here (at g c)

pub loop-place-init : goal.loop-place-init
loop-place-init g c =
    let xs = list_at (lists c.args.store.now) c.args.b in
    let old = text c.args.out.now in
    record {
      front = ap (take (length old)) (sym (append-nil old)) ∙ take-append_seam old [];
      room = λ is. absurd (false≢true is);
      unread = λ is. refl;
      within = c.requires.within;
      open_files = refl;
      read = items_none (g.F.Files.device c.args.files.now) xs (from_place c.start-place.result xs) _ c.start-place.ensures.whole (drop-length old);
      quiet = λ none. ap (λ (ys : Items). has_bytes (named ys)) c.start-place.ensures.whole ∙ none;
      left = λ runs. ap (λ (ys : Items). has_eos (shown runs ys)) c.start-place.ensures.whole;
      inside = told_some (λ j. brigade_of c.args.store.now j ≡ Some c.args.b) c.start-place.result c.start-place.ensures.inside;
    }

pub returns-then-is_eos : goal.returns-then-is_eos
returns-then-is_eos g c =
    let l = c.loop-place in
    let d = g.F.Files.device c.args.files.now in
    let xs = list_at (lists c.args.store.now) c.args.b in
    let id = c.in-Some.id in
    let w = at g (goal.at.returns-then-is_eos g c).After-payload-bucket in
    let front = drop (length (text c.args.out.now)) (text l.out) in
    record {
      added = record {
        added = front;
        grown = both_parts (text c.args.out.now) (text l.out) l.invariant.front;
        taken_so = items_eos d xs (g.F.Files.device l.files) (from_place l.place xs) id (bucket_of c.payload-bucket.result) (drop 1 (rest id xs)) front l.invariant.read (head_here w)
            (sym c.is_eos.ensures ∙ c.if-is_eos.true);
      };
      eos = λ runs is. sym (any_stop w is_eos runs (sym c.is_eos.ensures ∙ c.if-is_eos.true) ∙ l.invariant.left runs);
      none = λ runs whole none. absurd (false≢true (sym none));
      front = l.invariant.front;
      sure = λ none. refl;
      unread = tt;
      within = l.invariant.within;
      open_files = l.invariant.open_files;
    }

pub returns-then-not-branch : goal.returns-then-not-branch
returns-then-not-branch g c =
    let l = c.loop-place in
    let d = g.F.Files.device c.args.files.now in
    let xs = list_at (lists c.args.store.now) c.args.b in
    let id = c.in-Some.id in
    let w = at g (goal.at.returns-then-not-branch g c).After-payload-bucket in
    let whole = c.in_ok-add.field-0 in
    let took = c.in_ok-add.ensures.added in
    let old = text c.args.out.now in
    let front = drop (length old) (text l.out) in
    let failed : whole ≡ false = search rules in
    record {
      added = record {
        added = front ++ took.added;
        grown = behind old (text l.out) took.added (text c.add.new.out) l.invariant.front (took.grown ∙ ap (λ (xs : List ℕ). xs ++ took.added) c.make_room.ensures.text);
        taken_so = items_failed d xs (g.F.Files.device l.files) (from_place l.place xs) id (bucket_of c.payload-bucket.result) (drop 1 (rest id xs)) front l.invariant.read (head_here w)
            (g.F.Files.device c.add.new.files) whole took.added (sym c.is_eos.ensures ∙ c.if-is_eos.false) took.taken_so failed;
      };
      eos = λ runs is. absurd (false≢true is);
      none = λ runs whole none. absurd (false≢true whole);
      front = ap (take (length old)) (behind old (text l.out) (drop (length (text l.out)) (text c.add.new.out)) (text c.add.new.out) l.invariant.front
          (both_parts (text l.out) (text c.add.new.out) (subst (λ (xs : List ℕ). HasFront xs (text c.add.new.out)) c.make_room.ensures.text c.add.ensures.front)))
          ∙ take-append_seam old (drop (length old) (text l.out) ++ drop (length (text l.out)) (text c.add.new.out));
      sure = λ none. refl;
      unread = tt;
      within = c.add.ensures.within;
      open_files = c.add.ensures.open_files ∙ l.invariant.open_files;
    }

pub loop-place-preserved : goal.loop-place-preserved
loop-place-preserved g c =
    let l = c.loop-place in
    let d = g.F.Files.device c.args.files.now in
    let e = g.F.Files.device c.add.new.files in
    let xs = list_at (lists c.args.store.now) c.args.b in
    let id = c.in-Some.id in
    let x = bucket_of c.payload-bucket.result in
    let ys : Items = drop 1 (rest id xs) in
    let w = at g (goal.at.loop-place-preserved g c).After-payload-bucket in
    let plain : is_eos_kind x.kind ≡ false = sym c.is_eos.ensures ∙ c.if-is_eos.false in
    let whole = c.in_ok-add.field-0 in
    let took = c.in_ok-add.ensures.added in
    let old = text c.args.out.now in
    let front = drop (length old) (text l.out) in
    let went : whole ≡ true = search rules in
    let all = behind old (text l.out) took.added (text c.add.new.out) l.invariant.front (took.grown ∙ ap (λ (xs : List ℕ). xs ++ took.added) c.make_room.ensures.text) in
    let on : from_place c.behind-place.result xs ≡ ys = c.behind-place.ensures.others c.args.b w.inside in
    let more = items_more d xs (g.F.Files.device l.files) (from_place l.place xs) id x ys front l.invariant.read (head_here w) e whole took.added plain took.taken_so went in
    record {
      front = ap (take (length old)) all ∙ take-append_seam old (front ++ took.added);
      room = λ is. c.add.ensures.room (bytes_before_eos (from_place c.behind-place.result xs))
          (subst (λ (n : ℕ). HasRoomFor n c.make_room.new.out)
          (ap bytes_before_eos (from_here g (goal.at.loop-place-preserved g c).After-payload-bucket) ∙ (plain_before id x ys plain ∙ ap (λ (zs : Items). length_of x.content + bytes_before_eos zs) (sym on)))
          (c.in_ok-roomy.ensures.room is));
      unread = λ is. c.add.ensures.still (unread_still (reads x.content) c.in_ok-roomy.roomy c.in_ok-roomy.ensures.reads is) ∙ l.invariant.unread (c.in_ok-roomy.ensures.stays is);
      within = c.add.ensures.within;
      open_files = c.add.ensures.open_files ∙ l.invariant.open_files;
      read = items_left d e xs ys (from_place c.behind-place.result xs) (drop (length old) (text c.add.new.out)) on
          (subst (λ (bytes : List ℕ). ItemsSoFar d e xs ys bytes) (sym (ap (drop (length old)) all ∙ drop-append_seam old (front ++ took.added))) more);
      quiet = λ none. ap (λ (zs : Items). has_bytes (named zs)) on ∙ (quiet_more id x ys plain (sym (ap (λ (zs : Items). has_bytes (named zs)) (head_here w)) ∙ l.invariant.quiet none)).1;
      left = λ runs. any_on w c.behind-place.result on is_eos runs plain ∙ l.invariant.left runs;
      inside = inside_on w c.behind-place.result on (c.behind-place.ensures.inside c.args.b w.inside);
    }

pub loop-place-smaller : goal.loop-place-smaller
loop-place-smaller g c =
    let w = at g (goal.at.loop-place-smaller g c).After-payload-bucket in
    shorter w c.behind-place.result (c.behind-place.ensures.others c.args.b w.inside)

pub returns : goal.returns
returns g c =
    let l = c.loop-place in
    let xs = list_at (lists c.args.store.now) c.args.b in
    let front = drop (length (text c.args.out.now)) (text l.out) in
    let ended = none_left l.place xs c.in_default.not-Some in
    record {
      added = record {
        added = front;
        grown = both_parts (text c.args.out.now) (text l.out) l.invariant.front;
        taken_so = items_end (g.F.Files.device c.args.files.now) xs (g.F.Files.device l.files) (from_place l.place xs) front l.invariant.read ended;
      };
      eos = λ runs is. absurd (false≢true is);
      none = λ runs whole none. sym (l.invariant.left runs) ∙ ap (λ (ys : Items). has_eos (shown runs ys)) ended;
      front = l.invariant.front;
      sure = λ none. refl;
      unread = tt;
      within = l.invariant.within;
      open_files = l.invariant.open_files;
    }

pub returns-in_err-add : goal.returns-in_err-add
returns-in_err-add g c =
    let l = c.loop-place in
    let old = text c.args.out.now in
    let w = at g (goal.at.returns-in_err-add g c).After-payload-bucket in
    let plain = sym c.is_eos.ensures ∙ c.if-is_eos.false in
    rw (err_from_is_err_and c.from_residual-in_err-add.result c.from_residual-in_err-add.ensures.1).1 (record {
      added = tt;
      eos = tt;
      none = tt;
      front = ap (take (length old)) (behind old (text l.out) (drop (length (text l.out)) (text c.add.new.out)) (text c.add.new.out) l.invariant.front
          (both_parts (text l.out) (text c.add.new.out) (subst (λ (xs : List ℕ). HasFront xs (text c.add.new.out)) c.make_room.ensures.text c.add.ensures.front)))
          ∙ take-append_seam old (drop (length old) (text l.out) ++ drop (length (text l.out)) (text c.add.new.out));
      sure = λ none.
          let quiet = sym (ap (λ (zs : Items). has_bytes (named zs)) (head_here w)) ∙ l.invariant.quiet none in
          let sure = c.in_err-add.ensures.sure (quiet_more c.in-Some.id (bucket_of c.payload-bucket.result) (drop 1 (rest c.in-Some.id (list_at (lists c.args.store.now) c.args.b))) plain quiet).0 in
          absurd (false≢true sure);
      unread = c.in_err-add.ensures.unread ∙ l.invariant.unread (not_roomy c.in_ok-roomy.roomy c.in_ok-roomy.ensures.stays (λ is.
          let id = c.in-Some.id in
          let x = bucket_of c.payload-bucket.result in
          let ys : Items = drop 1 (rest id (list_at (lists c.args.store.now) c.args.b)) in
          let left : bytes_before_eos (rest id (list_at (lists c.args.store.now) c.args.b)) ≡ length_of x.content + bytes_before_eos ys =
          ap bytes_before_eos (from_here g (goal.at.returns-in_err-add g c).After-payload-bucket) ∙ plain_before id x ys plain in
          false≢true (c.in_err-add.ensures.fits (less_room (length_of x.content) _ c.make_room.new.out (omega (arith, left)) (c.in_ok-roomy.ensures.room is)))));
      within = c.add.ensures.within;
      open_files = c.add.ensures.open_files ∙ l.invariant.open_files;
    })

pub returns-in_err-roomy : goal.returns-in_err-roomy
returns-in_err-roomy g c =
    let l = c.loop-place in
    let w = at g (goal.at.returns-in_err-roomy g c).After-payload-bucket in
    let plain = sym c.is_eos.ensures ∙ c.if-is_eos.false in
    let x = bucket_of c.payload-bucket.result in
    let not = c.in_err-roomy.ensures in
    rw (err_from_is_err_and c.from_residual.result c.from_residual.ensures.1).1 (record {
      added = tt;
      eos = tt;
      none = tt;
      front = subst (λ (xs : List ℕ). HasFront (text c.args.out.now) xs) (sym not.text) l.invariant.front;
      sure = λ none.
          let quiet = sym (ap (λ (zs : Items). has_bytes (named zs)) (head_here w)) ∙ l.invariant.quiet none in
          let empty = (quiet_more c.in-Some.id x (drop 1 (rest c.in-Some.id (list_at (lists c.args.store.now) c.args.b))) plain quiet).0 in
          absurd (false≢true (not.sure (empty_unread x.content empty)));
      unread = l.invariant.unread not.lacks;
      within = not.within;
      open_files = l.invariant.open_files;
    })

pub add-requires-clause-room : goal.add-requires-clause-room
add-requires-clause-room g c is =
    let l = c.loop-place in
    let w = at g (goal.at.add-requires-clause-room g c).After-payload-bucket in
    let plain = sym c.is_eos.ensures ∙ c.if-is_eos.false in
    let id = c.in-Some.id in
    let x = bucket_of c.payload-bucket.result in
    let ys : Items = drop 1 (rest id (list_at (lists c.args.store.now) c.args.b)) in
    let left : bytes_before_eos (rest id (list_at (lists c.args.store.now) c.args.b)) ≡ length_of x.content + bytes_before_eos ys =
    ap bytes_before_eos (from_here g (goal.at.add-requires-clause-room g c).After-payload-bucket) ∙ plain_before id x ys plain in
    less_room (length_of x.content) _ c.make_room.new.out (omega (arith, left)) (c.in_ok-roomy.ensures.room (c.in_ok-roomy.ensures.reads is))

pub add-requires-clause-open : goal.add-requires-clause-open
add-requires-clause-open g c =
    let w = at g (goal.at.add-requires-clause-open g c).After-payload-bucket in
    open_still (g.F.Files.device c.args.files.now) (g.F.Files.device c.loop-place.files) (bucket_of c.payload-bucket.result).content c.loop-place.invariant.open_files
    (c.requires.open c.in-Some.id (bucket_of c.payload-bucket.result) w.inside w.here)
