use Rattle.std.proofs.Common.{◌≡◌, ℕ, ◌+◌, Bool, false, cond, [], ◌∷◌, Option, Some, is_some, Result, Ok, Err, drop, append_assoc, refl, sym, ap, ◌∙◌}
use Rattle.std.proofs.lemmas.Bool.{false≢true}
use Rattle.std.proofs.lemmas.Result.{err_from_is_err_and}
use Rattle.run_model.specs.declared.bucket.Bucket.{Bucket}
use Rattle.run_model.specs.Cutting.{read_of}
use Rattle.bucket_ring.specs.Lists.{on, list_at, front, rest, with_payload}
use Rattle.bucket_ring.specs.declared.names.RingRefusal.{RingRefusal}
use Rattle.bucket_ring.specs.declared.names.RingRefusal.TheVariants as ring
use Rattle.bucket_store.specs.Items.{Items, replaced, rest_item}
use Rattle.bucket_store.specs.Refusals.{unread}
use Rattle.bucket_store.specs.declared.refusal.ReadRefusal.{ReadRefusal}
use Rattle.bucket_store.specs.declared.refusal.ReadRefusal.TheVariants as refusal
use Rattle.brigade_ops.specs.Store.{lists, next_name}
use Rattle.bucket_ring.proofs.Changes.{on_as}
use Rattle.bucket_store.proofs.Shown.{on_cong}
use Rattle.bucket_store.proofs.Lying.{left_lies}
use Rattle.brigade_ops.proofs.Added.{none_since}
use Rattle.brigade_ops.proofs.Unread.{rest_same, left_wanted}
use Rattle.brigade_ops.proofs.store.Brigades.read_range.Goals as goal

-- what was answered is not another refusal
ok_no_err : {A P : Type 0} {x : A} {e : ReadRefusal} → ◌≡◌ {A = Result A ReadRefusal} (Ok x) (Err e) → P
ok_no_err is = absurd (cc)

err_no_ok : {A E P : Type 0} {x : A} {e : E} → ◌≡◌ {A = Result A E} (Err e) (Ok x) → P
err_no_ok is = absurd (cc)

memory_no_fault : {A P : Type 0} → ◌≡◌ {A = Result A ReadRefusal} (Err refusal.NoMemory) (Err refusal.ReadFault) → P
memory_no_fault is = absurd (cc)

memory_unspent : {A P : Type 0} → ◌≡◌ {A = Result A ReadRefusal} (Err refusal.NoMemory) (Err refusal.NamesSpent) → P
memory_unspent is = absurd (cc)

fault_no_memory : {A P : Type 0} → ◌≡◌ {A = Result A ReadRefusal} (Err refusal.ReadFault) (Err refusal.NoMemory) → P
fault_no_memory is = absurd (cc)

fault_unspent : {A P : Type 0} → ◌≡◌ {A = Result A ReadRefusal} (Err refusal.ReadFault) (Err refusal.NamesSpent) → P
fault_unspent is = absurd (cc)

unread_no_fault : {A P : Type 0} (why : RingRefusal) → ◌≡◌ {A = Result A ReadRefusal} (Err (unread why)) (Err refusal.ReadFault) → P
unread_no_fault ring.NoMemory is = absurd (cc)
unread_no_fault ring.NamesSpent is = absurd (cc)

unread_spent : {A B : Type 0} (why : RingRefusal) → ◌≡◌ {A = Result A ReadRefusal} (Err (unread why)) (Err refusal.NamesSpent) → ◌≡◌ {A = Result B RingRefusal} (Err why) (Err ring.NamesSpent)
unread_spent ring.NoMemory is = absurd (cc)
unread_spent ring.NamesSpent is = refl

pub read_front-requires-clause-rest : goal.read_front-requires-clause-rest
read_front-requires-clause-rest g c = left_lies c.args.bucket c.in-Some.rest (sym c.rest_of_read.ensures ∙ c.in-Some.is)

pub read_front-requires-clause-long : goal.read_front-requires-clause-long
read_front-requires-clause-long g c = left_wanted c.args.bucket c.in-Some.rest (sym c.rest_of_read.ensures ∙ c.in-Some.is)

pub returns-in_err-room : goal.returns-in_err-room
returns-in_err-room g c =
    let p = err_from_is_err_and c.from_residual.result c.from_residual.ensures.1 in
    rw (p.1, p.2) (record {
      ok = tt;
      rest = tt;
      name = tt;
      next = refl;
      names = λ id there young. there;
      pools = refl;
      references = refl;
      unread = λ none. absurd (false≢true (c.in_err-room.ensures.none none));
      asked = tt;
      fault = λ is. memory_no_fault is;
      no_memory = λ is. refl;
      unspent = λ is. memory_unspent is;
      open_files = refl;
      err = λ m. refl;
      unasked = refl;
    })

pub returns-in-Ok : goal.returns-in-Ok
returns-in-Ok g c =
    let id = c.args.id in
    let old = lists c.args.self.now in
    let next = next_name c.args.self.now in
    let none : false ≡ is_some (read_of [] c.args.bucket).1 = ap is_some (sym c.in_default.is ∙ c.rest_of_read.ensures) in
    record {
      ok = λ b at.
          let told = c.in-Ok.ensures.ok b at in
          let v = (read_of told.0 c.args.bucket).0 in
          let xs : Items = list_at old b in
          (told.0, told.1, λ m. told.2 m ∙ on_as b m (with_payload id v) (replaced id v []) old (append_assoc (front id xs) ((id, v) ∷ []) (drop 1 (rest id xs))));
      rest = none;
      name = tt;
      next = c.in-Ok.ensures.next ∙ ap (λ (more : Bool). cond more (next + 1) next) none;
      names = c.read_whole.ensures.names;
      pools = c.read_whole.ensures.pools;
      references = c.read_whole.ensures.references;
      unread = λ w. (refl, (c.in-Ok.ensures.unread w).1);
      asked = c.in-Ok.ensures.device.asked;
      fault = λ is. ok_no_err is;
      no_memory = λ is. ok_no_err is;
      unspent = λ is. ok_no_err is;
      open_files = c.in-Ok.ensures.device.open_files;
      err = tt;
      unasked = c.read_whole.ensures.unasked;
    }

pub returns-in-Err : goal.returns-in-Err
returns-in-Err g c = record {
  ok = tt;
  rest = tt;
  name = tt;
  next = c.read_whole.ensures.next;
  names = c.read_whole.ensures.names;
  pools = c.read_whole.ensures.pools;
  references = c.read_whole.ensures.references;
  unread = λ w. err_no_ok (c.in-Err.ensures.unread w).0;
  asked = tt;
  fault = λ is. c.in-Err.ensures.device.fault;
  no_memory = λ is. fault_no_memory is;
  unspent = λ is. fault_unspent is;
  open_files = c.in-Err.ensures.device.open_files;
  err = c.in-Err.ensures.err;
  unasked = c.read_whole.ensures.unasked;
}

pub returns-in_err-room_for : goal.returns-in_err-room_for
returns-in_err-room_for g c =
    let p = err_from_is_err_and c.from_residual-in_err-room_for.result c.from_residual-in_err-room_for.ensures.1 in
    let why = c.in_err-room_for.field-0.0 in
    rw (p.1, p.2) (record {
      ok = tt;
      rest = tt;
      name = tt;
      next = c.room_for.ensures.next;
      names = λ id there young. ap is_some (sym (c.room_for.ensures.brigades id)) ∙ there;
      pools = c.room_for.ensures.pools;
      references = c.room_for.ensures.references;
      unread = λ none. absurd (left_wanted c.args.bucket c.in-Some.rest (sym c.rest_of_read.ensures ∙ c.in-Some.is) none);
      asked = tt;
      fault = λ is. unread_no_fault why is;
      no_memory = λ is. refl;
      unspent = λ is. (c.in_err-room_for.ensures.spent.0 (unread_spent why is), refl);
      open_files = refl;
      err = c.room_for.ensures.lists;
      unasked = c.room_for.ensures.unasked;
    })

pub returns-in-Ok-read_front : goal.returns-in-Ok-read_front
returns-in-Ok-read_front g c =
    let id = c.args.id in
    let old = lists c.args.self.now in
    let next = next_name c.args.self.now in
    let some : is_some (Some c.in-Some.rest) ≡ is_some (read_of [] c.args.bucket).1 = ap is_some (sym c.in-Some.is ∙ c.rest_of_read.ensures) in
    record {
      ok = λ b at.
          let told = c.in-Ok-read_front.ensures.ok b (c.room_for.ensures.brigades id ∙ at) in
          let v = (read_of told.0 c.args.bucket).0 in
          let new = c.in-Ok-read_front.new in
          let rest : (read_of told.0 c.args.bucket).1 ≡ Some c.in-Some.rest = rest_same told.0 c.args.bucket ∙ (sym c.rest_of_read.ensures ∙ c.in-Some.is) in (
            told.0,
            told.1,
            λ m. told.2 m
                ∙ (on_cong b (replaced id v ((new, c.in-Some.rest) ∷ [])) (lists c.room_for.new.self) old c.room_for.ensures.lists m
                ∙ ap (λ (o : Option Bucket). on b (replaced id v (rest_item (Some new) o)) old m) (sym rest)),
          );
      rest = some;
      name = c.in-Ok-read_front.ensures.name ∙ c.room_for.ensures.next;
      next = c.in-Ok-read_front.ensures.next
          ∙ (ap (λ (n : ℕ). n + 1) c.room_for.ensures.next ∙ ap (λ (more : Bool). cond more (next + 1) next) some);
      names = none_since _ _ _ _ _ c.room_for.ensures.brigades c.room_for.ensures.next c.read_front.ensures.names;
      pools = c.read_front.ensures.pools ∙ c.room_for.ensures.pools;
      references = c.read_front.ensures.references ∙ c.room_for.ensures.references;
      unread = λ none. absurd (left_wanted c.args.bucket c.in-Some.rest (sym c.rest_of_read.ensures ∙ c.in-Some.is) none);
      asked = c.in-Ok-read_front.ensures.device.asked;
      fault = λ is. ok_no_err is;
      no_memory = λ is. ok_no_err is;
      unspent = λ is. ok_no_err is;
      open_files = c.in-Ok-read_front.ensures.device.open_files;
      err = tt;
      unasked = c.read_front.ensures.unasked ∙ c.room_for.ensures.unasked;
    }

pub returns-in-Err-read_front : goal.returns-in-Err-read_front
returns-in-Err-read_front g c = record {
  ok = tt;
  rest = tt;
  name = tt;
  next = c.in-Err-read_front.ensures.next ∙ c.room_for.ensures.next;
  names = none_since _ _ _ _ _ c.room_for.ensures.brigades c.room_for.ensures.next c.read_front.ensures.names;
  pools = c.read_front.ensures.pools ∙ c.room_for.ensures.pools;
  references = c.read_front.ensures.references ∙ c.room_for.ensures.references;
  unread = λ none. absurd (left_wanted c.args.bucket c.in-Some.rest (sym c.rest_of_read.ensures ∙ c.in-Some.is) none);
  asked = tt;
  fault = λ is. c.in-Err-read_front.ensures.device.fault;
  no_memory = λ is. fault_no_memory is;
  unspent = λ is. fault_unspent is;
  open_files = c.in-Err-read_front.ensures.device.open_files;
  err = λ m. c.in-Err-read_front.ensures.err m ∙ c.room_for.ensures.lists m;
  unasked = c.read_front.ensures.unasked ∙ c.room_for.ensures.unasked;
}
