-- What is told of an opening that is refused, and of one that is not.
use Rattle.std.proofs.Common.{◌≡◌, ℕ, ◌+◌, ◌-◌, ◌^◌, ◌<◌, ◌≤◌, Bool, true, false, List, length, Option, Some, None, Result, Ok, Err, refl, sym, ap, subst, ◌∙◌, inl, arith}
use Rattle.std.proofs.lemmas.Bool.{le-ltb, lt-ltb}
use Rattle.bucket_kinds.specs.Answers.{IsOpening, MayMiss}
use Rattle.bucket_kinds.specs.Device.{Device, Held, last_number}
use Rattle.bucket_kinds.specs.Device as device
use Rattle.bucket_kinds.specs.declared.refusal.FileFault.{FileFault}
use Rattle.bucket_kinds.specs.declared.refusal.FileFault.TheVariants as fault
use Rattle.bucket_ring.specs.declared.rings.Rings.{Ghosts}
use Rattle.module_code.specs.Program.{Program}
use Rattle.run_model.specs.declared.event.Cause.{Cause}
use Rattle.run_model.specs.declared.event.Refusal.{Refusal}
use Rattle.run_model.specs.declared.event.Refusal.TheVariants as refusal
use Rattle.run_model.specs.declared.payload.Payload.{Payload}
use Rattle.run_model.specs.Chains.{Linked}
use Rattle.run_model.specs.Refusals.{first_refusal}
use Rattle.run_model.specs.Pools.{Pools}
use Rattle.run_model.specs.Steps.{is_spent}
use Rattle.run_model.specs.Turns.{Opening, Found, Missing, Failing, file_answer, file_taken, opens_file}
use Rattle.pool_tree.specs.declared.tree.PoolTree.{PoolTree}
use Rattle.pool_tree.specs.Tree.{map_of}
use Rattle.bucket_kinds.specs.declared.stored.Stored.{Stored}
use Rattle.brigade_ops.specs.declared.store.Brigades.{Brigades}
use Rattle.bucket_store.specs.Items.{Items}
use Rattle.brigade_ops.specs.Store.{lists, next_name}
use Rattle.module_run.specs.declared.conn.Conn.{Conn}
use Rattle.module_run.specs.Conns.{IsSeenAs}
use Rattle.module_run.specs.Happened.{lasted, refusal_of}
use Rattle.module_run.specs.OpenedFile.{IsAfterOpening, MayTell, TellsShort, WasOpened, unopened_by}
use Rattle.module_run.specs.Proceeding.{LeftAs, MayHold}
use Rattle.module_run.specs.Refused.{request_tests}
use Rattle.module_run.proofs.FileOpens.{left_device, there_bytes}
use Rattle.module_run.proofs.Refusing.{open_failing, open_left, open_missing, open_spent}
use Rattle.module_run.proofs.RequestBegins.{happened_as, req_is}

last_spent : (n : ℕ) → n ≡ last_number → is_spent n 1 ≡ true
unfolding is_spent
last_spent n last = lt-ltb (2 ^ 64 - 1) (n + 1) (omega (arith, last))

pub not_spent : (n : ℕ) → n < last_number → is_spent n 1 ≡ false
unfolding is_spent
not_spent n lt = le-ltb (2 ^ 64 - 1) (n + 1) (omega (arith, lt))

pub rest_of : (a b : ℕ) → a ≤ b → a + (b - a) ≡ b
rest_of a b le = omega (arith, le)

-- What a device that is not asked might have told of a name.

abbrev pub unasked_of : ℕ → Held → Opening
unasked_of skipped device.Missing = Missing
unasked_of skipped device.Untold = Missing
unasked_of skipped (device.Holds bytes) = Found skipped bytes

abbrev pub unasked : ℕ → Device → List ℕ → Opening
unasked next d name = unasked_of (d.next - next) (d.named name)

pub may_tell_unasked : (next : ℕ) (d : Device) (name : List ℕ) → next ≤ d.next → MayTell next d name (unasked next d name)
may_tell_unasked next d name below = go (d.named name) refl where
  go : (h : Held) → d.named name ≡ h → MayTell next d name (unasked_of (d.next - next) h)
  go device.Missing is = subst MayMiss (sym is) tt
  go device.Untold is = subst MayMiss (sym is) tt
  go (device.Holds bytes) is = (subst (λ (h : Held). MayHold h bytes) (sym is) refl, rest_of next d.next below)

-- and it is as it was
pub stays_unasked : (name : List ℕ) (d : Device) (broken : Option Cause) (busy : Bool) (req : Option ℕ) (r : Refusal) → Some r ≡ first_refusal (request_tests broken busy req)
    → IsAfterOpening name (Some r) d d
stays_unasked name d (Some cause) busy req r is = subst (λ (o : Option Refusal). IsAfterOpening name o d d) (sym is) refl
stays_unasked name d None true req r is = subst (λ (o : Option Refusal). IsAfterOpening name o d d) (sym is) refl
stays_unasked name d None false None r is = subst (λ (o : Option Refusal). IsAfterOpening name o d d) (sym is) refl
stays_unasked name d None false (Some pool) r is = absurd (cc)

module _ {R : Type 0} {g : Ghosts R Stored} (chain : List Program) (tree : PoolTree Payload) (store : Brigades R g) (d e : Device) (c : Conn) (name : List ℕ) (v : Linked) where
  pub was_opened : (answer : Result (ℕ × ℕ) Refusal) (opening : Opening) (w : Linked) → MayTell v.0.file d name opening → opens_file (lasted answer) opening v ≡ (answer, w)
      → LeftAs chain tree store e c w → w.0.file ≤ e.next → IsAfterOpening name (refusal_of answer) d e → TellsShort answer
      → WasOpened chain tree store d e c name answer v
  was_opened answer opening w told is left numbers after short = record {
    opening = opening;
    told = told;
    happened = happened_as chain tree store e c answer (opens_file (lasted answer) opening v) w is left;
    numbers = subst (λ (x : Result (ℕ × ℕ) Refusal × Linked). x.1.0.file ≤ e.next) (sym is) numbers;
    after = after;
    short = short;
  }

  -- the device tells a fault
  pub was_refused : (why : FileFault) → IsOpening d name (Err why) e → first_refusal (request_tests c.broken c.busy c.req) ≡ None → LeftAs chain tree store d c v → v.0.file ≤ d.next
      → WasOpened chain tree store d e c name (Err (unopened_by why)) v
  was_refused fault.NotThere (miss, went) none left below =
      was_opened (Err refusal.NoFile) Missing v miss (open_missing (map_of tree) (lists store) (next_name store) c v left.seen true none)
      (left_device chain tree store d e c v (λ file. ap (λ (x : Device). x.numbered file) went.1) left) (subst (λ (x : Device). v.0.file ≤ x.next) (sym went.1) below) went tt
  was_refused fault.Failed (may, same) none left below =
      was_opened (Err refusal.FileFailed) Failing v may (open_failing (map_of tree) (lists store) (next_name store) c v left.seen true none)
      (left_device chain tree store d e c v (λ file. ap (λ (x : Device). x.numbered file) same) left) (subst (λ (x : Device). v.0.file ≤ x.next) (sym same) below) (may, same) tt
  was_refused fault.NamesSpent (there, last, went) none left below =
      let bytes = there_bytes (d.named name) there in
      was_opened (Err refusal.NamesSpent) (Found (d.next - v.0.file) bytes.0) v (bytes.1, rest_of v.0.file d.next below)
      (open_spent (map_of tree) (lists store) (next_name store) c v left.seen true (d.next - v.0.file) bytes.0 none
      (last_spent (v.0.file + (d.next - v.0.file)) (rest_of v.0.file d.next below ∙ last)))
      (left_device chain tree store d e c v (λ file. ap (λ (x : Device). x.numbered file) went.1) left) (subst (λ (x : Device). v.0.file ≤ x.next) (sym went.1) below) went tt
  was_refused fault.NoMemory (there, lt, went) none left below =
      let bytes = there_bytes (d.named name) there in
      was_opened (Err refusal.NoMemory) (Found (d.next - v.0.file) bytes.0) v (bytes.1, rest_of v.0.file d.next below)
      (open_left (map_of tree) (lists store) (next_name store) c v left.seen false (d.next - v.0.file) bytes.0 none
      (not_spent (v.0.file + (d.next - v.0.file)) (let at = rest_of v.0.file d.next below in omega (arith, lt, at))))
      (left_device chain tree store d e c v (λ file. ap (λ (x : Device). x.numbered file) went.1) left) (subst (λ (x : Device). v.0.file ≤ x.next) (sym went.1) below) (went.0, inl went.1) tt

-- the file was found, and its number and length are told
pub opening_is : (ps : Pools Payload) (rings : ℕ → Option Items) (next : ℕ) (c : Conn) (v : Linked) → IsSeenAs ps rings next c v → (number len next_number req : ℕ) (bytes : List ℕ)
    → number ≡ next_number → number < last_number → v.0.file ≤ next_number → len ≡ length bytes → c.req ≡ Some req
    → first_refusal (request_tests c.broken c.busy c.req) ≡ None → opens_file true (Found (next_number - v.0.file) bytes) v ≡ (Ok (number, len), file_taken req number bytes v)
opening_is ps rings next c v seen number len next_number req bytes at lt below long in_request none =
    let same : v.0.file + (next_number - v.0.file) ≡ number = rest_of v.0.file next_number below ∙ sym at in
    open_left ps rings next c v seen true (next_number - v.0.file) bytes none (not_spent (v.0.file + (next_number - v.0.file)) (omega (arith, same, lt)))
    ∙ (ap (λ (o : Option ℕ). file_answer None o (Found (next_number - v.0.file) bytes) v) (req_is ps rings next c v seen ∙ in_request)
    ∙ (ap (λ (n : ℕ). answered n (length bytes)) same ∙ ap (λ (l : ℕ). answered number l) (sym long))) where
      answered : ℕ → ℕ → Result (ℕ × ℕ) Refusal × Linked
      answered n l = (Ok (n, l), file_taken req n bytes v)
