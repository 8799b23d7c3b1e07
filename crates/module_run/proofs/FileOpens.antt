-- A file is opened: what the connection stands for then.
use Rattle.std.proofs.Common.{◌≡◌, ◌≢◌, ◌==◌, ℕ, ◌+◌, ◌<◌, ◌≤◌, Bool, true, List, [], ◌∷◌, ◌++◌, length, replicate, Option, Some, None, refl, sym, ap, subst, ◌∙◌, inl, inr, arith}
use Rattle.std.specs.Prelude.{if◌then◌else◌}
use Rattle.std.specs.Global.{Vec}
use Rattle.std.proofs.lemmas.Bool.{cases_eq, eq-eqb, ne_eqb}
use Rattle.std.proofs.lemmas.List.{map-append, length-replicate}
use Rattle.bucket_kinds.specs.Answers.{MayHave, Opens}
use Rattle.bucket_kinds.specs.Device.{Device, Held, Missing, Untold, Holds, closed, HasFailed, SameFolder, Sound, is_there, moved, nearer, opened, spent}
use Rattle.bucket_ring.specs.declared.names.BucketId.{BucketId}
use Rattle.bucket_ring.specs.declared.rings.Rings.{Ghosts}
use Rattle.module_code.specs.Program.{Program}
use Rattle.run_model.specs.declared.event.Refusal.{Refusal}
use Rattle.run_model.specs.declared.event.Refusal.TheVariants as refusal
use Rattle.run_model.specs.declared.payload.Payload.{Payload}
use Rattle.run_model.specs.declared.payload.Payload.TheVariants.{FileRef}
use Rattle.run_model.specs.Chains.{Connection, Linked, pools_of}
use Rattle.run_model.specs.Indexed.{upd}
use Rattle.run_model.specs.Pools.{Pools, registered, registered_as, Cleanups}
use Rattle.run_model.specs.RunOrder.{IsPoolMap}
use Rattle.run_model.specs.Turns.{file_taken}
use Rattle.pool_tree.specs.declared.tree.PoolTree.{PoolTree}
use Rattle.pool_tree.specs.Tree.{map_of}
use Rattle.bucket_kinds.specs.declared.stored.Stored.{Stored}
use Rattle.brigade_ops.specs.declared.store.Brigades.{Brigades}
use Rattle.brigade_ops.specs.House.{AreOpen, IsHouse}
use Rattle.bucket_store.specs.Items.{Items}
use Rattle.brigade_ops.specs.Store.{lists, brigade_of, pool_of, next_name, references}
use Rattle.module_run.specs.declared.conn.Conn.{Conn}
use Rattle.module_run.specs.declared.conn.OpenFile.{OpenFile}
use Rattle.module_run.specs.Conns.{conn_of, filter_at, lengths}
use Rattle.module_run.specs.OpenedFile.{IsAfterOpening}
use Rattle.module_run.specs.Proceeding.{LeftAs, MayHold}
use Rattle.module_run.specs.Stacked.{IsStacked, StackedOver}
use Rattle.module_run.proofs.Alongside.{stacked_beside}
use Rattle.module_run.proofs.Looked.{some_same}
use Rattle.module_run.proofs.RequestBegins.{pools_are}

-- Bytes that the file may have had, by its length: none are told of a file of which nothing is known.
pub some_bytes : (h : Held) (len : ℕ) → MayHave len h → (bytes : List ℕ) × ((MayHold h bytes) × (len ≡ length bytes))
some_bytes Missing len may = absurd may
some_bytes Untold len may = (replicate len 0, (tt, sym (length-replicate len 0)))
some_bytes (Holds held) len may = (held, (refl, may))

pub there_bytes : (h : Held) → is_there h ≡ true → (bytes : List ℕ) × (MayHold h bytes)
there_bytes Missing there = absurd (cc)
there_bytes Untold there = ([], tt)
there_bytes (Holds held) there = (held, refl)

module _ {R : Type 0} {g : Ghosts R Stored} (chain : List Program) (tree : PoolTree Payload) (store : Brigades R g) (d e : Device) (c : Conn) (v : Linked) where
  -- where the same files are open
  pub left_device : ((file : ℕ) → e.numbered file ≡ d.numbered file) → LeftAs chain tree store d c v → LeftAs chain tree store e c v
  left_device same left = record {
    seen = left.seen;
    opens = λ file bytes is. subst (λ (h : Held). MayHold h bytes) (sym (same file)) (left.opens file bytes is);
    formed = left.formed;
    house = left.house;
    references = λ file pos. ap is_there (same file) ∙ left.references file pos;
    none = left.none;
    stacked = left.stacked;
  }

  -- files that are the same change nothing
  pub left_refiled : (files : Vec OpenFile) → files.items ≡ c.files.items → LeftAs chain tree store d c v → LeftAs chain tree store d (record c { files = files }) v
  unfolding conn_of filter_at
  left_refiled files same left = record {
    seen = record { pools = left.seen.pools; given = left.seen.given; conn = left.seen.conn ∙ ap with_files (sym (ap lengths same)) };
    opens = left.opens;
    formed = left.formed;
    house = left.house;
    references = left.references;
    none = left.none;
    stacked = stacked_beside chain (brigade_of store) (lists store) (pool_of store) (next_name store) c c.labels c.conn c.req files c.out c.ended c.count c.broken left.stacked;
  } where
    with_files : List (ℕ × ℕ) → Connection
    with_files fs = record (conn_of (map_of tree) (lists store) v.1.opened c) { files = fs }

-- A device was d, and is e after an opening: numbers rise, names stay, where no call was to fail none is, and a file whose number was given before is as it was.
pub record KeepsFiles (d e : Device) : Type 0 where
  pub rises : d.next ≤ e.next
  pub folder : SameFolder d e
  pub sound : d.plan ≡ Sound → e.plan ≡ Sound
  pub others : (file : ℕ) → file < d.next → e.numbered file ≡ d.numbered file

module _ (name : List ℕ) (d e : Device) where
  kept_same : e ≡ d → KeepsFiles d e
  kept_same is = record {
    rises = (let next = ap (λ (x : Device). x.next) is in omega (arith, next));
    folder = ap (λ (x : Device). x.named) is;
    sound = λ sound. ap (λ (x : Device). x.plan) is ∙ sound;
    others = λ file given. ap (λ (x : Device). x.numbered file) is;
  }

  kept_moved : e ≡ moved d → KeepsFiles d e
  kept_moved is = record {
    rises = (let next = ap (λ (x : Device). x.next) is in omega (arith, next));
    folder = ap (λ (x : Device). x.named) is;
    sound = λ sound. ap (λ (x : Device). x.plan) is ∙ ap nearer sound;
    others = λ file given. ap (λ (x : Device). x.numbered file) is;
  }

  kept_failed : HasFailed d e → KeepsFiles d e
  kept_failed (may, is) = record {
    rises = (let next = ap (λ (x : Device). x.next) is in omega (arith, next));
    folder = ap (λ (x : Device). x.named) is;
    sound = λ sound. ap (λ (x : Device). x.plan) is ∙ ap spent sound;
    others = λ file given. ap (λ (x : Device). x.numbered file) is;
  }

  -- another number than the next
  apart : (file : ℕ) → file < d.next → (h : Held) (at : ℕ → Held) → upd at d.next h file ≡ at file
  unfolding upd
  apart file given h at = ap (λ (t : Bool). if t then h else at file) (ne_eqb file d.next (λ q. omega (arith, given, q)))

  kept_open : e ≡ opened name (moved d) → KeepsFiles d e
  kept_open is = record {
    rises = (let next = ap (λ (x : Device). x.next) is in omega (arith, next));
    folder = ap (λ (x : Device). x.named) is;
    sound = λ sound. ap (λ (x : Device). x.plan) is ∙ ap nearer sound;
    others = λ file given. ap (λ (x : Device). x.numbered file) is ∙ apart file given (d.named name) d.numbered;
  }

  kept_closed : e ≡ closed d.next (opened name (moved d)) → KeepsFiles d e
  kept_closed is = record {
    rises = (let next = ap (λ (x : Device). x.next) is in omega (arith, next));
    folder = ap (λ (x : Device). x.named) is;
    sound = λ sound. ap (λ (x : Device). x.plan) is ∙ ap nearer sound;
    others = λ file given. ap (λ (x : Device). x.numbered file) is ∙ (apart file given Missing (opened name (moved d)).numbered ∙ apart file given (d.named name) d.numbered);
  }

  pub keeps_files : (why : Option Refusal) → IsAfterOpening name why d e → KeepsFiles d e
  keeps_files None is = kept_open is.1
  keeps_files (Some refusal.NoFile) is = kept_moved is.1
  keeps_files (Some refusal.FileFailed) is = kept_failed is
  keeps_files (Some refusal.NamesSpent) is = kept_moved is.1
  keeps_files (Some refusal.NoMemory) (well, inl is) = kept_moved is
  keeps_files (Some refusal.NoMemory) (well, inr is) = kept_closed is
  keeps_files (Some r) is = kept_same is

-- the files that are open on a device that opened one
module _ (d e : Device) (name : List ℕ) (number len : ℕ) (opens : Opens d name number len e) where
  numbered_at : (file : ℕ) → e.numbered file ≡ upd d.numbered d.next (d.named name) file
  numbered_at file = ap (λ (x : Device). x.numbered file) opens.after

  numbered_new : e.numbered number ≡ d.named name
  unfolding upd
  numbered_new = numbered_at number ∙ ap (λ (t : Bool). if t then d.named name else d.numbered number) (eq-eqb number d.next opens.number_is)

  numbered_old : (file : ℕ) → file ≢ number → e.numbered file ≡ d.numbered file
  unfolding upd
  numbered_old file ne = numbered_at file ∙ ap (λ (t : Bool). if t then d.named name else d.numbered file) (ne_eqb file d.next (λ q. ne (q ∙ sym opens.number_is)))

  -- and closed it again
  pub numbered_closed : (file : ℕ) → (closed number e).numbered file ≡ d.numbered file
  unfolding upd
  numbered_closed file = elim (cases_eq file number) [
    | inl q ↦ ap (λ (t : Bool). if t then Missing else e.numbered file) (eq-eqb file number q) ∙ (sym opens.number_is_new ∙ ap d.numbered (sym q))
    | inr ne ↦ ap (λ (t : Bool). if t then Missing else e.numbered file) (ne_eqb file number ne) ∙ numbered_old file ne
  ]

  pub closed_again : (last : Device) → last ≡ closed number e → last ≡ closed d.next (opened name (moved d))
  closed_again last is = is ∙ (ap (λ (n : ℕ). closed n e) opens.number_is ∙ ap (closed d.next) opens.after)

  module _ {R : Type 0} {g : Ghosts R Stored} (chain : List Program) (tree newer : PoolTree Payload) (old new : Brigades R g) (c : Conn) (v : Linked) (left : LeftAs chain tree old d c v) (req : ℕ)
      (bytes : List ℕ)
      (holds : MayHold (d.named name) bytes) (long : len ≡ length bytes) (files : Vec OpenFile) (file : OpenFile) (is_number : file.number ≡ number) (is_len : file.len ≡ len)
      (more : files.items ≡ c.files.items ++ file ∷ [])
      (map_is : map_of newer ≡ registered req (FileRef number) (map_of tree)) (formed : IsPoolMap (map_of newer)) (house : IsHouse new (map_of newer))
      (counted : (f : ℕ) → references new f ≡ (if f == number then references old f + 1 else references old f))
      (same_lists : lists new ≡ lists old) (same_at : brigade_of new ≡ brigade_of old) (same_on : pool_of new ≡ pool_of old) (same_next : next_name new ≡ next_name old) where
    abbrev opened_then : ℕ → Option (List ℕ)
    opened_then = upd v.1.opened number (Some bytes)

    lengths_then : lengths c.files.items ++ (number, length bytes) ∷ [] ≡ lengths files.items
    lengths_then =
        sym (ap lengths more ∙ (map-append (λ (f : OpenFile). (f.number, f.len)) c.files.items (file ∷ [])
        ∙ (ap (λ (n : ℕ). lengths c.files.items ++ (n, file.len) ∷ []) is_number ∙ ap (λ (n : ℕ). lengths c.files.items ++ (number, n) ∷ []) (is_len ∙ long))))

    payloads_then : (registered req (FileRef number) (pools_of v.0 v.1)).payloads ≡ (map_of newer).payloads
    payloads_then = ap (λ (ps : Pools Payload). (registered req (FileRef number) ps).payloads) (pools_are (map_of tree) (lists old) (next_name old) c v left.seen)
        ∙ sym (ap (λ (ps : Pools Payload). ps.payloads) map_is)

    path_then : (map_of tree).path ≡ (map_of newer).path
    unfolding registered_as
    path_then = sym (ap (λ (ps : Pools Payload). ps.path) map_is)

    next_then : (map_of tree).next ≡ (map_of newer).next
    unfolding registered_as
    next_then = sym (ap (λ (ps : Pools Payload). ps.next) map_is)

    conn_then : (file_taken req number bytes v).1 ≡ conn_of (map_of newer) (lists new) opened_then (record c { files = files })
    unfolding conn_of filter_at
    conn_then =
        ap over left.seen.conn
        ∙ (ap (λ (path : ℕ → List ℕ). view path (registered req (FileRef number) (pools_of v.0 v.1)).payloads (lengths c.files.items ++ (number, length bytes) ∷ []) (lists old)) path_then
        ∙ (ap (λ (loads : ℕ → Cleanups Payload). view (map_of newer).path loads (lengths c.files.items ++ (number, length bytes) ∷ []) (lists old)) payloads_then
        ∙ (ap (λ (fs : List (ℕ × ℕ)). view (map_of newer).path (map_of newer).payloads fs (lists old)) lengths_then
        ∙ ap (view (map_of newer).path (map_of newer).payloads (lengths files.items)) (sym same_lists)))) where
          over : Connection → Connection
          over x = record x { opened = opened_then; files = x.files ++ (number, length bytes) ∷ []; payloads = (registered req (FileRef number) (pools_of v.0 v.1)).payloads }

          view : (ℕ → List ℕ) → (ℕ → Cleanups Payload) → List (ℕ × ℕ) → (ℕ → Option Items) → Connection
          view path loads fs rings = record (conn_of (map_of tree) rings opened_then c) { path = path; payloads = loads; files = fs }

    opens_then : (n : ℕ) (bs : List ℕ) → opened_then n ≡ Some bs → MayHold (e.numbered n) bs
    unfolding upd
    opens_then n bs is = elim (cases_eq n number) [
      | inl q ↦ (let same : bytes ≡ bs = some_same bytes bs (sym (ap (λ (t : Bool). if t then Some bytes else v.1.opened n) (eq-eqb n number q)) ∙ is) in
          subst (λ (h : Held). MayHold h bs) (sym (ap e.numbered q ∙ numbered_new)) (subst (MayHold (d.named name)) same holds))
      | inr ne ↦ subst (λ (h : Held). MayHold h bs) (sym (numbered_old n ne)) (left.opens n bs (sym (ap (λ (t : Bool). if t then Some bytes else v.1.opened n) (ne_eqb n number ne)) ∙ is))
    ]

    references_then : AreOpen (references new) e
    references_then n pos = elim (cases_eq n number) [
      | inl q ↦ ap (λ (k : ℕ). is_there (e.numbered k)) q ∙ opens.is_open
      | inr ne ↦ ap is_there (numbered_old n ne)
          ∙ left.references n (subst (λ (k : ℕ). 0 < k) (counted n ∙ ap (λ (t : Bool). if t then references old n + 1 else references old n) (ne_eqb n number ne)) pos)
    ]

    stacked_then : IsStacked chain new (record c { files = files })
    stacked_then =
        subst (λ (at : BucketId → Option ℕ). StackedOver chain at (lists new) (pool_of new) (next_name new) (record c { files = files })) (sym same_at)
        (subst (λ (rings : ℕ → Option Items). StackedOver chain (brigade_of old) rings (pool_of new) (next_name new) (record c { files = files })) (sym same_lists)
        (subst (λ (on : ℕ → Option ℕ). StackedOver chain (brigade_of old) (lists old) on (next_name new) (record c { files = files })) (sym same_on)
        (subst (λ (n : ℕ). StackedOver chain (brigade_of old) (lists old) (pool_of old) n (record c { files = files })) (sym same_next)
        (stacked_beside chain (brigade_of old) (lists old) (pool_of old) (next_name old) c c.labels c.conn c.req files c.out c.ended c.count c.broken left.stacked))))

    pub file_left : LeftAs chain newer new e (record c { files = files }) (file_taken req number bytes v)
    file_left = record {
      seen = record { pools = left.seen.pools ∙ next_then; given = left.seen.given ∙ sym same_next; conn = conn_then };
      opens = opens_then;
      formed = formed;
      house = house;
      references = references_then;
      none = ap (λ (rings : ℕ → Option Items). rings 0) same_lists ∙ left.none;
      stacked = stacked_then;
    }
