-- Events over the pools of all connections, seen in the part of one.
use Rattle.run_model.specs.declared.effect.CleanupKind.TheVariants.{Plain}
use Rattle.std.proofs.Common.{◌≡◌, ℕ, Bool, true, false, ◌||◌, not, cond, nat_le, nat_lt, List, [], ◌∷◌, length, ◌+◌, ◌++◌, Option, Some, None, Result, Ok, refl, sym, ap, ap₂, ◌∙◌}
use Rattle.module_code.specs.Program.{Program}
use Rattle.module_code.specs.declared.instr.Instr.{Instr}
use Rattle.run_model.specs.declared.event.Cause.{Cause}
use Rattle.run_model.specs.declared.event.Cause.TheVariants as cause
use Rattle.run_model.specs.declared.event.Piece.{Piece}
use Rattle.run_model.specs.declared.event.Refusal.{Refusal}
use Rattle.run_model.specs.declared.event.Stepped.{Stepped}
use Rattle.run_model.specs.declared.fault.FaultKind.{FaultKind}
use Rattle.run_model.specs.declared.payload.Payload.{Payload}
use Rattle.run_model.specs.declared.payload.Payload.TheVariants.{FileRef}
use Rattle.run_model.specs.Indexed.{upd}
use Rattle.run_model.specs.Pools.{Pools, created, is_under, registered, registered_as, Cleanups}
use Rattle.run_model.specs.Clearing.{cleared_var}
use Rattle.run_model.specs.Faults.{fault}
use Rattle.run_model.specs.State.{Configuration, Shared, fresh_call}
use Rattle.run_model.specs.Steps.{current, grows, is_spent, lacks_names}
use Rattle.run_model.specs.Chains.{Frame, Connection, Common, Linked, common_after, configuration, module_at, parts_after, pools_of, touched_instance, is_last}
use Rattle.run_model.specs.Passing.{Reads, proceeds}
use Rattle.run_model.specs.Turns.{Opening, Found, Missing, Failing, all_called, begins, begun, between_requests, brings, broken_by, brought, calls_of, closing_labels, counted, ended, ends, executed, puts_out}
use Rattle.run_model.specs.Turns.{file_answer, file_taken, opens_file, pool_gone, request_over, step_top, step_unless, steps, unless_fault, unless_refused, watched, with_pools}
use Rattle.model_laws.specs.Parts.{part, HasPart, Made, Registered}
use Rattle.model_laws.specs.PartSteps.{LiesIn, in_part, linked_in_part}
use Rattle.model_laws.specs.SharedPools.{BeginsSeenInPart, BringsSeenInPart, EndsSeenInPart, LabelsSeenInPart, LiesOver, OpensFileSeenInPart, StepsSeenInPart, over, seen_in}
use Rattle.model_laws.proofs.chains.PutBack.{looking}
use Rattle.model_laws.proofs.parts.Alike.{faults_alike, grows_alike, names_alike}
use Rattle.model_laws.proofs.parts.Own.{own_changes}
use Rattle.model_laws.proofs.parts.Paths.{part_under}
use Rattle.model_laws.proofs.parts.Steps.{destroyed_alike, reached_alike}
use Rattle.model_laws.proofs.parts.Tops.{top_alike}

-- the connection is its part of itself over all pools
pub its_part : (ps : Pools Payload) (g : Common) (c : Connection) → LiesOver ps g c → (g, c) ≡ linked_in_part c.conn (g, over ps c)
unfolding part
its_part ps g c l = ap (λ (p : ℕ → List ℕ). put p c.payloads) l.part.path ∙ ap (put (part c.conn ps).path) l.part.payloads where
  put : (ℕ → List ℕ) → (ℕ → Cleanups Payload) → Linked
  put p q = (g, record c { path = p; payloads = q })

-- these pools are the connection's over them
pub whole_pools : (ps : Pools Payload) (g : Common) (c : Connection) → LiesOver ps g c → pools_of g (over ps c) ≡ ps
whole_pools ps g c l = ap put (sym l.next) where
  put : ℕ → Pools Payload
  put n = record ps { next = n }

-- A step.

module _ (d : ℕ) (memory : Bool) (chain : List Program) (reads : Reads) (f : Frame) (rest : List Frame) (g : Common) (c : Connection) (lies : LiesIn d (configuration g c f)) where
  abbrev here : Linked
  here = linked_in_part d (g, c)

  seen : configuration here.0 here.1 f ≡ in_part d (configuration g c f)
  unfolding configuration part
  seen = refl

  put_alike : puts_out chain f here ≡ puts_out chain f (g, c)
  unfolding configuration part
  put_alike = refl

  executed_alike : (i : Instr) → fault (module_at chain f.of) (configuration g c f) i ≡ None → executed memory chain reads i f rest here ≡ seen_in d (executed memory chain reads i f rest (g, c))
  unfolding executed
  executed_alike i none = ap₂ choose names room ∙ by_names (lacks_names (configuration g c f) i || is_spent g.next calls) where
    calls : ℕ
    calls = calls_of (is_last chain c f.of) i rest c.queue

    grow : Bool
    grow = grows (configuration g c f) i || nat_lt 0 calls || puts_out chain f (g, c)

    enough : Bool → Bool
    enough t = memory || not t

    choose : Bool → Bool → Result Stepped Refusal × Linked
    choose t u = cond t (broken_by cause.NamesSpent here) (cond (enough u) (counted (proceeds chain reads i f rest here)) (broken_by cause.NoMemory here))

    names : (lacks_names (configuration here.0 here.1 f) i || is_spent g.next calls) ≡ (lacks_names (configuration g c f) i || is_spent g.next calls)
    names = ap (λ (r : Configuration). lacks_names r i || is_spent g.next calls) seen ∙ ap (λ (b : Bool). b || is_spent g.next calls) (names_alike d i (configuration g c f))

    room : (grows (configuration here.0 here.1 f) i || nat_lt 0 calls || puts_out chain f here) ≡ grow
    room = ap (λ (b : Bool). b || nat_lt 0 calls || puts_out chain f here) (ap (λ (r : Configuration). grows r i) seen ∙ grows_alike d (module_at chain f.of) i (configuration g c f) lies none)
        ∙ ap (λ (b : Bool). grows (configuration g c f) i || nat_lt 0 calls || b) put_alike

    by_memory : (t : Bool) → cond t (counted (proceeds chain reads i f rest here)) (broken_by cause.NoMemory here) ≡ seen_in d
        (cond t (counted (proceeds chain reads i f rest (g, c))) (broken_by cause.NoMemory (g, c)))
    by_memory true = ap counted (top_alike d chain reads i f rest g c lies none)
    by_memory false = refl

    by_names : (t : Bool)
        → choose t grow ≡ seen_in d (cond t (broken_by cause.NamesSpent (g, c)) (cond (enough grow) (counted (proceeds chain reads i f rest (g, c))) (broken_by cause.NoMemory (g, c))))
    by_names true = refl
    by_names false = by_memory (enough grow)

  watched_alike : watched memory chain reads f rest here ≡ seen_in d (watched memory chain reads f rest (g, c))
  watched_alike = ap (λ (o : Option FaultKind). unless_fault o f here (executed memory chain reads i f rest here)) told ∙ by_fault (fault (module_at chain f.of) (configuration g c f) i) refl where
    i : Instr
    i = current (module_at chain f.of) f.pc

    told : fault (module_at chain f.of) (configuration here.0 here.1 f) i ≡ fault (module_at chain f.of) (configuration g c f) i
    told = ap (λ (r : Configuration). fault (module_at chain f.of) r i) seen ∙ faults_alike d (module_at chain f.of) i (configuration g c f) lies

    by_fault : (o : Option FaultKind) → fault (module_at chain f.of) (configuration g c f) i ≡ o
        → unless_fault o f here (executed memory chain reads i f rest here) ≡ seen_in d (unless_fault o f (g, c) (executed memory chain reads i f rest (g, c)))
    by_fault None e = executed_alike i e
    by_fault (Some k) e = refl

steps_alike : (d : ℕ) (memory : Bool) (budget : ℕ) (chain : List Program) (reads : Reads) (g : Common) (c : Connection) → ((f : Frame) → LiesIn d (configuration g c f))
    → steps memory budget chain reads (linked_in_part d (g, c)) ≡ seen_in d (steps memory budget chain reads (g, c))
unfolding steps
steps_alike d memory budget chain reads g c lies = by_cause c.broken where
  by_budget : (f : Frame) (rest : List Frame) (t : Bool) → cond t (broken_by cause.OutOfSteps (linked_in_part d (g, c))) (watched memory chain reads f rest (linked_in_part d (g, c)))
      ≡ seen_in d (cond t (broken_by cause.OutOfSteps (g, c)) (watched memory chain reads f rest (g, c)))
  by_budget f rest true = refl
  by_budget f rest false = watched_alike d memory chain reads f rest g c (lies f)

  by_stack : (fs : List Frame) → step_top memory budget chain reads fs (linked_in_part d (g, c)) ≡ seen_in d (step_top memory budget chain reads fs (g, c))
  by_stack [] = refl
  by_stack (f ∷ rest) = by_budget f rest (nat_le budget c.count)

  by_cause : (o : Option Cause) → step_unless o memory budget chain reads (linked_in_part d (g, c)) ≡ seen_in d (step_unless o memory budget chain reads (g, c))
  by_cause (Some k) = refl
  by_cause None = by_stack c.stack

pub steps_in_part : StepsSeenInPart
steps_in_part memory budget chain reads ps g c l = ap (steps memory budget chain reads) (its_part ps g c l) ∙ steps_alike c.conn memory budget chain reads g (over ps c) l.lies

-- The other events: what is refused changes nothing.

refused_alike : (d : ℕ) (o : Option Refusal) (old new left : Linked) → new ≡ linked_in_part d left → unless_refused o (linked_in_part d old) new ≡ seen_in d (unless_refused o old left)
refused_alike d (Some r) old new left is = refl
refused_alike d None old new left is = ap (λ (v : Linked). (None, v)) is

-- A request begins.

called_part : (d : ℕ) (chain : List Program) (g : Common) (c : Connection) (ps : Pools Payload)
    → all_called chain (with_pools (part d ps) (g, c)) ≡ linked_in_part d (all_called chain (with_pools ps (g, c)))
unfolding all_called part
called_part d chain g c ps = refl

begun_alike : (d : ℕ) (chain : List Program) (g : Common) (c : Connection) → HasPart (pools_of g c) d → c.conn ≡ d → begun chain (linked_in_part d (g, c)) ≡ linked_in_part d (begun chain (g, c))
unfolding begun part
begun_alike d chain g c h is = ap (λ (ps : Pools Payload). all_called chain (with_pools ps (g, record c { req = Some g.pools }))) made
    ∙ called_part d chain g (record c { req = Some g.pools }) (created c.conn (pools_of g c)) where
      made : created c.conn (part d (pools_of g c)) ≡ part d (created c.conn (pools_of g c))
      made = sym (own_changes Made d c.conn (pools_of g c) h (ap (is_under (pools_of g c) d) is ∙ part_under (pools_of g c) d h))

pub begins_in_part : BeginsSeenInPart
unfolding begins configuration
begins_in_part memory chain ps g c l = ap (begins memory chain) (its_part ps g c l)
    ∙ refused_alike c.conn _ (g, over ps c) (begun chain (linked_in_part c.conn (g, over ps c))) (begun chain (g, over ps c)) (begun_alike c.conn chain g (over ps c) (l.lies (looking 0)).has refl)

-- A brigade is brought.

brought_alike : (d : ℕ) (chain : List Program) (pieces : List Piece) (req : Option ℕ) (v : Linked) → brought chain pieces req (linked_in_part d v) ≡ linked_in_part d (brought chain pieces req v)
brought_alike d chain pieces None v = refl
brought_alike d chain pieces (Some req) v = refl

pub brings_in_part : BringsSeenInPart
unfolding brings
brings_in_part memory chain pieces ps g c l = ap (brings memory chain pieces) (its_part ps g c l)
    ∙ refused_alike c.conn _ (g, over ps c) (brought chain pieces c.req (linked_in_part c.conn (g, over ps c))) (brought chain pieces c.req (g, over ps c))
    (brought_alike c.conn chain pieces c.req (g, over ps c))

-- A file is opened.

module _ (ps : Pools Payload) (g : Common) (c : Connection) (l : LiesOver ps g c) where
  abbrev all : Linked
  all = (g, over ps c)

  has : HasPart (pools_of g (over ps c)) c.conn
  unfolding configuration
  has = (l.lies (looking 0)).has

  under : (req : ℕ) → c.req ≡ Some req → is_under (pools_of g (over ps c)) c.conn req ≡ true
  unfolding is_under
  under req is = l.request req is

  taken_alike : (req file : ℕ) (bytes : List ℕ) → c.req ≡ Some req → file_taken req file bytes (linked_in_part c.conn all) ≡ linked_in_part c.conn (file_taken req file bytes all)
  unfolding part registered_as
  taken_alike req file bytes is = ap (λ (qs : Pools Payload). taken qs.payloads) (sym (own_changes (Registered Plain (FileRef file)) c.conn req (pools_of g (over ps c)) has (under req is))) where
    taken : (ℕ → Cleanups Payload) → Linked
    taken payloads = (
      record g { file = file + 1 },
      record c {
        path = (part c.conn ps).path;
        opened =
            upd c.opened file (Some bytes);
        files = c.files ++ (file, length bytes) ∷ [];
        payloads = payloads;
      },
    )

  answer_alike : (o : Option Refusal) (req : Option ℕ) (opening : Opening) → c.req ≡ req → file_answer o req opening (linked_in_part c.conn all) ≡ seen_in c.conn (file_answer o req opening all)
  answer_alike (Some r) req opening is = refl
  answer_alike None None opening is = refl
  answer_alike None (Some req) Missing is = refl
  answer_alike None (Some req) Failing is = refl
  answer_alike None (Some req) (Found skipped bytes) is = ap (λ (v : Linked). (Ok (g.file + skipped, length bytes), v)) (taken_alike req (g.file + skipped) bytes is)

  -- A pool goes.

  abbrev first : Frame
  first = record { of = 0; call = fresh_call 0; pc = 0 }

  gone_alike : (n : ℕ) → is_under (pools_of g (over ps c)) c.conn n ≡ true → pool_gone n (linked_in_part c.conn all) ≡ in_part c.conn (pool_gone n all)
  unfolding configuration part
  gone_alike n there = destroyed_alike c.conn n (configuration g (over ps c) first) (l.lies first) there

  reached : (n : ℕ) → is_under (pools_of g (over ps c)) c.conn n ≡ true → is_under (part c.conn (pools_of g (over ps c))) n ≡ is_under (pools_of g (over ps c)) n
  unfolding configuration
  reached n there = reached_alike c.conn n (configuration g (over ps c) first) (l.lies first) there

  over_alike : (req : ℕ) → c.req ≡ Some req → request_over req (linked_in_part c.conn all) ≡ linked_in_part c.conn (request_over req all)
  unfolding part
  over_alike req is = ap (λ (r : Configuration). left r.shared (is_under (part c.conn (pools_of g (over ps c))) req)) (gone_alike req (under req is))
      ∙ ap (left (in_part c.conn (pool_gone req all)).shared) (reached req (under req is)) where
        left : Shared → (ℕ → Bool) → Linked
        left s goes = (
          common_after s g,
          record (parts_after s c) {
            instances = λ k. between_requests (touched_instance (cleared_var goes) (c.instances k));
            req = None;
            files = [];
            out = record c.out { ended = false };
          },
        )

  ended_alike : (req : Option ℕ) → c.req ≡ req → ended req (linked_in_part c.conn all) ≡ linked_in_part c.conn (ended req all)
  ended_alike None is = refl
  ended_alike (Some req) is = over_alike req is

pub opens_file_in_part : OpensFileSeenInPart
unfolding opens_file
opens_file_in_part memory opening ps g c l = ap (opens_file memory opening) (its_part ps g c l) ∙ answer_alike ps g c l _ c.req opening refl

pub ends_in_part : EndsSeenInPart
unfolding ends
ends_in_part memory ps g c l =
    ap (ends memory) (its_part ps g c l) ∙ refused_alike c.conn _ (g, over ps c) (ended c.req (linked_in_part c.conn (g, over ps c))) (ended c.req (g, over ps c)) (ended_alike ps g c l c.req refl)

pub labels_in_part : LabelsSeenInPart
unfolding closing_labels
labels_in_part ps g c l = ap closing_labels (its_part ps g c l) ∙ ap (λ (r : Configuration). r.shared.labels) (gone_alike ps g c l c.conn (part_under (pools_of g (over ps c)) c.conn (has ps g c l)))
