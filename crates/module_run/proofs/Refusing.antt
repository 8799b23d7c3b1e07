-- The tests that refuse an event of a connection, and the last of them, which is memory.
use Rattle.std.proofs.Common.{◌≡◌, ℕ, ◌+◌, Bool, true, false, not, List, [], ◌∷◌, ◌++◌, Option, Some, None, Err, refl, ap, ◌∙◌}
use Rattle.std.specs.Prelude.{if◌then◌else◌}
use Rattle.module_code.specs.Program.{Program}
use Rattle.run_model.specs.declared.event.Piece.{Piece}
use Rattle.run_model.specs.declared.event.Refusal.{Refusal}
use Rattle.run_model.specs.declared.event.Refusal.TheVariants as refusal
use Rattle.run_model.specs.declared.payload.Payload.{Payload}
use Rattle.run_model.specs.Chains.{Connection, Common, Linked}
use Rattle.run_model.specs.Refusals.{first_refusal, refused_if}
use Rattle.run_model.specs.Pools.{Pools}
use Rattle.run_model.specs.Steps.{is_spent}
use Rattle.run_model.specs.Turns.{Failing, Found, Missing, Opening, begins, begun, brings, brought, ended, ends, file_answer, is_busy, is_failing, is_missing, number_given, opens_file, unless_refused}
use Rattle.bucket_store.specs.Items.{Items}
use Rattle.module_run.specs.declared.conn.Conn.{Conn}
use Rattle.module_run.specs.Conns.{conn_of, IsSeenAs, lengths, stack_of, stack_over}
use Rattle.module_run.specs.Refused.{begin_tests, bring_tests, request_tests}

-- a test behind others
pub none_refused : (tests : List (Option Refusal)) (last : Option Refusal) → first_refusal tests ≡ None → first_refusal (tests ++ last ∷ []) ≡ last
none_refused [] None e = refl
none_refused [] (Some r) e = refl
none_refused (None ∷ tests) last e = none_refused tests last e
none_refused (Some r ∷ tests) last e = absurd (cc)

pub one_refused : (tests : List (Option Refusal)) (last : Option Refusal) (r : Refusal) → first_refusal tests ≡ Some r → first_refusal (tests ++ last ∷ []) ≡ Some r
one_refused [] last r e = absurd (cc)
one_refused (None ∷ tests) last r e = one_refused tests last r e
one_refused (Some q ∷ tests) last r e = e

-- tests behind others
pub more_passed : (tests more : List (Option Refusal)) → first_refusal tests ≡ None → first_refusal (tests ++ more) ≡ first_refusal more
more_passed [] more e = refl
more_passed (None ∷ tests) more e = more_passed tests more e
more_passed (Some r ∷ tests) more e = absurd (cc)

pub more_refused : (tests more : List (Option Refusal)) (r : Refusal) → first_refusal tests ≡ Some r → first_refusal (tests ++ more) ≡ Some r
more_refused [] more r e = absurd (cc)
more_refused (None ∷ tests) more r e = more_refused tests more r e
more_refused (Some q ∷ tests) more r e = e

abbrev opening_tests : Common → Opening → Bool → List (Option Refusal)
opening_tests g opening memory =
    refused_if (is_missing opening) refusal.NoFile
    ∷ (refused_if (is_failing opening) refusal.FileFailed
    ∷ (refused_if (is_spent (number_given g opening) 1) refusal.NamesSpent
    ∷ (refused_if (not memory) refusal.NoMemory ∷ [])))

-- a connection has calls while it is busy
pub busy_stack : (rings : ℕ → Option Items) (c : Conn) → is_busy (stack_of rings c) ≡ c.busy
busy_stack rings c = go c.busy where
  go : (busy : Bool) → is_busy (if busy then Rattle.module_run.proofs.Tops.frame_at rings c c.top ∷ stack_over (Rattle.module_run.proofs.Tops.frame_at rings c) c.callers.items else []) ≡ busy
  go true = refl
  go false = refl

module _ (ps : Pools Payload) (rings : ℕ → Option Items) (next : ℕ) (c : Conn) (v : Linked) (seen : IsSeenAs ps rings next c v) where
  pub busy_is : is_busy v.1.stack ≡ c.busy
  unfolding conn_of
  busy_is = ap (λ (x : Connection). is_busy x.stack) seen.conn ∙ busy_stack rings c

  begin_tests_are : begin_tests v.1.broken (is_busy v.1.stack) v.1.req v.0.pools v.0.next ≡ begin_tests c.broken c.busy c.req ps.next next
  unfolding conn_of
  begin_tests_are =
      ap (λ (x : Connection). begin_tests x.broken (is_busy v.1.stack) x.req v.0.pools v.0.next) seen.conn
      ∙ (ap (λ (busy : Bool). begin_tests c.broken busy c.req v.0.pools v.0.next) busy_is
      ∙ (ap (λ (n : ℕ). begin_tests c.broken c.busy c.req n v.0.next) seen.pools ∙ ap (begin_tests c.broken c.busy c.req ps.next) seen.given))

  -- a request begins, or is refused
  pub begin_refused : (memory : Bool) (chain : List Program) (r : Refusal) → first_refusal (begin_tests c.broken c.busy c.req ps.next next) ≡ Some r → begins memory chain v ≡ (Some r, v)
  unfolding begins
  begin_refused memory chain r is =
      ap (λ (o : Option Refusal). unless_refused o v (begun chain v))
      (one_refused (begin_tests v.1.broken (is_busy v.1.stack) v.1.req v.0.pools v.0.next) (refused_if (not memory) refusal.NoMemory) r (ap first_refusal begin_tests_are ∙ is))

  pub begin_passed : (memory : Bool) (chain : List Program) → first_refusal (begin_tests c.broken c.busy c.req ps.next next) ≡ None
      → begins memory chain v ≡ unless_refused (refused_if (not memory) refusal.NoMemory) v (begun chain v)
  unfolding begins
  begin_passed memory chain none =
      ap (λ (o : Option Refusal). unless_refused o v (begun chain v))
      (none_refused (begin_tests v.1.broken (is_busy v.1.stack) v.1.req v.0.pools v.0.next) (refused_if (not memory) refusal.NoMemory) (ap first_refusal begin_tests_are ∙ none))

  request_tests_are : request_tests v.1.broken (is_busy v.1.stack) v.1.req ≡ request_tests c.broken c.busy c.req
  unfolding conn_of
  request_tests_are =
      ap (λ (x : Connection). request_tests x.broken (is_busy v.1.stack) x.req) seen.conn ∙ ap (λ (busy : Bool). request_tests c.broken busy c.req) busy_is

  -- a request ends, or that is refused
  pub end_refused : (memory : Bool) (r : Refusal) → first_refusal (request_tests c.broken c.busy c.req) ≡ Some r → ends memory v ≡ (Some r, v)
  unfolding ends
  end_refused memory r is =
      ap (λ (o : Option Refusal). unless_refused o v (ended v.1.req v))
      (one_refused (request_tests v.1.broken (is_busy v.1.stack) v.1.req) (refused_if (not memory) refusal.NoMemory) r (ap first_refusal request_tests_are ∙ is))

  pub end_passed : (memory : Bool) → first_refusal (request_tests c.broken c.busy c.req) ≡ None → ends memory v ≡ unless_refused (refused_if (not memory) refusal.NoMemory) v (ended v.1.req v)
  unfolding ends
  end_passed memory none =
      ap (λ (o : Option Refusal). unless_refused o v (ended v.1.req v))
      (none_refused (request_tests v.1.broken (is_busy v.1.stack) v.1.req) (refused_if (not memory) refusal.NoMemory) (ap first_refusal request_tests_are ∙ none))

  bring_tests_are : (pieces : List Piece) → bring_tests v.1.broken (is_busy v.1.stack) v.1.req v.1.files v.0.next pieces ≡ bring_tests c.broken c.busy c.req (lengths c.files.items) next pieces
  unfolding conn_of
  bring_tests_are pieces =
      ap (λ (x : Connection). bring_tests x.broken (is_busy v.1.stack) x.req x.files v.0.next pieces) seen.conn
      ∙ (ap (λ (busy : Bool). bring_tests c.broken busy c.req (lengths c.files.items) v.0.next pieces) busy_is
      ∙ ap (λ (n : ℕ). bring_tests c.broken c.busy c.req (lengths c.files.items) n pieces) seen.given)

  -- a brigade is brought, or refused
  pub bring_refused : (memory : Bool) (chain : List Program) (pieces : List Piece) (r : Refusal) → first_refusal (bring_tests c.broken c.busy c.req (lengths c.files.items) next pieces) ≡ Some r
      → brings memory chain pieces v ≡ (Some r, v)
  unfolding brings
  bring_refused memory chain pieces r is =
      ap (λ (o : Option Refusal). unless_refused o v (brought chain pieces v.1.req v))
      (one_refused (bring_tests v.1.broken (is_busy v.1.stack) v.1.req v.1.files v.0.next pieces) (refused_if (not memory) refusal.NoMemory) r (ap first_refusal (bring_tests_are pieces) ∙ is))

  pub bring_passed : (memory : Bool) (chain : List Program) (pieces : List Piece) → first_refusal (bring_tests c.broken c.busy c.req (lengths c.files.items) next pieces) ≡ None
      → brings memory chain pieces v ≡ unless_refused (refused_if (not memory) refusal.NoMemory) v (brought chain pieces v.1.req v)
  unfolding brings
  bring_passed memory chain pieces none =
      ap (λ (o : Option Refusal). unless_refused o v (brought chain pieces v.1.req v))
      (none_refused (bring_tests v.1.broken (is_busy v.1.stack) v.1.req v.1.files v.0.next pieces) (refused_if (not memory) refusal.NoMemory) (ap first_refusal (bring_tests_are pieces) ∙ none))

  open_tests_are : (opening : Opening) (memory : Bool) → first_refusal (request_tests c.broken c.busy c.req) ≡ None
      → opens_file memory opening v ≡ file_answer (first_refusal (opening_tests v.0 opening memory)) v.1.req opening v
  unfolding opens_file
  open_tests_are opening memory none =
      ap (λ (o : Option Refusal). file_answer o v.1.req opening v)
      (more_passed (request_tests v.1.broken (is_busy v.1.stack) v.1.req) (opening_tests v.0 opening memory) (ap first_refusal request_tests_are ∙ none))

  -- a file is opened, or refused
  pub open_refused : (opening : Opening) (memory : Bool) (r : Refusal) → first_refusal (request_tests c.broken c.busy c.req) ≡ Some r → opens_file memory opening v ≡ (Err r, v)
  unfolding opens_file
  open_refused opening memory r is =
      ap (λ (o : Option Refusal). file_answer o v.1.req opening v)
      (more_refused (request_tests v.1.broken (is_busy v.1.stack) v.1.req) (opening_tests v.0 opening memory) r (ap first_refusal request_tests_are ∙ is))

  pub open_missing : (memory : Bool) → first_refusal (request_tests c.broken c.busy c.req) ≡ None → opens_file memory Missing v ≡ (Err refusal.NoFile, v)
  open_missing memory none = open_tests_are Missing memory none

  pub open_failing : (memory : Bool) → first_refusal (request_tests c.broken c.busy c.req) ≡ None → opens_file memory Failing v ≡ (Err refusal.FileFailed, v)
  open_failing memory none = open_tests_are Failing memory none

  pub open_spent : (memory : Bool) (skipped : ℕ) (bytes : List ℕ) → first_refusal (request_tests c.broken c.busy c.req) ≡ None → is_spent (v.0.file + skipped) 1 ≡ true
      → opens_file memory (Found skipped bytes) v ≡ (Err refusal.NamesSpent, v)
  open_spent memory skipped bytes none spent =
      open_tests_are (Found skipped bytes) memory none
      ∙ ap (λ (t : Bool). file_answer (first_refusal (refused_if t refusal.NamesSpent ∷ (refused_if (not memory) refusal.NoMemory ∷ []))) v.1.req (Found skipped bytes) v) spent

  pub open_left : (memory : Bool) (skipped : ℕ) (bytes : List ℕ) → first_refusal (request_tests c.broken c.busy c.req) ≡ None → is_spent (v.0.file + skipped) 1 ≡ false
      → opens_file memory (Found skipped bytes) v ≡ file_answer (first_refusal (refused_if (not memory) refusal.NoMemory ∷ [])) v.1.req (Found skipped bytes) v
  open_left memory skipped bytes none left =
      open_tests_are (Found skipped bytes) memory none
      ∙ ap (λ (t : Bool). file_answer (first_refusal (refused_if t refusal.NamesSpent ∷ (refused_if (not memory) refusal.NoMemory ∷ []))) v.1.req (Found skipped bytes) v) left
