-- Each event leaves what each instance sees reached by an open run.
use Rattle.std.proofs.Common.{◌≡◌, ◌≢◌, ℕ, ◌+◌, ◌^◌, ◌<◌, ◌≤◌, true, false, ◌==◌, ◌||◌, List, [], ◌∷◌, length, Option, Some, None, is_some, All, inl, inr, refl, sym, ◌∙◌, ap, subst, arith, eq-eqb}
use Rattle.std.proofs.lemmas.Bool.{cases_lt, or_left, or_right}
use Rattle.std.proofs.lemmas.Bool.Decides.{nat_tests}
use Rattle.std.proofs.lemmas.List.Elements.{All-nil, All-cons}
use Rattle.module_code.specs.Program.{Program}
use Rattle.run_model.specs.declared.bucket.BrigadeVar.{BrigadeVar}
use Rattle.run_model.specs.declared.bucket.BrigadeVar.TheVariants as var
use Rattle.run_model.specs.declared.bucket.Mark.TheVariants.{Usable}
use Rattle.run_model.specs.declared.bucket.NamedBucket.{NamedBucket}
use Rattle.run_model.specs.declared.event.Piece.{Piece}
use Rattle.run_model.specs.declared.event.Piece.TheVariants as piece
use Rattle.run_model.specs.Chains.{Frame, Connection, Common, Linked, configuration, pools_of, places, place_from, module_at}
use Rattle.run_model.specs.Clearing.{cleared_var, run_down}
use Rattle.run_model.specs.Passing.{set_in}
use Rattle.run_model.specs.Pieces.{bucket_of, named_from, data_behind_eos}
use Rattle.run_model.specs.Pools.{is_under, created}
use Rattle.run_model.specs.Sound.{sum_below, count_named, count}
use Rattle.run_model.specs.State.{Configuration, Instance, fresh_call, is_named}
use Rattle.run_model.specs.State as state
use Rattle.run_model.specs.Steps.{is_spent}
use Rattle.run_model.specs.Turns.{all_called, with_pools, fresh_connection, opened, begun, brought_in, request_over}
use Rattle.run_model.proofs.Names.{count_none, count_before, count_once, count_behind}
use Rattle.run_model.proofs.Sums.{term_below}
use Rattle.run_model.proofs.Updates.{upd_at, upd_off}
use Rattle.model_laws.specs.ChainOrder.{has_call}
use Rattle.model_laws.specs.ChainSound.{ChainSound, count_at, count_in}
use Rattle.model_laws.specs.OpenRuns.{Due, Rests, Runs, none_lasts, Begin, Main, End, Done, Come, IsMove, IsOpenRun, called, may_come, request_begun, request_ended}
use Rattle.model_laws.proofs.Brought.{buckets_as_pieces}
use Rattle.model_laws.proofs.StepBuckets.{named_proper}
use Rattle.model_laws.proofs.chains.Modules.{first_in_places}
use Rattle.model_laws.proofs.seen.Calling.{DueAt, called_seen}
use Rattle.model_laws.proofs.seen.InPlace.{running, not_there}
use Rattle.model_laws.proofs.seen.Reach.{ReachedAlone, go}
use Rattle.model_laws.proofs.seen.Seen.{SeenCall, AllWaitSeen, StackSeen, SeenRest, ChainSeen, resting, rest_phase}
use Rattle.model_laws.proofs.seen.Settle.{settle}

-- A connection is opened.

start_due : (chain : List Program) (g : Common) → ChainSound chain (opened chain g).0 (opened chain g).1 → (k : ℕ)
    → DueAt chain (with_pools (created g.root (pools_of g (fresh_connection g))) (g, fresh_connection g)).0 (with_pools (created g.root (pools_of g (fresh_connection g))) (g, fresh_connection g)).1 k
unfolding opened all_called configuration IsOpenRun
start_due chain g sound k =
    let v : Linked = with_pools (created g.root (pools_of g (fresh_connection g))) (g, fresh_connection g) in
    let pools = sound.pools.sound (resting k 0) in
    record {
      pc = 0;
      vacant = refl;
      reached = record {
        first = configuration v.0 v.1 (resting k 0);
        opened = record {
          instance = refl;
          call = refl;
          req = refl;
          pools = pools.formed;
          conn = pools.conn;
          limits = (let limit : g.next + 1 < 2 ^ 64 = sound.names.limit in omega (arith, limit), pools.limit);
        };
        moves = [];
        told = [];
        run = refl;
      };
    }

pub opened_seen : (chain : List Program) (g : Common) → 0 < length chain → ChainSound chain (opened chain g).0 (opened chain g).1 → ChainSeen chain (opened chain g).0 (opened chain g).1
unfolding opened
opened_seen chain g some sound =
    let v : Linked = with_pools (created g.root (pools_of g (fresh_connection g))) (g, fresh_connection g) in
    called_seen chain v.0 v.1 (λ k lt. start_due chain g sound k) some sound

-- An instance rests between calls.
rest_at : (chain : List Program) (g : Common) (c : Connection) → c.stack ≡ [] → c.queue ≡ [] → ChainSeen chain g c → (k : ℕ) → k < places chain
    → (pc : ℕ) × ((c.instances k).brigades 8 ≡ var.Null) × ReachedAlone (module_at chain k) (record { phase = Rests; lasting = none_lasts; now = configuration g c (resting k pc) })
unfolding has_call
rest_at chain g c idle empty seen k lt =
    let h = seen.rests k lt (ap (λ (fs : List Frame). has_call fs k) idle) in
    (h.pc, h.vacant, subst (λ (q : List ℕ). ReachedAlone (module_at chain k) (record { phase = rest_phase k q; lasting = none_lasts; now = configuration g c (resting k h.pc) })) empty h.reached)

-- A request begins.

not_spent_one : (n : ℕ) → n + 1 < 2 ^ 64 → is_spent n 1 ≡ false
unfolding is_spent
not_spent_one n lt = grind (arith, nat_tests)

begin_due : (chain : List Program) (g : Common) (c : Connection) → c.req ≡ None → g.pools + 1 < 2 ^ 64 → (k : ℕ)
    → (pc : ℕ) × ((c.instances k).brigades 8 ≡ var.Null) × ReachedAlone (module_at chain k) (record { phase = Rests; lasting = none_lasts; now = configuration g c (resting k pc) })
    → DueAt chain (with_pools (created c.conn (pools_of g c)) (g, record c { req = Some g.pools })).0 (with_pools (created c.conn (pools_of g c)) (g, record c { req = Some g.pools })).1 k
unfolding IsMove configuration
begin_due chain g c none limit k h = record {
  pc = h.0;
  vacant = h.1;
  reached = go (module_at chain k) (record { phase = Rests; lasting = none_lasts; now = configuration g c (resting k h.0) })
      (record { phase = Due; lasting = none_lasts; now = request_begun (configuration g c (resting k h.0)) }) Begin Done h.2
      (refl, record { phase = refl; none = none; names = not_spent_one g.pools limit; is = refl });
}

pub begun_seen : (chain : List Program) (g : Common) (c : Connection) → c.stack ≡ [] → c.req ≡ None → g.pools + 1 < 2 ^ 64 → 0 < length chain → ChainSound chain g c
    → ChainSound chain (begun chain (g, c)).0 (begun chain (g, c)).1 → ChainSeen chain g c → ChainSeen chain (begun chain (g, c)).0 (begun chain (g, c)).1
unfolding begun
begun_seen chain g c idle none limit some sound new seen =
    let v : Linked = with_pools (created c.conn (pools_of g c)) (g, record c { req = Some g.pools }) in
    called_seen chain v.0 v.1 due some new where
      due : (k : ℕ) → k < places chain → DueAt chain (with_pools (created c.conn (pools_of g c)) (g, record c { req = Some g.pools })).0 (with_pools (created c.conn (pools_of g c)) (g, record c { req = Some g.pools })).1 k
      due k lt = begin_due chain g c none limit k (rest_at chain g c idle (sound.calls.idle idle) seen k lt)

-- A request ends.

module _ (chain : List Program) (req : ℕ) (g : Common) (c : Connection) (idle : c.stack ≡ []) (is : c.req ≡ Some req) (sound : ChainSound chain g c)
    (new : ChainSound chain (request_over req (g, c)).0 (request_over req (g, c)).1) (seen : ChainSeen chain g c) where
  abbrev over : Linked
  over = request_over req (g, c)

  over_rests : (k : ℕ) → k < places chain → SeenRest chain over.0 over.1 k
  unfolding IsMove configuration run_down state.with_pools
  over_rests k lt =
      let h = rest_at chain g c idle (sound.calls.idle idle) seen k lt in
      record {
        pc = h.0;
        vacant = ap (cleared_var (is_under (pools_of g c) req)) h.1;
        reached = subst (λ (q : List ℕ). ReachedAlone (module_at chain k) (record { phase = rest_phase k q; lasting = none_lasts; now = configuration over.0 over.1 (resting k h.0) })) (sym (sound.calls.idle idle))
            (settle (module_at chain k) Rests none_lasts (request_ended req (configuration g c (resting k h.0))) (configuration over.0 over.1 (resting k h.0)) tt refl refl refl (record {
              conn = refl;
              req = refl;
              pools = (new.pools.sound (resting k h.0)).formed;
              stay = λ n lasts. refl;
              rises = (omega arith, omega arith);
              limits = (new.names.limit, (new.pools.sound (resting k h.0)).limit);
            }) (go (module_at chain k) (record { phase = Rests; lasting = none_lasts; now = configuration g c (resting k h.0) })
            (record { phase = Rests; lasting = none_lasts; now = request_ended req (configuration g c (resting k h.0)) }) End Done h.2
            (refl, record { phase = refl; req = req; opened = is; is = refl })));
      }

  pub over_seen : ChainSeen chain over.0 over.1
  over_seen = record { stack = subst (StackSeen chain over.0 over.1) (sym idle) tt; rests = λ k lt off. over_rests k lt }

-- A brigade is brought.

piece_home : (call req : ℕ) (r : Configuration) → r.shared.req ≡ Some req → (x : Piece) → may_come (record { calls = call ∷ []; pools = [] }) r (bucket_of call req x).home ≡ true
piece_home call req r is (piece.Heap bytes) = refl
piece_home call req r is (piece.Transient bytes) = or_left (call == call) false (eq-eqb call call refl)
piece_home call req r is (piece.Immortal bytes) = refl
piece_home call req r is (piece.Pool bytes) = refl
piece_home call req r is (piece.File file start len) =
    or_left ((req == r.shared.conn) || is_named r.shared.req req) false
    (or_right (req == r.shared.conn) (is_named r.shared.req req) (ap (λ (o : Option ℕ). is_named o req) is ∙ eq-eqb req req refl))
piece_home call req r is piece.Flush = refl
piece_home call req r is piece.Eos = refl

pieces_home : (call req : ℕ) (r : Configuration) → r.shared.req ≡ Some req → (n : ℕ) (xs : List Piece)
    → All (λ x. may_come (record { calls = call ∷ []; pools = [] }) r x.bucket.home ≡ true) (named_from (bucket_of call req) n xs)
pieces_home call req r is n [] = All-nil (λ (x : NamedBucket). may_come (record { calls = call ∷ []; pools = [] }) r x.bucket.home ≡ true)
pieces_home call req r is n (x ∷ xs) =
    All-cons (λ (y : NamedBucket). may_come (record { calls = call ∷ []; pools = [] }) r y.bucket.home ≡ true) (record { name = n; bucket = bucket_of call req x }) (named_from (bucket_of call req) (n + 1) xs)
    (piece_home call req r is x) (pieces_home call req r is (n + 1) xs)

module _ (chain : List Program) (pieces : List Piece) (req : ℕ) (g : Common) (c : Connection) (idle : c.stack ≡ []) (is : c.req ≡ Some req) (limit : g.next + (2 + length pieces) < 2 ^ 64)
    (late : data_behind_eos pieces ≡ false) (sound : ChainSound chain g c) (new : ChainSound chain (brought_in chain pieces req (g, c)).0 (brought_in chain pieces req (g, c)).1) (seen : ChainSeen chain g c) where
  abbrev brought : Linked
  brought = brought_in chain pieces req (g, c)

  abbrev k : ℕ
  k = place_from chain c.instances 0

  abbrev items : List NamedBucket
  items = named_from (bucket_of g.next req) (g.next + 2) pieces

  abbrev callee : Frame
  callee = record { of = k; call = fresh_call g.next; pc = (module_at chain k).main }

  inside : k < places chain
  inside = first_in_places chain c.instances

  rested : (pc : ℕ) × ((c.instances k).brigades 8 ≡ var.Null) × ReachedAlone (module_at chain k) (record { phase = Rests; lasting = none_lasts; now = configuration g c (resting k pc) })
  rested = rest_at chain g c idle (sound.calls.idle idle) seen k inside

  abbrev made : BrigadeVar
  made = var.Live (record { name = g.next + 1; on = None; mark = Usable; items = items })

  callee_is : brought.1.instances k ≡ set_in made (c.instances k)
  callee_is = upd_at c.instances k (set_in made (c.instances k))

  few : (n : ℕ) → count (configuration g c (resting k rested.0)) n ≤ count_in chain c n
  unfolding configuration count_in
  few n =
      let held : count_at (c.instances k) n ≤ sum_below (places chain) (λ j. count_at (c.instances j) n) = term_below (places chain) k (λ j. count_at (c.instances j) n) inside in
      let none : count_named n [] ≡ 0 = count_none n in
      omega arith

  come_once : (n : ℕ) → count (configuration g c (resting k rested.0)) n + count_named n items ≤ 1
  come_once n = elim (cases_lt n g.next) [
    | inl old ↦
        (let none : count_named n items ≡ 0 = count_before (bucket_of g.next req) n (g.next + 2) pieces (omega arith) in
        let seen_few = few n in
        let one : count_in chain c n ≤ 1 = sound.names.once n in
        omega arith)
    | inr fresh ↦
        (let once : count_named n items ≤ 1 = count_once (bucket_of g.next req) n (g.next + 2) pieces in
        let seen_few = few n in
        let none : count_in chain c n ≡ 0 = sound.names.fresh n fresh in
        omega arith)
  ]

  come : Come (configuration g c (resting k rested.0)) (g.next + 2 + length pieces) items
  come = record {
    kinds = named_proper g.next req (g.next + 2) pieces;
    once = come_once;
    given = λ n le. count_behind (bucket_of g.next req) n (g.next + 2) pieces le;
  }

  abbrev main_now : Configuration
  main_now = called g.next (g.next + 2 + length pieces) (module_at chain k).main (record (configuration g c (resting k rested.0)) { instance = set_in made (c.instances k) })

  main_is : main_now ≡ configuration brought.0 brought.1 callee
  unfolding configuration
  main_is = ap (λ (x : Instance). record main_now { instance = x }) (sym callee_is)

  callee_runs : SeenCall Runs chain brought.0 brought.1 callee []
  unfolding IsMove configuration
  callee_runs = record {
    pools = [];
    below = λ n e. absurd (cc);
    reached = subst (λ (x : Configuration). ReachedAlone (module_at chain k) (running (record { calls = g.next ∷ []; pools = [] }) x)) main_is
        (go (module_at chain k) (record { phase = Rests; lasting = none_lasts; now = configuration g c (resting k rested.0) }) (running (record { calls = g.next ∷ []; pools = [] }) main_now) (Main items) Done rested.2 (
          refl,
          record {
            phase = refl;
            request = ap (λ (o : Option ℕ). is_some o) is;
            name = g.next;
            next = g.next + 2 + length pieces;
            named = record { new = omega arith; given = omega arith; limit = new.names.limit };
            waiting = [];
            pools = [];
            others = λ n e. absurd (cc);
            ordered = buckets_as_pieces g.next req (g.next + 2) pieces ∙ late;
            homes = pieces_home g.next req (configuration g c (resting k rested.0)) is (g.next + 2) pieces;
            come = come;
            brigade = g.next + 1;
            given = omega arith;
            apart = λ b e. absurd (let lt : g.next + 1 < g.next = sound.names.given k b (g.next + 1) e in omega (arith, lt));
            is = refl;
          },
        ));
  }

  other_rests : (j : ℕ) → j < places chain → j ≢ k → SeenRest chain brought.0 brought.1 j
  unfolding configuration
  other_rests j lt off =
      let h = rest_at chain g c idle (sound.calls.idle idle) seen j lt in
      let same : brought.1.instances j ≡ c.instances j = upd_off c.instances k j (set_in made (c.instances k)) off in
      record {
        pc = h.0;
        vacant = ap (λ (x : Instance). x.brigades 8) same ∙ h.1;
        reached = subst (λ (q : List ℕ). ReachedAlone (module_at chain j) (record { phase = rest_phase j q; lasting = none_lasts; now = configuration brought.0 brought.1 (resting j h.0) })) (sym (sound.calls.idle idle))
            (settle (module_at chain j) Rests none_lasts (configuration g c (resting j h.0)) (configuration brought.0 brought.1 (resting j h.0)) tt same refl refl (record {
              conn = refl;
              req = refl;
              pools = (new.pools.sound (resting j h.0)).formed;
              stay = λ n lasts. refl;
              rises = (omega arith, omega arith);
              limits = (new.names.limit, (new.pools.sound (resting j h.0)).limit);
            }) h.2);
      }

  pub brought_seen : ChainSeen chain brought.0 brought.1
  unfolding AllWaitSeen
  brought_seen = record { stack = (callee_runs, tt); rests = λ j lt off. other_rests j lt (not_there callee [] j off).0 }
