-- What an event leaves of the tree of its world is the tree of the world that it leaves.
use Rattle.run_model.specs.declared.effect.CleanupKind.TheVariants.{Plain}
use Rattle.std.proofs.Common.{Option, ◌≡◌, ◌≢◌, ℕ, suc, ◌<◌, true, false, not, nat_lt, List, [], ◌∷◌, Some, Result, Ok, Err, inl, inr, refl, sym, ◌∙◌, ap, subst}
use Rattle.std.proofs.lemmas.Option.{same_Some}
use Rattle.std.proofs.lemmas.Bool.{cases_Bool, both_ways, false_from_ne_true, ltb-true, ltb-false}
use Rattle.module_code.specs.Program.{Program}
use Rattle.module_code.specs.declared.instr.Instr.{Instr}
use Rattle.run_model.specs.declared.event.Refusal.{Refusal}
use Rattle.run_model.specs.declared.payload.Payload.{Payload}
use Rattle.run_model.specs.declared.payload.Payload.TheVariants.{FileRef}
use Rattle.run_model.specs.Indexed.{upd}
use Rattle.run_model.specs.Pools.{Pools, is_empty, is_in, is_live, is_under, registered, registered_as, no_cleanups}
use Rattle.run_model.specs.Clearing.{run_down}
use Rattle.run_model.specs.State.{with_pools}
use Rattle.run_model.specs.Steps.{current}
use Rattle.run_model.specs.Chains.{Connection, Common, Linked, configuration, module_at, pools_of, IsChain}
use Rattle.run_model.specs.Turns.{all_called, begins, begun, brings, ends, opens_file, steps}
use Rattle.run_model.specs.Worlds.{World, put_conn, tree_of}
use Rattle.model_laws.specs.ChainSound.{ChainSound, HasNames}
use Rattle.model_laws.specs.JoinedParts.{ArePoolsOf, HasItsPart, StandsWith}
use Rattle.model_laws.specs.Parts.{is_top, part, HasPart, Made, Registered, Destroyed}
use Rattle.model_laws.specs.PartSteps.{linked_in_part}
use Rattle.model_laws.specs.ChainTrees.{WorldPoolsApart}
use Rattle.model_laws.specs.Reached.{IsReached, WorldLaws}
use Rattle.model_laws.specs.SharedPools.{LiesOver, over, seen_in}
use Rattle.model_laws.specs.SharedTree.{BeginsLeaveTheTree, BringsLeaveTheTree, EndsLeaveTheTree, OpenFilesLeaveTheTree, StepsLeaveTheTree}
use Rattle.run_model.specs.RunOrder.{IsPoolMap}
use Rattle.run_model.proofs.Updates.{upd_at, upd_either, upd_off}
use Rattle.model_laws.proofs.chains.EventTurns.{EventTurn, Stood, Went, Begun, Brought, FileTaken, Ended, OpensAs, begins_turn, brings_turn, ends_turn, opens_file_turn, steps_turn}
use Rattle.model_laws.proofs.chains.OverTree.{reached_lies_over}
use Rattle.model_laws.proofs.chains.PoolsApart.{run_keeps_pools_apart}
use Rattle.model_laws.proofs.chains.Proceeds.{proceeds_conn, proceeds_so}
use Rattle.model_laws.proofs.chains.PutBack.{looking}
use Rattle.model_laws.proofs.chains.Reached.{reached_holds}
use Rattle.model_laws.proofs.chains.TreeParts.{numbered, reached_tree, same_number, top_in}
use Rattle.model_laws.proofs.chains.TurnsSound.{turn_rises, turn_sound}
use Rattle.model_laws.proofs.chains.WorldKept.{AnyLength}
use Rattle.model_laws.proofs.parts.Joined.{parts_whole}
use Rattle.model_laws.proofs.parts.Others.{others_stay, same_next}
use Rattle.model_laws.proofs.parts.Paths.{part_under, top_apart}
use Rattle.model_laws.proofs.parts.Seen.{begins_in_part, brings_in_part, ends_in_part, opens_file_in_part, steps_in_part, whole_pools}
use Rattle.model_laws.proofs.parts.SoundOver.{sound_over}
use Rattle.model_laws.proofs.parts.TopSpares.{top_spares}
use Rattle.model_laws.proofs.parts.Within.{StaysWithin, changes_within, same_within, step_within}

-- A turn over the pools of all.

module _ (chain : List Program) (ps : Pools Payload) (g : Common) (c : Connection) (l : LiesOver ps g c) where
  abbrev all : Connection
  all = over ps c

  abbrev whole : Pools Payload
  whole = pools_of g all

  has : HasPart whole c.conn
  unfolding configuration
  has = (l.lies (looking 0)).has

  request : (req : ℕ) → c.req ≡ Some req → is_under whole c.conn req ≡ true
  unfolding is_under
  request req is = l.request req is

  unturned : (v : Linked) → v.0.pools ≡ g.pools → v.1.path ≡ ps.path → v.1.payloads ≡ ps.payloads → StaysWithin c.conn whole (pools_of v.0 v.1)
  unturned v next paths payloads = same_within c.conn whole (pools_of v.0 v.1) has next paths payloads

  pub turn_within : (v : Linked) → EventTurn chain AnyLength g all v → StaysWithin c.conn whole (pools_of v.0 v.1)
  unfolding begun all_called configuration run_down with_pools registered_as
  turn_within v (Stood out broken still) = unturned v refl refl refl
  turn_within v (Went reads f rest sane may) =
      let i : Instr = current (module_at chain f.of) f.pc in
      let left = proceeds_so (λ new files next req. StaysWithin c.conn whole new) chain reads i f rest g all
      (λ choice. step_within c.conn (module_at chain f.of) (configuration g all f) (l.lies f) choice i may.faultless) (unturned (g, all) refl refl refl) in
      record { rises = left.rises; off = left.off; inside = left.inside }
  turn_within v (Begun sane idle none pools next) = changes_within Made c.conn c.conn whole has (part_under whole c.conn has)
  turn_within v (Brought pieces req sane idle is there next late) = unturned v refl refl refl
  turn_within v (FileTaken req file bytes sane idle is short newer last) = changes_within (Registered Plain (FileRef file)) c.conn req whole has (request req is)
  turn_within v (Ended req sane idle is) = changes_within Destroyed c.conn req whole has (request req is)

  turn_conn : (v : Linked) → EventTurn chain AnyLength g all v → v.1.conn ≡ c.conn
  unfolding begun all_called configuration run_down with_pools
  turn_conn v (Stood out broken still) = refl
  turn_conn v (Went reads f rest sane may) = proceeds_conn chain reads (current (module_at chain f.of) f.pc) f rest g all
  turn_conn v (Begun sane idle none pools next) = refl
  turn_conn v (Brought pieces req sane idle is there next late) = refl
  turn_conn v (FileTaken req file bytes sane idle is short newer last) = refl
  turn_conn v (Ended req sane idle is) = refl

  -- The parts of others stay.
  module _ (d : ℕ) (other : HasPart whole d) (ne : c.conn ≢ d) where
    abbrev SparesTree : Linked → Type 0
    SparesTree v = part d (pools_of v.0 v.1) ≡ record (part d whole) { next = v.0.pools }

    turn_spares : (v : Linked) → EventTurn chain AnyLength g all v → SparesTree v
    unfolding begun all_called configuration run_down with_pools registered_as
    turn_spares v (Stood out broken still) = same_next d whole whole refl
    turn_spares v (Went reads f rest sane may) = top_spares d chain reads (current (module_at chain f.of) f.pc) f rest g all (l.lies f) other ne may.faultless
    turn_spares v (Begun sane idle none pools next) = others_stay Made c.conn d c.conn whole has other ne (part_under whole c.conn has)
    turn_spares v (Brought pieces req sane idle is there next late) = same_next d whole whole refl
    turn_spares v (FileTaken req file bytes sane idle is short newer last) = others_stay (Registered Plain (FileRef file)) c.conn d req whole has other ne (request req is)
    turn_spares v (Ended req sane idle is) = others_stay Destroyed c.conn d req whole has other ne (request req is)

-- The world that it leaves.

-- What is known of a world and its tree, at the connection k.
pub record TreeStands (chain : List Program) (w : World) (ps : Pools Payload) (k : ℕ) (c : Connection) : Type 0 where
  pub chained : IsChain chain
  pub names : HasNames w.common
  pub sound : ChainSound chain w.common c
  pub pools : ArePoolsOf w ps
  pub here : w.conns k ≡ Some c
  pub number : (m : ℕ) × (k ≡ suc m) × (m < w.last)
  pub tops : (j : ℕ) (d : Connection) → w.conns j ≡ Some d → HasPart ps d.conn
  pub differ : (j : ℕ) (d : Connection) → w.conns j ≡ Some d → j ≢ k → c.conn ≢ d.conn
  pub lies : LiesOver ps w.common c

-- a pool that stood under another connection's goes on doing so, whatever comes of this one
pub stands_on : (chain : List Program) (w : World) (ps : Pools Payload) (k : ℕ) (c : Connection) → TreeStands chain w ps k c
    → (x : Option Connection) (left : World) → left.conns ≡ upd w.conns k x → left.last ≡ w.last
    → (now : Pools Payload) (n : ℕ) → is_under ps c.conn n ≡ false → now.path n ≡ ps.path n → StandsWith w ps n → StandsWith left now n
unfolding is_under
stands_on chain w ps k c s x left conns last now n apart same o = record {
  number = o.number;
  conn = o.conn;
  given = subst (λ (m : ℕ). o.number < m) (sym last) o.given;
  there = ap (λ (h : ℕ → Option Connection). h (suc o.number)) conns ∙ upd_off w.conns k (suc o.number) x other ∙ o.there;
  under = ap (is_in o.conn.conn) same ∙ o.under;
} where
  other : suc o.number ≢ k
  other is = both_ways (is_in c.conn (ps.path n)) apart (ap (λ (y : Connection). is_in y.conn (ps.path n)) (same_Some c o.conn (sym s.here ∙ ap w.conns (sym is) ∙ o.there)) ∙ o.under)

module _ (chain : List Program) (w : World) (ps : Pools Payload) (k : ℕ) (c : Connection) (s : TreeStands chain w ps k c) (v : Linked) (t : EventTurn chain AnyLength w.common (over ps c) v) where
  abbrev left : World
  left = put_conn k (linked_in_part c.conn v) w

  abbrev now : Pools Payload
  now = pools_of v.0 v.1

  within : StaysWithin c.conn (pools_of w.common (over ps c)) now
  within = turn_within chain ps w.common c s.lies v t

  same_root : v.0.root ≡ w.common.root
  same_root = (turn_rises chain AnyLength w.common (over ps c) v s.names t (sound_over chain ps w.common c s.lies s.sound)).root

  root_off : is_under (pools_of w.common (over ps c)) c.conn w.common.root ≡ false
  root_off = false_from_ne_true (is_under (pools_of w.common (over ps c)) c.conn w.common.root)
      (λ under. both_ways (is_top (ps.path w.common.root)) (top_apart (pools_of w.common (over ps c)) c.conn w.common.root (has chain ps w.common c s.lies) under) (ap is_top s.pools.root))

  root_stays : (now.path w.common.root ≡ ps.path w.common.root) × (now.payloads w.common.root ≡ ps.payloads w.common.root)
  root_stays = within.off w.common.root s.names.pools.0 root_off

  formed : IsPoolMap now
  unfolding configuration
  formed = ((turn_sound chain AnyLength w.common (over ps c) v s.chained s.names t (sound_over chain ps w.common c s.lies s.sound)).pools.sound (looking 0)).formed

  its_own : HasItsPart now (linked_in_part c.conn v).1
  its_own = (let same : v.1.conn ≡ c.conn = turn_conn chain ps w.common c s.lies v t in
      record { path = ap (λ (n : ℕ). (part n now).path) (sym same); payloads = ap (λ (n : ℕ). (part n now).payloads) (sym same) })

  others_part : (j : ℕ) (d : Connection) → w.conns j ≡ Some d → j ≢ k → HasItsPart now d
  unfolding part
  others_part j d at ne =
      let whole_top : HasPart (pools_of w.common (over ps c)) d.conn = subst (λ (qs : Pools Payload). HasPart qs d.conn) (sym (whole_pools ps w.common c s.lies)) (s.tops j d at) in
      let still = turn_spares chain ps w.common c s.lies d.conn whole_top (s.differ j d at ne) v t in
      let was = s.pools.parts j d at in
      record { path = was.path ∙ sym (ap (λ (qs : Pools Payload). qs.path) still); payloads = was.payloads ∙ sym (ap (λ (qs : Pools Payload). qs.payloads) still) }

  parts_then : (j : ℕ) (d : Connection) → left.conns j ≡ Some d → HasItsPart now d
  parts_then j d at = elim (upd_either w.conns k j (Some (linked_in_part c.conn v).1)) [
    | inl here ↦ subst (λ (x : Connection). HasItsPart now x) (same_Some (linked_in_part c.conn v).1 d (sym here.1 ∙ at)) its_own
    | inr off ↦ others_part j d (sym off.1 ∙ at) off.0
  ]

  mine : (n : ℕ) → is_under now c.conn n ≡ true → StandsWith left now n
  mine n under = record {
    number = s.number.0;
    conn = (linked_in_part c.conn v).1;
    given = s.number.2;
    there = ap (upd w.conns k (Some (linked_in_part c.conn v).1)) (sym s.number.1) ∙ upd_at w.conns k (Some (linked_in_part c.conn v).1);
    under = subst (λ (m : ℕ). is_under now m n ≡ true) (sym (turn_conn chain ps w.common c s.lies v t)) under;
  }

  -- a pool that stood under another's
  another : (n : ℕ) → is_under (pools_of w.common (over ps c)) c.conn n ≡ false → now.path n ≡ ps.path n → StandsWith w ps n → StandsWith left now n
  unfolding is_under
  another n apart same o = stands_on chain w ps k c s (Some (linked_in_part c.conn v).1) left refl refl now n apart same o

  covered : (n : ℕ) → is_live now n ≡ true → n ≢ w.common.root → StandsWith left now n
  unfolding is_live
  covered n live other = elim (cases_Bool (is_under (pools_of w.common (over ps c)) c.conn n)) [
    | inl under ↦ mine n (within.inside n (inl under) live)
    | inr apart ↦ (elim (cases_Bool (nat_lt n w.common.pools)) [
      | inl given ↦ (let same : now.path n ≡ ps.path n = (within.off n (ltb-true n w.common.pools given) apart).0 in
          another n apart same (s.pools.covered n (ap (λ (path : List ℕ). not (is_empty path)) (sym same) ∙ live) other))
      | inr fresh ↦ mine n (within.inside n (inr (ltb-false n w.common.pools fresh)) live)
    ])
  ]

  pub left_pools : ArePoolsOf (put_conn k (linked_in_part c.conn v) w) (pools_of v.0 v.1)
  left_pools = record {
    formed = formed;
    root = subst (λ (n : ℕ). now.path n ≡ n ∷ []) (sym same_root) (root_stays.0 ∙ s.pools.root);
    bare = subst (λ (n : ℕ). now.payloads n ≡ no_cleanups) (sym same_root) (root_stays.1 ∙ s.pools.bare);
    next = refl;
    parts = parts_then;
    covered = λ n live other. covered n live (λ is. other (is ∙ sym same_root));
  }

  pub left_tree : tree_of (put_conn k (linked_in_part c.conn v) w) ≡ pools_of v.0 v.1
  left_tree = parts_whole (put_conn k (linked_in_part c.conn v) w) (pools_of v.0 v.1) left_pools

-- A world that is reached.

module _ (budget : ℕ) (chain : List Program) (w : World) (chained : IsChain chain) (r : IsReached budget chain w) where
  pub laws : WorldLaws chain w
  laws = reached_holds budget chain w chained r

  pub pools_apart : WorldPoolsApart w
  pools_apart = run_keeps_pools_apart budget chain r.events r.answers w chained r.run

module _ (budget : ℕ) (chain : List Program) (w : World) (k : ℕ) (c : Connection) (chained : IsChain chain) (r : IsReached budget chain w) (at : w.conns k ≡ Some c) where
  known : WorldLaws chain w
  known = laws budget chain w chained r

  apart : WorldPoolsApart w
  apart = pools_apart budget chain w chained r

  pub reached_stands : TreeStands chain w (tree_of w) k c
  reached_stands = record {
    chained = chained;
    names = known.sound.names;
    sound = known.sound.conns k c at;
    pools = reached_tree budget chain w chained r;
    here = at;
    number = numbered chain w known.sound known.numbers known.paths apart k c at;
    tops = top_in chain w known.sound known.numbers known.paths apart;
    differ = λ j d there ne same. ne (same_number chain w known.sound known.numbers known.paths apart j k d c there at (sym same));
    lies = reached_lies_over budget chain w k c chained r at;
  }

  -- the event, seen in the part
  leaves : {A : Type 0} (event : Linked → A × Linked) → event (w.common, c) ≡ seen_in c.conn (event (w.common, over (tree_of w) c))
      → EventTurn chain AnyLength w.common (over (tree_of w) c) (event (w.common, over (tree_of w) c)).1
      → (let v = (event (w.common, over (tree_of w) c)).1 in tree_of (put_conn k (event (w.common, c)).1 w) ≡ pools_of v.0 v.1)
  leaves {A = A} event seen turn = ap (λ (a : A × Linked). tree_of (put_conn k a.1 w)) seen ∙ left_tree chain w (tree_of w) k c reached_stands (event (w.common, over (tree_of w) c)).1 turn

  lies : LiesOver (tree_of w) w.common c
  lies = reached_lies_over budget chain w k c chained r at

pub steps_leave : StepsLeaveTheTree
steps_leave memory budget chain reads w k c chained r at = leaves budget chain w k c chained r at (steps memory budget chain reads)
    (steps_in_part memory budget chain reads (tree_of w) w.common c (lies budget chain w k c chained r at)) (steps_turn chain AnyLength w.common (over (tree_of w) c) chained memory budget reads)

pub begins_leave : BeginsLeaveTheTree
begins_leave memory budget chain w k c chained r at = leaves budget chain w k c chained r at (begins memory chain)
    (begins_in_part memory chain (tree_of w) w.common c (lies budget chain w k c chained r at)) (begins_turn chain AnyLength w.common (over (tree_of w) c) memory)

pub brings_leave : BringsLeaveTheTree
brings_leave memory budget chain pieces w k c chained r at = leaves budget chain w k c chained r at (brings memory chain pieces)
    (brings_in_part memory chain pieces (tree_of w) w.common c (lies budget chain w k c chained r at)) (brings_turn chain AnyLength w.common (over (tree_of w) c) memory pieces)

pub ends_leave : EndsLeaveTheTree
ends_leave memory budget chain w k c chained r at = leaves budget chain w k c chained r at (ends memory) (ends_in_part memory (tree_of w) w.common c (lies budget chain w k c chained r at))
    (ends_turn chain AnyLength w.common (over (tree_of w) c) memory)

pub opens_file_leave : OpenFilesLeaveTheTree
opens_file_leave memory budget chain opening w k c chained r at =
    leaves budget chain w k c chained r at (opens_file memory opening) (opens_file_in_part memory opening (tree_of w) w.common c (lies budget chain w k c chained r at))
    (opens_file_turn chain AnyLength w.common (over (tree_of w) c) memory opening (any _)) where
      any : (a : Result (ℕ × ℕ) Refusal) → OpensAs AnyLength a
      any (Ok f) = tt
      any (Err r) = tt
