-- What opens has a new pool right under the root, and with what closes its pool goes.
use Rattle.std.proofs.Common.{◌≡◌, ◌≢◌, ℕ, suc, ◌+◌, ◌<◌, ◌==◌, true, not, List, [], ◌∷◌, Some, None, inl, inr, refl, sym, ◌∙◌, ap, subst, arith, eq-eqb}
use Rattle.std.proofs.lemmas.Option.{none-some, same_Some}
use Rattle.std.proofs.lemmas.Bool.{cases_Bool, both_ways, false_from_ne_true}
use Rattle.module_code.specs.Program.{Program}
use Rattle.run_model.specs.declared.payload.Payload.{Payload}
use Rattle.run_model.specs.Indexed.{upd}
use Rattle.run_model.specs.Pools.{Pools, is_empty, is_in, is_live, is_under, created, destroyed, planted}
use Rattle.run_model.specs.Chains.{Connection, IsChain}
use Rattle.run_model.specs.Turns.{all_called, opened}
use Rattle.run_model.specs.Worlds.{World, put_conn, tree_of}
use Rattle.model_laws.specs.JoinedParts.{ArePoolsOf, HasItsPart, StandsWith}
use Rattle.model_laws.specs.Parts.{is_top, part, HasPart, Destroyed}
use Rattle.model_laws.specs.Reached.{IsReached}
use Rattle.model_laws.specs.SharedTree.{ClosingTakesItsPool, OpeningPlantsAPool}
use Rattle.run_model.proofs.Formed.{created_formed, destroyed_formed, path_live}
use Rattle.run_model.proofs.PoolMap.{created_at, created_kept, destroyed_apart, destroyed_next, destroyed_under, live_path}
use Rattle.run_model.proofs.References.{or_left}
use Rattle.run_model.proofs.Updates.{upd_at, upd_either, upd_off}
use Rattle.model_laws.proofs.chains.BareRoot.{created_bare}
use Rattle.model_laws.proofs.chains.LeftTree.{TreeStands, stands_on, laws, pools_apart, reached_stands}
use Rattle.model_laws.proofs.chains.TreeParts.{reached_tree, top_in}
use Rattle.model_laws.proofs.parts.Joined.{parts_whole}
use Rattle.model_laws.proofs.parts.Order.{new_planted}
use Rattle.model_laws.proofs.parts.Others.{new_spares, others_stay}
use Rattle.model_laws.proofs.parts.Paths.{part_under, top_apart}

-- A connection is closed.
module _ (chain : List Program) (w : World) (ps : Pools Payload) (k : ℕ) (c : Connection) (s : TreeStands chain w ps k c) where
  abbrev closed : World
  closed = record w { conns = upd w.conns k None }

  abbrev gone : Pools Payload
  gone = destroyed c.conn ps

  has : HasPart ps c.conn
  has = s.tops k c s.here

  root_stays : (gone.path w.common.root ≡ ps.path w.common.root) × (gone.payloads w.common.root ≡ ps.payloads w.common.root)
  root_stays = destroyed_apart c.conn ps w.common.root
      (false_from_ne_true (is_under ps c.conn w.common.root) (λ under. both_ways (is_top (ps.path w.common.root)) (top_apart ps c.conn w.common.root has under) (ap is_top s.pools.root)))

  -- who is there then was there before, and is another
  was : (j : ℕ) (d : Connection) → closed.conns j ≡ Some d → (w.conns j ≡ Some d) × (j ≢ k)
  was j d at = elim (upd_either w.conns k j None) [ inl here ↦ absurd (none-some d (sym here.1 ∙ at)) | inr off ↦ (sym off.1 ∙ at, off.0) ]

  part_then : (j : ℕ) (d : Connection) → closed.conns j ≡ Some d → HasItsPart gone d
  part_then j d at =
      let there = was j d at in
      let still = others_stay Destroyed c.conn d.conn c.conn ps has (s.tops j d there.0) (s.differ j d there.0 there.1) (part_under ps c.conn has) in
      let old = s.pools.parts j d there.0 in
      record { path = old.path ∙ sym (ap (λ (qs : Pools Payload). qs.path) still); payloads = old.payloads ∙ sym (ap (λ (qs : Pools Payload). qs.payloads) still) }

  covered : (n : ℕ) → is_live gone n ≡ true → n ≢ w.common.root → StandsWith closed gone n
  unfolding is_live
  covered n live other = elim (cases_Bool (is_under ps c.conn n)) [
    | inl under ↦ absurd (live_path gone n live (destroyed_under c.conn ps n under).0)
    | inr apart ↦ (let same : gone.path n ≡ ps.path n = (destroyed_apart c.conn ps n apart).0 in
        stands_on chain w ps k c s None closed refl refl gone n apart same (s.pools.covered n (ap (λ (path : List ℕ). not (is_empty path)) (sym same) ∙ live) other))
  ]

  closed_tree : tree_of (record w { conns = upd w.conns k None }) ≡ destroyed c.conn ps
  closed_tree = parts_whole closed gone (record {
    formed = destroyed_formed c.conn ps s.pools.formed;
    root = root_stays.0 ∙ s.pools.root;
    bare = root_stays.1 ∙ s.pools.bare;
    next = destroyed_next c.conn ps ∙ s.pools.next;
    parts = part_then;
    covered = covered;
  })

pub closing_takes : ClosingTakesItsPool
closing_takes budget chain w k c chained r at = closed_tree chain w (tree_of w) k c (reached_stands budget chain w k c chained r at)

-- A connection is opened.
module _ (budget : ℕ) (chain : List Program) (w : World) (chained : IsChain chain) (r : IsReached budget chain w) where
  abbrev ps : Pools Payload
  ps = tree_of w

  pools : ArePoolsOf w ps
  pools = reached_tree budget chain w chained r

  abbrev fresh : Connection
  fresh = (opened chain w.common).1

  abbrev more : World
  more = put_conn (w.last + 1) (opened chain w.common) (record w { last = w.last + 1 })

  abbrev now : Pools Payload
  now = created w.common.root ps

  tops : (j : ℕ) (d : Connection) → w.conns j ≡ Some d → HasPart ps d.conn
  tops = (let l = laws budget chain w chained r in top_in chain w l.sound l.numbers l.paths (pools_apart budget chain w chained r))

  newer : w.common.root < ps.next
  newer = (let lt = (laws budget chain w chained r).sound.names.pools.0 in let same : ps.next ≡ w.common.pools = pools.next in omega (arith, same))

  its_conn : fresh.conn ≡ w.common.pools
  unfolding opened all_called
  its_conn = refl

  its_pools : (fresh.path ≡ (created {T = Payload} w.common.root (record (planted w.common.root) { next = w.common.pools })).path)
      × (fresh.payloads ≡ (created {T = Payload} w.common.root (record (planted w.common.root) { next = w.common.pools })).payloads)
  unfolding opened all_called
  its_pools = (refl, refl)

  planted_part : part w.common.pools now ≡ created w.common.root (record (planted w.common.root) { next = w.common.pools })
  planted_part = subst (λ (n : ℕ). part n now ≡ created w.common.root (record (planted w.common.root) { next = n })) pools.next (new_planted w.common.root ps pools.formed pools.root pools.bare)

  fresh_part : HasItsPart now fresh
  fresh_part = record {
    path = its_pools.0 ∙ sym (ap (λ (qs : Pools Payload). qs.path) planted_part) ∙ ap (λ (n : ℕ). (part n now).path) (sym its_conn);
    payloads = its_pools.1 ∙ sym (ap (λ (qs : Pools Payload). qs.payloads) planted_part) ∙ ap (λ (n : ℕ). (part n now).payloads) (sym its_conn);
  }

  old_part : (j : ℕ) (d : Connection) → w.conns j ≡ Some d → HasItsPart now d
  old_part j d at =
      let still = new_spares d.conn w.common.root ps (tops j d at) pools.root in
      let old = pools.parts j d at in
      record { path = old.path ∙ sym (ap (λ (qs : Pools Payload). qs.path) still); payloads = old.payloads ∙ sym (ap (λ (qs : Pools Payload). qs.payloads) still) }

  parts_then : (j : ℕ) (d : Connection) → more.conns j ≡ Some d → HasItsPart now d
  parts_then j d at = elim (upd_either w.conns (w.last + 1) j (Some fresh)) [
    | inl here ↦ subst (HasItsPart now) (same_Some fresh d (sym here.1 ∙ at)) fresh_part
    | inr off ↦ old_part j d (sym off.1 ∙ at)
  ]

  mine : (n : ℕ) → n ≡ ps.next → StandsWith more now n
  unfolding is_under
  mine n is = record {
    number = w.last;
    conn = fresh;
    given = omega arith;
    there = ap (upd w.conns (w.last + 1) (Some fresh)) (sym one_more) ∙ upd_at w.conns (w.last + 1) (Some fresh);
    under = ap (λ (m : ℕ). is_in m (now.path n)) (its_conn ∙ sym pools.next) ∙ ap (is_in ps.next) (ap now.path is ∙ created_at w.common.root ps)
        ∙ or_left (ps.next == ps.next) (is_in ps.next (ps.path w.common.root)) (eq-eqb ps.next ps.next refl);
  } where
    one_more : w.last + 1 ≡ suc w.last
    one_more = omega arith

  still_another : (n : ℕ) → now.path n ≡ ps.path n → StandsWith w ps n → StandsWith more now n
  unfolding is_under
  still_another n same o = record {
    number = o.number;
    conn = o.conn;
    given = (let lt = o.given in omega arith);
    there = upd_off w.conns (w.last + 1) (suc o.number) (Some fresh) (λ is. (let lt = o.given in absurd (omega (arith, is)))) ∙ o.there;
    under = ap (is_in o.conn.conn) same ∙ o.under;
  }

  covered_then : (n : ℕ) → is_live now n ≡ true → n ≢ w.common.root → StandsWith more now n
  unfolding is_live created
  covered_then n live other = elim (upd_either ps.path ps.next n (ps.next ∷ ps.path w.common.root)) [
    | inl here ↦ mine n here.0
    | inr off ↦ still_another n off.1 (pools.covered n (ap (λ (path : List ℕ). not (is_empty path)) (sym off.1) ∙ live) other)
  ]

  next_then : now.next ≡ more.common.pools
  unfolding opened all_called created
  next_then = ap (λ (n : ℕ). n + 1) pools.next

  opened_tree : tree_of (put_conn (w.last + 1) (opened chain w.common) (record w { last = w.last + 1 })) ≡ created w.common.root (tree_of w)
  unfolding opened all_called
  opened_tree = parts_whole more now (record {
    formed = created_formed w.common.root ps (path_live ps w.common.root w.common.root [] pools.root) pools.formed;
    root = created_kept w.common.root ps w.common.root newer ∙ pools.root;
    bare = created_bare w.common.root w.common.root ps newer pools.bare;
    next = next_then;
    parts = parts_then;
    covered = covered_then;
  })

pub opening_plants : OpeningPlantsAPool
opening_plants budget chain w chained r = opened_tree budget chain w chained r
