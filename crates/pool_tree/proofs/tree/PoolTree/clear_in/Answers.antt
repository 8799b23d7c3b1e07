use Rattle.std.proofs.Common.{◌≡◌, ◌∙◌, ◌&&◌, ◌==◌, ℕ, Bool, false, not, refl, sym, ap, arith, length, reverse}
use Rattle.std.specs.List.{flat_map}
use Rattle.std.proofs.lemmas.Bool.{eq-eqb}
use Rattle.std.proofs.lemmas.List.{length-append, append_assoc}
use Rattle.run_model.specs.declared.effect.CleanupKind.TheVariants.{Plain, Pre}
use Rattle.run_model.specs.Pools.{is_under}
use Rattle.pool_tree.specs.Records.{record_of}
use Rattle.pool_tree.specs.Handed.{own_of}
use Rattle.pool_tree.specs.Tree.{map_of}
use Rattle.pool_tree.proofs.Cleared.{cleared_linked, cleared_map}
use Rattle.pool_tree.proofs.Emptied.{cleared_by, own_kept, bare_mid}
use Rattle.pool_tree.proofs.Handing.{own_same, none_clash}
use Rattle.pool_tree.proofs.Rooms.{and_none, found_once, left_mid, not_found, run_parts, run_by_records}
use Rattle.pool_tree.proofs.Trees.{tree_live}
use Rattle.pool_tree.proofs.tree.PoolTree.clear_in.Goals as goal

pub take_turn-requires : goal.take_turn-requires
take_turn-requires g c =
    omega (
      arith,
      run_parts c.args.self.now c.args.pool c.args.room.found.items c.requires.live c.requires.room.under,
      c.requires.room.fits,
      c.args.room.ran.ok.0,
      ap length c.requires.room.empty,
    )

pub take_turns-requires-clause-once : goal.take_turns-requires-clause-once
take_turns-requires-clause-once g c = found_once c.args.self.now c.args.pool c.args.room.found.items c.requires.live c.requires.room.under

pub take_turns-requires-clause-room : goal.take_turns-requires-clause-room
take_turns-requires-clause-room g c =
    let turns = c.args.room.found.items in
    let same = own_same (record_of c.args.self.now.records) (record_of c.take_turn.new.records) (c.args.pool, Pre) c.take_turn.ensures.rest (reverse turns)
    (none_clash (c.args.pool, Pre) (reverse turns) (not_found c.args.self.now c.args.pool turns c.requires.live c.requires.room.under)) in
    let lengths = simp length-append at (ap length c.take_turn.ensures.items) in
    rw same (omega (
      arith,
      lengths,
      run_parts c.args.self.now c.args.pool turns c.requires.live c.requires.room.under,
      c.take_turn.new.ran.ok.0,
      c.take_turn.ensures.room,
      c.requires.room.fits,
      c.args.room.ran.ok.0,
      ap length c.requires.room.empty,
    ))

pub empty_pool-requires : goal.empty_pool-requires
empty_pool-requires g c =
    let turns = c.args.room.found.items in
    let pool = c.args.pool in
    let mid = left_mid c.args.self.now pool turns c.requires.live c.requires.room.under (record_of c.take_turn.new.records) (record_of c.take_turns.new.records) c.take_turn.ensures.rest c.take_turns.ensures.rest in
    let goes : ℕ → Bool = λ n. is_under (map_of c.args.self.now) pool n && not (n == pool) in
    let stays : (is_under (map_of c.args.self.now) pool pool && not (pool == pool)) ≡ false = rw (eq-eqb pool pool refl) (and_none (is_under (map_of c.args.self.now) pool pool)) in
    let kept = own_kept pool goes (record_of c.args.self.now.records) (record_of c.take_turns.new.records) mid stays in
    let same = own_same (record_of c.args.self.now.records) (record_of c.take_turn.new.records) (pool, Pre) c.take_turn.ensures.rest (reverse turns)
    (none_clash (pool, Pre) (reverse turns) (not_found c.args.self.now pool turns c.requires.live c.requires.room.under)) in
    let lengths = simp length-append at (ap length c.take_turn.ensures.items) in
    let more = simp length-append at (ap length c.take_turns.ensures.items) in
    record {
      room = rw kept (omega (
        arith,
        lengths,
        more,
        ap length same,
        run_parts c.args.self.now pool turns c.requires.live c.requires.room.under,
        c.take_turns.new.ran.ok.0,
        c.take_turn.new.ran.ok.0,
        c.take_turn.ensures.room,
        c.take_turns.ensures.room,
        c.requires.room.fits,
        ap length c.requires.room.empty,
      ));
      bare = bare_mid pool goes (record_of c.args.self.now.records) (record_of c.take_turns.new.records) mid stays;
    }

pub invariant_of-self : goal.invariant_of-self
unfolding map_of
invariant_of-self g c =
    let goes : ℕ → Bool = λ n. is_under (map_of c.args.self.now) c.args.pool n && not (n == c.args.pool) in
    record {
      linked = cleared_linked c.args.self.now.root c.args.self.now.next c.args.pool goes (record_of c.args.self.now.records) (record_of c.empty_pool.new.records)
          c.args.self.now.linked (sym (tree_live c.args.self.now c.args.pool) ∙ c.requires.live)
          (λ n. refl)
          (cleared_by c.args.pool goes (record_of c.args.self.now.records) (record_of c.take_turns.new.records) (record_of c.empty_pool.new.records)
          (left_mid c.args.self.now c.args.pool c.args.room.found.items c.requires.live c.requires.room.under (record_of c.take_turn.new.records) (record_of c.take_turns.new.records) c.take_turn.ensures.rest c.take_turns.ensures.rest)
          c.empty_pool.ensures.rest);
    }

pub returns-clause-ok : goal.returns-clause-ok
unfolding map_of
returns-clause-ok g c =
    let goes : ℕ → Bool = λ n. is_under (map_of c.args.self.now) c.args.pool n && not (n == c.args.pool) in
    cleared_map c.args.self.now.root c.args.self.now.next c.args.pool goes (record_of c.args.self.now.records) (record_of c.empty_pool.new.records)
    c.args.self.now.linked (sym (tree_live c.args.self.now c.args.pool) ∙ c.requires.live)
    (λ n. refl)
    (cleared_by c.args.pool goes (record_of c.args.self.now.records) (record_of c.take_turns.new.records) (record_of c.empty_pool.new.records)
    (left_mid c.args.self.now c.args.pool c.args.room.found.items c.requires.live c.requires.room.under (record_of c.take_turn.new.records) (record_of c.take_turns.new.records) c.take_turn.ensures.rest c.take_turns.ensures.rest)
    c.empty_pool.ensures.rest)

pub returns-clause-ran : goal.returns-clause-ran
returns-clause-ran g c =
    let turns = c.args.room.found.items in
    let pool = c.args.pool in
    let records = record_of c.args.self.now.records in
    let mid = left_mid c.args.self.now pool turns c.requires.live c.requires.room.under (record_of c.take_turn.new.records) (record_of c.take_turns.new.records) c.take_turn.ensures.rest c.take_turns.ensures.rest in
    let goes : ℕ → Bool = λ n. is_under (map_of c.args.self.now) pool n && not (n == pool) in
    let stays : (is_under (map_of c.args.self.now) pool pool && not (pool == pool)) ≡ false = rw (eq-eqb pool pool refl) (and_none (is_under (map_of c.args.self.now) pool pool)) in
    let kept = own_kept pool goes records (record_of c.take_turns.new.records) mid stays in
    let same = own_same records (record_of c.take_turn.new.records) (pool, Pre) c.take_turn.ensures.rest (reverse turns)
    (none_clash (pool, Pre) (reverse turns) (not_found c.args.self.now pool turns c.requires.live c.requires.room.under)) in
    rw (c.empty_pool.ensures.items, c.take_turns.ensures.items, c.take_turn.ensures.items, kept, same, c.requires.room.empty)
    (append_assoc (own_of records (pool, Pre)) (flat_map (own_of records) (reverse turns)) (own_of records (pool, Plain)) ∙ sym (run_by_records c.args.self.now pool turns c.requires.live c.requires.room.under))
