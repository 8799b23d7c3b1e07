-- Events, and the names that others take, keep names single.
use Rattle.std.proofs.Common.{◌≡◌, ℕ, ◌+◌, ◌^◌, ◌<◌, ◌≤◌, List, [], length, Some, None, ◌⊎◌, inl, inr, refl, sym, ◌∙◌, ap, subst, arith}
use Rattle.module_code.specs.Program.{Program}
use Rattle.run_model.specs.declared.bucket.Brigade.{Brigade}
use Rattle.run_model.specs.declared.bucket.BrigadeVar.TheVariants as var
use Rattle.run_model.specs.declared.bucket.Mark.TheVariants.{Usable}
use Rattle.run_model.specs.declared.event.Piece.{Piece}
use Rattle.run_model.specs.declared.payload.Payload.{Payload}
use Rattle.run_model.specs.Indexed.{upd}
use Rattle.run_model.specs.Pools.{Pools, created, is_under}
use Rattle.run_model.specs.Clearing.{cleared_var, run_down}
use Rattle.run_model.specs.State.{Instance, items_of}
use Rattle.run_model.specs.State as state
use Rattle.run_model.specs.Pieces.{bucket_of, named_from}
use Rattle.run_model.specs.Sound.{sum_below, count_named, brigade_name}
use Rattle.run_model.specs.Chains.{Connection, Common, Linked, configuration, pools_of, touched_instance, places, place_from}
use Rattle.run_model.specs.Passing.{set_in}
use Rattle.run_model.specs.Turns.{all_called, with_pools, fresh_connection, opened, begun, brought_in, file_taken, request_over}
use Rattle.model_laws.specs.ChainSound.{count_at, count_loose, count_in, ChainNames}
use Rattle.run_model.proofs.Updates.{upd_either}
use Rattle.run_model.proofs.Sums.{all_none, sum_below_le, sum_below_upd, sum_written}
use Rattle.run_model.proofs.Names.{count_none, count_before, count_once, count_behind, cleared_fewer}
use Rattle.model_laws.proofs.chains.Apart.{some_is}
use Rattle.model_laws.proofs.chains.Modules.{first_in_places}
use Rattle.model_laws.proofs.chains.Names.{ChainNamesStep, chain_names_stay, carried_names, same_names, touched_at}
use Rattle.model_laws.proofs.chains.PassNames.{called_names}
use Rattle.model_laws.proofs.chains.TopNames.{NamesOf}

-- Names that others take change nothing.
pub rising_names : (chain : List Program) (g later : Common) (c : Connection) → g.next ≤ later.next → later.next < 2 ^ 64 → ChainNames chain g c → ChainNames chain later c
rising_names chain g later c rises limit s = record {
  once = s.once;
  fresh = λ n le. s.fresh n (omega arith);
  own = s.own;
  incoming = s.incoming;
  given = λ k b n h. (let lt : n < g.next = s.given k b n h in omega arith);
  limit = limit;
  slots = s.slots;
}

-- A connection is opened.

empty_counted : (chain : List Program) (g : Common) (n : ℕ) → count_in chain (fresh_connection g) n ≡ 0
unfolding count_in count_loose
empty_counted chain g n =
    let none : (k : ℕ) → k < places chain → count_at ((fresh_connection g).instances k) n ≡ 0 = λ k lt. all_none 9 (λ b. count_named n []) (λ b less. count_none n) in
    let all : sum_below (places chain) (λ k. count_at ((fresh_connection g).instances k) n) ≡ 0 = all_none (places chain) (λ k. count_at ((fresh_connection g).instances k) n) none in
    omega arith

empty_names : (chain : List Program) (g : Common) → g.next < 2 ^ 64 → ChainNames chain g (fresh_connection g)
empty_names chain g limit = record {
  once = λ n. (let none = empty_counted chain g n in omega arith);
  fresh = λ n le. empty_counted chain g n;
  own = λ j k b d n b_own d_own hb hd. absurd (cc);
  incoming = λ j k d n own came hd. absurd (cc);
  given = λ k b n h. absurd (cc);
  limit = limit;
  slots = λ k b le. refl;
}

-- other pools, and the handlers of all modules are called
all_called_names : (chain : List Program) (ps : Pools Payload) (g : Common) (c : Connection) → g.next + 1 < 2 ^ 64 → ChainNames chain g c → NamesOf chain (all_called chain (with_pools ps (g, c)))
unfolding all_called
all_called_names chain ps g c limit s =
    let v : Linked = with_pools ps (g, c) in
    called_names chain 0 _ v.0 (record v.1 { count = 0 }) limit (same_names chain v.0 c (record v.1 { count = 0 }) refl refl (rising_names chain g v.0 c (omega arith) (omega arith) s))

pub opened_names : (chain : List Program) (g : Common) → g.next + 1 < 2 ^ 64 → NamesOf chain (opened chain g)
unfolding opened
opened_names chain g limit = all_called_names chain (created g.root (pools_of g (fresh_connection g))) g (fresh_connection g) limit (empty_names chain g (omega arith))

-- A request begins.
pub begun_names : (chain : List Program) (g : Common) (c : Connection) → g.next + 1 < 2 ^ 64 → ChainNames chain g c → NamesOf chain (begun chain (g, c))
unfolding begun
begun_names chain g c limit s = all_called_names chain (created c.conn (pools_of g c)) g (record c { req = Some g.pools }) limit (same_names chain g c (record c { req = Some g.pools }) refl refl s)

-- A file is opened.
pub file_taken_names : (chain : List Program) (req file : ℕ) (bytes : List ℕ) (g : Common) (c : Connection) → ChainNames chain g c → NamesOf chain (file_taken req file bytes (g, c))
file_taken_names chain req file bytes g c s =
    let v : Linked = file_taken req file bytes (g, c) in
    same_names chain v.0 c v.1 refl refl (rising_names chain g v.0 c (omega arith) s.limit s)

-- A request ends.
pub request_over_names : (chain : List Program) (req : ℕ) (g : Common) (c : Connection) → ChainNames chain g c → NamesOf chain (request_over req (g, c))
unfolding configuration run_down state.with_pools count_in
request_over_names chain req g c s =
    let v : Linked = request_over req (g, c) in
    chain_names_stay chain g c v.0 v.1 (carried_names chain g c v.0 v.1 (λ k b. (cleared_fewer (is_under (pools_of g c) req) ((c.instances k).brigades b)).carried) fewer (omega arith) s.limit) s where
      fewer : (n : ℕ) → count_in chain (request_over req (g, c)).1 n ≤ count_in chain c n
      fewer n =
          let left : sum_below (places chain) (λ k. count_at (touched_instance (cleared_var (is_under (pools_of g c) req)) (c.instances k)) n) ≤ sum_below (places chain)
          (λ k. count_at (c.instances k) n) =
          sum_below_le (places chain) _ _ (λ k. touched_at (cleared_var (is_under (pools_of g c) req)) (cleared_fewer (is_under (pools_of g c) req)) (c.instances k) n) in
          omega arith

-- A brigade is brought.

module _ (chain : List Program) (pieces : List Piece) (req : ℕ) (g : Common) (c : Connection) (limit : g.next + (2 + length pieces) < 2 ^ 64) (s : ChainNames chain g c) where
  abbrev first : ℕ
  first = place_from chain c.instances 0

  abbrev in_brigade : Brigade
  in_brigade = record { name = g.next + 1; on = None; mark = Usable; items = named_from (bucket_of g.next req) (g.next + 2) pieces }

  abbrev new : ℕ → Instance
  new = upd c.instances first (set_in (var.Live in_brigade) (c.instances first))

  counted : (n : ℕ) → count_in chain (brought_in chain pieces req (g, c)).1 n ≤ count_in chain c n + count_named n in_brigade.items
  unfolding count_in count_loose
  counted n =
      let all : sum_below (places chain) (λ k. count_at (new k) n) + count_at (c.instances first) n ≡ sum_below (places chain) (λ k. count_at (c.instances k) n) + count_at
      (set_in (var.Live in_brigade) (c.instances first)) n =
      sum_below_upd (places chain) first c.instances (set_in (var.Live in_brigade) (c.instances first)) (λ x. count_at x n) (first_in_places chain c.instances) in
      let here : count_at (set_in (var.Live in_brigade) (c.instances first)) n ≤ count_at (c.instances first) n + count_named n in_brigade.items =
      sum_written 9 8 (c.instances first).brigades (var.Live in_brigade) (λ x. count_named n (items_of x)) in
      let none : count_named n [] ≡ 0 = count_none n in
      omega arith

  named : (k b n : ℕ) → brigade_name ((new k).brigades b) ≡ Some n → (brigade_name ((c.instances k).brigades b) ≡ Some n) ⊎ ((k ≡ first) × (b ≡ 8) × (g.next + 1 ≡ n))
  named k b n h = elim (upd_either c.instances first k (set_in (var.Live in_brigade) (c.instances first))) [
    | inl p ↦ elim (upd_either (c.instances first).brigades 8 b (var.Live in_brigade)) [
      | inl q ↦ inr (p.0, q.0, some_is (g.next + 1) n (subst (λ v. brigade_name v ≡ Some n) q.1 (subst (λ (x : Instance). brigade_name (x.brigades b) ≡ Some n) p.1 h)))
      | inr q ↦ inl (subst (λ (m : ℕ). brigade_name ((c.instances m).brigades b) ≡ Some n) (sym p.0)
          (subst (λ v. brigade_name v ≡ Some n) q.1 (subst (λ (x : Instance). brigade_name (x.brigades b) ≡ Some n) p.1 h)))
    ]
    | inr p ↦ inl (subst (λ (x : Instance). brigade_name (x.brigades b) ≡ Some n) p.1 h)
  ]

  null : (k b : ℕ) → 9 ≤ b → (c.instances k).brigades b ≡ var.Null → (new k).brigades b ≡ var.Null
  null k b le none = elim (upd_either c.instances first k (set_in (var.Live in_brigade) (c.instances first))) [
    | inl p ↦ ap (λ (x : Instance). x.brigades b) p.1 ∙ elim (upd_either (c.instances first).brigades 8 b (var.Live in_brigade)) [
      | inl q ↦ absurd (omega (arith, q.0, le))
      | inr q ↦ q.1 ∙ subst (λ (m : ℕ). (c.instances m).brigades b ≡ var.Null) p.0 none
    ]
    | inr p ↦ ap (λ (x : Instance). x.brigades b) p.1 ∙ none
  ]

  brought_step : ChainNamesStep chain g c (brought_in chain pieces req (g, c)).0 (brought_in chain pieces req (g, c)).1
  brought_step = record {
    rises = omega arith;
    limit = omega arith;
    old = λ n lt. (let more = counted n in let none : count_named n in_brigade.items ≡ 0 = count_before (bucket_of g.next req) n (g.next + 2) pieces (omega arith) in omega arith);
    born = λ n le none. (let more = counted n in let once : count_named n in_brigade.items ≤ 1 = count_once (bucket_of g.next req) n (g.next + 2) pieces in omega arith);
    fresh = λ n le none. (let more = counted n in let behind : count_named n in_brigade.items ≡ 0 = count_behind (bucket_of g.next req) n (g.next + 2) pieces le in omega arith);
    named = λ k b n h. elim (named k b n h) [
      | inl was ↦ inl was
      | inr here ↦ inr (omega (arith, here.2), omega (arith, here.2))
    ];
    apart = λ j k b d n hb hd. elim (named j b n hb) [
      | inl was ↦ inl was
      | inr one ↦ elim (named k d n hd) [
        | inl was ↦ inr (inl was)
        | inr second ↦ inr (inr (one.0 ∙ sym second.0, one.1 ∙ sym second.1))
      ]
    ];
    slots = null;
  }

  pub brought_in_names : NamesOf chain (brought_in chain pieces req (g, c))
  brought_in_names = chain_names_stay chain g c (brought_in chain pieces req (g, c)).0 (brought_in chain pieces req (g, c)).1 brought_step s
