-- What is true of a connection in every run is true of it over the pools of all.
use Rattle.std.proofs.Common.{◌≡◌, ◌∷◌, ℕ, Bool, true, false, not, List, [], Option, Some, None, refl, sym, ap, ◌∙◌}
use Rattle.module_code.specs.Program.{Program}
use Rattle.run_model.specs.declared.payload.Payload.{Payload}
use Rattle.model_laws.specs.AsDeclared.{AsDeclared}
use Rattle.run_model.specs.Pools.{Pools, is_empty, is_live, is_under}
use Rattle.run_model.specs.Faults.{is_live_named}
use Rattle.run_model.specs.State.{fresh_call, named_at}
use Rattle.run_model.specs.Sound.{SoundPools}
use Rattle.run_model.specs.Chains.{Frame, Connection, Common, configuration, module_at, pools_of}
use Rattle.model_laws.specs.ChainSound.{ChainPools, count_in}
use Rattle.model_laws.specs.Parts.{part, HasPart, belongs}
use Rattle.model_laws.proofs.parts.Paths.{part_off, part_path, part_under, under_belongs}
use Rattle.model_laws.specs.SharedPools.{LiesOver, SoundOver, over}

module _ (chain : List Program) (ps : Pools Payload) (g : Common) (c : Connection) (l : LiesOver ps g c) (s : ChainPools chain g c) where
  whole : pools_of g (over ps c) ≡ ps
  whole = ap (λ (n : ℕ). put n) (sym l.next) where
    put : ℕ → Pools Payload
    put n = record ps { next = n }

  path_in : (n : ℕ) → c.path n ≡ (part c.conn ps).path n
  path_in n = ap (λ (p : ℕ → List ℕ). p n) l.part.path

  -- a path of the part is that of the whole
  same_path : (n m : ℕ) (above : List ℕ) → c.path n ≡ m ∷ above → ps.path n ≡ m ∷ above
  same_path n m above is = by_test (belongs c.conn (ps.path n)) refl where
    by_test : (t : Bool) → belongs c.conn (ps.path n) ≡ t → ps.path n ≡ m ∷ above
    by_test true here = sym (part_path ps c.conn n here) ∙ (sym (path_in n) ∙ is)
    by_test false off = absurd (let none : [] ≡ m ∷ above = sym (part_off ps c.conn n off).0 ∙ (sym (path_in n) ∙ is) in cc)

  lives : (n : ℕ) → is_live (pools_of g c) n ≡ true → is_live (pools_of g (over ps c)) n ≡ true
  unfolding is_live
  lives n live = by_path (c.path n) refl live where
    by_path : (xs : List ℕ) → c.path n ≡ xs → not (is_empty xs) ≡ true → not (is_empty (ps.path n)) ≡ true
    by_path [] is live = absurd (cc)
    by_path (m ∷ above) is live = ap (λ (xs : List ℕ). not (is_empty xs)) (same_path n m above is)

  -- a pool under the connection's is one of the part
  path_under : (n : ℕ) → is_under (pools_of g (over ps c)) c.conn n ≡ true → c.path n ≡ ps.path n
  unfolding is_under
  path_under n under = path_in n ∙ part_path ps c.conn n (under_belongs ps c.conn n under)

  live_under : (n : ℕ) → is_under (pools_of g (over ps c)) c.conn n ≡ true → is_live (pools_of g (over ps c)) n ≡ true → is_live (pools_of g c) n ≡ true
  unfolding is_live
  live_under n under live = ap (λ (xs : List ℕ). not (is_empty xs)) (path_under n under) ∙ live

  conn_path : c.path c.conn ≡ ps.path c.conn
  unfolding configuration
  conn_path = path_under c.conn (part_under (pools_of g (over ps c)) c.conn (has (record { of = 0; call = fresh_call 0; pc = 0 }))) where
    has : (f : Frame) → HasPart (pools_of g (over ps c)) c.conn
    has f = (l.lies f).has

  sound_pools : (f : Frame) → SoundPools (configuration g (over ps c) f)
  unfolding configuration
  sound_pools f = (let old = s.sound f in record {
    limit = old.limit;
    formed = (l.lies f).has.formed;
    conn = lives c.conn old.conn;
    req = λ n is. (let was = old.req n is in (same_path n n (c.path c.conn) was.0 ∙ ap (λ (xs : List ℕ). n ∷ xs) conn_path, was.1));
    own = old.own;
    brigades = λ b n is. lives n (old.brigades b n is);
  })

  named_lives : (o : Option ℕ) → is_live_named (pools_of g c) o ≡ true → is_live_named (pools_of g (over ps c)) o ≡ true
  named_lives None live = absurd (cc)
  named_lives (Some n) live = lives n live

  declared : (f : Frame) → AsDeclared (module_at chain f.of) (configuration g (over ps c) f)
  unfolding configuration named_at is_live
  declared f = (let old = s.declared f in record {
    pools = λ q n is live. (let under = (l.lies f).own q n is live in
        let was = old.pools q n is (live_under n under live) in
        (was.0, was.1, lives was.0 was.2, same_path n n (c.path was.0) was.3 ∙ ap (λ (xs : List ℕ). n ∷ xs) (parent_path was.0 was.2)));
    apart = old.apart;
    slots = old.slots;
    brigades = λ b v own is. (let was = old.brigades b v own is in (was.0, named_lives v.on was.1));
    incoming = old.incoming;
  }) where
    parent_path : (m : ℕ) → is_live (pools_of g c) m ≡ true → c.path m ≡ ps.path m
    parent_path m live = by_path (c.path m) refl live where
      by_path : (xs : List ℕ) → c.path m ≡ xs → not (is_empty xs) ≡ true → c.path m ≡ ps.path m
      by_path [] is live = absurd (cc)
      by_path (k ∷ above) is live = is ∙ sym (same_path m k above is)

pub sound_over : SoundOver
unfolding configuration count_in
sound_over chain ps g c l s = record {
  names = (let n = s.names in record { once = n.once; fresh = n.fresh; own = n.own; incoming = n.incoming; given = n.given; limit = n.limit; slots = n.slots });
  buckets = record { brigades = s.buckets.brigades; loose = s.buckets.loose };
  pools = record { sound = sound_pools chain ps g c l s.pools; declared = declared chain ps g c l s.pools; apart = s.pools.apart };
  calls = (let k = s.calls in
      record { placed = k.placed; nested = k.nested; named = k.named; waiting = k.waiting; queue = k.queue; later = k.later; serving = k.serving; alone = k.alone; idle = k.idle });
}
