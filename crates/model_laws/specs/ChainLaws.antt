-- Laws of chains and worlds: each step and each event keeps what is sound, and leaves other connections as they were.
use Rattle.std.specs.Prelude.{◌≡◌, ◌≢◌, ℕ, ◌+◌, ◌^◌, ◌<◌, ◌≤◌, Bool, false, List, ◌∷◌, None}
use Rattle.module_code.specs.Program.{Program}
use Rattle.run_model.specs.declared.event.Event.{Event}
use Rattle.run_model.specs.declared.event.Event.TheVariants as event
use Rattle.run_model.specs.Faults.{fault}
use Rattle.run_model.specs.Steps.{current, lacks_names, is_spent}
use Rattle.run_model.specs.Chains.{Frame, Connection, Common, Linked, module_at, configuration, IsChain, is_last}
use Rattle.run_model.specs.Passing.{Reads, proceeds}
use Rattle.run_model.specs.Turns.{calls_of}
use Rattle.run_model.specs.Worlds.{World, Told, Answer, happens, IsWholeRun}
use Rattle.model_laws.specs.ChainSound.{ChainNames, ChainBuckets, ChainPools, ChainCalls, ChainSound, WorldSound}

-- the call on top is at an instruction that has no fault, and the names that it gives out are there
pub record MayProceed (chain : List Program) (g : Common) (c : Connection) (f : Frame) (rest : List Frame) : Type 0 where
  pub chained : IsChain chain
  pub on_top : c.stack ≡ f ∷ rest
  pub faultless : fault (module_at chain f.of) (configuration g c f) (current (module_at chain f.of) f.pc) ≡ None
  pub names_last : lacks_names (configuration g c f) (current (module_at chain f.of) f.pc) ≡ false
  pub calls_last : is_spent g.next (calls_of (is_last chain c f.of) (current (module_at chain f.of) f.pc) rest c.queue) ≡ false

-- what that instruction leaves
abbrev pub after_top : List Program → Reads → Common → Connection → Frame → List Frame → Linked
after_top chain reads g c f rest = (proceeds chain reads (current (module_at chain f.of) f.pc) f rest (g, c)).1

-- what others do to what is shared: names rise, and stay below 2^64, and the root is the same
pub record Rises (g new : Common) : Type 0 where
  pub next : g.next ≤ new.next
  pub next_limit : new.next < 2 ^ 64
  pub pools : g.pools ≤ new.pools
  pub pools_limit : new.pools < 2 ^ 64
  pub root : new.root ≡ g.root

-- What the instruction of the call on top leaves of a sound connection.
abbrev pub TopLeaves : (List Program → Common → Linked → Type 0) → Type 0
TopLeaves Q =
    (chain : List Program) (reads : Reads) (g : Common) (c : Connection) (f : Frame)
    (rest : List Frame) → MayProceed chain g c f rest → ChainSound chain g c → Q chain g (after_top chain reads g c f rest)

-- It keeps what is sound, and names rise.
abbrev pub TopKeepsNames : Type 0
TopKeepsNames = TopLeaves (λ chain g v. ChainNames chain v.0 v.1)

abbrev pub TopKeepsBuckets : Type 0
TopKeepsBuckets = TopLeaves (λ chain g v. ChainBuckets v.1)

abbrev pub TopKeepsPools : Type 0
TopKeepsPools = TopLeaves (λ chain g v. ChainPools chain v.0 v.1)

abbrev pub TopKeepsCalls : Type 0
TopKeepsCalls = TopLeaves (λ chain g v. ChainCalls chain v.0 v.1)

abbrev pub TopRaisesNames : Type 0
TopRaisesNames = TopLeaves (λ chain g v. Rises g v.0)

-- names that others take change nothing
abbrev pub RisingKeepsSound : Type 0
RisingKeepsSound = (chain : List Program) (g new : Common) (c : Connection) → Rises g new → ChainSound chain g c → ChainSound chain new c

-- Each event keeps each connection sound, and so each whole run leads to a sound one.
abbrev pub EventKeepsWorld : Type 0
EventKeepsWorld = (memory : Bool) (budget : ℕ) (chain : List Program) (told : Told) (k : ℕ) (e : Event) (w : World) → IsChain chain → WorldSound chain w
    → WorldSound chain (happens memory budget chain told k e w).1

abbrev pub RunKeepsWorld : Type 0
RunKeepsWorld = (budget : ℕ) (chain : List Program) (es : List (ℕ × Event)) (answers : List Answer) (w : World) → IsChain chain → IsWholeRun budget chain es answers w → WorldSound chain w

-- An event of one connection leaves every other exactly as it was.
abbrev pub OthersStay : Type 0
OthersStay = (memory : Bool) (budget : ℕ) (chain : List Program) (told : Told) (k j : ℕ) (e : Event) (w : World) → e ≢ event.Open → j ≢ k
    → (happens memory budget chain told k e w).1.conns j ≡ w.conns j

-- An opening leaves all that were there, but that of the number which it gives out.
abbrev pub OpeningStays : Type 0
OpeningStays = (memory : Bool) (budget : ℕ) (chain : List Program) (told : Told) (k j : ℕ) (w : World) → j ≢ w.last + 1 → (happens memory budget chain told k event.Open w).1.conns j ≡ w.conns j
