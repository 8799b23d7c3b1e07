-- What is true of each connection, through an event of one of them.
use Rattle.std.proofs.Common.{◌≡◌, ℕ, ◌+◌, Bool, List, Some, Result, Ok, Err, inl, inr, sym, ◌∙◌, subst}
use Rattle.std.proofs.lemmas.Option.{same_Some}
use Rattle.module_code.specs.Program.{Program}
use Rattle.run_model.specs.declared.event.Event.{Event}
use Rattle.run_model.specs.declared.event.Refusal.{Refusal}
use Rattle.run_model.specs.Chains.{Connection, Common, Linked, IsChain}
use Rattle.run_model.specs.Turns.{Opening, opened, opens_file}
use Rattle.run_model.specs.Worlds.{World, Told, put_conn, happens}
use Rattle.run_model.proofs.Updates.{upd_either}
use Rattle.model_laws.proofs.chains.EventCases.{Made, turn_made, stays_there, event_cases}
use Rattle.model_laws.proofs.chains.EventTurns.{EventTurn, OpensAs, opens_file_turn}
use Rattle.model_laws.proofs.chains.WorldKept.{AnyLength}

-- any file may be opened
pub any_opens : (a : Result (ℕ × ℕ) Refusal) → OpensAs AnyLength a
any_opens (Ok f) = tt
any_opens (Err r) = tt

pub opening_turn : (chain : List Program) (g : Common) (c : Connection) (memory : Bool) (opening : Opening) → EventTurn chain AnyLength g c (opens_file memory opening (g, c)).1
opening_turn chain g c memory opening = opens_file_turn chain AnyLength g c memory opening (any_opens _)

-- each event makes a turn of its connection
pub made_turn : (memory : Bool) (budget : ℕ) (chain : List Program) (told : Told) (g : Common) (c : Connection) (e : Event) (v : Linked) → IsChain chain → Made memory budget chain told g c e v
    → EventTurn chain AnyLength g c v
made_turn memory budget chain told g c e v chained made = turn_made AnyLength memory budget chain told g c e v chained (λ name is. any_opens _) made

abbrev pub EachOf : (Common → Connection → Type 0) → World → Type 0
EachOf P w = (k : ℕ) (c : Connection) → w.conns k ≡ Some c → P w.common c

-- What is to be known of an event. made, opening: it is true of the connection that it changes or opens. beside, unopened: and goes on to
-- be true of others.
pub record KeepsEach (P : Common → Connection → Type 0) (memory : Bool) (budget : ℕ) (chain : List Program) (told : Told) (w : World) (e : Event) : Type 0 where
  pub made : (k : ℕ) (c : Connection) (v : Linked) → w.conns k ≡ Some c → Made memory budget chain told w.common c e v → P v.0 v.1
  pub opening : P (opened chain w.common).0 (opened chain w.common).1
  pub beside : (c : Connection) (v : Linked) → Made memory budget chain told w.common c e v → (x : Connection) → P w.common x → P v.0 x
  pub unopened : (x : Connection) → P w.common x → P (opened chain w.common).0 x

module _ (P : Common → Connection → Type 0) where
  put_each : (k : ℕ) (v : Linked) (w : World) → P v.0 v.1 → ((x : Connection) → P w.common x → P v.0 x) → EachOf P w → EachOf P (put_conn k v w)
  put_each k v w new beside h j c e = elim (upd_either w.conns k j (Some v.1)) [
    | inl at ↦ subst (P v.0) (same_Some v.1 c (sym at.1 ∙ e)) new
    | inr off ↦ beside c (h j c (sym off.1 ∙ e))
  ]

  pub event_each : (memory : Bool) (budget : ℕ) (chain : List Program) (told : Told) (w : World) → EachOf P w → (k : ℕ) (e : Event)
      → KeepsEach P memory budget chain told w e → EachOf P (happens memory budget chain told k e w).1
  event_each memory budget chain told w h k e keeps = event_cases (EachOf P) memory budget chain told k w h e (record {
    made = λ c v at made. put_each k v w (keeps.made k c v at made) (keeps.beside c v made) h;
    opening = λ last pools next. put_each (w.last + 1) (opened chain w.common) (record w { last = w.last + 1 }) keeps.opening keeps.unopened h;
    closing = λ c at. λ j x there. h j x (stays_there k w j x there);
  })
