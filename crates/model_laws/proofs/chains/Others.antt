-- An event of one connection leaves every other as it was.
use Rattle.std.proofs.Common.{◌≡◌, ◌≢◌, ℕ, ◌+◌, Bool, true, false, List, [], Option, Some, None, Result, Ok, Err, refl}
use Rattle.module_code.specs.Program.{Program}
use Rattle.run_model.specs.declared.event.Event.{Event}
use Rattle.run_model.specs.declared.event.Event.TheVariants as event
use Rattle.run_model.specs.declared.event.Refusal.{Refusal}
use Rattle.run_model.specs.declared.event.Stepped.{Stepped}
use Rattle.run_model.specs.Chains.{Connection, Linked}
use Rattle.run_model.specs.Turns.{steps, opened, begins, opens_file, brings, ends}
use Rattle.run_model.specs.Worlds.{World, Told, put_conn, answered, file_answered, step_answered, closes, opens_if, opens, adds_file, happens_on}
use Rattle.model_laws.specs.ChainLaws.{OthersStay, OpeningStays}
use Rattle.run_model.proofs.Updates.{upd_off}

module _ (k j : ℕ) (differ : j ≢ k) (w : World) where
  put_elsewhere : (v : Linked) → (put_conn k v w).conns j ≡ w.conns j
  put_elsewhere v = upd_off w.conns k j (Some v.1) differ

  answered_elsewhere : (a : Option Refusal × Linked) → (answered k w a).1.conns j ≡ w.conns j
  answered_elsewhere (None, v) = put_elsewhere v
  answered_elsewhere (Some r, v) = refl

  opened_elsewhere : (a : Result (ℕ × ℕ) Refusal × Linked) → (file_answered k w a).1.conns j ≡ w.conns j
  opened_elsewhere (Ok f, v) = put_elsewhere v
  opened_elsewhere (Err r, v) = refl

  stepped_elsewhere : (a : Result Stepped Refusal × Linked) → (step_answered k w a).1.conns j ≡ w.conns j
  stepped_elsewhere (Ok s, v) = put_elsewhere v
  stepped_elsewhere (Err r, v) = put_elsewhere v

  closed_elsewhere : (memory : Bool) (c : Connection) → (closes memory k c w).1.conns j ≡ w.conns j
  closed_elsewhere true c = upd_off w.conns k j None differ
  closed_elsewhere false c = refl

  added_elsewhere : (memory : Bool) → (adds_file memory w).1.conns j ≡ w.conns j
  added_elsewhere true = refl
  added_elsewhere false = refl

  happens_elsewhere : (memory : Bool) (budget : ℕ) (chain : List Program) (told : Told) (e : Event) (c : Option Connection) → e ≢ event.Open
      → (happens_on memory budget chain told e k c w).1.conns j ≡ w.conns j
  unfolding happens_on
  happens_elsewhere memory budget chain told event.Open c not_open = absurd (not_open refl)
  happens_elsewhere memory budget chain told (event.AddFile name bytes) c not_open = added_elsewhere memory
  happens_elsewhere memory budget chain told event.TellPools c not_open = refl
  happens_elsewhere memory budget chain told (event.OpenFile name) (Some c) not_open = opened_elsewhere (opens_file memory told.opening (w.common, c))
  happens_elsewhere memory budget chain told event.Begin (Some c) not_open = answered_elsewhere (begins memory chain (w.common, c))
  happens_elsewhere memory budget chain told (event.Bring pieces) (Some c) not_open = answered_elsewhere (brings memory chain pieces (w.common, c))
  happens_elsewhere memory budget chain told event.Step (Some c) not_open = stepped_elsewhere (steps memory budget chain told.reads (w.common, c))
  happens_elsewhere memory budget chain told event.End (Some c) not_open = answered_elsewhere (ends memory (w.common, c))
  happens_elsewhere memory budget chain told event.TakeOutput (Some c) not_open = put_elsewhere (w.common, record c { out = record c.out { bytes = [] } })
  happens_elsewhere memory budget chain told event.TellLabels (Some c) not_open = refl
  happens_elsewhere memory budget chain told event.Close (Some c) not_open = closed_elsewhere memory c
  happens_elsewhere memory budget chain told e None not_open = refl

pub others_stay : OthersStay
others_stay memory budget chain told k j e w not_open differ = happens_elsewhere k j differ w memory budget chain told e (w.conns k) not_open

opened_stays : (o : Option Refusal) (chain : List Program) (j : ℕ) (w : World) → j ≢ w.last + 1 → (opens_if o chain w).1.conns j ≡ w.conns j
opened_stays (Some r) chain j w differ = refl
opened_stays None chain j w differ = upd_off w.conns (w.last + 1) j (Some (opened chain w.common).1) differ

pub opening_stays : OpeningStays
unfolding happens_on opens
opening_stays memory budget chain told k j w differ = opened_stays _ chain j w differ
