-- How a connection that is there serves the opening of a file.
use Rattle.std.proofs.Common.{◌≡◌, ℕ, List, Option, Some, None, Result, Ok, Err, refl, sym, ◌∙◌, ap}
use Rattle.module_code.specs.Program.{Program}
use Rattle.run_model.specs.declared.event.Event.TheVariants as event
use Rattle.run_model.specs.declared.event.Refusal.{Refusal}
use Rattle.run_model.specs.declared.event.Refusal.TheVariants as refusal
use Rattle.run_model.specs.Chains.{Connection, Linked}
use Rattle.model_laws.specs.ChainFiles.{TellsLengths, IsShortLength}
use Rattle.run_model.specs.Turns.{Opening, Found, Missing, Failing, opens_file}
use Rattle.run_model.specs.Turns as turns
use Rattle.run_model.specs.Worlds.{World, Refused, put_conn, happens_on, file_answered}
use Rattle.model_laws.proofs.chains.EventTurns.{OpensAs, opens_file_turn}
use Rattle.bucket_kinds.specs.Device.{Device}
use Rattle.module_run.specs.Happened.{lasted, refusal_of}
use Rattle.module_run.specs.OpenedFile.{IsAfterOpening, TellsShort, WasOpened}
use Rattle.bucket_ring.specs.declared.rings.Rings.{Ghosts}
use Rattle.run_model.specs.declared.payload.Payload.{Payload}
use Rattle.model_laws.specs.PartSteps.{linked_in_part}
use Rattle.model_laws.specs.SharedPools.{over}
use Rattle.model_laws.proofs.chains.LeftTree.{TreeStands}
use Rattle.model_laws.proofs.parts.Seen.{opens_file_in_part}
use Rattle.pool_tree.specs.declared.tree.PoolTree.{PoolTree}
use Rattle.pool_tree.specs.Tree.{map_of}
use Rattle.bucket_kinds.specs.declared.stored.Stored.{Stored}
use Rattle.brigade_ops.specs.declared.store.Brigades.{Brigades}
use Rattle.module_run.specs.declared.conn.Conn.{Conn}
use Rattle.module_run.proofs.FileOpens.{keeps_files}
use Rattle.filter_chain.specs.Hosting.{file_answer}
use Rattle.filter_chain.specs.HostViews.{TellsEvent, refusal_in}
use Rattle.filter_chain.proofs.HostEvents.{OfAnyLength, Serves}
use Rattle.filter_chain.proofs.KnownEvents.{put_same}

-- What an opening answers, it answers of the world; what is refused changes nothing.
opening_told : (k : ℕ) (w : World) (c : Connection) → w.conns k ≡ Some c → (o : Option Refusal) (req : Option ℕ) (opening : Opening)
    → file_answered k w (turns.file_answer o req opening (w.common, c))
    ≡ (file_answer (turns.file_answer o req opening (w.common, c)).0, put_conn k (turns.file_answer o req opening (w.common, c)).1 w)
opening_told k w c here (Some r) req opening = ap (λ (x : World). (Refused r, x)) (sym (put_same k w c here))
opening_told k w c here None None opening = ap (λ (x : World). (Refused refusal.NotInRequest, x)) (sym (put_same k w c here))
opening_told k w c here None (Some req) Missing = ap (λ (x : World). (Refused refusal.NoFile, x)) (sym (put_same k w c here))
opening_told k w c here None (Some req) Failing = ap (λ (x : World). (Refused refusal.FileFailed, x)) (sym (put_same k w c here))
opening_told k w c here None (Some req) (Found skipped bytes) = refl

any_length : (answer : Result (ℕ × ℕ) Refusal) → OpensAs OfAnyLength answer
any_length (Ok file) = tt
any_length (Err r) = tt

short_file : (answer : Result (ℕ × ℕ) Refusal) → TellsShort answer → TellsLengths IsShortLength (file_answer answer)
short_file (Ok file) short = short
short_file (Err r) short = tt

after_answer : (name : List ℕ) (answer : Result (ℕ × ℕ) Refusal) (d e : Device) → IsAfterOpening name (refusal_of answer) d e → IsAfterOpening name (refusal_in (file_answer answer)) d e
after_answer name (Ok file) d e after = after
after_answer name (Err r) d e after = after

pub opens_serves : {R : Type 0} {g : Ghosts R Stored} {budget : ℕ} {chain : List Program} {d e : Device} {w : World} {tree : PoolTree Payload} {number : ℕ} {c : Connection}
    → TreeStands chain w (map_of tree) number c
    → {newer : PoolTree Payload} {store : Brigades R g} {conn : Conn} {name : List ℕ} {answer : Result (ℕ × ℕ) Refusal}
    → WasOpened chain newer store d e conn name answer (w.common, over (map_of tree) c) → Serves budget chain d e w tree number c (event.OpenFile name) (file_answer answer) newer store conn
unfolding happens_on opens_file TellsEvent
opens_serves {chain = chain} {d = d} {e = e} {w = w} {tree = tree} {number = number} {c = c} s {name = name} {answer = answer} st =
    let all = opens_file (lasted answer) st.opening (w.common, over (map_of tree) c) in
    let kept = keeps_files name d e (refusal_of answer) st.after in
    record {
      memory = lasted answer;
      told = record { reads = λ k. None; opening = st.opening };
      all = all.1;
      is = opening_told number w c s.here _ c.req st.opening
          ∙ ap (λ (a : Result (ℕ × ℕ) Refusal × Linked). (file_answer a.0, put_conn number a.1 w)) (opens_file_in_part (lasted answer) st.opening (map_of tree) w.common c s.lies)
          ∙ ap (λ (r : Result (ℕ × ℕ) Refusal). (file_answer r, put_conn number (linked_in_part c.conn all.1) w)) st.happened.answers;
      tells = (st.told, after_answer name answer d e st.after);
      closes = tt;
      short = short_file answer st.short;
      turn = opens_file_turn chain OfAnyLength w.common (over (map_of tree) c) (lasted answer) st.opening (any_length all.0);
      left = st.happened.left;
      files = st.numbers;
      spared = record { rises = kept.rises; folder = kept.folder; sound = kept.sound; others = λ file old none. kept.others file old };
    }
