-- Pieces that are made ready, one after another, and brought.
use Rattle.std.proofs.Common.{◌≡◌, ℕ, List, [], ◌∷◌, ◌++◌, Ok, Err, refl, ap, sym, subst, ◌∙◌}
use Rattle.module_code.specs.Program.{Program}
use Rattle.run_model.specs.declared.event.Event.TheVariants as event
use Rattle.run_model.specs.declared.event.Piece.{Piece}
use Rattle.run_model.specs.declared.event.Piece.TheVariants as piece
use Rattle.run_model.specs.declared.event.Refusal.{Refusal}
use Rattle.run_model.specs.Worlds.{World, Answer}
use Rattle.bucket_kinds.specs.declared.mem_files.MemFiles.{MemFiles}
use Rattle.filter_chain.specs.declared.host.Host.{Host}
use Rattle.filter_chain.specs.Hosting.{Ghosts, Stored, IsHosting, Happens, budget_of, chain_of}
use Rattle.filter_chain.specs.HostViews.{HostView, Answers, host_view}
use Rattle.script_text.specs.declared.command.Command.TheVariants as command
use Rattle.script_text.specs.declared.pieces.ScriptPiece.{ScriptPiece}
use Rattle.script_text.specs.declared.pieces.ScriptPiece.TheVariants as script_piece
use Rattle.script_text.specs.declared.reply.CommandReply.{CommandReply}
use Rattle.script_text.specs.declared.reply.CommandReply.TheVariants as reply
use Rattle.script_play.specs.Plays.{BringsPieces, AnswersCommand, RepliesTo, reply_of}
use Rattle.script_play.specs.Serving.{IsReadied, MakesReady}
use Rattle.script_play.specs.Sessions.{IsMemHostAlive, IsServed, device}

module _ (budget : ℕ) (chain : List Program) (number : ℕ) (ready : List Piece) where
  -- A piece that was made ready goes before the others.
  brings_on : (x : ScriptPiece) (xs : List ScriptPiece) (y : Piece) (s m t : HostView) (r : CommandReply) → IsReadied budget chain number x s (Ok y) m
      → BringsPieces budget chain number (ready ++ y ∷ []) xs m r t → BringsPieces budget chain number ready (x ∷ xs) s r t
  unfolding BringsPieces
  brings_on (script_piece.Ready z) xs y s m t r (is, same) rest =
      let made : y ≡ z = cc in
      subst (λ (v : Piece). BringsPieces budget chain number (ready ++ v ∷ []) xs s r t) made (subst (λ (a : HostView). BringsPieces budget chain number (ready ++ y ∷ []) xs a r t) same rest)
  brings_on (script_piece.Range name start len) xs y s m t r (Err why, acts, is) rest = absurd (cc)
  brings_on (script_piece.Range name start len) xs y s m t r (Ok file, acts, is) rest =
      let made : y ≡ piece.File file.0 start len = cc in
      (Ok file, m, acts, subst (λ (v : Piece). BringsPieces budget chain number (ready ++ v ∷ []) xs m r t) made rest)

  -- The first refusal is the answer.
  brings_stop : (x : ScriptPiece) (xs : List ScriptPiece) (why : Refusal) (s m : HostView) → IsReadied budget chain number x s (Err why) m
      → BringsPieces budget chain number ready (x ∷ xs) s (reply.Refused why) m
  unfolding BringsPieces
  brings_stop (script_piece.Ready z) xs why s m (is, same) = absurd (cc)
  brings_stop (script_piece.Range name start len) xs why s m (Err e, acts, is) =
      let told : why ≡ e = cc in
      (Err e, m, acts, (ap reply.Refused told, refl))
  brings_stop (script_piece.Range name start len) xs why s m (Ok file, acts, is) = absurd (cc)

-- These pieces are ready, and these are left. From here on what is left is brought as all are.
pub record BringsFrom {R : Type 0} {g : Ghosts R Stored} (old now : Host MemFiles R g) (number : ℕ) (pieces : List ScriptPiece) (ready : List Piece) (left : List ScriptPiece)
    (w : World) : Type 0 where
  pub to : World
  pub hosts : IsHosting (device now) now to
  pub rest : (r : CommandReply) (new : HostView) → BringsPieces (budget_of old) (chain_of old) number ready left (host_view to (device now)) r new
      → BringsPieces (budget_of old) (chain_of old) number [] pieces (host_view w (device old)) r new

pub record IsBringing {R : Type 0} {g : Ghosts R Stored} (old now : Host MemFiles R g) (number : ℕ) (pieces : List ScriptPiece) (ready : List Piece) (left : List ScriptPiece) : Type 0 where
  pub alive : IsMemHostAlive now
  pub chain : chain_of now ≡ chain_of old
  pub budget : budget_of now ≡ budget_of old
  pub goes : (w : World) → IsHosting (device old) old w → BringsFrom old now number pieces ready left w

pub bring_begins : {R : Type 0} {g : Ghosts R Stored} (host : Host MemFiles R g) (number : ℕ) (pieces : List ScriptPiece) → IsMemHostAlive host → IsBringing host host number pieces [] pieces
bring_begins host number pieces alive = record { alive = alive; chain = refl; budget = refl; goes = λ w hosts. record { to = w; hosts = hosts; rest = λ r new h. h } }

module _ {R : Type 0} {g : Ghosts R Stored} (old now : Host MemFiles R g) (number : ℕ) (pieces : List ScriptPiece) where
  module _ (ready : List Piece) (all : List ScriptPiece) (so : IsBringing old now number pieces ready all) (new : Host MemFiles R g) where
    -- what was done to a host on the same chain, with the same budget, was done on its own
    here : (T : ℕ → List Program → Type 0) → T (budget_of now) (chain_of now) → T (budget_of old) (chain_of old)
    here T t = subst (λ (b : ℕ). T b (chain_of old)) so.budget (subst (λ (c : List Program). T (budget_of now) c) so.chain t)

    module _ (x : ScriptPiece) (xs : List ScriptPiece) (whole : all ≡ x ∷ xs) where
      pub bring_goes : (y : Piece) (more : List Piece) → more ≡ ready ++ y ∷ [] → ((w : World) → IsHosting (device now) now w → MakesReady now new number x (Ok y) w)
          → IsBringing old new number pieces more xs
      bring_goes y more pushed made = record {
        alive = (let m = made so.alive.0 so.alive.1 in (m.to, m.hosts));
        chain = (made so.alive.0 so.alive.1).chain ∙ so.chain;
        budget = (made so.alive.0 so.alive.1).budget ∙ so.budget;
        goes = λ w hosts. (let from = so.goes w hosts in let m = made from.to from.hosts in record {
          to = m.to;
          hosts = m.hosts;
          rest = λ r end h. from.rest r end (subst (λ (ps : List ScriptPiece). BringsPieces (budget_of old) (chain_of old) number ready ps (host_view from.to (device now)) r end) (sym whole)
              (brings_on (budget_of old) (chain_of old) number ready x xs y (host_view from.to (device now)) (host_view m.to (device new)) end r
              (here (λ b c. IsReadied b c number x (host_view from.to (device now)) (Ok y) (host_view m.to (device new))) m.readied)
              (subst (λ (ps : List Piece). BringsPieces (budget_of old) (chain_of old) number ps xs (host_view m.to (device new)) r end) pushed h)));
        });
      }

      pub bring_stops : (why : Refusal) → ((w : World) → IsHosting (device now) now w → MakesReady now new number x (Err why) w) → (w : World) → IsHosting (device old) old w
          → IsServed old new (command.Bring number pieces) (reply.Refused why) w
      unfolding AnswersCommand
      bring_stops why made w hosts =
          let from = so.goes w hosts in
          let m = made from.to from.hosts in
          record {
            to = m.to;
            serves = from.rest (reply.Refused why) (host_view m.to (device new)) (subst (λ (ps : List ScriptPiece). BringsPieces (budget_of old) (chain_of old) number ready ps
                (host_view from.to (device now)) (reply.Refused why) (host_view m.to (device new))) (sym whole)
                (brings_stop (budget_of old) (chain_of old) number ready x xs why (host_view from.to (device now)) (host_view m.to (device new))
                (here (λ b c. IsReadied b c number x (host_view from.to (device now)) (Err why) (host_view m.to (device new))) m.readied)));
            hosts = m.hosts;
            chain = m.chain ∙ so.chain;
            budget = m.budget ∙ so.budget;
          }

    -- No piece is left, and those that are ready are brought.
    pub bring_ends : (answer : Answer) (r : CommandReply) → all ≡ [] → r ≡ reply_of answer
        → ((w : World) → IsHosting (device now) now w → Happens (device now) (device new) now new number (event.Bring ready) answer w) → (w : World) → IsHosting (device old) old w
        → IsServed old new (command.Bring number pieces) r w
    unfolding AnswersCommand BringsPieces
    bring_ends answer r none told brought w hosts =
        let from = so.goes w hosts in
        let h = brought from.to from.hosts in
        let tells : RepliesTo (budget_of old) (chain_of old) number (event.Bring ready) (host_view from.to (device now)) r (host_view h.to (device new)) =
        record { answer = answer; acts = here (λ b c. Answers b c number (event.Bring ready) (host_view from.to (device now)) answer (host_view h.to (device new))) h.acts; told = told } in
        record {
          to = h.to;
          serves = from.rest r (host_view h.to (device new))
              (subst (λ (ps : List ScriptPiece). BringsPieces (budget_of old) (chain_of old) number ready ps (host_view from.to (device now)) r (host_view h.to (device new))) (sym none) tells);
          hosts = h.hosts;
          chain = h.chain ∙ so.chain;
          budget = h.budget ∙ so.budget;
        }
