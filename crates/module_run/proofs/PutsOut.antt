-- A return, and what the output filter's call puts out with it.
use Rattle.std.proofs.Common.{None, ◌≡◌, ℕ, Bool, true, false, ◌&&◌, not, List, [], ◌∷◌, Some, refl, sym, ◌∙◌, ap, subst}
use Rattle.std.specs.Prelude.{if◌then◌else◌}
use Rattle.module_code.specs.Program.{Program}
use Rattle.module_code.specs.declared.instr.Instr.TheVariants as instr
use Rattle.module_code.specs.declared.instr.Status.{Status}
use Rattle.bucket_kinds.specs.Device.{Device, Held, is_there}
use Rattle.bucket_ring.specs.declared.rings.Rings.{Ghosts}
use Rattle.run_model.specs.declared.bucket.NamedBucket.{NamedBucket}
use Rattle.run_model.specs.declared.effect.Effect.TheVariants as effect
use Rattle.run_model.specs.declared.event.Stepped.{Stepped}
use Rattle.run_model.specs.declared.payload.Payload.{Payload}
use Rattle.run_model.specs.Chains.{Frame, Connection, Linked, configuration, is_output, put_back}
use Rattle.run_model.specs.Effects.{do_return}
use Rattle.run_model.specs.Passing.{Reads, answered_so, delivered, next_called, proceeds, put_out_by, returned_from, returns}
use Rattle.run_model.specs.State.{Configuration, Out, items_of}
use Rattle.run_model.specs.Steps.{has_bytes, room_for}
use Rattle.run_model.specs.Turns.{puts_out}
use Rattle.run_model.specs.Passing as passing
use Rattle.run_model.specs.Faults as faults
use Rattle.run_model.specs.Steps as steps
use Rattle.model_laws.proofs.chains.TurnsSound.{marked_sound}
use Rattle.pool_tree.specs.declared.tree.PoolTree.{PoolTree}
use Rattle.pool_tree.specs.Tree.{map_of}
use Rattle.bucket_kinds.specs.declared.stored.Stored.{Stored}
use Rattle.brigade_ops.specs.declared.store.Brigades.{Brigades}
use Rattle.brigade_ops.specs.Store.{lists, brigade_of, pool_of, next_name}
use Rattle.interp_state.specs.ContextViews.{ContextView}
use Rattle.interp_state.specs.Seen.{seen, seen_over}
use Rattle.interp_calls.specs.Delivery.{IfElse, ReadsGiven, out_of}
use Rattle.module_run.specs.declared.conn.Conn.{Conn}
use Rattle.module_run.specs.declared.conn.Filter.{Filter}
use Rattle.module_run.specs.Conns.{conn_of, filter_at, top_of}
use Rattle.module_run.specs.Proceeding.{IsLawful, IsReady, LeftAs, MayHold, RefinesReturn, RefinesStep}
use Rattle.module_run.proofs.AtWork as work
use Rattle.module_run.proofs.Outs.{with_out, seen_out, stacked_out}
use Rattle.module_run.proofs.Tops.{view_of}

-- an answer, and a connection with another output
abbrev pub with_put : Out → Stepped × Linked → Stepped × Linked
with_put o x = (x.0, (x.1.0, record x.1.1 { out = o }))

-- A return leaves the output as it is.
pub returns_put : (chain : List Program) (s : Status) (f : Frame) (rest : List Frame) (v : Linked) (o : Out)
    → returns chain s f rest (v.0, record v.1 { out = o }) ≡ with_put o (returns chain s f rest v)
unfolding returned_from put_back configuration passing.returned_to
returns_put chain s f [] v o = by_queue v.1.queue where
  by_queue : (queue : List ℕ) → next_called chain s queue (put_back (instr.Ret s) f (do_return (configuration v.0 (record v.1 { out = o }) f)) [] [] (v.0, record v.1 { out = o }))
      ≡ with_put o (next_called chain s queue (put_back (instr.Ret s) f (do_return (configuration v.0 v.1 f)) [] [] v))
  by_queue [] = refl
  by_queue (k ∷ ks) = refl
returns_put chain s f (w ∷ rest) v o = refl

-- what a call puts out that is not the output filter's
none_put : (chain : List Program) (reads : Reads) (f : Frame) (c : Connection) → is_output chain f.of ≡ false → put_out_by chain reads f c ≡ (c.out, true)
unfolding put_out_by
none_put chain reads f c inside = ap (λ (t : Bool). if t then delivered c.out (items_of ((c.instances f.of).brigades 8)) reads else (c.out, true)) inside

-- what a return makes of what was put out
abbrev with_answer : Stepped × Linked → Out × Bool → Stepped × Linked
with_answer x p = (answered_so p.1 x.0, (x.1.0, record x.1.1 { out = p.0 }))

module _ {R : Type 0} {g : Ghosts R Stored} (chain : List Program) (s : Status) (tree : PoolTree Payload) (new : Brigades R g) (d : Device) (v : Linked) (f : Frame) (rest : List Frame)
    (c : Conn) (answer : Stepped) where
  -- The return of a module's filter is all of its step.
  pub returned_step : is_output chain f.of ≡ false → RefinesReturn chain s d v f rest tree new c answer → RefinesStep chain (instr.Ret s) d d v f rest tree new c answer
  unfolding proceeds
  returned_step inside r = record {
    reads = no_reads;
    told = subst (λ (t : Bool). IfElse t (IfElse v.1.out.ended (d ≡ d) (ReadsGiven d d (items_of ((v.1.instances f.of).brigades 8)) no_reads 0)) (d ≡ d)) (sym inside) refl;
    closed = tt;
    answers = ap (λ (x : Stepped × Linked). x.0) goes ∙ r.answers;
    left = subst (λ (x : Stepped × Linked). LeftAs chain tree new d c x.1) (sym goes) r.left;
  } where
    no_reads : Reads
    no_reads n = None

    goes : proceeds chain no_reads (instr.Ret s) f rest v ≡ returns chain s f rest v
    goes = ap (with_answer (returns chain s f rest v)) (none_put chain no_reads f v.1 inside) ∙ sym (returns_put chain s f rest v v.1.out)

module _ {R : Type 0} {g : Ghosts R Stored} (chain : List Program) (s : Status) (tree : PoolTree Payload) (old : Brigades R g) (d e : Device) (c : Conn) (v : Linked) (f : Frame) (rest : List Frame)
    (ready : IsReady chain (instr.Ret s) tree old d c v f rest) (out : List ℕ) (ended : Bool) (numbered : e.numbered ≡ d.numbered) where
  -- the connection, with what was put out
  abbrev pub put : Linked
  put = (v.0, record v.1 { out = out_of out ended })

  lawful_put : IsLawful chain put
  lawful_put = (let l = ready.stands.lawful in record {
    chained = l.chained;
    names = l.names;
    sound = marked_sound chain v.0 v.1 put.1 refl refl refl refl refl refl l.sound;
    ends = record { ends = record { brigades = l.ends.ends.brigades; loose = l.ends.ends.loose }; lengths = l.ends.lengths };
    files = record { lasts = l.files.lasts; open_files = record { brigades = l.files.open_files.brigades; loose = l.files.open_files.loose } };
    pools = record { has = l.pools.has; named = l.pools.named };
  })

  left_put : LeftAs chain tree old e (with_out c out ended) put
  left_put = (let l = ready.stands.left in record {
    seen = seen_out c out ended (map_of tree) (lists old) (next_name old) v l.seen;
    opens = λ file bytes is. subst (λ (n : ℕ → Held). MayHold (n file) bytes) (sym numbered) (l.opens file bytes is);
    formed = l.formed;
    house = l.house;
    references = λ file pos. ap (λ (n : ℕ → Held). is_there (n file)) numbered ∙ l.references file pos;
    none = l.none;
    stacked = stacked_out c out ended chain (brigade_of old) (lists old) (pool_of old) (next_name old) l.stacked;
  })

  -- its call may return
  pub ready_put : IsReady chain (instr.Ret s) tree old e (with_out c out ended) put f rest
  unfolding configuration faults.keeps_stray faults.is_stray steps.lacks_names
  ready_put = record {
    stands = record { lawful = lawful_put; left = left_put };
    on_top = ready.on_top;
    next = ready.next;
    faultless = ready.faultless;
    names_last = ready.names_last;
    calls_last = ready.calls_last;
  }

  -- The brigade that was brought, as it was put out.
  module _ (x : Filter) (here : filter_at c (top_of c) ≡ Some x) where
    abbrev view : ContextView
    view = view_of (map_of tree) c v

    abbrev items : List NamedBucket
    items = items_of ((seen old view x.instance x.call).instance.brigades 8)

    items_are : items_of ((v.1.instances f.of).brigades 8) ≡ items
    unfolding configuration
    items_are = ap (λ (r : Configuration). items_of (r.instance.brigades 8)) (work.config chain (instr.Ret s) tree old d c v f rest ready x here)

    out_is : v.1.out ≡ out_of c.out c.ended
    unfolding conn_of
    out_is = ap (λ (n : Connection). n.out) ready.stands.left.seen.conn

    -- where no bytes are to be put out
    pub none_out : is_output chain f.of ≡ true → puts_out chain f v ≡ false → (not c.ended && has_bytes items) ≡ false
    unfolding seen_over
    none_out last quiet =
        sym (ap (λ (r : Configuration). room_for r (effect.Pass 8)) (work.config chain (instr.Ret s) tree old d c v f rest ready x here))
        ∙ (sym (ap (λ (t : Bool). t && room_for (configuration v.0 v.1 f) (effect.Pass 8)) last) ∙ quiet)

    pub puts : (well : Bool) (reads : Reads) → IfElse c.ended (e ≡ d) (ReadsGiven d e items reads 0) → delivered (out_of c.out c.ended) items reads ≡ (out_of out ended, well)
        → is_output chain f.of ≡ true → (new : Brigades R g) (after : Conn) (answer : Stepped) → RefinesReturn chain s e put f rest tree new after answer
        → RefinesStep chain (instr.Ret s) d e v f rest tree new after (answered_so well answer)
    unfolding proceeds put_out_by
    puts well reads given told last new after answer r = record {
      reads = reads;
      told = subst (λ (t : Bool). IfElse t (IfElse v.1.out.ended (e ≡ d) (ReadsGiven d e (items_of ((v.1.instances f.of).brigades 8)) reads 0)) (e ≡ d)) (sym last)
          (subst (λ (o : Out). IfElse o.ended (e ≡ d) (ReadsGiven d e (items_of ((v.1.instances f.of).brigades 8)) reads 0)) (sym out_is)
          (subst (λ (xs : List NamedBucket). IfElse c.ended (e ≡ d) (ReadsGiven d e xs reads 0)) (sym items_are) given));
      closed = tt;
      answers = ap (λ (a : Stepped × Linked). a.0) goes ∙ ap (answered_so well) (sym (ap (λ (a : Stepped × Linked). a.0) same) ∙ r.answers);
      left = subst (λ (a : Stepped × Linked). LeftAs chain tree new e after a.1) (sym goes) (subst (λ (a : Stepped × Linked). LeftAs chain tree new e after a.1) same r.left);
    } where
      same : returns chain s f rest put ≡ with_put (out_of out ended) (returns chain s f rest v)
      same = returns_put chain s f rest v (out_of out ended)

      put_is : put_out_by chain reads f v.1 ≡ (out_of out ended, well)
      put_is =
          ap (λ (t : Bool). if t then delivered v.1.out (items_of ((v.1.instances f.of).brigades 8)) reads else (v.1.out, true)) last
          ∙ (ap (λ (o : Out). delivered o (items_of ((v.1.instances f.of).brigades 8)) reads) out_is
          ∙ (ap (λ (xs : List NamedBucket). delivered (out_of c.out c.ended) xs reads) items_are ∙ told))

      goes : proceeds chain reads (instr.Ret s) f rest v ≡ with_answer (returns chain s f rest v) (out_of out ended, well)
      goes = ap (with_answer (returns chain s f rest v)) put_is
