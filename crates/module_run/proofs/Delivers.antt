-- What the last filter's pass leaves of a connection.
use Rattle.std.proofs.Common.{◌≡◌, ◌≢◌, ◌==◌, ℕ, ◌+◌, ◌<◌, Bool, true, false, List, [], ◌∷◌, length, Option, Some, None, is_some, refl, sym, ◌∙◌, ap, subst, inl, inr}
use Rattle.std.specs.Prelude.{if◌then◌else◌}
use Rattle.std.specs.Global.{Vec}
use Rattle.std.proofs.lemmas.Bool.{cases_eq, eq-eqb, ne_eqb}
use Rattle.module_code.specs.Program.{Program}
use Rattle.module_code.specs.declared.instr.Instr.{Instr}
use Rattle.module_code.specs.declared.instr.Instr.TheVariants as instr
use Rattle.bucket_kinds.specs.Device.{Device, Held, is_there}
use Rattle.bucket_ring.specs.declared.rings.Rings.{Ghosts}
use Rattle.bucket_ring.specs.Kept.{once_in}
use Rattle.run_model.specs.declared.bucket.Mark.TheVariants.{Passed}
use Rattle.run_model.specs.declared.bucket.NamedBucket.{NamedBucket}
use Rattle.run_model.specs.declared.event.Stepped.TheVariants as stepped
use Rattle.run_model.specs.declared.payload.Payload.{Payload}
use Rattle.run_model.specs.Chains.{Frame, Connection, Linked, configuration, files_of, is_last, led_to, module_at, next_place, put_back, stepped_in}
use Rattle.run_model.specs.Effects.{do_pass}
use Rattle.run_model.specs.Passing.{Reads, delivered, delivered_by, passed_to, proceeds}
use Rattle.run_model.specs.State.{Configuration, Out, items_of, set_brigade}
use Rattle.run_model.specs.Steps.{answer_to, is_fail, jumps_if}
use Rattle.pool_tree.specs.declared.tree.PoolTree.{PoolTree}
use Rattle.pool_tree.specs.Tree.{map_of}
use Rattle.bucket_kinds.specs.declared.stored.Stored.{Stored}
use Rattle.brigade_ops.specs.declared.store.Brigades.{Brigades}
use Rattle.brigade_ops.specs.Store.{lists, brigade_of, pool_of, next_name}
use Rattle.interp_state.specs.declared.machine.Instance.{Instance}
use Rattle.interp_state.specs.declared.machine.Call.{Call}
use Rattle.module_run.specs.declared.conn.Filter.{Filter}
use Rattle.module_run.specs.declared.conn.Conn.{Conn}
use Rattle.interp_state.specs.ContextViews.{ContextView}
use Rattle.module_run.specs.Conns.{conn_of, filter_at, top_of, IsSeenAs}
use Rattle.interp_calls.specs.Delivery.{IfElse, ReadsGiven, out_of}
use Rattle.interp_state.specs.Held.{IsHeld}
use Rattle.interp_state.specs.LeftAlone.{LeavesForeign}
use Rattle.module_run.specs.Proceeding.{IsReady, LeftAs, RefinesStep, MayHold}
use Rattle.interp_state.specs.Seen.{seen, seen_over}
use Rattle.interp_state.specs.Slots.{slot_at, cursor_at, name_in, marked}
use Rattle.module_run.proofs.AtWork as work
use Rattle.module_run.proofs.Callers.{waits_below}
use Rattle.module_run.proofs.Bystanders.{QuietRest, filter_left, frame_left}
use Rattle.module_run.proofs.CanPass.{none_of, passer}
use Rattle.module_run.proofs.HandsOn.{name_marked}
use Rattle.interp_state.proofs.HeldAlike.{held_cursors}
use Rattle.module_run.proofs.Outs.{with_out, seen_out, stacked_out}
use Rattle.module_run.proofs.Restacked.{changed, ChangesTop, rest_goes_on, restacked}
use Rattle.module_run.proofs.Resumed.{seen_put_back}
use Rattle.module_run.proofs.TopFilter.{in_chain}
use Rattle.module_run.proofs.Tops.{OnTop, view_of}

abbrev is_passing : Instr → Bool
is_passing (instr.Pass b l) = true
is_passing i = false

-- where a pass leads
pub pass_leads : (well : Bool) (b l pc : ℕ) → (if well then pc + 1 else l) ≡ led_to (jumps_if (is_fail (answer_to well))) (instr.Pass b l) pc
pass_leads true b l pc = refl
pass_leads false b l pc = refl

module _ {R : Type 0} {g : Ghosts R Stored} (chain : List Program) (b l : ℕ) (tree : PoolTree Payload) (old new : Brigades R g) (d e : Device) (c : Conn) (v : Linked) (f : Frame) (rest : List Frame)
    (ready : IsReady chain (instr.Pass b l) tree old d c v f rest) (i : Instance) (well : Bool) (fs : Vec Filter) (out : List ℕ) (ended : Bool) where
  abbrev x : Filter
  x = (passer chain b l tree old d c v f rest ready).filter

  here : filter_at c (top_of c) ≡ Some x
  here = (passer chain b l tree old d c v f rest ready).is

  abbrev pc : ℕ
  pc = if well then x.call.pc + 1 else l

  -- the filter on top, once it has passed
  abbrev pub passed_on : Filter
  passed_on = record { instance = i; call = record x.call { pc = pc }; lent = x.lent }

  abbrev then_conn : Conn
  then_conn = changed c fs c.labels

  abbrev view : ContextView
  view = view_of (map_of tree) c v

  module _ (after : filter_at then_conn (top_of c) ≡ Some passed_on) (others : (k : ℕ) → k ≢ top_of c → filter_at then_conn k ≡ filter_at c k) (many : length fs.items ≡ length c.filters.items)
      (slots : (a : ℕ) → slot_at i a ≡ (if a == b then marked Passed (slot_at x.instance b) else slot_at x.instance a))
      (passed : (view : ContextView) (call : Call) → IsHeld old x.instance call → seen new view i call ≡ do_pass b (seen old view x.instance call))
      (kept : (call : Call) → IsHeld old x.instance call → IsHeld new i call)
      (left : (call : Call) → LeavesForeign old new x.instance call) where
    abbrev top : OnTop (lists old) c f rest
    top = passer chain b l tree old d c v f rest ready

    was : LeftAs chain tree old d c v
    was = ready.stands.left

    names : (a : ℕ) → name_in (slot_at i a) ≡ name_in (slot_at x.instance a)
    names a = ap name_in (slots a) ∙ (elim (cases_eq a b) [
      | inl q ↦ ap (λ (t : Bool). name_in (if t then marked Passed (slot_at x.instance b) else slot_at x.instance a)) (eq-eqb a b q)
          ∙ (name_marked (slot_at x.instance b) ∙ ap (λ (n : ℕ). name_in (slot_at x.instance n)) (sym q))
      | inr q ↦ ap (λ (t : Bool). name_in (if t then marked Passed (slot_at x.instance b) else slot_at x.instance a)) (ne_eqb a b q)
    ])

    change : ChangesTop c fs c.labels (next_name old) (next_name new) x passed_on
    change = (let alone = work.alone chain (instr.Pass b l) tree old d c v f rest ready x here in record {
      before = here;
      here = after;
      rest = others;
      many = many;
      name = refl;
      alone = alone;
      alone_now = alone;
      names = λ a. inl (names a);
    })

    quiet : QuietRest (next_name old) (lists old) (lists new) (pool_of old) (pool_of new) x.instance x.call
    quiet = (let alone = left x.call in record {
      others = λ n low off ne. alone.others n off ne;
      there = λ n low. alone.still n;
      pools = λ n low. ap (λ (p : ℕ → Option ℕ). p n) alone.pools;
    })

    -- what the call on top leaves
    went : seen new view i x.call ≡ do_pass b (configuration v.0 v.1 f)
    went = passed view x.call (work.held_top chain (instr.Pass b l) tree old d c v f rest ready x here) ∙ ap (do_pass b) (sym (work.config chain (instr.Pass b l) tree old d c v f rest ready x here))

    abbrev stepped_as : Linked
    stepped_as = stepped_in (module_at chain f.of) (record { answer = answer_to well; given = None }) (instr.Pass b l) f rest v

    put_as : (s : Configuration) (n : ℕ) → Linked
    put_as s n = put_back (instr.Pass b l) f (record s { pc = pc }) (record f { call = s.call; pc = n } ∷ []) rest v

    seen_stepped : IsSeenAs (map_of tree) (lists new) (next_name new) then_conn stepped_as
    unfolding put_as stepped_in put_back seen_over cursor_at
    seen_stepped = subst (IsSeenAs (map_of tree) (lists new) (next_name new) then_conn) goes
        (seen_put_back (map_of tree) (lists old) (lists new) (next_name old) (next_name new) c fs c.labels x passed_on change top.busy (map_of tree) (files_of v.0 v.1) f rest top.frame top.below (waits_below chain c was.stacked.called)
        (instr.Pass b l) v was.seen.conn
        (filter_left chain (brigade_of old) (lists old) (pool_of old) (next_name old) c x was.stacked here top.busy (work.nine chain (instr.Pass b l) tree old d c v f rest ready x here) (lists new)
        (pool_of new) quiet)
        (frame_left chain (brigade_of old) (lists old) (pool_of old) (next_name old) c x was.stacked here top.busy (work.nine chain (instr.Pass b l) tree old d c v f rest ready x here) (lists new)
        (pool_of new) quiet)) where
          goes : put_as (seen new view i x.call) pc ≡ stepped_as
          goes = ap (λ (s : Configuration). put_as s pc) went
              ∙ ap (put_as (do_pass b (configuration v.0 v.1 f)))
              (ap (λ (n : ℕ). if well then n + 1 else l) (sym (work.pc_top chain (instr.Pass b l) tree old d c v f rest ready x here)) ∙ pass_leads well b l f.pc)

    module _ (reads : Reads) (given : IfElse c.ended (e ≡ d) (ReadsGiven d e (items_of ((seen old view x.instance x.call).instance.brigades b)) reads 0))
        (told : delivered (out_of c.out c.ended) (items_of ((seen old view x.instance x.call).instance.brigades b)) reads ≡ (out_of out ended, well))
        (numbered : e.numbered ≡ d.numbered) (last : is_last chain v.1 (top_of c) ≡ true) where
      items_are : items_of ((v.1.instances f.of).brigades b) ≡ items_of ((seen old view x.instance x.call).instance.brigades b)
      unfolding configuration
      items_are = ap (λ (r : Configuration). items_of (r.instance.brigades b)) (work.config chain (instr.Pass b l) tree old d c v f rest ready x here)

      out_is : v.1.out ≡ out_of c.out c.ended
      unfolding conn_of
      out_is = ap (λ (n : Connection). n.out) was.seen.conn

      last_here : is_last chain v.1 f.of ≡ true
      last_here = ap (is_last chain v.1) (work.of_top chain (instr.Pass b l) tree old d c v f rest ready x here) ∙ last

      delivered_is : delivered v.1.out (items_of ((v.1.instances f.of).brigades b)) reads ≡ (out_of out ended, well)
      delivered_is =
          ap (λ (o : Out). delivered o (items_of ((v.1.instances f.of).brigades b)) reads) out_is
          ∙ (ap (λ (xs : List NamedBucket). delivered (out_of c.out c.ended) xs reads) items_are ∙ told)

      -- the connection, with what it put out
      by_answer : Out × Bool → Linked
      by_answer q = (let left = stepped_in (module_at chain f.of) (record { answer = answer_to q.1; given = None }) (instr.Pass b l) f rest v in (left.0, record left.1 { out = q.0 }))

      abbrev towards : ℕ → Linked
      towards n = passed_to (module_at chain n) n b f rest v

      goes : (proceeds chain reads (instr.Pass b l) f rest v).1 ≡ by_answer (out_of out ended, well)
      unfolding proceeds delivered_by by_answer
      goes =
          ap (λ (t : Bool). if t then delivered_by (module_at chain f.of) reads b (instr.Pass b l) f rest v else towards (next_place chain v.1 f.of)) last_here
          ∙ ap by_answer delivered_is

      left_then : LeftAs chain tree new e (with_out then_conn out ended) (by_answer (out_of out ended, well))
      unfolding by_answer stepped_in put_back configuration set_brigade cursor_at
      left_then = (let alone = left x.call in record {
        seen = seen_out then_conn out ended (map_of tree) (lists new) (next_name new) stepped_as seen_stepped;
        opens = λ file bytes is. subst (λ (n : ℕ → Held). MayHold (n file) bytes) (sym numbered) (was.opens file bytes is);
        formed = was.formed;
        house = record {
          held = λ name p. was.house.held name p ∙ ap (λ (n : ℕ → Option ℕ). once_in p (n name)) (sym alone.pools);
          there = λ name p on. alone.still name ∙ was.house.there name p (ap (λ (n : ℕ → Option ℕ). n name) (sym alone.pools) ∙ on);
          referred = λ file. ap (λ (n : ℕ → ℕ). n file) alone.references ∙ was.house.referred file;
        };
        references = λ file pos. ap (λ (n : ℕ → Held). is_there (n file)) numbered ∙ was.references file (subst (λ (n : ℕ). 0 < n) (ap (λ (n : ℕ → ℕ). n file) alone.references) pos);
        none = none_of (lists new 0) (alone.still 0 ∙ ap is_some was.none);
        stacked = stacked_out then_conn out ended chain (brigade_of new) (lists new) (pool_of new) (next_name new)
            (restacked c fs c.labels (next_name old) (next_name new) x passed_on change chain (brigade_of old) (brigade_of new) (lists old) (lists new) (pool_of old) (pool_of new)
            (rest_goes_on (brigade_of old) (brigade_of new) (lists old) (lists new) (pool_of old) (pool_of new) (next_name old) (next_name new) x.instance x.call alone.rises alone.names quiet)
            was.stacked (in_chain chain (instr.Pass b l) tree old d c v f rest ready is_passing refl refl)
            (held_cursors (brigade_of new) (lists new) (pool_of new) (next_name new) i x.call passed_on.call refl (λ k. refl)
            (kept x.call (work.held_top chain (instr.Pass b l) tree old d c v f rest ready x here))));
      })

      pub delivers : RefinesStep chain (instr.Pass b l) d e v f rest tree new (with_out then_conn out ended) stepped.Went
      unfolding proceeds
      delivers = record {
        reads = reads;
        told = subst (λ (t : Bool). IfElse t (IfElse v.1.out.ended (e ≡ d) (ReadsGiven d e (items_of ((v.1.instances f.of).brigades b)) reads 0)) (e ≡ d)) (sym last_here)
            (subst (λ (o : Out). IfElse o.ended (e ≡ d) (ReadsGiven d e (items_of ((v.1.instances f.of).brigades b)) reads 0)) (sym out_is)
            (subst (λ (xs : List NamedBucket). IfElse c.ended (e ≡ d) (ReadsGiven d e xs reads 0)) (sym items_are) given));
        closed = tt;
        answers = refl;
        left = subst (λ (w : Linked). LeftAs chain tree new e (with_out then_conn out ended) w) (sym goes) left_then;
      }
