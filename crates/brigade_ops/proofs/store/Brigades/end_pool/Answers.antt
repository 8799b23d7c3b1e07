use Rattle.std.proofs.Common.{◌≡◌, ℕ, suc, ◌+◌, ◌<◌, ◌≤◌, None, List, ◌∷◌, cond, drop, length, get_or, sym, ap, subst, ◌∙◌, arith}
use Rattle.std.proofs.lemmas.List.{drop_more, drop_all}
use Rattle.std.specs.List.{list_any}
use Rattle.run_model.specs.declared.payload.Payload.{Payload}
use Rattle.run_model.specs.Payloads.{is_brigade, is_file_ref}
use Rattle.bucket_kinds.specs.Device.{Missing}
use Rattle.brigade_ops.specs.Files.{refs_in, is_let_go}
use Rattle.bucket_ring.specs.Laws.{none_revived_twice}
use Rattle.brigade_ops.specs.Store.{lists, brigade_of, pool_of, next_name, references}
use Rattle.brigade_ops.proofs.Ended.{out_step, counted_step, sum_step, closed_step, open_step, some_here, enough_here}
use Rattle.brigade_ops.proofs.store.Brigades.end_pool.Goals as goal

-- what is left begins with the payload at hand
front : (handed : List (ℕ × Payload)) (i : ℕ) (entry : ℕ × Payload) → i < length handed → entry ≡ get_or handed i entry
    → drop i handed ≡ entry ∷ drop (i + 1) handed
front handed i entry within here = drop_more handed i entry within ∙ ap (λ (x : ℕ × Payload). x ∷ drop (i + 1) handed) (sym here)

refs_front : (f : ℕ) (handed : List (ℕ × Payload)) (i : ℕ) (entry : ℕ × Payload) → i < length handed → entry ≡ get_or handed i entry
    → refs_in f (drop i handed) ≡ cond (is_file_ref f entry.1) (suc (refs_in f (drop (i + 1) handed))) (refs_in f (drop (i + 1) handed))
unfolding refs_in
refs_front f handed i entry within here = ap (refs_in f) (front handed i entry within here)

pub end_payload-requires-clause-counted : goal.end_payload-requires-clause-counted
end_payload-requires-clause-counted g c f is =
    let i = c.loop-entry.entry-index in
    let entry : ℕ × Payload = c.entry-item.result in
    let refs = refs_front f c.args.handed.now i entry c.loop-entry-test.true c.entry-item.is in
    enough_here (is_file_ref f entry.1) (refs_in f (drop (i + 1) c.args.handed.now)) (references c.loop-entry.self f) is
    (subst (λ (k : ℕ). k ≤ references c.loop-entry.self f) refs (c.loop-entry.invariant.enough f))

pub end_payload-requires-clause-open : goal.end_payload-requires-clause-open
end_payload-requires-clause-open g c f is =
    let i = c.loop-entry.entry-index in
    let entry : ℕ × Payload = c.entry-item.result in
    let refs = refs_front f c.args.handed.now i entry c.loop-entry-test.true c.entry-item.is in
    c.loop-entry.invariant.opened f (subst (λ (k : ℕ). 0 < k) (sym refs) (some_here (is_file_ref f entry.1) (refs_in f (drop (i + 1) c.args.handed.now)) is))

pub loop-entry-preserved : goal.loop-entry-preserved
loop-entry-preserved g c =
    let handed = c.args.handed.now in
    let i = c.loop-entry.entry-index in
    let entry : ℕ × Payload = c.entry-item.result in
    let ys = drop (i + 1) handed in
    let whole : drop i handed ≡ entry ∷ ys = front handed i entry c.loop-entry-test.true c.entry-item.is in
    let now = references c.end_payload.new.self in
    let before = references c.loop-entry.self in
    let refs : ((f : ℕ) → refs_in f (drop i handed) ≡ cond (is_file_ref f entry.1) (suc (refs_in f ys)) (refs_in f ys)) =
    λ f. refs_front f handed i entry c.loop-entry-test.true c.entry-item.is in
    let left : ((f : ℕ) → cond (is_file_ref f entry.1) (suc (refs_in f ys)) (refs_in f ys) ≤ before f) = λ f. subst (λ (k : ℕ). k ≤ before f) (refs f) (c.loop-entry.invariant.enough f) in
    let enough : ((f : ℕ) → refs_in f ys ≤ now f) = λ f. counted_step (is_file_ref f entry.1) (now f) (before f) (refs_in f ys) (c.end_payload.ensures.less f) (left f) in
    let old = g.F.Files.device c.loop-entry.files in
    let new = g.F.Files.device c.end_payload.new.files in
    record {
      out = λ n. out_step (is_brigade n entry.1) (list_any (λ (x : ℕ × Payload). is_brigade n x.1) ys) (lists c.end_payload.new.self n) (lists c.loop-entry.self n) (c.end_payload.ensures.out n)
          ∙ (sym (ap (λ (xs : List (ℕ × Payload)). cond (list_any (λ (x : ℕ × Payload). is_brigade n x.1) xs) None (lists c.loop-entry.self n)) whole) ∙ c.loop-entry.invariant.out n);
      off = λ n. out_step (is_brigade n entry.1) (list_any (λ (x : ℕ × Payload). is_brigade n x.1) ys) (pool_of c.end_payload.new.self n) (pool_of c.loop-entry.self n) (c.end_payload.ensures.off n)
          ∙ (sym (ap (λ (xs : List (ℕ × Payload)). cond (list_any (λ (x : ℕ × Payload). is_brigade n x.1) xs) None (pool_of c.loop-entry.self n)) whole) ∙ c.loop-entry.invariant.off n);
      counted = λ f. sum_step (is_file_ref f entry.1) (now f) (before f) (refs_in f ys) (refs_in f handed) (references c.args.self.now f) (c.end_payload.ensures.less f)
          (c.loop-entry.invariant.counted f ∙ ap (λ k. references c.args.self.now f + k) (refs f));
      closed = λ f. closed_step (is_file_ref f entry.1) (now f) (before f) (refs_in f ys) (new.numbered f) (old.numbered f) (c.end_payload.ensures.less f) (enough f) (c.end_payload.ensures.closed f)
          ∙ (sym (ap (λ (k : ℕ). cond (is_let_go (before f) k) Missing (old.numbered f)) (refs f)) ∙ c.loop-entry.invariant.closed f);
      opened = λ f. open_step (is_file_ref f entry.1) (now f) (before f) (refs_in f ys) (new.numbered f) (old.numbered f) (enough f) (c.end_payload.ensures.closed f)
          (λ h. c.loop-entry.invariant.opened f (subst (λ (k : ℕ). 0 < k) (sym (refs f)) h));
      enough = enough;
      others = record {
        named = c.end_payload.ensures.others.named ∙ c.loop-entry.invariant.others.named;
        next = c.end_payload.ensures.others.next ∙ c.loop-entry.invariant.others.next;
        failures = c.end_payload.ensures.others.failures ∙ c.loop-entry.invariant.others.failures;
        plan = c.end_payload.ensures.others.plan ∙ c.loop-entry.invariant.others.plan;
      };
      next = c.end_payload.ensures.next ∙ c.loop-entry.invariant.next;
      asked = c.end_payload.ensures.unasked ∙ c.loop-entry.invariant.asked;
      names = none_revived_twice (brigade_of c.args.self.now) (brigade_of c.loop-entry.self) (brigade_of c.end_payload.new.self) (next_name c.args.self.now) (next_name c.loop-entry.self)
          (omega (arith, c.loop-entry.invariant.next)) c.loop-entry.invariant.names c.end_payload.ensures.names;
    }

none_left : (f i : ℕ) (handed : List (ℕ × Payload)) → length handed ≤ i → refs_in f (drop i handed) ≡ 0
unfolding refs_in
none_left f i handed past = ap (refs_in f) (drop_all i handed past)

pub returns-clause-counted : goal.returns-clause-counted
returns-clause-counted g c f =
    let none = none_left f c.loop-entry.entry-index c.args.handed.now c.loop-entry-test.false in
    omega (arith, c.loop-entry.invariant.counted f, none)

pub returns-clause-closed : goal.returns-clause-closed
returns-clause-closed g c f =
    let none = none_left f c.loop-entry.entry-index c.args.handed.now c.loop-entry-test.false in
    sym (ap (λ (k : ℕ). cond (is_let_go (references c.loop-entry.self f) k) Missing ((g.F.Files.device c.loop-entry.files).numbered f)) none) ∙ c.loop-entry.invariant.closed f
