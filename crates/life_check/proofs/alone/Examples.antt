-- Open runs that reach a fault, step by step.
use Rattle.std.proofs.Common.{◌≡◌, ℕ, ◌≤◌, Bool, true, false, ◌||◌, ◌==◌, cond, List, [], ◌∷◌, map, Option, Some, None, refl, sym, ◌∙◌, ap, subst, inl, inr, arith, eqb-true, ne_eqb}
use Rattle.std.proofs.lemmas.List.Elements.{All-nil, All-cons}
use Rattle.module_code.specs.Program.{Program, pool_of_brigade, pool_of_pool}
use Rattle.module_code.specs.declared.instr.Instr.{Instr}
use Rattle.module_code.specs.declared.instr.Instr.TheVariants as instr
use Rattle.module_code.specs.declared.instr.PoolRef.{PoolRef}
use Rattle.module_code.specs.declared.instr.PoolRef.TheVariants as pool
use Rattle.module_code.specs.declared.instr.Status.TheVariants.{Success}
use Rattle.run_model.specs.declared.bucket.BrigadeVar.{BrigadeVar}
use Rattle.run_model.specs.declared.bucket.BrigadeVar.TheVariants as var
use Rattle.run_model.specs.declared.bucket.Content.TheVariants as content
use Rattle.run_model.specs.declared.bucket.Home.TheVariants as home
use Rattle.run_model.specs.declared.bucket.Kind.TheVariants as kind
use Rattle.run_model.specs.declared.bucket.Mark.TheVariants.{Usable}
use Rattle.run_model.specs.declared.bucket.NamedBucket.{NamedBucket}
use Rattle.run_model.specs.declared.fault.FaultKind.{FaultKind}
use Rattle.run_model.specs.declared.fault.FaultKind.TheVariants.{F2, F6}
use Rattle.run_model.specs.declared.payload.Payload.{Payload}
use Rattle.run_model.specs.Buckets.{returned_bucket}
use Rattle.module_code.specs.declared.instr.KindTest.TheVariants.{File}
use Rattle.run_model.specs.Effects.{do_create, do_return, returned_var, with_brigade}
use Rattle.run_model.specs.BrigadeLists.{buckets_before, buckets_from}
use Rattle.run_model.specs.Cutting.{FitsKind}
use Rattle.run_model.specs.Cursors.{place_of_cursor, holder_of, variable_of, found_below}
use Rattle.run_model.specs.Faults.{fault, has_pool_at, is_stray, keeps_stray, cursor_fault}
use Rattle.run_model.specs.Files.{no_files}
use Rattle.run_model.specs.Indexed.{upd, any_below}
use Rattle.run_model.specs.Passing.{set_in}
use Rattle.run_model.specs.Pools.{is_in, is_live, is_under, created, planted, registered_as}
use Rattle.run_model.specs.Sound.{sum_below, count_named, count, brigade_name}
use Rattle.run_model.specs.State.{Configuration, fresh_instance, fresh_call, items_of, pool_named, named_at, is_own_at, set_pool, with_pools, set_brigade, set_number, set_cursor, set_loose}
use Rattle.run_model.specs.Steps.{current, lacks_names, is_spent}
use Rattle.run_model.proofs.Formed.{planted_live, planted_formed, created_formed}
use Rattle.run_model.proofs.Names.{count_none, count_cons}
use Rattle.run_model.proofs.PoolMap.{created_lives}
use Rattle.run_model.proofs.Sums.{all_none}
use Rattle.run_model.proofs.Updates.{upd_either}
use Rattle.model_laws.specs.Examples.{never_creates}
use Rattle.model_laws.specs.OpenRuns.{Due, Rests, Runs, Broken, Attempts, Calls, Returns, none_lasts, Standing, Move, Start, Execute, Begin, Main, ToldOfMove, Done, Faults, executed, IsOthers, called}
use Rattle.model_laws.specs.OpenRuns.{may_come, request_begun, IsMove, IsOpenRun, IsOpened, AreHarmless, InstancesAreSafe}
use Rattle.life_check.specs.Examples.{given, whole, keeps_a_file, BesideRows}
use Rattle.life_state.specs.Examples.{identity, resting}
use Rattle.life_check.proofs.alone.Safe.{typed_is_safe}
use Rattle.life_check.proofs.Examples.{identity_answers, identity_module, whole_bounded}
use Rattle.life_check.proofs.TypedLaws.{typed_of}

-- One instruction more, or a fault.

goes : (p : Program) (i : Instr) (s new : Standing) (moves : List Move) (told : List ToldOfMove) → s.phase ≡ Runs → current p s.now.pc ≡ i → fault p s.now i ≡ None → lacks_names s.now i ≡ false
    → IsOpenRun p (executed p None i s).1 moves told new → IsOpenRun p s (Execute None ∷ moves) ((executed p None i s).0 ∷ told) new
unfolding IsOpenRun IsMove
goes p i s new moves told runs is none last rest = (
  (executed p None i s).1,
  (
    runs,
    subst (λ (f : Option FaultKind). Attempts f p None s (executed p None i s).0 (executed p None i s).1)
        (sym (ap (fault p s.now) is ∙ none)) (ap (lacks_names s.now) is ∙ last, ap (λ (x : Instr). executed p None x s) is),
  ),
  rest,
)

ends : (p : Program) (i : Instr) (s : Standing) (k : FaultKind) → s.phase ≡ Runs → current p s.now.pc ≡ i → fault p s.now i ≡ Some k
    → IsOpenRun p s (Execute None ∷ []) (Faults k ∷ []) (record s { phase = Broken })
unfolding IsOpenRun IsMove
ends p i s k runs is at = (
  record s { phase = Broken },
  (runs, subst (λ (f : Option FaultKind). Attempts f p None s (Faults k) (record s { phase = Broken })) (sym (ap (fault p s.now) is ∙ at)) (refl, refl)),
  refl,
)

-- The connection of pool 1, under which another filter made pool 2.
abbrev opened : Configuration
opened = record {
  instance = fresh_instance;
  call = fresh_call 0;
  shared = record { pools = created 1 (planted 1); conn = 1; req = None; labels = []; files = no_files; next = 1 };
  pc = 0;
  out = record { bytes = []; ended = false };
}

is_opened : IsOpened opened
unfolding created planted
is_opened = record {
  instance = refl;
  call = refl;
  req = refl;
  pools = created_formed 1 (planted 1) (planted_live Payload 1) (planted_formed Payload 1);
  conn = created_lives 1 (planted 1) 1 (planted_live Payload 1);
  limits = (omega arith, omega arith);
}

-- Brigades that are empty, of which none but that of the name 2 is there.

Fine : BrigadeVar → Type 0
Fine v = (items_of v ≡ []) × ((n : ℕ) → brigade_name v ≡ Some n → n ≡ 2)

fine_null : Fine var.Null
unfolding Fine
fine_null = (refl, λ n e. absurd (none_some n e)) where
  none_some : (n : ℕ) → None ≡ Some n → ⊥
  none_some n e = cc

fine_returned : (call : ℕ) (v : BrigadeVar) → Fine v → Fine (returned_var call v)
unfolding Fine
fine_returned call var.Null f = f
fine_returned call var.Gone f = f
fine_returned call (var.Live v) f = (ap (map (returned_bucket call)) f.0, f.1)

fine_left : (call : ℕ) (v : BrigadeVar) (t : Bool) → Fine v → Fine (cond t var.Null (returned_var call v))
fine_left call v true f = fine_null
fine_left call v false f = fine_returned call v f

AllFine : Configuration → Type 0
AllFine r = (b : ℕ) → Fine (r.instance.brigades b)

all_null : AllFine opened
unfolding AllFine
all_null b = fine_null

fine_return : (r : Configuration) → AllFine r → AllFine (do_return r)
unfolding AllFine
fine_return r f b = fine_left r.call.name (r.instance.brigades b) (b == 8) (f b)

fine_counts : (r : Configuration) → AllFine r → r.call.loose ≡ [] → (n : ℕ) → count r n ≡ 0
unfolding AllFine Fine
fine_counts r f none n =
    let loose : count_named n r.call.loose ≡ 0 = ap (count_named n) none ∙ count_none n in
    let brigades : sum_below 9 (λ b. count_named n (items_of (r.instance.brigades b))) ≡ 0 =
    all_none 9 (λ b. count_named n (items_of (r.instance.brigades b))) (λ b lt. ap (count_named n) (f b).0 ∙ count_none n) in
    omega arith

-- a call that runs on its own, and what stands where calls have returned: at rest, with a request, and in `init`
abbrev called_as : ℕ → ℕ → ℕ → Configuration → Standing
called_as n next pc r = record { phase = Runs; lasting = record { calls = n ∷ []; pools = [] }; now = called n next pc r }

abbrev rests_after : Configuration → Standing
rests_after r = record { phase = Rests; lasting = none_lasts; now = do_return r }

abbrev request_after : Configuration → Standing
request_after r = record { phase = Due; lasting = none_lasts; now = request_begun (do_return r) }

abbrev init_after : ℕ → ℕ → ℕ → Configuration → Standing
init_after n next pc r = called_as n next pc (request_after r).now

-- A module that cleans what it never created.

abbrev first_call : Standing
first_call = called_as 1 2 0 opened

abbrev second_call : Standing
second_call = init_after 2 3 1 first_call.now

abbrev main_call : Standing
main_call = record {
  phase = Runs;
  lasting = record { calls = 3 ∷ []; pools = [] };
  now = called 3 5 2 (record (do_return second_call.now) { instance = set_in (var.Live (record { name = 4; on = None; mark = Usable; items = [] })) (do_return second_call.now).instance });
}

fine_second : AllFine (do_return second_call.now)
unfolding AllFine
fine_second = fine_return second_call.now (fine_return first_call.now all_null)

no_pools : (n : ℕ) → is_in n [] ≡ true → ⊥
no_pools n e = cc

main_begins : Calls never_creates [] (rests_after second_call.now) main_call
unfolding created planted Fine AllFine
main_begins = record {
  phase = refl;
  request = refl;
  name = 3;
  next = 5;
  named = record { new = omega arith; given = omega arith; limit = omega arith };
  waiting = [];
  pools = [];
  others = λ n lasts. absurd (no_pools n lasts);
  ordered = refl;
  homes = All-nil _;
  come = record { kinds = All-nil _; once = λ n. (let none = fine_counts (do_return second_call.now) fine_second refl n in let nothing = count_none n in omega arith); given = λ n le. count_none n };
  brigade = 4;
  given = omega arith;
  apart = λ b e. absurd (let two = (fine_second b).1 4 e in omega (arith, two));
  is = refl;
}

abbrev cleans_at_last : Standing
cleans_at_last = record main_call { phase = Broken }

from_main : IsOpenRun never_creates (rests_after second_call.now) (Main [] ∷ (Execute None ∷ [])) (Done ∷ (Faults F2 ∷ [])) cleans_at_last
unfolding IsOpenRun IsMove executed current planted created upd is_spent lacks_names is_live is_under any_below named_at is_own_at has_pool_at is_stray keeps_stray cursor_fault
    place_of_cursor holder_of
    variable_of found_below buckets_before buckets_from set_brigade set_cursor set_loose set_pool set_number with_pools with_brigade registered_as pool_of_brigade pool_of_pool
from_main = (main_call, (refl, main_begins), ends never_creates (instr.BClean 0) main_call F2 refl refl refl)

from_init : IsOpenRun never_creates (request_after first_call.now) (Start ∷ (Execute None ∷ (Main [] ∷ (Execute None ∷ [])))) (Done ∷ (Returns Success [] ∷ (Done ∷ (Faults F2 ∷ [])))) cleans_at_last
unfolding IsOpenRun IsMove executed current planted created upd is_spent lacks_names is_live is_under any_below named_at is_own_at has_pool_at is_stray keeps_stray cursor_fault
    place_of_cursor holder_of
    variable_of found_below buckets_before buckets_from set_brigade set_cursor set_loose set_pool set_number with_pools with_brigade registered_as pool_of_brigade pool_of_pool
from_init = (
  second_call,
  (refl, record { phase = refl; name = 2; next = 3; named = record { new = omega arith; given = omega arith; limit = omega arith }; is = refl }),
  goes never_creates (instr.Ret Success) second_call cleans_at_last (Main [] ∷ (Execute None ∷ [])) (Done ∷ (Faults F2 ∷ [])) refl refl refl refl from_main,
)

from_request : IsOpenRun never_creates (rests_after first_call.now) (Begin ∷ (Start ∷ (Execute None ∷ (Main [] ∷ (Execute None ∷ [])))))
    (Done ∷ (Done ∷ (Returns Success [] ∷ (Done ∷ (Faults F2 ∷ []))))) cleans_at_last
unfolding IsOpenRun IsMove executed current planted created upd is_spent lacks_names is_live is_under any_below named_at is_own_at has_pool_at is_stray keeps_stray cursor_fault
    place_of_cursor holder_of
    variable_of found_below buckets_before buckets_from set_brigade set_cursor set_loose set_pool set_number with_pools with_brigade registered_as pool_of_brigade pool_of_pool
from_request = (request_after first_call.now, (refl, record { phase = refl; none = refl; names = refl; is = refl }), from_init)

cleans_none_run : IsOpenRun never_creates (record { phase = Due; lasting = none_lasts; now = opened }) (Start ∷ (Execute None ∷ (Begin ∷ (Start ∷ (Execute None ∷ (Main [] ∷ (Execute None ∷ [])))))))
    (Done ∷ (Returns Success [] ∷ (Done ∷ (Done ∷ (Returns Success [] ∷ (Done ∷ (Faults F2 ∷ []))))))) cleans_at_last
unfolding IsOpenRun IsMove executed current planted created upd is_spent lacks_names is_live is_under any_below named_at is_own_at has_pool_at is_stray keeps_stray cursor_fault
    place_of_cursor holder_of
    variable_of found_below buckets_before buckets_from set_brigade set_cursor set_loose set_pool set_number with_pools with_brigade registered_as pool_of_brigade pool_of_pool
cleans_none_run = (
  first_call,
  (refl, record { phase = refl; name = 1; next = 2; named = record { new = omega arith; given = omega arith; limit = omega arith }; is = refl }),
  goes never_creates (instr.Ret Success) first_call cleans_at_last (Begin ∷ (Start ∷ (Execute None ∷ (Main [] ∷ (Execute None ∷ [])))))
      (Done ∷ (Done ∷ (Returns Success [] ∷ (Done ∷ (Faults F2 ∷ []))))) refl refl refl refl from_request,
)

cleans_none : InstancesAreSafe never_creates → ⊥
unfolding AreHarmless
cleans_none safe = (safe opened (Start ∷ (Execute None ∷ (Begin ∷ (Start ∷ (Execute None ∷ (Main [] ∷ (Execute None ∷ [])))))))
    (Done ∷ (Returns Success [] ∷ (Done ∷ (Done ∷ (Returns Success [] ∷ (Done ∷ (Faults F2 ∷ []))))))) cleans_at_last is_opened cleans_none_run).1.1.1.1.1.1.0

-- A module that keeps what another filter lends.

abbrev lent : NamedBucket
lent = record { name = 6; bucket = record { kind = kind.File; content = content.Range 1 0 5; home = home.Pool 2 } }

abbrev made : Standing
made = record first_call { now = record (do_create keeps_a_file 0 first_call.now) { pc = 1 } }

abbrev beginning : Standing
beginning = init_after 3 4 2 made.now

abbrev serving : Standing
serving = record {
  phase = Runs;
  lasting = record { calls = 4 ∷ []; pools = 2 ∷ [] };
  now = called 4 7 3 (record (do_return beginning.now) { instance = set_in (var.Live (record { name = 5; on = None; mark = Usable; items = lent ∷ [] })) (do_return beginning.now).instance });
}

fine_made : AllFine made.now
unfolding AllFine Fine set_brigade
fine_made b = elim (upd_either first_call.now.instance.brigades 0 b (var.Live (record { name = 2; on = pool_named first_call.now (pool_of_brigade keeps_a_file 0); mark = Usable; items = [] }))) [
  | inl e ↦ subst Fine (sym e.1) (refl, λ n is. sym (some_is 2 n is))
  | inr e ↦ subst Fine (sym e.1) (all_null b)
] where
  some_is : (x y : ℕ) → Some x ≡ Some y → x ≡ y
  some_is x y e = cc

fine_resting : AllFine (do_return beginning.now)
unfolding AllFine
fine_resting = fine_return beginning.now (fine_return made.now fine_made)

only_two : (n : ℕ) → ((2 == n) || false) ≡ true → 2 ≡ n
only_two n h = eqb-true 2 n (first (2 == n) h) where
  first : (t : Bool) → (t || false) ≡ true → t ≡ true
  first true h = refl
  first false h = cc

some_at : (x y : ℕ) → Some x ≡ Some y → x ≡ y
some_at x y e = cc

none_at : (y : ℕ) → None ≡ Some y → ⊥
none_at y e = cc

two_is_others : IsOthers (do_return beginning.now) 2
unfolding IsOpenRun IsMove executed current planted created upd is_spent lacks_names is_live is_under any_below named_at is_own_at has_pool_at is_stray keeps_stray cursor_fault
    place_of_cursor holder_of
    variable_of found_below buckets_before buckets_from set_brigade set_cursor set_loose set_pool set_number with_pools with_brigade registered_as pool_of_brigade pool_of_pool
two_is_others = record {
  live = refl;
  above = λ k n e. by_ref k n e;
  under = λ q n e. absurd (cc);
} where
  by_ref : (k : PoolRef) (n : ℕ) → pool_named (do_return beginning.now) k ≡ Some n → is_under (do_return beginning.now).shared.pools 2 n ≡ false
  by_ref pool.Conn n e = subst (λ (m : ℕ). is_under (do_return beginning.now).shared.pools 2 m ≡ false) (some_at 1 n e) refl
  by_ref pool.Req n e = subst (λ (m : ℕ). is_under (do_return beginning.now).shared.pools 2 m ≡ false) (some_at 3 n e) refl
  by_ref (pool.Own q) n e = absurd (none_at n e)

lent_counts : (n : ℕ) → count_named n (lent ∷ []) ≡ cond (6 == n) 1 0
lent_counts n = (let nothing = count_none n in let all = count_cons n lent [] in omega arith)

at_most : (t : Bool) → cond t 1 0 ≤ 1
at_most true = omega arith
at_most false = omega arith

abbrev LentMayCome : NamedBucket → Type 0
LentMayCome x = may_come (record { calls = 4 ∷ []; pools = 2 ∷ [] }) (do_return beginning.now) x.bucket.home ≡ true

serving_begins : Calls keeps_a_file (lent ∷ []) (rests_after beginning.now) serving
unfolding IsOpenRun IsMove executed current planted created upd is_spent lacks_names is_live is_under any_below named_at is_own_at has_pool_at is_stray keeps_stray cursor_fault
    place_of_cursor holder_of
    variable_of found_below buckets_before buckets_from set_brigade set_cursor set_loose set_pool set_number with_pools with_brigade registered_as pool_of_brigade pool_of_pool Fine AllFine
serving_begins = record {
  phase = refl;
  request = refl;
  name = 4;
  next = 7;
  named = record { new = omega arith; given = omega arith; limit = omega arith };
  waiting = [];
  pools = 2 ∷ [];
  others = λ n lasts. subst (IsOthers (do_return beginning.now)) (only_two n lasts) two_is_others;
  ordered = refl;
  homes = All-cons LentMayCome lent [] refl (All-nil LentMayCome);
  come = record {
    kinds = All-cons (λ x. FitsKind x.bucket) lent [] (record { holds = refl; lives = tt }) (All-nil (λ x. FitsKind x.bucket));
    once = λ n. (let none = fine_counts (do_return beginning.now) fine_resting refl n in let few = lent_counts n in let most = at_most (6 == n) in omega arith);
    given = λ n le. lent_counts n ∙ ap (λ (t : Bool). cond t 1 0) (ne_eqb 6 n (λ e. absurd (omega (arith, e, le))));
  };
  brigade = 5;
  given = omega arith;
  apart = λ b e. absurd (let two = (fine_resting b).1 5 e in omega (arith, two));
  is = refl;
}

abbrev after : Instr → Standing → Standing
after i s = (executed keeps_a_file None i s).1

abbrev at_first : Standing
at_first = after (instr.First 0 8) serving

abbrev at_end_test : Standing
at_end_test = after (instr.JEnd 0 6) at_first

abbrev at_kind : Standing
at_kind = after (instr.JKind 0 File 7) at_end_test

abbrev taken : Standing
taken = after (instr.Unlink 0) at_kind

abbrev kept_there : Standing
kept_there = after (instr.Tail 0 0) taken

abbrev keeps_at_last : Standing
keeps_at_last = record kept_there { phase = Broken }

keeps_5 : IsOpenRun keeps_a_file kept_there (Execute None ∷ []) (Faults F6 ∷ []) keeps_at_last
unfolding IsOpenRun IsMove executed current planted created upd is_spent lacks_names is_live is_under any_below named_at is_own_at has_pool_at is_stray keeps_stray cursor_fault
    place_of_cursor holder_of
    variable_of found_below buckets_before buckets_from set_brigade set_cursor set_loose set_pool set_number with_pools with_brigade registered_as pool_of_brigade pool_of_pool
keeps_5 = ends keeps_a_file (instr.Ret Success) kept_there F6 refl refl refl

keeps_4 : IsOpenRun keeps_a_file taken (Execute None ∷ (Execute None ∷ [])) (Done ∷ (Faults F6 ∷ [])) keeps_at_last
unfolding IsOpenRun IsMove executed current planted created upd is_spent lacks_names is_live is_under any_below named_at is_own_at has_pool_at is_stray keeps_stray cursor_fault
    place_of_cursor holder_of
    variable_of found_below buckets_before buckets_from set_brigade set_cursor set_loose set_pool set_number with_pools with_brigade registered_as pool_of_brigade pool_of_pool
keeps_4 = goes keeps_a_file (instr.Tail 0 0) taken keeps_at_last (Execute None ∷ []) (Faults F6 ∷ []) refl refl refl refl keeps_5

keeps_3 : IsOpenRun keeps_a_file at_kind (Execute None ∷ (Execute None ∷ (Execute None ∷ []))) (Done ∷ (Done ∷ (Faults F6 ∷ []))) keeps_at_last
unfolding IsOpenRun IsMove executed current planted created upd is_spent lacks_names is_live is_under any_below named_at is_own_at has_pool_at is_stray keeps_stray cursor_fault
    place_of_cursor holder_of
    variable_of found_below buckets_before buckets_from set_brigade set_cursor set_loose set_pool set_number with_pools with_brigade registered_as pool_of_brigade pool_of_pool
keeps_3 = goes keeps_a_file (instr.Unlink 0) at_kind keeps_at_last (Execute None ∷ (Execute None ∷ [])) (Done ∷ (Faults F6 ∷ [])) refl refl refl refl keeps_4

keeps_2 : IsOpenRun keeps_a_file at_end_test (Execute None ∷ (Execute None ∷ (Execute None ∷ (Execute None ∷ [])))) (Done ∷ (Done ∷ (Done ∷ (Faults F6 ∷ [])))) keeps_at_last
unfolding IsOpenRun IsMove executed current planted created upd is_spent lacks_names is_live is_under any_below named_at is_own_at has_pool_at is_stray keeps_stray cursor_fault
    place_of_cursor holder_of
    variable_of found_below buckets_before buckets_from set_brigade set_cursor set_loose set_pool set_number with_pools with_brigade registered_as pool_of_brigade pool_of_pool
keeps_2 = goes keeps_a_file (instr.JKind 0 File 7) at_end_test keeps_at_last (Execute None ∷ (Execute None ∷ (Execute None ∷ []))) (Done ∷ (Done ∷ (Faults F6 ∷ []))) refl refl refl refl keeps_3

keeps_1 : IsOpenRun keeps_a_file at_first (Execute None ∷ (Execute None ∷ (Execute None ∷ (Execute None ∷ (Execute None ∷ []))))) (Done ∷ (Done ∷ (Done ∷ (Done ∷ (Faults F6 ∷ []))))) keeps_at_last
unfolding IsOpenRun IsMove executed current planted created upd is_spent lacks_names is_live is_under any_below named_at is_own_at has_pool_at is_stray keeps_stray cursor_fault
    place_of_cursor holder_of
    variable_of found_below buckets_before buckets_from set_brigade set_cursor set_loose set_pool set_number with_pools with_brigade registered_as pool_of_brigade pool_of_pool
keeps_1 = goes keeps_a_file (instr.JEnd 0 6) at_first keeps_at_last (Execute None ∷ (Execute None ∷ (Execute None ∷ (Execute None ∷ []))))
    (Done ∷ (Done ∷ (Done ∷ (Faults F6 ∷ [])))) refl refl refl refl keeps_2

keeps_0 : IsOpenRun keeps_a_file serving (Execute None ∷ (Execute None ∷ (Execute None ∷ (Execute None ∷ (Execute None ∷ (Execute None ∷ []))))))
    (Done ∷ (Done ∷ (Done ∷ (Done ∷ (Done ∷ (Faults F6 ∷ [])))))) keeps_at_last
unfolding IsOpenRun IsMove executed current planted created upd is_spent lacks_names is_live is_under any_below named_at is_own_at has_pool_at is_stray keeps_stray cursor_fault
    place_of_cursor holder_of
    variable_of found_below buckets_before buckets_from set_brigade set_cursor set_loose set_pool set_number with_pools with_brigade registered_as pool_of_brigade pool_of_pool
keeps_0 = goes keeps_a_file (instr.First 0 8) serving keeps_at_last (Execute None ∷ (Execute None ∷ (Execute None ∷ (Execute None ∷ (Execute None ∷ [])))))
    (Done ∷ (Done ∷ (Done ∷ (Done ∷ (Faults F6 ∷ []))))) refl refl refl refl keeps_1

keeps_main : IsOpenRun keeps_a_file (rests_after beginning.now) (Main (lent ∷ []) ∷ (Execute None ∷ (Execute None ∷ (Execute None ∷ (Execute None ∷ (Execute None ∷ (Execute None ∷ [])))))))
    (Done ∷ (Done ∷ (Done ∷ (Done ∷ (Done ∷ (Done ∷ (Faults F6 ∷ []))))))) keeps_at_last
unfolding IsOpenRun IsMove executed current planted created upd is_spent lacks_names is_live is_under any_below named_at is_own_at has_pool_at is_stray keeps_stray cursor_fault
    place_of_cursor holder_of
    variable_of found_below buckets_before buckets_from set_brigade set_cursor set_loose set_pool set_number with_pools with_brigade registered_as pool_of_brigade pool_of_pool
keeps_main = (serving, (refl, serving_begins), keeps_0)

keeps_init : IsOpenRun keeps_a_file (request_after made.now) (Start ∷ (Execute None ∷ (Main (lent ∷ []) ∷ (Execute None ∷ (Execute None
    ∷ (Execute None ∷ (Execute None ∷ (Execute None ∷ (Execute None ∷ []))))))))) (Done ∷ (Returns Success [] ∷ (Done ∷ (Done ∷ (Done ∷ (Done ∷ (Done ∷ (Done ∷ (Faults F6 ∷ []))))))))) keeps_at_last
unfolding IsOpenRun IsMove executed current planted created upd is_spent lacks_names is_live is_under any_below named_at is_own_at has_pool_at is_stray keeps_stray cursor_fault
    place_of_cursor holder_of
    variable_of found_below buckets_before buckets_from set_brigade set_cursor set_loose set_pool set_number with_pools with_brigade registered_as pool_of_brigade pool_of_pool
keeps_init = (
  beginning,
  (
    refl,
    record {
      phase = refl;
      name = 3;
      next = 4;
      named = record { new = omega arith; given = omega arith; limit = omega arith };
      is = refl;
    },
  ),
  goes keeps_a_file (instr.Ret Success) beginning keeps_at_last
      (Main (lent ∷ []) ∷ (Execute None ∷ (Execute None ∷ (Execute None ∷ (Execute None ∷ (Execute None ∷ (Execute None ∷ [])))))))
      (Done ∷ (Done ∷ (Done ∷ (Done ∷ (Done ∷ (Done ∷ (Faults F6 ∷ []))))))) refl refl refl refl keeps_main,
)

keeps_request : IsOpenRun keeps_a_file (rests_after made.now) (Begin ∷ (Start ∷ (Execute None ∷ (Main (lent ∷ []) ∷ (Execute None ∷ (Execute None ∷ (Execute None
    ∷ (Execute None ∷ (Execute None ∷ (Execute None ∷ [])))))))))) (Done ∷ (Done ∷ (Returns Success [] ∷ (Done ∷ (Done ∷ (Done ∷ (Done ∷ (Done ∷ (Done ∷ (Faults F6 ∷ [])))))))))) keeps_at_last
unfolding IsOpenRun IsMove executed current planted created upd is_spent lacks_names is_live is_under any_below named_at is_own_at has_pool_at is_stray keeps_stray cursor_fault
    place_of_cursor holder_of
    variable_of found_below buckets_before buckets_from set_brigade set_cursor set_loose set_pool set_number with_pools with_brigade registered_as pool_of_brigade pool_of_pool
keeps_request = (request_after made.now, (refl, record { phase = refl; none = refl; names = refl; is = refl }), keeps_init)

keeps_open : IsOpenRun keeps_a_file made (Execute None ∷ (Begin ∷ (Start ∷ (Execute None ∷ (Main (lent ∷ []) ∷ (Execute None ∷ (Execute None ∷ (Execute None ∷ (Execute None ∷ (Execute None
    ∷ (Execute None ∷ []))))))))))) (Returns Success [] ∷ (Done ∷ (Done ∷ (Returns Success [] ∷ (Done ∷ (Done ∷ (Done ∷ (Done ∷ (Done ∷ (Done ∷ (Faults F6 ∷ []))))))))))) keeps_at_last
unfolding IsOpenRun IsMove executed current planted created upd is_spent lacks_names is_live is_under any_below named_at is_own_at has_pool_at is_stray keeps_stray cursor_fault
    place_of_cursor holder_of
    variable_of found_below buckets_before buckets_from set_brigade set_cursor set_loose set_pool set_number with_pools with_brigade registered_as pool_of_brigade pool_of_pool
keeps_open = goes keeps_a_file (instr.Ret Success) made keeps_at_last (Begin ∷ (Start ∷ (Execute None ∷ (Main (lent ∷ []) ∷ (Execute None ∷ (Execute None ∷ (Execute None ∷ (Execute None
    ∷ (Execute None ∷ (Execute None ∷ [])))))))))) (Done ∷ (Done ∷ (Returns Success [] ∷ (Done ∷ (Done ∷ (Done ∷ (Done ∷ (Done ∷ (Done ∷ (Faults F6 ∷ [])))))))))) refl refl refl refl keeps_request

keeps_run : IsOpenRun keeps_a_file (record { phase = Due; lasting = none_lasts; now = opened }) (Start ∷ (Execute None ∷ (Execute None
    ∷ (Begin ∷ (Start ∷ (Execute None ∷ (Main (lent ∷ []) ∷ (Execute None ∷ (Execute None ∷ (Execute None ∷ (Execute None ∷ (Execute None ∷ (Execute None ∷ [])))))))))))))
    (Done ∷ (Done ∷ (Returns Success [] ∷ (Done ∷ (Done ∷ (Returns Success [] ∷ (Done ∷ (Done ∷ (Done ∷ (Done ∷ (Done ∷ (Done ∷ (Faults F6 ∷ []))))))))))))) keeps_at_last
unfolding IsOpenRun IsMove executed current planted created upd is_spent lacks_names is_live is_under any_below named_at is_own_at has_pool_at is_stray keeps_stray cursor_fault
    place_of_cursor holder_of
    variable_of found_below buckets_before buckets_from set_brigade set_cursor set_loose set_pool set_number with_pools with_brigade registered_as pool_of_brigade pool_of_pool
keeps_run = (
  first_call,
  (refl, record { phase = refl; name = 1; next = 2; named = record { new = omega arith; given = omega arith; limit = omega arith }; is = refl }),
  goes keeps_a_file (instr.BCreate 0) first_call keeps_at_last
      (Execute None ∷ (Begin ∷ (Start ∷ (Execute None ∷ (Main (lent ∷ []) ∷ (Execute None ∷ (Execute None ∷ (Execute None ∷ (Execute None ∷ (Execute None ∷ (Execute None ∷ [])))))))))))
      (Returns Success [] ∷ (Done ∷ (Done ∷ (Returns Success [] ∷ (Done ∷ (Done ∷ (Done ∷ (Done ∷ (Done ∷ (Done ∷ (Faults F6 ∷ []))))))))))) refl refl refl refl keeps_open,
)

keeps_what_is_lent : InstancesAreSafe keeps_a_file → ⊥
unfolding AreHarmless
keeps_what_is_lent safe = (safe opened (Start ∷ (Execute None ∷ (Execute None ∷ (Begin ∷ (Start ∷ (Execute None ∷ (Main (lent ∷ []) ∷ (Execute None
    ∷ (Execute None ∷ (Execute None ∷ (Execute None ∷ (Execute None ∷ (Execute None ∷ []))))))))))))) (Done ∷ (Done ∷ (Returns Success []
    ∷ (Done ∷ (Done ∷ (Returns Success [] ∷ (Done ∷ (Done ∷ (Done ∷ (Done ∷ (Done ∷ (Done ∷ (Faults F6 ∷ []))))))))))))) keeps_at_last is_opened keeps_run).1.1.1.1.1.1.1.1.1.1.1.1.0

pub beside_rows : BesideRows
beside_rows = record {
  passes_on = typed_is_safe identity (given (resting true) whole) identity_module whole_bounded (typed_of identity (given (resting true) whole) identity_answers.accepted);
  cleans_none = cleans_none;
  keeps_what_is_lent = keeps_what_is_lent;
}
