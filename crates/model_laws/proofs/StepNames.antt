-- A step without a fault keeps names.
use Rattle.std.proofs.Common.{◌≡◌, ℕ, ◌+◌, ◌^◌, ◌<◌, ◌≤◌, Bool, true, false, ◌||◌, ◌==◌, cond, List, [], ◌++◌, map, Option, Some, None, refl, sym, ap, subst, arith}
use Rattle.std.proofs.lemmas.Bool.Decides.{nat_tests}
use Rattle.module_code.specs.declared.instr.Instr.{Instr}
use Rattle.module_code.specs.declared.instr.Instr.TheVariants as instr
use Rattle.module_code.specs.Program.{Program, pool_of_brigade}
use Rattle.run_model.specs.declared.bucket.NamedBucket.{NamedBucket}
use Rattle.run_model.specs.declared.bucket.Mark.TheVariants.{Usable}
use Rattle.run_model.specs.declared.bucket.PoolVar.TheVariants as poolvar
use Rattle.run_model.specs.declared.bucket.BrigadeVar.{BrigadeVar}
use Rattle.run_model.specs.declared.bucket.BrigadeVar.TheVariants as var
use Rattle.run_model.specs.Indexed.{upd}
use Rattle.run_model.specs.declared.payload.Payload.{Payload}
use Rattle.run_model.specs.Pools.{Pools, is_under, created}
use Rattle.run_model.specs.State.{Configuration, items_of, set_pool, with_pools, set_brigade, set_number, pool_named}
use Rattle.run_model.specs.Clearing.{run_down}
use Rattle.run_model.specs.Cursors.{CursorPlace, Within, at_cursor}
use Rattle.run_model.specs.BucketSteps.{do_next, aside_into, got}
use Rattle.run_model.specs.declared.effect.Effect.{Effect}
use Rattle.run_model.specs.declared.effect.Effect.TheVariants as effect
use Rattle.run_model.specs.declared.effect.Side.TheVariants.{AtTail, AtHead}
use Rattle.run_model.specs.EffectOf.{effect_of}
use Rattle.run_model.specs.Steps.{Choice, do_effect, made_of, number_of, names_for, value_of, step, do_create, do_clean, do_concat, do_pass, do_return, cleaned, with_items, handed_over, returned_var}
use Rattle.run_model.specs.Steps.{do_pcreate, label_registered, label_killed, text_of, aside_named, saved_into, made_on, names_of, pool_names_of, is_spent, lacks_names}
use Rattle.run_model.specs.Sound.{NamesStep, sum_below, count_named}
use Rattle.model_laws.specs.Laws.{StepGivesNames, StepKeepsNames}
use Rattle.run_model.proofs.Updates.{upd_off}
use Rattle.run_model.proofs.Sums.{sum_below_upd}
use Rattle.model_laws.proofs.PoolsGone.{pool_emptied, on_emptied}
use Rattle.model_laws.proofs.Operands.{created_below, TwoBrigades, two_brigades, saved_brigades, split_brigades, parted_below, source_below}
use Rattle.model_laws.proofs.NamesStay.{names_stay, keeps_names, keeps_slots, went_names, placed_names}
use Rattle.run_model.proofs.Names.{count_none, count_append, count_map, Carried, Fewer, carried_same, fewer_same, fewer_none, cleaned_fewer, handed_fewer, returned_fewer, filled_carried, filled_items}
use Rattle.run_model.proofs.Names.{at_each, at_two}
use Rattle.run_model.proofs.CursorPlaces.{stands}
use Rattle.model_laws.proofs.SlotNames.{cursor_names, unlink_names, delete_names, insert_names, before_names, bsplit_names, bpart_names, split_names, read_names, make_names, aside_names}
use Rattle.model_laws.proofs.NamedPools.{on_named, made_under_named, put_keeps}

-- names that are not spent stay below the limit
pub not_spent : (next names : ℕ) → is_spent next names ≡ false → next + names < 2 ^ 64
unfolding is_spent
not_spent next names h = grind (arith, nat_tests)

-- the names that an instruction gives out are there
lasting : (r : Configuration) (i : Instr) → lacks_names r i ≡ false → r.shared.next + names_of r i < 2 ^ 64
unfolding lacks_names
lasting r i h = not_spent r.shared.next (names_of r i) (first (is_spent r.shared.next (names_of r i)) (is_spent r.shared.pools.next (pool_names_of i)) h) where
  first : (a b : Bool) → (a || b) ≡ false → a ≡ false
  first true b h = absurd (cc)
  first false b h = refl

below_limit : (r : Configuration) (i : Instr) → lacks_names r i ≡ false → r.shared.next < 2 ^ 64
below_limit r i last = let all : r.shared.next + names_of r i < 2 ^ 64 = lasting r i last in omega arith

create_names : (p : Program) (o : ℕ) (r : Configuration) → o < 9 → r.shared.next + 1 < 2 ^ 64 → NamesStep r (do_create p o r)
unfolding set_brigade
create_names p o r lt limit =
    placed_names r (do_create p o r) o (record { name = r.shared.next; on = pool_named r (pool_of_brigade p o); mark = Usable; items = [] }) lt refl
    (λ n. omega arith) (omega arith) (omega arith) limit (λ n h. count_none n) (λ n. rw (count_none n) (omega arith)) (λ n h. count_none n)

clean_names : (b : ℕ) (r : Configuration) → r.shared.next < 2 ^ 64 → NamesStep r (do_clean b r)
unfolding set_brigade
clean_names b r limit =
    keeps_slots r (do_clean b r) (λ n. omega arith) (at_each Fewer r.instance.brigades b (cleaned (r.instance.brigades b)) (cleaned_fewer (r.instance.brigades b)) fewer_same) (omega arith) limit

pub pass_names : (b : ℕ) (r : Configuration) → r.shared.next < 2 ^ 64 → NamesStep r (do_pass b r)
unfolding set_brigade
pass_names b r limit =
    keeps_slots r (do_pass b r) (λ n. omega arith) (at_each Fewer r.instance.brigades b (handed_over (r.instance.brigades b)) (handed_fewer (r.instance.brigades b)) fewer_same) (omega arith) limit

pub return_names : (r : Configuration) → r.shared.next < 2 ^ 64 → NamesStep r (do_return r)
return_names r limit =
    keeps_slots r (do_return r) (λ n. rw (count_none n) (omega arith)) (λ b. left b (b == 8)) (omega arith) limit where
      left : (b : ℕ) (is_in : Bool) → Fewer (r.instance.brigades b) (cond is_in var.Null (returned_var r.call.name (r.instance.brigades b)))
      left b true = fewer_none _ _ (record { name = λ n h. absurd (cc); null = λ h. refl }) refl
      left b false = returned_fewer r.call.name (r.instance.brigades b)

-- what one variable loses, as these items of the same names, the other gets
moved : (g : ℕ → BrigadeVar) (a b n : ℕ) (items : List NamedBucket) → TwoBrigades a b → count_named n items ≡ count_named n (items_of (g b))
    → sum_below 9 (λ k. count_named n (items_of (upd (upd g b (with_items [] (g b))) a (with_items (items_of (g a) ++ items) (g a)) k))) ≤ sum_below 9 (λ k. count_named n (items_of (g k)))
moved g a b n items two same =
    let emptied : BrigadeVar = with_items [] (g b) in
    let filled : BrigadeVar = with_items (items_of (g a) ++ items) (g a) in
    let first : sum_below 9 (λ k. count_named n (items_of (upd (upd g b emptied) a filled k))) + count_named n (items_of (upd g b emptied a)) ≡ sum_below 9
    (λ k. count_named n (items_of (upd g b emptied k))) + count_named n (items_of filled) = sum_below_upd 9 a (upd g b emptied) filled (λ x. count_named n (items_of x)) two.first in
    let second : sum_below 9 (λ k. count_named n (items_of (upd g b emptied k))) + count_named n (items_of (g b)) ≡ sum_below 9 (λ k. count_named n (items_of (g k))) + count_named n
    (items_of emptied) = sum_below_upd 9 b g emptied (λ x. count_named n (items_of x)) two.second in
    let there : count_named n (items_of (upd g b emptied a)) ≡ count_named n (items_of (g a)) = ap (λ x. count_named n (items_of x)) (upd_off g b a emptied two.differ) in
    let none : count_named n (items_of emptied) ≤ count_named n [] = filled_items n [] (g b) in
    let both : count_named n (items_of filled) ≤ count_named n (items_of (g a) ++ items) = filled_items n (items_of (g a) ++ items) (g a) in
    omega (arith, count_none n, count_append n (items_of (g a)) items, same)

-- these items, of the names of those of b, go to the tail of a
moved_names : (items : List NamedBucket) (a b : ℕ) (r new : Configuration) → ((n : ℕ) → count_named n items ≡ count_named n (items_of (r.instance.brigades b))) → TwoBrigades a b
    → new.instance.brigades ≡ upd (upd r.instance.brigades b (with_items [] (r.instance.brigades b))) a (with_items (items_of (r.instance.brigades a) ++ items) (r.instance.brigades a))
    → new.call ≡ r.call → new.shared.next ≡ r.shared.next → r.shared.next < 2 ^ 64 → NamesStep r new
moved_names items a b r new same two brigades call next limit =
    keeps_names r new
    (λ n. rw (call, brigades) (let m = moved r.instance.brigades a b n items two (same n) in omega arith))
    (λ k. rw brigades (at_two Carried r.instance.brigades b a (with_items [] (r.instance.brigades b)) (with_items (items_of (r.instance.brigades a) ++ items) (r.instance.brigades a))
    (filled_carried [] (r.instance.brigades b)) (filled_carried (items_of (r.instance.brigades a) ++ items) (r.instance.brigades a)) carried_same k))
    (omega arith) (subst (λ (k : ℕ). k < 2 ^ 64) (sym next) limit)

concat_names : (a b : ℕ) (r : Configuration) → TwoBrigades a b → r.shared.next < 2 ^ 64 → NamesStep r (do_concat a b r)
unfolding set_brigade
concat_names a b r two limit = moved_names (items_of (r.instance.brigades b)) a b r (do_concat a b r) (λ n. refl) two refl refl refl limit

save_names : (o b target : ℕ) (r : Configuration) → TwoBrigades o b → r.shared.next < 2 ^ 64 → NamesStep r (saved_into o b target r)
unfolding set_brigade with_pools
save_names o b target r two limit =
    moved_names (map (aside_named r.shared.pools target) (items_of (r.instance.brigades b))) o b r (saved_into o b target r)
    (λ n. count_map n (aside_named r.shared.pools target) (λ x. refl) (items_of (r.instance.brigades b))) two refl refl refl limit

-- where no brigade and no bucket changes, and no name is given out
pub same_slots : (r new : Configuration) → new.instance.brigades ≡ r.instance.brigades → new.call.loose ≡ r.call.loose → new.shared.next ≡ r.shared.next → r.shared.next < 2 ^ 64 → NamesStep r new
same_slots r new brigades loose next limit =
    keeps_slots r new (λ n. rw loose (omega arith)) (λ b. subst (λ (g : ℕ → BrigadeVar). Fewer (r.instance.brigades b) (g b)) (sym brigades) (fewer_same (r.instance.brigades b))) (omega arith)
    (subst (λ (k : ℕ). k < 2 ^ 64) (sym next) limit)

pcreate_names : (p : Program) (q : ℕ) (r : Configuration) → r.shared.next < 2 ^ 64 → NamesStep r (do_pcreate p q r)
unfolding set_pool with_pools
pcreate_names p q r limit = made_under_named (NamesStep r) p q r (same_slots r r refl refl refl limit)
    (λ parent e. same_slots r (set_pool q (poolvar.Made r.shared.pools.next) (with_pools (created parent r.shared.pools) r)) refl refl refl limit)

emptied_names : (left : Pools Payload) (n : ℕ) (r : Configuration) → r.shared.next < 2 ^ 64 → NamesStep r (pool_emptied left n r)
unfolding run_down with_pools
emptied_names left n r limit = went_names (is_under r.shared.pools n) r (pool_emptied left n r) (λ b. refl) refl refl limit

next_names : (d : ℕ) (s : CursorPlace) (r : Configuration) → r.shared.next < 2 ^ 64 → NamesStep r (do_next d s r)
next_names d (Within b x) r limit = cursor_names d _ r r (same_slots r r refl refl refl limit)
next_names d s r limit = same_slots r r refl refl refl limit

got_names : (n : ℕ) (o : Option ℕ) (r : Configuration) → r.shared.next < 2 ^ 64 → NamesStep r (got n o r)
unfolding set_number
got_names n None r limit = same_slots r r refl refl refl limit
got_names n (Some byte) r limit = same_slots r (set_number n byte r) refl refl refl limit

-- the effects that write into a brigade which an operand names
abbrev names_brigade : Effect → Bool
names_brigade (effect.MakeBrigade o) = true
names_brigade (effect.Concat a b) = true
names_brigade (effect.Save o b) = true
names_brigade (effect.SplitBrigade b c a) = true
names_brigade (effect.PartBrigade b x c) = true
names_brigade (effect.Insert side b c) = true
names_brigade e = false

start : (next names : ℕ) → next + names < 2 ^ 64 → next < 2 ^ 64
start next names last = omega (arith, last)

gives : (p : Program) (choice : Choice) (e : Effect) (r : Configuration) → names_brigade e ≡ false → r.shared.next + names_for r e < 2 ^ 64 → NamesStep r (do_effect p choice e r)
unfolding set_number with_pools
gives p choice effect.Nothing r other last = same_slots r r refl refl refl (start r.shared.next 0 last)
gives p choice (effect.MakePool q) r other last = pcreate_names p q r (start r.shared.next 0 last)
gives p choice (effect.EmptyPool k q) r other last =
    let limit = start r.shared.next 0 last in on_emptied (NamesStep r) k q r (same_slots r r refl refl refl limit) (λ n left is so. emptied_names left n r limit)
gives p choice (effect.Register k q t) r other last =
    let limit = start r.shared.next 0 last in
    on_named (NamesStep r) (label_registered k (text_of p t)) (pool_named r q) r (same_slots r r refl refl refl limit) (λ n is. same_slots r _ refl refl refl limit)
gives p choice (effect.Kill q t) r other last =
    let limit = start r.shared.next 0 last in on_named (NamesStep r) (label_killed (text_of p t)) (pool_named r q) r (same_slots r r refl refl refl limit) (λ n is. same_slots r _ refl refl refl limit)
gives p choice (effect.Clean b) r other last = clean_names b r (start r.shared.next 0 last)
gives p choice (effect.Pass b) r other last = pass_names b r (start r.shared.next 0 last)
gives p choice (effect.First c b) r other last = cursor_names c _ r r (same_slots r r refl refl refl (start r.shared.next 0 last))
gives p choice (effect.Next d c) r other last = next_names d (at_cursor r c) r (start r.shared.next 0 last)
gives p choice (effect.Unlink c) r other last = unlink_names (at_cursor r c) r (stands r (r.call.cursors c)) (start r.shared.next 0 last)
gives p choice (effect.Delete c) r other last = delete_names (at_cursor r c) r (stands r (r.call.cursors c)) (start r.shared.next 0 last)
gives p choice (effect.Before c d) r other last = before_names (at_cursor r c) (at_cursor r d) r (stands r (r.call.cursors c)) (stands r (r.call.cursors d)) (start r.shared.next 0 last)
gives p choice (effect.Make c source) r other last = make_names c (made_of p r source) r last
gives p choice (effect.Split c x) r other last = split_names (value_of r x) (at_cursor r c) r (stands r (r.call.cursors c)) last
gives p choice (effect.Aside c q) r other last =
    let limit = start r.shared.next 0 last in
    on_named (NamesStep r) (aside_into (at_cursor r c)) (pool_named r q) r (same_slots r r refl refl refl limit) (λ n is. aside_names (at_cursor r c) n r (stands r (r.call.cursors c)) limit)
gives p choice (effect.Read c) r other last = read_names choice.given (at_cursor r c) r (stands r (r.call.cursors c)) last
gives p choice (effect.Number n number) r other last = got_names n (number_of r n number) r (start r.shared.next 0 last)
gives p choice (effect.Put x) r other last = let limit = start r.shared.next 0 last in put_keeps (NamesStep r) x r (same_slots r r refl refl refl limit) (λ buffer. same_slots r _ refl refl refl limit)
gives p choice effect.ClearBuffer r other last = same_slots r _ refl refl refl (start r.shared.next 0 last)
gives p choice effect.Return r other last = return_names r (start r.shared.next 0 last)
gives p choice effect.Leave r other last = same_slots r _ refl refl refl (start r.shared.next 0 last)
gives p choice e r other last = absurd (cc)

pub step_gives : StepGivesNames
step_gives p choice (instr.BCreate o) r may = create_names p o r (created_below p may.proper o may.fit) (lasting r (instr.BCreate o) may.names_last)
step_gives p choice (instr.BConcat a b) r may = concat_names a b r (two_brigades p may.proper a b may.fit) (below_limit r (instr.BConcat a b) may.names_last)
step_gives p choice (instr.BSave o b) r may =
    let limit = below_limit r (instr.BSave o b) may.names_last in
    on_named (NamesStep r) (saved_into o b) (made_on (r.instance.brigades o)) r (same_slots r r refl refl refl limit)
    (λ target is. save_names o b target r (saved_brigades p may.proper o b may.fit) limit)
step_gives p choice (instr.BSplit b c a) r may =
    (let two = split_brigades p may.proper b c a may.fit in bsplit_names b (at_cursor r c) a r two.first two.second (below_limit r (instr.BSplit b c a) may.names_last))
step_gives p choice (instr.BPart b x c l) r may = bpart_names b (value_of r x) c r (parted_below p may.proper b x c l may.fit) (lasting r (instr.BPart b x c l) may.names_last)
step_gives p choice (instr.Tail b c) r may = insert_names AtTail b (at_cursor r c) r (source_below p may.proper b _ may.fit) (stands r (r.call.cursors c))
    (below_limit r (instr.Tail b c) may.names_last)
step_gives p choice (instr.Head b c) r may = insert_names AtHead b (at_cursor r c) r (source_below p may.proper b _ may.fit) (stands r (r.call.cursors c))
    (below_limit r (instr.Head b c) may.names_last)
step_gives p choice i r may = gives p choice (effect_of i) r refl (lasting r i may.names_last)

pub step_names : StepKeepsNames
step_names p choice i r may s = names_stay r (step p choice i r).state (step_gives p choice i r may) s
