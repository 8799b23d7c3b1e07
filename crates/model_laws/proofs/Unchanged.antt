-- A step changes nothing but what it names.
use Rattle.std.proofs.Common.{◌≡◌, ◌≢◌, ℕ, ◌≤◌, Bool, true, false, cond, ◌||◌, ◌==◌, List, Option, Some, None, refl, sym, ◌∙◌, ap, eq-eqb, arith}
use Rattle.std.proofs.lemmas.Bool.{or_left, or_right}
use Rattle.module_code.specs.Program.{Program, pool_of_brigade}
use Rattle.run_model.specs.declared.bucket.Bucket.{Bucket}
use Rattle.run_model.specs.declared.bucket.Cursor.{Cursor}
use Rattle.run_model.specs.declared.bucket.NamedBucket.{NamedBucket}
use Rattle.run_model.specs.declared.bucket.BrigadeVar.{BrigadeVar}
use Rattle.run_model.specs.declared.bucket.PoolVar.{PoolVar}
use Rattle.run_model.specs.declared.payload.Payload.{Payload}
use Rattle.run_model.specs.Pools.{Pools}
use Rattle.run_model.specs.State.{Configuration, set_pool, with_pools, set_brigade, set_number, set_cursor, set_loose, pool_named}
use Rattle.run_model.specs.Clearing.{run_down}
use Rattle.run_model.specs.Cursors.{CursorPlace, Nowhere, AtLoose, Within, AtEndOf, at_cursor, read_cursor}
use Rattle.run_model.specs.BrigadeLists.{put_before}
use Rattle.run_model.specs.BucketSteps.{aside_into, do_make, do_before, do_delete, do_next, do_read, do_split, do_unlink, got, has_rest, is_unsplit, items_at, name_given, names_given, names_if}
use Rattle.run_model.specs.BucketSteps.{names_to_part, names_to_read, names_to_split, new_loose, put_into, read_given, read_within, split_there}
use Rattle.run_model.specs.declared.effect.Effect.{Effect}
use Rattle.run_model.specs.declared.effect.Effect.TheVariants as effect
use Rattle.run_model.specs.EffectOf.{effect_of}
use Rattle.run_model.specs.Steps.{Choice, do_effect, made_of, number_of, put_at, names_for, with_brigade, do_create, label_registered, label_killed, text_of, made_on, saved_into, value_of, do_pass}
use Rattle.model_laws.specs.Laws.{is_within, is_loose, may_change, may_change_pool, may_change_number, may_change_cursor, may_change_loose, may_change_buffer, may_change_tree, may_change_labels}
use Rattle.model_laws.specs.Laws.{ChangesOnly, StepChangesOnly}
use Rattle.run_model.proofs.Updates.{upd_off}
use Rattle.model_laws.proofs.PoolsGone.{pool_emptied, on_emptied}
use Rattle.model_laws.proofs.NamedPools.{on_named, made_under_named, put_keeps}

-- a number that may not change is another than one that may
apart : (f : ℕ → Bool) (k b : ℕ) → f k ≡ false → f b ≡ true → k ≢ b
apart f k b off on e = let both : true ≡ false = sym on ∙ ap f (sym e) ∙ off in cc

itself : (k : ℕ) → (k == k) ≡ true
itself k = eq-eqb k k refl

-- where only numbers and tests are read
nothing : (e : Effect) (r : Configuration) → ChangesOnly e r r
nothing e r = record {
  brigades = λ k h. refl;
  pools = λ k h. refl;
  numbers = λ k h. refl;
  sent = λ h. refl;
  left = λ h. refl;
  cursors = λ k h. refl;
  loose = λ h. refl;
  buffer = λ h. refl;
  tree = λ h. refl;
  conn = refl;
  req = refl;
  labels = λ h. refl;
  files = λ h. refl;
  names = omega arith;
  names_last = omega arith;
  output = refl;
  pc = refl;
  call_name = λ h. refl;
}

-- One change more, of something that the instruction may change.

by_brigade : (e : Effect) (r x : Configuration) (b : ℕ) (v : BrigadeVar) → may_change r e b ≡ true → ChangesOnly e r x → ChangesOnly e r (set_brigade b v x)
unfolding set_brigade
by_brigade e r x b v may s = record {
  brigades = λ k h. upd_off x.instance.brigades b k v (apart (may_change r e) k b h may) ∙ s.brigades k h;
  pools = s.pools;
  numbers = s.numbers;
  sent = s.sent;
  left = s.left;
  cursors = s.cursors;
  loose = s.loose;
  buffer = s.buffer;
  tree = s.tree;
  conn = s.conn;
  req = s.req;
  labels = s.labels;
  files = s.files;
  names = s.names;
  names_last = s.names_last;
  output = s.output;
  pc = s.pc;
  call_name = s.call_name;
}

by_pool : (e : Effect) (r x : Configuration) (q : ℕ) (v : PoolVar) → may_change_pool e q ≡ true → ChangesOnly e r x → ChangesOnly e r (set_pool q v x)
unfolding set_pool
by_pool e r x q v may s = record {
  brigades = s.brigades;
  pools = λ k h. upd_off x.instance.pools q k v (apart (may_change_pool e) k q h may) ∙ s.pools k h;
  numbers = s.numbers;
  sent = s.sent;
  left = s.left;
  cursors = s.cursors;
  loose = s.loose;
  buffer = s.buffer;
  tree = s.tree;
  conn = s.conn;
  req = s.req;
  labels = s.labels;
  files = s.files;
  names = s.names;
  names_last = s.names_last;
  output = s.output;
  pc = s.pc;
  call_name = s.call_name;
}

by_number : (e : Effect) (r x : Configuration) (n v : ℕ) → may_change_number e n ≡ true → ChangesOnly e r x → ChangesOnly e r (set_number n v x)
unfolding set_number
by_number e r x n v may s = record {
  brigades = s.brigades;
  pools = s.pools;
  numbers = λ k h. upd_off x.instance.numbers n k v (apart (may_change_number e) k n h may) ∙ s.numbers k h;
  sent = s.sent;
  left = s.left;
  cursors = s.cursors;
  loose = s.loose;
  buffer = s.buffer;
  tree = s.tree;
  conn = s.conn;
  req = s.req;
  labels = s.labels;
  files = s.files;
  names = s.names;
  names_last = s.names_last;
  output = s.output;
  pc = s.pc;
  call_name = s.call_name;
}

by_cursor : (e : Effect) (r x : Configuration) (c : ℕ) (v : Cursor) → may_change_cursor e c ≡ true → ChangesOnly e r x → ChangesOnly e r (set_cursor c v x)
unfolding set_cursor
by_cursor e r x c v may s = record {
  brigades = s.brigades;
  pools = s.pools;
  numbers = s.numbers;
  sent = s.sent;
  left = s.left;
  cursors = λ k h. upd_off x.call.cursors c k v (apart (may_change_cursor e) k c h may) ∙ s.cursors k h;
  loose = s.loose;
  buffer = s.buffer;
  tree = s.tree;
  conn = s.conn;
  req = s.req;
  labels = s.labels;
  files = s.files;
  names = s.names;
  names_last = s.names_last;
  output = s.output;
  pc = s.pc;
  call_name = s.call_name;
}

by_loose : (e : Effect) (r x : Configuration) (items : List NamedBucket) → may_change_loose r e ≡ true → ChangesOnly e r x → ChangesOnly e r (set_loose items x)
unfolding set_loose
by_loose e r x items may s = record {
  brigades = s.brigades;
  pools = s.pools;
  numbers = s.numbers;
  sent = s.sent;
  left = s.left;
  cursors = s.cursors;
  loose = λ h. absurd (let both : true ≡ false = sym may ∙ h in cc);
  buffer = s.buffer;
  tree = s.tree;
  conn = s.conn;
  req = s.req;
  labels = s.labels;
  files = s.files;
  names = s.names;
  names_last = s.names_last;
  output = s.output;
  pc = s.pc;
  call_name = s.call_name;
}

by_tree : (e : Effect) (r x : Configuration) (ps : Pools Payload) → may_change_tree e ≡ true → ChangesOnly e r x → ChangesOnly e r (with_pools ps x)
unfolding with_pools
by_tree e r x ps may s = record {
  brigades = s.brigades;
  pools = s.pools;
  numbers = s.numbers;
  sent = s.sent;
  left = s.left;
  cursors = s.cursors;
  loose = s.loose;
  buffer = s.buffer;
  tree = λ h. absurd (let both : true ≡ false = sym may ∙ h in cc);
  conn = s.conn;
  req = s.req;
  labels = s.labels;
  files = s.files;
  names = s.names;
  names_last = s.names_last;
  output = s.output;
  pc = s.pc;
  call_name = s.call_name;
}

-- names that it wants are given out
by_names : (e : Effect) (n : ℕ) (r : Configuration) → n ≤ names_for r e → ChangesOnly e r (names_given n r)
by_names e n r le = record {
  brigades = λ k h. refl;
  pools = λ k h. refl;
  numbers = λ k h. refl;
  sent = λ h. refl;
  left = λ h. refl;
  cursors = λ k h. refl;
  loose = λ h. refl;
  buffer = λ h. refl;
  tree = λ h. refl;
  conn = refl;
  req = refl;
  labels = λ h. refl;
  files = λ h. refl;
  names = omega arith;
  names_last = omega arith;
  output = refl;
  pc = refl;
  call_name = λ h. refl;
}

by_buffer : (e : Effect) (r : Configuration) (buffer : List ℕ) → may_change_buffer e ≡ true → ChangesOnly e r (record r { call = record r.call { buffer = buffer } })
by_buffer e r buffer may = record {
  brigades = λ k h. refl;
  pools = λ k h. refl;
  numbers = λ k h. refl;
  sent = λ h. refl;
  left = λ h. refl;
  cursors = λ k h. refl;
  loose = λ h. refl;
  buffer = λ h. absurd (let both : true ≡ false = sym may ∙ h in cc);
  tree = λ h. refl;
  conn = refl;
  req = refl;
  labels = λ h. refl;
  files = λ h. refl;
  names = omega arith;
  names_last = omega arith;
  output = refl;
  pc = refl;
  call_name = λ h. refl;
}

-- Clears, a pass and a return.

-- a pool goes, or what it holds
emptied_changes : (e : Effect) (left : Pools Payload) (n : ℕ) (r : Configuration) → ((k : ℕ) → may_change r e k ≡ true) → may_change_loose r e ≡ true
    → may_change_tree e ≡ true → may_change_labels e ≡ true → ChangesOnly e r (pool_emptied left n r)
unfolding with_pools run_down
emptied_changes e left n r any loose tree labels = record {
  brigades = λ k h. absurd (not_both (any k) h);
  pools = λ k h. refl;
  numbers = λ k h. refl;
  sent = λ h. refl;
  left = λ h. refl;
  cursors = λ k h. refl;
  loose = λ h. absurd (not_both loose h);
  buffer = λ h. refl;
  tree = λ h. absurd (not_both tree h);
  conn = refl;
  req = refl;
  labels = λ h. absurd (not_both labels h);
  files = λ h. absurd (not_both labels h);
  names = omega arith;
  names_last = omega arith;
  output = refl;
  pc = refl;
  call_name = λ h. refl;
} where
  not_both : {b : Bool} → b ≡ true → b ≡ false → ⊥
  not_both on off = (let both : true ≡ false = sym on ∙ off in cc)

passed_changes : (b : ℕ) (r : Configuration) → ChangesOnly (effect.Pass b) r (do_pass b r)
unfolding set_brigade
passed_changes b r = record {
  brigades = λ k h. upd_off r.instance.brigades b k _ (apart (may_change r (effect.Pass b)) k b h (itself b));
  pools = λ k h. refl;
  numbers = λ k h. refl;
  sent = λ h. absurd (cc);
  left = λ h. refl;
  cursors = λ k h. refl;
  loose = λ h. refl;
  buffer = λ h. refl;
  tree = λ h. refl;
  conn = refl;
  req = refl;
  labels = λ h. refl;
  files = λ h. refl;
  names = omega arith;
  names_last = omega arith;
  output = refl;
  pc = refl;
  call_name = λ h. refl;
}

-- One bucket.

-- a new loose bucket, where a name and this cursor may be set
new_changes : (e : Effect) (r : Configuration) (c : ℕ) (b : Bucket) → 1 ≤ names_for r e → may_change_cursor e c ≡ true → may_change_loose r e ≡ true → ChangesOnly e r (new_loose c b r)
new_changes e r c b name cursor loose = by_cursor e r _ c _ cursor (by_loose e r (name_given r) _ loose (by_names e 1 r name))

next_changes : (e : Effect) (r : Configuration) (d : ℕ) (s : CursorPlace) → may_change_cursor e d ≡ true → ChangesOnly e r (do_next d s r)
next_changes e r d Nowhere may = nothing e r
next_changes e r d (AtLoose x) may = nothing e r
next_changes e r d (Within b x) may = by_cursor e r r d _ may (nothing e r)
next_changes e r d (AtEndOf b) may = nothing e r

unlink_changes : (e : Effect) (r : Configuration) (s : CursorPlace) → ((k : ℕ) → is_within s k ≡ true → may_change r e k ≡ true) → may_change_loose r e ≡ true → ChangesOnly e r (do_unlink s r)
unlink_changes e r Nowhere within loose = nothing e r
unlink_changes e r (AtLoose x) within loose = nothing e r
unlink_changes e r (Within b x) within loose = by_loose e r _ _ loose (by_brigade e r r b _ (within b (itself b)) (nothing e r))
unlink_changes e r (AtEndOf b) within loose = nothing e r

delete_changes : (e : Effect) (r : Configuration) (s : CursorPlace) → ((k : ℕ) → is_within s k ≡ true → may_change r e k ≡ true) → (is_loose s ≡ true → may_change_loose r e ≡ true)
    → ChangesOnly e r (do_delete s r)
delete_changes e r Nowhere within loose = nothing e r
delete_changes e r (AtLoose x) within loose = by_loose e r r _ (loose refl) (nothing e r)
delete_changes e r (Within b x) within loose = by_brigade e r r b _ (within b (itself b)) (nothing e r)
delete_changes e r (AtEndOf b) within loose = nothing e r

put_into_changes : (e : Effect) (r : Configuration) (insert : NamedBucket → List NamedBucket → List NamedBucket) (b : ℕ) (s : CursorPlace) → may_change r e b ≡ true → may_change_loose r e ≡ true
    → ChangesOnly e r (put_into insert b s r)
put_into_changes e r insert b Nowhere may loose = nothing e r
put_into_changes e r insert b (AtLoose x) may loose = by_brigade e r _ b _ may (by_loose e r r _ loose (nothing e r))
put_into_changes e r insert b (Within a x) may loose = nothing e r
put_into_changes e r insert b (AtEndOf a) may loose = nothing e r

before_changes : (e : Effect) (r : Configuration) (s t : CursorPlace) → ((k : ℕ) → is_within t k ≡ true → may_change r e k ≡ true) → may_change_loose r e ≡ true → ChangesOnly e r (do_before s t r)
before_changes e r s Nowhere within loose = nothing e r
before_changes e r s (AtLoose y) within loose = nothing e r
before_changes e r s (Within b y) within loose = put_into_changes e r (put_before y.name) b s (within b (itself b)) loose
before_changes e r s (AtEndOf b) within loose = nothing e r

make_changes : (e : Effect) (r : Configuration) (c : ℕ) (o : Option Bucket) → 1 ≤ names_for r e → may_change_cursor e c ≡ true → may_change_loose r e ≡ true → ChangesOnly e r (do_make c o r)
make_changes e r c None name cursor loose = nothing e r
make_changes e r c (Some b) name cursor loose = new_changes e r c b name cursor loose

split_changes : (e : Effect) (r : Configuration) (n : ℕ) (s : CursorPlace) → ((k : ℕ) → is_within s k ≡ true → may_change r e k ≡ true) → names_to_split n s ≤ names_for r e
    → ChangesOnly e r (do_split n s r)
split_changes e r n s within names = by_refusal (is_unsplit n s) names where
  there : (t : CursorPlace) → ((k : ℕ) → is_within t k ≡ true → may_change r e k ≡ true) → 1 ≤ names_for r e → ChangesOnly e r (split_there n t r)
  there Nowhere may one = nothing e r
  there (AtLoose x) may one = nothing e r
  there (Within b x) may one = by_brigade e r _ b _ (may b (itself b)) (by_names e 1 r one)
  there (AtEndOf b) may one = nothing e r

  by_refusal : (t : Bool) → cond t 0 1 ≤ names_for r e → ChangesOnly e r (cond t r (split_there n s r))
  by_refusal true none = nothing e r
  by_refusal false one = there s within one

aside_changes : (e : Effect) (r : Configuration) (s : CursorPlace) (target : ℕ) → ((k : ℕ) → is_within s k ≡ true → may_change r e k ≡ true) → (is_loose s ≡ true → may_change_loose r e ≡ true)
    → may_change_tree e ≡ true
    → ChangesOnly e r (aside_into s target r)
aside_changes e r Nowhere target within loose tree = nothing e r
aside_changes e r (AtLoose x) target within loose tree = by_loose e r _ _ (loose refl) (by_tree e r r _ tree (nothing e r))
aside_changes e r (Within b x) target within loose tree = by_brigade e r _ b _ (within b (itself b)) (by_tree e r r _ tree (nothing e r))
aside_changes e r (AtEndOf b) target within loose tree = nothing e r

read_changes : (e : Effect) (r : Configuration) (given : Option (List ℕ)) (s : CursorPlace) → ((k : ℕ) → is_within s k ≡ true → may_change r e k ≡ true) → names_to_read s ≤ names_for r e
    → may_change_cursor e read_cursor ≡ true
    → ChangesOnly e r (do_read given s r)
read_changes e r given Nowhere within names cursor = nothing e r
read_changes e r given (AtLoose x) within names cursor = nothing e r
read_changes e r given (AtEndOf b) within names cursor = nothing e r
read_changes e r given (Within b x) within names cursor = by_given (read_given given x.bucket.content) where
  by_given : (o : Option (List ℕ)) → ChangesOnly e r (read_within b x o r)
  by_given None = by_cursor e r r read_cursor _ cursor (nothing e r)
  by_given (Some bytes) = by_cursor e r _ read_cursor _ cursor (by_brigade e r _ b _ (within b (itself b)) (by_names e (names_if (has_rest x.bucket.content)) r names))

got_changes : (e : Effect) (r : Configuration) (n : ℕ) (o : Option ℕ) → may_change_number e n ≡ true → ChangesOnly e r (got n o r)
got_changes e r n None may = nothing e r
got_changes e r n (Some byte) may = by_number e r r n byte may (nothing e r)

-- two brigades
first_of : (a b : ℕ) → (a == a || a == b) ≡ true
first_of a b = or_left (a == a) (a == b) (itself a)

second_of : (a b : ℕ) → (b == a || b == b) ≡ true
second_of a b = or_right (b == a) (b == b) (itself b)

created_changes : (p : Program) (o : ℕ) (r : Configuration) → ChangesOnly (effect.MakeBrigade o) r (do_create p o r)
unfolding with_pools
created_changes p o r =
    let e = effect.MakeBrigade o in
    by_brigade e r (with_pools (with_brigade (pool_named r (pool_of_brigade p o)) r.shared.next r.shared.pools) (name_given r)) o _ (itself o)
    (by_tree e r (name_given r) _ refl (by_names e 1 r (omega arith)))

pub effect_changes_only : (p : Program) (choice : Choice) (e : Effect) (r : Configuration) → ChangesOnly e r (do_effect p choice e r)
effect_changes_only p choice effect.Nothing r = nothing effect.Nothing r
effect_changes_only p choice (effect.MakePool q) r = let e = effect.MakePool q in
    made_under_named (ChangesOnly e r) p q r (nothing e r) (λ parent is. by_pool e r _ q _ (itself q) (by_tree e r r _ refl (nothing e r)))
effect_changes_only p choice (effect.EmptyPool k q) r =
    let e = effect.EmptyPool k q in on_emptied (ChangesOnly e r) k q r (nothing e r) (λ n left is so. emptied_changes e left n r (λ j. refl) refl refl refl)
effect_changes_only p choice (effect.Register k q t) r = let e = effect.Register k q t in
    on_named (ChangesOnly e r) (label_registered k (text_of p t)) (pool_named r q) r (nothing e r) (λ n is. by_tree e r r _ refl (nothing e r))
effect_changes_only p choice (effect.Kill q t) r = let e = effect.Kill q t in
    on_named (ChangesOnly e r) (label_killed (text_of p t)) (pool_named r q) r (nothing e r) (λ n is. by_tree e r r _ refl (nothing e r))
effect_changes_only p choice (effect.MakeBrigade o) r = created_changes p o r
effect_changes_only p choice (effect.Clean b) r = by_brigade (effect.Clean b) r r b _ (itself b) (nothing (effect.Clean b) r)
effect_changes_only p choice (effect.Concat a b) r = let e = effect.Concat a b in by_brigade e r _ a _ (first_of a b) (by_brigade e r r b _ (second_of a b) (nothing e r))
effect_changes_only p choice (effect.SplitBrigade b c a) r = let e = effect.SplitBrigade b c a in by_brigade e r _ a _ (second_of b a) (by_brigade e r r b _ (first_of b a) (nothing e r))
effect_changes_only p choice (effect.PartBrigade b x c) r =
    let e = effect.PartBrigade b x c in by_cursor e r _ c _ (itself c) (by_brigade e r _ b _ (itself b) (by_names e (names_to_part (value_of r x) (items_at r b)) r (omega arith)))
effect_changes_only p choice (effect.Save o b) r =
    let e = effect.Save o b in on_named (ChangesOnly e r) (saved_into o b) (made_on (r.instance.brigades o)) r (nothing e r)
    (λ target is. by_brigade e r _ o _ (first_of o b) (by_brigade e r _ b _ (second_of o b) (by_tree e r r _ refl (nothing e r))))
effect_changes_only p choice (effect.Pass b) r = passed_changes b r
effect_changes_only p choice (effect.First c b) r = by_cursor (effect.First c b) r r c _ (itself c) (nothing (effect.First c b) r)
effect_changes_only p choice (effect.Next d c) r = next_changes (effect.Next d c) r d (at_cursor r c) (itself d)
effect_changes_only p choice (effect.Unlink c) r = unlink_changes (effect.Unlink c) r (at_cursor r c) (λ k h. h) refl
effect_changes_only p choice (effect.Delete c) r = delete_changes (effect.Delete c) r (at_cursor r c) (λ k h. h) (λ h. h)
effect_changes_only p choice (effect.Insert side b c) r = put_into_changes (effect.Insert side b c) r (put_at side) b (at_cursor r c) (itself b) refl
effect_changes_only p choice (effect.Before c d) r = before_changes (effect.Before c d) r (at_cursor r c) (at_cursor r d) (λ k h. h) refl
effect_changes_only p choice (effect.Make c source) r = make_changes (effect.Make c source) r c (made_of p r source) (omega arith) (itself c) refl
effect_changes_only p choice (effect.Split c x) r = split_changes (effect.Split c x) r (value_of r x) (at_cursor r c) (λ k h. h) (omega arith)
effect_changes_only p choice (effect.Aside c q) r =
    let e = effect.Aside c q in on_named (ChangesOnly e r) (aside_into (at_cursor r c)) (pool_named r q) r (nothing e r)
    (λ target is. aside_changes e r (at_cursor r c) target (λ k h. h) (λ h. h) refl)
effect_changes_only p choice (effect.Read c) r = read_changes (effect.Read c) r choice.given (at_cursor r c) (λ k h. h) (omega arith) refl
effect_changes_only p choice (effect.Number n number) r = got_changes (effect.Number n number) r n (number_of r n number) (itself n)
effect_changes_only p choice (effect.Put x) r = put_keeps (ChangesOnly (effect.Put x) r) x r (nothing (effect.Put x) r) (λ buffer. by_buffer (effect.Put x) r buffer refl)
effect_changes_only p choice effect.ClearBuffer r = by_buffer effect.ClearBuffer r _ refl
effect_changes_only p choice effect.Leave r = record {
  brigades = λ k h. refl;
  pools = λ k h. refl;
  numbers = λ k h. refl;
  sent = λ h. refl;
  left = λ h. absurd (cc);
  cursors = λ k h. refl;
  loose = λ h. refl;
  buffer = λ h. refl;
  tree = λ h. refl;
  conn = refl;
  req = refl;
  labels = λ h. refl;
  files = λ h. refl;
  names = omega arith;
  names_last = omega arith;
  output = refl;
  pc = refl;
  call_name = λ h. refl;
}
effect_changes_only p choice effect.Return r = record {
  brigades = λ k h. absurd (cc);
  pools = λ k h. refl;
  numbers = λ k h. refl;
  sent = λ h. refl;
  left = λ h. refl;
  cursors = λ k h. absurd (cc);
  loose = λ h. absurd (cc);
  buffer = λ h. absurd (cc);
  tree = λ h. refl;
  conn = refl;
  req = refl;
  labels = λ h. refl;
  files = λ h. refl;
  names = omega arith;
  names_last = omega arith;
  output = refl;
  pc = refl;
  call_name = λ h. absurd (cc);
}

pub step_changes_only : StepChangesOnly
step_changes_only p choice i r = effect_changes_only p choice (effect_of i) r
