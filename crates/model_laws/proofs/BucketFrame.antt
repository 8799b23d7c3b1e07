-- What the instructions on cursors, buckets, numbers and the buffer leave alone.
use Rattle.std.proofs.Common.{◌≡◌, ℕ, Bool, true, false, cond, List, [], Option, Some, None, refl, sym, ◌∙◌, ap}
use Rattle.module_code.specs.declared.instr.PoolRef.{PoolRef}
use Rattle.module_code.specs.declared.instr.Instr.{Instr}
use Rattle.module_code.specs.declared.instr.Instr.TheVariants as instr
use Rattle.module_code.specs.Program.{Program}
use Rattle.run_model.specs.declared.fault.FaultKind.TheVariants.{F1}
use Rattle.run_model.specs.declared.bucket.Bucket.{Bucket}
use Rattle.run_model.specs.declared.bucket.NamedBucket.{NamedBucket}
use Rattle.run_model.specs.declared.bucket.Cursor.{Cursor}
use Rattle.run_model.specs.Pools.{is_live}
use Rattle.run_model.specs.State.{Configuration, set_loose, set_cursor, set_number, with_pools, pool_named}
use Rattle.run_model.specs.Faults.{has_pool_at, has_pool, is_live_named, cursor_fault, OnBucket}
use Rattle.run_model.specs.BrigadeLists.{put_before}
use Rattle.run_model.specs.Effects.{all_referred, value_of}
use Rattle.run_model.specs.Cursors.{CursorPlace, AtLoose, Within, at_cursor, read_cursor}
use Rattle.run_model.specs.BucketSteps.{set_items, do_next, do_unlink, do_delete, put_into, do_before, names_given, new_loose, do_make, is_unsplit, split_there, do_split, aside_into, read_given}
use Rattle.run_model.specs.BucketSteps.{read_within, do_read, got}
use Rattle.run_model.specs.declared.effect.Effect.{Effect}
use Rattle.run_model.specs.declared.effect.Effect.TheVariants as effect
use Rattle.run_model.specs.EffectOf.{effect_of}
use Rattle.run_model.specs.Changes.{extent, is_wide}
use Rattle.run_model.specs.Steps.{do_effect, do_leave, made_of, number_of, put_at, Choice, step}
use Rattle.model_laws.specs.Laws.{MayExecute}
use Rattle.model_laws.proofs.NamedPools.{with_buffer, put_keeps, on_named}
use Rattle.model_laws.proofs.Marks.{first_none, second_none}

-- A property of states that stays whatever buckets there are, what numbers and the buffer are, whether the instance left, which names are given out,
-- and which files the live pools refer to.
pub record IsFrame (P : Configuration → Type 0) : Type 0 where
  pub items : (b : ℕ) (xs : List NamedBucket) (r : Configuration) → P r → P (set_items b xs r)
  pub loose : (xs : List NamedBucket) (r : Configuration) → P r → P (set_loose xs r)
  pub numbers : (n v : ℕ) (r : Configuration) → P r → P (set_number n v r)
  pub buffer : (bytes : List ℕ) (r : Configuration) → P r → P (with_buffer bytes r)
  pub left : (r : Configuration) → P r → P (do_leave r)
  pub names : (n : ℕ) (r : Configuration) → P r → P (names_given n r)
  pub refs : (target : ℕ) (files : List ℕ) (r : Configuration) → is_live r.shared.pools target ≡ true → P r → P (with_pools (all_referred target files r.shared.pools) r)

-- the effects that change more than that
abbrev pub changes_frame : Effect → Bool
changes_frame e = is_wide (extent e)

-- the effects that set a cursor
abbrev pub sets_cursor : Effect → Bool
sets_cursor (effect.PartBrigade b x c) = true
sets_cursor (effect.First c b) = true
sets_cursor (effect.Next d c) = true
sets_cursor (effect.Make c source) = true
sets_cursor (effect.Read c) = true
sets_cursor e = false

-- the pool into which a bucket is set aside is live
abbrev pub SetsAsideAlive : Configuration → Effect → Type 0
SetsAsideAlive r e = (c : ℕ) (q : PoolRef) (n : ℕ) → e ≡ effect.Aside c q → pool_named r q ≡ Some n → is_live r.shared.pools n ≡ true

aside_lives : (p : Program) (c : ℕ) (q : PoolRef) (n : ℕ) (r : Configuration) → MayExecute p r (instr.Aside c q) → pool_named r q ≡ Some n → is_live r.shared.pools n ≡ true
unfolding has_pool_at
aside_lives p c q n r may named = sym (ap (is_live_named r.shared.pools) named) ∙ by_test (has_pool r q) (first_none _ _ (second_none (cursor_fault r OnBucket (at_cursor r c)) _ may.faultless)) where
  by_test : (b : Bool) → cond b None (Some F1) ≡ None → b ≡ true
  by_test true is = refl
  by_test false is = absurd (cc)

pub alive_aside : (p : Program) (i : Instr) (r : Configuration) → MayExecute p r i → SetsAsideAlive r (effect_of i)
alive_aside p (instr.Aside c q) r may = λ d k n is named. let same : q ≡ k = cc in aside_lives p c q n r may (ap (pool_named r) same ∙ named)
alive_aside p i r may = λ d k n is named. absurd (cc)

module _ (P : Configuration → Type 0) (f : IsFrame P) where
  unlink_framed : (s : CursorPlace) (r : Configuration) → P r → P (do_unlink s r)
  unlink_framed (Within b x) r h = f.loose _ _ (f.items b _ r h)
  unlink_framed s r h = h

  delete_framed : (s : CursorPlace) (r : Configuration) → P r → P (do_delete s r)
  delete_framed (Within b x) r h = f.items b _ r h
  delete_framed (AtLoose x) r h = f.loose _ r h
  delete_framed s r h = h

  put_framed : (insert : NamedBucket → List NamedBucket → List NamedBucket) (b : ℕ) (s : CursorPlace) (r : Configuration) → P r → P (put_into insert b s r)
  put_framed insert b (AtLoose x) r h = f.items b _ _ (f.loose _ r h)
  put_framed insert b s r h = h

  before_framed : (s t : CursorPlace) (r : Configuration) → P r → P (do_before s t r)
  before_framed s (Within b y) r h = put_framed (put_before y.name) b s r h
  before_framed s t r h = h

  split_framed : (n : ℕ) (s : CursorPlace) (r : Configuration) → P r → P (do_split n s r)
  split_framed n s r h = by_test (is_unsplit n s) where
    there : (s : CursorPlace) → P (split_there n s r)
    there (Within b x) = f.items b _ _ (f.names 1 r h)
    there s = h

    by_test : (c : Bool) → P (cond c r (split_there n s r))
    by_test true = h
    by_test false = there s

  aside_framed : (s : CursorPlace) (target : ℕ) (r : Configuration) → is_live r.shared.pools target ≡ true → P r → P (aside_into s target r)
  aside_framed (Within b x) target r lives h = f.items b _ _ (f.refs target _ r lives h)
  aside_framed (AtLoose x) target r lives h = f.loose _ _ (f.refs target _ r lives h)
  aside_framed s target r lives h = h

  got_framed : (n : ℕ) (o : Option ℕ) (r : Configuration) → P r → P (got n o r)
  got_framed n None r h = h
  got_framed n (Some byte) r h = f.numbers n byte r h

  pub framed : (p : Program) (choice : Choice) (e : Effect) (r : Configuration) → changes_frame e ≡ false → sets_cursor e ≡ false → SetsAsideAlive r e → P r → P (do_effect p choice e r)
  framed p choice effect.Nothing r plain unset alive h = h
  framed p choice (effect.SplitBrigade b c a) r plain unset alive h = f.items a _ _ (f.items b _ r h)
  framed p choice (effect.Unlink c) r plain unset alive h = unlink_framed (at_cursor r c) r h
  framed p choice (effect.Delete c) r plain unset alive h = delete_framed (at_cursor r c) r h
  framed p choice (effect.Insert side b c) r plain unset alive h = put_framed (put_at side) b (at_cursor r c) r h
  framed p choice (effect.Before c d) r plain unset alive h = before_framed (at_cursor r c) (at_cursor r d) r h
  framed p choice (effect.Split c x) r plain unset alive h = split_framed (value_of r x) (at_cursor r c) r h
  framed p choice (effect.Aside c q) r plain unset alive h = on_named P (aside_into (at_cursor r c)) (pool_named r q) r h (λ n is. aside_framed (at_cursor r c) n r (alive c q n refl is) h)
  framed p choice (effect.Number n number) r plain unset alive h = got_framed n (number_of r n number) r h
  framed p choice (effect.Put x) r plain unset alive h = put_keeps P x r h (λ bytes. f.buffer bytes r h)
  framed p choice effect.ClearBuffer r plain unset alive h = f.buffer [] r h
  framed p choice effect.Leave r plain unset alive h = f.left r h
  framed p choice e r plain unset alive h = absurd (cc)

-- Where it also stays wherever cursors stand.
module _ (P : Configuration → Type 0) (f : IsFrame P) (set : (c : ℕ) (v : Cursor) (r : Configuration) → P r → P (set_cursor c v r)) where
  new_placed : (c : ℕ) (b : Bucket) (r : Configuration) → P r → P (new_loose c b r)
  new_placed c b r s = set c _ _ (f.loose _ _ (f.names 1 r s))

  next_placed : (d : ℕ) (s : CursorPlace) (r : Configuration) → P r → P (do_next d s r)
  next_placed d (Within b x) r h = set d _ r h
  next_placed d s r h = h

  make_placed : (c : ℕ) (o : Option Bucket) (r : Configuration) → P r → P (do_make c o r)
  make_placed c None r h = h
  make_placed c (Some b) r h = new_placed c b r h

  read_placed : (given : Option (List ℕ)) (s : CursorPlace) (r : Configuration) → P r → P (do_read given s r)
  read_placed given (Within b x) r h = by_given (read_given given x.bucket.content) where
    by_given : (o : Option (List ℕ)) → P (read_within b x o r)
    by_given None = set read_cursor _ r h
    by_given (Some bytes) = set read_cursor _ _ (f.items b _ _ (f.names _ r h))
  read_placed given s r h = h

  placed : (p : Program) (choice : Choice) (e : Effect) (r : Configuration) → changes_frame e ≡ false → SetsAsideAlive r e → P r → P (do_effect p choice e r)
  placed p choice (effect.PartBrigade b x c) r plain alive h = set c _ _ (f.items b _ _ (f.names _ r h))
  placed p choice (effect.First c b) r plain alive h = set c _ r h
  placed p choice (effect.Next d c) r plain alive h = next_placed d (at_cursor r c) r h
  placed p choice (effect.Make c source) r plain alive h = make_placed c (made_of p r source) r h
  placed p choice (effect.Read c) r plain alive h = read_placed choice.given (at_cursor r c) r h
  placed p choice e r plain alive h = framed P f p choice e r plain refl alive h

  pub placed_step : (p : Program) (choice : Choice) (i : Instr) (r : Configuration) → changes_frame (effect_of i) ≡ false → MayExecute p r i → P r → P (step p choice i r).state
  placed_step p choice i r plain may h = placed p choice (effect_of i) r plain (alive_aside p i r may) h
