-- The laws of cursors, and of the buckets at which they stand, as statements.
use Rattle.std.specs.Prelude.{◌≡◌, ◌≢◌, ℕ, ◌<◌, ◌≤◌, List, ◌∷◌, ◌++◌, drop, length, take, Option, Some, None}
use Rattle.module_code.specs.declared.instr.Instr.{Instr}
use Rattle.module_code.specs.declared.instr.Instr.TheVariants as instr
use Rattle.module_code.specs.declared.instr.Value.{Value}
use Rattle.module_code.specs.Program.{Program}
use Rattle.run_model.specs.declared.bucket.Cursor.{Cursor}
use Rattle.run_model.specs.declared.bucket.Cursor.TheVariants as cursor
use Rattle.run_model.specs.declared.bucket.Bucket.{Bucket}
use Rattle.run_model.specs.declared.event.Exit.TheVariants.{GoOn, Jump}
use Rattle.run_model.specs.declared.bucket.NamedBucket.{NamedBucket}
use Rattle.run_model.specs.BrigadeLists.{bucket_named, buckets_before, buckets_from, put_tail, stays, moves, SplitRefusal, split_refusal, first_bytes, rest_as, length_in, all_bytes}
use Rattle.model_laws.specs.BrigadeLaws.{SplitBytes}
use Rattle.run_model.specs.State.{Configuration}
use Rattle.run_model.specs.Cursors.{CursorPlace, Nowhere, AtLoose, Within, AtEndOf, at_cursor, place_of_cursor}
use Rattle.run_model.specs.BucketSteps.{items_at, place_at}
use Rattle.run_model.specs.declared.effect.Effect.TheVariants as effect
use Rattle.run_model.specs.declared.effect.MadeFrom.{MadeFrom}
use Rattle.run_model.specs.EffectOf.{effect_of}
use Rattle.run_model.specs.Steps.{Choice, Outcome, step, made_of, value_of}
use Rattle.run_model.specs.Sound.{SoundNames, brigade_name, count_named, count}
use Rattle.model_laws.specs.Laws.{MayExecute}

-- the name that a cursor holds
abbrev pub name_held : Cursor → Option ℕ
name_held cursor.Unset = None
name_held (cursor.At n) = Some n
name_held (cursor.End n) = Some n

-- A cursor that is set holds a name that was given out.
pub record SoundCursors (r : Configuration) : Type 0 where
  pub given : (c n : ℕ) → name_held (r.call.cursors c) ≡ Some n → n < r.shared.next

-- A step without a fault keeps it.
abbrev pub StepKeepsCursors : Type 0
StepKeepsCursors = (p : Program) (choice : Choice) (i : Instr) (r : Configuration) → MayExecute p r i → SoundNames r → SoundCursors r → SoundCursors (step p choice i r).state

-- The bucket x of the name n is loose, once, and in no brigade.
pub record LooseOnce (r : Configuration) (n : ℕ) (x : NamedBucket) : Type 0 where
  pub name : x.name ≡ n
  pub there : bucket_named n r.call.loose ≡ Some x
  pub once : count_named n r.call.loose ≡ 1
  pub brigades : (k : ℕ) → count_named n (items_at r k) ≡ 0

-- It is in the brigade of b, once, in no other brigade, and not loose.
pub record WithinOnce (r : Configuration) (n b : ℕ) (x : NamedBucket) : Type 0 where
  pub name : x.name ≡ n
  pub there : bucket_named n (items_at r b) ≡ Some x
  pub once : count_named n (items_at r b) ≡ 1
  pub others : (k : ℕ) → k ≢ b → count_named n (items_at r k) ≡ 0
  pub loose : count_named n r.call.loose ≡ 0

-- The brigade of the name n is in the variable b, and in no other.
pub record EndOnce (r : Configuration) (n b : ℕ) : Type 0 where
  pub there : brigade_name (r.instance.brigades b) ≡ Some n
  pub others : (k : ℕ) → brigade_name (r.instance.brigades k) ≡ Some n → k ≡ b

-- Where a cursor at the bucket n stands. It stands nowhere only where no list has that bucket.
abbrev pub BucketOnce : Configuration → ℕ → CursorPlace → Type 0
BucketOnce r n Nowhere = count r n ≡ 0
BucketOnce r n (AtLoose x) = LooseOnce r n x
BucketOnce r n (Within b x) = WithinOnce r n b x
BucketOnce r n (AtEndOf b) = ⊥

-- Where a cursor at the end of the brigade n stands. It stands nowhere only where no variable has that brigade.
abbrev pub BrigadeOnce : Configuration → ℕ → CursorPlace → Type 0
BrigadeOnce r n Nowhere = (k : ℕ) → brigade_name (r.instance.brigades k) ≢ Some n
BrigadeOnce r n (AtLoose x) = ⊥
BrigadeOnce r n (Within b x) = ⊥
BrigadeOnce r n (AtEndOf b) = EndOnce r n b

abbrev pub StandsOnce : Configuration → Cursor → CursorPlace → Type 0
StandsOnce r cursor.Unset s = s ≡ Nowhere
StandsOnce r (cursor.At n) s = BucketOnce r n s
StandsOnce r (cursor.End n) s = BrigadeOnce r n s

-- Where names are single, what a cursor names is in one place, where it is there.
abbrev pub CursorsStandOnce : Type 0
CursorsStandOnce = (r : Configuration) (v : Cursor) → SoundNames r → StandsOnce r v (place_of_cursor r v)

-- A bucket that is made has a name that no bucket had. It is loose, and the cursor c stands at it; all others are as before.
pub record MakesLoose (c : ℕ) (b : Bucket) (r new : Configuration) : Type 0 where
  pub unused : count r r.shared.next ≡ 0
  pub loose : new.call.loose ≡ put_tail (record { name = r.shared.next; bucket = b }) r.call.loose
  pub brigades : new.instance.brigades ≡ r.instance.brigades
  pub cursor : at_cursor new c ≡ AtLoose (record { name = r.shared.next; bucket = b })

-- So is each that an instruction makes, also a copy, which is of the same kind, content and home (apr_bucket_copy). What is made from what,
-- `made_of` says, and BucketExamples shows of each.
abbrev pub MadeAreNew : Type 0
MadeAreNew = (p : Program) (choice : Choice) (i : Instr) (c : ℕ) (source : MadeFrom) (b : Bucket) (r : Configuration) → SoundNames r
    → effect_of i ≡ effect.Make c source → made_of p r source ≡ Some b → MakesLoose c b r (step p choice i r).state

-- A split at n of the bucket x in the brigade of b (apr_bucket_split): its first n bytes keep its name and place, and the
-- others follow under a name that no bucket had, so that the bytes of the brigade are the same, in order. It goes on.
pub record SplitsBucket (n b : ℕ) (x : NamedBucket) (r : Configuration) (went : Outcome) : Type 0 where
  pub exit : went.exit ≡ GoOn
  pub unused : count r r.shared.next ≡ 0
  pub halves : SplitBytes n x.bucket.content (first_bytes n x).bucket.content (rest_as r.shared.next n x).bucket.content
  pub items : items_at went.state b ≡ buckets_before x.name (items_at r b) ++ first_bytes n x ∷ rest_as r.shared.next n x ∷ drop 1 (buckets_from x.name (items_at r b))
  pub bytes : (file : ℕ → List ℕ) → all_bytes file (items_at went.state b) ≡ all_bytes file (items_at r b)

abbrev pub SplitsInOrder : Type 0
SplitsInOrder = (p : Program) (choice : Choice) (c : ℕ) (n : Value) (l b : ℕ) (x : NamedBucket) (r : Configuration) → SoundNames r → at_cursor r c ≡ Within b x → split_refusal (value_of r n) x ≡ None
    → SplitsBucket (value_of r n) b x r (step p choice (instr.Split c n l) r)

-- One that is refused jumps, and changes nothing.
abbrev pub RefusedSplitJumps : Type 0
RefusedSplitJumps = (p : Program) (choice : Choice) (c : ℕ) (n : Value) (l b : ℕ) (x : NamedBucket) (k : SplitRefusal) (r : Configuration)
    → at_cursor r c ≡ Within b x → split_refusal (value_of r n) x ≡ Some k
    → step p choice (instr.Split c n l) r ≡ record { exit = Jump; state = r }

-- A split of the brigade of b (apr_brigade_split_ex): what stood before the cursor c stays in b, and what stood from there
-- on is in a, in order.
pub record SplitsBrigade (b c a : ℕ) (r new : Configuration) : Type 0 where
  pub stay : items_at new b ≡ stays (place_at (at_cursor r c)) (items_at r b)
  pub move : items_at new a ≡ moves (place_at (at_cursor r c)) (items_at r b)
  pub whole : items_at new b ++ items_at new a ≡ items_at r b

abbrev pub BrigadesSplitInOrder : Type 0
BrigadesSplitInOrder = (p : Program) (choice : Choice) (b c a : ℕ) (r : Configuration) → MayExecute p r (instr.BSplit b c a) → SplitsBrigade b c a r (step p choice (instr.BSplit b c a) r).state

-- at a bucket of the brigade in this variable, or at its end
abbrev pub IsPlaceIn : ℕ → CursorPlace → Type 0
IsPlaceIn b Nowhere = ⊥
IsPlaceIn b (AtLoose x) = ⊥
IsPlaceIn b (Within k x) = k ≡ b
IsPlaceIn b (AtEndOf k) = k ≡ b

-- A partition of the brigade of b at a point that is not past its end (apr_brigade_partition): the cursor c is in it, the
-- lengths of what stands before it add up to the point, and of no shorter front. The bytes are the same, in order. It goes on.
pub record PartsBrigade (b point c : ℕ) (r : Configuration) (went : Outcome) : Type 0 where
  pub exit : went.exit ≡ GoOn
  pub bytes : (file : ℕ → List ℕ) → all_bytes file (items_at went.state b) ≡ all_bytes file (items_at r b)
  pub cursor : IsPlaceIn b (at_cursor went.state c)
  pub adds_up : length_in (stays (place_at (at_cursor went.state c)) (items_at went.state b)) ≡ point
  pub shortest : (k : ℕ) → k < length (stays (place_at (at_cursor went.state c)) (items_at went.state b))
      → length_in (take k (stays (place_at (at_cursor went.state c)) (items_at went.state b))) < point

abbrev pub PartitionsInOrder : Type 0
PartitionsInOrder = (p : Program) (choice : Choice) (b : ℕ) (x : Value) (c l : ℕ) (r : Configuration) → MayExecute p r (instr.BPart b x c l) → SoundNames r → value_of r x ≤ length_in (items_at r b)
    → PartsBrigade b (value_of r x) c r (step p choice (instr.BPart b x c l) r)

-- One past its end jumps; the cursor c is at the end, the buckets are as before, and no name is given
-- out (APR_INCOMPLETE).
pub record IsPastEnd (b c : ℕ) (r : Configuration) (went : Outcome) : Type 0 where
  pub exit : went.exit ≡ Jump
  pub cursor : at_cursor went.state c ≡ AtEndOf b
  pub brigades : went.state.instance.brigades ≡ r.instance.brigades
  pub loose : went.state.call.loose ≡ r.call.loose
  pub names : went.state.shared.next ≡ r.shared.next

abbrev pub PastEndJumps : Type 0
PastEndJumps = (p : Program) (choice : Choice) (b : ℕ) (x : Value) (c l : ℕ) (r : Configuration) → MayExecute p r (instr.BPart b x c l) → SoundNames r → length_in (items_at r b) < value_of r x
    → IsPastEnd b c r (step p choice (instr.BPart b x c l) r)
