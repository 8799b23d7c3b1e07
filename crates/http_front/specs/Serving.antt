-- How far serving a connection is, and what it wrote where it is known what the reader had left and what the writer holds.
use Rattle.std.specs.Prelude.{◌≡◌, ℕ, ◌≤◌, Bool, true, false, List, [], ◌++◌, length, Option, IfSome, Result, Ok, Err, ◌⊎◌}
use Rattle.std.specs.Io.KnownBytes.{Consumes, Appends, IsAtEnd}
pub use Rattle.byte_streams.specs.Texts.{Writes}
use Rattle.http_message.specs.Clocks.{Said}
use Rattle.http_message.specs.declared.reply.Method.{Method}
use Rattle.http_message.specs.declared.site.Site.{Site}
use Rattle.http_front.specs.declared.fault.FrontKind.{FrontKind}
use Rattle.http_front.specs.declared.fault.FrontKind.TheVariants as kind
use Rattle.http_front.specs.declared.handler.RequestOutcome.{RequestOutcome}
use Rattle.http_front.specs.Turns.{Turn, AllStay, AnswersAll, AnswersRequestsRead, heads_of, texts_of, Responses, IsCut, MemoryLacked, LacksNames}

-- the kinds of faults of a sink
abbrev pub IsSinkKind : FrontKind → Type 0
IsSinkKind k = (k ≡ kind.Write) ⊎ (k ≡ kind.NoMemory)

-- The sink failed where this is told, and else it is as it was. was, is: whether it had failed, and has.
abbrev pub BlamesSink : {T : Type 0} → Result T FrontKind → Bool → Bool → Type 0
BlamesSink (Err kind.Write) was is = is ≡ true
BlamesSink r was is = is ≡ was

-- The source failed where this is told, and else it is as it was. left: how many times it may still be read
abbrev pub BlamesSource : {T : Type 0} → Result T FrontKind → Bool → Bool → ℕ → Type 0
BlamesSource (Err kind.Read) was is left = is ≡ true
BlamesSource (Err kind.TooManyReads) was is left = (left ≡ 0) × (is ≡ was)
BlamesSource r was is left = is ≡ was

-- What a read adds to the bytes at hand: at most so many. eof: no bytes follow.
pub record AddsBytes (r q : Option (List ℕ)) (old new : List ℕ) (limit : ℕ) (eof : Bool) : Type 0 where
  pub bytes : List ℕ
  pub took : Consumes r q bytes
  pub added : new ≡ old ++ bytes
  pub few : length bytes ≤ limit
  pub end : eof ≡ true → IsAtEnd q

-- why a read of so many bytes at most adds nothing: the reader failed, or may not be read again, and gave no byte; or there was no memory for what it gave
abbrev pub Loses : ℕ → Option (List ℕ) → Option (List ℕ) → FrontKind → Type 0
Loses limit r q kind.Read = Consumes r q []
Loses limit r q kind.TooManyReads = Consumes r q []
Loses limit r q kind.NoMemory = (bytes : List ℕ) × ¬ (bytes ≡ []) × (length bytes ≤ limit) × Consumes r q bytes
Loses limit r q e = ⊥

module _ {H K : Type 0} (site : Site) (handles : H → Method → List ℕ → RequestOutcome → H → Type 0) (tells : K → Said → K → Type 0) where
  -- So many requests are answered, and the connection stays open. r, q: what the reader had left, and has. w, v: what the writer held,
  -- and holds. unread: what is read and not answered.
  pub record ServedSoFar (old : H) (before : K) (r q w v : Option (List ℕ)) (unread : List ℕ) (n : ℕ) (new : H) (after : K) : Type 0 where
    pub turns : List Turn
    pub stay : AllStay turns
    pub answers : AnswersAll site handles tells old before turns new after
    pub count : n ≡ length turns
    pub took : Consumes r q (heads_of turns ++ unread)
    pub wrote : Appends w v (texts_of turns)

  -- Serving ends well.
  abbrev pub EndsWell : H → K → Option (List ℕ) → Option (List ℕ) → Option (List ℕ) → ℕ → H → K → Type 0
  EndsWell old before r w v n new after = Writes r w v (λ stream text. Responses site handles tells old before stream text n new after)

  -- Serving fails. Only where the writer failed, or had no memory, a response is cut. All whole requests that were read are answered, where the reader failed,
  -- or gave no end. All before the one at hand are, where memory or names are lacking: names only for a request that nothing refuses and whose
  -- path has a file.
  -- lacks: what the handler says of a request that it left.
  abbrev pub FailsBy : (H → Method → List ℕ → FrontKind → H → Type 0) → H → K → Option (List ℕ) → Option (List ℕ) → Option (List ℕ) → Option (List ℕ) → H → K → FrontKind → Type 0
  FailsBy lacks old before r q w v new after kind.Write = Writes r w v (λ stream text. IsCut site handles tells old before stream text new after)
  FailsBy lacks old before r q w v new after kind.Read = Writes r w v (λ stream text. AnswersRequestsRead site handles tells old before stream text q new after)
  FailsBy lacks old before r q w v new after kind.TooManyReads = Writes r w v (λ stream text. AnswersRequestsRead site handles tells old before stream text q new after)
  FailsBy lacks old before r q w v new after kind.NoMemory = Writes r w v (λ stream text. MemoryLacked site handles tells old before stream text q new after)
  FailsBy lacks old before r q w v new after kind.NamesSpent = Writes r w v (λ stream text. LacksNames site handles tells lacks old before stream text q new)

  -- It ends well where no more is answered; else so many requests are answered, and it stays open.
  abbrev pub ServeStanding : H → K → Option (List ℕ) → Option (List ℕ) → Option (List ℕ) → Option (List ℕ) → Bool → List ℕ → ℕ → H → K → Type 0
  ServeStanding old before r q w v true unread n new after = EndsWell old before r w v n new after
  ServeStanding old before r q w v false unread n new after = ServedSoFar old before r q w v unread n new after

  -- It goes on so, or fails.
  abbrev pub ServeGoes : {T : Type 0} → (H → Method → List ℕ → FrontKind → H → Type 0) → H → K → Option (List ℕ) → Option (List ℕ) → Option (List ℕ) → Option (List ℕ)
      → Bool → List ℕ → ℕ → H → K → Result T FrontKind → Type 0
  ServeGoes lacks old before r q w v over unread n new after (Ok x) = ServeStanding old before r q w v over unread n new after
  ServeGoes lacks old before r q w v over unread n new after (Err e) = FailsBy lacks old before r q w v new after e
