-- What buckets and files hold stays bytes where an instruction steps.
use Rattle.std.proofs.Common.{◌≡◌, ℕ, ◌+◌, ◌<◌, ◌≤◌, Bool, true, false, cond, ◌==◌, List, [], ◌∷◌, length, drop, get_or, Some, All, inl, inr, sym, subst, arith}
use Rattle.std.proofs.lemmas.Bool.{cases_lt}
use Rattle.std.proofs.lemmas.List.{get_or_past}
use Rattle.std.proofs.lemmas.List.Elements.{All-nil, All-cons, All-head, All-tail, All-take, All-drop, All-get_or}
use Rattle.module_code.specs.declared.instr.Instr.{Instr}
use Rattle.module_code.specs.Program.{Program, IsModule}
use Rattle.run_model.specs.declared.bucket.Content.{Content}
use Rattle.run_model.specs.declared.bucket.Content.TheVariants as content
use Rattle.run_model.specs.declared.bucket.Bucket.{Bucket}
use Rattle.run_model.specs.declared.bucket.NamedBucket.{NamedBucket}
use Rattle.run_model.specs.declared.event.Piece.{Piece}
use Rattle.run_model.specs.declared.event.Piece.TheVariants as piece
use Rattle.run_model.specs.Cutting.{front_of, rest_of}
use Rattle.run_model.specs.State.{Configuration}
use Rattle.run_model.specs.Cursors.{CursorPlace, Nowhere, AtEndOf, at_cursor}
use Rattle.run_model.specs.BucketSteps.{content_at, first_of, byte_of, read_given}
use Rattle.run_model.specs.Steps.{Choice, step, text_of}
use Rattle.run_model.specs.Pieces.{bucket_of, named_from}
use Rattle.model_laws.specs.Ranges.{AreBytes, HoldsBytes, GivesBytes, IsOfBytes}
use Rattle.run_model.proofs.CursorPlaces.{StandsThere, stands}
use Rattle.model_laws.proofs.Origins.{EachBucketIs, PassesParts, Holds, IsNewContent, OfText, OfBuffer, OfNone, held_at}
use Rattle.model_laws.proofs.Contents.{step_contents}

-- The bytes that a bucket holds are bytes.
abbrev pub OfBytes : Bucket → Type 0
OfBytes b = HoldsBytes b.content

abbrev OfNamed : NamedBucket → Type 0
OfNamed x = OfBytes x.bucket

none : EachBucketIs OfBytes []
none = All-nil OfNamed

-- Parts of a bucket, and buckets that are made.

front_bytes : (n : ℕ) (c : Content) → HoldsBytes c → HoldsBytes (front_of n c)
front_bytes n (content.Bytes bs) h = All-take (λ b. b ≤ 255) n bs h
front_bytes n (content.Range file start len) h = tt
front_bytes n content.Nothing h = tt

rest_bytes : (n : ℕ) (c : Content) → HoldsBytes c → HoldsBytes (rest_of n c)
rest_bytes n (content.Bytes bs) h = All-drop (λ b. b ≤ 255) n bs h
rest_bytes n (content.Range file start len) h = tt
rest_bytes n content.Nothing h = tt

parts : PassesParts OfBytes
parts = record { front = λ n b le h. front_bytes n b.content h; rest = λ n b le h. rest_bytes n b.content h }

pub text_bytes : (p : Program) → IsModule p → (t : ℕ) → AreBytes (text_of p t)
unfolding text_of
text_bytes p m t = elim (cases_lt t (length p.texts)) [
  | inl lt ↦ small (get_or p.texts t []) (All-get_or (λ u. All (λ b. b < 256) u) p.texts t [] lt m.bytes)
  | inr le ↦ subst AreBytes (sym (get_or_past p.texts t [] le)) (All-nil (λ b. b ≤ 255))
] where
  small : (u : List ℕ) → All (λ b. b < 256) u → AreBytes u
  small u all = λ k d lt. let h : get_or u k d < 256 = all k d lt in omega arith

given_bytes : (choice : Choice) → GivesBytes choice → (c : Content) (bytes : List ℕ) → read_given choice.given c ≡ Some bytes → AreBytes bytes
given_bytes choice gives (content.Bytes bs) bytes is = let none_given : bytes ≡ [] = cc in subst AreBytes (sym none_given) (All-nil (λ b. b ≤ 255))
given_bytes choice gives (content.Range file start len) bytes is = by_length (len == 0) is where
  by_length : (b : Bool) → cond b (Some []) choice.given ≡ Some bytes → AreBytes bytes
  by_length true is = let none_given : bytes ≡ [] = cc in subst AreBytes (sym none_given) (All-nil (λ b. b ≤ 255))
  by_length false is = gives bytes is
given_bytes choice gives content.Nothing bytes is = let none_given : bytes ≡ [] = cc in subst AreBytes (sym none_given) (All-nil (λ b. b ≤ 255))

put_bytes : (p : Program) (r : Configuration) → IsModule p → AreBytes r.call.buffer → (c : Content) → IsNewContent p r c → HoldsBytes c
put_bytes p r m buffer c (OfText t) = text_bytes p m t
put_bytes p r m buffer c OfBuffer = buffer
put_bytes p r m buffer c OfNone = tt

pub step_holds : (p : Program) (choice : Choice) (i : Instr) (r : Configuration) → IsModule p → GivesBytes choice → AreBytes r.call.buffer → Holds OfBytes r → Holds OfBytes (step p choice i r).state
step_holds p choice i r m gives buffer h = step_contents HoldsBytes p choice i r parts (λ b new put. put_bytes p r m buffer b.content put) (given_bytes choice gives) h

-- Bytes that are asked for.

place_bytes : (r : Configuration) (s : CursorPlace) → StandsThere r s → Holds OfBytes r → HoldsBytes (content_at s)
place_bytes r Nowhere there h = tt
place_bytes r (AtEndOf b) there h = tt
place_bytes r s there h = held_at OfNamed r h s there

first_byte : (xs : List ℕ) (v : ℕ) → AreBytes xs → first_of xs ≡ Some v → v ≤ 255
first_byte [] v all is = absurd (cc)
first_byte (x ∷ xs) v all is = let le : x ≤ 255 = All-head (λ b. b ≤ 255) x xs all in let same : x ≡ v = cc in subst (λ (k : ℕ). k ≤ 255) same le

byte_small : (k v : ℕ) (c : Content) → HoldsBytes c → byte_of k c ≡ Some v → v ≤ 255
byte_small k v (content.Bytes bs) all is = first_byte (drop k bs) v (All-drop (λ b. b ≤ 255) k bs all) is
byte_small k v (content.Range file start len) all is = absurd (cc)
byte_small k v content.Nothing all is = absurd (cc)

-- the byte of a bucket at which a cursor stands
pub byte_there : (r : Configuration) (c k v : ℕ) → Holds OfBytes r → byte_of k (content_at (at_cursor r c)) ≡ Some v → v ≤ 255
byte_there r c k v h is = byte_small k v (content_at (at_cursor r c)) (place_bytes r (at_cursor r c) (stands r (r.call.cursors c)) h) is

-- Buckets that are brought.

piece_bytes : (call req : ℕ) (x : Piece) → IsOfBytes x → OfBytes (bucket_of call req x)
piece_bytes call req (piece.File file start len) h = tt
piece_bytes call req x h = h

pub named_bytes : (call req n : ℕ) (xs : List Piece) → All IsOfBytes xs → EachBucketIs OfBytes (named_from (bucket_of call req) n xs)
named_bytes call req n [] all = none
named_bytes call req n (x ∷ xs) all =
    All-cons OfNamed _ (named_from (bucket_of call req) (n + 1) xs) (piece_bytes call req x (All-head IsOfBytes x xs all)) (named_bytes call req (n + 1) xs (All-tail IsOfBytes x xs all))
