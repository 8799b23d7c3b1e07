-- Over one device of which all is told, two readers are given the same, and leave the same device.
use Rattle.std.proofs.Common.{if◌then◌else◌, ◌≡◌, ◌≢◌, ℕ, zero, suc, ◌+◌, ◌-◌, Bool, true, false, List, [], ◌∷◌, ◌++◌, length, min, take, drop, Option, Some, None, refl, sym, ap, ap₂, subst, ◌∙◌, inl, inr, append_assoc, arith, length-take}
use Rattle.run_model.specs.declared.bucket.Content.{Content}
use Rattle.run_model.specs.declared.bucket.Content.TheVariants as content
use Rattle.run_model.specs.declared.bucket.NamedBucket.{NamedBucket}
use Rattle.run_model.specs.Buckets.{is_eos, has_eos}
use Rattle.run_model.specs.BucketSteps.{read_given}
use Rattle.run_model.specs.Cutting.{read_limit, wanted}
use Rattle.run_model.specs.Files.{parts_of}
use Rattle.run_model.specs.Passing.{Reads, Taken, and_taken, content_taken, delivered, followed, parts_taken, taken, taken_whole, unless_unread}
use Rattle.run_model.specs.State.{Out}
use Rattle.bucket_kinds.specs.Device.{Held, Missing, Untold, Holds, Device, MayFail, WasAsked, moved, nearer}
use Rattle.bucket_kinds.specs.Reading.{MayGiveBytes, MayEnd, GivesFor}
use Rattle.interp_state.specs.Given.{MayGive}
use Rattle.interp_calls.specs.Delivery.{IfElse, PartGiven, PartsGiven, ContentGiven, ReadsGiven}
use Rattle.run_laws.specs.KnownFiles.{AreFilesKnown}

pub moved_told : (d : Device) → AreFilesKnown d → AreFilesKnown (moved d)
moved_told d told = record { sound = ap nearer told.sound; named = told.named; numbered = told.numbered }

pub never_fails : (d : Device) → AreFilesKnown d → MayFail d.plan → ⊥
never_fails d told fails = subst MayFail told.sound fails

-- Of a file.

same_part : (h : Held) → h ≢ Untold → (start n : ℕ) (b c : List ℕ) → MayGiveBytes h start n b → MayGiveBytes h start n c → b ≡ c
same_part Missing told start n b c x y = absurd x
same_part Untold told start n b c x y = absurd (told refl)
same_part (Holds text) told start n b c x y = x.1 ∙ sym y.1

not_both : (h : Held) → h ≢ Untold → (start n : ℕ) (b : List ℕ) → MayGiveBytes h start n b → MayEnd h start n → ⊥
not_both Missing told start n b x y = absurd x
not_both Untold told start n b x y = absurd (told refl)
not_both (Holds text) told start n b x y =
    let long : length b ≡ n = x.0 in
    let same : length b ≡ length (take n (drop start text)) = ap length x.1 in
    let few = length-take n (drop start text) in
    omega (arith, long, same, few, y)

-- Of one read of a bucket.

asked_once : (n : ℕ) (d e f : Device) → WasAsked n d e → WasAsked n d f → e ≡ f
asked_once zero d e f x y = x ∙ sym y
asked_once (suc n) d e f x y = x.1 ∙ sym y.1

module _ (d : Device) (told : AreFilesKnown d) where
  both_given : (x : Content) (b c : List ℕ) → GivesFor d x b → GivesFor d x c → read_given (Some b) x ≡ read_given (Some c) x
  both_given (content.Bytes bs) b c gives others = refl
  both_given (content.Range file start len) b c gives others =
      ap (λ (bs : List ℕ). read_given (Some bs) (content.Range file start len)) (same_part (d.numbered file) (told.numbered file) start (min len read_limit) b c gives others)
  both_given content.Nothing b c gives others = refl

  one_given : (x : Content) (b : List ℕ) (e : Device) → GivesFor d x b → MayGive d x None e → ⊥
  one_given (content.Bytes bs) b e gives (some, why) = omega (arith, some)
  one_given (content.Range file start len) b e gives (some, inl failed) = never_fails d told failed.0
  one_given (content.Range file start len) b e gives (some, inr ends) = not_both (d.numbered file) (told.numbered file) start (min len read_limit) b gives ends.1
  one_given content.Nothing b e gives (some, why) = omega (arith, some)

  none_given : (x : Content) (e f : Device) → MayGive d x None e → MayGive d x None f → e ≡ f
  none_given x e f (some, inl failed) other = absurd (never_fails d told failed.0)
  none_given x e f (some, inr ends) (more, inl failed) = absurd (never_fails d told failed.0)
  none_given x e f (some, inr ends) (more, inr same) = ends.0.1 ∙ sym same.0.1

  pub given_once : (x : Content) (g h : Option (List ℕ)) (e f : Device) → MayGive d x g e → MayGive d x h f → (read_given g x ≡ read_given h x) × (e ≡ f)
  given_once x (Some b) (Some c) e f gives others = (both_given x b c gives.0 others.0, asked_once (wanted x) d e f gives.1 others.1)
  given_once x (Some b) None e f gives others = absurd (one_given x b f gives.0 others)
  given_once x None (Some c) e f gives others = absurd (one_given x c e others.0 gives)
  given_once x None None e f gives others = (refl, none_given x e f gives others)

-- Of the reads of a brigade.

and_followed : (b : List ℕ) (t : Taken) (R : ℕ → Taken) → followed (and_taken b t) R ≡ and_taken b (followed t R)
and_followed b t R = by t.whole t.bytes t.reads where
  by : (w : Bool) (bytes : List ℕ) (k : ℕ) → followed (and_taken b (record { bytes = bytes; whole = w; reads = k })) R ≡ and_taken b (followed
      (record { bytes = bytes; whole = w; reads = k }) R)
  by true bytes k = ap (λ (bs : List ℕ). record (R k) { bytes = bs }) (append_assoc b bytes (R k).bytes)
  by false bytes k = refl

-- What two readers take, and the devices that they leave.
abbrev Alike : Taken → Taken → Device → Device → Type 0
Alike t u e f = (t ≡ u) × (e ≡ f)

module _ (e f : Device) (reads others : Reads) where
  by_part : (d : Device) → AreFilesKnown d → (file start n k : ℕ) (g h : Option (List ℕ)) (rest more : Type 0) (t u : Taken) (R S : ℕ → Taken)
      → (rest → more → Alike (followed t R) (followed u S) e f)
      → PartGiven d e file start n g rest → PartGiven d f file start n h more → Alike (followed (unless_unread g k t) R) (followed (unless_unread h k u) S) e f
  by_part d told file start n k (Some b) (Some c) rest more t u R S go (gives, well, left) (gives', well', left') =
      let next = go left left' in
      let same = same_part (d.numbered file) (told.numbered file) start n b c gives gives' in
      (and_followed b t R ∙ ap₂ and_taken same next.0 ∙ sym (and_followed c u S), next.1)
  by_part d told file start n k (Some b) None rest more t u R S go (gives, well, left) (inl failed) = absurd (never_fails d told failed.0)
  by_part d told file start n k (Some b) None rest more t u R S go (gives, well, left) (inr ends) = absurd (not_both (d.numbered file) (told.numbered file) start n b gives ends.1)
  by_part d told file start n k None (Some c) rest more t u R S go (inl failed) (gives, well, left) = absurd (never_fails d told failed.0)
  by_part d told file start n k None (Some c) rest more t u R S go (inr ends) (gives, well, left) = absurd (not_both (d.numbered file) (told.numbered file) start n c gives ends.1)
  by_part d told file start n k None None rest more t u R S go (inl failed) y = absurd (never_fails d told failed.0)
  by_part d told file start n k None None rest more t u R S go (inr ends) (inl failed) = absurd (never_fails d told failed.0)
  by_part d told file start n k None None rest more t u R S go (inr ends) (inr same) = (refl, ends.0.1 ∙ sym same.0.1)

  module _ (next more : Device → ℕ → Type 0) (R S : ℕ → Taken) (go : (x : Device) (j : ℕ) → AreFilesKnown x → next x j → more x j → Alike (R j) (S j) e f) where
    parts_once : (n : ℕ) (d : Device) → AreFilesKnown d → (file start len k : ℕ) → PartsGiven d e n file start len reads next k → PartsGiven d f n file start len others more k
        → Alike (followed (parts_taken n k reads) R) (followed (parts_taken n k others) S) e f
    unfolding PartsGiven parts_taken
    parts_once zero d told file start len k x y = (let both = go d k told x y in (ap (λ (t : Taken). and_taken [] t) both.0, both.1))
    parts_once (suc n) d told file start len k x y =
        by_part d told file start (min len read_limit) k (reads k) (others k) _ _ (parts_taken n (k + 1) reads) (parts_taken n (k + 1) others) R S
        (λ left right. parts_once n (moved d) (moved_told d told) file (start + read_limit) (len - read_limit) (k + 1) left right) x y

    content_once : (c : Content) (d : Device) → AreFilesKnown d → (k : ℕ) → ContentGiven d e c reads next k → ContentGiven d f c others more k
        → Alike (followed (content_taken c k reads) R) (followed (content_taken c k others) S) e f
    content_once (content.Bytes bs) d told k x y = (let both = go d k told x y in (ap (λ (t : Taken). and_taken bs t) both.0, both.1))
    content_once (content.Range file start len) d told k x y = parts_once (parts_of len) d told file start len k x y
    content_once content.Nothing d told k x y = (let both = go d k told x y in (ap (λ (t : Taken). and_taken [] t) both.0, both.1))

  -- up to an EOS
  by_eos : (b : Bool) (d : Device) (t u w : Taken) (P Q : Type 0) → (P → Q → Alike t u e f) → IfElse b (e ≡ d) P → IfElse b (f ≡ d) Q → Alike (if b then w else t) (if b then w else u) e f
  by_eos true d t u w P Q go x y = (refl, x ∙ sym y)
  by_eos false d t u w P Q go x y = go x y

  pub items_once : (items : List NamedBucket) (d : Device) → AreFilesKnown d → (k : ℕ) → ReadsGiven d e items reads k → ReadsGiven d f items others k
      → Alike (taken items k reads) (taken items k others) e f
  unfolding ReadsGiven taken
  items_once [] d told k x y = (refl, x ∙ sym y)
  items_once (b ∷ bs) d told k x y =
      by_eos (is_eos b) d _ _ (taken_whole [] k) _ _
      (λ left right. content_once (λ g j. ReadsGiven g e bs reads j) (λ g j. ReadsGiven g f bs others j) (λ j. taken bs j reads) (λ j. taken bs j others)
      (λ g j still more rest. items_once bs g still j more rest) b.bucket.content d told k left right) x y

  -- What the end of the chain puts out.
  abbrev put : Out → Bool → Taken → Out × Bool
  put out ended t = (record { bytes = out.bytes ++ t.bytes; ended = ended }, t.whole)

  by_out : (b : Bool) (d : Device) (was : Out × Bool) (out : Out) (ended : Bool) (t u : Taken) (P Q : Type 0) → (P → Q → Alike t u e f) → IfElse b (e ≡ d) P → IfElse b (f ≡ d) Q
      → (◌≡◌ {A = Out × Bool} (if b then was else put out ended t) (if b then was else put out ended u)) × (e ≡ f)
  by_out true d was out ended t u P Q go x y = (refl, x ∙ sym y)
  by_out false d was out ended t u P Q go x y = (let both = go x y in (ap (put out ended) both.0, both.1))

  pub delivered_once : (d : Device) → AreFilesKnown d → (out : Out) (items : List NamedBucket) → IfElse out.ended (e ≡ d) (ReadsGiven d e items reads 0)
      → IfElse out.ended (f ≡ d) (ReadsGiven d f items others 0)
      → (delivered out items reads ≡ delivered out items others) × (e ≡ f)
  unfolding delivered
  delivered_once d told out items x y =
      by_out out.ended d (out, true) out (has_eos items) (taken items 0 reads) (taken items 0 others) _ _ (λ left right. items_once items d told 0 left right) x y
