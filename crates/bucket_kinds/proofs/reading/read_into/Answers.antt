-- A read of a range takes its bytes from the file, or none where it is empty, and leaves what stands behind them.
use Rattle.std.proofs.Common.{◌≡◌, ℕ, min, true, List, [], length, take, drop, Option, sym, ap, subst, ◌∙◌, arith}
use Rattle.std.proofs.lemmas.Bool.{false≢true}
use Rattle.std.proofs.lemmas.List.{nil_from_length}
use Rattle.run_model.specs.declared.bucket.Bucket.{Bucket}
use Rattle.run_model.specs.declared.bucket.Content.{Content}
use Rattle.run_model.specs.declared.bucket.Content.TheVariants as content
use Rattle.run_model.specs.Cutting.{heap_of, read_as, read_limit, wanted}
use Rattle.bucket_kinds.specs.Device.{Held, Missing, Untold, Holds, Device, is_there}
use Rattle.bucket_kinds.specs.Reading.{MayGiveBytes, IsOpenFor, GivesFor}
use Rattle.bucket_kinds.proofs.reading.read_into.Goals as goal
use Rattle.bucket_kinds.proofs.reading.read_into.Goals.{then-len-eq0, else-len-eq0+in_ok-bytes}

gives_none : (h : Held) (start n : ℕ) (bytes : List ℕ) → is_there h ≡ true → length bytes ≡ n → n ≡ 0 → MayGiveBytes h start n bytes
gives_none Missing start n bytes there count none = absurd (false≢true there)
gives_none Untold start n bytes there count none = count
gives_none (Holds text) start n bytes there count none = (count, nil_from_length bytes (count ∙ none) ∙ sym (ap (λ m. take m (drop start text)) none))

gives_range : (d : Device) (k : Content) (file start len : ℕ) (bytes : List ℕ)
    → k ≡ content.Range file start len → MayGiveBytes (d.numbered file) start (min len read_limit) bytes → GivesFor d k bytes
gives_range d k file start len bytes is given = rw is given

reads_range : (bytes : List ℕ) (b : Bucket) (k : Content) (file start len : ℕ) (rest : Option Bucket)
    → k ≡ content.Range file start len → rest ≡ (read_as [] b k).1 → (heap_of (content.Bytes bytes), rest) ≡ read_as bytes b k
reads_range bytes b k file start len rest is rest_is =
    rw is (ap (λ (r : Option Bucket). let both : Bucket × Option Bucket = (heap_of (content.Bytes bytes), r) in both) (rw is at rest_is))

pub returns-clause-ok : goal.returns-clause-ok
returns-clause-ok g c =
    let device = g.F.Files.device c.args.files.now in
    let b = c.args.bucket.now in
    let r = c.in-Range in
    let n = min r.len read_limit in
    let room = c.args.room in
    let count : length room ≡ n = c.requires.room ∙ ap wanted r.is in
    let there : is_there (device.numbered r.file) ≡ true = subst (λ (k : Content). IsOpenFor device k) r.is c.requires.open in
    let given : MayGiveBytes (device.numbered r.file) r.start n c.if-len-eq0.bytes = elim c.if-len-eq0.branch [
      | then-len-eq0 w ↦ subst (λ (bs : List ℕ). MayGiveBytes (device.numbered r.file) r.start n bs) (sym w.bytes-is)
          (gives_none (device.numbered r.file) r.start n room there count (let e = w.if-len-eq0.true in omega (arith, e)))
      | else-len-eq0+in_ok-bytes w ↦ subst (λ (bs : List ℕ). MayGiveBytes (device.numbered r.file) r.start n bs) (sym w.bytes-is)
          (subst (λ (m : ℕ). MayGiveBytes (device.numbered r.file) r.start m w.in_ok-bytes.bytes) count w.in_ok-bytes.ensures.given)
    ] in (
      c.if-len-eq0.bytes,
      gives_range device b.content r.file r.start r.len c.if-len-eq0.bytes r.is given,
      reads_range c.if-len-eq0.bytes b b.content r.file r.start r.len c.rest_of_read-rest.result r.is c.rest_of_read-rest.ensures,
    )
