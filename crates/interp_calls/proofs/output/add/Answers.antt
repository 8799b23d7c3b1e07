-- Bytes in memory are added as they are, and of a range those of its reads.
use Rattle.std.proofs.Common.{rules, ◌≡◌, ◌+◌, ℕ, [], true, length, take, refl, sym, ap, subst, ◌∙◌}
use Rattle.std.proofs.Math.Seq.{take-append_seam, take-length}
use Rattle.std.proofs.lemmas.List.{append-nil, nil_from_length}
use Rattle.std.proofs.lemmas.Result.{err_from_is_err_and}
use Rattle.run_model.specs.Cutting.{length_of}
use Rattle.bucket_store.specs.declared.view.ContentView.{ContentView}
use Rattle.bucket_store.specs.Views.{content_of}
use Rattle.interp_calls.specs.Delivery.{ContentAdded}
use Rattle.interp_calls.specs.Filled.{HasRoomFor, text}
use Rattle.interp_calls.proofs.Delivering.{memory_taken, nothing_taken}
use Rattle.interp_calls.proofs.output.add.Goals as goal

pub returns-in_err-extend-in-Bytes : goal.returns-in_err-extend-in-Bytes
returns-in_err-extend-in-Bytes g c =
    let out = text c.args.out.now in
    let len : length_of (content_of c.args.content) ≡ length c.in-Bytes.bytes.now = ap (λ (v : ContentView). length_of (content_of v)) c.in-Bytes.is in
    let not = c.in_err-extend-in-Bytes.ensures in
    rw (err_from_is_err_and c.from_residual.result c.from_residual.ensures.1).1 (record {
      added = tt;
      front = ap (take (length out)) not.err ∙ take-length out;
      sure = λ none. not.sure (nil_from_length c.in-Bytes.bytes.now (sym len ∙ none));
      fits = λ room. not.fits (subst (λ (n : ℕ). HasRoomFor n c.args.out.now) len room);
      room = λ n room. not.room n (subst (λ (m : ℕ). HasRoomFor (m + n) c.args.out.now) len room);
      within = not.within;
      still = λ none. refl;
      unread = refl;
      open_files = refl;
    })

pub returns-in_ok-extend-in-Bytes : goal.returns-in_ok-extend-in-Bytes
returns-in_ok-extend-in-Bytes g c =
    let d = g.F.Files.device c.args.files.now in
    let bs = c.in-Bytes.bytes.now in
    let old = text c.args.out.now in
    let len : length_of (content_of c.args.content) ≡ length bs = ap (λ (v : ContentView). length_of (content_of v)) c.in-Bytes.is in
    let ok = c.in_ok-extend-in-Bytes.ensures in
    record {
      added = subst (λ (v : ContentView). ContentAdded d d (content_of v) true old (text c.extend.new.self)) (sym c.in-Bytes.is)
          (record { added = bs; grown = ok.ok; taken_so = memory_taken d bs });
      front = ap (take (length old)) ok.ok ∙ take-append_seam old bs;
      sure = λ none. refl;
      fits = λ room. refl;
      room = λ n room. ok.room n (subst (λ (m : ℕ). HasRoomFor (m + n) c.args.out.now) len room);
      within = ok.within;
      still = λ none. refl;
      unread = tt;
      open_files = refl;
    }

pub returns-in-Nothing-clause-added : goal.returns-in-Nothing-clause-added
returns-in-Nothing-clause-added g c =
    let d = g.F.Files.device c.args.files.now in
    let out = text c.args.out.now in
    subst (λ (v : ContentView). ContentAdded d d (content_of v) true out out) (sym c.in-Nothing.is) (record { added = []; grown = sym (append-nil out); taken_so = nothing_taken d })

pub returns-in-Range : goal.returns-in-Range
returns-in-Range g c = search rules
