use Rattle.std.proofs.Common.{length, inl, inr, refl, ap, ◌∙◌, arith, length-drop, []}
use Rattle.std.proofs.KnownBytes.{Appends-kept, Appends-nil}
use Rattle.http_front.specs.Texts.{text_of}
use Rattle.http_front.proofs.RestLaws.{rest_further, rest_none}
use Rattle.http_front.proofs.http_conn.HttpConn.put_out.Goals as goal

pub write_parts-requires : goal.write_parts-requires
write_parts-requires g c =
    let t = c.args.self.now in
    omega (arith, ap length c.rest.ensures ∙ length-drop t.sent (text_of t.text), t.sized, c.requires)

pub overflow_add-self : goal.overflow_add-self
overflow_add-self g c =
    let t = c.args.self.now in
    let w = rw c.in-Ok-Bytes.field-0-is at c.in-Ok-Bytes.ensures.written in
    omega (arith, w.1, ap length c.rest.ensures ∙ length-drop t.sent (text_of t.text), t.sized)

pub invariant_of-self-clause-sized : goal.invariant_of-self-clause-sized
invariant_of-self-clause-sized g c = c.args.self.now.sized

pub invariant_of-self-clause-sends : goal.invariant_of-self-clause-sends
invariant_of-self-clause-sends g c =
    let t = c.args.self.now in
    let w = rw c.in-Ok-Bytes.field-0-is at c.in-Ok-Bytes.ensures.written in
    omega (arith, w.1, ap length c.rest.ensures ∙ length-drop t.sent (text_of t.text), t.sized, t.sends, c.requires)

pub returns-then-self : goal.returns-then-self
returns-then-self g c =
    let t = c.args.self.now in
    let w = rw (c.in-Ok-Bytes.field-0-is, c.rest.ensures) at c.in-Ok-Bytes.ensures.written in
    let f = c.forget_text.ensures in
    record {
      wrote = (c.in-Ok-Bytes.count, w.2, f.pending ∙ rest_none (text_of t.text) t.sent c.in-Ok-Bytes.count (c.if-self.true ∙ t.sized));
      read_buffer = f.read_buffer;
      over = f.over;
      hand = f.hand;
      eof = f.eof;
      needs_input = f.needs_input;
      requests = f.requests;
      still = f.still;
      kinds = tt;
      sink = w.3;
    }

pub returns-else-self : goal.returns-else-self
returns-else-self g c =
    let w = rw (c.in-Ok-Bytes.field-0-is, c.rest.ensures) at c.in-Ok-Bytes.ensures.written in
    record {
      wrote = (c.in-Ok-Bytes.count, w.2, rest_further (text_of c.args.self.now.text) c.args.self.now.sent c.in-Ok-Bytes.count);
      read_buffer = refl;
      over = refl;
      hand = refl;
      eof = refl;
      needs_input = refl;
      requests = refl;
      still = refl;
      kinds = tt;
      sink = w.3;
    }

pub returns-in-Ok-NotNow : goal.returns-in-Ok-NotNow
returns-in-Ok-NotNow g c =
    let w = rw c.in-Ok-NotNow.field-0-is at c.in-Ok-NotNow.ensures.written in
    record {
      wrote = (0, Appends-kept _ _ _ [] (Appends-nil _) w.0, refl);
      read_buffer = refl;
      over = refl;
      hand = refl;
      eof = refl;
      needs_input = refl;
      requests = refl;
      still = refl;
      kinds = tt;
      sink = w.1;
    }

pub returns-in-Err-Failed : goal.returns-in-Err-Failed
returns-in-Err-Failed g c =
    let w = rw c.in-Err-Failed.field-0-is at c.in-Err-Failed.ensures.written in
    record {
      wrote = (0, Appends-kept _ _ _ [] (Appends-nil _) w.0, refl);
      read_buffer = refl;
      over = refl;
      hand = refl;
      eof = refl;
      needs_input = refl;
      requests = refl;
      still = refl;
      kinds = inl refl;
      sink = w.1;
    }

pub returns-in-Err-NoMemory : goal.returns-in-Err-NoMemory
returns-in-Err-NoMemory g c =
    let w = rw c.in-Err-NoMemory.field-0-is at c.in-Err-NoMemory.ensures.written in
    record {
      wrote = (0, Appends-kept _ _ _ [] (Appends-nil _) w.0, refl);
      read_buffer = refl;
      over = refl;
      hand = refl;
      eof = refl;
      needs_input = refl;
      requests = refl;
      still = refl;
      kinds = inr refl;
      sink = w.1;
    }
