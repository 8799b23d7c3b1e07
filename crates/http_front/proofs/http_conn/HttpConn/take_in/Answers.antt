use Rattle.std.proofs.Common.{take, [], inl, inr, refl, sym, append-nil, rules}
use Rattle.std.proofs.KnownBytes.{Consumes-kept, Consumes-nil}
use Rattle.http_front.proofs.TurnLaws.{read_short, read_some}
use Rattle.http_front.proofs.http_conn.HttpConn.take_in.Goals as goal

pub returns-then-self-eq0 : goal.returns-then-self-eq0
returns-then-self-eq0 g c = record {
  took = ([], Consumes-nil _, tt);
  text = refl;
  over = refl;
  hand = refl;
  eof = λ is. inl is;
  needs_input = λ is. is;
  requests = refl;
  lost = Consumes-nil _;
  source = (c.if-self-eq0.true, refl);
  unwritten = search rules;
}

pub returns-in-Ok-End : goal.returns-in-Ok-End
returns-in-Ok-End g c =
    let got = rw c.in-Ok-End.field-0-is at c.in-Ok-End.ensures in
    record {
      took = ([], Consumes-kept _ _ _ [] (Consumes-nil _) got.0, sym (append-nil _));
      text = refl;
      over = refl;
      hand = refl;
      eof = λ is. inr got.1;
      needs_input = search rules;
      requests = refl;
      lost = tt;
      source = got.2;
      unwritten = search rules;
    }

pub returns-in-Ok-NotNow : goal.returns-in-Ok-NotNow
returns-in-Ok-NotNow g c =
    let got = rw c.in-Ok-NotNow.field-0-is at c.in-Ok-NotNow.ensures in
    record {
      took = ([], Consumes-kept _ _ _ [] (Consumes-nil _) got.0, sym (append-nil _));
      text = refl;
      over = refl;
      hand = refl;
      eof = λ is. inl is;
      needs_input = λ is. is;
      requests = refl;
      lost = tt;
      source = got.1;
      unwritten = search rules;
    }

pub returns-in-Ok : goal.returns-in-Ok
returns-in-Ok g c =
    let got = rw c.in-Ok-Bytes.field-0-is at c.in-Ok-Bytes.ensures in
    record {
      took = (take c.in-Ok-Bytes.count c.read.new.buffer, got.2, c.in-Ok.ensures.ok);
      text = refl;
      over = refl;
      hand = refl;
      eof = λ is. inl is;
      needs_input = search rules;
      requests = refl;
      lost = tt;
      source = got.3;
      unwritten = search rules;
    }

pub returns-in-Err-add : goal.returns-in-Err-add
returns-in-Err-add g c =
    let got = rw c.in-Ok-Bytes.field-0-is at c.in-Ok-Bytes.ensures in
    record {
      took = (take c.in-Ok-Bytes.count c.read.new.buffer, got.2, tt);
      text = refl;
      over = refl;
      hand = refl;
      eof = λ is. inl is;
      needs_input = λ is. is;
      requests = refl;
      source = got.3;
      unwritten = search rules;
      lost = (take c.in-Ok-Bytes.count c.read.new.buffer, read_some c.in-Ok-Bytes.count c.read.new.buffer got.0 got.1, read_short c.in-Ok-Bytes.count c.read.new.buffer got.1, got.2);
    }

pub returns-in-Err : goal.returns-in-Err
returns-in-Err g c = record {
  took = ([], Consumes-kept _ _ _ [] (Consumes-nil _) c.in-Err.ensures.0, tt);
  text = refl;
  over = refl;
  hand = refl;
  eof = λ is. inl is;
  needs_input = λ is. is;
  requests = refl;
  lost = Consumes-kept _ _ _ [] (Consumes-nil _) c.in-Err.ensures.0;
  source = c.in-Err.ensures.1;
  unwritten = search rules;
}
