use Rattle.std.proofs.Common.{take, sym, append-nil, arith, [], rules}
use Rattle.std.proofs.KnownBytes.{Consumes-kept, Consumes-nil}
use Rattle.http_front.proofs.Stepped.{so_not}
use Rattle.http_front.proofs.TurnLaws.{read_short, read_some}
use Rattle.http_front.proofs.http_conn.HttpConn.take_counted.Goals as goal

pub returns-in-Err-clause-err : goal.returns-in-Err-clause-err
returns-in-Err-clause-err g c =
    let got = rw c.in-Ok-Bytes.field-0-is at c.in-Ok-Bytes.ensures in
    let few = read_short c.in-Ok-Bytes.count c.read.new.buffer got.1.1 in
    (take c.in-Ok-Bytes.count c.read.new.buffer, read_some c.in-Ok-Bytes.count c.read.new.buffer got.1.0 got.1.1, omega (arith, few, c.requires.room, c.read.auto.buffer), got.1.2)

pub returns-in-Ok-End-clause-ok : goal.returns-in-Ok-End-clause-ok
returns-in-Ok-End-clause-ok g c =
    let got = rw c.in-Ok-End.field-0-is at c.in-Ok-End.ensures in
    record { bytes = []; took = Consumes-kept _ _ _ [] (Consumes-nil _) got.1.0; added = sym (append-nil _); few = omega arith; end = λ is. got.1.1 }

pub returns-in-Ok-NotNow-clause-ok : goal.returns-in-Ok-NotNow-clause-ok
returns-in-Ok-NotNow-clause-ok g c =
    let got = rw c.in-Ok-NotNow.field-0-is at c.in-Ok-NotNow.ensures in
    record { bytes = []; took = Consumes-kept _ _ _ [] (Consumes-nil _) got.1.0; added = sym (append-nil _); few = omega arith; end = λ is. absurd (so_not c.requires.more is) }

pub returns-in-Err-Failed-clause-err : goal.returns-in-Err-Failed-clause-err
returns-in-Err-Failed-clause-err g c = Consumes-kept _ _ _ [] (Consumes-nil _) (rw c.in-Err-Failed.field-0-is at c.in-Err-Failed.ensures).1

pub returns-in-Err-TooManyReads-clause-err : goal.returns-in-Err-TooManyReads-clause-err
returns-in-Err-TooManyReads-clause-err g c = Consumes-kept _ _ _ [] (Consumes-nil _) (rw c.in-Err-TooManyReads.field-0-is at c.in-Err-TooManyReads.ensures).2

pub returns-in-Err-TooManyReads-clause-blames : goal.returns-in-Err-TooManyReads-clause-blames
returns-in-Err-TooManyReads-clause-blames g c = search rules
