-- What an inbox holds.
use Rattle.std.specs.Prelude.{ℕ, List, drop}
use Rattle.http_message.specs.declared.read_buffer.ReadBuffer.{ReadBuffer}

-- the bytes that are not served
abbrev pub unread : ReadBuffer → List ℕ
unread read_buffer = drop read_buffer.at read_buffer.bytes.items
