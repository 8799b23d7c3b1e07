use Rattle.std.proofs.Common.{◌≡◌, ◌∙◌, ap, subst, arith, take, drop}
use Rattle.std.specs.Char.{is_ascii_hexdigit}
use Rattle.std.specs.List.{list_all}
use Rattle.author_text.specs.Scanning.{TakesPiece}
use Rattle.author_text.specs.TextTokens.{hex_len, number_below}
use Rattle.author_text.proofs.ScanLaws.{digits_hex, hex_all, hex_short, number_hex, number_plain}
use Rattle.author_text.proofs.scan.Scanner.number.Goals as goal

pub returns-then-hex-gt0 : goal.returns-then-hex-gt0
returns-then-hex-gt0 c = λ clear.
    let rest = c.args.self.now.rest.now in
    let digits : c.front.result.now ≡ take (hex_len rest) (drop 2 rest) =
    c.front.ensures ∙ ap (take c.hex_len-hex.result) c.after.ensures ∙ ap (λ n. take n (drop 2 rest)) c.hex_len-hex.ensures in
    let value = c.number_of-value.ensures (ap (list_all is_ascii_hexdigit) digits ∙ hex_all rest) ∙ ap (number_below 16) digits in
    subst (λ p. TakesPiece p c.args.self.now c.number_token.new.self c.number_token.result)
    (number_hex rest c.number_of-value.result c.saturating_add.result (omega (arith, c.hex_len-hex.ensures)) value (omega (arith, c.hex_len-hex.ensures, hex_short rest)))
    (c.number_token.ensures clear)

pub returns : goal.returns
returns c = λ clear.
    let rest = c.args.self.now.rest.now in
    let value =
    c.number_of.ensures (ap (list_all is_ascii_hexdigit) (c.front-2.ensures ∙ ap (λ n. take n rest) c.len_of-len.ensures) ∙ digits_hex rest)
    ∙ ap (number_below 10) c.front-2.ensures in
    subst (λ p. TakesPiece p c.args.self.now c.number_token-2.new.self c.number_token-2.result)
    (number_plain rest c.number_of.result c.len_of-len.result (omega (arith, c.hex_len-hex.ensures)) value c.len_of-len.ensures) (c.number_token-2.ensures clear)
