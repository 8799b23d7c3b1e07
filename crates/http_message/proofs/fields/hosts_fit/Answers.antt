-- The count of Host lines that is known stops at two, which is too many.
use Rattle.std.proofs.Common.{◌≡◌, ℕ, ◌<◌, ◌≤◌, Bool, true, false, ◌&&◌, ◌||◌, List, map, min, ap, ap₂, sym, ◌∙◌, arith}
use Rattle.std.specs.Prelude.{nat_lt, ◌==◌}
use Rattle.std.proofs.lemmas.Bool.{le-leb, lt-leb, eq-eqb, ne_eqb}
use Rattle.http1.specs.Fields.{Header, known_fields}
use Rattle.http1.specs.declared.fields.KnownFields.{KnownFields}
use Rattle.http_message.specs.Prelude.{header_bytes}
use Rattle.http_message.specs.Fields.{hosts, hosts_fit}
use Rattle.http_message.proofs.fields.hosts_fit.Goals as goal

counted : (fields : List Header) (k : KnownFields) → k ≡ known_fields fields → k.hosts ≡ min (hosts fields) 2
unfolding known_fields
counted fields k is = ap (λ (x : KnownFields). x.hosts) is

-- one line or none
few : (minor : ℕ) (fields : List Header) (known : ℕ) (old : Bool) → known ≡ min (hosts fields) 2 → known ≤ 1 → (minor == 0) ≡ old
    → (old || nat_lt 0 known) ≡ hosts_fit minor fields
unfolding hosts_fit
few minor fields known old is low o =
    let same : known ≡ hosts fields = omega arith in
    let fits : hosts fields ≤ 1 = omega arith in
    ap₂ (λ (x : Bool) (n : ℕ). x || nat_lt 0 n) (sym o) same ∙ sym (ap (λ (x : Bool). x && ((minor == 0) || nat_lt 0 (hosts fields))) (le-leb (hosts fields) 1 fits))

many : (minor : ℕ) (fields : List Header) (known : ℕ) → known ≡ min (hosts fields) 2 → 1 < known → false ≡ hosts_fit minor fields
unfolding hosts_fit
many minor fields known is high =
    let over : 1 < hosts fields = omega arith in
    sym (ap (λ (x : Bool). x && ((minor == 0) || nat_lt 0 (hosts fields))) (lt-leb (hosts fields) 1 over))

pub returns-then-minor-eq0 : goal.returns-then-minor-eq0
returns-then-minor-eq0 c =
    let fields = map (header_bytes c.args.buf.now) c.args.spans.now in
    let old = eq-eqb c.args.minor 0 c.if-minor-eq0.true in
    old ∙ few c.args.minor fields c.from_spans-known.result.hosts true (counted fields _ c.from_spans-known.ensures) c.if-known-le1.true old

pub returns-else-minor-eq0 : goal.returns-else-minor-eq0
returns-else-minor-eq0 c =
    let fields = map (header_bytes c.args.buf.now) c.args.spans.now in
    few c.args.minor fields c.from_spans-known.result.hosts false (counted fields _ c.from_spans-known.ensures) c.if-known-le1.true (ne_eqb c.args.minor 0 c.if-minor-eq0.false)

pub returns-else-known-le1 : goal.returns-else-known-le1
returns-else-known-le1 c =
    let fields = map (header_bytes c.args.buf.now) c.args.spans.now in
    lt-leb c.from_spans-known.result.hosts 1 c.if-known-le1.false ∙ many c.args.minor fields c.from_spans-known.result.hosts (counted fields _ c.from_spans-known.ensures) c.if-known-le1.false
