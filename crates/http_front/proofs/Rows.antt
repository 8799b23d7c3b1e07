-- The worked requests, computed.
use Rattle.std.proofs.Common.{◌≡◌, ℕ, ◌<◌, ◌≤◌, Bool, List, [], ◌∷◌, length, replicate, Option, refl, sym, ap, subst, ◌∙◌, append-nil, arith, lit<, lit≤}
use Rattle.std.specs.Fmt.{digits}
use Rattle.std.specs.Prelude.{codes, All}
use Rattle.std.proofs.lemmas.List.Elements.{All-cons, All-replicate}
use Rattle.std.proofs.lemmas.List.Sums.{AllPass-from_list_all}
use Rattle.httparse.specs.Grammar.{Field, IsField, IsRequestHead, RequestHead, is_token_byte, is_uri_byte, is_value_byte, print_request, trim_ows}
use Rattle.httparse.proofs.GrammarLemmas.{request_unique}
use Rattle.http1.specs.Fields.{elements}
use Rattle.http1.specs.Text.{eq_ignore_case}
use Rattle.httpdate.specs.Calendar.{days_of_months, days_of_years}
use Rattle.httpdate.specs.declared.date.HttpDate.{HttpDate}
use Rattle.percent_encoding.specs.Percent.{percent_decode}
use Rattle.http_message.specs.Asking.{head_closes, method_refusal, head_refusal, target_path}
use Rattle.http_message.specs.Fields.{closes, field_refusal, has_content, hosts_fit, is_bad_length}
use Rattle.http_message.specs.Heads.{IsHeadlessWithin}
use Rattle.http_message.specs.Replying.{closing, head_text, middle, opening, reply_text}
use Rattle.http_message.specs.Routes.{is_site_path}
use Rattle.http_message.specs.declared.failure.Failure.{Failure}
use Rattle.http_message.specs.declared.reply.Method.{Method}
use Rattle.http_message.specs.declared.reply.Reply.{Reply}
use Rattle.http_message.specs.declared.reply.Version.{Version}
use Rattle.http_message.specs.declared.status.StatusCode.{StatusCode}
use Rattle.http_message.proofs.SitePaths.{path-utf8}
use Rattle.http_front.specs.Outcomes.{file_of}
use Rattle.http_front.specs.declared.handler.RequestOutcome.{RequestOutcome}
use Rattle.http_front.specs.Rows.{Http10, HttpBadHead, HttpConnectionOption, HttpEmptyFile, HttpFailing, HttpGet, HttpGetAbsolute, HttpHead, HttpLargeFile}
use Rattle.http_front.specs.Rows.{HttpManyFields, HttpMethods, HttpMissing, HttpRequestBody, RepliesAreThese, bad_reply, without_body, failed, host, line, many, reply_of}
use Rattle.http_front.specs.Turns.{fields_limit, head_limit}

-- replies with the same parts
same_reply : (r q : Reply) → r.status ≡ q.status → r.version ≡ q.version → r.method ≡ q.method → r.closes ≡ q.closes → r.body ≡ q.body → r.failure ≡ q.failure → r ≡ q
same_reply r q status version method closes body failure =
    ap (λ (x : StatusCode). build x r.version r.method r.closes r.body r.failure) status
    ∙ ap (λ (x : Version). build q.status x r.method r.closes r.body r.failure) version
    ∙ ap (λ (x : Method). build q.status q.version x r.closes r.body r.failure) method
    ∙ ap (λ (x : Bool). build q.status q.version q.method x r.body r.failure) closes
    ∙ ap (λ (x : List ℕ). build q.status q.version q.method q.closes x r.failure) body
    ∙ ap (λ (x : Option Failure). build q.status q.version q.method q.closes q.body x) failure
  where
    build : StatusCode → Version → Method → Bool → List ℕ → Option Failure → Reply
    build a b c d e f = record { status = a; version = b; method = c; closes = d; body = e; failure = f }

-- outcomes with the same parts
pub same_outcome : (o p : RequestOutcome) → o.status ≡ p.status → o.body ≡ p.body → o.failure ≡ p.failure → o ≡ p
same_outcome o p status body failure =
    ap (λ (x : StatusCode). build x o.body o.failure) status ∙ ap (λ (x : List ℕ). build p.status x o.failure) body ∙ ap (λ (x : Option Failure). build p.status p.body x) failure
  where
    build : StatusCode → List ℕ → Option Failure → RequestOutcome
    build a b c = record { status = a; body = b; failure = c }

-- the moment 784111777, as a date
sunday : HttpDate
unfolding days_of_years days_of_months
sunday = record {
  parts = record { year = 1994; mon = 11; day = 6; hour = 8; min = 49; sec = 37; wday = 7 };
  civil = ((lit≤ tt, lit≤ tt), (lit≤ tt, lit≤ tt), (lit≤ tt, lit≤ tt));
  time = (lit< tt, lit< tt, lit< tt);
  right_day = refl;
}

pub replies_are_these : RepliesAreThese
unfolding sunday days_of_years days_of_months
replies_are_these = record {
  reply = λ h o r is. same_reply r (reply_of h o) is.status is.version is.method is.closes is.body is.failure;
  bad = λ r is. same_reply r bad_reply is.status is.version is.method is.closes is.body is.failure;
  without = λ status o is. same_outcome o (without_body status) is.0 is.1 is.2;
  unserved = λ why o is. same_outcome o (failed why) is.0 is.1 is.2;
  dated = λ text line. line.date sunday (lit< tt) refl;
}

pub http_get : HttpGet
unfolding digits print_request head_refusal field_refusal hosts_fit is_bad_length has_content method_refusal target_path head_closes closes elements eq_ignore_case
    trim_ows file_of percent_decode reply_text opening middle closing head_text
http_get = record { sent = refl; asks = (refl, refl, refl); file = λ site. refl; answered = (refl, refl) }

pub http_get_absolute : HttpGetAbsolute
unfolding print_request head_refusal field_refusal hosts_fit is_bad_length has_content method_refusal target_path head_closes closes elements eq_ignore_case trim_ows file_of percent_decode
http_get_absolute = record { sent = refl; asks = (refl, refl, refl); decoded = refl; file = λ site. refl; reply = λ o. refl }

pub http_head : HttpHead
unfolding print_request head_refusal field_refusal hosts_fit is_bad_length has_content method_refusal target_path head_closes closes elements eq_ignore_case trim_ows
    reply_text opening middle closing head_text
http_head = record { sent = refl; asks = (refl, refl, refl); method = refl; answered = (refl, refl) }

pub http_bad_head : HttpBadHead
unfolding print_request head_refusal field_refusal hosts_fit is_bad_length has_content method_refusal target_path head_closes closes elements eq_ignore_case trim_ows
    reply_text opening middle closing head_text
http_bad_head = record { sent = refl; asks = (refl, refl, refl); answered = (refl, refl) }

field : (f : Field) → IsField f → (n : ℕ) (g : Field) → IsField g → All IsField (f ∷ replicate n g)
field f first n g others = All-cons IsField f (replicate n g) first (All-replicate IsField n g others)

host_is_field : IsField host
unfolding is_token_byte
host_is_field = record { name = (lit< tt, AllPass-from_list_all is_token_byte (codes "Host") refl); raw = AllPass-from_list_all is_value_byte (codes " h") refl }

further_is_field : IsField (line (codes "A") (codes " b"))
unfolding is_token_byte
further_is_field = record { name = (lit< tt, AllPass-from_list_all is_token_byte (codes "A") refl); raw = AllPass-from_list_all is_value_byte (codes " b") refl }

many_is_head : (n : ℕ) → IsRequestHead (many n)
unfolding is_token_byte is_site_path
many_is_head n = record {
  method = (lit< tt, AllPass-from_list_all is_token_byte (codes "GET") refl);
  target = (lit< tt, AllPass-from_list_all is_uri_byte (codes "/a") refl);
  target_text = path-utf8 (codes "/a") refl;
  minor = lit≤ tt;
  fields = field host host_is_field n (line (codes "A") (codes " b")) further_is_field;
}

-- a head with too many fields is none within the limits
too_many : (limit room : ℕ) (h : RequestHead) → IsRequestHead h → room < length h.fields → IsHeadlessWithin limit room (print_request h)
too_many limit room h is over k rest begins =
    let same = (request_unique (print_request h) h k [] rest (is, sym (append-nil (print_request h))) begins.reads).0 in
    let fits : length h.fields ≤ room = subst (λ (x : RequestHead). length x.fields ≤ room) (sym same) begins.count in
    absurd (omega (arith, over, fits))

pub http_many_fields : HttpManyFields
unfolding print_request head_refusal field_refusal hosts_fit is_bad_length has_content method_refusal target_path head_closes closes elements eq_ignore_case trim_ows
    reply_text opening middle closing head_text
http_many_fields = record {
  within = record { size = lit≤ tt; count = lit≤ tt };
  asks = (refl, refl, refl);
  reply = λ o. refl;
  beyond = too_many head_limit fields_limit (many 64) (many_is_head 64) (lit< tt);
  answered = refl;
}

pub http_1_0 : Http10
unfolding digits print_request head_refusal field_refusal hosts_fit is_bad_length has_content method_refusal target_path head_closes closes elements eq_ignore_case
    trim_ows reply_text opening middle closing head_text
http_1_0 = record { sent = refl; asks = (refl, refl, refl); answered = (refl, refl) }

pub http_methods : HttpMethods
unfolding head_refusal field_refusal hosts_fit is_bad_length has_content method_refusal target_path head_closes closes elements eq_ignore_case trim_ows reply_text opening middle closing head_text
http_methods = record { post_asks = (refl, refl, refl); post_answered = (refl, refl); brew_asks = (refl, refl, refl); brew_answered = (refl, refl) }

pub http_missing : HttpMissing
unfolding head_refusal field_refusal hosts_fit is_bad_length has_content method_refusal target_path head_closes closes elements eq_ignore_case trim_ows file_of
    percent_decode reply_text opening middle closing head_text
http_missing = record { asks = (refl, refl, refl); file = λ site. refl; answered = (refl, refl) }

pub http_failing : HttpFailing
unfolding head_closes closes elements eq_ignore_case trim_ows reply_text opening middle closing head_text
http_failing = record { answered = λ why. (refl, refl) }

pub http_empty_file : HttpEmptyFile
unfolding digits head_closes closes elements eq_ignore_case trim_ows reply_text opening middle closing head_text
http_empty_file = record { answered = (refl, refl) }

pub http_large_file : HttpLargeFile
unfolding digits head_closes closes elements eq_ignore_case trim_ows reply_text opening middle closing head_text
http_large_file = record { size = refl; answered = λ bytes long. (rw long refl, refl) }

pub http_request_body : HttpRequestBody
unfolding head_refusal field_refusal hosts_fit is_bad_length has_content method_refusal target_path head_closes closes elements eq_ignore_case trim_ows reply_text opening middle closing head_text
http_request_body = record { asks = (refl, refl, refl); answered = (refl, refl); none_asks = (refl, refl, refl); none_reply = λ o. refl }

pub http_connection_option : HttpConnectionOption
unfolding digits head_refusal field_refusal hosts_fit is_bad_length has_content method_refusal target_path head_closes closes elements eq_ignore_case trim_ows reply_text
    opening middle closing head_text
http_connection_option = record { asks = (refl, refl, refl); answered = (refl, refl) }
