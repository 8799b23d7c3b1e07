use Rattle.http_front.proofs.FeedRows.{call_rows, file_rows}
use Rattle.http_front.proofs.Rows.{http_1_0, http_bad_head, http_connection_option, http_empty_file, http_failing, http_get, http_get_absolute, http_head}
use Rattle.http_front.proofs.Rows.{http_large_file, http_many_fields, http_methods, http_missing, http_request_body, replies_are_these}
use Rattle.http_front.proofs.laws.worked_rows.Goals as goal

pub returns-clause-replies : goal.returns-clause-replies
returns-clause-replies c = replies_are_these

pub returns-clause-get : goal.returns-clause-get
returns-clause-get c = http_get

pub returns-clause-absolute : goal.returns-clause-absolute
returns-clause-absolute c = http_get_absolute

pub returns-clause-head : goal.returns-clause-head
returns-clause-head c = http_head

pub returns-clause-bad_head : goal.returns-clause-bad_head
returns-clause-bad_head c = http_bad_head

pub returns-clause-many_fields : goal.returns-clause-many_fields
returns-clause-many_fields c = http_many_fields

pub returns-clause-old_version : goal.returns-clause-old_version
returns-clause-old_version c = http_1_0

pub returns-clause-methods : goal.returns-clause-methods
returns-clause-methods c = http_methods

pub returns-clause-missing : goal.returns-clause-missing
returns-clause-missing c = http_missing

pub returns-clause-failing : goal.returns-clause-failing
returns-clause-failing c = http_failing

pub returns-clause-empty_file : goal.returns-clause-empty_file
returns-clause-empty_file c = http_empty_file

pub returns-clause-large_file : goal.returns-clause-large_file
returns-clause-large_file c = http_large_file

pub returns-clause-content : goal.returns-clause-content
returns-clause-content c = http_request_body

pub returns-clause-connection_option : goal.returns-clause-connection_option
returns-clause-connection_option c = http_connection_option

pub returns-clause-brigades : goal.returns-clause-brigades
returns-clause-brigades c = file_rows

pub returns-clause-calls : goal.returns-clause-calls
returns-clause-calls c = call_rows
