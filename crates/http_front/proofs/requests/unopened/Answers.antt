-- By the arm.
use Rattle.std.proofs.Common.{ap, sym}
use Rattle.http_front.specs.Requests.{unopened}
use Rattle.http_front.proofs.requests.unopened.Goals as goal

pub returns-in-NoFile : goal.returns-in-NoFile
returns-in-NoFile c = sym (ap unopened c.in-NoFile.is)
