use Rattle.http_front.proofs.FeedLaws.{few_wanted, wanted_all}
use Rattle.http_front.proofs.feeding.wanted.Goals as goal

pub returns-in-Get-clause-all : goal.returns-in-Get-clause-all
returns-in-Get-clause-all c = wanted_all c.args.method c.args.file c.saturating_sub.result c.in-Get.is c.saturating_sub.ensures

pub returns-in-Get-clause-few : goal.returns-in-Get-clause-few
returns-in-Get-clause-few c = few_wanted c.args.file.0 c.args.file.1 c.saturating_sub.result c.saturating_sub.type_inv
