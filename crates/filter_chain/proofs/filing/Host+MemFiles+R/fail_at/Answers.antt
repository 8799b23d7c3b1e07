-- By what is set to fail of the files alone.
use Rattle.std.proofs.Common.{refl}
use Rattle.bucket_kinds.specs.MemDevice.{files_of, failures_of}
use Rattle.filter_chain.specs.Hosting.{chain_of, budget_of}
use Rattle.filter_chain.proofs.HostFails.{hosts_failing}
use Rattle.filter_chain.proofs.filing.Host+MemFiles+R.fail_at.Goals as goal

pub returns-clause-fails : goal.returns-clause-fails
returns-clause-fails g c = record { files = c.fail_at.ensures.files; failures = c.fail_at.ensures.failures; plan = c.fail_at.ensures.plan; others = refl }

pub returns-clause-hosts : goal.returns-clause-hosts
returns-clause-hosts g c w hosts =
    let old = c.args.self.now.files in
    let new = c.fail_at.new.self in
    hosts_failing c.args.self.now new w c.args.call (files_of old) (files_of new) (failures_of old) (failures_of new) c.fail_at.ensures.files hosts

pub returns-clause-chain : goal.returns-clause-chain
unfolding chain_of
returns-clause-chain g c = refl

pub returns-clause-budget : goal.returns-clause-budget
unfolding budget_of
returns-clause-budget g c = refl
