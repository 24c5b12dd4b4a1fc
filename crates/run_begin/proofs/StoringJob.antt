-- What `store_job` is proved with, apart from its law, so that a wrong law is refused by name. Assumes nothing.
use Rattle.std.proofs.Common.{rules}
use Rattle.run_begin.proofs.Beginning.{stores-job}

pub ruleset storing_job = (stores-job, rules)
