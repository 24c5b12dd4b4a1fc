-- `store_job` meets its contract. Assumes nothing.
use Rattle.run_begin.proofs.StoringJob.{storing_job}
use Rattle.run_begin.proofs.store_job.Goals as goal

pub returns : goal.returns
returns c = search storing_job
