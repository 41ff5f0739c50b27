use denote.Param.Send.{sendable}
use Rattle.vub_jobs.proofs.Sending
use Rattle.vub_jobs.proofs.start.start_daemon_job.Goals as goal

pub start_job-requires-send-J : goal.start_job-requires-send-J
start_job-requires-send-J g c κs within = search (Sending.job_send, sendable) depth 20
