use Rattle.std.proofs.Common.{rules}
use Rattle.source.specs.Fetched.{fetch_fault}
use Rattle.source.proofs.Fetches.{whole_inside, whole_length}
use Rattle.source.proofs.metered.Metered.admit_chunk.Goals as goal

pub returns-in_err-admit_place : goal.returns-in_err-admit_place
unfolding fetch_fault
returns-in_err-admit_place g c = search rules

pub returns : goal.returns
unfolding fetch_fault
returns g c = rw (whole_inside, whole_length) (search rules)
