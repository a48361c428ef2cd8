use Rattle.std.proofs.Common.{rules}
use Rattle.source.specs.Fetched.{fetch_fault}
use Rattle.source.proofs.Fetches.{index_first}
use Rattle.source.proofs.metered.Metered.admit_indices.Goals as goal

pub returns-in_err-admit_place : goal.returns-in_err-admit_place
unfolding fetch_fault
returns-in_err-admit_place g c = search rules

pub returns-in-Some : goal.returns-in-Some
unfolding fetch_fault
returns-in-Some g c = rw (index_first) (search rules)

pub returns : goal.returns
unfolding fetch_fault
returns g c = rw (index_first) (search rules)
