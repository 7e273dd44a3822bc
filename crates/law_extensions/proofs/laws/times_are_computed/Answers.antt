use Rattle.law_extensions.proofs.Days.{datetimes_are_split}
use Rattle.law_extensions.proofs.Durations.{durations_are_measured}
use Rattle.law_extensions.proofs.Moments.{datetimes_are_moved}
use Rattle.law_extensions.proofs.laws.times_are_computed.Goals as goal

pub returns : goal.returns
returns c = record { units = durations_are_measured; moved = datetimes_are_moved; split = datetimes_are_split }
