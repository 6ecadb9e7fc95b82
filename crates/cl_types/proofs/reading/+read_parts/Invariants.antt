use Rattle.std.proofs.Common.{◌-◌}
use Rattle.cl_types.proofs.reading.+read_parts.Given as goal

abbrev pub decreases-read_parts : goal.decreases-read_parts
decreases-read_parts l = 8 - l.before.count
