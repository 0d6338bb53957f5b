-- `naming::last_name` ends. Assumes nothing.
use Rattle.std.proofs.Common.{◌-◌, length}
use Rattle.oracle.proofs.naming.last_name.Given as goal

abbrev pub decreases-loop-p : goal.decreases-loop-p
decreases-loop-p l = length l.s - l.p.at
