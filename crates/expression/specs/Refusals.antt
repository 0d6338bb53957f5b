-- The refusals' numbers, under the words of 01's table (Outcomes). Assumes nothing.
use Rattle.std.specs.Prelude.{ℕ}
use Rattle.expression.specs.declared.refusals.Reason.{Reason}
use Rattle.expression.specs.declared.refusals.Reason.TheVariants as reason

abbrev pub overlong : ℕ
overlong = 1

abbrev pub limits : ℕ
limits = 2

abbrev pub cramped : ℕ
cramped = 3

abbrev pub clash : ℕ
clash = 4

abbrev pub unknown : ℕ
unknown = 5

abbrev pub cut : ℕ
cut = 6

abbrev pub group : ℕ
group = 7

abbrev pub same : ℕ
same = 8

abbrev pub crowded : ℕ
crowded = 9

abbrev pub deep : ℕ
deep = 10

abbrev pub bare : ℕ
bare = 11

abbrev pub unjoined : ℕ
unjoined = 12

abbrev pub absent : ℕ
absent = 13

abbrev pub offset : ℕ
offset = 14

abbrev pub subsets_full : ℕ
subsets_full = 15

abbrev pub plans_full : ℕ
plans_full = 16

abbrev pub report_short : ℕ
report_short = 17

abbrev pub bad_record : ℕ
bad_record = 18

abbrev pub number_of : Reason → ℕ
number_of reason.Overlong = overlong
number_of reason.Limits = limits
number_of reason.Cramped = cramped
number_of reason.Clash = clash
number_of reason.Unknown = unknown
number_of reason.Cut = cut
number_of reason.Group = group
number_of reason.Same = same
number_of reason.Crowded = crowded
number_of reason.Deep = deep
number_of reason.Bare = bare
number_of reason.Unjoined = unjoined
number_of reason.Absent = absent
number_of reason.Offset = offset
number_of reason.SubsetsFull = subsets_full
number_of reason.PlansFull = plans_full
number_of reason.ReportShort = report_short
number_of reason.BadRecord = bad_record
