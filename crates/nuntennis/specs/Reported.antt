-- The table that a host asks a report of (01, Tables: reports). Assumes nothing.
use Rattle.std.specs.Prelude.{ℕ}
use Rattle.labels.specs.Labels.{label_count}
use Rattle.expression.specs.Checks.{Request}
use Rattle.tables.specs.Definitions.{Pair, pairs, triples}
use Rattle.decisions.specs.Decisions.{pairs_fault, plain_fault}
use Rattle.reporting.specs.Reporting.{Asked, asked_table}

-- the table of pairs after the command at the offset asked, or a refusal
abbrev pub pairs_asked : Request → ℕ → Asked Pair
pairs_asked a at = asked_table (pairs label_count) (pairs_fault a.pair_limit a.subset_limit) label_count a at

-- the plain table there, or a refusal
abbrev pub triples_asked : Request → ℕ → Asked ℕ
triples_asked a at = asked_table (triples label_count) (plain_fault a.pair_limit) label_count a at
