use Rattle.std.proofs.Common.{inl}
use Rattle.binlog_statistics_command.proofs.WrittenRows.{if_ok, if_err}
use Rattle.binlog_statistics_command.proofs.statistics.stats.Goals as goal

pub returns-clause-ok : goal.returns-clause-ok
returns-clause-ok g c = if_ok _ _ c.grouped_stats.result (λ ended writes. (c.in_ok-options.options, c.in_ok-options.ensures.ok.0, c.in_ok-options.ensures.ok.1, (c.in_ok-period.period, c.in_ok-period.ensures.ok, writes))) c.grouped_stats.ensures.ok

pub returns-clause-err : goal.returns-clause-err
returns-clause-err g c = if_err _ _ c.grouped_stats.result (λ status never. inl never) c.grouped_stats.ensures.err
