use Rattle.std.proofs.Common.{◌≡◌, true, false, inl, refl}
use Rattle.binlog_statistics_command.proofs.repeated_stats.period_of.Goals as goal

pub returns-in-Some-clause-err : goal.returns-in-Some-clause-err
returns-in-Some-clause-err c = λ w. (
  refl,
  rw w.in-Some.is (inl (λ follows.
      let is : false ≡ true = w.if-not-follows_file.ensures.1 follows in
      cc)),
)
