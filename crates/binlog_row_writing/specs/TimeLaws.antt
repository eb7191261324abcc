-- Laws of the numbers of dates and times.
use Rattle.std.proofs.Common.{ℕ, zero, suc, ◌*◌, ◌^◌, ◌<◌, ◌≤◌, arith}
use Rattle.binlog_values.specs.Contents.{fraction_len}
use Rattle.binlog_row_writing.specs.Times.{with_fraction}

-- What is behind so many whole units is below one more.
pub distance_small : (digits n microseconds : ℕ) → digits ≤ 6 → n < 2 ^ 22 → microseconds < 1000000 → with_fraction digits n microseconds < 2 ^ 22 * 256 ^ fraction_len digits
distance_small zero n microseconds most less below = omega arith
distance_small (suc zero) n microseconds most less below = omega arith
distance_small (suc (suc zero)) n microseconds most less below = omega arith
distance_small (suc (suc (suc zero))) n microseconds most less below = omega arith
distance_small (suc (suc (suc (suc zero)))) n microseconds most less below = omega arith
distance_small (suc (suc (suc (suc (suc zero))))) n microseconds most less below = omega arith
distance_small (suc (suc (suc (suc (suc (suc zero)))))) n microseconds most less below = omega arith
distance_small (suc (suc (suc (suc (suc (suc (suc digits))))))) n microseconds most less below = absurd (omega arith)
