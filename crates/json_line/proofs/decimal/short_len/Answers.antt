use Rattle.std.proofs.Common.{arith, inl, inr}
use Rattle.std.proofs.lemmas.Bool.{cases_lt, le-leb, lt-leb}
use Rattle.itoa.proofs.Decimal.{length_one, length_two}
use Rattle.json_line.proofs.Digits.{three_digits, four_digits, five_digits}
use Rattle.json_line.proofs.decimal.short_len.Goals as goal

pub returns-then-number-lt100 : goal.returns-then-number-lt100
returns-then-number-lt100 c =
    let n = c.args.number in
    elim (cases_lt n 10) [
      | inl less ↦ rw (c.from.ensures, lt-leb 10 n less, length_one n less)
      | inr more ↦ rw (c.from.ensures, le-leb 10 n more, length_two n more c.if-number-lt100.true)
    ]

pub returns-else-number-lt100 : goal.returns-else-number-lt100
returns-else-number-lt100 c =
    let n = c.args.number in
    elim (cases_lt n 1000) [
      | inl less ↦ rw (c.from-else-number-lt100.ensures, c.from-else-number-lt100-2.ensures, lt-leb 1000 n less, lt-leb 10000 n (omega arith), three_digits n c.if-number-lt100.false less)
      | inr more ↦ elim (cases_lt n 10000) [
        | inl less ↦ rw (c.from-else-number-lt100.ensures, c.from-else-number-lt100-2.ensures, le-leb 1000 n more, lt-leb 10000 n less, four_digits n more less)
        | inr most ↦ rw (c.from-else-number-lt100.ensures, c.from-else-number-lt100-2.ensures, le-leb 1000 n more, le-leb 10000 n most, five_digits n most c.requires)
      ]
    ]
