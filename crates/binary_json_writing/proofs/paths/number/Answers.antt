use Rattle.std.proofs.Common.{◌≡◌, ℕ, ◌<◌, true, arith, rules}
use Rattle.std.specs.Char.{is_ascii_digit, IsAsciiDigit}
use Rattle.std.specs.List.{prefix_len}
use Rattle.std.proofs.lemmas.List.{get_or-take}
use Rattle.std.proofs.lemmas.List.Sums.{prefix_len-le-length, prefix_len_passes}
use Rattle.binary_json_writing.proofs.paths.number.Goals as goal

in_range : (c : ℕ) → is_ascii_digit c ≡ true → IsAsciiDigit c
in_range c digit = search rules

pub split_at-requires : goal.split_at-requires
split_at-requires c = omega (arith, prefix_len-le-length is_ascii_digit c.args.bytes.now)

pub number_of-requires : goal.number_of-requires
number_of-requires c i before =
    let digit : i < prefix_len is_ascii_digit c.args.bytes.now = omega (arith, c.split_at.ensures.front_len) in
    let inside : i < c.digits_len-len.result = omega arith in
    rw (c.split_at.ensures.front, get_or-take c.digits_len-len.result c.args.bytes.now i 0 inside) (in_range _ (prefix_len_passes is_ascii_digit c.args.bytes.now i 0 digit))
