use Rattle.std.proofs.Common.{◌≡◌, ◌≤◌, length, arith, rules}
use Rattle.binlog_gtids.specs.GnoSets.{starting_up_to, ending_below}
use Rattle.binlog_gtids.proofs.GnoSets.{from_up_to, to_within}
use Rattle.binlog_gtids.proofs.gno_set.difference.touching.Goals as goal

pub slice_bounds-result-count : goal.slice_bounds-result-count
slice_bounds-result-count c =
    let from_is : c.count_ending_below-from.result ≡ ending_below c.args.interval.now.start c.args.intervals.now = cc in
    let to_is : c.count_starting_up_to-to.result ≡ starting_up_to c.args.interval.now.end c.args.intervals.now = cc in
    from_up_to c.args.intervals.now _ _ _ _ c.requires.apart c.requires.some from_is to_is

pub offset_bounds-intervals-from : goal.offset_bounds-intervals-from
offset_bounds-intervals-from c =
    let from_is : c.count_ending_below-from.result ≡ ending_below c.args.interval.now.start c.args.intervals.now = cc in
    let to_is : c.count_starting_up_to-to.result ≡ starting_up_to c.args.interval.now.end c.args.intervals.now = cc in
    let ordered = from_up_to c.args.intervals.now _ _ _ _ c.requires.apart c.requires.some from_is to_is in
    let within = to_within c.args.intervals.now _ _ _ _ c.requires.apart c.requires.some from_is to_is in
    let below : c.count_ending_below-from.result ≤ length c.args.intervals.now = omega (arith, ordered, within) in
    search rules

pub slice_bounds-result-start : goal.slice_bounds-result-start
slice_bounds-result-start c =
    let from_is : c.count_ending_below-from.result ≡ ending_below c.args.interval.now.start c.args.intervals.now = cc in
    let to_is : c.count_starting_up_to-to.result ≡ starting_up_to c.args.interval.now.end c.args.intervals.now = cc in
    let ordered = from_up_to c.args.intervals.now _ _ _ _ c.requires.apart c.requires.some from_is to_is in
    let within = to_within c.args.intervals.now _ _ _ _ c.requires.apart c.requires.some from_is to_is in
    let below : c.count_ending_below-from.result ≤ length c.args.intervals.now = omega (arith, ordered, within) in
    search rules

pub slice_bounds-result-end : goal.slice_bounds-result-end
slice_bounds-result-end c =
    let from_is : c.count_ending_below-from.result ≡ ending_below c.args.interval.now.start c.args.intervals.now = cc in
    let to_is : c.count_starting_up_to-to.result ≡ starting_up_to c.args.interval.now.end c.args.intervals.now = cc in
    let ordered = from_up_to c.args.intervals.now _ _ _ _ c.requires.apart c.requires.some from_is to_is in
    let within = to_within c.args.intervals.now _ _ _ _ c.requires.apart c.requires.some from_is to_is in
    let below : c.count_ending_below-from.result ≤ length c.args.intervals.now = omega (arith, ordered, within) in
    search rules
