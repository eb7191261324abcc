use Rattle.std.proofs.Common.{◌≡◌, true, false, sym, ◌∙◌, arith}
use Rattle.binary_json.specs.Views.{json}
use Rattle.binary_json_writing.specs.Keys.{is_before}
use Rattle.binary_json_writing.specs.Changes.{entries_of}
use Rattle.binary_json_writing.proofs.EntryKeys.{rank_more, rank_here, rank_none}
use Rattle.binary_json_writing.proofs.changing.key_rank.Goals as goal

pub entries-preserved : goal.entries-preserved
entries-preserved c =
    let before : is_before c.key_at.result.now c.args.key.now ≡ true = sym c.is_before.ensures ∙ c.if-not-is_before.false in
    rank_more c.args.key.now (entries_of (json c.args.value.now)) c.entries.index c.key_at.result.now c.entries.invariant c.key_at.ensures before

pub returns-then-not-is_before : goal.returns-then-not-is_before
returns-then-not-is_before c =
    let behind : is_before c.key_at.result.now c.args.key.now ≡ false = sym c.is_before.ensures ∙ c.if-not-is_before.true in
    sym (rank_here c.args.key.now (entries_of (json c.args.value.now)) c.entries.index c.key_at.result.now c.entries.invariant c.key_at.ensures behind)

pub returns : goal.returns
returns c =
    let last : c.entry_count-count.result ≡ c.entries.index = omega arith in
    sym (rank_none c.args.key.now (entries_of (json c.args.value.now)) c.entries.index c.entries.invariant (omega arith) ∙ sym last)
