use Rattle.std.proofs.Common.{◌≡◌, ◌≤◌, true, false, length, sym, ◌∙◌, arith}
use Rattle.std.specs.Prelude.{bytes_eq}
use Rattle.binary_json.specs.Views.{json}
use Rattle.binary_json_writing.specs.Changes.{entries_of}
use Rattle.binary_json_writing.proofs.EntryKeys.{index_begun, index_more, index_here, index_none}
use Rattle.binary_json_writing.proofs.changing.key_index.Goals as goal

pub entries-init : goal.entries-init
entries-init c = index_begun c.args.key.now (entries_of (json c.args.value.now))

pub entries-preserved : goal.entries-preserved
entries-preserved c =
    let other : bytes_eq c.key_at.result.now c.args.key.now ≡ false = sym c.is_same.ensures ∙ c.if-is_same.false in
    index_more c.args.key.now (entries_of (json c.args.value.now)) c.entries.index c.key_at.result.now c.entries.invariant c.key_at.ensures other

pub returns-then-is_same : goal.returns-then-is_same
returns-then-is_same c =
    let same : bytes_eq c.key_at.result.now c.args.key.now ≡ true = sym c.is_same.ensures ∙ c.if-is_same.true in
    sym (index_here c.args.key.now (entries_of (json c.args.value.now)) c.entries.index c.key_at.result.now c.entries.invariant c.key_at.ensures same)

pub returns : goal.returns
returns c =
    let past : length (entries_of (json c.args.value.now)) ≤ c.entries.index = omega arith in
    sym (index_none c.args.key.now (entries_of (json c.args.value.now)) c.entries.index c.entries.invariant past)
