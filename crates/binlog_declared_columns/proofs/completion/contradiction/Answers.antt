use Rattle.std.proofs.Common.{◌≡◌, ℕ, ◌≤◌, true, length, map, sym, ◌∙◌, arith}
use Rattle.std.proofs.lemmas.List.{length-map}
use Rattle.binlog_columns.specs.Columns.{typed_of}
use Rattle.column_files.specs.Tables.{described}
use Rattle.binlog_declared_columns.specs.Facts.{fits_at, all_facts}
use Rattle.binlog_declared_columns.proofs.FirstUnfit.{one_more, all_fit}
use Rattle.binlog_declared_columns.proofs.completion.contradiction.Goals as goal

pub loop-index-preserved : goal.loop-index-preserved
loop-index-preserved c =
    one_more (λ (i : ℕ). fits_at c.args.is_maria_log c.args.states_signs (map typed_of c.args.columns.now) (all_facts c.args.facts.now) (map described c.args.declared.now) i ≡ true) c.loop-index.index c.loop-index.invariant
    (sym c.fits_at.ensures ∙ c.if-not-fits_at.false)

pub returns : goal.returns
returns c =
    let columns : length (map typed_of c.args.columns.now) ≡ length c.args.columns.now = length-map c.args.columns.now typed_of in
    let declared : length (map described c.args.declared.now) ≡ length c.args.declared.now = length-map c.args.declared.now described in
    let below : length (map typed_of c.args.columns.now) ≤ c.loop-index.index = omega (arith, columns, c.max-count.ensures, c.loop-index-test.false) in
    let others : length (map described c.args.declared.now) ≤ c.loop-index.index = omega (arith, declared, c.max-count.ensures, c.loop-index-test.false) in
    all_fit c.args.is_maria_log c.args.states_signs (map typed_of c.args.columns.now) (all_facts c.args.facts.now) (map described c.args.declared.now) c.loop-index.index c.loop-index.invariant below others
